use Rattle.std.proofs.Common.{sym, subst, List}
use Rattle.pssm_xml.specs.Documents.{Element}
use Rattle.pssm_roles.specs.Ids.{meant_by}
use Rattle.pssm_roles.specs.inner.Numbers.{IsLess}
use Rattle.pssm_roles.proofs.IdLaws.{not_empty, repeats_where, means_earlier}
use Rattle.pssm_roles.proofs.ids.Ids.repeats.Goals as goal

pub returns-then-not-is_empty : goal.returns-then-not-is_empty
returns-then-not-is_empty c =
    let P : List Element → Type 0 = λ d. IsLess c.args.n (meant_by d c.in-Some.id.now) in
    let doc = c.args.elements.now in let id = c.in-Some.id.now in let own = c.in-Some.ensures in
    let some = not_empty id c.is_empty.result c.is_empty.ensures c.if-not-is_empty.true in (
      λ yes. repeats_where doc c.args.n id own some (subst P (sym c.requires.same) (c.is_before.ensures.0 yes)),
      λ r. c.is_before.ensures.1 (subst P c.requires.same (means_earlier doc c.args.n id own r)),
    )
