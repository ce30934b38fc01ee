use Rattle.std.proofs.Common.{◌≡◌, ◌+◌, ◌-◌, ◌<◌, length, arith, sym, ap, ◌∙◌, List}
use Rattle.pssm_xml.specs.Documents.{Element}
use Rattle.pssm_roles.specs.Ids.{meant_by}
use Rattle.pssm_roles.proofs.IdLaws.{numbers_more, numbers_end}
use Rattle.pssm_roles.proofs.ids.Ids.of.Goals as goal

pub down-preserved : goal.down-preserved
down-preserved c =
    let n = c.down.n - 1 in
    let follows : c.down.n ≡ n + 1 = omega (arith, c.down-test.true) in
    let within : n < length c.args.elements.now = omega (arith, c.down-test.true, c.down.invariant.within) in
    record {
      within = omega (arith, within);
      held = λ id. numbers_more c.args.elements.now n c.down.n id _ _ follows within (c.down.invariant.held id) (c.in_ok-more.ensures id);
    }

pub invariant_of-result : goal.invariant_of-result
invariant_of-result c = λ id.
    numbers_end c.args.elements.now c.down.n id _ (omega (arith, c.down-test.false)) (c.down.invariant.held id) ∙ ap (λ (doc : List Element). meant_by doc id) (sym c.of.ensures)
