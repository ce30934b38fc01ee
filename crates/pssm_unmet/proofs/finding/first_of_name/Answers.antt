use Rattle.std.proofs.Common.{◌≡◌, ◌∙◌, List, [], ap, sym, subst, length, map, slice_index_or}
use Rattle.std.specs.Prelude.{Option}
use Rattle.pssm_xml.specs.Documents.{Element}
use Rattle.pssm_roles.specs.References.{references}
use Rattle.pssm_roles.specs.declared.references.Reference.{Reference}
use Rattle.pssm_roles.specs.inner.Seen.{seen}
use Rattle.pssm_unmet.specs.declared.unmet.Unmet.{Unmet}
use Rattle.pssm_unmet.specs.inner.Found.{with_reference, earlier}
use Rattle.pssm_unmet.proofs.ReferenceLaws.{StandIn, stand_in, one_stands, fold_more}
use Rattle.pssm_unmet.proofs.finding.first_of_name.Goals as goal

pub unmet_at-requires : goal.unmet_at-requires
unmet_at-requires c =
    let doc = c.args.file.now.doc in let n = c.args.n in let name = c.args.followed.name.now in let items = c.deref-reference-items.result.now in
    let same : map seen items ≡ references doc n name =
    ap (map seen) c.deref-reference-items.ensures.value ∙ c.in_ok-references.ensures ∙ ap (λ (d : List Element). references d n name) c.elements.ensures in
    one_stands (length doc) items c.loop-reference.reference-index _ c.loop-reference-test.true
    (subst (StandIn (length doc)) (sym same) (stand_in doc n name c.requires))

pub loop-reference-preserved : goal.loop-reference-preserved
loop-reference-preserved c =
    let items = c.deref-reference-items.result.now in let k = c.loop-reference.reference-index in
    let blank : Reference = record { at = 0; id = record { ref_ptr = (0, 0); now = [] } } in
    let step = with_reference c.args.file.now c.args.followed.target c.args.n in
    c.earlier-first.ensures ∙ ap (earlier c.loop-reference.first) c.unmet_at.ensures
    ∙ ap (λ (o : Option Unmet). step o (seen (slice_index_or items k blank))) c.loop-reference.invariant
    ∙ sym (fold_more step seen c.args.so_far items k blank c.loop-reference-test.true)
