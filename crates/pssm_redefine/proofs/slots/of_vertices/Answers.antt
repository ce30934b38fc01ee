use Rattle.std.proofs.Common.{◌∙◌, ◌++◌, ◌∷◌, [], List, Option, Bor, ap}
use Rattle.pssm_model.specs.declared.draft_setting.Body.{Body}
use Rattle.pssm_redefine.specs.Merging.{vertex_slots}
use Rattle.pssm_redefine.proofs.SlotLaws.{three_more, three_slots}
use Rattle.pssm_redefine.proofs.slots.of_vertices.Goals as goal

pub loop-forms-preserved : goal.loop-forms-preserved
loop-forms-preserved c =
    three_more (vertex_slots c.args.draft.now) c.args.vertices.now c.loop-forms.forms-index c.forms-item.result c.loop-forms.slots.items
    c.push-in-loop-forms-2.new.self.items c.last_body.result c.last_body-in-loop-forms.result c.last_body-in-loop-forms-2.result
    c.loop-forms-test.true c.forms-item.is
    (c.in_ok-push-3.ensures.items
    ∙ ap (λ (xs : List (Option (Bor Body))). xs ++ c.last_body-in-loop-forms-2.result ∷ [])
    (c.in_ok-push-2.ensures.items ∙ ap (λ (xs : List (Option (Bor Body))). xs ++ c.last_body-in-loop-forms.result ∷ []) c.in_ok-push.ensures.items))
    (three_slots c.args.draft.now c.forms-item.result c.as_slice.result.now c.as_slice-in-loop-forms.result.now c.as_slice-in-loop-forms-2.result.now
    c.last_body.result c.last_body-in-loop-forms.result c.last_body-in-loop-forms-2.result c.as_slice.ensures c.as_slice-in-loop-forms.ensures
    c.as_slice-in-loop-forms-2.ensures c.last_body.ensures c.last_body-in-loop-forms.ensures c.last_body-in-loop-forms-2.ensures)
    c.loop-forms.invariant
