use Rattle.std.proofs.Common.{◌∙◌, ◌++◌, ◌∷◌, [], List, Option, Bor, ap}
use Rattle.std.specs.List.{flat_map}
use Rattle.pssm_model.specs.declared.draft_setting.Body.{Body}
use Rattle.pssm_redefine.specs.Merging.{vertex_slots, transition_slots}
use Rattle.pssm_redefine.proofs.SlotLaws.{two_more, two_slots}
use Rattle.pssm_redefine.proofs.slots.all_slots.Goals as goal

pub loop-forms-preserved : goal.loop-forms-preserved
loop-forms-preserved c =
    two_more (transition_slots c.args.draft.now) c.args.transitions.now c.loop-forms.forms-index c.forms-item.result
    (flat_map (vertex_slots c.args.draft.now) c.args.vertices.now) c.loop-forms.slots.items c.push-in-loop-forms.new.self.items
    c.last_guard_text.result c.last_body.result c.loop-forms-test.true c.forms-item.is
    (c.in_ok-push-2.ensures.items ∙ ap (λ (xs : List (Option (Bor Body))). xs ++ c.last_body.result ∷ []) c.in_ok-push.ensures.items)
    (two_slots c.args.draft.now c.forms-item.result c.as_slice.result.now c.as_slice-in-loop-forms.result.now c.last_guard_text.result c.last_body.result
    c.as_slice.ensures c.as_slice-in-loop-forms.ensures c.last_guard_text.ensures c.last_body.ensures)
    c.loop-forms.invariant
