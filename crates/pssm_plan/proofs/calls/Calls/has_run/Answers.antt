use Rattle.std.proofs.Common.{◌↔◌, ◌∙◌, List, IsTrue, false, get_or, ap, sym, subst}
use Rattle.std.proofs.lemmas.List.Elements.{Contains-get_or}
use Rattle.pssm_model.specs.declared.steps.Item.{Item}
use Rattle.pssm_model.specs.declared.steps.Item.TheVariants.{Exit}
use Rattle.pssm_plan.specs.declared.roster.Call.{Call}
use Rattle.pssm_plan.specs.inner.Marks.{IsMarked}
use Rattle.pssm_plan.specs.inner.Places.{CallList}
use Rattle.pssm_plan.proofs.PlacedCalls.{marked_there}
use Rattle.pssm_plan.proofs.calls.Calls.has_run.Goals as goal

pub returns-in-Some : goal.returns-in-Some
returns-in-Some c =
    let d : Call = record { item = Exit (record { 0 = 0 }); ran = false; blocked = false; seen = 0 } in
    let now = c.args.self.now.items in
    let k = c.in-Some.k in
    let same = ap (λ (l : CallList). l.items) c.self.view_is in
    subst (λ (l : List Call). IsTrue (get_or l k d).ran ↔ IsMarked now c.args.item) (sym (c.as_slice.ensures.value ∙ same))
    (subst (λ (x : Item). IsTrue (get_or now k d).ran ↔ IsMarked now x) (c.in-Some.ensures.1 d)
    (marked_there now c.self.inside.rows.items (get_or now k d) (rw (← same) c.self.invariant) (Contains-get_or now k d c.in-Some.ensures.0)))
