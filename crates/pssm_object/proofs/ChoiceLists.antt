-- Where no ready item in the list of a plan is an opening or a pick none of the plan is ready; and what is chosen in a step is chosen.
use Rattle.std.proofs.Common.{◌≡◌, ◌≤◌, ◌<◌, ℕ, length, false, Option, Some, sym, subst, ◌∙◌, inr, ⊎_elim, arith}
use Rattle.std.proofs.lemmas.Bool.{cases_lt, false≢true}
use Rattle.std.proofs.lemmas.Option.{slice_get_within}
use Rattle.pssm_model.specs.declared.elements.DraftMachine.{DraftMachine}
use Rattle.pssm_plan.specs.Agenda.{Agenda}
use Rattle.pssm_plan.specs.Plans.{IsPlanOf}
use Rattle.pssm_plan.specs.Standings.{ready_calls}
use Rattle.pssm_plan.proofs.ReadyCalls.{lists_ready}
use Rattle.pssm_enabled.proofs.ListPlaces.{contains_at}
use Rattle.pssm_semantics.specs.declared.entry.Entry.{Entry}
use Rattle.pssm_semantics.specs.declared.setting.Class.{Class}
use Rattle.pssm_pool.specs.declared.pools.Waiting.{Waiting}
use Rattle.pssm_object.specs.Standing.{Standing}
use Rattle.pssm_object.specs.inner.Choosing.{HasWays, HasNoChoice, LacksChoices, ChoosesInStep, ChoosesLiving, Chooses}

-- none from a place on, and none before it
pub no_choice : (m : DraftMachine) (p : Agenda) → IsPlanOf m p → (place count : ℕ) → count ≡ length (ready_calls p)
    → LacksChoices (ready_calls p) place count → LacksChoices (ready_calls p) 0 place → HasNoChoice m p
no_choice m p plan place count all late early item (ways, ready) =
    let listed = ((lists_ready m p plan).ready item).1 ready in
    let at = contains_at (ready_calls p) listed.0 listed.1 in
    let within = slice_get_within (ready_calls p) at.0 listed.0 at.1 in
    let here : HasWays listed.0.item = subst HasWays (sym listed.2) ways in
    ⊎_elim
    (λ (before : at.0 < place). early at.0 listed.0 (omega arith) before at.1 here)
    (λ (past : place ≤ at.0). late at.0 listed.0 past (omega (arith, within, all)) at.1 here)
    (cases_lt at.0 place)

-- what is chosen in the step of an object that has not ended
pub chooses_on : (class : Class) (x : Standing) (signal : Option Waiting) (p : Agenda) → x.plan ≡ Some p → x.ended ≡ false → (chosen : Option Entry)
    → ChoosesInStep class x signal p chosen → Chooses class x signal x.plan chosen
chooses_on class x signal p is living chosen h =
    inr ((λ yes. false≢true (sym living ∙ yes)), subst (λ plan. ChoosesLiving class x signal plan chosen) (sym is) h)
