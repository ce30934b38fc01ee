-- New calls that wait for none, and exits that come before none.
use Rattle.std.proofs.Common.{◌≡◌, List, Bool, true, false, not, length, drop, get_or, ℕ, Contains, IsTrue, refl, sym, subst, ⊎_elim}
use Rattle.std.proofs.lemmas.Bool.{false≢true}
use Rattle.pssm_model.specs.declared.ids.VertexId.{VertexId}
use Rattle.pssm_model.specs.declared.elements.DraftMachine.{DraftMachine}
use Rattle.pssm_model.specs.declared.steps.Item.{Item}
use Rattle.pssm_model.specs.declared.steps.Item.TheVariants as items
use Rattle.pssm_model.specs.Forest.{LiesInState}
use Rattle.pssm_model.specs.Shapes.{HasShape}
use Rattle.pssm_model.specs.WellFormed.{KeepsModelRules}
use Rattle.pssm_plan.specs.declared.ways.Way.{Way}
use Rattle.pssm_plan.specs.declared.roster.Call.{Call}
use Rattle.pssm_plan.specs.declared.waiting.Since.{Since}
use Rattle.pssm_plan.specs.Ways.{AreWaysIn}
use Rattle.pssm_plan.specs.inner.Marks.{IsSettled}
use Rattle.pssm_plan.specs.inner.Sequence.{IsSequence, IsNestedPair, IsOrderedBySome, IsSomeLong, IsNewCall, IsNestedInNone, MayOrder}
use Rattle.pssm_plan.proofs.ApartCalls.{rest_is, rest_some}
use Rattle.pssm_plan.proofs.NearWays.{way_calls_second}
use Rattle.pssm_plan.proofs.OrderedKinds.{ordered_by_some}

pub unset_by : (b : Bool) → (IsTrue b → ⊥) → IsTrue (not b)
unset_by true h = absurd (h refl)
unset_by false h = refl

pub unset_not : (b : Bool) → IsTrue (not b) → IsTrue b → ⊥
unset_not true h t = absurd (false≢true h)
unset_not false h t = absurd (false≢true t)

pub unset_as : (b : Bool) → b ≡ false → IsTrue b → ⊥
unset_as b off on = let yes : b ≡ true = on in cc (yes, off)

-- the exit of a vertex that lies in no State comes before none by where States lie
pub exit_nests : (m : DraftMachine) (s : VertexId) → ((q : VertexId) → LiesInState m s q → ⊥) → (x : Item) → IsNestedPair m (items.Exit s) x → ⊥
exit_nests m s none (items.Exit q) h = none q h
exit_nests m s none (items.Effect t) h = h
exit_nests m s none (items.Enter q) h = h
exit_nests m s none (items.Opened r mode) h = h
exit_nests m s none (items.Pick c) h = h

not_before_exit : (x : Item) (s : VertexId) → MayOrder x (items.Exit s) → ⊥
not_before_exit (items.Exit q) s h = h
not_before_exit (items.Effect t) s h = h
not_before_exit (items.Enter q) s h = h
not_before_exit (items.Opened r mode) s h = h
not_before_exit (items.Pick c) s h = h

rest_ways : (m : DraftMachine) (ways : List Way) (n : ℕ) → AreWaysIn m ways → AreWaysIn m (drop n ways)
rest_ways m ways n are way h = are way (rest_some ways n way (subst (λ (l : List Way). Contains l way) (sym (rest_is ways n)) h))

-- the ways from a place on, none of which is long, order nothing before an exit
pub none_before_exit : {m : DraftMachine} → HasShape m → KeepsModelRules m → (ways : List Way) (n : ℕ) → AreWaysIn m ways
    → (IsSomeLong (drop n ways) → ⊥) → (x : Item) (s : VertexId) → IsOrderedBySome m (drop n ways) x (items.Exit s) → ⊥
none_before_exit {m} shape rules ways n are short x s h =
    ⊎_elim (λ may. not_before_exit x s may) (λ long. short long)
    (ordered_by_some shape rules (drop n ways) (rest_ways m ways n are) x (items.Exit s) h)

-- a new call before which none comes, neither by where States lie nor by a new way, waits for none
pub new_settled : (m : DraftMachine) (ways : List Way) (calls : List Call) (place : ℕ) (call : Call) (since : Since) → IsNewCall m ways calls call since
    → IsNestedInNone m call.item → ((x : Item) → IsOrderedBySome m (drop since.ways ways) x call.item → ⊥)
    → IsSettled (IsSequence m ways) calls place call (record { item = call.item; ran = call.ran; blocked = false; seen = length calls })
new_settled m ways calls place call since new nested none = record {
  item_is = refl;
  ran = refl;
  exact = record {
    passed = λ k d lt inside up. ⊎_elim
        (λ lies. nested (get_or calls k d).item lies)
        (λ by. none (get_or calls k d).item (by.0, new.by by.0 by.1 (way_calls_second m by.0 (get_or calls k d).item call.item by.2), by.2))
        up.0;
    waits = λ blocked. absurd (false≢true blocked);
    through = λ free. refl;
  };
}
