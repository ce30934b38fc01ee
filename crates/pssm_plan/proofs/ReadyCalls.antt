-- The calls of ready items.
use Rattle.std.proofs.Common.{◌≡◌, ◌≢◌, ◌<◌, ◌+◌, ◌++◌, ℕ, List, [], ◌∷◌, ◌≤◌, length, get_or, take, drop, Contains, IsTrue, IfSome, Option, Some, None, Bool, true, false, cond, refl, sym, ap, subst, ⊎_elim, arith, ◌∙◌, append_assoc}
use Rattle.std.specs.Prelude.{not, ◌&&◌}
use Rattle.std.specs.List.{filter}
use Rattle.std.proofs.lemmas.List.{take-append-drop, get_or_default, length-append}
use Rattle.std.proofs.lemmas.List.Filters.{length-filter_more}
use Rattle.std.proofs.Math.Seq.{get_or-append_seam}
use Rattle.std.proofs.lemmas.List.Elements.{filter-append, filter_more, filter_passes, All-filter, All-contains, All-contains_itself, Contains-append_right}
use Rattle.std.proofs.lemmas.List.Kept.{AllPairs-filter}
use Rattle.pssm_model.specs.declared.elements.DraftMachine.{DraftMachine}
use Rattle.pssm_model.specs.declared.steps.Item.{Item}
use Rattle.pssm_model.specs.Items.{Before}
use Rattle.pssm_model.specs.Order.{IsReady}
use Rattle.pssm_plan.proofs.KnownRuns.{run_known}
use Rattle.pssm_plan.specs.declared.roster.Call.{Call}
use Rattle.pssm_plan.specs.Agenda.{Agenda, course_of}
use Rattle.pssm_plan.specs.Plans.{IsOfCall, IsPlanOf}
use Rattle.pssm_plan.specs.declared.ready.ReadyItem.{ReadyItem}
use Rattle.pssm_plan.specs.Standings.{stands_ready, ready_calls, ready_before, IsItemAt, IsNextReady, ListsReady}
use Rattle.pssm_plan.proofs.StandingItems.{one_call}

-- the calls around one that stands as ready
ready_split : (calls : List Call) (k : ℕ) (d : Call) → k < length calls → stands_ready (get_or calls k d) ≡ true
    → filter stands_ready calls ≡ filter stands_ready (take k calls) ++ get_or calls k d ∷ filter stands_ready (drop (k + 1) calls)
ready_split calls k d lt ready =
    let x = get_or calls k d in
    let halves = ap (λ (l : List Call). filter stands_ready l) (sym (take-append-drop (k + 1) calls)) in
    let apart = filter-append stands_ready (take (k + 1) calls) (drop (k + 1) calls) in
    let one = filter_more stands_ready calls k d lt ∙ ap (λ (b : Bool). filter stands_ready (take k calls) ++ cond b (x ∷ []) []) ready in
    halves ∙ apart ∙ ap (λ (l : List Call). l ++ filter stands_ready (drop (k + 1) calls)) one
    ∙ append_assoc (filter stands_ready (take k calls)) (x ∷ []) (filter stands_ready (drop (k + 1) calls))

pub item_there : (calls : List Call) (k i : ℕ) (d : Call) → k < length calls → stands_ready (get_or calls k d) ≡ true
    → i ≡ length (filter stands_ready (take k calls)) → IsItemAt (filter stands_ready calls) i (get_or calls k d).item
item_there calls k i d lt ready e other =
    ap (λ (c : Call). c.item)
    (ap (λ (n : ℕ). get_or (filter stands_ready calls) n other) e
    ∙ ap (λ (l : List Call). get_or l (length (filter stands_ready (take k calls))) other) (ready_split calls k d lt ready)
    ∙ get_or-append_seam (filter stands_ready (take k calls)) (get_or calls k d) (filter stands_ready (drop (k + 1) calls)) other)

-- the first ready item from a place on: none stands before it
module _ (calls : List Call) (place k : ℕ) (lt : k < length calls) (before : ready_before calls k ≡ ready_before calls place) where
  pub next_there : (d : Call) → stands_ready (get_or calls k d) ≡ true → place ≤ k → IsNextReady calls place (record { item = (get_or calls k d).item; behind = k + 1 })
  next_there d ready from =
      let here = ready_split calls k d lt ready in
      let long = ap (λ (l : List Call). length l) here
      ∙ length-append (filter stands_ready (take k calls)) (get_or calls k d ∷ filter stands_ready (drop (k + 1) calls)) in
      let more = length-filter_more stands_ready calls k d lt ∙ ap (λ (b : Bool). length (filter stands_ready (take k calls)) + cond b 1 0) ready in
      record {
        item = item_there calls k (ready_before calls place) d lt ready (sym before);
        within = omega (arith, long, before);
        counted = omega (arith, more, before);
        further = omega (arith, from);
        listed = omega (arith, lt);
      }

  pub none_there : (d : Call) → stands_ready (get_or calls k d) ≡ false → ready_before calls (k + 1) ≡ ready_before calls place
  none_there d not_ready =
      let more = length-filter_more stands_ready calls k d lt ∙ ap (λ (b : Bool). length (filter stands_ready (take k calls)) + cond b 1 0) not_ready in
      omega (arith, more, before)

pub one_above : (b : Bool) (n : ℕ) → n < cond b 1 0 → (b ≡ true) × (n ≡ 0)
one_above true n lt = (refl, omega arith)
one_above false n lt = absurd (omega arith)

kept : (calls : List Call) (call : Call) → Contains calls call → stands_ready call ≡ true → Contains (filter stands_ready calls) call
kept calls call inside ready =
    let at = sym (ap stands_ready (inside.2)) in
    let split = ready_split calls inside.0 call inside.1 (ap stands_ready inside.2 ∙ ready) in
    subst (λ (l : List Call). Contains l call) (sym split)
    (subst (λ (x : Call). Contains (filter stands_ready (take inside.0 calls) ++ x ∷ filter stands_ready (drop (inside.0 + 1) calls)) call) (sym inside.2)
    (Contains-append_right (filter stands_ready (take inside.0 calls)) (call ∷ filter stands_ready (drop (inside.0 + 1) calls)) call (0, omega arith, refl)))

was_there : (calls : List Call) (call : Call) → Contains (filter stands_ready calls) call → Contains calls call × (stands_ready call ≡ true)
was_there calls call h = (
  All-contains (Contains calls) (filter stands_ready calls) call (All-filter stands_ready (Contains calls) calls (All-contains_itself calls)) h,
  All-contains (λ (c : Call). stands_ready c ≡ true) (filter stands_ready calls) call (filter_passes stands_ready calls) h,
)

both_false : (a b : Bool) → (not a && not b) ≡ true → (a ≡ false) × (b ≡ false)
both_false false false e = (refl, refl)
both_false false true e = absurd (cc)
both_false true b e = absurd (cc)

ready_both : (a b : Bool) → (IsTrue a → ⊥) → (IsTrue b → ⊥) → (not a && not b) ≡ true
ready_both false false f g = refl
ready_both false true f g = absurd (g refl)
ready_both true b f g = absurd (f refl)

module _ (m : DraftMachine) (plan : Agenda) (h : IsPlanOf m plan) where
  call_is_ready : (item : Item) (call : Call) → Contains plan.calls call → call.item ≡ item → stands_ready call ≡ true → IsReady m (course_of plan) item
  call_is_ready item call inside same ready =
      let flags = both_false call.ran call.blocked ready in
      let called = (h.called item).0 (call, inside, same) in
      record {
        waiting = record {
          called = called;
          not_run = λ ran. (let marked = (h.ran item).1 ran in
              let one = one_call plan.calls h.once marked.0 call marked.1 inside (marked.2 ∙ sym same) in
              let told : IsTrue call.ran = subst (λ (c : Call). IsTrue c.ran) one marked.3 in
              let no = flags.0 in cc);
        };
        cleared = λ x is before. ⊎_elim
            (λ ran. ran)
            (λ waits. (let here = subst (λ (i : Item). Before m (course_of plan) x i) (sym same) before in
            let blocked : IsTrue call.blocked = (h.blocked call inside).1 (x, is, here, waits) in
            let no = flags.1 in absurd (cc)))
            (run_known (course_of plan) x);
      }

  ready_is_call : (item : Item) → IsReady m (course_of plan) item → IsOfCall (ready_calls plan) item
  ready_is_call item ready =
      let listed = (h.called item).1 ready.waiting.called in
      let call = listed.0 in
      let stands = ready_both call.ran call.blocked
      (λ ran. ready.waiting.not_run ((h.ran item).0 (call, listed.1, listed.2, ran)))
      (λ blocked. (let on = (h.blocked call listed.1).0 blocked in
      let before = subst (λ (i : Item). Before m (course_of plan) on.0 i) listed.2 on.2 in
      on.3 (ready.cleared on.0 on.1 before))) in
      (call, kept plan.calls call listed.1 stands, listed.2)

  pub lists_ready : ListsReady m (course_of plan) (ready_calls plan)
  lists_ready = record {
    ready = λ item. (
      λ l. (let was = was_there plan.calls l.0 l.1 in call_is_ready item l.0 was.0 l.2 was.1),
      ready_is_call item,
    );
    once = AllPairs-filter (λ (a b : Call). a.item ≢ b.item) stands_ready plan.calls h.once;
  }

  pub item_is_ready : (i : ℕ) (item : Item) → i < length (ready_calls plan) → IsItemAt (ready_calls plan) i item → IsReady m (course_of plan) item
  item_is_ready i item lt at =
      (lists_ready.ready item).0 (has_item (ready_calls plan) i item lt at)
    where
      first : (calls : List Call) (n : ℕ) → n < length calls → Call
      first [] n lt = absurd (omega arith)
      first (c ∷ calls) n lt = c

      has_item : (calls : List Call) (n : ℕ) (x : Item) → n < length calls → IsItemAt calls n x → IsOfCall calls x
      has_item calls n x lt at =
          let d = first calls n lt in
          let call = get_or calls n d in
          (call, (n, lt, get_or_default calls n call d lt), at d)

  pub next_is_ready : (place : ℕ) (next : ReadyItem) → IsNextReady plan.calls place next → IsReady m (course_of plan) next.item
  next_is_ready place next is = item_is_ready (ready_before plan.calls place) next.item is.within is.item

  pub found_is_ready : (place : ℕ) (found : Option ReadyItem) → IfSome found (IsNextReady plan.calls place)
      → IfSome found (λ (next : ReadyItem). IsReady m (course_of plan) next.item)
  found_is_ready place None is = tt
  found_is_ready place (Some next) is = next_is_ready place next is
