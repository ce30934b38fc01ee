-- A call that looks at the others, down from its own place and then up from it, for the nearest that holds it up.
use Rattle.std.proofs.Common.{◌≡◌, ◌+◌, ◌<◌, ◌≤◌, ℕ, List, true, false, length, get_or, arith, refl, subst, ap, inl, inr, ⊎_elim, ◌∙◌}
use Rattle.std.proofs.lemmas.Bool.{cases_lt, false≢true}
use Rattle.std.proofs.lemmas.List.{get_or_default}
use Rattle.pssm_model.specs.declared.steps.Item.{Item}
use Rattle.pssm_plan.specs.declared.roster.Call.{Call}
use Rattle.pssm_plan.specs.declared.waiting.Wait.{Wait}
use Rattle.pssm_plan.specs.Waiting.{HoldsUp}
use Rattle.pssm_plan.specs.inner.Marks.{IsSettled, AreRunBefore}
use Rattle.pssm_plan.specs.inner.Passes.{ArePassed, AreFreeFrom, AreMet, IsNextAhead}
use Rattle.pssm_plan.proofs.Growing.{lower_or_same}
use Rattle.pssm_plan.proofs.Settling.{set_or_not}

-- the call that waits so
abbrev pub waiting : Call → Wait → Call
waiting call wait = record { item = call.item; ran = call.ran; blocked = wait.blocked; seen = wait.seen }

-- the call, blocked by the one at this place
abbrev pub blocked_call : Call → ℕ → Call
blocked_call call place = record { item = call.item; ran = call.ran; blocked = true; seen = place }

module _ (Comes : Item → Item → Type 0) (calls : List Call) (item : Item) where
  pub free_none : (n : ℕ) → AreFreeFrom Comes calls item n n
  free_none n k d from end = absurd (omega (arith, from, end))

  -- what holds it up does so whatever stands for a call past the end
  pub held_there : (place : ℕ) (d : Call) → place < length calls → HoldsUp Comes (get_or calls place d) item → (e : Call)
      → HoldsUp Comes (get_or calls place e) item
  held_there place d lt h e = subst (λ (c : Call). HoldsUp Comes c item) (get_or_default calls place d e lt) h

  here : (place k : ℕ) (d e : Call) → place < length calls → k ≡ place → (HoldsUp Comes (get_or calls place d) item → ⊥)
      → HoldsUp Comes (get_or calls k e) item → ⊥
  here place k d e lt same not h =
      let at : get_or calls k e ≡ get_or calls place d = ap (λ (n : ℕ). get_or calls n e) same ∙ get_or_default calls place e d lt in
      not (subst (λ (c : Call). HoldsUp Comes c item) at h)

  -- one more call behind those before a place does not hold it up
  pub free_more : (from place : ℕ) (d : Call) → place < length calls → (HoldsUp Comes (get_or calls place d) item → ⊥)
      → AreFreeFrom Comes calls item from place → AreFreeFrom Comes calls item from (place + 1)
  free_more from place d lt not free k e low high inside h =
      ⊎_elim
      (λ less. free k e low less inside h)
      (λ same. here place k d e lt same not h)
      (lower_or_same k place high)

  -- one more call before those from a place on does not hold it up
  pub free_less : (place end : ℕ) (d : Call) → place < length calls → (HoldsUp Comes (get_or calls place d) item → ⊥)
      → AreFreeFrom Comes calls item (place + 1) end → AreFreeFrom Comes calls item place end
  free_less place end d lt not free k e low high inside h =
      ⊎_elim
      (λ more. free k e (omega (arith, more)) high inside h)
      (λ le. here place k d e lt (omega (arith, le, low)) not h)
      (cases_lt place k)

  -- the first from a place on that holds it up
  pub next_here : (from k : ℕ) (d : Call) → from ≤ k → k < length calls → HoldsUp Comes (get_or calls k d) item → AreFreeFrom Comes calls item from k
      → IsNextAhead Comes calls item from (record { blocked = true; seen = k })
  next_here from k d le lt held free = record {
    behind = λ blocked. le;
    passed = free;
    waits = λ blocked. (lt, held_there k d lt held);
    through = λ not. absurd (not refl);
  }

  pub next_none : (from end : ℕ) → length calls ≤ end → AreFreeFrom Comes calls item from end
      → IsNextAhead Comes calls item from (record { blocked = false; seen = length calls })
  next_none from end all free = record {
    behind = λ blocked. absurd (false≢true blocked);
    passed = λ k d low high inside up. free k d low (omega (arith, all, inside)) inside up;
    waits = λ blocked. absurd (false≢true blocked);
    through = λ not. refl;
  }

module _ (Comes : Item → Item → Type 0) (calls : List Call) (call : Call) (place : ℕ) where
  -- none of the calls before a place behind its own holds it up, and it waits as it sees from there on
  pub settled_ahead : (from : ℕ) (wait : Wait) → place < from → place < length calls → ArePassed Comes calls call.item from
      → IsNextAhead Comes calls call.item from wait → IsSettled Comes calls place call (waiting call wait)
  settled_ahead from wait behind there before h = record {
    item_is = refl;
    ran = refl;
    exact = record {
      passed = λ k d met inside up. ⊎_elim
          (λ back. absurd (let far = beyond in omega (arith, far, back.0, back.1)))
          (λ on. ⊎_elim (λ low. before k d low inside up) (λ high. h.passed k d high on.1 inside up) (cases_lt k from))
          met;
      waits = h.waits;
      through = h.through;
    };
  }
    where
      beyond : place < wait.seen
      beyond =
          ⊎_elim
          (λ blocked. let at = h.behind blocked in omega (arith, at, behind))
          (λ free. let all = h.through free in omega (arith, all, there))
          (set_or_not wait.blocked)

  -- the nearest of those down from its own place holds it up
  pub settled_nearest : (k : ℕ) → k < place + 1 → k < length calls → ((d : Call) → HoldsUp Comes (get_or calls k d) call.item)
      → AreFreeFrom Comes calls call.item (k + 1) (place + 1) → IsSettled Comes calls place call (blocked_call call k)
  settled_nearest k at inside held free = record {
    item_is = refl;
    ran = refl;
    exact = record {
      passed = λ j e before there up. ⊎_elim
          (λ down. free j e (let low = down.0 in omega (arith, low)) (let high = down.1 in omega (arith, high)) there up)
          (λ on. absurd (omega (arith, on.0, at)))
          before;
      waits = λ blocked. (inside, held);
      through = λ not. absurd (not refl);
    };
  }

  -- the nearest of those down from the place that it names holds it up
  pub settled_behind : (k : ℕ) → k < call.seen + 1 → call.seen ≤ place → k < length calls → ((d : Call) → HoldsUp Comes (get_or calls k d) call.item)
      → AreFreeFrom Comes calls call.item (k + 1) (call.seen + 1) → AreMet Comes calls call.item place call.seen
      → IsSettled Comes calls place call (blocked_call call k)
  settled_behind k at back inside held free met = record {
    item_is = refl;
    ran = refl;
    exact = record {
      passed = λ j e before there up. ⊎_elim
          (λ down. ⊎_elim
          (λ far. met j e (inl (far, down.1)) there up)
          (λ near. free j e (let low = down.0 in omega (arith, low)) (omega (arith, near)) there up)
          (cases_lt call.seen j))
          (λ on. absurd (omega (arith, on.0, at, back)))
          before;
      waits = λ blocked. (inside, held);
      through = λ free. absurd (free refl);
    };
  }

  -- none of those down from the place that it names holds it up: none up to its own place does
  pub passed_back : (done : ℕ) → AreRunBefore calls done → AreFreeFrom Comes calls call.item done (call.seen + 1)
      → AreMet Comes calls call.item place call.seen → ArePassed Comes calls call.item (place + 1)
  passed_back done run free met k d lt inside up =
      ⊎_elim
      (λ far. met k d (inl (far, omega (arith, lt))) inside up)
      (λ near. ⊎_elim
      (λ ran. up.1 (run k d ran inside))
      (λ left. free k d left (omega (arith, near)) inside up)
      (cases_lt k done))
      (cases_lt call.seen k)

  -- one that looks ahead already: none before the place that it names holds it up
  pub passed_on : place < call.seen → AreMet Comes calls call.item place call.seen → ArePassed Comes calls call.item call.seen
  passed_on ahead met k d lt inside up = met k d (inr (ahead, lt)) inside up
