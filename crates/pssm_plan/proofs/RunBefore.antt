-- Calls before a place that have all run, as calls are told, settled and added.
use Rattle.std.proofs.Common.{◌≡◌, ◌<◌, ◌+◌, ℕ, List, Bool, length, get_or, IsTrue, arith, sym, ap, subst, inl, ⊎_elim, ◌∙◌}
use Rattle.std.proofs.lemmas.List.{get_or_default, get_or_append_left, length-append}
use Rattle.pssm_model.specs.declared.steps.Item.{Item}
use Rattle.pssm_plan.specs.declared.roster.Call.{Call}
use Rattle.pssm_plan.specs.inner.Marks.{IsLonger, IsTold, IsNoted, IsAlike, AreRunBefore, AreRunUpTo, ArePairwise}
use Rattle.pssm_plan.proofs.Growing.{lower_or_same}

pub run_none : (calls : List Call) → AreRunBefore calls 0
run_none calls k d lt inside = absurd (omega (arith, lt))

-- one call more has run
pub run_more : (calls : List Call) (n : ℕ) (d : Call) → n < length calls → IsTrue (get_or calls n d).ran → AreRunBefore calls n → AreRunBefore calls (n + 1)
run_more calls n d there ran h k e lt inside =
    ⊎_elim
    (λ less. h k e less inside)
    (λ same.
    (let at : get_or calls n d ≡ get_or calls k e = get_or_default calls n d e there ∙ ap (λ (j : ℕ). get_or calls j e) (sym same) in
    subst (λ (c : Call). IsTrue c.ran) at ran))
    (lower_or_same k n lt)

-- where those run that ran
run_along : (old now : List Call) (n : ℕ) → length now ≡ length old
    → ((k : ℕ) (d : Call) → k < length old → IsTrue (get_or old k d).ran → IsTrue (get_or now k d).ran) → AreRunBefore old n → AreRunBefore now n
run_along old now n long on h k d lt inside =
    let low : k < length old = omega (arith, long, inside) in
    on k d low (h k d lt low)

pub run_told : (item : Item) (old now : List Call) (n : ℕ) → ArePairwise (IsTold item) old now → AreRunBefore old n → AreRunBefore now n
run_told item old now n told = run_along old now n told.0 (λ k d lt ran. (told.1 k d lt).ran.1 (inl ran))

pub run_noted : (item : Item) (old now : List Call) (n : ℕ) → ArePairwise (IsNoted item) old now → AreRunBefore old n → AreRunBefore now n
run_noted item old now n noted = run_along old now n noted.0 (λ k d lt ran. (noted.1 k d lt).ran.1 (inl ran))

pub run_alike : (old now : List Call) (n : ℕ) → ArePairwise IsAlike old now → AreRunBefore old n → AreRunBefore now n
run_alike old now n alike =
    run_along old now n alike.0 (λ k d lt ran. subst (λ (v : Bool). IsTrue v) (sym (alike.1 k d lt).ran) ran)

-- where calls are added
pub run_longer : (old grown : List Call) (n : ℕ) → IsLonger old grown → AreRunUpTo old n → AreRunUpTo grown n
run_longer old grown n longer h = (
  (let e = ap (λ (l : List Call). length l) longer.1 in let le = h.0 in omega (arith, e, le, length-append old longer.0)),
  λ k d lt inside.
      (let low : k < length old = (let le = h.0 in omega (arith, le, lt)) in
      let same : get_or grown k d ≡ get_or old k d = ap (λ (l : List Call). get_or l k d) longer.1 ∙ get_or_append_left old longer.0 d k low in
      subst (λ (c : Call). IsTrue c.ran) (sym same) (h.1 k d lt low)),
)

-- once an item is noted as run, and the calls are settled
pub run_finished : (item : Item) (old now new : List Call) (n : ℕ) → ArePairwise (IsNoted item) old now → ArePairwise IsAlike now new → AreRunUpTo old n
    → AreRunUpTo new n
run_finished item old now new n noted alike h = (
  (let first = noted.0 in let second = alike.0 in let le = h.0 in omega (arith, first, second, le)),
  run_alike now new n alike (run_noted item old now n noted h.1),
)
