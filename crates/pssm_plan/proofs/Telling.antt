-- One call of a list that is told that it has run.
use Rattle.std.proofs.Common.{◌≡◌, ◌≢◌, ◌<◌, ◌≤◌, ◌+◌, ℕ, List, length, get_or, set, AllPairs, true, arith, refl, sym, ap, subst, inl, inr, ⊎_elim, ◌∙◌}
use Rattle.std.proofs.lemmas.Bool.{cases_lt}
use Rattle.std.proofs.lemmas.List.{get_or-set_same, get_or-set_other, length-set, get_or_default}
use Rattle.pssm_model.specs.declared.steps.Item.{Item}
use Rattle.pssm_plan.specs.declared.roster.Call.{Call}
use Rattle.pssm_plan.specs.inner.Marks.{IsTold, IsPlaceOf, ArePairwise}
use Rattle.pssm_plan.proofs.Growing.{lower_or_same}

-- none of the calls below a number is one of the item
abbrev pub NoneBelow : List Call → Item → ℕ → Type 0
NoneBelow calls item n = (j : ℕ) (d : Call) → j < n → j < length calls → (get_or calls j d).item ≡ item → ⊥

-- the call, which has run
abbrev pub told_call : Call → Call
told_call call = record { item = call.item; ran = true; blocked = call.blocked; seen = call.seen }

pub told_other : (item : Item) (call : Call) → (call.item ≡ item → ⊥) → IsTold item call call
told_other item call other = record {
  item_is = refl;
  ran = (λ t. inl t, λ h. ⊎_elim (λ t. t) (λ e. absurd (other e)) h);
  blocked = refl;
  seen = refl;
}

pub told_this : (item : Item) (call : Call) → call.item ≡ item → IsTold item call (told_call call)
told_this item call e = record {
  item_is = refl;
  ran = (λ t. inr e, λ h. refl);
  blocked = refl;
  seen = refl;
}

module _ (calls : List Call) (item : Item) where
  pub none_below_more : (n : ℕ) (d : Call) → n < length calls → ((get_or calls n d).item ≡ item → ⊥) → NoneBelow calls item n → NoneBelow calls item (n + 1)
  none_below_more n d lt other none j e low inside same =
      ⊎_elim
      (λ below. none j e below inside same)
      (λ last. other (ap (λ (c : Call). c.item) (get_or_default calls n d e lt ∙ ap (λ (k : ℕ). get_or calls k e) (sym last)) ∙ same))
      (lower_or_same j n low)

  pub told_none : (n : ℕ) → length calls ≤ n → NoneBelow calls item n → ArePairwise (IsTold item) calls calls
  told_none n le none = (refl, λ k d lt. told_other item (get_or calls k d) (none k d (omega arith) lt))

  pub one_place : (n : ℕ) → AllPairs (λ a b. a.item ≢ b.item) calls → n < length calls → ((d : Call) → (get_or calls n d).item ≡ item)
      → IsPlaceOf calls item n
  one_place n once lt same k e inside is =
      ⊎_elim
      (λ less. absurd (once k n e less lt (is ∙ sym (same e))))
      (λ le. ⊎_elim (λ more. absurd (once n k e more inside (same e ∙ sym is))) (λ ge. omega (arith, le, ge)) (cases_lt n k))
      (cases_lt k n)

  pub told_at : (n : ℕ) (d : Call) → AllPairs (λ a b. a.item ≢ b.item) calls → n < length calls → (get_or calls n d).item ≡ item
      → ArePairwise (IsTold item) calls (set calls n (told_call (get_or calls n d)))
  told_at n d once lt same = (
    length-set calls n (told_call (get_or calls n d)),
    λ k e inside. ⊎_elim (λ below. apart k e inside below) (λ above. ⊎_elim (λ less. after k e inside less) (λ here. at k e (omega arith)) (cases_lt n k)) (cases_lt k n),
  )
    where
      other : (k : ℕ) (e : Call) → k ≢ n → ((get_or calls k e).item ≡ item → ⊥) → IsTold item (get_or calls k e) (get_or (set calls n (told_call (get_or calls n d))) k e)
      other k e differs not =
          subst (λ (c : Call). IsTold item (get_or calls k e) c) (sym (get_or-set_other calls n k (told_call (get_or calls n d)) e differs))
          (told_other item (get_or calls k e) not)

      first : (e : Call) → get_or calls n e ≡ get_or calls n d
      first e = get_or_default calls n e d lt

      apart : (k : ℕ) (e : Call) → k < length calls → k < n → IsTold item (get_or calls k e) (get_or (set calls n (told_call (get_or calls n d))) k e)
      apart k e inside below =
          let differs : k ≢ n = omega arith in
          other k e differs (λ is. once k n e below lt (is ∙ sym same ∙ sym (ap (λ (c : Call). c.item) (first e))))

      after : (k : ℕ) (e : Call) → k < length calls → n < k → IsTold item (get_or calls k e) (get_or (set calls n (told_call (get_or calls n d))) k e)
      after k e inside above =
          let differs : k ≢ n = omega arith in
          other k e differs (λ is. once n k e above inside (ap (λ (c : Call). c.item) (first e) ∙ same ∙ sym is))

      at : (k : ℕ) (e : Call) → k ≡ n → IsTold item (get_or calls k e) (get_or (set calls n (told_call (get_or calls n d))) k e)
      at k e is =
          subst (λ (j : ℕ). IsTold item (get_or calls j e) (get_or (set calls n (told_call (get_or calls n d))) j e)) (sym is)
          (subst (λ (c : Call). IsTold item (get_or calls n e) c) (sym (get_or-set_same calls n (told_call (get_or calls n d)) e lt))
          (subst (λ (c : Call). IsTold item c (told_call (get_or calls n d))) (sym (first e)) (told_this item (get_or calls n d) same)))
