-- The lists as one meets them along the links are those that the slots hold.
use Rattle.std.proofs.Common.{◌≡◌, ◌≤◌, ◌<◌, ◌+◌, ℕ, zero, suc, List, [], ◌∷◌, length, None, refl, ap, subst, ◌∙◌, arith}
use Rattle.std.proofs.lemmas.List.{length-map}
use Rattle.std.proofs.lemmas.List.Sums.{sum_by-set}
use Rattle.std.specs.List.{sum_by}
use Rattle.pssm_links.specs.declared.links.Slot.{Slot}
use Rattle.pssm_links.specs.Chained.{Linked, list_of}
use Rattle.pssm_links.specs.inner.Rings.{next_of, value_of, row_of, slots_of, IsEdge, IsPath, StandThere, Hold, met, met_from, lists_from}

pub row-length : (rows : List (List ℕ)) (l : ℕ) → l < length rows → length (row_of rows l) ≤ sum_by length rows
row-length rows l lt = let without = sum_by-set length rows l [] [] lt in omega (arith, without)

module _ {T : Type 0} where
  met-end : (slots : List (Slot T)) (n k : ℕ) → value_of slots k ≡ None → met_from slots n k ≡ []
  unfolding met_from
  met-end slots zero k none = refl
  met-end slots (suc n) k none = ap (λ o. met k o (met_from slots n (next_of slots k))) none

  met-path : (slots : List (Slot T)) (n a : ℕ) (row : List (Linked T)) (b : ℕ) → length row < n → IsPath slots a (slots_of row) b
      → StandThere slots row → value_of slots b ≡ None → met_from slots n (next_of slots a) ≡ row
  unfolding met_from
  met-path slots n a [] b lt path stand end = met-end slots n (next_of slots a) (ap (λ k. value_of slots k) path.next ∙ end)
  met-path slots zero a (e ∷ es) b lt path stand end = absurd (omega (arith, lt))
  met-path slots (suc n) a (e ∷ es) b lt path stand end =
      let edge : IsEdge slots a e.slot.0 = path.0 in
      ap (λ k. met_from slots (suc n) k) edge.next
      ∙ ap (λ o. met e.slot.0 o (met_from slots n (next_of slots e.slot.0))) stand.0
      ∙ ap (λ rest. e ∷ rest) (met-path slots n e.slot.0 es b (omega (arith, lt)) path.1 stand.1 end)

  lists-met : (slots : List (Slot T)) (start : ℕ) (lists : List (List (Linked T)))
      → ((j : ℕ) → j < length lists → met_from slots (length slots) (next_of slots (start + j)) ≡ list_of lists j)
      → lists_from slots start (length lists) ≡ lists
  unfolding lists_from
  lists-met slots start [] given = refl
  lists-met slots start (row ∷ rows) given =
      ap
      (λ k. met_from slots (length slots) (next_of slots k) ∷ lists_from slots (start + 1) (length rows))
      (let zero-more : start ≡ start + 0 = omega arith in zero-more)
      ∙ ap (λ first. first ∷ lists_from slots (start + 1) (length rows)) (given 0 (omega arith))
      ∙ ap (λ rest. row ∷ rest)
      (lists-met slots (start + 1) rows
      (λ j lt. ap (λ k. met_from slots (length slots) (next_of slots k)) (let shift : start + 1 + j ≡ start + suc j = omega arith in shift)
      ∙ given (suc j) (omega (arith, lt))))

  pub lists-held : (slots : List (Slot T)) (lists : List (List (Linked T))) (unused : ℕ) → Hold slots lists unused
      → lists_from slots 0 (length lists) ≡ lists
  lists-held slots lists unused hold =
      lists-met slots 0 lists
      (λ j lt.
      let count = hold.count in
      let within : j < length hold.rows = omega (arith, count, lt) in
      let size = hold.rings.size in
      let longest = row-length hold.rows j within in
      let same : length (row_of hold.rows j) ≡ length (slots_of (list_of lists j)) = ap length (hold.same j lt) in
      let short : length (list_of lists j) < length slots =
      omega (arith, size, longest, same, count, length-map (list_of lists j) (λ (e : Linked T). e.slot.0)) in
      let path = subst (λ row. IsPath slots j row j) (hold.same j lt) (hold.rings.rings j within) in
      let met = met-path slots (length slots) j (list_of lists j) j short path (hold.stand j lt) (hold.ends j within) in
      subst (λ k. met_from slots (length slots) (next_of slots k) ≡ list_of lists j) (let zero : j ≡ 0 + j = omega arith in zero) met)
