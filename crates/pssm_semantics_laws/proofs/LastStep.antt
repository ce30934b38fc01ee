-- What one more entry at the end of a journal does to an object's last step.
use Rattle.std.proofs.Common.{◌≡◌, ◌⊎◌, inl, inr, List, [], ◌∷◌, ◌++◌, refl, sym, ◌∙◌, ap, subst, append_assoc, append-nil, Bool, true, false, Some}
use Rattle.std.specs.List.{AllByRecursion}
use Rattle.std.proofs.lemmas.List.{reverse-append}
use Rattle.pssm_semantics.specs.declared.entry.ObjectId.{ObjectId}
use Rattle.pssm_semantics.specs.declared.entry.Entry.{Entry}
use Rattle.pssm_semantics.specs.Journal.{is_head_of, Heads}
use Rattle.pssm_semantics.specs.Steps.{StepAt, IsLastStep}
use Rattle.pssm_semantics.specs.Behaviours.{last_head}
use Rattle.pssm_semantics.proofs.Appended.{split-append, never_ends, AllByRecursion-append, AllByRecursion-front, AllByRecursion-back, last_split-unique}

-- An object has no step before the first entry.
pub IsLastStep-nil : (o : ObjectId) (step : StepAt) → IsLastStep [] o step → ⊥
IsLastStep-nil o step h = never_ends step.head step.before step.after h.splits

-- A head entry begins the last step.
pub IsLastStep-begins : (J : List Entry) (e : Entry) (o : ObjectId) → Heads e o → IsLastStep (J ++ e ∷ []) o (record { before = J; head = e; after = [] })
IsLastStep-begins J e o heads = record { splits = refl; heads = heads; last = tt }

-- Another entry adds itself to the step.
pub IsLastStep-goes_on : (J : List Entry) (e : Entry) (o : ObjectId) (step : StepAt) → IsLastStep J o step → (Heads e o → ⊥)
    → IsLastStep (J ++ e ∷ []) o (record step { after = step.after ++ e ∷ [] })
IsLastStep-goes_on J e o step h none = record {
  splits = ap (λ xs. xs ++ e ∷ []) h.splits ∙ append_assoc step.before (step.head ∷ step.after) (e ∷ []);
  heads = h.heads;
  last = AllByRecursion-append (λ f. Heads f o → ⊥) step.after (e ∷ []) h.last (none, tt);
}

step_from : List Entry → Entry → List Entry → StepAt
step_from before head after = record { before = before; head = head; after = after }

same_step : (p q : StepAt) → p.before ≡ q.before → p.head ≡ q.head → p.after ≡ q.after → p ≡ q
unfolding step_from
same_step p q before head after =
    ap (λ x. step_from x p.head p.after) before ∙ ap (λ x. step_from q.before x p.after) head ∙ ap (λ x. step_from q.before q.head x) after

-- The last step after an entry is begun by it, or is the last step before it with the entry added.
pub IsLastStep-was : (J : List Entry) (e : Entry) (o : ObjectId) (step : StepAt) → IsLastStep (J ++ e ∷ []) o step
    → (Heads e o × (step ≡ record { before = J; head = e; after = [] }))
    ⊎ ((Heads e o → ⊥) × ((rest : List Entry) × (step.after ≡ rest ++ e ∷ []) × IsLastStep J o (record step { after = rest })))
IsLastStep-was J e o step h = elim (split-append J step.before step.after e step.head h.splits) [
  | inl k ↦
      let P : Entry → Type 0 = λ f. Heads f o in
      inl (subst P (sym k.1) h.heads, same_step step (record { before = J; head = e; after = [] }) (sym k.0) (sym k.1) k.2)
  | inr k ↦
      let All : List Entry → Type 0 = λ ys. AllByRecursion (λ f. Heads f o → ⊥) ys in
      let all : AllByRecursion (λ f. Heads f o → ⊥) (k.0 ++ e ∷ []) = subst All k.1 h.last in
      inr (
        (AllByRecursion-back (λ f. Heads f o → ⊥) k.0 (e ∷ []) all).0,
        (k.0, k.1, record { splits = k.2; heads = h.heads; last = AllByRecursion-front (λ f. Heads f o → ⊥) k.0 (e ∷ []) all }),
      )
]

-- An object has one last step.
pub IsLastStep-unique : (J : List Entry) (o : ObjectId) (p q : StepAt) → IsLastStep J o p → IsLastStep J o q → p ≡ q
IsLastStep-unique J o p q h k =
    let same : (p.before ≡ q.before) × (p.head ≡ q.head) × (p.after ≡ q.after) =
    last_split-unique (λ f. Heads f o) p.before p.after q.before q.after p.head q.head (sym h.splits ∙ k.splits) h.heads h.last k.heads k.last in
    same_step p q same.0 same.1 same.2

-- The entry that began the last step is the new one where that is a head.
pub last_head-begins : (J : List Entry) (e : Entry) (o : ObjectId) → Heads e o → last_head (J ++ e ∷ []) o ≡ Some e
last_head-begins J e o heads = rw (reverse-append J (e ∷ [])) (rw heads refl)

is_false : (b : Bool) → (b ≡ true → ⊥) → b ≡ false
is_false true h = absurd (h refl)
is_false false h = refl

-- It is the same as before at any other entry.
pub last_head-goes_on : (J : List Entry) (e : Entry) (o : ObjectId) → (Heads e o → ⊥) → last_head (J ++ e ∷ []) o ≡ last_head J o
last_head-goes_on J e o none = rw (reverse-append J (e ∷ [])) (rw (is_false (is_head_of o e) none) refl)

-- the same at several entries
pub last_head-more : (J after : List Entry) (o : ObjectId) → AllByRecursion (λ e. Heads e o → ⊥) after → last_head (J ++ after) o ≡ last_head J o
last_head-more J [] o none = ap (λ xs. last_head xs o) (append-nil J)
last_head-more J (e ∷ after) o none =
    ap (λ xs. last_head xs o) (sym (append_assoc J (e ∷ []) after)) ∙ last_head-more (J ++ e ∷ []) after o none.1 ∙ last_head-goes_on J e o none.0

-- The last head is that of the last step.
pub last_head-of_step : (J : List Entry) (o : ObjectId) (step : StepAt) → IsLastStep J o step → last_head J o ≡ Some step.head
last_head-of_step J o step h =
    ap (λ xs. last_head xs o) (h.splits ∙ sym (append_assoc step.before (step.head ∷ []) step.after))
    ∙ last_head-more (step.before ++ step.head ∷ []) step.after o h.last
    ∙ last_head-begins step.before step.head o h.heads
