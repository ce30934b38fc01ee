-- What one more entry does to admissible journals, whatever the rules are.
use Rattle.std.proofs.Common.{inl, inr, List, [], ◌∷◌, ◌++◌, refl, ◌∙◌, ap, subst, append_assoc}
use Rattle.pssm_semantics.specs.declared.entry.Entry.{Entry}
use Rattle.pssm_semantics.specs.declared.entry.Rule.{Rule}
use Rattle.pssm_semantics.specs.Verdict.{IsAdmissible}
use Rattle.pssm_semantics.proofs.Appended.{split-append, never_ends}

-- The journal without entries is admissible.
pub IsAdmissible-nil : (Holds : Rule → List Entry → Entry → Type 0) → IsAdmissible Holds []
IsAdmissible-nil Holds before after e splits = absurd (never_ends e before after splits)

-- It stays so with an entry that breaks no rule.
pub IsAdmissible-append : (Holds : Rule → List Entry → Entry → Type 0) (J : List Entry) (e : Entry) → IsAdmissible Holds J → ((rule : Rule) → Holds rule J e)
    → IsAdmissible Holds (J ++ e ∷ [])
IsAdmissible-append Holds J e all holds before after f splits rule = elim (split-append J before after e f splits) [
  | inl k ↦
      let At : Entry → Type 0 = λ x. Holds rule J x in
      let After : List Entry → Type 0 = λ xs. Holds rule xs f in
      subst After k.0 (subst At k.1 (holds rule))
  | inr k ↦ all before k.0 f k.2 rule
]

-- A front of it is admissible.
pub IsAdmissible-front : (Holds : Rule → List Entry → Entry → Type 0) (J more : List Entry) → IsAdmissible Holds (J ++ more) → IsAdmissible Holds J
IsAdmissible-front Holds J more all before after e splits rule =
    all before (after ++ more) e (ap (λ xs. xs ++ more) splits ∙ append_assoc before (e ∷ after) more) rule

-- Its last entry breaks no rule after the others.
pub IsAdmissible-last : (Holds : Rule → List Entry → Entry → Type 0) (J : List Entry) (e : Entry) → IsAdmissible Holds (J ++ e ∷ []) → (rule : Rule) → Holds rule J e
IsAdmissible-last Holds J e all rule = all J [] e refl rule
