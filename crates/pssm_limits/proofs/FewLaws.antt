-- Whether a class keeps the limit of variables, by the names that were found.
use Rattle.std.proofs.Common.{◌≡◌, ◌↔◌, ◌≤◌, ℕ, Bool, true, List, length, Option, sym, subst, arith}
use Rattle.std.specs.Prelude.{IsTrue, nat_lt}
use Rattle.pssm_model.specs.DraftSettings.{KnowsVariable, HasFewVariables}
use Rattle.pssm_roles.specs.Roles.{AreRolesOf}
use Rattle.pssm_totals.specs.Totals.{extended, extends_of}
use Rattle.pssm_numbering.specs.Numbering.{ModelFile}
use Rattle.pssm_drafting.specs.Drafts.{draft_of, class_at}
use Rattle.pssm_limits.specs.inner.Ways.{AreReached}
use Rattle.pssm_limits.specs.inner.Variables.{AreNames, name_of, machine_at, first_variables, belongs}
use Rattle.pssm_limits.proofs.NameLaws.{names_end}
use Rattle.pssm_limits.proofs.VariableLaws.{known_name, known_element}

no_more : (count : ℕ) → nat_lt count 65 ≡ true → count ≤ 64
no_more count few = grind (arith, few)

keeps : (count : ℕ) → count ≤ 64 → nat_lt count 65 ≡ true
keeps count le = grind (arith, le)

module _ (file : ModelFile) (c : ℕ) (roles : AreRolesOf file.doc file.roles) where
  few_of : (marks : List Bool) → AreReached (extends_of (draft_of file)) (extended (extends_of (draft_of file)) (machine_at file c)) marks → (found : List ℕ)
      → AreNames (name_of file) (belongs file marks c) (first_variables file (length file.doc)) found → (length found ≤ 64) ↔ HasFewVariables (draft_of file) (class_at file c)
  few_of marks reached found names =
      names_end (name_of file) (belongs file marks c) (first_variables file (length file.doc)) found (KnowsVariable (draft_of file) (class_at file c)) names
      (λ n there is. known_name file c marks reached roles n there is)
      (λ x known. known_element file c marks reached x known)

  pub few_by_names : (extends : List (Option ℕ)) (machine : ℕ) (from : Option ℕ) (marks read : List Bool) (held found : List ℕ) (count : ℕ)
      → extends ≡ extends_of (draft_of file) → machine ≡ machine_at file c → from ≡ extended extends machine → AreReached extends from marks → read ≡ marks
      → held ≡ first_variables file (length file.doc) → AreNames (name_of file) (belongs file read c) held found → count ≡ length found
      → IsTrue (nat_lt count 65) ↔ HasFewVariables (draft_of file) (class_at file c)
  few_by_names extends machine from marks read held found count extends_are machine_is from_is reached read_is held_are names count_is = (
    λ few. ends.0 (subst (λ n. n ≤ 64) count_is (no_more count few)),
    λ few. keeps count (subst (λ n. n ≤ 64) (sym count_is) (ends.1 few)),
  )
    where
      by_machine : AreReached extends (extended extends (machine_at file c)) marks
      by_machine = subst (λ m. AreReached extends (extended extends m) marks) machine_is (subst (λ f. AreReached extends f marks) from_is reached)

      of_draft : AreReached (extends_of (draft_of file)) (extended (extends_of (draft_of file)) (machine_at file c)) read
      of_draft =
          subst (AreReached (extends_of (draft_of file)) (extended (extends_of (draft_of file)) (machine_at file c))) (sym read_is)
          (subst (λ e. AreReached e (extended e (machine_at file c)) marks) extends_are by_machine)

      ends : (length found ≤ 64) ↔ HasFewVariables (draft_of file) (class_at file c)
      ends = few_of read of_draft found (subst (λ all. AreNames (name_of file) (belongs file read c) all found) held_are names)
