-- How the classes of a draft are loaded one after another.
use Rattle.std.proofs.Common.{◌≡◌, ◌⊎◌, ◌<◌, ◌+◌, ℕ, List, [], ◌∷◌, ◌++◌, length, get_or, Some, inl, inr, sym, subst, ap, ◌∙◌, ⊎_elim, arith, Option}
use Rattle.std.specs.Prelude.{slice_get}
use Rattle.std.proofs.lemmas.List.{length-append}
use Rattle.std.proofs.lemmas.Option.{slice_get-get_or}
use Rattle.pssm_model.specs.declared.draft_setting.Draft.{Draft}
use Rattle.pssm_semantics.specs.declared.setting.Class.{Class}
use Rattle.pssm_heritage.proofs.RowLaws.{get_seam, get_more}
use Rattle.pssm_settings.specs.declared.fault.DraftFault.{DraftFault}
use Rattle.pssm_settings.specs.declared.fault.DraftFault.TheVariants as faults
use Rattle.pssm_settings.specs.Settings.{IsLoadedClass, AreLoadedClasses}
use Rattle.pssm_settings.specs.Failures.{FailsClass, IsFirstFailure}

-- None is loaded yet.
pub none_loaded : (draft : Draft) → AreLoadedClasses draft []
none_loaded draft = record { each = λ number class is. absurd cc }

-- what two ways to read one place give
same_some : {X : Type 0} (o : Option X) (x y : X) → o ≡ Some x → o ≡ Some y → x ≡ y
same_some o x y a b = cc (a, b)

-- One class more is loaded.
pub one_more_loaded : (draft : Draft) (classes : List Class) (class : Class) (number : ℕ) → number ≡ length classes → AreLoadedClasses draft classes
    → IsLoadedClass draft number class → AreLoadedClasses draft (classes ++ class ∷ [])
one_more_loaded draft classes class number last before loaded = record { each = each } where
  each : (n : ℕ) (other : Class) → slice_get (classes ++ class ∷ []) n ≡ Some other → IsLoadedClass draft n other
  each n other is =
      ⊎_elim
      (λ (seam : n ≡ length classes).
      let at : slice_get (classes ++ class ∷ []) n ≡ Some class = ap (λ (k : ℕ). slice_get (classes ++ class ∷ []) k) seam ∙ get_seam classes class in
      let same : class ≡ other = same_some (slice_get (classes ++ class ∷ []) n) class other at is in
      subst (λ (k : ℕ). IsLoadedClass draft k other) (last ∙ sym seam) (subst (λ (x : Class). IsLoadedClass draft number x) same loaded))
      (λ (kept : slice_get (classes ++ class ∷ []) n ≡ slice_get classes n). before.each n other (sym kept ∙ is))
      (get_more classes class n)

-- The next class is the first that fails.
pub first_fails : (draft : Draft) (classes : List Class) (number : ℕ) (fault : DraftFault) → length classes ≡ number → AreLoadedClasses draft classes
    → number < length draft.classes → FailsClass draft number fault → IsFirstFailure draft fault
first_fails draft [] number fault last before within fails =
    record { number = number; is = within; before = λ earlier lt. absurd (omega (arith, last, lt)); fails = fails }
first_fails draft (first ∷ more) number fault last before within fails = record {
  number = number;
  is = within;
  before = λ earlier lt. (
    get_or (first ∷ more) earlier first,
    before.each earlier (get_or (first ∷ more) earlier first) (slice_get-get_or (first ∷ more) earlier first (omega (arith, last, lt))),
  );
  fails = fails;
}

-- The next class fails.
pub next_fails : (draft : Draft) (classes : List Class) (number : ℕ) (fault : DraftFault) → length classes ≡ number → AreLoadedClasses draft classes
    → number < length draft.classes → (fault ≡ faults.NoMemory) ⊎ FailsClass draft number fault → (fault ≡ faults.NoMemory) ⊎ IsFirstFailure draft fault
next_fails draft classes number fault last before within (inl none) = inl none
next_fails draft classes number fault last before within (inr fails) = inr (first_fails draft classes number fault last before within fails)

-- One class more is loaded, and counted.
pub more_loaded : (draft : Draft) (classes : List Class) (class : Class) (number : ℕ) (all : List Class) → length classes ≡ number → AreLoadedClasses draft classes
    → IsLoadedClass draft number class → all ≡ classes ++ class ∷ [] → (length all ≡ number + 1) × AreLoadedClasses draft all
more_loaded draft classes class number all counted before loaded is = (
  ap (λ (xs : List Class). length xs) is ∙ length-append classes (class ∷ []) ∙ ap (λ (n : ℕ). n + 1) counted,
  subst (λ (xs : List Class). AreLoadedClasses draft xs) (sym is) (one_more_loaded draft classes class number (sym counted) before loaded),
)
