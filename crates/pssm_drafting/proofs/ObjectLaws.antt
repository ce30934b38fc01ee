-- The objects of a file are those of its instance specifications, and where there are none those of its classes.
use Rattle.std.proofs.Common.{◌≡◌, ℕ, List, [], ◌∷◌, length, map, refl, sym, ap, ◌∙◌, arith}
use Rattle.pssm_model.specs.declared.draft_setting.DraftObject.{DraftObject}
use Rattle.pssm_numbering.specs.Numbering.{ModelFile}
use Rattle.pssm_numbering.specs.Meanings.{instances, concrete_classes}
use Rattle.pssm_drafting.specs.Drafts.{object_with, object_at, objects_or, objects_of}

none_or : (file : ModelFile) (list : List ℕ)
    → length (map (object_at file) list) ≡ 0 → map (λ c. object_with file c c) (concrete_classes file) ≡ objects_or file list
none_or file [] none = refl
none_or file (n ∷ more) none = absurd (omega arith)

some_or : (file : ModelFile) (list : List ℕ) → (length (map (object_at file) list) ≡ 0 → ⊥) → map (object_at file) list ≡ objects_or file list
some_or file [] some = absurd (some refl)
some_or file (n ∷ more) some = refl

pub of_classes : (file : ModelFile) (row other : List DraftObject)
    → row ≡ map (object_at file) (instances file) → length row ≡ 0 → other ≡ map (λ c. object_with file c c) (concrete_classes file) → other ≡ objects_of file
of_classes file row other is none these = these ∙ none_or file (instances file) (sym (ap (λ (os : List DraftObject). length os) is) ∙ none)

pub of_instances : (file : ModelFile) (row : List DraftObject) → row ≡ map (object_at file) (instances file) → (length row ≡ 0 → ⊥) → row ≡ objects_of file
of_instances file row is some = is ∙ some_or file (instances file) (λ none. some (ap (λ (os : List DraftObject). length os) is ∙ none))
