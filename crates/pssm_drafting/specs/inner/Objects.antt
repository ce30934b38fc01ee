-- The object that one element gives, or none.
use Rattle.std.specs.Prelude.{ℕ, not, List, [], ◌∷◌, codes, cond, is_some}
use Rattle.pssm_model.specs.declared.draft_setting.DraftObject.{DraftObject}
use Rattle.pssm_numbering.specs.Numbering.{ModelFile}
use Rattle.pssm_numbering.specs.Meanings.{is_true, class_of_instance}
use Rattle.pssm_drafting.specs.Drafts.{object_with, object_at}

-- the object of an instance specification, where its class is an active one
abbrev pub of_instance : ModelFile → ℕ → List DraftObject
of_instance file n = cond (is_some (class_of_instance file n)) (object_at file n ∷ []) []

-- the object of a class, where the class is not abstract
abbrev pub of_class : ModelFile → ℕ → List DraftObject
of_class file c = cond (not (is_true (codes "isAbstract") file c)) (object_with file c c ∷ []) []
