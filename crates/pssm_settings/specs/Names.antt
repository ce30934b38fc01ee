-- The names in a draft.
use Rattle.std.specs.Prelude.{◌≢◌, ℕ, List, map, All, AllPairs}
use Rattle.std.specs.List.{AllByRecursion}
use Rattle.pssm_spelling.specs.Spelling.{IsName}
use Rattle.pssm_model.specs.declared.draft_setting.Draft.{Draft}
use Rattle.pssm_model.specs.declared.draft_setting.DraftClass.{DraftClass}
use Rattle.pssm_model.specs.declared.draft_setting.DraftObject.{DraftObject}
use Rattle.pssm_model.specs.declared.draft_setting.DraftSignal.{DraftSignal}
use Rattle.pssm_model.specs.declared.draft_setting.DraftVar.{DraftVar}

-- Each is a name, and no two of them are alike (UML 2.5.1 7.4.3, namespaces).
pub record AreDistinctNames (names : List (List ℕ)) : Type 0 where
  pub names_are : All IsName names
  pub apart : AllPairs (λ (a b : List ℕ). a ≢ b) names

-- a draft whose signals, classes and objects have distinct names in their kind, and whose variables have names
pub record HasNames (draft : Draft) : Type 0 where
  pub signals : AreDistinctNames (map (λ (s : DraftSignal). s.name) draft.signals)
  pub classes : AreDistinctNames (map (λ (c : DraftClass). c.name) draft.classes)
  pub objects : AreDistinctNames (map (λ (o : DraftObject). o.name) draft.objects)
  pub vars : AllByRecursion (λ (c : DraftClass). AllByRecursion (λ (v : DraftVar). IsName v.name) c.vars) draft.classes
