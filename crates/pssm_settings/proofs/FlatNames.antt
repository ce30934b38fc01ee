-- The variables of a flat draft have distinct names.
use Rattle.std.proofs.Common.{◌≡◌, ℕ, map, Some, slice_get}
use Rattle.std.specs.List.{AllByRecursion}
use Rattle.std.proofs.lemmas.List.Elements.{All-from_recursion}
use Rattle.pssm_spelling.specs.Spelling.{IsName}
use Rattle.pssm_model.specs.declared.draft_setting.Draft.{Draft}
use Rattle.pssm_model.specs.declared.draft_setting.DraftClass.{DraftClass}
use Rattle.pssm_model.specs.declared.draft_setting.DraftVar.{DraftVar}
use Rattle.pssm_model.specs.declared.draft_setting.FlatDraft.{FlatDraft}
use Rattle.pssm_model.specs.DraftSettings.{IsInRange}
use Rattle.pssm_redefine.specs.Flattening.{Flattens}
use Rattle.pssm_settings.specs.Names.{AreDistinctNames, HasNames}
use Rattle.pssm_settings.proofs.FlatLists.{each_at, each_mapped}
use Rattle.pssm_settings.proofs.FlatVars.{vars_apart, vars_all}

pub flat_names : (draft : Draft) (class : ℕ) (flat : FlatDraft) → IsInRange draft → HasNames draft → Flattens draft class flat
    → AreDistinctNames (map (λ (v : DraftVar). v.name) flat.vars)
flat_names draft class flat range named flattens = record {
  names_are = All-from_recursion IsName (map (λ (v : DraftVar). v.name) flat.vars) (each_mapped IsName (λ (v : DraftVar). v.name) flat.vars spelled);
  apart = vars_apart draft class flat range flattens;
} where
  of_class : (number k : ℕ) (c : DraftClass) (v : DraftVar) → slice_get draft.classes number ≡ Some c → slice_get c.vars k ≡ Some v → IsName v.name
  of_class number k c v is at = each_at _ c.vars k v (each_at _ draft.classes number c named.vars is) at

  spelled : AllByRecursion (λ (v : DraftVar). IsName v.name) flat.vars
  spelled =
      vars_all draft class flat range flattens (λ (v : DraftVar). IsName v.name)
      (λ k v at. of_class class k flattens.of v flattens.is at) (λ number k other v is far at. of_class number k other v is at)
