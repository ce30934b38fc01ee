-- The objects of a draft: few, each of a class of the draft.
use Rattle.std.proofs.Common.{◌≡◌, ◌<◌, ◌≤◌, ℕ, List, [], ◌∷◌, length, map, not, Option, refl, sym, ap, subst, ◌∙◌, arith}
use Rattle.std.specs.Prelude.{codes, is_some, unwrap_or}
use Rattle.std.specs.List.{AllByRecursion}
use Rattle.std.proofs.lemmas.List.{length-map}
use Rattle.pssm_model.specs.declared.draft_setting.DraftObject.{DraftObject}
use Rattle.pssm_numbering.specs.Numbering.{ModelFile, with_role, classes, place_in, is_class, is_instance}
use Rattle.pssm_numbering.specs.Meanings.{meant, class_of_instance, instances, concrete_classes, is_true}
use Rattle.pssm_drafting.specs.Drafts.{draft_of, class_at, object_at, object_with, objects_of}
use Rattle.pssm_xmi.specs.Faultless.{IsFaultless}
use Rattle.pssm_xmi.proofs.Numbers.{StandsIn, passing, place_within, all_made}
use Rattle.pssm_xmi.proofs.Known.{OneRole, stands_with}
use Rattle.pssm_xmi.proofs.Counting.{fewer_pass}
use Rattle.pssm_xmi.proofs.Limited.{few_classes, few_instances, kept_with}
use Rattle.pssm_xmi.proofs.Tests.{some_there}

module _ (one_role : OneRole) (file : ModelFile) (fine : IsFaultless file) where
  class_place : (c : ℕ) → StandsIn c (classes file) → place_in (classes file) c < length (draft_of file).classes
  class_place c stands =
      let less = place_within c (classes file) stands in
      let same = length-map (classes file) (class_at file) in omega (arith, less, same)

  -- ---- the objects of instance specifications

  instance_class : (n : ℕ) → StandsIn n (instances file) → (object_at file n).class < length (draft_of file).classes
  instance_class n stands =
      let some = (passing (λ (k : ℕ). is_some (class_of_instance file k)) n (with_role is_instance file) stands).0 in
      let class = some_there (class_of_instance file n) some in
      let kept = kept_with is_class file (meant (codes "classifier") file n) class.0 class.1 in
      let at : (object_at file n).class ≡ place_in (classes file) class.0 = ap (λ (o : Option ℕ). place_in (classes file) (unwrap_or o (length file.doc))) class.1 in
      let less = class_place class.0 (stands_with one_role file fine.roles is_class class.0 refl kept.1) in
      omega (arith, at, less)

  -- ---- an object of each class

  concrete_class : (n : ℕ) → StandsIn n (concrete_classes file) → (object_with file n n).class < length (draft_of file).classes
  concrete_class n stands = class_place n (passing (λ (c : ℕ). not (is_true (codes "isAbstract") file c)) n (classes file) stands).1

  few_concrete : length (concrete_classes file) ≤ 64
  few_concrete =
      let le = fewer_pass (λ (c : ℕ). not (is_true (codes "isAbstract") file c)) (classes file) in
      let few = few_classes one_role file fine in omega (arith, le, few)

  -- ---- all

  -- The objects are few, and each has a class.
  abbrev AreObjects : List DraftObject → Type 0
  AreObjects objects = AllByRecursion (λ (o : DraftObject). o.class < length (draft_of file).classes) objects × (length objects ≤ 64)

  are_made : (f : ℕ → DraftObject) (xs : List ℕ) → ((n : ℕ) → StandsIn n xs → (f n).class < length (draft_of file).classes) → length xs ≤ 64 → AreObjects (map f xs)
  are_made f xs each few = (
    all_made (λ (o : DraftObject). o.class < length (draft_of file).classes) f xs each,
    let same = length-map xs f in omega (arith, same, few),
  )

  by_instances : (xs : List ℕ) → instances file ≡ xs → AreObjects (objects_of file)
  by_instances [] is =
      let same : objects_of file ≡ map (λ c. object_with file c c) (concrete_classes file) = rw is refl in
      subst AreObjects (sym same) (are_made (λ c. object_with file c c) (concrete_classes file) concrete_class few_concrete)
  by_instances (n ∷ more) is =
      let same : objects_of file ≡ map (object_at file) (n ∷ more) = rw is refl in
      subst AreObjects (sym (same ∙ ap (map (object_at file)) (sym is)))
      (are_made (object_at file) (instances file) instance_class (few_instances one_role file fine))

  pub objects_in_range : AreObjects (objects_of file)
  objects_in_range = by_instances (instances file) refl
