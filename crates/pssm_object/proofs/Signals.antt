-- The signals that an object has taken are told by the longer journal too.
use Rattle.std.proofs.Common.{◌≡◌, ◌++◌, ℕ, List, [], ◌∷◌, Contains, Some, refl, sym, subst, ◌∙◌, ⊎_elim}
use Rattle.std.specs.List.{AllByRecursion}
use Rattle.std.proofs.lemmas.List.Elements.{Contains-push_cases}
use Rattle.pssm_model.specs.declared.steps.Firing.{Firing}
use Rattle.pssm_semantics.specs.declared.entry.ObjectId.{ObjectId}
use Rattle.pssm_semantics.specs.declared.entry.Entry.{Entry}
use Rattle.pssm_semantics.specs.declared.entry.Entry.TheVariants.{Post, Start, Take, Done, Exit, Effect, Enter, Opened, Pick, DoStep}
use Rattle.pssm_semantics.specs.declared.stimulus.Stimulus.{Stimulus}
use Rattle.pssm_semantics.specs.Journal.{object_of}
use Rattle.pssm_semantics.specs.Pool.{told_by}
use Rattle.pssm_semantics.specs.Rules.{taken_by}
use Rattle.pssm_semantics_laws.proofs.Members.{first_in, later_in}
use Rattle.pssm_semantics_laws.proofs.Stores.{SameTakes, told_by-more}
use Rattle.pssm_object.specs.Standing.{HasSignalsTaken}

-- a fact about each element that is there is one about all
pub each_contained : {X : Type 0} (P : X → Type 0) (xs : List X) → ((x : X) → Contains xs x → P x) → AllByRecursion P xs
each_contained P [] each = tt
each_contained P (x ∷ xs) each = (each x (first_in x xs), each_contained P xs (λ y inside. each y (later_in x xs y inside)))

module _ (J : List Entry) (e : Entry) (o : ObjectId) (taken : HasSignalsTaken J o) where
  same_take : (f : Entry) → Contains J f → (object_of f ≡ o) → taken_by (told_by J) f ≡ taken_by (told_by (J ++ e ∷ [])) f
  same_take (Take q n firing) inside own =
      let told = taken n firing (subst (λ p. Contains J (Take p n firing)) own inside) in
      told.1 ∙ sym (told_by-more J e n told.0 told.1)
  same_take (Post q g args) inside own = refl
  same_take (Start q) inside own = refl
  same_take (Done q v firing) inside own = refl
  same_take (Exit q v outs) inside own = refl
  same_take (Effect q t outs) inside own = refl
  same_take (Enter q v outs) inside own = refl
  same_take (Opened q r mode how) inside own = refl
  same_take (Pick q v route) inside own = refl
  same_take (DoStep q v k outs) inside own = refl

  -- so the longer journal tells the same of them
  pub same_takes : SameTakes (told_by J) (told_by (J ++ e ∷ [])) o J
  same_takes = each_contained (λ f. (object_of f ≡ o) → taken_by (told_by J) f ≡ taken_by (told_by (J ++ e ∷ [])) f) J same_take

  -- and with one more entry it has the signal of each take, if it has that of the entry
  pub signals_taken : ((n : ℕ) (firing : Firing) → e ≡ Take o n firing → (y : Stimulus) × (told_by J n ≡ Some y)) → HasSignalsTaken (J ++ e ∷ []) o
  signals_taken here n firing inside =
      ⊎_elim
      (λ was. let told = taken n firing was in (told.0, told_by-more J e n told.0 told.1))
      (λ now. let told = here n firing now in (told.0, told_by-more J e n told.0 told.1))
      (Contains-push_cases J e (Take o n firing) inside)
