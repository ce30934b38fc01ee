-- Which references mean active classes.
use Rattle.std.proofs.Common.{◌≡◌, ◌↔◌, ℕ, Bool, List, [], ◌∷◌, ◌++◌, inl, inr, refl, sym, ap, subst, ◌∙◌}
use Rattle.std.specs.Prelude.{IsTrue, codes}
use Rattle.pssm_xml.specs.Documents.{Element}
use Rattle.pssm_roles.specs.References.{references}
use Rattle.pssm_roles.specs.Roles.{HasRole}
use Rattle.pssm_roles.specs.declared.role.Role.TheVariants as role
use Rattle.pssm_profile.specs.Kinds.{IsInstance}
use Rattle.pssm_tally.specs.inner.Objects.{MeansActive, OneMeansActive}

module _ (doc : List Element) where
  -- where it stands
  record IsSplit (rs : List (ℕ × List ℕ)) : Type 0 where
    before : List (ℕ × List ℕ)
    at : ℕ
    id : List ℕ
    behind : List (ℕ × List ℕ)
    parts : rs ≡ before ++ (at, id) ∷ behind
    means : MeansActive doc id

  split_of : (rs : List (ℕ × List ℕ)) → OneMeansActive doc rs → IsSplit rs
  split_of [] one = absurd one
  split_of (r ∷ rs) (inl means) = record { before = []; at = r.0; id = r.1; behind = rs; parts = refl; means = means }
  split_of (r ∷ rs) (inr later) =
      let s = split_of rs later in
      record { before = r ∷ s.before; at = s.at; id = s.id; behind = s.behind; parts = ap (λ (l : List (ℕ × List ℕ)). r ∷ l) s.parts; means = s.means }

  any_in : (before behind : List (ℕ × List ℕ)) (at : ℕ) (id : List ℕ) → MeansActive doc id → OneMeansActive doc (before ++ (at, id) ∷ behind)
  any_in [] behind at id means = inl means
  any_in (r ∷ before) behind at id means = inr (any_in before behind at id means)

  -- An instance has a classifier that is an active class.
  pub is_instance : (n : ℕ) (found : List (ℕ × List ℕ)) (so : Bool) → HasRole doc n role.Instance → found ≡ references doc n (codes "classifier")
      → IsTrue so ↔ OneMeansActive doc found → IsTrue so ↔ IsInstance doc n
  is_instance n found so has are is = (λ yes. there (split_of found (is.0 yes)), λ own. is.1 (back own)) where
    there : IsSplit found → IsInstance doc n
    there s = record {
      instance = has;
      before = s.before;
      at = s.at;
      id = s.id;
      behind = s.behind;
      classifier = sym are ∙ s.parts;
      class = s.means.class;
      meant = s.means.meant;
      active = s.means.active;
    }

    back : IsInstance doc n → OneMeansActive doc found
    back own =
        subst (OneMeansActive doc) (sym (are ∙ own.classifier))
        (any_in own.before own.behind own.at own.id (record { class = own.class; meant = own.meant; active = own.active }))
