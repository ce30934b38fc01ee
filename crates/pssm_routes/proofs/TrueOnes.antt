-- Those of ascending transitions of which something holds ascend, as they are chosen one after another.
use Rattle.std.proofs.Common.{◌≡◌, ◌↔◌, ◌+◌, ◌++◌, ◌<◌, ◌≤◌, ℕ, List, [], ◌∷◌, length, take, get_or, Contains, sym, subst, ◌∙◌, arith}
use Rattle.std.proofs.lemmas.List.{get_or_default, get_or-take, length-take-le}
use Rattle.std.proofs.lemmas.List.Elements.{Contains-get_or}
use Rattle.std.proofs.lemmas.List.Quantifiers.{all_pairs_push}
use Rattle.pssm_model.specs.declared.ids.TransId.{TransId}
use Rattle.pssm_model.specs.Routes.{IsAscending}
use Rattle.pssm_model.proofs.RouteLaws.{none_in_order}
use Rattle.pssm_enabled.proofs.Choosing.{AreChosen, chosen_none, chosen_more, chosen_same, chosen_all}

-- a transition among the first few has a lower number than the next
first_below : (ts : List TransId) (n : ℕ) (d u : TransId) → IsAscending ts → n < length ts → Contains (take n ts) u → u.0 < (get_or ts n d).0
first_below ts n d u up lt inside =
    let long = length-take-le n ts (omega (arith, lt)) in
    let less : inside.0 < n = let bound = inside.1 in omega (arith, bound, long) in
    let is : get_or ts inside.0 d ≡ u =
    get_or_default ts inside.0 d u (omega (arith, less, lt)) ∙ sym (get_or-take n ts inside.0 u less) ∙ inside.2 in
    subst (λ (x : TransId). x.0 < (get_or ts n d).0) is (up inside.0 n d less lt)

module _ (P : TransId → Type 0) (ts : List TransId) where
  -- Those of the transitions so far are chosen of which it holds, in ascending number.
  pub record AreChosenUp (n : ℕ) (chosen : List TransId) : Type 0 where
    pub members : AreChosen P ts n chosen
    pub ascending : IsAscending chosen

  pub up_none : (chosen : List TransId) → chosen ≡ [] → AreChosenUp 0 chosen
  up_none chosen none = record {
    members = chosen_none P ts chosen none;
    ascending = subst IsAscending (sym none) (none_in_order (λ (t u : TransId). t.0 < u.0));
  }

  module _ (n : ℕ) (d : TransId) (chosen more : List TransId) (lt : n < length ts) (h : AreChosenUp n chosen) where
    pub up_more : more ≡ chosen ++ get_or ts n d ∷ [] → IsAscending ts → P (get_or ts n d) → AreChosenUp (n + 1) more
    up_more pushed up is = record {
      members = chosen_more P ts n d chosen more pushed lt h.members is;
      ascending = subst IsAscending (sym pushed) (all_pairs_push (λ (t u : TransId). t.0 < u.0) chosen (get_or ts n d) h.ascending
          (λ k e inside. first_below ts n d (get_or chosen k e) up lt ((h.members (get_or chosen k e)).0 (Contains-get_or chosen k e inside)).0));
    }

    pub up_same : more ≡ chosen → (P (get_or ts n d) → ⊥) → AreChosenUp (n + 1) more
    up_same same not = record {
      members = chosen_same P ts n d chosen more same lt h.members not;
      ascending = subst IsAscending (sym same) h.ascending;
    }

  pub up_all : (n : ℕ) (chosen : List TransId) → length ts ≤ n → AreChosenUp n chosen
      → ((t : TransId) → Contains chosen t ↔ (Contains ts t × P t)) × IsAscending chosen
  up_all n chosen over h = (chosen_all P ts n chosen over h.members, h.ascending)
