-- The list of faults, as it grows.
use Rattle.std.proofs.Common.{◌≡◌, ◌↔◌, ◌<◌, ◌≤◌, ◌+◌, ℕ, List, [], ◌∷◌, ◌++◌, length, get_or, Contains, refl, sym, ap, subst, ◌∙◌, inl, inr, ⊎_elim, arith}
use Rattle.std.proofs.lemmas.Bool.{cases_eq}
use Rattle.std.proofs.lemmas.List.Elements.{Contains-append_left, Contains-push, Contains-push_cases, Contains-get_or}
use Rattle.std.proofs.lemmas.List.Quantifiers.{all_pairs_push}
use Rattle.pssm_model.specs.declared.ids.VertexId.{VertexId}
use Rattle.pssm_model.specs.declared.ids.RegionId.{RegionId}
use Rattle.pssm_model.specs.declared.ids.TransId.{TransId}
use Rattle.pssm_model.specs.declared.elements.DraftMachine.{DraftMachine}
use Rattle.pssm_model.specs.declared.elements.FaultPlace.{FaultPlace}
use Rattle.pssm_model.specs.declared.elements.FaultPlace.TheVariants.{Top, At}
use Rattle.pssm_model.specs.declared.elements.Element.TheVariants as elements
use Rattle.pssm_model.specs.Shapes.{HasShape}
use Rattle.pssm_model.specs.WellFormed.{Breaks, KeepsModelRules}
use Rattle.pssm_wellformed.specs.declared.fault.Fault.{Fault}
use Rattle.pssm_wellformed.specs.Faults.{IsEarlierPlace, IsEarlierFault}
use Rattle.pssm_wellformed.specs.inner.Checked.{IsPlace, place_number, IsCheckedBelow}
use Rattle.pssm_wellformed.proofs.Numbered.{rule_range, breaks_there}

-- Places of one number are one.
same_place : (m : DraftMachine) (p q : FaultPlace) → IsPlace m p → IsPlace m q → place_number m p ≡ place_number m q → p ≡ q
same_place m Top Top h g e = refl
same_place m Top (At (elements.Region r)) h g e = absurd (omega arith)
same_place m Top (At (elements.Vertex v)) h g e = absurd (omega arith)
same_place m Top (At (elements.Transition t)) h g e = absurd (omega arith)
same_place m (At (elements.Region r)) Top h g e = absurd (omega arith)
same_place m (At (elements.Region r)) (At (elements.Region q)) h g e =
    let same : r.0 ≡ q.0 = omega arith in ap (λ n. let x : RegionId = record { 0 = n } in At (elements.Region x)) same
same_place m (At (elements.Region r)) (At (elements.Vertex v)) h g e = absurd (omega arith)
same_place m (At (elements.Region r)) (At (elements.Transition t)) h g e = absurd (omega arith)
same_place m (At (elements.Vertex v)) Top h g e = absurd (omega arith)
same_place m (At (elements.Vertex v)) (At (elements.Region r)) h g e = absurd (omega arith)
same_place m (At (elements.Vertex v)) (At (elements.Vertex w)) h g e =
    let same : v.0 ≡ w.0 = omega arith in ap (λ n. let x : VertexId = record { 0 = n } in At (elements.Vertex x)) same
same_place m (At (elements.Vertex v)) (At (elements.Transition t)) h g e = absurd (omega arith)
same_place m (At (elements.Transition t)) Top h g e = absurd (omega arith)
same_place m (At (elements.Transition t)) (At (elements.Region r)) h g e = absurd (omega arith)
same_place m (At (elements.Transition t)) (At (elements.Vertex v)) h g e = absurd (omega arith)
same_place m (At (elements.Transition t)) (At (elements.Transition u)) h g e =
    let same : t.0 ≡ u.0 = omega arith in ap (λ n. let x : TransId = record { 0 = n } in At (elements.Transition x)) same

-- A place of a lesser number is earlier.
earlier_place : (m : DraftMachine) (p q : FaultPlace) → IsPlace m p → IsPlace m q → place_number m p < place_number m q → IsEarlierPlace p q
earlier_place m Top Top h g lt = absurd (omega arith)
earlier_place m Top (At e) h g lt = tt
earlier_place m (At (elements.Region r)) Top h g lt = absurd (omega arith)
earlier_place m (At (elements.Region r)) (At (elements.Region q)) h g lt = omega arith
earlier_place m (At (elements.Region r)) (At (elements.Vertex v)) h g lt = tt
earlier_place m (At (elements.Region r)) (At (elements.Transition t)) h g lt = tt
earlier_place m (At (elements.Vertex v)) Top h g lt = absurd (omega arith)
earlier_place m (At (elements.Vertex v)) (At (elements.Region r)) h g lt = absurd (omega arith)
earlier_place m (At (elements.Vertex v)) (At (elements.Vertex w)) h g lt = omega arith
earlier_place m (At (elements.Vertex v)) (At (elements.Transition t)) h g lt = tt
earlier_place m (At (elements.Transition t)) Top h g lt = absurd (omega arith)
earlier_place m (At (elements.Transition t)) (At (elements.Region r)) h g lt = absurd (omega arith)
earlier_place m (At (elements.Transition t)) (At (elements.Vertex v)) h g lt = absurd (omega arith)
earlier_place m (At (elements.Transition t)) (At (elements.Transition u)) h g lt = omega arith

below_all : (m : DraftMachine) (p : FaultPlace) → IsPlace m p → place_number m p < 1 + length m.regions + length m.vertices + length m.transitions
below_all m Top h = omega arith
below_all m (At (elements.Region r)) h = omega arith
below_all m (At (elements.Vertex v)) h = omega arith
below_all m (At (elements.Transition t)) h = omega arith

same_fault : (f g : Fault) → f.element ≡ g.element → f.rule ≡ g.rule → f ≡ g
same_fault f g e d = ap (λ (x : FaultPlace). let y : Fault = record { element = x; rule = f.rule } in y) e ∙ ap (λ n. let y : Fault = record { element = g.element; rule = n } in y) d

pub none_checked : (m : DraftMachine) → IsCheckedBelow m 0 1 []
none_checked m = record {
  exact = λ f. (
    λ c. absurd (let lt = c.1 in omega arith),
    λ w. absurd (let low = (rule_range m f.element f.rule w.0).0 in ⊎_elim (λ lt. let lt' : place_number m f.element < 0 = lt in omega arith) (λ at. let lt' : f.rule < 1 = at.1 in omega arith) w.1),
  );
  ascending = λ i j d lt within. absurd (omega arith);
}

module _ {m : DraftMachine} (shape : HasShape m) where
  pub fault_listed : (place : FaultPlace) (rule : ℕ) (faults : List Fault) (fault : Fault) → fault.element ≡ place → fault.rule ≡ rule → IsPlace m place → Breaks m place rule
      → IsCheckedBelow m (place_number m place) rule faults → IsCheckedBelow m (place_number m place) (rule + 1) (faults ++ fault ∷ [])
  fault_listed place rule faults fault at is there broken h = record {
    exact = λ f. (
      λ c. ⊎_elim
          (λ old. let w = (h.exact f).0 old in (w.0, ⊎_elim inl (λ e. inr (e.0, (let lt : f.rule < rule = e.1 in omega arith))) w.1))
          (λ (same : fault ≡ f). (
            subst (λ (x : Fault). Breaks m x.element x.rule) same (subst (λ p. Breaks m p fault.rule) (sym at) (subst (Breaks m place) (sym is) broken)),
            inr (ap (λ (x : Fault). place_number m x.element) (sym same) ∙ ap (place_number m) at, (let r : f.rule ≡ fault.rule = ap (λ (x : Fault). x.rule) (sym same) in omega arith)),
          ))
          (Contains-push_cases faults fault f c),
      λ w. ⊎_elim
          (λ lt. Contains-append_left faults (fault ∷ []) f ((h.exact f).1 (w.0, inl lt)))
          (λ e. ⊎_elim
          (λ (here : f.rule ≡ rule).
          let same : fault ≡ f = same_fault fault f (at ∙ same_place m place f.element there (breaks_there m shape f.element f.rule w.0) (sym e.0)) (is ∙ sym here) in
          subst (Contains (faults ++ fault ∷ [])) same (Contains-push faults fault))
          (λ (other : f.rule ≡ rule → ⊥). Contains-append_left faults (fault ∷ []) f ((h.exact f).1 (w.0, inr (e.0, (let lt : f.rule < rule + 1 = e.1 in omega arith)))))
          (cases_eq f.rule rule)) w.1,
    );
    ascending = all_pairs_push IsEarlierFault faults fault h.ascending (λ k d lt.
        let f = get_or faults k d in
        let w = (h.exact f).0 (Contains-get_or faults k d lt) in
        let f_there = breaks_there m shape f.element f.rule w.0 in
        ⊎_elim
        (λ before. inl (subst (IsEarlierPlace f.element) (sym at) (earlier_place m f.element place f_there there before)))
        (λ e. inr (same_place m f.element place f_there there e.0 ∙ sym at, (let low : f.rule < rule = e.1 in omega arith))) w.1);
  }

  pub fault_passed : (place : FaultPlace) (rule : ℕ) (faults : List Fault) → IsPlace m place → (Breaks m place rule → ⊥)
      → IsCheckedBelow m (place_number m place) rule faults → IsCheckedBelow m (place_number m place) (rule + 1) faults
  fault_passed place rule faults there kept h = record {
    exact = λ f. (
      λ c. let w = (h.exact f).0 c in (w.0, ⊎_elim inl (λ e. inr (e.0, (let lt : f.rule < rule = e.1 in omega arith))) w.1),
      λ w. ⊎_elim
          (λ lt. (h.exact f).1 (w.0, inl lt))
          (λ e. ⊎_elim
          (λ (here : f.rule ≡ rule). absurd (kept (subst (λ p. Breaks m p rule) (sym (same_place m place f.element there (breaks_there m shape f.element f.rule w.0) (sym e.0)))
          (subst (Breaks m f.element) here w.0))))
          (λ (other : f.rule ≡ rule → ⊥). (h.exact f).1 (w.0, inr (e.0, (let lt : f.rule < rule + 1 = e.1 in omega arith))))
          (cases_eq f.rule rule)) w.1,
    );
    ascending = h.ascending;
  }

  pub place_done : (n rule : ℕ) (faults : List Fault) → 22 ≤ rule → IsCheckedBelow m n rule faults → IsCheckedBelow m (n + 1) 1 faults
  place_done n rule faults last h = record {
    exact = λ f. (
      λ c. let w = (h.exact f).0 c in (w.0, inl (⊎_elim (λ lt. let lt' : place_number m f.element < n = lt in omega arith) (λ e. let e' : place_number m f.element ≡ n = e.0 in omega arith) w.1)),
      λ w. let range = rule_range m f.element f.rule w.0 in (h.exact f).1 (
        w.0,
        ⊎_elim
            (λ lt. let lt' : place_number m f.element < n + 1 = lt in ⊎_elim (λ (e : place_number m f.element ≡ n). inr (e, (let high = range.1 in omega arith)))
            (λ (ne : place_number m f.element ≡ n → ⊥). inl (omega arith)) (cases_eq (place_number m f.element) n))
            (λ e. absurd (let low = range.0 in let lt : f.rule < 1 = e.1 in omega arith)) w.1,
      ),
    );
    ascending = h.ascending;
  }

  pub all_checked : (n : ℕ) (faults : List Fault) → 1 + length m.regions + length m.vertices + length m.transitions ≤ n → IsCheckedBelow m n 1 faults
      → (f : Fault) → Contains faults f ↔ Breaks m f.element f.rule
  all_checked n faults all h f = (
    λ c. ((h.exact f).0 c).0,
    λ b. (h.exact f).1 (b, inl (let lt = below_all m f.element (breaks_there m shape f.element f.rule b) in omega arith)),
  )

-- No fault is listed exactly where no rule is broken.
pub none_listed : (m : DraftMachine) (faults : List Fault) → ((f : Fault) → Contains faults f ↔ Breaks m f.element f.rule) → (faults ≡ []) ↔ KeepsModelRules m
none_listed m [] exact = (
  λ e place n broken. let f : Fault = record { element = place; rule = n } in let c = (exact f).1 broken in let lt = c.1 in omega arith,
  λ keeps. refl,
)
none_listed m (f ∷ faults) exact = (
  λ e. absurd (let no : f ∷ faults ≡ [] → ⊥ = λ x. cc in no e),
  λ keeps. absurd (keeps f.element f.rule ((exact f).0 (0, omega arith, refl))),
)
