-- The stamps of regions in which ends lie.
use Rattle.std.proofs.Common.{◌≡◌, ◌↔◌, ◌<◌, ◌≤◌, ◌+◌, ◌++◌, ◌∷◌, [], ℕ, List, length, Bool, false, IsTrue, get_or, Option, Some, None, MatchOption, sym, ap, subst, ◌∙◌, ⊎_elim, arith, length-append}
use Rattle.std.specs.List.{AllPairs}
use Rattle.std.proofs.lemmas.Bool.{cases_eq, cases_order}
use Rattle.std.proofs.lemmas.List.{get_or_default, get_or_append_left}
use Rattle.std.proofs.lemmas.List.Elements.{Contains-get_or}
use Rattle.pssm_model.specs.declared.ids.VertexId.{VertexId}
use Rattle.pssm_model.specs.declared.ids.RegionId.{RegionId}
use Rattle.pssm_model.specs.declared.ids.TransId.{TransId}
use Rattle.pssm_model.specs.declared.elements.DraftMachine.{DraftMachine}
use Rattle.pssm_model.specs.Forest.{LiesInRegion, LiesInState}
use Rattle.pssm_model.specs.Shapes.{HasShape}
use Rattle.pssm_model.specs.WellFormed.{LieApart}
use Rattle.pssm_wellformed.specs.declared.ends.End.{End}
use Rattle.pssm_wellformed.specs.inner.Ends.{HasEnd, HasRegion, vertex_number, region_number, transition_number}
use Rattle.pssm_wellformed.specs.inner.Apart.{EndLiesIn, EndLiesInside, AreEnds, LieApartAround, AreApartMarks, AreStamps, EndLiesInOneOf, placed, AreStamped}
use Rattle.pssm_wellformed.proofs.Listing.{placed_apart}
use Rattle.pssm_wellformed.proofs.Places.{end_only}
use Rattle.pssm_wellformed.proofs.Chains.{one_region_inside}
use Rattle.pssm_wellformed.proofs.Pushing.{get_pushed}

-- stamps up to a number are stamps up to the next
pub stamps_later : (m : DraftMachine) (most : ℕ) (stamps : List ℕ) → AreStamps m most stamps → AreStamps m (most + 1) stamps
stamps_later m most stamps h = record { width = h.width; low = λ r. let le = h.low r in omega arith }

-- a stamp is put
pub stamps_put : (m : DraftMachine) (r stamp : ℕ) (old new : List ℕ) → length new ≡ length old → get_or new r 0 ≡ stamp
    → ((q : ℕ) → (q ≡ r → ⊥) → get_or new q 0 ≡ get_or old q 0) → AreStamps m stamp old → AreStamps m stamp new
stamps_put m r stamp old new width here elsewhere h = record {
  width = width ∙ h.width;
  low = λ q. ⊎_elim
      (λ (same : q ≡ r). let e : get_or new q 0 ≡ stamp = ap (λ k. get_or new k 0) same ∙ here in omega arith)
      (λ (other : q ≡ r → ⊥). let e = elsewhere q other in let le = h.low q in omega arith) (cases_eq q r);
}

-- the region of an end, where it lies in one
pub region_of : (m : DraftMachine) (end : End) (s w : VertexId) (t : TransId) (found : Option RegionId) → HasEnd m end t w
    → MatchOption found (LiesInState m w s → ⊥) (λ r. HasRegion m s.0 r.0 × LiesInRegion m w r)
    → MatchOption found (EndLiesInside m end s t → ⊥) (λ r. HasRegion m s.0 r.0 × EndLiesIn m end r t)
region_of m end s w t (Some r) has is = (is.0, (w, has, is.1))
region_of m end s w t None has none = λ h. none (subst (λ v. LiesInState m v s) (end_only m end t h.0 w h.1 has) h.2)

module _ {m : DraftMachine} (shape : HasShape m) (end : End) (s : VertexId) where
  -- an end lies in one region of the State
  one_region_of_end : (t : TransId) (q r : ℕ) → EndLiesInOneOf m end s q t → EndLiesInOneOf m end s r t → q ≡ r
  one_region_of_end t q r h g =
      let same : h.1.0 ≡ g.1.0 = end_only m end t h.1.0 g.1.0 h.1.1 g.1.1 in
      ap (λ (x : RegionId). x.0) (one_region_inside m shape g.1.0 s (region_number q) (region_number r) h.0 g.0 (subst (λ v. LiesInRegion m v (region_number q)) same h.1.2) g.1.2)

  module _ (ts : List TransId) where
    pub stamps_begin : (last : ℕ) (stamps : List ℕ) → AreStamps m last stamps → AreStamped m end s ts 0 (last + 1) stamps
    stamps_begin last stamps h = record {
      are = stamps_later m last stamps h;
      stamped = λ r. (λ e. absurd (let le = h.low r in omega arith), λ w. absurd (let lt = w.1 in omega arith));
      inside = λ k lt. absurd (omega arith);
      apart = λ j k r lt below a b. omega arith;
    }

    pub stamps_go_on : (i stamp r : ℕ) (old new : List ℕ) → AreStamped m end s ts i stamp old → EndLiesInOneOf m end s r (placed ts i) → (get_or old r 0 ≡ stamp → ⊥)
        → length new ≡ length old → get_or new r 0 ≡ stamp → ((q : ℕ) → (q ≡ r → ⊥) → get_or new q 0 ≡ get_or old q 0) → AreStamped m end s ts (i + 1) stamp new
    stamps_go_on i stamp r old new h lies fresh width here elsewhere = record {
      are = stamps_put m r stamp old new width here elsewhere h.are;
      stamped = λ q. ⊎_elim
          (λ (same : q ≡ r). (
            λ e. (i, omega arith, subst (λ x. EndLiesInOneOf m end s x (placed ts i)) (sym same) lies),
            λ w. ap (λ k. get_or new k 0) same ∙ here,
          ))
          (λ (other : q ≡ r → ⊥). (
            λ e. let w = (h.stamped q).0 (sym (elsewhere q other) ∙ e) in (w.0, (let lt = w.1 in omega arith), w.2),
            λ w. ⊎_elim
                (λ (last : w.0 ≡ i). absurd (other (one_region_of_end (placed ts i) q r (subst (λ k. EndLiesInOneOf m end s q (placed ts k)) last w.2) lies)))
                (λ (before : w.0 ≡ i → ⊥). elsewhere q other ∙ (h.stamped q).1 (w.0, (let lt = w.1 in omega arith), w.2)) (cases_eq w.0 i),
          )) (cases_eq q r);
      inside = λ k lt. ⊎_elim
          (λ (last : k ≡ i). subst (λ n. EndLiesInside m end s (placed ts n)) (sym last) (lies.1.0, lies.1.1, (region_number r, lies.0, lies.1.2)))
          (λ (before : k ≡ i → ⊥). h.inside k (omega arith)) (cases_eq k i);
      apart = λ j k q lt below a b. ⊎_elim
          (λ (last : k ≡ i).
          let same = one_region_of_end (placed ts i) q r (subst (λ n. EndLiesInOneOf m end s q (placed ts n)) last b) lies in
          fresh (subst (λ x. get_or old x 0 ≡ stamp) same ((h.stamped q).1 (j, omega arith, a))))
          (λ (before : k ≡ i → ⊥). h.apart j k q lt (omega arith) a b) (cases_eq k i);
    }

    pub stamps_end : (n stamp : ℕ) (stamps : List ℕ) → AreStamped m end s ts n stamp stamps → length ts ≤ n → LieApart m s (AreEnds m end ts)
    stamps_end n stamp stamps h all = record {
      inside = λ t w e.
          let at : placed ts e.0.0 ≡ t = get_or_default ts e.0.0 (transition_number 0) t e.0.1 ∙ e.0.2 in
          let a = h.inside e.0.0 (let lt = e.0.1 in omega arith) in
          let a' : EndLiesInside m end s t = subst (EndLiesInside m end s) at a in
          subst (λ v. LiesInState m v s) (end_only m end t a'.0 w a'.1 e.1) a'.2;
      apart = λ t u v w r ne e f owner lv lw.
          let j = e.0.0 in let k = f.0.0 in
          let j_within : j < length ts = e.0.1 in
          let k_within : k < length ts = f.0.1 in
          let at_j : placed ts j ≡ t = get_or_default ts j (transition_number 0) t e.0.1 ∙ e.0.2 in
          let at_k : placed ts k ≡ u = get_or_default ts k (transition_number 0) u f.0.1 ∙ f.0.2 in
          let first : EndLiesInOneOf m end s r.0 (placed ts j) = subst (EndLiesInOneOf m end s r.0) (sym at_j) (owner, (v, e.1, lv)) in
          let second : EndLiesInOneOf m end s r.0 (placed ts k) = subst (EndLiesInOneOf m end s r.0) (sym at_k) (owner, (w, f.1, lw)) in
          ⊎_elim (λ (same : j ≡ k). ne (sym at_j ∙ ap (placed ts) same ∙ at_k))
          (⊎_elim
          (λ (lt : j < k). h.apart j k r.0 lt (omega arith) first second)
          (λ (gt : k < j). h.apart k j r.0 gt (omega arith) second first))
          (cases_order j k);
    }

    pub stamped_twice : (i stamp r : ℕ) (stamps : List ℕ) → AllPairs (λ t u. t.0 < u.0) ts → i < length ts → AreStamped m end s ts i stamp stamps
        → EndLiesInOneOf m end s r (placed ts i) → get_or stamps r 0 ≡ stamp → LieApart m s (AreEnds m end ts) → ⊥
    stamped_twice i stamp r stamps up within h second e apart =
        let w = (h.stamped r).0 e in
        let j = w.0 in
        let lt : j < i = w.1 in
        let first = w.2 in
        apart.apart (placed ts j) (placed ts i) first.1.0 second.1.0 (region_number r)
        (placed_apart ts up j i lt within)
        (Contains-get_or ts j (transition_number 0) (omega arith), first.1.1) (Contains-get_or ts i (transition_number 0) within, second.1.1) first.0 first.1.2 second.1.2

-- the mark of one vertex more
pub marks_pushed : (m : DraftMachine) (near far : End) (n : ℕ) (b : Bool) (marks : List Bool) → (IsTrue b ↔ LieApartAround m near far (vertex_number n))
    → AreApartMarks m near far n marks → AreApartMarks m near far (n + 1) (marks ++ b ∷ [])
marks_pushed m near far n b marks iff h = record {
  width = let w = h.width in omega (arith, length-append marks (b ∷ []));
  apart = λ v lt. ⊎_elim
      (λ (e : v.0 ≡ n).
      let same : get_or (marks ++ b ∷ []) v.0 false ≡ b = ap (λ k. get_or (marks ++ b ∷ []) k false) (e ∙ sym h.width) ∙ get_pushed marks b false in
      let at : IsTrue b ↔ LieApartAround m near far v = subst (λ k. IsTrue b ↔ LieApartAround m near far (vertex_number k)) (sym e) iff in
      (λ is. at.0 (sym same ∙ is), λ w. same ∙ at.1 w))
      (λ (ne : v.0 ≡ n → ⊥).
      let there : v.0 < length marks = let w = h.width in omega arith in
      let same = get_or_append_left marks (b ∷ []) false v.0 there in
      let before = h.apart v (omega arith) in
      (λ is. before.0 (sym same ∙ is), λ w. same ∙ before.1 w))
      (cases_eq v.0 n);
}

-- what a mark says
pub looked_up : (m : DraftMachine) (near far : End) (n : ℕ) (marks : List Bool) (v : VertexId) (b : Bool) → AreApartMarks m near far n marks → v.0 < n
    → (v.0 < length marks → get_or marks v.0 false ≡ b) → IsTrue b ↔ LieApartAround m near far v
looked_up m near far n marks v b h lt is =
    let same : get_or marks v.0 false ≡ b = is (let w = h.width in omega arith) in
    (λ t. (h.apart v lt).0 (same ∙ t), λ w. sym same ∙ (h.apart v lt).1 w)
