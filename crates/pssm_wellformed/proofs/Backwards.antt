-- The vertices of junction paths to a vertex are what walks backwards reach from the last source.
use Rattle.std.proofs.Common.{◌≡◌, ◌⊎◌, ℕ, zero, suc, List, [], ◌∷◌, Contains, Vec, Global, refl, sym, subst, ◌∙◌, inl, inr, ⊎_elim, arith}
use Rattle.pssm_model.specs.declared.ids.VertexId.{VertexId}
use Rattle.pssm_model.specs.declared.ids.TransId.{TransId}
use Rattle.pssm_model.specs.declared.elements.DraftMachine.{DraftMachine}
use Rattle.pssm_model.specs.declared.elements.VertexKind.TheVariants as kinds
use Rattle.pssm_model.specs.Forest.{HasKind}
use Rattle.pssm_model.specs.Legs.{Leaves, Enters}
use Rattle.pssm_model.specs.Paths.{IsJunctionPath, IsOnPath}
use Rattle.pssm_model.specs.Paths.IsJunctionPath.{one, more}
use Rattle.pssm_wellformed.specs.declared.ends.End.TheVariants.{Source, Target}
use Rattle.pssm_wellformed.specs.declared.walks.Walk.TheVariants.{Back}
use Rattle.pssm_wellformed.specs.inner.Reach.{IsReached}
use Rattle.pssm_wellformed.specs.inner.Reach.IsReached.{at_first, by_arrow}
use Rattle.pssm_wellformed.specs.inner.Ends.{vertex_number}
use Rattle.pssm_wellformed.specs.inner.Walks.{AreArrows}
use Rattle.pssm_wellformed.specs.inner.Strays.{IsLast}
use Rattle.pssm_wellformed.proofs.Walking.{only_first}
use Rattle.pssm_wellformed.proofs.Closures.{here_first}
use Rattle.pssm_wellformed.proofs.Places.{end_only}

-- an item of a list is its first, or one of the rest
first_or_rest : (t u : TransId) (rest : List TransId) → Contains (t ∷ rest) u → (t ≡ u) ⊎ Contains rest u
first_or_rest t u rest (zero, lt, e) = inl e
first_or_rest t u rest (suc k, lt, e) = inr (k, omega arith, e)

pub of_rest : (t u : TransId) (rest : List TransId) → Contains rest u → Contains (t ∷ rest) u
of_rest t u rest c = let lt = c.1 in (suc c.0, omega arith, c.2)

module _ {m : DraftMachine} {g : List (Vec ℕ Global)} (h : AreArrows m Back g) (e : TransId) (x : VertexId) (leaves : Leaves m e x) where
  -- each vertex of a path to a vertex that is no junction is that vertex, or is reached backwards
  pub path_back : (path : List TransId) (v y : VertexId) → (HasKind m v kinds.Junction → ⊥) → IsJunctionPath m path v → IsLast path e → IsOnPath m path y
      → (y ≡ v) ⊎ IsReached g (x.0 ∷ []) y.0
  path_back _ v y plain (one {t = t} enters) last on =
      let same : t ≡ on.0 = ⊎_elim (λ s. s) (λ none. absurd (let lt = none.1 in omega arith)) (first_or_rest t on.0 [] on.1) in
      let is : on.0 ≡ e = sym same ∙ last in
      ⊎_elim
      (λ l. inr (subst (λ (q : VertexId). IsReached g (x.0 ∷ []) q.0) (end_only m Source e x y leaves (subst (λ u. Leaves m u y) is l)) (at_first (here_first x.0))))
      (λ n. inl (end_only m Target t y v (subst (λ u. Enters m u y) (sym same) n) enters)) on.2
  path_back _ v y plain (more {t = t} {u = u} {rest = rest} {v = q} junction enters l p) last on =
      let of_q : IsReached g (x.0 ∷ []) q.0 =
      ⊎_elim (λ same. absurd (plain (subst (λ w. HasKind m w kinds.Junction) same junction))) (λ r. r)
      (path_back (u ∷ rest) v q plain p last (u, (0, omega arith, refl), inl l)) in
      ⊎_elim
      (λ (same : t ≡ on.0). ⊎_elim
      (λ from. inr (by_arrow of_q ((h.arrows q.0 y.0).1 (t, (junction, enters, subst (λ w. Leaves m w y) (sym same) from)))))
      (λ to. inr (subst (λ (w : VertexId). IsReached g (x.0 ∷ []) w.0) (end_only m Target t q y enters (subst (λ w. Enters m w y) (sym same) to)) of_q)) on.2)
      (λ later. path_back (u ∷ rest) v y plain p last (on.0, later, on.2))
      (first_or_rest t on.0 (u ∷ rest) on.1)

  -- what is reached backwards begins a path
  pub back_path : (v : VertexId) → Enters m e v → (b : ℕ) → IsReached g (x.0 ∷ []) b
      → (t : TransId) × (rest : List TransId) × Leaves m t (vertex_number b) × IsLast (t ∷ rest) e × IsJunctionPath m (t ∷ rest) v × Contains (t ∷ rest) e
  back_path v enters _ (at_first {b = b} c) = (e, [], subst (λ n. Leaves m e (vertex_number n)) (only_first x.0 b c) leaves, refl, one enters, (0, omega arith, refl))
  back_path v enters _ (by_arrow {a = a} {b = b} r c) =
      let path = back_path v enters a r in
      let w = (h.arrows a b).0 c in
      (w.0, path.0 ∷ path.1, w.1.2, path.3, more w.1.0 w.1.1 path.2 path.4, of_rest w.0 e (path.0 ∷ path.1) path.5)

  -- from a vertex that is no junction nothing else is reached backwards
  pub only_itself : (HasKind m x kinds.Junction → ⊥) → (b : ℕ) → IsReached g (x.0 ∷ []) b → x.0 ≡ b
  only_itself plain _ (at_first {b = b} c) = only_first x.0 b c
  only_itself plain _ (by_arrow {a = a} {b = b} r c) =
      let same = only_itself plain a r in
      let w = (h.arrows a b).0 c in
      absurd (plain (subst (λ n. HasKind m (vertex_number n) kinds.Junction) (sym same) w.1.0))
