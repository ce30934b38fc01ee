-- What paths come to is what walks over arrows reach.
use Rattle.std.proofs.Common.{◌≡◌, ◌↔◌, ◌⊎◌, ◌<◌, ◌≤◌, ℕ, List, [], ◌∷◌, ◌++◌, length, Bool, true, false, get_or, take, Contains, Vec, Global, refl, sym, ap, subst, ◌∙◌, inl, inr, ⊎_elim, arith}
use Rattle.std.proofs.lemmas.Bool.{cases_lt, false≢true}
use Rattle.std.proofs.lemmas.List.{get_or-take, get_or_past, length-take}
use Rattle.pssm_model.specs.declared.ids.VertexId.{VertexId}
use Rattle.pssm_model.specs.declared.ids.RegionId.{RegionId}
use Rattle.pssm_model.specs.declared.ids.TransId.{TransId}
use Rattle.pssm_model.specs.declared.elements.DraftMachine.{DraftMachine}
use Rattle.pssm_model.specs.declared.elements.VertexKind.TheVariants as kinds
use Rattle.pssm_model.specs.Forest.{HasKind}
use Rattle.pssm_model.specs.Legs.{Leaves, Enters}
use Rattle.pssm_model.specs.Shapes.{HasShape}
use Rattle.pssm_model.specs.FiringSets.{IsHistory, IsLateOrigin}
use Rattle.pssm_model.specs.Paths.{IsPseudostate, ComesAfter, IsJunctionPath, Reaches, LeadsOn}
use Rattle.pssm_model.specs.Paths.ComesAfter.{end, inner}
use Rattle.pssm_model.specs.Paths.IsJunctionPath.{one, more}
use Rattle.pssm_model.specs.Paths.Reaches.{by, on}
use Rattle.pssm_model.specs.Paths.LeadsOn.{next, after}
use Rattle.pssm_wellformed.specs.declared.ends.End.TheVariants.{Source, Target}
use Rattle.pssm_wellformed.specs.declared.walks.Walk.TheVariants.{Junctions, Inner, Through}
use Rattle.pssm_wellformed.specs.inner.Lists.{list_at}
use Rattle.pssm_wellformed.specs.inner.Reach.{IsReached}
use Rattle.pssm_wellformed.specs.inner.Reach.IsReached.{at_first, by_arrow}
use Rattle.pssm_wellformed.specs.inner.Cycles.{GoesRound}
use Rattle.pssm_wellformed.specs.inner.Ends.{vertex_number, region_number}
use Rattle.pssm_wellformed.specs.inner.Walks.{AreArrows, IsDefault, number_of_region, AreLeads, IsLateTarget}
use Rattle.pssm_wellformed.specs.inner.Strays.{IsReachedLate}
use Rattle.pssm_wellformed.proofs.Walking.{only_first}
use Rattle.pssm_wellformed.proofs.Places.{end_there, end_exists, end_only, kind_there}
use Rattle.pssm_wellformed.proofs.Arrows.{from_region_there, to_region_there}

-- a list of one number has it
pub here_first : (a : ℕ) → Contains (a ∷ []) a
here_first a = (0, omega arith, refl)

-- what can be reached from numbers that can be reached
pub reach_from : (g : List (Vec ℕ Global)) (first others : List ℕ) → ((b : ℕ) → Contains first b → IsReached g others b) → (b : ℕ) → IsReached g first b → IsReached g others b
reach_from g first others from _ (at_first {b = b} c) = from b c
reach_from g first others from _ (by_arrow {a = a} {b = b} r c) = by_arrow (reach_from g first others from a r) c

module _ {m : DraftMachine} {g : List (Vec ℕ Global)} (h : AreArrows m Inner g) (t : TransId) (v : VertexId) (enters : Enters m t v) where
  -- inner paths
  pub after_reached : (w : VertexId) → ComesAfter m t w → IsReached g (v.0 ∷ []) w.0
  after_reached _ (end {v = w} e) = at_first (subst (λ (x : VertexId). Contains (v.0 ∷ []) x.0) (end_only m Target t v w enters e) (here_first v.0))
  after_reached _ (inner {v = q} {w = w} u before is leaves e) = by_arrow (after_reached q before) ((h.arrows q.0 w.0).1 (u, (is, leaves, e)))

  pub reached_after : (b : ℕ) → IsReached g (v.0 ∷ []) b → ComesAfter m t (vertex_number b)
  reached_after _ (at_first {b = b} c) = end (subst (λ n. Enters m t (vertex_number n)) (only_first v.0 b c) enters)
  reached_after _ (by_arrow {a = a} {b = b} r c) = let w = (h.arrows a b).0 c in inner w.0 (reached_after a r) w.1.0 w.1.1 w.1.2

-- a junction path goes on from its end
path_extend : (m : DraftMachine) (path : List TransId) (q w : VertexId) (u : TransId) → IsJunctionPath m path q → HasKind m q kinds.Junction → Leaves m u q → Enters m u w
    → IsJunctionPath m (path ++ u ∷ []) w
path_extend m _ q w u (one e) junction leaves enters = more junction e leaves (one enters)
path_extend m _ q w u (more {u = x} {rest = rest} j e l p) junction leaves enters = more j e l (path_extend m (x ∷ rest) q w u p junction leaves enters)

module _ {m : DraftMachine} (shape : HasShape m) {g : List (Vec ℕ Global)} (h : AreArrows m Junctions g) where
  -- junction paths
  pub path_reached : (path : List TransId) (v w : VertexId) → IsJunctionPath m path w → ((t : TransId) (rest : List TransId) → path ≡ t ∷ rest → Enters m t v) → IsReached g (v.0 ∷ []) w.0
  path_reached _ v w (one {t = t} e) enters =
      at_first (subst (λ (x : VertexId). Contains (v.0 ∷ []) x.0) (end_only m Target t v w (enters t [] refl) e) (here_first v.0))
  path_reached _ v w (more {t = t} {u = u} {rest = rest} {v = q} junction e l p) enters =
      let same : v ≡ q = end_only m Target t v q (enters t (u ∷ rest) refl) e in
      let far = end_exists m Target u (end_there m shape Source u q l).0 in
      let arrow : Contains (list_at g v.0) far.0.0 = (h.arrows v.0 far.0.0).1 (u, (subst (λ x. HasKind m x kinds.Junction) (sym same) junction, subst (Leaves m u) (sym same) l, far.1)) in
      reach_from g (far.0.0 ∷ []) (v.0 ∷ [])
      (λ b c. subst (IsReached g (v.0 ∷ [])) (only_first far.0.0 b c) (by_arrow (at_first (here_first v.0)) arrow)) w.0
      (path_reached (u ∷ rest) far.0 w p (λ x xs e'. let first : u ≡ x = cc in subst (λ y. Enters m y far.0) first far.1))

  pub reached_path : (t : TransId) (v : VertexId) → Enters m t v → (b : ℕ) → IsReached g (v.0 ∷ []) b → (rest : List TransId) × IsJunctionPath m (t ∷ rest) (vertex_number b)
  reached_path t v enters _ (at_first {b = b} c) = ([], one (subst (λ n. Enters m t (vertex_number n)) (only_first v.0 b c) enters))
  reached_path t v enters _ (by_arrow {a = a} {b = b} r c) =
      let path = reached_path t v enters a r in
      let w = (h.arrows a b).0 c in
      (path.0 ++ w.0 ∷ [], path_extend m (t ∷ path.0) (vertex_number a) (vertex_number b) w.0 path.1 w.1.0 w.1.1 w.1.2)

module _ {m : DraftMachine} {g : List (Vec ℕ Global)} (h : AreArrows m Through g) (first : List ℕ) (are : (b : ℕ) → Contains first b ↔ IsLateTarget m b) where
  -- what initial, history and choice vertices reach
  reaches_reached : (w v : VertexId) → IsLateOrigin m w → Reaches m w v → IsReached g first v.0
  reaches_reached w _ late (by {w = v} t leaves enters) = at_first ((are v.0).1 (t, w, late, leaves, enters))
  reaches_reached w _ late (on {w = v} {q = q} before is t leaves enters) = by_arrow (reaches_reached w q late before) ((h.arrows q.0 v.0).1 (t, (is, leaves, enters)))

  reached_reaches : (b : ℕ) → IsReached g first b → IsReachedLate m (vertex_number b)
  reached_reaches _ (at_first {b = b} c) = let l = (are b).0 c in (l.1, l.2, by l.0 l.3 l.4)
  reached_reaches _ (by_arrow {a = a} {b = b} r c) =
      let before = reached_reaches a r in let w = (h.arrows a b).0 c in (before.0, before.1, on before.2 w.1.0 w.0 w.1.1 w.1.2)

  pub late_iff : (v : VertexId) → IsReached g first v.0 ↔ IsReachedLate m v
  late_iff v = (λ r. reached_reaches v.0 r, λ l. reaches_reached l.0 v l.1 l.2)

history_is_pseudostate : (m : DraftMachine) (v : VertexId) → IsHistory m v → IsPseudostate m v
history_is_pseudostate m v h = ⊎_elim (λ s. (kinds.ShallowHistory, s, tt)) (λ d. (kinds.DeepHistory, d, tt)) h

-- The vertex is the first one, or the first one leads on to it.
abbrev IsAtOrOn : DraftMachine → VertexId → VertexId → Type 0
IsAtOrOn m v w = (v ≡ w) ⊎ LeadsOn m v w

-- A number to which arrows come from a vertex: a pseudostate to which the vertex leads on, or a region into which it or such a pseudostate leads by default.
record IsComeTo (m : DraftMachine) (v : VertexId) (b : ℕ) : Type 0 where
  vertex : IsPseudostate m (vertex_number b) → LeadsOn m v (vertex_number b)
  region : (r : RegionId) → b ≡ number_of_region m r → (w : VertexId) × IsAtOrOn m v w × IsDefault m w r

-- one lead more
leads_further : (m : DraftMachine) (v w q : VertexId) → IsAtOrOn m v w → LeadsOn m w q → LeadsOn m v q
leads_further m v w q before last = ⊎_elim (λ same. subst (λ x. LeadsOn m x q) (sym same) last) (λ leads. after leads last) before

-- a pseudostate is there
pseudostate_there : (m : DraftMachine) (v : VertexId) → IsPseudostate m v → v.0 < length m.vertices
pseudostate_there m v is = kind_there m v is.0 is.1

module _ {m : DraftMachine} (shape : HasShape m) {g : List (Vec ℕ Global)} (h : AreLeads m g) where
  -- chains of leads through pseudostates
  pub leads_reached : (v w : VertexId) → LeadsOn m v w → IsReached g (list_at g v.0) w.0
  leads_reached v w (next from to leads) = ⊎_elim
      (λ t. at_first ((h.arrows v.0 w.0).1 (inl (inl (t.0, (from, t.1, t.2))))))
      (λ d.
      let place = number_of_region m d.0 in
      by_arrow (at_first ((h.arrows v.0 place).1 (inl (inr (d.0, refl, (d.1, d.2, d.3)))))) ((h.arrows place w.0).1 (inr (d.0, refl, d.4))))
      leads
  leads_reached v w (after {q = q} before rest) =
      reach_from g (list_at g q.0) (list_at g v.0) (λ b c. by_arrow (leads_reached v q before) c) w.0 (leads_reached q w rest)

  -- one arrow more, from the number of a vertex or of a region
  comes_further : (v : VertexId) (a b : ℕ) → (IsPseudostate m (vertex_number a) → IsAtOrOn m v (vertex_number a))
      → ((r : RegionId) → a ≡ number_of_region m r → (w : VertexId) × IsAtOrOn m v w × IsDefault m w r) → Contains (list_at g a) b → IsComeTo m v b
  comes_further v a b at_vertex at_region c = ⊎_elim
      (λ out. ⊎_elim
      (λ t.
      let there = (end_there m shape Target t.0 (vertex_number b) t.1.2).1 in
      record {
        vertex = λ to. leads_further m v (vertex_number a) (vertex_number b) (at_vertex t.1.0) (next t.1.0 to (inl (t.0, t.1.1, t.1.2)));
        region = λ r is. absurd (omega arith);
      })
      (λ d.
      let behind = (to_region_there m shape a b d).1 in
      record {
        vertex = λ to. absurd (let there = pseudostate_there m (vertex_number b) to in omega arith);
        region = λ r is.
            let same : d.0 ≡ r = ap region_number (let at = d.1 in omega arith) in
            (vertex_number a, at_vertex (history_is_pseudostate m (vertex_number a) d.2.0), subst (IsDefault m (vertex_number a)) same d.2);
      })
      out)
      (λ d.
      let there = (from_region_there m shape a b d).2 in
      let from = at_region d.0 d.1 in
      let w = from.0 in
      let is = from.2 in
      record {
        vertex = λ to. leads_further m v w (vertex_number b) from.1
            (next (history_is_pseudostate m w is.0) to (inr (d.0, is.0, is.1, is.2, d.2)));
        region = λ r at. absurd (omega arith);
      })
      ((h.arrows a b).0 c)

  -- what holds of each number to which arrows come from a vertex
  comes_to : (v : VertexId) → v.0 < length m.vertices → (b : ℕ) → IsReached g (list_at g v.0) b → IsComeTo m v b
  comes_to v lt _ (at_first {b = b} c) = comes_further v v.0 b (λ from. inl refl) (λ r is. absurd (omega arith)) c
  comes_to v lt _ (by_arrow {a = a} {b = b} r c) = let before = comes_to v lt a r in comes_further v a b (λ from. inr (before.vertex from)) before.region c

  -- a vertex from which arrows go is a pseudostate
  leaves_pseudostate : (a b : ℕ) → a < length m.vertices → IsReached g (list_at g a) b → IsPseudostate m (vertex_number a)
  leaves_pseudostate a _ lt (at_first {b = b} c) = ⊎_elim
      (λ out. ⊎_elim (λ t. t.1.0) (λ d. history_is_pseudostate m (vertex_number a) d.2.0) out)
      (λ d. absurd (let behind = (from_region_there m shape a b d).0 in omega arith))
      ((h.arrows a b).0 c)
  leaves_pseudostate a _ lt (by_arrow {a = d} {b = b} r c) = leaves_pseudostate a d lt r

  -- a vertex lies on a cycle of pseudostates where arrows lead from it back to it
  pub round_iff : (v : VertexId) → v.0 < length m.vertices → GoesRound g v.0 ↔ LeadsOn m v v
  round_iff v lt = (λ round. (comes_to v lt v.0 round).vertex (leaves_pseudostate v.0 v.0 lt round), λ leads. leads_reached v v leads)

-- what leads on is a pseudostate
pub leader_is_pseudostate : (m : DraftMachine) (v w : VertexId) → LeadsOn m v w → IsPseudostate m v
leader_is_pseudostate m v w (next from to leads) = from
leader_is_pseudostate m v w (after {q = q} before rest) = leader_is_pseudostate m v q before

-- what leads on is there
pub leader_there : (m : DraftMachine) (v w : VertexId) → LeadsOn m v w → v.0 < length m.vertices
leader_there m v w leads = pseudostate_there m v (leader_is_pseudostate m v w leads)

-- the marks up to the last vertex are those of the vertices on cycles of pseudostates
pub vertex_rounds : (m : DraftMachine) → HasShape m → (g : List (Vec ℕ Global)) → AreLeads m g → (marks : List Bool)
    → ((a : ℕ) → (get_or marks a false ≡ true) ↔ GoesRound g a) → (v : VertexId) → (get_or (take (length m.vertices) marks) v.0 false ≡ true) ↔ LeadsOn m v v
vertex_rounds m shape g leads marks are v = ⊎_elim
    (λ low.
    let same : get_or (take (length m.vertices) marks) v.0 false ≡ get_or marks v.0 false = get_or-take (length m.vertices) marks v.0 false low in
    let round = round_iff shape leads v low in
    (λ on. round.0 ((are v.0).0 (sym same ∙ on)), λ on. same ∙ (are v.0).1 (round.1 on)))
    (λ high.
    let few : length (take (length m.vertices) marks) ≤ v.0 = let is = length-take (length m.vertices) marks in omega arith in (
      λ on. absurd (false≢true (sym (get_or_past (take (length m.vertices) marks) v.0 false few) ∙ on)),
      λ on. absurd (let low = leader_there m v v on in omega arith),
    ))
    (cases_lt v.0 (length m.vertices))
