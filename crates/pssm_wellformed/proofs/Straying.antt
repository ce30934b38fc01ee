-- What the rules of paths ask of a transition, and what walks over arrows say of it.
use Rattle.std.proofs.Common.{◌≡◌, ◌↔◌, ◌⊎◌, ◌<◌, ℕ, List, [], ◌∷◌, length, Bool, true, false, IsTrue, Result, Ok, Err, IfOk, Some, Vec, Global, refl, sym, ap, subst, ◌∙◌, inl, inr, ⊎_elim, arith}
use Rattle.std.proofs.lemmas.Bool.{cases_eq, false≢true}
use Rattle.pssm_model.specs.declared.ids.VertexId.{VertexId}
use Rattle.pssm_model.specs.declared.ids.RegionId.{RegionId}
use Rattle.pssm_model.specs.declared.ids.TransId.{TransId}
use Rattle.pssm_model.specs.declared.elements.DraftMachine.{DraftMachine}
use Rattle.pssm_model.specs.declared.elements.VertexKind.TheVariants as kinds
use Rattle.pssm_model.specs.declared.elements.TransKind.TheVariants.{Local}
use Rattle.pssm_model.specs.declared.elements.Owner.{Owner}
use Rattle.pssm_model.specs.declared.elements.Owner.TheVariants.{Top, Region, State}
use Rattle.pssm_model.specs.Forest.{HasKind, owner_of, LiesInRegion, LiesInState}
use Rattle.pssm_model.specs.Legs.{Leaves, Enters, Goes}
use Rattle.pssm_model.specs.Shapes.{HasShape}
use Rattle.pssm_model.specs.FiringSets.{IsLateOrigin}
use Rattle.pssm_model.specs.Paths.{IsJunctionPath}
use Rattle.pssm_model.specs.Paths.IsJunctionPath.{one, more}
use Rattle.pssm_model.specs.Legs.{IsPoint}
use Rattle.pssm_model.specs.declared.elements.VertexKind.{VertexKind}
use Rattle.pssm_model.specs.WellFormed.{LeavesLocally, IsBadLocal, LeavesRegion, GoesOutside, StaysInside}
use Rattle.pssm_model.proofs.ElementLaws.{same_vertex, kind_unique}
use Rattle.pssm_wellformed.specs.declared.ends.End.TheVariants.{Source}
use Rattle.pssm_wellformed.specs.declared.walks.Walk.TheVariants.{Junctions, Inner, Back}
use Rattle.pssm_wellformed.specs.inner.Reach.{IsReached}
use Rattle.pssm_wellformed.specs.inner.Reach.IsReached.{at_first, by_arrow}
use Rattle.pssm_wellformed.specs.inner.Ends.{vertex_number}
use Rattle.pssm_wellformed.specs.inner.Walks.{AreArrows, LiesIn, Strays}
use Rattle.pssm_wellformed.specs.inner.Strays.{StraysFrom, ComesFromAfar, IsLast}
use Rattle.pssm_wellformed.proofs.Walking.{reached_within, only_first}
use Rattle.pssm_wellformed.proofs.Arrows.{arrows_within}
use Rattle.pssm_wellformed.proofs.Closures.{after_reached, reached_after, path_reached, reached_path}
use Rattle.pssm_wellformed.proofs.Backwards.{path_back, back_path, only_itself}
use Rattle.pssm_wellformed.proofs.Chains.{one_region_inside}
use Rattle.pssm_wellformed.proofs.Climbing.{lies_decided}
use Rattle.pssm_wellformed.proofs.Places.{end_there, end_only, owner_may, one_state, one_region}

-- A walk from the vertex comes to one that is not this other vertex and lies outside the place.
abbrev pub StraysAside : DraftMachine → List (Vec ℕ Global) → VertexId → Owner → VertexId → Type 0
StraysAside m onward start place other =
    (w : ℕ) × IsReached onward (start.0 ∷ []) w × (other ≡ vertex_number w → ⊥) × (LiesIn m (vertex_number w) place → ⊥)

-- inner paths that leave a region
pub leaves_iff : (m : DraftMachine) (g : List (Vec ℕ Global)) → AreArrows m Inner g → (t : TransId) (v : VertexId) → Enters m t v → (r : RegionId)
    → Strays m g v (Region r) ↔ LeavesRegion m t r
leaves_iff m g h t v enters r = (
  λ s. (vertex_number s.0, reached_after h t v enters s.0 s.1, s.2),
  λ l. (l.0.0, after_reached h t v enters l.0 l.1, l.2),
)

-- the State from which a transition goes locally is one
pub one_local_state : (m : DraftMachine) (t : TransId) (s q : VertexId) → LeavesLocally m t s → LeavesLocally m t q → s ≡ q
one_local_state m t s q h g = ⊎_elim
    (λ a. ⊎_elim (λ b. end_only m Source t s q a.0 b.0)
    (λ b. let same = end_only m Source t s b.0 a.0 b.1 in
    absurd (let k = kind_unique m b.0 kinds.State kinds.EntryPoint (subst (λ x. HasKind m x kinds.State) same a.1) b.2 in let no : kinds.State ≡ kinds.EntryPoint → ⊥ = λ e. cc in no k)) g)
    (λ a. ⊎_elim
    (λ b. let same = end_only m Source t q a.0 b.0 a.1 in
    absurd (let k = kind_unique m a.0 kinds.State kinds.EntryPoint (subst (λ x. HasKind m x kinds.State) same b.1) a.2 in let no : kinds.State ≡ kinds.EntryPoint → ⊥ = λ e. cc in no k))
    (λ b. one_state m (State a.0) s q a.3 (subst (λ x. owner_of m (State x) ≡ Some (State q)) (end_only m Source t b.0 a.0 b.1 a.1) b.3)) g) h

-- local transitions
pub local_iff : (m : DraftMachine) → HasShape m → (g : List (Vec ℕ Global)) → AreArrows m Junctions g → (t : TransId) (v s : VertexId) → Enters m t v
    → Goes m t Local → LeavesLocally m t s → Strays m g v (State s) ↔ IsBadLocal m t
local_iff m shape g h t v s enters goes leaves = (
  λ strays. let path = reached_path shape h t v enters strays.0 strays.1 in (goes, inr (s, vertex_number strays.0, path.0, leaves, path.1, strays.2)),
  λ bad. ⊎_elim (λ none. absurd (none s leaves))
      (λ w. (
        w.1.0,
        path_reached shape h (t ∷ w.2) v w.1 w.4 (λ x xs e. let first : t ≡ x = cc in subst (λ y. Enters m y v) first enters),
        λ inside. w.5 (subst (LiesInState m w.1) (one_local_state m t s w.0 leaves w.3) inside),
      )) bad.1,
)

-- no initial, history or choice vertex is a connection point
not_late_point : (m : DraftMachine) (v : VertexId) → IsLateOrigin m v → IsPoint m v → ⊥
not_late_point m v late point =
    let other : (k : VertexKind) → (k ≡ kinds.EntryPoint → ⊥) → (k ≡ kinds.ExitPoint → ⊥) → HasKind m v k → ⊥ =
    λ k entry exit has. ⊎_elim (λ p. entry (kind_unique m v k kinds.EntryPoint has p)) (λ p. exit (kind_unique m v k kinds.ExitPoint has p)) point in
    ⊎_elim (other kinds.Initial (λ e. cc) (λ e. cc))
    (⊎_elim (λ hist. ⊎_elim (other kinds.ShallowHistory (λ e. cc) (λ e. cc)) (other kinds.DeepHistory (λ e. cc) (λ e. cc)) hist)
    (other kinds.Choice (λ e. cc) (λ e. cc))) late

-- paths from what owns the vertex where they begin
pub outside_iff : (m : DraftMachine) → HasShape m → (v : VertexId) (p : Owner) → owner_of m (State v) ≡ Some p
    → ((IsLateOrigin m v ⊎ HasKind m v kinds.EntryPoint) × ((t : TransId) × Leaves m t v × StraysFrom m p t)) ↔ GoesOutside m v
outside_iff m shape v Top owner = (λ w. absurd w.1.2, λ bad. absurd (owner_may m shape v Top owner))
outside_iff m shape v (Region r) owner = (
  λ w. ⊎_elim (λ late. inl (late, (w.1.0, r, w.1.1, owner, w.1.2))) (λ point. absurd ((owner_may m shape v (Region r) owner).0 (inl point))) w.0,
  λ bad. ⊎_elim
      (λ late. (inl late.0, (late.1.0, late.1.2, subst (LeavesRegion m late.1.0) (one_region m (State v) late.1.1 r late.1.3 owner) late.1.4)))
      (λ point. absurd ((owner_may m shape v (Region r) owner).0 (inl point.0))) bad,
)
outside_iff m shape v (State s) owner = (
  λ w. ⊎_elim (λ late. absurd (not_late_point m v late (owner_may m shape v (State s) owner).0))
      (λ point. let l = w.1.2 in inr (point, (w.1.0, l.0, s, l.1, w.1.1, l.2, owner, l.3, l.4, l.5))) w.0,
  λ bad. ⊎_elim (λ late. absurd (not_late_point m v late.0 (owner_may m shape v (State s) owner).0))
      (λ point. let w = point.1 in
      (inr point.0, (w.0, w.4, (w.1, w.3, w.5, subst (λ q. owner_of m (Region w.3) ≡ Some (State q)) (one_state m (State v) w.2 s w.6 owner) w.7, w.8, w.9)))) bad,
)

-- a test that cannot be false is true
by_contradiction : (b : Bool) → ((b ≡ true → ⊥) → ⊥) → b ≡ true
by_contradiction true h = refl
by_contradiction false h = absurd (h false≢true)

-- what an answer says, said otherwise
pub ok_by : {A E : Type 0} (P Q : A → Type 0) (r : Result A E) → IfOk r P → ((a : A) → P a → Q a) → IfOk r Q
ok_by P Q (Ok a) h f = f a h
ok_by P Q (Err e) h f = tt

-- a junction path has a last transition, which ends where it does
pub last_enters : (m : DraftMachine) (path : List TransId) (v : VertexId) → IsJunctionPath m path v → (e : TransId) × IsLast path e × Enters m e v
last_enters m _ v (one {t = t} enters) = (t, refl, enters)
last_enters m _ v (more {t = t} {u = u} {rest = rest} {v = q} junction enters leaves p) = last_enters m (u ∷ rest) v p

-- a path to an exit point whose last transition leaves the exit point itself
pub afar_itself : (m : DraftMachine) (g : List (Vec ℕ Global)) → AreArrows m Back g → (e : TransId) (x v s : VertexId) → Leaves m e x → Enters m e v → x ≡ v
    → HasKind m v kinds.ExitPoint → ((r : RegionId) → owner_of m (Region r) ≡ Some (State s) → ⊥) ↔ ComesFromAfar m v s e
afar_itself m g h e x v s leaves enters same point =
    let plain : HasKind m v kinds.Junction → ⊥ = λ j. let k = kind_unique m v kinds.Junction kinds.ExitPoint j point in let no : kinds.Junction ≡ kinds.ExitPoint → ⊥ = λ f. cc in no k in (
      λ none. (e ∷ [], refl, one enters, λ r owner holds. none r owner),
      λ far r owner. far.3 r owner (λ y on other. absurd (⊎_elim other
          (λ reached. other (sym (same_vertex x y (only_itself h e x leaves (subst (λ q. HasKind m q kinds.Junction → ⊥) (sym same) plain) y.0 reached)) ∙ same))
          (path_back h e x leaves far.0 v y plain far.2 far.1 on))),
    )

-- a path to an exit point whose last transition leaves a vertex outside its State
pub afar_outside : (m : DraftMachine) (e : TransId) (x v s : VertexId) → Leaves m e x → Enters m e v → (x ≡ v → ⊥) → (LiesInState m x s → ⊥) → ComesFromAfar m v s e
afar_outside m e x v s leaves enters other outside =
    (e ∷ [], refl, one enters, λ r owner holds. outside (r, owner, holds x (e, (0, omega arith, refl), inl leaves) other))

module _ {m : DraftMachine} {g : List (Vec ℕ Global)} (h : AreArrows m Back g) (x v s : VertexId) (r : RegionId) (other : x ≡ v → ⊥)
    (point : HasKind m v kinds.ExitPoint) (owner : owner_of m (State v) ≡ Some (State s)) (inner : owner_of m (Region r) ≡ Some (State s)) (leaves : StaysInside m v → ⊥) where
  -- A walk backwards comes to an exit point from a junction, which lies outside the State where the transitions out of the exit point do.
  before_point : (b : ℕ) → b ≡ v.0 → IsReached g (x.0 ∷ []) b → StraysAside m g x (Region r) v
  before_point _ is (at_first {b = b} c) = absurd (other (same_vertex x v (only_first x.0 b c ∙ is)))
  before_point _ is (by_arrow {a = a} {b = b} reached c) =
      let w = (h.arrows a b).0 c in
      let out : Leaves m w.0 v = subst (Leaves m w.0) (same_vertex (vertex_number b) v is) w.1.2 in (
        a,
        reached,
        λ same.
            let k = kind_unique m v kinds.Junction kinds.ExitPoint (subst (λ q. HasKind m q kinds.Junction) (sym same) w.1.0) point in
            let differ : kinds.Junction ≡ kinds.ExitPoint → ⊥ = λ f. cc in
            differ k,
        λ inside. leaves (w.0, vertex_number a, s, out, w.1.1, owner, (r, inner, inside)),
      )

  -- So it strays from a region of the State where it does so with the exit point left out.
  pub point_aside : Strays m g x (Region r) ↔ StraysAside m g x (Region r) v
  point_aside = (
    λ strays. ⊎_elim (λ (e : strays.0 ≡ v.0). before_point strays.0 e strays.1)
        (λ (ne : strays.0 ≡ v.0 → ⊥). (strays.0, strays.1, (λ same. ne (sym (ap (λ (w : VertexId). w.0) same))), strays.2))
        (cases_eq strays.0 v.0),
    λ strays. (strays.0, strays.1, strays.3),
  )

-- a path to an exit point whose last transition leaves a vertex in a region of its State
pub afar_iff : (m : DraftMachine) → HasShape m → (g : List (Vec ℕ Global)) → AreArrows m Back g → (e : TransId) (x v s : VertexId) (r : RegionId)
    → Leaves m e x → Enters m e v → (x ≡ v → ⊥) → HasKind m v kinds.ExitPoint → owner_of m (Region r) ≡ Some (State s) → LiesInRegion m x r
    → (b : Bool) → (IsTrue b ↔ StraysAside m g x (Region r) v) → IsTrue b ↔ ComesFromAfar m v s e
afar_iff m shape g h e x v s r leaves enters other point owner inside b says =
    let plain : HasKind m v kinds.Junction → ⊥ = λ j. let k = kind_unique m v kinds.Junction kinds.ExitPoint j point in let no : kinds.Junction ≡ kinds.ExitPoint → ⊥ = λ f. cc in no k in (
      λ t.
          let strays = says.0 t in
          let y = vertex_number strays.0 in
          let path = back_path h e x leaves v enters strays.0 strays.1 in (
            path.0 ∷ path.1,
            path.3,
            path.4,
            λ q own holds.
                let at_x : LiesInRegion m x q = holds x (e, path.5, inl leaves) other in
                let at_y : LiesInRegion m y q = holds y (path.0, (0, omega arith, refl), inl path.2) (λ f. strays.2 (sym f)) in
                strays.3 (subst (LiesInRegion m y) (one_region_inside m shape x s q r own owner at_x inside) at_y),
          ),
      λ far. by_contradiction b (λ no. far.3 r owner (λ y on ne. ⊎_elim (λ same. absurd (ne same))
          (λ reached.
          let there : y.0 < length m.vertices = subst (λ n. y.0 < n) h.width (reached_within (arrows_within m shape Back g h)
          (λ k c. subst (λ n. n < length g) (only_first x.0 k c) (subst (λ n. x.0 < n) (sym h.width) (end_there m shape Source e x leaves).1)) y.0 reached) in
          ⊎_elim (λ lies. lies) (λ out. absurd (no (says.1 (y.0, reached, (λ f. ne (sym f)), out)))) (lies_decided m shape y there (Region r)))
          (path_back h e x leaves far.0 v y plain far.2 far.1 on))),
    )
