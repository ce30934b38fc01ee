-- What is true while a route is made that goes on from one vertex after another.
use Rattle.std.specs.Prelude.{◌≡◌, ◌⊎◌, ◌↔◌, ◌≤◌, ℕ, List, take, Contains}
use Rattle.pssm_model.specs.declared.ids.VertexId.{VertexId}
use Rattle.pssm_model.specs.declared.ids.TransId.{TransId}
use Rattle.pssm_model.specs.declared.elements.DraftMachine.{DraftMachine}
use Rattle.pssm_model.specs.Legs.{Leaves, Enters}
use Rattle.pssm_model.specs.Paths.{LeadsOn}
use Rattle.pssm_model.specs.Routes.{Truth, IsTrueAt}
use Rattle.pssm_enabled.specs.Behind.{CanGoOn}
use Rattle.pssm_enabled.specs.declared.passing.Points.{Points}
use Rattle.pssm_enabled.specs.Fitting.{IsThrough, PassesBy}
use Rattle.pssm_enabled.specs.inner.Passing.{IsFoundOnce, found_by}

-- the transitions by which a route goes on from the vertex at once: one true one from which a way leads on out of a junction or exit point, all out
-- of a fork or an entry point, and else none
pub record GoesOnAtOnce (m : DraftMachine) (truth : Truth) (v : VertexId) (ts : List TransId) : Type 0 where
  pub leave : (t : TransId) → Contains ts t → Leaves m t v × IsThrough m v
  pub guards : (t : TransId) → Contains ts t → IsTrueAt m truth t
  pub ways : (t : TransId) (w : VertexId) → Contains ts t → Enters m t w → CanGoOn m truth w
  pub passes : PassesBy m (Contains ts) v

-- while a route goes on from one vertex after another: those before the place are gone on from by the transitions so far
pub record IsGoingOn (m : DraftMachine) (truth : Truth) (v : VertexId) (ts : List TransId) (come : Points) (place : ℕ) : Type 0 where
  pub begins : Contains (found_by come) v
  pub ways : (w : VertexId) → Contains (found_by come) w → CanGoOn m truth w
  pub guards : (t : TransId) → Contains ts t → IsTrueAt m truth t
  pub leave : (t : TransId) → Contains ts t → (w : VertexId) × Contains (take place come.found) w × Leaves m t w × IsThrough m w
  pub ends : (t : TransId) (w : VertexId) → Contains ts t → Enters m t w → Contains (found_by come) w
  pub entered : (w : VertexId) → Contains (found_by come) w → (w ≡ v) ⊎ ((t : TransId) × Contains ts t × Enters m t w)
  pub passes : (w : VertexId) → Contains (take place come.found) w → PassesBy m (Contains ts) w
  pub led : (w : VertexId) → Contains (found_by come) w → IsThrough m w → (v ≡ w) ⊎ (IsThrough m v × LeadsOn m v w)
  pub reached : place ≤ come.count

-- the vertices with the ends of the transitions, those that were found before at their places
pub record IsFurtherBy (m : DraftMachine) (old new : Points) (ts : List TransId) : Type 0 where
  pub once : IsFoundOnce m new
  pub members : (w : VertexId) → Contains (found_by new) w ↔ (Contains (found_by old) w ⊎ ((t : TransId) × Contains ts t × Enters m t w))
  pub kept : (n : ℕ) → n ≤ old.count → take n new.found ≡ take n old.found
  pub count : old.count ≤ new.count
