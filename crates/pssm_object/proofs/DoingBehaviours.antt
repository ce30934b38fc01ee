-- The behaviours of do steps are those of the class, and may be run.
use Rattle.std.proofs.Common.{◌≡◌, ℕ, ℤ, List, Option, Some, None, slice_get, sym, ap, ◌∙◌}
use Rattle.std.specs.Option.{option_and_then, option_map_or}
use Rattle.pssm_model.specs.declared.ids.VertexId.{VertexId}
use Rattle.pssm_model.specs.declared.elements.Vertex.{Vertex}
use Rattle.pssm_model.specs.Forest.{vertex_at}
use Rattle.pssm_semantics.specs.declared.entry.ObjectId.{ObjectId}
use Rattle.pssm_semantics.specs.declared.tree.Act.{Act}
use Rattle.pssm_semantics.specs.declared.setting.Class.{Class}
use Rattle.pssm_semantics.specs.Arguments.{ActArgsFit}
use Rattle.pssm_semantics.specs.Behaviours.{act_at}
use Rattle.pssm_semantics.specs.Classes.{IsWellFormedClass}
use Rattle.pssm_semantics.specs.Values.{outcome_of, no_params}
use Rattle.pssm_semantics_laws.proofs.SettingClasses.{acts_run}
use Rattle.pssm_object.specs.Standing.{Standing}
use Rattle.pssm_object.specs.inner.Working.{nothing_from}
use Rattle.pssm_object.specs.inner.Doing.{step_act, step_outcome}

then_some : {X Y : Type 0} (f : X → Option Y) (o : Option X) (y : Y) → Some y ≡ option_and_then f o → (x : X) × (Some y ≡ f x)
then_some f None y e = absurd (cc)
then_some f (Some x) y e = (x, e)

pub step_fits : (class : Class) → IsWellFormedClass class → (s : VertexId) (k : ℕ) (a : Act) → Some a ≡ step_act class s k → ActArgsFit a
step_fits class b s k a h =
    let found = then_some (act_at class) (option_and_then (λ (x : Vertex). slice_get x.steps k) (vertex_at class.machine s)) a h in
    acts_run class b found.0.0 a (sym found.1)

-- What the behaviour of a do step leaves of the variables, the do step leaves.
pub step_leaves : (class : Class) (x : Standing) (s : VertexId) (k : ℕ) (a : Act) (params after : List ℤ) → Some a ≡ step_act class s k → params ≡ no_params
    → ((own : ObjectId) → after ≡ (outcome_of a own x.store params).store) → after ≡ (step_outcome class x s k).store
step_leaves class x s k a params after is none leaves =
    leaves x.own ∙ ap (λ (p : List ℤ). (outcome_of a x.own x.store p).store) none
    ∙ ap (λ (o : Option Act). (option_map_or (λ act. outcome_of act x.own x.store no_params) o (nothing_from x.store)).store) is
