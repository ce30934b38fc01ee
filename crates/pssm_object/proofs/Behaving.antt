-- The behaviours that items run are those of the class, and may be run.
use Rattle.std.proofs.Common.{◌≡◌, ℕ, ℤ, List, Option, Some, None, slice_get, sym, ap, ◌∙◌}
use Rattle.std.specs.Option.{option_and_then, option_map_or}
use Rattle.pssm_model.specs.declared.steps.Item.{Item}
use Rattle.pssm_model.specs.declared.steps.Item.TheVariants as items
use Rattle.pssm_model.specs.declared.elements.Vertex.{Vertex}
use Rattle.pssm_model.specs.declared.elements.Transition.{Transition}
use Rattle.pssm_model.specs.Forest.{vertex_at, transition_at}
use Rattle.pssm_semantics.specs.declared.entry.ObjectId.{ObjectId}
use Rattle.pssm_semantics.specs.declared.tree.Act.{Act}
use Rattle.pssm_semantics.specs.declared.setting.Class.{Class}
use Rattle.pssm_semantics.specs.Arguments.{ActArgsFit}
use Rattle.pssm_semantics.specs.Behaviours.{act_at}
use Rattle.pssm_semantics.specs.Classes.{IsWellFormedClass}
use Rattle.pssm_semantics.specs.Values.{outcome_of}
use Rattle.pssm_semantics_laws.proofs.SettingClasses.{acts_run}
use Rattle.pssm_object.specs.Standing.{Standing}
use Rattle.pssm_object.specs.inner.Working.{act_for, nothing_from, outcome_for}

then_some : {X Y : Type 0} (f : X → Option Y) (o : Option X) (y : Y) → Some y ≡ option_and_then f o → (x : X) × (Some y ≡ f x)
then_some f None y e = absurd (cc)
then_some f (Some x) y e = (x, e)

act_there : (class : Class) (item : Item) (a : Act) → Some a ≡ act_for class item → (n : ℕ) × (slice_get class.program.acts n ≡ Some a)
act_there class (items.Exit s) a h = let found = then_some (λ (x : Vertex). act_at class x.exit) (vertex_at class.machine s) a h in (found.0.exit.0, sym found.1)
act_there class (items.Effect t) a h =
    let found = then_some (λ (x : Transition). act_at class x.effect) (transition_at class.machine t) a h in (found.0.effect.0, sym found.1)
act_there class (items.Enter s) a h = let found = then_some (λ (x : Vertex). act_at class x.entry) (vertex_at class.machine s) a h in (found.0.entry.0, sym found.1)
act_there class (items.Opened r mode) a h = absurd (let clash : Some a ≡ None = h in cc)
act_there class (items.Pick c) a h = absurd (let clash : Some a ≡ None = h in cc)

pub acts_fit : (class : Class) → IsWellFormedClass class → (item : Item) (a : Act) → Some a ≡ act_for class item → ActArgsFit a
acts_fit class b item a h = let at = act_there class item a h in acts_run class b at.0 a at.1

-- What the behaviour of an item leaves of the variables, the item leaves.
pub item_leaves : (class : Class) (x : Standing) (item : Item) (a : Act) (store params after : List ℤ) → Some a ≡ act_for class item → store ≡ x.store → params ≡ x.params
    → ((own : ObjectId) → after ≡ (outcome_of a own store params).store) → after ≡ (outcome_for class x item).store
item_leaves class x item a store params after is same too leaves =
    leaves x.own ∙ ap (λ (s : List ℤ). (outcome_of a x.own s params).store) same ∙ ap (λ (p : List ℤ). (outcome_of a x.own x.store p).store) too
    ∙ ap (λ (o : Option Act). (option_map_or (λ act. outcome_of act x.own x.store x.params) o (nothing_from x.store)).store) is
