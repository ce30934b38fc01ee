-- What the entries of the two objects send: the effects of the steps of `Front` one signal each, to `b`, and all others nothing.
use Rattle.std.proofs.Common.{◌≡◌, ◌⊎◌, ◌<◌, ◌+◌, ℕ, zero, suc, List, [], ◌∷◌, length, Option, Some, None, slice_get, refl, ap, ◌∙◌, inl, inr, arith}
use Rattle.std.specs.Prelude.{replicate}
use Rattle.std.specs.List.{AllByRecursion}
use Rattle.std.specs.Option.{option_and_then, option_map_or}
use Rattle.pssm_model.specs.declared.ids.ActId.{ActId}
use Rattle.pssm_model.specs.declared.ids.VertexId.{VertexId}
use Rattle.pssm_model.specs.declared.elements.Vertex.{Vertex}
use Rattle.pssm_model.specs.declared.elements.Transition.{Transition}
use Rattle.pssm_model.specs.declared.steps.How.{How}
use Rattle.pssm_model.specs.declared.steps.Item.{Item}
use Rattle.pssm_model.specs.declared.steps.Item.TheVariants as items
use Rattle.pssm_model.specs.Forest.{vertex_at, transition_at}
use Rattle.pssm_model.proofs.ElementLaws.{some_at, all_at}
use Rattle.pssm_semantics.specs.declared.entry.ObjectId.{ObjectId}
use Rattle.pssm_semantics.specs.declared.entry.Out.{Out}
use Rattle.pssm_semantics.specs.declared.entry.Out.TheVariants as outputs
use Rattle.pssm_semantics.specs.declared.entry.Entry.{Entry}
use Rattle.pssm_semantics.specs.declared.entry.Entry.TheVariants.{Post, Start, Take, Done, Exit, Effect, Enter, Opened, Pick, DoStep}
use Rattle.pssm_semantics.specs.declared.tree.Act.{Act}
use Rattle.pssm_semantics.specs.declared.setting.Class.{Class}
use Rattle.pssm_semantics.specs.declared.setting.Setting.{Setting}
use Rattle.pssm_semantics.specs.Steps.{item_of}
use Rattle.pssm_semantics.specs.Values.{Store, Params, outcome_of}
use Rattle.pssm_semantics.specs.Pool.{KnownSignals, outs_of}
use Rattle.pssm_semantics.specs.Behaviours.{act_at, act_of, params_at, store_of}
use Rattle.pssm_semantics.specs.Known.{NamesKnown}
use Rattle.pssm_semantics.specs.Rules.{KeepsOuts}
use Rattle.pssm_suite.specs.GeneratedSetting.{nothing, send_on, front_machine, front, back_machine, back}
use Rattle.pssm_suite.proofs.SettingText.{step_act}
use Rattle.pssm_suite.proofs.PlainFront.{step, made_at}
use Rattle.pssm_suite.proofs.CalmMachines.{IsCalm}
use Rattle.pssm_suite.proofs.EntryWeights.{IsNoDoStep}

-- the output of `send b.Go();`
abbrev pub go_on : Out
go_on = outputs.Send (record { 0 = 1 }) (record { 0 = 0 }) []

-- how often an item of `Front` sends it
abbrev pub sends_at : ℕ → ℕ
sends_at zero = 0
sends_at (suc k) = 1

abbrev pub item_sends : Item → ℕ
item_sends (items.Effect t) = sends_at t.0
item_sends _ = 0

abbrev pub sends_of : Item × How → ℕ
sends_of x = item_sends x.0

-- what a behaviour makes that was found
abbrev made_by : Option Act → ObjectId → Store → Params → List Out
made_by found own store params = (option_map_or (λ act. outcome_of act own store params) found (record { store = store; outs = [] })).outs

by_nothing : (found : Option Act) (own : ObjectId) (store : Store) (params : Params) → (found ≡ None) ⊎ (found ≡ Some nothing) → made_by found own store params ≡ []
by_nothing found own store params (inl e) = ap (λ f. made_by f own store params) e
by_nothing found own store params (inr e) = ap (λ f. made_by f own store params) e

module _ (class : Class) (first_act : slice_get class.program.acts 0 ≡ Some nothing) where
  -- the first behaviour of the class, or none
  of_found : {X : Type 0} (found : Option X) (f : X → ActId) → ((x : X) → found ≡ Some x → (f x).0 ≡ 0)
      → (option_and_then (λ x. act_at class (f x)) found ≡ None) ⊎ (option_and_then (λ x. act_at class (f x)) found ≡ Some nothing)
  of_found None f h = inl refl
  of_found (Some x) f h = inr (ap (λ k. slice_get class.program.acts k) (h x refl) ∙ first_act)

  module _ (first count : ℕ) (calm : IsCalm class.machine first count) (told : KnownSignals) (J : List Entry) where
    exit_sends : (q : ObjectId) (v : VertexId) (outs : List Out) → KeepsOuts class told J (Exit q v outs) → outs ≡ []
    exit_sends q v outs keeps =
        keeps
        ∙ by_nothing (act_of class (Exit q v outs)) q (store_of class told J q) (params_at told J (Exit q v outs))
        (of_found (vertex_at class.machine v) (λ (x : Vertex). x.exit) (λ x e. (calm.vertices v x e).exit))

    enter_sends : (q : ObjectId) (v : VertexId) (outs : List Out) → KeepsOuts class told J (Enter q v outs) → outs ≡ []
    enter_sends q v outs keeps =
        keeps
        ∙ by_nothing (act_of class (Enter q v outs)) q (store_of class told J q) (params_at told J (Enter q v outs))
        (of_found (vertex_at class.machine v) (λ (x : Vertex). x.entry) (λ x e. (calm.vertices v x e).entry))

-- ---- `Back`

effects_empty : AllByRecursion (λ (x : Transition). x.effect.0 ≡ 0) back_machine.transitions
effects_empty = (refl, (refl, (refl, (refl, (refl, (refl, (refl, tt)))))))

pub back_sends : {first count : ℕ} (calm : IsCalm back_machine first count) (told : KnownSignals) (J : List Entry) (e : Entry) → IsNoDoStep e
    → KeepsOuts back told J e → outs_of e ≡ []
back_sends calm told J (Post q g args) free keeps = refl
back_sends calm told J (Start q) free keeps = refl
back_sends calm told J (Take q k firing) free keeps = refl
back_sends calm told J (Done q v firing) free keeps = refl
back_sends {first = first} {count = count} calm told J (Exit q v outs) free keeps = exit_sends back refl first count calm told J q v outs keeps
back_sends calm told J (Effect q t outs) free keeps =
    keeps
    ∙ by_nothing (act_of back (Effect q t outs)) q (store_of back told J q) (params_at told J (Effect q t outs))
    (of_found back refl (transition_at back_machine t) (λ (x : Transition). x.effect)
    (λ x e. all_at (λ (y : Transition). y.effect.0 ≡ 0) back_machine.transitions t.0 x effects_empty e))
back_sends {first = first} {count = count} calm told J (Enter q v outs) free keeps = enter_sends back refl first count calm told J q v outs keeps
back_sends calm told J (Opened q r mode how) free keeps = refl
back_sends calm told J (Pick q v route) free keeps = refl
back_sends calm told J (DoStep q v k outs) free keeps = absurd free

-- ---- `Front`

abbrev act_for : ℕ → Act
act_for zero = nothing
act_for (suc k) = send_on

effect_act : (n k : ℕ) → k < length (front_machine n).transitions
    → option_and_then (λ (x : Transition). act_at (front n) x.effect) (slice_get (front_machine n).transitions k) ≡ Some (act_for k)
effect_act n zero lt = refl
effect_act n (suc k) lt =
    let x = some_at (front_machine n).transitions (suc k) lt in
    let is = made_at (step n) 1 n k x.0 x.1 in
    let next : suc k < 1 + n = (let less = is.1 in omega (arith, less)) in
    let number : 1 + k ≡ suc k = omega arith in
    ap (λ o. option_and_then (λ (y : Transition). act_at (front n) y.effect) o) x.1
    ∙ ap (λ (y : Transition). act_at (front n) y.effect) is.0
    ∙ ap (λ j. slice_get (nothing ∷ replicate n send_on) j) number
    ∙ step_act n (suc k) (omega arith) next

made_for : (k : ℕ) (own : ObjectId) (store : Store) (params : Params) → made_by (Some (act_for k)) own store params ≡ replicate (sends_at k) go_on
made_for zero own store params = refl
made_for (suc k) own store params = refl

-- how often an entry of `Front` sends it
abbrev pub entry_sends : Entry → ℕ
entry_sends e = option_map_or sends_of (item_of e) 0

pub front_sends : (n : ℕ) {first count : ℕ} (calm : IsCalm (front_machine n) first count) (setting : Setting) (told : KnownSignals) (J : List Entry) (e : Entry)
    → IsNoDoStep e → NamesKnown setting (front n) e → KeepsOuts (front n) told J e → outs_of e ≡ replicate (entry_sends e) go_on
front_sends n calm setting told J (Post q g args) free known keeps = refl
front_sends n calm setting told J (Start q) free known keeps = refl
front_sends n calm setting told J (Take q k firing) free known keeps = refl
front_sends n calm setting told J (Done q v firing) free known keeps = refl
front_sends n {first = first} {count = count} calm setting told J (Exit q v outs) free known keeps =
    exit_sends (front n) refl first count calm told J q v outs keeps
front_sends n calm setting told J (Effect q t outs) free known keeps =
    keeps
    ∙ ap (λ found. made_by found q (store_of (front n) told J q) (params_at told J (Effect q t outs))) (effect_act n t.0 known.0)
    ∙ made_for t.0 q (store_of (front n) told J q) (params_at told J (Effect q t outs))
front_sends n {first = first} {count = count} calm setting told J (Enter q v outs) free known keeps =
    enter_sends (front n) refl first count calm told J q v outs keeps
front_sends n calm setting told J (Opened q r mode how) free known keeps = refl
front_sends n calm setting told J (Pick q v route) free known keeps = refl
front_sends n calm setting told J (DoStep q v k outs) free known keeps = absurd free
