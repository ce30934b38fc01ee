-- Each turn looks at one region more.
use Rattle.std.proofs.Common.{◌<◌, ◌≤◌, ◌∙◌, Vec, Global, Option, IfSome, All, length, ap, refl, sym, subst, arith}
use Rattle.std.proofs.lemmas.List.Elements.{All-nil, All-same}
use Rattle.pssm_model.specs.declared.ids.VertexId.{VertexId}
use Rattle.pssm_model.specs.declared.ids.RegionId.{RegionId}
use Rattle.pssm_config.specs.Tables.{configuration_of}
use Rattle.pssm_routes.specs.inner.Starts.{IsReactingIn}
use Rattle.pssm_routes.proofs.Fruitless.{all_more}
use Rattle.pssm_routes.proofs.Sights.{found_start, found_skip, found_take, found_end}
use Rattle.pssm_routes.proofs.candidates.reacting_among_active.Goals.{in-Some-found+in_ok-push-in-Some-found, in-None}
use Rattle.pssm_routes.proofs.candidates.reacting_among_active.Goals as goal

pub loop-number-init : goal.loop-number-init
loop-number-init g c =
    let There : VertexId → Type 0 = λ s. s.0 < length c.args.machine.now.vertices in (
      subst (All There) (sym c.new-states.ensures.items) (All-nil There),
      λ values tells. found_start c.args.machine.now (configuration_of c.args.config.now) values c.args.event c.new-states.result.items
          c.new-states.ensures.items,
    )

pub loop-number-preserved : goal.loop-number-preserved
loop-number-preserved g c =
    let m = c.args.machine.now in
    let now = configuration_of c.args.config.now in
    let r : RegionId = record { 0 = c.loop-number.number } in
    let There : VertexId → Type 0 = λ s. s.0 < length m.vertices in
    let before = c.loop-number.invariant in
    elim c.match-found.branch [
      | in-Some-found+in_ok-push-in-Some-found w ↦
          let is = ap (λ (v : Vec VertexId Global). v.items) w.states-is ∙ w.in_ok-push-in-Some-found.ensures.items in (
            all_more There c.loop-number.states.items c.match-found.states.items w.in-Some-found.s is before.0
                (subst (λ (o : Option VertexId). IfSome o There) w.in-Some-found.is c.in-Some.ensures.there),
            λ values tells. found_take m now values c.args.event c.loop-number.states.items c.match-found.states.items c.loop-number.number r
                w.in-Some-found.s is refl
                (subst (IsReactingIn m now values c.args.event r) w.in-Some-found.is (c.in-Some.ensures.reacting values tells)) (before.1 values tells),
          )
      | in-None w ↦
          let is = ap (λ (v : Vec VertexId Global). v.items) w.states-is in (
            All-same There c.match-found.states.items c.loop-number.states.items is before.0,
            λ values tells. found_skip m now values c.args.event c.loop-number.states.items c.match-found.states.items c.loop-number.number r
                is refl
                (subst (IsReactingIn m now values c.args.event r) w.in-None.is
                (c.in-Some.ensures.reacting values tells)) (before.1 values tells),
          )
    ]

pub returns-clause-states : goal.returns-clause-states
returns-clause-states g c values tells =
    let enough : length c.args.machine.now.regions ≤ c.loop-number.number =
    let test = c.loop-number-test.false in let e = c.regions-number-end.ensures.count in omega (arith, test, e) in
    found_end c.args.config.now c.requires.fits values c.args.event c.loop-number.states.items c.loop-number.number enough
    (c.loop-number.invariant.1 values tells)
