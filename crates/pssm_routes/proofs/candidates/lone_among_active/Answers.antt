-- Each turn looks at one region more.
use Rattle.std.proofs.Common.{◌<◌, ◌≤◌, ◌∙◌, ◌+◌, length, Option, IfSome, refl, sym, subst, arith}
use Rattle.pssm_model.specs.declared.ids.VertexId.{VertexId}
use Rattle.pssm_model.specs.declared.ids.RegionId.{RegionId}
use Rattle.pssm_config.specs.Tables.{configuration_of}
use Rattle.pssm_routes.proofs.Sights.{IsLone, lone_start, lone_skip, lone_take, lone_end}
use Rattle.pssm_routes.proofs.candidates.lone_among_active.Goals.{then-is_some+else-is_some-2, else-is_some}
use Rattle.pssm_routes.proofs.candidates.lone_among_active.Goals as goal

pub loop-number-init : goal.loop-number-init
loop-number-init g c = (tt, λ values tells. lone_start c.args.machine.now (configuration_of c.args.config.now) values c.args.event)

pub loop-number-preserved : goal.loop-number-preserved
loop-number-preserved g c =
    let m = c.args.machine.now in
    let now = configuration_of c.args.config.now in
    let r : RegionId = record { 0 = c.loop-number.number } in
    let There : Option VertexId → Type 0 = λ o. IfSome o (λ s. s.0 < length m.vertices) in
    let before = c.loop-number.invariant in
    elim c.if-is_some.branch [
      | then-is_some+else-is_some-2 w ↦ (
        subst There (sym w.alone-is) c.in_ok-found.ensures.there,
        λ values tells. subst (λ o. IsLone m now values c.args.event o (c.loop-number.number + 1)) (sym w.alone-is)
            (lone_take m now values c.args.event c.loop-number.alone c.in_ok-found.found c.loop-number.number r refl
            (sym w.is_some-then-is_some.ensures ∙ w.if-is_some-2.false) (c.in_ok-found.ensures.reacting values tells) (before.1 values tells)),
      )
      | else-is_some w ↦ (
        subst There (sym w.alone-is) before.0,
        λ values tells. subst (λ o. IsLone m now values c.args.event o (c.loop-number.number + 1)) (sym w.alone-is)
            (lone_skip m now values c.args.event c.loop-number.alone c.in_ok-found.found c.loop-number.number r refl
            (sym c.is_some.ensures ∙ w.if-is_some.false) (c.in_ok-found.ensures.reacting values tells) (before.1 values tells)),
      )
    ]

pub returns-clause-alone : goal.returns-clause-alone
returns-clause-alone g c values tells =
    let enough : length c.args.machine.now.regions ≤ c.loop-number.number =
    let test = c.loop-number-test.false in let e = c.regions-number-end.ensures.count in omega (arith, test, e) in
    lone_end c.args.config.now c.requires.fits values c.args.event c.loop-number.alone c.loop-number.number enough (c.loop-number.invariant.1 values tells)
