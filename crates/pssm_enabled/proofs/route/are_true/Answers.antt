-- each turn looks at one transition more
use Rattle.std.proofs.Common.{◌≡◌, ◌<◌, length, refl, arith}
use Rattle.pssm_model.specs.Routes.{IsTrueAt}
use Rattle.pssm_enabled.proofs.ListPlaces.{below_next, below_all}
use Rattle.pssm_enabled.proofs.route.are_true.Goals as goal

pub loop-t-preserved : goal.loop-t-preserved
loop-t-preserved g c values tells =
    let more : c.loop-t.t-index < length c.args.transitions.now =
    let less = c.loop-t-test.true in let upto = c.loop-t.auto.t-index-end in omega (arith, less, upto) in
    below_next (IsTrueAt c.args.machine.now values) c.args.transitions.now c.loop-t.t-index _ more
    ((c.is_true_at.ensures values tells).0 c.if-not-is_true_at.false) (c.loop-t.invariant values tells)

pub returns : goal.returns
returns g c values tells =
    let all : length c.args.transitions.now ≡ c.loop-t.t-index =
    let last = c.loop-t-test.false in let upto = c.loop-t.auto.t-index-end in omega (arith, last, upto) in
    (λ holds. below_all (IsTrueAt c.args.machine.now values) c.args.transitions.now c.loop-t.t-index all (c.loop-t.invariant values tells), λ h. refl)
