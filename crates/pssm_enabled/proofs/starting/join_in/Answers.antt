-- each turn looks at one transition more
use Rattle.std.proofs.Common.{◌≡◌, ◌<◌, length, refl, arith}
use Rattle.pssm_config.specs.Tables.{configuration_of}
use Rattle.pssm_enabled.specs.inner.Started.{JoinsIn}
use Rattle.pssm_enabled.proofs.ListPlaces.{below_next, below_all}
use Rattle.pssm_enabled.proofs.starting.join_in.Goals as goal

pub loop-t-preserved : goal.loop-t-preserved
loop-t-preserved c =
    let more : c.loop-t.t-index < length c.args.starts.now =
    let less = c.loop-t-test.true in let upto = c.loop-t.auto.t-index-end in omega (arith, less, upto) in
    below_next (JoinsIn c.args.machine.now (configuration_of c.args.config.now) c.args.state) c.args.starts.now c.loop-t.t-index _ more
    (c.joins_in.ensures.0 c.if-not-joins_in.false) c.loop-t.invariant

pub returns : goal.returns
returns c =
    let all : length c.args.starts.now ≡ c.loop-t.t-index =
    let last = c.loop-t-test.false in let upto = c.loop-t.auto.t-index-end in omega (arith, last, upto) in (
      λ holds. below_all (JoinsIn c.args.machine.now (configuration_of c.args.config.now) c.args.state) c.args.starts.now
          c.loop-t.t-index all c.loop-t.invariant,
      λ h. refl,
    )
