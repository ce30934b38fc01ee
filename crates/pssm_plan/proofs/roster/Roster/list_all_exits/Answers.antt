use Rattle.std.proofs.Common.{◌≤◌, ℕ, length, arith}
use Rattle.pssm_model.specs.declared.ids.VertexId.{VertexId}
use Rattle.pssm_config.specs.Tables.{configuration_of}
use Rattle.pssm_plan.specs.inner.ByWays.{calls_by}
use Rattle.pssm_plan.specs.inner.Calling.{IsExitBy}
use Rattle.pssm_plan.proofs.Extending.{extended_same}
use Rattle.pssm_plan.proofs.Growing.{grown_by_next}
use Rattle.pssm_plan.proofs.AddedCalls.{ExitedBelow, exit_of, exits_all}
use Rattle.pssm_plan.proofs.roster.Roster.list_all_exits.Goals as goal

pub loop-number-preserved : goal.loop-number-preserved
loop-number-preserved c =
    let m = c.args.machine.now in
    let way = c.args.way.now in
    let Holds : ℕ → Type 0 = (λ k. (let s : VertexId = record { 0 = k } in (configuration_of c.args.config.now).Active s) × calls_by m way (exit_of k)) in
    grown_by_next m c.args.self.now.calls.items exit_of Holds c.loop-number.number _ _ _
    c.calls_exit-wanted.ensures c.loop-number.invariant c.add.ensures.calls c.in_ok-add.ensures.added

pub returns-clause-added : goal.returns-clause-added
returns-clause-added c =
    let m = c.args.machine.now in
    let way = c.args.way.now in
    let all : length m.vertices ≤ c.loop-number.number = let past = c.loop-number-test.false in omega (arith, past) in
    extended_same m _ _ (ExitedBelow m (configuration_of c.args.config.now) way c.loop-number.number)
    (IsExitBy m (configuration_of c.args.config.now) way)
    (λ x. exits_all m way c.loop-number.number x (configuration_of c.args.config.now) all)
    c.loop-number.invariant.extended
