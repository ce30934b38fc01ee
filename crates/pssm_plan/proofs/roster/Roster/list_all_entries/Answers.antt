use Rattle.std.proofs.Common.{◌≤◌, ℕ, length, arith}
use Rattle.pssm_plan.specs.inner.ByWays.{calls_by}
use Rattle.pssm_plan.specs.inner.Calling.{IsEntryBy}
use Rattle.pssm_plan.proofs.Extending.{extended_same}
use Rattle.pssm_plan.proofs.Growing.{grown_by_next}
use Rattle.pssm_plan.proofs.AddedCalls.{CalledBelow, entries_all, entry_of}
use Rattle.pssm_plan.proofs.roster.Roster.list_all_entries.Goals as goal

pub loop-number-preserved : goal.loop-number-preserved
loop-number-preserved c =
    let m = c.args.machine.now in
    let way = c.args.way.now in
    let Holds : ℕ → Type 0 = (λ k. calls_by m way (entry_of k)) in
    grown_by_next m c.args.self.now.calls.items entry_of Holds c.loop-number.number _ _ _
    c.calls_entry-wanted.ensures c.loop-number.invariant c.add.ensures.calls c.in_ok-add.ensures.added

pub returns-clause-added : goal.returns-clause-added
returns-clause-added c =
    let m = c.args.machine.now in
    let way = c.args.way.now in
    let all : length m.vertices ≤ c.loop-number.number = let past = c.loop-number-test.false in omega (arith, past) in
    extended_same m _ _ (CalledBelow m way entry_of c.loop-number.number)
    (IsEntryBy m way)
    (λ x. entries_all m way c.loop-number.number x c.regions-shaped.ensures.shaped all)
    c.loop-number.invariant.extended
