use Rattle.std.proofs.Common.{◌≤◌, ℕ, length, arith}
use Rattle.pssm_model.specs.declared.steps.Mode.TheVariants.{Plain}
use Rattle.pssm_plan.specs.inner.Calling.{IsReopened}
use Rattle.pssm_plan.proofs.Extending.{extended_same}
use Rattle.pssm_plan.proofs.Growing.{grown_by_next, iff_further}
use Rattle.pssm_plan.proofs.AddedCalls.{ReopenedBelow, opening_of, reopened_all, reopened_same}
use Rattle.pssm_plan.proofs.roster.Roster.list_all_reopened.Goals as goal

pub loop-number-preserved : goal.loop-number-preserved
loop-number-preserved c =
    let m = c.args.machine.now in
    let way = c.args.way.now in
    let Holds : ℕ → Type 0 = (λ k. IsReopened m c.args.self.now.calls.items way (opening_of Plain k)) in
    grown_by_next m c.args.self.now.calls.items (opening_of Plain) Holds c.loop-number.number _ _ _
    (iff_further c.is_reopened-reopened.ensures
    (reopened_same m _ _ way c.loop-number.invariant.extended.marked (opening_of Plain c.loop-number.number)))
    c.loop-number.invariant c.add.ensures.calls c.in_ok-add.ensures.added

pub returns-clause-added : goal.returns-clause-added
returns-clause-added c =
    let m = c.args.machine.now in
    let way = c.args.way.now in
    let all : length m.regions ≤ c.loop-number.number = let past = c.loop-number-test.false in omega (arith, past) in
    extended_same m _ _ (ReopenedBelow m c.args.self.now.calls.items way c.loop-number.number)
    (IsReopened m c.args.self.now.calls.items way)
    (λ x. reopened_all m way c.loop-number.number x c.args.self.now.calls.items all)
    c.loop-number.invariant.extended
