-- the step at the place is kept, and each transition out of its target is tried in turn
use Rattle.std.proofs.Common.{rules, ◌≡◌, length, subst}
use Rattle.std.proofs.lemmas.List.Elements.{Contains-get_or}
use Rattle.std.proofs.lemmas.Option.{slice_get-get_or}
use Rattle.pssm_enabled.specs.inner.Seeking.{Tries}
use Rattle.pssm_enabled.proofs.Sought.{kept_at, entered_at, goes_more, goes_out, goes_on_at_end}
use Rattle.pssm_enabled.proofs.seeking.Search.go_on.Goals as goal

pub target-passed-requires : goal.target-passed-requires
target-passed-requires g c =
    let long : length c.args.self.now.steps ≡ 4096 = search rules in
    entered_at c.args.place _ c.requires.once c.requires.place long

pub returns-then-try_step-clause-found : goal.returns-then-try_step-clause-found
returns-then-try_step-clause-found g c =
    let long : length c.args.self.now.steps ≡ 4096 = search rules in
    λ values start before told under.
    goes_out (kept_at c.args.self.now c.args.place _ c.requires.place c.requires.once.room long) c.target-passed.ensures.enters c.loop-t.invariant
    ((c.outgoing-t-items.ensures.items _).0 (Contains-get_or c.outgoing-t-items.result.now c.loop-t.t-index _ c.loop-t-test.true))
    values start before told under
    (subst (Tries c.args.machine.now values c.args.within c.loop-t.self _ c.try_step.new.self) c.if-try_step.true
    (c.try_step.ensures.tries values told))

pub loop-t-preserved : goal.loop-t-preserved
loop-t-preserved g c =
    let long : length c.args.self.now.steps ≡ 4096 = search rules in
    goes_more (kept_at c.args.self.now c.args.place _ c.requires.place c.requires.once.room long) c.target-passed.ensures.enters c.loop-t.invariant
    ((c.outgoing-t-items.ensures.items _).0 (Contains-get_or c.outgoing-t-items.result.now c.loop-t.t-index _ c.loop-t-test.true))
    (slice_get-get_or c.outgoing-t-items.result.now c.loop-t.t-index _ c.loop-t-test.true) c.try_step.ensures.once
    (λ values told. subst (Tries c.args.machine.now values c.args.within c.loop-t.self _ c.try_step.new.self) c.if-try_step.false
    (c.try_step.ensures.tries values told))

pub returns-clause-none : goal.returns-clause-none
returns-clause-none g c =
    let long : length c.args.self.now.steps ≡ 4096 = search rules in
    goes_on_at_end (kept_at c.args.self.now c.args.place _ c.requires.place c.requires.once.room long) c.target-passed.ensures.enters c.loop-t.invariant
    c.loop-t-test.false (λ u leaves. (c.outgoing-t-items.ensures.items u).1 leaves)
