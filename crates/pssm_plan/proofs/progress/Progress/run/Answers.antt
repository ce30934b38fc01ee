use Rattle.std.proofs.Common.{List, ℕ, length, subst, sym, refl}
use Rattle.pssm_plan.specs.declared.ways.Way.{Way}
use Rattle.pssm_plan.specs.declared.roster.Call.{Call}
use Rattle.pssm_plan.specs.Ways.{AreWaysIn}
use Rattle.pssm_plan.specs.inner.Marks.{AreRunUpTo}
use Rattle.pssm_plan.specs.inner.Sequence.{IsSequence, AreNewSince}
use Rattle.pssm_plan.specs.inner.Passes.{AreCaught, AreSureBefore}
use Rattle.pssm_plan.specs.inner.Calling.{IsNoExit}
use Rattle.pssm_plan.specs.declared.waiters.Span.{Span}
use Rattle.pssm_plan.proofs.ApartCalls.{new_from, followed_no_exit}
use Rattle.pssm_plan.proofs.Caught.{caught_grown, caught_room}
use Rattle.pssm_plan.proofs.RunBefore.{run_longer, run_finished}
use Rattle.pssm_plan.proofs.Following.{followed_roster, followed_ways, followed_fresh, sure_over_ways, run_so}
use Rattle.pssm_plan.proofs.progress.Progress.run.Goals as goal

pub finish-requires-clause-ways : goal.finish-requires-clause-ways
finish-requires-clause-ways c =
    subst (AreWaysIn c.args.machine.now) (sym c.as_slice.ensures.value)
    (followed_ways c.args.machine.now c.args.self.now c.args.item c.args.how.now c.follow_whole.new.self
    c.in_ok-anew.ensures.followed c.requires.ways)

pub finish-requires-clause-roster : goal.finish-requires-clause-roster
finish-requires-clause-roster c =
    followed_roster c.args.machine.now c.args.self.now c.args.item c.args.how.now c.follow_whole.new.self c.in_ok-anew.ensures.followed

pub finish-requires-clause-caught : goal.finish-requires-clause-caught
finish-requires-clause-caught c =
    let old = c.args.self.now in
    let grown = c.follow_whole.new.self in
    subst (λ (l : List Span). AreCaught l grown.roster.calls.items) (sym c.as_mut_slice-spans.ensures.value)
    (caught_grown c.args.machine.now old.spans.items grown.spans.items old.roster.calls.items grown.roster.calls.items c.requires.caught
    c.in_ok-anew.ensures.longer.spans c.in_ok-anew.ensures.longer.calls
    (followed_roster c.args.machine.now old c.args.item c.args.how.now grown c.in_ok-anew.ensures.followed)
    (followed_fresh c.args.machine.now old c.args.item c.args.how.now grown c.in_ok-anew.ensures.followed)
    c.in_ok-anew.ensures.few c.in_ok-anew.ensures.room)

pub finish-requires-clause-left : goal.finish-requires-clause-left
finish-requires-clause-left c = λ free.
    let m = c.args.machine.now in
    let old = c.args.self.now in
    let grown = c.follow_whole.new.self in
    subst (λ (n : ℕ). AreSureBefore (IsSequence m c.as_slice.result.now) n grown.roster.calls.items) (sym c.places-since.ensures.calls)
    (subst (λ (l : List Way). AreSureBefore (IsSequence m l) (length old.roster.calls.items) grown.roster.calls.items) (sym c.as_slice.ensures.value)
    (sure_over_ways m old.roster.calls.items grown.roster.calls.items old.ways.items grown.ways.items
    c.in_ok-anew.ensures.longer.calls c.in_ok-anew.ensures.longer.ways (c.in_ok-anew.ensures.kept free) c.requires.sure))

pub finish-requires-clause-new : goal.finish-requires-clause-new
finish-requires-clause-new c = λ free.
    let m = c.args.machine.now in
    let old = c.args.self.now in
    let grown = c.follow_whole.new.self in
    subst (λ (l : List Way). AreNewSince m l grown.roster.calls.items c.places-since.result) (sym c.as_slice.ensures.value)
    (new_from m IsNoExit old.roster.calls.items grown.roster.calls.items old.ways.items grown.ways.items c.in_ok-anew.ensures.longer.calls
    (followed_roster m old c.args.item c.args.how.now grown c.in_ok-anew.ensures.followed) (c.in_ok-anew.ensures.kept free) c.requires.covered
    (followed_no_exit m old c.args.item c.args.how.now grown c.in_ok-anew.ensures.followed) c.in_ok-anew.ensures.longer.ways
    _ c.places-since.ensures.calls c.places-since.ensures.ways)

pub returns-clause-ran : goal.returns-clause-ran
returns-clause-ran c =
    run_so c.args.machine.now c.args.self.now c.follow_whole.new.self _ c.args.item c.args.how.now c.as_slice.result.now
    c.in_ok-anew.ensures.followed c.as_slice.ensures.value refl refl c.finish.ensures.finished

pub returns-in_err-anew-clause-caught : goal.returns-in_err-anew-clause-caught
returns-in_err-anew-clause-caught c =
    caught_room c.args.self.now.spans.items _ c.args.self.now.roster.calls.items _ c.in_err-anew.ensures.refused.spans c.in_err-anew.ensures.refused.calls
    c.requires.caught

-- all that ran before the place have run still
pub finish-requires-clause-done : goal.finish-requires-clause-done
finish-requires-clause-done c =
    (run_longer c.args.self.now.roster.calls.items c.follow_whole.new.self.roster.calls.items c.args.done c.in_ok-anew.ensures.longer.calls
    c.requires.done).1

pub returns-clause-done : goal.returns-clause-done
returns-clause-done c =
    let grown = c.follow_whole.new.self.roster.calls.items in
    let finished = c.finish.ensures.finished in
    run_finished c.args.item grown finished.now _ c.args.done finished.noted finished.alike
    (run_longer c.args.self.now.roster.calls.items grown c.args.done c.in_ok-anew.ensures.longer.calls c.requires.done)

pub returns-in_err-anew-clause-done : goal.returns-in_err-anew-clause-done
returns-in_err-anew-clause-done c =
    subst (λ (l : List Call). AreRunUpTo l c.args.done) (sym c.in_err-anew.ensures.refused.calls) c.requires.done
