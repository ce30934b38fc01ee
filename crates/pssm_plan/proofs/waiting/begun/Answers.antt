use Rattle.std.proofs.Common.{◌+◌, refl, List, subst, sym}
use Rattle.std.proofs.lemmas.Bool.{false≢true}
use Rattle.pssm_plan.specs.declared.ways.Way.{Way}
use Rattle.pssm_plan.specs.inner.Sequence.{IsSequence}
use Rattle.pssm_plan.specs.inner.Passes.{AreFreeFrom}
use Rattle.pssm_plan.proofs.ApartCalls.{begun_seen, rest_is}
use Rattle.pssm_plan.proofs.waiting.begun.Goals as goal

pub returns-clause-seen : goal.returns-clause-seen
returns-clause-seen c =
    begun_seen c.args.machine.now c.args.ways.now c.args.calls.now c.args.at.place c.last_before-left.result c.args.call.now _ c.args.since
    c.requires.new c.requires.from c.requires.there
    (subst (λ (l : List Way). AreFreeFrom (IsSequence c.args.machine.now l) c.args.calls.now c.args.call.now.item c.args.since.calls
    (c.args.at.place + 1))
    (sym (rest_is c.args.ways.now c.args.since.ways)) c.requires.passed)
    c.last_before-left.ensures.none c.last_before-left.ensures.within refl (λ t. false≢true t)
    c.next_place.ensures.first c.next_place.ensures.further
