use Rattle.std.proofs.Common.{take, arith, subst, sym, ◌∷◌, [], ◌++◌}
use Rattle.std.specs.List.{flat_map}
use Rattle.pssm_acts.specs.Answers.{Faults}
use Rattle.pssm_bodies.specs.Slots.{transition_slots}
use Rattle.pssm_bodies.specs.Programs.{NumbersTransition, AllNumbered}
use Rattle.pssm_bodies.specs.inner.Through.{StopsIn}
use Rattle.pssm_bodies.proofs.GuardCounts.{transitions_guards, next_room}
use Rattle.pssm_bodies.proofs.ListLaws.{take_one_more}
use Rattle.pssm_bodies.proofs.ThroughLaws.{passed_on, stops_at, all_lead, transition_leads, one_more}
use Rattle.pssm_bodies.proofs.elements.transitions_numbered.Goals as goal

pub transition_numbered-requires-clause-room : goal.transition_numbered-requires-clause-room
transition_numbered-requires-clause-room c =
    let l = c.loop-transition in
    let so_far = transitions_guards c.args.names.now c.args.bodies.now c.args.program
    (take l.transition-index c.args.from.now) l.numbered.items l.program l.invariant.numbers in
    omega (
      arith,
      so_far,
      next_room c.args.from.now l.transition-index c.transition-item.result c.loop-transition-test.true c.transition-item.is,
      c.requires.room,
    )

pub returns-in_err-to-clause-fault : goal.returns-in_err-to-clause-fault
returns-in_err-to-clause-fault c =
    let names = c.args.names.now in
    let bodies = c.args.bodies.now in
    let l = c.loop-transition in
    let leads = all_lead names bodies (NumbersTransition names bodies) transition_slots (transition_leads names bodies) c.args.program
    (take l.transition-index c.args.from.now) l.numbered.items l.program l.invariant.numbers in
    passed_on (Faults (StopsIn names bodies (flat_map transition_slots c.args.from.now) c.args.program)) c.in_err-to.field-0.0
    c.from_residual.result c.from_residual.ensures.1
    (stops_at names bodies transition_slots c.args.from.now l.transition-index c.transition-item.result c.args.program l.program
    c.loop-transition-test.true c.transition-item.is leads c.in_err-to.field-0.0 c.in_err-to.ensures.fault)

pub loop-transition-preserved : goal.loop-transition-preserved
loop-transition-preserved c =
    let l = c.loop-transition in
    let Step = NumbersTransition c.args.names.now c.args.bodies.now in
    let more = one_more Step c.args.program (take l.transition-index c.args.from.now) l.numbered.items l.program l.invariant.numbers
    c.transition-item.result c.in_ok-to.to c.in_ok-to.next c.in_ok-to.ensures.numbers in
    record {
      numbers = subst (λ xs. AllNumbered Step c.args.program xs c.in_ok-numbered.numbered.items c.in_ok-to.next)
          (sym (take_one_more c.args.from.now l.transition-index c.transition-item.result c.loop-transition-test.true c.transition-item.is))
          (subst (λ ys. AllNumbered Step c.args.program (take l.transition-index c.args.from.now ++ c.transition-item.result ∷ []) ys c.in_ok-to.next)
          (sym c.in_ok-numbered.ensures) more);
      limits = c.in_ok-to.ensures.limits;
    }
