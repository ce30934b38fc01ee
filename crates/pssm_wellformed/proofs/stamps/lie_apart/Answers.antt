-- one end after the other, and the region in which it lies
use Rattle.std.proofs.Common.{◌<◌, ◌+◌, refl, sym, subst, arith}
use Rattle.std.proofs.lemmas.Bool.{false≢true}
use Rattle.std.proofs.lemmas.Option.{slice_get_within}
use Rattle.pssm_model.specs.declared.elements.Owner.TheVariants.{State}
use Rattle.pssm_wellformed.specs.inner.Ends.{transition_number}
use Rattle.pssm_wellformed.proofs.Together.{apart_has_all}
use Rattle.pssm_wellformed.proofs.Stamping.{stamps_begin, stamps_go_on, stamps_end, stamped_twice}
use Rattle.pssm_wellformed.proofs.stamps.lie_apart.Goals as goal

pub loop-transition-init : goal.loop-transition-init
loop-transition-init c = stamps_begin c.requires.shape c.args.end c.args.state c.args.transitions.now c.args.last c.args.stamps.now.items c.requires.stamps

pub region_of_end-requires-clause-there : goal.region_of_end-requires-clause-there
region_of_end-requires-clause-there c = c.requires.there c.loop-transition.transition-index (transition_number 0) c.loop-transition-test.true

pub put_stamp-requires : goal.put_stamp-requires
put_stamp-requires c =
    subst (λ n. c.in-Some.region.0 < n) (sym c.loop-transition.invariant.are.width)
    (slice_get_within c.args.machine.now.regions c.in-Some.region.0 (State c.args.state) c.in-Some.ensures.0)

pub returns-in-None-clause-apart : goal.returns-in-None-clause-apart
returns-in-None-clause-apart c = (
  λ t. absurd (false≢true t),
  λ h. absurd (c.in-None.ensures
      (apart_has_all c.args.machine.now c.args.end c.args.state c.args.transitions.now c.requires.there h c.loop-transition.transition-index c.loop-transition-test.true)),
)

pub returns-then-put_stamp-clause-apart : goal.returns-then-put_stamp-clause-apart
returns-then-put_stamp-clause-apart c = (
  λ t. absurd (false≢true t),
  λ h. absurd (stamped_twice c.requires.shape c.args.end c.args.state c.args.transitions.now c.loop-transition.transition-index (c.args.last + 1) c.in-Some.region.0 c.loop-transition.stamps.items
      c.requires.ascending c.loop-transition-test.true c.loop-transition.invariant c.in-Some.ensures (c.if-put_stamp.ensures.before.0 refl) h),
)

pub loop-transition-preserved : goal.loop-transition-preserved
loop-transition-preserved c =
    stamps_go_on c.requires.shape c.args.end c.args.state c.args.transitions.now c.loop-transition.transition-index (c.args.last + 1) c.in-Some.region.0
    c.loop-transition.stamps.items c.put_stamp.new.stamps.items c.loop-transition.invariant c.in-Some.ensures (λ e. false≢true (c.if-put_stamp.ensures.before.1 e))
    c.if-put_stamp.ensures.width c.if-put_stamp.ensures.here c.if-put_stamp.ensures.elsewhere

pub returns-clause-apart : goal.returns-clause-apart
returns-clause-apart c = (
  λ t. stamps_end c.requires.shape c.args.end c.args.state c.args.transitions.now c.loop-transition.transition-index (c.args.last + 1) c.loop-transition.stamps.items c.loop-transition.invariant
      (let last = c.loop-transition-test.false in omega arith),
  λ h. refl,
)
