-- each turn goes on from one vertex more
use Rattle.std.proofs.Common.{sym, subst}
use Rattle.pssm_enabled.specs.inner.Behind.{IsGoingOn}
use Rattle.pssm_enabled.proofs.Expanding.{none_found_once, going_begins, going_ends}
use Rattle.pssm_enabled.proofs.tracing.go_on_all.Goals as goal

pub add-requires-clause-once : goal.add-requires-clause-once
add-requires-clause-once g c = none_found_once c.args.machine.now c.none-come.result c.none-come.ensures.count c.none-come.ensures.nothing

pub loop-place-init : goal.loop-place-init
loop-place-init g c = (
  c.add.ensures.once,
  λ values tells known on.
      subst (λ ts. IsGoingOn c.args.machine.now values c.args.v ts c.add.new.self 0) (sym c.new-found.ensures.items)
      (going_begins c.args.machine.now values c.args.v c.none-come.result c.add.new.self c.none-come.ensures.nothing c.add.ensures.once
      c.add.ensures.further on),
)

pub loop-place-preserved : goal.loop-place-preserved
loop-place-preserved g c = (
  c.in_ok-go_on_from.ensures.once,
  λ values tells known on. c.in_ok-go_on_from.ensures.going values c.args.v tells known (c.loop-place.invariant.1 values tells known on),
)

pub returns : goal.returns
returns g c values tells known on =
    going_ends c.args.machine.now values c.args.v c.loop-place.found.items c.loop-place.come c.loop-place.place c.loop-place-test.false
    (c.loop-place.invariant.1 values tells known on)
