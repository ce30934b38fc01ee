use Rattle.std.proofs.Common.{◌≡◌, ◌+◌, ℕ, true, sym, subst, arith}
use Rattle.std.proofs.lemmas.Option.{slice_get_within}
use Rattle.pssm_plan.specs.declared.ways.Way.{Way}
use Rattle.pssm_plan.specs.inner.ByWays.{calls_by}
use Rattle.pssm_plan.proofs.SomeWay.{is_there, NoneFrom, none_from_here, none_from_next}
use Rattle.pssm_plan.proofs.ways.last_calling.Goals.{then-may_call, else-may_call}
use Rattle.pssm_plan.proofs.ways.last_calling.Goals as goal

pub may_call-requires-clause-way : goal.may_call-requires-clause-way
may_call-requires-clause-way c =
    c.requires.ways c.index-ways-k.result (is_there c.args.ways.now c.loop-k.k c.index-ways-k.result c.loop-k-test.true c.index-ways-k.is)

pub loop-k-preserved : goal.loop-k-preserved
loop-k-preserved c =
    let Q : Way → Type 0 = (λ way. calls_by c.args.machine.now way c.args.item) in
    let k = c.loop-k.k in
    let Is : ℕ → Type 0 = (λ n. NoneFrom Q c.args.ways.now n (k + 1)) in
    elim c.if-may_call.branch [
      | then-may_call w ↦
          let is = subst Is (sym w.last-is) (none_from_here Q c.args.ways.now (k + 1)) in record { within = is.within; none = is.none }
      | else-may_call w ↦
          let is = subst Is (sym w.last-is)
          (none_from_next c.args.ways.now k c.index-ways-k.result c.loop-k-test.true c.index-ways-k.is Q c.loop-k.last
          (λ h. absurd (let yes : c.may_call.result ≡ true = c.may_call.ensures h in let no = w.if-may_call.false in cc))
          c.loop-k.invariant.within c.loop-k.invariant.none) in
          record { within = is.within; none = is.none }
    ]

pub returns-clause-none : goal.returns-clause-none
returns-clause-none c =
    λ j way above at. c.loop-k.invariant.none j way above
    (let inside = slice_get_within c.args.ways.now j way at in let last = c.loop-k-test.false in omega (arith, inside, last)) at
