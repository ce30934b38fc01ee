-- a signal more that is held, the first that is not, and none
use Rattle.std.proofs.Common.{sym, ◌∙◌, arith}
use Rattle.std.specs.Fn.{FnReturnsAt}
use Rattle.pssm_pool.specs.Telling.{AnswersAlike}
use Rattle.pssm_pool.specs.inner.Chaining.{values_of}
use Rattle.pssm_pool.proofs.Looking.{before-more, first-found, all-held}
use Rattle.pssm_pool.proofs.Linking.{value-here, place-within, past-end}
use Rattle.pssm_pool.proofs.alike.first_from.Goals as goal

pub overflow_add-place : goal.overflow_add-place
overflow_add-place g c =
    let at = sym c.loop-next.invariant.at ∙ c.in-Some.is in
    let within = place-within c.args.chains.now.lists c.args.list c.loop-next.place c.in-Some.slot at in
    let short = c.own_slots.ensures.short c.args.list in
    omega (arith, within, short)

pub loop-next-smaller : goal.loop-next-smaller
loop-next-smaller g c =
    let at = sym c.loop-next.invariant.at ∙ c.in-Some.is in
    let within = place-within c.args.chains.now.lists c.args.list c.loop-next.place c.in-Some.slot at in
    omega (arith, within)

pub returns-clause-none : goal.returns-clause-none
returns-clause-none g c =
    let lists = c.args.chains.now.lists in
    all-held (AnswersAlike (FnReturnsAt g.T.Fn c.args.held.now)) c.loop-next.place (values_of lists c.args.list)
    (past-end lists c.args.list c.loop-next.place (sym c.loop-next.invariant.at ∙ c.in_default.is)) c.loop-next.invariant.before

pub returns-in_default-held_as-clause-first : goal.returns-in_default-held_as-clause-first
returns-in_default-held_as-clause-first g c =
    let lists = c.args.chains.now.lists in
    let at = sym c.loop-next.invariant.at ∙ c.in-Some.is in (
      c.loop-next.place,
      at,
      first-found (AnswersAlike (FnReturnsAt g.T.Fn c.args.held.now)) (values_of lists c.args.list) c.loop-next.place c.get.result.now
          (value-here lists c.args.list c.loop-next.place c.get.result.now (c.get.ensures c.args.list c.loop-next.place at))
          c.in_default-held_as.ensures.none c.loop-next.invariant.before,
    )

pub loop-next-preserved : goal.loop-next-preserved
loop-next-preserved g c =
    let lists = c.args.chains.now.lists in
    let at = sym c.loop-next.invariant.at ∙ c.in-Some.is in
    record {
      at = c.next-next.ensures c.args.list c.loop-next.place at;
      before = before-more (AnswersAlike (FnReturnsAt g.T.Fn c.args.held.now)) (values_of lists c.args.list) c.loop-next.place c.get.result.now
          (value-here lists c.args.list c.loop-next.place c.get.result.now (c.get.ensures c.args.list c.loop-next.place at))
          c.in-Some-held_as.ensures.held c.loop-next.invariant.before;
      last = c.in-Some-held_as.ensures.some;
    }
