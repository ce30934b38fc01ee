-- the first of all is not held
use Rattle.std.proofs.Common.{refl, sym, ◌∙◌}
use Rattle.std.specs.Fn.{FnReturnsAt}
use Rattle.std.proofs.lemmas.Fn.{says_at}
use Rattle.pssm_pool.specs.inner.Chaining.{values_of}
use Rattle.pssm_pool.specs.Telling.{AnswersAlike}
use Rattle.pssm_pool.proofs.Looking.{before-none, first-found}
use Rattle.pssm_pool.proofs.Linking.{value-here}
use Rattle.pssm_pool.proofs.alike.first_in_alike.Goals as goal

pub returns-then-not-held-clause-first : goal.returns-then-not-held-clause-first
returns-then-not-held-clause-first g c =
    let lists = c.args.chains.now.lists in
    let at = sym c.first.ensures ∙ c.in-Some.is in (
      0,
      at,
      first-found (AnswersAlike (FnReturnsAt g.T.Fn c.args.held.now)) (values_of lists c.args.list) 0 c.get.result.now
          (value-here lists c.args.list 0 c.get.result.now (c.get.ensures c.args.list 0 at))
          (c.get.result.now, (refl, refl), says_at g.T.Fn c.held.ensures c.if-not-held.true)
          (before-none (AnswersAlike (FnReturnsAt g.T.Fn c.args.held.now)) (values_of lists c.args.list)),
    )
