-- a post changes the pool of its object alone
use Rattle.std.proofs.Common.{length, subst}
use Rattle.std.proofs.lemmas.Result.{on_ok_weaker}
use Rattle.pssm_semantics.specs.Pool.{signals_of_entry}
use Rattle.pssm_system.specs.inner.Pooling.{HavePools}
use Rattle.pssm_system.specs.inner.Stepping.{posted}
use Rattle.pssm_system.proofs.Stepped.{pools_there, brings-posted}
use Rattle.pssm_system.proofs.situation.Situation.settle.Goals as goal

pub post-requires-clause-pool : goal.post-requires-clause-pool
post-requires-clause-pool c =
    (subst (λ e. HavePools (signals_of_entry e) (length c.args.self.now.pools.waiting)) c.in-Post.is (pools_there c.requires.well_formed c.requires.can)).0

pub returns-in-Post-clause-ok : goal.returns-in-Post-clause-ok
returns-in-Post-clause-ok c =
    on_ok_weaker c.post.result
    (brings-posted c.requires.well_formed c.args.self.now c.post.new.self c.args.entry.now (posted c.in-Post.object c.in-Post.signal c.in-Post.args) c.in-Post.is)
    c.post.ensures.ok
