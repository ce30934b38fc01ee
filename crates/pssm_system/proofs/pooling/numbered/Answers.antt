-- the signal of the slot has the number, or none has it
use Rattle.std.proofs.Common.{rules}
use Rattle.std.proofs.lemmas.Option.{IfSome_then}
use Rattle.pssm_pool.specs.Waits.{waiting_for}
use Rattle.pssm_system.proofs.Places.{all-so, none_then}
use Rattle.pssm_system.proofs.Numbers.{first-numbered}
use Rattle.pssm_system.proofs.pooling.numbered.Goals as goal

pub returns-clause-there : goal.returns-clause-there
returns-clause-there c =
    IfSome_then c.first_not.result c.first_not.ensures.first
    (λ slot first. (
      first.0,
      first.1,
      first-numbered c.args.number _ first.0 _ first.2 (λ w said. let met = said.says.met in let shows = said.shows in search rules)
          (λ w said. let met = said.says.met in let shows = said.shows in search rules),
    ))

pub returns-clause-none : goal.returns-clause-none
returns-clause-none c =
    none_then c.first_not.result c.first_not.ensures.none
    (λ all. all-so (waiting_for c.args.pools.now.waiting c.args.object) all
    (λ w said. let met = said.says.met in let shows = said.shows in search rules))
