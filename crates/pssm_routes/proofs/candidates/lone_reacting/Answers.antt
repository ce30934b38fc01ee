-- the one that reacts does so alone
use Rattle.std.proofs.Common.{Option, IfSome, subst}
use Rattle.pssm_model.specs.declared.ids.VertexId.{VertexId}
use Rattle.pssm_config.specs.Tables.{configuration_of}
use Rattle.pssm_routes.specs.inner.Starts.{IsOneReacting}
use Rattle.pssm_routes.proofs.Completions.{one_alone}
use Rattle.pssm_routes.proofs.candidates.lone_reacting.Goals as goal

pub returns-in-Some-clause-alone : goal.returns-in-Some-clause-alone
returns-in-Some-clause-alone g c values tells =
    one_alone c.args.machine.now (configuration_of c.args.config.now) values c.args.event c.in-Some.found
    (subst (λ (o : Option (Option VertexId)). IfSome o (IsOneReacting c.args.machine.now (configuration_of c.args.config.now) values c.args.event))
    c.in-Some.is (c.one_reacting.ensures.reacting values tells))
