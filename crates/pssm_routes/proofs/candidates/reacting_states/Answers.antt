-- what looks tell, or a search
use Rattle.std.proofs.Common.{◌↔◌, Option, Vec, Global, IfSome, Contains, subst}
use Rattle.pssm_model.specs.declared.ids.VertexId.{VertexId}
use Rattle.pssm_config.specs.Tables.{configuration_of}
use Rattle.pssm_routes.specs.inner.Starts.{Reacts}
use Rattle.pssm_routes.proofs.candidates.reacting_states.Goals as goal

pub returns-in-Some-clause-states : goal.returns-in-Some-clause-states
returns-in-Some-clause-states g c values tells =
    subst (λ (found : Option (Vec VertexId Global)). IfSome found (λ states. (s : VertexId) → Contains states.items s
    ↔ Reacts c.args.machine.now (configuration_of c.args.config.now) values c.args.event s)) c.in-Some.is (c.in_ok-states.ensures.states values tells)
