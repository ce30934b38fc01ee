-- the list of the one that reacts, if one does
use Rattle.std.proofs.Common.{◌<◌, Option, IfSome, length, subst}
use Rattle.pssm_model.specs.declared.ids.VertexId.{VertexId}
use Rattle.pssm_config.specs.Tables.{configuration_of}
use Rattle.pssm_routes.specs.inner.Starts.{IsOneReacting}
use Rattle.pssm_routes.proofs.Completions.{listed_react, listed_there}
use Rattle.pssm_routes.proofs.candidates.reacting_at_sight.Goals as goal

pub returns-in_ok-listed-in-Some-clause-states : goal.returns-in_ok-listed-in-Some-clause-states
returns-in_ok-listed-in-Some-clause-states g c values tells =
    listed_react c.args.machine.now (configuration_of c.args.config.now) values c.args.event c.in-Some.found c.in_ok-listed-in-Some.field-0.items
    (subst (λ (o : Option (Option VertexId)). IfSome o (IsOneReacting c.args.machine.now (configuration_of c.args.config.now) values c.args.event))
    c.in-Some.is (c.one_reacting.ensures.reacting values tells))
    c.in_ok-listed-in-Some.ensures

pub returns-in_ok-listed-in-Some-clause-there : goal.returns-in_ok-listed-in-Some-clause-there
returns-in_ok-listed-in-Some-clause-there g c =
    let There : VertexId → Type 0 = λ s. s.0 < length c.args.machine.now.vertices in
    listed_there There c.in-Some.found c.in_ok-listed-in-Some.field-0.items
    (subst (λ (o : Option (Option VertexId)). IfSome o (λ found. IfSome found There)) c.in-Some.is c.one_reacting.ensures.there)
    c.in_ok-listed-in-Some.ensures
