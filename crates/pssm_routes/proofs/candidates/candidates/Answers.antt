-- What reacts and is not marked is a candidate.
use Rattle.std.proofs.Common.{◌<◌, length, arith}
use Rattle.pssm_model.specs.declared.ids.VertexId.{VertexId}
use Rattle.pssm_config.specs.Tables.{configuration_of}
use Rattle.pssm_routes.proofs.ChosenStates.{IsMarked, chosen_hold, candidates_found}
use Rattle.pssm_routes.proofs.LoneCandidates.{lone_candidates}
use Rattle.pssm_routes.proofs.candidates.candidates.Goals as goal

pub returns-then-len-lt2-clause-states : goal.returns-then-len-lt2-clause-states
returns-then-len-lt2-clause-states g c values tells =
    lone_candidates c.requires.fits.shape (configuration_of c.args.config.now) values c.args.event c.in_ok-reacting.reacting.items
    (let few = c.if-len-lt2.true in let is = c.len.ensures in omega (arith, few, is)) (c.in_ok-reacting.ensures.states values tells)

pub returns-clause-there : goal.returns-clause-there
returns-clause-there g c =
    let There : VertexId → Type 0 = λ s. s.0 < length c.args.machine.now.vertices in
    let Free : VertexId → Type 0 = λ s. IsMarked c.as_slice-3.result.now s → ⊥ in
    chosen_hold There Free c.in_ok-reacting.reacting.items c.as_slice-2.result.now c.as_slice-2.ensures.value c.in_ok-reacting.ensures.there
    c.unmarked.result c.unmarked.ensures

pub returns-clause-states : goal.returns-clause-states
returns-clause-states g c values tells =
    candidates_found c.args.machine.now (configuration_of c.args.config.now) values c.args.event c.in_ok-reacting.reacting.items
    c.as_slice.result.now c.as_slice-2.result.now c.in_ok-outranked.outranked.items c.as_slice-3.result.now c.as_slice.ensures.value
    c.as_slice-2.ensures.value c.as_slice-3.ensures.value (c.in_ok-reacting.ensures.states values tells) c.in_ok-outranked.ensures.marks
    c.unmarked.result c.unmarked.ensures
