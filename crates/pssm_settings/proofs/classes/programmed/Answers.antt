use Rattle.std.proofs.Common.{◌∙◌}
use Rattle.pssm_settings.proofs.ClassLaws.{few_names, few_objects, few_signals}
use Rattle.pssm_settings.proofs.classes.programmed.Goals as goal

pub read_bodies-requires-clause-vars : goal.read_bodies-requires-clause-vars
read_bodies-requires-clause-vars c =
    few_names c.args.draft.now c.as_slice.result.now c.args.flat.now.vars c.of-known.result (c.of-known.ensures ∙ c.in_ok-names.ensures {u = tt}) c.as_slice.ensures
    (c.few_in_flat.ensures.vars c.args.draft.now c.args.number c.args.flat.now c.requires.range c.requires.flattened)

pub read_bodies-requires-clause-objects : goal.read_bodies-requires-clause-objects
read_bodies-requires-clause-objects c =
    few_objects c.args.draft.now c.as_slice.result.now c.of-known.result (c.of-known.ensures ∙ c.in_ok-names.ensures {u = tt}) c.requires.range

pub read_bodies-requires-clause-signals : goal.read_bodies-requires-clause-signals
read_bodies-requires-clause-signals c =
    few_signals c.args.draft.now c.as_slice.result.now c.of-known.result (c.of-known.ensures ∙ c.in_ok-names.ensures {u = tt}) c.requires.range

pub read_bodies-requires-clause-few : goal.read_bodies-requires-clause-few
read_bodies-requires-clause-few c =
    c.few_in_flat.ensures.bodies c.args.draft.now c.args.number c.args.flat.now c.requires.range c.requires.flattened

pub read_bodies-requires-clause-once : goal.read_bodies-requires-clause-once
read_bodies-requires-clause-once c = c.each_once.ensures c.args.draft.now c.args.number c.args.flat.now c.requires.flattened
