use Rattle.std.proofs.Common.{◌∙◌}
use Rattle.pssm_limits.proofs.FewLaws.{few_by_names}
use Rattle.pssm_limits.proofs.names.has_few_variables.Goals as goal

pub returns : goal.returns
returns c =
    few_by_names c.args.file.now c.args.c c.known_roles.ensures c.args.extends.now c.in_ok-machine.machine c.extended_by.result c.in_ok-marks.marks.items
    c.as_slice.result.now c.args.classes.now.variables.items c.in_ok-found.found.items c.len.result c.requires.extends c.in_ok-machine.ensures
    c.extended_by.ensures c.in_ok-marks.ensures c.as_slice.ensures.value c.requires.classes.variables.0 c.in_ok-found.ensures (c.len.ensures ∙ c.in_ok-found.found.ok.0)
