use Rattle.pssm_xmi.proofs.FittingLaws.{fits}
use Rattle.pssm_xmi.proofs.fitting.fitting.Goals as goal

pub returns : goal.returns
returns c = fits c.one_role.ensures c.args.file.now c.requires (c.one_notion_of_variable.ensures c.args.file.now c.requires.roles)
