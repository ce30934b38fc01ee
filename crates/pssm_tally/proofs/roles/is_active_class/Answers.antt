use Rattle.pssm_tally.proofs.KindLaws.{is_class}
use Rattle.pssm_tally.proofs.roles.is_active_class.Goals as goal

pub returns : goal.returns
returns c = is_class c.args.elements.now c.args.n c.args.role c.is_active.result c.one_role.ensures c.requires c.is_active.ensures
