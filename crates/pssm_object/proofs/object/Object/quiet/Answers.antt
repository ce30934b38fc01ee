-- the object is quiet exactly where nothing may come next
use Rattle.pssm_object.proofs.Views.{config_fits, doers_seen, plan_known, quiet_seen}
use Rattle.pssm_object.proofs.object.Object.quiet.Goals as goal

pub returns : goal.returns
returns c =
    λ J signal s handed. quiet_seen c.self.inside.situation c.args.self.now c.self.view_is c.args.class.now c.requires.class signal J s c.is_quiet.result c.args.waiting c.is_quiet.ensures handed

pub is_quiet-requires-clause-fits : goal.is_quiet-requires-clause-fits
is_quiet-requires-clause-fits c = config_fits c.self.inside.situation c.args.self.now c.self.view_is c.args.class.now c.requires.stands

pub is_quiet-requires-clause-plan : goal.is_quiet-requires-clause-plan
is_quiet-requires-clause-plan c = plan_known c.self.inside.situation c.args.self.now c.self.view_is c.args.class.now c.requires.stands

pub is_quiet-requires-clause-doers : goal.is_quiet-requires-clause-doers
is_quiet-requires-clause-doers c = doers_seen c.self.inside.situation c.args.self.now c.self.view_is c.args.class.now c.requires.stands
