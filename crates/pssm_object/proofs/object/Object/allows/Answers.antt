-- the verdict is that of the rules
use Rattle.std.specs.Option.{option_copied}
use Rattle.std.proofs.lemmas.Result.{IfOk-weaker}
use Rattle.pssm_object.proofs.Views.{config_fits, plan_known, keeps_seen, breaks_seen}
use Rattle.pssm_object.proofs.object.Object.allows.Goals as goal

pub judge-requires-clause-fits : goal.judge-requires-clause-fits
judge-requires-clause-fits c = config_fits c.self.inside.situation c.args.self.now c.self.view_is c.args.class.now c.requires.stands

pub judge-requires-clause-plan : goal.judge-requires-clause-plan
judge-requires-clause-plan c = plan_known c.self.inside.situation c.args.self.now c.self.view_is c.args.class.now c.requires.stands

pub returns-clause-keeps : goal.returns-clause-keeps
returns-clause-keeps c =
    IfOk-weaker c.judge.result _ _
    (keeps_seen c.self.inside.situation c.args.self.now c.self.view_is c.args.class.now c.requires.class (option_copied c.args.signal) c.args.entry.now
    c.requires.own) c.judge.ensures

pub returns-clause-breaks : goal.returns-clause-breaks
returns-clause-breaks c =
    IfOk-weaker c.judge.result _ _
    (breaks_seen c.self.inside.situation c.args.self.now c.self.view_is c.args.class.now c.requires.class (option_copied c.args.signal) c.args.entry.now
    c.requires.own) c.judge.ensures
