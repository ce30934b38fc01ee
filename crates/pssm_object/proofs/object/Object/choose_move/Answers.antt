-- what is chosen may follow, and nothing is chosen where no move may
use Rattle.std.specs.Option.{option_copied}
use Rattle.std.proofs.lemmas.Result.{IfOk-weaker}
use Rattle.pssm_object.proofs.Views.{config_fits, plan_known, moves_seen, own_seen, places_seen, chosen_seen, none_seen}
use Rattle.pssm_object.proofs.object.Object.choose_move.Goals as goal

pub choose_move-requires-clause-fits : goal.choose_move-requires-clause-fits
choose_move-requires-clause-fits c = config_fits c.self.inside.situation c.args.self.now c.self.view_is c.args.class.now c.requires.stands

pub choose_move-requires-clause-plan : goal.choose_move-requires-clause-plan
choose_move-requires-clause-plan c = plan_known c.self.inside.situation c.args.self.now c.self.view_is c.args.class.now c.requires.stands

pub returns-clause-moves : goal.returns-clause-moves
returns-clause-moves c =
    IfOk-weaker c.choose_move.result _ _
    (moves_seen c.self.inside.situation c.args.self.now c.self.view_is c.args.class.now c.requires.class (option_copied c.args.signal) c.requires.stands)
    c.choose_move.ensures

pub returns-clause-own : goal.returns-clause-own
returns-clause-own c =
    IfOk-weaker c.choose_move.result _ _
    (own_seen c.self.inside.situation c.args.self.now c.self.view_is c.args.class.now c.requires.class (option_copied c.args.signal) c.requires.stands)
    c.choose_move.ensures

pub returns-clause-places : goal.returns-clause-places
returns-clause-places c =
    IfOk-weaker c.choose_move.result _ _
    (places_seen c.self.inside.situation c.args.self.now c.self.view_is c.args.class.now c.requires.class (option_copied c.args.signal) c.requires.stands)
    c.choose_move.ensures

pub returns-clause-follows : goal.returns-clause-follows
returns-clause-follows c =
    IfOk-weaker c.choose_move.result _ _
    (chosen_seen c.self.inside.situation c.args.self.now c.self.view_is c.args.class.now c.requires.class (option_copied c.args.signal) c.requires.stands)
    c.choose_move.ensures

pub returns-clause-none : goal.returns-clause-none
returns-clause-none c =
    IfOk-weaker c.choose_move.result _ _
    (none_seen c.self.inside.situation c.args.self.now c.self.view_is c.args.class.now c.requires.class (option_copied c.args.signal) c.requires.stands)
    c.choose_move.ensures
