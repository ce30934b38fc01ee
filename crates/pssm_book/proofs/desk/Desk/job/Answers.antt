-- a ready task has a behaviour, which may be run
use Rattle.std.proofs.Common.{◌≡◌, Some, None, sym, ap, subst, ◌∙◌}
use Rattle.std.specs.Option.{option_copied}
use Rattle.std.proofs.lemmas.Option.{same_Some}
use Rattle.pssm_semantics.specs.declared.setting.Setting.{Setting}
use Rattle.pssm_semantics.specs.Arguments.{ActArgsFit}
use Rattle.pssm_system.proofs.Following.{object_there}
use Rattle.pssm_book.specs.Works.{behaviour_in}
use Rattle.pssm_book.proofs.TaskLaws.{has_behaviour}
use Rattle.pssm_book.proofs.desk.Desk.job.Goals as goal

pub unreachable-requires : goal.unreachable-requires
unreachable-requires c =
    let ready = c.requires.is_open.ready in
    let has = has_behaviour c.requires.order.well_formed c.requires.order.admissible c.args.object ready.class_is c.args.task ready.ready in
    let clash : None ≡ Some has.0 =
    sym (ap option_copied c.in_default.is) ∙ c.behaviour.ensures
    ∙ ap (λ (s : Setting). behaviour_in s c.args.object c.args.task) c.setting.ensures.setting ∙ has.1 in
    absurd cc

pub values-requires-clause-there : goal.values-requires-clause-there
values-requires-clause-there c =
    let ready = c.requires.is_open.ready in
    object_there c.args.self.now.system.setting c.args.object ready.class ready.class_is

pub params-requires : goal.params-requires
params-requires c =
    let ready = c.requires.is_open.ready in
    object_there c.args.self.now.system.setting c.args.object ready.class ready.class_is

pub returns-clause-runs : goal.returns-clause-runs
returns-clause-runs c =
    let ready = c.requires.is_open.ready in
    let has = has_behaviour c.requires.order.well_formed c.requires.order.admissible c.args.object ready.class_is c.args.task ready.ready in
    let found : Some c.in-Some.act.now ≡ Some has.0 =
    sym (ap option_copied c.in-Some.is) ∙ c.behaviour.ensures
    ∙ ap (λ (s : Setting). behaviour_in s c.args.object c.args.task) c.setting.ensures.setting ∙ has.1 in
    subst ActArgsFit (sym (c.in_ok-copy.ensures ∙ same_Some c.in-Some.act.now has.0 found)) has.2
