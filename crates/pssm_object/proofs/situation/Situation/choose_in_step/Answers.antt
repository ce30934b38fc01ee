-- where everything has run what comes next is chosen, and else an opening or a pick
use Rattle.std.proofs.Common.{◌∙◌, Some, None, sym}
use Rattle.std.specs.Option.{option_copied}
use Rattle.std.proofs.lemmas.Bool.{false≢true}
use Rattle.std.proofs.lemmas.Result.{IfOk-weaker}
use Rattle.pssm_object.specs.inner.Situations.{standing_of}
use Rattle.pssm_object.proofs.Choices.{chooses_next, chooses_way, choice_item_there}
use Rattle.pssm_object.proofs.situation.Situation.choose_in_step.Goals as goal

pub returns-then-finished : goal.returns-then-finished
returns-then-finished c =
    IfOk-weaker c.choose_next.result _ _
    (λ chosen. chooses_next c.args.class.now (standing_of c.args.self.now) (option_copied c.args.signal) c.args.plan.now c.requires.here chosen ((c.finished.ensures c.args.class.now.machine c.requires.plan).0 c.if-finished.true)) c.choose_next.ensures

pub go_some_way-requires-clause-item : goal.go_some_way-requires-clause-item
go_some_way-requires-clause-item c = (c.in-Some.ensures.ready c.args.class.now.machine c.requires.plan).0

pub go_some_way-requires-clause-there : goal.go_some_way-requires-clause-there
go_some_way-requires-clause-there c =
    choice_item_there c.requires.fits.shape c.requires.class.rules c.args.plan.now c.in-Some.item c.requires.plan
    (c.in-Some.ensures.ready c.args.class.now.machine c.requires.plan)

pub returns-in_ok-go_some_way-in-Some : goal.returns-in_ok-go_some_way-in-Some
returns-in_ok-go_some_way-in-Some c =
    chooses_way c.args.class.now (standing_of c.args.self.now) (option_copied c.args.signal) c.args.plan.now c.requires.here (Some c.in_ok-go_some_way-in-Some.field-0)
    (λ out. false≢true (sym c.if-finished.false ∙ (c.finished.ensures c.args.class.now.machine c.requires.plan).1 out))
    (c.in-Some.item, c.in-Some.ensures.ready c.args.class.now.machine c.requires.plan, c.in_ok-go_some_way-in-Some.ensures)

pub returns-in-None : goal.returns-in-None
returns-in-None c =
    chooses_way c.args.class.now (standing_of c.args.self.now) (option_copied c.args.signal) c.args.plan.now c.requires.here None (λ out. false≢true (sym c.if-finished.false ∙ (c.finished.ensures c.args.class.now.machine c.requires.plan).1 out))
    (c.in-None.ensures.none c.args.class.now.machine c.requires.plan)
