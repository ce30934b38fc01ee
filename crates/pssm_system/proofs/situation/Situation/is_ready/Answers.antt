-- the object tells it, where there is one
use Rattle.std.proofs.Common.{sym, ◌∙◌}
use Rattle.std.proofs.lemmas.Bool.{false≢true}
use Rattle.pssm_system.proofs.Members.{member, stands_somewhere}
use Rattle.pssm_system.proofs.OwnTasks.{no_ready, ready_of_member}
use Rattle.pssm_system.proofs.situation.Situation.is_ready.Goals as goal

pub returns-then-not-has : goal.returns-then-not-has
returns-then-not-has c = λ J stands. (
  λ no. absurd (false≢true no),
  λ r. absurd (no_ready c.requires.well_formed stands.objects c.args.own (λ lt. false≢true (sym c.if-not-has.true ∙ c.has.ensures.1 lt)) c.args.task r),
)

pub is_ready-requires : goal.is_ready-requires
is_ready-requires c =
    let m = member c.requires.well_formed c.requires.stands.1.objects c.args.own c.class_of.result.now c.index-object.result.now c.from.result
    c.class_of.ensures c.from.ensures c.index-object.ensures in
    record { stands = stands_somewhere m }

pub returns : goal.returns
returns c = λ J stands.
    let m = member c.requires.well_formed stands.objects c.args.own c.class_of.result.now c.index-object.result.now c.from.result
    c.class_of.ensures c.from.ensures c.index-object.ensures in
    ready_of_member m c.args.task c.is_ready.result (c.is_ready.ensures J m.object.stands)
