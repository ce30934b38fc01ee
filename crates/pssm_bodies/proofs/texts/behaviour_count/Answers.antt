use Rattle.std.proofs.Common.{sym}
use Rattle.pssm_bodies.proofs.CountLaws.{says_act}
use Rattle.pssm_bodies.proofs.SlotLaws.{if_true, if_false}
use Rattle.pssm_bodies.proofs.texts.behaviour_count.Goals as goal

pub returns-then-is_not_empty-clause-says : goal.returns-then-is_not_empty-clause-says
returns-then-is_not_empty-clause-says c =
    says_act c.args.names.now c.args.marks.now c.args.text.now c.in_ok-act.act c.read_act_noting.new.marks c.is_not_empty.result 1
    c.in_ok-act.ensures.spelled c.is_not_empty.ensures
    (sym (if_true c.is_not_empty.result c.if-is_not_empty.true))

pub returns-clause-says : goal.returns-clause-says
returns-clause-says c =
    says_act c.args.names.now c.args.marks.now c.args.text.now c.in_ok-act.act c.read_act_noting.new.marks c.is_not_empty.result 0
    c.in_ok-act.ensures.spelled c.is_not_empty.ensures
    (sym (if_false c.is_not_empty.result c.if-is_not_empty.false))
