-- where neither part of the objects has anything, none has
use Rattle.pssm_book.proofs.DeskLaws.{found_before, nothing_there}
use Rattle.pssm_book.proofs.desk.Desk.within.Goals as goal

pub returns-in-None : goal.returns-in-None
returns-in-None c =
    found_before c.args.self.now c.object_count-count.result _ c.in_ok-next.field-0 c.next_among-in-None.result c.object_count-count.ensures c.in-None.is
    c.in_ok-next.ensures c.next_among-in-None.ensures

pub returns-then-count-eq0 : goal.returns-then-count-eq0
returns-then-count-eq0 c = nothing_there c.args.self.now c.object_count-count.result c.object_count-count.ensures c.if-count-eq0.true
