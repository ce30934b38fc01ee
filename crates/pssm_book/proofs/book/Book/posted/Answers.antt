-- as many stimuli are posted as the journal has posts, and these are few
use Rattle.std.proofs.Common.{arith}
use Rattle.pssm_book.proofs.RunLaws.{posts_few}
use Rattle.pssm_book.proofs.DeskLaws.{posted_is}
use Rattle.pssm_book.proofs.book.Book.posted.Goals as goal

pub overflow_cast-result : goal.overflow_cast-result
overflow_cast-result g c =
    let order = c.self.invariant.0 in
    let is = posted_is c.self.inside.desk order in
    let few = posts_few c.self.inside.desk.system.journal in
    let short = order.running.few in
    let low = order.low in
    omega (arith, is, few, short, low)
