-- the stimulus that waits is posted
use Rattle.std.proofs.Common.{ap}
use Rattle.std.specs.Option.{option_copied}
use Rattle.pssm_book.proofs.PostLaws.{posts_next}
use Rattle.pssm_workers.proofs.finishing.next.Goals as goal

pub returns-in-Some-clause-next : goal.returns-in-Some-clause-next
returns-in-Some-clause-next c =
    posts_next c.args.system.now (option_copied c.args.waiting) c.in-Some.stimulus.now c.post.result (rw c.in-Some.is at c.requires) (ap option_copied c.in-Some.is) c.post.ensures
