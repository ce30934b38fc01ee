use Rattle.pssm_plan.proofs.Following.{followed_room}
use Rattle.pssm_plan.proofs.progress.Progress.follow_few.Goals as goal

pub returns-clause-followed : goal.returns-clause-followed
returns-clause-followed c =
    followed_room c.args.machine.now c.args.self.now c.follow.new.self c.args.item c.args.how.now c.make_more_room.new.spans c.in_ok-anew.ensures.followed
