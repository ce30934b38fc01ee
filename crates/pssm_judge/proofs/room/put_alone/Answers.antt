use Rattle.std.proofs.Common.{arith}
use Rattle.pssm_judge.proofs.RoomLaws.{only_set}
use Rattle.pssm_judge.proofs.room.put_alone.Goals as goal

pub returns : goal.returns
returns c = λ yes. only_set c.args.starts.now c.args.start (omega arith)
