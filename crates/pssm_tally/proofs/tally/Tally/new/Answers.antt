use Rattle.pssm_tally.proofs.TallyLaws.{first_tally}
use Rattle.pssm_tally.proofs.tally.Tally.new.Goals as goal

pub returns : goal.returns
returns c =
    first_tally record { signals = c.new.result; classes = c.new-2.result; objects = c.new-3.result } c.new.ensures c.new-2.ensures c.new-3.ensures
