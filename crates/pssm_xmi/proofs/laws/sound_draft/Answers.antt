use Rattle.pssm_xmi.proofs.Ranges.{in_range, plain}
use Rattle.pssm_xmi.proofs.laws.sound_draft.Goals as goal

pub returns : goal.returns
returns c = record {
  range = λ file fine. in_range c.one_role.ensures file fine;
  plain = λ file fine. plain c.one_role.ensures file fine;
}
