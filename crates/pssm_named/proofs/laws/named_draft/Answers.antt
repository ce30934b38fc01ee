use Rattle.pssm_named.proofs.DraftLaws.{has_names}
use Rattle.pssm_named.proofs.laws.named_draft.Goals as goal

pub returns : goal.returns
returns c = has_names
