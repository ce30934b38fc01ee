use Rattle.pssm_settings.proofs.OnceWhole.{each_once}
use Rattle.pssm_settings.proofs.once.each_once.Goals as goal

pub returns : goal.returns
returns c = each_once
