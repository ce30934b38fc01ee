use Rattle.pssm_spelling.proofs.SpellingLaws.{strip_gives}
use Rattle.pssm_spelling.proofs.front.strip.Goals as goal

pub returns : goal.returns
returns c = strip_gives c.args.front.now c.args.bytes.now c.strip_prefix.result c.strip_prefix.ensures.cases
