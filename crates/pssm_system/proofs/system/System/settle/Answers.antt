-- what was run made what the behaviour makes
use Rattle.std.proofs.Common.{sym, subst}
use Rattle.pssm_system.specs.History.{History}
use Rattle.pssm_system.specs.Works.{HasMade}
use Rattle.pssm_system.proofs.system.System.settle.Goals as goal

pub settle-requires-clause-works : goal.settle-requires-clause-works
settle-requires-clause-works c = subst (λ (v : History). HasMade v.setting v.journal c.args.entry c.args.worked.now) (sym c.self.view_is) c.requires.works
