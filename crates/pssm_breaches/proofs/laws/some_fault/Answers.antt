use Rattle.pssm_breaches.proofs.SomeFault.{some_breach}
use Rattle.pssm_breaches.proofs.laws.some_fault.Goals as goal

pub returns : goal.returns
returns c = some_breach
