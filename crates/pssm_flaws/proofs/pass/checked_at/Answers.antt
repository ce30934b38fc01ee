use Rattle.std.proofs.Common.{inr}
use Rattle.pssm_flaws.proofs.pass.checked_at.Goals as goal

pub returns-in_ok-fault_of-in-Some-clause-fault : goal.returns-in_ok-fault_of-in-Some-clause-fault
returns-in_ok-fault_of-in-Some-clause-fault c = inr (record {
  flaw = c.in-Some.flaw;
  has = c.in-Some.ensures.0;
  least = c.in-Some.ensures.1;
  at = c.at.result;
  begins = c.at.ensures;
  told = c.in_ok-fault_of-in-Some.ensures;
})
