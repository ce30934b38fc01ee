-- how far an object has come
use Rattle.pssm_object.proofs.Coming.{stands_come, come_none, come_other, come_more}
use Rattle.pssm_object.proofs.laws.comings.Goals as goal

pub returns-clause-stands : goal.returns-clause-stands
returns-clause-stands c = λ class J x s. stands_come s

pub returns-clause-none : goal.returns-clause-none
returns-clause-none c = λ m o. come_none m o

pub returns-clause-other : goal.returns-clause-other
returns-clause-other c = λ m J o e come other. come_other m J o e other come

pub returns-clause-own : goal.returns-clause-own
returns-clause-own c = λ class J o signal e b come h. come_more class b J o signal e come h
