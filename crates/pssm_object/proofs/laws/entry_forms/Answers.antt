-- the forms of entries
use Rattle.pssm_object.proofs.Forms.{has_form}
use Rattle.pssm_object.proofs.laws.entry_forms.Goals as goal

pub returns : goal.returns
returns c = λ class J x signal e b s own named kept. has_form class b s signal e own named kept
