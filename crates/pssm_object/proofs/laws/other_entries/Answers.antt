-- an entry of another object, or a post
use Rattle.pssm_object.proofs.Advancing.{other_entries as leaves_it}
use Rattle.pssm_object.proofs.laws.other_entries.Goals as goal

pub returns : goal.returns
returns c = λ class J x e s other. leaves_it class s e other
