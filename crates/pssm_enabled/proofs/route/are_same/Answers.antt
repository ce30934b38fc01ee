-- transitions of one number are the same
use Rattle.std.proofs.Common.{◌≡◌, eqb, ap}
use Rattle.std.specs.Bool.{Decides}
use Rattle.std.proofs.lemmas.Bool.{eqb-true, eq-eqb}
use Rattle.std.proofs.lemmas.Slice.Eq.{slice_eq-Decides}
use Rattle.pssm_model.specs.declared.ids.TransId.{TransId}
use Rattle.pssm_model.proofs.ElementLaws.{same_transition}
use Rattle.pssm_enabled.proofs.route.are_same.Goals as goal

decided : (t u : TransId) → Decides (eqb t.0 u.0) (t ≡ u)
decided t u = (λ e. same_transition t u (eqb-true t.0 u.0 e), λ same. eq-eqb t.0 u.0 (ap (λ (x : TransId). x.0) same))

pub returns : goal.returns
returns c = slice_eq-Decides decided c.args.ts.now c.args.us.now c.eq.result c.eq.ensures
