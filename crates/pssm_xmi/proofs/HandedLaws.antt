-- Faults and values that are handed on.
use Rattle.std.proofs.Common.{◌≡◌, sym, subst}
use Rattle.std.specs.Prelude.{Result, Ok, Err, IsErrAnd, IfErr, IfOk}
use Rattle.pssm_profile.specs.declared.fault.XmiFault.{XmiFault}

-- A fault that is handed on is as it was.
pub handed_on : {X : Type 0} (P : XmiFault → Type 0) (r : Result X XmiFault) (fault : XmiFault) → IsErrAnd r (λ f. f ≡ fault) → P fault → IfErr r P
handed_on P (Ok x) fault is so = absurd is
handed_on P (Err f) fault is so = subst P (sym is) so

-- What follows of each fault is so of one that is handed on.
pub told_on : {X : Type 0} (P Q : XmiFault → Type 0) (r : Result X XmiFault) → ((f : XmiFault) → P f → Q f) → IfErr r P → IfErr r Q
told_on P Q (Ok x) follows is = tt
told_on P Q (Err f) follows is = follows f is

-- What follows of each value is so of one that is handed on.
pub read_on : {X : Type 0} (P Q : X → Type 0) (r : Result X XmiFault) → ((x : X) → P x → Q x) → IfOk r P → IfOk r Q
read_on P Q (Ok x) follows is = follows x is
read_on P Q (Err f) follows is = tt
