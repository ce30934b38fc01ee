-- Where tokens fare with a reader, and some of them are taken, the others fare from there on.
use Rattle.std.proofs.Common.{◌≡◌, List, [], ◌∷◌, ◌++◌, Result, Ok, Err, refl, sym, subst}
use Rattle.std.proofs.lemmas.List.{append-nil}
use Rattle.pssm_acts.specs.declared.act_fault.ActFault.{ActFault}
use Rattle.pssm_acts.specs.Tokens.{Token}
use Rattle.pssm_acts.proofs.Readers.{Leads, done, next}
use Rattle.pssm_acts.proofs.Fares.{IsOther, Fares, arrives, goes, stops}

-- what fares behind a token that is taken
pub fares_rest : {S : Type 0} {step : S → Token → Result S ActFault} {Goal : S → Type 0} {s : S} {us : List Token} (t : Token) (rest : List Token) (n : S) → us ≡ t ∷ rest → step s t ≡ Ok n → Fares step Goal s us → Fares step Goal n rest
fares_rest t rest n same is (arrives goal) = absurd cc
fares_rest {step = step} {Goal = Goal} t rest n same is (goes {s = s} {n = m} {t = u} {ts = us} taken further) =
    let head : u ≡ t = cc in
    let tail : us ≡ rest = cc in
    let here : step s t ≡ Ok m = subst (λ x. step s x ≡ Ok m) head taken in
    let state : m ≡ n = cc in
    subst (λ x. Fares step Goal x rest) state (subst (λ x. Fares step Goal m x) tail further)
fares_rest {step = step} t rest n same is (stops {s = s} {t = u} fault refused other) =
    let head : u ≡ t = cc in
    let here : step s t ≡ Err fault = subst (λ x. step s x ≡ Err fault) head refused in
    absurd cc

-- a token that is refused is refused for another reason than its place
pub fares_other : {S : Type 0} {step : S → Token → Result S ActFault} {Goal : S → Type 0} {s : S} {us : List Token} (t : Token) (rest : List Token) (fault : ActFault) → us ≡ t ∷ rest → step s t ≡ Err fault → Fares step Goal s us → IsOther fault
fares_other t rest fault same is (arrives goal) = absurd cc
fares_other {step = step} t rest fault same is (goes {s = s} {n = m} {t = u} taken further) =
    let head : u ≡ t = cc in
    let here : step s t ≡ Ok m = subst (λ x. step s x ≡ Ok m) head taken in
    absurd cc
fares_other {step = step} t rest fault same is (stops {s = s} {t = u} f refused other) =
    let head : u ≡ t = cc in
    let here : step s t ≡ Err f = subst (λ x. step s x ≡ Err f) head refused in
    let found : f ≡ fault = cc in
    subst IsOther found other

pub fares_end : {S : Type 0} {step : S → Token → Result S ActFault} {Goal : S → Type 0} {s : S} {us : List Token} → us ≡ [] → Fares step Goal s us → Goal s
fares_end same (arrives goal) = goal
fares_end same (goes taken further) = absurd cc
fares_end same (stops fault refused other) = absurd cc

-- Where the first tokens are taken, the others fare from there on.
pub fares_from : {S : Type 0} {step : S → Token → Result S ActFault} {s n : S} {before : List Token} (Goal : S → Type 0) (rest : List Token) → Leads step s before n → Fares step Goal s (before ++ rest) → Fares step Goal n rest
fares_from Goal rest done fares = fares
fares_from Goal rest (next {m = m} {t = t} {ts = ts} step run) fares = fares_from Goal rest run (fares_rest t (ts ++ rest) m refl step fares)

-- Where all tokens are taken they arrive.
pub fares_whole : {S : Type 0} {step : S → Token → Result S ActFault} {s n : S} {ts : List Token} (Goal : S → Type 0) → Leads step s ts n → Fares step Goal s ts → Goal n
fares_whole {step = step} {s = s} {ts = ts} Goal run fares = fares_end refl (fares_from Goal [] run (subst (λ x. Fares step Goal s x) (sym (append-nil ts)) fares))
