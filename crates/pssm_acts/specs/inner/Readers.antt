-- How any reader goes through tokens: one after another, to the end of the text or to the first fault.
use Rattle.std.specs.Prelude.{List, [], ◌∷◌, Result}
use Rattle.pssm_acts.specs.declared.act_fault.ActFault.{ActFault}
use Rattle.pssm_acts.specs.inner.ExprReading.{and_then}
use Rattle.pssm_acts.specs.Tokens.{Token}

-- what its step makes of a state, token after token, and what the last state is worth
unfoldable pub read_through : {S V : Type 0} → (S → Token → Result S ActFault) → (S → Result V ActFault) → S → List Token → Result V ActFault
read_through step worth s [] = worth s
read_through step worth s (t ∷ ts) = and_then (step s t) (λ next. read_through step worth next ts)
