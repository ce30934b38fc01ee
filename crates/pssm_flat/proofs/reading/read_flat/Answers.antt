use Rattle.std.proofs.Common.{◌≡◌, ◌⊎◌, ℕ, List, [], ◌∷◌, true, false, Result, Ok, Err, IfErr, length, inr, refl, sym, subst, arith}
use Rattle.std.specs.Prelude.{◌==◌}
use Rattle.std.proofs.lemmas.Bool.{eqb-true}
use Rattle.std.specs.Result.{IsErrAnd}
use Rattle.pssm_flat.specs.declared.fault.FlatFault.{FlatFault}
use Rattle.pssm_flat.specs.declared.fault.FlatFault.TheVariants as faults
use Rattle.pssm_flat.specs.Faults.{IsFlatFault}
use Rattle.pssm_flat.proofs.ReadLaws.{whole_flat, whole_found}
use Rattle.pssm_flat.proofs.FaultLaws.{stops_is_fault, stop_or_fault}
use Rattle.pssm_flat.proofs.ProperLaws.{flat_proper}
use Rattle.pssm_flat.proofs.EveryText.{ended_stops}
use Rattle.pssm_flat.proofs.reading.read_flat.Goals as goal

none_left : (rest : List ℕ) → true ≡ (length rest == 0) → rest ≡ []
none_left [] e = refl
none_left (b ∷ rest) e = let zero = eqb-true (length (b ∷ rest)) 0 (sym e) in absurd (omega (arith, zero))

some_left : (rest : List ℕ) → false ≡ (length rest == 0) → rest ≡ [] → ⊥
some_left [] e none = absurd cc
some_left (b ∷ rest) e none = absurd cc

pub returns-then-is_empty-clause-flat : goal.returns-then-is_empty-clause-flat
returns-then-is_empty-clause-flat c = let w = c.in_ok-setting.field-0 in whole_flat c.args.bytes.now w.setting w.rest.now w.line c.in_ok-setting.ensures.read

pub returns-then-is_empty-clause-found : goal.returns-then-is_empty-clause-found
returns-then-is_empty-clause-found c = let w = c.in_ok-setting.field-0 in whole_found c.args.bytes.now w.setting w.rest.now w.line c.in_ok-setting.ensures.read (none_left w.rest.now c.if-is_empty.ensures)

pub returns-then-is_empty-clause-proper : goal.returns-then-is_empty-clause-proper
returns-then-is_empty-clause-proper c = let w = c.in_ok-setting.field-0 in flat_proper w.setting (whole_flat c.args.bytes.now w.setting w.rest.now w.line c.in_ok-setting.ensures.read)

pub returns-else-is_empty-clause-fault : goal.returns-else-is_empty-clause-fault
returns-else-is_empty-clause-fault c =
    let bytes = c.args.bytes.now in let w = c.in_ok-setting.field-0 in
    rw c.refused.ensures (inr (stops_is_fault bytes _ (ended_stops bytes w.setting w.rest.now w.line c.in_ok-setting.ensures.read (some_left w.rest.now c.if-is_empty.ensures))))

-- what is told of a fault that is passed on
passed_on : {A : Type 0} (P : FlatFault → Type 0) (g : FlatFault) (r : Result A FlatFault) → IsErrAnd r (λ f. f ≡ g) → P g → IfErr r P
passed_on P g (Ok x) e p = tt
passed_on P g (Err f) e p = subst P (sym e) p

pub returns-in_err-setting-clause-fault : goal.returns-in_err-setting-clause-fault
returns-in_err-setting-clause-fault c =
    let bytes = c.args.bytes.now in
    passed_on (λ f. (f ≡ faults.NoMemory) ⊎ IsFlatFault bytes f) c.in_err-setting.field-0.0 c.from_residual.result c.from_residual.ensures.1 (stop_or_fault bytes c.in_err-setting.field-0.0 c.in_err-setting.ensures.stops)
