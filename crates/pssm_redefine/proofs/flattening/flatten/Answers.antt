use Rattle.std.proofs.Common.{◌≡◌, ◌⊎◌, Result, Ok, Err, refl, sym, subst, inl, inr, ⊎_elim, length, get_or}
use Rattle.std.specs.Result.{IsErrAnd, IfErr}
use Rattle.std.proofs.lemmas.Option.{slice_get_read, MatchOption-at_none, MatchOption-at_some}
use Rattle.pssm_breaches.specs.declared.breach.Breach.{Breach}
use Rattle.pssm_breaches.specs.Rules.{BreaksNothing}
use Rattle.pssm_breaches.specs.Faults.{IsFirstBreach, IsRedefFault}
use Rattle.pssm_breaches.specs.Faults.IsRedefFault.{broken}
use Rattle.pssm_heritage.specs.declared.fault.RedefFault.{RedefFault}
use Rattle.pssm_heritage.specs.declared.fault.RedefFault.TheVariants as faults
use Rattle.pssm_redefine.specs.Flattening.{IsFaultOfClass}
use Rattle.pssm_redefine.proofs.OneLaws.{circle_fault}
use Rattle.pssm_redefine.proofs.flattening.flatten.Goals as goal

-- what is told of a fault that is passed on
passed_on : {A : Type 0} (P : RedefFault → Type 0) (g : RedefFault) (r : Result A RedefFault) → IsErrAnd r (λ f. f ≡ g) → P g → IfErr r P
passed_on P g (Ok x) e p = tt
passed_on P g (Err f) e p = subst P (sym e) p

pub returns-in_err-heritage-clause-fault : goal.returns-in_err-heritage-clause-fault
returns-in_err-heritage-clause-fault c =
    passed_on (λ f. (f ≡ faults.NoMemory) ⊎ IsFaultOfClass c.args.draft.now c.args.class f) c.in_err-heritage.field-0.0 c.from_residual.result c.from_residual.ensures.1
    (⊎_elim
    (λ none. inl none)
    (λ circle. inr (record {
      of = c.index-as_slice-class.result;
      is = slice_get_read c.args.draft.now.classes (length c.args.draft.now.classes) c.args.class c.index-as_slice-class.result refl c.requires.there
          (subst (λ xs. c.index-as_slice-class.result ≡ get_or xs c.args.class c.index-as_slice-class.result) c.as_slice.ensures c.index-as_slice-class.is);
      has = circle_fault c.args.draft.now c.index-as_slice-class.result.machine c.in_err-heritage.field-0.0 circle;
    }))
    c.in_err-heritage.ensures.fault)

pub returns-in-Some-clause-fault : goal.returns-in-Some-clause-fault
returns-in-Some-clause-fault c =
    inr (record {
      of = c.index-as_slice-class.result;
      is = slice_get_read c.args.draft.now.classes (length c.args.draft.now.classes) c.args.class c.index-as_slice-class.result refl c.requires.there
          (subst (λ xs. c.index-as_slice-class.result ≡ get_or xs c.args.class c.index-as_slice-class.result) c.as_slice.ensures c.index-as_slice-class.is);
      has = subst (IsRedefFault c.args.draft.now c.index-as_slice-class.result.machine) (sym c.in_ok-fault_of-in-Some.ensures)
          (broken c.in_ok-heritage.heritage.machines c.in_ok-heritage.ensures.lineage.chain c.in-Some.breach.kind c.in-Some.breach.element c.in-Some.breach.rule
          (MatchOption-at_some (BreaksNothing c.args.draft.now c.index-as_slice-class.result.machine)
          (λ (b : Breach). IsFirstBreach c.args.draft.now c.index-as_slice-class.result.machine b.kind b.element b.rule) c.in-Some.breach c.in-Some.is c.in_ok-breach.ensures));
    })

pub returns-clause-flat : goal.returns-clause-flat
returns-clause-flat c = record {
  of = c.index-as_slice-class.result;
  is = slice_get_read c.args.draft.now.classes (length c.args.draft.now.classes) c.args.class c.index-as_slice-class.result refl c.requires.there
      (subst (λ xs. c.index-as_slice-class.result ≡ get_or xs c.args.class c.index-as_slice-class.result) c.as_slice.ensures c.index-as_slice-class.is);
  keeps = MatchOption-at_none (BreaksNothing c.args.draft.now c.index-as_slice-class.result.machine)
      (λ (b : Breach). IsFirstBreach c.args.draft.now c.index-as_slice-class.result.machine b.kind b.element b.rule) c.in-None.is c.in_ok-breach.ensures;
  flattened = c.in_ok-flattened-in-None.ensures;
}
