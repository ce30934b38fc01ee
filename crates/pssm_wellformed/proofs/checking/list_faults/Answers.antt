-- one rule after the other
use Rattle.std.proofs.Common.{◌+◌, refl, sym, subst, arith, Vec, Global}
use Rattle.std.proofs.lemmas.Bool.{false≢true}
use Rattle.pssm_wellformed.specs.declared.fault.Fault.{Fault}
use Rattle.pssm_wellformed.specs.inner.Checked.{place_number, IsCheckedBelow}
use Rattle.pssm_wellformed.proofs.Order.{fault_listed, fault_passed, place_done}
use Rattle.pssm_wellformed.proofs.checking.list_faults.Goals as goal
use Rattle.pssm_wellformed.proofs.checking.list_faults.Goals.{then-breaks+in_ok-push, else-breaks}

pub loop-rule-preserved : goal.loop-rule-preserved
loop-rule-preserved c =
    let m = c.args.marked.now in
    let n = place_number m c.args.place in
    let rule = c.loop-rule.rule in
    elim c.if-breaks.branch [
      | then-breaks+in_ok-push w ↦ subst (λ (v : Vec Fault Global). IsCheckedBelow m n (rule + 1) v.items) (sym w.faults-is)
          (subst (IsCheckedBelow m n (rule + 1)) (sym w.in_ok-push.ensures.items)
          (fault_listed (rw (← c.marked.view_is) c.marked.invariant.shape) c.args.place rule c.loop-rule.faults.items (let f : Fault = record { element = c.args.place; rule = rule } in f) refl refl c.requires.there
          (w.if-breaks.ensures.0 refl) c.loop-rule.invariant))
      | else-breaks w ↦ subst (λ (v : Vec Fault Global). IsCheckedBelow m n (rule + 1) v.items) (sym w.faults-is)
          (fault_passed (rw (← c.marked.view_is) c.marked.invariant.shape) c.args.place rule c.loop-rule.faults.items c.requires.there
          (λ h. false≢true (w.if-breaks.ensures.1 h)) c.loop-rule.invariant)
    ]

pub returns : goal.returns
returns c = place_done (rw (← c.marked.view_is) c.marked.invariant.shape) (place_number c.args.marked.now c.args.place) c.loop-rule.rule c.loop-rule.faults.items
    (let last = c.loop-rule-test.false in omega arith) c.loop-rule.invariant
