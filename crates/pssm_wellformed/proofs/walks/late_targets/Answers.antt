-- each transition out of an initial, history or choice vertex is kept
use Rattle.std.proofs.Common.{◌↔◌, ◌+◌, ℕ, Contains, refl, sym, subst, arith, Vec, Global}
use Rattle.std.proofs.lemmas.Bool.{false≢true}
use Rattle.pssm_wellformed.specs.inner.Walks.{IsLateTargetBelow}
use Rattle.pssm_wellformed.proofs.Arrows.{late_more, late_passed, late_all}
use Rattle.pssm_wellformed.proofs.walks.late_targets.Goals as goal
use Rattle.pssm_wellformed.proofs.walks.late_targets.Goals.{then-is_late_origin+in_ok-push, else-is_late_origin}

pub loop-number-preserved : goal.loop-number-preserved
loop-number-preserved c =
    let m = c.args.machine.now in
    let n = c.loop-number.number in
    elim c.if-is_late_origin.branch [
      | then-is_late_origin+in_ok-push w ↦ subst (λ (v : Vec ℕ Global). (b : ℕ) → Contains v.items b ↔ IsLateTargetBelow m (n + 1) b) (sym w.list-is)
          (subst (λ xs. (b : ℕ) → Contains xs b ↔ IsLateTargetBelow m (n + 1) b) (sym w.in_ok-push.ensures.items)
          (late_more m n c.loop-number.list.items c.end_of.result c.end_of-target.result c.end_of.ensures.is c.end_of-target.ensures.is
          (w.if-is_late_origin.ensures.0 refl) c.loop-number.invariant))
      | else-is_late_origin w ↦ subst (λ (v : Vec ℕ Global). (b : ℕ) → Contains v.items b ↔ IsLateTargetBelow m (n + 1) b) (sym w.list-is)
          (late_passed m n c.loop-number.list.items c.end_of.result c.end_of.ensures.is (λ h. false≢true (w.if-is_late_origin.ensures.1 h)) c.loop-number.invariant)
    ]

pub returns : goal.returns
returns c =
    late_all c.args.machine.now c.requires c.loop-number.number c.loop-number.list.items
    (let last = c.loop-number-test.false in let is = c.transitions-number-end.ensures in omega arith) c.loop-number.invariant
