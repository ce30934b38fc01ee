-- each vertex whose lowest level is below this one is kept
use Rattle.std.proofs.Common.{◌↔◌, ◌<◌, ◌+◌, ℕ, get_or, Contains, sym, subst, arith, Vec, Global}
use Rattle.pssm_wellformed.proofs.Listing.{kept_more, kept_passed}
use Rattle.pssm_wellformed.proofs.marks.vertices_below.Goals as goal
use Rattle.pssm_wellformed.proofs.marks.vertices_below.Goals.{then-lowest-number+in_ok-push, else-lowest-number}

pub loop-number-preserved : goal.loop-number-preserved
loop-number-preserved c =
    let n = c.loop-number.number in
    let Is : ℕ → Type 0 = λ a. get_or c.args.lowest.now a 0 < c.args.level in
    elim c.if-lowest-number.branch [
      | then-lowest-number+in_ok-push w ↦ subst (λ (v : Vec ℕ Global). (a : ℕ) → Contains v.items a ↔ ((a < n + 1) × Is a)) (sym w.list-is)
          (subst (λ xs. (a : ℕ) → Contains xs a ↔ ((a < n + 1) × Is a)) (sym w.in_ok-push.ensures.items)
          (kept_more Is n c.loop-number.list.items w.if-lowest-number.true c.loop-number.invariant))
      | else-lowest-number w ↦ subst (λ (v : Vec ℕ Global). (a : ℕ) → Contains v.items a ↔ ((a < n + 1) × Is a)) (sym w.list-is)
          (kept_passed Is n c.loop-number.list.items (λ lt. let le = w.if-lowest-number.false in omega arith) c.loop-number.invariant)
    ]

pub returns : goal.returns
returns c a = (
  λ h. let w = (c.loop-number.invariant a).0 h in ((let at_most = c.loop-number.auto.number-end in let lt = w.0 in omega arith), w.1),
  λ w. (c.loop-number.invariant a).1 ((let last = c.loop-number-test.false in let lt = w.0 in omega arith), w.1),
)
