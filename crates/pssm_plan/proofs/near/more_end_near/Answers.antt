-- the further legs of a way are of the machine
use Rattle.std.proofs.Common.{◌≡◌, ◌≤◌, true, false, length, sym, subst, arith}
use Rattle.pssm_plan.specs.inner.Near.{IsNearSome}
use Rattle.pssm_plan.proofs.NearItems.{more_in}
use Rattle.pssm_plan.proofs.near.more_end_near.Goals as goal

pub some_ends_near-requires-clause-legs : goal.some_ends_near-requires-clause-legs
some_ends_near-requires-clause-legs c = λ leg inside. more_in c.args.way.now c.requires.way leg (rw c.as_slice.ensures.value at inside)

pub returns-then-alone : goal.returns-then-alone
returns-then-alone c =
    let empty = c.if-alone.true in
    let long = c.args.way.now.legs.more.ok.0 in
    let none : length c.args.way.now.legs.more.items ≤ 0 = omega (arith, empty, long) in (
      λ f. absurd (let e : false ≡ true = f in cc),
      λ h. absurd (let lt = h.1.1 in omega (arith, lt, none)),
    )

pub returns-else-alone : goal.returns-else-alone
returns-else-alone c = (
  λ t. subst (λ ls. IsNearSome c.args.machine.now ls c.args.s) c.as_slice.ensures.value (c.some_ends_near.ensures.0 t),
  λ h. c.some_ends_near.ensures.1 (subst (λ ls. IsNearSome c.args.machine.now ls c.args.s) (sym c.as_slice.ensures.value) h),
)
