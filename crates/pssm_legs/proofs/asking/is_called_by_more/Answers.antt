-- one leg alone has none behind it
use Rattle.std.proofs.Common.{◌≡◌, ◌≤◌, true, false, length, arith}
use Rattle.pssm_legs.specs.inner.Told.{IsCalledAsTold}
use Rattle.pssm_legs.proofs.LaterPlaces.{nothing_behind_alone}
use Rattle.pssm_legs.proofs.asking.is_called_by_more.Goals as goal

pub returns-then-alone : goal.returns-then-alone
returns-then-alone c =
    let empty = c.if-alone.true in
    let long = c.args.legs.now.more.ok.0 in
    let none : length c.args.legs.now.more.items ≤ 0 = omega (arith, empty, long) in (
      λ f. absurd (let e : false ≡ true = f in cc),
      λ h. absurd (nothing_behind_alone c.args.legs.now
          (λ i a. IsCalledAsTold c.args.machine.now c.args.legs.now i a c.args.fires c.args.item)
          none h),
    )
