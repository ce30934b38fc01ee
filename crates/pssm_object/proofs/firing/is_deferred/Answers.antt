-- one region more is asked in each turn, and what is active lies in one directly
use Rattle.std.proofs.Common.{◌≡◌, refl, ap, subst, sym, ◌∙◌, ⊎_elim, arith}
use Rattle.std.proofs.lemmas.Bool.{false≢true, cases_lt}
use Rattle.pssm_model.specs.declared.ids.RegionId.{RegionId}
use Rattle.pssm_object.specs.inner.Firing.{RegionDefers}
use Rattle.pssm_object.proofs.Homes.{home_of_active}
use Rattle.pssm_object.proofs.firing.is_deferred.Goals as goal

pub returns-then-region_defers : goal.returns-then-region_defers
returns-then-region_defers c =
    let there = c.region_defers.ensures.0 c.if-region_defers.true in (λ yes. (there.0, there.2), λ is. refl)

pub loop-number-preserved : goal.loop-number-preserved
loop-number-preserved c = λ r lt defers.
    let Defers : RegionId → Type 0 = RegionDefers c.args.class.now c.args.config.now c.args.store.now c.args.signal.now in
    ⊎_elim
    (λ before. c.loop-number.invariant r before defers)
    (λ past.
    let same : r.0 ≡ c.loop-number.number = omega (arith, lt, past) in
    false≢true
    (sym c.if-region_defers.false ∙ c.region_defers.ensures.1 (subst Defers (ap (λ n. let q : RegionId = record { 0 = n } in q) same) defers)))
    (cases_lt r.0 c.loop-number.number)

pub returns : goal.returns
returns c = (
  λ no. absurd (false≢true no),
  λ is.
      let home = home_of_active c.args.class.now.machine c.args.config.now c.requires.fits is.0 is.1.0 in
      absurd (c.loop-number.invariant home.0
      (let there = home.2 in
      let count = c.regions-number-end.ensures in
      let past = c.loop-number-test.false in
      omega (arith, there, count, past)) (is.0, home.1, is.1)),
)
