-- each turn looks at one transition more
use Rattle.std.proofs.Common.{◌≡◌, ◌<◌, ◌+◌, ℕ, List, Contains, length, get_or, take, true, false, refl, ap, subst, arith}
use Rattle.std.proofs.lemmas.List.{get_or_default}
use Rattle.pssm_model.specs.declared.ids.TransId.{TransId}
use Rattle.pssm_model.proofs.ElementLaws.{enters_one}
use Rattle.pssm_legs.specs.inner.Told.{EndsWhere, Meets}
use Rattle.pssm_legs.proofs.PathRegions.{in_tail}
use Rattle.pssm_legs.proofs.NoneSoFar.{refuted, none_more, none_at_all}
use Rattle.pssm_legs.proofs.entering.further_meets.Goals as goal

-- of a list that is another one, at a place
here_in : (ts xs : List TransId) (i : ℕ) (d : TransId) → ts ≡ xs → i < length ts → Contains xs (get_or ts i d)
here_in ts xs i d e lt = subst (λ ys. Contains ys (get_or ts i d)) e (i, lt, get_or_default ts i (get_or ts i d) d lt)

none_more_of : (P : TransId → Type 0) (ts xs : List TransId) (i : ℕ) (d : TransId) → ts ≡ xs → i < length ts
    → ((x : TransId) → Contains (take i xs) x → P x → ⊥) → (P (get_or ts i d) → ⊥) → (x : TransId) → Contains (take (i + 1) xs) x → P x → ⊥
none_more_of P ts xs i d e lt none here =
    none_more P xs i none d (subst (λ (ys : List TransId). i < length ys) e lt) (subst (λ (ys : List TransId). P (get_or ys i d) → ⊥) e here)

pub target-requires : goal.target-requires
target-requires c =
    let none : TransId = record { 0 = 0 } in
    c.requires.leg.path (get_or c.as_slice-t-items.result.now c.loop-t.t-index none)
    (in_tail c.args.leg.now.named (get_or c.as_slice-t-items.result.now c.loop-t.t-index none) c.args.leg.now.further.items
    (here_in c.as_slice-t-items.result.now c.args.leg.now.further.items c.loop-t.t-index none c.as_slice-t-items.ensures.value c.loop-t-test.true))

pub loop-t-preserved : goal.loop-t-preserved
loop-t-preserved c =
    let none : TransId = record { 0 = 0 } in
    none_more_of (EndsWhere c.args.machine.now (Meets c.args.machine.now c.args.leg.now c.args.aim)) c.as_slice-t-items.result.now
    c.args.leg.now.further.items c.loop-t.t-index none c.as_slice-t-items.ensures.value c.loop-t-test.true c.loop-t.invariant
    (λ h. refuted _ c.if-meets.false c.meets.ensures
    (subst (Meets c.args.machine.now c.args.leg.now c.args.aim)
    (enters_one c.args.machine.now (get_or c.as_slice-t-items.result.now c.loop-t.t-index none) h.0 c.target.result h.1 c.target.ensures.enters) h.2))

pub returns-then-meets : goal.returns-then-meets
returns-then-meets c = (
  λ t. (
    get_or c.as_slice-t-items.result.now c.loop-t.t-index (record { 0 = 0 }),
    c.target.result,
    here_in c.as_slice-t-items.result.now c.args.leg.now.further.items c.loop-t.t-index (record { 0 = 0 }) c.as_slice-t-items.ensures.value
        c.loop-t-test.true,
    c.target.ensures.enters,
    c.meets.ensures.0 c.if-meets.true,
  ),
  λ h. refl,
)

pub returns : goal.returns
returns c =
    let same = ap length c.as_slice-t-items.ensures.value in
    let past = c.loop-t-test.false in (
      λ f. absurd (let e : false ≡ true = f in cc),
      λ h. absurd (none_at_all (EndsWhere c.args.machine.now (Meets c.args.machine.now c.args.leg.now c.args.aim)) c.args.leg.now.further.items
          c.loop-t.t-index c.loop-t.invariant (omega (arith, same, past)) h.0 h.2 (h.1, h.3, h.4)),
    )
