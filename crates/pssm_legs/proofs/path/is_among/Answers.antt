-- half of the places are left at each turn
use Rattle.std.proofs.Common.{rules, ◌≡◌, ◌<◌, ◌+◌, ◌-◌, ◌/◌, ◌↔◌, IsTrue, length, get_or, true, false, sym, ◌∙◌, arith}
use Rattle.std.proofs.lemmas.Bool.{false≢true}
use Rattle.std.proofs.lemmas.Option.{slice_get-get_or}
use Rattle.pssm_model.specs.declared.ids.TransId.{TransId}
use Rattle.pssm_legs.proofs.Among.{sought_above, sought_below, sought_nowhere}
use Rattle.pssm_legs.proofs.path.is_among.Goals as goal

pub loop-from-preserved-then-here-t : goal.loop-from-preserved-then-here-t
loop-from-preserved-then-here-t c =
    let middle : c.loop-from.from + (c.loop-from.to - c.loop-from.from) / 2 < length c.args.transitions.now =
    let less = c.loop-from-test.true in let within = c.loop-from.invariant.within in omega (arith, less, within) in
    let none : TransId = record { 0 = 0 } in
    let same : IsTrue c.eq.result ↔ (get_or c.args.transitions.now (c.loop-from.from + (c.loop-from.to - c.loop-from.from) / 2) none ≡ c.args.t) =
    search rules in
    sought_above c.args.transitions.now c.args.t c.requires c.loop-from.from c.loop-from.to _ _ c.loop-from.invariant (slice_get-get_or _ _ _ middle)
    (λ e. false≢true (sym c.if-eq.false ∙ same.1 e)) c.if-here-t.true

pub loop-from-preserved : goal.loop-from-preserved
loop-from-preserved c =
    let middle : c.loop-from.from + (c.loop-from.to - c.loop-from.from) / 2 < length c.args.transitions.now =
    let less = c.loop-from-test.true in let within = c.loop-from.invariant.within in omega (arith, less, within) in
    let none : TransId = record { 0 = 0 } in
    let same : IsTrue c.eq.result ↔ (get_or c.args.transitions.now (c.loop-from.from + (c.loop-from.to - c.loop-from.from) / 2) none ≡ c.args.t) =
    search rules in
    sought_below c.args.transitions.now c.args.t c.requires c.loop-from.from c.loop-from.to _ _ c.loop-from.invariant (slice_get-get_or _ _ _ middle)
    (λ e. false≢true (sym c.if-eq.false ∙ same.1 e)) c.if-here-t.false

pub returns : goal.returns
returns c = (
  λ f. absurd (let e : false ≡ true = f in cc),
  λ h. absurd (sought_nowhere c.args.transitions.now c.args.t c.loop-from.from c.loop-from.to c.loop-from.invariant c.loop-from-test.false h),
)
