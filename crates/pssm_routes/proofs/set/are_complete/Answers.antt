-- all three tests say it
use Rattle.std.proofs.Common.{◌↔◌, Bool, true, false, not, IsTrue, refl}
use Rattle.std.proofs.lemmas.Bool.{false≢true}
use Rattle.pssm_routes.specs.inner.Sets.{AreApart}
use Rattle.pssm_routes.proofs.set.are_complete.Goals as goal
use Rattle.pssm_routes.proofs.set.are_complete.Goals.{then-start_among, else-start_among}

-- what a test says that failed, and the other way round
fails_is : {P : Type 0} (b : Bool) → IsTrue (not b) → (IsTrue b ↔ P) → P → ⊥
fails_is true fails decides p = false≢true fails
fails_is false fails decides p = false≢true (decides.1 p)

fails_of : {P : Type 0} (b : Bool) → (IsTrue b ↔ P) → (P → ⊥) → IsTrue (not b)
fails_of true decides none = absurd (none (decides.0 refl))
fails_of false decides none = refl

pub returns-then-are_all_apart : goal.returns-then-are_all_apart
returns-then-are_all_apart g c values tells =
    let joins = c.joins_from_some.ensures values tells in
    let apart : AreApart c.args.machine.now c.args.footprints.now =
    elim c.if-start_among.branch [
      | then-start_among w ↦ w.are_all_apart.ensures.0 (let is = w.value-is in let holds = c.if-are_all_apart.true in cc)
      | else-start_among w ↦ absurd (let is = w.value-is in let holds = c.if-are_all_apart.true in cc)
    ] in
    let among : IsTrue c.start_among.result =
    elim c.if-start_among.branch [
      | then-start_among w ↦ w.if-start_among.true
      | else-start_among w ↦ absurd (let is = w.value-is in let holds = c.if-are_all_apart.true in cc)
    ] in (
      λ none. record { among = c.start_among.ensures.0 among; apart = apart; closed = fails_is c.joins_from_some.result none joins },
      λ h. fails_of c.joins_from_some.result joins h.closed,
    )
