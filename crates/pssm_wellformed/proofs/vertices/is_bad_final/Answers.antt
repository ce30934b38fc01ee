use Rattle.std.proofs.Common.{refl, inr, ⊎_elim}
use Rattle.std.proofs.lemmas.Bool.{false≢true}
use Rattle.pssm_wellformed.proofs.Places.{final_owns_none}
use Rattle.pssm_wellformed.proofs.vertices.is_bad_final.Goals as goal

pub returns-else-meets_some : goal.returns-else-meets_some
returns-else-meets_some c =
    let final = c.if-has_kind.ensures.0 refl in (
      λ t. (final, inr (inr (c.behaves.ensures.0 t))),
      λ h. ⊎_elim (λ out. absurd (false≢true (c.if-meets_some.ensures.1 out)))
          (⊎_elim (λ owns. absurd (final_owns_none c.args.machine.now c.requires.shape c.args.vertex final owns)) (λ b. c.behaves.ensures.1 b)) h.1,
    )
