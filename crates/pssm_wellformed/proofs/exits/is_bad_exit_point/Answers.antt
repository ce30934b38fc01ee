use Rattle.std.proofs.Common.{refl, inr, ⊎_elim, rules}
use Rattle.std.proofs.lemmas.Bool.{false≢true}
use Rattle.pssm_wellformed.proofs.exits.is_bad_exit_point.Goals as goal

pub returns-then-lacks_one : goal.returns-then-lacks_one
returns-then-lacks_one c = rw (← c.marked.view_is) (search rules)

pub returns : goal.returns
returns c =
    let says = c.has_stray_path_in.ensures in (
      λ t. ((rw c.marked.view_is at c.if-not-has_kind.ensures).0 refl, inr (inr (says.0 t))),
      λ bad. ⊎_elim (λ lacks. absurd (false≢true ((rw c.marked.view_is at c.if-lacks_one.ensures).1 lacks)))
          (⊎_elim (λ stays. absurd (false≢true ((rw c.marked.view_is at c.if-stays_inside.ensures).1 stays))) (λ far. says.1 far)) bad.1,
    )
