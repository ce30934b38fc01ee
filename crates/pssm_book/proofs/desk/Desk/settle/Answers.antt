-- what the comparison says is what is answered
use Rattle.std.proofs.Common.{refl, rules, w64}
use Rattle.std.proofs.lemmas.Int.{to_z-of_z}
use Rattle.pssm_book.proofs.desk.Desk.settle.Goals as goal

pub returns-in-Apart-clause-commits : goal.returns-in-Apart-clause-commits
returns-in-Apart-clause-commits c = let says = rw c.in-Apart.is at c.compare.ensures in (refl, says, refl)

pub returns-in-Differing-clause-commits : goal.returns-in-Differing-clause-commits
returns-in-Differing-clause-commits c =
    let says = rw c.in-Differing.is at c.compare.ensures in
    rw (to_z-of_z w64 c.in-Differing.kept (search rules), to_z-of_z w64 c.in-Differing.carried (search rules)) (says, refl)

pub append_if_room-requires-clause-up_to_date : goal.append_if_room-requires-clause-up_to_date
append_if_room-requires-clause-up_to_date c = rw c.in-Same.is at c.compare.ensures
