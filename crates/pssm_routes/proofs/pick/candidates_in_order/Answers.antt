-- a sorted list has the same elements
use Rattle.std.proofs.lemmas.List.Sorted.{Contains-permutation, IsPermutation-sym}
use Rattle.pssm_routes.proofs.pick.candidates_in_order.Goals as goal

pub returns-clause-states : goal.returns-clause-states
returns-clause-states g c values tells s =
    let before = c.in_ok-states.states.items in
    let sorted = c.sort_by_key.new.self.items in
    let are = c.in_ok-states.ensures.states values tells s in (
      λ has. are.0 (Contains-permutation sorted before s (IsPermutation-sym before sorted c.sort_by_key.ensures.permutation) has),
      λ is. Contains-permutation before sorted s c.sort_by_key.ensures.permutation (are.1 is),
    )
