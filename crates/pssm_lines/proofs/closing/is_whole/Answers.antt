use Rattle.std.proofs.Common.{◌≡◌, ◌++◌, ◌∙◌, ap, List, ℕ}
use Rattle.pssm_lines.proofs.ClosingLaws.{whole_exactly}
use Rattle.pssm_lines.proofs.closing.is_whole.Goals as goal

pub returns-in-Some : goal.returns-in-Some
returns-in-Some c =
    let text : c.as_slice.result.now ≡ c.args.front.now ++ c.args.end.now = c.as_slice.ensures.value ∙ c.in_ok-extend_from_slice.ensures.items ∙ ap (λ (t : List ℕ). t ++ c.args.end.now) c.in_ok-text.ensures.items in
    let found = rw c.in-Some.is at c.in_ok-rest.ensures.found in
    rw (← text) (whole_exactly c.as_slice.result.now c.in-Some.rest.now found.0 c.is_empty.result found.1 found.2 c.is_empty.ensures)
