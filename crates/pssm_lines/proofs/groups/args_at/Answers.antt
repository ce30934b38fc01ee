use Rattle.std.proofs.Common.{◌≡◌, sym}
use Rattle.pssm_lines.specs.inner.LineReading.{joined_taken, signed_taken}
use Rattle.pssm_lines.proofs.Readers.{got}
use Rattle.pssm_lines.proofs.PieceLaws.{few_numbers}
use Rattle.pssm_lines.proofs.groups.args_at.Goals as goal

pub from_vec-requires-in-Some-behind-2 : goal.from_vec-requires-in-Some-behind-2
from_vec-requires-in-Some-behind-2 c =
    let read : joined_taken 44 signed_taken 7 c.in-Some.inside.now ≡ got c.in-Some-2.args.items c.in-Some-2.rest.now = sym (rw c.in-Some-2.is at c.in_ok-args.ensures) in
    few_numbers c.in-Some.inside.now c.in-Some-2.args.items c.in-Some-2.rest.now read
