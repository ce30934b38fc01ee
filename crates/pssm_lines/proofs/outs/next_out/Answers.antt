use Rattle.std.proofs.Common.{◌≡◌, None, sym, ◌∙◌}
use Rattle.pssm_lines.specs.inner.LineReading.{shown_out, out_taken}
use Rattle.pssm_lines.proofs.Readers.{got, same_got}
use Rattle.pssm_lines.proofs.PieceLaws.{no_more, next_is, shorter_by_out, shows_out}
use Rattle.pssm_lines.proofs.outs.next_out.Goals as goal

pub returns-in_default-clause-next : goal.returns-in_default-clause-next
returns-in_default-clause-next c = λ spelled are text. no_more c.args.outs.bytes.now spelled (sym c.in_default.ensures) text

pub returns-in-Some-2-clause-next : goal.returns-in-Some-2-clause-next
returns-in-Some-2-clause-next c = λ spelled are text.
    let next = next_is c.args.outs.bytes.now c.in-Some.rest.now spelled (sym c.in-Some.ensures) are text in
    let read : got (shown_out c.in-Some-2.out) c.in-Some-2.bytes.now ≡ out_taken c.in-Some.rest.now = rw c.in-Some-2.is at c.in_ok-out.ensures in
    let both = same_got (shown_out c.in-Some-2.out) next.first c.in-Some-2.bytes.now _ (read ∙ next.taken) in
    (next.first, next.others, next.parts, shows_out c.in-Some-2.out next.first (sym both.0), both.1)

pub returns-in-Some-2-clause-shorter : goal.returns-in-Some-2-clause-shorter
returns-in-Some-2-clause-shorter c =
    let read : got (shown_out c.in-Some-2.out) c.in-Some-2.bytes.now ≡ out_taken c.in-Some.rest.now = rw c.in-Some-2.is at c.in_ok-out.ensures in
    shorter_by_out c.args.outs.bytes.now c.in-Some.rest.now c.in-Some-2.bytes.now (shown_out c.in-Some-2.out) (sym c.in-Some.ensures) (sym read)

pub returns-in-None-clause-next : goal.returns-in-None-clause-next
returns-in-None-clause-next c = λ spelled are text.
    let next = next_is c.args.outs.bytes.now c.in-Some.rest.now spelled (sym c.in-Some.ensures) are text in
    let none : None ≡ out_taken c.in-Some.rest.now = rw c.in-None.is at c.in_ok-out.ensures in
    absurd (cc (none, next.taken))
