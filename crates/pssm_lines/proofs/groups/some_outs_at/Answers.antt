use Rattle.std.proofs.Common.{◌≡◌, ◌-◌, ◌++◌, ℕ, List, length, take, drop, refl, sym, ap, ◌∙◌, arith, length-append}
use Rattle.std.proofs.lemmas.List.{take_at, drop_at}
use Rattle.pssm_lines.proofs.Readers.{got}
use Rattle.pssm_lines.proofs.PieceLaws.{span_at}
use Rattle.pssm_lines.proofs.groups.some_outs_at.Goals as goal

pub overflow_sub-bytes : goal.overflow_sub-bytes
overflow_sub-bytes c =
    let span = span_at c.args.bytes.now c.in_ok-rest.rest.now (sym c.in_ok-rest.ensures) in
    let same : length c.args.bytes.now ≡ length (span.text ++ c.in_ok-rest.rest.now) = ap length span.parts in
    omega (arith, length-append span.text c.in_ok-rest.rest.now)

pub returns : goal.returns
returns c =
    let span = span_at c.args.bytes.now c.in_ok-rest.rest.now (sym c.in_ok-rest.ensures) in
    let same : length c.args.bytes.now ≡ length (span.text ++ c.in_ok-rest.rest.now) = ap length span.parts in
    let n : length c.args.bytes.now - length c.in_ok-rest.rest.now ≡ length span.text = omega (arith, length-append span.text c.in_ok-rest.rest.now) in
    let front : c.split_at.result.0.now ≡ span.text = c.split_at.ensures.front ∙ ap (λ (k : ℕ). take k c.args.bytes.now) n ∙ ap (λ (t : List ℕ). take (length span.text) t) span.parts ∙ take_at span.text c.in_ok-rest.rest.now (length span.text) refl in
    let back : c.split_at.result.1.now ≡ c.in_ok-rest.rest.now = c.split_at.ensures.back ∙ ap (λ (k : ℕ). drop k c.args.bytes.now) n ∙ ap (λ (t : List ℕ). drop (length span.text) t) span.parts ∙ drop_at span.text c.in_ok-rest.rest.now (length span.text) refl in
    ap (λ (t : List ℕ). got t c.split_at.result.1.now) front ∙ ap (λ (t : List ℕ). got span.text t) back ∙ sym span.taken
