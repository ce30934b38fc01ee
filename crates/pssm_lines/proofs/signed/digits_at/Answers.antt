use Rattle.std.proofs.Common.{◌≡◌, ℕ, List, true, take, sym, ap, subst, ◌∙◌, arith}
use Rattle.std.specs.List.{list_all}
use Rattle.std.proofs.lemmas.List.Sums.{prefix_len-le-length}
use Rattle.pssm_spelling.specs.SpellingReading.{is_digit}
use Rattle.pssm_spelling.proofs.SpellingLaws.{digits_front}
use Rattle.pssm_lines.proofs.signed.digits_at.Goals as goal

pub split_at-requires : goal.split_at-requires
split_at-requires c = omega (arith, prefix_len-le-length is_digit c.args.bytes.now)

pub magnitude-value-requires : goal.magnitude-value-requires
magnitude-value-requires c =
    let front = c.split_at.ensures.front ∙ ap (λ (n : ℕ). take n c.args.bytes.now) c.digits_len.ensures in
    record { digits = subst (λ (ds : List ℕ). list_all is_digit ds ≡ true) (sym front) (digits_front c.args.bytes.now) }
