use Rattle.std.proofs.Common.{◌≡◌, ◌+◌, ◌∷◌, ◌∙◌, ℕ, List, length, take, Some, ap, sym, arith}
use Rattle.std.proofs.lemmas.List.Sums.{prefix_len-le-length}
use Rattle.pssm_spelling.specs.Spelling.{continues_name}
use Rattle.pssm_spelling.proofs.NameLaws.{name_is, name_too_long, name_not_begun, nothing_no_name}
use Rattle.pssm_spelling.proofs.front.name_at.Goals as goal
use Rattle.pssm_spelling.proofs.front.name_at.Goals.{in_default-via-in-Some+else-begins, in_default-via-in_default}

pub split_at-requires : goal.split_at-requires
split_at-requires c =
    let whole : length c.args.bytes.now ≡ length (c.in-Some.first.now ∷ c.in-Some.others.now) = ap length c.in-Some.ensures.cases.0 in
    omega (arith, prefix_len-le-length continues_name c.in-Some.others.now)

pub returns-then-len-lt-NAME_LEN : goal.returns-then-len-lt-NAME_LEN
returns-then-len-lt-NAME_LEN c =
    ap (λ (t : List ℕ). Some (t, c.split_at.result.1.now)) c.split_at.ensures.front
    ∙ ap (λ (t : List ℕ). Some (take (c.name_len-len.result + 1) c.args.bytes.now, t)) c.split_at.ensures.back
    ∙ sym (name_is c.args.bytes.now c.in-Some.first.now c.in-Some.others.now c.name_len-len.result c.in-Some.ensures.cases.0 (sym c.begins.ensures ∙ c.if-begins.true) c.name_len-len.ensures c.if-len-lt-NAME_LEN.true)

pub returns-else-len-lt-NAME_LEN : goal.returns-else-len-lt-NAME_LEN
returns-else-len-lt-NAME_LEN c =
    sym (name_too_long c.args.bytes.now c.in-Some.first.now c.in-Some.others.now c.name_len-len.result c.in-Some.ensures.cases.0 (sym c.begins.ensures ∙ c.if-begins.true) c.name_len-len.ensures (omega arith))

pub returns-in_default : goal.returns-in_default
returns-in_default c = elim c.in_default.branch [
  | in_default-via-in-Some+else-begins w ↦ sym (name_not_begun c.args.bytes.now w.in-Some.first.now w.in-Some.others.now w.in-Some.ensures.cases.0 (sym w.begins.ensures ∙ w.if-begins.false))
  | in_default-via-in_default w ↦ sym (nothing_no_name c.args.bytes.now w.in_default.ensures.cases)
]
