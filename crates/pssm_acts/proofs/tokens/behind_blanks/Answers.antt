use Rattle.std.proofs.Common.{◌≡◌, ◌≤◌, ℕ, Bool, length, List, drop, sym, ◌∙◌, subst, arith, length-drop}
use Rattle.pssm_acts.specs.Tokens.{cut}
use Rattle.pssm_acts.proofs.CutLaws.{blank_passed, behind_first}
use Rattle.pssm_acts.proofs.tokens.behind_blanks.Goals as goal

pub loop-rest-preserved : goal.loop-rest-preserved
loop-rest-preserved c =
    let rest = c.loop-rest.rest.now in
    let less : length (drop 1 rest) ≤ length c.args.bytes.now = omega (arith, length-drop 1 rest, c.loop-rest.invariant.1) in
    subst (λ (x : List ℕ). ((end : ℕ) (a : Bool) → cut end a 0 x ≡ cut end a 0 c.args.bytes.now) × (length x ≤ length c.args.bytes.now)) (sym (behind_first rest))
    (λ end a. blank_passed end a rest c.in-len1-up.len_at_least (sym c.blank.ensures ∙ c.if-not-blank.false) ∙ c.loop-rest.invariant.0 end a, less)
