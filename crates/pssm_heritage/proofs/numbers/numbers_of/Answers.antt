use Rattle.std.proofs.Common.{◌≡◌, ◌∙◌, ap, sym, subst, arith, length, replicate, List, ℕ, []}
use Rattle.pssm_heritage.specs.inner.Tables.{IsNumbering}
use Rattle.pssm_heritage.proofs.NumberLaws.{numbers_start}
use Rattle.pssm_heritage.proofs.numbers.numbers_of.Goals as goal

pub loop-k-init : goal.loop-k-init
loop-k-init c =
    subst
    (λ rows. IsNumbering c.args.draft.now c.args.kind c.args.machines.now 0 0 rows c.new.result.items)
    (sym (c.in_ok-no_rows.ensures ∙ ap (λ xs. replicate {A = List ℕ} (length xs) []) c.as_slice.ensures))
    (subst
    (λ firsts. IsNumbering c.args.draft.now c.args.kind c.args.machines.now 0 0 (replicate (length c.args.draft.now.machines) []) firsts)
    (sym c.new.ensures.items)
    (numbers_start c.args.draft.now c.args.kind c.args.machines.now))

pub returns : goal.returns
returns c =
    let all : c.loop-k.k ≡ length c.args.machines.now = omega arith in
    subst (λ k. IsNumbering c.args.draft.now c.args.kind c.args.machines.now k 0 c.loop-k.numbers.rows.items c.loop-k.numbers.firsts.items) all c.loop-k.invariant
