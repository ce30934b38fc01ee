use Rattle.std.proofs.Common.{◌≡◌, ◌∙◌, Result, Ok, Err, OnErr, length, vec_len, rules}
use Rattle.pssm_plan.proofs.Following.{back_again}
use Rattle.pssm_plan.proofs.progress.Progress.follow_whole.Goals as goal

on_err : {T E P : Type 0} (r : Result T E) → P → OnErr r P
on_err (Ok x) p = search rules
on_err (Err e) p = p

pub returns-then-is_err-clause-refused : goal.returns-then-is_err-clause-refused
returns-then-is_err-clause-refused c =
    let old = c.args.self.now in
    let ways : vec_len old.ways ≡ length old.ways.items = search rules in
    let restored : vec_len old.restored ≡ length old.restored.items = search rules in
    on_err c.follow_few-outcome.result
    (back_again c.args.self.now c.follow_few-outcome.new.self _ c.len-calls.result c.len-ways.result c.len-restored.result
    c.follow_few-outcome.ensures.longer c.len-calls.ensures (c.len-ways.ensures ∙ ways) (c.len-restored.ensures ∙ restored)
    c.undo.ensures.calls c.undo.ensures.ways c.undo.ensures.restored c.undo.ensures.spans)
