use Rattle.std.proofs.Common.{subst, arith}
use Rattle.std.proofs.lemmas.List.Elements.{Contains-get_or}
use Rattle.pssm_totals.specs.inner.Ways.{IsOpenWay}
use Rattle.pssm_totals.proofs.MarkLaws.{on_path_below}
use Rattle.pssm_totals.proofs.CircleLaws.{close_settles, close_keeps, close_done, all_done, keeps_keeps}
use Rattle.pssm_totals.proofs.settling.note_totals.Goals as goal

pub close-rest-requires-clause-within : goal.close-rest-requires-clause-within
close-rest-requires-clause-within c = λ k d lt.
    let below = on_path_below _ c.requires.way.noted (Contains-get_or c.args.way.path.items k d lt) in
    omega arith

pub settle-requires-clause-open : goal.settle-requires-clause-open
settle-requires-clause-open c =
    close_settles
    (subst (IsOpenWay c.args.extends.now c.args.marks.now c.args.way.path.items) c.in-Some.ensures.0 c.requires.way)
    c.requires.right c.close-rest.ensures

pub returns-in-Some-clause-kept : goal.returns-in-Some-clause-kept
returns-in-Some-clause-kept c =
    keeps_keeps
    (close_keeps (subst (IsOpenWay c.args.extends.now c.args.marks.now c.args.way.path.items) c.in-Some.ensures.0 c.requires.way) c.close-rest.ensures)
    c.settle.ensures.kept

pub returns-in-Some-clause-done : goal.returns-in-Some-clause-done
returns-in-Some-clause-done c =
    all_done _ _ _ _ (close_done c.close-rest.ensures) c.settle.ensures.done c.settle.ensures.kept
