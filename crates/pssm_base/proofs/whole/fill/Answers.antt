use Rattle.std.proofs.Common.{rules, arith, ◌≡◌, ◌<◌}
use Rattle.std.proofs.lemmas.Grind.{common_steps}
use Rattle.pssm_base.proofs.Histories.{added_piece, added_end}
use Rattle.pssm_base.proofs.whole.fill.Goals as goal

pub returns-then-branch-eq0-clause-given : goal.returns-then-branch-eq0-clause-given
returns-then-branch-eq0-clause-given g c =
    let end : c.in_ok-read_piece.field-0 ≡ 0 = search rules in
    added_end _ _ _ _ _ _ _ c.loop-bytes.invariant.calls c.in_ok-read_piece.ensures.more end

pub loop-bytes-preserved : goal.loop-bytes-preserved
loop-bytes-preserved g c =
    let some : 0 < c.in_ok-read_piece.field-0 = search rules in
    record {
      front = search rules;
      most = grind (arith, common_steps);
      same = search rules;
      counts = search rules;
      calls = added_piece _ _ _ _ _ _ _ c.loop-bytes.invariant.calls c.in_ok-read_piece.ensures.more some;
    }
