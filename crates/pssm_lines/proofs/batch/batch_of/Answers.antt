use Rattle.std.proofs.Common.{◌≡◌, ◌+◌, ◌++◌, ◌∷◌, [], ◌∙◌, true}
use Rattle.pssm_lines.proofs.Streams.{pass_header, pass_line, moved}
use Rattle.pssm_lines.proofs.batch.batch_of.Goals as goal
use Rattle.pssm_lines.proofs.batch.batch_of.Goals.{in-Header, in-Line+in_ok-whole_line-in-Line+in_ok-push-in-Line}

pub loop-lines-preserved : goal.loop-lines-preserved
loop-lines-preserved c = elim c.match-branch-2.branch [
  | in-Header w ↦
      let is = rw w.in-Header.is at c.in_ok-after.ensures in
      let passed = pass_header c.args.begun c.args.number c.args.text.now c.loop-lines.lines.items c.loop-lines.begun c.loop-lines.number c.loop-lines.rest.now w.in-Header.after.now c.loop-lines.invariant is.0 is.1 in
      moved c.args.begun c.args.number c.args.text.now c.loop-lines.lines.items c.match-branch-2.lines.items true c.match-branch-2.begun (c.loop-lines.number + 1) w.in-Header.after.now c.match-branch-2.rest.now passed.next (cc w.lines-is) w.begun-is (cc w.rest-is)
  | in-Line+in_ok-whole_line-in-Line+in_ok-push-in-Line w ↦
      let is = rw w.in-Line.is at c.in_ok-after.ensures in
      let line : w.in_ok-whole_line-in-Line.field-0 ≡ is.0 = w.in_ok-whole_line-in-Line.ensures is.0 is.2.line is.4 in
      let passed = pass_line c.args.begun c.args.number c.args.text.now c.loop-lines.lines.items c.loop-lines.begun c.loop-lines.number c.loop-lines.rest.now w.in-Line.after.now is.0 c.loop-lines.invariant is.1 is.2 is.3 in
      let pushed : c.match-branch-2.lines.items ≡ c.loop-lines.lines.items ++ is.0 ∷ [] = cc (w.lines-is, w.in_ok-push-in-Line.ensures.items, line) in
      moved c.args.begun c.args.number c.args.text.now (c.loop-lines.lines.items ++ is.0 ∷ []) c.match-branch-2.lines.items true c.match-branch-2.begun (c.loop-lines.number + 1) w.in-Line.after.now c.match-branch-2.rest.now passed.next pushed (w.begun-is ∙ is.1) (cc w.rest-is)
]
