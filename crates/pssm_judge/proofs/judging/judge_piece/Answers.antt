use Rattle.std.proofs.Common.{◌≡◌, ◌++◌, ℕ, List, sym, subst, ◌∙◌}
use Rattle.pssm_judge.specs.inner.Judging.{IsJudging}
use Rattle.pssm_judge.proofs.JudgingLaws.{judging_more}
use Rattle.pssm_judge.proofs.PieceLaws.{stays_said, going_placed}
use Rattle.pssm_judge.proofs.judging.judge_piece.Goals as goal

-- The judging has ended before.
pub returns-in-Some : goal.returns-in-Some
returns-in-Some c = λ s t p. stays_said s t c.args.text.now.items c.args.text.now.items c.args.piece.now c.args.place c.args.run.now c.args.run.now c.in-Some._stop c.in-Some.is p

-- It goes on.
pub take_whole-requires-clause-judging : goal.take_whole-requires-clause-judging
take_whole-requires-clause-judging c =
    let q = c.requires in
    let text : c.as_slice.result.now ≡ c.args.text.now.items ++ c.args.piece.now = c.as_slice.ensures.value ∙ c.in_ok-extend_from_slice.ensures.items in (
      q.0,
      q.1 ++ c.args.piece.now,
      subst (λ (x : List ℕ). IsJudging q.0 (q.1 ++ c.args.piece.now) x c.args.place.begun c.args.place.line c.args.run.now) (sym text)
          (judging_more q.0 q.1 c.args.text.now.items c.args.piece.now c.args.place.begun c.args.place.line c.args.run.now (going_placed q.0 q.1 c.args.text.now.items c.args.place c.args.run.now c.in_default.is q.2)),
    )

pub returns : goal.returns
returns c = λ s t p.
    let text : c.as_slice.result.now ≡ c.args.text.now.items ++ c.args.piece.now = c.as_slice.ensures.value ∙ c.in_ok-extend_from_slice.ensures.items in
    rw c.swap.ensures.x_after (c.in_ok-next.ensures s (t ++ c.args.piece.now) (subst (λ (x : List ℕ). IsJudging s (t ++ c.args.piece.now) x c.args.place.begun c.args.place.line c.args.run.now) (sym text)
    (judging_more s t c.args.text.now.items c.args.piece.now c.args.place.begun c.args.place.line c.args.run.now (going_placed s t c.args.text.now.items c.args.place c.args.run.now c.in_default.is p))))
