use Rattle.std.proofs.Common.{◌++◌, ℕ, List, ap, ◌∙◌}
use Rattle.pssm_judge.proofs.PieceLaws.{parts_of, front_judging, taken_whole, placed_going}
use Rattle.pssm_judge.proofs.judging.take_whole.Goals as goal

pub judge_lines-requires : goal.judge_lines-requires
judge_lines-requires c =
    let q = c.requires.judging in
    let whole = c.split_at.result.0.now in
    let open_ = c.split_at.result.1.now in
    let parts = parts_of c.args.text.now whole open_ c.whole_len.result c.split_at.ensures.front c.split_at.ensures.back in
    let front = front_judging q.0 q.1 c.args.text.now whole open_ c.args.place c.args.run.now parts q.2 in
    (q.0, front.0, placed_going q.0 front.0 whole c.args.place c.args.run.now c.requires.goes_on front.2)

pub returns : goal.returns
returns c = λ s t j.
    let whole = c.split_at.result.0.now in
    let open_ = c.split_at.result.1.now in
    let behind = c.in_ok-behind.behind in
    let parts = parts_of c.args.text.now whole open_ c.whole_len.result c.split_at.ensures.front c.split_at.ensures.back in
    let kept = c.in_ok-extend_from_slice-2.ensures.items ∙ ap (λ (x : List ℕ). x ++ open_) (c.in_ok-extend_from_slice.ensures.items ∙ ap (λ (x : List ℕ). x ++ behind.rest.now) c.clear.ensures.items) in
    taken_whole s t c.args.text.now whole open_ behind.rest.now c.extend_from_slice-2.new.self.items c.args.place behind.place c.args.run.now c.judge_lines.new.run parts kept
    (λ b p. c.in_ok-behind.ensures.goes_on s b p) c.requires.goes_on j
