-- one entry more
use Rattle.std.proofs.Common.{◌+◌, length, ℕ, refl, ap, ◌∙◌}
use Rattle.pssm_semantics.specs.Pool.{posts_of_entry}
use Rattle.pssm_book.proofs.DeskLaws.{append_limits, appended}
use Rattle.pssm_book.proofs.desk.Desk.append.Goals as goal

pub apply-requires-clause-limits : goal.apply-requires-clause-limits
apply-requires-clause-limits c = append_limits c.args.self.now c.requires.order c.args.entry c.requires.room c.requires.next

pub returns-clause-ok : goal.returns-clause-ok
returns-clause-ok c =
    let was = c.args.self.now in
    appended was _ c.requires.order c.args.entry c.requires.room c.requires.next c.apply.ensures.setting c.in_ok-apply.ensures.ok
    (ap (λ (n : ℕ). was.posted + n) c.post_count-posts.ensures)
    (ap (λ (n : ℕ). was.outputs + (n + c.out_count-outs.result)) c.post_count-posts.ensures
    ∙ ap (λ (n : ℕ). was.outputs + (length (posts_of_entry c.args.entry) + n)) c.out_count-outs.ensures) refl refl refl
