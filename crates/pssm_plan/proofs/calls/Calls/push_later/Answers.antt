use Rattle.std.proofs.Common.{◌≡◌, length, ap, ◌∙◌, vec_len, rules}
use Rattle.pssm_plan.specs.inner.Places.{CallList}
use Rattle.pssm_plan.proofs.PlacedCalls.{placed_push, placed_others}
use Rattle.pssm_plan.proofs.calls.Calls.push_later.Goals as goal

pub invariant_of-self : goal.invariant_of-self
invariant_of-self c =
    let same = ap (λ (l : CallList). l.items) c.self.view_is in
    placed_others c.self.inside.list.items c.self.inside.rows.items c.note_later.new.rows.items c.args.call.item
    (λ h. c.requires.fresh (rw (← same) h)) c.note_later.ensures.others c.self.invariant

pub invariant_of-self-in_err-push : goal.invariant_of-self-in_err-push
invariant_of-self-in_err-push c =
    let same = ap (λ (l : CallList). l.items) c.self.view_is in
    let was : c.push.new.self.items ≡ c.self.inside.list.items = search rules in
    rw was (placed_others c.self.inside.list.items c.self.inside.rows.items c.note_later.new.rows.items c.args.call.item
    (λ h. c.requires.fresh (rw (← same) h)) c.note_later.ensures.others c.self.invariant)

pub invariant_of-self-2 : goal.invariant_of-self-2
invariant_of-self-2 c =
    let same = ap (λ (l : CallList). l.items) c.self.view_is in
    let count : vec_len c.self.inside.list ≡ length c.self.inside.list.items = search rules in
    let told : c.len-count.result ≡ length c.self.inside.list.items = c.len-count.ensures ∙ count in
    rw c.in_ok-push.ensures.items (placed_push c.self.inside.list.items c.self.inside.rows.items c.note_later.new.rows.items c.args.call
    (λ h. c.requires.fresh (rw (← same) h)) c.note_later.ensures.others
    (λ le. c.in_ok-note_later.ensures.noted ∙ told) c.self.invariant)
