use Rattle.std.proofs.Common.{◌≡◌, ◌<◌, ◌≤◌, ap, get_or, length, arith, Contains}
use Rattle.pssm_plan.specs.Agenda.{Agenda}
use Rattle.pssm_plan.specs.inner.Marks.{IsListed}
use Rattle.pssm_plan.specs.inner.Views.{shown, shown_among}
use Rattle.pssm_plan.proofs.Shown.{listed_raw, contains_raw, at_raw, length_raw, seen_blocked}
use Rattle.pssm_plan.proofs.StandingItems.{stands_not_called, call_ran, call_free, call_waits, call_within, is_false, is_not, is_set}
use Rattle.pssm_plan.proofs.plan.Plan.standing.Goals as goal

pub returns-in_default : goal.returns-in_default
returns-in_default c =
    let raw = c.self.inside.progress.roster.calls.items in
    let is : shown raw ≡ c.args.self.now.calls = ap (λ (p : Agenda). p.calls) c.self.view_is in
    let absent : IsListed raw c.args.item → ⊥ = c.in_default.ensures in
    λ m h. stands_not_called m c.args.self.now h c.args.item (λ listed. absent (listed_raw raw c.args.self.now.calls is c.args.item listed))

pub returns-then-call : goal.returns-then-call
returns-then-call c =
    let raw = c.self.inside.progress.roster.calls.items in
    let is : shown raw ≡ c.args.self.now.calls = ap (λ (p : Agenda). p.calls) c.self.view_is in
    let s : Contains raw c.in-Some.call × (c.in-Some.call.item ≡ c.args.item) = c.in-Some.ensures in
    λ m h. call_ran m c.args.self.now h c.args.item (shown_among (length raw) c.in-Some.call) (contains_raw raw c.args.self.now.calls is c.in-Some.call s.0) s.1 c.if-call.true

pub returns-then-not-call : goal.returns-then-not-call
returns-then-not-call c =
    let raw = c.self.inside.progress.roster.calls.items in
    let is : shown raw ≡ c.args.self.now.calls = ap (λ (p : Agenda). p.calls) c.self.view_is in
    let s : Contains raw c.in-Some.call × (c.in-Some.call.item ≡ c.args.item) = c.in-Some.ensures in
    λ m h. call_free m c.args.self.now h c.args.item (shown_among (length raw) c.in-Some.call) (contains_raw raw c.args.self.now.calls is c.in-Some.call s.0) s.1 (is_false c.in-Some.call.ran c.if-call.false)
    (is_not c.in-Some.call.blocked c.if-not-call.true)

pub returns-in-Some-call_at : goal.returns-in-Some-call_at
returns-in-Some-call_at c =
    let raw = c.self.inside.progress.roster.calls.items in
    let is : shown raw ≡ c.args.self.now.calls = ap (λ (p : Agenda). p.calls) c.self.view_is in
    let e = c.as_slice.ensures.value in
    let s : Contains raw c.in-Some.call × (c.in-Some.call.item ≡ c.args.item) = c.in-Some.ensures in
    let w : (c.in-Some.call.seen < length c.as_slice.result.now)
    × (get_or c.as_slice.result.now c.in-Some.call.seen c.in-Some-call_at.on ≡ c.in-Some-call_at.on) = c.in-Some-call_at.ensures in
    let low = rw e at w.0 in
    let at = rw e at w.1 in
    λ m h. call_waits m c.args.self.now h c.args.item (shown_among (length raw) c.in-Some.call) (contains_raw raw c.args.self.now.calls is c.in-Some.call s.0) s.1 (shown_among (length raw) c.in-Some-call_at.on) (is_false c.in-Some.call.ran c.if-call.false)
    (is_set c.in-Some.call.blocked c.if-not-call.false)
    (at_raw raw c.args.self.now.calls is c.in-Some.call c.in-Some-call_at.on (is_set c.in-Some.call.blocked c.if-not-call.false) low at)

pub returns-in-None : goal.returns-in-None
returns-in-None c =
    let raw = c.self.inside.progress.roster.calls.items in
    let is : shown raw ≡ c.args.self.now.calls = ap (λ (p : Agenda). p.calls) c.self.view_is in
    let e = c.as_slice.ensures.value in
    let s : Contains raw c.in-Some.call × (c.in-Some.call.item ≡ c.args.item) = c.in-Some.ensures in
    let w : length c.as_slice.result.now ≤ c.in-Some.call.seen = c.in-None.ensures in
    let past = rw e at w in
    λ m h.
    (let within = call_within m c.args.self.now h c.args.item (shown_among (length raw) c.in-Some.call) (contains_raw raw c.args.self.now.calls is c.in-Some.call s.0) s.1 (is_set c.in-Some.call.blocked c.if-not-call.false) in
    let long = length_raw raw c.args.self.now.calls is in
    let here = seen_blocked c.in-Some.call.blocked c.in-Some.call.seen (length raw) (is_set c.in-Some.call.blocked c.if-not-call.false) in
    absurd (omega (arith, past, within, long, here)))
