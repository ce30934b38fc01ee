-- one vertex more is gone on from
use Rattle.std.proofs.Common.{◌≡◌, ◌<◌, ◌≤◌, ◌+◌, ◌∙◌, All, List, ◌++◌, length, refl, sym, ap, subst, rules, arith}
use Rattle.pssm_model.specs.declared.ids.TransId.{TransId}
use Rattle.pssm_enabled.specs.inner.Behind.{IsGoingOn, IsFurtherBy}
use Rattle.pssm_enabled.proofs.Expanding.{found_here, found_at_there, going_more}
use Rattle.pssm_enabled.proofs.tracing.go_on_from.Goals as goal

pub all_onward-requires-clause-there : goal.all_onward-requires-clause-there
all_onward-requires-clause-there g c =
    let long : length c.args.come.now.found ≡ 4096 = search rules in
    found_at_there c.args.place _ c.requires.once c.requires.place long

pub add_ends_of-requires-clause-there : goal.add_ends_of-requires-clause-there
add_ends_of-requires-clause-there g c =
    subst (All (λ (t : TransId). t.0 < length c.args.machine.now.transitions)) (sym c.as_slice.ensures.value) c.in_ok-onward.ensures.there

pub returns-clause-once : goal.returns-clause-once
returns-clause-once g c = c.add_ends_of.ensures.once

pub returns-clause-going : goal.returns-clause-going
returns-clause-going g c values v tells known h =
    let m = c.args.machine.now in
    let long : length c.args.come.now.found ≡ 4096 = search rules in
    let room : c.args.come.now.count ≤ length c.args.come.now.found = let few = c.requires.once.room in omega (arith, few, long) in
    let ts = c.args.found.now.items in
    let out = c.in_ok-onward.onward.items in
    let further = subst (IsFurtherBy m c.args.come.now c.add_ends_of.new.come) c.as_slice.ensures.value c.add_ends_of.ensures in
    let step = c.in_ok-onward.ensures.goes values tells known (h.ways _ (found_here m c.args.come.now c.args.place _ c.requires.once c.requires.place long)) in
    let added : c.extend_from_slice.new.self.items ≡ ts ++ out =
    c.in_ok-extend_from_slice.ensures.items ∙ ap (λ (us : List TransId). ts ++ us) c.as_slice-2.ensures.value in
    subst (λ us. IsGoingOn m values v us c.add_ends_of.new.come (c.args.place + 1)) (sym added)
    (going_more m values v ts out c.args.come.now c.add_ends_of.new.come c.args.place _ _ h c.requires.once c.requires.place room refl step further)
