-- the arrows of one number after the other are walked
use Rattle.std.proofs.Common.{◌<◌, length, get_or, sym, subst, ◌∙◌, arith, Contains}
use Rattle.std.proofs.lemmas.List.{get_or_default}
use Rattle.pssm_wellformed.proofs.Walking.{blank_marks, walk_begins, walk_goes_on, walk_ends, walk_has_room, found_within, walk_list}
use Rattle.pssm_wellformed.proofs.reach.walk_from.Goals as goal

pub find_more-requires-clause-within : goal.find_more-requires-clause-within
find_more-requires-clause-within c b there =
    subst (λ n. b < n) (sym c.in_ok-marks.ensures.len ∙ c.in_ok-marks.marks.ok.0) (c.requires.there b there)

pub find_more-requires-clause-marked : goal.find_more-requires-clause-marked
find_more-requires-clause-marked c =
    rw (c.in_ok-marks.ensures.items_if_clones_equal (λ y e. e), c.new-found.ensures.items) (blank_marks (length c.args.onward.now))

pub loop-place-init : goal.loop-place-init
loop-place-init c =
    walk_begins c.args.onward.now c.args.first.now c.new-found.result.items c.find_more.new.marks.items c.find_more.new.found.items
    (c.in_ok-find_more.ensures.width ∙ sym c.in_ok-marks.marks.ok.0 ∙ c.in_ok-marks.ensures.len) c.new-found.ensures.items
    c.in_ok-find_more.ensures.marked c.in_ok-find_more.ensures.more

pub bounds-onward-number : goal.bounds-onward-number
bounds-onward-number c =
    let ok = c.loop-place.found.ok.0 in
    let lt : c.loop-place.place < length c.loop-place.found.items = let t = c.loop-place-test.true in let l = c.len.ensures in omega arith in
    found_within c.args.onward.now c.args.first.now c.loop-place.place c.loop-place.marks.items c.loop-place.found.items c.index.result.now
    c.requires.within c.requires.there c.loop-place.invariant lt (get_or_default c.loop-place.found.items c.loop-place.place 0 c.index.result.now lt ∙ sym c.index.ensures)

pub find_more-requires-in-loop-place-clause-within : goal.find_more-requires-in-loop-place-clause-within
find_more-requires-in-loop-place-clause-within c b there =
    let ok = c.loop-place.found.ok.0 in
    let lt : c.loop-place.place < length c.loop-place.found.items = let t = c.loop-place-test.true in let l = c.len.ensures in omega arith in
    let list = walk_list c.args.onward.now c.args.first.now c.loop-place.place c.loop-place.marks.items c.loop-place.found.items c.index.result.now
    c.index-onward-number.result c.requires.within c.requires.there c.loop-place.invariant lt c.index.ensures c.index-onward-number.is in
    subst (λ n. b < n) (sym c.loop-place.invariant.width)
    (c.requires.within (get_or c.loop-place.found.items c.loop-place.place 0) b (subst (λ xs. Contains xs b) (c.as_slice.ensures.value ∙ sym list) there))

pub loop-place-smaller : goal.loop-place-smaller
loop-place-smaller c =
    let ok = c.loop-place.found.ok.0 in
    let lt : c.loop-place.place < length c.loop-place.found.items = let t = c.loop-place-test.true in let l = c.len.ensures in omega arith in
    let room = walk_has_room c.args.onward.now c.args.first.now c.loop-place.place c.loop-place.marks.items c.loop-place.found.items c.loop-place.invariant lt in
    omega arith

pub loop-place-preserved : goal.loop-place-preserved
loop-place-preserved c =
    let ok = c.loop-place.found.ok.0 in
    let lt : c.loop-place.place < length c.loop-place.found.items = let t = c.loop-place-test.true in let l = c.len.ensures in omega arith in
    let list = walk_list c.args.onward.now c.args.first.now c.loop-place.place c.loop-place.marks.items c.loop-place.found.items c.index.result.now
    c.index-onward-number.result c.requires.within c.requires.there c.loop-place.invariant lt c.index.ensures c.index-onward-number.is in
    walk_goes_on c.args.onward.now c.args.first.now c.loop-place.place c.loop-place.marks.items c.find_more-in-loop-place.new.marks.items
    c.loop-place.found.items c.find_more-in-loop-place.new.found.items c.as_slice.result.now c.loop-place.invariant lt (list ∙ sym c.as_slice.ensures.value)
    c.in_ok-find_more-2.ensures.width c.in_ok-find_more-2.ensures.marked c.in_ok-find_more-2.ensures.more

pub returns-clause-marks : goal.returns-clause-marks
returns-clause-marks c b =
    let ok = c.loop-place.found.ok.0 in
    let ends = walk_ends c.args.onward.now c.args.first.now c.loop-place.place c.loop-place.marks.items c.loop-place.found.items c.loop-place.invariant
    (let t = c.loop-place-test.false in let l = c.len.ensures in omega arith) b in
    let same = c.loop-place.invariant.are_marked.same b in
    (λ m. ends.0 (same.0 m), λ r. same.1 (ends.1 r))
