-- each turn looks at one number more
use Rattle.std.proofs.Common.{◌≡◌, ◌<◌, Bool, length, get_or, refl, ap, sym, subst, ◌∙◌, false, Vec, Global, ℕ}
use Rattle.std.proofs.lemmas.List.{take_all, get_or_default}
use Rattle.std.proofs.lemmas.List.Elements.{Contains-get_or}
use Rattle.pssm_wellformed.specs.inner.Reach.{FindsMore}
use Rattle.pssm_wellformed.proofs.Walking.{finds_none, turn_new, turn_again}
use Rattle.pssm_wellformed.proofs.reach.find_more.Goals as goal
use Rattle.pssm_wellformed.proofs.reach.find_more.Goals.{then-not-index+in_ok-push, else-not-index}

pub index-requires : goal.index-requires
index-requires c =
    let low = c.requires.within (get_or c.args.further.now c.loop-number.number-index 0) (Contains-get_or c.args.further.now c.loop-number.number-index 0 c.loop-number-test.true) in
    subst (λ n. get_or c.args.further.now c.loop-number.number-index 0 < n) (sym c.loop-number.invariant.wide ∙ sym c.loop-number.marks.ok.0) low

pub index_mut-requires : goal.index_mut-requires
index_mut-requires c =
    let low = c.requires.within (get_or c.args.further.now c.loop-number.number-index 0) (Contains-get_or c.args.further.now c.loop-number.number-index 0 c.loop-number-test.true) in
    subst (λ n. get_or c.args.further.now c.loop-number.number-index 0 < n) (sym c.loop-number.invariant.wide ∙ sym c.loop-number.marks.ok.0) low

pub loop-number-init : goal.loop-number-init
loop-number-init c = record { wide = refl; are_marked = c.requires.marked; more = finds_none c.args.found.now.items }

pub loop-number-preserved : goal.loop-number-preserved
loop-number-preserved c =
    let x = get_or c.args.further.now c.loop-number.number-index 0 in
    let there : x < length c.loop-number.marks.items =
    subst (λ n. x < n) (sym c.loop-number.invariant.wide) (c.requires.within x (Contains-get_or c.args.further.now c.loop-number.number-index 0 c.loop-number-test.true)) in
    let mark : get_or c.loop-number.marks.items x false ≡ c.index.result.now =
    get_or_default c.loop-number.marks.items x false c.index.result.now there ∙ sym c.index.ensures in
    elim c.if-not-index.branch [
      | then-not-index+in_ok-push w ↦ turn_new (length c.args.marks.now.items) c.args.found.now.items c.args.further.now c.loop-number.number-index x
          c.loop-number.marks.items c.if-not-index.marks.items c.loop-number.found.items c.if-not-index.found.items c.loop-number-test.true refl there
          (mark ∙ w.if-not-index.true) (ap (λ (v : Vec Bool Global). v.items) w.marks-is) (ap (λ (v : Vec ℕ Global). v.items) w.found-is ∙ w.in_ok-push.ensures.items)
          c.loop-number.invariant
      | else-not-index w ↦ turn_again (length c.args.marks.now.items) c.args.found.now.items c.args.further.now c.loop-number.number-index x
          c.loop-number.marks.items c.if-not-index.marks.items c.loop-number.found.items c.if-not-index.found.items c.loop-number-test.true refl
          (mark ∙ w.if-not-index.false) (ap (λ (v : Vec Bool Global). v.items) w.marks-is) (ap (λ (v : Vec ℕ Global). v.items) w.found-is)
          c.loop-number.invariant
    ]

pub returns-clause-more : goal.returns-clause-more
returns-clause-more c =
    subst (λ xs. FindsMore c.args.found.now.items c.loop-number.found.items xs) (take_all c.loop-number.number-index c.args.further.now c.loop-number-test.false)
    c.loop-number.invariant.more
