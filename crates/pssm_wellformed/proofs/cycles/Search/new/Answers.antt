-- each number is put ahead
use Rattle.std.proofs.Common.{◌≡◌, ◌∷◌, [], ◌++◌, length, Contains, refl, subst, ⊎_elim, arith}
use Rattle.std.proofs.lemmas.Bool.{cases_eq}
use Rattle.std.proofs.lemmas.List.Elements.{Contains-append_left, Contains-push, Contains-push_cases}
use Rattle.pssm_wellformed.proofs.Searching.{search_begins}
use Rattle.pssm_wellformed.proofs.cycles.Search.new.Goals as goal

pub loop-number-init : goal.loop-number-init
loop-number-init c a =
    rw c.in_ok-ahead.ensures.items ((λ there. absurd (let lt = there.1 in omega arith)), (λ lt. absurd (omega arith)))

pub loop-number-preserved : goal.loop-number-preserved
loop-number-preserved c a =
    let xs = c.loop-number.ahead.items in
    let n = c.loop-number.number in
    let old = c.loop-number.invariant a in
    rw c.in_ok-push.ensures.items (
      (λ there. ⊎_elim (λ before. let lt = old.0 before in omega arith) (λ (same : n ≡ a). omega arith) (Contains-push_cases xs n a there)),
      (λ lt. ⊎_elim (λ (same : n ≡ a). subst (λ b. Contains (xs ++ n ∷ []) b) same (Contains-push xs n))
          (λ (other : n ≡ a → ⊥). Contains-append_left xs (n ∷ []) a (old.1 (omega arith))) (cases_eq n a)),
    )

pub returns : goal.returns
returns c =
    rw (c.in_ok-vec.ensures.items_if_clones_equal (λ y e. e), c.in_ok-vec-2.ensures.items_if_clones_equal (λ y e. e), c.new.ensures.items, c.new-2.ensures.items)
    (search_begins c.args.onward.now (length c.args.onward.now) c.loop-number.ahead.items c.requires.within refl
    (λ a. let old = c.loop-number.invariant a in let last = c.loop-number-test.false in let upto = c.loop-number.auto.number-end in
    ((λ there. let lt = old.0 there in omega arith), (λ lt. old.1 (omega arith)))))
