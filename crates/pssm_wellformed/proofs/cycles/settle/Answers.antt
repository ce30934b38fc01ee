-- each turn closes one number more
use Rattle.std.proofs.Common.{◌≡◌, ◌↔◌, ◌⊎◌, ◌<◌, length, true, get_or, Contains, refl, sym, subst, ◌∙◌, inl, inr, ⊎_elim, arith}
use Rattle.std.proofs.lemmas.Bool.{lt-ltb}
use Rattle.std.proofs.lemmas.List.Elements.{Contains-get_or}
use Rattle.pssm_wellformed.specs.inner.Lists.{list_at}
use Rattle.pssm_wellformed.proofs.Walking.{list_there}
use Rattle.pssm_wellformed.proofs.Settling.{settling_begins, settling_more}
use Rattle.pssm_wellformed.proofs.cycles.settle.Goals as goal
use Rattle.pssm_wellformed.proofs.cycles.settle.Goals.{then-group-gt1, else-group-gt1}

pub bounds-onward-place : goal.bounds-onward-place
bounds-onward-place c =
    c.requires.there (get_or c.args.group.now c.loop-number.number-index 0) (Contains-get_or c.args.group.now c.loop-number.number-index 0 c.loop-number-test.true)

pub index_mut-requires : goal.index_mut-requires
index_mut-requires c =
    let low = c.requires.there (get_or c.args.group.now c.loop-number.number-index 0) (Contains-get_or c.args.group.now c.loop-number.number-index 0 c.loop-number-test.true) in
    subst (λ n. get_or c.args.group.now c.loop-number.number-index 0 < n) (sym c.requires.stages ∙ sym c.loop-number.invariant.stages_width ∙ sym c.loop-number.stages.ok.0) low

pub index_mut-requires-in-loop-number : goal.index_mut-requires-in-loop-number
index_mut-requires-in-loop-number c =
    let low = c.requires.there (get_or c.args.group.now c.loop-number.number-index 0) (Contains-get_or c.args.group.now c.loop-number.number-index 0 c.loop-number-test.true) in
    subst (λ n. get_or c.args.group.now c.loop-number.number-index 0 < n) (sym c.requires.marks ∙ sym c.loop-number.invariant.marks_width ∙ sym c.loop-number.cyclic.ok.0) low

pub loop-number-init : goal.loop-number-init
loop-number-init c = settling_begins c.args.onward.now (length c.args.group.now) c.args.stages.now.items c.args.cyclic.now.items

pub loop-number-preserved : goal.loop-number-preserved
loop-number-preserved c =
    let g = c.args.onward.now in
    let group = c.args.group.now in
    let k = c.loop-number.number-index in
    let x = get_or group k 0 in
    let low : x < length g = c.requires.there x (Contains-get_or group k 0 c.loop-number-test.true) in
    let right : (c.if-group-gt1.leads_back ≡ true) ↔ ((1 < length group) ⊎ Contains (list_at g x) x) =
    elim c.if-group-gt1.branch [
      | then-group-gt1 w ↦ (λ t. inl w.if-group-gt1.true, λ h. w.leads_back-is ∙ lt-ltb 1 (length group) w.if-group-gt1.true)
      | else-group-gt1 w ↦
          let is = list_there g x w.index-onward-place.result low w.index-onward-place.is in
          let all = w.leads_to_itself-leads_back.ensures in (
            λ t. inr (subst (λ xs. Contains xs x) (w.as_slice.ensures.value ∙ sym is) (all.0 (sym w.leads_back-is ∙ t))),
            λ h. w.leads_back-is ∙ all.1 (⊎_elim (λ more. absurd (let few = w.if-group-gt1.false in omega arith)) (λ c. subst (λ xs. Contains xs x) (is ∙ sym w.as_slice.ensures.value) c) h),
          )
    ] in
    settling_more g group k x (length group) c.if-group-gt1.leads_back c.args.stages.now.items c.loop-number.stages.items _ c.args.cyclic.now.items c.loop-number.cyclic.items _
    c.loop-number-test.true refl
    (subst (λ n. x < n) (sym c.requires.stages ∙ sym c.loop-number.invariant.stages_width) low)
    (subst (λ n. x < n) (sym c.requires.marks ∙ sym c.loop-number.invariant.marks_width) low)
    refl refl right c.loop-number.invariant
