-- each transition that leads the walk on is put to the vertex from which it does
use Rattle.std.proofs.Common.{◌≡◌, ◌+◌, ℕ, length, [], ◌∷◌, ◌++◌, ◌==◌, if◌then◌else◌, refl, sym, subst, arith, Vec, Global}
use Rattle.std.proofs.lemmas.Bool.{false≢true}
use Rattle.pssm_wellformed.specs.declared.ends.End.{End}
use Rattle.pssm_wellformed.specs.inner.Lists.{list_at}
use Rattle.pssm_wellformed.specs.inner.Ends.{HasEnd, transition_number}
use Rattle.pssm_wellformed.specs.inner.Walks.{AreArrowsBelow}
use Rattle.pssm_wellformed.proofs.Arrows.{arrows_put, arrows_skip, arrows_end}
use Rattle.pssm_wellformed.proofs.walks.arrows_of.Goals as goal
use Rattle.pssm_wellformed.proofs.walks.arrows_of.Goals.{then-passes+in_ok-put, else-passes}

pub loop-number-preserved : goal.loop-number-preserved
loop-number-preserved c =
    let m = c.args.machine.now in
    let n = c.loop-number.number in
    let tail = c.end_of-tail.result in
    let head = c.end_of-head.result in
    let near = subst (λ (e : End). HasEnd m e (transition_number n) tail) c.near.ensures c.end_of-tail.ensures.is in
    let far = subst (λ (e : End). HasEnd m e (transition_number n) head) c.far.ensures c.end_of-head.ensures.is in
    elim c.if-passes.branch [
      | then-passes+in_ok-put w ↦ arrows_put m c.args.walk n c.loop-number.onward.items c.if-passes.onward.items tail head near far (w.if-passes.ensures.0 refl)
          (subst (λ (v : Vec (Vec ℕ Global) Global). length v.items ≡ length c.loop-number.onward.items) (sym w.onward-is) w.in_ok-put.ensures.width)
          (subst (λ (v : Vec (Vec ℕ Global) Global). (k : ℕ) → list_at v.items k ≡ list_at c.loop-number.onward.items k ++ (if k == tail.0 then head.0 ∷ [] else []))
          (sym w.onward-is) w.in_ok-put.ensures.puts)
          c.loop-number.invariant
      | else-passes w ↦ subst (λ (v : Vec (Vec ℕ Global) Global). AreArrowsBelow m c.args.walk (n + 1) v.items) (sym w.onward-is)
          (arrows_skip m c.args.walk n c.loop-number.onward.items tail near (λ p. false≢true (w.if-passes.ensures.1 p)) c.loop-number.invariant)
    ]

pub returns : goal.returns
returns c =
    arrows_end c.args.machine.now c.requires c.args.walk c.loop-number.number c.loop-number.onward.items
    (let last = c.loop-number-test.false in let is = c.transitions-number-end.ensures in omega arith) c.loop-number.invariant
