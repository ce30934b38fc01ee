-- Each turn looks at one State more.
use Rattle.std.proofs.Common.{◌∙◌, Vec, Global, ap, sym}
use Rattle.std.proofs.lemmas.Bool.{true≢false}
use Rattle.pssm_model.specs.declared.ids.VertexId.{VertexId}
use Rattle.pssm_routes.proofs.ChosenStates.{IsMarked}
use Rattle.pssm_enabled.proofs.Choosing.{chosen_more, chosen_same, chosen_all}
use Rattle.pssm_routes.proofs.candidates.unmarked.Goals.{then-not-marks-s+in_ok-push, else-not-marks-s}
use Rattle.pssm_routes.proofs.candidates.unmarked.Goals as goal

pub loop-s-preserved : goal.loop-s-preserved
loop-s-preserved c =
    let d : VertexId = record { 0 = 0 } in
    let Free : VertexId → Type 0 = λ s. IsMarked c.args.marks.now s → ⊥ in
    elim c.if-not-marks-s.branch [
      | then-not-marks-s+in_ok-push w ↦
          chosen_more Free c.args.states.now c.loop-s.s-index d c.loop-s.found.items c.if-not-marks-s.found.items
          (ap (λ (v : Vec VertexId Global). v.items) w.found-is ∙ w.in_ok-push.ensures.items) c.loop-s-test.true c.loop-s.invariant
          (λ marked. true≢false (sym marked ∙ w.if-not-marks-s.true))
      | else-not-marks-s w ↦
          chosen_same Free c.args.states.now c.loop-s.s-index d c.loop-s.found.items c.if-not-marks-s.found.items
          (ap (λ (v : Vec VertexId Global). v.items) w.found-is) c.loop-s-test.true c.loop-s.invariant
          (λ free. free w.if-not-marks-s.false)
    ]

pub returns : goal.returns
returns c =
    let Free : VertexId → Type 0 = λ s. IsMarked c.args.marks.now s → ⊥ in
    chosen_all Free c.args.states.now c.loop-s.s-index c.loop-s.found.items c.loop-s-test.false c.loop-s.invariant
