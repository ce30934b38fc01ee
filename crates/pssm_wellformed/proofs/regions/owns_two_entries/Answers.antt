use Rattle.std.proofs.Common.{◌∙◌, sym, inl, inr, ⊎_elim, arith}
use Rattle.std.proofs.lemmas.Bool.{false≢true, lt-ltb, ltb-true}
use Rattle.pssm_model.specs.declared.elements.VertexKind.TheVariants as kinds
use Rattle.pssm_wellformed.proofs.Listing.{two_of_kind}
use Rattle.pssm_wellformed.proofs.regions.owns_two_entries.Goals as goal
use Rattle.pssm_wellformed.proofs.regions.owns_two_entries.Goals.{then-initials_of-gt1, else-initials_of-gt1}

pub returns-then-shallow_histories_of-gt1 : goal.returns-then-shallow_histories_of-gt1
returns-then-shallow_histories_of-gt1 c =
    let m = c.args.machine.now in
    let r = c.args.region in
    let initials = two_of_kind m r kinds.Initial c.initials_of.result.now c.initials_of.ensures.items c.initials_of.ensures.ascending in (
      λ t. elim c.if-initials_of-gt1.branch [
        | then-initials_of-gt1 w ↦ inl (initials.0 (lt-ltb 1 _ w.if-initials_of-gt1.true))
        | else-initials_of-gt1 w ↦ inr (inl ((two_of_kind m r kinds.ShallowHistory w.shallow_histories_of.result.now w.shallow_histories_of.ensures.items
            w.shallow_histories_of.ensures.ascending).0 (sym w.value-is ∙ t)))
      ],
      λ two. c.if-shallow_histories_of-gt1.true,
    )

pub returns-else-shallow_histories_of-gt1 : goal.returns-else-shallow_histories_of-gt1
returns-else-shallow_histories_of-gt1 c =
    let m = c.args.machine.now in
    let r = c.args.region in
    let initials = two_of_kind m r kinds.Initial c.initials_of.result.now c.initials_of.ensures.items c.initials_of.ensures.ascending in
    let deeps = two_of_kind m r kinds.DeepHistory c.deep_histories_of.result.now c.deep_histories_of.ensures.items c.deep_histories_of.ensures.ascending in (
      λ t. inr (inr (deeps.0 t)),
      λ two. elim c.if-initials_of-gt1.branch [
        | then-initials_of-gt1 w ↦ absurd (false≢true (sym c.if-shallow_histories_of-gt1.false ∙ w.value-is ∙ lt-ltb 1 _ w.if-initials_of-gt1.true))
        | else-initials_of-gt1 w ↦
            let shallows = two_of_kind m r kinds.ShallowHistory w.shallow_histories_of.result.now w.shallow_histories_of.ensures.items
            w.shallow_histories_of.ensures.ascending in
            ⊎_elim (λ a. absurd (let more = ltb-true 1 _ (initials.1 a) in let few = w.if-initials_of-gt1.false in omega arith))
            (⊎_elim (λ b. absurd (false≢true (sym c.if-shallow_histories_of-gt1.false ∙ w.value-is ∙ shallows.1 b))) (λ d. deeps.1 d)) two
      ],
    )
