use Rattle.std.proofs.Common.{length, subst, sym, ap, ◌∙◌}
use Rattle.std.proofs.lemmas.Bool.Decides.{Decides-eqb}
use Rattle.pssm_profile.specs.Kinds.{StandBefore, IsOfKind}
use Rattle.pssm_tally.specs.Tallies.{HasKind, kind_meant, names_held}
use Rattle.pssm_tally.proofs.TallyLaws.{passes_other, passes_where, stand_before}
use Rattle.pssm_tally.proofs.tally.Tally.passes_limit.Goals as goal

pub returns-in-None : goal.returns-in-None
returns-in-None c =
    let so = passes_other c.args.elements.now c.args.n (subst (HasKind c.args.elements.now c.args.n) c.in-None.is c.requires.kind) in
    (λ yes. so.0 (c.passes_parameters.ensures.0 yes), λ p. c.passes_parameters.ensures.1 (so.1 p))

pub returns-in-Some : goal.returns-in-Some
returns-in-Some c =
    let doc = c.args.elements.now in let n = c.args.n in let kind = c.in-Some.kind in
    let own = subst (HasKind doc n) c.in-Some.is c.requires.kind in
    let count = c.len.result in
    let stand = subst (StandBefore (IsOfKind doc (kind_meant kind)) n) (sym (c.len.ensures ∙ ap length c.names.ensures))
    (stand_before doc (kind_meant kind) n (names_held c.args.self.now kind) (c.requires.tally kind)) in
    let so = passes_where doc n (kind_meant kind) count (λ j has. c.one_kind.ensures doc n (kind_meant kind) j own has)
    (λ has. c.no_parameter.ensures doc n (kind_meant kind) own has) own stand in (
      λ yes. so.0 ((Decides-eqb count c.limit.result).0 yes ∙ c.limit.ensures),
      λ p. (Decides-eqb count c.limit.result).1 (so.1 p ∙ sym c.limit.ensures),
    )
