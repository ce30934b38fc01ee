use Rattle.std.proofs.Common.{◌≡◌, ◌<◌, ◌∙◌, sym, subst, length, ℕ}
use Rattle.pssm_numbering.specs.Numbering.{ModelFile, place_in, with_role, is_class}
use Rattle.pssm_numbering.proofs.MachineLaws.{list_noted, list_few, list_place}
use Rattle.pssm_numbering.proofs.numbering.Numbering.class_place.Goals as goal

pub place_of-requires-clause-within : goal.place_of-requires-clause-within
place_of-requires-clause-within c =
    subst (λ (k : ℕ). c.args.n < k) (sym (list_noted _ _ _ _ c.self.invariant.2))
    (subst (λ (f : ModelFile). c.args.n < length f.doc) (sym c.self.view_is) c.requires)

pub place_of-requires-clause-short : goal.place_of-requires-clause-short
place_of-requires-clause-short c = list_few _ _ _ _ c.self.invariant.2

pub returns : goal.returns
returns c =
    subst (λ (f : ModelFile). c.place_of.result ≡ place_in (with_role is_class f) c.args.n) c.self.view_is
    (c.place_of.ensures ∙ list_place _ _ _ _ c.self.invariant.2 c.args.n
    (subst (λ (f : ModelFile). c.args.n < length f.doc) (sym c.self.view_is) c.requires))
