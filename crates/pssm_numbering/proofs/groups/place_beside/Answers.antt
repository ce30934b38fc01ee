use Rattle.std.proofs.Common.{◌<◌, ◌∙◌, sym, subst, ℕ}
use Rattle.pssm_numbering.proofs.GroupLaws.{places_count, place_found, place_past}
use Rattle.pssm_numbering.proofs.groups.place_beside.Goals as goal

pub noted_at-requires : goal.noted_at-requires
noted_at-requires c =
    subst (λ (k : ℕ). c.args.n < k) (sym (places_count _ _ _ _ _ c.requires.groups)) c.requires.within

pub returns-in-Some : goal.returns-in-Some
returns-in-Some c =
    place_found _ _ _ _ c.requires.groups c.args.n c.in-Some.place c.requires.within
    (sym c.noted_at.ensures ∙ c.in-Some.is)

pub returns-in-None : goal.returns-in-None
returns-in-None c =
    c.end_of.ensures
    ∙ place_past _ _ _ _ c.requires.groups c.args.n c.requires.within
    (sym c.noted_at.ensures ∙ c.in-None.is)
