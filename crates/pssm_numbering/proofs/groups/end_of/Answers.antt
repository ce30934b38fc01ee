use Rattle.std.proofs.Common.{◌∙◌, sym, arith}
use Rattle.pssm_numbering.specs.Lists.{is_listed}
use Rattle.pssm_numbering.proofs.GroupLaws.{row_short, beside_row, none_beside, none_above}
use Rattle.pssm_numbering.proofs.groups.end_of.Goals as goal

pub length_of-requires-clause-short : goal.length_of-requires-clause-short
length_of-requires-clause-short c =
    let short = row_short _ _ _ _ _ c.requires.groups c.in-Some.k c.in-Some.ensures.within in
    let few = c.known_sizes.ensures.few in
    omega arith

pub returns-in-None : goal.returns-in-None
returns-in-None c =
    sym (none_beside c.args.machines.now (is_listed c.args.kind) c.args.n c.known_sizes.ensures.roles
    (none_above c.args.machines.now c.args.n (sym c.place_above.ensures.place ∙ c.in-None.is)))

pub returns-in-Some : goal.returns-in-Some
returns-in-Some c =
    c.length_of.ensures
    ∙ beside_row _ _ _ _ c.requires.groups c.args.n c.in-Some.k (sym c.place_above.ensures.place ∙ c.in-Some.is) c.in-Some.ensures.within
