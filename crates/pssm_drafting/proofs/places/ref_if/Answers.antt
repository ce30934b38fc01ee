use Rattle.std.proofs.Common.{◌∙◌, sym, ap}
use Rattle.pssm_numbering.specs.Lists.{is_listed}
use Rattle.pssm_drafting.proofs.OwnLaws.{ref_there}
use Rattle.pssm_drafting.proofs.places.ref_if.Goals as goal

pub returns-then-is_listed : goal.returns-then-is_listed
returns-then-is_listed c =
    ref_there (is_listed c.args.kind) c.args.file.now c.args.numbering.now c.args.found c.in-Some.m c.ref_of.result c.in-Some.is
    (ap (is_listed c.args.kind) (sym c.role.ensures.at) ∙ sym c.is_listed.ensures ∙ c.if-is_listed.true)
    c.requires.same c.ref_of.ensures
