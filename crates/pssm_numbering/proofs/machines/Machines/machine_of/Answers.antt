use Rattle.std.proofs.Common.{◌≡◌, ◌<◌, sym, subst, length, IfSome}
use Rattle.pssm_numbering.specs.Numbering.{ModelFile, machines, machine_of, place_in}
use Rattle.pssm_numbering.proofs.MachineLaws.{machine_is, machine_within_file, machine_listed}
use Rattle.pssm_numbering.proofs.machines.Machines.machine_of.Goals as goal

pub returns-clause-machine : goal.returns-clause-machine
returns-clause-machine c =
    subst (λ (f : ModelFile). c.index.result.now ≡ machine_of f c.args.n) c.self.view_is
    (machine_is _ _ _ _ c.self.invariant c.args.n c.index.result.now
    (subst (λ (f : ModelFile). c.args.n < length f.doc) (sym c.self.view_is) c.requires) c.index.ensures)

pub returns-clause-within : goal.returns-clause-within
returns-clause-within c =
    subst (λ (f : ModelFile). IfSome c.index.result.now (λ m. m < length f.doc)) c.self.view_is
    (machine_within_file _ _ _ _ c.self.invariant c.args.n c.index.result.now
    (subst (λ (f : ModelFile). c.args.n < length f.doc) (sym c.self.view_is) c.requires) c.index.ensures)

pub returns-clause-listed : goal.returns-clause-listed
returns-clause-listed c =
    subst (λ (f : ModelFile). IfSome c.index.result.now (λ m. place_in (machines f) m < length (machines f))) c.self.view_is
    (machine_listed _ _ _ _ c.self.invariant c.args.n c.index.result.now
    (subst (λ (f : ModelFile). c.args.n < length f.doc) (sym c.self.view_is) c.requires) c.index.ensures)
