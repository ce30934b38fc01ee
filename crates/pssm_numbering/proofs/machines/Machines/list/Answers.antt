use Rattle.std.proofs.Common.{◌<◌, ◌≤◌, sym, subst, length, List, ℕ}
use Rattle.pssm_numbering.specs.Numbering.{ModelFile}
use Rattle.std.specs.List.{All}
use Rattle.pssm_numbering.proofs.MachineLaws.{list_within, list_few}
use Rattle.pssm_numbering.proofs.machines.Machines.list.Goals as goal

pub returns-clause-within : goal.returns-clause-within
returns-clause-within c =
    subst (All (λ n. n < length c.args.self.now.doc)) (sym c.as_slice.ensures.value)
    (subst (λ (f : ModelFile). All (λ n. n < length f.doc) c.self.inside.listing.list.items) c.self.view_is
    (list_within _ _ _ _ c.self.invariant.all))

pub returns-clause-few : goal.returns-clause-few
returns-clause-few c =
    subst (λ (xs : List ℕ). length xs ≤ 16777216) (sym c.as_slice.ensures.value)
    (list_few _ _ _ _ c.self.invariant.all)
