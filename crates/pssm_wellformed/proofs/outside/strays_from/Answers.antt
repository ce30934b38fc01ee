use Rattle.std.proofs.Common.{◌↔◌, IsTrue, sym, subst}
use Rattle.pssm_model.specs.declared.elements.Owner.{Owner}
use Rattle.pssm_wellformed.specs.inner.Strays.{StraysFrom}
use Rattle.pssm_wellformed.proofs.outside.strays_from.Goals as goal

pub returns-in-Region : goal.returns-in-Region
returns-in-Region c =
    subst (λ (p : Owner). IsTrue c.leaves_region.result ↔ StraysFrom c.args.marked.now p c.args.transition) (sym c.in-Region.is) c.leaves_region.ensures

pub returns-in-State : goal.returns-in-State
returns-in-State c =
    subst (λ (p : Owner). IsTrue c.leaves_its_region.result ↔ StraysFrom c.args.marked.now p c.args.transition) (sym c.in-State.is) c.leaves_its_region.ensures
