use Rattle.std.proofs.Common.{sym, subst}
use Rattle.pssm_model.specs.declared.elements.Owner.{Owner}
use Rattle.pssm_wellformed.specs.inner.Levels.{IsLevel}
use Rattle.pssm_wellformed.specs.inner.Levels.IsLevel.{top}
use Rattle.pssm_wellformed.proofs.Climbing.{state_level}
use Rattle.pssm_wellformed.proofs.levels.level.Goals as goal

pub returns-in-Top-clause-level : goal.returns-in-Top-clause-level
returns-in-Top-clause-level c = subst (λ (p : Owner). IsLevel c.args.machine.now p 0) (sym c.in-Top.is) top

pub returns-in-State-clause-level : goal.returns-in-State-clause-level
returns-in-State-clause-level c =
    state_level c.args.machine.now c.requires.shape c.args.place c.in-State.state c.depth.result c.in-State.is c.requires.place c.depth.ensures.depth
