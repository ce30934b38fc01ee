-- the routes of a dispatch are those of States
use Rattle.std.proofs.Common.{subst}
use Rattle.std.specs.Option.{option_copied}
use Rattle.pssm_semantics.specs.declared.entry.Entry.{Entry}
use Rattle.pssm_object.specs.inner.Situations.{standing_of}
use Rattle.pssm_object.specs.inner.Advancing.{CanFollow}
use Rattle.pssm_object.proofs.situation.Situation.apply.Goals as goal

pub dispatch-requires-clause-routes : goal.dispatch-requires-clause-routes
dispatch-requires-clause-routes c =
    (subst (λ (e : Entry). CanFollow c.args.class.now (standing_of c.args.self.now) (option_copied c.args.signal) e) c.in-Done.is c.requires.follows).0
