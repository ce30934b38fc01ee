use Rattle.std.proofs.Common.{OnOk, sym, subst}
use Rattle.pssm_model.specs.declared.steps.How.{How}
use Rattle.pssm_plan.specs.inner.Going.{CanRunSo, IsFollowedSo}
use Rattle.pssm_plan.proofs.Following.{order_same}
use Rattle.pssm_plan.proofs.progress.Progress.follow.Goals as goal

pub follow_route-requires-clause-route : goal.follow_route-requires-clause-route
follow_route-requires-clause-route c =
    subst (λ (h : How). CanRunSo c.args.machine.now c.args.item h) c.in-By.is c.requires.way

pub follow_opening-requires-clause-way : goal.follow_opening-requires-clause-way
follow_opening-requires-clause-way c =
    subst (λ (h : How). CanRunSo c.args.machine.now c.args.item h) c.in-Restore.is c.requires.way

pub returns-in-By-clause-followed : goal.returns-in-By-clause-followed
returns-in-By-clause-followed c =
    subst (λ (h : How). OnOk c.follow_route.result (IsFollowedSo c.args.machine.now c.args.self.now c.args.item h c.follow_route.new.self))
    (sym c.in-By.is) c.follow_route.ensures.followed

pub returns-in_ok-follow_opening-in-Restore-clause-followed : goal.returns-in_ok-follow_opening-in-Restore-clause-followed
returns-in_ok-follow_opening-in-Restore-clause-followed c =
    subst (λ (h : How). IsFollowedSo c.args.machine.now c.args.self.now c.args.item h c.follow_opening.new.self)
    (sym c.in-Restore.is) c.in_ok-follow_opening-in-Restore.ensures.followed

pub returns-in_ok-follow_opening-in-Restore-clause-kept : goal.returns-in_ok-follow_opening-in-Restore-clause-kept
returns-in_ok-follow_opening-in-Restore-clause-kept c = λ free.
    order_same c.args.machine.now c.args.self.now.roster.calls.items c.args.self.now.ways.items c.follow_opening.new.self.ways.items
    c.in_ok-follow_opening-in-Restore.ensures.followed.3.ways

pub returns-in_ok-follow_plainly-in-Nothing-clause-followed : goal.returns-in_ok-follow_plainly-in-Nothing-clause-followed
returns-in_ok-follow_plainly-in-Nothing-clause-followed c =
    subst (λ (h : How). IsFollowedSo c.args.machine.now c.args.self.now c.args.item h c.follow_plainly.new.self)
    (sym c.in-Nothing.is) c.in_ok-follow_plainly-in-Nothing.ensures.followed

pub returns-in_ok-follow_plainly-in-Nothing-clause-kept : goal.returns-in_ok-follow_plainly-in-Nothing-clause-kept
returns-in_ok-follow_plainly-in-Nothing-clause-kept c = λ free.
    order_same c.args.machine.now c.args.self.now.roster.calls.items c.args.self.now.ways.items c.follow_plainly.new.self.ways.items
    c.in_ok-follow_plainly-in-Nothing.ensures.followed.ways
