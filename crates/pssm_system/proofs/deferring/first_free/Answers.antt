-- all signals are deferred, or the one of the slot is the first that is not
use Rattle.std.proofs.Common.{rules, true, false, sym, ap, subst}
use Rattle.std.specs.Option.{option_copied}
use Rattle.pssm_pool.specs.Waits.{waiting_for}
use Rattle.pssm_object.specs.Following.{Defers}
use Rattle.pssm_system.specs.inner.Deferring.{IsFirstFree}
use Rattle.pssm_system.proofs.Places.{all-so}
use Rattle.pssm_system.proofs.Free.{free-found, defers-alike}
use Rattle.pssm_system.proofs.deferring.first_free.Goals as goal

pub returns-in_err-slot : goal.returns-in_err-slot
returns-in_err-slot c =
    let found = c.in_err-slot.ensures in
    subst (IsFirstFree c.args.class.now c.args.object.now (waiting_for c.args.pools.now.waiting c.args.own))
    (sym (ap option_copied c.from_residual.ensures))
    (all-so (waiting_for c.args.pools.now.waiting c.args.own) found.none
    (λ w like. let said = like.2 in let met = said.says.met in
    defers-alike c.args.class.now c.args.object.now like.0 w true like.1 (subst (λ v. Defers c.args.class.now c.args.object.now v true) said.shows (search rules))))

pub returns : goal.returns
returns c =
    let found = c.in_ok-slot.ensures in
    let first = found.first in
    free-found c.args.class.now c.args.object.now (waiting_for c.args.pools.now.waiting c.args.own) _ first.0 first.2 c.at.result.now
    (c.at.ensures c.args.own first.0 first.1)
    (λ w like. let said = like.2 in let met = said.says.met in
    defers-alike c.args.class.now c.args.object.now like.0 w true like.1 (subst (λ v. Defers c.args.class.now c.args.object.now v true) said.shows (search rules)))
    (λ w like. let said = like.2 in let met = said.says.met in
    defers-alike c.args.class.now c.args.object.now like.0 w false like.1 (subst (λ v. Defers c.args.class.now c.args.object.now v false) said.shows (search rules)))
