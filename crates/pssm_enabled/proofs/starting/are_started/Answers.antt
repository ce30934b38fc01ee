-- the one transition, or several
use Rattle.std.proofs.Common.{◌≡◌, length, get_or, sym, subst, arith}
use Rattle.pssm_model.specs.declared.ids.TransId.{TransId}
use Rattle.pssm_config.specs.Tables.{configuration_of}
use Rattle.pssm_enabled.specs.Starts.{AreStarted}
use Rattle.pssm_enabled.proofs.Started.{one_of_length, length_of_one, one_started, started_here}
use Rattle.pssm_enabled.proofs.starting.are_started.Goals as goal

pub are_completed-requires-clause-several : goal.are_completed-requires-clause-several
are_completed-requires-clause-several c t same = let one = length_of_one c.args.starts.now t same in let more = c.if-starts-eq1.false in omega (arith, one, more)

pub returns-then-starts-eq1 : goal.returns-then-starts-eq1
returns-then-starts-eq1 c =
    let d : TransId = record { 0 = 0 } in
    let m = c.args.machine.now in
    let now = configuration_of c.args.config.now in
    let t = get_or c.args.starts.now 0 d in
    let long : length c.args.starts.now ≡ 1 = c.if-starts-eq1.true in
    let one = one_of_length c.args.starts.now d long in (
      λ holds. subst (AreStarted m now c.args.event) (sym one) (one_started m now t c.args.event (c.is_started.ensures.0 holds)),
      λ h. c.is_started.ensures.1 (started_here m now c.args.event c.args.starts.now t c.requires.there one h),
    )
