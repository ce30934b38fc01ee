-- by a signal alone
use Rattle.std.proofs.Common.{◌↔◌, IsTrue, sym, subst}
use Rattle.pssm_config.specs.Tables.{configuration_of}
use Rattle.pssm_routes.specs.inner.Starts.{IsStartedWith}
use Rattle.pssm_routes.proofs.StartedWith.{signal_with}
use Rattle.pssm_routes.proofs.leading.is_caused_with.Goals as goal

pub returns-in-Signal : goal.returns-in-Signal
returns-in-Signal c =
    let now = configuration_of c.args.config.now in
    let with = signal_with c.requires.rules now c.in-Signal.signal c.args.t c.args.source c.requires.leaves c.requires.kind c.requires.active in
    subst (λ e. IsTrue c.is_caused_by.result ↔ IsStartedWith c.args.machine.now now e c.args.t) (sym c.in-Signal.is)
    (λ h. with.0 (c.is_caused_by.ensures.0 h), λ h. c.is_caused_by.ensures.1 (with.1 h))
