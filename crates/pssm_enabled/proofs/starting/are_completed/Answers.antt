-- by a completion alone
use Rattle.std.proofs.Common.{sym, subst}
use Rattle.pssm_config.specs.Tables.{configuration_of}
use Rattle.pssm_enabled.specs.Starts.{AreStarted}
use Rattle.pssm_enabled.proofs.Started.{no_signal_starts}
use Rattle.pssm_enabled.proofs.starting.are_completed.Goals as goal

pub returns-in-Signal : goal.returns-in-Signal
returns-in-Signal c = (
  λ wrong. absurd (cc),
  λ h. absurd (no_signal_starts c.args.machine.now (configuration_of c.args.config.now) c.args.event c.args.starts.now c.requires.several
      (λ s same. (let is = c.in-Signal.is in cc (is, same))) h),
)

pub returns-in-Completion : goal.returns-in-Completion
returns-in-Completion c = (
  λ h. subst (λ e. AreStarted c.args.machine.now (configuration_of c.args.config.now) e c.args.starts.now) (sym c.in-Completion.is)
      (c.are_completed_by.ensures.0 h),
  λ h. c.are_completed_by.ensures.1
      (subst (λ e. AreStarted c.args.machine.now (configuration_of c.args.config.now) e c.args.starts.now) c.in-Completion.is h),
)
