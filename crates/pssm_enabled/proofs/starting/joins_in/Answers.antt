-- the source is the one vertex that the transition leaves
use Rattle.pssm_config.specs.Tables.{configuration_of}
use Rattle.pssm_enabled.proofs.Started.{joins_is}
use Rattle.pssm_enabled.proofs.starting.joins_in.Goals as goal

pub returns-then-is_untriggered : goal.returns-then-is_untriggered
returns-then-is_untriggered c =
    let is = joins_is c.args.machine.now (configuration_of c.args.config.now) c.args.state c.source-source.result c.args.t c.source-source.ensures.leaves in (
      λ h. is.0 (c.is_untriggered.ensures.0 c.if-is_untriggered.true) (c.is_ready.ensures.0 h),
      λ h. c.is_ready.ensures.1 (is.1 h),
    )

pub returns-else-is_untriggered : goal.returns-else-is_untriggered
returns-else-is_untriggered c = (
  λ holds. absurd (let fails = c.if-is_untriggered.false in cc (fails, holds)),
  λ h. c.is_untriggered.ensures.1 h.untriggered,
)
