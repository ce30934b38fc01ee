use Rattle.std.proofs.Common.{◌≡◌, IfOk, subst}
use Rattle.pssm_semantics.specs.declared.setting.Names.{Names}
use Rattle.pssm_acts.specs.ActText.{cond_text}
use Rattle.pssm_acts.specs.Canonical.{IsCanonicalCond}
use Rattle.pssm_acts.proofs.reading.read_cond.Goals as goal

-- The names that are lent are the names.
pub returns-clause-unchanged : goal.returns-clause-unchanged
returns-clause-unchanged c =
    subst (λ (n : Names). IsCanonicalCond n c.args.text.now → IfOk c.read_cond_known.result (λ cond. cond_text n cond ≡ c.args.text.now)) c.of.ensures c.read_cond_known.ensures.unchanged
