use Rattle.std.proofs.Common.{◌≡◌, length}
use Rattle.pssm_semantics.specs.declared.setting.Setting.{Setting}
use Rattle.pssm_flat.specs.declared.outline.Outline.TheVariants as stages
use Rattle.pssm_flat.specs.inner.Outlines.{HasRead}
use Rattle.pssm_flat.proofs.reading.whole_of.Given as goal

abbrev pub invariant-loop-text : goal.invariant-loop-text
invariant-loop-text l = record {
  read : HasRead l.bytes l.outline l.rest l.line;
  open_yet : (s : Setting) → l.outline ≡ stages.Ended s → ⊥;
}

abbrev pub decreases-loop-text : goal.decreases-loop-text
decreases-loop-text l = length l.rest
