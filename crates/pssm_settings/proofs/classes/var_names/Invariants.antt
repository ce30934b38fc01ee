use Rattle.std.proofs.Common.{◌≡◌, take}
use Rattle.std.specs.Prelude.{map}
use Rattle.pssm_model.specs.declared.draft_setting.DraftVar.{DraftVar}
use Rattle.pssm_settings.proofs.classes.var_names.Given as goal

-- those so far
abbrev pub invariant-loop-var : goal.invariant-loop-var
invariant-loop-var l = l.names.items ≡ map (λ (v : DraftVar). v.name) (take l.var-index l.vars)
