use Rattle.std.proofs.Common.{inl, inr, ◌∙◌}
use Rattle.pssm_judge.proofs.Spaces.{exit_count, effect_count, enter_count, do_count}
use Rattle.pssm_judge.proofs.limits.output_count.Goals as goal

pub returns-in-Exit : goal.returns-in-Exit
returns-in-Exit c = λ line is_line shown.
    elim c.in-Exit.is [
      | inl e ↦ c.spaces.ensures ∙ exit_count c.args.parts.now e.0 e.1 c.in-Exit.outs line e.2 is_line shown
      | inr more ↦ elim more [
        | inl e ↦ c.spaces.ensures ∙ effect_count c.args.parts.now e.0 e.1 c.in-Exit.outs line e.2 is_line shown
        | inr more ↦ elim more [
          | inl e ↦ c.spaces.ensures ∙ enter_count c.args.parts.now e.0 e.1 c.in-Exit.outs line e.2 is_line shown
          | inr e ↦ c.spaces.ensures ∙ do_count c.args.parts.now e.0 e.1 e.2 c.in-Exit.outs line e.3 is_line shown
        ]
      ]
    ]
