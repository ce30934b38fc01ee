use Rattle.std.proofs.Common.{◌∙◌}
use Rattle.pssm_tool.proofs.GeneratedLaws.{never_full, quiet_due, same_answer}
use Rattle.pssm_tool.proofs.generated_run.run_generated.Goals as goal

-- The journal is not full.
pub unreachable-requires : goal.unreachable-requires
unreachable-requires c =
    never_full c.args.setting c.in_ok-system.system.setting c.args.number c.args.stimuli.now c.in_ok-system.system.journal c.in_ok-text.text c.in_ok-system.ensures.setting c.requires.stimuli
    c.in_ok-text.ensures (c.in_ok-system.ensures.setting ∙ c.requires.generated) (c.generated_runs.ensures.never_full c.args.number c.requires.some c.requires.few)
    c.in_ok-system.ended c.in_ok-system.ensures.ends c.in-Limit.is

-- The run ended quietly, with all its entries.
pub returns-clause-owed : goal.returns-clause-owed
returns-clause-owed c =
    quiet_due c.args.setting c.in_ok-system.system.setting c.args.number c.args.stimuli.now c.in_ok-system.system.journal c.in_ok-text.text c.in_ok-system.ensures.setting c.requires.stimuli
    c.in_ok-text.ensures (c.in_ok-system.ensures.setting ∙ c.requires.generated) (c.generated_ends.ensures c.args.number c.requires.some c.requires.few)
    c.in_ok-system.ended c.in_ok-system.ensures.ends c.in-Quiet.is _
    (same_answer c.args.number c.in_ok-system.system.journal c.entries.result.now c.entries-in-Quiet.result.now c.take_count_of.result c.in_ok-text.text
    c.as_slice.result.now c.digest.result c.entries.ensures.journal c.take_count_of.ensures c.entries-in-Quiet.ensures.journal c.digest.ensures c.as_slice.ensures)
