use Rattle.std.proofs.lemmas.Result.{on_ok_weaker}
use Rattle.pssm_model.specs.declared.steps.Mode.TheVariants.{Plain, Shallow, Deep}
use Rattle.pssm_plan.specs.inner.Calling.{IsEffectBy, IsEntryBy, IsOpeningBy, IsPickBy, IsOtherBy}
use Rattle.pssm_plan.proofs.Extending.{extended_same, extended_further}
use Rattle.pssm_plan.proofs.AddedCalls.{OneOfOthers, others_are}
use Rattle.pssm_plan.proofs.roster.Roster.list_others.Goals as goal

pub returns-clause-added : goal.returns-clause-added
returns-clause-added c =
    let m = c.args.machine.now in
    let way = c.args.way.now in
    let old = c.args.self.now.calls.items in
    let effects = c.list_effects.new.self.calls.items in
    let entries = c.list_entries.new.self.calls.items in
    let plain = c.list_openings.new.self.calls.items in
    let shallow = c.list_openings-2.new.self.calls.items in
    let deep = c.list_openings-3.new.self.calls.items in
    let first = extended_further m old effects entries (IsEffectBy m way) (IsEntryBy m way)
    c.in_ok-list_effects.ensures.added c.in_ok-list_entries.ensures.added in
    let second = extended_further m old entries plain _ (IsOpeningBy m way Plain) first c.in_ok-list_openings.ensures.added in
    let third = extended_further m old plain shallow _ (IsOpeningBy m way Shallow) second c.in_ok-list_openings-2.ensures.added in
    let fourth = extended_further m old shallow deep _ (IsOpeningBy m way Deep) third c.in_ok-list_openings-3.ensures.added in
    on_ok_weaker c.list_picks.result
    (λ added. extended_same m old _ (OneOfOthers m way) (IsOtherBy m way) (others_are m way)
    (extended_further m old deep _ _ (IsPickBy m way) fourth added))
    c.list_picks.ensures.added
