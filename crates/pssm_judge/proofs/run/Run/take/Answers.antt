use Rattle.std.proofs.Common.{◌+◌, IfNone, IfSome, refl, sym, ap, subst}
use Rattle.pssm_semantics.specs.declared.entry.Rule.TheVariants.{A1}
use Rattle.pssm_lines.specs.Grammar.{IsLine}
use Rattle.pssm_lines.specs.Parts.{Shows}
use Rattle.pssm_journal.specs.Judged.{by_names}
use Rattle.pssm_system.specs.History.{History}
use Rattle.pssm_judge.specs.declared.run.Stop.TheVariants.{Refuse}
use Rattle.pssm_judge.specs.inner.Following.{IsTold, TakesLine, StopsAt}
use Rattle.pssm_judge.proofs.RunLaws.{keeps_within, found_writes, found_keeps, found_none, told_line, told_same, by_told}
use Rattle.pssm_judge.proofs.run.Run.take.Goals as goal

-- The line names what the setting does not have.
pub returns-in_default-clause-stops : goal.returns-in_default-clause-stops
returns-in_default-clause-stops c = λ line is_line shown.
    let within = keeps_within c.self.inside.follower.journal line (c.len-entries.result) c.self.inside.outputs c.output_count-outputs.result c.passes_limits.result
    (c.len-entries.ensures.count) c.self.invariant.1 (c.output_count-outputs.ensures line is_line shown) c.passes_limits.ensures c.if-passes_limits.false in
    let names = found_none c.setting-setting.result.now c.self.inside.follower.setting line c.in_ok-told.field-0 c.setting-setting.ensures.setting c.in_default.is (c.in_ok-told.ensures.none line is_line shown) in
    rw c.unknown.ensures (subst (λ (h : History). StopsAt h.setting h.journal line (Refuse (c.len-entries.result + 1) A1)) c.self.view_is
    (ap (λ n. n + 1) c.len-entries.ensures.count, within, by_names names refl))

-- What is known of the entry.
pub add_any-requires : goal.add_any-requires
add_any-requires c =
    let line = c.requires.0 in
    let is_line = c.requires.1 in
    let shown = c.requires.2 in
    let run = c.self.inside.follower in
    let writes = found_writes c.setting-setting.result.now run.setting line c.in_ok-told.field-0 c.in-Some.told c.setting-setting.ensures.setting c.in-Some.is (c.in_ok-told.ensures.found line is_line shown) in
    let known = found_keeps c.setting-setting.result.now run.setting c.in_ok-told.field-0 c.in-Some.told c.setting-setting.ensures.setting c.in-Some.is c.in_ok-told.ensures.keeps in (
      line,
      told_same c.args.self.now run line (c.len-entries.result + 1) c.output_count-outputs.result c.in-Some.told (sym c.self.view_is)
          (told_line run line c.in-Some.told (c.len-entries.result) c.self.inside.outputs c.output_count-outputs.result c.passes_limits.result c.len-entries.ensures.admissible writes known
          (c.len-entries.ensures.count) c.self.invariant.1 (c.output_count-outputs.ensures line is_line shown) c.passes_limits.ensures c.if-passes_limits.false),
    )

-- The run has taken the entry.
pub returns-clause-takes : goal.returns-clause-takes
returns-clause-takes c =
    by_told c.add_any.result IsLine (λ line. Shows c.args.parts line) (λ line. IsTold c.args.self.now line (c.len-entries.result + 1) c.output_count-outputs.result c.in-Some.told)
    (λ stop line. IfNone stop (TakesLine c.args.self.now c.add_any.new.self line))
    (λ line is_line shown.
    let run = c.self.inside.follower in
    let writes = found_writes c.setting-setting.result.now run.setting line c.in_ok-told.field-0 c.in-Some.told c.setting-setting.ensures.setting c.in-Some.is (c.in_ok-told.ensures.found line is_line shown) in
    let known = found_keeps c.setting-setting.result.now run.setting c.in_ok-told.field-0 c.in-Some.told c.setting-setting.ensures.setting c.in-Some.is c.in_ok-told.ensures.keeps in
    told_same c.args.self.now run line (c.len-entries.result + 1) c.output_count-outputs.result c.in-Some.told (sym c.self.view_is)
    (told_line run line c.in-Some.told (c.len-entries.result) c.self.inside.outputs c.output_count-outputs.result c.passes_limits.result c.len-entries.ensures.admissible writes known
    (c.len-entries.ensures.count) c.self.invariant.1 (c.output_count-outputs.ensures line is_line shown) c.passes_limits.ensures c.if-passes_limits.false))
    c.add_any.ensures.takes

-- The entry breaks a rule.
pub returns-clause-stops : goal.returns-clause-stops
returns-clause-stops c =
    by_told c.add_any.result IsLine (λ line. Shows c.args.parts line) (λ line. IsTold c.args.self.now line (c.len-entries.result + 1) c.output_count-outputs.result c.in-Some.told)
    (λ stop line. IfSome stop (StopsAt c.args.self.now.setting c.args.self.now.journal line))
    (λ line is_line shown.
    let run = c.self.inside.follower in
    let writes = found_writes c.setting-setting.result.now run.setting line c.in_ok-told.field-0 c.in-Some.told c.setting-setting.ensures.setting c.in-Some.is (c.in_ok-told.ensures.found line is_line shown) in
    let known = found_keeps c.setting-setting.result.now run.setting c.in_ok-told.field-0 c.in-Some.told c.setting-setting.ensures.setting c.in-Some.is c.in_ok-told.ensures.keeps in
    told_same c.args.self.now run line (c.len-entries.result + 1) c.output_count-outputs.result c.in-Some.told (sym c.self.view_is)
    (told_line run line c.in-Some.told (c.len-entries.result) c.self.inside.outputs c.output_count-outputs.result c.passes_limits.result c.len-entries.ensures.admissible writes known
    (c.len-entries.ensures.count) c.self.invariant.1 (c.output_count-outputs.ensures line is_line shown) c.passes_limits.ensures c.if-passes_limits.false))
    c.add_any.ensures.stops
