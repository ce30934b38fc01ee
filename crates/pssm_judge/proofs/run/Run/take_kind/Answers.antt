use Rattle.std.proofs.Common.{◌+◌, IfNone, IfSome, refl, sym, ap, subst}
use Rattle.pssm_semantics.specs.declared.entry.Rule.TheVariants.{A1}
use Rattle.pssm_semantics.specs.declared.setting.Setting.{Setting}
use Rattle.pssm_lines.specs.Parts.{brief_line}
use Rattle.pssm_journal.specs.Briefs.{brief_entry}
use Rattle.pssm_journal.specs.Entries.{IsEntryOf, KeepsNames, BreaksNames}
use Rattle.pssm_journal.specs.Judged.{by_names}
use Rattle.pssm_system.specs.History.{History}
use Rattle.pssm_judge.specs.declared.run.Stop.TheVariants.{Refuse}
use Rattle.pssm_judge.specs.inner.Following.{IsTold, TakesLine, StopsAt}
use Rattle.pssm_judge.proofs.RunLaws.{keeps_within, told_line, told_same, at_told}
use Rattle.pssm_judge.proofs.run.Run.take_kind.Goals as goal

-- The line names what the setting does not have.
pub returns-in_default-clause-stops : goal.returns-in_default-clause-stops
returns-in_default-clause-stops c =
    let l = brief_line c.args.parts in
    let within = keeps_within c.self.inside.follower.journal l (c.len-before.result) c.self.inside.outputs c.brief_output_count-outputs.result c.passes_limits.result
    (c.len-before.ensures.count) c.self.invariant.1 c.brief_output_count-outputs.ensures c.passes_limits.ensures c.if-passes_limits.false in
    let names = subst (λ (x : Setting). BreaksNames x l) c.setting-setting.ensures.setting c.in_default.ensures.none in
    rw c.unknown.ensures (subst (λ (h : History). StopsAt h.setting h.journal l (Refuse (c.len-before.result + 1) A1)) c.self.view_is
    (ap (λ n. n + 1) c.len-before.ensures.count, within, by_names names refl))

-- What is known of the entry.
pub add_brief-requires : goal.add_brief-requires
add_brief-requires c =
    let l = brief_line c.args.parts in
    let e = brief_entry c.in-Some.told in
    let run = c.self.inside.follower in
    let writes = subst (λ (x : Setting). IsEntryOf x l e) c.setting-setting.ensures.setting c.in-Some.ensures.found in
    let known = subst (λ (x : Setting). KeepsNames x e) c.setting-setting.ensures.setting c.in-Some.ensures.keeps in
    let told =
    told_same c.args.self.now run l (c.len-before.result + 1) c.brief_output_count-outputs.result e (sym c.self.view_is)
    (told_line run l e (c.len-before.result) c.self.inside.outputs c.brief_output_count-outputs.result c.passes_limits.result c.len-before.ensures.admissible writes known
    (c.len-before.ensures.count) c.self.invariant.1 c.brief_output_count-outputs.ensures c.passes_limits.ensures c.if-passes_limits.false) in
    (l, told)

-- The run has taken the entry.
pub returns-clause-takes : goal.returns-clause-takes
returns-clause-takes c =
    let l = brief_line c.args.parts in
    let e = brief_entry c.in-Some.told in
    let run = c.self.inside.follower in
    let writes = subst (λ (x : Setting). IsEntryOf x l e) c.setting-setting.ensures.setting c.in-Some.ensures.found in
    let known = subst (λ (x : Setting). KeepsNames x e) c.setting-setting.ensures.setting c.in-Some.ensures.keeps in
    let told =
    told_same c.args.self.now run l (c.len-before.result + 1) c.brief_output_count-outputs.result e (sym c.self.view_is)
    (told_line run l e (c.len-before.result) c.self.inside.outputs c.brief_output_count-outputs.result c.passes_limits.result c.len-before.ensures.admissible writes known
    (c.len-before.ensures.count) c.self.invariant.1 c.brief_output_count-outputs.ensures c.passes_limits.ensures c.if-passes_limits.false) in
    at_told c.add_brief.result (λ line. IsTold c.args.self.now line (c.len-before.result + 1) c.brief_output_count-outputs.result e) (λ stop line. IfNone stop (TakesLine c.args.self.now c.add_brief.new.self line)) l told c.add_brief.ensures.takes

-- The entry breaks a rule.
pub returns-clause-stops : goal.returns-clause-stops
returns-clause-stops c =
    let l = brief_line c.args.parts in
    let e = brief_entry c.in-Some.told in
    let run = c.self.inside.follower in
    let writes = subst (λ (x : Setting). IsEntryOf x l e) c.setting-setting.ensures.setting c.in-Some.ensures.found in
    let known = subst (λ (x : Setting). KeepsNames x e) c.setting-setting.ensures.setting c.in-Some.ensures.keeps in
    let told =
    told_same c.args.self.now run l (c.len-before.result + 1) c.brief_output_count-outputs.result e (sym c.self.view_is)
    (told_line run l e (c.len-before.result) c.self.inside.outputs c.brief_output_count-outputs.result c.passes_limits.result c.len-before.ensures.admissible writes known
    (c.len-before.ensures.count) c.self.invariant.1 c.brief_output_count-outputs.ensures c.passes_limits.ensures c.if-passes_limits.false) in
    at_told c.add_brief.result (λ line. IsTold c.args.self.now line (c.len-before.result + 1) c.brief_output_count-outputs.result e) (λ stop line. IfSome stop (StopsAt c.args.self.now.setting c.args.self.now.journal line)) l told c.add_brief.ensures.stops
