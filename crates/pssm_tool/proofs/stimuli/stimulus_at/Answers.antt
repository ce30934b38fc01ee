use Rattle.std.proofs.Common.{Option, IfSome, IfNone, subst}
use Rattle.pssm_semantics.specs.declared.entry.Entry.{Entry}
use Rattle.pssm_lines.specs.declared.parts.LineParts.{LineParts}
use Rattle.pssm_journal.specs.Entries.{IsEntryOf, KeepsNames, BreaksNames}
use Rattle.pssm_tool.specs.inner.Calls.{ShowsCall}
use Rattle.pssm_tool.proofs.CallLaws.{names_posted, names_none}
use Rattle.pssm_tool.proofs.stimuli.stimulus_at.Goals as goal

-- The line of its post writes an entry of the setting.
pub returns-in-Some-2-clause-names : goal.returns-in-Some-2-clause-names
returns-in-Some-2-clause-names c = λ word is.
    let shown = subst (λ (o : Option LineParts). IfSome o (ShowsCall word)) c.in-Some.is (c.in_ok-parts.ensures.call word is) in
    let known = subst (λ (o : Option Entry). IfSome o (KeepsNames c.args.setting.now)) c.in-Some-2.is c.in_ok-entry.ensures.keeps in
    (names_posted c.args.setting.now word c.in-Some.parts c.in-Some-2.entry shown
    (λ line is_line shows. subst (λ (o : Option Entry). IfSome o (IsEntryOf c.args.setting.now line)) c.in-Some-2.is (c.in_ok-entry.ensures.found line is_line shows)) known c.posted.result c.posted.ensures).0

pub returns-in-Some-2-clause-none : goal.returns-in-Some-2-clause-none
returns-in-Some-2-clause-none c = λ word is.
    let shown = subst (λ (o : Option LineParts). IfSome o (ShowsCall word)) c.in-Some.is (c.in_ok-parts.ensures.call word is) in
    let known = subst (λ (o : Option Entry). IfSome o (KeepsNames c.args.setting.now)) c.in-Some-2.is c.in_ok-entry.ensures.keeps in
    (names_posted c.args.setting.now word c.in-Some.parts c.in-Some-2.entry shown
    (λ line is_line shows. subst (λ (o : Option Entry). IfSome o (IsEntryOf c.args.setting.now line)) c.in-Some-2.is (c.in_ok-entry.ensures.found line is_line shows)) known c.posted.result c.posted.ensures).1

-- It writes none.
pub returns-in-None-clause-none : goal.returns-in-None-clause-none
returns-in-None-clause-none c = λ word is.
    let shown = subst (λ (o : Option LineParts). IfSome o (ShowsCall word)) c.in-Some.is (c.in_ok-parts.ensures.call word is) in
    names_none c.args.setting.now word c.in-Some.parts shown
    (λ line is_line shows. subst (λ (o : Option Entry). IfNone o (BreaksNames c.args.setting.now line)) c.in-None.is (c.in_ok-entry.ensures.none line is_line shows))
