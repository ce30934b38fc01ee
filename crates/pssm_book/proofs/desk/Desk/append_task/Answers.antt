-- the entry of the task may follow, and its work made what its behaviour makes
use Rattle.std.proofs.Common.{◌≡◌, ◌+◌, ◌++◌, [], ◌∷◌, List, length, refl, subst, ap, sym, ◌∙◌, arith}
use Rattle.pssm_semantics.specs.declared.entry.ObjectId.{ObjectId}
use Rattle.pssm_semantics.specs.declared.entry.Entry.{Entry}
use Rattle.pssm_semantics.specs.declared.entry.Out.{Out}
use Rattle.pssm_semantics.specs.declared.setting.Outcome.{Outcome}
use Rattle.pssm_semantics.specs.Admissible.{MayFollow, KeepsJournalLimits}
use Rattle.pssm_semantics.specs.Work.{outcome_from}
use Rattle.pssm_object.specs.Tasks.{entry_of}
use Rattle.pssm_system.specs.Works.{HasMade}
use Rattle.pssm_book.proofs.DeskLaws.{task_next, task_made}
use Rattle.pssm_book.proofs.CommitLaws.{task_limits, task_few, task_appended}
use Rattle.pssm_book.proofs.desk.Desk.append_task.Goals as goal

pub settle-requires-clause-follows : goal.settle-requires-clause-follows
settle-requires-clause-follows c =
    let next = task_next c.args.self.now c.requires.order c.args.task c.args.worked.now c.requires.up_to_date in
    let outs : c.in_ok-outs.outs ≡ (outcome_from c.args.worked.now).outs = c.in_ok-outs.ensures ∙ ap (λ (x : Outcome). x.outs) c.outcome.ensures in
    let form : c.entry_of-entry.result ≡ entry_of c.args.worked.now.own c.args.task (outcome_from c.args.worked.now).outs =
    c.entry_of-entry.ensures ∙ ap (λ (o : ObjectId). entry_of o c.args.task c.in_ok-outs.outs) c.own.ensures
    ∙ ap (λ (xs : List Out). entry_of c.args.worked.now.own c.args.task xs) outs in
    subst (MayFollow c.args.self.now.system.setting c.args.self.now.system.journal) (sym form) next.follows

pub settle-requires-clause-limits : goal.settle-requires-clause-limits
settle-requires-clause-limits c =
    let limits = task_limits c.args.self.now c.requires.order c.requires.room c.args.task c.args.worked.now c.requires.up_to_date in
    let outs : c.in_ok-outs.outs ≡ (outcome_from c.args.worked.now).outs = c.in_ok-outs.ensures ∙ ap (λ (x : Outcome). x.outs) c.outcome.ensures in
    let form : c.entry_of-entry.result ≡ entry_of c.args.worked.now.own c.args.task (outcome_from c.args.worked.now).outs =
    c.entry_of-entry.ensures ∙ ap (λ (o : ObjectId). entry_of o c.args.task c.in_ok-outs.outs) c.own.ensures
    ∙ ap (λ (xs : List Out). entry_of c.args.worked.now.own c.args.task xs) outs in
    subst (λ (e : Entry). KeepsJournalLimits (c.args.self.now.system.journal ++ e ∷ [])) (sym form) limits

pub settle-requires-clause-works : goal.settle-requires-clause-works
settle-requires-clause-works c =
    let made = task_made c.args.self.now c.requires.order c.args.task c.args.worked.now c.requires.up_to_date in
    let outs : c.in_ok-outs.outs ≡ (outcome_from c.args.worked.now).outs = c.in_ok-outs.ensures ∙ ap (λ (x : Outcome). x.outs) c.outcome.ensures in
    let form : c.entry_of-entry.result ≡ entry_of c.args.worked.now.own c.args.task (outcome_from c.args.worked.now).outs =
    c.entry_of-entry.ensures ∙ ap (λ (o : ObjectId). entry_of o c.args.task c.in_ok-outs.outs) c.own.ensures
    ∙ ap (λ (xs : List Out). entry_of c.args.worked.now.own c.args.task xs) outs in
    subst (λ (e : Entry). HasMade c.args.self.now.system.setting c.args.self.now.system.journal e c.args.worked.now) (sym form) made

pub returns-clause-ok : goal.returns-clause-ok
returns-clause-ok c =
    let outs : c.in_ok-outs.outs ≡ (outcome_from c.args.worked.now).outs = c.in_ok-outs.ensures ∙ ap (λ (x : Outcome). x.outs) c.outcome.ensures in
    let form : c.entry_of-entry.result ≡ entry_of c.args.worked.now.own c.args.task (outcome_from c.args.worked.now).outs =
    c.entry_of-entry.ensures ∙ ap (λ (o : ObjectId). entry_of o c.args.task c.in_ok-outs.outs) c.own.ensures
    ∙ ap (λ (xs : List Out). entry_of c.args.worked.now.own c.args.task xs) outs in
    let settled = c.in_ok-settle.ensures in
    task_appended c.args.self.now c.requires.order c.requires.room c.args.task c.args.worked.now c.requires.up_to_date _ c.settle.ensures.setting
    (settled.ok ∙ ap (λ (e : Entry). c.args.self.now.system.journal ++ e ∷ []) form) refl
    (let long = ap (λ (xs : List Out). length xs) outs in
    let seen = ap (λ (xs : List Out). length xs) c.as_slice-more.ensures in
    omega (arith, long, seen)) refl refl refl
