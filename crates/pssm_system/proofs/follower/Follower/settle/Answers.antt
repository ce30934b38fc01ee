-- the parts go on by the entry, or stay as they are but for room
use Rattle.std.proofs.Common.{◌≡◌, ◌++◌, ◌∷◌, [], List, ap, sym, subst, ◌∙◌}
use Rattle.std.proofs.lemmas.List.{map-append}
use Rattle.pssm_semantics.specs.declared.entry.Entry.{Entry}
use Rattle.pssm_semantics.specs.declared.setting.Outcome.{Outcome}
use Rattle.pssm_system.specs.declared.follower.Told.{Told}
use Rattle.pssm_system.specs.inner.Keeping.{KeepsRun}
use Rattle.pssm_system.specs.inner.Telling.{entries_of}
use Rattle.pssm_system.proofs.Histories.{can_come, keeps_longer, keeps_same, made_seen}
use Rattle.pssm_system.proofs.follower.Follower.settle.Goals as goal

pub settle-requires-clause-can : goal.settle-requires-clause-can
settle-requires-clause-can c =
    can_come c.args.self.now c.self.inside.setting (entries_of c.self.inside.told.items) c.self.inside.situation c.self.invariant c.self.view_is
    c.args.entry.now c.requires.follows c.requires.limits

pub invariant_of-self-in_err-settle : goal.invariant_of-self-in_err-settle
invariant_of-self-in_err-settle c =
    let unchanged = c.in_err-settle.ensures in
    keeps_same c.self.inside.setting (entries_of c.self.inside.told.items) (entries_of c.reserve.new.self.items) c.self.inside.situation c.settle.new.self
    c.self.invariant (ap (λ (l : List Told). entries_of l) c.reserve.ensures.items) unchanged.err

pub invariant_of-self-2 : goal.invariant_of-self-2
invariant_of-self-2 c =
    let goes = c.in_ok-settle.ensures in
    let reserved = c.in_ok-reserve.ensures in
    let entry_of : Told → Entry = (λ t. t.entry.value) in
    let longer : entries_of c.push_reserved.new.self.items ≡ entries_of c.self.inside.told.items ++ c.args.entry.now ∷ [] =
    ap (λ (l : List Told). entries_of l) (rw reserved.items at c.push_reserved.ensures.items)
    ∙ map-append entry_of c.self.inside.told.items _
    ∙ ap (λ (e : Entry). entries_of c.self.inside.told.items ++ e ∷ []) c.of.ensures in
    subst (λ js. KeepsRun c.self.inside.setting js c.settle.new.self) (sym longer)
    (keeps_longer c.args.self.now c.self.inside.setting (entries_of c.self.inside.told.items) c.self.inside.situation c.self.invariant c.self.view_is
    c.args.entry.now c.requires.follows c.requires.limits c.settle.new.self goes.ok)

pub settle-requires-clause-made : goal.settle-requires-clause-made
settle-requires-clause-made c =
    made_seen c.args.self.now c.self.inside.setting (entries_of c.self.inside.told.items) c.self.inside.situation c.self.invariant c.self.view_is
    c.args.entry.now c.args.worked.now c.requires.works c.as_slice-store.result.now (c.as_slice-store.ensures ∙ ap (λ (o : Outcome). o.store) c.outcome.ensures)
