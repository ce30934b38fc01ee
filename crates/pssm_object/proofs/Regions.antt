-- No entry makes two States of an object complete.
use Rattle.std.proofs.Common.{◌≡◌, List, sym, ◌∙◌, ⊎_elim}
use Rattle.pssm_model.specs.declared.ids.VertexId.{VertexId}
use Rattle.pssm_model.specs.declared.elements.DraftMachine.{DraftMachine}
use Rattle.pssm_semantics.specs.declared.entry.ObjectId.{ObjectId}
use Rattle.pssm_semantics.specs.declared.entry.Entry.{Entry}
use Rattle.pssm_semantics.specs.declared.entry.Entry.TheVariants.{Post, Start, Take, Done, Exit, Effect, Enter, Opened, Pick, DoStep}
use Rattle.pssm_semantics.specs.Journal.{EntersAt, object_of}
use Rattle.pssm_semantics.specs.Completion.{BecomesComplete}
use Rattle.pssm_object.proofs.Configurations.{configuration-other}
use Rattle.pssm_object.proofs.Advancing.{known_object}
use Rattle.pssm_object.proofs.QueueChanges.{becomes_by, none_becomes}

-- an entry enters a State of its own object
enters_own : (e : Entry) (o : ObjectId) (s : VertexId) → EntersAt e o s → object_of e ≡ o
enters_own (Enter p v outs) o s h = h.0
enters_own (Post p g args) o s h = absurd h
enters_own (Start p) o s h = absurd h
enters_own (Take p number firing) o s h = absurd h
enters_own (Done p v firing) o s h = absurd h
enters_own (Exit p v outs) o s h = absurd h
enters_own (Effect p t outs) o s h = absurd h
enters_own (Opened p r mode how) o s h = absurd h
enters_own (Pick p c route) o s h = absurd h
enters_own (DoStep p v k outs) o s h = absurd h

-- no entry makes two States of an object complete
pub one_becomes : (m : DraftMachine) (before : List Entry) (e : Entry) (o : ObjectId) (s q : VertexId) → BecomesComplete m before e o s
    → BecomesComplete m before e o q → s ≡ q
one_becomes m before e o s q h g =
    ⊎_elim
    (λ own. let both = sym (becomes_by m before e o s own h) ∙ becomes_by m before e o q own g in cc)
    (λ other. absurd (none_becomes m before e o s (configuration-other m before o e other) (λ enters. other (enters_own e o s enters)) h))
    (known_object (object_of e) o)
