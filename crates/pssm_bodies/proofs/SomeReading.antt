-- Bodies that are read one behind the other lead on, or one of them fails.
use Rattle.std.proofs.Common.{◌≡◌, ◌<◌, ◌⊎◌, inl, inr, ℕ, zero, suc, List, [], ◌∷◌, length, get_or, Some, refl, arith}
use Rattle.std.proofs.lemmas.Option.{slice_get-get_or}
use Rattle.pssm_model.specs.declared.draft_setting.Body.{Body}
use Rattle.pssm_model.specs.declared.draft_setting.FlatDraft.{FlatDraft}
use Rattle.pssm_semantics.specs.declared.tree.Act.{Act}
use Rattle.pssm_semantics.specs.declared.tree.Cond.{Cond}
use Rattle.pssm_semantics.specs.declared.setting.Names.{Names}
use Rattle.pssm_semantics.specs.declared.setting.Program.{Program}
use Rattle.pssm_acts.specs.declared.act_fault.ActFault.{ActFault}
use Rattle.pssm_acts.specs.declared.act_fault.ActFault.TheVariants.{TooLong}
use Rattle.pssm_acts.specs.ActGrammar.{SpellsAct, SpellsSteps}
use Rattle.pssm_acts.specs.Grammar.{Either, SpellsCond}
use Rattle.pssm_acts.specs.Shapes.{GuardShape, StmtsShape, StepsShape}
use Rattle.pssm_acts.specs.TextFaults.{TextFault}
use Rattle.pssm_acts.proofs.OneReading.{guard_one_reading, act_one_reading, steps_one_reading}
use Rattle.pssm_bodies.specs.declared.slot.Reading.{Reading}
use Rattle.pssm_bodies.specs.declared.slot.Reading.TheVariants as readings
use Rattle.pssm_bodies.specs.declared.slot.Slot.{Slot}
use Rattle.pssm_bodies.specs.Slots.{text_at, machine_slots, HasEachOnce, slot_of}
use Rattle.pssm_bodies.specs.Readings.{Said, behaviours, guard, Says, behaviour, guard', first_program, with_said, Leads, KeepsLimits}
use Rattle.pssm_bodies.specs.Readings.{steps as says_steps}
use Rattle.pssm_bodies.specs.Faults.{HasTextFault, Fails, by_text, by_limit, ReadsTo, nothing, one_more, IsBodyFault}
use Rattle.pssm_bodies.specs.inner.Through.{LeadsThrough, nowhere, along, StopsIn, here, later}
use Rattle.pssm_bodies.proofs.SlotLaws.{Has, stands_given, found_given}

-- ---- one text

-- A text, read so, says something, or it has a fault.
pub some_said : (names : Names) (marks : List (List ℕ)) (text : List ℕ) (reading : Reading)
    → ((said : Said) (noted : List (List ℕ)) → Says names marks text reading said noted → ⊥)
    → ((fault : ActFault) → HasTextFault names reading text fault → ⊥) → ⊥
some_said names marks text readings.Behaviour says fails = go (act_one_reading names marks text).some where
  go : ((read : Act × List (List ℕ)) × SpellsAct names marks text read.0 read.1) ⊎ ((fault : ActFault) × TextFault StmtsShape names text fault) → ⊥
  go (inl read) = says (behaviours (read.0.0 ∷ [])) read.0.1 (behaviour read.1)
  go (inr fault) = fails fault.0 fault.1
some_said names marks text readings.Steps says fails = go (steps_one_reading names marks text).some where
  go : ((read : List Act × List (List ℕ)) × SpellsSteps names marks text read.0 read.1) ⊎ ((fault : ActFault) × TextFault StepsShape names text fault) → ⊥
  go (inl read) = says (behaviours read.0.0) read.0.1 (says_steps read.1)
  go (inr fault) = fails fault.0 fault.1
some_said names marks text readings.Guard says fails = go (guard_one_reading names text).some where
  go : ((cond : Cond) × SpellsCond names text cond) ⊎ ((fault : ActFault) × TextFault (GuardShape Either) names text fault) → ⊥
  go (inl read) = says (guard read.0) marks (guard' read.1)
  go (inr fault) = fails fault.0 fault.1

-- It leads on from a program and keeps the limits, or it fails there.
pub some_lead : (names : Names) (text : List ℕ) (reading : Reading) (before : Program)
    → ((behind : Program) → Leads names text reading before behind → KeepsLimits behind → ⊥)
    → ((fault : ActFault) → Fails names text reading before fault → ⊥) → ⊥
some_lead names text reading before leads fails = some_said names before.marks text reading
    (λ said noted says.
    let lead : Leads names text reading before (with_said before said noted) = record { said = said; noted = noted; says = says; leads = refl } in
    fails (TooLong 0) (by_limit (with_said before said noted) lead (λ keeps. leads (with_said before said noted) lead keeps)))
    (λ fault is. fails fault (by_text is))

-- ---- slots one behind the other

-- The bodies in the slots lead on from a program and keep the limits, or one of them stops the reading.
pub some_through : (names : Names) (bodies : List Body) (slots : List Slot) (before : Program) → KeepsLimits before
    → ((behind : Program) → LeadsThrough names bodies slots before behind → KeepsLimits behind → ⊥)
    → ((fault : ActFault) → StopsIn names bodies slots before fault → ⊥) → ⊥
some_through names bodies [] before keeps through stops = through before nowhere keeps
some_through names bodies (place ∷ slots) before keeps through stops =
    some_lead names (text_at bodies place.number) place.reading before
    (λ next leads kept. some_through names bodies slots next kept
    (λ behind more limits. through behind (along next leads more) limits)
    (λ fault is. stops fault (later next leads is)))
    (λ fault is. stops fault (here is))

-- ---- the bodies in the order of the file

-- The bodies up to this number have no fault, or there is a first that has one.
pub some_read : (names : Names) (flat : FlatDraft) → HasEachOnce flat → (number : ℕ) → number < length flat.bodies
    → ((behind : Program) → ReadsTo names flat number behind → ⊥)
    → ((failed : ℕ) (fault : ActFault) → IsBodyFault names flat failed fault → ⊥) → ⊥
some_read names flat once zero within reads fails = reads first_program nothing
some_read names flat once (suc number) within reads fails =
    some_read names flat once number (omega (arith, within)) (λ before read. next before read) fails where
      found : (s : Slot) × (slot_of flat.machine (suc number) ≡ Some s) × (s.number ≡ suc number) × Has (machine_slots flat.machine) s
      found = found_given (machine_slots flat.machine) (suc number) (stands_given flat once (suc number) (omega arith) within)

      next : (before : Program) → ReadsTo names flat number before → ⊥
      next before read = some_lead names (text_at flat.bodies (suc number)) found.0.reading before
          (λ behind leads keeps. reads behind (one_more read (record { place = found.0; stands = found.1; leads = leads }) keeps))
          (λ fault is. fails (suc number) fault (record {
            earlier = number;
            next = refl;
            body = get_or flat.bodies (suc number) once.empty;
            is = slice_get-get_or flat.bodies (suc number) once.empty within;
            before = before;
            reads = read;
            fails = record { place = found.0; stands = found.1; fails = is };
          }))
