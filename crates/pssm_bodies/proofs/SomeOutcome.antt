-- A flat draft that has each body once has a machine with a program, or a body with the first fault.
use Rattle.std.proofs.Common.{◌<◌, ◌-◌, ℕ, length, arith}
use Rattle.std.proofs.lemmas.Option.{slice_get_within}
use Rattle.pssm_model.specs.declared.elements.DraftMachine.{DraftMachine}
use Rattle.pssm_model.specs.declared.draft_setting.FlatDraft.{FlatDraft}
use Rattle.pssm_semantics.specs.declared.setting.Names.{Names}
use Rattle.pssm_semantics.specs.declared.setting.Program.{Program}
use Rattle.pssm_acts.specs.declared.act_fault.ActFault.{ActFault}
use Rattle.pssm_bodies.specs.Slots.{machine_slots, HasEachOnce}
use Rattle.pssm_bodies.specs.Readings.{first_program, KeepsLimits}
use Rattle.pssm_bodies.specs.Faults.{IsBodyFault}
use Rattle.pssm_bodies.specs.Programs.{IsProgrammed}
use Rattle.pssm_bodies.specs.inner.Through.{AreRead}
use Rattle.pssm_bodies.proofs.Bridge.{none_stops}
use Rattle.pssm_bodies.proofs.SomeReading.{some_through, some_read}
use Rattle.pssm_bodies.proofs.SomeNumbers.{programmed}

-- Nothing has been read, and the limits are kept.
first_keeps : KeepsLimits first_program
first_keeps = record { acts = omega arith; marks = omega arith }

module _ (names : Names) (flat : FlatDraft) (once : HasEachOnce flat) where
  -- Where all bodies have been read, there is a program.
  read_programs : AreRead names flat → ((machine : DraftMachine) (program : Program) → IsProgrammed names flat machine program → ⊥) → ⊥
  read_programs read good = some_through names flat.bodies (machine_slots flat.machine) first_program first_keeps
      (λ program leads keeps. let built = programmed names flat once program leads keeps in good built.0 program built.1)
      (λ fault stops. none_stops names flat once read fault stops)

  pub program_or_fault : ((machine : DraftMachine) (program : Program) → IsProgrammed names flat machine program → ⊥)
      → ((number : ℕ) (fault : ActFault) → IsBodyFault names flat number fault → ⊥) → ⊥
  program_or_fault good bad =
      let some : 0 < length flat.bodies = slice_get_within flat.bodies 0 once.empty once.first in
      let last : ℕ = length flat.bodies - 1 in
      some_read names flat once last (omega (arith, some))
      (λ behind reads. read_programs (record { last = last; all = omega (arith, some); behind = behind; read = reads }) good)
      bad
