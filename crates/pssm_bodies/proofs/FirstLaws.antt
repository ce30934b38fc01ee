-- The bodies of a flat draft, read in the order of the file: each stands in a slot, and the first that fails is the first with a fault.
use Rattle.std.proofs.Common.{◌≡◌, ◌≤◌, ◌<◌, ◌+◌, ℕ, List, [], length, get_or, Option, Some, None, refl, sym, ap, ◌∙◌, subst, arith, slice_get}
use Rattle.std.specs.Option.{option_map_or}
use Rattle.std.proofs.lemmas.Option.{slice_get_read}
use Rattle.pssm_model.specs.declared.draft_setting.Body.{Body}
use Rattle.pssm_model.specs.declared.draft_setting.FlatDraft.{FlatDraft}
use Rattle.pssm_semantics.specs.declared.setting.Names.{Names}
use Rattle.pssm_acts.specs.declared.act_fault.ActFault.{ActFault}
use Rattle.pssm_acts.specs.declared.act_fault.ActFault.TheVariants.{Syntax, UnknownName, WideNumber, Arity, TooLong, NoMemory}
use Rattle.pssm_acts.specs.Answers.{Faults}
use Rattle.pssm_bodies.specs.declared.slot.Slot.{Slot}
use Rattle.pssm_bodies.specs.Slots.{machine_slots, text_at, HasEachOnce, slot_of}
use Rattle.pssm_bodies.specs.Faults.{Fails, IsBodyFault, IsDueFault}
use Rattle.pssm_bodies.specs.inner.Counts.{CountsOn, FailsOn, IsTable, fault_of}
use Rattle.pssm_bodies.proofs.ThroughLaws.{faults_so}
use Rattle.pssm_bodies.proofs.SlotLaws.{stands_given, found_given}
use Rattle.pssm_bodies.proofs.CountLaws.{IsReadTo, further}

-- ---- the fault that is told

pub due : (names : Names) (flat : FlatDraft) (number : ℕ) (fault : ActFault) → Faults (IsBodyFault names flat number) fault
    → IsDueFault names flat (fault_of number fault)
due names flat number NoMemory h = tt
due names flat number (Syntax at) h = h
due names flat number (UnknownName at) h = h
due names flat number (WideNumber at) h = h
due names flat number (Arity at) h = h
due names flat number (TooLong at) h = h

-- ---- one body

module _ (names : Names) (flat : FlatDraft) (once : HasEachOnce flat) (table : List (Option Slot)) (width : length table ≡ length flat.bodies)
    (is : IsTable (machine_slots flat.machine) table) where
  within_table : (number : ℕ) → number < length flat.bodies → number < length table
  within_table number within = omega (arith, within, width)

  -- Every body has its slot in the table.
  pub none_missing : (number : ℕ) → 1 ≤ number → number < length flat.bodies → ((s : Slot) → get_or table number None ≡ Some s → ⊥) → ⊥
  none_missing number some within missing =
      let found = found_given (machine_slots flat.machine) number (stands_given flat once number (omega (arith, some)) within) in
      missing found.0 (is number (within_table number within) ∙ found.1)

  module _ (bodies : List Body) (all : bodies ≡ flat.bodies) (number : ℕ) (inside : number < length bodies) (place : Slot)
      (at : get_or table number None ≡ Some place) (body : Body) (there : body ≡ get_or bodies number body)
      (text : List ℕ) (reads : text ≡ (get_or bodies number body).text) where
    stands : slot_of flat.machine number ≡ Some place
    stands = sym (is number (within_table number (omega (arith, inside, ap (λ (xs : List Body). length xs) all)))) ∙ at

    body_is : slice_get flat.bodies number ≡ Some body
    body_is = subst (λ (xs : List Body). slice_get xs number ≡ Some body) all (slice_get_read bodies (length bodies) number body refl inside there)

    text_is : text ≡ text_at flat.bodies number
    text_is = reads ∙ ap (λ (b : Body). b.text) (sym there) ∙ ap (λ (o : Option Body). option_map_or (λ (b : Body). b.text) o []) (sym body_is)

    pub read_on : (count more : ℕ) (marks noted : List (List ℕ)) → IsReadTo names flat number count marks
        → CountsOn names text place.reading count marks more noted → more ≤ 32768 → length noted ≤ 32768
        → IsReadTo names flat (number + 1) more noted
    read_on count more marks noted before counts few named =
        further names flat number count more marks noted place before stands
        (subst (λ t. CountsOn names t place.reading count marks more noted) text_is counts) few named

    fails_on : (count : ℕ) (marks : List (List ℕ)) (fault : ActFault) → IsReadTo names flat number count marks
        → FailsOn names (text_at flat.bodies number) place.reading count marks fault → Faults (IsBodyFault names flat number) fault
    fails_on count marks fault before fails = faults_so {P = Fails names (text_at flat.bodies number) place.reading before.program}
        {Q = IsBodyFault names flat number}
        (λ f why. record {
          earlier = before.last;
          next = before.next;
          body = body;
          is = body_is;
          before = before.program;
          reads = before.read;
          fails = record { place = place; stands = stands; fails = why };
        })
        fault (fails before.program before.counts)

    -- One that fails behind those that have been read has the fault that is due.
    pub first_fault : (count : ℕ) (marks : List (List ℕ)) (fault : ActFault) → IsReadTo names flat number count marks
        → FailsOn names text place.reading count marks fault → IsDueFault names flat (fault_of number fault)
    first_fault count marks fault before fails =
        due names flat number fault (fails_on count marks fault before (subst (λ t. FailsOn names t place.reading count marks fault) text_is fails))
