-- What has been read in the order of the file can be read in the order of the flat text, and keeps the limits there.
use Rattle.std.proofs.Common.{◌≡◌, ◌≤◌, ◌<◌, ◌+◌, ◌-◌, ◌==◌, ◌⊎◌, inl, inr, ℕ, suc, Bool, true, false, List, ◌∷◌, length, Some, refl, sym, ap, ◌∙◌}
use Rattle.std.proofs.Common.{subst, arith, sum_by}
use Rattle.std.specs.List.{range_with_len}
use Rattle.std.proofs.lemmas.Bool.{eqb-true, eqb-false}
use Rattle.std.proofs.lemmas.List.Sums.{sum_by-cons}
use Rattle.pssm_model.specs.declared.draft_setting.FlatDraft.{FlatDraft}
use Rattle.pssm_semantics.specs.declared.setting.Names.{Names}
use Rattle.pssm_semantics.specs.declared.setting.Program.{Program}
use Rattle.pssm_acts.specs.declared.act_fault.ActFault.{ActFault}
use Rattle.pssm_bodies.specs.declared.slot.Slot.{Slot}
use Rattle.pssm_bodies.specs.Slots.{text_at, machine_slots, HasEachOnce, slot_of}
use Rattle.pssm_bodies.specs.Readings.{Said, Says, first_program, with_said, Leads, KeepsLimits}
use Rattle.pssm_bodies.specs.Faults.{HasTextFault, by_text, by_limit, ReadsTo, nothing, one_more}
use Rattle.pssm_bodies.specs.inner.Through.{StopsIn, here, later, StopsInside, AreRead}
use Rattle.pssm_bodies.proofs.SlotLaws.{Has, number_within}
use Rattle.pssm_bodies.proofs.CountLaws.{said_acts, said_marks}
use Rattle.pssm_bodies.proofs.Again.{SaysAgain, says_again, says_stay}
use Rattle.pssm_bodies.proofs.Distinct.{Distinct, no_longer, says_distinct}
use Rattle.pssm_bodies.proofs.OneSaid.{one_said, never_both}
use Rattle.pssm_bodies.proofs.Weights.{body_weight, read_acts, empty_said, empty_reads, slot_found, slot_said, all_said}

module _ (names : Names) (flat : FlatDraft) (once : HasEachOnce flat) where
  -- ---- what has been read

  -- The limits are kept.
  pub read_keeps : (n : ℕ) (q : Program) → ReadsTo names flat n q → KeepsLimits q
  read_keeps n q nothing = record { acts = omega arith; marks = omega arith }
  read_keeps n q (one_more reads leads keeps) = keeps

  -- The body with this number says something, and the names that it notes stand in the last program.
  record Read (k : ℕ) (q : Program) : Type 0 where
    place : Slot
    stands : slot_of flat.machine k ≡ Some place
    marks : List (List ℕ)
    said : Said
    noted : List (List ℕ)
    says : Says names marks (text_at flat.bodies k) place.reading said noted
    stay : (m : List ℕ) → Has noted m → Has q.marks m

  -- what leads on notes its names
  noted_behind : (text : List ℕ) (p q : Program) (said : Said) (noted : List (List ℕ)) → q ≡ with_said p said noted → q.marks ≡ noted
  noted_behind text p q said noted is = ap (λ (r : Program). r.marks) is ∙ said_marks p said noted

  body_read : (n : ℕ) (q : Program) → ReadsTo names flat n q → (k : ℕ) → 0 < k → k ≤ n → Read k q
  body_read n q nothing k some within = absurd (omega arith)
  body_read n q (one_more {number} {before} {behind} reads leads keeps) k some within =
      go (k == suc number) refl (λ less. body_read number before reads k some less) where
        marks_are : behind.marks ≡ leads.leads.noted
        marks_are = noted_behind (text_at flat.bodies (suc number)) before behind leads.leads.said leads.leads.noted leads.leads.leads

        go : (t : Bool) → (k == suc number) ≡ t → (k ≤ number → Read k before) → Read k behind
        go true e earlier = subst (λ j. Read j behind) (sym (eqb-true k (suc number) e)) (record {
          place = leads.place;
          stands = leads.stands;
          marks = before.marks;
          said = leads.leads.said;
          noted = leads.leads.noted;
          says = leads.leads.says;
          stay = λ m h. subst (λ (xs : List (List ℕ)). Has xs m) (sym marks_are) h;
        })
        go false e earlier =
            let less : k ≤ number = not_last (eqb-false k (suc number) e) in
            let r : Read k before = earlier less in
            record {
              place = r.place;
              stands = r.stands;
              marks = r.marks;
              said = r.said;
              noted = r.noted;
              says = r.says;
              stay = λ m h. subst (λ (xs : List (List ℕ)). Has xs m) (sym marks_are)
                  (says_stay names before.marks (text_at flat.bodies (suc number)) leads.place.reading leads.leads.said leads.leads.noted
                  leads.leads.says m (r.stay m h));
            } where
              not_last : (k ≡ suc number → ⊥) → k ≤ number
              not_last apart = omega (arith, within, apart)

  -- ---- the slots of the machine

  module _ (last : ℕ) (all : length flat.bodies ≡ suc last) (q : Program) (reads : ReadsTo names flat last q) where
    -- A slot says something, and the names that it notes stand in the last program.
    slot_read : (place : Slot) → Has (machine_slots flat.machine) place → (place.number ≡ 0 → ⊥) → (r : Read place.number q) × (r.place ≡ place)
    slot_read place stands some =
        let bounds = number_within flat once place stands some in
        let r : Read place.number q = body_read last q reads place.number bounds.0 (omega (arith, bounds.1, all)) in
        let same : Some r.place ≡ Some place = sym r.stands ∙ slot_found names flat once place stands some in
        (r, cc)

    -- What it says behind any program notes no other names.
    leads_within : (place : Slot) → Has (machine_slots flat.machine) place → (p : Program) (said : Said) (noted : List (List ℕ))
        → Says names p.marks (text_at flat.bodies place.number) place.reading said noted
        → ((m : List ℕ) → Has p.marks m → Has q.marks m) → (m : List ℕ) → Has noted m → Has q.marks m
    leads_within place stands p said noted says within m h = go (place.number == 0) refl where
      text : List ℕ
      text = text_at flat.bodies place.number

      again : (r : Read place.number q) → r.place ≡ place → SaysAgain names text place.reading r.said r.noted p.marks
      again r same = says_again names r.marks text place.reading r.said r.noted
          (subst (λ (s : Slot). Says names r.marks text s.reading r.said r.noted) same r.says) p.marks

      other : (r : Read place.number q) → (a : SaysAgain names text place.reading r.said r.noted p.marks) → Has q.marks m
      other r a =
          let same = one_said names p.marks text place.reading said a.read noted a.left says a.says in
          which (a.among m (subst (λ (xs : List (List ℕ)). Has xs m) same.1 h)) where
            which : Has p.marks m ⊎ Has r.noted m → Has q.marks m
            which (inl h) = within m h
            which (inr h) = r.stay m h

      go : (t : Bool) → (place.number == 0) ≡ t → Has q.marks m
      go true e = within m (subst (λ (xs : List (List ℕ)). Has xs m)
          (empty_said names flat once place stands (eqb-true place.number 0 e) p.marks said noted says).1 h)
      go false e =
          let r = slot_read place stands (eqb-false place.number 0 e) in
          other r.0 (again r.0 r.1)

    -- No slot has a fault.
    never_fails : (place : Slot) → Has (machine_slots flat.machine) place → (fault : ActFault)
        → HasTextFault names place.reading (text_at flat.bodies place.number) fault → ⊥
    never_fails place stands fault is = go (place.number == 0) refl where
      go : (t : Bool) → (place.number == 0) ≡ t → ⊥
      go true e = empty_reads names flat once place stands (eqb-true place.number 0 e) fault is
      go false e =
          let r = slot_read place stands (eqb-false place.number 0 e) in
          never_both names r.0.marks (text_at flat.bodies place.number) place.reading r.0.said r.0.noted fault
          (subst (λ (s : Slot). Says names r.0.marks (text_at flat.bodies place.number) s.reading r.0.said r.0.noted) r.1 r.0.says) is

    -- ---- slots one behind the other

    -- There is room behind the program for what the slots say.
    record HasRoom (slots : List Slot) (p : Program) : Type 0 where
      room : length p.acts + sum_by (λ (s : Slot). body_weight names flat once s.number) slots ≤ 32768
      apart : Distinct p.marks
      within : (m : List ℕ) → Has p.marks m → Has q.marks m

    next_room : (place : Slot) (slots : List Slot) (p next : Program) → Has (machine_slots flat.machine) place
        → Leads names (text_at flat.bodies place.number) place.reading p next → HasRoom (place ∷ slots) p
        → HasRoom slots next
    next_room place slots p next stands leads has =
        let marks_are = noted_behind (text_at flat.bodies place.number) p next leads.said leads.noted leads.leads in
        let acts_are = ap (λ (r : Program). length r.acts) leads.leads ∙ said_acts p leads.said leads.noted in
        record {
          room = omega (
            arith,
            has.room,
            acts_are,
            slot_said names flat once place stands p.marks leads.said leads.noted leads.says,
            sum_by-cons (λ (s : Slot). body_weight names flat once s.number) place slots,
          );
          apart = subst (λ (xs : List (List ℕ)). Distinct xs) (sym marks_are)
              (says_distinct names p.marks (text_at flat.bodies place.number) place.reading leads.said leads.noted leads.says has.apart);
          within = λ m h. leads_within place stands p leads.said leads.noted leads.says has.within m (subst (λ (xs : List (List ℕ)). Has xs m) marks_are h);
        }

    -- Where there is room the limits are kept.
    room_keeps : (slots : List Slot) (p : Program) → HasRoom slots p → KeepsLimits p
    room_keeps slots p has =
        let keeps = read_keeps last q reads in
        record { acts = omega (arith, has.room); marks = omega (arith, no_longer p.marks q.marks has.apart has.within, keeps.marks) }

    never_stops : (slots : List Slot) (p : Program) (fault : ActFault) → ((s : Slot) → Has slots s → Has (machine_slots flat.machine) s)
        → HasRoom slots p → StopsIn names flat.bodies slots p fault → ⊥
    never_stops slots p fault inside has (here {place} {slots = rest} (by_text is)) = never_fails place (inside place (inl refl)) fault is
    never_stops slots p fault inside has (here {place} {slots = rest} (by_limit behind leads past)) =
        past (room_keeps rest behind (next_room place rest p behind (inside place (inl refl)) leads has))
    never_stops slots p fault inside has (later {place} {slots = rest} next leads stops) =
        never_stops rest next fault (λ s h. inside s (inr h)) (next_room place rest p next (inside place (inl refl)) leads has) stops

-- The second reading meets no fault, where the first has met none.
pub none_stops : (names : Names) (flat : FlatDraft) → HasEachOnce flat → AreRead names flat → (fault : ActFault) → StopsInside names flat fault → ⊥
none_stops names flat once read fault stops =
    let keeps = read_keeps names flat once read.last read.behind read.read in
    let count : length flat.bodies - 1 ≡ read.last = omega (arith, read.all) in
    let acts = read_acts names flat once read.last read.behind read.read in
    let same = ap (λ n. sum_by (body_weight names flat once) (range_with_len 1 n)) count in
    let sums = all_said names flat once in
    never_stops names flat once read.last read.all read.behind read.read (machine_slots flat.machine) first_program fault (λ s h. h)
    (record { room = omega (arith, keeps.acts, acts, same, sums); apart = tt; within = λ m h. absurd h }) stops
