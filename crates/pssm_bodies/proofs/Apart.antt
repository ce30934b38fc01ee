-- A flat draft that has a program has no body with a fault.
use Rattle.std.proofs.Common.{◌≡◌, ◌≤◌, ◌<◌, ◌+◌, ◌-◌, ◌==◌, ◌⊎◌, inl, inr, ℕ, suc, Bool, true, false, cond, List, [], ◌∷◌, length, Some, refl, sym, ap, ◌∙◌, subst, arith, sum_by, find}
use Rattle.std.proofs.lemmas.Bool.{eqb-true}
use Rattle.std.proofs.lemmas.Option.{slice_get_within}
use Rattle.std.proofs.lemmas.List.Sums.{sum_by-cons}
use Rattle.pssm_model.specs.declared.elements.DraftMachine.{DraftMachine}
use Rattle.pssm_model.specs.declared.draft_setting.FlatDraft.{FlatDraft}
use Rattle.pssm_semantics.specs.declared.setting.Names.{Names}
use Rattle.pssm_semantics.specs.declared.setting.Program.{Program}
use Rattle.pssm_acts.specs.declared.act_fault.ActFault.{ActFault}
use Rattle.pssm_bodies.specs.declared.slot.Reading.{Reading}
use Rattle.pssm_bodies.specs.declared.slot.Slot.{Slot}
use Rattle.pssm_bodies.specs.Slots.{text_at, machine_slots, vertex_slots, transition_slots, HasEachOnce}
use Rattle.pssm_bodies.specs.Readings.{Said, Says, first_program, Leads, KeepsLimits}
use Rattle.pssm_bodies.specs.Faults.{Fails, by_text, by_limit, LeadsOn, ReadsTo, nothing, one_more, IsBodyFault}
use Rattle.pssm_bodies.specs.Programs.{NumbersVertex, NumbersTransition, IsProgrammed}
use Rattle.pssm_bodies.specs.inner.Through.{LeadsThrough, nowhere, along}
use Rattle.pssm_bodies.proofs.ThroughLaws.{through_append, all_lead, vertex_leads, transition_leads}
use Rattle.pssm_bodies.proofs.SlotLaws.{Has}
use Rattle.pssm_bodies.proofs.CountLaws.{said_acts, said_marks}
use Rattle.pssm_bodies.proofs.Again.{SaysAgain, says_again, says_stay}
use Rattle.pssm_bodies.proofs.Distinct.{Distinct, no_longer, says_distinct}
use Rattle.pssm_bodies.proofs.OneSaid.{one_said, never_both}
use Rattle.pssm_bodies.proofs.Weights.{body_weight, read_acts, slot_said, all_said, range_grows}

-- The slot that is found is one of them, and has the number.
pub found_has : (slots : List Slot) (n : ℕ) (s : Slot) → find (λ (x : Slot). x.number == n) slots ≡ Some s → Has slots s × (s.number ≡ n)
found_has [] n s e = absurd cc
found_has (x ∷ slots) n s e = go (x.number == n) refl e (λ f. found_has slots n s f) where
  go : (t : Bool) → (x.number == n) ≡ t → cond t (Some x) (find (λ (y : Slot). y.number == n) slots) ≡ Some s → (find (λ (y : Slot). y.number == n) slots ≡ Some s → Has slots s × (s.number ≡ n)) → Has (x ∷ slots) s × (s.number ≡ n)
  go true is e others = let same : x ≡ s = cc in (inl same, sym (ap (λ (y : Slot). y.number) same) ∙ eqb-true x.number n is)
  go false is e others = let r = others e in (inr r.0, r.1)

-- What a program leads through, in the order of the flat text.
pub programmed_leads : (names : Names) (flat : FlatDraft) (m : DraftMachine) (p : Program) → IsProgrammed names flat m p → LeadsThrough names flat.bodies (machine_slots flat.machine) first_program p
programmed_leads names flat m p is =
    through_append names flat.bodies (all_lead names flat.bodies (NumbersVertex names flat.bodies) vertex_slots (vertex_leads names flat.bodies) first_program flat.machine.vertices m.vertices is.middle is.vertices)
    (all_lead names flat.bodies (NumbersTransition names flat.bodies) transition_slots (transition_leads names flat.bodies) is.middle flat.machine.transitions m.transitions p is.transitions)

module _ (names : Names) (flat : FlatDraft) (once : HasEachOnce flat) where
  lead_marks : (text : List ℕ) (reading : Reading) (p q : Program) (l : Leads names text reading p q) → q.marks ≡ l.noted
  lead_marks text reading p q l = ap (λ (r : Program). r.marks) l.leads ∙ said_marks p l.said l.noted

  lead_stays : (text : List ℕ) (reading : Reading) (p q : Program) → Leads names text reading p q → (m : List ℕ) → Has p.marks m → Has q.marks m
  lead_stays text reading p q l m h = subst (λ (xs : List (List ℕ)). Has xs m) (sym (lead_marks text reading p q l)) (says_stay names p.marks text reading l.said l.noted l.says m h)

  through_stays : (slots : List Slot) (p q : Program) → LeadsThrough names flat.bodies slots p q → (m : List ℕ) → Has p.marks m → Has q.marks m
  through_stays slots p q nowhere m h = h
  through_stays slots p q (along {place} {slots = rest} next leads more) m h = through_stays rest next q more m (lead_stays (text_at flat.bodies place.number) place.reading p next leads m h)

  -- A slot says something, and its names are among those of the last program.
  record Says' (place : Slot) (q : Program) : Type 0 where
    marks : List (List ℕ)
    said : Said
    noted : List (List ℕ)
    says : Says names marks (text_at flat.bodies place.number) place.reading said noted
    stay : (m : List ℕ) → Has noted m → Has q.marks m

  through_said : (slots : List Slot) (p q : Program) → LeadsThrough names flat.bodies slots p q → (s : Slot) → Has slots s → Says' s q
  through_said slots p q nowhere s h = absurd h
  through_said slots p q (along {place} {slots = rest} next leads more) s (inl is) = subst (λ x. Says' x q) is (record {
    marks = p.marks;
    said = leads.said;
    noted = leads.noted;
    says = leads.says;
    stay = λ m h. through_stays rest next q more m (subst (λ (xs : List (List ℕ)). Has xs m) (sym (lead_marks (text_at flat.bodies place.number) place.reading p next leads)) h);
  })
  through_said slots p q (along {place} {slots = rest} next leads more) s (inr h) = through_said rest next q more s h

  through_acts : (slots : List Slot) (p q : Program) → ((s : Slot) → Has slots s → Has (machine_slots flat.machine) s) → LeadsThrough names flat.bodies slots p q
      → length q.acts ≡ length p.acts + sum_by (λ (s : Slot). body_weight names flat once s.number) slots
  through_acts slots p q inside nowhere = omega arith
  through_acts slots p q inside (along {place} {slots = rest} next leads more) =
      let acts_are = ap (λ (r : Program). length r.acts) leads.leads ∙ said_acts p leads.said leads.noted in
      omega (
        arith,
        acts_are,
        slot_said names flat once place (inside place (inl refl)) p.marks leads.said leads.noted leads.says,
        through_acts rest next q (λ s h. inside s (inr h)) more,
        sum_by-cons (λ (s : Slot). body_weight names flat once s.number) place rest,
      )

  module _ (program : Program) (through : LeadsThrough names flat.bodies (machine_slots flat.machine) first_program program) where
    -- What a body notes is among the names of the program, where those before it are.
    on_within : (number : ℕ) (p q : Program) → LeadsOn names flat number p q → ((m : List ℕ) → Has p.marks m → Has program.marks m) → (m : List ℕ) → Has q.marks m → Has program.marks m
    on_within number p q l within m h =
        let found = found_has (machine_slots flat.machine) number l.place l.stands in
        let s : Says' l.place program = through_said (machine_slots flat.machine) first_program program through l.place found.0 in
        let says = subst (λ n. Says names s.marks (text_at flat.bodies n) l.place.reading s.said s.noted) found.1 s.says in
        let again : SaysAgain names (text_at flat.bodies number) l.place.reading s.said s.noted p.marks = says_again names s.marks (text_at flat.bodies number) l.place.reading s.said s.noted says p.marks in
        let same = one_said names p.marks (text_at flat.bodies number) l.place.reading l.leads.said again.read l.leads.noted again.left l.leads.says again.says in
        let there = subst (λ (xs : List (List ℕ)). Has xs m) (lead_marks (text_at flat.bodies number) l.place.reading p q l.leads ∙ same.1) h in
        which s (again.among m there) where
          which : (s : Says' l.place program) → Has p.marks m ⊎ Has s.noted m → Has program.marks m
          which s (inl h) = within m h
          which s (inr h) = s.stay m h

    on_distinct : (number : ℕ) (p q : Program) → LeadsOn names flat number p q → Distinct p.marks → Distinct q.marks
    on_distinct number p q l apart =
        subst (λ (xs : List (List ℕ)). Distinct xs) (sym (lead_marks (text_at flat.bodies number) l.place.reading p q l.leads))
        (says_distinct names p.marks (text_at flat.bodies number) l.place.reading l.leads.said l.leads.noted l.leads.says apart)

    reads_within : (number : ℕ) (q : Program) → ReadsTo names flat number q → (m : List ℕ) → Has q.marks m → Has program.marks m
    reads_within number q nothing m h = absurd h
    reads_within number q (one_more {number = n} {before} {behind} reads leads keeps) m h = on_within (suc n) before behind leads (reads_within n before reads) m h

    reads_distinct : (number : ℕ) (q : Program) → ReadsTo names flat number q → Distinct q.marks
    reads_distinct number q nothing = tt
    reads_distinct number q (one_more {number = n} {before} {behind} reads leads keeps) = on_distinct (suc n) before behind leads (reads_distinct n before reads)

    -- A body that is read behind those before it keeps the limits.
    on_keeps : (earlier : ℕ) (p q : Program) → KeepsLimits program → suc earlier ≤ length flat.bodies - 1 → ReadsTo names flat earlier p → LeadsOn names flat (suc earlier) p q → KeepsLimits q
    on_keeps earlier p q keeps within reads leads =
        let found = found_has (machine_slots flat.machine) (suc earlier) leads.place leads.stands in
        let acts_are = ap (λ (r : Program). length r.acts) leads.leads.leads ∙ said_acts p leads.leads.said leads.leads.noted in
        let says = subst (λ n. Says names p.marks (text_at flat.bodies n) leads.place.reading leads.leads.said leads.leads.noted) (sym found.1) leads.leads.says in
        let weighs = slot_said names flat once leads.place found.0 p.marks leads.leads.said leads.leads.noted says in
        let same = ap (λ n. body_weight names flat once n) found.1 in
        record {
          acts = omega (
            arith,
            acts_are,
            weighs,
            same,
            read_acts names flat once earlier p reads,
            range_grows (body_weight names flat once) (earlier) (length flat.bodies - 1) within,
            all_said names flat once,
            through_acts (machine_slots flat.machine) first_program program (λ s h. h) through,
            keeps.acts,
          );
          marks = omega (arith, no_longer q.marks program.marks (on_distinct (suc earlier) p q leads (reads_distinct earlier p reads)) (on_within (suc earlier) p q leads (reads_within earlier p reads)), keeps.marks);
        }

    never_fails : (number : ℕ) (fault : ActFault) → KeepsLimits program → IsBodyFault names flat number fault → ⊥
    never_fails number fault keeps is = go is.fails.place.reading refl fault is.fails.fails where
      found : Has (machine_slots flat.machine) is.fails.place × (is.fails.place.number ≡ number)
      found = found_has (machine_slots flat.machine) number is.fails.place is.fails.stands

      says : (s : Says' is.fails.place program) → Says names s.marks (text_at flat.bodies number) is.fails.place.reading s.said s.noted
      says s = subst (λ n. Says names s.marks (text_at flat.bodies n) is.fails.place.reading s.said s.noted) found.1 s.says

      within : number < length flat.bodies
      within = slice_get_within flat.bodies number is.body is.is

      go : (reading : Reading) → is.fails.place.reading ≡ reading → (fault : ActFault) → Fails names (text_at flat.bodies number) is.fails.place.reading is.before fault → ⊥
      go reading e fault (by_text x) =
          let s : Says' is.fails.place program = through_said (machine_slots flat.machine) first_program program through is.fails.place found.0 in
          never_both names s.marks (text_at flat.bodies number) is.fails.place.reading s.said s.noted fault (says s) x
      go reading e fault (by_limit behind leads past) =
          past (on_keeps is.earlier is.before behind keeps (omega (arith, within, is.next)) is.reads
          (subst (λ n. LeadsOn names flat n is.before behind) is.next (record { place = is.fails.place; stands = is.fails.stands; leads = leads })))

-- A program and a fault are apart.
pub not_both : (names : Names) (flat : FlatDraft) (m : DraftMachine) (p : Program) (n : ℕ) (f : ActFault) → HasEachOnce flat → IsProgrammed names flat m p → IsBodyFault names flat n f → ⊥
not_both names flat m p n f once is fault = never_fails names flat once p (programmed_leads names flat m p is) n f is.limits fault
