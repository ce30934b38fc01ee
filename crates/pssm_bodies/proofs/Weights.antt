-- How many behaviours with statements each body says, by its number.
use Rattle.std.proofs.Common.{◌≡◌, ◌≤◌, ◌<◌, ◌+◌, ◌-◌, ◌==◌, ◌⊎◌, inl, inr, ℕ, zero, suc, Bool, true, false, cond, List, [], ◌∷◌, length, Option, Some, None, Result, Ok, Err, refl, sym, ap, ◌∙◌, subst, arith, sum_by}
use Rattle.std.specs.Prelude.{All}
use Rattle.std.specs.List.{count_by, range_with_len}
use Rattle.std.specs.Option.{option_map_or}
use Rattle.std.proofs.lemmas.Bool.{ne_eqb, eqb-true, eqb-false, cases_order}
use Rattle.std.proofs.lemmas.List.Sums.{sum_by-cons}
use Rattle.std.proofs.lemmas.List.Sorted.{sum_by-IsPermutation}
use Rattle.pssm_model.specs.declared.draft_setting.Body.{Body}
use Rattle.pssm_model.specs.declared.draft_setting.FlatDraft.{FlatDraft}
use Rattle.pssm_semantics.specs.declared.tree.Act.{Act}
use Rattle.pssm_semantics.specs.declared.setting.Names.{Names}
use Rattle.pssm_semantics.specs.declared.setting.Program.{Program}
use Rattle.pssm_acts.specs.declared.act_fault.ActFault.{ActFault}
use Rattle.pssm_acts.specs.inner.ActReading.{act_reading, steps_reading}
use Rattle.pssm_acts.proofs.ActRead.{act_read, steps_read}
use Rattle.pssm_bodies.specs.declared.slot.Reading.{Reading}
use Rattle.pssm_bodies.specs.declared.slot.Reading.TheVariants as readings
use Rattle.pssm_bodies.specs.declared.slot.Slot.{Slot}
use Rattle.pssm_bodies.specs.Slots.{text_at, machine_slots, given_numbers, HasEachOnce, slot_of}
use Rattle.pssm_bodies.specs.Readings.{Said, behaviours, Says, behaviour, guard'}
use Rattle.pssm_bodies.specs.Readings.{steps as says_steps}
use Rattle.pssm_bodies.specs.Faults.{HasTextFault, ReadsTo, nothing, one_more}
use Rattle.pssm_bodies.specs.inner.Counts.{has_statements, said_count}
use Rattle.pssm_bodies.proofs.SlotLaws.{Has, contained_has, sum_given, at_most_once, found_alone}
use Rattle.pssm_bodies.proofs.CountLaws.{said_acts}
use Rattle.pssm_bodies.proofs.Again.{SaysAgain, says_again}
use Rattle.pssm_bodies.proofs.OneSaid.{one_said, never_both, empty_behaviour, empty_steps}

-- ---- a text

abbrev act_weight : Result (Act × List (List ℕ)) ActFault → ℕ
act_weight (Ok (act, noted)) = count_by has_statements (act ∷ [])
act_weight (Err fault) = 0

abbrev steps_weight : Result (List Act × List (List ℕ)) ActFault → ℕ
steps_weight (Ok (acts, noted)) = count_by has_statements acts
steps_weight (Err fault) = 0

-- how many behaviours with statements a text says, whatever marks were there before
abbrev pub weight : Names → Reading → List ℕ → ℕ
weight names readings.Behaviour text = act_weight (act_reading names [] text)
weight names readings.Steps text = steps_weight (steps_reading names [] text)
weight names readings.Guard text = 0

weight_first : (names : Names) (text : List ℕ) (reading : Reading) (said : Said) (noted : List (List ℕ)) → Says names [] text reading said noted → weight names reading text ≡ said_count said
weight_first names text reading said noted (behaviour {act} spells) = ap act_weight (act_read names [] text act noted spells)
weight_first names text reading said noted (says_steps {acts} spells) = ap steps_weight (steps_read names [] text acts noted spells)
weight_first names text reading said noted (guard' spells) = refl

pub weight_said : (names : Names) (marks : List (List ℕ)) (text : List ℕ) (reading : Reading) (said : Said) (noted : List (List ℕ)) → Says names marks text reading said noted
    → weight names reading text ≡ said_count said
weight_said names marks text reading said noted says =
    let again : SaysAgain names text reading said noted [] = says_again names marks text reading said noted says [] in
    weight_first names text reading again.read again.left again.says ∙ again.counted

-- ---- a range

range_more : (f : ℕ → ℕ) (a n : ℕ) → sum_by f (range_with_len a (suc n)) ≡ sum_by f (range_with_len a n) + f (a + n)
range_more f a zero = let same : f (a + 0) ≡ f a = ap f (omega arith) in omega (arith, sum_by-cons f a [], same)
range_more f a (suc n) =
    let same : f ((a + 1) + n) ≡ f (a + suc n) = ap f (omega arith) in
    omega (arith, sum_by-cons f a (range_with_len (a + 1) (suc n)), sum_by-cons f a (range_with_len (a + 1) n), range_more f (a + 1) n, same)

-- A longer range sums to no less, by what its next number adds.
pub range_grows : (f : ℕ → ℕ) (n len : ℕ) → suc n ≤ len → sum_by f (range_with_len 1 n) + f (suc n) ≤ sum_by f (range_with_len 1 len)
range_grows f n zero within = absurd (omega (arith, within))
range_grows f n (suc len) within = go (cases_order n len) (λ less. range_grows f n len less) where
  next : f (1 + len) ≡ f (suc len)
  next = ap f (omega arith)

  go : (n ≡ len) ⊎ ((n < len) ⊎ (len < n)) → (suc n ≤ len → sum_by f (range_with_len 1 n) + f (suc n) ≤ sum_by f (range_with_len 1 len)) → sum_by f (range_with_len 1 n) + f (suc n) ≤ sum_by f (range_with_len 1 (suc len))
  go (inl e) others = let same = ap (λ k. sum_by f (range_with_len 1 k) + f (suc k)) e in omega (arith, same, range_more f 1 len, next)
  go (inr (inl less)) others = omega (arith, others (omega (arith, less)), range_more f 1 len)
  go (inr (inr more)) others = absurd (omega (arith, within, more))

-- ---- a flat draft

pub all_has : {X : Type 0} (P : X → Type 0) (xs : List X) (x : X) → All P xs → Has xs x → P x
all_has P xs x all has =
    let at = contained_has xs x has in
    subst P at.2 (all at.0 x at.1)

module _ (names : Names) (flat : FlatDraft) (once : HasEachOnce flat) where
  abbrev place_weight : Option Slot → ℕ → ℕ
  place_weight None n = 0
  place_weight (Some place) n = weight names place.reading (text_at flat.bodies n)

  -- how many the body with this number says; that with number 0 is empty
  abbrev pub body_weight : ℕ → ℕ
  body_weight n = cond (n == 0) 0 (place_weight (slot_of flat.machine n) n)

  body_placed : (n : ℕ) (place : Slot) → (n ≡ 0 → ⊥) → slot_of flat.machine n ≡ Some place → body_weight n ≡ weight names place.reading (text_at flat.bodies n)
  body_placed n place some stands = ap (λ (b : Bool). cond b 0 (place_weight (slot_of flat.machine n) n)) (ne_eqb n 0 some) ∙ ap (λ (o : Option Slot). place_weight o n) stands

  -- as many behaviours as are said by the bodies that have been read
  pub read_acts : (n : ℕ) (q : Program) → ReadsTo names flat n q → length q.acts ≡ 1 + sum_by body_weight (range_with_len 1 n)
  read_acts n q nothing = omega arith
  read_acts n q (one_more {number} {before} {behind} reads leads keeps) =
      let behind_acts = ap (λ (p : Program). length p.acts) leads.leads.leads ∙ said_acts before leads.leads.said leads.leads.noted in
      let placed = body_placed (suc number) leads.place (λ zero'. absurd (omega (arith, zero'))) leads.stands in
      let said = weight_said names before.marks (text_at flat.bodies (suc number)) leads.place.reading leads.leads.said leads.leads.noted leads.leads.says in
      let same : body_weight (1 + number) ≡ body_weight (suc number) = ap body_weight (omega arith) in
      omega (arith, behind_acts, read_acts number before reads, range_more body_weight 1 number, placed, said, same)

  -- the text of the empty body
  no_text : text_at flat.bodies 0 ≡ []
  no_text = ap (λ (o : Option Body). option_map_or (λ (b : Body). b.text) o []) once.first ∙ once.no_text

  -- In the slot of the empty body nothing is said.
  pub empty_said : (place : Slot) → Has (machine_slots flat.machine) place → place.number ≡ 0 → (marks : List (List ℕ)) (said : Said) (noted : List (List ℕ))
      → Says names marks (text_at flat.bodies place.number) place.reading said noted → (said_count said ≡ 0) × (noted ≡ marks)
  empty_said place stands none marks said noted says =
      let text : text_at flat.bodies place.number ≡ [] = ap (λ n. text_at flat.bodies n) none ∙ no_text in
      go place.reading (all_has (λ (s : Slot). s.reading ≡ readings.Guard → s.number ≡ 0 → ⊥) (machine_slots flat.machine) place once.guards stands)
      (subst (λ t. Says names marks t place.reading said noted) text says) where
        go : (reading : Reading) → (reading ≡ readings.Guard → place.number ≡ 0 → ⊥) → Says names marks [] reading said noted → (said_count said ≡ 0) × (noted ≡ marks)
        go readings.Behaviour never says =
            let same = one_said names marks [] readings.Behaviour said (behaviours (record { stmts = [] } ∷ [])) noted marks says (empty_behaviour names marks) in
            (ap said_count same.0, same.1)
        go readings.Steps never says =
            let same = one_said names marks [] readings.Steps said (behaviours (record { stmts = [] } ∷ [])) noted marks says (empty_steps names marks) in
            (ap said_count same.0, same.1)
        go readings.Guard never says = absurd (never refl none)

  -- Nor has it a fault.
  pub empty_reads : (place : Slot) → Has (machine_slots flat.machine) place → place.number ≡ 0 → (fault : ActFault) → HasTextFault names place.reading (text_at flat.bodies place.number) fault → ⊥
  empty_reads place stands none fault is =
      let text : text_at flat.bodies place.number ≡ [] = ap (λ n. text_at flat.bodies n) none ∙ no_text in
      go place.reading (all_has (λ (s : Slot). s.reading ≡ readings.Guard → s.number ≡ 0 → ⊥) (machine_slots flat.machine) place once.guards stands)
      (subst (λ t. HasTextFault names place.reading t fault) text is) where
        go : (reading : Reading) → (reading ≡ readings.Guard → place.number ≡ 0 → ⊥) → HasTextFault names reading [] fault → ⊥
        go readings.Behaviour never is = never_both names [] [] readings.Behaviour (behaviours (record { stmts = [] } ∷ [])) [] fault (empty_behaviour names []) is
        go readings.Steps never is = never_both names [] [] readings.Steps (behaviours (record { stmts = [] } ∷ [])) [] fault (empty_steps names []) is
        go readings.Guard never is = absurd (never refl none)

  -- the slot in which a number stands
  pub slot_found : (place : Slot) → Has (machine_slots flat.machine) place → (place.number ≡ 0 → ⊥) → slot_of flat.machine place.number ≡ Some place
  slot_found place stands some = found_alone (machine_slots flat.machine) place stands (at_most_once flat once place.number (positive place.number some)) where
    positive : (n : ℕ) → (n ≡ 0 → ⊥) → 0 < n
    positive n some = omega (arith, some)

  -- What a slot says is as much as its body does.
  pub slot_said : (place : Slot) → Has (machine_slots flat.machine) place → (marks : List (List ℕ)) (said : Said) (noted : List (List ℕ))
      → Says names marks (text_at flat.bodies place.number) place.reading said noted → body_weight place.number ≡ said_count said
  slot_said place stands marks said noted says = go (place.number == 0) refl where
    go : (t : Bool) → (place.number == 0) ≡ t → body_weight place.number ≡ said_count said
    go true e = ap (λ (b : Bool). cond b 0 (place_weight (slot_of flat.machine place.number) place.number)) e ∙ sym (empty_said place stands (eqb-true place.number 0 e) marks said noted says).0
    go false e =
        body_placed place.number place (eqb-false place.number 0 e) (slot_found place stands (eqb-false place.number 0 e))
        ∙ weight_said names marks (text_at flat.bodies place.number) place.reading said noted says

  -- All slots of the machine say as much as all bodies in the order of the file.
  pub all_said : sum_by (λ (s : Slot). body_weight s.number) (machine_slots flat.machine) ≡ sum_by body_weight (range_with_len 1 (length flat.bodies - 1))
  all_said =
      sum_given body_weight refl (machine_slots flat.machine)
      ∙ sym (sum_by-IsPermutation body_weight (given_numbers flat.machine) (range_with_len 1 (length flat.bodies - 1)) once.others)
