-- A behaviour is put at the end of a program where it has statements.
use Rattle.std.proofs.Common.{◌≡◌, ◌≤◌, ◌<◌, ◌+◌, ◌==◌, ℕ, Bool, true, false, if◌then◌else◌, List, [], ◌∷◌, ◌++◌, length, map, Some}
use Rattle.std.proofs.Common.{None, Result, Ok, Err, refl, sym, ap, subst, arith, slice_get, slice_index_or, length-append}
use Rattle.std.specs.List.{remove}
use Rattle.std.specs.Prelude.{IfErr}
use Rattle.pssm_model.specs.declared.ids.ActId.{ActId}
use Rattle.pssm_model.specs.declared.draft_setting.Body.{Body}
use Rattle.pssm_semantics.specs.declared.tree.Act.{Act}
use Rattle.pssm_semantics.specs.declared.setting.Names.{Names}
use Rattle.pssm_semantics.specs.declared.setting.Program.{Program}
use Rattle.pssm_acts.specs.declared.act_fault.ActFault.{ActFault}
use Rattle.pssm_acts.specs.declared.act_fault.ActFault.TheVariants.{TooLong}
use Rattle.pssm_acts.specs.Answers.{Faults}
use Rattle.pssm_bodies.specs.declared.slot.Reading.{Reading}
use Rattle.pssm_bodies.specs.declared.slot.Reading.TheVariants as readings
use Rattle.pssm_bodies.specs.declared.slot.Slot.{Slot}
use Rattle.pssm_bodies.specs.Slots.{slot, text_at}
use Rattle.pssm_bodies.specs.Readings.{is_empty, with_act, Leads, KeepsLimits}
use Rattle.pssm_bodies.specs.Faults.{HasTextFault, Fails, by_text, by_limit}
use Rattle.pssm_bodies.specs.Programs.{NumbersAct, NumbersSteps}
use Rattle.pssm_bodies.specs.inner.Through.{LeadsThrough, nowhere, along, StopsIn, here, later}
use Rattle.pssm_bodies.proofs.ThroughLaws.{faults_so, act_leads, steps_lead}

-- ---- one behaviour

one_longer : (b : Bool) (p : Program) (act : Act)
    → length (if b then p else record { acts = p.acts ++ act ∷ []; guards = p.guards; marks = p.marks }).acts ≤ length p.acts + 1
one_longer true p act = omega arith
one_longer false p act = omega (arith, length-append p.acts (act ∷ []))

-- The program has one behaviour more at most.
pub act_longer : (p : Program) (act : Act) → length (with_act p act).acts ≤ length p.acts + 1
act_longer p act = one_longer (is_empty act.stmts) p act

-- ---- the first of behaviours that are left

pub some_left : {A : Type 0} (xs : List A) → (length xs == 0) ≡ false → 0 < length xs
some_left [] e = absurd cc
some_left (x ∷ xs) e = omega arith

-- All, where the first is taken out.
pub first_out : {A : Type 0} (xs : List A) (x : A) → 0 < length xs → x ≡ slice_index_or xs 0 x → xs ≡ x ∷ remove xs 0
first_out [] x some is = absurd (omega (arith, some))
first_out (y ∷ xs) x some is = ap (λ z. z ∷ xs) (sym is)

pub one_fewer : (p q : Program) (act : Act) (acts : List Act) → 0 < length acts → act ≡ slice_index_or acts 0 act → q ≡ with_act p act
    → length p.acts + length acts ≤ 65535
    → length q.acts + length (remove acts 0) ≤ 65535
one_fewer p q act acts some is leads room =
    omega (arith, room, act_longer p act, ap (λ (b : Program). length b.acts) leads, ap (λ (xs : List Act). length xs) (first_out acts act some is))

-- ---- the first of one at most

pub none_first : {A : Type 0} (xs : List A) → None ≡ slice_get xs 0 → xs ≡ []
none_first [] e = refl
none_first (x ∷ xs) e = absurd cc

pub one_first : {A : Type 0} (xs : List A) (x : A) → Some x ≡ slice_get xs 0 → length xs ≤ 1 → xs ≡ x ∷ []
one_first [] x e one = absurd cc
one_first (y ∷ []) x e one = let is : x ≡ y = cc e in ap (λ z. z ∷ []) (sym is)
one_first (y ∷ z ∷ xs) x e one = absurd (omega (arith, one))

-- ---- a do-activity

-- the slot of a do-activity, where there is one
abbrev pub step_slots : List ActId → List Slot
step_slots = map (λ (a : ActId). slot readings.Steps a.0)

-- ---- the limits

module _ (names : Names) (bodies : List Body) where
  -- A behaviour with which the limits are passed fails.
  pub act_past : (p : Program) (from to : ActId) (q : Program) → NumbersAct names bodies p from to q → (KeepsLimits q → ⊥)
      → Fails names (text_at bodies from.0) readings.Behaviour p (TooLong 0)
  act_past p from to q n past = by_limit q (act_leads names bodies p from to q n) past

  pub steps_past : (p : Program) (from : ActId) (to : List ActId) (q : Program) → NumbersSteps names bodies p (from ∷ []) to q
      → (KeepsLimits q → ⊥) → Fails names (text_at bodies from.0) readings.Steps p (TooLong 0)
  steps_past p from to q n past = go (steps_lead names bodies p (from ∷ []) to q n) past where
    go : LeadsThrough names bodies (slot readings.Steps from.0 ∷ []) p q → (KeepsLimits q → ⊥)
        → Fails names (text_at bodies from.0) readings.Steps p (TooLong 0)
    go (along next leads nowhere) past = by_limit q leads past

  pub text_fails : (p : Program) (n : ℕ) (reading : Reading) (fault : ActFault) → Faults (HasTextFault names reading (text_at bodies n)) fault
      → Faults (Fails names (text_at bodies n) reading p) fault
  text_fails p n reading fault h = faults_so {P = HasTextFault names reading (text_at bodies n)} {Q = Fails names (text_at bodies n) reading p}
      (λ f is. by_text is) fault h

  -- One slot that fails stops the reading.
  pub stops_here : (p : Program) (place : Slot) (slots : List Slot) (fault : ActFault)
      → Faults (Fails names (text_at bodies place.number) place.reading p) fault → Faults (StopsIn names bodies (place ∷ slots) p) fault
  stops_here p place slots fault h = faults_so {P = Fails names (text_at bodies place.number) place.reading p}
      {Q = StopsIn names bodies (place ∷ slots) p} (λ f is. here is) fault h

  -- So does one behind a slot that leads on.
  pub stops_later : (p next : Program) (place : Slot) (slots : List Slot) (fault : ActFault)
      → Leads names (text_at bodies place.number) place.reading p next → Faults (StopsIn names bodies slots next) fault
      → Faults (StopsIn names bodies (place ∷ slots) p) fault
  stops_later p next place slots fault leads h = faults_so {P = StopsIn names bodies slots next} {Q = StopsIn names bodies (place ∷ slots) p}
      (λ f is. later next leads is) fault h

  -- A do-activity that fails stops the reading, whatever the answer is made of.
  pub step_stops : {A : Type 0} (p : Program) (all : List ActId) (from : ActId) (r : Result A ActFault) → all ≡ from ∷ []
      → IfErr r (λ f. Faults (Fails names (text_at bodies from.0) readings.Steps p) f)
      → IfErr r (λ f. Faults (StopsIn names bodies (step_slots all) p) f)
  step_stops p all from (Ok x) is h = tt
  step_stops p all from (Err f) is h =
      subst (λ (xs : List ActId). Faults (StopsIn names bodies (step_slots xs) p) f) (sym is) (stops_here p (slot readings.Steps from.0) [] f h)
