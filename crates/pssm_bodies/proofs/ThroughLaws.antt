-- What leads through slots, and where one of them stops the reading.
use Rattle.std.proofs.Common.{◌≡◌, ◌<◌, ◌+◌, ℕ, List, [], ◌∷◌, ◌++◌, length, map, take, drop, get_or, Result, Ok, Err, refl, sym, subst}
use Rattle.std.specs.Prelude.{IfErr, IsErrAnd}
use Rattle.std.specs.List.{fold, flat_map}
use Rattle.pssm_model.specs.declared.ids.ActId.{ActId}
use Rattle.pssm_model.specs.declared.elements.Vertex.{Vertex}
use Rattle.pssm_model.specs.declared.elements.Transition.{Transition}
use Rattle.pssm_model.specs.declared.elements.Guard.{Guard}
use Rattle.pssm_model.specs.declared.draft_setting.Body.{Body}
use Rattle.pssm_semantics.specs.declared.tree.Act.{Act}
use Rattle.pssm_semantics.specs.declared.setting.Names.{Names}
use Rattle.pssm_semantics.specs.declared.setting.Program.{Program}
use Rattle.pssm_acts.specs.declared.act_fault.ActFault.{ActFault}
use Rattle.pssm_acts.specs.declared.act_fault.ActFault.TheVariants.{Syntax, UnknownName, WideNumber, Arity, TooLong, NoMemory}
use Rattle.pssm_acts.specs.Answers.{Faults}
use Rattle.pssm_bodies.specs.declared.slot.Reading.TheVariants as readings
use Rattle.pssm_bodies.specs.declared.slot.Slot.{Slot}
use Rattle.pssm_bodies.specs.Slots.{slot, text_at, vertex_slots, guard_slots, transition_slots}
use Rattle.pssm_bodies.specs.Readings.{behaviours, guard, behaviour, guard', with_act, with_marks, number_of, Leads}
use Rattle.pssm_bodies.specs.Readings.{steps as says_steps}
use Rattle.pssm_bodies.specs.Programs.{NumbersAct, AreNumbered, NumbersSteps, without, NumbersGuard, always, otherwise, when, NumbersVertex}
use Rattle.pssm_bodies.specs.Programs.{NumbersTransition, AllNumbered}
use Rattle.pssm_bodies.specs.Programs.{steps as numbers_steps}
use Rattle.pssm_bodies.specs.inner.Through.{LeadsThrough, nowhere, along, StopsIn, here, later}
use Rattle.std.proofs.lemmas.List.{append-nil, append_assoc}
use Rattle.pssm_bodies.proofs.ListLaws.{flat_cut}

-- ---- faults

-- What is known of every fault that is due is known of the one that was found.
pub faults_so : {P Q : ActFault → Type 0} → ((f : ActFault) → P f → Q f) → (fault : ActFault) → Faults P fault → Faults Q fault
faults_so so NoMemory h = tt
faults_so so (Syntax at) h = so (Syntax at) h
faults_so so (UnknownName at) h = so (UnknownName at) h
faults_so so (WideNumber at) h = so (WideNumber at) h
faults_so so (Arity at) h = so (Arity at) h
faults_so so (TooLong at) h = so (TooLong at) h

-- A fault that is handed on is the one that was found.
pub passed_on : {A : Type 0} (P : ActFault → Type 0) (fault : ActFault) (r : Result A ActFault) → IsErrAnd r (λ f. f ≡ fault) → P fault → IfErr r P
passed_on P fault (Ok x) is h = tt
passed_on P fault (Err f) is h = subst P (sym is) h

module _ (names : Names) (bodies : List Body) where
  -- ---- one behind the other

  pub through_append : {xs ys : List Slot} {p q r : Program} → LeadsThrough names bodies xs p q → LeadsThrough names bodies ys q r
      → LeadsThrough names bodies (xs ++ ys) p r
  through_append nowhere second = second
  through_append (along next one more) second = along next one (through_append more second)

  pub stops_behind : {xs ys : List Slot} {p q : Program} {f : ActFault} → LeadsThrough names bodies xs p q → StopsIn names bodies ys q f
      → StopsIn names bodies (xs ++ ys) p f
  stops_behind nowhere stops = stops
  stops_behind (along next one more) stops = later next one (stops_behind more stops)

  pub stops_before : {xs : List Slot} {p : Program} {f : ActFault} (ys : List Slot) → StopsIn names bodies xs p f → StopsIn names bodies (xs ++ ys) p f
  stops_before ys (here fails) = here fails
  stops_before ys (later next one stops) = later next one (stops_before ys stops)

  -- ---- what has numbers leads on

  pub act_leads : (p : Program) (from to : ActId) (q : Program) → NumbersAct names bodies p from to q
      → Leads names (text_at bodies from.0) readings.Behaviour p q
  act_leads p from to q n = record { said = behaviours (n.act ∷ []); noted = n.noted; says = behaviour n.spelled; leads = n.leads }

  pub are_behind : (p : Program) (acts : List Act) (to : List ActId) (q : Program) → AreNumbered p acts to q → q ≡ fold with_act p acts
  are_behind p [] [] q e = sym e
  are_behind p (act ∷ acts) (to ∷ more) q n = are_behind (with_act p act) acts more q n.1
  are_behind p [] (to ∷ more) q n = absurd n
  are_behind p (act ∷ acts) [] q n = absurd n

  pub steps_lead : (p : Program) (from to : List ActId) (q : Program) → NumbersSteps names bodies p from to q
      → LeadsThrough names bodies (map (λ (a : ActId). slot readings.Steps a.0) from) p q
  steps_lead p from to q without = nowhere
  steps_lead p from to q (numbers_steps acts noted spelled numbered) =
      along q (record { said = behaviours acts; noted = noted; says = says_steps spelled; leads = are_behind (with_marks p noted) acts to q numbered }) nowhere

  pub guard_leads : (p : Program) (from to : Guard) (q : Program) → NumbersGuard names bodies p from to q → LeadsThrough names bodies (guard_slots from) p q
  guard_leads p from to q always = nowhere
  guard_leads p from to q otherwise = nowhere
  guard_leads p from to q (when cond spelled number leads) =
      along q (record { said = guard cond; noted = p.marks; says = guard' spelled; leads = leads }) nowhere

  pub vertex_leads : (p : Program) (from to : Vertex) (q : Program) → NumbersVertex names bodies p from to q → LeadsThrough names bodies (vertex_slots from) p q
  vertex_leads p from to q n =
      along n.entered (act_leads p from.entry to.entry n.entered n.entry)
      (along n.left (act_leads n.entered from.exit to.exit n.left n.exit) (steps_lead n.left from.steps to.steps q n.doing))

  pub transition_leads : (p : Program) (from to : Transition) (q : Program) → NumbersTransition names bodies p from to q
      → LeadsThrough names bodies (transition_slots from) p q
  transition_leads p from to q n = through_append (guard_leads p from.guard to.guard n.guarded n.guard)
      (along q (act_leads n.guarded from.effect to.effect q n.effect) nowhere)

  -- ---- elements

  pub all_lead : {E : Type 0} (Step : Program → E → E → Program → Type 0) (slots : E → List Slot)
      → ((p : Program) (from to : E) (q : Program) → Step p from to q → LeadsThrough names bodies (slots from) p q)
      → (p : Program) (xs ys : List E) (q : Program) → AllNumbered Step p xs ys q → LeadsThrough names bodies (flat_map slots xs) p q
  all_lead Step slots each p [] [] q e = subst (λ r. LeadsThrough names bodies [] p r) e nowhere
  all_lead Step slots each p (x ∷ xs) (y ∷ ys) q n = through_append (each p x y n.0 n.1) (all_lead Step slots each n.0 xs ys q n.2)
  all_lead Step slots each p [] (y ∷ ys) q n = absurd n
  all_lead Step slots each p (x ∷ xs) [] q n = absurd n

  -- One of all elements stops the reading, where those before it lead on to it.
  pub stops_at : {E : Type 0} (slots : E → List Slot) (xs : List E) (i : ℕ) (x : E) (p q : Program) → i < length xs → x ≡ get_or xs i x
      → LeadsThrough names bodies (flat_map slots (take i xs)) p q
      → (fault : ActFault) → Faults (StopsIn names bodies (slots x) q) fault → Faults (StopsIn names bodies (flat_map slots xs) p) fault
  stops_at slots xs i x p q lt is leads =
      faults_so (λ f stops. subst (λ all. StopsIn names bodies all p f) (sym (flat_cut slots xs i x lt is))
      (stops_behind leads (stops_before (flat_map slots (drop (i + 1) xs)) stops)))

-- Behind numbered elements one more has its numbers.
pub one_more : {E : Type 0} (Step : Program → E → E → Program → Type 0) (p : Program) (xs ys : List E) (q : Program)
    → AllNumbered Step p xs ys q → (x y : E) (r : Program) → Step q x y r
    → AllNumbered Step p (xs ++ x ∷ []) (ys ++ y ∷ []) r
one_more Step p [] [] q e x y r step = (r, subst (λ b. Step b x y r) (sym e) step, refl)
one_more Step p (x' ∷ xs) (y' ∷ ys) q n x y r step = (n.0, n.1, one_more Step n.0 xs ys q n.2 x y r step)
one_more Step p [] (y' ∷ ys) q n x y r step = absurd n
one_more Step p (x' ∷ xs) [] q n x y r step = absurd n

-- ---- behaviours one after another

-- The behaviours have these numbers, whatever numbers those that are left have.
pub record IsNumberedTo (p : Program) (acts : List Act) (numbers : List ActId) (q : Program) (left : List Act) : Type 0 where
  pub go_on : (more : List ActId) (r : Program) → AreNumbered q left more r → AreNumbered p acts (numbers ++ more) r

pub none_numbered : (p : Program) (acts : List Act) → IsNumberedTo p acts [] p acts
none_numbered p acts = record { go_on = λ more r h. h }

pub one_numbered : (p : Program) (acts : List Act) (numbers : List ActId) (q : Program) (act : Act) (left : List Act) (number : ActId) (next : Program)
    → IsNumberedTo p acts numbers q (act ∷ left)
    → number ≡ number_of q act → next ≡ with_act q act → IsNumberedTo p acts (numbers ++ number ∷ []) next left
one_numbered p acts numbers q act left number next h is leads = record {
  go_on = λ more r rest.
      subst (λ (xs : List ActId). AreNumbered p acts xs r) (sym (append_assoc numbers (number ∷ []) more))
      (h.go_on (number ∷ more) r (is, subst (λ (b : Program). AreNumbered b left more r) leads rest));
}

pub all_numbered : (p : Program) (acts : List Act) (numbers : List ActId) (q : Program) → IsNumberedTo p acts numbers q [] → AreNumbered p acts numbers q
all_numbered p acts numbers q h = subst (λ (xs : List ActId). AreNumbered p acts xs q) (append-nil numbers) (h.go_on [] q refl)
