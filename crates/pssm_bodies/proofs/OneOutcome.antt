-- One machine with one program, or one first fault.
use Rattle.std.proofs.Common.{◌≡◌, ◌<◌, ◌⊎◌, inl, inr, ℕ, suc, List, [], ◌∷◌, Some, refl, sym, ap, ◌∙◌, subst, arith}
use Rattle.std.proofs.lemmas.Bool.{cases_order}
use Rattle.pssm_model.specs.declared.ids.ActId.{ActId}
use Rattle.pssm_model.specs.declared.ids.SignalId.{SignalId}
use Rattle.pssm_model.specs.declared.ids.VertexId.{VertexId}
use Rattle.pssm_model.specs.declared.elements.Owner.{Owner}
use Rattle.pssm_model.specs.declared.elements.VertexKind.{VertexKind}
use Rattle.pssm_model.specs.declared.elements.TransKind.{TransKind}
use Rattle.pssm_model.specs.declared.elements.Vertex.{Vertex}
use Rattle.pssm_model.specs.declared.elements.Transition.{Transition}
use Rattle.pssm_model.specs.declared.elements.DraftMachine.{DraftMachine}
use Rattle.pssm_model.specs.declared.elements.Guard.{Guard}
use Rattle.pssm_model.specs.declared.elements.Guard.TheVariants.{When}
use Rattle.pssm_model.specs.declared.draft_setting.Body.{Body}
use Rattle.pssm_model.specs.declared.draft_setting.FlatDraft.{FlatDraft}
use Rattle.pssm_semantics.specs.declared.tree.Act.{Act}
use Rattle.pssm_semantics.specs.declared.setting.Names.{Names}
use Rattle.pssm_semantics.specs.declared.setting.Program.{Program}
use Rattle.pssm_acts.specs.declared.act_fault.ActFault.{ActFault}
use Rattle.pssm_acts.proofs.OneReading.{guard_one_reading, act_one_reading, steps_one_reading}
use Rattle.pssm_bodies.specs.declared.slot.Reading.{Reading}
use Rattle.pssm_bodies.specs.declared.slot.Slot.{Slot}
use Rattle.pssm_bodies.specs.Slots.{text_at}
use Rattle.pssm_bodies.specs.Readings.{number_of, with_act, with_marks, with_guard, first_program, Leads, KeepsLimits}
use Rattle.pssm_bodies.specs.Faults.{Fails, by_text, by_limit, LeadsOn, ReadsTo, nothing, one_more, FailsAt, IsBodyFault}
use Rattle.pssm_bodies.specs.Programs.{NumbersAct, AreNumbered, NumbersSteps, without, NumbersGuard, always, otherwise, when, NumbersVertex, NumbersTransition, AllNumbered, IsProgrammed}
use Rattle.pssm_bodies.specs.Programs.{steps as numbers_steps}
use Rattle.pssm_bodies.proofs.OneSaid.{never_both, one_fault, one_lead}

-- ---- records with the same fields

abbrev vertex_of : Owner → VertexKind → List ℕ → ActId → ActId → List ActId → List SignalId → Vertex
vertex_of owner kind label entry exit steps defers = record { owner = owner; kind = kind; label = label; entry = entry; exit = exit; steps = steps; defers = defers }

vertex_same : (a b : Vertex) → a.owner ≡ b.owner → a.kind ≡ b.kind → a.label ≡ b.label → a.entry ≡ b.entry → a.exit ≡ b.exit → a.steps ≡ b.steps → a.defers ≡ b.defers → a ≡ b
vertex_same a b owner kind label entry exit steps defers =
    ap (λ x. vertex_of x a.kind a.label a.entry a.exit a.steps a.defers) owner ∙ ap (λ x. vertex_of b.owner x a.label a.entry a.exit a.steps a.defers) kind
    ∙ ap (λ x. vertex_of b.owner b.kind x a.entry a.exit a.steps a.defers) label ∙ ap (λ x. vertex_of b.owner b.kind b.label x a.exit a.steps a.defers) entry
    ∙ ap (λ x. vertex_of b.owner b.kind b.label b.entry x a.steps a.defers) exit ∙ ap (λ x. vertex_of b.owner b.kind b.label b.entry b.exit x a.defers) steps
    ∙ ap (λ x. vertex_of b.owner b.kind b.label b.entry b.exit b.steps x) defers

abbrev transition_of : VertexId → VertexId → TransKind → List SignalId → Guard → ActId → Transition
transition_of source target kind triggers guard effect = record { source = source; target = target; kind = kind; triggers = triggers; guard = guard; effect = effect }

transition_same : (a b : Transition) → a.source ≡ b.source → a.target ≡ b.target → a.kind ≡ b.kind → a.triggers ≡ b.triggers → a.guard ≡ b.guard → a.effect ≡ b.effect → a ≡ b
transition_same a b source target kind triggers guard effect =
    ap (λ x. transition_of x a.target a.kind a.triggers a.guard a.effect) source ∙ ap (λ x. transition_of b.source x a.kind a.triggers a.guard a.effect) target
    ∙ ap (λ x. transition_of b.source b.target x a.triggers a.guard a.effect) kind ∙ ap (λ x. transition_of b.source b.target b.kind x a.guard a.effect) triggers
    ∙ ap (λ x. transition_of b.source b.target b.kind b.triggers x a.effect) guard ∙ ap (λ x. transition_of b.source b.target b.kind b.triggers b.guard x) effect

abbrev machine_of : List Owner → List Vertex → List Transition → DraftMachine
machine_of regions vertices transitions = record { regions = regions; vertices = vertices; transitions = transitions }

-- ---- one number for each

module _ (names : Names) (bodies : List Body) where
  act_one : (p : Program) (from to other : ActId) (q r : Program) → NumbersAct names bodies p from to q → NumbersAct names bodies p from other r → (to ≡ other) × (q ≡ r)
  act_one p from to other q r a b =
      let same = (act_one_reading names p.marks (text_at bodies from.0)).one_tree (a.act, a.noted) (b.act, b.noted) a.spelled b.spelled in
      (a.number ∙ ap (λ (x : Act × List (List ℕ)). number_of p x.0) same ∙ sym b.number, a.leads ∙ ap (λ (x : Act × List (List ℕ)). with_act (with_marks p x.1) x.0) same ∙ sym b.leads)

  are_one : (p : Program) (acts : List Act) (to other : List ActId) (q r : Program) → AreNumbered p acts to q → AreNumbered p acts other r → (to ≡ other) × (q ≡ r)
  are_one p [] [] [] q r a b = (refl, sym a ∙ b)
  are_one p (act ∷ acts) (x ∷ xs) (y ∷ ys) q r a b =
      let rest = are_one (with_act p act) acts xs ys q r a.1 b.1 in
      (ap (λ z. z ∷ xs) (a.0 ∙ sym b.0) ∙ ap (λ zs. y ∷ zs) rest.0, rest.1)
  are_one p [] (x ∷ xs) other q r a b = absurd a
  are_one p [] [] (y ∷ ys) q r a b = absurd b
  are_one p (act ∷ acts) [] other q r a b = absurd a
  are_one p (act ∷ acts) (x ∷ xs) [] q r a b = absurd b

  steps_one : (p : Program) (from to other : List ActId) (q r : Program) → NumbersSteps names bodies p from to q → NumbersSteps names bodies p from other r → (to ≡ other) × (q ≡ r)
  steps_one p from to other q r without without = (refl, refl)
  steps_one p from to other q r (numbers_steps {from = body} acts noted a n) (numbers_steps acts' noted' b m) =
      let same = (steps_one_reading names p.marks (text_at bodies body.0)).one_tree (acts, noted) (acts', noted') a b in
      are_one (with_marks p noted) acts to other q r n (subst (λ (x : List Act × List (List ℕ)). AreNumbered (with_marks p x.1) x.0 other r) (sym same) m)

  guard_one : (p : Program) (from to other : Guard) (q r : Program) → NumbersGuard names bodies p from to q → NumbersGuard names bodies p from other r → (to ≡ other) × (q ≡ r)
  guard_one p from to other q r always always = (refl, refl)
  guard_one p from to other q r otherwise otherwise = (refl, refl)
  guard_one p from to other q r (when {from = body} cond a n l) (when cond' b m k) =
      let same = (guard_one_reading names (text_at bodies body.0)).one_tree cond cond' a b in
      (ap When (n ∙ sym m), l ∙ ap (λ c. with_guard p c) same ∙ sym k)

  vertex_one : (p : Program) (from to other : Vertex) (q r : Program) → NumbersVertex names bodies p from to q → NumbersVertex names bodies p from other r → (to ≡ other) × (q ≡ r)
  vertex_one p from to other q r a b =
      let entry = act_one p from.entry to.entry other.entry a.entered b.entered a.entry b.entry in
      let exit = act_one a.entered from.exit to.exit other.exit a.left b.left a.exit (subst (λ e. NumbersAct names bodies e from.exit other.exit b.left) (sym entry.1) b.exit) in
      let doing = steps_one a.left from.steps to.steps other.steps q r a.doing (subst (λ e. NumbersSteps names bodies e from.steps other.steps r) (sym exit.1) b.doing) in
      (vertex_same to other (a.owner ∙ sym b.owner) (a.kind ∙ sym b.kind) (a.label ∙ sym b.label) entry.0 exit.0 doing.0 (a.defers ∙ sym b.defers), doing.1)

  transition_one : (p : Program) (from to other : Transition) (q r : Program) → NumbersTransition names bodies p from to q → NumbersTransition names bodies p from other r → (to ≡ other) × (q ≡ r)
  transition_one p from to other q r a b =
      let guard = guard_one p from.guard to.guard other.guard a.guarded b.guarded a.guard b.guard in
      let effect = act_one a.guarded from.effect to.effect other.effect q r a.effect (subst (λ e. NumbersAct names bodies e from.effect other.effect r) (sym guard.1) b.effect) in
      (transition_same to other (a.source ∙ sym b.source) (a.target ∙ sym b.target) (a.kind ∙ sym b.kind) (a.triggers ∙ sym b.triggers) guard.0 effect.0, effect.1)

all_one : {E : Type 0} (Step : Program → E → E → Program → Type 0) → ((p : Program) (from to other : E) (q r : Program) → Step p from to q → Step p from other r → (to ≡ other) × (q ≡ r))
    → (p : Program) (xs ys zs : List E) (q r : Program) → AllNumbered Step p xs ys q → AllNumbered Step p xs zs r → (ys ≡ zs) × (q ≡ r)
all_one Step one p [] [] [] q r a b = (refl, sym a ∙ b)
all_one Step one p (x ∷ xs) (y ∷ ys) (z ∷ zs) q r a b =
    let first = one p x y z a.0 b.0 a.1 b.1 in
    let rest = all_one Step one a.0 xs ys zs q r a.2 (subst (λ e. AllNumbered Step e xs zs r) (sym first.1) b.2) in
    (ap (λ w. w ∷ ys) first.0 ∙ ap (λ ws. z ∷ ws) rest.0, rest.1)
all_one Step one p [] (y ∷ ys) zs q r a b = absurd a
all_one Step one p [] [] (z ∷ zs) q r a b = absurd b
all_one Step one p (x ∷ xs) [] zs q r a b = absurd a
all_one Step one p (x ∷ xs) (y ∷ ys) [] q r a b = absurd b

-- One machine with one program.
pub one_program : (names : Names) (flat : FlatDraft) (m n : DraftMachine) (p q : Program) → IsProgrammed names flat m p → IsProgrammed names flat n q → (m ≡ n) × (p ≡ q)
one_program names flat m n p q a b =
    let vertices = all_one (NumbersVertex names flat.bodies) (vertex_one names flat.bodies) first_program flat.machine.vertices m.vertices n.vertices a.middle b.middle a.vertices b.vertices in
    let transitions = all_one (NumbersTransition names flat.bodies) (transition_one names flat.bodies) a.middle flat.machine.transitions m.transitions n.transitions p q a.transitions
    (subst (λ e. AllNumbered (NumbersTransition names flat.bodies) e flat.machine.transitions n.transitions q) (sym vertices.1) b.transitions) in (
      ap (λ x. machine_of x m.vertices m.transitions) (a.regions ∙ sym b.regions) ∙ ap (λ x. machine_of n.regions x m.transitions) vertices.0 ∙ ap (λ x. machine_of n.regions n.vertices x) transitions.0,
      transitions.1,
    )

-- ---- one first fault

module _ (names : Names) (flat : FlatDraft) where
  leads_one : (number : ℕ) (p q r : Program) → LeadsOn names flat number p q → LeadsOn names flat number p r → q ≡ r
  leads_one number p q r a b =
      let same : Some a.place ≡ Some b.place = sym a.stands ∙ b.stands in
      let place : a.place ≡ b.place = cc in
      one_lead names (text_at flat.bodies number) a.place.reading p q r a.leads (subst (λ (s : Slot). Leads names (text_at flat.bodies number) s.reading p r) (sym place) b.leads)

  reads_one : (number : ℕ) (p q : Program) → ReadsTo names flat number p → ReadsTo names flat number q → p ≡ q
  reads_one number p q nothing nothing = refl
  reads_one number p q (one_more {number = n} {before} {behind} a la ka) (one_more {before = before'} {behind = behind'} b lb kb) =
      let same = reads_one n before before' a b in
      leads_one (suc n) before behind behind' la (subst (λ e. LeadsOn names flat (suc n) e behind') (sym same) lb)

  fails_one : (number : ℕ) (p : Program) (f g : ActFault) → FailsAt names flat number p f → FailsAt names flat number p g → f ≡ g
  fails_one number p f g a b =
      let same : Some a.place ≡ Some b.place = sym a.stands ∙ b.stands in
      let place : a.place ≡ b.place = cc in
      go a.place.reading f g a.fails (subst (λ (s : Slot). Fails names (text_at flat.bodies number) s.reading p g) (sym place) b.fails) where
        go : (reading : Reading) (f g : ActFault) → Fails names (text_at flat.bodies number) reading p f → Fails names (text_at flat.bodies number) reading p g → f ≡ g
        go reading f g (by_text x) (by_text y) = one_fault names (text_at flat.bodies number) reading f g x y
        go reading f g (by_limit behind l past) (by_limit other k past') = refl
        go reading f g (by_text x) (by_limit other k past') = absurd (never_both names p.marks (text_at flat.bodies number) reading k.said k.noted f k.says x)
        go reading f g (by_limit behind l past) (by_text y) = absurd (never_both names p.marks (text_at flat.bodies number) reading l.said l.noted g l.says y)

  -- What leads on does not fail.
  leads_fails : (number : ℕ) (p q : Program) (f : ActFault) → LeadsOn names flat number p q → KeepsLimits q → FailsAt names flat number p f → ⊥
  leads_fails number p q f a keeps b =
      let same : Some b.place ≡ Some a.place = sym b.stands ∙ a.stands in
      let place : b.place ≡ a.place = cc in
      go a.place.reading f a.leads (subst (λ (s : Slot). Fails names (text_at flat.bodies number) s.reading p f) place b.fails) where
        go : (reading : Reading) (f : ActFault) → Leads names (text_at flat.bodies number) reading p q → Fails names (text_at flat.bodies number) reading p f → ⊥
        go reading f l (by_text x) = never_both names p.marks (text_at flat.bodies number) reading l.said l.noted f l.says x
        go reading f l (by_limit behind k past) = past (subst (λ r. KeepsLimits r) (one_lead names (text_at flat.bodies number) reading p q behind l k) keeps)

  -- No body that has been read is a first one with a fault.
  never_read : (number : ℕ) (q : Program) → ReadsTo names flat number q → (earlier : ℕ) (p : Program) (f : ActFault) → earlier < number → ReadsTo names flat earlier p → FailsAt names flat (suc earlier) p f → ⊥
  never_read number q nothing earlier p f less reads fails = omega (arith, less)
  never_read number q (one_more {number = n} {before} {behind} rest leads keeps) earlier p f less reads fails = go (cases_order earlier n) (λ l. never_read n before rest earlier p f l reads fails) where
    go : (earlier ≡ n) ⊎ ((earlier < n) ⊎ (n < earlier)) → (earlier < n → ⊥) → ⊥
    go (inr (inl l)) others = others l
    go (inr (inr more)) others = omega (arith, less, more)
    go (inl e) others =
        let fails' = subst (λ k. FailsAt names flat (suc k) p f) e fails in
        let before' = reads_one n p before (subst (λ k. ReadsTo names flat k p) e reads) rest in
        leads_fails (suc n) before behind f leads keeps (subst (λ b. FailsAt names flat (suc n) b f) before' fails')

  -- There is one first fault.
  pub one_body_fault : (n k : ℕ) (f g : ActFault) → IsBodyFault names flat n f → IsBodyFault names flat k g → (n ≡ k) × (f ≡ g)
  one_body_fault n k f g a b = go (cases_order a.earlier b.earlier) where
    go : (a.earlier ≡ b.earlier) ⊎ ((a.earlier < b.earlier) ⊎ (b.earlier < a.earlier)) → (n ≡ k) × (f ≡ g)
    go (inl e) =
        let number : n ≡ k = a.next ∙ ap suc e ∙ sym b.next in
        let before : a.before ≡ b.before = reads_one b.earlier a.before b.before (subst (λ x. ReadsTo names flat x a.before) e a.reads) b.reads in
        (number, fails_one k b.before f g (subst (λ x. FailsAt names flat k x f) before (subst (λ x. FailsAt names flat x a.before f) number a.fails)) b.fails)
    go (inr (inl l)) = absurd (never_read b.earlier b.before b.reads a.earlier a.before f l a.reads (subst (λ x. FailsAt names flat x a.before f) a.next a.fails))
    go (inr (inr l)) = absurd (never_read a.earlier a.before a.reads b.earlier b.before g l b.reads (subst (λ x. FailsAt names flat x b.before g) b.next b.fails))
