-- The line of an element, counted from the line behind its block.
use Rattle.std.proofs.Common.{◌≡◌, inl, inr, ℕ, zero, suc, ◌+◌, ◌<◌, List, [], ◌∷◌, ◌++◌, length, take, refl, sym, ap, ◌∙◌, arith}
use Rattle.std.specs.Prelude.{map, codes, sum_by}
use Rattle.std.proofs.lemmas.List.{length-append}
use Rattle.std.proofs.lemmas.List.Sums.{sum_by-cons}
use Rattle.pssm_model.specs.declared.ids.ActId.{ActId}
use Rattle.pssm_model.specs.declared.elements.Owner.{Owner}
use Rattle.pssm_model.specs.declared.elements.Vertex.{Vertex}
use Rattle.pssm_model.specs.declared.elements.Transition.{Transition}
use Rattle.pssm_model.specs.declared.elements.Guard.{Guard}
use Rattle.pssm_model.specs.declared.elements.Guard.TheVariants.{Always, Otherwise, When}
use Rattle.pssm_model.specs.declared.elements.Element.{Element}
use Rattle.pssm_model.specs.declared.elements.Element.TheVariants as elements
use Rattle.pssm_semantics.specs.declared.setting.Names.{Names}
use Rattle.pssm_semantics.specs.declared.setting.Class.{Class}
use Rattle.pssm_semantics.specs.declared.setting.Program.{Program}
use Rattle.pssm_semantics.specs.declared.setting.Setting.{Setting}
use Rattle.pssm_flat.specs.Text.{numbered, names_of, machine_lines, block_lines, var_line, region_lines, vertex_lines, transition_lines, behaviour_lines, step_line, defer_line, guard_lines, on_line}
use Rattle.pssm_flat.specs.Flat.{Leads, LeadsAct, LeadsGuard, LeadsVertex, LeadsTransition, IsNumbered, first_program}
use Rattle.pssm_flat.specs.Faults.{lines_before_class, line_of_element}
use Rattle.pssm_flat.specs.inner.Places.{number_size, act_size, vertex_size, guard_size, transition_size, machine_size, element_line}
use Rattle.pssm_flat.proofs.Programs.{GoesOnTo, same_on, on_and_on, act_on, guard_on, steps_on, vertex_on, transition_on, leads_on, some_acts, own_lines, lines_found, own_guard, guard_found}

map_length : {X Y : Type 0} (f : X → Y) (xs : List X) → length (map f xs) ≡ length xs
map_length f [] = refl
map_length f (x ∷ xs) = ap suc (map_length f xs)

regions_length : (n : ℕ) (xs : List Owner) → length (numbered region_lines n xs) ≡ length xs
regions_length n [] = refl
regions_length n (x ∷ xs) = ap suc (regions_length (suc n) xs)

-- a behaviour has one line where it has a number
size_of_next : (n m : ℕ) → n ≡ m → 0 < m → number_size n ≡ 1
size_of_next zero m e some = absurd (omega (arith, e, some))
size_of_next (suc n) m e some = refl

own_length : (word : List ℕ) (names : Names) (p : Program) (a : ActId) (q : Program) (leads : LeadsAct names p a q) → GoesOnTo first_program p → length (own_lines word names p a q leads) ≡ act_size a
own_length word names p a q (inl none) first = sym (ap number_size none.0)
own_length word names p a q (inr next) first = sym (size_of_next a.0 (length p.acts) next.number (some_acts p first))

act_length : (word : List ℕ) (names : Names) (x : Class) (p : Program) (a : ActId) (q : Program) → LeadsAct names p a q → GoesOnTo first_program p → GoesOnTo q x.program → length (behaviour_lines word names x a) ≡ act_size a
act_length word names x p a q leads first on = ap length (lines_found word names x p a q leads first on) ∙ own_length word names p a q leads first

own_guard_length : (names : Names) (p : Program) (g : Guard) (q : Program) (leads : LeadsGuard names p g q) → length (own_guard names p g q leads) ≡ guard_size g
own_guard_length names p Always q leads = refl
own_guard_length names p Otherwise q leads = refl
own_guard_length names p (When g) q leads = refl

guard_length : (names : Names) (x : Class) (p : Program) (g : Guard) (q : Program) → LeadsGuard names p g q → GoesOnTo q x.program → length (guard_lines names x g) ≡ guard_size g
guard_length names x p g q leads on = ap length (guard_found names x p g q leads on) ∙ own_guard_length names p g q leads

vertex_length : (names : Names) (x : Class) (n : ℕ) (p : Program) (v : Vertex) (q : Program) → LeadsVertex names p v q → GoesOnTo first_program p → GoesOnTo q x.program → length (vertex_lines names x n v) ≡ vertex_size v
vertex_length names x n p v q leads first on =
    let entry_on = act_on names p v.entry leads.entered leads.entry in
    let exit_on = act_on names leads.entered v.exit leads.left leads.exit in
    let steps_go = steps_on names leads.left v.steps q leads.steps in
    let left_on = on_and_on leads.left q x.program steps_go on in
    let entered_on = on_and_on leads.entered leads.left x.program exit_on left_on in
    let entry = act_length (codes "entry") names x p v.entry leads.entered leads.entry first entered_on in
    let exit = act_length (codes "exit") names x leads.entered v.exit leads.left leads.exit (on_and_on first_program p leads.entered first entry_on) left_on in
    let steps = map_length (step_line names x) v.steps in
    let defers = map_length (defer_line names.signals) v.defers in
    omega (
      arith,
      entry,
      exit,
      steps,
      defers,
      length-append (behaviour_lines (codes "entry") names x v.entry) (behaviour_lines (codes "exit") names x v.exit ++ (map (step_line names x) v.steps ++ map (defer_line names.signals) v.defers)),
      length-append (behaviour_lines (codes "exit") names x v.exit) (map (step_line names x) v.steps ++ map (defer_line names.signals) v.defers),
      length-append (map (step_line names x) v.steps) (map (defer_line names.signals) v.defers),
    )

transition_length : (names : Names) (x : Class) (n : ℕ) (p : Program) (t : Transition) (q : Program) → LeadsTransition names p t q → GoesOnTo first_program p → GoesOnTo q x.program → length (transition_lines names x n t) ≡ transition_size t
transition_length names x n p t q leads first on =
    let effect_go = act_on names leads.guarded t.effect q leads.effect in
    let guard = guard_length names x p t.guard leads.guarded leads.guard (on_and_on leads.guarded q x.program effect_go on) in
    let effect = act_length (codes "effect") names x leads.guarded t.effect q leads.effect (on_and_on first_program p leads.guarded first (guard_on names p t.guard leads.guarded leads.guard)) on in
    let triggers = map_length (on_line names.signals) t.triggers in
    omega (
      arith,
      guard,
      effect,
      triggers,
      length-append (map (on_line names.signals) t.triggers) (guard_lines names x t.guard ++ behaviour_lines (codes "effect") names x t.effect),
      length-append (guard_lines names x t.guard) (behaviour_lines (codes "effect") names x t.effect),
    )

-- the lines of the first elements
all_length : {X : Type 0} (Step : Program → X → Program → Type 0) (f : ℕ → X → List (List ℕ)) (size : X → ℕ) (x : Program) → ((p : Program) (i : X) (q : Program) → Step p i q → GoesOnTo p q)
    → ((n : ℕ) (p : Program) (i : X) (q : Program) → Step p i q → GoesOnTo first_program p → GoesOnTo q x → length (f n i) ≡ size i)
    → (n k : ℕ) (p : Program) (xs : List X) (q : Program) → Leads Step p xs q → GoesOnTo first_program p → GoesOnTo q x → length (numbered f n (take k xs)) ≡ sum_by size (take k xs)
all_length Step f size x on each n zero p [] q leads first to = refl
all_length Step f size x on each n zero p (i ∷ xs) q leads first to = refl
all_length Step f size x on each n (suc k) p [] q leads first to = refl
all_length Step f size x on each n (suc k) p (i ∷ xs) q leads first to =
    let more = leads_on Step on leads.0 xs q leads.2 in
    let here = each n p i leads.0 leads.1 first (on_and_on leads.0 q x more to) in
    let rest = all_length Step f size x on each (suc n) k leads.0 xs q leads.2 (on_and_on first_program p leads.0 first (on p i leads.0 leads.1)) to in
    let total : length (f n i) + length (numbered f (suc n) (take k xs)) ≡ size i + sum_by size (take k xs) = omega (arith, here, rest) in
    length-append (f n i) (numbered f (suc n) (take k xs)) ∙ total ∙ sym (sum_by-cons size i (take k xs))

take_all : {X : Type 0} (xs : List X) → take (length xs) xs ≡ xs
take_all [] = refl
take_all (x ∷ xs) = ap (λ t. x ∷ t) (take_all xs)

module _ (names : Names) (x : Class) (written : IsNumbered names x.machine x.program) where
  to_middle : GoesOnTo first_program written.middle
  to_middle = leads_on (LeadsVertex names) (vertex_on names) first_program x.machine.vertices written.middle written.vertices

  to_end : GoesOnTo written.middle x.program
  to_end = leads_on (LeadsTransition names) (transition_on names) written.middle x.machine.transitions x.program written.transitions

  pub vertices_length : (k : ℕ) → length (numbered (vertex_lines names x) 0 (take k x.machine.vertices)) ≡ sum_by vertex_size (take k x.machine.vertices)
  vertices_length k =
      all_length (LeadsVertex names) (vertex_lines names x) vertex_size x.program (vertex_on names) (vertex_length names x) 0 k first_program x.machine.vertices written.middle written.vertices (same_on first_program first_program refl) to_end

  pub transitions_length : (k : ℕ) → length (numbered (transition_lines names x) 0 (take k x.machine.transitions)) ≡ sum_by transition_size (take k x.machine.transitions)
  transitions_length k =
      all_length (LeadsTransition names) (transition_lines names x) transition_size x.program (transition_on names) (transition_length names x) 0 k written.middle x.machine.transitions x.program written.transitions to_middle (same_on x.program x.program refl)

  all_vertices : length (numbered (vertex_lines names x) 0 x.machine.vertices) ≡ sum_by vertex_size x.machine.vertices
  all_vertices = ap (λ vs. length (numbered (vertex_lines names x) 0 vs)) (sym (take_all x.machine.vertices)) ∙ vertices_length (length x.machine.vertices) ∙ ap (sum_by vertex_size) (take_all x.machine.vertices)

  all_transitions : length (numbered (transition_lines names x) 0 x.machine.transitions) ≡ sum_by transition_size x.machine.transitions
  all_transitions =
      ap (λ ts. length (numbered (transition_lines names x) 0 ts)) (sym (take_all x.machine.transitions)) ∙ transitions_length (length x.machine.transitions) ∙ ap (sum_by transition_size) (take_all x.machine.transitions)

  -- how many lines a block has
  pub block_length : length (block_lines names x) ≡ suc (length x.vars) + machine_size x.machine
  block_length =
      let vars = map var_line x.vars in
      let regions = numbered region_lines 0 x.machine.regions in
      let vertices = numbered (vertex_lines names x) 0 x.machine.vertices in
      let transitions = numbered (transition_lines names x) 0 x.machine.transitions in
      omega (arith, map_length var_line x.vars, regions_length 0 x.machine.regions, all_vertices, all_transitions, length-append vars (regions ++ (vertices ++ transitions)), length-append regions (vertices ++ transitions), length-append vertices transitions)

-- the line that is counted from behind is that of the element
pub element_line_is : (s : Setting) (c : ℕ) (x : Class) (behind : ℕ) → IsNumbered (names_of s x) x.machine x.program → behind ≡ suc (length (lines_before_class s c ++ machine_lines s x)) → (e : Element) → element_line behind x.machine e ≡ line_of_element s c x e
element_line_is s c x behind written at (elements.Region r) = omega (arith, at, length-append (lines_before_class s c) (machine_lines s x), block_length (names_of s x) x written)
element_line_is s c x behind written at (elements.Vertex v) =
    omega (arith, at, length-append (lines_before_class s c) (machine_lines s x), block_length (names_of s x) x written, vertices_length (names_of s x) x written v.0)
element_line_is s c x behind written at (elements.Transition t) =
    omega (arith, at, length-append (lines_before_class s c) (machine_lines s x), block_length (names_of s x) x written, all_vertices (names_of s x) x written, transitions_length (names_of s x) x written t.0)
