-- The lines of a block are read.
use Rattle.std.proofs.Common.{◌≡◌, ◌≢◌, ◌⊎◌, inl, inr, ℕ, suc, ◌+◌, ◌<◌, ◌≤◌, true, List, [], ◌∷◌, ◌++◌, length, Some, Ok, refl, sym, ap, subst, ◌∙◌, append_assoc, arith}
use Rattle.std.specs.Prelude.{map, codes}
use Rattle.std.specs.List.{AllByRecursion}
use Rattle.std.proofs.lemmas.Bool.{lt-ltb, eq-eqb}
use Rattle.std.proofs.lemmas.List.{append-nil, length-append}
use Rattle.pssm_model.specs.declared.ids.ActId.{ActId}
use Rattle.pssm_model.specs.declared.ids.SignalId.{SignalId}
use Rattle.pssm_model.specs.declared.elements.Owner.{Owner}
use Rattle.pssm_model.specs.declared.elements.Owner.TheVariants as owners
use Rattle.pssm_model.specs.declared.elements.Vertex.{Vertex}
use Rattle.pssm_model.specs.declared.elements.VertexKind.TheVariants as kinds
use Rattle.pssm_model.specs.declared.elements.Transition.{Transition}
use Rattle.pssm_model.specs.declared.elements.Guard.{Guard}
use Rattle.pssm_model.specs.declared.elements.Guard.TheVariants.{Always, Otherwise, When}
use Rattle.pssm_semantics.specs.declared.setting.VarDecl.{VarDecl}
use Rattle.pssm_semantics.specs.declared.setting.Names.{Names}
use Rattle.pssm_semantics.specs.declared.setting.Class.{Class}
use Rattle.pssm_semantics.specs.declared.setting.Program.{Program}
use Rattle.pssm_acts.specs.ActText.{act_text, cond_text}
use Rattle.pssm_flat.specs.declared.action.ActionLine.TheVariants as actions
use Rattle.pssm_flat.specs.declared.line.Line.TheVariants as lines
use Rattle.pssm_flat.specs.declared.head.Head.{Head}
use Rattle.pssm_flat.specs.declared.block.Block.{Block}
use Rattle.pssm_flat.specs.declared.outline.Outline.{Outline}
use Rattle.pssm_flat.specs.declared.outline.Outline.TheVariants as stages
use Rattle.pssm_flat.specs.Text.{numbered, var_line, region_lines, vertex_line, vertex_lines, defer_line, step_line, transition_line, transition_lines, on_line, signal_name, behaviour_lines, guard_lines}
use Rattle.pssm_flat.specs.Flat.{AllBehind, Leads, IsNewName, AreNames, IsNextSignal, IsInteger, IsRegionOwner, IsVertexOwner, IsWrittenVertex, IsWrittenTransition, LeadsAct, LeadsGuard, LeadsVertex, LeadsTransition, IsWrittenClass, first_program}
use Rattle.pssm_flat.specs.inner.Lines.{line_text}
use Rattle.pssm_flat.specs.inner.Outlines.{itself, signal_of, names_region_owner, names_vertex_owner, with_var, with_behaviour, with_empty_step, with_defer, deferring, with_trigger, triggered, with_else, with_condition, with_effect, empty_block, after_line, after_lines}
use Rattle.pssm_flat.proofs.Items.{map_push}
use Rattle.pssm_flat.proofs.Lasts.{last_of-push}
use Rattle.pssm_flat.proofs.NameLaws.{named_none, map_itself, known_name, signals_differ, with_signal_again}
use Rattle.pssm_flat.proofs.LineLaws.{IsSmallOwner}
use Rattle.pssm_flat.proofs.Programs.{GoesOnTo, same_on, on_and_on, act_on, guard_on, steps_on, vertex_on, transition_on, leads_on, some_acts, lines_found, step_found, guard_found}
use Rattle.pssm_flat.proofs.NumberLaws.{act_again, guard_again}
use Rattle.pssm_flat.proofs.Good.{var_of, names_with}
use Rattle.pssm_flat.proofs.CompleteHead.{next_line, one_then, many_then, names_next}

-- ---- the blocks on the way

module _ (h : Head) (done : List Class) (name : List ℕ) where
  abbrev at_vars : List VarDecl → Outline
  at_vars vars = stages.Open h done (record (empty_block h name) { names = names_with h vars; vars = vars })

  vars_next : (seen new : List VarDecl) → AllBehind IsNewName (map var_of seen) (map var_of new) → AllByRecursion (λ (v : VarDecl). IsInteger v.first) new → length seen + length new ≤ 64
      → after_lines (at_vars seen) (map var_line new) ≡ Some (at_vars (seen ++ new))
  unfolding with_var
  vars_next seen [] fit firsts few = ap (λ xs. Some (at_vars xs)) (sym (append-nil seen))
  vars_next seen (v ∷ new) fit firsts few =
      let here = at_vars seen in
      let there = at_vars (seen ++ v ∷ []) in
      let fresh = named_none itself (map var_of seen) v.name (subst (AllByRecursion (λ (other : List ℕ). other ≢ v.name)) (sym (map_itself (map var_of seen))) fit.0.new) in
      let pushed : Some (stages.Open h done (record (empty_block h name) { names = record (names_with h seen) { vars = map var_of seen ++ v.name ∷ [] }; vars = seen ++ v ∷ [] })) ≡ Some there =
      ap (λ ns. Some (stages.Open h done (record (empty_block h name) { names = record (names_with h seen) { vars = ns }; vars = seen ++ v ∷ [] }))) (sym (map_push var_of seen v)) in
      let next : after_line here (lines.Var v.name v.first) ≡ Ok (Some there) = rw (lt-ltb (length seen) 64 (omega arith), fresh) (ap Ok pushed) in
      one_then here there (at_vars (seen ++ v ∷ new)) (var_line v) (map var_line new) (next_line here there (lines.Var v.name v.first) (fit.0.name_is, firsts.0) next)
      (vars_next (seen ++ v ∷ []) new (names_next var_of seen new v fit.1) firsts.1 (omega (arith, length-append seen (v ∷ []))) ∙ ap (λ xs. Some (at_vars xs)) (append_assoc seen (v ∷ []) new))

-- a block with its parts
abbrev pub block_with : List ℕ → Names → List VarDecl → List Owner → List Vertex → List Transition → Program → Block
block_with name names vars regions vertices transitions program = record { name = name; names = names; vars = vars; regions = regions; vertices = vertices; transitions = transitions; program = program }

region_small : (o : Owner) → IsRegionOwner o → IsSmallOwner o × (names_region_owner o ≡ true)
region_small owners.Top is = (tt, refl)
region_small (owners.Region r) is = absurd is
region_small (owners.State v) is = (is, refl)

vertex_small : (o : Owner) → IsVertexOwner o → IsSmallOwner o × (names_vertex_owner o ≡ true)
vertex_small owners.Top is = absurd is
vertex_small (owners.Region r) is = (is, refl)
vertex_small (owners.State v) is = (is, refl)

module _ (h : Head) (done : List Class) (name : List ℕ) (vars : List VarDecl) where
  abbrev at_regions : List Owner → Outline
  at_regions regions = stages.Open h done (block_with name (names_with h vars) vars regions [] [] first_program)

  regions_next : (n : ℕ) (seen new : List Owner) → n ≡ length seen → AllByRecursion IsRegionOwner new → length seen + length new ≤ 65536 → after_lines (at_regions seen) (numbered region_lines n new) ≡ Some (at_regions (seen ++ new))
  regions_next n seen [] e all few = ap (λ xs. Some (at_regions xs)) (sym (append-nil seen))
  regions_next n seen (o ∷ new) e all few =
      let small = region_small o all.0 in
      let here = at_regions seen in
      let there = at_regions (seen ++ o ∷ []) in
      let next : after_line here (lines.Region n o) ≡ Ok (Some there) = rw (eq-eqb n (length seen) e, small.1) refl in
      one_then here there (at_regions (seen ++ o ∷ new)) (line_text (lines.Region n o)) (numbered region_lines (suc n) new) (next_line here there (lines.Region n o) (omega arith, small.0) next)
      (regions_next (suc n) (seen ++ o ∷ []) new (omega (arith, length-append seen (o ∷ []))) all.1 (omega (arith, length-append seen (o ∷ [])))
      ∙ ap (λ xs. Some (at_regions xs)) (append_assoc seen (o ∷ []) new))

-- ---- vertices

abbrev part_of : Vertex → ActId → ActId → List ActId → List SignalId → Vertex
part_of v entry exit steps defers = record { owner = v.owner; kind = v.kind; label = v.label; entry = entry; exit = exit; steps = steps; defers = defers }

abbrev zero_act : ActId
zero_act = record { 0 = 0 }

zero_is : (a : ActId) → a.0 ≡ 0 → a ≡ zero_act
zero_is a e = ap (λ n. let i : ActId = record { 0 = n } in i) e

module _ (h : Head) (done : List Class) (name : List ℕ) (vars : List VarDecl) (regions : List Owner) (x : Class) (some : 0 < length regions) (differ : AreNames (map signal_of h.signals)) where
  abbrev names : Names
  names = names_with h vars

  abbrev at_vertices : Program → List Vertex → Outline
  at_vertices p vertices = stages.Open h done (block_with name names vars regions vertices [] p)

  entry_next : (p q : Program) (seen : List Vertex) (v : Vertex) (leads : LeadsAct names p v.entry q) → (v.kind ≡ kinds.State) ⊎ (v.entry.0 ≡ 0) → GoesOnTo first_program p → GoesOnTo q x.program
      → after_lines (at_vertices p (seen ++ part_of v zero_act zero_act [] [] ∷ [])) (behaviour_lines (codes "entry") names x v.entry) ≡ Some (at_vertices q (seen ++ part_of v v.entry zero_act [] [] ∷ []))
  unfolding with_behaviour
  entry_next p q seen v (inl none) state first on =
      rw (lines_found (codes "entry") names x p v.entry q (inl none) first on)
      (ap (λ r. Some (at_vertices r (seen ++ part_of v zero_act zero_act [] [] ∷ []))) none.1 ∙ ap (λ a. Some (at_vertices q (seen ++ part_of v a zero_act [] [] ∷ []))) (sym (zero_is v.entry none.0)))
  entry_next p q seen v (inr next) (inr zero_entry) first on = absurd (let number = next.number in let some' = some_acts p first in omega (arith, number, some', zero_entry))
  entry_next p q seen v (inr next) (inl state) first on =
      let text = act_text names next.marks next.act in
      let here = at_vertices p (seen ++ part_of v zero_act zero_act [] [] ∷ []) in
      let there = at_vertices q (seen ++ part_of v v.entry zero_act [] [] ∷ []) in
      let read : after_line here (lines.Action actions.Entry text) ≡ Ok (Some there) = rw (last_of-push seen (part_of v zero_act zero_act [] []), state, act_again names p v.entry q next) refl in
      rw (lines_found (codes "entry") names x p v.entry q (inr next) first on)
      (one_then here there there (codes "entry " ++ text) [] (next_line here there (lines.Action actions.Entry text) next.line read) refl)

  exit_next : (p q : Program) (seen : List Vertex) (v : Vertex) (leads : LeadsAct names p v.exit q) → (v.kind ≡ kinds.State) ⊎ (v.exit.0 ≡ 0) → GoesOnTo first_program p → GoesOnTo q x.program
      → after_lines (at_vertices p (seen ++ part_of v v.entry zero_act [] [] ∷ [])) (behaviour_lines (codes "exit") names x v.exit) ≡ Some (at_vertices q (seen ++ part_of v v.entry v.exit [] [] ∷ []))
  unfolding with_behaviour
  exit_next p q seen v (inl none) state first on =
      rw (lines_found (codes "exit") names x p v.exit q (inl none) first on)
      (ap (λ r. Some (at_vertices r (seen ++ part_of v v.entry zero_act [] [] ∷ []))) none.1 ∙ ap (λ a. Some (at_vertices q (seen ++ part_of v v.entry a [] [] ∷ []))) (sym (zero_is v.exit none.0)))
  exit_next p q seen v (inr next) (inr zero_exit) first on = absurd (let number = next.number in let some' = some_acts p first in omega (arith, number, some', zero_exit))
  exit_next p q seen v (inr next) (inl state) first on =
      let text = act_text names next.marks next.act in
      let here = at_vertices p (seen ++ part_of v v.entry zero_act [] [] ∷ []) in
      let there = at_vertices q (seen ++ part_of v v.entry v.exit [] [] ∷ []) in
      let read : after_line here (lines.Action actions.Exit text) ≡ Ok (Some there) = rw (last_of-push seen (part_of v v.entry zero_act [] []), state, act_again names p v.exit q next) refl in
      rw (lines_found (codes "exit") names x p v.exit q (inr next) first on)
      (one_then here there there (codes "exit " ++ text) [] (next_line here there (lines.Action actions.Exit text) next.line read) refl)

  step_next : (p q : Program) (seen : List Vertex) (v : Vertex) (before : List ActId) (a : ActId) (leads : LeadsAct names p a q) → v.kind ≡ kinds.State → length before < 64 → GoesOnTo first_program p → GoesOnTo q x.program
      → after_lines (at_vertices p (seen ++ part_of v v.entry v.exit before [] ∷ [])) (step_line names x a ∷ []) ≡ Some (at_vertices q (seen ++ part_of v v.entry v.exit (before ++ a ∷ []) [] ∷ []))
  unfolding with_behaviour with_empty_step
  step_next p q seen v before a (inl none) state few first on =
      let here = at_vertices p (seen ++ part_of v v.entry v.exit before [] ∷ []) in
      let there = at_vertices p (seen ++ part_of v v.entry v.exit (before ++ zero_act ∷ []) [] ∷ []) in
      let read : after_line here lines.EmptyStep ≡ Ok (Some there) = rw (last_of-push seen (part_of v v.entry v.exit before []), state, lt-ltb (length before) 64 few) refl in
      rw (step_found names x p a q (inl none) first on)
      (one_then here there there (codes "step") [] (next_line here there lines.EmptyStep tt read) refl
      ∙ ap (λ r. Some (at_vertices r (seen ++ part_of v v.entry v.exit (before ++ zero_act ∷ []) [] ∷ []))) none.1
      ∙ ap (λ i. Some (at_vertices q (seen ++ part_of v v.entry v.exit (before ++ i ∷ []) [] ∷ []))) (sym (zero_is a none.0)))
  step_next p q seen v before a (inr next) state few first on =
      let text = act_text names next.marks next.act in
      let here = at_vertices p (seen ++ part_of v v.entry v.exit before [] ∷ []) in
      let there = at_vertices q (seen ++ part_of v v.entry v.exit (before ++ a ∷ []) [] ∷ []) in
      let read : after_line here (lines.Action actions.Step text) ≡ Ok (Some there) = rw (last_of-push seen (part_of v v.entry v.exit before []), state, lt-ltb (length before) 64 few, act_again names p a q next) refl in
      rw (step_found names x p a q (inr next) first on)
      (one_then here there there (codes "step " ++ text) [] (next_line here there (lines.Action actions.Step text) next.line read) refl)

  steps_next : (p q : Program) (seen : List Vertex) (v : Vertex) (before new : List ActId) → Leads (LeadsAct names) p new q → v.kind ≡ kinds.State → length before + length new ≤ 64 → GoesOnTo first_program p → GoesOnTo q x.program
      → after_lines (at_vertices p (seen ++ part_of v v.entry v.exit before [] ∷ [])) (map (step_line names x) new) ≡ Some (at_vertices q (seen ++ part_of v v.entry v.exit (before ++ new) [] ∷ []))
  steps_next p q seen v before [] leads state few first on =
      ap (λ r. Some (at_vertices r (seen ++ part_of v v.entry v.exit before [] ∷ []))) leads ∙ ap (λ xs. Some (at_vertices q (seen ++ part_of v v.entry v.exit xs [] ∷ []))) (sym (append-nil before))
  steps_next p q seen v before (a ∷ new) leads state few first on =
      let here = at_vertices p (seen ++ part_of v v.entry v.exit before [] ∷ []) in
      let there = at_vertices leads.0 (seen ++ part_of v v.entry v.exit (before ++ a ∷ []) [] ∷ []) in
      let end = at_vertices q (seen ++ part_of v v.entry v.exit (before ++ a ∷ new) [] ∷ []) in
      let one = step_next p leads.0 seen v before a leads.1 state (omega arith) first (on_and_on leads.0 q x.program (steps_on names leads.0 new q leads.2) on) in
      many_then here there end (step_line names x a ∷ []) (map (step_line names x) new) one
      (steps_next leads.0 q seen v (before ++ a ∷ []) new leads.2 state (omega (arith, length-append before (a ∷ []))) (on_and_on first_program p leads.0 first (act_on names p a leads.0 leads.1)) on
      ∙ ap (λ xs. Some (at_vertices q (seen ++ part_of v v.entry v.exit xs [] ∷ []))) (append_assoc before (a ∷ []) new))

  defers_next : (p : Program) (seen : List Vertex) (v : Vertex) (before new : List SignalId) → AllBehind (IsNextSignal (length h.signals)) before new → v.kind ≡ kinds.State
      → after_lines (at_vertices p (seen ++ part_of v v.entry v.exit v.steps before ∷ [])) (map (defer_line h.signals) new) ≡ Some (at_vertices p (seen ++ part_of v v.entry v.exit v.steps (before ++ new) ∷ []))
  unfolding with_defer deferring
  defers_next p seen v before [] fit state = ap (λ xs. Some (at_vertices p (seen ++ part_of v v.entry v.exit v.steps xs ∷ []))) (sym (append-nil before))
  defers_next p seen v before (g ∷ new) fit state =
      let here = at_vertices p (seen ++ part_of v v.entry v.exit v.steps before ∷ []) in
      let there = at_vertices p (seen ++ part_of v v.entry v.exit v.steps (before ++ g ∷ []) ∷ []) in
      let read : after_line here (lines.Defer (signal_name h.signals g)) ≡ Ok (Some there) =
      rw (last_of-push seen (part_of v v.entry v.exit v.steps before), state, with_signal_again h.signals before g (signals_differ h.signals differ) fit.0) refl in
      one_then here there (at_vertices p (seen ++ part_of v v.entry v.exit v.steps (before ++ g ∷ new) ∷ [])) (defer_line h.signals g) (map (defer_line h.signals) new)
      (next_line here there (lines.Defer (signal_name h.signals g)) (known_name h.signals g differ fit.0.known) read)
      (defers_next p seen v (before ++ g ∷ []) new fit.1 state ∙ ap (λ xs. Some (at_vertices p (seen ++ part_of v v.entry v.exit v.steps xs ∷ []))) (append_assoc before (g ∷ []) new))

  -- steps and deferred signals of a State, or none
  steps_of : (p q : Program) (seen : List Vertex) (v : Vertex) → IsWrittenVertex (length h.signals) v → Leads (LeadsAct names) p v.steps q → GoesOnTo first_program p → GoesOnTo q x.program
      → after_lines (at_vertices p (seen ++ part_of v v.entry v.exit [] [] ∷ [])) (map (step_line names x) v.steps) ≡ Some (at_vertices q (seen ++ part_of v v.entry v.exit v.steps [] ∷ []))
  steps_of p q seen v is leads first on = elim is.as_state [
    | inl state ↦ steps_next p q seen v [] v.steps leads state (let few = is.few_steps in omega arith) first on
    | inr passive ↦
        let none = passive.steps in
        let same : p ≡ q = subst (λ xs. Leads (LeadsAct names) p xs q) none leads in
        rw none (ap (λ r. Some (at_vertices r (seen ++ part_of v v.entry v.exit [] [] ∷ []))) same)
  ]

  defers_of : (p : Program) (seen : List Vertex) (v : Vertex) → IsWrittenVertex (length h.signals) v
      → after_lines (at_vertices p (seen ++ part_of v v.entry v.exit v.steps [] ∷ [])) (map (defer_line h.signals) v.defers) ≡ Some (at_vertices p (seen ++ v ∷ []))
  defers_of p seen v is = elim is.as_state [
    | inl state ↦ defers_next p seen v [] v.defers is.defers state
    | inr passive ↦ rw passive.defers refl
  ]

  vertex_next : (n : ℕ) (p q : Program) (seen : List Vertex) (v : Vertex) → n ≡ length seen → n < 65536 → IsWrittenVertex (length h.signals) v → LeadsVertex names p v q → GoesOnTo first_program p → GoesOnTo q x.program
      → after_lines (at_vertices p seen) (vertex_lines names x n v) ≡ Some (at_vertices q (seen ++ v ∷ []))
  vertex_next n p q seen v e few is leads first on =
      let small = vertex_small v.owner is.owner in
      let here = at_vertices p seen in
      let first_part = at_vertices p (seen ++ part_of v zero_act zero_act [] [] ∷ []) in
      let entered = at_vertices leads.entered (seen ++ part_of v v.entry zero_act [] [] ∷ []) in
      let left = at_vertices leads.left (seen ++ part_of v v.entry v.exit [] [] ∷ []) in
      let stepped = at_vertices q (seen ++ part_of v v.entry v.exit v.steps [] ∷ []) in
      let there = at_vertices q (seen ++ v ∷ []) in
      let next : after_line here (lines.Vertex n v.owner v.kind v.label) ≡ Ok (Some first_part) = rw (lt-ltb 0 (length regions) some, eq-eqb n (length seen) e, small.1) refl in
      let entry_on = act_on names p v.entry leads.entered leads.entry in
      let exit_on = act_on names leads.entered v.exit leads.left leads.exit in
      let steps_go = steps_on names leads.left v.steps q leads.steps in
      let first_entered = on_and_on first_program p leads.entered first entry_on in
      let first_left = on_and_on first_program leads.entered leads.left first_entered exit_on in
      let left_on = on_and_on leads.left q x.program steps_go on in
      let entered_on = on_and_on leads.entered leads.left x.program exit_on left_on in
      let entry_state : (v.kind ≡ kinds.State) ⊎ (v.entry.0 ≡ 0) = elim is.as_state [ inl state ↦ inl state | inr passive ↦ inr passive.entry ] in
      let exit_state : (v.kind ≡ kinds.State) ⊎ (v.exit.0 ≡ 0) = elim is.as_state [ inl state ↦ inl state | inr passive ↦ inr passive.exit ] in
      one_then here first_part there (vertex_line n v) _ (next_line here first_part (lines.Vertex n v.owner v.kind v.label) (few, small.0, is.label) next)
      (many_then first_part entered there (behaviour_lines (codes "entry") names x v.entry) _ (entry_next p leads.entered seen v leads.entry entry_state first entered_on)
      (many_then entered left there (behaviour_lines (codes "exit") names x v.exit) _ (exit_next leads.entered leads.left seen v leads.exit exit_state first_entered left_on)
      (many_then left stepped there (map (step_line names x) v.steps) (map (defer_line h.signals) v.defers) (steps_of leads.left q seen v is leads.steps first_left on) (defers_of q seen v is))))

  vertices_next : (n : ℕ) (p q : Program) (seen new : List Vertex) → n ≡ length seen → length seen + length new ≤ 65536 → AllByRecursion (IsWrittenVertex (length h.signals)) new → Leads (LeadsVertex names) p new q → GoesOnTo first_program p → GoesOnTo q x.program
      → after_lines (at_vertices p seen) (numbered (vertex_lines names x) n new) ≡ Some (at_vertices q (seen ++ new))
  vertices_next n p q seen [] e few all leads first on = ap (λ r. Some (at_vertices r seen)) leads ∙ ap (λ vs. Some (at_vertices q vs)) (sym (append-nil seen))
  vertices_next n p q seen (v ∷ new) e few all leads first on =
      let more = leads_on (LeadsVertex names) (vertex_on names) leads.0 new q leads.2 in
      many_then (at_vertices p seen) (at_vertices leads.0 (seen ++ v ∷ [])) (at_vertices q (seen ++ v ∷ new)) (vertex_lines names x n v) (numbered (vertex_lines names x) (suc n) new)
      (vertex_next n p leads.0 seen v e (omega arith) all.0 leads.1 first (on_and_on leads.0 q x.program more on))
      (vertices_next (suc n) leads.0 q (seen ++ v ∷ []) new (omega (arith, length-append seen (v ∷ []))) (omega (arith, length-append seen (v ∷ []))) all.1 leads.2 (on_and_on first_program p leads.0 first (vertex_on names p v leads.0 leads.1)) on
      ∙ ap (λ vs. Some (at_vertices q vs)) (append_assoc seen (v ∷ []) new))

-- ---- transitions

abbrev listing : Transition → List SignalId → Guard → ActId → Transition
listing t triggers g a = record { source = t.source; target = t.target; kind = t.kind; triggers = triggers; guard = g; effect = a }

module _ (h : Head) (done : List Class) (name : List ℕ) (vars : List VarDecl) (regions : List Owner) (vertices : List Vertex) (x : Class) (some : 0 < length regions) (differ : AreNames (map signal_of h.signals)) where
  abbrev names' : Names
  names' = names_with h vars

  abbrev at_transitions : Program → List Transition → Outline
  at_transitions p transitions = stages.Open h done (block_with name names' vars regions vertices transitions p)

  triggers_next : (p : Program) (seen : List Transition) (t : Transition) (before new : List SignalId) → AllBehind (IsNextSignal (length h.signals)) before new
      → after_lines (at_transitions p (seen ++ listing t before Always zero_act ∷ [])) (map (on_line h.signals) new) ≡ Some (at_transitions p (seen ++ listing t (before ++ new) Always zero_act ∷ []))
  unfolding with_trigger triggered
  triggers_next p seen t before [] fit = ap (λ xs. Some (at_transitions p (seen ++ listing t xs Always zero_act ∷ []))) (sym (append-nil before))
  triggers_next p seen t before (g ∷ new) fit =
      let here = at_transitions p (seen ++ listing t before Always zero_act ∷ []) in
      let there = at_transitions p (seen ++ listing t (before ++ g ∷ []) Always zero_act ∷ []) in
      let read : after_line here (lines.On (signal_name h.signals g)) ≡ Ok (Some there) = rw (last_of-push seen (listing t before Always zero_act), with_signal_again h.signals before g (signals_differ h.signals differ) fit.0) refl in
      one_then here there (at_transitions p (seen ++ listing t (before ++ g ∷ new) Always zero_act ∷ [])) (on_line h.signals g) (map (on_line h.signals) new)
      (next_line here there (lines.On (signal_name h.signals g)) (known_name h.signals g differ fit.0.known) read)
      (triggers_next p seen t (before ++ g ∷ []) new fit.1 ∙ ap (λ xs. Some (at_transitions p (seen ++ listing t xs Always zero_act ∷ []))) (append_assoc before (g ∷ []) new))

  guard_next : (p q : Program) (seen : List Transition) (t : Transition) (g : Guard) → LeadsGuard names' p g q → GoesOnTo q x.program
      → after_lines (at_transitions p (seen ++ listing t t.triggers Always zero_act ∷ [])) (guard_lines names' x g) ≡ Some (at_transitions q (seen ++ listing t t.triggers g zero_act ∷ []))
  unfolding with_else with_condition
  guard_next p q seen t Always leads on = ap (λ r. Some (at_transitions r (seen ++ listing t t.triggers Always zero_act ∷ []))) leads
  guard_next p q seen t Otherwise leads on =
      let here = at_transitions p (seen ++ listing t t.triggers Always zero_act ∷ []) in
      let there = at_transitions p (seen ++ listing t t.triggers Otherwise zero_act ∷ []) in
      let read : after_line here lines.Otherwise ≡ Ok (Some there) = rw (last_of-push seen (listing t t.triggers Always zero_act)) refl in
      one_then here there there (codes "else") [] (next_line here there lines.Otherwise tt read) refl ∙ ap (λ r. Some (at_transitions r (seen ++ listing t t.triggers Otherwise zero_act ∷ []))) leads
  guard_next p q seen t (When g) leads on =
      let text = cond_text names' leads.cond in
      let here = at_transitions p (seen ++ listing t t.triggers Always zero_act ∷ []) in
      let there = at_transitions q (seen ++ listing t t.triggers (When g) zero_act ∷ []) in
      let read : after_line here (lines.Action actions.When text) ≡ Ok (Some there) = rw (last_of-push seen (listing t t.triggers Always zero_act), guard_again names' p g q leads) refl in
      rw (guard_found names' x p (When g) q leads on) (one_then here there there (codes "if " ++ text) [] (next_line here there (lines.Action actions.When text) leads.line read) refl)

  effect_next : (p q : Program) (seen : List Transition) (t : Transition) (leads : LeadsAct names' p t.effect q) → GoesOnTo first_program p → GoesOnTo q x.program
      → after_lines (at_transitions p (seen ++ listing t t.triggers t.guard zero_act ∷ [])) (behaviour_lines (codes "effect") names' x t.effect) ≡ Some (at_transitions q (seen ++ t ∷ []))
  unfolding with_effect
  effect_next p q seen t (inl none) first on =
      rw (lines_found (codes "effect") names' x p t.effect q (inl none) first on)
      (ap (λ r. Some (at_transitions r (seen ++ listing t t.triggers t.guard zero_act ∷ []))) none.1 ∙ ap (λ a. Some (at_transitions q (seen ++ listing t t.triggers t.guard a ∷ []))) (sym (zero_is t.effect none.0)))
  effect_next p q seen t (inr next) first on =
      let text = act_text names' next.marks next.act in
      let here = at_transitions p (seen ++ listing t t.triggers t.guard zero_act ∷ []) in
      let there = at_transitions q (seen ++ t ∷ []) in
      let read : after_line here (lines.Action actions.Effect text) ≡ Ok (Some there) = rw (last_of-push seen (listing t t.triggers t.guard zero_act), act_again names' p t.effect q next) refl in
      rw (lines_found (codes "effect") names' x p t.effect q (inr next) first on)
      (one_then here there there (codes "effect " ++ text) [] (next_line here there (lines.Action actions.Effect text) next.line read) refl)

  transition_next : (n : ℕ) (p q : Program) (seen : List Transition) (t : Transition) → n ≡ length seen → n < 65536 → IsWrittenTransition (length h.signals) t → LeadsTransition names' p t q → GoesOnTo first_program p → GoesOnTo q x.program
      → after_lines (at_transitions p seen) (transition_lines names' x n t) ≡ Some (at_transitions q (seen ++ t ∷ []))
  transition_next n p q seen t e few is leads first on =
      let here = at_transitions p seen in
      let begun = at_transitions p (seen ++ listing t [] Always zero_act ∷ []) in
      let listed = at_transitions p (seen ++ listing t t.triggers Always zero_act ∷ []) in
      let guarded' = at_transitions leads.guarded (seen ++ listing t t.triggers t.guard zero_act ∷ []) in
      let there = at_transitions q (seen ++ t ∷ []) in
      let next : after_line here (lines.Transition n t.source t.target t.kind) ≡ Ok (Some begun) = rw (lt-ltb 0 (length regions) some, eq-eqb n (length seen) e) refl in
      let effect_go = act_on names' leads.guarded t.effect q leads.effect in
      one_then here begun there (transition_line n t) _ (next_line here begun (lines.Transition n t.source t.target t.kind) (few, is.source, is.target) next)
      (many_then begun listed there (map (on_line h.signals) t.triggers) _ (triggers_next p seen t [] t.triggers is.triggers)
      (many_then listed guarded' there (guard_lines names' x t.guard) (behaviour_lines (codes "effect") names' x t.effect) (guard_next p leads.guarded seen t t.guard leads.guard (on_and_on leads.guarded q x.program effect_go on))
      (effect_next leads.guarded q seen t leads.effect (on_and_on first_program p leads.guarded first (guard_on names' p t.guard leads.guarded leads.guard)) on)))

  transitions_next : (n : ℕ) (p q : Program) (seen new : List Transition) → n ≡ length seen → length seen + length new ≤ 65536 → AllByRecursion (IsWrittenTransition (length h.signals)) new → Leads (LeadsTransition names') p new q → GoesOnTo first_program p → GoesOnTo q x.program
      → after_lines (at_transitions p seen) (numbered (transition_lines names' x) n new) ≡ Some (at_transitions q (seen ++ new))
  transitions_next n p q seen [] e few all leads first on = ap (λ r. Some (at_transitions r seen)) leads ∙ ap (λ ts. Some (at_transitions q ts)) (sym (append-nil seen))
  transitions_next n p q seen (t ∷ new) e few all leads first on =
      let more = leads_on (LeadsTransition names') (transition_on names') leads.0 new q leads.2 in
      many_then (at_transitions p seen) (at_transitions leads.0 (seen ++ t ∷ [])) (at_transitions q (seen ++ t ∷ new)) (transition_lines names' x n t) (numbered (transition_lines names' x) (suc n) new)
      (transition_next n p leads.0 seen t e (omega arith) all.0 leads.1 first (on_and_on leads.0 q x.program more on))
      (transitions_next (suc n) leads.0 q (seen ++ t ∷ []) new (omega (arith, length-append seen (t ∷ []))) (omega (arith, length-append seen (t ∷ []))) all.1 leads.2 (on_and_on first_program p leads.0 first (transition_on names' p t leads.0 leads.1)) on
      ∙ ap (λ ts. Some (at_transitions q ts)) (append_assoc seen (t ∷ []) new))

-- ---- the whole block

pub elements_next : (h : Head) (done : List Class) (x : Class) → AreNames (map signal_of h.signals) → IsWrittenClass (names_with h x.vars) x
    → after_lines (stages.Open h done (empty_block h x.name))
    (map var_line x.vars ++ (numbered region_lines 0 x.machine.regions ++ (numbered (vertex_lines (names_with h x.vars) x) 0 x.machine.vertices ++ numbered (transition_lines (names_with h x.vars) x) 0 x.machine.transitions)))
    ≡ Some (stages.Open h done (block_with x.name (names_with h x.vars) x.vars x.machine.regions x.machine.vertices x.machine.transitions x.program))
elements_next h done x differ is =
    let m = is.machine in
    let n = is.numbered in
    let ns = names_with h x.vars in
    let at : List VarDecl → List Owner → List Vertex → List Transition → Program → Outline = λ vars regions vertices transitions p. stages.Open h done (block_with x.name (names_with h vars) vars regions vertices transitions p) in
    let end = at x.vars x.machine.regions x.machine.vertices x.machine.transitions x.program in
    let vars = vars_next h done x.name [] x.vars is.var_names is.firsts (let few = is.few_vars in omega arith) in
    let regions = regions_next h done x.name x.vars 0 [] x.machine.regions refl m.regions (let few = m.few_regions in omega arith) in
    let to_middle = leads_on (LeadsVertex ns) (vertex_on ns) first_program x.machine.vertices n.middle n.vertices in
    let to_end = leads_on (LeadsTransition ns) (transition_on ns) n.middle x.machine.transitions x.program n.transitions in
    let itself' = same_on x.program x.program refl in
    let vertices = vertices_next h done x.name x.vars x.machine.regions x m.some_region differ 0 first_program n.middle [] x.machine.vertices refl (let few = m.few_vertices in omega arith) m.vertices n.vertices (same_on first_program first_program refl) to_end in
    let transitions = transitions_next h done x.name x.vars x.machine.regions x.machine.vertices x m.some_region differ 0 n.middle x.program [] x.machine.transitions refl (let few = m.few_transitions in omega arith) m.transitions n.transitions to_middle itself' in
    many_then (at [] [] [] [] first_program) (at x.vars [] [] [] first_program) end (map var_line x.vars) _ vars
    (many_then (at x.vars [] [] [] first_program) (at x.vars x.machine.regions [] [] first_program) end (numbered region_lines 0 x.machine.regions) _ regions
    (many_then (at x.vars x.machine.regions [] [] first_program) (at x.vars x.machine.regions x.machine.vertices [] n.middle) end (numbered (vertex_lines ns x) 0 x.machine.vertices) (numbered (transition_lines ns x) 0 x.machine.transitions) vertices transitions))
