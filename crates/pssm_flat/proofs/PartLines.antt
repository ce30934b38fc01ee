-- The parts of the last element: the block that goes on with one has its line behind the ones before.
use Rattle.std.proofs.Common.{◌≡◌, inl, inr, ℕ, ◌<◌, ◌≤◌, true, eqb, ltb, ◌&&◌, List, [], ◌∷◌, ◌++◌, length, Option, Some, None, Ok, refl, sym, ap, subst, ◌∙◌, append_assoc, arith}
use Rattle.std.specs.Prelude.{map, codes}
use Rattle.std.specs.Option.{option_map}
use Rattle.std.proofs.lemmas.Bool.{and_parts, eqb-true, ltb-true}
use Rattle.std.proofs.lemmas.List.{append-nil, length-append}
use Rattle.pssm_model.specs.declared.ids.ActId.{ActId}
use Rattle.pssm_model.specs.declared.ids.GuardId.{GuardId}
use Rattle.pssm_model.specs.declared.ids.SignalId.{SignalId}
use Rattle.pssm_model.specs.declared.elements.Vertex.{Vertex}
use Rattle.pssm_model.specs.declared.elements.VertexKind.{VertexKind}
use Rattle.pssm_model.specs.declared.elements.VertexKind.TheVariants as kinds
use Rattle.pssm_model.specs.declared.elements.Transition.{Transition}
use Rattle.pssm_model.specs.declared.elements.Guard.{Guard}
use Rattle.pssm_model.specs.declared.elements.Guard.TheVariants.{Always, Otherwise, When}
use Rattle.pssm_semantics.specs.declared.setting.SignalDecl.{SignalDecl}
use Rattle.pssm_semantics.specs.declared.setting.Names.{Names}
use Rattle.pssm_semantics.specs.declared.setting.Class.{Class}
use Rattle.pssm_semantics.specs.declared.setting.Program.{Program}
use Rattle.pssm_acts.specs.ActText.{act_text, cond_text}
use Rattle.pssm_flat.specs.declared.action.ActionLine.{ActionLine}
use Rattle.pssm_flat.specs.declared.action.ActionLine.TheVariants as actions
use Rattle.pssm_flat.specs.declared.head.Head.{Head}
use Rattle.pssm_flat.specs.declared.block.Block.{Block}
use Rattle.pssm_flat.specs.Text.{vertex_line, defer_line, step_line, transition_line, on_line, behaviour_lines, guard_lines}
use Rattle.pssm_flat.specs.Flat.{Leads, IsLineText, IsLabel, IsVertexOwner, AreAscending, IsNextSignal, IsWrittenVertex, LeadsAct, LeadsGuard, LeadsVertex, LeadsTransition, IsNextAct, first_program}
use Rattle.pssm_flat.specs.Faults.{action_word}
use Rattle.pssm_flat.specs.inner.Outlines.{last_of, last_vertex, is_state, is_always, vertex_takes, vertex_with, with_last_vertex, with_act, lifted, Numbered, behaving, behaving_last, with_behaviour, with_empty_step, deferring, with_signal, with_defer, is_plain, triggered, with_trigger, guarded, with_last_transition, with_else, with_guard, guarding, guarding_last, with_condition, affected, affecting, affecting_last, with_effect, with_action}
use Rattle.pssm_flat.proofs.Bind.{bind_then, chosen_some, some_is}
use Rattle.pssm_flat.proofs.Lasts.{last_of-takes}
use Rattle.pssm_flat.proofs.Items.{fit_push, leads_push, map_push}
use Rattle.pssm_flat.proofs.NameLaws.{with_signal_takes}
use Rattle.pssm_flat.proofs.Programs.{GoesOnTo, same_on, on_and_on, act_on, vertex_on, guard_on, no_lines, lines_found, step_found, guard_found, zero_stays}
use Rattle.pssm_flat.proofs.NumberLaws.{lifted_takes, met, ReadsNext, act_takes, guard_takes}
use Rattle.pssm_flat.proofs.Good.{IsGoodBlock}
use Rattle.pssm_flat.proofs.Blocks.{Adds, three, empty_from, AtVertex, at_vertex, vertex_goes_on, AtTransition, at_transition, transition_goes_on}

pub state_is : (k : VertexKind) → is_state k ≡ true → k ≡ kinds.State
state_is kinds.State e = refl
state_is kinds.Final e = absurd cc
state_is kinds.Initial e = absurd cc
state_is kinds.DeepHistory e = absurd cc
state_is kinds.ShallowHistory e = absurd cc
state_is kinds.Join e = absurd cc
state_is kinds.Fork e = absurd cc
state_is kinds.Junction e = absurd cc
state_is kinds.Choice e = absurd cc
state_is kinds.EntryPoint e = absurd cc
state_is kinds.ExitPoint e = absurd cc
state_is kinds.Terminate e = absurd cc

pub always_is : (g : Guard) → is_always g ≡ true → g ≡ Always
always_is Always e = refl
always_is Otherwise e = absurd cc
always_is (When g) e = absurd cc

-- ---- where a part stands

behind_exit : (m : List ℕ) (e : List (List ℕ)) (l : List ℕ) → m ∷ (e ++ ((l ∷ []) ++ ([] ++ []))) ≡ (m ∷ (e ++ ([] ++ ([] ++ [])))) ++ l ∷ []
behind_exit m e l = ap (λ ls. m ∷ (ls ++ l ∷ [])) (sym (append-nil e))

behind_step : (m : List ℕ) (e x s : List (List ℕ)) (l : List ℕ) → m ∷ (e ++ (x ++ ((s ++ l ∷ []) ++ []))) ≡ (m ∷ (e ++ (x ++ (s ++ [])))) ++ l ∷ []
behind_step m e x s l = ap (λ ls. m ∷ ls) (ap (λ ls. e ++ (x ++ ls)) (append-nil (s ++ l ∷ [])) ∙ three e x s l ∙ ap (λ ls. (e ++ (x ++ ls)) ++ l ∷ []) (sym (append-nil s)))

behind_defer : (m : List ℕ) (e x s d : List (List ℕ)) (l : List ℕ) → m ∷ (e ++ (x ++ (s ++ (d ++ l ∷ [])))) ≡ (m ∷ (e ++ (x ++ (s ++ d)))) ++ l ∷ []
behind_defer m e x s d l = simp append_assoc

behind_on : (m : List ℕ) (d : List (List ℕ)) (l : List ℕ) → m ∷ ((d ++ l ∷ []) ++ ([] ++ [])) ≡ (m ∷ (d ++ ([] ++ []))) ++ l ∷ []
behind_on m d l = ap (λ ls. m ∷ ls) (append-nil (d ++ l ∷ []) ∙ ap (λ ls. ls ++ l ∷ []) (sym (append-nil d)))

behind_guard : (m : List ℕ) (d : List (List ℕ)) (l : List ℕ) → m ∷ (d ++ ((l ∷ []) ++ [])) ≡ (m ∷ (d ++ ([] ++ []))) ++ l ∷ []
behind_guard m d l = ap (λ ls. m ∷ (ls ++ l ∷ [])) (sym (append-nil d))

behind_effect : (m : List ℕ) (d g : List (List ℕ)) (l : List ℕ) → m ∷ (d ++ (g ++ l ∷ [])) ≡ (m ∷ (d ++ (g ++ []))) ++ l ∷ []
behind_effect m d g l = ap (λ ls. m ∷ ls) (sym (append_assoc d g (l ∷ [])) ∙ ap (λ ls. (d ++ ls) ++ l ∷ []) (sym (append-nil g)))

-- ---- the last vertex

pub last_vertex_takes : (b : Block) (last : List Vertex × Vertex) → last_vertex b ≡ Some last → (b.transitions ≡ []) × (b.vertices ≡ last.0 ++ last.1 ∷ [])
last_vertex_takes b last e =
    let found = chosen_some (eqb (length b.transitions) 0) (last_of b.vertices) last e in
    (empty_from b.transitions found.0, last_of-takes b.vertices last found.1)

module _ (h : Head) (b : Block) (others : List Vertex) (v : Vertex) (a : AtVertex h b others v) where
  -- Behind an exit that is not there nothing was numbered but the entry.
  unfinished : v.exit.0 ≡ 0 → v.steps ≡ [] → a.leads_last.entered ≡ b.program
  unfinished exit steps =
      let l = a.leads_last in
      let first = on_and_on first_program a.before l.entered a.first (act_on b.names a.before v.entry l.entered l.entry) in
      zero_stays b.names l.entered v.exit l.left first exit l.exit ∙ subst (λ xs. Leads (LeadsAct b.names) l.left xs b.program) steps l.steps

  written_as : (w : Vertex) → w.owner ≡ v.owner → w.label ≡ v.label → w.kind ≡ v.kind → v.kind ≡ kinds.State → length w.steps ≤ 64 → AreAscending (length h.signals) w.defers → IsWrittenVertex (length h.signals) w
  written_as w owner label kind state few defers =
      let is = a.written_last in
      record { owner = subst IsVertexOwner (sym owner) is.owner; label = subst IsLabel (sym label) is.label; as_state = inl (kind ∙ state); few_steps = few; defers = defers }

  entry_goes_on : (x : ActId) (q : Program) (next : IsNextAct b.names b.program x q) → v.kind ≡ kinds.State → v.defers ≡ [] → v.steps ≡ [] → v.exit.0 ≡ 0 → v.entry.0 ≡ 0
      → Adds h b (with_last_vertex b others (record v { entry = x }) q) (codes "entry " ++ act_text b.names next.marks next.act)
  entry_goes_on x q next state defers steps exit entry =
      let w : Vertex = record v { entry = x } in
      let names = b.names in
      let start : a.before ≡ b.program = zero_stays names a.before v.entry a.leads_last.entered a.first entry a.leads_last.entry ∙ unfinished exit steps in
      let here : LeadsAct names a.before x q = subst (λ p. LeadsAct names p x q) (sym start) (inr next) in
      let first = subst (λ p. GoesOnTo first_program p) start a.first in
      let next_on = act_on names b.program x q (inr next) in
      let first_q = on_and_on first_program b.program q first next_on in
      let leads : LeadsVertex names a.before w q = record { entered = q; left = q; entry = here; exit = inl (exit, refl); steps = subst (λ xs. Leads (LeadsAct names) q xs q) (sym steps) refl } in
      vertex_goes_on h b others v w q (codes "entry " ++ act_text names next.marks next.act) a leads next_on (written_as w refl refl refl state a.written_last.few_steps a.written_last.defers) (λ c is.
      let to : GoesOnTo q c.program = same_on q c.program (sym is) in
      let whole = on_and_on first_program q c.program first_q to in
      let line = lines_found (codes "entry") names c b.program x q (inr next) first to in
      let none = no_lines (codes "entry") names c v.entry entry whole in
      let left = no_lines (codes "exit") names c v.exit exit whole in
      rw (line, none, left, steps, defers) refl)

  exit_goes_on : (x : ActId) (q : Program) (next : IsNextAct b.names b.program x q) → v.kind ≡ kinds.State → v.defers ≡ [] → v.steps ≡ [] → v.exit.0 ≡ 0
      → Adds h b (with_last_vertex b others (record v { exit = x }) q) (codes "exit " ++ act_text b.names next.marks next.act)
  exit_goes_on x q next state defers steps exit =
      let w : Vertex = record v { exit = x } in
      let names = b.names in
      let l = a.leads_last in
      let start : l.entered ≡ b.program = unfinished exit steps in
      let here : LeadsAct names l.entered x q = subst (λ p. LeadsAct names p x q) (sym start) (inr next) in
      let first = on_and_on first_program a.before b.program a.first (subst (λ p. GoesOnTo a.before p) start (act_on names a.before v.entry l.entered l.entry)) in
      let next_on = act_on names b.program x q (inr next) in
      let first_q = on_and_on first_program b.program q first next_on in
      let leads : LeadsVertex names a.before w q = record { entered = l.entered; left = q; entry = l.entry; exit = here; steps = subst (λ xs. Leads (LeadsAct names) q xs q) (sym steps) refl } in
      vertex_goes_on h b others v w q (codes "exit " ++ act_text names next.marks next.act) a leads next_on (written_as w refl refl refl state a.written_last.few_steps a.written_last.defers) (λ c is.
      let to : GoesOnTo q c.program = same_on q c.program (sym is) in
      let whole = on_and_on first_program q c.program first_q to in
      let line = lines_found (codes "exit") names c b.program x q (inr next) first to in
      let none = no_lines (codes "exit") names c v.exit exit whole in
      rw (line, none, steps, defers) (behind_exit (vertex_line (length others) v) (behaviour_lines (codes "entry") names c v.entry) (codes "exit " ++ act_text names next.marks next.act)))

  step_goes_on : (x : ActId) (q : Program) (l : List ℕ) (here : LeadsAct b.names b.program x q) → ((c : Class) → c.program ≡ q → step_line b.names c x ≡ l) → v.kind ≡ kinds.State → v.defers ≡ [] → length v.steps < 64
      → Adds h b (with_last_vertex b others (record v { steps = v.steps ++ x ∷ [] }) q) l
  step_goes_on x q l here line state defers few =
      let w : Vertex = record v { steps = v.steps ++ x ∷ [] } in
      let names = b.names in
      let last = a.leads_last in
      let next_on = act_on names b.program x q here in
      let leads : LeadsVertex names a.before w q = record { entered = last.entered; left = last.left; entry = last.entry; exit = last.exit; steps = leads_push (LeadsAct names) last.left v.steps b.program q x last.steps here } in
      vertex_goes_on h b others v w q l a leads next_on (written_as w refl refl refl state (omega (arith, few, length-append v.steps (x ∷ []))) a.written_last.defers) (λ c is.
      let steps : map (step_line names c) (v.steps ++ x ∷ []) ≡ map (step_line names c) v.steps ++ l ∷ [] = map_push (step_line names c) v.steps x ∙ ap (λ t. map (step_line names c) v.steps ++ t ∷ []) (line c is) in
      rw (steps, defers) (behind_step (vertex_line (length others) v) (behaviour_lines (codes "entry") names c v.entry) (behaviour_lines (codes "exit") names c v.exit) (map (step_line names c) v.steps) l))

  defer_goes_on : (g : SignalId) → v.kind ≡ kinds.State → IsNextSignal (length h.signals) v.defers g → Adds h b (with_last_vertex b others (record v { defers = v.defers ++ g ∷ [] }) b.program) (defer_line b.names.signals g)
  defer_goes_on g state fits =
      let w : Vertex = record v { defers = v.defers ++ g ∷ [] } in
      let names = b.names in
      let last = a.leads_last in
      let leads : LeadsVertex names a.before w b.program = record { entered = last.entered; left = last.left; entry = last.entry; exit = last.exit; steps = last.steps } in
      vertex_goes_on h b others v w b.program (defer_line names.signals g) a leads (same_on b.program b.program refl)
      (written_as w refl refl refl state a.written_last.few_steps (fit_push (IsNextSignal (length h.signals)) [] v.defers g a.written_last.defers fits)) (λ c is.
      rw (map_push (defer_line names.signals) v.defers g)
      (behind_defer (vertex_line (length others) v) (behaviour_lines (codes "entry") names c v.entry) (behaviour_lines (codes "exit") names c v.exit) (map (step_line names c) v.steps) (map (defer_line names.signals) v.defers) (defer_line names.signals g)))

-- ---- the last transition

module _ (h : Head) (b : Block) (others : List Transition) (t : Transition) (a : AtTransition h b others t) where
  always_stays : t.guard ≡ Always → a.before ≡ a.leads_last.guarded
  always_stays always = subst (λ g. LeadsGuard b.names a.before g a.leads_last.guarded) always a.leads_last.guard

  first_guarded : GoesOnTo first_program a.leads_last.guarded
  first_guarded = on_and_on first_program a.before a.leads_last.guarded a.first (guard_on b.names a.before t.guard a.leads_last.guarded a.leads_last.guard)

  effect_stays : t.effect.0 ≡ 0 → a.leads_last.guarded ≡ b.program
  effect_stays none = zero_stays b.names a.leads_last.guarded t.effect b.program first_guarded none a.leads_last.effect

  first_whole : GoesOnTo first_program b.program
  first_whole = on_and_on first_program a.leads_last.guarded b.program first_guarded (act_on b.names a.leads_last.guarded t.effect b.program a.leads_last.effect)

  trigger_goes_on : (g : SignalId) → t.guard ≡ Always → t.effect.0 ≡ 0 → IsNextSignal (length h.signals) t.triggers g → Adds h b (with_last_transition b others (record t { triggers = t.triggers ++ g ∷ [] }) b.program) (on_line b.names.signals g)
  trigger_goes_on g always none fits =
      let u : Transition = record t { triggers = t.triggers ++ g ∷ [] } in
      let names = b.names in
      let last = a.leads_last in
      let is' = a.written_last in
      let leads : LeadsTransition names a.before u b.program = record { guarded = last.guarded; guard = last.guard; effect = last.effect } in
      transition_goes_on h b others t u b.program (on_line names.signals g) a leads (same_on b.program b.program refl)
      (record { source = is'.source; target = is'.target; triggers = fit_push (IsNextSignal (length h.signals)) [] t.triggers g is'.triggers fits }) (λ c is.
      let whole = subst (λ p. GoesOnTo first_program p) (sym is) first_whole in
      let effect = no_lines (codes "effect") names c t.effect none whole in
      rw (map_push (on_line names.signals) t.triggers g, always, effect) (behind_on (transition_line (length others) t) (map (on_line names.signals) t.triggers) (on_line names.signals g)))

  guard_goes_on : (g : Guard) (q : Program) (l : List ℕ) (here : LeadsGuard b.names b.program g q) → ((c : Class) → c.program ≡ q → guard_lines b.names c g ≡ l ∷ []) → t.guard ≡ Always → t.effect.0 ≡ 0
      → Adds h b (with_last_transition b others (guarded t g) q) l
  guard_goes_on g q l here line always none =
      let u : Transition = guarded t g in
      let names = b.names in
      let is' = a.written_last in
      let start : a.before ≡ b.program = always_stays always ∙ effect_stays none in
      let guard : LeadsGuard names a.before g q = subst (λ p. LeadsGuard names p g q) (sym start) here in
      let next_on = guard_on names b.program g q here in
      let leads : LeadsTransition names a.before u q = record { guarded = q; guard = guard; effect = inl (none, refl) } in
      transition_goes_on h b others t u q l a leads next_on (record { source = is'.source; target = is'.target; triggers = is'.triggers }) (λ c is.
      let whole = subst (λ p. GoesOnTo first_program p) (sym is) (on_and_on first_program b.program q first_whole next_on) in
      let effect = no_lines (codes "effect") names c t.effect none whole in
      rw (line c is, always, effect) (behind_guard (transition_line (length others) t) (map (on_line names.signals) t.triggers) l))

  effect_goes_on : (x : ActId) (q : Program) (next : IsNextAct b.names b.program x q) → t.effect.0 ≡ 0 → Adds h b (with_last_transition b others (affected t x) q) (codes "effect " ++ act_text b.names next.marks next.act)
  effect_goes_on x q next none =
      let u : Transition = affected t x in
      let names = b.names in
      let last = a.leads_last in
      let is' = a.written_last in
      let here : LeadsAct names last.guarded x q = subst (λ p. LeadsAct names p x q) (sym (effect_stays none)) (inr next) in
      let next_on = act_on names b.program x q (inr next) in
      let leads : LeadsTransition names a.before u q = record { guarded = last.guarded; guard = last.guard; effect = here } in
      transition_goes_on h b others t u q (codes "effect " ++ act_text names next.marks next.act) a leads next_on (record { source = is'.source; target = is'.target; triggers = is'.triggers }) (λ c is.
      let to : GoesOnTo q c.program = same_on q c.program (sym is) in
      let line = lines_found (codes "effect") names c b.program x q (inr next) first_whole to in
      let effect = no_lines (codes "effect") names c t.effect none (on_and_on first_program q c.program (on_and_on first_program b.program q first_whole next_on) to) in
      rw (line, effect) (behind_effect (transition_line (length others) t) (map (on_line names.signals) t.triggers) (guard_lines names c t.guard) (codes "effect " ++ act_text names next.marks next.act)))

-- ---- lines of parts

signals_are : (h : Head) (b : Block) → IsGoodBlock h b → b.names.signals ≡ h.signals
signals_are h b good = ap (λ (n : Names). n.signals) good.names_are

-- the block with the text of its line in another form
pub adds_as : (h : Head) (b e f : Block) (l m : List ℕ) → e ≡ f → l ≡ m → Adds h b e l → Adds h b f m
adds_as h b e f l m same line adds = subst (λ (x : Block). Adds h b x m) same (subst (λ t. Adds h b e t) line adds)

behaviour_goes_on : (h : Head) (b e : Block) (word : ActionLine) (text : List ℕ) (last : List Vertex × Vertex) → IsGoodBlock h b → IsLineText text → last_vertex b ≡ Some last → behaving b word text last ≡ Ok (Some e) → Adds h b e (action_word word ++ text)
behaviour_goes_on h b e word text last good is at eq =
    let found = met (vertex_takes word last.1) (lifted (λ (x : Numbered). with_last_vertex b last.0 (vertex_with word last.1 x.0) x.1) (with_act b.names b.program text)) e eq in
    let read = lifted_takes (λ (x : Numbered). with_last_vertex b last.0 (vertex_with word last.1 x.0) x.1) (with_act b.names b.program text) e found.1 in
    let reads = act_takes b.names b.program text read.0 is read.1 in
    by_word word found.0 (read.0, reads, read.2) where
      a : AtVertex h b last.0 last.1
      a = let parts = last_vertex_takes b last at in at_vertex h b last.0 last.1 good parts.1 parts.0

      by_word : (word : ActionLine) → vertex_takes word last.1 ≡ true → (x : Numbered) × ReadsNext b.names b.program text x.0 x.1 × (with_last_vertex b last.0 (vertex_with word last.1 x.0) x.1 ≡ e) → Adds h b e (action_word word ++ text)
      by_word actions.Entry takes r =
          let t4 = and_parts (is_state last.1.kind && eqb (length last.1.defers) 0 && eqb (length last.1.steps) 0 && eqb last.1.exit.0 0) (eqb last.1.entry.0 0) takes in
          let t3 = and_parts (is_state last.1.kind && eqb (length last.1.defers) 0 && eqb (length last.1.steps) 0) (eqb last.1.exit.0 0) t4.0 in
          let t2 = and_parts (is_state last.1.kind && eqb (length last.1.defers) 0) (eqb (length last.1.steps) 0) t3.0 in
          let t1 = and_parts (is_state last.1.kind) (eqb (length last.1.defers) 0) t2.0 in
          adds_as h b (with_last_vertex b last.0 (record last.1 { entry = r.0.0 }) r.0.1) e _ _ r.2 (ap (λ t. codes "entry " ++ t) r.1.text_is)
          (entry_goes_on h b last.0 last.1 a r.0.0 r.0.1 r.1.next (state_is last.1.kind t1.0) (empty_from last.1.defers t1.1) (empty_from last.1.steps t2.1) (eqb-true last.1.exit.0 0 t3.1) (eqb-true last.1.entry.0 0 t4.1))
      by_word actions.Exit takes r =
          let t3 = and_parts (is_state last.1.kind && eqb (length last.1.defers) 0 && eqb (length last.1.steps) 0) (eqb last.1.exit.0 0) takes in
          let t2 = and_parts (is_state last.1.kind && eqb (length last.1.defers) 0) (eqb (length last.1.steps) 0) t3.0 in
          let t1 = and_parts (is_state last.1.kind) (eqb (length last.1.defers) 0) t2.0 in
          adds_as h b (with_last_vertex b last.0 (record last.1 { exit = r.0.0 }) r.0.1) e _ _ r.2 (ap (λ t. codes "exit " ++ t) r.1.text_is)
          (exit_goes_on h b last.0 last.1 a r.0.0 r.0.1 r.1.next (state_is last.1.kind t1.0) (empty_from last.1.defers t1.1) (empty_from last.1.steps t2.1) (eqb-true last.1.exit.0 0 t3.1))
      by_word actions.Step takes r =
          let t2 = and_parts (is_state last.1.kind && eqb (length last.1.defers) 0) (ltb (length last.1.steps) 64) takes in
          let t1 = and_parts (is_state last.1.kind) (eqb (length last.1.defers) 0) t2.0 in
          let good_first = on_and_on first_program a.before b.program a.first (vertex_on b.names a.before last.1 b.program a.leads_last) in
          adds_as h b (with_last_vertex b last.0 (record last.1 { steps = last.1.steps ++ r.0.0 ∷ [] }) r.0.1) e _ _ r.2 (ap (λ t. codes "step " ++ t) r.1.text_is)
          (step_goes_on h b last.0 last.1 a r.0.0 r.0.1 (codes "step " ++ act_text b.names r.1.next.marks r.1.next.act) (inr r.1.next)
          (λ c is. step_found b.names c b.program r.0.0 r.0.1 (inr r.1.next) good_first (same_on r.0.1 c.program (sym is)))
          (state_is last.1.kind t1.0) (empty_from last.1.defers t1.1) (ltb-true (length last.1.steps) 64 t2.1))
      by_word actions.When takes r = absurd cc
      by_word actions.Effect takes r = absurd cc

behaviour_adds : (h : Head) (b e : Block) (word : ActionLine) (text : List ℕ) → IsGoodBlock h b → IsLineText text → with_behaviour b word text ≡ Ok (Some e) → Adds h b e (action_word word ++ text)
unfolding with_behaviour
behaviour_adds h b e word text good is eq = by_last (last_vertex b) refl eq where
  by_last : (o : Option (List Vertex × Vertex)) → last_vertex b ≡ o → behaving_last b word text o ≡ Ok (Some e) → Adds h b e (action_word word ++ text)
  by_last None at eq = absurd cc
  by_last (Some last) at eq = behaviour_goes_on h b e word text last good is at eq

pub empty_step_adds : (h : Head) (b e : Block) → IsGoodBlock h b → with_empty_step b ≡ Some e → Adds h b e (codes "step")
unfolding with_empty_step
empty_step_adds h b e good eq =
    bind_then (last_vertex b) _ e eq (λ (last : List Vertex × Vertex) at eq.
    let none : ActId = record { 0 = 0 } in
    let made : Block = with_last_vertex b last.0 (vertex_with actions.Step last.1 none) b.program in
    let found = chosen_some (vertex_takes actions.Step last.1) (Some made) e eq in
    let t2 = and_parts (is_state last.1.kind && eqb (length last.1.defers) 0) (ltb (length last.1.steps) 64) found.0 in
    let t1 = and_parts (is_state last.1.kind) (eqb (length last.1.defers) 0) t2.0 in
    let parts = last_vertex_takes b last at in
    let a = at_vertex h b last.0 last.1 good parts.1 parts.0 in
    let first = on_and_on first_program a.before b.program a.first (vertex_on b.names a.before last.1 b.program a.leads_last) in
    let leads : LeadsAct b.names b.program none b.program = inl (refl, refl) in
    subst (λ (x : Block). Adds h b x (codes "step")) (some_is made e found.1)
    (step_goes_on h b last.0 last.1 a none b.program (codes "step") leads (λ c is. step_found b.names c b.program none b.program leads first (same_on b.program c.program (sym is)))
    (state_is last.1.kind t1.0) (empty_from last.1.defers t1.1) (ltb-true (length last.1.steps) 64 t2.1)))

pub defer_adds : (h : Head) (b e : Block) (name : List ℕ) → IsGoodBlock h b → with_defer b name ≡ Some e → Adds h b e (codes "defer " ++ name)
unfolding with_defer deferring
defer_adds h b e name good eq =
    bind_then (last_vertex b) _ e eq (λ (last : List Vertex × Vertex) at eq. bind_then (deferring b.names.signals last.1 name) _ e eq (λ (w : Vertex) at_w eq.
    let found = chosen_some (is_state last.1.kind) (option_map (λ (ds : List SignalId). let y : Vertex = record last.1 { defers = ds } in y) (with_signal b.names.signals last.1.defers name)) w at_w in
    by_signals last w (with_signal b.names.signals last.1.defers name) refl at eq found.0 found.1)) where
      by_signals : (last : List Vertex × Vertex) (w : Vertex) (o : Option (List SignalId)) → with_signal b.names.signals last.1.defers name ≡ o → last_vertex b ≡ Some last → Some (with_last_vertex b last.0 w b.program) ≡ Some e
          → is_state last.1.kind ≡ true → option_map (λ (ds : List SignalId). let y : Vertex = record last.1 { defers = ds } in y) o ≡ Some w → Adds h b e (codes "defer " ++ name)
      by_signals last w None at_new at eq state at_w = absurd cc
      by_signals last w (Some new) at_new at eq state at_w =
          let parts = last_vertex_takes b last at in
          let a = at_vertex h b last.0 last.1 good parts.1 parts.0 in
          let more = with_signal_takes b.names.signals last.1.defers name new at_new in
          let fits : IsNextSignal (length h.signals) last.1.defers more.signal = subst (λ (xs : List SignalDecl). IsNextSignal (length xs) last.1.defers more.signal) (signals_are h b good) more.fits in
          let same : with_last_vertex b last.0 (record last.1 { defers = last.1.defers ++ more.signal ∷ [] }) b.program ≡ e =
          ap (λ (ds : List SignalId). with_last_vertex b last.0 (record last.1 { defers = ds }) b.program) (sym more.new_is)
          ∙ ap (λ (x : Vertex). with_last_vertex b last.0 x b.program) (some_is (record last.1 { defers = new }) w at_w) ∙ some_is (with_last_vertex b last.0 w b.program) e eq in
          adds_as h b (with_last_vertex b last.0 (record last.1 { defers = last.1.defers ++ more.signal ∷ [] }) b.program) e _ _ same (ap (λ t. codes "defer " ++ t) more.name_is)
          (defer_goes_on h b last.0 last.1 a more.signal (state_is last.1.kind state) fits)

pub trigger_adds : (h : Head) (b e : Block) (name : List ℕ) → IsGoodBlock h b → with_trigger b name ≡ Some e → Adds h b e (codes "on " ++ name)
unfolding with_trigger triggered
trigger_adds h b e name good eq =
    bind_then (last_of b.transitions) _ e eq (λ (last : List Transition × Transition) at eq. bind_then (triggered b.names.signals last.1 name) _ e eq (λ (u : Transition) at_u eq.
    let found = chosen_some (is_plain last.1) (option_map (λ (gs : List SignalId). let y : Transition = record last.1 { triggers = gs } in y) (with_signal b.names.signals last.1.triggers name)) u at_u in
    by_signals last u (with_signal b.names.signals last.1.triggers name) refl at eq found.0 found.1)) where
      by_signals : (last : List Transition × Transition) (u : Transition) (o : Option (List SignalId)) → with_signal b.names.signals last.1.triggers name ≡ o → last_of b.transitions ≡ Some last → Some (with_last_transition b last.0 u b.program) ≡ Some e
          → is_plain last.1 ≡ true → option_map (λ (gs : List SignalId). let y : Transition = record last.1 { triggers = gs } in y) o ≡ Some u → Adds h b e (codes "on " ++ name)
      by_signals last u None at_new at eq plain at_u = absurd cc
      by_signals last u (Some new) at_new at eq plain at_u =
          let tests = and_parts (is_always last.1.guard) (eqb last.1.effect.0 0) plain in
          let a = at_transition h b last.0 last.1 good (last_of-takes b.transitions last at) in
          let more = with_signal_takes b.names.signals last.1.triggers name new at_new in
          let fits : IsNextSignal (length h.signals) last.1.triggers more.signal = subst (λ (xs : List SignalDecl). IsNextSignal (length xs) last.1.triggers more.signal) (signals_are h b good) more.fits in
          let same : with_last_transition b last.0 (record last.1 { triggers = last.1.triggers ++ more.signal ∷ [] }) b.program ≡ e =
          ap (λ (gs : List SignalId). with_last_transition b last.0 (record last.1 { triggers = gs }) b.program) (sym more.new_is)
          ∙ ap (λ (x : Transition). with_last_transition b last.0 x b.program) (some_is (record last.1 { triggers = new }) u at_u) ∙ some_is (with_last_transition b last.0 u b.program) e eq in
          adds_as h b (with_last_transition b last.0 (record last.1 { triggers = last.1.triggers ++ more.signal ∷ [] }) b.program) e _ _ same (ap (λ t. codes "on " ++ t) more.name_is)
          (trigger_goes_on h b last.0 last.1 a more.signal (always_is last.1.guard tests.0) (eqb-true last.1.effect.0 0 tests.1) fits)

pub else_adds : (h : Head) (b e : Block) → IsGoodBlock h b → with_else b ≡ Some e → Adds h b e (codes "else")
unfolding with_else
else_adds h b e good eq =
    bind_then (last_of b.transitions) _ e eq (λ (last : List Transition × Transition) at eq.
    let made : Block = with_last_transition b last.0 (guarded last.1 Otherwise) b.program in
    let found = chosen_some (is_plain last.1) (Some made) e eq in
    let tests = and_parts (is_always last.1.guard) (eqb last.1.effect.0 0) found.0 in
    let a = at_transition h b last.0 last.1 good (last_of-takes b.transitions last at) in
    subst (λ (x : Block). Adds h b x (codes "else")) (some_is made e found.1)
    (guard_goes_on h b last.0 last.1 a Otherwise b.program (codes "else") refl (λ c is. refl) (always_is last.1.guard tests.0) (eqb-true last.1.effect.0 0 tests.1)))

condition_goes_on : (h : Head) (b e : Block) (text : List ℕ) (last : List Transition × Transition) → IsGoodBlock h b → IsLineText text → last_of b.transitions ≡ Some last → guarding b text last ≡ Ok (Some e) → Adds h b e (codes "if " ++ text)
condition_goes_on h b e text last good is at eq =
    let put : GuardId × Program → Block = λ x. with_last_transition b last.0 (guarded last.1 (When x.0)) x.1 in
    let found = met (is_plain last.1) (lifted put (with_guard b.names b.program text)) e eq in
    let tests = and_parts (is_always last.1.guard) (eqb last.1.effect.0 0) found.0 in
    let read = lifted_takes put (with_guard b.names b.program text) e found.1 in
    let reads = guard_takes b.names b.program text read.0 is read.1 in
    let a = at_transition h b last.0 last.1 good (last_of-takes b.transitions last at) in
    adds_as h b (put read.0) e _ _ read.2 (ap (λ t. codes "if " ++ t) reads.text_is)
    (guard_goes_on h b last.0 last.1 a (When read.0.0) read.0.1 (codes "if " ++ cond_text b.names reads.next.cond) reads.next
    (λ c is. guard_found b.names c b.program (When read.0.0) read.0.1 reads.next (same_on read.0.1 c.program (sym is))) (always_is last.1.guard tests.0) (eqb-true last.1.effect.0 0 tests.1))

condition_adds : (h : Head) (b e : Block) (text : List ℕ) → IsGoodBlock h b → IsLineText text → with_condition b text ≡ Ok (Some e) → Adds h b e (codes "if " ++ text)
unfolding with_condition
condition_adds h b e text good is eq = by_last (last_of b.transitions) refl eq where
  by_last : (o : Option (List Transition × Transition)) → last_of b.transitions ≡ o → guarding_last b text o ≡ Ok (Some e) → Adds h b e (codes "if " ++ text)
  by_last None at eq = absurd cc
  by_last (Some last) at eq = condition_goes_on h b e text last good is at eq

effect_goes_on_by : (h : Head) (b e : Block) (text : List ℕ) (last : List Transition × Transition) → IsGoodBlock h b → IsLineText text → last_of b.transitions ≡ Some last → affecting b text last ≡ Ok (Some e) → Adds h b e (codes "effect " ++ text)
effect_goes_on_by h b e text last good is at eq =
    let put : Numbered → Block = λ x. with_last_transition b last.0 (affected last.1 x.0) x.1 in
    let found = met (eqb last.1.effect.0 0) (lifted put (with_act b.names b.program text)) e eq in
    let read = lifted_takes put (with_act b.names b.program text) e found.1 in
    let reads = act_takes b.names b.program text read.0 is read.1 in
    let a = at_transition h b last.0 last.1 good (last_of-takes b.transitions last at) in
    adds_as h b (put read.0) e _ _ read.2 (ap (λ t. codes "effect " ++ t) reads.text_is) (effect_goes_on h b last.0 last.1 a read.0.0 read.0.1 reads.next (eqb-true last.1.effect.0 0 found.0))

effect_adds : (h : Head) (b e : Block) (text : List ℕ) → IsGoodBlock h b → IsLineText text → with_effect b text ≡ Ok (Some e) → Adds h b e (codes "effect " ++ text)
unfolding with_effect
effect_adds h b e text good is eq = by_last (last_of b.transitions) refl eq where
  by_last : (o : Option (List Transition × Transition)) → last_of b.transitions ≡ o → affecting_last b text o ≡ Ok (Some e) → Adds h b e (codes "effect " ++ text)
  by_last None at eq = absurd cc
  by_last (Some last) at eq = effect_goes_on_by h b e text last good is at eq

pub action_adds : (h : Head) (b e : Block) (word : ActionLine) (text : List ℕ) → IsGoodBlock h b → IsLineText text → with_action b word text ≡ Ok (Some e) → Adds h b e (action_word word ++ text)
action_adds h b e actions.Entry text good is eq = behaviour_adds h b e actions.Entry text good is eq
action_adds h b e actions.Exit text good is eq = behaviour_adds h b e actions.Exit text good is eq
action_adds h b e actions.Step text good is eq = behaviour_adds h b e actions.Step text good is eq
action_adds h b e actions.When text good is eq = condition_adds h b e text good is eq
action_adds h b e actions.Effect text good is eq = effect_adds h b e text good is eq
