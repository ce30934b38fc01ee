-- The do tasks that are listed, counted from the first vertex on: they are the next do steps, each once.
use Rattle.std.proofs.Common.{◌≡◌, ◌≢◌, ◌<◌, ◌+◌, ◌++◌, ℕ, zero, suc, List, [], ◌∷◌, length, Contains, Option, Some, None, option_map, slice_get, refl, sym, ap, subst, ◌∙◌, inl, inr, ⊎_elim, add-one, append-nil, length-append, arith}
use Rattle.std.specs.Prelude.{AllPairs}
use Rattle.std.specs.Option.{option_to_list}
use Rattle.std.proofs.lemmas.Bool.{cases_eq}
use Rattle.std.proofs.lemmas.List.Elements.{Contains-append_left, Contains-append_right, Contains-append_cases, Contains-get_or}
use Rattle.std.proofs.lemmas.List.Quantifiers.{all_pairs_push}
use Rattle.pssm_model.specs.declared.ids.VertexId.{VertexId}
use Rattle.pssm_model.specs.declared.elements.DraftMachine.{DraftMachine}
use Rattle.pssm_model.specs.declared.elements.Vertex.{Vertex}
use Rattle.pssm_model.specs.declared.elements.VertexKind.{VertexKind}
use Rattle.pssm_model.specs.declared.elements.VertexKind.TheVariants as kinds
use Rattle.pssm_model.specs.Forest.{vertex_at, HasKind}
use Rattle.pssm_model.specs.Configuration.{IsNextDoStep}
use Rattle.pssm_model.proofs.ElementLaws.{mapped_some, nothing_in_nil}
use Rattle.pssm_model.proofs.RouteLaws.{is_one, in_one, none_in_order}
use Rattle.std.proofs.lemmas.Option.{slice_get_within}
use Rattle.pssm_config.specs.Tables.{Tables, Fits, configuration_of}
use Rattle.pssm_semantics.specs.declared.stimulus.Task.{Task}
use Rattle.pssm_semantics.specs.declared.stimulus.Task.TheVariants as tasks
use Rattle.pssm_object.specs.Doing.{next_do_step, do_task_of, do_tasks_below, do_tasks}
use Rattle.pssm_object.proofs.DoingNext.{next_exactly}

abbrev pub vertex : ℕ → VertexId
vertex n = record { 0 = n }

slice_get-front : {X : Type 0} (xs ys : List X) (k : ℕ) (x : X) → slice_get xs k ≡ Some x → slice_get (xs ++ ys) k ≡ Some x
slice_get-front [] ys k x e = absurd (let clash : None ≡ Some x = e in cc)
slice_get-front (z ∷ zs) ys zero x e = e
slice_get-front (z ∷ zs) ys (suc k) x e = slice_get-front zs ys k x e

middle : {X : Type 0} (xs : List X) (x : X) (ys : List X) → slice_get (xs ++ (x ∷ ys)) (length xs) ≡ Some x
middle [] x ys = refl
middle (z ∷ zs) x ys = middle zs x ys

module _ (m : DraftMachine) (t : Tables) where
  abbrev below : ℕ → List Task
  below n = do_tasks_below m t n

  abbrev task_at : ℕ → Option Task
  task_at n = do_task_of m t (vertex n)

  grown : (n : ℕ) → below (n + 1) ≡ below n ++ option_to_list (task_at n)
  grown n = ap (λ k. below k) (add-one n)

  module _ (n : ℕ) where
    with_task : (task : Task) → Some task ≡ task_at n → below (n + 1) ≡ below n ++ task ∷ []
    with_task task is = grown n ∙ ap (λ (r : Option Task). below n ++ option_to_list r) (sym is)

    with_none : (let none : Option Task = None in none) ≡ task_at n → below (n + 1) ≡ below n
    with_none is = grown n ∙ ap (λ (r : Option Task). below n ++ option_to_list r) (sym is) ∙ append-nil (below n)

    pub counts_task : (task : Task) → Some task ≡ task_at n → length (below (n + 1)) ≡ length (below n) + 1
    counts_task task is = ap (λ (ts : List Task). length ts) (with_task task is) ∙ length-append (below n) (task ∷ [])

    pub counts_none : (let none : Option Task = None in none) ≡ task_at n → length (below (n + 1)) ≡ length (below n)
    counts_none is = ap (λ (ts : List Task). length ts) (with_none is)

  -- a task stands at the place that counts those before it
  pub task_here : (n : ℕ) (task : Task) (i : ℕ) → Some task ≡ task_at n → length (below n) ≡ i → (k : ℕ) → n < k → slice_get (below k) i ≡ Some task
  task_here n task i is count zero lt = absurd (omega (arith, lt))
  task_here n task i is count (suc k) lt = elim (cases_eq n k) [
    | inl same ↦ subst (λ j. slice_get (below (suc j)) i ≡ Some task) same here
    | inr other ↦ slice_get-front (below k) (option_to_list (task_at k)) i task (task_here n task i is count k (omega (arith, lt, other)))
  ] where
    here : slice_get (below (suc n)) i ≡ Some task
    here =
        subst (λ r. slice_get (below n ++ option_to_list r) i ≡ Some task) is
        (subst (λ j. slice_get (below n ++ task ∷ []) j ≡ Some task) count (middle (below n) task []))

  -- what is listed is a task of a vertex below the number
  listed_in : (r : Option Task) (task : Task) → Contains (option_to_list r) task → r ≡ Some task
  listed_in None task h = absurd (nothing_in_nil task h)
  listed_in (Some x) task h = ap Some (sym (is_one x task h))

  pub below_is : (n : ℕ) (task : Task) → Contains (below n) task → (s : VertexId) × (s.0 < n) × (do_task_of m t s ≡ Some task)
  below_is zero task h = absurd (nothing_in_nil task h)
  below_is (suc n) task h =
      ⊎_elim
      (λ before. let at = below_is n task before in (at.0, (let lt = at.1 in omega (arith, lt)), at.2))
      (λ last. (vertex n, omega arith, listed_in (task_at n) task last))
      (Contains-append_cases (below n) (option_to_list (task_at n)) task h)

  -- and each is listed
  in_listed : (r : Option Task) (task : Task) → r ≡ Some task → Contains (option_to_list r) task
  in_listed None task e = absurd (let clash : None ≡ Some task = e in cc)
  in_listed (Some x) task e = let same : x ≡ task = cc in subst (λ y. Contains (x ∷ []) y) same (in_one x)

  pub is_below : (n : ℕ) (s : VertexId) (task : Task) → s.0 < n → do_task_of m t s ≡ Some task → Contains (below n) task
  is_below zero s task lt is = absurd (omega (arith, lt))
  is_below (suc n) s task lt is = elim (cases_eq s.0 n) [
    | inl same ↦
        Contains-append_right (below n) (option_to_list (task_at n)) task
        (in_listed (task_at n) task (subst (λ k. task_at k ≡ Some task) same is))
    | inr other ↦
        Contains-append_left (below n) (option_to_list (task_at n)) task (is_below n s task (omega (arith, lt, other)) is)
  ]

  -- a task is that of one vertex, with its next do step
  step_is : (s : VertexId) (r : Option ℕ) (task : Task) → option_map (tasks.DoStep s) r ≡ Some task → (k : ℕ) × (r ≡ Some k) × (tasks.DoStep s k ≡ task)
  step_is s None task e = absurd (let clash : None ≡ Some task = e in cc)
  step_is s (Some k) task e = (k, refl, (let same : Some (tasks.DoStep s k) ≡ Some task = e in cc))

  pub task_is : (s : VertexId) (task : Task) → do_task_of m t s ≡ Some task → (k : ℕ) × IsNextDoStep m (configuration_of t) s k × (tasks.DoStep s k ≡ task)
  task_is s task e = let at = step_is s (next_do_step m t s) task e in (at.0, (next_exactly m t s at.0).0 at.1, at.2)

  pub is_task : (s : VertexId) (k : ℕ) → IsNextDoStep m (configuration_of t) s k → do_task_of m t s ≡ Some (tasks.DoStep s k)
  is_task s k h = ap (λ r. option_map (tasks.DoStep s) r) ((next_exactly m t s k).1 h)

  state_of : Task → VertexId
  state_of (tasks.Exit s) = s
  state_of (tasks.Enter s) = s
  state_of (tasks.DoStep s k) = s
  state_of (tasks.Effect u) = vertex 0

  state_is : (s : VertexId) (k : ℕ) (task : Task) → tasks.DoStep s k ≡ task → s ≡ state_of task
  unfolding state_of
  state_is s k task e = ap (λ x. state_of x) e

  -- so no task is listed twice
  push_apart : (r : Option Task) (ts : List Task) → AllPairs (λ a b. a ≢ b) ts → ((x task : Task) → Contains ts x → r ≡ Some task → x ≡ task → ⊥)
      → AllPairs (λ a b. a ≢ b) (ts ++ option_to_list r)
  push_apart None ts pairs apart = subst (λ xs. AllPairs (λ a b. a ≢ b) xs) (sym (append-nil ts)) pairs
  push_apart (Some task) ts pairs apart =
      all_pairs_push (λ a b. a ≢ b) ts task pairs (λ k d lt same. apart _ task (Contains-get_or ts k d lt) refl same)

  pub once_below : (n : ℕ) → AllPairs (λ a b. a ≢ b) (below n)
  once_below zero = none_in_order (λ a b. a ≢ b)
  once_below (suc n) =
      push_apart (task_at n) (below n) (once_below n)
      (λ x task inside is same.
      let at = below_is n x inside in
      let first = task_is at.0 x at.2 in
      let last = task_is (vertex n) task is in
      let lt = at.1 in
      let one : at.0 ≡ vertex n = state_is at.0 first.0 x first.2 ∙ ap (λ y. state_of y) same ∙ sym (state_is (vertex n) last.0 task last.2) in
      let number : at.0.0 ≡ n = ap (λ (v : VertexId). v.0) one in
      omega (arith, lt, number))

-- a State or final state is one of the machine
kind_there : (m : DraftMachine) (v : VertexId) (k : VertexKind) → HasKind m v k → v.0 < length m.vertices
kind_there m v k h =
    let at = mapped_some (λ (x : Vertex). x.kind) (vertex_at m v) k h in
    slice_get_within m.vertices v.0 at.0 at.1

pub active_there : (m : DraftMachine) (t : Tables) → Fits m t → (s : VertexId) → (configuration_of t).Active s → s.0 < length m.vertices
active_there m t fits s active = ⊎_elim (kind_there m s kinds.State) (kind_there m s kinds.Final) (fits.states s active)

-- the do tasks are the next do steps of the active States, each once
module _ (m : DraftMachine) (t : Tables) where
  pub in_do_tasks : (task : Task) → Contains (do_tasks m t) task
      → (s : VertexId) × (k : ℕ) × (task ≡ tasks.DoStep s k) × IsNextDoStep m (configuration_of t) s k
  in_do_tasks task inside =
      let at = below_is m t (length m.vertices) task inside in
      let is = task_is m t at.0 task at.2 in
      (at.0, is.0, sym is.2, is.1)

  pub do_task_listed : Fits m t → (s : VertexId) (k : ℕ) → IsNextDoStep m (configuration_of t) s k → Contains (do_tasks m t) (tasks.DoStep s k)
  do_task_listed fits s k h =
      is_below m t (length m.vertices) s (tasks.DoStep s k) (active_there m t fits s h.active) (is_task m t s k h)

  pub do_tasks_once : AllPairs (λ a b. a ≢ b) (do_tasks m t)
  do_tasks_once = once_below m t (length m.vertices)

  -- with a vertex of the machine
  pub next_of_task : (s : VertexId) (k : ℕ) → Contains (do_tasks m t) (tasks.DoStep s k) → IsNextDoStep m (configuration_of t) s k
  next_of_task s k inside =
      let at = in_do_tasks (tasks.DoStep s k) inside in
      let state : s ≡ at.0 = let same = at.2 in cc in
      let number : k ≡ at.1 = let same = at.2 in cc in
      subst (λ v. IsNextDoStep m (configuration_of t) v k) (sym state)
      (subst (λ n. IsNextDoStep m (configuration_of t) at.0 n) (sym number) at.3)

  pub do_task_there : Fits m t → (s : VertexId) (k : ℕ) → Contains (do_tasks m t) (tasks.DoStep s k) → s.0 < length m.vertices
  do_task_there fits s k inside = active_there m t fits s (next_of_task s k inside).active
