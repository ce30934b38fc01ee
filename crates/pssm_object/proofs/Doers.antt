-- A number below which all vertices with do steps are.
use Rattle.std.proofs.Common.{◌≡◌, ◌≤◌, ◌<◌, ◌+◌, ◌-◌, ℕ, zero, suc, length, Option, Some, None, refl, sym, ap, subst, ◌∙◌, inl, inr, ⊎_elim, arith}
use Rattle.std.specs.Option.{option_map_or}
use Rattle.std.proofs.lemmas.Bool.{cases_eq, cases_lt}
use Rattle.std.proofs.lemmas.Option.{slice_get_within}
use Rattle.pssm_model.specs.declared.ids.VertexId.{VertexId}
use Rattle.pssm_model.specs.declared.elements.DraftMachine.{DraftMachine}
use Rattle.pssm_model.specs.declared.elements.Vertex.{Vertex}
use Rattle.pssm_model.specs.Forest.{vertex_at}
use Rattle.pssm_model.specs.Configuration.{do_steps_of}
use Rattle.pssm_config.specs.Tables.{Tables}
use Rattle.pssm_semantics.specs.declared.stimulus.Task.{Task}
use Rattle.pssm_object.specs.Doing.{do_task_of, do_tasks_below, do_tasks, AreDoersBelow}
use Rattle.pssm_object.proofs.DoingLists.{vertex, counts_none, task_is}

module _ (m : DraftMachine) where
  -- no vertex from the one number on and before the other has do steps
  abbrev pub HasNoneFrom : ℕ → ℕ → Type 0
  HasNoneFrom from to = (s : VertexId) → from ≤ s.0 → s.0 < to → do_steps_of m s ≡ 0

  pub none_more : (from v : ℕ) → HasNoneFrom from v → do_steps_of m (vertex v) ≡ 0 → HasNoneFrom from (v + 1)
  none_more from v none here s le lt = elim (cases_eq s.0 v) [
    | inl same ↦ ap (λ k. do_steps_of m (vertex k)) same ∙ here
    | inr other ↦ none s le (omega (arith, lt, other))
  ]

  pub none_after : (v : ℕ) → HasNoneFrom (v + 1) (v + 1)
  none_after v s le lt = absurd (omega (arith, le, lt))

  none_past : (s : VertexId) → length m.vertices ≤ s.0 → (found : Option Vertex) → vertex_at m s ≡ found → option_map_or (λ (x : Vertex). length x.steps) found 0 ≡ 0
  none_past s past None is = refl
  none_past s past (Some x) is = let lt = slice_get_within m.vertices s.0 x is in absurd (omega (arith, past, lt))

  pub doers_below : (n : ℕ) → n ≤ length m.vertices → HasNoneFrom n (length m.vertices) → AreDoersBelow m n
  doers_below n within none = record {
    within = within;
    none = λ s le. ⊎_elim (λ lt. none s le lt) (λ past. none_past s past (vertex_at m s) refl) (cases_lt s.0 (length m.vertices));
  }

  -- So no do task is past it.
  module _ (t : Tables) where
    none_at : (k : ℕ) → do_steps_of m (vertex k) ≡ 0 → (found : Option Task) → do_task_of m t (vertex k) ≡ found
        → (let none : Option Task = None in none) ≡ do_task_of m t (vertex k)
    none_at k none None is = sym is
    none_at k none (Some task) is =
        let at = task_is m t (vertex k) task is in
        let lt = at.1.in_range in
        absurd (omega (arith, none, lt))

    as_many : (n : ℕ) → AreDoersBelow m n → (d : ℕ) → length (do_tasks_below m t (n + d)) ≡ length (do_tasks_below m t n)
    as_many n below zero = ap (λ k. length (do_tasks_below m t k)) (let same : n + 0 ≡ n = omega arith in same)
    as_many n below (suc d) =
        ap (λ k. length (do_tasks_below m t k)) (let same : n + suc d ≡ (n + d) + 1 = omega arith in same)
        ∙ counts_none m t (n + d) (none_at (n + d) (below.none (vertex (n + d)) (omega arith)) (do_task_of m t (vertex (n + d))) refl)
        ∙ as_many n below d

    pub all_counted : (n k : ℕ) → AreDoersBelow m n → n ≤ k → length (do_tasks_below m t k) ≡ length (do_tasks m t)
    all_counted n k below past =
        let within = below.within in
        ap (λ j. length (do_tasks_below m t j)) (let same : k ≡ n + (k - n) = omega (arith, past) in same)
        ∙ as_many n below (k - n)
        ∙ sym (as_many n below (length m.vertices - n))
        ∙ ap (λ j. length (do_tasks_below m t j)) (let same : n + (length m.vertices - n) ≡ length m.vertices = omega (arith, within) in same)
