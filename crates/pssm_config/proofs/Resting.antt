-- The tables fit the machine once a region is opened or a do step done.
use Rattle.std.proofs.Common.{◌≡◌, ◌<◌, ◌≤◌, ◌+◌, ℕ, List, length, get_or, inl, inr, Bool, subst, sym, ◌∙◌, arith}
use Rattle.std.proofs.Math.ListN.{set, length-set}
use Rattle.std.proofs.lemmas.Bool.{cases_order}
use Rattle.pssm_model.specs.declared.ids.VertexId.{VertexId}
use Rattle.pssm_model.specs.declared.elements.DraftMachine.{DraftMachine}
use Rattle.pssm_model.specs.Configuration.{IsNextDoStep, do_steps_of}
use Rattle.pssm_config.specs.Tables.{Tables, Fits, configuration_of}
use Rattle.pssm_config.proofs.Putting.{put_vertex}

-- Which regions are left empty does not matter to the machine.
pub fits_with_empty : (m : DraftMachine) (t : Tables) (empty : List Bool) → Fits m t → length empty ≡ length t.empty → Fits m (record t { empty = empty })
fits_with_empty m t empty fits even = record {
  shape = fits.shape;
  wide = record {
    active = fits.wide.active;
    steps = fits.wide.steps;
    held = fits.wide.held;
    ended = fits.wide.ended;
    remembered = fits.wide.remembered;
    empty = even ∙ fits.wide.empty;
  };
  states = fits.states;
  held = fits.held;
  ended = fits.ended;
  remembered = fits.remembered;
  steps = fits.steps;
}

module _ (m : DraftMachine) (t : Tables) (s : VertexId) (k : ℕ) (next : IsNextDoStep m (configuration_of t) s k) where
  -- the next do step comes after just those that are done
  pub next_step : get_or t.steps s.0 0 ≡ k
  next_step = elim (cases_order (get_or t.steps s.0 0) k) [
    | inl same ↦ same
    | inr (inl fewer) ↦ let clash = next.earlier (get_or t.steps s.0 0) fewer in absurd (omega (arith, clash))
    | inr (inr more) ↦ absurd (next.waiting more)
  ]

  steps_now : (n : ℕ) → n ≡ get_or t.steps s.0 0 → Fits m t → s.0 < length t.steps → (v : VertexId) → get_or (set t.steps s.0 (n + 1)) v.0 0 ≤ do_steps_of m v
  steps_now n is_n fits lt v = elim (put_vertex t.steps s v (n + 1) 0 lt) [
    | inl (same, is) ↦
        let At : VertexId → Type 0 = λ w. n + 1 ≤ do_steps_of m w in
        let Says : ℕ → Type 0 = λ k. k ≤ do_steps_of m v in
        subst Says (sym is) (subst At (sym same) (omega (arith, is_n, next_step, next.in_range)))
    | inr (other, is) ↦ let Says : ℕ → Type 0 = λ k. k ≤ do_steps_of m v in subst Says (sym is) (fits.steps v)
  ]

  -- the tables with one do step more
  pub fits_with_step : (n : ℕ) → n ≡ get_or t.steps s.0 0 → Fits m t → s.0 < length t.steps → Fits m (record t { steps = set t.steps s.0 (n + 1) })
  fits_with_step n is_n fits lt = record {
    shape = fits.shape;
    wide = record {
      active = fits.wide.active;
      steps = length-set t.steps s.0 (n + 1) ∙ fits.wide.steps;
      held = fits.wide.held;
      ended = fits.wide.ended;
      remembered = fits.wide.remembered;
      empty = fits.wide.empty;
    };
    states = fits.states;
    held = fits.held;
    ended = fits.ended;
    remembered = fits.remembered;
    steps = steps_now n is_n fits lt;
  }
