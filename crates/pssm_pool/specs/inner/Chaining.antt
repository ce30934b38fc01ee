-- The pools as the lists that they are linked in.
use Rattle.std.specs.Prelude.{ℕ, List, map}
use Rattle.pssm_links.specs.Chained.{Linked, Chained, list_of}
use Rattle.pssm_pool.specs.declared.pools.Waiting.{Waiting}
use Rattle.pssm_pool.specs.Waits.{Waits}

-- the pools whose signals are linked so: a list for each object
abbrev pub waits_of : Chained Waiting → Waits
waits_of chains = record {
  waiting = map (λ row. map (λ e. e.value) row) chains.lists;
  slots = map (λ row. map (λ e. e.slot) row) chains.lists;
  spare = chains.spare;
}

-- the signals of one list
abbrev pub values_of : List (List (Linked Waiting)) → ℕ → List Waiting
values_of lists l = map (λ e. e.value) (list_of lists l)
