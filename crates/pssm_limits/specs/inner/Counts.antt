-- What is counted of a machine, and the bodies of its vertices and transitions one by one.
use Rattle.std.specs.Prelude.{ℕ, ◌+◌, Bool, ◌&&◌, List, length, min, nat_le, slice_index_or}
use Rattle.pssm_model.specs.declared.draft_setting.DraftParts.{DraftParts}
use Rattle.pssm_model.specs.declared.draft_setting.PartVertex.{PartVertex}
use Rattle.pssm_model.specs.declared.draft_setting.PartTransition.{PartTransition}
use Rattle.pssm_model.specs.DraftSettings.{one_if_given, guard_bodies, body_count, most_elements}
use Rattle.pssm_model.specs.declared.draft_setting.Draft.{Draft}
use Rattle.pssm_totals.specs.Totals.{AreTotals, extends_of, counts_of}
use Rattle.pssm_limits.specs.declared.machines.Totals.{Totals}
use Rattle.pssm_limits.specs.declared.counts.Counted.{Counted}
use Rattle.pssm_limits.specs.declared.counts.Counted.TheVariants as counted
use Rattle.pssm_numbering.specs.Numbering.{ModelFile}
use Rattle.pssm_drafting.specs.Drafts.{parts_at}

-- how many behaviours a vertex has
abbrev pub vertex_bodies : PartVertex → ℕ
vertex_bodies v = one_if_given v.entry + one_if_given v.exit + one_if_given v.steps

-- how many guards and effects a transition has
abbrev pub transition_bodies : PartTransition → ℕ
transition_bodies t = guard_bodies t.guard + one_if_given t.effect

-- how many of this a machine has of its own
abbrev pub count_by : Counted → DraftParts → ℕ
count_by counted.Regions p = length p.regions
count_by counted.Vertices p = length p.vertices
count_by counted.Transitions p = length p.transitions
count_by counted.Bodies p = body_count p

-- the same of a machine of a file, cut off at one above the limit
abbrev pub cut_count : Counted → ModelFile → ℕ → ℕ
cut_count what file m = min (most_elements + 1) (count_by what (parts_at file m))

-- The total at this place keeps the limit.
abbrev pub keeps_limit : List ℕ → ℕ → Bool
keeps_limit totals k = nat_le (slice_index_or totals k 0) most_elements

-- The totals at this place keep the limit.
abbrev pub are_few : Totals → ℕ → Bool
are_few totals k =
    keeps_limit totals.regions.items k && keeps_limit totals.vertices.items k && keeps_limit totals.transitions.items k && keeps_limit totals.bodies.items k

-- the totals of the machines of a draft
pub record HoldTotals (draft : Draft) (totals : Totals) : Type 0 where
  pub regions : AreTotals (extends_of draft) (counts_of (count_by counted.Regions) draft) totals.regions.items
  pub vertices : AreTotals (extends_of draft) (counts_of (count_by counted.Vertices) draft) totals.vertices.items
  pub transitions : AreTotals (extends_of draft) (counts_of (count_by counted.Transitions) draft) totals.transitions.items
  pub bodies : AreTotals (extends_of draft) (counts_of (count_by counted.Bodies) draft) totals.bodies.items
