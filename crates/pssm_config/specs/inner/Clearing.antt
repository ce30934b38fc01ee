-- What is taken out of a table by region.
use Rattle.std.specs.Prelude.{◌↔◌, List, Bool, false, IsTrue, Contains, slice_index_or}
use Rattle.pssm_model.specs.declared.ids.RegionId.{RegionId}

-- The marks are those from before, but of these regions.
abbrev pub AreCleared : List Bool → List RegionId → List Bool → Type 0
AreCleared old regions new =
    (r : RegionId) → IsTrue (slice_index_or new r.0 false) ↔ (IsTrue (slice_index_or old r.0 false) × (Contains regions r → ⊥))
