-- A row of the table of places that is changed: what it keeps for each item.
use Rattle.std.proofs.Common.{◌≡◌, ◌≢◌, ◌<◌, ◌∙◌, ℕ, List, length, get_or, refl, sym, ap, set, ⊎_elim}
use Rattle.std.proofs.lemmas.List.{get_or-set_same, get_or-set_other}
use Rattle.std.proofs.lemmas.Bool.{cases_eq}
use Rattle.pssm_model.specs.declared.ids.VertexId.{VertexId}
use Rattle.pssm_model.specs.declared.ids.RegionId.{RegionId}
use Rattle.pssm_model.specs.declared.ids.TransId.{TransId}
use Rattle.pssm_model.specs.declared.steps.Item.{Item}
use Rattle.pssm_model.specs.declared.steps.Item.TheVariants.{Exit, Effect, Enter, Opened, Pick}
use Rattle.pssm_model.specs.declared.steps.Mode.TheVariants.{Plain, Shallow, Deep}
use Rattle.pssm_plan.specs.declared.places.Row.{Row}
use Rattle.pssm_plan.specs.inner.Places.{item_number, kept_in, with_kept, no_row, place_in}

pub kept_here : (row : Row) (x : Item) (place : ℕ) → kept_in (with_kept row x place) x ≡ place
kept_here row (Exit s) place = refl
kept_here row (Effect s) place = refl
kept_here row (Enter s) place = refl
kept_here row (Opened s Plain) place = refl
kept_here row (Opened s Shallow) place = refl
kept_here row (Opened s Deep) place = refl
kept_here row (Pick s) place = refl

-- another item of the same number is of another kind
pub kept_there : (row : Row) (x y : Item) (place : ℕ) → item_number y ≡ item_number x → y ≢ x → kept_in (with_kept row x place) y ≡ kept_in row y
kept_there row (Exit s) (Exit q) place same other = absurd (other (ap (λ (n : ℕ). let v : VertexId = record { 0 = n } in Exit v) same))
kept_there row (Exit s) (Effect q) place same other = refl
kept_there row (Exit s) (Enter q) place same other = refl
kept_there row (Exit s) (Opened q Plain) place same other = refl
kept_there row (Exit s) (Opened q Shallow) place same other = refl
kept_there row (Exit s) (Opened q Deep) place same other = refl
kept_there row (Exit s) (Pick q) place same other = refl
kept_there row (Effect s) (Exit q) place same other = refl
kept_there row (Effect s) (Effect q) place same other = absurd (other (ap (λ (n : ℕ). let v : TransId = record { 0 = n } in Effect v) same))
kept_there row (Effect s) (Enter q) place same other = refl
kept_there row (Effect s) (Opened q Plain) place same other = refl
kept_there row (Effect s) (Opened q Shallow) place same other = refl
kept_there row (Effect s) (Opened q Deep) place same other = refl
kept_there row (Effect s) (Pick q) place same other = refl
kept_there row (Enter s) (Exit q) place same other = refl
kept_there row (Enter s) (Effect q) place same other = refl
kept_there row (Enter s) (Enter q) place same other = absurd (other (ap (λ (n : ℕ). let v : VertexId = record { 0 = n } in Enter v) same))
kept_there row (Enter s) (Opened q Plain) place same other = refl
kept_there row (Enter s) (Opened q Shallow) place same other = refl
kept_there row (Enter s) (Opened q Deep) place same other = refl
kept_there row (Enter s) (Pick q) place same other = refl
kept_there row (Opened s Plain) (Exit q) place same other = refl
kept_there row (Opened s Plain) (Effect q) place same other = refl
kept_there row (Opened s Plain) (Enter q) place same other = refl
kept_there row (Opened s Plain) (Opened q Plain) place same other = absurd (other (ap (λ (n : ℕ). let v : RegionId = record { 0 = n } in Opened v Plain) same))
kept_there row (Opened s Plain) (Opened q Shallow) place same other = refl
kept_there row (Opened s Plain) (Opened q Deep) place same other = refl
kept_there row (Opened s Plain) (Pick q) place same other = refl
kept_there row (Opened s Shallow) (Exit q) place same other = refl
kept_there row (Opened s Shallow) (Effect q) place same other = refl
kept_there row (Opened s Shallow) (Enter q) place same other = refl
kept_there row (Opened s Shallow) (Opened q Plain) place same other = refl
kept_there row (Opened s Shallow) (Opened q Shallow) place same other = absurd (other (ap (λ (n : ℕ). let v : RegionId = record { 0 = n } in Opened v Shallow) same))
kept_there row (Opened s Shallow) (Opened q Deep) place same other = refl
kept_there row (Opened s Shallow) (Pick q) place same other = refl
kept_there row (Opened s Deep) (Exit q) place same other = refl
kept_there row (Opened s Deep) (Effect q) place same other = refl
kept_there row (Opened s Deep) (Enter q) place same other = refl
kept_there row (Opened s Deep) (Opened q Plain) place same other = refl
kept_there row (Opened s Deep) (Opened q Shallow) place same other = refl
kept_there row (Opened s Deep) (Opened q Deep) place same other = absurd (other (ap (λ (n : ℕ). let v : RegionId = record { 0 = n } in Opened v Deep) same))
kept_there row (Opened s Deep) (Pick q) place same other = refl
kept_there row (Pick s) (Exit q) place same other = refl
kept_there row (Pick s) (Effect q) place same other = refl
kept_there row (Pick s) (Enter q) place same other = refl
kept_there row (Pick s) (Opened q Plain) place same other = refl
kept_there row (Pick s) (Opened q Shallow) place same other = refl
kept_there row (Pick s) (Opened q Deep) place same other = refl
kept_there row (Pick s) (Pick q) place same other = absurd (other (ap (λ (n : ℕ). let v : VertexId = record { 0 = n } in Pick v) same))

-- the row of an item is changed: the places of all others stay
pub others_kept : (rows : List Row) (x y : Item) (place : ℕ) → item_number x < length rows → y ≢ x
    → place_in (set rows (item_number x) (with_kept (get_or rows (item_number x) no_row) x place)) y ≡ place_in rows y
others_kept rows x y place lt other = ⊎_elim same apart (cases_eq (item_number y) (item_number x))
  where
    row : Row
    row = get_or rows (item_number x) no_row

    changed : List Row
    changed = set rows (item_number x) (with_kept row x place)

    apart : (item_number y ≢ item_number x) → place_in changed y ≡ place_in rows y
    apart differ = ap (λ (r : Row). kept_in r y) (get_or-set_other rows (item_number x) (item_number y) (with_kept row x place) no_row differ)

    same : item_number y ≡ item_number x → place_in changed y ≡ place_in rows y
    same e =
        let at : get_or changed (item_number y) no_row ≡ with_kept row x place =
        ap (λ (n : ℕ). get_or changed n no_row) e ∙ get_or-set_same rows (item_number x) (with_kept row x place) no_row lt in
        let was : row ≡ get_or rows (item_number y) no_row = ap (λ (n : ℕ). get_or rows n no_row) (sym e) in
        ap (λ (r : Row). kept_in r y) at ∙ kept_there row x y place e other ∙ ap (λ (r : Row). kept_in r y) was

-- its own place is the new one
pub place_kept : (rows : List Row) (x : Item) (place : ℕ) → item_number x < length rows
    → place_in (set rows (item_number x) (with_kept (get_or rows (item_number x) no_row) x place)) x ≡ place
place_kept rows x place lt =
    ap (λ (r : Row). kept_in r x) (get_or-set_same rows (item_number x) (with_kept (get_or rows (item_number x) no_row) x place) no_row lt)
    ∙ kept_here (get_or rows (item_number x) no_row) x place
