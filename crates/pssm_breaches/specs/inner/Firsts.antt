-- The first forms of elements, looked up by their numbers.
use Rattle.std.specs.Prelude.{◌≡◌, ℕ, Option, Some, option_and_then, slice_get}
use Rattle.pssm_model.specs.declared.elements.Owner.{Owner}
use Rattle.pssm_model.specs.declared.elements.Owner.TheVariants as owners
use Rattle.pssm_model.specs.declared.draft_setting.ElementRef.{ElementRef}
use Rattle.pssm_heritage.specs.declared.kinds.ElementKind.TheVariants.{Region, Vertex}
use Rattle.pssm_heritage.specs.Heritages.{Numbering, number_in, Lineage, numbering_of}

-- the first form that stands by the number of an element
abbrev pub first_in : Numbering → ElementRef → Option ElementRef
first_in numbering e = option_and_then (λ n. slice_get numbering.firsts n) (number_in numbering e)

-- The same first form stands by the numbers of both.
pub record HaveSameFirst (numbering : Numbering) (e f : ElementRef) : Type 0 where
  pub first : ElementRef
  pub one : first_in numbering e ≡ Some first
  pub other : first_in numbering f ≡ Some first

-- The same first form stands by the numbers of both owners, each in its machine.
abbrev pub OwnersMeet : Lineage → ℕ → Owner → ℕ → Owner → Type 0
OwnersMeet lineage m owners.Top n owners.Top = Unit {0}
OwnersMeet lineage m (owners.Region r) n (owners.Region s) =
    HaveSameFirst (numbering_of Region lineage) (record { machine = m; element = r.0 }) (record { machine = n; element = s.0 })
OwnersMeet lineage m (owners.State v) n (owners.State w) =
    HaveSameFirst (numbering_of Vertex lineage) (record { machine = m; element = v.0 }) (record { machine = n; element = w.0 })
OwnersMeet lineage m _ n _ = ⊥
