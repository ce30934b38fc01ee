-- Walking through the elements of a chain of machines: the first breach so far.
use Rattle.std.specs.Prelude.{◌≡◌, ◌⊎◌, ◌<◌, ◌+◌, ℕ, List, length, take, Contains, Option, Some, None, option_map, slice_index_or}
use Rattle.pssm_model.specs.declared.draft_setting.ElementRef.{ElementRef}
use Rattle.pssm_model.specs.declared.draft_setting.Draft.{Draft}
use Rattle.pssm_model.specs.DraftSettings.{IsOrExtends}
use Rattle.pssm_heritage.specs.declared.kinds.ElementKind.{ElementKind}
use Rattle.pssm_heritage.specs.declared.kinds.RedefRule.{RedefRule}
use Rattle.pssm_heritage.specs.Heritages.{Lineage, numbering_of}
use Rattle.pssm_heritage.specs.inner.Tables.{element_at}
use Rattle.pssm_breaches.specs.declared.breach.Breach.{Breach}
use Rattle.pssm_breaches.specs.Rules.{Breaks}
use Rattle.pssm_breaches.specs.Faults.{Site, site_of, IsEarlier}
use Rattle.pssm_breaches.specs.Latest.{AreLatestBefore}

-- the next place in the same list
abbrev pub after : ElementRef → ElementRef
after e = record { machine = e.machine; element = e.element + 1 }

-- the site of a breach
abbrev pub site : Draft → Breach → Site
site draft b = site_of draft b.kind b.element

-- Of two breaches this one is the first; of one it is that one.
abbrev pub IsFirstOfTwo : Draft → Option Breach → Option Breach → Option Breach → Type 0
IsFirstOfTwo draft None other first = first ≡ other
IsFirstOfTwo draft (Some b) None first = first ≡ Some b
IsFirstOfTwo draft (Some b) (Some other) first =
    (IsEarlier (site draft other) (site draft b) × (first ≡ Some other)) ⊎ ((IsEarlier (site draft other) (site draft b) → ⊥) × (first ≡ Some b))

-- Of the elements that meet a condition this is the first that breaks a rule, and the rule.
pub record IsFirstOf (draft : Draft) (m : ℕ) (Meets : ElementKind → ElementRef → Type 0) (b : Breach) : Type 0 where
  pub meets : Meets b.kind b.element
  pub breaks : Breaks draft m b.kind b.element b.rule
  pub first : (k : ElementKind) (d : ElementRef) (other : RedefRule) → Meets k d → Breaks draft m k d other → IsEarlier (site_of draft k d) (site draft b) → ⊥

-- The same, or none of them breaks a rule.
abbrev pub IsFirstIfAny : Draft → ℕ → (ElementKind → ElementRef → Type 0) → Option Breach → Type 0
IsFirstIfAny draft m Meets None = (k : ElementKind) (d : ElementRef) (other : RedefRule) → Meets k d → Breaks draft m k d other → ⊥
IsFirstIfAny draft m Meets (Some b) = IsFirstOf draft m Meets b

-- The element of this kind stands before place i of the machine at place k of the chain.
abbrev pub StandsBefore : ElementKind → List ℕ → ℕ → ℕ → ElementKind → ElementRef → Type 0
StandsBefore kind machines k i j d = (j ≡ kind) × (Contains (take k machines) d.machine ⊎ ((d.machine ≡ slice_index_or machines k 0) × (d.element < i)))

-- The element is of this kind, of the machine or of one that it extends.
abbrev pub IsOfKind : Draft → ℕ → ElementKind → ElementKind → ElementRef → Type 0
IsOfKind draft m kind j d = (j ≡ kind) × IsOrExtends draft m d.machine

-- The elements before place i of the machine at place k of the chain were looked at: what the table has, and what was found.
pub record AreSearched (draft : Draft) (m : ℕ) (kind : ElementKind) (lineage : Lineage) (k i : ℕ) (latest : List ElementRef) (found : Option Breach) : Type 0 where
  pub table : k < length lineage.machines → AreLatestBefore draft kind (element_at lineage.machines k i) (numbering_of kind lineage).firsts latest
  pub first : IsFirstIfAny draft m (StandsBefore kind lineage.machines k i) found

-- one element's breach, where it breaks a rule
abbrev pub breach_of : ElementKind → ElementRef → Option RedefRule → Option Breach
breach_of kind e broken = option_map (λ rule. let b : Breach = record { kind = kind; element = e; rule = rule } in b) broken
