-- What has been read so far: the lines that it stands for, and what its parts keep.
use Rattle.std.proofs.Common.{◌≡◌, ℕ, ◌<◌, ◌≤◌, ◌⊎◌, List, [], ◌∷◌, ◌++◌, length}
use Rattle.std.specs.Prelude.{map, codes, slice_get}
use Rattle.std.specs.List.{AllByRecursion, flat_map}
use Rattle.std.specs.Option.{option_map_or}
use Rattle.pssm_semantics.specs.declared.setting.SignalDecl.{SignalDecl}
use Rattle.pssm_semantics.specs.declared.setting.VarDecl.{VarDecl}
use Rattle.pssm_semantics.specs.declared.setting.ObjectDecl.{ObjectDecl}
use Rattle.pssm_semantics.specs.declared.setting.Names.{Names}
use Rattle.pssm_semantics.specs.declared.setting.Class.{Class}
use Rattle.pssm_flat.specs.declared.head.Head.{Head}
use Rattle.pssm_flat.specs.declared.block.Block.{Block}
use Rattle.pssm_flat.specs.declared.outline.Outline.{Outline}
use Rattle.pssm_flat.specs.declared.outline.Outline.TheVariants as stages
use Rattle.pssm_flat.specs.Text.{signal_line, block_lines, machine_lines, head_lines}
use Rattle.pssm_flat.specs.Flat.{AreNames, IsInteger, IsRegionOwner, IsWrittenVertex, IsWrittenTransition, IsNumbered, IsWrittenClass, IsWritten}
use Rattle.pssm_flat.specs.inner.Outlines.{signal_of, object_of, itself, class_of, machine_of, setting_of}

-- ---- lines

-- the name with a number
abbrev pub nth_name : List (List ℕ) → ℕ → List ℕ
nth_name names n = option_map_or itself (slice_get names n) []

abbrev pub class_part : List ℕ → List ℕ
class_part name = codes "class " ++ name

abbrev pub object_part : List (List ℕ) → ObjectDecl → List ℕ
object_part classes x = codes "object " ++ (x.name ++ (codes " " ++ nth_name classes x.class))

abbrev pub head_part : Head → List (List ℕ)
head_part h = codes "pssm-flat 1" ∷ (map signal_line h.signals ++ (map class_part h.classes ++ map (object_part h.classes) h.objects))

abbrev pub done_part : Head → List Class → List (List ℕ)
done_part h done = flat_map (machine_lines (setting_of h done)) done

abbrev pub block_part : Block → List (List ℕ)
block_part b = block_lines b.names (class_of b)

-- the lines that have been read
abbrev pub lines_of : Outline → List (List ℕ)
lines_of stages.Start = []
lines_of (stages.Heading h) = head_part h
lines_of (stages.Open h done b) = head_part h ++ (done_part h done ++ block_part b)
lines_of (stages.Ended s) = head_lines s ++ (flat_map (machine_lines s) s.classes ++ codes "end" ∷ [])

-- ---- what the parts keep

pub record IsGoodHead (h : Head) : Type 0 where
  pub signal_names : AreNames (map signal_of h.signals)
  pub few_signals : length h.signals ≤ 256
  pub counts : AllByRecursion (λ (g : SignalDecl). g.count ≤ 8) h.signals
  pub class_names : AreNames h.classes
  pub few_classes : length h.classes ≤ 64
  pub object_names : AreNames (map object_of h.objects)
  pub few_objects : length h.objects ≤ 64
  pub placed : AllByRecursion (λ (o : ObjectDecl). o.class < length h.classes) h.objects

abbrev pub var_of : VarDecl → List ℕ
var_of v = v.name

abbrev pub class_name_of : Class → List ℕ
class_name_of x = x.name

-- the names that behaviours may use with these variables
abbrev pub names_with : Head → List VarDecl → Names
names_with h vars = record { vars = map var_of vars; objects = map object_of h.objects; signals = h.signals }

pub record IsGoodBlock (h : Head) (b : Block) : Type 0 where
  pub names_are : b.names ≡ names_with h b.vars
  pub var_names : AreNames (map var_of b.vars)
  pub few_vars : length b.vars ≤ 64
  pub firsts : AllByRecursion (λ (v : VarDecl). IsInteger v.first) b.vars
  -- Before the first region there is no other element.
  pub begun : (0 < length b.regions) ⊎ ((b.vertices ≡ []) × (b.transitions ≡ []))
  pub few_regions : length b.regions ≤ 65536
  pub few_vertices : length b.vertices ≤ 65536
  pub few_transitions : length b.transitions ≤ 65536
  pub regions : AllByRecursion IsRegionOwner b.regions
  pub vertices : AllByRecursion (IsWrittenVertex (length h.signals)) b.vertices
  pub transitions : AllByRecursion (IsWrittenTransition (length h.signals)) b.transitions
  pub numbered : IsNumbered b.names (machine_of b) b.program

-- classes whose blocks have been read
abbrev pub AreGoodClasses : Head → List Class → Type 0
AreGoodClasses h done = AllByRecursion (λ (x : Class). IsWrittenClass (names_with h x.vars) x) done

-- the names of these classes and of the next one are the first of those in the head
pub record IsNextClass (h : Head) (done : List Class) (name : List ℕ) : Type 0 where
  pub later : List (List ℕ)
  pub classes_are : h.classes ≡ map class_name_of done ++ name ∷ later

abbrev pub IsGood : Outline → Type 0
IsGood stages.Start = Unit {0}
IsGood (stages.Heading h) = IsGoodHead h
IsGood (stages.Open h done b) = IsGoodHead h × AreGoodClasses h done × IsNextClass h done b.name × IsGoodBlock h b
IsGood (stages.Ended s) = IsWritten s
