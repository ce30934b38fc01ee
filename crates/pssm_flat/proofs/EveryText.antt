-- Each text is that of a setting or has a fault: never neither.
use Rattle.std.proofs.Common.{◌≡◌, ◌≢◌, inl, inr, ℕ, zero, suc, ◌+◌, ◌<◌, List, [], ◌∷◌, ◌++◌, length, Option, Some, None, Result, Ok, Err, refl, ap, subst, sym, arith}
use Rattle.pssm_model.specs.declared.elements.Shape.{Shape}
use Rattle.pssm_model.specs.declared.elements.Shape.TheVariants as shapes
use Rattle.pssm_model.specs.Shapes.{HasShape, IsShapeFault}
use Rattle.pssm_semantics.specs.declared.setting.Class.{Class}
use Rattle.pssm_semantics.specs.declared.setting.Setting.{Setting}
use Rattle.pssm_acts.specs.declared.act_fault.ActFault.{ActFault}
use Rattle.pssm_acts.proofs.Each.{all_push}
use Rattle.pssm_flat.specs.declared.head.Head.{Head}
use Rattle.pssm_flat.specs.declared.block.Block.{Block}
use Rattle.pssm_flat.specs.declared.fault.FlatFault.{FlatFault}
use Rattle.pssm_flat.specs.declared.fault.FlatFault.TheVariants as faults
use Rattle.pssm_flat.specs.declared.outline.Outline.{Outline}
use Rattle.pssm_flat.specs.declared.outline.Outline.TheVariants as stages
use Rattle.pssm_flat.specs.Text.{flat_text}
use Rattle.pssm_flat.specs.Flat.{IsFlat}
use Rattle.pssm_flat.specs.Faults.{IsFlatFault}
use Rattle.pssm_flat.specs.inner.Places.{fault_of}
use Rattle.pssm_flat.specs.inner.Outlines.{class_of, machine_of, after_bytes, line_front, done_of, AreShaped, HasRead, IsStuckAt, StopsAt}
use Rattle.pssm_flat.proofs.Reach.{Closes, bytes_reach}
use Rattle.pssm_flat.proofs.Stays.{after_end}
use Rattle.pssm_flat.proofs.Stops.{good_of}
use Rattle.pssm_flat.proofs.ActPlaces.{faulty_line}
use Rattle.pssm_flat.proofs.FaultLaws.{stops_is_fault}
use Rattle.pssm_flat.proofs.ReadLaws.{more_read, nothing_read, shorter, whole_flat, whole_found}
use Rattle.pssm_model.proofs.ShapeOrFault.{shape_or_fault}

-- Bytes behind the last line cannot stand there.
pub ended_stops : (bytes : List ℕ) (s : Setting) (rest : List ℕ) (n : ℕ) → HasRead bytes (stages.Ended s) rest n → (rest ≡ [] → ⊥) → StopsAt bytes (faults.BadLine n)
ended_stops bytes s rest n read some = record {
  outline = stages.Ended s;
  rest = rest;
  number = n;
  read = read;
  unfinished = λ t same none. some none;
  stuck = by_front (line_front rest) refl;
  known = λ e. absurd cc;
} where
  by_due : (text after : List ℕ) → line_front rest ≡ Some (text, after) → (due : Result (Option Outline) ActFault) → after_bytes (stages.Ended s) text ≡ due → IsStuckAt (stages.Ended s) rest n (faults.BadLine n)
  by_due text after at (Ok None) e = inr (text, after, at, (refl, e))
  by_due text after at (Ok (Some x)) e = absurd (after_end s text x e)
  by_due text after at (Err fault) e = let f = faulty_line (stages.Ended s) text fault e in absurd (let both : stages.Ended s ≡ stages.Open f.head f.done f.block = f.open_is in cc)

  by_front : (o : Option (List ℕ × List ℕ)) → line_front rest ≡ o → IsStuckAt (stages.Ended s) rest n (faults.BadLine n)
  by_front None none = inl (none, refl)
  by_front (Some front) at = by_due front.0 front.1 at (after_bytes (stages.Ended s) front.0) refl

module _ (bytes : List ℕ) (no_setting : (s : Setting) → IsFlat s → bytes ≢ flat_text s) (no_fault : (f : FlatFault) → IsFlatFault bytes f → ⊥) where
  never_stops : (f : FlatFault) → StopsAt bytes f → ⊥
  never_stops f stop = no_fault f (stops_is_fault bytes f stop)

  -- Nothing was read to its end.
  never_ended : (s : Setting) (rest : List ℕ) (n : ℕ) → HasRead bytes (stages.Ended s) rest n → ⊥
  never_ended s rest n read =
      never_stops (faults.BadLine n) (ended_stops bytes s rest n read (λ none. no_setting s (whole_flat bytes s rest n read) (whole_found bytes s rest n read none)))

  -- Nothing was read up to a line: the next one stands there, or is the first that cannot.
  module _ (d : Outline) (rest : List ℕ) (n : ℕ) (read : HasRead bytes d rest n) (open_yet : (s : Setting) → d ≡ stages.Ended s → ⊥)
      (never_later : (e : Outline) (after : List ℕ) → HasRead bytes e after (n + 1) → length after < length rest → ⊥) where
    stop : (f : FlatFault) → (f ≡ faults.NoMemory → ⊥) → IsStuckAt d rest n f → ⊥
    stop f known stuck = never_stops f (record { outline = d; rest = rest; number = n; read = read; unfinished = λ s same none. open_yet s same; stuck = stuck; known = known })

    -- The line ends a misshapen machine.
    misshapen : (h : Head) (done : List Class) (b : Block) (e : Outline) (text after : List ℕ) → d ≡ stages.Open h done b → line_front rest ≡ Some (text, after) → after_bytes d text ≡ Ok (Some e) → done_of e ≡ done ++ class_of b ∷ []
        → (shape : Shape) → IsShapeFault (machine_of b) shape → (f : FlatFault) → f ≡ fault_of n (machine_of b) shape → (f ≡ faults.NoMemory → ⊥) → IsStuckAt d rest n f
    misshapen h done b e text after open_is at reads ends shape fault (faults.Shape m s) told known =
        inr (text, after, at, record { head = h; done = done; block = b; next = e; open_is = open_is; reads = reads; ends = ends; shape = shape; fault_is = fault; told = told })
    misshapen h done b e text after open_is at reads ends (shapes.BadOwner x) fault (faults.BadLine m) told known = absurd cc
    misshapen h done b e text after open_is at reads ends (shapes.BadEnd x) fault (faults.BadLine m) told known = absurd cc
    misshapen h done b e text after open_is at reads ends (shapes.TooMany x) fault (faults.BadLine m) told known = absurd cc
    misshapen h done b e text after open_is at reads ends (shapes.TooDeep x) fault (faults.BadLine m) told known = absurd cc
    misshapen h done b e text after open_is at reads ends shapes.NoMemory fault (faults.BadLine m) told known = absurd cc
    misshapen h done b e text after open_is at reads ends (shapes.BadOwner x) fault (faults.Act m k) told known = absurd cc
    misshapen h done b e text after open_is at reads ends (shapes.BadEnd x) fault (faults.Act m k) told known = absurd cc
    misshapen h done b e text after open_is at reads ends (shapes.TooMany x) fault (faults.Act m k) told known = absurd cc
    misshapen h done b e text after open_is at reads ends (shapes.TooDeep x) fault (faults.Act m k) told known = absurd cc
    misshapen h done b e text after open_is at reads ends shapes.NoMemory fault (faults.Act m k) told known = absurd cc
    misshapen h done b e text after open_is at reads ends shape fault faults.NoMemory told known = absurd (known refl)

    well_shaped : (h : Head) (done : List Class) (b : Block) (e : Outline) (text after : List ℕ) → d ≡ stages.Open h done b → line_front rest ≡ Some (text, after) → after_bytes d text ≡ Ok (Some e) → done_of e ≡ done ++ class_of b ∷ []
        → (shape : Shape) → IsShapeFault (machine_of b) shape → ⊥
    well_shaped h done b e text after open_is at reads ends (shapes.BadOwner x) fault =
        let f = fault_of n (machine_of b) (shapes.BadOwner x) in stop f (λ e. absurd cc) (misshapen h done b e text after open_is at reads ends (shapes.BadOwner x) fault f refl (λ e. absurd cc))
    well_shaped h done b e text after open_is at reads ends (shapes.BadEnd x) fault =
        let f = fault_of n (machine_of b) (shapes.BadEnd x) in stop f (λ e. absurd cc) (misshapen h done b e text after open_is at reads ends (shapes.BadEnd x) fault f refl (λ e. absurd cc))
    well_shaped h done b e text after open_is at reads ends (shapes.TooMany x) fault =
        let f = fault_of n (machine_of b) (shapes.TooMany x) in stop f (λ e. absurd cc) (misshapen h done b e text after open_is at reads ends (shapes.TooMany x) fault f refl (λ e. absurd cc))
    well_shaped h done b e text after open_is at reads ends (shapes.TooDeep x) fault =
        let f = fault_of n (machine_of b) (shapes.TooDeep x) in stop f (λ e. absurd cc) (misshapen h done b e text after open_is at reads ends (shapes.TooDeep x) fault f refl (λ e. absurd cc))
    well_shaped h done b e text after open_is at reads ends shapes.NoMemory fault = absurd fault.0

    -- What goes on has its shapes, or not.
    never_next : (e : Outline) (text after : List ℕ) → line_front rest ≡ Some (text, after) → after_bytes d text ≡ Ok (Some e) → Closes d e → ⊥
    never_next e text after at reads (inl same) = never_later e after (more_read bytes d e rest text after n read at reads (subst AreShaped (sym same) read.shaped)) (shorter rest text after at)
    never_next e text after at reads (inr ends) =
        let done : done_of d ≡ ends.1 = ap done_of ends.3 in
        shape_or_fault (machine_of ends.2) (well_shaped ends.0 ends.1 ends.2 e text after ends.3 at reads ends.4) (λ shape.
        let all : AreShaped (ends.1 ++ class_of ends.2 ∷ []) = all_push (λ (x : Class). HasShape x.machine) ends.1 (class_of ends.2) (subst AreShaped done read.shaped) shape in
        never_later e after (more_read bytes d e rest text after n read at reads (subst AreShaped (sym ends.4) all)) (shorter rest text after at))

    by_due : (text after : List ℕ) → line_front rest ≡ Some (text, after) → (due : Result (Option Outline) ActFault) → after_bytes d text ≡ due → ⊥
    by_due text after at (Ok None) e = stop (faults.BadLine n) (λ e. absurd cc) (inr (text, after, at, (refl, e)))
    by_due text after at (Err fault) e = stop (faults.Act n fault) (λ e. absurd cc) (inr (text, after, at, (refl, e)))
    by_due text after at (Ok (Some x)) e = never_next x text after at e (bytes_reach d text x (good_of read.lines d read.reads) e).closes

    never_on : (o : Option (List ℕ × List ℕ)) → line_front rest ≡ o → ⊥
    never_on None none = stop (faults.BadLine n) (λ e. absurd cc) (inl (none, refl))
    never_on (Some front) at = by_due front.0 front.1 at (after_bytes d front.0) refl

  never_read : (fuel : ℕ) (d : Outline) (rest : List ℕ) (n : ℕ) → HasRead bytes d rest n → length rest < fuel → ⊥
  never_read zero d rest n read few = absurd (omega (arith, few))
  never_read (suc fuel) (stages.Ended s) rest n read few = never_ended s rest n read
  never_read (suc fuel) stages.Start rest n read few = never_on stages.Start rest n read (λ s same. absurd cc) (λ e after still less. never_read fuel e after (n + 1) still (omega (arith, few, less))) (line_front rest) refl
  never_read (suc fuel) (stages.Heading h) rest n read few = never_on (stages.Heading h) rest n read (λ s same. absurd cc) (λ e after still less. never_read fuel e after (n + 1) still (omega (arith, few, less))) (line_front rest) refl
  never_read (suc fuel) (stages.Open h done b) rest n read few = never_on (stages.Open h done b) rest n read (λ s same. absurd cc) (λ e after still less. never_read fuel e after (n + 1) still (omega (arith, few, less))) (line_front rest) refl

-- No text is neither that of a setting nor has a fault.
pub setting_or_fault : (bytes : List ℕ) → ((s : Setting) → IsFlat s → bytes ≢ flat_text s) → ((f : FlatFault) → IsFlatFault bytes f → ⊥) → ⊥
setting_or_fault bytes no_setting no_fault = never_read bytes no_setting no_fault (suc (length bytes)) stages.Start bytes 1 (nothing_read bytes) (omega arith)
