-- Reading stops at one place of a text alone, for one reason, or reads the whole text.
use Rattle.std.proofs.Common.{◌≡◌, inl, inr, ℕ, suc, List, [], ◌∷◌, ◌++◌, length, Option, Some, None, Result, Ok, Err, refl, sym, ap, subst, ◌∙◌, arith}
use Rattle.std.specs.List.{AllByRecursion}
use Rattle.std.proofs.lemmas.List.{append-nil, length-append}
use Rattle.pssm_model.specs.Shapes.{HasShape, IsShapeFault}
use Rattle.pssm_model.proofs.FirstFault.{shape_has_no_fault}
use Rattle.pssm_semantics.specs.declared.setting.Class.{Class}
use Rattle.pssm_semantics.specs.declared.setting.Setting.{Setting}
use Rattle.pssm_acts.specs.declared.act_fault.ActFault.{ActFault}
use Rattle.pssm_flat.specs.declared.outline.Outline.{Outline}
use Rattle.pssm_flat.specs.declared.outline.Outline.TheVariants as stages
use Rattle.pssm_flat.specs.declared.fault.FlatFault.{FlatFault}
use Rattle.pssm_flat.specs.declared.fault.FlatFault.TheVariants as faults
use Rattle.pssm_flat.specs.Text.{line, text_of, flat_lines}
use Rattle.pssm_flat.specs.Flat.{IsWritten}
use Rattle.pssm_flat.specs.inner.Places.{fault_of}
use Rattle.pssm_flat.specs.inner.Outlines.{class_of, machine_of, after_bytes, after_lines, line_front, done_of, AreShaped, IsShaped, EndsMisshapen, IsNoNext, IsStuckAt, StopsAt}
use Rattle.pssm_flat.proofs.Bind.{some_is, ok_is, fine}
use Rattle.pssm_flat.proofs.Items.{all_split}
use Rattle.pssm_flat.proofs.Compare.{GoesOn, second, first, same, compared, line_front_again}
use Rattle.pssm_model.proofs.ShapeFaults.{fault_is_one}
use Rattle.pssm_flat.proofs.Good.{IsGood}
use Rattle.pssm_flat.proofs.Reach.{lines_reach, read_inner, bytes_reach}
use Rattle.pssm_flat.proofs.Stays.{after_end, done_stay}
use Rattle.pssm_flat.proofs.Turns.{reads_on, reads_to}
use Rattle.pssm_flat.proofs.Begins.{written_inner}
use Rattle.pssm_flat.proofs.Complete.{lines_read}

all_front : {X : Type 0} (P : X → Type 0) (xs ys : List X) → AllByRecursion P (xs ++ ys) → AllByRecursion P xs
all_front P [] ys all = tt
all_front P (x ∷ xs) ys all = (all.0, all_front P xs ys all.1)

pub good_of : (ls : List (List ℕ)) (d : Outline) → after_lines stages.Start ls ≡ Some d → IsGood d
good_of ls d reads = (lines_reach stages.Start ls d tt reads).1

-- ---- nothing that was read goes on where reading stops

-- What ends a misshapen machine goes on to nothing whose machines have their shape.
misshapen_ends : (d e later : Outline) (due : Result (Option Outline) ActFault) (n : ℕ) (f : FlatFault) (more : List (List ℕ)) → EndsMisshapen d due n f → due ≡ Ok (Some e) → IsGood e → after_lines e more ≡ Some later → IsShaped later → ⊥
misshapen_ends d e later due n f more ends at good reads shaped =
    let same : ends.next ≡ e = some_is ends.next e (ok_is (Some ends.next) (Some e) (sym ends.reads ∙ at)) in
    let stays = done_stay e later more good reads in
    let all : done_of later ≡ (ends.done ++ class_of ends.block ∷ []) ++ stays.0 = stays.1 ∙ ap (λ t. t ++ stays.0) (ap done_of (sym same) ∙ ends.ends) in
    let front = all_front (λ (x : Class). HasShape x.machine) (ends.done ++ class_of ends.block ∷ []) stays.0 (subst AreShaped all shaped) in
    let shape = (all_split (λ (x : Class). HasShape x.machine) ends.done (class_of ends.block) front).1 in
    shape_has_no_fault (machine_of ends.block) shape ends.shape ends.fault_is

no_next : (d e later : Outline) (due : Result (Option Outline) ActFault) (n : ℕ) (f : FlatFault) (more : List (List ℕ)) → IsNoNext d due n f → (f ≡ faults.NoMemory → ⊥) → due ≡ Ok (Some e) → IsGood e → after_lines e more ≡ Some later → IsShaped later → ⊥
no_next d e later due n (faults.BadLine m) more is known at good reads shaped = absurd (let both : Ok None ≡ fine (Some e) = sym is.1 ∙ at in cc)
no_next d e later due n (faults.Act m fault) more is known at good reads shaped = absurd (let both : Err fault ≡ fine (Some e) = sym is.1 ∙ at in cc)
no_next d e later due n (faults.Shape m shape) more is known at good reads shaped = misshapen_ends d e later due n (faults.Shape m shape) more is at good reads shaped
no_next d e later due n faults.NoMemory more is known at good reads shaped = known refl

-- Where reading stops no line follows with which it would go on.
stops_there : (d e later : Outline) (rest next behind : List ℕ) (n : ℕ) (f : FlatFault) (more : List (List ℕ)) → IsStuckAt d rest n f → (f ≡ faults.NoMemory → ⊥) → rest ≡ line next ++ behind → after_bytes d next ≡ Ok (Some e) → IsGood e
    → after_lines e more ≡ Some later → IsShaped later → ⊥
stops_there d e later rest next behind n f more stuck known parts at good reads shaped =
    let inner = (read_inner d next (Ok (Some e)) at (λ none. absurd cc)).0 in
    let front : line_front rest ≡ Some (next, behind) = ap line_front parts ∙ line_front_again next behind inner in
    elim stuck [
      | inl none ↦ absurd (let both : None ≡ Some (next, behind) = sym none.0 ∙ front in cc)
      | inr there ↦
          let both : (there.0, there.1) ≡ (next, behind) = some_is (there.0, there.1) (next, behind) (sym there.2 ∙ front) in
          let text : there.0 ≡ next = ap (λ (p : List ℕ × List ℕ). p.0) both in
          no_next d e later (after_bytes d there.0) n f more there.3 known (ap (after_bytes d) text ∙ at) good reads shaped
    ]

goes_no_further : (bytes : List ℕ) (f : FlatFault) (p : StopsAt bytes f) (ls : List (List ℕ)) (later : Outline) (y : List ℕ) → after_lines stages.Start ls ≡ Some later → IsShaped later → GoesOn p.read.lines ls p.rest y → ⊥
goes_no_further bytes f p ls later y reads shaped g =
    let on = reads_to p.read.lines (g.next ∷ g.more) p.outline later p.read.reads (ap (after_lines stages.Start) (sym g.parts) ∙ reads) in
    let step = reads_on p.outline later g.next g.more on in
    let good = (bytes_reach p.outline g.next step.0 (good_of p.read.lines p.outline p.read.reads) step.1).good in
    stops_there p.outline step.0 later p.rest g.next _ p.number f g.more p.stuck p.known g.behind step.1 good step.2 shaped

-- ---- one reason

misshapen_once : (d : Outline) (due : Result (Option Outline) ActFault) (n : ℕ) (f g : FlatFault) → EndsMisshapen d due n f → EndsMisshapen d due n g → f ≡ g
misshapen_once d due n f g p q =
    let both : stages.Open p.head p.done p.block ≡ stages.Open q.head q.done q.block = sym p.open_is ∙ q.open_is in
    let block : p.block ≡ q.block = cc in
    let shape : p.shape ≡ q.shape = fault_is_one (machine_of q.block) p.shape q.shape (subst (λ b. IsShapeFault (machine_of b) p.shape) block p.fault_is) q.fault_is in
    p.told ∙ ap (λ b. fault_of n (machine_of b) p.shape) block ∙ ap (fault_of n (machine_of q.block)) shape ∙ sym q.told

one_next : (d : Outline) (due : Result (Option Outline) ActFault) (n : ℕ) (f g : FlatFault) → IsNoNext d due n f → IsNoNext d due n g → (f ≡ faults.NoMemory → ⊥) → (g ≡ faults.NoMemory → ⊥) → f ≡ g
one_next d due n (faults.BadLine a) (faults.BadLine b) p q known known' = ap faults.BadLine (p.0 ∙ sym q.0)
one_next d due n (faults.BadLine a) (faults.Act b h) p q known known' = absurd (let both : fine None ≡ Err h = sym p.1 ∙ q.1 in cc)
one_next d due n (faults.BadLine a) (faults.Shape b s) p q known known' = absurd (let both : fine None ≡ Ok (Some q.next) = sym p.1 ∙ q.reads in cc)
one_next d due n (faults.Act a h) (faults.BadLine b) p q known known' = absurd (let both : Err h ≡ fine None = sym p.1 ∙ q.1 in cc)
one_next d due n (faults.Act a h) (faults.Act b k) p q known known' =
    let both : Err h ≡ Err k = sym p.1 ∙ q.1 in
    let fault : h ≡ k = cc in
    ap (λ m. faults.Act m h) (p.0 ∙ sym q.0) ∙ ap (faults.Act b) fault
one_next d due n (faults.Act a h) (faults.Shape b s) p q known known' = absurd (let both : Err h ≡ fine (Some q.next) = sym p.1 ∙ q.reads in cc)
one_next d due n (faults.Shape a s) (faults.BadLine b) p q known known' = absurd (let both : fine (Some p.next) ≡ Ok None = sym p.reads ∙ q.1 in cc)
one_next d due n (faults.Shape a s) (faults.Act b h) p q known known' = absurd (let both : fine (Some p.next) ≡ Err h = sym p.reads ∙ q.1 in cc)
one_next d due n (faults.Shape a s) (faults.Shape b t) p q known known' = misshapen_once d due n (faults.Shape a s) (faults.Shape b t) p q
one_next d due n faults.NoMemory g p q known known' = absurd (known refl)
one_next d due n f faults.NoMemory p q known known' = absurd (known' refl)

one_reason : (d : Outline) (rest : List ℕ) (n : ℕ) (f g : FlatFault) → IsStuckAt d rest n f → IsStuckAt d rest n g → (f ≡ faults.NoMemory → ⊥) → (g ≡ faults.NoMemory → ⊥) → f ≡ g
one_reason d rest n f g (inl p) (inl q) known known' = p.1 ∙ sym q.1
one_reason d rest n f g (inl p) (inr q) known known' = absurd (let both : None ≡ Some (q.0, q.1) = sym p.0 ∙ q.2 in cc)
one_reason d rest n f g (inr p) (inl q) known known' = absurd (let both : Some (p.0, p.1) ≡ None = sym p.2 ∙ q.0 in cc)
one_reason d rest n f g (inr p) (inr q) known known' =
    let both : (p.0, p.1) ≡ (q.0, q.1) = some_is (p.0, p.1) (q.0, q.1) (sym p.2 ∙ q.2) in
    let text : p.0 ≡ q.0 = ap (λ (x : List ℕ × List ℕ). x.0) both in
    one_next d (after_bytes d q.0) n f g (subst (λ t. IsNoNext d (after_bytes d t) n f) text p.3) q.3 known known'

pub one_stop : (bytes : List ℕ) (f g : FlatFault) → StopsAt bytes f → StopsAt bytes g → f ≡ g
one_stop bytes f g p q =
    elim (compared p.read.lines q.read.lines p.rest q.rest p.read.inner q.read.inner (sym p.read.parts ∙ q.read.parts)) [
      | second on ↦ absurd (goes_no_further bytes f p q.read.lines q.outline q.rest q.read.reads q.read.shaped on)
      | first on ↦ absurd (goes_no_further bytes g q p.read.lines p.outline p.rest p.read.reads p.read.shaped on)
      | same lines rest ↦
          let outline : p.outline ≡ q.outline = some_is p.outline q.outline (sym p.read.reads ∙ ap (after_lines stages.Start) lines ∙ q.read.reads) in
          let number : p.number ≡ q.number = p.read.counted ∙ ap (λ ls. suc (length ls)) lines ∙ sym q.read.counted in
          let a = subst (λ d. IsStuckAt d p.rest p.number f) outline p.stuck in
          let b = subst (λ r. IsStuckAt q.outline r p.number f) rest a in
          one_reason q.outline q.rest q.number f g (subst (λ n. IsStuckAt q.outline q.rest n f) number b) q.stuck p.known q.known
    ]

-- The text of a setting is read to its end.
pub no_stop : (s : Setting) (f : FlatFault) → IsWritten s → AreShaped s.classes → StopsAt (text_of (flat_lines s)) f → ⊥
no_stop s f w shaped p =
    elim (compared p.read.lines (flat_lines s) p.rest [] p.read.inner (written_inner s w) (sym p.read.parts ∙ sym (append-nil (text_of (flat_lines s))))) [
      | second on ↦ goes_no_further (text_of (flat_lines s)) f p (flat_lines s) (stages.Ended s) [] (lines_read s w) shaped on
      | first on ↦
          let rest = reads_to (flat_lines s) (on.next ∷ on.more) (stages.Ended s) p.outline (lines_read s w) (ap (after_lines stages.Start) (sym on.parts) ∙ p.read.reads) in
          let step = reads_on (stages.Ended s) p.outline on.next on.more rest in
          after_end s on.next step.0 step.1
      | same lines rest ↦ p.unfinished s (some_is p.outline (stages.Ended s) (sym p.read.reads ∙ ap (after_lines stages.Start) lines ∙ lines_read s w)) rest
    ]

-- Two settings with one text are one.
pub one_text : (a b : Setting) → IsWritten a → IsWritten b → text_of (flat_lines a) ≡ text_of (flat_lines b) → a ≡ b
one_text a b v w eq =
    elim (compared (flat_lines a) (flat_lines b) [] [] (written_inner a v) (written_inner b w) (append-nil (text_of (flat_lines a)) ∙ eq ∙ sym (append-nil (text_of (flat_lines b))))) [
      | second on ↦ absurd (let e = ap length on.behind in omega (arith, e, length-append (line on.next) (text_of on.more ++ []), length-append on.next (10 ∷ [])))
      | first on ↦ absurd (let e = ap length on.behind in omega (arith, e, length-append (line on.next) (text_of on.more ++ []), length-append on.next (10 ∷ [])))
      | same lines rest ↦ (let both : stages.Ended a ≡ stages.Ended b = some_is (stages.Ended a) (stages.Ended b) (sym (lines_read a v) ∙ ap (after_lines stages.Start) lines ∙ lines_read b w) in cc)
    ]
