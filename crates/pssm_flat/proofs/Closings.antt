-- The line behind a block.
use Rattle.std.proofs.Common.{◌≡◌, inl, inr, ℕ, zero, suc, ◌+◌, List, [], ◌∷◌, ◌++◌, length, Bool, true, false, Some, None, Result, Ok, Err, IfOk, refl, sym, ap, subst, ◌∙◌, arith}
use Rattle.std.specs.Prelude.{nat_lt, ◌==◌}
use Rattle.std.proofs.lemmas.Bool.{lt-ltb, eqb-true}
use Rattle.std.proofs.lemmas.List.{length-append}
use Rattle.pssm_model.specs.declared.elements.Shape.{Shape}
use Rattle.pssm_model.specs.declared.elements.Shape.TheVariants as shapes
use Rattle.pssm_model.specs.Shapes.{HasShape, IsShapeFault}
use Rattle.pssm_semantics.specs.declared.setting.Class.{Class}
use Rattle.pssm_acts.proofs.Each.{all_push}
use Rattle.pssm_flat.specs.declared.head.Head.{Head}
use Rattle.pssm_flat.specs.declared.block.Block.{Block}
use Rattle.pssm_flat.specs.declared.line.Line.{Line}
use Rattle.pssm_flat.specs.declared.line.Line.TheVariants as lines
use Rattle.pssm_flat.specs.declared.fault.FlatFault.{FlatFault}
use Rattle.pssm_flat.specs.declared.fault.FlatFault.TheVariants as faults
use Rattle.pssm_flat.specs.declared.outline.Outline.{Outline}
use Rattle.pssm_flat.specs.declared.outline.Outline.TheVariants as stages
use Rattle.pssm_flat.specs.inner.Places.{fault_of}
use Rattle.pssm_flat.specs.inner.Outlines.{machine_of, class_of, is_next_class, empty_block, setting_of, opened, ended, ends_block, behind_blocks, behind_block, done_of, AreShaped, IsShaped, IsMisshapen, IsNoNext}
use Rattle.pssm_flat.proofs.Bind.{some_is}

-- what is read behind blocks
record Behind (h : Head) (done : List Class) (l : Line) : Type 0 where
  pub next : Outline
  pub reads : behind_blocks h done l ≡ Some next
  pub ends : done_of next ≡ done

next_opened : (h : Head) (done : List Class) (name : List ℕ) → is_next_class h (length done) name ≡ true → opened h done name ≡ Some (stages.Open h done (empty_block h name))
next_opened h done name e = rw e refl

all_ended : (h : Head) (done : List Class) → (length h.classes == length done) ≡ true → ended h done ≡ Some (stages.Ended (setting_of h done))
all_ended h done e = rw e refl

not_opened : (h : Head) (done : List Class) (name : List ℕ) → is_next_class h (length done) name ≡ false → opened h done name ≡ None
not_opened h done name e = rw e refl

not_ended : (h : Head) (done : List Class) → (length h.classes == length done) ≡ false → ended h done ≡ None
not_ended h done e = rw e refl

-- A line that may stand there is read.
behind : (h : Head) (done : List Class) (l : Line) → ends_block h (length done) l ≡ true → Behind h done l
behind h done (lines.Machine name) e = record { next = stages.Open h done (empty_block h name); reads = next_opened h done name e; ends = refl }
behind h done lines.End e = record { next = stages.Ended (setting_of h done); reads = all_ended h done e; ends = refl }
behind h done lines.Header e = absurd cc
behind h done (lines.Signal n c) e = absurd cc
behind h done (lines.Class n) e = absurd cc
behind h done (lines.Object n c) e = absurd cc
behind h done (lines.Var n c) e = absurd cc
behind h done (lines.Region n c) e = absurd cc
behind h done (lines.Vertex n c k t) e = absurd cc
behind h done (lines.Defer n) e = absurd cc
behind h done (lines.Transition n c k t) e = absurd cc
behind h done (lines.On n) e = absurd cc
behind h done (lines.Action n c) e = absurd cc
behind h done lines.EmptyStep e = absurd cc
behind h done lines.Otherwise e = absurd cc

-- Another is not.
not_behind : (h : Head) (done : List Class) (l : Line) → ends_block h (length done) l ≡ false → behind_blocks h done l ≡ None
not_behind h done (lines.Machine name) e = not_opened h done name e
not_behind h done lines.End e = not_ended h done e
not_behind h done lines.Header e = refl
not_behind h done (lines.Signal n c) e = refl
not_behind h done (lines.Class n) e = refl
not_behind h done (lines.Object n c) e = refl
not_behind h done (lines.Var n c) e = refl
not_behind h done (lines.Region n c) e = refl
not_behind h done (lines.Vertex n c k t) e = refl
not_behind h done (lines.Defer n) e = refl
not_behind h done (lines.Transition n c k t) e = refl
not_behind h done (lines.On n) e = refl
not_behind h done (lines.Action n c) e = refl
not_behind h done lines.EmptyStep e = refl
not_behind h done lines.Otherwise e = refl

one_more : (done : List Class) (x : Class) → length done + 1 ≡ length (done ++ x ∷ [])
one_more done x = omega (arith, length-append done (x ∷ []))

pub never_none : (h : Head) (done : List Class) (x : Class) (l : Line) → ends_block h (length done + 1) l ≡ true → behind_blocks h (done ++ x ∷ []) l ≡ None → ⊥
never_none h done x l may none =
    let on = behind h (done ++ x ∷ []) l (subst (λ n. ends_block h n l ≡ true) (one_more done x) may) in
    absurd (let both : None ≡ Some on.next = sym none ∙ on.reads in cc)

behind_is : (h : Head) (done : List Class) (b : Block) (l : Line) → nat_lt 0 (length b.regions) ≡ true → behind_block h done b l ≡ behind_blocks h (done ++ class_of b ∷ []) l
behind_is h done b l e = rw e refl

no_region : (h : Head) (done : List Class) (b : Block) (l : Line) → nat_lt 0 (length b.regions) ≡ false → behind_block h done b l ≡ None
no_region h done b l e = rw e refl

-- A line that may not stand behind a block is not read there.
may_not_end : (h : Head) (done : List Class) (b : Block) (l : Line) → ends_block h (length done + 1) l ≡ false → behind_block h done b l ≡ None
may_not_end h done b l e = by_regions (nat_lt 0 (length b.regions)) refl where
  by_regions : (some : Bool) → nat_lt 0 (length b.regions) ≡ some → behind_block h done b l ≡ None
  by_regions true some = behind_is h done b l some ∙ not_behind h (done ++ class_of b ∷ []) l (subst (λ n. ends_block h n l ≡ false) (one_more done (class_of b)) e)
  by_regions false none = no_region h done b l none

none_below : (n : ℕ) → true ≡ (n == 0) → nat_lt 0 n ≡ false
none_below zero e = refl
none_below (suc n) e = absurd (let zero = eqb-true (suc n) 0 (sym e) in omega (arith, zero))

some_below : (n : ℕ) → false ≡ (n == 0) → nat_lt 0 n ≡ true
some_below zero e = absurd cc
some_below (suc n) e = lt-ltb 0 (suc n) (omega arith)

pub no_region_ends : (h : Head) (done : List Class) (b : Block) (l : Line) → true ≡ (length b.regions == 0) → behind_block h done b l ≡ None
no_region_ends h done b l e = no_region h done b l (none_below (length b.regions) e)

-- The machine of the block that ends has its shape.
pub shaped_behind : (h : Head) (done : List Class) (x : Class) (l : Line) (e : Outline) → ends_block h (length done + 1) l ≡ true → behind_blocks h (done ++ x ∷ []) l ≡ Some e → HasShape x.machine → AreShaped done → IsShaped e
shaped_behind h done x l e may reads shape shaped =
    let on = behind h (done ++ x ∷ []) l (subst (λ n. ends_block h n l ≡ true) (one_more done x) may) in
    let same : on.next ≡ e = some_is on.next e (sym on.reads ∙ reads) in
    subst AreShaped (sym on.ends ∙ ap done_of same) (all_push (λ (y : Class). HasShape y.machine) done x shaped shape)

-- A misshapen machine is told with the line that ends its block.
pub misshapen : (h : Head) (done : List Class) (b : Block) (l : Line) (number : ℕ) (f : FlatFault) → false ≡ (length b.regions == 0) → ends_block h (length done + 1) l ≡ true
    → IsMisshapen (machine_of b) number f → IsNoNext (stages.Open h done b) (Ok (behind_block h done b l)) number f
misshapen h done b l number f some may bad = by_cause f bad where
  on : Behind h (done ++ class_of b ∷ []) l
  on = behind h (done ++ class_of b ∷ []) l (subst (λ n. ends_block h n l ≡ true) (one_more done (class_of b)) may)

  by_shape : (shape : Shape) (fault : FlatFault) → IsShapeFault (machine_of b) shape → fault ≡ fault_of number (machine_of b) shape → IsNoNext (stages.Open h done b) (Ok (behind_block h done b l)) number fault
  by_shape shape faults.NoMemory is told = tt
  by_shape shape (faults.Shape m s) is told = record {
    head = h;
    done = done;
    block = b;
    next = on.next;
    open_is = refl;
    reads = ap Ok (behind_is h done b l (some_below (length b.regions) some) ∙ on.reads);
    ends = on.ends;
    shape = shape;
    fault_is = is;
    told = told;
  }
  by_shape (shapes.BadOwner x) (faults.BadLine m) is told = absurd cc
  by_shape (shapes.BadEnd x) (faults.BadLine m) is told = absurd cc
  by_shape (shapes.TooMany x) (faults.BadLine m) is told = absurd cc
  by_shape (shapes.TooDeep x) (faults.BadLine m) is told = absurd cc
  by_shape shapes.NoMemory (faults.BadLine m) is told = absurd cc
  by_shape (shapes.BadOwner x) (faults.Act m k) is told = absurd cc
  by_shape (shapes.BadEnd x) (faults.Act m k) is told = absurd cc
  by_shape (shapes.TooMany x) (faults.Act m k) is told = absurd cc
  by_shape (shapes.TooDeep x) (faults.Act m k) is told = absurd cc
  by_shape shapes.NoMemory (faults.Act m k) is told = absurd cc

  by_cause : (fault : FlatFault) → IsMisshapen (machine_of b) number fault → IsNoNext (stages.Open h done b) (Ok (behind_block h done b l)) number fault
  by_cause faults.NoMemory (inl e) = tt
  by_cause (faults.BadLine m) (inl e) = absurd cc
  by_cause (faults.Shape m s) (inl e) = absurd cc
  by_cause (faults.Act m k) (inl e) = absurd cc
  by_cause fault (inr there) = by_shape there.0 fault there.1 there.2

-- what holds of a result is so whatever follows from it
pub if_ok_so : {A B : Type 0} (r : Result A B) (P Q : A → Type 0) → IfOk r P → ((x : A) → P x → Q x) → IfOk r Q
if_ok_so (Ok x) P Q p so = so x p
if_ok_so (Err x) P Q p so = tt
