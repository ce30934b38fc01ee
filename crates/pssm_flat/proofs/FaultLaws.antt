-- Where reading stops, in the words of settings, and back.
use Rattle.std.proofs.Common.{◌≡◌, ◌⊎◌, inl, inr, ℕ, zero, suc, ◌<◌, List, [], ◌∷◌, ◌++◌, length, take, Option, Some, None, Result, Ok, Err, refl, sym, ap, subst, ◌∙◌, append_assoc, arith}
use Rattle.std.specs.Prelude.{slice_get}
use Rattle.std.specs.List.{AllByRecursion}
use Rattle.std.proofs.lemmas.List.{append-nil, length-append}
use Rattle.pssm_model.specs.declared.elements.Element.{Element}
use Rattle.pssm_model.specs.declared.elements.Shape.{Shape}
use Rattle.pssm_model.specs.declared.elements.Shape.TheVariants as shapes
use Rattle.pssm_model.specs.Shapes.{HasShape, IsShapeFault, IsNamedBy}
use Rattle.pssm_semantics.specs.declared.setting.Class.{Class}
use Rattle.pssm_semantics.specs.declared.setting.Setting.{Setting}
use Rattle.pssm_acts.specs.declared.act_fault.ActFault.{ActFault}
use Rattle.pssm_flat.specs.declared.outline.Outline.{Outline}
use Rattle.pssm_flat.specs.declared.outline.Outline.TheVariants as stages
use Rattle.pssm_flat.specs.declared.fault.FlatFault.{FlatFault}
use Rattle.pssm_flat.specs.declared.fault.FlatFault.TheVariants as faults
use Rattle.pssm_flat.specs.Text.{line, text_of, names_of, machine_lines, flat_lines, flat_text}
use Rattle.pssm_model.specs.declared.elements.DraftMachine.{DraftMachine}
use Rattle.pssm_flat.specs.Flat.{IsWritten, IsFlat, IsWrittenClass, IsNumbered}
use Rattle.pssm_flat.specs.Faults.{BeginsText, StartsWith, HaveShape, lines_before_class, lines_through, IsBadLine, IsBadAct, IsBadShape, IsFlatFault}
use Rattle.pssm_flat.specs.inner.Places.{element_line, fault_of}
use Rattle.pssm_flat.specs.inner.Lines.{◌>>=◌}
use Rattle.pssm_flat.specs.inner.Outlines.{taken, class_of, IsInner, after_bytes, after_lines, line_front, done_of, AreShaped, IsShaped, EndsMisshapen, IsStuckAt, StopsAt}
use Rattle.pssm_flat.proofs.Bind.{some_is, fine}
use Rattle.pssm_flat.proofs.Compare.{second, first, same, compared, line_front_takes, line_front_again}
use Rattle.pssm_flat.proofs.Reach.{lines_reach, lines_inner, read_inner, after_append}
use Rattle.pssm_flat.proofs.Complete.{lines_read, block_of, ClassRead, class_read}
use Rattle.pssm_flat.proofs.CompleteHead.{head_of}
use Rattle.pssm_flat.proofs.TextLaws.{text_of_append}
use Rattle.pssm_flat.proofs.Begins.{FrontRead, read_begins, begins_read, begins_inner, written_inner}
use Rattle.pssm_flat.proofs.Stays.{after_end, done_stay}
use Rattle.pssm_flat.proofs.Turns.{Fronts, first_longer, second_longer, fronts, reads_on, reads_to, TurnsAt, one_turn}
use Rattle.pssm_flat.proofs.Stops.{good_of, one_stop, no_stop, one_text}
use Rattle.pssm_flat.proofs.ActTold.{cancel, turns, act_is, act_line_told, act_begins}
use Rattle.pssm_flat.proofs.PlaceLaws.{element_line_is}

-- ---- classes that have been read

get_in : (xs ys : List Class) (c : ℕ) (x : Class) → slice_get (xs ++ ys) c ≡ Some x → c < length xs → slice_get xs c ≡ Some x
get_in [] ys c x e lt = absurd (omega arith)
get_in (y ∷ xs) ys zero x e lt = e
get_in (y ∷ xs) ys (suc c) x e lt = get_in xs ys c x e (omega arith)

get_from : (xs ys : List Class) (c : ℕ) (x : Class) → slice_get xs c ≡ Some x → slice_get (xs ++ ys) c ≡ Some x
get_from [] ys zero x e = absurd cc
get_from [] ys (suc c) x e = absurd cc
get_from (y ∷ xs) ys zero x e = e
get_from (y ∷ xs) ys (suc c) x e = get_from xs ys c x e

get_end : (xs ys : List Class) (x : Class) → slice_get (xs ++ x ∷ ys) (length xs) ≡ Some x
get_end [] ys x = refl
get_end (y ∷ xs) ys x = get_end xs ys x

all_at : (P : Class → Type 0) (xs : List Class) (c : ℕ) (x : Class) → AllByRecursion P xs → slice_get xs c ≡ Some x → P x
all_at P [] zero x all e = absurd cc
all_at P [] (suc c) x all e = absurd cc
all_at P (y ∷ xs) zero x all e = subst P (some_is y x e) all.0
all_at P (y ∷ xs) (suc c) x all e = all_at P xs c x all.1 e

all_from : (P : Class → Type 0) (xs : List Class) → ((c : ℕ) (x : Class) → slice_get xs c ≡ Some x → P x) → AllByRecursion P xs
all_from P [] each = tt
all_from P (x ∷ xs) each = (each 0 x refl, all_from P xs (λ c y e. each (suc c) y e))

extended : (before : List (List ℕ)) (l : List ℕ) (d e : Outline) → after_lines stages.Start before ≡ Some d → after_bytes d l ≡ Ok (Some e) → after_lines stages.Start (before ++ l ∷ []) ≡ Some e
extended before l d e reads next = after_append stages.Start before (l ∷ []) ∙ ap (λ o. o >>= (λ x. after_lines x (l ∷ []))) reads ∙ ap (λ r. taken r >>= (λ x. Some x)) next

-- the outline behind the lines of a class
class_reads : (s : Setting) (c : ℕ) (x : Class) (r : ClassRead s c x) → after_lines stages.Start (lines_before_class s (suc c)) ≡ Some (stages.Open (head_of s) (take c s.classes) (block_of (head_of s) x))
class_reads s c x r =
    ap (after_lines stages.Start) r.grown ∙ after_append stages.Start (lines_before_class s c) (machine_lines s x) ∙ ap (λ o. o >>= (λ d. after_lines d (machine_lines s x))) r.reads_before ∙ r.reads

-- the outline behind a class that was read to its end
through_reads : (s : Setting) (c : ℕ) (x : Class) (r : ClassRead s c x) → after_lines stages.Start (lines_through s c) ≡ Some r.next
through_reads s c x r =
    ap (after_lines stages.Start) r.through
    ∙ extended (lines_before_class s (suc c)) r.last _ r.next
    (class_reads s c x r) r.reads_last

-- What was read has the shape of machines, in the words of settings, and back.
pub have_shape : (before : List (List ℕ)) (d : Outline) → after_lines stages.Start before ≡ Some d → IsShaped d → HaveShape before
have_shape before d reads shaped s c x w e starts =
    let r = class_read s w c x e in
    let on = reads_to (lines_through s c) starts.0 r.next d (through_reads s c x r) (ap (after_lines stages.Start) (sym starts.1) ∙ reads) in
    let stays = done_stay r.next d starts.0 (good_of (lines_through s c) r.next (through_reads s c x r)) on in
    let count : length (take c s.classes) ≡ c = take_count s.classes c x e in
    let all : done_of d ≡ (take c s.classes ++ x ∷ []) ++ stays.0 = stays.1 ∙ ap (λ t. t ++ stays.0) r.next_done in
    let at : slice_get (done_of d) c ≡ Some x =
    ap (λ xs. slice_get xs c) (all ∙ append_assoc (take c s.classes) (x ∷ []) stays.0) ∙ ap (slice_get (take c s.classes ++ x ∷ stays.0)) (sym count) ∙ get_end (take c s.classes) stays.0 x in
    all_at (λ (y : Class). HasShape y.machine) (done_of d) c x shaped at where
      take_count : (xs : List Class) (c : ℕ) (x : Class) → slice_get xs c ≡ Some x → length (take c xs) ≡ c
      take_count [] zero x e = absurd cc
      take_count [] (suc c) x e = absurd cc
      take_count (y ∷ xs) zero x e = refl
      take_count (y ∷ xs) (suc c) x e = ap suc (take_count xs c x e)

pub shaped_from : (before : List (List ℕ)) (d : Outline) (begins : BeginsText before) → after_lines stages.Start before ≡ Some d → HaveShape before → IsShaped d
shaped_from before d begins reads have = all_from (λ (y : Class). HasShape y.machine) (done_of d) (λ c x e.
    let s = begins.setting in
    let w = begins.written in
    let on = reads_to before begins.more d (stages.Ended s) reads (ap (after_lines stages.Start) (sym begins.parts) ∙ lines_read s w) in
    let stays = done_stay d (stages.Ended s) begins.more (good_of before d reads) on in
    let at : slice_get s.classes c ≡ Some x = ap (λ xs. slice_get xs c) stays.1 ∙ get_from (done_of d) stays.0 c x e in
    let r = class_read s w c x at in
    have s c x w at (by_fronts s c x at r (get_within (done_of d) c x e) (fronts before (lines_before_class s (suc c)) begins.more (r.last ∷ r.later)
    (sym begins.parts ∙ r.whole ∙ ap (λ t. t ++ r.later) r.through ∙ append_assoc (lines_before_class s (suc c)) (r.last ∷ []) r.later)))) where
      get_within : (xs : List Class) (c : ℕ) (x : Class) → slice_get xs c ≡ Some x → c < length xs
      get_within [] zero x e = absurd cc
      get_within [] (suc c) x e = absurd cc
      get_within (y ∷ xs) zero x e = omega arith
      get_within (y ∷ xs) (suc c) x e = let more = get_within xs c x e in omega (arith, more)

      -- What is read of fewer lines has not read the class to its end.
      too_few : (s : Setting) (c : ℕ) (x : Class) (at : slice_get s.classes c ≡ Some x) (r : ClassRead s c x) (m : List (List ℕ)) → c < length (done_of d) → lines_before_class s (suc c) ≡ before ++ m → ⊥
      too_few s c x at r m many e =
          let t = turns s c x at r in
          let on = reads_to before m d t.outline reads (ap (after_lines stages.Start) (sym e) ∙ t.reads) in
          let stays = done_stay d t.outline m (good_of before d reads) on in
          absurd (let few = t.few in omega (arith, many, few, ap length stays.1, length-append (done_of d) stays.0))

      by_fronts : (s : Setting) (c : ℕ) (x : Class) (at : slice_get s.classes c ≡ Some x) (r : ClassRead s c x) → c < length (done_of d) → Fronts before (lines_before_class s (suc c)) begins.more (r.last ∷ r.later) → StartsWith before (lines_through s c)
      by_fronts s c x at r many (first_longer [] f g) = absurd (too_few s c x at r [] many (sym (append-nil (lines_before_class s (suc c))) ∙ sym f ∙ sym (append-nil before)))
      by_fronts s c x at r many (first_longer (j ∷ m) f g) =
          let head : r.last ≡ j = cc in
          (m, f ∙ ap (λ t. lines_before_class s (suc c) ++ t ∷ m) (sym head) ∙ sym (append_assoc (lines_before_class s (suc c)) (r.last ∷ []) m) ∙ ap (λ t. t ++ m) (sym r.through))
      by_fronts s c x at r many (second_longer m f g) = absurd (too_few s c x at r m many f)

-- ---- a line that cannot stand there

-- no line is read where reading stops for a bad line
nothing_next : (d : Outline) (rest : List ℕ) (n m : ℕ) → IsStuckAt d rest n (faults.BadLine m) → (m ≡ n) × ((text after : List ℕ) → line_front rest ≡ Some (text, after) → after_bytes d text ≡ Ok None)
nothing_next d rest n m (inl none) = ((let same : faults.BadLine m ≡ faults.BadLine n = none.1 in cc), λ text after at. absurd (let both : None ≡ Some (text, after) = sym none.0 ∙ at in cc))
nothing_next d rest n m (inr there) = (
  there.3.0,
  λ text after at.
      let both : (there.0, there.1) ≡ (text, after) = some_is (there.0, there.1) (text, after) (sym there.2 ∙ at) in
      ap (after_bytes d) (sym (ap (λ (x : List ℕ × List ℕ). x.0) both)) ∙ there.3.1,
)

last_inner : (ls : List (List ℕ)) (text : List ℕ) → AllByRecursion IsInner (ls ++ text ∷ []) → IsInner text
last_inner [] text all = all.0
last_inner (l ∷ ls) text all = last_inner ls text all.1

bad_line : (bytes : List ℕ) (m : ℕ) → StopsAt bytes (faults.BadLine m) → IsBadLine bytes m
unfolding flat_text
bad_line bytes m p =
    let lines = p.read.lines in
    let d = p.outline in
    let next = nothing_next d p.rest p.number m p.stuck in
    let never : (text after : List ℕ) (e : Outline) → IsInner text → p.rest ≡ line text ++ after → after_bytes d text ≡ Ok (Some e) → ⊥ = λ text after e inner parts read.
    let none = next.1 text after (ap line_front parts ∙ line_front_again text after inner) in absurd (let both : fine None ≡ Ok (Some e) = sym none ∙ read in cc) in
    record {
      before = lines;
      behind = p.rest;
      parts = p.read.parts;
      counted = next.0 ∙ p.read.counted;
      begins = read_begins lines d p.read.reads;
      shaped = have_shape lines d p.read.reads p.read.shaped;
      unfinished = λ s w e.
          elim (compared lines (flat_lines s) p.rest [] p.read.inner (written_inner s w) (sym p.read.parts ∙ e ∙ sym (append-nil (text_of (flat_lines s))))) [
            | second g ↦
                let on = reads_to lines (g.next ∷ g.more) d (stages.Ended s) p.read.reads (ap (after_lines stages.Start) (sym g.parts) ∙ lines_read s w) in
                let step = reads_on d (stages.Ended s) g.next g.more on in
                never g.next _ step.0 (read_inner d g.next (Ok (Some step.0)) step.1 (λ none. absurd cc)).0 g.behind step.1
            | first g ↦
                let on = reads_to (flat_lines s) (g.next ∷ g.more) (stages.Ended s) d (lines_read s w) (ap (after_lines stages.Start) (sym g.parts) ∙ p.read.reads) in
                let step = reads_on (stages.Ended s) d g.next g.more on in
                after_end s g.next step.0 step.1
            | same f g ↦ p.unfinished s (some_is d (stages.Ended s) (sym p.read.reads ∙ ap (after_lines stages.Start) f ∙ lines_read s w)) g
          ];
      stuck = λ text after e begins.
          let r = begins_read (lines ++ text ∷ []) begins in
          let on = reads_to lines (text ∷ []) d r.outline p.read.reads r.front in
          let step = reads_on d r.outline text [] on in
          never text after step.0 (last_inner lines text (begins_inner (lines ++ text ∷ []) begins)) e step.1;
      no_act = λ text after fault e is.
          let told = act_line_told lines d text fault p.read.reads is in
          let inner = (read_inner d text (Err fault) told (λ none. absurd cc)).0 in
          let none = next.1 text after (ap line_front e ∙ line_front_again text after inner) in absurd (let both : fine None ≡ Err fault = sym none ∙ told in cc);
    }

bad_line_stops : (bytes : List ℕ) (m : ℕ) → IsBadLine bytes m → StopsAt bytes (faults.BadLine m)
unfolding flat_text flat_lines
bad_line_stops bytes m q =
    let r = begins_read q.before q.begins in
    let d = r.outline in
    record {
      outline = d;
      rest = q.behind;
      number = m;
      read = record { lines = q.before; inner = begins_inner q.before q.begins; parts = q.parts; reads = r.front; counted = q.counted; shaped = shaped_from q.before d q.begins r.front q.shaped };
      unfinished = λ s is none.
          let ended : after_lines stages.Start q.before ≡ Some (stages.Ended s) = r.front ∙ ap Some is in
          let reach = lines_reach stages.Start q.before (stages.Ended s) tt ended in
          q.unfinished s reach.1 (q.parts ∙ ap (λ t. text_of q.before ++ t) none ∙ append-nil (text_of q.before) ∙ ap text_of (sym reach.0));
      stuck = by_front (line_front q.behind) refl r;
      known = λ e. absurd cc;
    } where
      by_due : (d : Outline) → after_lines stages.Start q.before ≡ Some d → (text after : List ℕ) → line_front q.behind ≡ Some (text, after) → (due : Result (Option Outline) ActFault) → after_bytes d text ≡ due → IsStuckAt d q.behind m (faults.BadLine m)
      by_due d front text after at (Ok None) e = inr (text, after, at, (refl, e))
      by_due d front text after at (Ok (Some x)) e = absurd (q.stuck text after (line_front_takes q.behind text after at).parts (read_begins (q.before ++ text ∷ []) x (extended q.before text d x front e)))
      by_due d front text after at (Err fault) e = absurd (q.no_act text after fault (line_front_takes q.behind text after at).parts (act_is q.before d text fault front e))

      by_front : (o : Option (List ℕ × List ℕ)) → line_front q.behind ≡ o → (r : FrontRead q.before q.begins.more (stages.Ended q.begins.setting)) → IsStuckAt r.outline q.behind m (faults.BadLine m)
      by_front None e r = inl (e, refl)
      by_front (Some front) e r = by_due r.outline r.front front.0 front.1 e (after_bytes r.outline front.0) refl

-- ---- a faulty action text

bad_act : (bytes : List ℕ) (m : ℕ) (fault : ActFault) → StopsAt bytes (faults.Act m fault) → IsBadAct bytes m fault
bad_act bytes m fault p = by_reason p.stuck where
  by_reason : IsStuckAt p.outline p.rest p.number (faults.Act m fault) → IsBadAct bytes m fault
  by_reason (inl none) = absurd (let same : faults.Act m fault ≡ faults.BadLine p.number = none.1 in cc)
  by_reason (inr there) = record {
    before = p.read.lines;
    text = there.0;
    after = there.1;
    parts = p.read.parts ∙ ap (λ t. text_of p.read.lines ++ t) (line_front_takes p.rest there.0 there.1 there.2).parts;
    counted = there.3.0 ∙ p.read.counted;
    shaped = have_shape p.read.lines p.outline p.read.reads p.read.shaped;
    fault_is = act_is p.read.lines p.outline there.0 fault p.read.reads there.3.1;
  }

some_bytes : (l after : List ℕ) → line l ++ after ≡ [] → ⊥
some_bytes l after e = absurd (omega (arith, ap length e, length-append (line l) after, length-append l (10 ∷ [])))

bad_act_stops : (bytes : List ℕ) (m : ℕ) (fault : ActFault) → IsBadAct bytes m fault → StopsAt bytes (faults.Act m fault)
bad_act_stops bytes m fault q =
    let begins = act_begins q.before q.text fault q.fault_is in
    let r = begins_read q.before begins in
    let told = act_line_told q.before r.outline q.text fault r.front q.fault_is in
    let inner = (read_inner r.outline q.text (Err fault) told (λ none. absurd cc)).0 in
    record {
      outline = r.outline;
      rest = line q.text ++ q.after;
      number = m;
      read = record { lines = q.before; inner = begins_inner q.before begins; parts = q.parts; reads = r.front; counted = q.counted; shaped = shaped_from q.before r.outline begins r.front q.shaped };
      unfinished = λ s is none. some_bytes q.text q.after none;
      stuck = inr (q.text, q.after, line_front_again q.text q.after inner, (refl, told));
      known = λ e. absurd cc;
    }

-- ---- a misshapen machine

-- the fault of a shape names its element
named_told : (behind : ℕ) (m : DraftMachine) (shape : Shape) (e : Element) → IsNamedBy shape e → fault_of behind m shape ≡ faults.Shape (element_line behind m e) shape
named_told behind m (shapes.BadOwner x) e named = ap (λ y. faults.Shape (element_line behind m y) (shapes.BadOwner x)) named
named_told behind m (shapes.BadEnd x) e named = ap (λ y. faults.Shape (element_line behind m y) (shapes.BadEnd x)) named
named_told behind m (shapes.TooMany x) e named = ap (λ y. faults.Shape (element_line behind m y) (shapes.TooMany x)) named
named_told behind m (shapes.TooDeep x) e named = ap (λ y. faults.Shape (element_line behind m y) (shapes.TooDeep x)) named
named_told behind m shapes.NoMemory e named = absurd named

class_numbered : (s : Setting) → IsWritten s → (c : ℕ) (x : Class) → slice_get s.classes c ≡ Some x → IsNumbered (names_of s x) x.machine x.program
class_numbered s w c x e = let written = all_at (λ (y : Class). IsWrittenClass (names_of s y) y) s.classes c x w.classes e in written.numbered

line_and_rest : (lines : List (List ℕ)) (text after : List ℕ) → text_of lines ++ (line text ++ after) ≡ text_of (lines ++ text ∷ []) ++ after
line_and_rest lines text after =
    sym (append_assoc (text_of lines) (line text) after) ∙ ap (λ t. (text_of lines ++ t) ++ after) (sym (append-nil (line text))) ∙ ap (λ t. t ++ after) (sym (text_of_append lines (text ∷ [])))

bad_shape : (bytes : List ℕ) (m : ℕ) (shape : Shape) → StopsAt bytes (faults.Shape m shape) → IsBadShape bytes m shape
bad_shape bytes m shape p = by_reason p.stuck where
  by_ends : (text after : List ℕ) → line_front p.rest ≡ Some (text, after) → EndsMisshapen p.outline (after_bytes p.outline text) p.number (faults.Shape m shape) → IsBadShape bytes m shape
  by_ends text after at ends =
      let lines = p.read.lines in
      let done = ends.done in
      let x = class_of ends.block in
      let c = length done in
      let longer = extended lines text p.outline ends.next p.read.reads ends.reads in
      let begins = read_begins (lines ++ text ∷ []) ends.next longer in
      let s = begins.setting in
      let w = begins.written in
      let on = reads_to (lines ++ text ∷ []) begins.more ends.next (stages.Ended s) longer (ap (after_lines stages.Start) (sym begins.parts) ∙ lines_read s w) in
      let stays = done_stay ends.next (stages.Ended s) begins.more (good_of (lines ++ text ∷ []) ends.next longer) on in
      let classes : s.classes ≡ done ++ x ∷ stays.0 = stays.1 ∙ ap (λ t. t ++ stays.0) ends.ends ∙ append_assoc done (x ∷ []) stays.0 in
      let class_is : slice_get s.classes c ≡ Some x = ap (λ cs. slice_get cs c) classes ∙ get_end done stays.0 x in
      let r = class_read s w c x class_is in
      let here : done_of p.outline ≡ done = ap done_of ends.open_is in
      let turn : TurnsAt c lines text = record { outline = p.outline; reads = p.read.reads; next = ends.next; reads_next = ends.reads; few = omega (arith, ap length here); many = omega (arith, ap length ends.ends, length-append done (x ∷ [])) } in
      let whole : lines ++ text ∷ begins.more ≡ lines_before_class s (suc c) ++ r.last ∷ r.later =
      sym (append_assoc lines (text ∷ []) begins.more) ∙ sym begins.parts ∙ r.whole ∙ ap (λ t. t ++ r.later) r.through ∙ append_assoc (lines_before_class s (suc c)) (r.last ∷ []) r.later in
      let same_lines = one_turn c lines (lines_before_class s (suc c)) begins.more r.later text r.last turn (turns s c x class_is r) whole in
      let tail : text ∷ begins.more ≡ r.last ∷ r.later = cancel (lines_before_class s (suc c)) (text ∷ begins.more) (r.last ∷ r.later) (ap (λ t. t ++ text ∷ begins.more) (sym same_lines) ∙ whole) in
      let last : text ≡ r.last = cc in
      let through : lines ++ text ∷ [] ≡ lines_through s c = ap (λ t. t ++ text ∷ []) same_lines ∙ ap (λ t. lines_before_class s (suc c) ++ t ∷ []) last ∙ sym r.through in
      let element = ends.fault_is.1.0 in
      let named = ends.fault_is.1.1 in
      let told : faults.Shape m shape ≡ faults.Shape (element_line p.number x.machine element) ends.shape = ends.told ∙ named_told p.number x.machine ends.shape element named in
      let number : m ≡ element_line p.number x.machine element = cc in
      let shape_is : ends.shape ≡ shape = cc in
      let behind : p.number ≡ suc (length (lines_before_class s c ++ machine_lines s x)) = p.read.counted ∙ ap (λ ls. suc (length ls)) (same_lines ∙ r.grown) in
      record {
        setting = s;
        written = w;
        place = c;
        class = x;
        class_is = class_is;
        earlier = λ k y lt e.
            let at' : slice_get done k ≡ Some y = get_in done (x ∷ stays.0) k y (ap (λ cs. slice_get cs k) (sym classes) ∙ e) lt in
            all_at (λ (z : Class). HasShape z.machine) done k y (subst AreShaped here p.read.shaped) at';
        behind = after;
        parts = p.read.parts ∙ ap (λ t. text_of lines ++ t) (line_front_takes p.rest text after at).parts ∙ line_and_rest lines text after ∙ ap (λ ls. text_of ls ++ after) through;
        fault = subst (IsShapeFault x.machine) shape_is ends.fault_is;
        element = element;
        named = subst (λ f. IsNamedBy f element) shape_is named;
        line_is = number ∙ element_line_is s c x p.number (class_numbered s w c x class_is) behind element;
      }

  by_reason : IsStuckAt p.outline p.rest p.number (faults.Shape m shape) → IsBadShape bytes m shape
  by_reason (inl none) = absurd (let same : faults.Shape m shape ≡ faults.BadLine p.number = none.1 in cc)
  by_reason (inr there) = by_ends there.0 there.1 there.2 there.3

get_take : (xs : List Class) (c k : ℕ) (x : Class) → slice_get (take c xs) k ≡ Some x → (k < c) × (slice_get xs k ≡ Some x)
get_take [] zero zero x e = absurd cc
get_take [] zero (suc k) x e = absurd cc
get_take [] (suc c) zero x e = absurd cc
get_take [] (suc c) (suc k) x e = absurd cc
get_take (y ∷ xs) zero zero x e = absurd cc
get_take (y ∷ xs) zero (suc k) x e = absurd cc
get_take (y ∷ xs) (suc c) zero x e = (omega arith, e)
get_take (y ∷ xs) (suc c) (suc k) x e = let more = get_take xs c k x e in (omega (arith, more.0), more.1)

bad_shape_stops : (bytes : List ℕ) (m : ℕ) (shape : Shape) → IsBadShape bytes m shape → StopsAt bytes (faults.Shape m shape)
bad_shape_stops bytes m shape q =
    let s = q.setting in
    let c = q.place in
    let x = q.class in
    let r = class_read s q.written c x q.class_is in
    let lines = lines_before_class s (suc c) in
    let d : Outline = stages.Open (head_of s) (take c s.classes) (block_of (head_of s) x) in
    let reads = class_reads s c x r in
    let number = suc (length lines) in
    let behind : number ≡ suc (length (lines_before_class s c ++ machine_lines s x)) = ap (λ ls. suc (length ls)) r.grown in
    let counted : m ≡ element_line number x.machine q.element = q.line_is ∙ sym (element_line_is s c x number (class_numbered s q.written c x q.class_is) behind q.element) in
    let told : faults.Shape m shape ≡ fault_of number x.machine shape = ap (λ n. faults.Shape n shape) counted ∙ sym (named_told number x.machine shape q.element q.named) in
    let inner = (read_inner d r.last (Ok (Some r.next)) r.reads_last (λ none. absurd cc)).0 in
    record {
      outline = d;
      rest = line r.last ++ q.behind;
      number = number;
      read = record {
        lines = lines;
        inner = lines_inner stages.Start lines d reads;
        parts = q.parts ∙ ap (λ ls. text_of ls ++ q.behind) r.through ∙ sym (line_and_rest lines r.last q.behind);
        reads = reads;
        counted = refl;
        shaped = all_from (λ (y : Class). HasShape y.machine) (take c s.classes) (λ k y e. let at = get_take s.classes c k y e in q.earlier k y at.0 at.1);
      };
      unfinished = λ s is none. some_bytes r.last q.behind none;
      stuck = inr (r.last, q.behind, line_front_again r.last q.behind inner, record { head = head_of s; done = take c s.classes; block = block_of (head_of s) x; next = r.next; open_is = refl; reads = r.reads_last; ends = r.next_done; shape = shape; fault_is = q.fault; told = told });
      known = λ e. absurd cc;
    }

-- ---- all faults

pub stops_is_fault : (bytes : List ℕ) (f : FlatFault) → StopsAt bytes f → IsFlatFault bytes f
stops_is_fault bytes (faults.BadLine m) p = bad_line bytes m p
stops_is_fault bytes (faults.Shape m shape) p = bad_shape bytes m shape p
stops_is_fault bytes (faults.Act m fault) p = bad_act bytes m fault p
stops_is_fault bytes faults.NoMemory p = p.known refl

pub fault_stops : (bytes : List ℕ) (f : FlatFault) → IsFlatFault bytes f → StopsAt bytes f
fault_stops bytes (faults.BadLine m) q = bad_line_stops bytes m q
fault_stops bytes (faults.Shape m shape) q = bad_shape_stops bytes m shape q
fault_stops bytes (faults.Act m fault) q = bad_act_stops bytes m fault q
fault_stops bytes faults.NoMemory q = absurd q

pub one_fault : (bytes : List ℕ) (f g : FlatFault) → IsFlatFault bytes f → IsFlatFault bytes g → f ≡ g
one_fault bytes f g p q = one_stop bytes f g (fault_stops bytes f p) (fault_stops bytes g q)

pub one_setting : (a b : Setting) → IsFlat a → IsFlat b → flat_text a ≡ flat_text b → a ≡ b
unfolding flat_text
one_setting a b v w eq = one_text a b v.written w.written eq

pub not_both : (s : Setting) (f : FlatFault) → IsFlat s → IsFlatFault (flat_text s) f → ⊥
unfolding flat_text
not_both s f flat q = no_stop s f flat.written flat.shape (fault_stops (text_of (flat_lines s)) f q)

pub stop_or_fault : (bytes : List ℕ) (f : FlatFault) → (f ≡ faults.NoMemory) ⊎ StopsAt bytes f → (f ≡ faults.NoMemory) ⊎ IsFlatFault bytes f
stop_or_fault bytes f (inl none) = inl none
stop_or_fault bytes f (inr stop) = inr (stops_is_fault bytes f stop)
