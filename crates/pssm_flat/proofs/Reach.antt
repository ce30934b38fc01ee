-- What is read with a line has that line behind the ones before.
use Rattle.std.proofs.Common.{◌≡◌, ◌⊎◌, inl, inr, ℕ, zero, suc, ◌<◌, Bool, true, false, cond, eqb, ltb, List, [], ◌∷◌, ◌++◌, length, Option, Some, None, Result, Ok, Err, refl, sym, ap, subst, ◌∙◌, append_assoc, arith}
use Rattle.std.specs.Prelude.{map, codes, slice_get}
use Rattle.std.specs.Option.{option_map, option_map_or}
use Rattle.std.specs.List.{AllByRecursion, flat_map, list_all}
use Rattle.std.specs.Str.{bytes_eq}
use Rattle.std.proofs.lemmas.Bool.{ltb-true, eqb-true}
use Rattle.std.proofs.lemmas.List.{append-nil, length-append}
use Rattle.std.proofs.lemmas.Slice.Eq.{bytes_eq-Decides}
use Rattle.pssm_semantics.specs.declared.setting.VarDecl.{VarDecl}
use Rattle.pssm_semantics.specs.declared.setting.ObjectDecl.{ObjectDecl}
use Rattle.pssm_semantics.specs.declared.setting.Class.{Class}
use Rattle.pssm_acts.specs.declared.act_fault.ActFault.{ActFault}
use Rattle.pssm_flat.specs.declared.line.Line.{Line}
use Rattle.pssm_flat.specs.declared.line.Line.TheVariants as lines
use Rattle.pssm_flat.specs.declared.head.Head.{Head}
use Rattle.pssm_flat.specs.declared.block.Block.{Block}
use Rattle.pssm_flat.specs.declared.outline.Outline.{Outline}
use Rattle.pssm_flat.specs.declared.outline.Outline.TheVariants as stages
use Rattle.pssm_flat.specs.Text.{signal_line, class_line, object_line, class_name, block_lines, machine_lines, head_lines}
use Rattle.pssm_flat.specs.Flat.{is_inner, AreNames, IsNumbered, IsWrittenClass, IsWritten, first_program}
use Rattle.pssm_flat.specs.inner.Lines.{◌>>=◌, line_text, line_taken}
use Rattle.pssm_flat.specs.inner.Outlines.{lifted, taken, no_head, empty_block, class_of, machine_of, with_head_line, with_line, setting_of, is_next_class, behind_blocks, behind_block, after_start, after_head, after_block, after_line, line_or_none, after_bytes, after_lines, done_of, IsInner}
use Rattle.pssm_flat.proofs.Bind.{bind_then, chosen_some, some_is, ok_is}
use Rattle.pssm_flat.proofs.Items.{map_push, all_append}
use Rattle.pssm_flat.proofs.LineForms.{IsGoodLine, line_takes}
use Rattle.pssm_flat.proofs.NumberLaws.{lifted_takes}
use Rattle.pssm_flat.proofs.Good.{nth_name, class_part, object_part, head_part, done_part, block_part, lines_of, IsGoodHead, names_with, class_name_of, IsGoodBlock, AreGoodClasses, IsNextClass, IsGood}
use Rattle.pssm_flat.proofs.Blocks.{Adds}
use Rattle.pssm_flat.proofs.ElementLines.{var_adds, region_adds, vertex_adds, transition_adds}
use Rattle.pssm_flat.proofs.PartLines.{empty_step_adds, defer_adds, trigger_adds, else_adds, action_adds}
use Rattle.pssm_flat.proofs.Heads.{head_adds}

-- ---- what stays

-- the variables of the class with this number, once they cannot change
abbrev pub vars_of_done : List Class → ℕ → Option (List VarDecl)
vars_of_done done c = option_map (λ (x : Class). x.vars) (slice_get done c)

-- What was read goes on to: the classes stay, and so do the signals, the objects and the variables of the open block once they cannot change.
pub record StaysIn (h : Head) (done : List Class) (b : Block) (e : Outline) : Type 0 where
  pub done_stay : (more : List Class) × (done_of e ≡ done ++ more)
  pub open_stays : 0 < length b.regions → ((c : Block) × (e ≡ stages.Open h done c) × (0 < length c.regions) × (c.vars ≡ b.vars)) ⊎ ((x : Class) × (more : List Class) × (done_of e ≡ done ++ x ∷ more) × (x.vars ≡ b.vars))
  pub head_stays : ((d : List Class) × (c : Block) × (e ≡ stages.Open h d c)) ⊎ ((d : List Class) × (e ≡ stages.Ended (setting_of h d)) × (h.classes ≡ map class_name_of d))

abbrev pub Stays : Outline → Outline → Type 0
Stays (stages.Open h done b) e = StaysIn h done b e
Stays d e = Unit {0}

-- No further class has been read to its end, or that of the open block.
abbrev pub Closes : Outline → Outline → Type 0
Closes d e = (done_of e ≡ done_of d) ⊎ ((h : Head) × (done : List Class) × (b : Block) × (d ≡ stages.Open h done b) × (done_of e ≡ done ++ class_of b ∷ []))

-- one more line has been read
pub record Reached (d e : Outline) (l : List ℕ) : Type 0 where
  pub parts : lines_of e ≡ lines_of d ++ l ∷ []
  pub good : IsGood e
  pub stays : Stays d e
  pub closes : Closes d e

reached_by : (d e f : Outline) (l : List ℕ) → e ≡ f → Reached d e l → Reached d f l
reached_by d e f l same r = subst (λ (x : Outline). Reached d x l) same r

-- ---- the head of a setting

nth_of : (classes : List Class) (n : ℕ) → class_name classes n ≡ nth_name (map class_name_of classes) n
nth_of [] zero = refl
nth_of [] (suc n) = refl
nth_of (x ∷ classes) zero = refl
nth_of (x ∷ classes) (suc n) = nth_of classes n

map_map : {X Y : Type 0} (f : X → Y) (g : Y → List ℕ) (xs : List X) → map g (map f xs) ≡ map (λ x. g (f x)) xs
map_map f g [] = refl
map_map f g (x ∷ xs) = ap (λ t. g (f x) ∷ t) (map_map f g xs)

map_same : {X : Type 0} (f g : X → List ℕ) (xs : List X) → ((x : X) → f x ≡ g x) → map f xs ≡ map g xs
map_same f g [] same = refl
map_same f g (x ∷ xs) same = ap (λ t. t ∷ map f xs) (same x) ∙ ap (λ ts. g x ∷ ts) (map_same f g xs same)

pub head_is : (h : Head) (classes : List Class) → h.classes ≡ map class_name_of classes → head_lines (setting_of h classes) ≡ head_part h
head_is h classes same =
    let names : map class_line classes ≡ map class_part h.classes = sym (map_map class_name_of class_part classes) ∙ ap (map class_part) (sym same) in
    let objects : map (object_line classes) h.objects ≡ map (object_part h.classes) h.objects =
    map_same (object_line classes) (object_part h.classes) h.objects (λ o. ap (λ (t : List ℕ). codes "object " ++ (o.name ++ (codes " " ++ t))) (nth_of classes o.class ∙ ap (λ ns. nth_name ns o.class) (sym same))) in
    ap (λ cs. codes "pssm-flat 1" ∷ (map signal_line h.signals ++ (cs ++ map (object_line classes) h.objects))) names
    ∙ ap (λ os. codes "pssm-flat 1" ∷ (map signal_line h.signals ++ (map class_part h.classes ++ os))) objects

-- ---- lines of a block

line_adds : (h : Head) (b e : Block) (l : Line) → IsGoodBlock h b → IsGoodLine l → with_line b l ≡ Ok (Some e) → Adds h b e (line_text l)
line_adds h b e (lines.Var name first) good is eq = var_adds h b e name first good is.0 is.1 (ok_is _ (Some e) eq)
line_adds h b e (lines.Region number owner) good is eq = region_adds h b e number owner good is.0 is.1 (ok_is _ (Some e) eq)
line_adds h b e (lines.Vertex number owner kind label) good is eq = vertex_adds h b e number owner kind label good is.0 is.1 is.2 (ok_is _ (Some e) eq)
line_adds h b e (lines.Defer signal) good is eq = defer_adds h b e signal good (ok_is _ (Some e) eq)
line_adds h b e (lines.Transition number source target kind) good is eq = transition_adds h b e number source target kind good is.0 is.1 is.2 (ok_is _ (Some e) eq)
line_adds h b e (lines.On signal) good is eq = trigger_adds h b e signal good (ok_is _ (Some e) eq)
line_adds h b e (lines.Action word text) good is eq = action_adds h b e word text good is eq
line_adds h b e lines.EmptyStep good is eq = empty_step_adds h b e good (ok_is _ (Some e) eq)
line_adds h b e lines.Otherwise good is eq = else_adds h b e good (ok_is _ (Some e) eq)
line_adds h b e _ good is eq = absurd cc

grown_reaches : (h : Head) (done : List Class) (b : Block) (e : Outline) (l : Line) → IsGood (stages.Open h done b) → IsGoodLine l → lifted (stages.Open h done) (with_line b l) ≡ Ok (Some e) → Reached (stages.Open h done b) e (line_text l)
grown_reaches h done b e l good is eq =
    let read = lifted_takes (stages.Open h done) (with_line b l) e eq in
    let x = read.0 in
    let adds = line_adds h b x l good.3 is read.1 in
    let next : IsNextClass h done x.name = subst (λ (n : List ℕ). IsNextClass h done n) (sym adds.name_kept) good.2 in
    reached_by (stages.Open h done b) (stages.Open h done x) e (line_text l) read.2 (record {
      parts = ap (λ ls. head_part h ++ (done_part h done ++ ls)) adds.parts ∙ ap (λ ls. head_part h ++ ls) (sym (append_assoc (done_part h done) (block_part b) (line_text l ∷ []))) ∙ sym (append_assoc (head_part h) (done_part h done ++ block_part b) (line_text l ∷ []));
      good = (good.0, good.1, next, adds.good);
      stays = record {
        done_stay = ([], sym (append-nil done));
        open_stays = λ some. let kept = adds.vars_kept some in inl (x, refl, kept.0, kept.1);
        head_stays = inl (done, x, refl);
      };
      closes = inl refl;
    })

-- ---- the end of a block

-- what is written of a block that was read to its end
pub class_done : (h : Head) (b : Block) → IsGoodBlock h b → 0 < length b.regions → IsWrittenClass (names_with h b.vars) (class_of b)
class_done h b good some = record {
  var_names = good.var_names;
  few_vars = good.few_vars;
  firsts = good.firsts;
  machine = record {
    some_region = some;
    few_regions = good.few_regions;
    few_vertices = good.few_vertices;
    few_transitions = good.few_transitions;
    regions = good.regions;
    vertices = good.vertices;
    transitions = good.transitions;
  };
  numbered = subst (λ ns. IsNumbered ns (machine_of b) b.program) good.names_are good.numbered;
}

pub flat_push : {X : Type 0} (f : X → List (List ℕ)) (xs : List X) (x : X) → flat_map f (xs ++ x ∷ []) ≡ flat_map f xs ++ f x
flat_push f [] x = append-nil (f x)
flat_push f (y ∷ xs) x = ap (λ t. f y ++ t) (flat_push f xs x) ∙ sym (append_assoc (f y) (flat_map f xs) (f x))

-- the lines of the classes with that of a block
pub done_push : (h : Head) (done : List Class) (b : Block) → IsGoodBlock h b → done_part h (done ++ class_of b ∷ []) ≡ done_part h done ++ block_part b
done_push h done b good =
    flat_push (machine_lines (setting_of h done)) done (class_of b) ∙ ap (λ ns. done_part h done ++ block_lines ns (class_of b)) (sym good.names_are)

-- the names of these classes are the first
abbrev pub AreFirst : Head → List Class → List (List ℕ) → Type 0
AreFirst h done later = h.classes ≡ map class_name_of done ++ later

pub first_push : (h : Head) (done : List Class) (b : Block) (next : IsNextClass h done b.name) → AreFirst h (done ++ class_of b ∷ []) next.later
first_push h done b next =
    next.classes_are ∙ sym (append_assoc (map class_name_of done) (b.name ∷ []) next.later) ∙ ap (λ ns. ns ++ next.later) (sym (map_push class_name_of done (class_of b)))

map_count : {X Y : Type 0} (f : X → Y) (xs : List X) → length (map f xs) ≡ length xs
map_count f [] = refl
map_count f (x ∷ xs) = ap suc (map_count f xs)

get_past : (front later : List (List ℕ)) → slice_get (front ++ later) (length front) ≡ slice_get later 0
get_past [] later = refl
get_past (x ∷ front) later = get_past front later

next_class : (h : Head) (done : List Class) (name : List ℕ) (later : List (List ℕ)) → AreFirst h done later → is_next_class h (length done) name ≡ true → IsNextClass h done name
next_class h done name later first e =
    let at : slice_get h.classes (length done) ≡ slice_get later 0 =
    ap (λ ns. slice_get ns (length done)) first ∙ ap (λ n. slice_get (map class_name_of done ++ later) n) (sym (map_count class_name_of done)) ∙ get_past (map class_name_of done) later in
    by_later later first (sym (ap (λ o. option_map_or (λ next. bytes_eq next name) o false) at) ∙ e) where
      by_later : (later : List (List ℕ)) → AreFirst h done later → option_map_or (λ next. bytes_eq next name) (slice_get later 0) false ≡ true → IsNextClass h done name
      by_later [] first e = absurd cc
      by_later (x ∷ later) first e =
          let same : x ≡ name = (bytes_eq-Decides x name).0 e in
          record { later = later; classes_are = first ∙ ap (λ n. map class_name_of done ++ n ∷ later) same }

all_done : (h : Head) (done : List Class) (later : List (List ℕ)) → AreFirst h done later → length h.classes ≡ length done → h.classes ≡ map class_name_of done
all_done h done [] first count = first ∙ append-nil (map class_name_of done)
all_done h done (x ∷ later) first count = absurd (omega (arith, count, ap length first, length-append (map class_name_of done) (x ∷ later), map_count class_name_of done))

pub setting_written : (h : Head) (done : List Class) → IsGoodHead h → AreGoodClasses h done → h.classes ≡ map class_name_of done → IsWritten (setting_of h done)
setting_written h done good classes same =
    let count : length h.classes ≡ length done = ap length same ∙ map_count class_name_of done in
    record {
      signal_names = good.signal_names;
      few_signals = good.few_signals;
      counts = good.counts;
      class_names = subst AreNames same good.class_names;
      few_classes = (let few = good.few_classes in omega (arith, few, count));
      object_names = good.object_names;
      few_objects = good.few_objects;
      placed = subst (λ n. AllByRecursion (λ (o : ObjectDecl). o.class < n) h.objects) count good.placed;
      classes = classes;
    }

-- what was read when the blocks of these classes had been read
record BlocksRead (h : Head) (done : List Class) (l : Line) (e : Outline) : Type 0 where
  parts : lines_of e ≡ (head_part h ++ done_part h done) ++ line_text l ∷ []
  good : IsGood e
  classes_are : done_of e ≡ done
  head_stays : ((d : List Class) × (c : Block) × (e ≡ stages.Open h d c)) ⊎ ((d : List Class) × (e ≡ stages.Ended (setting_of h d)) × (h.classes ≡ map class_name_of d))

good_start : (h : Head) (name : List ℕ) → IsGoodBlock h (empty_block h name)
good_start h name = record {
  names_are = refl;
  var_names = tt;
  few_vars = omega arith;
  firsts = tt;
  begun = inr (refl, refl);
  few_regions = omega arith;
  few_vertices = omega arith;
  few_transitions = omega arith;
  regions = tt;
  vertices = tt;
  transitions = tt;
  numbered = record { middle = first_program; vertices = refl; transitions = refl };
}

blocks_read : (h : Head) (done : List Class) (later : List (List ℕ)) (l : Line) (e : Outline) → IsGoodHead h → AreGoodClasses h done → AreFirst h done later → behind_blocks h done l ≡ Some e → BlocksRead h done l e
blocks_read h done later (lines.Machine name) e good classes first eq =
    let made : Outline = stages.Open h done (empty_block h name) in
    let found = chosen_some (is_next_class h (length done) name) (Some made) e eq in
    subst (λ (x : Outline). BlocksRead h done (lines.Machine name) x) (some_is made e found.1) (record {
      parts = sym (append_assoc (head_part h) (done_part h done) (line_text (lines.Machine name) ∷ []));
      good = (good, classes, next_class h done name later first found.0, good_start h name);
      classes_are = refl;
      head_stays = inl (done, empty_block h name, refl);
    })
blocks_read h done later lines.End e good classes first eq =
    let made : Outline = stages.Ended (setting_of h done) in
    let found = chosen_some (eqb (length h.classes) (length done)) (Some made) e eq in
    let same = all_done h done later first (eqb-true (length h.classes) (length done) found.0) in
    subst (λ (x : Outline). BlocksRead h done lines.End x) (some_is made e found.1) (record {
      parts = ap (λ ls. ls ++ (done_part h done ++ codes "end" ∷ [])) (head_is h done same) ∙ sym (append_assoc (head_part h) (done_part h done) (codes "end" ∷ []));
      good = setting_written h done good classes same;
      classes_are = refl;
      head_stays = inr (done, refl, same);
    })
blocks_read h done later _ e good classes first eq = absurd cc

block_ends : (h : Head) (done : List Class) (b : Block) (e : Outline) (l : Line) → IsGood (stages.Open h done b) → behind_block h done b l ≡ Some e → Reached (stages.Open h done b) e (line_text l)
block_ends h done b e l good eq =
    let x = class_of b in
    let found = chosen_some (ltb 0 (length b.regions)) (behind_blocks h (done ++ x ∷ []) l) e eq in
    let some : 0 < length b.regions = ltb-true 0 (length b.regions) found.0 in
    let classes = all_append (λ (y : Class). IsWrittenClass (names_with h y.vars) y) done (x ∷ []) good.1 (class_done h b good.3 some, tt) in
    let r = blocks_read h (done ++ x ∷ []) good.2.later l e good.0 classes (first_push h done b good.2) found.1 in
    record {
      parts = r.parts ∙ ap (λ ls. (head_part h ++ ls) ++ line_text l ∷ []) (done_push h done b good.3);
      good = r.good;
      stays = record {
        done_stay = (x ∷ [], r.classes_are);
        open_stays = λ some. inr (x, [], r.classes_are, refl);
        head_stays = r.head_stays;
      };
      closes = inr (h, done, b, refl, r.classes_are);
    }

head_ends : (h : Head) (e : Outline) (l : Line) → IsGoodHead h → behind_blocks h [] l ≡ Some e → Reached (stages.Heading h) e (line_text l)
head_ends h e l good eq =
    let r = blocks_read h [] h.classes l e good tt refl eq in
    record { parts = r.parts ∙ ap (λ ls. ls ++ line_text l ∷ []) (append-nil (head_part h)); good = r.good; stays = tt; closes = inl r.classes_are }

headed_reaches : (h : Head) (e : Outline) (l : Line) → IsGoodHead h → IsGoodLine l → option_map stages.Heading (with_head_line h l) ≡ Some e → Reached (stages.Heading h) e (line_text l)
headed_reaches h e l good is eq = by_head (with_head_line h l) refl eq where
  by_head : (o : Option Head) → with_head_line h l ≡ o → option_map stages.Heading o ≡ Some e → Reached (stages.Heading h) e (line_text l)
  by_head None at eq = absurd cc
  by_head (Some k) at eq =
      let adds = head_adds h k l good is at in
      reached_by (stages.Heading h) (stages.Heading k) e (line_text l) (some_is (stages.Heading k) e eq) (record { parts = adds.parts; good = adds.good; stays = tt; closes = inl refl })

after_head_reaches : (h : Head) (e : Outline) (l : Line) → IsGoodHead h → IsGoodLine l → after_head h l ≡ Some e → Reached (stages.Heading h) e (line_text l)
after_head_reaches h e (lines.Machine name) good is eq = head_ends h e (lines.Machine name) good eq
after_head_reaches h e lines.End good is eq = head_ends h e lines.End good eq
after_head_reaches h e lines.Header good is eq = absurd cc
after_head_reaches h e (lines.Signal name count) good is eq = headed_reaches h e (lines.Signal name count) good is eq
after_head_reaches h e (lines.Class name) good is eq = headed_reaches h e (lines.Class name) good is eq
after_head_reaches h e (lines.Object name class) good is eq = headed_reaches h e (lines.Object name class) good is eq
after_head_reaches h e _ good is eq = absurd cc

after_block_reaches : (h : Head) (done : List Class) (b : Block) (e : Outline) (l : Line) → IsGood (stages.Open h done b) → IsGoodLine l → after_block h done b l ≡ Ok (Some e) → Reached (stages.Open h done b) e (line_text l)
after_block_reaches h done b e (lines.Machine name) good is eq = block_ends h done b e (lines.Machine name) good (ok_is _ (Some e) eq)
after_block_reaches h done b e lines.End good is eq = block_ends h done b e lines.End good (ok_is _ (Some e) eq)
after_block_reaches h done b e (lines.Var name first) good is eq = grown_reaches h done b e (lines.Var name first) good is eq
after_block_reaches h done b e (lines.Region number owner) good is eq = grown_reaches h done b e (lines.Region number owner) good is eq
after_block_reaches h done b e (lines.Vertex number owner kind label) good is eq = grown_reaches h done b e (lines.Vertex number owner kind label) good is eq
after_block_reaches h done b e (lines.Defer signal) good is eq = grown_reaches h done b e (lines.Defer signal) good is eq
after_block_reaches h done b e (lines.Transition number source target kind) good is eq = grown_reaches h done b e (lines.Transition number source target kind) good is eq
after_block_reaches h done b e (lines.On signal) good is eq = grown_reaches h done b e (lines.On signal) good is eq
after_block_reaches h done b e (lines.Action word text) good is eq = grown_reaches h done b e (lines.Action word text) good is eq
after_block_reaches h done b e lines.EmptyStep good is eq = grown_reaches h done b e lines.EmptyStep good is eq
after_block_reaches h done b e lines.Otherwise good is eq = grown_reaches h done b e lines.Otherwise good is eq
after_block_reaches h done b e _ good is eq = absurd cc

pub no_signals_good : IsGoodHead no_head
no_signals_good = record { signal_names = tt; few_signals = omega arith; counts = tt; class_names = tt; few_classes = omega arith; object_names = tt; few_objects = omega arith; placed = tt }

start_reaches : (l : Line) (e : Outline) → after_start l ≡ Some e → Reached stages.Start e (line_text l)
start_reaches lines.Header e eq = reached_by stages.Start (stages.Heading no_head) e _ (some_is (stages.Heading no_head) e eq) (record { parts = refl; good = no_signals_good; stays = tt; closes = inl refl })
start_reaches _ e eq = absurd cc

pub line_reaches : (d : Outline) (l : Line) (e : Outline) → IsGood d → IsGoodLine l → after_line d l ≡ Ok (Some e) → Reached d e (line_text l)
line_reaches stages.Start l e good is eq = start_reaches l e (ok_is _ (Some e) eq)
line_reaches (stages.Heading h) l e good is eq = after_head_reaches h e l good is (ok_is _ (Some e) eq)
line_reaches (stages.Open h done b) l e good is eq = after_block_reaches h done b e l good is eq
line_reaches (stages.Ended s) l e good is eq = absurd cc

-- a line that was read has no line feed
pub read_inner : (d : Outline) (text : List ℕ) (r : Result (Option Outline) ActFault) → after_bytes d text ≡ r → (r ≡ Ok None → ⊥) → (IsInner text) × (line_or_none d (line_taken text) ≡ r)
unfolding after_bytes
read_inner d text r e some = by_test (list_all is_inner text) refl e where
  by_test : (t : Bool) → list_all is_inner text ≡ t → cond t (line_or_none d (line_taken text)) (Ok None) ≡ r → (IsInner text) × (line_or_none d (line_taken text) ≡ r)
  by_test true inner e = (inner, e)
  by_test false outer e = absurd (some (sym e))

pub bytes_reach : (d : Outline) (text : List ℕ) (e : Outline) → IsGood d → after_bytes d text ≡ Ok (Some e) → Reached d e text
bytes_reach d text e good eq = let r = read_inner d text (Ok (Some e)) eq (λ none. absurd cc) in by_line (line_taken text) refl r.0 r.1 where
  by_line : (o : Option Line) → line_taken text ≡ o → IsInner text → line_or_none d o ≡ Ok (Some e) → Reached d e text
  by_line None at inner eq = absurd cc
  by_line (Some l) at inner eq = let is = line_takes text l inner at in subst (λ (t : List ℕ). Reached d e t) (sym is.0) (line_reaches d l e good is.1 eq)

-- ---- several lines

pub taken_is : {A : Type 0} (r : Result (Option A) ActFault) (x : A) → taken r ≡ Some x → r ≡ Ok (Some x)
taken_is (Ok (Some y)) x e = ap (λ z. Ok (Some z)) (some_is y x e)
taken_is (Ok None) x e = absurd cc
taken_is (Err fault) x e = absurd cc

pub lines_reach : (d : Outline) (ls : List (List ℕ)) (e : Outline) → IsGood d → after_lines d ls ≡ Some e → (lines_of e ≡ lines_of d ++ ls) × IsGood e
lines_reach d [] e good eq = let same : d ≡ e = some_is d e eq in subst (λ (x : Outline). (lines_of x ≡ lines_of d ++ []) × IsGood x) same (sym (append-nil (lines_of d)), good)
lines_reach d (l ∷ ls) e good eq =
    bind_then (taken (after_bytes d l)) (λ x. after_lines x ls) e eq (λ (x : Outline) at_x eq.
    let one = bytes_reach d l x good (taken_is (after_bytes d l) x at_x) in
    let more = lines_reach x ls e one.good eq in
    (more.0 ∙ ap (λ t. t ++ ls) one.parts ∙ append_assoc (lines_of d) (l ∷ []) ls, more.1))

pub after_append : (d : Outline) (a b : List (List ℕ)) → after_lines d (a ++ b) ≡ (after_lines d a >>= (λ e. after_lines e b))
after_append d [] b = refl
after_append d (l ∷ a) b = by_next (taken (after_bytes d l)) (λ e. after_append e a b) where
  by_next : (o : Option Outline) → ((e : Outline) → after_lines e (a ++ b) ≡ (after_lines e a >>= (λ f. after_lines f b))) → (o >>= (λ e. after_lines e (a ++ b))) ≡ ((o >>= (λ e. after_lines e a)) >>= (λ e. after_lines e b))
  by_next None more = refl
  by_next (Some e) more = more e

pub lines_inner : (d : Outline) (ls : List (List ℕ)) (e : Outline) → after_lines d ls ≡ Some e → AllByRecursion IsInner ls
lines_inner d [] e eq = tt
lines_inner d (l ∷ ls) e eq =
    bind_then (taken (after_bytes d l)) (λ x. after_lines x ls) e eq (λ (x : Outline) at_x eq.
    ((read_inner d l (Ok (Some x)) (taken_is (after_bytes d l) x at_x) (λ none. absurd cc)).0, lines_inner x ls e eq))
