-- All lines of a setting with a text are read.
use Rattle.std.proofs.Common.{◌≡◌, ℕ, zero, suc, ◌<◌, true, false, List, [], ◌∷◌, ◌++◌, length, take, Some, Ok, refl, sym, ap, subst, ◌∙◌, append_assoc, arith}
use Rattle.std.specs.Prelude.{map, codes, slice_get}
use Rattle.std.specs.Option.{option_map_or}
use Rattle.std.specs.List.{AllByRecursion, flat_map}
use Rattle.std.specs.Str.{bytes_eq}
use Rattle.std.proofs.lemmas.Bool.{lt-ltb, eq-eqb}
use Rattle.std.proofs.lemmas.List.{append-nil, length-append, take_at}
use Rattle.std.proofs.lemmas.Slice.Eq.{bytes_eq-Decides}
use Rattle.pssm_semantics.specs.declared.setting.Class.{Class}
use Rattle.pssm_semantics.specs.declared.setting.Setting.{Setting}
use Rattle.pssm_spelling.specs.Spelling.{IsName}
use Rattle.pssm_flat.specs.declared.line.Line.TheVariants as lines
use Rattle.pssm_flat.specs.declared.head.Head.{Head}
use Rattle.pssm_flat.specs.declared.block.Block.{Block}
use Rattle.pssm_flat.specs.declared.outline.Outline.{Outline}
use Rattle.pssm_flat.specs.declared.outline.Outline.TheVariants as stages
use Rattle.pssm_flat.specs.Text.{machine_lines, head_lines, flat_lines}
use Rattle.pssm_flat.specs.Flat.{AreNames, IsWrittenClass, IsWritten}
use Rattle.pssm_flat.specs.Faults.{lines_before_class, lines_through}
use Rattle.pssm_flat.specs.inner.Lines.{line_text}
use Rattle.pssm_flat.specs.inner.Outlines.{signal_of, empty_block, setting_of, is_next_class, opened, ended, after_line, after_bytes, after_lines, done_of}
use Rattle.pssm_flat.proofs.NameLaws.{names_are}
use Rattle.pssm_flat.proofs.Good.{class_name_of, names_with}
use Rattle.pssm_flat.proofs.CompleteHead.{next_line, one_then, many_then, head_of, head_next}
use Rattle.pssm_flat.proofs.CompleteBlock.{block_with, elements_next}

-- What was read behind the blocks of these classes: the head where there are none, or else the last block, read to its end.
pub record IsBehind (h : Head) (done : List Class) (d : Outline) : Type 0 where
  pub machine : (name : List ℕ) → after_line d (lines.Machine name) ≡ Ok (opened h done name)
  pub end : after_line d lines.End ≡ Ok (ended h done)

behind_head : (h : Head) → IsBehind h [] (stages.Heading h)
behind_head h = record { machine = λ name. refl; end = refl }

-- the block of a class that has been read
abbrev pub block_of : Head → Class → Block
block_of h x = block_with x.name (names_with h x.vars) x.vars x.machine.regions x.machine.vertices x.machine.transitions x.program

behind_class : (h : Head) (done : List Class) (x : Class) → 0 < length x.machine.regions → IsBehind h (done ++ x ∷ []) (stages.Open h done (block_of h x))
behind_class h done x some = record { machine = λ name. rw (lt-ltb 0 (length x.machine.regions) some) refl; end = rw (lt-ltb 0 (length x.machine.regions) some) refl }

get_past : {X : Type 0} (front later : List X) (x : X) → slice_get (front ++ x ∷ later) (length front) ≡ Some x
get_past [] later x = refl
get_past (y ∷ front) later x = get_past front later x

map_append : {X Y : Type 0} (f : X → Y) (xs ys : List X) → map f (xs ++ ys) ≡ map f xs ++ map f ys
map_append f [] ys = refl
map_append f (x ∷ xs) ys = ap (λ t. f x ∷ t) (map_append f xs ys)

map_count : {X Y : Type 0} (f : X → Y) (xs : List X) → length (map f xs) ≡ length xs
map_count f [] = refl
map_count f (x ∷ xs) = ap suc (map_count f xs)

-- the next block may begin
is_next : (h : Head) (done later : List Class) (x : Class) → h.classes ≡ map class_name_of (done ++ x ∷ later) → is_next_class h (length done) x.name ≡ true
is_next h done later x same =
    let all = same ∙ map_append class_name_of done (x ∷ later) in
    let at : slice_get h.classes (length done) ≡ Some x.name =
    ap (λ ns. slice_get ns (length done)) all ∙ ap (λ n. slice_get (map class_name_of done ++ x.name ∷ map class_name_of later) n) (sym (map_count class_name_of done)) ∙ get_past (map class_name_of done) (map class_name_of later) x.name in
    ap (λ o. option_map_or (λ next. bytes_eq next x.name) o false) at ∙ (bytes_eq-Decides x.name x.name).1 refl

-- what is behind several blocks
record BehindLines (h : Head) (done : List Class) (d : Outline) (ls : List (List ℕ)) : Type 0 where
  outline : Outline
  reads : after_lines d ls ≡ Some outline
  behind : IsBehind h done outline

module _ (h : Head) (differ : AreNames (map signal_of h.signals)) (s : Setting) (signals : s.signals ≡ h.signals) (objects : s.objects ≡ h.objects) where
  lines_same : (x : Class) → machine_lines s x ≡ machine_lines (setting_of h []) x
  lines_same x = ap (λ gs. machine_lines (record { signals = gs; classes = []; objects = s.objects }) x) signals ∙ ap (λ os. machine_lines (record { signals = h.signals; classes = []; objects = os }) x) objects

  -- one block
  class_next : (done later : List Class) (x : Class) (d : Outline) → IsBehind h done d → h.classes ≡ map class_name_of (done ++ x ∷ later) → IsName x.name → IsWrittenClass (names_with h x.vars) x
      → after_lines d (machine_lines s x) ≡ Some (stages.Open h done (block_of h x))
  class_next done later x d behind same is written =
      let begun = stages.Open h done (empty_block h x.name) in
      let open_is : opened h done x.name ≡ Some begun = rw (is_next h done later x same) refl in
      let read : after_line d (lines.Machine x.name) ≡ Ok (Some begun) = behind.machine x.name ∙ ap Ok open_is in
      ap (after_lines d) (lines_same x) ∙ one_then d begun (stages.Open h done (block_of h x)) (line_text (lines.Machine x.name)) _ (next_line d begun (lines.Machine x.name) is read) (elements_next h done x differ written)

  blocks_front : (done new later : List Class) (d : Outline) → IsBehind h done d → h.classes ≡ map class_name_of (done ++ (new ++ later)) → AllByRecursion (λ (x : Class). IsName x.name) new
      → AllByRecursion (λ (x : Class). IsWrittenClass (names_with h x.vars) x) new → BehindLines h (done ++ new) d (flat_map (machine_lines s) new)
  blocks_front done [] later d behind same is written = record { outline = d; reads = refl; behind = subst (λ xs. IsBehind h xs d) (sym (append-nil done)) behind }
  blocks_front done (x ∷ new) later d behind same is written =
      let open_is = class_next done (new ++ later) x d behind same is.0 written.0 in
      let next = stages.Open h done (block_of h x) in
      let grouped : (done ++ x ∷ []) ++ new ≡ done ++ x ∷ new = append_assoc done (x ∷ []) new in
      let more = blocks_front (done ++ x ∷ []) new later next (behind_class h done x written.0.machine.some_region) (same ∙ ap (map class_name_of) (sym (append_assoc done (x ∷ []) (new ++ later)))) is.1 written.1 in
      record {
        outline = more.outline;
        reads = many_then d next more.outline (machine_lines s x) (flat_map (machine_lines s) new) open_is more.reads;
        behind = subst (λ xs. IsBehind h xs more.outline) grouped more.behind;
      }

names_of_classes : (classes : List Class) → AllByRecursion IsName (map class_name_of classes) → AllByRecursion (λ (x : Class). IsName x.name) classes
names_of_classes [] all = tt
names_of_classes (x ∷ classes) all = (all.0, names_of_classes classes all.1)

pub class_names : (s : Setting) → IsWritten s → AllByRecursion (λ (x : Class). IsName x.name) s.classes
class_names s w = names_of_classes s.classes (names_are (map class_name_of s.classes) w.class_names)

-- the classes behind a front of them
pub record SplitAt (xs : List Class) (c : ℕ) (x : Class) : Type 0 where
  pub later : List Class
  pub parts : xs ≡ take c xs ++ x ∷ later

pub split_at : (xs : List Class) (c : ℕ) (x : Class) → slice_get xs c ≡ Some x → SplitAt xs c x
split_at [] zero x e = absurd cc
split_at [] (suc c) x e = absurd cc
split_at (y ∷ xs) zero x e = let same : y ≡ x = cc in record { later = xs; parts = ap (λ z. z ∷ xs) same }
split_at (y ∷ xs) (suc c) x e = let more = split_at xs c x e in record { later = more.later; parts = ap (λ t. y ∷ t) more.parts }

all_front : {X : Type 0} (P : X → Type 0) (xs ys : List X) → AllByRecursion P (xs ++ ys) → AllByRecursion P xs
all_front P [] ys all = tt
all_front P (x ∷ xs) ys all = (all.0, all_front P xs ys all.1)

all_rest : {X : Type 0} (P : X → Type 0) (xs ys : List X) → AllByRecursion P (xs ++ ys) → AllByRecursion P ys
all_rest P [] ys all = all
all_rest P (x ∷ xs) ys all = all_rest P xs ys all.1

-- What is read of the lines up to those of the machine of a class.
pub record BeforeClass (s : Setting) (c : ℕ) : Type 0 where
  pub outline : Outline
  pub reads : after_lines stages.Start (lines_before_class s c) ≡ Some outline
  pub behind : IsBehind (head_of s) (take c s.classes) outline

pub before_front : (s : Setting) (w : IsWritten s) (c : ℕ) (later : List Class) → s.classes ≡ take c s.classes ++ later → BeforeClass s c
before_front s w c later parts =
    let h = head_of s in
    let front = take c s.classes in
    let is = all_front (λ (x : Class). IsName x.name) front later (subst (AllByRecursion (λ (x : Class). IsName x.name)) parts (class_names s w)) in
    let written = all_front (λ (x : Class). IsWrittenClass (names_with h x.vars) x) front later (subst (AllByRecursion (λ (x : Class). IsWrittenClass (names_with h x.vars) x)) parts w.classes) in
    let blocks = blocks_front h w.signal_names s refl refl [] front later (stages.Heading h) (behind_head h) (ap (map class_name_of) parts) is written in
    record { outline = blocks.outline; reads = many_then stages.Start (stages.Heading h) blocks.outline (head_lines s) (flat_map (machine_lines s) front) (head_next s w) blocks.reads; behind = blocks.behind }

-- what is read of a text is its setting
pub lines_read : (s : Setting) → IsWritten s → after_lines stages.Start (flat_lines s) ≡ Some (stages.Ended s)
unfolding flat_lines
lines_read s w =
    let h = head_of s in
    let blocks = blocks_front h w.signal_names s refl refl [] s.classes [] (stages.Heading h) (behind_head h) (ap (map class_name_of) (sym (append-nil s.classes))) (class_names s w) w.classes in
    let last : ended h s.classes ≡ Some (stages.Ended s) = rw (eq-eqb (length h.classes) (length s.classes) (map_count class_name_of s.classes)) refl in
    let read : after_line blocks.outline lines.End ≡ Ok (Some (stages.Ended s)) = blocks.behind.end ∙ ap Ok last in
    many_then stages.Start (stages.Heading h) (stages.Ended s) (head_lines s) _ (head_next s w)
    (many_then (stages.Heading h) blocks.outline (stages.Ended s) (flat_map (machine_lines s) s.classes) (codes "end" ∷ []) blocks.reads
    (one_then blocks.outline (stages.Ended s) (stages.Ended s) (codes "end") [] (next_line blocks.outline (stages.Ended s) lines.End tt read) refl))

-- ---- one class

take_more : (xs : List Class) (c : ℕ) (x : Class) → slice_get xs c ≡ Some x → take (suc c) xs ≡ take c xs ++ x ∷ []
take_more [] zero x e = absurd cc
take_more [] (suc c) x e = absurd cc
take_more (y ∷ xs) zero x e = let same : y ≡ x = cc in ap (λ z. z ∷ []) same
take_more (y ∷ xs) (suc c) x e = ap (λ t. y ∷ t) (take_more xs c x e)

flat_append : {X : Type 0} (f : X → List (List ℕ)) (xs ys : List X) → flat_map f (xs ++ ys) ≡ flat_map f xs ++ flat_map f ys
flat_append f [] ys = refl
flat_append f (x ∷ xs) ys = ap (λ t. f x ++ t) (flat_append f xs ys) ∙ sym (append_assoc (f x) (flat_map f xs) (flat_map f ys))

-- What is read of the lines up to and with those of the machine of a class, and of the line behind them.
pub record ClassRead (s : Setting) (c : ℕ) (x : Class) : Type 0 where
  -- behind the lines before the class
  pub before : Outline
  pub reads_before : after_lines stages.Start (lines_before_class s c) ≡ Some before
  pub behind_before : IsBehind (head_of s) (take c s.classes) before
  pub begun : after_bytes before (line_text (lines.Machine x.name)) ≡ Ok (Some (stages.Open (head_of s) (take c s.classes) (empty_block (head_of s) x.name)))
  pub inner : List (List ℕ)
  pub machine_is : machine_lines s x ≡ line_text (lines.Machine x.name) ∷ inner
  -- behind its lines
  pub grown : lines_before_class s (suc c) ≡ lines_before_class s c ++ machine_lines s x
  pub reads : after_lines before (machine_lines s x) ≡ Some (stages.Open (head_of s) (take c s.classes) (block_of (head_of s) x))
  -- and behind the next line
  pub last : List ℕ
  pub through : lines_through s c ≡ lines_before_class s (suc c) ++ last ∷ []
  pub later : List (List ℕ)
  pub whole : flat_lines s ≡ lines_through s c ++ later
  pub next : Outline
  pub reads_last : after_bytes (stages.Open (head_of s) (take c s.classes) (block_of (head_of s) x)) last ≡ Ok (Some next)
  pub next_done : done_of next ≡ take c s.classes ++ x ∷ []

take_through : (a b : List (List ℕ)) (l : List ℕ) (more : List (List ℕ)) → take (suc (length (a ++ b))) ((a ++ b) ++ l ∷ more) ≡ (a ++ b) ++ l ∷ []
take_through a b l more =
    let front : List (List ℕ) = (a ++ b) ++ l ∷ [] in
    let count : suc (length (a ++ b)) ≡ length front = omega (arith, length-append (a ++ b) (l ∷ [])) in
    ap (λ n. take n ((a ++ b) ++ l ∷ more)) count ∙ ap (take (length front)) (sym (append_assoc (a ++ b) (l ∷ []) more)) ∙ take_at front more (length front) refl

-- the line behind the blocks of some classes
record NextRead (s : Setting) (done later : List Class) (d : Outline) : Type 0 where
  last : List ℕ
  more : List (List ℕ)
  parts : flat_map (machine_lines s) later ++ codes "end" ∷ [] ≡ last ∷ more
  next : Outline
  reads : after_bytes d last ≡ Ok (Some next)
  next_done : done_of next ≡ done

next_read : (s : Setting) (w : IsWritten s) (done later : List Class) (d : Outline) → IsBehind (head_of s) done d → s.classes ≡ done ++ later → NextRead s done later d
next_read s w done [] d behind parts =
    let h = head_of s in
    let all : s.classes ≡ done = parts ∙ append-nil done in
    let count : length h.classes ≡ length done = map_count class_name_of s.classes ∙ ap length all in
    let made = stages.Ended (setting_of h done) in
    let last : ended h done ≡ Some made = rw (eq-eqb (length h.classes) (length done) count) refl in
    record { last = codes "end"; more = []; parts = refl; next = made; reads = next_line d made lines.End tt (behind.end ∙ ap Ok last); next_done = refl }
next_read s w done (y ∷ later) d behind parts =
    let h = head_of s in
    let begun = stages.Open h done (empty_block h y.name) in
    let is : IsName y.name = (all_rest (λ (x : Class). IsName x.name) done (y ∷ later) (subst (AllByRecursion (λ (x : Class). IsName x.name)) parts (class_names s w))).0 in
    let open_is : opened h done y.name ≡ Some begun = rw (is_next h done later y (ap (map class_name_of) parts)) refl in
    record { last = line_text (lines.Machine y.name); more = _; parts = refl; next = begun; reads = next_line d begun (lines.Machine y.name) is (behind.machine y.name ∙ ap Ok open_is); next_done = refl }

pub class_read : (s : Setting) → IsWritten s → (c : ℕ) (x : Class) → slice_get s.classes c ≡ Some x → ClassRead s c x
unfolding flat_lines
class_read s w c x e =
    let h = head_of s in
    let front = take c s.classes in
    let split = split_at s.classes c x e in
    let before = before_front s w c (x ∷ split.later) split.parts in
    let is = all_rest (λ (y : Class). IsName y.name) front (x ∷ split.later) (subst (AllByRecursion (λ (y : Class). IsName y.name)) split.parts (class_names s w)) in
    let written = all_rest (λ (y : Class). IsWrittenClass (names_with h y.vars) y) front (x ∷ split.later) (subst (AllByRecursion (λ (y : Class). IsWrittenClass (names_with h y.vars) y)) split.parts w.classes) in
    let reads = class_next h w.signal_names s refl refl front split.later x before.outline before.behind (ap (map class_name_of) split.parts) is.0 written.0 in
    let grouped : s.classes ≡ (front ++ x ∷ []) ++ split.later = split.parts ∙ sym (append_assoc front (x ∷ []) split.later) in
    let n = next_read s w (front ++ x ∷ []) split.later (stages.Open h front (block_of h x)) (behind_class h front x written.0.machine.some_region) grouped in
    let more = take_more s.classes c x e in
    let head = head_lines s in
    let grown_by : flat_map (machine_lines s) (take (suc c) s.classes) ≡ flat_map (machine_lines s) front ++ machine_lines s x =
    ap (flat_map (machine_lines s)) more ∙ flat_append (machine_lines s) front (x ∷ []) ∙ ap (λ t. flat_map (machine_lines s) front ++ t) (append-nil (machine_lines s x)) in
    let all : flat_lines s ≡ (head ++ flat_map (machine_lines s) (take (suc c) s.classes)) ++ n.last ∷ n.more =
    ap (λ cs. head ++ (flat_map (machine_lines s) cs ++ codes "end" ∷ [])) (grouped ∙ ap (λ t. t ++ split.later) (sym more))
    ∙ ap (λ t. head ++ (t ++ codes "end" ∷ [])) (flat_append (machine_lines s) (take (suc c) s.classes) split.later)
    ∙ ap (λ t. head ++ t) (append_assoc (flat_map (machine_lines s) (take (suc c) s.classes)) (flat_map (machine_lines s) split.later) (codes "end" ∷ []) ∙ ap (λ t. flat_map (machine_lines s) (take (suc c) s.classes) ++ t) n.parts)
    ∙ sym (append_assoc head (flat_map (machine_lines s) (take (suc c) s.classes)) (n.last ∷ n.more)) in
    let through : lines_through s c ≡ lines_before_class s (suc c) ++ n.last ∷ [] =
    ap (take (suc (length (lines_before_class s (suc c))))) all ∙ take_through head (flat_map (machine_lines s) (take (suc c) s.classes)) n.last n.more in
    record {
      before = before.outline;
      reads_before = before.reads;
      behind_before = before.behind;
      begun = next_line before.outline (stages.Open h front (empty_block h x.name)) (lines.Machine x.name) is.0
          (before.behind.machine x.name ∙ ap Ok (let open_is : opened h front x.name ≡ Some (stages.Open h front (empty_block h x.name)) = rw (is_next h front split.later x (ap (map class_name_of) split.parts)) refl in open_is));
      inner = _;
      machine_is = refl;
      grown = ap (λ t. head ++ t) grown_by ∙ sym (append_assoc head (flat_map (machine_lines s) front) (machine_lines s x));
      reads = reads;
      last = n.last;
      through = through;
      later = n.more;
      whole = all ∙ sym (append_assoc (lines_before_class s (suc c)) (n.last ∷ []) n.more) ∙ ap (λ t. t ++ n.more) (sym through);
      next = n.next;
      reads_last = n.reads;
      next_done = n.next_done;
    }
