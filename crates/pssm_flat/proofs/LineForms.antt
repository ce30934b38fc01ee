-- Each line of the grammar: what is read as one is spelled so, it is read again, and it has no line feed.
use Rattle.std.proofs.Common.{◌≡◌, ℕ, suc, ◌<◌, ◌≤◌, ℤ, pos, negsuc, Bool, true, false, eqb, List, [], ◌∷◌, ◌++◌, Some, refl, sym, ap, subst, ◌∙◌, arith}
use Rattle.std.specs.Prelude.{codes, not}
use Rattle.std.specs.List.{list_all}
use Rattle.std.specs.Str.{IsUtf8, is_utf8, bytes_eq}
use Rattle.std.specs.Fmt.{decimal, signed_decimal}
use Rattle.std.proofs.lemmas.Bool.{and_parts, and_from, eqb-true}
use Rattle.std.proofs.lemmas.Slice.Eq.{bytes_eq-Decides}
use Rattle.std.proofs.lemmas.List.{append-nil}
use Rattle.std.proofs.lemmas.Fmt.{digits_decimal}
use Rattle.std.proofs.lemmas.Str.{IsUtf8-from_is_utf8, is_utf8-from_IsUtf8}
use Rattle.pssm_model.specs.declared.elements.Owner.{Owner}
use Rattle.pssm_model.specs.declared.elements.Owner.TheVariants as owners
use Rattle.pssm_model.specs.declared.elements.VertexKind.{VertexKind}
use Rattle.pssm_model.specs.declared.elements.TransKind.{TransKind}
use Rattle.pssm_model.specs.declared.elements.TransKind.TheVariants.{External, Local, Internal}
use Rattle.pssm_spelling.specs.Spelling.{IsName, continues_name}
use Rattle.pssm_spelling.specs.SpellingReading.{is_digit, stripped}
use Rattle.pssm_spelling.proofs.SpellingLaws.{stripped_takes, name_takes, name_again, name_goes_on, digits_model}
use Rattle.pssm_flat.specs.declared.action.ActionLine.{ActionLine}
use Rattle.pssm_flat.specs.declared.action.ActionLine.TheVariants as actions
use Rattle.pssm_flat.specs.declared.line.Line.{Line}
use Rattle.pssm_flat.specs.declared.line.Line.TheVariants as lines
use Rattle.pssm_flat.specs.Text.{owner_word, kind_word, transition_word, label_text}
use Rattle.pssm_flat.specs.Flat.{is_inner, IsLineText, is_label_byte, IsLabel, IsInteger}
use Rattle.pssm_flat.specs.Faults.{action_word}
use Rattle.pssm_flat.specs.inner.Outlines.{IsInner}
use Rattle.pssm_flat.specs.inner.Lines.{line_text, named_taken, owner_taken, whole_line, behind_word, action_taken, signal_taken, object_taken, var_taken, region_line_taken, vertex_line_taken, end_taken, transition_line_taken, vertex_of, transition_with, head_line_taken, element_line_taken, part_line_taken, line_taken}
use Rattle.pssm_flat.proofs.Bind.{bind_then, chosen_some, some_is}
use Rattle.pssm_flat.proofs.FirstLaws.{count_takes, count_again, first_takes, first_again}
use Rattle.pssm_flat.proofs.LineLaws.{behind, or_then, mapped, ended_takes, IsSmallOwner, named_takes, name_alone, index_takes, index_again, owner_takes, owner_again, kind_takes, kind_again, kind_is_name, transition_takes, transition_again, label_takes, label_again, label_ends}

-- a line whose parts can stand in it
abbrev pub IsGoodLine : Line → Type 0
IsGoodLine lines.Header = Unit {0}
IsGoodLine (lines.Signal name count) = IsName name × (count ≤ 8)
IsGoodLine (lines.Class name) = IsName name
IsGoodLine (lines.Object name class) = IsName name × IsName class
IsGoodLine (lines.Machine name) = IsName name
IsGoodLine (lines.Var name first) = IsName name × IsInteger first
IsGoodLine (lines.Region number owner) = (number < 65536) × IsSmallOwner owner
IsGoodLine (lines.Vertex number owner kind label) = (number < 65536) × IsSmallOwner owner × IsLabel label
IsGoodLine (lines.Defer signal) = IsName signal
IsGoodLine (lines.Transition number source target kind) = (number < 65536) × (source.0 < 65536) × (target.0 < 65536)
IsGoodLine (lines.On signal) = IsName signal
IsGoodLine (lines.Action word text) = IsLineText text
IsGoodLine lines.EmptyStep = Unit {0}
IsGoodLine lines.Otherwise = Unit {0}
IsGoodLine lines.End = Unit {0}

-- what reading a line says of it
abbrev pub IsLineOf : List ℕ → Line → Type 0
IsLineOf bytes l = (bytes ≡ line_text l) × IsGoodLine l

-- ---- what is read is spelled so

whole_takes : (word bytes : List ℕ) (x l : Line) → whole_line word x bytes ≡ Some l → (bytes ≡ word) × (x ≡ l)
whole_takes word bytes x l e =
    let found = chosen_some (bytes_eq bytes word) (Some x) l e in
    ((bytes_eq-Decides bytes word).0 found.0, some_is x l found.1)

signal_takes : (bytes : List ℕ) (y : List ℕ × ℕ) → signal_taken bytes ≡ Some y → IsLineOf bytes (lines.Signal y.0 y.1)
unfolding signal_taken
signal_takes bytes y e =
    bind_then _ _ _ e (λ (rest : List ℕ) at_rest e. bind_then _ _ _ e (λ (x : List ℕ × List ℕ) at_x e. bind_then _ _ _ e (λ (digit : List ℕ) at_digit e. bind_then _ _ _ e (λ (count : ℕ) at_count e.
    let is = name_takes rest x.0 x.1 at_x in
    let counted = count_takes digit count at_count in
    let made : IsLineOf bytes (lines.Signal x.0 count) =
    (stripped_takes (codes "signal ") bytes rest at_rest ∙ behind (codes "signal ") (is.parts ∙ behind x.0 (stripped_takes (codes " ") x.1 digit at_digit ∙ behind (codes " ") counted.0)), (is.name, counted.1)) in
    subst (λ (z : List ℕ × ℕ). IsLineOf bytes (lines.Signal z.0 z.1)) (some_is (x.0, count) y e) made))))

var_takes : (bytes : List ℕ) (y : List ℕ × ℤ) → var_taken bytes ≡ Some y → IsLineOf bytes (lines.Var y.0 y.1)
unfolding var_taken
var_takes bytes y e =
    bind_then _ _ _ e (λ (rest : List ℕ) at_rest e. bind_then _ _ _ e (λ (x : List ℕ × List ℕ) at_x e. bind_then _ _ _ e (λ (word : List ℕ) at_word e. bind_then _ _ _ e (λ (first : ℤ) at_first e.
    let is = name_takes rest x.0 x.1 at_x in
    let number = first_takes word first at_first in
    let made : IsLineOf bytes (lines.Var x.0 first) =
    (stripped_takes (codes "var ") bytes rest at_rest ∙ behind (codes "var ") (is.parts ∙ behind x.0 (stripped_takes (codes " ") x.1 word at_word ∙ behind (codes " ") number.0)), (is.name, number.1)) in
    subst (λ (z : List ℕ × ℤ). IsLineOf bytes (lines.Var z.0 z.1)) (some_is (x.0, first) y e) made))))

-- what stands behind a front has no line feed where the whole has none
pub inner_behind : (front text : List ℕ) → IsInner (front ++ text) → IsInner text
inner_behind [] text inner = inner
inner_behind (c ∷ front) text inner = inner_behind front text (and_parts (is_inner c) (list_all is_inner (front ++ text)) inner).1

abbrev Acts : List ℕ → ActionLine × List ℕ → Type 0
Acts bytes y = (bytes ≡ action_word y.0 ++ y.1) × IsUtf8 y.1

word_takes : (word : ActionLine) (bytes : List ℕ) (y : ActionLine × List ℕ) → behind_word word bytes ≡ Some y → Acts bytes y
unfolding behind_word
word_takes word bytes y e =
    bind_then _ _ _ e (λ (text : List ℕ) at_text e.
    let found = chosen_some (is_utf8 text) (Some (word, text)) y e in
    subst (λ (z : ActionLine × List ℕ). Acts bytes z) (some_is (word, text) y found.1) (stripped_takes (action_word word) bytes text at_text, IsUtf8-from_is_utf8 text found.0))

action_takes : (bytes : List ℕ) (y : ActionLine × List ℕ) → action_taken bytes ≡ Some y → Acts bytes y
unfolding action_taken
action_takes bytes y e =
    or_then _ _ y e (word_takes actions.Entry bytes y)
    (λ e. or_then _ _ y e (word_takes actions.Exit bytes y)
    (λ e. or_then _ _ y e (word_takes actions.Step bytes y)
    (λ e. or_then _ _ y e (word_takes actions.When bytes y) (word_takes actions.Effect bytes y))))

object_takes : (bytes : List ℕ) (y : List ℕ × List ℕ) → object_taken bytes ≡ Some y → IsLineOf bytes (lines.Object y.0 y.1)
unfolding object_taken
object_takes bytes y e =
    bind_then _ _ _ e (λ (rest : List ℕ) at_rest e. bind_then _ _ _ e (λ (x : List ℕ × List ℕ) at_x e. bind_then _ _ _ e (λ (class : List ℕ) at_class e.
    let is = name_takes rest x.0 x.1 at_x in
    let of_class = named_takes (codes " ") x.1 class at_class in
    let made : IsLineOf bytes (lines.Object x.0 class) =
    (stripped_takes (codes "object ") bytes rest at_rest ∙ behind (codes "object ") (is.parts ∙ behind x.0 of_class.0), (is.name, of_class.1)) in
    subst (λ (z : List ℕ × List ℕ). IsLineOf bytes (lines.Object z.0 z.1)) (some_is (x.0, class) y e) made)))

region_takes : (bytes : List ℕ) (l : Line) → region_line_taken bytes ≡ Some l → IsLineOf bytes l
unfolding region_line_taken
region_takes bytes l e =
    bind_then _ _ _ e (λ (digits : List ℕ) at_digits e. bind_then _ _ _ e (λ (n : ℕ × List ℕ) at_n e. bind_then _ _ _ e (λ (rest : List ℕ) at_rest e.
    bind_then _ _ _ e (λ (read : Owner × List ℕ) at_read e. bind_then _ _ _ e (λ (owner : Owner) at_owner e.
    let number = index_takes digits n.0 n.1 at_n in
    let is = owner_takes rest read.0 read.1 at_read in
    let end = ended_takes read owner at_owner in
    let spelled : rest ≡ owner_word read.0 = is.0 ∙ ap (λ (t : List ℕ). owner_word read.0 ++ t) end.0 ∙ append-nil (owner_word read.0) in
    let made : IsLineOf bytes (lines.Region n.0 read.0) =
    (stripped_takes (codes "region r") bytes digits at_digits ∙ behind (codes "region r") (number.0 ∙ behind (decimal n.0) (stripped_takes (codes " ") n.1 rest at_rest ∙ behind (codes " ") spelled)), (number.1, is.1)) in
    let of_owner : IsLineOf bytes (lines.Region n.0 owner) = subst (λ (o : Owner). IsLineOf bytes (lines.Region n.0 o)) end.1 made in
    subst (λ (x : Line). IsLineOf bytes x) (some_is (lines.Region n.0 owner) l e) of_owner)))))

vertex_takes : (bytes : List ℕ) (y : ℕ × Owner × VertexKind × List ℕ) → vertex_line_taken bytes ≡ Some y → IsLineOf bytes (vertex_of y)
unfolding vertex_line_taken
vertex_takes bytes y e =
    bind_then _ _ _ e (λ (digits : List ℕ) at_digits e. bind_then _ _ _ e (λ (n : ℕ × List ℕ) at_n e. bind_then _ _ _ e (λ (rest : List ℕ) at_rest e.
    bind_then _ _ _ e (λ (o : Owner × List ℕ) at_o e. bind_then _ _ _ e (λ (word : List ℕ) at_word e. bind_then _ _ _ e (λ (name : List ℕ × List ℕ) at_name e.
    bind_then _ _ _ e (λ (kind : VertexKind) at_kind e. bind_then _ _ _ e (λ (label : List ℕ) at_label e.
    let number = index_takes digits n.0 n.1 at_n in
    let owner = owner_takes rest o.0 o.1 at_o in
    let kind_name = name_takes word name.0 name.1 at_name in
    let kind_is = kind_takes name.0 kind at_kind in
    let label_is = label_takes name.1 label at_label in
    let words : word ≡ kind_word kind ++ label_text label = kind_name.parts ∙ ap (λ (t : List ℕ). t ++ name.1) kind_is ∙ behind (kind_word kind) label_is.0 in
    let made : IsLineOf bytes (lines.Vertex n.0 o.0 kind label) = (
      stripped_takes (codes "vertex v") bytes digits at_digits ∙ behind (codes "vertex v") (number.0 ∙ behind (decimal n.0) (stripped_takes (codes " ") n.1 rest at_rest ∙ behind (codes " ")
          (owner.0 ∙ behind (owner_word o.0) (stripped_takes (codes " ") o.1 word at_word ∙ behind (codes " ") words)))),
      (number.1, owner.1, label_is.1),
    ) in
    subst (λ (z : ℕ × Owner × VertexKind × List ℕ). IsLineOf bytes (vertex_of z)) (some_is (n.0, o.0, kind, label) y e) made))))))))

end_takes : (bytes : List ℕ) (n : ℕ) (rest : List ℕ) → end_taken bytes ≡ Some (n, rest) → (bytes ≡ codes " v" ++ (decimal n ++ rest)) × (n < 65536)
unfolding end_taken
end_takes bytes n rest e =
    bind_then _ _ _ e (λ (digits : List ℕ) at_digits e.
    let number = index_takes digits n rest e in
    (stripped_takes (codes " v") bytes digits at_digits ∙ behind (codes " v") number.0, number.1))

transition_line_takes : (bytes : List ℕ) (y : ℕ × ℕ × ℕ × TransKind) → transition_line_taken bytes ≡ Some y → IsLineOf bytes (transition_with y)
unfolding transition_line_taken
transition_line_takes bytes y e =
    bind_then _ _ _ e (λ (digits : List ℕ) at_digits e. bind_then _ _ _ e (λ (n : ℕ × List ℕ) at_n e. bind_then _ _ _ e (λ (s : ℕ × List ℕ) at_s e.
    bind_then _ _ _ e (λ (t : ℕ × List ℕ) at_t e. bind_then _ _ _ e (λ (word : List ℕ) at_word e. bind_then _ _ _ e (λ (kind : TransKind) at_kind e.
    let number = index_takes digits n.0 n.1 at_n in
    let source = end_takes n.1 s.0 s.1 at_s in
    let target = end_takes s.1 t.0 t.1 at_t in
    let made : IsLineOf bytes (transition_with (n.0, s.0, t.0, kind)) = (
      stripped_takes (codes "transition t") bytes digits at_digits ∙ behind (codes "transition t") (number.0 ∙ behind (decimal n.0) (source.0 ∙ behind (codes " v") (behind (decimal s.0) (target.0 ∙ behind (codes " v") (behind (decimal t.0)
          (stripped_takes (codes " ") t.1 word at_word ∙ behind (codes " ") (transition_takes word kind at_kind))))))),
      (number.1, source.1, target.1),
    ) in
    subst (λ (z : ℕ × ℕ × ℕ × TransKind). IsLineOf bytes (transition_with z)) (some_is (n.0, s.0, t.0, kind) y e) made))))))

head_takes : (bytes : List ℕ) (l : Line) → head_line_taken bytes ≡ Some l → IsLineOf bytes l
unfolding head_line_taken
head_takes bytes l e =
    let P : Line → Type 0 = λ x. IsLineOf bytes x in
    or_then _ _ l e (λ e. let w = whole_takes (codes "pssm-flat 1") bytes lines.Header l e in subst P w.1 (w.0, tt))
    (λ e. or_then _ _ l e (λ e. mapped (λ (x : List ℕ × ℕ). lines.Signal x.0 x.1) _ l e (λ (x : List ℕ × ℕ) at_x same. subst P same (signal_takes bytes x at_x)))
    (λ e. or_then _ _ l e (λ e. mapped lines.Class _ l e (λ (name : List ℕ) at_name same. subst P same (named_takes (codes "class ") bytes name at_name)))
    (λ e. or_then _ _ l e (λ e. mapped (λ (x : List ℕ × List ℕ). lines.Object x.0 x.1) _ l e (λ (x : List ℕ × List ℕ) at_x same. subst P same (object_takes bytes x at_x)))
    (λ e. mapped lines.Machine _ l e (λ (name : List ℕ) at_name same. subst P same (named_takes (codes "machine ") bytes name at_name))))))

element_takes : (bytes : List ℕ) (l : Line) → element_line_taken bytes ≡ Some l → IsLineOf bytes l
unfolding element_line_taken
element_takes bytes l e =
    let P : Line → Type 0 = λ x. IsLineOf bytes x in
    or_then _ _ l e (λ e. mapped (λ (x : List ℕ × ℤ). lines.Var x.0 x.1) _ l e (λ (x : List ℕ × ℤ) at_x same. subst P same (var_takes bytes x at_x)))
    (λ e. or_then _ _ l e (λ e. region_takes bytes l e)
    (λ e. or_then _ _ l e (λ e. mapped vertex_of _ l e (λ (x : ℕ × Owner × VertexKind × List ℕ) at_x same. subst P same (vertex_takes bytes x at_x)))
    (λ e. mapped transition_with _ l e (λ (x : ℕ × ℕ × ℕ × TransKind) at_x same. subst P same (transition_line_takes bytes x at_x)))))

part_takes : (bytes : List ℕ) (l : Line) → IsInner bytes → part_line_taken bytes ≡ Some l → IsLineOf bytes l
unfolding part_line_taken
part_takes bytes l inner e =
    let P : Line → Type 0 = λ x. IsLineOf bytes x in
    or_then _ _ l e (λ e. mapped lines.Defer _ l e (λ (name : List ℕ) at_name same. subst P same (named_takes (codes "defer ") bytes name at_name)))
    (λ e. or_then _ _ l e (λ e. mapped lines.On _ l e (λ (name : List ℕ) at_name same. subst P same (named_takes (codes "on ") bytes name at_name)))
    (λ e. or_then _ _ l e (λ e. mapped (λ (x : ActionLine × List ℕ). lines.Action x.0 x.1) _ l e (λ (x : ActionLine × List ℕ) at_x same.
    let is = action_takes bytes x at_x in
    subst P same (is.0, record { utf8 = is.1; inner = inner_behind (action_word x.0) x.1 (subst IsInner is.0 inner) })))
    (λ e. or_then _ _ l e (λ e. let w = whole_takes (codes "step") bytes lines.EmptyStep l e in subst P w.1 (w.0, tt))
    (λ e. or_then _ _ l e (λ e. let w = whole_takes (codes "else") bytes lines.Otherwise l e in subst P w.1 (w.0, tt))
    (λ e. let w = whole_takes (codes "end") bytes lines.End l e in subst P w.1 (w.0, tt))))))

pub line_takes : (bytes : List ℕ) (l : Line) → IsInner bytes → line_taken bytes ≡ Some l → IsLineOf bytes l
unfolding line_taken
line_takes bytes l inner e = or_then _ _ l e (λ e. head_takes bytes l e) (λ e. or_then _ _ l e (λ e. element_takes bytes l e) (λ e. part_takes bytes l inner e))

-- ---- each line is read again

owner_alone : (o : Owner) → IsSmallOwner o → owner_taken (owner_word o) ≡ Some (o, [])
owner_alone o small = ap owner_taken (sym (append-nil (owner_word o))) ∙ owner_again o [] small tt

pub line_again : (l : Line) → IsGoodLine l → line_taken (line_text l) ≡ Some l
unfolding line_taken head_line_taken element_line_taken part_line_taken signal_taken object_taken var_taken named_taken region_line_taken vertex_line_taken end_taken transition_line_taken action_taken behind_word stripped
line_again lines.Header is = refl
line_again (lines.Signal name count) is = rw (name_again name (codes " " ++ decimal count) is.0 refl, count_again count is.1) refl
line_again (lines.Class name) is = rw (name_alone name is) refl
line_again (lines.Object name class) is = rw (name_again name (codes " " ++ class) is.0 refl, name_alone class is.1) refl
line_again (lines.Machine name) is = rw (name_alone name is) refl
line_again (lines.Var name first) is = rw (name_again name (codes " " ++ signed_decimal first) is.0 refl, first_again first is.1) refl
line_again (lines.Region number owner) is = rw (index_again number (codes " " ++ owner_word owner) is.0 refl, owner_alone owner is.1) refl
line_again (lines.Vertex number owner kind label) is =
    let words : List ℕ = kind_word kind ++ label_text label in
    rw (
      index_again number (codes " " ++ (owner_word owner ++ (codes " " ++ words))) is.0 refl,
      owner_again owner (codes " " ++ words) is.1 refl,
      name_again (kind_word kind) (label_text label) (kind_is_name kind) (label_ends label),
      kind_again kind,
      label_again label is.2,
    ) refl
line_again (lines.Defer signal) is = rw (name_alone signal is) refl
line_again (lines.Transition number source target kind) is =
    let word : List ℕ = codes " " ++ transition_word kind in
    rw (
      index_again number (codes " v" ++ (decimal source.0 ++ (codes " v" ++ (decimal target.0 ++ word)))) is.0 refl,
      index_again source.0 (codes " v" ++ (decimal target.0 ++ word)) is.1 refl,
      index_again target.0 word is.2 refl,
      transition_again kind,
    ) refl
line_again (lines.On signal) is = rw (name_alone signal is) refl
line_again (lines.Action actions.Entry text) is = rw (is_utf8-from_IsUtf8 text is.utf8) refl
line_again (lines.Action actions.Exit text) is = rw (is_utf8-from_IsUtf8 text is.utf8) refl
line_again (lines.Action actions.Step text) is = rw (is_utf8-from_IsUtf8 text is.utf8) refl
line_again (lines.Action actions.When text) is = rw (is_utf8-from_IsUtf8 text is.utf8) refl
line_again (lines.Action actions.Effect text) is = rw (is_utf8-from_IsUtf8 text is.utf8) refl
line_again lines.EmptyStep is = refl
line_again lines.Otherwise is = refl
line_again lines.End is = refl

-- ---- no line has a line feed

pub inner_append : (a b : List ℕ) → IsInner a → IsInner b → IsInner (a ++ b)
inner_append [] b left right = right
inner_append (c ∷ a) b left right = let both = and_parts (is_inner c) (list_all is_inner a) left in and_from (is_inner c) (list_all is_inner (a ++ b)) both.0 (inner_append a b both.1 right)

inner_byte : (p : ℕ → Bool) → p 10 ≡ false → (c : ℕ) → p c ≡ true → is_inner c ≡ true
inner_byte p feed c e = by_test (eqb c 10) refl where
  by_test : (t : Bool) → eqb c 10 ≡ t → not t ≡ true
  by_test true same = absurd (let one : p c ≡ p 10 = ap p (eqb-true c 10 same) in cc)
  by_test false other = refl

pub inner_all : (p : ℕ → Bool) → p 10 ≡ false → (text : List ℕ) → list_all p text ≡ true → IsInner text
inner_all p feed [] e = refl
inner_all p feed (c ∷ text) e =
    let both = and_parts (p c) (list_all p text) e in
    and_from (is_inner c) (list_all is_inner text) (inner_byte p feed c both.0) (inner_all p feed text both.1)

inner_name : (name : List ℕ) → IsName name → IsInner name
inner_name name is = inner_all continues_name refl name (name_goes_on name is.spelled)

inner_number : (n : ℕ) → n < 65536 → IsInner (decimal n)
inner_number n small = inner_all is_digit refl (decimal n) (digits_decimal digits_model n (omega arith))

inner_label : (label : List ℕ) → IsLabel label → IsInner (label_text label)
inner_label [] is = refl
inner_label (b ∷ label) is = inner_all is_label_byte refl (b ∷ label) is.no_control

inner_owner : (o : Owner) → IsSmallOwner o → IsInner (owner_word o)
inner_owner owners.Top small = refl
inner_owner (owners.Region r) small = inner_number r.0 small
inner_owner (owners.State v) small = inner_number v.0 small

inner_kind : (k : VertexKind) → IsInner (kind_word k)
inner_kind k = inner_name (kind_word k) (kind_is_name k)

inner_transition : (k : TransKind) → IsInner (transition_word k)
inner_transition External = refl
inner_transition Local = refl
inner_transition Internal = refl

inner_first : (n : ℤ) → IsInteger n → IsInner (signed_decimal n)
inner_first (pos n) is = inner_all is_digit refl (decimal n) (digits_decimal digits_model n (omega arith))
inner_first (negsuc n) is = inner_all is_digit refl (decimal (suc n)) (digits_decimal digits_model (suc n) (omega arith))

inner_word : (word : ActionLine) → IsInner (action_word word)
inner_word actions.Entry = refl
inner_word actions.Exit = refl
inner_word actions.Step = refl
inner_word actions.When = refl
inner_word actions.Effect = refl

pub line_inner : (l : Line) → IsGoodLine l → IsInner (line_text l)
line_inner lines.Header is = refl
line_inner (lines.Signal name count) is = inner_append name (codes " " ++ decimal count) (inner_name name is.0) (inner_number count (let few = is.1 in omega arith))
line_inner (lines.Class name) is = inner_name name is
line_inner (lines.Object name class) is = inner_append name (codes " " ++ class) (inner_name name is.0) (inner_name class is.1)
line_inner (lines.Machine name) is = inner_name name is
line_inner (lines.Var name first) is = inner_append name (codes " " ++ signed_decimal first) (inner_name name is.0) (inner_first first is.1)
line_inner (lines.Region number owner) is = inner_append (decimal number) (codes " " ++ owner_word owner) (inner_number number is.0) (inner_owner owner is.1)
line_inner (lines.Vertex number owner kind label) is =
    inner_append (decimal number) _ (inner_number number is.0) (inner_append (owner_word owner) _ (inner_owner owner is.1) (inner_append (kind_word kind) (label_text label) (inner_kind kind) (inner_label label is.2)))
line_inner (lines.Defer signal) is = inner_name signal is
line_inner (lines.Transition number source target kind) is =
    inner_append (decimal number) _ (inner_number number is.0) (inner_append (decimal source.0) _ (inner_number source.0 is.1) (inner_append (decimal target.0) _ (inner_number target.0 is.2) (inner_transition kind)))
line_inner (lines.On signal) is = inner_name signal is
line_inner (lines.Action word text) is = inner_append (action_word word) text (inner_word word) is.inner
line_inner lines.EmptyStep is = refl
line_inner lines.Otherwise is = refl
line_inner lines.End is = refl
