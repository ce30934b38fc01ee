-- What is read as a line is spelled so, and each line is read again.
use Rattle.std.proofs.Common.{◌≡◌, ℕ, ◌<◌, Bool, true, false, cond, eqb, ltb, ◌&&◌, List, [], ◌∷◌, ◌++◌, length, Option, Some, None, refl, sym, ap, subst, ◌∙◌, arith, lit≤}
use Rattle.std.specs.Prelude.{codes}
use Rattle.std.specs.Option.{option_map}
use Rattle.std.specs.List.{list_all}
use Rattle.std.specs.Str.{is_utf8, bytes_eq}
use Rattle.std.specs.Fmt.{decimal}
use Rattle.std.proofs.lemmas.Bool.{eqb-true, and_parts, lt-ltb}
use Rattle.std.proofs.lemmas.List.{append-nil, nil_from_length}
use Rattle.std.proofs.lemmas.Str.{IsUtf8-from_is_utf8, is_utf8-from_IsUtf8, IsUtf8-nil}
use Rattle.std.proofs.lemmas.Slice.Eq.{bytes_eq-Decides}
use Rattle.pssm_model.specs.declared.ids.RegionId.{RegionId}
use Rattle.pssm_model.specs.declared.ids.VertexId.{VertexId}
use Rattle.pssm_model.specs.declared.elements.Owner.{Owner}
use Rattle.pssm_model.specs.declared.elements.Owner.TheVariants as owners
use Rattle.pssm_model.specs.declared.elements.VertexKind.{VertexKind}
use Rattle.pssm_model.specs.declared.elements.VertexKind.TheVariants as kinds
use Rattle.pssm_model.specs.declared.elements.TransKind.{TransKind}
use Rattle.pssm_model.specs.declared.elements.TransKind.TheVariants.{External, Local, Internal}
use Rattle.pssm_spelling.specs.Spelling.{IsName, continues_name}
use Rattle.pssm_spelling.specs.SpellingReading.{EndsRun, is_digit, stripped, name_taken, index_taken}
use Rattle.pssm_spelling.proofs.SpellingLaws.{stripped_takes, stripped_again, name_takes, name_again, number_takes, number_again}
use Rattle.pssm_flat.specs.Text.{owner_word, kind_word, transition_word, label_text}
use Rattle.pssm_flat.specs.Flat.{is_label_byte, IsLabel}
use Rattle.pssm_flat.specs.inner.Lines.{or_else, ended, named_taken, top_taken, region_taken, vertex_taken, owner_taken, kind_among, kind_of, transition_among, transition_of, label_of, label_taken}
use Rattle.pssm_flat.proofs.Bind.{bind_then, chosen_some, some_is}

-- what stands behind a front that is there on both sides
pub behind : (front : List ℕ) {a b : List ℕ} → a ≡ b → front ++ a ≡ front ++ b
behind front e = ap (λ (t : List ℕ). front ++ t) e

pub or_then : {A P : Type 0} (a b : Option A) (y : A) → or_else a b ≡ Some y → (a ≡ Some y → P) → (b ≡ Some y → P) → P
or_then None b y e first second = second e
or_then (Some x) b y e first second = first e

pub mapped : {A B P : Type 0} (f : A → B) (o : Option A) (y : B) → option_map f o ≡ Some y → ((x : A) → o ≡ Some x → f x ≡ y → P) → P
mapped f None y e k = absurd cc
mapped f (Some x) y e k = k x refl (some_is (f x) y e)

pub ended_takes : {A : Type 0} (read : A × List ℕ) (x : A) → ended read ≡ Some x → (read.1 ≡ []) × (read.0 ≡ x)
ended_takes read x e =
    let last = chosen_some (eqb (length read.1) 0) (Some read.0) x e in
    (nil_from_length read.1 (eqb-true (length read.1) 0 last.0), some_is read.0 x last.1)

-- ---- the parts of lines

-- numbers that a line can hold
abbrev pub IsSmallOwner : Owner → Type 0
IsSmallOwner owners.Top = Unit {0}
IsSmallOwner (owners.Region r) = r.0 < 65536
IsSmallOwner (owners.State v) = v.0 < 65536

pub named_takes : (word bytes name : List ℕ) → named_taken word bytes ≡ Some name → (bytes ≡ word ++ name) × IsName name
unfolding named_taken
named_takes word bytes name e =
    bind_then _ _ _ e (λ (rest : List ℕ) at_rest e. bind_then _ _ _ e (λ (x : List ℕ × List ℕ) at_x e.
    let is = name_takes rest x.0 x.1 at_x in
    let end = ended_takes x name e in
    let spelled : rest ≡ x.0 = is.parts ∙ ap (λ (t : List ℕ). x.0 ++ t) end.0 ∙ append-nil x.0 in
    (stripped_takes word bytes rest at_rest ∙ behind word (spelled ∙ end.1), subst (λ (t : List ℕ). IsName t) end.1 is.name)))

pub name_alone : (name : List ℕ) → IsName name → name_taken name ≡ Some (name, [])
name_alone name is = ap name_taken (sym (append-nil name)) ∙ name_again name [] is tt

pub named_again : (word name : List ℕ) → IsName name → named_taken word (word ++ name) ≡ Some name
unfolding named_taken
named_again word name is = rw (stripped_again word name, name_alone name is) refl

pub index_takes : (bytes : List ℕ) (n : ℕ) (rest : List ℕ) → index_taken bytes ≡ Some (n, rest) → (bytes ≡ decimal n ++ rest) × (n < 65536)
index_takes bytes n rest e = let is = number_takes 65536 bytes n rest (lit≤ tt) e in (is.parts, is.small)

pub index_again : (n : ℕ) (rest : List ℕ) → n < 65536 → EndsRun is_digit rest → index_taken (decimal n ++ rest) ≡ Some (n, rest)
index_again n rest small ends = number_again 65536 n rest (lit≤ tt) small ends

pub owner_takes : (bytes : List ℕ) (o : Owner) (rest : List ℕ) → owner_taken bytes ≡ Some (o, rest) → (bytes ≡ owner_word o ++ rest) × IsSmallOwner o
unfolding owner_taken region_taken vertex_taken
owner_takes bytes o rest e =
    let P : Owner × List ℕ → Type 0 = λ y. (bytes ≡ owner_word y.0 ++ y.1) × IsSmallOwner y.0 in
    or_then (top_taken bytes) (or_else (region_taken bytes) (vertex_taken bytes)) (o, rest) e
    (λ e. mapped _ _ _ e (λ (x : List ℕ) at_x same. subst P same (stripped_takes (codes "top") bytes x at_x, tt)))
    (λ e. or_then (region_taken bytes) (vertex_taken bytes) (o, rest) e
    (λ e. bind_then _ _ _ e (λ (digits : List ℕ) at_digits e. mapped _ _ _ e (λ (x : ℕ × List ℕ) at_x same.
    let is = index_takes digits x.0 x.1 at_x in
    subst P same (stripped_takes (codes "r") bytes digits at_digits ∙ behind (codes "r") is.0, is.1))))
    (λ e. bind_then _ _ _ e (λ (digits : List ℕ) at_digits e. mapped _ _ _ e (λ (x : ℕ × List ℕ) at_x same.
    let is = index_takes digits x.0 x.1 at_x in
    subst P same (stripped_takes (codes "v") bytes digits at_digits ∙ behind (codes "v") is.0, is.1)))))

no_top : (b : ℕ) (bytes : List ℕ) → eqb b 116 ≡ false → top_taken (b ∷ bytes) ≡ None
unfolding stripped
no_top b bytes e = rw e refl

no_region : (bytes : List ℕ) → region_taken (118 ∷ bytes) ≡ None
unfolding region_taken stripped
no_region bytes = refl

region_again : (r : RegionId) (rest : List ℕ) → r.0 < 65536 → EndsRun is_digit rest → region_taken (codes "r" ++ (decimal r.0 ++ rest)) ≡ Some (owners.Region r, rest)
unfolding region_taken
region_again r rest small ends = rw (stripped_again (codes "r") (decimal r.0 ++ rest), index_again r.0 rest small ends) refl

vertex_again : (v : VertexId) (rest : List ℕ) → v.0 < 65536 → EndsRun is_digit rest → vertex_taken (codes "v" ++ (decimal v.0 ++ rest)) ≡ Some (owners.State v, rest)
unfolding vertex_taken
vertex_again v rest small ends = rw (stripped_again (codes "v") (decimal v.0 ++ rest), index_again v.0 rest small ends) refl

pub owner_again : (o : Owner) (rest : List ℕ) → IsSmallOwner o → EndsRun is_digit rest → owner_taken (owner_word o ++ rest) ≡ Some (o, rest)
unfolding owner_taken
owner_again owners.Top rest small ends = rw (stripped_again (codes "top") rest) refl
owner_again (owners.Region r) rest small ends = rw (no_top 114 (decimal r.0 ++ rest) refl, region_again r rest small ends) refl
owner_again (owners.State v) rest small ends = rw (no_top 118 (decimal v.0 ++ rest) refl, no_region (decimal v.0 ++ rest), vertex_again v rest small ends) refl

kind_among_takes : (ks : List VertexKind) (word : List ℕ) (k : VertexKind) → kind_among ks word ≡ Some k → word ≡ kind_word k
kind_among_takes [] word k e = absurd cc
kind_among_takes (x ∷ ks) word k e = by_test (bytes_eq word (kind_word x)) refl e (kind_among_takes ks word k) where
  by_test : (t : Bool) → bytes_eq word (kind_word x) ≡ t → cond t (Some x) (kind_among ks word) ≡ Some k → (kind_among ks word ≡ Some k → word ≡ kind_word k) → word ≡ kind_word k
  by_test true same e more = (bytes_eq-Decides word (kind_word x)).0 same ∙ ap kind_word (some_is x k e)
  by_test false other e more = more e

pub kind_takes : (word : List ℕ) (k : VertexKind) → kind_of word ≡ Some k → word ≡ kind_word k
kind_takes word k e = kind_among_takes (kinds.State ∷ kinds.Final ∷ kinds.Initial ∷ kinds.DeepHistory ∷ kinds.ShallowHistory ∷ kinds.Join ∷ kinds.Fork ∷ kinds.Junction ∷ kinds.Choice ∷ kinds.EntryPoint ∷ kinds.ExitPoint ∷ kinds.Terminate ∷ []) word k e

pub kind_again : (k : VertexKind) → kind_of (kind_word k) ≡ Some k
kind_again kinds.State = refl
kind_again kinds.Final = refl
kind_again kinds.Initial = refl
kind_again kinds.DeepHistory = refl
kind_again kinds.ShallowHistory = refl
kind_again kinds.Join = refl
kind_again kinds.Fork = refl
kind_again kinds.Junction = refl
kind_again kinds.Choice = refl
kind_again kinds.EntryPoint = refl
kind_again kinds.ExitPoint = refl
kind_again kinds.Terminate = refl

pub kind_is_name : (k : VertexKind) → IsName (kind_word k)
kind_is_name kinds.State = record { spelled = refl; short = lit≤ tt }
kind_is_name kinds.Final = record { spelled = refl; short = lit≤ tt }
kind_is_name kinds.Initial = record { spelled = refl; short = lit≤ tt }
kind_is_name kinds.DeepHistory = record { spelled = refl; short = lit≤ tt }
kind_is_name kinds.ShallowHistory = record { spelled = refl; short = lit≤ tt }
kind_is_name kinds.Join = record { spelled = refl; short = lit≤ tt }
kind_is_name kinds.Fork = record { spelled = refl; short = lit≤ tt }
kind_is_name kinds.Junction = record { spelled = refl; short = lit≤ tt }
kind_is_name kinds.Choice = record { spelled = refl; short = lit≤ tt }
kind_is_name kinds.EntryPoint = record { spelled = refl; short = lit≤ tt }
kind_is_name kinds.ExitPoint = record { spelled = refl; short = lit≤ tt }
kind_is_name kinds.Terminate = record { spelled = refl; short = lit≤ tt }

transition_among_takes : (ks : List TransKind) (word : List ℕ) (k : TransKind) → transition_among ks word ≡ Some k → word ≡ transition_word k
transition_among_takes [] word k e = absurd cc
transition_among_takes (x ∷ ks) word k e = by_test (bytes_eq word (transition_word x)) refl e (transition_among_takes ks word k) where
  by_test : (t : Bool) → bytes_eq word (transition_word x) ≡ t → cond t (Some x) (transition_among ks word) ≡ Some k → (transition_among ks word ≡ Some k → word ≡ transition_word k) → word ≡ transition_word k
  by_test true same e more = (bytes_eq-Decides word (transition_word x)).0 same ∙ ap transition_word (some_is x k e)
  by_test false other e more = more e

pub transition_takes : (word : List ℕ) (k : TransKind) → transition_of word ≡ Some k → word ≡ transition_word k
transition_takes word k e = transition_among_takes (External ∷ Local ∷ Internal ∷ []) word k e

pub transition_again : (k : TransKind) → transition_of (transition_word k) ≡ Some k
transition_again External = refl
transition_again Local = refl
transition_again Internal = refl

-- no label
pub no_label : IsLabel []
no_label = record { text = IsUtf8-nil; no_control = refl }

label_of_takes : (bytes label : List ℕ) → label_of bytes ≡ Some label → (32 ∷ bytes ≡ label_text label) × IsLabel label
label_of_takes [] label e = absurd cc
label_of_takes (c ∷ bytes) label e =
    let all : List ℕ = c ∷ bytes in
    let found = chosen_some (ltb 0 (length all) && (list_all is_label_byte all && is_utf8 all)) (Some all) label e in
    let tests = and_parts (ltb 0 (length all)) (list_all is_label_byte all && is_utf8 all) found.0 in
    let both = and_parts (list_all is_label_byte all) (is_utf8 all) tests.1 in
    let made : (32 ∷ all ≡ label_text all) × IsLabel all = (refl, record { text = IsUtf8-from_is_utf8 all both.1; no_control = both.0 }) in
    subst (λ (t : List ℕ). (32 ∷ all ≡ label_text t) × IsLabel t) (some_is all label found.1) made

pub label_takes : (bytes label : List ℕ) → label_taken bytes ≡ Some label → (bytes ≡ label_text label) × IsLabel label
label_takes [] label e = let same : [] ≡ label = some_is [] label e in subst (λ (t : List ℕ). ([] ≡ label_text t) × IsLabel t) same (refl, no_label)
label_takes (b ∷ bytes) label e =
    let found = chosen_some (eqb b 32) (label_of bytes) label e in
    let is = label_of_takes bytes label found.1 in
    (ap (λ (c : ℕ). c ∷ bytes) (eqb-true b 32 found.0) ∙ is.0, is.1)

pub label_again : (label : List ℕ) → IsLabel label → label_taken (label_text label) ≡ Some label
label_again [] is = refl
label_again (b ∷ label) is = rw (lt-ltb 0 (length (b ∷ label)) (omega arith), is.no_control, is_utf8-from_IsUtf8 (b ∷ label) is.text) refl

pub label_ends : (label : List ℕ) → EndsRun continues_name (label_text label)
label_ends [] = tt
label_ends (b ∷ label) = refl
