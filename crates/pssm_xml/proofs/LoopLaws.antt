-- Values and tags are read part by part.
use Rattle.std.proofs.Common.{◌≡◌, ◌<◌, ℕ, suc, ◌+◌, ◌-◌, Bool, cond, List, [], ◌∷◌, ◌++◌, length, map, Option, Some, None, refl, sym, ◌∙◌, ap, arith, append_assoc}
use Rattle.std.specs.Prelude.{option_map, option_and_then}
use Rattle.std.proofs.lemmas.List.{append-nil}
use Rattle.pssm_xml.specs.declared.values.Bit.{Bit}
use Rattle.pssm_xml.specs.Pieces.{Attribute, Piece}
use Rattle.pssm_xml.specs.inner.Reading.{bit_text, bit_taken, behind_bit, value_taken, with_text_before, TagParts, with_attribute, with_attributes, behind_part, tag_end_taken, attribute_taken, tag_rest_taken, tag_name_taken, all_different, tag_piece, whole_tag, tag_taken}
use Rattle.pssm_xml.specs.declared.tags.Given.{Given}
use Rattle.pssm_xml.specs.inner.Cuts.{given_attribute, given_name}

-- ---- values

text_joined : (front more : List ℕ) (r : Option (List ℕ × List ℕ)) → option_map (with_text_before front) (option_map (with_text_before more) r) ≡ option_map (with_text_before (front ++ more)) r
text_joined front more None = refl
text_joined front more (Some r) = ap (λ t. Some (t, r.1)) (sym (append_assoc front more r.0))

-- the value as the next bit has it
value_next : (T : Option (List ℕ × List ℕ)) (n i quote : ℕ) (value rest : List ℕ) (r : Option (Option Bit × List ℕ)) → i < n → r ≡ bit_taken quote rest
    → T ≡ option_map (with_text_before value) (value_taken (n - i) quote rest)
    → T ≡ option_map (with_text_before value) (behind_bit r (λ more. value_taken (n - (i + 1)) quote more))
value_next T n i quote value rest r within next before =
    let e : n - i ≡ suc (n - (i + 1)) = omega arith in
    before ∙ ap (λ k. option_map (with_text_before value) (value_taken k quote rest)) e
    ∙ ap (λ b. option_map (with_text_before value) (behind_bit b (λ more. value_taken (n - (i + 1)) quote more))) (sym next)

pub value_none : (T : Option (List ℕ × List ℕ)) (n i quote : ℕ) (value rest : List ℕ) → i < n → None ≡ bit_taken quote rest
    → T ≡ option_map (with_text_before value) (value_taken (n - i) quote rest) → None ≡ T
value_none T n i quote value rest within next before = sym (value_next T n i quote value rest None within next before)

pub value_end : (T : Option (List ℕ × List ℕ)) (n i quote : ℕ) (value rest more : List ℕ) → i < n → Some (None, more) ≡ bit_taken quote rest
    → T ≡ option_map (with_text_before value) (value_taken (n - i) quote rest) → Some (value, more) ≡ T
value_end T n i quote value rest more within next before =
    sym (value_next T n i quote value rest (Some (None, more)) within next before ∙ ap (λ t. Some (t, more)) (append-nil value))

pub value_turn : (T : Option (List ℕ × List ℕ)) (n i quote : ℕ) (value longer rest more : List ℕ) (bit : Bit) → i < n → Some (Some bit, more) ≡ bit_taken quote rest
    → longer ≡ value ++ bit_text bit → T ≡ option_map (with_text_before value) (value_taken (n - i) quote rest)
    → T ≡ option_map (with_text_before longer) (value_taken (n - (i + 1)) quote more)
value_turn T n i quote value longer rest more bit within next is before =
    value_next T n i quote value rest (Some (Some bit, more)) within next before
    ∙ text_joined value (bit_text bit) (value_taken (n - (i + 1)) quote more)
    ∙ ap (λ t. option_map (with_text_before t) (value_taken (n - (i + 1)) quote more)) (sym is)

-- ---- tags

nothing_more : (r : Option TagParts) → r ≡ option_map (with_attributes []) r
nothing_more None = refl
nothing_more (Some r) = refl

one_joined : (front : List Attribute) (a : Attribute) (r : Option TagParts) → option_map (with_attributes front) (option_map (with_attribute a) r) ≡ option_map (with_attributes (front ++ a ∷ [])) r
one_joined front a None = refl
one_joined front a (Some r) = ap (λ (t : List Attribute). Some (t, r.1, r.2)) (sym (append_assoc front (a ∷ []) r.0))

pub tag_start : (n : ℕ) (bytes : List ℕ) (done : List Attribute) → done ≡ [] → tag_rest_taken n bytes ≡ option_map (with_attributes done) (tag_rest_taken (n - 0) bytes)
tag_start n bytes done none =
    let e : n ≡ n - 0 = omega arith in
    nothing_more (tag_rest_taken n bytes) ∙ ap (λ k. option_map (with_attributes []) (tag_rest_taken k bytes)) e
    ∙ ap (λ (d : List Attribute). option_map (with_attributes d) (tag_rest_taken (n - 0) bytes)) (sym none)

-- the tag as its next part has it
tag_next : (T : Option TagParts) (n i : ℕ) (done : List Attribute) (rest : List ℕ) (end : Option (Bool × List ℕ)) (a : Option (Attribute × List ℕ)) → i < n → end ≡ tag_end_taken rest
    → a ≡ attribute_taken rest → T ≡ option_map (with_attributes done) (tag_rest_taken (n - i) rest)
    → T ≡ option_map (with_attributes done) (behind_part end a (λ more. tag_rest_taken (n - (i + 1)) more))
tag_next T n i done rest end a within is_end is_attribute before =
    let e : n - i ≡ suc (n - (i + 1)) = omega arith in
    before ∙ ap (λ k. option_map (with_attributes done) (tag_rest_taken k rest)) e
    ∙ ap (λ (x : Option (Bool × List ℕ)). option_map (with_attributes done) (behind_part x (attribute_taken rest) (λ more. tag_rest_taken (n - (i + 1)) more))) (sym is_end)
    ∙ ap (λ (x : Option (Attribute × List ℕ)). option_map (with_attributes done) (behind_part end x (λ more. tag_rest_taken (n - (i + 1)) more))) (sym is_attribute)

pub tag_ends : (T : Option TagParts) (n i : ℕ) (done : List Attribute) (rest more : List ℕ) (empty : Bool) → i < n → Some (empty, more) ≡ tag_end_taken rest
    → T ≡ option_map (with_attributes done) (tag_rest_taken (n - i) rest) → Some (done, empty, more) ≡ T
tag_ends T n i done rest more empty within is_end before =
    sym (tag_next T n i done rest (Some (empty, more)) (attribute_taken rest) within is_end refl before ∙ ap (λ (d : List Attribute). Some (d, empty, more)) (append-nil done))

pub tag_none : (T : Option TagParts) (n i : ℕ) (done : List Attribute) (rest : List ℕ) → i < n → None ≡ tag_end_taken rest → None ≡ attribute_taken rest
    → T ≡ option_map (with_attributes done) (tag_rest_taken (n - i) rest) → None ≡ T
tag_none T n i done rest within is_end none before = sym (tag_next T n i done rest None None within is_end none before)

pub tag_turn : (T : Option TagParts) (n i : ℕ) (done longer : List Attribute) (rest more : List ℕ) (a : Attribute) → i < n → None ≡ tag_end_taken rest
    → Some (a, more) ≡ attribute_taken rest → longer ≡ done ++ a ∷ [] → T ≡ option_map (with_attributes done) (tag_rest_taken (n - i) rest)
    → T ≡ option_map (with_attributes longer) (tag_rest_taken (n - (i + 1)) more)
tag_turn T n i done longer rest more a within is_end is_attribute is before =
    tag_next T n i done rest None (Some (a, more)) within is_end is_attribute before
    ∙ one_joined done a (tag_rest_taken (n - (i + 1)) more)
    ∙ ap (λ (d : List Attribute). option_map (with_attributes d) (tag_rest_taken (n - (i + 1)) more)) (sym is)

-- ---- whole tags

given_names : (attributes : List Given) → map given_name attributes ≡ map (λ (a : Attribute). a.name) (map given_attribute attributes)
given_names [] = refl
given_names (g ∷ gs) = ap (λ t. g.name.now ∷ t) (given_names gs)

-- a tag by its parts
pub tag_by_parts : (bytes name behind : List ℕ) (attributes : List Given) (empty : Bool) (rest : List ℕ) (different : Bool) → Some (name, behind) ≡ tag_name_taken bytes
    → Some (map given_attribute attributes, empty, rest) ≡ tag_rest_taken (length behind + 1) behind → different ≡ all_different (map given_name attributes)
    → cond different (let z : Piece × List ℕ = (tag_piece name (map given_attribute attributes) empty, rest) in Some z) None ≡ tag_taken bytes
unfolding tag_taken
tag_by_parts bytes name behind attributes empty rest different named parts tested = sym (
    ap (option_and_then (λ (x : List ℕ × List ℕ). option_and_then (whole_tag x.0) (tag_rest_taken (length x.1 + 1) x.1))) (sym named)
    ∙ ap (option_and_then (whole_tag name)) (sym parts)
    ∙ ap (λ b. cond b (let z : Piece × List ℕ = (tag_piece name (map given_attribute attributes) empty, rest) in Some z) None) (sym (tested ∙ ap all_different (given_names attributes))))
