-- What has been read up to a line.
use Rattle.std.proofs.Common.{◌≡◌, ℕ, suc, ◌+◌, ◌<◌, ◌≤◌, List, [], ◌∷◌, ◌++◌, length, Some, Ok, refl, sym, ap, ◌∙◌, append_assoc, arith}
use Rattle.std.specs.Prelude.{map}
use Rattle.std.proofs.lemmas.List.{append-nil, length-append}
use Rattle.pssm_semantics.specs.declared.setting.Setting.{Setting}
use Rattle.pssm_acts.proofs.Each.{all_push}
use Rattle.pssm_flat.specs.declared.block.Block.{Block}
use Rattle.pssm_flat.specs.declared.head.Head.{Head}
use Rattle.pssm_flat.specs.declared.outline.Outline.{Outline}
use Rattle.pssm_flat.specs.declared.outline.Outline.TheVariants as stages
use Rattle.pssm_flat.specs.Text.{line, text_of, flat_lines, flat_text}
use Rattle.pssm_flat.specs.Flat.{IsFlat}
use Rattle.pssm_flat.specs.inner.Lines.{◌>>=◌}
use Rattle.pssm_semantics.specs.declared.setting.Names.{Names}
use Rattle.pssm_flat.specs.inner.Outlines.{object_of, taken, class_of, IsInner, after_bytes, after_lines, line_front, IsShaped, IsSmallHead, IsSmallBlock, IsSmall, open_size, HasRead}
use Rattle.pssm_flat.proofs.TextLaws.{text_of_append}
use Rattle.pssm_flat.proofs.Compare.{line_front_takes}
use Rattle.pssm_flat.proofs.Good.{var_of, head_part, done_part, block_part, lines_of, IsGoodHead, IsGoodBlock, IsGood}
use Rattle.pssm_flat.proofs.Reach.{lines_reach, after_append}
use Rattle.pssm_flat.proofs.PlaceLaws.{block_length}
use Rattle.pssm_flat.proofs.ActTold.{few_marks, few_acts}
use Rattle.pssm_flat.proofs.Stops.{good_of}

pub nothing_read : (bytes : List ℕ) → HasRead bytes stages.Start bytes 1
nothing_read bytes = record { lines = []; inner = tt; parts = refl; reads = refl; counted = refl; shaped = tt }

pub more_read : (bytes : List ℕ) (d e : Outline) (rest text after : List ℕ) (n : ℕ) → HasRead bytes d rest n → line_front rest ≡ Some (text, after) → after_bytes d text ≡ Ok (Some e) → IsShaped e → HasRead bytes e after (n + 1)
more_read bytes d e rest text after n r at_line at_e shaped =
    let is = line_front_takes rest text after at_line in
    let lines : List (List ℕ) = r.lines ++ text ∷ [] in
    let whole : bytes ≡ text_of lines ++ after =
    r.parts ∙ ap (λ t. text_of r.lines ++ t) is.parts ∙ sym (append_assoc (text_of r.lines) (line text) after)
    ∙ ap (λ t. (text_of r.lines ++ t) ++ after) (sym (append-nil (line text))) ∙ ap (λ t. t ++ after) (sym (text_of_append r.lines (text ∷ []))) in
    let read : after_lines stages.Start lines ≡ Some e = after_append stages.Start r.lines (text ∷ []) ∙ ap (λ o. o >>= (λ x. after_lines x (text ∷ []))) r.reads ∙ ap (λ o. taken o >>= (λ x. Some x)) at_e in
    record { lines = lines; inner = all_push IsInner r.lines text r.inner is.inner; parts = whole; reads = read; counted = omega (arith, r.counted, length-append r.lines (text ∷ [])); shaped = shaped }

-- a line has at least one byte
pub lines_short : (ls : List (List ℕ)) → length ls ≤ length (text_of ls)
lines_short [] = omega arith
lines_short (l ∷ ls) = let more = lines_short ls in omega (arith, more, length-append (line l) (text_of ls), length-append l (10 ∷ []))

pub few_lines : (bytes : List ℕ) (d : Outline) (rest : List ℕ) (n : ℕ) → HasRead bytes d rest n → n ≤ length bytes + 1
few_lines bytes d rest n r = omega (arith, r.counted, lines_short r.lines, ap length r.parts, length-append (text_of r.lines) rest)

pub shorter : (rest text after : List ℕ) → line_front rest ≡ Some (text, after) → length after < length rest
shorter rest text after e = let is = line_front_takes rest text after e in omega (arith, ap length is.parts, length-append (line text) after, length-append text (10 ∷ []))

pub front_inner : (rest text after : List ℕ) → line_front rest ≡ Some (text, after) → IsInner text
front_inner rest text after e = let is = line_front_takes rest text after e in is.inner

-- ---- limits

small_head : (h : Head) → IsGoodHead h → IsSmallHead h
small_head h good = record { signals = good.few_signals; classes = good.few_classes; objects = good.few_objects }

map_count : {X Y : Type 0} (f : X → Y) (xs : List X) → length (map f xs) ≡ length xs
map_count f [] = refl
map_count f (x ∷ xs) = ap suc (map_count f xs)

small_block : (h : Head) (b : Block) → IsGoodHead h → IsGoodBlock h b → IsSmallBlock b
small_block h b head good = record {
  vars = (let few = good.few_vars in omega (arith, few, ap (λ (n : Names). length n.vars) good.names_are, map_count var_of b.vars));
  objects = (let few = head.few_objects in omega (arith, few, ap (λ (n : Names). length n.objects) good.names_are, map_count object_of h.objects));
  signals = (let few = head.few_signals in omega (arith, few, ap (λ (n : Names). length n.signals) good.names_are));
  acts = few_acts h b good;
  marks = few_marks h b good;
}

small_outline : (d : Outline) → IsGood d → IsSmall d
small_outline stages.Start good = tt
small_outline (stages.Heading h) good = small_head h good
small_outline (stages.Open h done b) good = (small_head h good.0, small_block h b good.0 good.3)
small_outline (stages.Ended s) good = tt

pub small_read : (bytes : List ℕ) (d : Outline) (rest : List ℕ) (n : ℕ) → HasRead bytes d rest n → IsSmall d
small_read bytes d rest n r = small_outline d (good_of r.lines d r.reads)

size_by : (d : Outline) → IsGood d → open_size d ≤ length (lines_of d)
size_by stages.Start good = omega arith
size_by (stages.Heading h) good = omega arith
size_by (stages.Open h done b) good =
    omega (arith, block_length b.names (class_of b) good.3.numbered, length-append (head_part h) (done_part h done ++ block_part b), length-append (done_part h done) (block_part b))
size_by (stages.Ended s) good = omega arith

pub room_read : (bytes : List ℕ) (d : Outline) (rest : List ℕ) (n : ℕ) → HasRead bytes d rest n → open_size d ≤ n
room_read bytes d rest n r =
    let reach = lines_reach stages.Start r.lines d tt r.reads in
    let few = size_by d reach.1 in
    omega (arith, few, r.counted, ap length reach.0)

-- ---- whole texts

pub whole_flat : (bytes : List ℕ) (s : Setting) (rest : List ℕ) (n : ℕ) → HasRead bytes (stages.Ended s) rest n → IsFlat s
whole_flat bytes s rest n r = record { written = good_of r.lines (stages.Ended s) r.reads; shape = r.shaped }

pub whole_found : (bytes : List ℕ) (s : Setting) (rest : List ℕ) (n : ℕ) → HasRead bytes (stages.Ended s) rest n → rest ≡ [] → bytes ≡ flat_text s
unfolding flat_text flat_lines
whole_found bytes s rest n r none =
    let reach = lines_reach stages.Start r.lines (stages.Ended s) tt r.reads in
    r.parts ∙ ap (λ t. text_of r.lines ++ t) none ∙ append-nil (text_of r.lines) ∙ ap text_of (sym reach.0)
