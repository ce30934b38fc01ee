-- What was read begins a text, and what begins a text is read.
use Rattle.std.proofs.Common.{◌≡◌, inl, inr, ℕ, ◌<◌, List, [], ◌∷◌, ◌++◌, length, Some, refl, sym, ap, subst, ◌∙◌, append_assoc, arith, lit≤}
use Rattle.std.specs.Prelude.{map, codes}
use Rattle.std.specs.List.{AllByRecursion, flat_map}
use Rattle.std.proofs.lemmas.Bool.{cases_lt}
use Rattle.std.proofs.lemmas.List.{append-nil, length-append, nil_from_length}
use Rattle.pssm_model.specs.declared.elements.Owner.TheVariants.{Top}
use Rattle.pssm_semantics.specs.declared.setting.Class.{Class}
use Rattle.pssm_semantics.specs.declared.setting.Setting.{Setting}
use Rattle.pssm_flat.specs.declared.head.Head.{Head}
use Rattle.pssm_flat.specs.declared.block.Block.{Block}
use Rattle.pssm_flat.specs.declared.outline.Outline.{Outline}
use Rattle.pssm_flat.specs.declared.outline.Outline.TheVariants as stages
use Rattle.pssm_flat.specs.Text.{machine_lines, flat_lines, region_line}
use Rattle.pssm_flat.specs.Flat.{IsWrittenClass, IsWritten, first_program}
use Rattle.pssm_flat.specs.Faults.{BeginsText}
use Rattle.pssm_flat.specs.inner.Outlines.{no_head, class_of, setting_of, with_region, after_lines, IsInner}
use Rattle.pssm_flat.proofs.Bind.{bind_some}
use Rattle.pssm_flat.proofs.Items.{all_append}
use Rattle.pssm_flat.proofs.Good.{head_part, done_part, block_part, lines_of, class_name_of, names_with, IsGoodHead, AreGoodClasses, IsNextClass, IsGood}
use Rattle.pssm_flat.proofs.ElementLines.{region_adds}
use Rattle.pssm_flat.proofs.Reach.{AreFirst, first_push, head_is, class_done, done_push, setting_written, no_signals_good, lines_reach, after_append, lines_inner}
use Rattle.pssm_flat.proofs.Complete.{lines_read}

-- ---- classes that follow

-- the class of a block with one region and nothing else
abbrev first_class : List ℕ → Class
first_class name = record { name = name; vars = []; machine = record { regions = Top ∷ []; vertices = []; transitions = [] }; program = first_program }

first_written : (h : Head) (name : List ℕ) → IsWrittenClass (names_with h []) (first_class name)
first_written h name = record {
  var_names = tt;
  few_vars = omega arith;
  firsts = tt;
  machine = record { some_region = omega arith; few_regions = lit≤ tt; few_vertices = omega arith; few_transitions = omega arith; regions = (tt, tt); vertices = tt; transitions = tt };
  numbered = record { middle = first_program; vertices = refl; transitions = refl };
}

all_first : (h : Head) (names : List (List ℕ)) → AreGoodClasses h (map first_class names)
all_first h [] = tt
all_first h (n ∷ names) = (first_written h n, all_first h names)

first_names : (names : List (List ℕ)) → map class_name_of (map first_class names) ≡ names
first_names [] = refl
first_names (n ∷ names) = ap (λ t. n ∷ t) (first_names names)

map_append : {X Y : Type 0} (f : X → Y) (xs ys : List X) → map f (xs ++ ys) ≡ map f xs ++ map f ys
map_append f [] ys = refl
map_append f (x ∷ xs) ys = ap (λ t. f x ∷ t) (map_append f xs ys)

flat_append : {X : Type 0} (f : X → List (List ℕ)) (xs ys : List X) → flat_map f (xs ++ ys) ≡ flat_map f xs ++ flat_map f ys
flat_append f [] ys = refl
flat_append f (x ∷ xs) ys = ap (λ t. f x ++ t) (flat_append f xs ys) ∙ sym (append_assoc (f x) (flat_map f xs) (flat_map f ys))

-- Lines up to the blocks of these classes begin a text.
begins_classes : (h : Head) (done : List Class) (later : List (List ℕ)) → IsGoodHead h → AreGoodClasses h done → AreFirst h done later → BeginsText (head_part h ++ done_part h done)
unfolding flat_lines
begins_classes h done later good classes first =
    let rest = map first_class later in
    let all = done ++ rest in
    let s = setting_of h all in
    let same : h.classes ≡ map class_name_of all = first ∙ ap (λ t. map class_name_of done ++ t) (sym (first_names later)) ∙ sym (map_append class_name_of done rest) in
    let more : List (List ℕ) = flat_map (machine_lines s) rest ++ codes "end" ∷ [] in
    record {
      setting = s;
      written = setting_written h all good (all_append (λ (x : Class). IsWrittenClass (names_with h x.vars) x) done rest classes (all_first h later)) same;
      more = more;
      parts = ap (λ t. t ++ (flat_map (machine_lines s) all ++ codes "end" ∷ [])) (head_is h all same)
          ∙ ap (λ t. head_part h ++ (t ++ codes "end" ∷ [])) (flat_append (machine_lines s) done rest)
          ∙ ap (λ t. head_part h ++ t) (append_assoc (flat_map (machine_lines s) done) (flat_map (machine_lines s) rest) (codes "end" ∷ []))
          ∙ sym (append_assoc (head_part h) (flat_map (machine_lines s) done) more);
    }

pub begins_shorter : (a m : List (List ℕ)) → BeginsText (a ++ m) → BeginsText a
begins_shorter a m b = record { setting = b.setting; written = b.written; more = m ++ b.more; parts = b.parts ∙ append_assoc a m b.more }

begins_block : (h : Head) (done : List Class) (b : Block) → IsGood (stages.Open h done b) → 0 < length b.regions → BeginsText (lines_of (stages.Open h done b))
begins_block h done b good some =
    let classes = all_append (λ (y : Class). IsWrittenClass (names_with h y.vars) y) done (class_of b ∷ []) good.1 (class_done h b good.3 some, tt) in
    subst (λ t. BeginsText (head_part h ++ t)) (done_push h done b good.3) (begins_classes h (done ++ class_of b ∷ []) good.2.later good.0 classes (first_push h done b good.2))

begins_start : BeginsText []
begins_start = begins_shorter [] (head_part no_head ++ done_part no_head []) (begins_classes no_head [] [] no_signals_good tt refl)

begins_outline : (d : Outline) → IsGood d → BeginsText (lines_of d)
unfolding flat_lines
begins_outline stages.Start good = begins_start
begins_outline (stages.Heading h) good = subst (λ t. BeginsText t) (append-nil (head_part h)) (begins_classes h [] h.classes good tt refl)
begins_outline (stages.Open h done b) good = elim (cases_lt 0 (length b.regions)) [
  | inl some ↦ begins_block h done b good some
  | inr none ↦
      let no_regions : b.regions ≡ [] = nil_from_length b.regions (omega arith) in
      let empty : (b.vertices ≡ []) × (b.transitions ≡ []) = elim good.3.begun [ inl some ↦ absurd (omega (arith, some, none)) | inr e ↦ e ] in
      let made : Block = record b { regions = b.regions ++ Top ∷ [] } in
      let put : with_region b 0 Top ≡ Some made = rw (empty.0, empty.1, no_regions) refl in
      let adds = region_adds h b made 0 Top good.3 (lit≤ tt) tt put in
      let next : IsNextClass h done made.name = good.2 in
      let whole = begins_block h done made (good.0, good.1, next, adds.good) (omega (arith, length-append b.regions (Top ∷ []))) in
      let longer : lines_of (stages.Open h done made) ≡ lines_of (stages.Open h done b) ++ region_line 0 Top ∷ [] =
      ap (λ ls. head_part h ++ (done_part h done ++ ls)) adds.parts ∙ ap (λ ls. head_part h ++ ls) (sym (append_assoc (done_part h done) (block_part b) (region_line 0 Top ∷ []))) ∙ sym (append_assoc (head_part h) (done_part h done ++ block_part b) (region_line 0 Top ∷ [])) in
      begins_shorter (lines_of (stages.Open h done b)) (region_line 0 Top ∷ []) (subst (λ t. BeginsText t) longer whole)
]
begins_outline (stages.Ended s) good = record { setting = s; written = good; more = []; parts = sym (append-nil (lines_of (stages.Ended s))) }

pub read_begins : (ls : List (List ℕ)) (d : Outline) → after_lines stages.Start ls ≡ Some d → BeginsText ls
read_begins ls d eq = let r = lines_reach stages.Start ls d tt eq in subst (λ t. BeginsText t) r.0 (begins_outline d r.1)

-- ---- what begins a text is read

pub record FrontRead (ls more : List (List ℕ)) (e : Outline) : Type 0 where
  pub outline : Outline
  pub front : after_lines stages.Start ls ≡ Some outline
  pub rest : after_lines outline more ≡ Some e

pub front_read : (ls more : List (List ℕ)) (e : Outline) → after_lines stages.Start (ls ++ more) ≡ Some e → FrontRead ls more e
front_read ls more e eq =
    let parts = bind_some (after_lines stages.Start ls) (λ x. after_lines x more) e (sym (after_append stages.Start ls more) ∙ eq) in
    record { outline = parts.0; front = parts.1; rest = parts.2 }

pub begins_read : (ls : List (List ℕ)) (b : BeginsText ls) → FrontRead ls b.more (stages.Ended b.setting)
begins_read ls b = front_read ls b.more (stages.Ended b.setting) (ap (after_lines stages.Start) (sym b.parts) ∙ lines_read b.setting b.written)

pub begins_inner : (ls : List (List ℕ)) → BeginsText ls → AllByRecursion IsInner ls
begins_inner ls b = let r = begins_read ls b in lines_inner stages.Start ls r.outline r.front

pub written_inner : (s : Setting) → IsWritten s → AllByRecursion IsInner (flat_lines s)
written_inner s w = lines_inner stages.Start (flat_lines s) (stages.Ended s) (lines_read s w)
