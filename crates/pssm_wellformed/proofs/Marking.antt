-- Arrows turned round, and the marks that walks over them leave.
use Rattle.std.proofs.Common.{◌≡◌, ◌↔◌, ◌⊎◌, ◌<◌, ◌≤◌, ◌+◌, ◌==◌, ℕ, List, [], ◌∷◌, ◌++◌, if◌then◌else◌, length, Bool, true, false, get_or, take, Contains, Vec, Global, refl, sym, ap, subst, ◌∙◌, inl, inr, ⊎_elim, arith, length-append}
use Rattle.std.proofs.lemmas.Bool.{cases_eq}
use Rattle.std.proofs.lemmas.List.{take_more}
use Rattle.std.proofs.lemmas.List.Elements.{Contains-append_left, Contains-push, Contains-push_cases}
use Rattle.std.specs.Option.{option_map_or}
use Rattle.std.proofs.lemmas.Option.{slice_get-get_or, slice_get_past}
use Rattle.pssm_model.specs.declared.ids.VertexId.{VertexId}
use Rattle.pssm_model.specs.declared.elements.DraftMachine.{DraftMachine}
use Rattle.pssm_model.specs.declared.elements.Owner.{Owner}
use Rattle.pssm_model.specs.Shapes.{HasShape}
use Rattle.pssm_wellformed.specs.declared.walks.Walk.{Walk}
use Rattle.pssm_wellformed.specs.inner.Lists.{list_at}
use Rattle.pssm_wellformed.specs.inner.Reach.{IsReached, StaysWithin}
use Rattle.pssm_wellformed.specs.inner.Reach.IsReached.{at_first, by_arrow}
use Rattle.pssm_wellformed.specs.inner.Ends.{vertex_number}
use Rattle.pssm_wellformed.specs.inner.Walks.{AreArrows, LiesIn, Strays}
use Rattle.pssm_wellformed.specs.inner.Levels.{IsLevel, AreLevelsBelow, AreLowestLevels}
use Rattle.pssm_wellformed.specs.inner.Marks.{AreTurnedBelow, AreTurned, IsPutToEach, marks_at, AreMarksOf, AreMarksBelow, AreStrayMarks}
use Rattle.pssm_wellformed.proofs.Listing.{puts_here, puts_there}
use Rattle.pssm_wellformed.proofs.Walking.{only_first}
use Rattle.pssm_wellformed.proofs.Arrows.{arrows_within}
use Rattle.pssm_wellformed.proofs.Closures.{here_first, reach_from}
use Rattle.pssm_wellformed.proofs.Climbing.{lies_decided}
use Rattle.pssm_wellformed.proofs.Lowest.{above}
use Rattle.pssm_wellformed.proofs.Pushing.{slice_pushed, slice_before}

-- an item is put to none, and to one more
pub put_to_none : (item : ℕ) (lists : List (Vec ℕ Global)) → IsPutToEach item [] lists lists
put_to_none item lists = record {
  width = refl;
  puts = λ k i. (λ c. inl c, λ w. ⊎_elim (λ c. c) (λ none. absurd (let lt = none.1.1 in omega arith)) w);
}

pub put_to_more : (item : ℕ) (keys : List ℕ) (n key : ℕ) (old new more : List (Vec ℕ Global)) → n < length keys → key ≡ get_or keys n 0 → length more ≡ length new
    → ((k : ℕ) → list_at more k ≡ list_at new k ++ (if k == key then item ∷ [] else []))
    → IsPutToEach item (take n keys) old new → IsPutToEach item (take (n + 1) keys) old more
put_to_more item keys n key old new more lt at width puts h =
    let last = get_or keys n 0 in
    let grown = take_more keys n 0 lt in
    let later : (k : ℕ) → Contains (take n keys) k → Contains (take (n + 1) keys) k =
    λ k c. subst (λ ys. Contains ys k) (sym grown) (Contains-append_left (take n keys) (last ∷ []) k c) in
    let here : Contains (take (n + 1) keys) key =
    subst (Contains (take (n + 1) keys)) (sym at) (subst (λ ys. Contains ys last) (sym grown) (Contains-push (take n keys) last)) in record {
      width = width ∙ h.width;
      puts = λ k i. ⊎_elim
          (λ (e : k ≡ key).
          let is : list_at more k ≡ list_at new k ++ item ∷ [] = puts k ∙ puts_here key item k (list_at new k) e in (
            λ c. ⊎_elim (λ old'. ⊎_elim inl (λ w. inr (w.0, later k w.1)) ((h.puts k i).0 old'))
                (λ f. inr (sym f, subst (Contains (take (n + 1) keys)) (sym e) here))
                (Contains-push_cases (list_at new k) item i (subst (λ ys. Contains ys i) is c)),
            λ w. subst (λ ys. Contains ys i) (sym is) (⊎_elim
                (λ old'. Contains-append_left (list_at new k) (item ∷ []) i ((h.puts k i).1 (inl old')))
                (λ put. subst (Contains (list_at new k ++ item ∷ [])) (sym put.0) (Contains-push (list_at new k) item)) w),
          ))
          (λ (ne : k ≡ key → ⊥).
          let is : list_at more k ≡ list_at new k = puts k ∙ puts_there key item k (list_at new k) ne in (
            λ c. ⊎_elim inl (λ w. inr (w.0, later k w.1)) ((h.puts k i).0 (subst (λ ys. Contains ys i) is c)),
            λ w. subst (λ ys. Contains ys i) (sym is) (⊎_elim (λ old'. (h.puts k i).1 (inl old'))
                (λ put. ⊎_elim (λ c. (h.puts k i).1 (inr (put.0, c))) (λ f. absurd (ne (sym f ∙ sym at)))
                (Contains-push_cases (take n keys) last k (subst (λ ys. Contains ys k) grown put.1))) w),
          ))
          (cases_eq k key);
    }

-- A number whose list has an item has a list.
pub tail_within : (lists : List (Vec ℕ Global)) (a b : ℕ) → Contains (list_at lists a) b → a < length lists
tail_within lists a b c =
    let past : length lists ≤ a → ⊥ = λ le.
    let none : list_at lists a ≡ [] = ap (λ found. option_map_or (λ (list : Vec ℕ Global). list.items) found []) (slice_get_past lists a le) in
    let here : Contains [] b = subst (λ ys. Contains ys b) none c in
    let lt = here.1 in omega arith in
    above (length lists) a past

-- arrows are turned round: none, those of one number more, and all
pub turned_begins : (onward back : List (Vec ℕ Global)) → length back ≡ length onward → ((k : ℕ) → list_at back k ≡ []) → AreTurnedBelow 0 onward back
turned_begins onward back width blank = record {
  width = width;
  arrows = λ a b. (
    λ c. absurd (let none = subst (λ ys. Contains ys a) (blank b) c in let lt = none.1 in omega arith),
    λ w. absurd (let lt = w.0 in omega arith),
  );
}

pub turned_more : (n : ℕ) (onward back more : List (Vec ℕ Global)) → IsPutToEach n (list_at onward n) back more → AreTurnedBelow n onward back → AreTurnedBelow (n + 1) onward more
turned_more n onward back more put h = record {
  width = put.width ∙ h.width;
  arrows = λ a b. (
    λ c. ⊎_elim (λ old. let w = (h.arrows a b).0 old in ((let lt = w.0 in omega arith), w.1))
        (λ new. ((let e = new.0 in omega arith), subst (λ k. Contains (list_at onward k) b) (sym new.0) new.1)) ((put.puts b a).0 c),
    λ w. ⊎_elim (λ (e : a ≡ n). (put.puts b a).1 (inr (e, subst (λ k. Contains (list_at onward k) b) e w.1)))
        (λ (ne : a ≡ n → ⊥). (put.puts b a).1 (inl ((h.arrows a b).1 ((let lt = w.0 in omega arith), w.1)))) (cases_eq a n),
  );
}

pub turned_ends : (n : ℕ) (onward back : List (Vec ℕ Global)) → length onward ≤ n → AreTurnedBelow n onward back → AreTurned onward back
turned_ends n onward back all h = record {
  width = h.width;
  arrows = λ a b. (λ c. ((h.arrows a b).0 c).1, λ c. (h.arrows a b).1 ((let lt = tail_within onward a b c in omega arith), c));
}

-- Arrows that are turned round end at numbers that have lists.
pub turned_within : (onward back : List (Vec ℕ Global)) → AreTurned onward back → StaysWithin back
turned_within onward back h a b c = let lt = tail_within onward b a ((h.arrows b a).0 c) in let w = h.width in omega arith

-- the marks of a level that is there
pub marks_there : (levels : List (Vec Bool Global)) (k : ℕ) (marks : Vec Bool Global) → k < length levels → marks ≡ get_or levels k marks → marks_at levels k ≡ marks.items
marks_there levels k marks lt at =
    ap (λ found. option_map_or (λ (l : Vec Bool Global). l.items) found []) (slice_get-get_or levels k marks lt) ∙ ap (λ (l : Vec Bool Global). l.items) (sym at)

-- the marks of no level, and of one level more
pub marks_begin : (back : List (Vec ℕ Global)) (lowest : List ℕ) → AreMarksBelow back lowest 0 []
marks_begin back lowest = record { count = refl; marks = λ k lt. absurd (omega arith) }

pub marks_pushed : (back : List (Vec ℕ Global)) (lowest : List ℕ) (n : ℕ) (levels : List (Vec Bool Global)) (marks : Vec Bool Global) → AreMarksOf back lowest n marks.items
    → AreMarksBelow back lowest n levels → AreMarksBelow back lowest (n + 1) (levels ++ marks ∷ [])
marks_pushed back lowest n levels marks one h = record {
  count = let w = h.count in omega (arith, length-append levels (marks ∷ []));
  marks = λ k lt. ⊎_elim
      (λ (e : k ≡ n).
      let same : marks_at (levels ++ marks ∷ []) k ≡ marks.items =
      ap (marks_at (levels ++ marks ∷ [])) (e ∙ sym h.count) ∙ ap (λ found. option_map_or (λ (l : Vec Bool Global). l.items) found []) (slice_pushed levels marks) in
      subst (AreMarksOf back lowest k) (sym same) (subst (λ j. AreMarksOf back lowest j marks.items) (sym e) one))
      (λ (ne : k ≡ n → ⊥).
      let there : k < length levels = let w = h.count in omega arith in
      let same : marks_at (levels ++ marks ∷ []) k ≡ marks_at levels k =
      ap (λ found. option_map_or (λ (l : Vec Bool Global). l.items) found []) (slice_before levels marks k there) in
      subst (AreMarksOf back lowest k) (sym same) (h.marks k (omega arith)))
      (cases_eq k n);
}

module _ {g back : List (Vec ℕ Global)} (turned : AreTurned g back) (tails : List ℕ) where
  -- What the turned arrows reach from some numbers are the numbers from which the arrows reach one of those.
  pub tail_reached : (v : ℕ) → IsReached back tails v → (a : ℕ) × Contains tails a × IsReached g (v ∷ []) a
  tail_reached _ (at_first {b = b} c) = (b, c, at_first (here_first b))
  tail_reached _ (by_arrow {a = a} {b = b} r c) =
      let up = tail_reached a r in (
        up.0,
        up.1,
        reach_from g (a ∷ []) (b ∷ [])
            (λ x first. subst (IsReached g (b ∷ [])) (only_first a x first) (by_arrow (at_first (here_first b)) ((turned.arrows b a).0 c))) up.0 up.2,
      )

  pub reached_tail : (v b : ℕ) → IsReached g (v ∷ []) b → IsReached back tails b → IsReached back tails v
  reached_tail v _ (at_first {b = b} c) from = subst (IsReached back tails) (sym (only_first v b c)) from
  reached_tail v _ (by_arrow {a = a} {b = b} r c) from = reached_tail v a r (by_arrow from ((turned.arrows a b).1 c))

module _ {m : DraftMachine} (shape : HasShape m) {walk : Walk} {g back : List (Vec ℕ Global)} (arrows : AreArrows m walk g) (turned : AreTurned g back)
    {lowest : List ℕ} (levels : AreLowestLevels m g (length m.vertices) lowest) {p : Owner} {k : ℕ} (level : IsLevel m p k)
    {list : List Bool} (marks : AreMarksOf back lowest k list) where
  -- a vertex of the place with an arrow that leads out of it
  tail_marked : (a b : ℕ) → LiesIn m (vertex_number a) p → Contains (list_at g a) b → (LiesIn m (vertex_number b) p → ⊥) → IsReached back marks.tails a
  tail_marked a b lies c out =
      let there : a < length m.vertices = subst (λ n. a < n) arrows.width (tail_within g a b c) in
      let low : get_or lowest a 0 < k = ((levels.levels a there) p k lies level).1 (b, c, out) in
      at_first ((marks.below a).1 (subst (λ n. a < n) (sym levels.width) there, low))

  -- What a walk reaches lies in the place, or the walk has led out of it.
  stays_or_leaves : (v : VertexId) → LiesIn m v p → (b : ℕ) → IsReached g (v.0 ∷ []) b → LiesIn m (vertex_number b) p ⊎ IsReached back marks.tails v.0
  stays_or_leaves v lies _ (at_first {b = b} c) = inl (subst (λ n. LiesIn m (vertex_number n) p) (only_first v.0 b c) lies)
  stays_or_leaves v lies _ (by_arrow {a = a} {b = b} r c) =
      let there : b < length m.vertices = subst (λ n. b < n) arrows.width (arrows_within m shape walk g arrows a b c) in
      ⊎_elim
      (λ inside. ⊎_elim inl (λ out. inr (reached_tail turned marks.tails v.0 a r (tail_marked a b inside c out)))
      (lies_decided m shape (vertex_number b) there p)) inr (stays_or_leaves v lies a r)

  -- A vertex has a mark exactly where the walk strays.
  pub mark_iff : (v : VertexId) → LiesIn m v p → (get_or list v.0 false ≡ true) ↔ Strays m g v p
  mark_iff v lies = (
    λ mark.
        let tail = tail_reached turned marks.tails v.0 ((marks.marks v.0).0 mark) in
        let low = (marks.below tail.0).0 tail.1 in
        let there : tail.0 < length m.vertices = subst (λ n. tail.0 < n) levels.width low.0 in
        ⊎_elim
        (λ inside. let some = ((levels.levels tail.0 there) p k inside level).0 low.1 in (some.0, by_arrow tail.2 some.1, some.2))
        (λ out. (tail.0, tail.2, out)) (lies_decided m shape (vertex_number tail.0) there p),
    λ strays. (marks.marks v.0).1 (⊎_elim (λ inside. absurd (strays.2 inside)) (λ r. r) (stays_or_leaves v lies strays.0 strays.1)),
  )

-- A walk from a vertex outside the place strays at once.
pub strays_at_once : (m : DraftMachine) (v : VertexId) (p : Owner) → (LiesIn m v p → ⊥) → (g : List (Vec ℕ Global)) → (true ≡ true) ↔ Strays m g v p
strays_at_once m v p out g = (λ t. (v.0, at_first (here_first v.0), out), λ s. refl)

-- the marks of all levels
pub stray_marks_are : (m : DraftMachine) → HasShape m → (walk : Walk) (g back : List (Vec ℕ Global)) (lowest : List ℕ) (count : ℕ) (levels : List (Vec Bool Global))
    → AreArrows m walk g → AreTurned g back → AreLowestLevels m g (length m.vertices) lowest → AreLevelsBelow m (length m.vertices) count → AreMarksBelow back lowest count levels
    → AreStrayMarks m walk levels
stray_marks_are m shape walk g back lowest count levels arrows turned low high marks = record {
  onward = g;
  arrows = arrows;
  room = record {
    high = λ v p k there lies level. subst (λ n. k < n) (sym marks.count) (high v p k there lies level);
    width = λ k lt. (marks.marks k (subst (λ n. k < n) marks.count lt)).width ∙ turned.width ∙ arrows.width;
  };
  marks = λ v p k there lies level. mark_iff shape arrows turned low level (marks.marks k (high v p k there lies level)) v lies;
}
