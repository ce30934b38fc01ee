-- Numbers given out: at the start, one element more, and one machine more.
use Rattle.std.proofs.Common.{◌≡◌, ◌⊎◌, ◌+◌, ◌<◌, ◌==◌, ℕ, Bool, true, false, cond, List, [], ◌∷◌, ◌++◌, length, take, replicate, Some, None, get_or, refl, sym, ap, subst, ◌∙◌, inl, inr, ⊎_elim, arith, Contains, slice_get, option_and_then, length-append, append-nil, append_assoc, zero-add}
use Rattle.std.proofs.lemmas.Bool.{cases_lt, eqb-false, ne_eqb}
use Rattle.std.proofs.lemmas.List.{take_more, length-replicate}
use Rattle.std.proofs.lemmas.List.Elements.{Contains-append_left, Contains-append_right, Contains-get_or}
use Rattle.std.proofs.lemmas.Option.{slice_get_within, slice_get-get_or}
use Rattle.std.proofs.Math.ListN.{length-set}
use Rattle.pssm_model.specs.declared.draft_setting.ElementRef.{ElementRef}
use Rattle.pssm_model.specs.declared.draft_setting.Draft.{Draft}
use Rattle.pssm_model.specs.DraftSettings.{IsInRange, ExtendsFar, IsOrExtends}
use Rattle.pssm_model.specs.DraftSettings.IsOrExtends.{itself, extended}
use Rattle.std.specs.List.{flat_map}
use Rattle.std.proofs.lemmas.List.FromFn.{get_or-map-range_with_len, length-map-range_with_len}
use Rattle.pssm_heritage.specs.declared.kinds.ElementKind.{ElementKind}
use Rattle.pssm_heritage.specs.Chains.{IsChain}
use Rattle.pssm_heritage.specs.Chains.IsChain.{base as chain_base, extended as chain_extended}
use Rattle.pssm_heritage.specs.Elements.{IsElement, redefined}
use Rattle.pssm_heritage.specs.Becoming.{NamesAbove, Became}
use Rattle.pssm_heritage.specs.Becoming.Became.{new, redefining}
use Rattle.pssm_heritage.specs.Numbers.{own_elements, elements_of, IsSiftedBy, HasNumber}
use Rattle.pssm_heritage.specs.inner.Tables.{AreChain, visited_elements, element_at, own_count, IsVisited, look, above, with_number, IsNumbering, IsNumbered}
use Rattle.pssm_heritage.specs.inner.Tables.IsNumbered.{inherits, begins}
use Rattle.pssm_heritage.proofs.ChainLaws.{is_one, nothing_in, IsCut, cut_at, chain_has, chain_all, or_split, far_or}
use Rattle.pssm_heritage.specs.declared.numbers.Numbers.{Numbers}
use Rattle.pssm_heritage.specs.Heritages.{AreNumbersOf}
use Rattle.pssm_heritage.specs.inner.Views.{numbering}
use Rattle.pssm_heritage.proofs.WalkLaws.{parts_of, base_below, in_more}
use Rattle.pssm_heritage.proofs.RowLaws.{get_seam, get_more, get_kept, take_all, look_put, look_here, get_or_set, no_row, no_look}
use Rattle.pssm_heritage.proofs.ElementLaws.{both, ref_eq, redefined_is_element, element_counted, counted_is_element}

-- ---- machines of a chain

module _ {draft : Draft} where
  last_below : {m : ℕ} {machines : List ℕ} → IsChain draft m machines → m < length draft.machines
  last_below {m = m} (chain_base parts is none) = slice_get_within draft.machines m parts is
  last_below {m = m} (chain_extended other e chain) = let p = parts_of draft m other e in slice_get_within draft.machines m p.0 p.1

  far_below : {m x : ℕ} → IsInRange draft → ExtendsFar draft m x → x < length draft.machines
  far_below {m = m} {x = x} range (ExtendsFar.directly e) = base_below draft m x range e
  far_below {x = x} range (ExtendsFar.further other more e) = base_below draft other x range e

pub or_below : (draft : Draft) (m x : ℕ) → IsInRange draft → m < length draft.machines → IsOrExtends draft m x → x < length draft.machines
or_below draft m x range lt up = ⊎_elim (λ same. omega arith) (λ far. far_below range far) (or_split up)

pub machine_below : (draft : Draft) (machines : List ℕ) (k : ℕ) → IsInRange draft → AreChain draft machines → k < length machines
    → get_or machines k 0 < length draft.machines
machine_below draft machines k range chain lt =
    or_below draft chain.last (get_or machines k 0) range (last_below chain.chain) (chain_has chain.chain (get_or machines k 0) (Contains-get_or machines k 0 lt))

pub cut_of : (draft : Draft) (machines : List ℕ) (k : ℕ) → AreChain draft machines → k < length machines → IsCut draft (get_or machines k 0) (take k machines)
cut_of draft machines k chain lt = cut_at chain.chain k lt

-- ---- one element more

above_some : (rows : List (List ℕ)) (f e : ElementRef) (n : ℕ) → cond (f.machine == e.machine) None (look rows f) ≡ Some n
    → (f.machine ≡ e.machine → ⊥) × (look rows f ≡ Some n)
above_some rows f e n h = split (f.machine == e.machine) refl h
  where
    split : (b : Bool) → (f.machine == e.machine) ≡ b → cond b None (look rows f) ≡ Some n → (f.machine ≡ e.machine → ⊥) × (look rows f ≡ Some n)
    split true is g = absurd (cc)
    split false is g = (eqb-false f.machine e.machine is, g)

-- ---- the order of elements

module _ {draft : Draft} {kind : ElementKind} where
  pub became_up : {e o : ElementRef} → Became draft kind e o → IsOrExtends draft e.machine o.machine
  became_up (new none) = itself
  became_up (redefining f names became) = extended (far_or names.above (became_up became))

  pub itself_is_new : {e o : ElementRef} → Became draft kind e o → o ≡ e → (f : ElementRef) → NamesAbove draft kind e f → (ExtendsFar draft e.machine e.machine → ⊥) → ⊥
  itself_is_new (new none) same f names circle = none f names
  itself_is_new {e = e} (redefining g other became) same f names circle =
      circle (far_or other.above (subst (λ (x : ElementRef). IsOrExtends draft g.machine x.machine) same (became_up became)))

sift_taken : (P : ElementRef → Type 0) {es left : List ElementRef} {e : ElementRef} → IsSiftedBy P es left → P e → IsSiftedBy P (es ++ e ∷ []) (left ++ e ∷ [])
sift_taken P IsSiftedBy.nothing p = IsSiftedBy.taken p IsSiftedBy.nothing
sift_taken P (IsSiftedBy.taken q more) p = IsSiftedBy.taken q (sift_taken P more p)
sift_taken P (IsSiftedBy.passed q more) p = IsSiftedBy.passed q (sift_taken P more p)

sift_passed : (P : ElementRef → Type 0) {es left : List ElementRef} {e : ElementRef} → IsSiftedBy P es left → (P e → ⊥) → IsSiftedBy P (es ++ e ∷ []) left
sift_passed P IsSiftedBy.nothing p = IsSiftedBy.passed p IsSiftedBy.nothing
sift_passed P (IsSiftedBy.taken q more) p = IsSiftedBy.taken q (sift_passed P more p)
sift_passed P (IsSiftedBy.passed q more) p = IsSiftedBy.passed q (sift_passed P more p)

own_length : (draft : Draft) (kind : ElementKind) (m : ℕ) → length (own_elements draft kind m) ≡ own_count draft kind m
own_length draft kind m = length-map-range_with_len (λ j. let e : ElementRef = record { machine = m; element = j } in e) 0 (own_count draft kind m)

own_at : (draft : Draft) (kind : ElementKind) (m i : ℕ) (d : ElementRef) → i < own_count draft kind m
    → get_or (own_elements draft kind m) i d ≡ record { machine = m; element = i }
own_at draft kind m i d lt =
    get_or-map-range_with_len (λ j. let e : ElementRef = record { machine = m; element = j } in e) 0 (own_count draft kind m) i i d lt (zero-add i)

one_visited : (draft : Draft) (kind : ElementKind) (machines : List ℕ) (k i : ℕ) → i < own_count draft kind (get_or machines k 0)
    → visited_elements draft kind machines k (i + 1) ≡ visited_elements draft kind machines k i ++ element_at machines k i ∷ []
one_visited draft kind machines k i lt =
    let more = take_more (own_elements draft kind (get_or machines k 0)) i (element_at machines k i) (let l = own_length draft kind (get_or machines k 0) in omega arith) in
    let at = own_at draft kind (get_or machines k 0) i (element_at machines k i) lt in
    ap (λ xs. elements_of draft kind (take k machines) ++ xs) (more ∙ ap (λ x. take i (own_elements draft kind (get_or machines k 0)) ++ x ∷ []) at)
    ∙ sym (append_assoc (elements_of draft kind (take k machines)) (take i (own_elements draft kind (get_or machines k 0))) (element_at machines k i ∷ []))

flat_snoc : {X Y : Type 0} (f : X → List Y) (xs : List X) (x : X) → flat_map f (xs ++ x ∷ []) ≡ flat_map f xs ++ f x
flat_snoc f [] x = append-nil (f x)
flat_snoc f (y ∷ xs) x = ap (λ ys. f y ++ ys) (flat_snoc f xs x) ∙ sym (append_assoc (f y) (flat_map f xs) (f x))

all_visited : (draft : Draft) (kind : ElementKind) (machines : List ℕ) (k : ℕ) → k < length machines
    → visited_elements draft kind machines k (own_count draft kind (get_or machines k 0)) ≡ visited_elements draft kind machines (k + 1) 0
all_visited draft kind machines k lt =
    ap (λ xs. elements_of draft kind (take k machines) ++ xs)
    (ap (λ n. take n (own_elements draft kind (get_or machines k 0))) (sym (own_length draft kind (get_or machines k 0))) ∙ take_all (own_elements draft kind (get_or machines k 0)))
    ∙ sym (flat_snoc (own_elements draft kind) (take k machines) (get_or machines k 0))
    ∙ ap (elements_of draft kind) (sym (take_more machines k 0 lt))
    ∙ sym (append-nil (elements_of draft kind (take (k + 1) machines)))

module _ (draft : Draft) (kind : ElementKind) (machines : List ℕ) (k i : ℕ) (rows : List (List ℕ)) (firsts : List ElementRef)
    (range : IsInRange draft) (cut : IsCut draft (get_or machines k 0) (take k machines)) (h : IsNumbering draft kind machines k i rows firsts) where
  -- what is numbered above is what the element became
  inherited : (n : ℕ) → above draft kind rows (element_at machines k i) ≡ Some n → HasNumber draft kind firsts (element_at machines k i) n
  inherited n e =
      let f = both (λ (f : ElementRef). cond (f.machine == get_or machines k 0) None (look rows f)) (redefined draft kind (element_at machines k i)) n e in
      let s = above_some rows f.0 (element_at machines k i) n f.2 in
      let there = h.sound f.0 n s.1 in
      let far = ⊎_elim (λ on. cut.has f.0.machine on) (λ same. absurd (s.0 same.0)) there.0.before in
      (there.1.0, there.1.1, redefining f.0 (record { named = f.1; above = far }) there.1.2)

  -- and where nothing is, it is new
  is_new : above draft kind rows (element_at machines k i) ≡ None → (f : ElementRef) → NamesAbove draft kind (element_at machines k i) f → ⊥
  is_new none f names =
      let visited : IsVisited draft kind machines k i f = record {
        element = redefined_is_element draft kind (element_at machines k i) f range names.named;
        before = inl (cut.all f.machine names.above);
      }
      in
      let n = h.all f visited in
      let other : f.machine ≡ get_or machines k 0 → ⊥ = λ same. cut.circle (subst (ExtendsFar draft (get_or machines k 0)) same names.above) in
      let a =
      ap (λ o. option_and_then (λ (g : ElementRef). cond (g.machine == get_or machines k 0) None (look rows g)) o) names.named
      ∙ ap (λ t. cond t None (look rows f)) (ne_eqb f.machine (get_or machines k 0) other) in
      cc (a, none, n.1)

  not_itself : (n : ℕ) → above draft kind rows (element_at machines k i) ≡ Some n → Became draft kind (element_at machines k i) (element_at machines k i) → ⊥
  not_itself n e became =
      let f = both (λ (f : ElementRef). cond (f.machine == get_or machines k 0) None (look rows f)) (redefined draft kind (element_at machines k i)) n e in
      let s = above_some rows f.0 (element_at machines k i) n f.2 in
      let there = h.sound f.0 n s.1 in
      let far = ⊎_elim (λ on. cut.has f.0.machine on) (λ same. absurd (s.0 same.0)) there.0.before in
      itself_is_new became refl f.0 (record { named = f.1; above = far }) cut.circle

  in_order : (n : ℕ) (more : List ElementRef) → i < own_count draft kind (get_or machines k 0) → IsNumbered draft kind rows firsts (element_at machines k i) n more
      → IsSiftedBy (λ e. Became draft kind e e) (visited_elements draft kind machines k (i + 1)) more
  in_order n more lt (inherits e same) =
      subst (λ es. IsSiftedBy (λ x. Became draft kind x x) es more) (sym (one_visited draft kind machines k i lt))
      (subst (IsSiftedBy (λ x. Became draft kind x x) (visited_elements draft kind machines k i ++ element_at machines k i ∷ [])) (sym same)
      (sift_passed (λ x. Became draft kind x x) h.order (not_itself n e)))
  in_order n more lt (begins none counted same) =
      subst (λ es. IsSiftedBy (λ x. Became draft kind x x) es more) (sym (one_visited draft kind machines k i lt))
      (subst (IsSiftedBy (λ x. Became draft kind x x) (visited_elements draft kind machines k i ++ element_at machines k i ∷ [])) (sym same)
      (sift_taken (λ x. Became draft kind x x) h.order (new (is_new none))))

  -- the same, of either way
  has_number : (n : ℕ) (more : List ElementRef) → IsNumbered draft kind rows firsts (element_at machines k i) n more → HasNumber draft kind more (element_at machines k i) n
  has_number n more (inherits e same) = subst (λ fs. HasNumber draft kind fs (element_at machines k i) n) (sym same) (inherited n e)
  has_number n more (begins none counted same) = (
    element_at machines k i,
    ap (λ fs. slice_get fs n) same ∙ ap (λ j. slice_get (firsts ++ element_at machines k i ∷ []) j) counted ∙ get_seam firsts (element_at machines k i),
    new (is_new none),
  )

  keeps : (n : ℕ) (more : List ElementRef) → IsNumbered draft kind rows firsts (element_at machines k i) n more → (j : ℕ) (f : ElementRef) → slice_get firsts j ≡ Some f
      → slice_get more j ≡ Some f
  keeps n more (inherits e same) j f is = ap (λ fs. slice_get fs j) same ∙ is
  keeps n more (begins none counted same) j f is = ap (λ fs. slice_get fs j) same ∙ get_kept firsts (element_at machines k i) f j is

  ones : (n : ℕ) (more : List ElementRef) → IsNumbered draft kind rows firsts (element_at machines k i) n more → (j : ℕ) (f : ElementRef) → slice_get more j ≡ Some f
      → (slice_get firsts j ≡ Some f) ⊎ ((f ≡ element_at machines k i) × (j ≡ n))
  ones n more (inherits e same) j f is = inl (sym (ap (λ fs. slice_get fs j) same) ∙ is)
  ones n more (begins none counted same) j f is =
      let there = sym (ap (λ fs. slice_get fs j) same) ∙ is in
      ⊎_elim
      (λ last. let seam = ap (λ x. slice_get (firsts ++ element_at machines k i ∷ []) x) last ∙ get_seam firsts (element_at machines k i) in
      inr (cc (seam, there), cc (last, counted)))
      (λ old. inl (sym old ∙ there))
      (get_more firsts (element_at machines k i) j)

  wider : (e : ElementRef) → IsVisited draft kind machines k i e → IsVisited draft kind machines k (i + 1) e
  wider e v = record {
    element = v.element;
    before = ⊎_elim (λ on. inl on) (λ here. inr (here.0, let lt = here.1 in omega arith)) v.before;
  }

  narrower : (e : ElementRef) → IsVisited draft kind machines k (i + 1) e → IsVisited draft kind machines k i e ⊎ ((e.machine ≡ get_or machines k 0) × (e.element ≡ i))
  narrower e v =
      ⊎_elim
      (λ on. inl (record { element = v.element; before = inl on }))
      (λ here. ⊎_elim
      (λ lt. inl (record { element = v.element; before = inr (here.0, lt) }))
      (λ ge. let lt = here.1 in inr (here.0, omega arith))
      (cases_lt e.element i))
      v.before

  not_yet : (e : ElementRef) → IsVisited draft kind machines k i e → e.machine ≡ get_or machines k 0 → e.element ≡ i → ⊥
  not_yet e v same at =
      ⊎_elim
      (λ on. cut.circle (cut.has (get_or machines k 0) (subst (Contains (take k machines)) same on)))
      (λ here. let lt = here.1 in omega arith)
      v.before

  pub goes_on : (n : ℕ) (more : List ElementRef) → k < length machines → get_or machines k 0 < length draft.machines → i < own_count draft kind (get_or machines k 0)
      → IsNumbered draft kind rows firsts (element_at machines k i) n more
      → IsNumbering draft kind machines k (i + 1) (with_number rows (get_or machines k 0) n) more
  goes_on n more lt below counted numbered = record {
    width = length-set rows (get_or machines k 0) (get_or rows (get_or machines k 0) [] ++ n ∷ []) ∙ h.width;
    row = λ _. ap length (get_or_set rows (get_or machines k 0) (get_or rows (get_or machines k 0) [] ++ n ∷ []) [] within)
        ∙ length-append (get_or rows (get_or machines k 0) []) (n ∷ [])
        ∙ ap (λ l. l + 1) (h.row lt);
    sound = sound;
    all = λ e v. ⊎_elim (λ old. all e old) (λ here. (n, look_here rows (get_or machines k 0) n e within here.0 (here.1 ∙ sym (h.row lt)))) (narrower e v);
    single = λ j f is. ⊎_elim (λ old. single j f old) (λ here. one j f here.0 here.1) (ones n more numbered j f is);
    order = in_order n more counted numbered;
  }
    where
      within : get_or machines k 0 < length rows
      within = let w = h.width in omega arith

      sound : (e : ElementRef) (j : ℕ) → look (with_number rows (get_or machines k 0) n) e ≡ Some j
          → IsVisited draft kind machines k (i + 1) e × HasNumber draft kind more e j
      sound e j is =
          ⊎_elim
          (λ here. let at = here.1 ∙ h.row lt in
          let same : element_at machines k i ≡ e = ref_eq (element_at machines k i) e (sym here.0) (sym at) in
          let number : n ≡ j = let one = look_here rows (get_or machines k 0) n e within here.0 here.1 in cc in (
            record {
              element = subst (IsElement draft kind) same (counted_is_element draft kind (element_at machines k i) counted);
              before = inr (here.0, let a = at in omega arith);
            },
            subst (HasNumber draft kind more e) number (subst (λ x. HasNumber draft kind more x n) same (has_number n more numbered)),
          ))
          (λ kept. let old = h.sound e j (sym kept ∙ is) in
          (wider e old.0, (old.1.0, keeps n more numbered j old.1.0 old.1.1, old.1.2)))
          (look_put rows (get_or machines k 0) n e within)

      all : (e : ElementRef) → IsVisited draft kind machines k i e → (j : ℕ) × (look (with_number rows (get_or machines k 0) n) e ≡ Some j)
      all e old =
          let p = h.all e old in
          ⊎_elim
          (λ here. (n, look_here rows (get_or machines k 0) n e within here.0 here.1))
          (λ kept. (p.0, kept ∙ p.1))
          (look_put rows (get_or machines k 0) n e within)

      single : (j : ℕ) (f : ElementRef) → slice_get firsts j ≡ Some f → look (with_number rows (get_or machines k 0) n) f ≡ Some j
      single j f is =
          let old = h.single j f is in
          ⊎_elim
          (λ here. absurd (not_yet f (h.sound f j old).0 here.0 (here.1 ∙ h.row lt)))
          (λ kept. kept ∙ old)
          (look_put rows (get_or machines k 0) n f within)

      one : (j : ℕ) (f : ElementRef) → f ≡ element_at machines k i → j ≡ n → look (with_number rows (get_or machines k 0) n) f ≡ Some j
      one j f same number =
          look_here rows (get_or machines k 0) n f within (ap (λ (x : ElementRef). x.machine) same) (ap (λ (x : ElementRef). x.element) same ∙ sym (h.row lt))
          ∙ ap (λ x. Some x) (sym number)

-- ---- one machine more

pub visited_on : (draft : Draft) (kind : ElementKind) (machines : List ℕ) (k : ℕ) (e : ElementRef) → k < length machines
    → IsVisited draft kind machines k (own_count draft kind (get_or machines k 0)) e → IsVisited draft kind machines (k + 1) 0 e
visited_on draft kind machines k e lt v = record {
  element = v.element;
  before = inl (subst (λ xs. Contains xs e.machine) (sym (take_more machines k 0 lt)) (⊎_elim
      (λ on. Contains-append_left (take k machines) (get_or machines k 0 ∷ []) e.machine on)
      (λ here. Contains-append_right (take k machines) (get_or machines k 0 ∷ []) e.machine (is_one (get_or machines k 0) e.machine here.0))
      v.before));
}

pub visited_back : (draft : Draft) (kind : ElementKind) (machines : List ℕ) (k : ℕ) (e : ElementRef) → k < length machines
    → IsVisited draft kind machines (k + 1) 0 e → IsVisited draft kind machines k (own_count draft kind (get_or machines k 0)) e
visited_back draft kind machines k e lt v = record {
  element = v.element;
  before = ⊎_elim
      (λ on. ⊎_elim
      (λ old. inl old)
      (λ same. inr (same, subst (λ m. e.element < own_count draft kind m) same (element_counted draft kind e v.element)))
      (in_more (take k machines) (get_or machines k 0) e.machine (subst (λ xs. Contains xs e.machine) (take_more machines k 0 lt) on)))
      (λ none. let l = none.1 in absurd (omega arith))
      v.before;
}

pub next_machine : (draft : Draft) (kind : ElementKind) (machines : List ℕ) (k : ℕ) (rows : List (List ℕ)) (firsts : List ElementRef)
    → IsInRange draft → AreChain draft machines → k < length machines
    → IsNumbering draft kind machines k (own_count draft kind (get_or machines k 0)) rows firsts → IsNumbering draft kind machines (k + 1) 0 rows firsts
next_machine draft kind machines k rows firsts range chain lt h = record {
  width = h.width;
  row = row;
  sound = λ e n is. let s = h.sound e n is in (visited_on draft kind machines k e lt s.0, s.1);
  all = λ e v. h.all e (visited_back draft kind machines k e lt v);
  single = h.single;
  order = subst (λ es. IsSiftedBy (λ x. Became draft kind x x) es firsts) (all_visited draft kind machines k lt) h.order;
}
  where
    row : k + 1 < length machines → length (get_or rows (get_or machines (k + 1) 0) []) ≡ 0
    row more =
        ⊎_elim
        (λ some. let m = get_or machines (k + 1) 0 in
        let below = machine_below draft machines (k + 1) range chain more in
        let there = slice_get-get_or rows (get_or machines (k + 1) 0) [] (let w = h.width in omega arith) in
        let first = slice_get-get_or (get_or rows (get_or machines (k + 1) 0) []) 0 0 some in
        let e : ElementRef = record { machine = get_or machines (k + 1) 0; element = 0 } in
        let is = ap (λ o. option_and_then (λ (row : List ℕ). slice_get row 0) o) there ∙ first in
        let v = visited_on draft kind machines k (record { machine = get_or machines (k + 1) 0; element = 0 }) lt (h.sound (record { machine = get_or machines (k + 1) 0; element = 0 }) _ is).0 in
        let cut = cut_of draft machines (k + 1) chain more in
        absurd (⊎_elim (λ on. cut.circle (cut.has (get_or machines (k + 1) 0) on)) (λ none. let l = none.1 in omega arith) v.before))
        (λ none. omega arith)
        (cases_lt 0 (length (get_or rows (get_or machines (k + 1) 0) [])))

pub numbers_start : (draft : Draft) (kind : ElementKind) (machines : List ℕ) → IsNumbering draft kind machines 0 0 (replicate (length draft.machines) []) []
numbers_start draft kind machines = record {
  width = length-replicate {A = List ℕ} (length draft.machines) [];
  row = λ _. ap length (no_row (length draft.machines) (get_or machines 0 0));
  sound = λ e n is. absurd (no_look (length draft.machines) e n is);
  all = λ e v. absurd (⊎_elim (λ on. nothing_in e.machine on) (λ none. let l = none.1 in omega arith) v.before);
  single = λ n f is. absurd (cc);
  order = IsSiftedBy.nothing;
}

-- ---- the whole chain

pub whole_visited : (draft : Draft) (kind : ElementKind) (m : ℕ) (machines : List ℕ) (e : ElementRef) → IsChain draft m machines → IsElement draft kind e
    → IsOrExtends draft m e.machine → IsVisited draft kind machines (length machines) 0 e
whole_visited draft kind m machines e chain is up = record {
  element = is;
  before = inl (subst (λ xs. Contains xs e.machine) (sym (take_all machines)) (chain_all chain e.machine up));
}

pub visited_whole : (draft : Draft) (kind : ElementKind) (m : ℕ) (machines : List ℕ) (e : ElementRef) → IsChain draft m machines
    → IsVisited draft kind machines (length machines) 0 e → IsOrExtends draft m e.machine
visited_whole draft kind m machines e chain v =
    ⊎_elim
    (λ on. chain_has chain e.machine (subst (λ xs. Contains xs e.machine) (take_all machines) on))
    (λ none. let l = none.1 in absurd (omega arith))
    v.before

pub numbers_known : (draft : Draft) (kind : ElementKind) (m : ℕ) (machines : List ℕ) (numbers : Numbers) → IsChain draft m machines
    → IsNumbering draft kind machines (length machines) 0 numbers.rows.items numbers.firsts.items → AreNumbersOf draft m machines kind (numbering numbers)
numbers_known draft kind m machines numbers chain h = record {
  sound = λ e n is. let s = h.sound e n is in (visited_whole draft kind m machines e chain s.0, s.0.element, s.1);
  all = λ e is up. h.all e (whole_visited draft kind m machines e chain is up);
  single = h.single;
  order = subst (λ es. IsSiftedBy (λ x. Became draft kind x x) es numbers.firsts.items)
      (append-nil (elements_of draft kind (take (length machines) machines)) ∙ ap (elements_of draft kind) (take_all machines))
      h.order;
}
