-- Routes, firings, openings and places: what is read of each is spelled so, and what is spelled so is read.
use Rattle.std.proofs.Common.{◌≡◌, ℕ, suc, ◌<◌, ◌≤◌, Bool, true, false, cond, eqb, List, [], ◌∷◌, ◌++◌, length, Some, None, refl, sym, ap, ◌∙◌, append_assoc, arith, inl, inr, length-append}
use Rattle.std.specs.Prelude.{codes}
use Rattle.std.specs.List.{AllByRecursion}
use Rattle.std.specs.Option.{option_map_or}
use Rattle.std.specs.Fmt.{decimal}
use Rattle.std.proofs.lemmas.Bool.{cond-false, eqb-true, ne_eqb, eqb-false}
use Rattle.pssm_model.specs.declared.ids.TransId.{TransId}
use Rattle.pssm_model.specs.declared.steps.Route.{Route}
use Rattle.pssm_model.specs.declared.steps.Firing.{Firing}
use Rattle.pssm_model.specs.declared.steps.Mode.{Mode}
use Rattle.pssm_model.specs.declared.steps.Mode.TheVariants.{Plain, Shallow, Deep}
use Rattle.pssm_model.specs.declared.steps.How.{How}
use Rattle.pssm_model.specs.declared.steps.How.TheVariants.{By, Restore, Nothing}
use Rattle.pssm_spelling.specs.Spelling.{IsName, continues_name}
use Rattle.pssm_spelling.specs.SpellingReading.{is_digit, EndsRun, stripped, number_taken, index_taken}
use Rattle.pssm_spelling.proofs.SpellingLaws.{stripped_takes, stripped_again}
use Rattle.pssm_lines.specs.LineText.{transition_text, route_text, routes_text, firing_text, mode_text, how_text}
use Rattle.pssm_lines.specs.Grammar.{IsIndex, IsSpelledRoute, IsSpelledFiring, IsSpelledHow}
use Rattle.pssm_lines.specs.Parts.{firing_of_one}
use Rattle.pssm_lines.specs.inner.LineReading.{◌>>=◌, Reader, each_taken, joined_taken, vertex, transition, transition_taken, route_taken, firing_with, routes_taken, firing_taken, mode_taken, opened_taken, how_taken, place_taken, turn_taken}
use Rattle.pssm_lines.proofs.Readers.{bind_at, chosen, choice_at, got, got_is, word_takes, word_again, Reads, step_takes, step_again, others_text, StopsAt, few_others, joined_parts, joined_text, ends_others, each_reads, joined_reads, turn_end}
use Rattle.pssm_lines.proofs.PieceLaws.{Anything, name_reads, index_reads, number_reads}

-- ---- transitions

abbrev pub IsTransition : TransId → Type 0
IsTransition t = IsIndex t.0

transition_takes : (bytes : List ℕ) (t : TransId) (rest : List ℕ) → transition_taken bytes ≡ got t rest → (bytes ≡ transition_text t ++ rest) × IsTransition t
unfolding transition_taken
transition_takes bytes t rest e =
    let letter = word_takes (codes "t") bytes _ (t, rest) e in
    let number = step_takes index_reads letter.rest _ (t, rest) letter.more in
    got_is (λ x r. (bytes ≡ transition_text x ++ r) × IsTransition x) (transition number.value) t number.rest rest number.more (letter.parts ∙ ap (λ (u : List ℕ). codes "t" ++ u) number.parts, number.is)

transition_again : (t : TransId) (rest : List ℕ) → IsTransition t → EndsRun is_digit rest → transition_taken (transition_text t ++ rest) ≡ got t rest
unfolding transition_taken
transition_again t rest is ends =
    word_again (codes "t") (decimal t.0 ++ rest) (λ digits. index_taken digits >>= λ n. got (transition n.0) n.1)
    ∙ step_again index_reads t.0 rest (λ n. got (transition n.0) n.1) is ends

pub transition_reads : Reads transition_taken transition_text IsTransition (EndsRun is_digit)
transition_reads = record { takes = transition_takes; again = transition_again }

-- ---- routes

-- What follows does not go on with a route.
pub record EndsRoute (rest : List ℕ) : Type 0 where
  pub digits : EndsRun is_digit rest
  pub starts : StopsAt 43 rest
  pub others : StopsAt 44 rest

route_takes : (bytes : List ℕ) (route : Route) (rest : List ℕ) → route_taken bytes ≡ got route rest → (bytes ≡ route_text route ++ rest) × IsSpelledRoute route
unfolding route_taken
route_takes bytes route rest e =
    let starts = step_takes (joined_reads 43 transition_reads (λ more. refl) (length bytes)) bytes _ (route, rest) e in
    let others = step_takes (each_reads 44 transition_reads (λ more. refl) (length starts.rest)) starts.rest _ (route, rest) starts.more in
    let whole : Route = record { starts = starts.value; rest = others.value } in
    let parts : bytes ≡ route_text whole ++ others.rest =
    starts.parts ∙ ap (λ (t : List ℕ). joined_text 43 transition_text starts.value ++ t) others.parts ∙ sym (append_assoc (joined_text 43 transition_text starts.value) (others_text 44 transition_text others.value) others.rest) in
    got_is (λ x r. (bytes ≡ route_text x ++ r) × IsSpelledRoute x) whole route others.rest rest others.more (parts, (starts.is.0, starts.is.2, others.is.1))

-- pieces with a byte between two are at least as many bytes, and one more
few_joined : {A : Type 0} (between : ℕ) (text : A → List ℕ) (xs : List A) (rest : List ℕ) → length xs ≤ suc (length (joined_text between text xs ++ rest))
few_joined between text [] rest = omega arith
few_joined between text (x ∷ xs) rest =
    let few = few_others between text xs rest in
    let parts : joined_text between text (x ∷ xs) ++ rest ≡ text x ++ (others_text between text xs ++ rest) =
    ap (λ (t : List ℕ). t ++ rest) (joined_parts between text x xs) ∙ append_assoc (text x) (others_text between text xs) rest in
    let same : length (joined_text between text (x ∷ xs) ++ rest) ≡ length (text x ++ (others_text between text xs ++ rest)) = ap length parts in
    omega (arith, few, same, length-append (text x) (others_text between text xs ++ rest))

route_again : (route : Route) (rest : List ℕ) → IsSpelledRoute route → EndsRoute rest → route_taken (route_text route ++ rest) ≡ got route rest
unfolding route_taken
route_again route rest is ends =
    let tail = others_text 44 transition_text route.rest ++ rest in
    let bytes = joined_text 43 transition_text route.starts ++ tail in
    let digits = ends_others 44 transition_text (EndsRun is_digit) (λ more. refl) route.rest rest ends.digits in
    let starts = ends_others 44 transition_text (StopsAt 43) (λ more. refl) route.rest rest ends.starts in
    ap (λ (t : List ℕ). route_taken t) (append_assoc (joined_text 43 transition_text route.starts) (others_text 44 transition_text route.rest) rest)
    ∙ step_again (joined_reads 43 transition_reads (λ more. refl) (length bytes)) route.starts tail (λ s. each_taken 44 transition_taken (length s.1) s.1 >>= λ o. got (let r : Route = record { starts = s.0; rest = o.0 } in r) o.1) (is.0, few_joined 43 transition_text route.starts tail, is.1) (digits, starts)
    ∙ step_again (each_reads 44 transition_reads (λ more. refl) (length tail)) route.rest rest (λ o. got (let r : Route = record { starts = route.starts; rest = o.0 } in r) o.1) (few_others 44 transition_text route.rest rest, is.2) (ends.digits, ends.others)

pub route_reads : Reads route_taken route_text IsSpelledRoute EndsRoute
route_reads = record { takes = route_takes; again = route_again }

-- a route begins with the `t` of a transition
pub route_begins : (route : Route) → IsSpelledRoute route → (more : List ℕ) × (route_text route ≡ 116 ∷ more)
route_begins route is = by_starts route.starts is.0 where
  by_starts : (starts : List TransId) → 0 < length starts → (more : List ℕ) × (joined_text 43 transition_text starts ++ others_text 44 transition_text route.rest ≡ 116 ∷ more)
  by_starts [] some = absurd (omega arith)
  by_starts (t ∷ ts) some = ((decimal t.0 ++ others_text 43 transition_text ts) ++ others_text 44 transition_text route.rest, ap (λ (u : List ℕ). u ++ others_text 44 transition_text route.rest) (joined_parts 43 transition_text t ts))

-- ---- firings

pub record EndsFiring (rest : List ℕ) : Type 0 where
  pub route : EndsRoute rest
  pub routes : StopsAt 32 rest

goes_on_route : (more : List ℕ) → EndsRoute (32 ∷ more)
goes_on_route more = record { digits = refl; starts = refl; others = refl }

routes_joined : (routes : List Route) → 0 < length routes → routes_text routes ≡ joined_text 32 route_text routes
routes_joined [] some = absurd (omega arith)
routes_joined (r ∷ rs) some = refl

firing_takes : (bytes : List ℕ) (firing : Firing) (rest : List ℕ) → firing_taken bytes ≡ got firing rest → (bytes ≡ firing_text firing ++ rest) × IsSpelledFiring firing
unfolding firing_taken
firing_takes bytes firing rest e =
    elim (chosen (λ r. got (firing_with []) r) (stripped (codes "-") bytes) (joined_taken 32 route_taken (length bytes) bytes >>= λ routes. got (firing_with routes.0) routes.1) (firing, rest) e) [
      | inl none ↦ got_is (λ x r. (bytes ≡ firing_text x ++ r) × IsSpelledFiring x) (firing_with []) firing none.0 rest none.2 (stripped_takes (codes "-") bytes none.0 none.1, tt)
      | inr some ↦
          let routes = step_takes (joined_reads 32 route_reads goes_on_route (length bytes)) bytes (λ routes. got (firing_with routes.0) routes.1) (firing, rest) some in
          got_is (λ x r. (bytes ≡ firing_text x ++ r) × IsSpelledFiring x) (firing_with routes.value) firing routes.rest rest routes.more
          (routes.parts ∙ ap (λ (t : List ℕ). t ++ routes.rest) (sym (routes_joined routes.value routes.is.0)), routes.is.2)
    ]

no_dash : (routes : List Route) (rest : List ℕ) → 0 < length routes → AllByRecursion IsSpelledRoute routes → stripped (codes "-") (joined_text 32 route_text routes ++ rest) ≡ None
unfolding stripped
no_dash [] rest some are = absurd (omega arith)
no_dash (r ∷ rs) rest some are =
    let begins = route_begins r are.0 in
    let text : joined_text 32 route_text (r ∷ rs) ++ rest ≡ 116 ∷ ((begins.0 ++ others_text 32 route_text rs) ++ rest) =
    ap (λ (t : List ℕ). t ++ rest) (joined_parts 32 route_text r rs ∙ ap (λ (t : List ℕ). t ++ others_text 32 route_text rs) begins.1) in
    ap (λ (t : List ℕ). stripped (codes "-") t) text

firing_again : (routes : List Route) (rest : List ℕ) → AllByRecursion IsSpelledRoute routes → EndsFiring rest → firing_taken (routes_text routes ++ rest) ≡ got (firing_with routes) rest
unfolding firing_taken
firing_again [] rest are ends =
    choice_at (λ r. got (firing_with []) r) (stripped (codes "-") (codes "-" ++ rest)) (joined_taken 32 route_taken (length (codes "-" ++ rest)) (codes "-" ++ rest) >>= λ routes. got (firing_with routes.0) routes.1) rest (stripped_again (codes "-") rest)
firing_again (r ∷ rs) rest are ends =
    let routes = r ∷ rs in
    let bytes = joined_text 32 route_text routes ++ rest in
    ap (λ o. option_map_or (λ t. got (firing_with []) t) o (joined_taken 32 route_taken (length bytes) bytes >>= λ x. got (firing_with x.0) x.1)) (no_dash routes rest (omega arith) are)
    ∙ step_again (joined_reads 32 route_reads goes_on_route (length bytes)) routes rest (λ x. got (firing_with x.0) x.1) (omega arith, few_joined 32 route_text routes rest, are) (ends.route, ends.routes)

pub firing_reads : Reads firing_taken firing_text IsSpelledFiring EndsFiring
firing_reads = record { takes = firing_takes; again = λ firing rest are ends. firing_again firing.routes rest are ends }

-- ---- one route of one start, where the line ends behind it

one_joined : {A : Type 0} (between : ℕ) (read : Reader A) (most : ℕ) (bytes : List ℕ) (x : A) (rest : List ℕ) → stripped (between ∷ []) rest ≡ None → read bytes ≡ got x rest → joined_taken between read most bytes ≡ got (x ∷ []) rest
one_joined between read most bytes x rest none e =
    bind_at (read bytes) (λ x. each_taken between read most x.1 >>= λ y. got (x.0 ∷ y.0) y.1) (x, rest) e
    ∙ bind_at (each_taken between read most rest) (λ y. got (x ∷ y.0) y.1) ([], rest) (turn_end between read most rest none)

-- no piece stands before a line feed
pub record EndsLine (rest : List ℕ) : Type 0 where
  pub starts : stripped (43 ∷ []) rest ≡ None
  pub others : stripped (44 ∷ []) rest ≡ None
  pub routes : stripped (32 ∷ []) rest ≡ None

ends_line : (rest after : List ℕ) → stripped (10 ∷ []) rest ≡ Some after → EndsLine rest
unfolding stripped
ends_line [] after e = absurd cc
ends_line (c ∷ rest) after e = by_test (eqb c 10) refl e where
  by_test : (t : Bool) → eqb c 10 ≡ t → cond t (Some rest) None ≡ Some after → EndsLine (c ∷ rest)
  by_test true same h = let feed : c ≡ 10 = eqb-true c 10 same in rw feed (record { starts = refl; others = refl; routes = refl })
  by_test false same h = absurd cc

one_route : (bytes : List ℕ) (start : TransId) (rest : List ℕ) → EndsLine rest → transition_taken bytes ≡ got start rest → route_taken bytes ≡ got (record { starts = start ∷ []; rest = [] }) rest
unfolding route_taken
one_route bytes start rest ends e =
    bind_at (joined_taken 43 transition_taken (length bytes) bytes) (λ s. each_taken 44 transition_taken (length s.1) s.1 >>= λ o. got (let r : Route = record { starts = s.0; rest = o.0 } in r) o.1) (start ∷ [], rest) (one_joined 43 transition_taken (length bytes) bytes start rest ends.starts e)
    ∙ bind_at (each_taken 44 transition_taken (length rest) rest) (λ o. got (let r : Route = record { starts = start ∷ []; rest = o.0 } in r) o.1) ([], rest) (turn_end 44 transition_taken (length rest) rest ends.others)

begins_letter : (bytes : List ℕ) (start : TransId) (rest : List ℕ) → transition_taken bytes ≡ got start rest → stripped (codes "-") bytes ≡ None
unfolding stripped
begins_letter bytes start rest e =
    let took = transition_takes bytes start rest e in
    ap (λ (t : List ℕ). stripped (codes "-") t) took.0

one_firing : (bytes : List ℕ) (start : TransId) (rest : List ℕ) → EndsLine rest → transition_taken bytes ≡ got start rest → firing_taken bytes ≡ got (firing_of_one start) rest
unfolding firing_taken
one_firing bytes start rest ends e =
    let route : Route = record { starts = start ∷ []; rest = [] } in
    ap (λ o. option_map_or (λ t. got (firing_with []) t) o (routes_taken bytes)) (begins_letter bytes start rest e)
    ∙ bind_at (joined_taken 32 route_taken (length bytes) bytes) (λ x. got (firing_with x.0) x.1) (route ∷ [], rest) (one_joined 32 route_taken (length bytes) bytes route rest ends.routes (one_route bytes start rest ends e))

-- A transition that ends the line: what fires is one route of this start alone.
pub lone_start : (bytes digits : List ℕ) (number : ℕ) (rest after : List ℕ) → stripped (codes "t") bytes ≡ Some digits → index_taken digits ≡ got number rest → stripped (codes "\n") rest ≡ Some after → firing_taken bytes ≡ got (firing_of_one (transition number)) rest
unfolding transition_taken
lone_start bytes digits number rest after letter index feed =
    let read : transition_taken bytes ≡ got (transition number) rest =
    bind_at (stripped (codes "t") bytes) (λ d. index_taken d >>= λ n. got (transition n.0) n.1) digits letter
    ∙ bind_at (index_taken digits) (λ n. got (transition n.0) n.1) (number, rest) index in
    one_firing bytes (transition number) rest (ends_line rest after feed) read

-- ---- openings

mode_takes : (bytes : List ℕ) (mode : Mode) (rest : List ℕ) → mode_taken bytes ≡ got mode rest → bytes ≡ mode_text mode ++ rest
unfolding mode_taken
mode_takes bytes mode rest e =
    elim (chosen (λ r. got Plain r) (stripped (codes "default") bytes) (option_map_or (λ r. got Shallow r) (stripped (codes "shallow") bytes) (option_map_or (λ r. got Deep r) (stripped (codes "deep") bytes) None)) (mode, rest) e) [
      | inl b ↦ got_is (λ m r. bytes ≡ mode_text m ++ r) Plain mode b.0 rest b.2 (stripped_takes (codes "default") bytes b.0 b.1)
      | inr other ↦ elim (chosen (λ r. got Shallow r) (stripped (codes "shallow") bytes) (option_map_or (λ r. got Deep r) (stripped (codes "deep") bytes) None) (mode, rest) other) [
        | inl b ↦ got_is (λ m r. bytes ≡ mode_text m ++ r) Shallow mode b.0 rest b.2 (stripped_takes (codes "shallow") bytes b.0 b.1)
        | inr last ↦ elim (chosen (λ r. got Deep r) (stripped (codes "deep") bytes) None (mode, rest) last) [
          | inl b ↦ got_is (λ m r. bytes ≡ mode_text m ++ r) Deep mode b.0 rest b.2 (stripped_takes (codes "deep") bytes b.0 b.1)
          | inr none ↦ absurd cc
        ]
      ]
    ]

mode_again : (mode : Mode) (rest : List ℕ) → mode_taken (mode_text mode ++ rest) ≡ got mode rest
unfolding mode_taken stripped
mode_again Plain rest = refl
mode_again Shallow rest = refl
mode_again Deep rest = refl

abbrev pub AnyMode : Mode → Type 0
AnyMode mode = Unit {0}

mode_reads : Reads mode_taken mode_text AnyMode Anything
mode_reads = record { takes = λ bytes mode rest e. (mode_takes bytes mode rest e, tt); again = λ mode rest is any. mode_again mode rest }

-- a mode between two spaces
abbrev pub opened_text : Mode → List ℕ
opened_text mode = codes " " ++ (mode_text mode ++ codes " ")

opened_takes : (bytes : List ℕ) (mode : Mode) (rest : List ℕ) → opened_taken bytes ≡ got mode rest → (bytes ≡ opened_text mode ++ rest) × AnyMode mode
unfolding opened_taken
opened_takes bytes mode rest e =
    let front = word_takes (codes " ") bytes _ (mode, rest) e in
    let named = step_takes mode_reads front.rest _ (mode, rest) front.more in
    let back = word_takes (codes " ") named.rest _ (mode, rest) named.more in
    let parts : bytes ≡ opened_text named.value ++ back.rest =
    front.parts ∙ ap (λ (t : List ℕ). codes " " ++ t) (named.parts ∙ ap (λ (t : List ℕ). mode_text named.value ++ t) back.parts ∙ sym (append_assoc (mode_text named.value) (codes " ") back.rest)) in
    got_is (λ m r. (bytes ≡ opened_text m ++ r) × AnyMode m) named.value mode back.rest rest back.more (parts, tt)

opened_again : (mode : Mode) (rest : List ℕ) → AnyMode mode → Anything rest → opened_taken (opened_text mode ++ rest) ≡ got mode rest
unfolding opened_taken
opened_again mode rest is any =
    ap (λ (t : List ℕ). opened_taken (codes " " ++ t)) (append_assoc (mode_text mode) (codes " ") rest)
    ∙ word_again (codes " ") (mode_text mode ++ (codes " " ++ rest)) (λ space. mode_taken space >>= λ m. stripped (codes " ") m.1 >>= λ r. got m.0 r)
    ∙ step_again mode_reads mode (codes " " ++ rest) (λ m. stripped (codes " ") m.1 >>= λ r. got m.0 r) tt tt
    ∙ word_again (codes " ") rest (λ r. got mode r)

pub opened_reads : Reads opened_taken opened_text AnyMode Anything
opened_reads = record { takes = opened_takes; again = opened_again }

by_takes : (bytes : List ℕ) (how : How) (rest : List ℕ) → (route_taken bytes >>= λ x. got (By x.0) x.1) ≡ got how rest → (codes "by " ++ bytes ≡ how_text how ++ rest) × IsSpelledHow how
by_takes bytes how rest e =
    let route = step_takes route_reads bytes (λ x. got (By x.0) x.1) (how, rest) e in
    got_is (λ h r. (codes "by " ++ bytes ≡ how_text h ++ r) × IsSpelledHow h) (By route.value) how route.rest rest route.more (ap (λ (t : List ℕ). codes "by " ++ t) route.parts, route.is)

restore_takes : (bytes : List ℕ) (how : How) (rest : List ℕ) → (index_taken bytes >>= λ x. got (Restore (vertex x.0)) x.1) ≡ got how rest → (codes "state v" ++ bytes ≡ how_text how ++ rest) × IsSpelledHow how
restore_takes bytes how rest e =
    let state = step_takes index_reads bytes (λ x. got (Restore (vertex x.0)) x.1) (how, rest) e in
    got_is (λ h r. (codes "state v" ++ bytes ≡ how_text h ++ r) × IsSpelledHow h) (Restore (vertex state.value)) how state.rest rest state.more (ap (λ (t : List ℕ). codes "state v" ++ t) state.parts, state.is)

how_takes : (bytes : List ℕ) (how : How) (rest : List ℕ) → how_taken bytes ≡ got how rest → (bytes ≡ how_text how ++ rest) × IsSpelledHow how
unfolding how_taken
how_takes bytes how rest e =
    elim (chosen (λ r. route_taken r >>= λ x. got (By x.0) x.1) (stripped (codes "by ") bytes) (option_map_or (λ r. index_taken r >>= λ x. got (Restore (vertex x.0)) x.1) (stripped (codes "state v") bytes) (option_map_or (λ r. got Nothing r) (stripped (codes "none") bytes) None)) (how, rest) e) [
      | inl b ↦ let took = by_takes b.0 how rest b.2 in (stripped_takes (codes "by ") bytes b.0 b.1 ∙ took.0, took.1)
      | inr other ↦ elim (chosen (λ r. index_taken r >>= λ x. got (Restore (vertex x.0)) x.1) (stripped (codes "state v") bytes) (option_map_or (λ r. got Nothing r) (stripped (codes "none") bytes) None) (how, rest) other) [
        | inl b ↦ let took = restore_takes b.0 how rest b.2 in (stripped_takes (codes "state v") bytes b.0 b.1 ∙ took.0, took.1)
        | inr last ↦ elim (chosen (λ r. got Nothing r) (stripped (codes "none") bytes) None (how, rest) last) [
          | inl b ↦ got_is (λ h r. (bytes ≡ how_text h ++ r) × IsSpelledHow h) Nothing how b.0 rest b.2 (stripped_takes (codes "none") bytes b.0 b.1, tt)
          | inr none ↦ absurd cc
        ]
      ]
    ]

how_again : (how : How) (rest : List ℕ) → IsSpelledHow how → EndsRoute rest → how_taken (how_text how ++ rest) ≡ got how rest
unfolding how_taken stripped
how_again (By route) rest is ends = step_again route_reads route rest (λ x. got (By x.0) x.1) is ends
how_again (Restore state) rest is ends = step_again index_reads state.0 rest (λ x. got (Restore (vertex x.0)) x.1) is ends.digits
how_again Nothing rest is ends = refl

pub how_reads : Reads how_taken how_text IsSpelledHow EndsRoute
how_reads = record { takes = how_takes; again = how_again }

-- ---- an object and a number

abbrev pub place_text : List ℕ → List ℕ × ℕ → List ℕ
place_text word p = p.0 ++ (word ++ decimal p.1)

abbrev pub IsPlace : List ℕ × ℕ → Type 0
IsPlace p = IsName p.0 × IsIndex p.1

place_takes : (word bytes : List ℕ) (p : List ℕ × ℕ) (rest : List ℕ) → place_taken word bytes ≡ got p rest → (bytes ≡ place_text word p ++ rest) × IsPlace p
unfolding place_taken
place_takes word bytes p rest e =
    let object = step_takes name_reads bytes _ (p, rest) e in
    let middle = word_takes word object.rest _ (p, rest) object.more in
    let number = step_takes index_reads middle.rest _ (p, rest) middle.more in
    let both : List ℕ × ℕ = (object.value, number.value) in
    let parts : bytes ≡ place_text word both ++ number.rest =
    object.parts ∙ ap (λ (t : List ℕ). object.value ++ t) (middle.parts ∙ ap (λ (t : List ℕ). word ++ t) number.parts) ∙ simp append_assoc in
    got_is (λ x r. (bytes ≡ place_text word x ++ r) × IsPlace x) both p number.rest rest number.more (parts, (object.is, number.is))

place_again : (word : List ℕ) → ((more : List ℕ) → EndsRun continues_name (word ++ more)) → (p : List ℕ × ℕ) (rest : List ℕ) → IsPlace p → EndsRun is_digit rest → place_taken word (place_text word p ++ rest) ≡ got p rest
unfolding place_taken
place_again word stops p rest is ends =
    let parts : place_text word p ++ rest ≡ p.0 ++ (word ++ (decimal p.1 ++ rest)) = simp append_assoc in
    ap (λ (t : List ℕ). place_taken word t) parts
    ∙ step_again name_reads p.0 (word ++ (decimal p.1 ++ rest)) (λ object. stripped word object.1 >>= λ digits. index_taken digits >>= λ n. got (object.0, n.0) n.1) is.0 (stops (decimal p.1 ++ rest))
    ∙ word_again word (decimal p.1 ++ rest) (λ digits. index_taken digits >>= λ n. got (p.0, n.0) n.1)
    ∙ step_again index_reads p.1 rest (λ n. got (p.0, n.0) n.1) is.1 ends

pub place_reads : (word : List ℕ) → ((more : List ℕ) → EndsRun continues_name (word ++ more)) → Reads (place_taken word) (place_text word) IsPlace (EndsRun is_digit)
place_reads word stops = record { takes = place_takes word; again = place_again word stops }

abbrev pub turn_text : List ℕ × ℕ → List ℕ
turn_text p = p.0 ++ (codes " " ++ decimal p.1)

abbrev pub IsTurn : List ℕ × ℕ → Type 0
IsTurn p = IsName p.0 × (0 < p.1) × (p.1 < 4294967296)

turn_takes : (bytes : List ℕ) (p : List ℕ × ℕ) (rest : List ℕ) → turn_taken bytes ≡ got p rest → (bytes ≡ turn_text p ++ rest) × IsTurn p
unfolding turn_taken
turn_takes bytes p rest e =
    let object = step_takes name_reads bytes _ (p, rest) e in
    let middle = word_takes (codes " ") object.rest _ (p, rest) object.more in
    let number = step_takes number_reads middle.rest _ (p, rest) middle.more in
    let parts : bytes ≡ turn_text (object.value, number.value) ++ number.rest =
    object.parts ∙ ap (λ (t : List ℕ). object.value ++ t) (middle.parts ∙ ap (λ (t : List ℕ). codes " " ++ t) number.parts) ∙ simp append_assoc in
    by_test object.value number.value number.rest parts object.is number.is (eqb number.value 0) refl number.more where
      by_test : (o : List ℕ) (n : ℕ) (r : List ℕ) → bytes ≡ turn_text (o, n) ++ r → IsName o → n < 4294967296 → (t : Bool) → eqb n 0 ≡ t → cond t None (got (o, n) r) ≡ got p rest → (bytes ≡ turn_text p ++ rest) × IsTurn p
      by_test o n r parts name small true here h = absurd cc
      by_test o n r parts name small false here h =
          let other : n ≡ 0 → ⊥ = eqb-false n 0 here in
          let both : List ℕ × ℕ = (o, n) in
          got_is (λ x s. (bytes ≡ turn_text x ++ s) × IsTurn x) both p r rest h (parts, (name, omega (arith, other), small))

turn_again : (p : List ℕ × ℕ) (rest : List ℕ) → IsTurn p → EndsRun is_digit rest → turn_taken (turn_text p ++ rest) ≡ got p rest
unfolding turn_taken
turn_again p rest is ends =
    let parts : turn_text p ++ rest ≡ p.0 ++ (codes " " ++ (decimal p.1 ++ rest)) = simp append_assoc in
    ap turn_taken parts
    ∙ step_again name_reads p.0 (codes " " ++ (decimal p.1 ++ rest)) (λ object. stripped (codes " ") object.1 >>= λ digits. number_taken digits >>= λ n. cond (eqb n.0 0) None (got (object.0, n.0) n.1)) is.0 refl
    ∙ word_again (codes " ") (decimal p.1 ++ rest) (λ digits. number_taken digits >>= λ n. cond (eqb n.0 0) None (got (p.0, n.0) n.1))
    ∙ step_again number_reads p.1 rest (λ n. cond (eqb n.0 0) None (got (p.0, n.0) n.1)) is.2 ends
    ∙ cond-false (eqb p.1 0) None (got (p.0, p.1) rest) (ne_eqb p.1 0 (λ (z : p.1 ≡ 0). absurd (omega (arith, is.1))))

pub turn_reads : Reads turn_taken turn_text IsTurn (EndsRun is_digit)
turn_reads = record { takes = turn_takes; again = turn_again }
