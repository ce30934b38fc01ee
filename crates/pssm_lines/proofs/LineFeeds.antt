-- A line of the grammar has no line feed.
use Rattle.std.proofs.Common.{◌≡◌, ℕ, suc, ◌<◌, ◌≤◌, ◌^◌, Bool, true, false, eqb, leb, List, [], ◌∷◌, ◌++◌, ℤ, pos, negsuc, refl, sym, subst, arith}
use Rattle.std.specs.Prelude.{codes, FitsSigned}
use Rattle.std.specs.Int.{w64}
use Rattle.std.specs.List.{list_all, AllByRecursion}
use Rattle.std.specs.Fmt.{decimal, signed_decimal}
use Rattle.std.proofs.lemmas.Bool.{and_parts, and_from, leb-true, not_from_false, ne_eqb, eqb-true}
use Rattle.std.proofs.lemmas.Fmt.{digits_decimal}
use Rattle.pssm_model.specs.declared.ids.TransId.{TransId}
use Rattle.pssm_model.specs.declared.steps.Route.{Route}
use Rattle.pssm_model.specs.declared.steps.Mode.{Mode}
use Rattle.pssm_model.specs.declared.steps.Mode.TheVariants.{Plain, Shallow, Deep}
use Rattle.pssm_model.specs.declared.steps.How.{How}
use Rattle.pssm_model.specs.declared.steps.How.TheVariants.{By, Restore, Nothing}
use Rattle.pssm_semantics.specs.declared.line.Line.{Line}
use Rattle.pssm_semantics.specs.declared.line.Line.TheVariants.{Post, Start, Take, Done, Exit, Effect, Enter, Opened, Pick, DoStep}
use Rattle.pssm_semantics.specs.declared.line.LineOut.{LineOut}
use Rattle.pssm_semantics.specs.declared.line.LineOut.TheVariants.{Mark, Send}
use Rattle.pssm_spelling.specs.Spelling.{IsName, continues_name}
use Rattle.pssm_spelling.specs.SpellingReading.{is_digit}
use Rattle.pssm_spelling.proofs.SpellingLaws.{digits_model, name_goes_on}
use Rattle.pssm_lines.specs.LineText.{line_text, args_text, call_text, transition_text, route_text, routes_text, firing_text, out_text, outs_text, mode_text, how_text}
use Rattle.pssm_lines.specs.Grammar.{IsLine, IsIndex, AreArgs, IsSpelledOut, AreSpelledOuts, IsSpelledRoute, IsSpelledHow}
use Rattle.pssm_lines.specs.Faults.{is_no_feed}
use Rattle.pssm_lines.proofs.Feeds.{has_no_feed, no_feed_append}
use Rattle.pssm_lines.proofs.Readers.{others_text, joined_text, joined_parts}

abbrev pub IsClean : List ℕ → Type 0
IsClean bytes = has_no_feed bytes ≡ true

-- characters of a kind that has no line feed
clean_by : (p : ℕ → Bool) → ((c : ℕ) → p c ≡ true → is_no_feed c ≡ true) → (xs : List ℕ) → list_all p xs ≡ true → IsClean xs
clean_by p h [] e = refl
clean_by p h (x ∷ xs) e =
    let both = and_parts (p x) (list_all p xs) e in
    and_from (is_no_feed x) (has_no_feed xs) (h x both.0) (clean_by p h xs both.1)

digit_no_feed : (c : ℕ) → is_digit c ≡ true → is_no_feed c ≡ true
digit_no_feed c e =
    let low : 48 ≤ c = leb-true 48 c (and_parts (leb 48 c) (leb c 57) e).0 in
    not_from_false (eqb c 10) (ne_eqb c 10 (λ (z : c ≡ 10). absurd (omega arith)))

no_name : continues_name 10 ≡ true → ⊥
no_name e = absurd cc

name_no_feed : (c : ℕ) → continues_name c ≡ true → is_no_feed c ≡ true
name_no_feed c e = by_test (eqb c 10) refl where
  by_test : (t : Bool) → eqb c 10 ≡ t → is_no_feed c ≡ true
  by_test true same = let is : c ≡ 10 = eqb-true c 10 same in absurd (no_name (subst (λ (k : ℕ). continues_name k ≡ true) is e))
  by_test false other = not_from_false (eqb c 10) other

clean_name : (text : List ℕ) → IsName text → IsClean text
clean_name text name = clean_by continues_name name_no_feed text (name_goes_on text name.spelled)

clean_number : (n : ℕ) → n < 2 ^ 64 → IsClean (decimal n)
clean_number n small = clean_by is_digit digit_no_feed (decimal n) (digits_decimal digits_model n small)

clean_index : (n : ℕ) → IsIndex n → IsClean (decimal n)
clean_index n small = clean_number n (omega arith)

clean_signed : (z : ℤ) → FitsSigned w64 z → IsClean (signed_decimal z)
clean_signed (pos n) fits = let small : n < 9223372036854775808 = fits.sfits in clean_number n (omega arith)
clean_signed (negsuc n) fits = let small : n < 9223372036854775808 = fits.sfits in no_feed_append (codes "-") (decimal (suc n)) refl (clean_number (suc n) (omega arith))

clean_others : {A : Type 0} (before : ℕ) (text : A → List ℕ) (Is : A → Type 0) → is_no_feed before ≡ true → ((x : A) → Is x → IsClean (text x)) → (xs : List A) → AllByRecursion Is xs → IsClean (others_text before text xs)
clean_others before text Is feed clean [] all = refl
clean_others before text Is feed clean (x ∷ xs) all =
    no_feed_append (before ∷ text x) (others_text before text xs) (and_from (is_no_feed before) (has_no_feed (text x)) feed (clean x all.0)) (clean_others before text Is feed clean xs all.1)

clean_joined : {A : Type 0} (between : ℕ) (text : A → List ℕ) (Is : A → Type 0) → is_no_feed between ≡ true → ((x : A) → Is x → IsClean (text x)) → (xs : List A) → AllByRecursion Is xs → IsClean (joined_text between text xs)
clean_joined between text Is feed clean [] all = refl
clean_joined between text Is feed clean (x ∷ xs) all =
    subst IsClean (sym (joined_parts between text x xs)) (no_feed_append (text x) (others_text between text xs) (clean x all.0) (clean_others between text Is feed clean xs all.1))

clean_args : (args : List ℤ) → AreArgs args → IsClean (args_text args)
clean_args args are =
    let joined = joined_text 44 signed_decimal args in
    no_feed_append (codes "(") (joined ++ codes ")") refl (no_feed_append joined (codes ")") (clean_joined 44 signed_decimal (FitsSigned w64) refl clean_signed args are.1) refl)

clean_call : (object signal : List ℕ) (args : List ℤ) → IsName object → IsName signal → AreArgs args → IsClean (call_text object signal args)
clean_call object signal args name other are =
    no_feed_append object (codes "." ++ (signal ++ args_text args)) (clean_name object name)
    (no_feed_append (codes ".") (signal ++ args_text args) refl (no_feed_append signal (args_text args) (clean_name signal other) (clean_args args are)))

clean_out : (out : LineOut) → IsSpelledOut out → IsClean (out_text out)
clean_out (Mark mark args) is = no_feed_append (codes "!") (mark ++ args_text args) refl (no_feed_append mark (args_text args) (clean_name mark is.0) (clean_args args is.1))
clean_out (Send object signal args) is = no_feed_append (codes ">") (call_text object signal args) refl (clean_call object signal args is.0 is.1 is.2)

clean_outs : (outs : List LineOut) → AreSpelledOuts outs → IsClean (outs_text outs)
clean_outs outs are = clean_others 32 out_text IsSpelledOut refl clean_out outs are.1

clean_transition : (t : TransId) → IsIndex t.0 → IsClean (transition_text t)
clean_transition t small = no_feed_append (codes "t") (decimal t.0) refl (clean_index t.0 small)

clean_route : (route : Route) → IsSpelledRoute route → IsClean (route_text route)
clean_route route is =
    no_feed_append (joined_text 43 transition_text route.starts) (others_text 44 transition_text route.rest)
    (clean_joined 43 transition_text (λ t. IsIndex t.0) refl clean_transition route.starts is.1)
    (clean_others 44 transition_text (λ t. IsIndex t.0) refl clean_transition route.rest is.2)

clean_routes : (routes : List Route) → AllByRecursion IsSpelledRoute routes → IsClean (routes_text routes)
clean_routes [] are = refl
clean_routes (r ∷ rs) are = clean_joined 32 route_text IsSpelledRoute refl clean_route (r ∷ rs) are

clean_mode : (mode : Mode) → IsClean (mode_text mode)
clean_mode Plain = refl
clean_mode Shallow = refl
clean_mode Deep = refl

clean_how : (how : How) → IsSpelledHow how → IsClean (how_text how)
clean_how (By route) is = no_feed_append (codes "by ") (route_text route) refl (clean_route route is)
clean_how (Restore state) is = no_feed_append (codes "state v") (decimal state.0) refl (clean_index state.0 is)
clean_how Nothing is = refl

-- a word, an object, a word, a number, and what follows
clean_place : (kind word object : List ℕ) (n : ℕ) (tail : List ℕ) → IsClean kind → IsClean word → IsName object → n < 2 ^ 64 → IsClean tail → IsClean (kind ++ (object ++ (word ++ (decimal n ++ tail))))
clean_place kind word object n tail kind_is word_is name small tail_is =
    no_feed_append kind (object ++ (word ++ (decimal n ++ tail))) kind_is
    (no_feed_append object (word ++ (decimal n ++ tail)) (clean_name object name)
    (no_feed_append word (decimal n ++ tail) word_is (no_feed_append (decimal n) tail (clean_number n small) tail_is)))

spaced : (text : List ℕ) → IsClean text → IsClean (codes " " ++ text)
spaced text clean = no_feed_append (codes " ") text refl clean

-- each line of the grammar
pub clean_line : (l : Line) → IsLine l → IsClean (line_text l)
clean_line (Post object signal args) is = no_feed_append (codes "post ") (call_text object signal args) refl (clean_call object signal args is.0 is.1 is.2)
clean_line (Start object) is = no_feed_append (codes "start ") object refl (clean_name object is)
clean_line (Take object number firing) is =
    clean_place (codes "take ") (codes " ") object number (codes " " ++ firing_text firing) refl refl is.0 (omega (arith, is.2)) (spaced (firing_text firing) (clean_routes firing.routes is.3))
clean_line (Done object state firing) is =
    clean_place (codes "done ") (codes " v") object state.0 (codes " " ++ firing_text firing) refl refl is.0 (omega (arith, is.1)) (spaced (firing_text firing) (clean_routes firing.routes is.2))
clean_line (Exit object state outs) is = clean_place (codes "exit ") (codes " v") object state.0 (outs_text outs) refl refl is.0 (omega (arith, is.1)) (clean_outs outs is.2)
clean_line (Effect object t outs) is = clean_place (codes "effect ") (codes " t") object t.0 (outs_text outs) refl refl is.0 (omega (arith, is.1)) (clean_outs outs is.2)
clean_line (Enter object state outs) is = clean_place (codes "enter ") (codes " v") object state.0 (outs_text outs) refl refl is.0 (omega (arith, is.1)) (clean_outs outs is.2)
clean_line (Opened object r mode how) is =
    let tail = codes " " ++ how_text how in
    clean_place (codes "open ") (codes " r") object r.0 (codes " " ++ (mode_text mode ++ tail)) refl refl is.0 (omega (arith, is.1))
    (spaced (mode_text mode ++ tail) (no_feed_append (mode_text mode) tail (clean_mode mode) (spaced (how_text how) (clean_how how is.2))))
clean_line (Pick object choice route) is =
    clean_place (codes "pick ") (codes " v") object choice.0 (codes " " ++ route_text route) refl refl is.0 (omega (arith, is.1)) (spaced (route_text route) (clean_route route is.2))
clean_line (DoStep object state step outs) is =
    clean_place (codes "do ") (codes " v") object state.0 (codes " " ++ (decimal step ++ outs_text outs)) refl refl is.0 (omega (arith, is.1))
    (spaced (decimal step ++ outs_text outs) (no_feed_append (decimal step) (outs_text outs) (clean_index step is.2) (clean_outs outs is.3)))
