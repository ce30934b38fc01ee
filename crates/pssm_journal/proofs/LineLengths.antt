-- The line of an entry of a run is not longer than a line may be.
use Rattle.std.proofs.Common.{◌≡◌, ℕ, ℤ, pos, negsuc, suc, ◌+◌, ◌*◌, map, ◌<◌, ◌≤◌, true, leb, List, [], ◌∷◌, ◌++◌, length, Some, refl, sym, subst, arith, inl, inr}
use Rattle.std.specs.Prelude.{codes, FitsSigned}
use Rattle.std.specs.Int.{w64}
use Rattle.std.specs.List.{AllByRecursion, flat_map, join_with_byte, sum_by}
use Rattle.std.specs.Fmt.{decimal, signed_decimal}
use Rattle.std.proofs.lemmas.List.{length-append}
use Rattle.std.proofs.lemmas.List.Concat.{length-flat_map}
use Rattle.std.proofs.lemmas.List.Sums.{sum_by-cons}
use Rattle.std.proofs.lemmas.Fmt.{length-decimal-le}
use Rattle.std.proofs.lemmas.Option.{same_Some}
use Rattle.pssm_model.specs.declared.ids.TransId.{TransId}
use Rattle.pssm_model.specs.declared.steps.Route.{Route}
use Rattle.pssm_model.specs.declared.steps.Firing.{Firing}
use Rattle.pssm_model.specs.declared.steps.Mode.{Mode}
use Rattle.pssm_model.specs.declared.steps.Mode.TheVariants.{Plain, Shallow, Deep}
use Rattle.pssm_model.specs.declared.steps.How.{How}
use Rattle.pssm_model.specs.Legs.{transitions_of}
use Rattle.pssm_semantics.specs.declared.entry.ObjectId.{ObjectId}
use Rattle.pssm_semantics.specs.declared.entry.Entry.{Entry}
use Rattle.pssm_semantics.specs.declared.entry.Entry.TheVariants as entries
use Rattle.pssm_semantics.specs.declared.line.Line.{Line}
use Rattle.pssm_semantics.specs.declared.line.Line.TheVariants.{Post, Start, Take, Done, Exit, Effect, Enter, Opened, Pick, DoStep}
use Rattle.pssm_semantics.specs.declared.line.LineOut.{LineOut}
use Rattle.pssm_semantics.specs.declared.line.LineOut.TheVariants.{Mark, Send}
use Rattle.pssm_semantics.specs.declared.setting.Setting.{Setting}
use Rattle.pssm_semantics.proofs.Appended.{AllByRecursion-front, AllByRecursion-back}
use Rattle.pssm_semantics.specs.Forms.{IsRunRoute, IsShortFiring, IsShortRoute, IsShortWay, HasForm, IsRunEntry}
use Rattle.pssm_spelling.specs.Spelling.{IsName}
use Rattle.pssm_lines.specs.LineText.{line_text, firing_text, transition_text, route_text, routes_text, mode_text, how_text, args_text, call_text, out_text, outs_text}
use Rattle.pssm_lines.specs.Grammar.{IsLine, AreArgs, IsSpelledOut, AreSpelledOuts}
use Rattle.pssm_lines.specs.Faults.{IsJournalLine}
use Rattle.pssm_lines.proofs.Lengths.{IsShort, short_append, short_more, short_name, short_number, short_within, short_word}
use Rattle.pssm_journal.specs.Entries.{object_named, object_name, entry_at, entry_named, IsEntryOf}
use Rattle.pssm_journal.proofs.OutputCounts.{step_some}

-- ---- lists

-- each piece with a byte before it
pub joined_length : {X : Type 0} (c : ℕ) (f : X → List ℕ) (xs : List X) → length (join_with_byte c (map f xs)) ≤ sum_by (λ x. length (f x) + 1) xs
joined_length c f [] = omega arith
joined_length c f (x ∷ []) = omega (arith, sum_by-cons (λ y. length (f y) + 1) x [])
joined_length c f (x ∷ y ∷ xs) =
    let rest = joined_length c f (y ∷ xs) in
    omega (arith, rest, length-append (f x) (c ∷ join_with_byte c (map f (y ∷ xs))), sum_by-cons (λ z. length (f z) + 1) x (y ∷ xs))

-- pieces of which none is longer than five bytes, with a byte between two
joined_most : {X : Type 0} (P : X → Type 0) (f : X → List ℕ) (c : ℕ) (xs : List X) → ((x : X) → P x → length (f x) + 1 ≤ 6) → 0 < length xs
    → AllByRecursion P xs → length (join_with_byte c (map f xs)) + 1 ≤ 6 * length xs
joined_most P f c [] each some all = absurd (omega (arith, some))
joined_most P f c (x ∷ []) each some all = let first = each x all.0 in omega (arith, first)
joined_most P f c (x ∷ y ∷ xs) each some all =
    let rest = joined_most P f c (y ∷ xs) each (omega arith) all.1 in
    let first = each x all.0 in
    omega (arith, rest, first, length-append (f x) (c ∷ join_with_byte c (map f (y ∷ xs))))

-- pieces of which none is longer than this
sum_most : {X : Type 0} (P : X → Type 0) (f : X → ℕ) (most : ℕ) (xs : List X) → ((x : X) → P x → f x ≤ most) → AllByRecursion P xs → sum_by f xs ≤ length xs * most
sum_most P f most [] each all = omega arith
sum_most P f most (x ∷ xs) each all =
    let rest = sum_most P f most xs each all.1 in
    let first = each x all.0 in
    omega (arith, rest, first, sum_by-cons f x xs)

-- ---- firings

-- `t`, at most four digits and a mark
short_start : (t : TransId) → t.0 < 8192 → length (transition_text t) + 1 ≤ 6
short_start t small =
    let digits = length-decimal-le 4 t.0 (omega arith) (omega (arith, small)) (omega (arith, small)) in
    omega (arith, digits)

short_further : (t : TransId) → t.0 < 8192 → length (codes "," ++ transition_text t) ≤ 6
short_further t small = let start = short_start t small in omega (arith, start)

short_rest : (rest : List TransId) → AllByRecursion (λ t. t.0 < 8192) rest → length (flat_map (λ t. codes "," ++ transition_text t) rest) ≤ length rest * 6
short_rest rest small =
    let most = sum_most (λ (t : TransId). t.0 < 8192) (λ t. length (codes "," ++ transition_text t)) 6 rest short_further small in
    omega (arith, most, length-flat_map (λ t. codes "," ++ transition_text t) rest)

-- the starts, with a mark between two
short_starts : (starts : List TransId) → 0 < length starts → AllByRecursion (λ t. t.0 < 8192) starts
    → length (join_with_byte 43 (map transition_text starts)) + 1 ≤ 6 * length starts
short_starts starts some small = joined_most (λ (t : TransId). t.0 < 8192) transition_text 43 starts short_start some small

-- and the transitions after them
short_both : (a b : List ℕ) (j k : ℕ) → length a + 1 ≤ 6 * j → length b ≤ k * 6 → length (a ++ b) + 1 ≤ 6 * (j + k)
short_both a b j k first more = omega (arith, first, more, length-append a b)

short_parts : (starts rest : List TransId) → 0 < length starts → AllByRecursion (λ t. t.0 < 8192) (starts ++ rest)
    → length (join_with_byte 43 (map transition_text starts) ++ flat_map (λ t. codes "," ++ transition_text t) rest) + 1 ≤ 6 * length (starts ++ rest)
short_parts starts rest some small =
    subst
    (λ (n : ℕ). length (join_with_byte 43 (map transition_text starts) ++ flat_map (λ t. codes "," ++ transition_text t) rest) + 1 ≤ 6 * n)
    (sym (length-append starts rest))
    (short_both (join_with_byte 43 (map transition_text starts)) (flat_map (λ t. codes "," ++ transition_text t) rest) (length starts) (length rest)
    (short_starts starts some (AllByRecursion-front (λ (t : TransId). t.0 < 8192) starts rest small))
    (short_rest rest (AllByRecursion-back (λ (t : TransId). t.0 < 8192) starts rest small)))

short_route : (route : Route) → IsRunRoute route → length (route_text route) + 1 ≤ 6 * length (transitions_of route)
short_route route is = short_parts route.starts route.rest is.0 is.1

-- each route with a mark before it
joined_routes : (routes : List Route) → AllByRecursion IsRunRoute routes
    → sum_by (λ route. length (route_text route) + 1) routes ≤ 6 * sum_by (λ route. length (transitions_of route)) routes
joined_routes [] all = omega arith
joined_routes (r ∷ rs) all =
    let first = short_route r all.0 in
    let rest = joined_routes rs all.1 in
    omega (arith, first, rest, sum_by-cons (λ route. length (route_text route) + 1) r rs, sum_by-cons (λ route. length (transitions_of route)) r rs)

short_routes : (routes : List Route) → AllByRecursion IsRunRoute routes → sum_by (λ route. length (transitions_of route)) routes ≤ 8192
    → IsShort 49152 (routes_text routes)
short_routes [] all few = short_more 16 49152 (codes "-") (omega arith) (short_word (codes "-") refl)
short_routes (r ∷ rs) all few =
    let most = joined_routes (r ∷ rs) all in
    record { few = omega (arith, joined_length 32 route_text (r ∷ rs), most, few) }

short_firing : (firing : Firing) → IsShortFiring firing → IsShort 49152 (firing_text firing)
short_firing firing is = short_routes firing.routes is.0 is.1

-- a route by itself
short_only : (route : Route) → IsShortRoute route → IsShort 49152 (route_text route)
short_only route is = let each = short_route route is.0 in let few = is.1 in record { few = omega (arith, each, few) }

-- no way, a route by itself, or a vertex
short_way : (how : How) → IsShortWay how → IsShort 49168 (how_text how)
short_way how (inl none) =
    subst (λ h. IsShort 49168 (how_text h)) (sym none) (short_more 16 49168 (codes "none") (omega arith) (short_word (codes "none") refl))
short_way how (inr (inr back)) =
    let number = short_number back.0.0 (let small = back.2 in omega (arith, small)) in
    subst (λ h. IsShort 49168 (how_text h)) (sym back.1)
    (short_more 26 49168 (codes "state v" ++ decimal back.0.0) (omega arith)
    (short_append 16 10 (codes "state v") (decimal back.0.0) (short_word (codes "state v") refl) number))
short_way how (inr (inl one)) =
    subst (λ h. IsShort 49168 (how_text h)) (sym one.1)
    (short_append 16 49152 (codes "by ") (route_text one.0) (short_word (codes "by ") refl) (short_only one.0 one.2))

-- a mode, and a way behind it
short_mode : (mode : Mode) → IsShort 8 (mode_text mode)
short_mode Plain = short_within 8 (codes "default") refl
short_mode Shallow = short_within 8 (codes "shallow") refl
short_mode Deep = short_within 8 (codes "deep") refl

short_opening : (mode : Mode) (how : How) → IsShortWay how → IsShort 49194 (codes " " ++ (mode_text mode ++ (codes " " ++ how_text how)))
short_opening mode how short =
    short_more 49178 49194 (codes " " ++ (mode_text mode ++ (codes " " ++ how_text how))) (omega arith)
    (short_append 1 49177 (codes " ") (mode_text mode ++ (codes " " ++ how_text how)) (short_within 1 (codes " ") refl)
    (short_append 8 49169 (mode_text mode) (codes " " ++ how_text how) (short_mode mode)
    (short_append 1 49168 (codes " ") (how_text how) (short_within 1 (codes " ") refl) (short_way how short))))

-- ---- arguments and outputs

short_signed : (z : ℤ) → FitsSigned w64 z → length (signed_decimal z) ≤ 20
short_signed (pos n) fits = length-decimal-le 20 n (omega arith) (omega (arith, fits)) (omega (arith, fits))
short_signed (negsuc n) fits = let digits = length-decimal-le 19 (suc n) (omega arith) (omega (arith, fits)) (omega (arith, fits)) in omega (arith, digits)

short_args : (args : List ℤ) → AreArgs args → IsShort 200 (args_text args)
short_args args are =
    let joined = joined_length 44 signed_decimal args in
    let most = sum_most (FitsSigned w64) (λ z. length (signed_decimal z) + 1) 21 args (λ z fits. let few = short_signed z fits in omega (arith, few)) are.1 in
    let numbers : IsShort 168 (join_with_byte 44 (map signed_decimal args)) = record { few = omega (arith, joined, most, are.0) } in
    short_append 16 184 (codes "(") (join_with_byte 44 (map signed_decimal args) ++ codes ")") (short_word (codes "(") refl)
    (short_append 168 16 (join_with_byte 44 (map signed_decimal args)) (codes ")") numbers (short_word (codes ")") refl))

short_call : (object signal : List ℕ) (args : List ℤ) → IsName object → IsName signal → AreArgs args → IsShort 344 (call_text object signal args)
short_call object signal args name called are =
    short_append 64 280 object (codes "." ++ (signal ++ args_text args)) (short_name object name)
    (short_append 16 264 (codes ".") (signal ++ args_text args) (short_word (codes ".") refl)
    (short_append 64 200 signal (args_text args) (short_name signal called) (short_args args are)))

short_out : (out : LineOut) → IsSpelledOut out → IsShort 360 (out_text out)
short_out (Mark mark args) h =
    short_more 280 360 (codes "!" ++ (mark ++ args_text args)) (omega arith)
    (short_append 16 264 (codes "!") (mark ++ args_text args) (short_word (codes "!") refl) (short_append 64 200 mark (args_text args) (short_name mark h.0) (short_args args h.1)))
short_out (Send object signal args) h =
    short_append 16 344 (codes ">") (call_text object signal args) (short_word (codes ">") refl) (short_call object signal args h.0 h.1 h.2)

short_outs : (outs : List LineOut) → AreSpelledOuts outs → IsShort 24064 (outs_text outs)
short_outs outs are =
    let most = sum_most IsSpelledOut (λ out. length (codes " " ++ out_text out)) 376 outs
    (λ out spelled. (short_append 16 360 (codes " ") (out_text out) (short_word (codes " ") refl) (short_out out spelled)).few) are.1 in
    record { few = omega (arith, length-flat_map (λ out. codes " " ++ out_text out) outs, most, are.0) }

-- ---- lines

-- a kind, an object, a letter, a number, and what follows
module _ (kind letter object : List ℕ) (n : ℕ) (kind_few : leb (length kind) 16 ≡ true) (letter_few : leb (length letter) 16 ≡ true) (name : IsName object)
    (small : n < 65536) where
  short_place : (more : List ℕ) → IsShort 49194 more → IsShort 49300 (kind ++ (object ++ (letter ++ (decimal n ++ more))))
  short_place more more_short =
      short_append 16 49284 kind (object ++ (letter ++ (decimal n ++ more))) (short_word kind kind_few)
      (short_append 64 49220 object (letter ++ (decimal n ++ more)) (short_name object name)
      (short_append 16 49204 letter (decimal n ++ more) (short_word letter letter_few)
      (short_append 10 49194 (decimal n) more (short_number n (omega (arith, small))) more_short)))

  -- outputs behind a place
  short_outputs : (outs : List LineOut) → AreSpelledOuts outs → IsShort 49300 (kind ++ (object ++ (letter ++ (decimal n ++ outs_text outs))))
  short_outputs outs are = short_place (outs_text outs) (short_more 24064 49194 (outs_text outs) (omega arith) (short_outs outs are))

  -- a number and outputs behind a place
  short_step : (step : ℕ) (outs : List LineOut) → step < 65536 → AreSpelledOuts outs
      → IsShort 49300 (kind ++ (object ++ (letter ++ (decimal n ++ (codes " " ++ (decimal step ++ outs_text outs))))))
  short_step step outs below are =
      short_place (codes " " ++ (decimal step ++ outs_text outs))
      (short_more 24090 49194 (codes " " ++ (decimal step ++ outs_text outs)) (omega arith)
      (short_append 16 24074 (codes " ") (decimal step ++ outs_text outs) (short_word (codes " ") refl)
      (short_append 10 24064 (decimal step) (outs_text outs) (short_number step (omega (arith, below))) (short_outs outs are))))

  -- routes behind a place
  short_behind : (routes : List ℕ) → IsShort 49152 routes → IsShort 49300 (kind ++ (object ++ (letter ++ (decimal n ++ (codes " " ++ routes)))))
  short_behind routes few =
      short_place (codes " " ++ routes)
      (short_more 49168 49194 (codes " " ++ routes) (omega arith) (short_append 16 49152 (codes " ") routes (short_word (codes " ") refl) few))

-- a line of a form that the entries of runs write
abbrev pub IsRunLine : Line → Type 0
IsRunLine (Post object signal args) = Unit {0}
IsRunLine (Start object) = Unit {0}
IsRunLine (Take object number firing) = IsShortFiring firing
IsRunLine (Done object state firing) = IsShortFiring firing
IsRunLine (Exit object state outs) = Unit {0}
IsRunLine (Effect object transition outs) = Unit {0}
IsRunLine (Enter object state outs) = Unit {0}
IsRunLine (Opened object region mode how) = IsShortWay how
IsRunLine (Pick object choice route) = IsShortRoute route
IsRunLine (DoStep object state step outs) = Unit {0}

-- each such line of the grammar
pub short_line : (l : Line) → IsRunLine l × IsLine l → IsShort 49300 (line_text l)
short_line (Post object signal args) h =
    short_more 360 49300 (line_text (Post object signal args)) (omega arith)
    (short_append 16 344 (codes "post ") (call_text object signal args) (short_word (codes "post ") refl) (short_call object signal args h.1.0 h.1.1 h.1.2))
short_line (Start object) h =
    short_more 80 49300 (codes "start " ++ object) (omega arith) (short_append 16 64 (codes "start ") object (short_word (codes "start ") refl) (short_name object h.1))
short_line (Take object number firing) h =
    short_more 49274 49300 (line_text (Take object number firing)) (omega arith)
    (short_append 16 49258 (codes "take ") (object ++ (codes " " ++ (decimal number ++ (codes " " ++ firing_text firing)))) (short_word (codes "take ") refl)
    (short_append 64 49194 object (codes " " ++ (decimal number ++ (codes " " ++ firing_text firing))) (short_name object h.1.0)
    (short_append 16 49178 (codes " ") (decimal number ++ (codes " " ++ firing_text firing)) (short_word (codes " ") refl)
    (short_append 10 49168 (decimal number) (codes " " ++ firing_text firing) (short_number number h.1.2)
    (short_append 16 49152 (codes " ") (firing_text firing) (short_word (codes " ") refl) (short_firing firing h.0))))))
short_line (Exit object state outs) h = short_outputs (codes "exit ") (codes " v") object state.0 refl refl h.1.0 h.1.1 outs h.1.2
short_line (Effect object t outs) h = short_outputs (codes "effect ") (codes " t") object t.0 refl refl h.1.0 h.1.1 outs h.1.2
short_line (Enter object state outs) h = short_outputs (codes "enter ") (codes " v") object state.0 refl refl h.1.0 h.1.1 outs h.1.2
short_line (Opened object r mode how) h =
    short_place (codes "open ") (codes " r") object r.0 refl refl h.1.0 h.1.1 (codes " " ++ (mode_text mode ++ (codes " " ++ how_text how)))
    (short_opening mode how h.0)
short_line (Done object state firing) h =
    short_behind (codes "done ") (codes " v") object state.0 refl refl h.1.0 h.1.1 (firing_text firing) (short_firing firing h.0)
short_line (Pick object choice route) h =
    short_behind (codes "pick ") (codes " v") object choice.0 refl refl h.1.0 h.1.1 (route_text route) (short_only route h.0)
short_line (DoStep object state step outs) h =
    short_step (codes "do ") (codes " v") object state.0 refl refl h.1.0 h.1.1 step outs h.1.2 h.1.3

-- ---- the forms of lines

-- The line of such an entry has such a form.
form_at : (setting : Setting) (o : ObjectId) (line : Line) (e : Entry) → entry_at setting o line ≡ Some e → HasForm e → IsRunLine line
unfolding entry_at
form_at setting o (Post object signal args) e is form = tt
form_at setting o (Start object) e is form = tt
form_at setting o (Take object number firing) e is form = subst HasForm (sym (same_Some (entries.Take o number firing) e is)) form
form_at setting o (Done object state firing) e is form = subst HasForm (sym (same_Some (entries.Done o state firing) e is)) form
form_at setting o (Exit object state outs) e is form = tt
form_at setting o (Effect object t outs) e is form = tt
form_at setting o (Enter object state outs) e is form = tt
form_at setting o (Opened object region mode how) e is form = subst HasForm (sym (same_Some (entries.Opened o region mode how) e is)) form
form_at setting o (Pick object choice route) e is form = subst HasForm (sym (same_Some (entries.Pick o choice route) e is)) form
form_at setting o (DoStep object state step outs) e is form = tt

form_of_line : (setting : Setting) (line : Line) (e : Entry) → IsEntryOf setting line e → HasForm e → IsRunLine line
unfolding entry_named
form_of_line setting line e is form =
    let o = step_some (object_named setting (object_name line)) (λ o. entry_at setting o line) e is in
    form_at setting o.0 line e o.2 form

-- It is a line that a journal may have.
pub run_line : (setting : Setting) (e : Entry) (line : Line) → IsRunEntry e → IsEntryOf setting line e → IsLine line → IsJournalLine line
run_line setting e line run is grammar =
    let short = short_line line (form_of_line setting line e is run.form, grammar) in
    record { line = grammar; short = omega (arith, short.few) }
