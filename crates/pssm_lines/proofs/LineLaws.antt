-- The forms of a line: what is read of a line has its text, and the text of a line of the grammar is read.
use Rattle.std.proofs.Common.{◌≡◌, ℕ, ◌<◌, Bool, true, false, cond, eqb, List, [], ◌∷◌, ◌++◌, get_or, Option, Some, None, ℤ, Result, Ok, Err, Bor, refl, sym, ap, subst, ◌∙◌, append_assoc, inl, inr, ◌⊎◌}
use Rattle.std.specs.Prelude.{codes, IfOk, IfSome, IfNone}
use Rattle.std.specs.Option.{option_map, option_map_or}
use Rattle.std.specs.Fmt.{decimal}
use Rattle.pssm_model.specs.declared.steps.Route.{Route}
use Rattle.pssm_model.specs.declared.steps.Firing.{Firing}
use Rattle.pssm_model.specs.declared.steps.Mode.{Mode}
use Rattle.pssm_model.specs.declared.steps.How.{How}
use Rattle.pssm_semantics.specs.declared.line.Line.{Line}
use Rattle.pssm_semantics.specs.declared.line.Line.TheVariants as lines
use Rattle.pssm_semantics.specs.declared.line.LineOut.{LineOut}
use Rattle.pssm_spelling.specs.Spelling.{IsName}
use Rattle.pssm_spelling.specs.SpellingReading.{is_digit, EndsRun, stripped, index_taken}
use Rattle.pssm_spelling.proofs.SpellingLaws.{stripped_takes, stripped_again}
use Rattle.pssm_lines.specs.declared.parts.LineParts.{LineParts}
use Rattle.pssm_lines.specs.declared.parts.LineParts.TheVariants as parts
use Rattle.pssm_lines.specs.Parts.{Shows}
use Rattle.pssm_lines.specs.inner.Lines.{BeginsNoLine}
use Rattle.pssm_lines.specs.LineText.{line_text, args_text, firing_text, route_text, outs_text, mode_text, how_text}
use Rattle.pssm_lines.specs.Grammar.{IsLine, IsIndex, AreArgs, AreSpelledOuts, IsSpelledFiring, IsSpelledHow, IsSpelledRoute}
use Rattle.pssm_lines.specs.inner.LineReading.{◌>>=◌, Reader, Shown, Post, Start, Take, Done, Exit, Effect, Enter, Opened, Pick, DoStep, shown, shown_of, ended, vertex, region, transition, args_taken, outs_span_taken, firing_taken, route_taken, opened_taken, how_taken, post_taken, start_taken, take_taken, done_taken, exit_taken, effect_taken, enter_taken, open_taken, pick_taken, do_taken, item_taken, post_or_pick_taken, done_or_do_taken, other_taken, line_taken}
use Rattle.pssm_lines.proofs.Readers.{chosen, got, same_got, word_takes, word_again, step_takes, step_again}
use Rattle.pssm_lines.proofs.PieceLaws.{name_reads, index_reads, args_reads, called_text, called_reads, outs_span_reads}
use Rattle.pssm_lines.proofs.RouteLaws.{EndsFiring, EndsRoute, route_reads, firing_reads, opened_reads, how_reads, place_text, place_reads, turn_text, turn_reads}

-- ---- the end of a line

ended_takes : {A : Type 0} (x : A) (bytes : List ℕ) (y : A) (rest : List ℕ) → ended x bytes ≡ got y rest → (bytes ≡ 10 ∷ rest) × (x ≡ y)
ended_takes {A = A} x bytes y rest e = by_cases (stripped (codes "\n") bytes) refl e where
  by_cases : (o : Option (List ℕ)) → stripped (codes "\n") bytes ≡ o → option_map (λ r. (x, r)) o ≡ got y rest → (bytes ≡ 10 ∷ rest) × (x ≡ y)
  by_cases None is h = absurd cc
  by_cases (Some r) is h =
      let both = same_got x y r rest h in
      (stripped_takes (codes "\n") bytes r is ∙ ap (λ (t : List ℕ). 10 ∷ t) both.1, both.0)

ended_again : {A : Type 0} (x : A) (rest : List ℕ) → ended x (10 ∷ rest) ≡ got x rest
ended_again x rest = ap (λ o. option_map (λ r. (x, r)) o) (stripped_again (codes "\n") rest)

ends_route : (rest : List ℕ) → EndsRoute (10 ∷ rest)
ends_route rest = record { digits = refl; starts = refl; others = refl }

ends_firing : (rest : List ℕ) → EndsFiring (10 ∷ rest)
ends_firing rest = record { route = ends_route rest; routes = refl }

-- ---- what is read

-- The bytes are a line of the grammar, its line feed and the rest, and it is shown so.
pub record IsLineAt (bytes : List ℕ) (s : Shown) (rest : List ℕ) : Type 0 where
  pub line : Line
  pub is_line : IsLine line
  pub parts : bytes ≡ line_text line ++ 10 ∷ rest
  pub shown : s ≡ shown_of line

post_takes : (bytes : List ℕ) (s : Shown) (rest : List ℕ) → post_taken bytes ≡ got s rest → IsLineAt (codes "post " ++ bytes) s rest
unfolding post_taken
post_takes bytes s rest e =
    let called = step_takes called_reads bytes _ (s, rest) e in
    let args = step_takes args_reads called.rest _ (s, rest) called.more in
    let end = ended_takes (Post called.value.0 called.value.1 args.value) args.rest s rest args.more in
    record {
      line = lines.Post called.value.0 called.value.1 args.value;
      is_line = (called.is.0, called.is.1, args.is);
      parts = ap (λ (t : List ℕ). codes "post " ++ t) (called.parts ∙ ap (λ (t : List ℕ). called_text called.value ++ t) (args.parts ∙ ap (λ (t : List ℕ). args_text args.value ++ t) end.0) ∙ simp append_assoc);
      shown = sym end.1;
    }

start_takes : (bytes : List ℕ) (s : Shown) (rest : List ℕ) → start_taken bytes ≡ got s rest → IsLineAt (codes "start " ++ bytes) s rest
unfolding start_taken
start_takes bytes s rest e =
    let object = step_takes name_reads bytes _ (s, rest) e in
    let end = ended_takes (Start object.value) object.rest s rest object.more in
    record {
      line = lines.Start object.value;
      is_line = object.is;
      parts = ap (λ (t : List ℕ). codes "start " ++ t) (object.parts ∙ ap (λ (t : List ℕ). object.value ++ t) end.0);
      shown = sym end.1;
    }

take_takes : (bytes : List ℕ) (s : Shown) (rest : List ℕ) → take_taken bytes ≡ got s rest → IsLineAt (codes "take " ++ bytes) s rest
unfolding take_taken
take_takes bytes s rest e =
    let turn = step_takes turn_reads bytes _ (s, rest) e in
    let space = word_takes (codes " ") turn.rest _ (s, rest) turn.more in
    let firing = step_takes firing_reads space.rest _ (s, rest) space.more in
    let end = ended_takes (Take turn.value.0 turn.value.1 firing.value) firing.rest s rest firing.more in
    record {
      line = lines.Take turn.value.0 turn.value.1 firing.value;
      is_line = (turn.is.0, turn.is.1, turn.is.2, firing.is);
      parts = ap (λ (t : List ℕ). codes "take " ++ t) (turn.parts ∙ ap (λ (t : List ℕ). turn_text turn.value ++ t) (space.parts ∙ ap (λ (t : List ℕ). codes " " ++ t) (firing.parts ∙ ap (λ (t : List ℕ). firing_text firing.value ++ t) end.0)) ∙ simp append_assoc);
      shown = sym end.1;
    }

done_takes : (bytes : List ℕ) (s : Shown) (rest : List ℕ) → done_taken bytes ≡ got s rest → IsLineAt (codes "done " ++ bytes) s rest
unfolding done_taken
done_takes bytes s rest e =
    let place = step_takes (place_reads (codes " v") (λ more. refl)) bytes _ (s, rest) e in
    let space = word_takes (codes " ") place.rest _ (s, rest) place.more in
    let firing = step_takes firing_reads space.rest _ (s, rest) space.more in
    let end = ended_takes (Done place.value.0 (vertex place.value.1) firing.value) firing.rest s rest firing.more in
    record {
      line = lines.Done place.value.0 (vertex place.value.1) firing.value;
      is_line = (place.is.0, place.is.1, firing.is);
      parts = ap (λ (t : List ℕ). codes "done " ++ t) (place.parts ∙ ap (λ (t : List ℕ). place_text (codes " v") place.value ++ t) (space.parts ∙ ap (λ (t : List ℕ). codes " " ++ t) (firing.parts ∙ ap (λ (t : List ℕ). firing_text firing.value ++ t) end.0)) ∙ simp append_assoc);
      shown = sym end.1;
    }

exit_takes : (bytes : List ℕ) (s : Shown) (rest : List ℕ) → exit_taken bytes ≡ got s rest → IsLineAt (codes "exit " ++ bytes) s rest
unfolding exit_taken
exit_takes bytes s rest e =
    let place = step_takes (place_reads (codes " v") (λ more. refl)) bytes _ (s, rest) e in
    let outs = step_takes outs_span_reads place.rest _ (s, rest) place.more in
    let end = ended_takes (Exit place.value.0 (vertex place.value.1) outs.value) outs.rest s rest outs.more in
    let text : outs.value ≡ outs_text outs.is.0 = outs.is.2 in
    record {
      line = lines.Exit place.value.0 (vertex place.value.1) outs.is.0;
      is_line = (place.is.0, place.is.1, outs.is.1);
      parts = ap (λ (t : List ℕ). codes "exit " ++ t) (place.parts ∙ ap (λ (t : List ℕ). place_text (codes " v") place.value ++ t) (outs.parts ∙ ap (λ (t : List ℕ). outs.value ++ t) end.0 ∙ ap (λ (t : List ℕ). t ++ 10 ∷ rest) text) ∙ simp append_assoc);
      shown = sym end.1 ∙ ap (λ (t : List ℕ). Exit place.value.0 (vertex place.value.1) t) text;
    }

effect_takes : (bytes : List ℕ) (s : Shown) (rest : List ℕ) → effect_taken bytes ≡ got s rest → IsLineAt (codes "effect " ++ bytes) s rest
unfolding effect_taken
effect_takes bytes s rest e =
    let place = step_takes (place_reads (codes " t") (λ more. refl)) bytes _ (s, rest) e in
    let outs = step_takes outs_span_reads place.rest _ (s, rest) place.more in
    let end = ended_takes (Effect place.value.0 (transition place.value.1) outs.value) outs.rest s rest outs.more in
    let text : outs.value ≡ outs_text outs.is.0 = outs.is.2 in
    record {
      line = lines.Effect place.value.0 (transition place.value.1) outs.is.0;
      is_line = (place.is.0, place.is.1, outs.is.1);
      parts = ap (λ (t : List ℕ). codes "effect " ++ t) (place.parts ∙ ap (λ (t : List ℕ). place_text (codes " t") place.value ++ t) (outs.parts ∙ ap (λ (t : List ℕ). outs.value ++ t) end.0 ∙ ap (λ (t : List ℕ). t ++ 10 ∷ rest) text) ∙ simp append_assoc);
      shown = sym end.1 ∙ ap (λ (t : List ℕ). Effect place.value.0 (transition place.value.1) t) text;
    }

enter_takes : (bytes : List ℕ) (s : Shown) (rest : List ℕ) → enter_taken bytes ≡ got s rest → IsLineAt (codes "enter " ++ bytes) s rest
unfolding enter_taken
enter_takes bytes s rest e =
    let place = step_takes (place_reads (codes " v") (λ more. refl)) bytes _ (s, rest) e in
    let outs = step_takes outs_span_reads place.rest _ (s, rest) place.more in
    let end = ended_takes (Enter place.value.0 (vertex place.value.1) outs.value) outs.rest s rest outs.more in
    let text : outs.value ≡ outs_text outs.is.0 = outs.is.2 in
    record {
      line = lines.Enter place.value.0 (vertex place.value.1) outs.is.0;
      is_line = (place.is.0, place.is.1, outs.is.1);
      parts = ap (λ (t : List ℕ). codes "enter " ++ t) (place.parts ∙ ap (λ (t : List ℕ). place_text (codes " v") place.value ++ t) (outs.parts ∙ ap (λ (t : List ℕ). outs.value ++ t) end.0 ∙ ap (λ (t : List ℕ). t ++ 10 ∷ rest) text) ∙ simp append_assoc);
      shown = sym end.1 ∙ ap (λ (t : List ℕ). Enter place.value.0 (vertex place.value.1) t) text;
    }

open_takes : (bytes : List ℕ) (s : Shown) (rest : List ℕ) → open_taken bytes ≡ got s rest → IsLineAt (codes "open " ++ bytes) s rest
unfolding open_taken
open_takes bytes s rest e =
    let place = step_takes (place_reads (codes " r") (λ more. refl)) bytes _ (s, rest) e in
    let mode = step_takes opened_reads place.rest _ (s, rest) place.more in
    let how = step_takes how_reads mode.rest _ (s, rest) mode.more in
    let end = ended_takes (Opened place.value.0 (region place.value.1) mode.value how.value) how.rest s rest how.more in
    record {
      line = lines.Opened place.value.0 (region place.value.1) mode.value how.value;
      is_line = (place.is.0, place.is.1, how.is);
      parts = ap (λ (t : List ℕ). codes "open " ++ t) (place.parts ∙ ap (λ (t : List ℕ). place_text (codes " r") place.value ++ t) (mode.parts ∙ ap (λ (t : List ℕ). (codes " " ++ (mode_text mode.value ++ codes " ")) ++ t) (how.parts ∙ ap (λ (t : List ℕ). how_text how.value ++ t) end.0)) ∙ simp append_assoc);
      shown = sym end.1;
    }

pick_takes : (bytes : List ℕ) (s : Shown) (rest : List ℕ) → pick_taken bytes ≡ got s rest → IsLineAt (codes "pick " ++ bytes) s rest
unfolding pick_taken
pick_takes bytes s rest e =
    let place = step_takes (place_reads (codes " v") (λ more. refl)) bytes _ (s, rest) e in
    let space = word_takes (codes " ") place.rest _ (s, rest) place.more in
    let route = step_takes route_reads space.rest _ (s, rest) space.more in
    let end = ended_takes (Pick place.value.0 (vertex place.value.1) route.value) route.rest s rest route.more in
    record {
      line = lines.Pick place.value.0 (vertex place.value.1) route.value;
      is_line = (place.is.0, place.is.1, route.is);
      parts = ap (λ (t : List ℕ). codes "pick " ++ t) (place.parts ∙ ap (λ (t : List ℕ). place_text (codes " v") place.value ++ t) (space.parts ∙ ap (λ (t : List ℕ). codes " " ++ t) (route.parts ∙ ap (λ (t : List ℕ). route_text route.value ++ t) end.0)) ∙ simp append_assoc);
      shown = sym end.1;
    }

do_takes : (bytes : List ℕ) (s : Shown) (rest : List ℕ) → do_taken bytes ≡ got s rest → IsLineAt (codes "do " ++ bytes) s rest
unfolding do_taken
do_takes bytes s rest e =
    let place = step_takes (place_reads (codes " v") (λ more. refl)) bytes _ (s, rest) e in
    let space = word_takes (codes " ") place.rest _ (s, rest) place.more in
    let step = step_takes index_reads space.rest _ (s, rest) space.more in
    let outs = step_takes outs_span_reads step.rest _ (s, rest) step.more in
    let end = ended_takes (DoStep place.value.0 (vertex place.value.1) step.value outs.value) outs.rest s rest outs.more in
    let text : outs.value ≡ outs_text outs.is.0 = outs.is.2 in
    record {
      line = lines.DoStep place.value.0 (vertex place.value.1) step.value outs.is.0;
      is_line = (place.is.0, place.is.1, step.is, outs.is.1);
      parts = ap (λ (t : List ℕ). codes "do " ++ t) (place.parts ∙ ap (λ (t : List ℕ). place_text (codes " v") place.value ++ t) (space.parts ∙ ap (λ (t : List ℕ). codes " " ++ t) (step.parts ∙ ap (λ (t : List ℕ). decimal step.value ++ t) (outs.parts ∙ ap (λ (t : List ℕ). outs.value ++ t) end.0 ∙ ap (λ (t : List ℕ). t ++ 10 ∷ rest) text))) ∙ simp append_assoc);
      shown = sym end.1 ∙ ap (λ (t : List ℕ). DoStep place.value.0 (vertex place.value.1) step.value t) text;
    }

-- ---- the word of a line

-- the bytes behind a word are a line behind that word
behind : (word bytes more : List ℕ) (s : Shown) (rest : List ℕ) → stripped word bytes ≡ Some more → IsLineAt (word ++ more) s rest → IsLineAt bytes s rest
behind word bytes more s rest e at = subst (λ (t : List ℕ). IsLineAt t s rest) (sym (stripped_takes word bytes more e)) at

-- the reader of one word, or another
abbrev pub Takes : List ℕ → Reader Shown → Type 0
Takes word read = (bytes : List ℕ) (s : Shown) (rest : List ℕ) → read bytes ≡ got s rest → IsLineAt (word ++ bytes) s rest

worded_takes : (word : List ℕ) (read : Reader Shown) → Takes word read → (bytes : List ℕ) (other : Option (Shown × List ℕ)) (s : Shown) (rest : List ℕ) → (other ≡ got s rest → IsLineAt bytes s rest) → option_map_or read (stripped word bytes) other ≡ got s rest → IsLineAt bytes s rest
worded_takes word read takes bytes other s rest otherwise e = elim (chosen read (stripped word bytes) other (s, rest) e) [
  | inl b ↦ behind word bytes b.0 s rest b.1 (takes b.0 s rest b.2)
  | inr h ↦ otherwise h
]

no_other : (bytes : List ℕ) (s : Shown) (rest : List ℕ) → (let none : Option (Shown × List ℕ) = None in none) ≡ got s rest → IsLineAt bytes s rest
no_other bytes s rest e = absurd cc

item_takes : (bytes : List ℕ) (s : Shown) (rest : List ℕ) → item_taken bytes ≡ got s rest → IsLineAt bytes s rest
item_takes bytes s rest e =
    worded_takes (codes "effect ") effect_taken effect_takes bytes _ s rest
    (worded_takes (codes "enter ") enter_taken enter_takes bytes _ s rest
    (worded_takes (codes "exit ") exit_taken exit_takes bytes None s rest (no_other bytes s rest))) e

post_or_pick_takes : (bytes : List ℕ) (s : Shown) (rest : List ℕ) → post_or_pick_taken bytes ≡ got s rest → IsLineAt bytes s rest
post_or_pick_takes bytes s rest e =
    worded_takes (codes "post ") post_taken post_takes bytes _ s rest
    (worded_takes (codes "pick ") pick_taken pick_takes bytes None s rest (no_other bytes s rest)) e

done_or_do_takes : (bytes : List ℕ) (s : Shown) (rest : List ℕ) → done_or_do_taken bytes ≡ got s rest → IsLineAt bytes s rest
done_or_do_takes bytes s rest e =
    worded_takes (codes "done ") done_taken done_takes bytes _ s rest
    (worded_takes (codes "do ") do_taken do_takes bytes None s rest (no_other bytes s rest)) e

other_takes : (bytes : List ℕ) (s : Shown) (rest : List ℕ) → other_taken bytes ≡ got s rest → IsLineAt bytes s rest
other_takes bytes s rest e =
    worded_takes (codes "take ") take_taken take_takes bytes _ s rest
    (worded_takes (codes "open ") open_taken open_takes bytes _ s rest
    (worded_takes (codes "start ") start_taken start_takes bytes None s rest (no_other bytes s rest))) e

either : {B : Type 0} (b : Bool) (x y z : Option B) → cond b x y ≡ z → (x ≡ z) ⊎ (y ≡ z)
either true x y z e = inl e
either false x y z e = inr e

-- what is read is a line of the grammar, and the bytes are its text
pub line_takes : (bytes : List ℕ) (s : Shown) (rest : List ℕ) → line_taken bytes ≡ got s rest → IsLineAt bytes s rest
unfolding line_taken
line_takes bytes s rest e =
    let letter = get_or bytes 0 0 in
    elim (either (eqb letter 101) (item_taken bytes) _ (got s rest) e) [
      | inl h ↦ item_takes bytes s rest h
      | inr e2 ↦ elim (either (eqb letter 112) (post_or_pick_taken bytes) _ (got s rest) e2) [
        | inl h ↦ post_or_pick_takes bytes s rest h
        | inr e3 ↦ elim (either (eqb letter 100) (done_or_do_taken bytes) (other_taken bytes) (got s rest) e3) [
          | inl h ↦ done_or_do_takes bytes s rest h
          | inr h ↦ other_takes bytes s rest h
        ]
      ]
    ]

-- ---- what is spelled

post_again : (object signal : List ℕ) (args : List ℤ) (rest : List ℕ) → IsName object → IsName signal → AreArgs args → post_taken ((object ++ (codes "." ++ (signal ++ args_text args))) ++ 10 ∷ rest) ≡ got (Post object signal args) rest
unfolding post_taken
post_again object signal args rest name other are =
    let parts : (object ++ (codes "." ++ (signal ++ args_text args))) ++ 10 ∷ rest ≡ called_text (object, signal) ++ (args_text args ++ 10 ∷ rest) = simp append_assoc in
    ap post_taken parts
    ∙ step_again called_reads (object, signal) (args_text args ++ 10 ∷ rest) (λ c. args_taken c.1 >>= λ a. ended (Post c.0.0 c.0.1 a.0) a.1) (name, other) refl
    ∙ step_again args_reads args (10 ∷ rest) (λ a. ended (Post object signal a.0) a.1) are tt
    ∙ ended_again (Post object signal args) rest

start_again : (object rest : List ℕ) → IsName object → start_taken (object ++ 10 ∷ rest) ≡ got (Start object) rest
unfolding start_taken
start_again object rest name =
    step_again name_reads object (10 ∷ rest) (λ o. ended (Start o.0) o.1) name refl
    ∙ ended_again (Start object) rest

take_again : (object : List ℕ) (number : ℕ) (firing : Firing) (rest : List ℕ) → IsName object → 0 < number → number < 4294967296 → IsSpelledFiring firing → take_taken ((object ++ (codes " " ++ (decimal number ++ (codes " " ++ firing_text firing)))) ++ 10 ∷ rest) ≡ got (Take object number firing) rest
unfolding take_taken
take_again object number firing rest name some small are =
    let tail = codes " " ++ (firing_text firing ++ 10 ∷ rest) in
    let parts : (object ++ (codes " " ++ (decimal number ++ (codes " " ++ firing_text firing)))) ++ 10 ∷ rest ≡ turn_text (object, number) ++ tail = simp append_assoc in
    ap take_taken parts
    ∙ step_again turn_reads (object, number) tail (λ t. stripped (codes " ") t.1 >>= λ space. firing_taken space >>= λ f. ended (Take t.0.0 t.0.1 f.0) f.1) (name, some, small) refl
    ∙ word_again (codes " ") (firing_text firing ++ 10 ∷ rest) (λ space. firing_taken space >>= λ f. ended (Take object number f.0) f.1)
    ∙ step_again firing_reads firing (10 ∷ rest) (λ f. ended (Take object number f.0) f.1) are (ends_firing rest)
    ∙ ended_again (Take object number firing) rest

done_again : (object : List ℕ) (n : ℕ) (firing : Firing) (rest : List ℕ) → IsName object → IsIndex n → IsSpelledFiring firing → done_taken ((object ++ (codes " v" ++ (decimal n ++ (codes " " ++ firing_text firing)))) ++ 10 ∷ rest) ≡ got (Done object (vertex n) firing) rest
unfolding done_taken
done_again object n firing rest name small are =
    let tail = codes " " ++ (firing_text firing ++ 10 ∷ rest) in
    let parts : (object ++ (codes " v" ++ (decimal n ++ (codes " " ++ firing_text firing)))) ++ 10 ∷ rest ≡ place_text (codes " v") (object, n) ++ tail = simp append_assoc in
    ap done_taken parts
    ∙ step_again (place_reads (codes " v") (λ more. refl)) (object, n) tail (λ p. stripped (codes " ") p.1 >>= λ space. firing_taken space >>= λ f. ended (Done p.0.0 (vertex p.0.1) f.0) f.1) (name, small) refl
    ∙ word_again (codes " ") (firing_text firing ++ 10 ∷ rest) (λ space. firing_taken space >>= λ f. ended (Done object (vertex n) f.0) f.1)
    ∙ step_again firing_reads firing (10 ∷ rest) (λ f. ended (Done object (vertex n) f.0) f.1) are (ends_firing rest)
    ∙ ended_again (Done object (vertex n) firing) rest

-- outputs do not begin with a digit
outs_stop : (outs : List LineOut) (rest : List ℕ) → EndsRun is_digit (outs_text outs ++ 10 ∷ rest)
outs_stop [] rest = refl
outs_stop (x ∷ xs) rest = refl

exit_again : (object : List ℕ) (n : ℕ) (outs : List LineOut) (rest : List ℕ) → IsName object → IsIndex n → AreSpelledOuts outs → exit_taken ((object ++ (codes " v" ++ (decimal n ++ outs_text outs))) ++ 10 ∷ rest) ≡ got (Exit object (vertex n) (outs_text outs)) rest
unfolding exit_taken
exit_again object n outs rest name small are =
    let tail = outs_text outs ++ 10 ∷ rest in
    let parts : (object ++ (codes " v" ++ (decimal n ++ outs_text outs))) ++ 10 ∷ rest ≡ place_text (codes " v") (object, n) ++ tail = simp append_assoc in
    ap exit_taken parts
    ∙ step_again (place_reads (codes " v") (λ more. refl)) (object, n) tail (λ p. outs_span_taken p.1 >>= λ o. ended (Exit p.0.0 (vertex p.0.1) o.0) o.1) (name, small) (outs_stop outs rest)
    ∙ step_again outs_span_reads (outs_text outs) (10 ∷ rest) (λ o. ended (Exit object (vertex n) o.0) o.1) (outs, are, refl) refl
    ∙ ended_again (Exit object (vertex n) (outs_text outs)) rest

effect_again : (object : List ℕ) (n : ℕ) (outs : List LineOut) (rest : List ℕ) → IsName object → IsIndex n → AreSpelledOuts outs → effect_taken ((object ++ (codes " t" ++ (decimal n ++ outs_text outs))) ++ 10 ∷ rest) ≡ got (Effect object (transition n) (outs_text outs)) rest
unfolding effect_taken
effect_again object n outs rest name small are =
    let tail = outs_text outs ++ 10 ∷ rest in
    let parts : (object ++ (codes " t" ++ (decimal n ++ outs_text outs))) ++ 10 ∷ rest ≡ place_text (codes " t") (object, n) ++ tail = simp append_assoc in
    ap effect_taken parts
    ∙ step_again (place_reads (codes " t") (λ more. refl)) (object, n) tail (λ p. outs_span_taken p.1 >>= λ o. ended (Effect p.0.0 (transition p.0.1) o.0) o.1) (name, small) (outs_stop outs rest)
    ∙ step_again outs_span_reads (outs_text outs) (10 ∷ rest) (λ o. ended (Effect object (transition n) o.0) o.1) (outs, are, refl) refl
    ∙ ended_again (Effect object (transition n) (outs_text outs)) rest

enter_again : (object : List ℕ) (n : ℕ) (outs : List LineOut) (rest : List ℕ) → IsName object → IsIndex n → AreSpelledOuts outs → enter_taken ((object ++ (codes " v" ++ (decimal n ++ outs_text outs))) ++ 10 ∷ rest) ≡ got (Enter object (vertex n) (outs_text outs)) rest
unfolding enter_taken
enter_again object n outs rest name small are =
    let tail = outs_text outs ++ 10 ∷ rest in
    let parts : (object ++ (codes " v" ++ (decimal n ++ outs_text outs))) ++ 10 ∷ rest ≡ place_text (codes " v") (object, n) ++ tail = simp append_assoc in
    ap enter_taken parts
    ∙ step_again (place_reads (codes " v") (λ more. refl)) (object, n) tail (λ p. outs_span_taken p.1 >>= λ o. ended (Enter p.0.0 (vertex p.0.1) o.0) o.1) (name, small) (outs_stop outs rest)
    ∙ step_again outs_span_reads (outs_text outs) (10 ∷ rest) (λ o. ended (Enter object (vertex n) o.0) o.1) (outs, are, refl) refl
    ∙ ended_again (Enter object (vertex n) (outs_text outs)) rest

open_again : (object : List ℕ) (n : ℕ) (mode : Mode) (how : How) (rest : List ℕ) → IsName object → IsIndex n → IsSpelledHow how → open_taken ((object ++ (codes " r" ++ (decimal n ++ (codes " " ++ (mode_text mode ++ (codes " " ++ how_text how)))))) ++ 10 ∷ rest) ≡ got (Opened object (region n) mode how) rest
unfolding open_taken
open_again object n mode how rest name small is =
    let tail = how_text how ++ 10 ∷ rest in
    let middle = (codes " " ++ (mode_text mode ++ codes " ")) ++ tail in
    let parts : (object ++ (codes " r" ++ (decimal n ++ (codes " " ++ (mode_text mode ++ (codes " " ++ how_text how)))))) ++ 10 ∷ rest ≡ place_text (codes " r") (object, n) ++ middle = simp append_assoc in
    ap open_taken parts
    ∙ step_again (place_reads (codes " r") (λ more. refl)) (object, n) middle (λ p. opened_taken p.1 >>= λ m. how_taken m.1 >>= λ h. ended (Opened p.0.0 (region p.0.1) m.0 h.0) h.1) (name, small) refl
    ∙ step_again opened_reads mode tail (λ m. how_taken m.1 >>= λ h. ended (Opened object (region n) m.0 h.0) h.1) tt tt
    ∙ step_again how_reads how (10 ∷ rest) (λ h. ended (Opened object (region n) mode h.0) h.1) is (ends_route rest)
    ∙ ended_again (Opened object (region n) mode how) rest

pick_again : (object : List ℕ) (n : ℕ) (route : Route) (rest : List ℕ) → IsName object → IsIndex n → IsSpelledRoute route → pick_taken ((object ++ (codes " v" ++ (decimal n ++ (codes " " ++ route_text route)))) ++ 10 ∷ rest) ≡ got (Pick object (vertex n) route) rest
unfolding pick_taken
pick_again object n route rest name small is =
    let tail = codes " " ++ (route_text route ++ 10 ∷ rest) in
    let parts : (object ++ (codes " v" ++ (decimal n ++ (codes " " ++ route_text route)))) ++ 10 ∷ rest ≡ place_text (codes " v") (object, n) ++ tail = simp append_assoc in
    ap pick_taken parts
    ∙ step_again (place_reads (codes " v") (λ more. refl)) (object, n) tail (λ p. stripped (codes " ") p.1 >>= λ space. route_taken space >>= λ r. ended (Pick p.0.0 (vertex p.0.1) r.0) r.1) (name, small) refl
    ∙ word_again (codes " ") (route_text route ++ 10 ∷ rest) (λ space. route_taken space >>= λ r. ended (Pick object (vertex n) r.0) r.1)
    ∙ step_again route_reads route (10 ∷ rest) (λ r. ended (Pick object (vertex n) r.0) r.1) is (ends_route rest)
    ∙ ended_again (Pick object (vertex n) route) rest

do_again : (object : List ℕ) (n step : ℕ) (outs : List LineOut) (rest : List ℕ) → IsName object → IsIndex n → IsIndex step → AreSpelledOuts outs → do_taken ((object ++ (codes " v" ++ (decimal n ++ (codes " " ++ (decimal step ++ outs_text outs))))) ++ 10 ∷ rest) ≡ got (DoStep object (vertex n) step (outs_text outs)) rest
unfolding do_taken
do_again object n step outs rest name small index are =
    let tail = outs_text outs ++ 10 ∷ rest in
    let middle = codes " " ++ (decimal step ++ tail) in
    let parts : (object ++ (codes " v" ++ (decimal n ++ (codes " " ++ (decimal step ++ outs_text outs))))) ++ 10 ∷ rest ≡ place_text (codes " v") (object, n) ++ middle = simp append_assoc in
    ap do_taken parts
    ∙ step_again (place_reads (codes " v") (λ more. refl)) (object, n) middle (λ p. stripped (codes " ") p.1 >>= λ space. index_taken space >>= λ i. outs_span_taken i.1 >>= λ o. ended (DoStep p.0.0 (vertex p.0.1) i.0 o.0) o.1) (name, small) refl
    ∙ word_again (codes " ") (decimal step ++ tail) (λ space. index_taken space >>= λ i. outs_span_taken i.1 >>= λ o. ended (DoStep object (vertex n) i.0 o.0) o.1)
    ∙ step_again index_reads step tail (λ i. outs_span_taken i.1 >>= λ o. ended (DoStep object (vertex n) i.0 o.0) o.1) index (outs_stop outs rest)
    ∙ step_again outs_span_reads (outs_text outs) (10 ∷ rest) (λ o. ended (DoStep object (vertex n) step o.0) o.1) (outs, are, refl) refl
    ∙ ended_again (DoStep object (vertex n) step (outs_text outs)) rest

-- the text of a line of the grammar is read, whatever follows its line feed
pub line_again : (l : Line) (rest : List ℕ) → IsLine l → line_taken (line_text l ++ 10 ∷ rest) ≡ got (shown_of l) rest
unfolding line_taken stripped
line_again (lines.Post object signal args) rest is = post_again object signal args rest is.0 is.1 is.2
line_again (lines.Start object) rest is = start_again object rest is
line_again (lines.Take object number firing) rest is = take_again object number firing rest is.0 is.1 is.2 is.3
line_again (lines.Done object state firing) rest is = done_again object state.0 firing rest is.0 is.1 is.2
line_again (lines.Exit object state outs) rest is = exit_again object state.0 outs rest is.0 is.1 is.2
line_again (lines.Effect object t outs) rest is = effect_again object t.0 outs rest is.0 is.1 is.2
line_again (lines.Enter object state outs) rest is = enter_again object state.0 outs rest is.0 is.1 is.2
line_again (lines.Opened object r mode how) rest is = open_again object r.0 mode how rest is.0 is.1 is.2
line_again (lines.Pick object choice route) rest is = pick_again object choice.0 route rest is.0 is.1 is.2
line_again (lines.DoStep object state step outs) rest is = do_again object state.0 step outs rest is.0 is.1 is.2 is.3

-- ---- what parts show

shows_from : (p : LineParts) (l : Line) → shown p ≡ shown_of l → IsLine l → Shows p l
shows_from (parts.Post object signal args) (lines.Post object' signal' args') e is = cc
shows_from (parts.Post object signal args) l e is = absurd cc
shows_from (parts.Start object) (lines.Start object') e is = cc
shows_from (parts.Start object) l e is = absurd cc
shows_from (parts.Take object number firing) (lines.Take object' number' firing') e is = cc
shows_from (parts.Take object number firing) l e is = absurd cc
shows_from (parts.Done object state firing) (lines.Done object' state' firing') e is = cc
shows_from (parts.Done object state firing) l e is = absurd cc
shows_from (parts.Exit object state outs) (lines.Exit object' state' outs') e is = (outs', cc, cc)
shows_from (parts.Exit object state outs) l e is = absurd cc
shows_from (parts.Effect object transition outs) (lines.Effect object' transition' outs') e is = (outs', cc, cc)
shows_from (parts.Effect object transition outs) l e is = absurd cc
shows_from (parts.Enter object state outs) (lines.Enter object' state' outs') e is = (outs', cc, cc)
shows_from (parts.Enter object state outs) l e is = absurd cc
shows_from (parts.Opened object region mode how) (lines.Opened object' region' mode' how') e is = cc
shows_from (parts.Opened object region mode how) l e is = absurd cc
shows_from (parts.Pick object choice route) (lines.Pick object' choice' route') e is = cc
shows_from (parts.Pick object choice route) l e is = absurd cc
shows_from (parts.DoStep object state step outs) (lines.DoStep object' state' step' outs') e is = (outs', cc, cc)
shows_from (parts.DoStep object state step outs) l e is = absurd cc

-- a line that is read as parts is a line of the grammar, and the parts show it
pub line_found : {E : Type 0} (bytes : List ℕ) (r : Result (Option (LineParts × Bor (List ℕ))) E) → IfOk r (λ o. option_map (λ x. (shown x.0, x.1.now)) o ≡ line_taken bytes)
    → IfOk r (λ o. IfSome o (λ x. (l : Line) × IsLine l × (bytes ≡ line_text l ++ 10 ∷ x.1.now) × Shows x.0 l))
line_found bytes (Err e) h = tt
line_found bytes (Ok None) h = tt
line_found bytes (Ok (Some x)) h =
    let at = line_takes bytes (shown x.0) x.1.now (sym h) in
    (at.line, at.is_line, at.parts, shows_from x.0 at.line at.shown at.is_line)

pub line_none : {E : Type 0} (bytes : List ℕ) (r : Result (Option (LineParts × Bor (List ℕ))) E) → IfOk r (λ o. option_map (λ x. (shown x.0, x.1.now)) o ≡ line_taken bytes)
    → IfOk r (λ o. IfNone o (BeginsNoLine bytes))
line_none bytes (Err e) h = tt
line_none bytes (Ok (Some x)) h = tt
line_none bytes (Ok None) h = λ l rest is text.
    let read : line_taken bytes ≡ got (shown_of l) rest = ap line_taken text ∙ line_again l rest is in
    absurd (cc (h, read))
