-- What begins a line of one form is ended by an end of its sample.
use Rattle.std.proofs.Common.{◌≡◌, ℕ, true, List, [], ◌∷◌, ◌++◌, ℤ, length, drop, refl, sym, ap, subst, ◌∙◌, append_assoc, arith, length-append, eq-eqb}
use Rattle.std.specs.Prelude.{codes}
use Rattle.std.specs.Fmt.{decimal}
use Rattle.std.proofs.lemmas.List.{drop_at}
use Rattle.pssm_model.specs.declared.steps.Route.{Route}
use Rattle.pssm_model.specs.declared.steps.Firing.{Firing}
use Rattle.pssm_semantics.specs.declared.line.Line.TheVariants as lines
use Rattle.pssm_semantics.specs.declared.line.LineOut.{LineOut}
use Rattle.pssm_spelling.specs.Spelling.{IsName}
use Rattle.pssm_lines.specs.LineText.{line_text, args_text, route_text, firing_text, outs_text}
use Rattle.pssm_lines.specs.Grammar.{IsLine, AreSpelledOuts, IsSpelledRoute, IsSpelledFiring}
use Rattle.pssm_lines.specs.inner.LineReading.{vertex, transition}
use Rattle.pssm_lines.specs.inner.Lines.{IsWholeLine, IsEndedBy, are_alike}
use Rattle.pssm_lines.proofs.Cuts.{Closes, Word, closes_word, Then, closes_then}
use Rattle.pssm_lines.proofs.Samples.{NumberText, closes_name, closes_number}
use Rattle.pssm_lines.proofs.ClosingPieces.{word_then, text_then, number_then, IndexText, closes_index, index_text, CallText, closes_call, call_then, call_text_of, OutsText, closes_outs, RouteText, closes_route, FiringText, closes_firing}

-- ---- lines

-- what closes a text of the form closes a line
pub end_line : (Form : List ℕ → Type 0) (sample : List ℕ) → Closes Form sample → ((t : List ℕ) → Form t → IsWholeLine t) → (front more : List ℕ) → Form (front ++ more) → IsEndedBy front sample
end_line Form sample closes to front more is =
    let closed = closes.closes front more is in
    let few : length sample ≡ length (closed.before ++ closed.end) = ap length closed.parts in
    let end : drop (length closed.before) sample ≡ closed.end =
    ap (λ (t : List ℕ). drop (length closed.before) t) closed.parts ∙ drop_at closed.before closed.end (length closed.before) refl in
    (length closed.before, omega (arith, few, length-append closed.before closed.end), subst (λ (t : List ℕ). IsWholeLine (front ++ t)) (sym end) (to (front ++ closed.end) closed.whole))

-- a front of a text that begins with a byte begins with it
pub alike_front : (s : ℕ) (sample text front more : List ℕ) → s ∷ text ≡ front ++ more → are_alike front (s ∷ sample) ≡ true
alike_front s sample text [] more e = refl
alike_front s sample text (c ∷ front) more e = let head : s ≡ c = cc in eq-eqb c s (sym head)

-- the text of a call, as it stands before what follows
abbrev pub call_of : (t : List ℕ) → CallText t → List ℕ
call_of t x = x.first ++ (codes "." ++ (x.is_second.is_second.first ++ args_text x.is_second.is_second.is_second.value))

pub call_first : (R : List ℕ → Type 0) (t : List ℕ) (x : Then CallText R t) → t ≡ call_of x.first x.is_first ++ x.second
call_first R t x = x.parts ∙ ap (λ (u : List ℕ). u ++ x.second) (call_then x.first x.is_first)

abbrev pub PostForm : List ℕ → Type 0
PostForm t = Then (Word (codes "post ")) (Then CallText (Word (codes "\n"))) t

pub post_line : (t : List ℕ) → PostForm t → IsWholeLine t
post_line t x = (
  lines.Post x.is_second.is_first.first x.is_second.is_first.is_second.is_second.first x.is_second.is_first.is_second.is_second.is_second.value,
  (x.is_second.is_first.is_first, x.is_second.is_first.is_second.is_second.is_first, x.is_second.is_first.is_second.is_second.is_second.is),
  word_then (codes "post ") (Then CallText (Word (codes "\n"))) t x
      ∙ ap (λ (u : List ℕ). codes "post " ++ u) (call_first (Word (codes "\n")) x.second x.is_second
      ∙ ap (λ (u : List ℕ). call_of x.is_second.first x.is_second.is_first ++ u) x.is_second.is_second)
      ∙ simp append_assoc,
)

pub closes_post : Closes PostForm (codes "post a.a(1,1)\n")
closes_post =
    closes_then (Word (codes "post ")) (Then CallText (Word (codes "\n"))) (codes "post ") (codes "a.a(1,1)\n") (closes_word (codes "post "))
    (closes_then CallText (Word (codes "\n")) (codes "a.a(1,1)") (codes "\n") closes_call (closes_word (codes "\n")))

pub post_form : (object signal : List ℕ) (args : List ℤ) → IsLine (lines.Post object signal args) → PostForm (line_text (lines.Post object signal args) ++ 10 ∷ [])
post_form object signal args is =
    record {
      first = codes "post ";
      second = ((object ++ (codes "." ++ (signal ++ args_text args))) ++ codes "\n");
      parts = simp append_assoc;
      is_first = refl;
      is_second = record { first = (object ++ (codes "." ++ (signal ++ args_text args))); second = codes "\n"; parts = refl; is_first = call_text_of object signal args is.0 is.1 is.2; is_second = refl };
    }

abbrev pub StartForm : List ℕ → Type 0
StartForm t = Then (Word (codes "start ")) (Then IsName (Word (codes "\n"))) t

pub start_line : (t : List ℕ) → StartForm t → IsWholeLine t
start_line t x = (
  lines.Start x.is_second.first,
  x.is_second.is_first,
  word_then (codes "start ") (Then IsName (Word (codes "\n"))) t x
      ∙ ap (λ (u : List ℕ). codes "start " ++ u) (x.is_second.parts
      ∙ ap (λ (u : List ℕ). x.is_second.first ++ u) x.is_second.is_second)
      ∙ simp append_assoc,
)

pub closes_start : Closes StartForm (codes "start a\n")
closes_start =
    closes_then (Word (codes "start ")) (Then IsName (Word (codes "\n"))) (codes "start ") (codes "a\n") (closes_word (codes "start "))
    (closes_then IsName (Word (codes "\n")) (codes "a") (codes "\n") closes_name (closes_word (codes "\n")))

pub start_form : (object : List ℕ) → IsLine (lines.Start object) → StartForm (line_text (lines.Start object) ++ 10 ∷ [])
start_form object is =
    record {
      first = codes "start ";
      second = (object ++ codes "\n");
      parts = simp append_assoc;
      is_first = refl;
      is_second = record { first = object; second = codes "\n"; parts = refl; is_first = is; is_second = refl };
    }

abbrev pub TakeForm : List ℕ → Type 0
TakeForm t = Then (Word (codes "take ")) (Then IsName (Then (Word (codes " ")) (Then (NumberText 1 4294967296) (Then (Word (codes " ")) (Then FiringText (Word (codes "\n"))))))) t

pub take_line : (t : List ℕ) → TakeForm t → IsWholeLine t
take_line t x = (
  lines.Take x.is_second.first x.is_second.is_second.is_second.is_first.number x.is_second.is_second.is_second.is_second.is_second.is_first.value,
  (x.is_second.is_first, x.is_second.is_second.is_second.is_first.low, x.is_second.is_second.is_second.is_first.small, x.is_second.is_second.is_second.is_second.is_second.is_first.is),
  word_then (codes "take ") (Then IsName (Then (Word (codes " ")) (Then (NumberText 1 4294967296) (Then (Word (codes " ")) (Then FiringText (Word (codes "\n"))))))) t x
      ∙ ap (λ (u : List ℕ). codes "take " ++ u) (x.is_second.parts
      ∙ ap (λ (u : List ℕ). x.is_second.first ++ u) (word_then (codes " ") (Then (NumberText 1 4294967296) (Then (Word (codes " ")) (Then FiringText (Word (codes "\n"))))) x.is_second.second x.is_second.is_second
      ∙ ap (λ (u : List ℕ). codes " " ++ u) (number_then 1 4294967296 (Then (Word (codes " ")) (Then FiringText (Word (codes "\n")))) x.is_second.is_second.second x.is_second.is_second.is_second
      ∙ ap (λ (u : List ℕ). decimal x.is_second.is_second.is_second.is_first.number ++ u) (word_then (codes " ") (Then FiringText (Word (codes "\n"))) x.is_second.is_second.is_second.second x.is_second.is_second.is_second.is_second
      ∙ ap (λ (u : List ℕ). codes " " ++ u) (text_then IsSpelledFiring firing_text (Word (codes "\n")) x.is_second.is_second.is_second.is_second.second x.is_second.is_second.is_second.is_second.is_second
      ∙ ap (λ (u : List ℕ). firing_text x.is_second.is_second.is_second.is_second.is_second.is_first.value ++ u) x.is_second.is_second.is_second.is_second.is_second.is_second)))))
      ∙ simp append_assoc,
)

pub closes_take : Closes TakeForm (codes "take a 1 t1+t1,t1 t1+t1,t1\n")
closes_take =
    closes_then (Word (codes "take ")) (Then IsName (Then (Word (codes " ")) (Then (NumberText 1 4294967296) (Then (Word (codes " ")) (Then FiringText (Word (codes "\n"))))))) (codes "take ") (codes "a 1 t1+t1,t1 t1+t1,t1\n") (closes_word (codes "take "))
    (closes_then IsName (Then (Word (codes " ")) (Then (NumberText 1 4294967296) (Then (Word (codes " ")) (Then FiringText (Word (codes "\n")))))) (codes "a") (codes " 1 t1+t1,t1 t1+t1,t1\n") closes_name
    (closes_then (Word (codes " ")) (Then (NumberText 1 4294967296) (Then (Word (codes " ")) (Then FiringText (Word (codes "\n"))))) (codes " ") (codes "1 t1+t1,t1 t1+t1,t1\n") (closes_word (codes " "))
    (closes_then (NumberText 1 4294967296) (Then (Word (codes " ")) (Then FiringText (Word (codes "\n")))) (codes "1") (codes " t1+t1,t1 t1+t1,t1\n") (closes_number 1 4294967296 (omega arith) (omega arith) (omega arith))
    (closes_then (Word (codes " ")) (Then FiringText (Word (codes "\n"))) (codes " ") (codes "t1+t1,t1 t1+t1,t1\n") (closes_word (codes " "))
    (closes_then FiringText (Word (codes "\n")) (codes "t1+t1,t1 t1+t1,t1") (codes "\n") closes_firing (closes_word (codes "\n")))))))

pub take_form : (object : List ℕ) (number : ℕ) (firing : Firing) → IsLine (lines.Take object number firing) → TakeForm (line_text (lines.Take object number firing) ++ 10 ∷ [])
take_form object number firing is =
    record {
      first = codes "take ";
      second = (object ++ (codes " " ++ (decimal number ++ (codes " " ++ (firing_text firing ++ codes "\n")))));
      parts = simp append_assoc;
      is_first = refl;
      is_second = record {
        first = object;
        second = (codes " " ++ (decimal number ++ (codes " " ++ (firing_text firing ++ codes "\n"))));
        parts = refl;
        is_first = is.0;
        is_second = record {
          first = codes " ";
          second = (decimal number ++ (codes " " ++ (firing_text firing ++ codes "\n")));
          parts = refl;
          is_first = refl;
          is_second = record {
            first = decimal number;
            second = (codes " " ++ (firing_text firing ++ codes "\n"));
            parts = refl;
            is_first = record { number = number; low = is.1; small = is.2; spelled = refl };
            is_second = record {
              first = codes " ";
              second = (firing_text firing ++ codes "\n");
              parts = refl;
              is_first = refl;
              is_second = record { first = firing_text firing; second = codes "\n"; parts = refl; is_first = record { value = firing; is = is.3; spelled = refl }; is_second = refl };
            };
          };
        };
      };
    }

abbrev pub DoneForm : List ℕ → Type 0
DoneForm t = Then (Word (codes "done ")) (Then IsName (Then (Word (codes " v")) (Then IndexText (Then (Word (codes " ")) (Then FiringText (Word (codes "\n"))))))) t

pub done_line : (t : List ℕ) → DoneForm t → IsWholeLine t
done_line t x = (
  lines.Done x.is_second.first (vertex x.is_second.is_second.is_second.is_first.number) x.is_second.is_second.is_second.is_second.is_second.is_first.value,
  (x.is_second.is_first, x.is_second.is_second.is_second.is_first.small, x.is_second.is_second.is_second.is_second.is_second.is_first.is),
  word_then (codes "done ") (Then IsName (Then (Word (codes " v")) (Then IndexText (Then (Word (codes " ")) (Then FiringText (Word (codes "\n"))))))) t x
      ∙ ap (λ (u : List ℕ). codes "done " ++ u) (x.is_second.parts
      ∙ ap (λ (u : List ℕ). x.is_second.first ++ u) (word_then (codes " v") (Then IndexText (Then (Word (codes " ")) (Then FiringText (Word (codes "\n"))))) x.is_second.second x.is_second.is_second
      ∙ ap (λ (u : List ℕ). codes " v" ++ u) (number_then 0 65536 (Then (Word (codes " ")) (Then FiringText (Word (codes "\n")))) x.is_second.is_second.second x.is_second.is_second.is_second
      ∙ ap (λ (u : List ℕ). decimal x.is_second.is_second.is_second.is_first.number ++ u) (word_then (codes " ") (Then FiringText (Word (codes "\n"))) x.is_second.is_second.is_second.second x.is_second.is_second.is_second.is_second
      ∙ ap (λ (u : List ℕ). codes " " ++ u) (text_then IsSpelledFiring firing_text (Word (codes "\n")) x.is_second.is_second.is_second.is_second.second x.is_second.is_second.is_second.is_second.is_second
      ∙ ap (λ (u : List ℕ). firing_text x.is_second.is_second.is_second.is_second.is_second.is_first.value ++ u) x.is_second.is_second.is_second.is_second.is_second.is_second)))))
      ∙ simp append_assoc,
)

pub closes_done : Closes DoneForm (codes "done a v1 t1+t1,t1 t1+t1,t1\n")
closes_done =
    closes_then (Word (codes "done ")) (Then IsName (Then (Word (codes " v")) (Then IndexText (Then (Word (codes " ")) (Then FiringText (Word (codes "\n"))))))) (codes "done ") (codes "a v1 t1+t1,t1 t1+t1,t1\n") (closes_word (codes "done "))
    (closes_then IsName (Then (Word (codes " v")) (Then IndexText (Then (Word (codes " ")) (Then FiringText (Word (codes "\n")))))) (codes "a") (codes " v1 t1+t1,t1 t1+t1,t1\n") closes_name
    (closes_then (Word (codes " v")) (Then IndexText (Then (Word (codes " ")) (Then FiringText (Word (codes "\n"))))) (codes " v") (codes "1 t1+t1,t1 t1+t1,t1\n") (closes_word (codes " v"))
    (closes_then IndexText (Then (Word (codes " ")) (Then FiringText (Word (codes "\n")))) (codes "1") (codes " t1+t1,t1 t1+t1,t1\n") closes_index
    (closes_then (Word (codes " ")) (Then FiringText (Word (codes "\n"))) (codes " ") (codes "t1+t1,t1 t1+t1,t1\n") (closes_word (codes " "))
    (closes_then FiringText (Word (codes "\n")) (codes "t1+t1,t1 t1+t1,t1") (codes "\n") closes_firing (closes_word (codes "\n")))))))

pub done_form : (object : List ℕ) (n : ℕ) (firing : Firing) → IsLine (lines.Done object (vertex n) firing) → DoneForm (line_text (lines.Done object (vertex n) firing) ++ 10 ∷ [])
done_form object n firing is =
    record {
      first = codes "done ";
      second = (object ++ (codes " v" ++ (decimal n ++ (codes " " ++ (firing_text firing ++ codes "\n")))));
      parts = simp append_assoc;
      is_first = refl;
      is_second = record {
        first = object;
        second = (codes " v" ++ (decimal n ++ (codes " " ++ (firing_text firing ++ codes "\n"))));
        parts = refl;
        is_first = is.0;
        is_second = record {
          first = codes " v";
          second = (decimal n ++ (codes " " ++ (firing_text firing ++ codes "\n")));
          parts = refl;
          is_first = refl;
          is_second = record {
            first = decimal n;
            second = (codes " " ++ (firing_text firing ++ codes "\n"));
            parts = refl;
            is_first = index_text n is.1;
            is_second = record {
              first = codes " ";
              second = (firing_text firing ++ codes "\n");
              parts = refl;
              is_first = refl;
              is_second = record { first = firing_text firing; second = codes "\n"; parts = refl; is_first = record { value = firing; is = is.2; spelled = refl }; is_second = refl };
            };
          };
        };
      };
    }

abbrev pub ExitForm : List ℕ → Type 0
ExitForm t = Then (Word (codes "exit ")) (Then IsName (Then (Word (codes " v")) (Then IndexText (Then OutsText (Word (codes "\n")))))) t

pub exit_line : (t : List ℕ) → ExitForm t → IsWholeLine t
exit_line t x = (
  lines.Exit x.is_second.first (vertex x.is_second.is_second.is_second.is_first.number) x.is_second.is_second.is_second.is_second.is_first.value,
  (x.is_second.is_first, x.is_second.is_second.is_second.is_first.small, x.is_second.is_second.is_second.is_second.is_first.is),
  word_then (codes "exit ") (Then IsName (Then (Word (codes " v")) (Then IndexText (Then OutsText (Word (codes "\n")))))) t x
      ∙ ap (λ (u : List ℕ). codes "exit " ++ u) (x.is_second.parts
      ∙ ap (λ (u : List ℕ). x.is_second.first ++ u) (word_then (codes " v") (Then IndexText (Then OutsText (Word (codes "\n")))) x.is_second.second x.is_second.is_second
      ∙ ap (λ (u : List ℕ). codes " v" ++ u) (number_then 0 65536 (Then OutsText (Word (codes "\n"))) x.is_second.is_second.second x.is_second.is_second.is_second
      ∙ ap (λ (u : List ℕ). decimal x.is_second.is_second.is_second.is_first.number ++ u) (text_then AreSpelledOuts outs_text (Word (codes "\n")) x.is_second.is_second.is_second.second x.is_second.is_second.is_second.is_second
      ∙ ap (λ (u : List ℕ). outs_text x.is_second.is_second.is_second.is_second.is_first.value ++ u) x.is_second.is_second.is_second.is_second.is_second))))
      ∙ simp append_assoc,
)

pub closes_exit : Closes ExitForm (codes "exit a v1 >a.a(1,1)\n")
closes_exit =
    closes_then (Word (codes "exit ")) (Then IsName (Then (Word (codes " v")) (Then IndexText (Then OutsText (Word (codes "\n")))))) (codes "exit ") (codes "a v1 >a.a(1,1)\n") (closes_word (codes "exit "))
    (closes_then IsName (Then (Word (codes " v")) (Then IndexText (Then OutsText (Word (codes "\n"))))) (codes "a") (codes " v1 >a.a(1,1)\n") closes_name
    (closes_then (Word (codes " v")) (Then IndexText (Then OutsText (Word (codes "\n")))) (codes " v") (codes "1 >a.a(1,1)\n") (closes_word (codes " v"))
    (closes_then IndexText (Then OutsText (Word (codes "\n"))) (codes "1") (codes " >a.a(1,1)\n") closes_index
    (closes_then OutsText (Word (codes "\n")) (codes " >a.a(1,1)") (codes "\n") closes_outs (closes_word (codes "\n"))))))

pub exit_form : (object : List ℕ) (n : ℕ) (outs : List LineOut) → IsLine (lines.Exit object (vertex n) outs) → ExitForm (line_text (lines.Exit object (vertex n) outs) ++ 10 ∷ [])
exit_form object n outs is =
    record {
      first = codes "exit ";
      second = (object ++ (codes " v" ++ (decimal n ++ (outs_text outs ++ codes "\n"))));
      parts = simp append_assoc;
      is_first = refl;
      is_second = record {
        first = object;
        second = (codes " v" ++ (decimal n ++ (outs_text outs ++ codes "\n")));
        parts = refl;
        is_first = is.0;
        is_second = record {
          first = codes " v";
          second = (decimal n ++ (outs_text outs ++ codes "\n"));
          parts = refl;
          is_first = refl;
          is_second = record {
            first = decimal n;
            second = (outs_text outs ++ codes "\n");
            parts = refl;
            is_first = index_text n is.1;
            is_second = record { first = outs_text outs; second = codes "\n"; parts = refl; is_first = record { value = outs; is = is.2; spelled = refl }; is_second = refl };
          };
        };
      };
    }

abbrev pub EffectForm : List ℕ → Type 0
EffectForm t = Then (Word (codes "effect ")) (Then IsName (Then (Word (codes " t")) (Then IndexText (Then OutsText (Word (codes "\n")))))) t

pub effect_line : (t : List ℕ) → EffectForm t → IsWholeLine t
effect_line t x = (
  lines.Effect x.is_second.first (transition x.is_second.is_second.is_second.is_first.number) x.is_second.is_second.is_second.is_second.is_first.value,
  (x.is_second.is_first, x.is_second.is_second.is_second.is_first.small, x.is_second.is_second.is_second.is_second.is_first.is),
  word_then (codes "effect ") (Then IsName (Then (Word (codes " t")) (Then IndexText (Then OutsText (Word (codes "\n")))))) t x
      ∙ ap (λ (u : List ℕ). codes "effect " ++ u) (x.is_second.parts
      ∙ ap (λ (u : List ℕ). x.is_second.first ++ u) (word_then (codes " t") (Then IndexText (Then OutsText (Word (codes "\n")))) x.is_second.second x.is_second.is_second
      ∙ ap (λ (u : List ℕ). codes " t" ++ u) (number_then 0 65536 (Then OutsText (Word (codes "\n"))) x.is_second.is_second.second x.is_second.is_second.is_second
      ∙ ap (λ (u : List ℕ). decimal x.is_second.is_second.is_second.is_first.number ++ u) (text_then AreSpelledOuts outs_text (Word (codes "\n")) x.is_second.is_second.is_second.second x.is_second.is_second.is_second.is_second
      ∙ ap (λ (u : List ℕ). outs_text x.is_second.is_second.is_second.is_second.is_first.value ++ u) x.is_second.is_second.is_second.is_second.is_second))))
      ∙ simp append_assoc,
)

pub closes_effect : Closes EffectForm (codes "effect a t1 >a.a(1,1)\n")
closes_effect =
    closes_then (Word (codes "effect ")) (Then IsName (Then (Word (codes " t")) (Then IndexText (Then OutsText (Word (codes "\n")))))) (codes "effect ") (codes "a t1 >a.a(1,1)\n") (closes_word (codes "effect "))
    (closes_then IsName (Then (Word (codes " t")) (Then IndexText (Then OutsText (Word (codes "\n"))))) (codes "a") (codes " t1 >a.a(1,1)\n") closes_name
    (closes_then (Word (codes " t")) (Then IndexText (Then OutsText (Word (codes "\n")))) (codes " t") (codes "1 >a.a(1,1)\n") (closes_word (codes " t"))
    (closes_then IndexText (Then OutsText (Word (codes "\n"))) (codes "1") (codes " >a.a(1,1)\n") closes_index
    (closes_then OutsText (Word (codes "\n")) (codes " >a.a(1,1)") (codes "\n") closes_outs (closes_word (codes "\n"))))))

pub effect_form : (object : List ℕ) (n : ℕ) (outs : List LineOut) → IsLine (lines.Effect object (transition n) outs) → EffectForm (line_text (lines.Effect object (transition n) outs) ++ 10 ∷ [])
effect_form object n outs is =
    record {
      first = codes "effect ";
      second = (object ++ (codes " t" ++ (decimal n ++ (outs_text outs ++ codes "\n"))));
      parts = simp append_assoc;
      is_first = refl;
      is_second = record {
        first = object;
        second = (codes " t" ++ (decimal n ++ (outs_text outs ++ codes "\n")));
        parts = refl;
        is_first = is.0;
        is_second = record {
          first = codes " t";
          second = (decimal n ++ (outs_text outs ++ codes "\n"));
          parts = refl;
          is_first = refl;
          is_second = record {
            first = decimal n;
            second = (outs_text outs ++ codes "\n");
            parts = refl;
            is_first = index_text n is.1;
            is_second = record { first = outs_text outs; second = codes "\n"; parts = refl; is_first = record { value = outs; is = is.2; spelled = refl }; is_second = refl };
          };
        };
      };
    }

abbrev pub EnterForm : List ℕ → Type 0
EnterForm t = Then (Word (codes "enter ")) (Then IsName (Then (Word (codes " v")) (Then IndexText (Then OutsText (Word (codes "\n")))))) t

pub enter_line : (t : List ℕ) → EnterForm t → IsWholeLine t
enter_line t x = (
  lines.Enter x.is_second.first (vertex x.is_second.is_second.is_second.is_first.number) x.is_second.is_second.is_second.is_second.is_first.value,
  (x.is_second.is_first, x.is_second.is_second.is_second.is_first.small, x.is_second.is_second.is_second.is_second.is_first.is),
  word_then (codes "enter ") (Then IsName (Then (Word (codes " v")) (Then IndexText (Then OutsText (Word (codes "\n")))))) t x
      ∙ ap (λ (u : List ℕ). codes "enter " ++ u) (x.is_second.parts
      ∙ ap (λ (u : List ℕ). x.is_second.first ++ u) (word_then (codes " v") (Then IndexText (Then OutsText (Word (codes "\n")))) x.is_second.second x.is_second.is_second
      ∙ ap (λ (u : List ℕ). codes " v" ++ u) (number_then 0 65536 (Then OutsText (Word (codes "\n"))) x.is_second.is_second.second x.is_second.is_second.is_second
      ∙ ap (λ (u : List ℕ). decimal x.is_second.is_second.is_second.is_first.number ++ u) (text_then AreSpelledOuts outs_text (Word (codes "\n")) x.is_second.is_second.is_second.second x.is_second.is_second.is_second.is_second
      ∙ ap (λ (u : List ℕ). outs_text x.is_second.is_second.is_second.is_second.is_first.value ++ u) x.is_second.is_second.is_second.is_second.is_second))))
      ∙ simp append_assoc,
)

pub closes_enter : Closes EnterForm (codes "enter a v1 >a.a(1,1)\n")
closes_enter =
    closes_then (Word (codes "enter ")) (Then IsName (Then (Word (codes " v")) (Then IndexText (Then OutsText (Word (codes "\n")))))) (codes "enter ") (codes "a v1 >a.a(1,1)\n") (closes_word (codes "enter "))
    (closes_then IsName (Then (Word (codes " v")) (Then IndexText (Then OutsText (Word (codes "\n"))))) (codes "a") (codes " v1 >a.a(1,1)\n") closes_name
    (closes_then (Word (codes " v")) (Then IndexText (Then OutsText (Word (codes "\n")))) (codes " v") (codes "1 >a.a(1,1)\n") (closes_word (codes " v"))
    (closes_then IndexText (Then OutsText (Word (codes "\n"))) (codes "1") (codes " >a.a(1,1)\n") closes_index
    (closes_then OutsText (Word (codes "\n")) (codes " >a.a(1,1)") (codes "\n") closes_outs (closes_word (codes "\n"))))))

pub enter_form : (object : List ℕ) (n : ℕ) (outs : List LineOut) → IsLine (lines.Enter object (vertex n) outs) → EnterForm (line_text (lines.Enter object (vertex n) outs) ++ 10 ∷ [])
enter_form object n outs is =
    record {
      first = codes "enter ";
      second = (object ++ (codes " v" ++ (decimal n ++ (outs_text outs ++ codes "\n"))));
      parts = simp append_assoc;
      is_first = refl;
      is_second = record {
        first = object;
        second = (codes " v" ++ (decimal n ++ (outs_text outs ++ codes "\n")));
        parts = refl;
        is_first = is.0;
        is_second = record {
          first = codes " v";
          second = (decimal n ++ (outs_text outs ++ codes "\n"));
          parts = refl;
          is_first = refl;
          is_second = record {
            first = decimal n;
            second = (outs_text outs ++ codes "\n");
            parts = refl;
            is_first = index_text n is.1;
            is_second = record { first = outs_text outs; second = codes "\n"; parts = refl; is_first = record { value = outs; is = is.2; spelled = refl }; is_second = refl };
          };
        };
      };
    }

abbrev pub PickForm : List ℕ → Type 0
PickForm t = Then (Word (codes "pick ")) (Then IsName (Then (Word (codes " v")) (Then IndexText (Then (Word (codes " ")) (Then RouteText (Word (codes "\n"))))))) t

pub pick_line : (t : List ℕ) → PickForm t → IsWholeLine t
pick_line t x = (
  lines.Pick x.is_second.first (vertex x.is_second.is_second.is_second.is_first.number) x.is_second.is_second.is_second.is_second.is_second.is_first.value,
  (x.is_second.is_first, x.is_second.is_second.is_second.is_first.small, x.is_second.is_second.is_second.is_second.is_second.is_first.is),
  word_then (codes "pick ") (Then IsName (Then (Word (codes " v")) (Then IndexText (Then (Word (codes " ")) (Then RouteText (Word (codes "\n"))))))) t x
      ∙ ap (λ (u : List ℕ). codes "pick " ++ u) (x.is_second.parts
      ∙ ap (λ (u : List ℕ). x.is_second.first ++ u) (word_then (codes " v") (Then IndexText (Then (Word (codes " ")) (Then RouteText (Word (codes "\n"))))) x.is_second.second x.is_second.is_second
      ∙ ap (λ (u : List ℕ). codes " v" ++ u) (number_then 0 65536 (Then (Word (codes " ")) (Then RouteText (Word (codes "\n")))) x.is_second.is_second.second x.is_second.is_second.is_second
      ∙ ap (λ (u : List ℕ). decimal x.is_second.is_second.is_second.is_first.number ++ u) (word_then (codes " ") (Then RouteText (Word (codes "\n"))) x.is_second.is_second.is_second.second x.is_second.is_second.is_second.is_second
      ∙ ap (λ (u : List ℕ). codes " " ++ u) (text_then IsSpelledRoute route_text (Word (codes "\n")) x.is_second.is_second.is_second.is_second.second x.is_second.is_second.is_second.is_second.is_second
      ∙ ap (λ (u : List ℕ). route_text x.is_second.is_second.is_second.is_second.is_second.is_first.value ++ u) x.is_second.is_second.is_second.is_second.is_second.is_second)))))
      ∙ simp append_assoc,
)

pub closes_pick : Closes PickForm (codes "pick a v1 t1+t1,t1\n")
closes_pick =
    closes_then (Word (codes "pick ")) (Then IsName (Then (Word (codes " v")) (Then IndexText (Then (Word (codes " ")) (Then RouteText (Word (codes "\n"))))))) (codes "pick ") (codes "a v1 t1+t1,t1\n") (closes_word (codes "pick "))
    (closes_then IsName (Then (Word (codes " v")) (Then IndexText (Then (Word (codes " ")) (Then RouteText (Word (codes "\n")))))) (codes "a") (codes " v1 t1+t1,t1\n") closes_name
    (closes_then (Word (codes " v")) (Then IndexText (Then (Word (codes " ")) (Then RouteText (Word (codes "\n"))))) (codes " v") (codes "1 t1+t1,t1\n") (closes_word (codes " v"))
    (closes_then IndexText (Then (Word (codes " ")) (Then RouteText (Word (codes "\n")))) (codes "1") (codes " t1+t1,t1\n") closes_index
    (closes_then (Word (codes " ")) (Then RouteText (Word (codes "\n"))) (codes " ") (codes "t1+t1,t1\n") (closes_word (codes " "))
    (closes_then RouteText (Word (codes "\n")) (codes "t1+t1,t1") (codes "\n") closes_route (closes_word (codes "\n")))))))

pub pick_form : (object : List ℕ) (n : ℕ) (route : Route) → IsLine (lines.Pick object (vertex n) route) → PickForm (line_text (lines.Pick object (vertex n) route) ++ 10 ∷ [])
pick_form object n route is =
    record {
      first = codes "pick ";
      second = (object ++ (codes " v" ++ (decimal n ++ (codes " " ++ (route_text route ++ codes "\n")))));
      parts = simp append_assoc;
      is_first = refl;
      is_second = record {
        first = object;
        second = (codes " v" ++ (decimal n ++ (codes " " ++ (route_text route ++ codes "\n"))));
        parts = refl;
        is_first = is.0;
        is_second = record {
          first = codes " v";
          second = (decimal n ++ (codes " " ++ (route_text route ++ codes "\n")));
          parts = refl;
          is_first = refl;
          is_second = record {
            first = decimal n;
            second = (codes " " ++ (route_text route ++ codes "\n"));
            parts = refl;
            is_first = index_text n is.1;
            is_second = record {
              first = codes " ";
              second = (route_text route ++ codes "\n");
              parts = refl;
              is_first = refl;
              is_second = record { first = route_text route; second = codes "\n"; parts = refl; is_first = record { value = route; is = is.2; spelled = refl }; is_second = refl };
            };
          };
        };
      };
    }

abbrev pub DoForm : List ℕ → Type 0
DoForm t = Then (Word (codes "do ")) (Then IsName (Then (Word (codes " v")) (Then IndexText (Then (Word (codes " ")) (Then IndexText (Then OutsText (Word (codes "\n")))))))) t

pub do_line : (t : List ℕ) → DoForm t → IsWholeLine t
do_line t x = (
  lines.DoStep x.is_second.first (vertex x.is_second.is_second.is_second.is_first.number) x.is_second.is_second.is_second.is_second.is_second.is_first.number x.is_second.is_second.is_second.is_second.is_second.is_second.is_first.value,
  (x.is_second.is_first, x.is_second.is_second.is_second.is_first.small, x.is_second.is_second.is_second.is_second.is_second.is_first.small, x.is_second.is_second.is_second.is_second.is_second.is_second.is_first.is),
  word_then (codes "do ") (Then IsName (Then (Word (codes " v")) (Then IndexText (Then (Word (codes " ")) (Then IndexText (Then OutsText (Word (codes "\n")))))))) t x
      ∙ ap (λ (u : List ℕ). codes "do " ++ u) (x.is_second.parts
      ∙ ap (λ (u : List ℕ). x.is_second.first ++ u) (word_then (codes " v") (Then IndexText (Then (Word (codes " ")) (Then IndexText (Then OutsText (Word (codes "\n")))))) x.is_second.second x.is_second.is_second
      ∙ ap (λ (u : List ℕ). codes " v" ++ u) (number_then 0 65536 (Then (Word (codes " ")) (Then IndexText (Then OutsText (Word (codes "\n"))))) x.is_second.is_second.second x.is_second.is_second.is_second
      ∙ ap (λ (u : List ℕ). decimal x.is_second.is_second.is_second.is_first.number ++ u) (word_then (codes " ") (Then IndexText (Then OutsText (Word (codes "\n")))) x.is_second.is_second.is_second.second x.is_second.is_second.is_second.is_second
      ∙ ap (λ (u : List ℕ). codes " " ++ u) (number_then 0 65536 (Then OutsText (Word (codes "\n"))) x.is_second.is_second.is_second.is_second.second x.is_second.is_second.is_second.is_second.is_second
      ∙ ap (λ (u : List ℕ). decimal x.is_second.is_second.is_second.is_second.is_second.is_first.number ++ u) (text_then AreSpelledOuts outs_text (Word (codes "\n")) x.is_second.is_second.is_second.is_second.is_second.second x.is_second.is_second.is_second.is_second.is_second.is_second
      ∙ ap (λ (u : List ℕ). outs_text x.is_second.is_second.is_second.is_second.is_second.is_second.is_first.value ++ u) x.is_second.is_second.is_second.is_second.is_second.is_second.is_second))))))
      ∙ simp append_assoc,
)

pub closes_do : Closes DoForm (codes "do a v1 1 >a.a(1,1)\n")
closes_do =
    closes_then (Word (codes "do ")) (Then IsName (Then (Word (codes " v")) (Then IndexText (Then (Word (codes " ")) (Then IndexText (Then OutsText (Word (codes "\n")))))))) (codes "do ") (codes "a v1 1 >a.a(1,1)\n") (closes_word (codes "do "))
    (closes_then IsName (Then (Word (codes " v")) (Then IndexText (Then (Word (codes " ")) (Then IndexText (Then OutsText (Word (codes "\n"))))))) (codes "a") (codes " v1 1 >a.a(1,1)\n") closes_name
    (closes_then (Word (codes " v")) (Then IndexText (Then (Word (codes " ")) (Then IndexText (Then OutsText (Word (codes "\n")))))) (codes " v") (codes "1 1 >a.a(1,1)\n") (closes_word (codes " v"))
    (closes_then IndexText (Then (Word (codes " ")) (Then IndexText (Then OutsText (Word (codes "\n"))))) (codes "1") (codes " 1 >a.a(1,1)\n") closes_index
    (closes_then (Word (codes " ")) (Then IndexText (Then OutsText (Word (codes "\n")))) (codes " ") (codes "1 >a.a(1,1)\n") (closes_word (codes " "))
    (closes_then IndexText (Then OutsText (Word (codes "\n"))) (codes "1") (codes " >a.a(1,1)\n") closes_index
    (closes_then OutsText (Word (codes "\n")) (codes " >a.a(1,1)") (codes "\n") closes_outs (closes_word (codes "\n"))))))))

pub do_form : (object : List ℕ) (n step : ℕ) (outs : List LineOut) → IsLine (lines.DoStep object (vertex n) step outs) → DoForm (line_text (lines.DoStep object (vertex n) step outs) ++ 10 ∷ [])
do_form object n step outs is =
    record {
      first = codes "do ";
      second = (object ++ (codes " v" ++ (decimal n ++ (codes " " ++ (decimal step ++ (outs_text outs ++ codes "\n"))))));
      parts = simp append_assoc;
      is_first = refl;
      is_second = record {
        first = object;
        second = (codes " v" ++ (decimal n ++ (codes " " ++ (decimal step ++ (outs_text outs ++ codes "\n")))));
        parts = refl;
        is_first = is.0;
        is_second = record {
          first = codes " v";
          second = (decimal n ++ (codes " " ++ (decimal step ++ (outs_text outs ++ codes "\n"))));
          parts = refl;
          is_first = refl;
          is_second = record {
            first = decimal n;
            second = (codes " " ++ (decimal step ++ (outs_text outs ++ codes "\n")));
            parts = refl;
            is_first = index_text n is.1;
            is_second = record {
              first = codes " ";
              second = (decimal step ++ (outs_text outs ++ codes "\n"));
              parts = refl;
              is_first = refl;
              is_second = record {
                first = decimal step;
                second = (outs_text outs ++ codes "\n");
                parts = refl;
                is_first = index_text step is.2;
                is_second = record { first = outs_text outs; second = codes "\n"; parts = refl; is_first = record { value = outs; is = is.3; spelled = refl }; is_second = refl };
              };
            };
          };
        };
      };
    }
