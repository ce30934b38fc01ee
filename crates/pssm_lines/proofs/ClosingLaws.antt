-- What begins a line is ended by an end of a sample line.
use Rattle.std.proofs.Common.{◌≡◌, ℕ, ◌<◌, ◌≤◌, Bool, true, eqb, List, [], ◌∷◌, ◌++◌, length, drop, get_or, refl, sym, ap, subst, ◌∙◌, append_assoc, arith, length-append}
use Rattle.std.specs.Prelude.{codes, IsTrue}
use Rattle.std.specs.Fmt.{decimal}
use Rattle.std.proofs.lemmas.List.{drop_at}
use Rattle.std.proofs.lemmas.Bool.{eqb-true}
use Rattle.pssm_model.specs.declared.steps.Mode.{Mode}
use Rattle.pssm_model.specs.declared.steps.Mode.TheVariants.{Plain, Shallow, Deep}
use Rattle.pssm_model.specs.declared.steps.How.{How}
use Rattle.pssm_model.specs.declared.steps.How.TheVariants.{By, Restore, Nothing}
use Rattle.pssm_semantics.specs.declared.line.Line.{Line}
use Rattle.pssm_semantics.specs.declared.line.Line.TheVariants as lines
use Rattle.pssm_spelling.specs.Spelling.{IsName}
use Rattle.pssm_lines.specs.LineText.{line_text, route_text, mode_text, how_text}
use Rattle.pssm_lines.specs.Grammar.{IsLine, IsSpelledRoute, IsSpelledHow}
use Rattle.pssm_lines.specs.Faults.{BeginsLine}
use Rattle.pssm_lines.specs.inner.LineReading.{vertex, region, shown_of, line_taken}
use Rattle.pssm_lines.specs.inner.Lines.{IsWholeLine, IsEndedBy, are_alike, samples}
use Rattle.pssm_lines.proofs.Readers.{got, same_got}
use Rattle.pssm_lines.proofs.LineLaws.{line_again}
use Rattle.pssm_lines.proofs.Cuts.{Cut, within, beyond, cut, IsClosed, Closes, Word, closes_word, Then, closes_then}
use Rattle.pssm_lines.proofs.Samples.{closes_name}
use Rattle.pssm_lines.proofs.Texts.{TextOf}
use Rattle.pssm_lines.proofs.ClosingPieces.{word_then, text_then, number_then, IndexText, closes_index, index_text, RouteText, closes_route}
use Rattle.pssm_lines.proofs.ClosingForms.{end_line, alike_front, PostForm, post_line, closes_post, post_form, StartForm, start_line, closes_start, start_form, TakeForm, take_line, closes_take, take_form, DoneForm, done_line, closes_done, done_form, ExitForm, exit_line, closes_exit, exit_form, EffectForm, effect_line, closes_effect, effect_form, EnterForm, enter_line, closes_enter, enter_form, PickForm, pick_line, closes_pick, pick_form, DoForm, do_line, closes_do, do_form}

-- ---- openings

-- an opening up to its mode
abbrev OpenHead : Mode → List ℕ → Type 0
OpenHead mode t = Then (Word (codes "open ")) (Then IsName (Then (Word (codes " r")) (Then IndexText (Then (Word (codes " ")) (Word (mode_text mode)))))) t

abbrev head_sample : Mode → List ℕ
head_sample mode = codes "open a r1 " ++ mode_text mode

closes_head : (mode : Mode) → Closes (OpenHead mode) (head_sample mode)
closes_head mode =
    closes_then (Word (codes "open ")) (Then IsName (Then (Word (codes " r")) (Then IndexText (Then (Word (codes " ")) (Word (mode_text mode)))))) (codes "open ") (codes "a r1 " ++ mode_text mode) (closes_word (codes "open "))
    (closes_then IsName (Then (Word (codes " r")) (Then IndexText (Then (Word (codes " ")) (Word (mode_text mode))))) (codes "a") (codes " r1 " ++ mode_text mode) closes_name
    (closes_then (Word (codes " r")) (Then IndexText (Then (Word (codes " ")) (Word (mode_text mode)))) (codes " r") (codes "1 " ++ mode_text mode) (closes_word (codes " r"))
    (closes_then IndexText (Then (Word (codes " ")) (Word (mode_text mode))) (codes "1") (codes " " ++ mode_text mode) closes_index
    (closes_then (Word (codes " ")) (Word (mode_text mode)) (codes " ") (mode_text mode) (closes_word (codes " ")) (closes_word (mode_text mode))))))

-- the way of an opening, and the line feed
abbrev how_tail : How → List ℕ
how_tail how = codes " " ++ (how_text how ++ codes "\n")

abbrev HowTail : List ℕ → Type 0
HowTail t = TextOf IsSpelledHow how_tail t

open_whole : (mode : Mode) (front end : List ℕ) → OpenHead mode front → HowTail end → IsWholeLine (front ++ end)
open_whole mode front end x tail =
    let place = x.is_second.is_second in
    let n = place.is_second.is_first.number in
    let text : front ≡ codes "open " ++ (x.is_second.first ++ (codes " r" ++ (decimal n ++ (codes " " ++ mode_text mode)))) =
    word_then (codes "open ") (Then IsName (Then (Word (codes " r")) (Then IndexText (Then (Word (codes " ")) (Word (mode_text mode)))))) front x
    ∙ ap (λ (u : List ℕ). codes "open " ++ u) (x.is_second.parts ∙ ap (λ (u : List ℕ). x.is_second.first ++ u)
    (word_then (codes " r") (Then IndexText (Then (Word (codes " ")) (Word (mode_text mode)))) x.is_second.second place ∙ ap (λ (u : List ℕ). codes " r" ++ u)
    (number_then 0 65536 (Then (Word (codes " ")) (Word (mode_text mode))) place.second place.is_second ∙ ap (λ (u : List ℕ). decimal n ++ u)
    (word_then (codes " ") (Word (mode_text mode)) place.is_second.second place.is_second.is_second ∙ ap (λ (u : List ℕ). codes " " ++ u) place.is_second.is_second.is_second)))) in (
      lines.Opened x.is_second.first (region n) mode tail.value,
      (x.is_second.is_first, place.is_second.is_first.small, tail.is),
      ap (λ (u : List ℕ). u ++ end) text ∙ ap (λ (u : List ℕ). (codes "open " ++ (x.is_second.first ++ (codes " r" ++ (decimal n ++ (codes " " ++ mode_text mode))))) ++ u) tail.spelled ∙ simp append_assoc,
    )

-- the sample of a mode has a way of its own, and the other way round
abbrev way_of_mode : Mode → List ℕ
way_of_mode Plain = codes " by t1+t1,t1\n"
way_of_mode Shallow = codes " state v1\n"
way_of_mode Deep = codes " none\n"

abbrev mode_of_way : How → Mode
mode_of_way (By route) = Plain
mode_of_way (Restore state) = Shallow
mode_of_way Nothing = Deep

abbrev open_sample : Mode → List ℕ
open_sample mode = head_sample mode ++ way_of_mode mode

abbrev ByTail : List ℕ → Type 0
ByTail t = Then (Word (codes " by ")) (Then RouteText (Word (codes "\n"))) t

closes_by : Closes ByTail (codes " by t1+t1,t1\n")
closes_by = closes_then (Word (codes " by ")) (Then RouteText (Word (codes "\n"))) (codes " by ") (codes "t1+t1,t1\n") (closes_word (codes " by ")) (closes_then RouteText (Word (codes "\n")) (codes "t1+t1,t1") (codes "\n") closes_route (closes_word (codes "\n")))

by_tail : (t : List ℕ) → ByTail t → HowTail t
by_tail t x = record {
  value = By x.is_second.is_first.value;
  is = x.is_second.is_first.is;
  spelled = word_then (codes " by ") (Then RouteText (Word (codes "\n"))) t x ∙ ap (λ (u : List ℕ). codes " by " ++ u) (text_then IsSpelledRoute route_text (Word (codes "\n")) x.second x.is_second ∙ ap (λ (u : List ℕ). route_text x.is_second.is_first.value ++ u) x.is_second.is_second);
}

abbrev RestoreTail : List ℕ → Type 0
RestoreTail t = Then (Word (codes " state v")) (Then IndexText (Word (codes "\n"))) t

closes_restore : Closes RestoreTail (codes " state v1\n")
closes_restore = closes_then (Word (codes " state v")) (Then IndexText (Word (codes "\n"))) (codes " state v") (codes "1\n") (closes_word (codes " state v")) (closes_then IndexText (Word (codes "\n")) (codes "1") (codes "\n") closes_index (closes_word (codes "\n")))

restore_tail : (t : List ℕ) → RestoreTail t → HowTail t
restore_tail t x = record {
  value = Restore (vertex x.is_second.is_first.number);
  is = x.is_second.is_first.small;
  spelled = word_then (codes " state v") (Then IndexText (Word (codes "\n"))) t x ∙ ap (λ (u : List ℕ). codes " state v" ++ u) (number_then 0 65536 (Word (codes "\n")) x.second x.is_second ∙ ap (λ (u : List ℕ). decimal x.is_second.is_first.number ++ u) x.is_second.is_second);
}

none_tail : (t : List ℕ) → Word (codes " none\n") t → HowTail t
none_tail t e = record { value = Nothing; is = tt; spelled = e }

-- what begins the tail of an opening is ended by the tail of the sample of its kind
tail_closed : (how : How) → IsSpelledHow how → (front more : List ℕ) → how_tail how ≡ front ++ more → IsClosed HowTail (way_of_mode (mode_of_way how)) front
tail_closed (By route) is front more e =
    let whole : ByTail (how_tail (By route)) = record { first = codes " by "; second = route_text route ++ codes "\n"; parts = refl; is_first = refl; is_second = record { first = route_text route; second = codes "\n"; parts = refl; is_first = record { value = route; is = is; spelled = refl }; is_second = refl } } in
    let closed = closes_by.closes front more (subst ByTail e whole) in
    record { before = closed.before; end = closed.end; parts = closed.parts; whole = by_tail (front ++ closed.end) closed.whole }
tail_closed (Restore state) is front more e =
    let whole : RestoreTail (how_tail (Restore state)) = record { first = codes " state v"; second = decimal state.0 ++ codes "\n"; parts = refl; is_first = refl; is_second = record { first = decimal state.0; second = codes "\n"; parts = refl; is_first = index_text state.0 is; is_second = refl } } in
    let closed = closes_restore.closes front more (subst RestoreTail e whole) in
    record { before = closed.before; end = closed.end; parts = closed.parts; whole = restore_tail (front ++ closed.end) closed.whole }
tail_closed Nothing is front more e =
    let closed = (closes_word (codes " none\n")).closes front more (sym e) in
    record { before = closed.before; end = closed.end; parts = closed.parts; whole = none_tail (front ++ closed.end) closed.whole }

ended_by : (sample before end front : List ℕ) → sample ≡ before ++ end → IsWholeLine (front ++ end) → IsEndedBy front sample
ended_by sample before end front parts whole =
    let few : length sample ≡ length (before ++ end) = ap length parts in
    let rest : drop (length before) sample ≡ end = ap (λ (t : List ℕ). drop (length before) t) parts ∙ drop_at before end (length before) refl in
    (length before, omega (arith, few, length-append before end), subst (λ (t : List ℕ). IsWholeLine (front ++ t)) (sym rest) whole)

way_tail : (mode : Mode) → HowTail (way_of_mode mode)
way_tail Plain = by_tail (codes " by t1+t1,t1\n") closes_by.is_text
way_tail Shallow = restore_tail (codes " state v1\n") closes_restore.is_text
way_tail Deep = none_tail (codes " none\n") refl

-- the sample that ends an opening
record IsOpenEnded (front : List ℕ) : Type 0 where
  mode : Mode
  ended : IsEndedBy front (open_sample mode)

open_closed : (object : List ℕ) (n : ℕ) (mode : Mode) (how : How) → IsLine (lines.Opened object (region n) mode how) → (front more : List ℕ) → line_text (lines.Opened object (region n) mode how) ++ 10 ∷ [] ≡ front ++ more → IsOpenEnded front
open_closed object n mode how is front more e =
    let head = codes "open " ++ (object ++ (codes " r" ++ (decimal n ++ (codes " " ++ mode_text mode)))) in
    let parts : line_text (lines.Opened object (region n) mode how) ++ 10 ∷ [] ≡ head ++ how_tail how = simp append_assoc in
    by_cut head refl (cut head (how_tail how) front more (sym parts ∙ e))
  where
    by_cut : (head : List ℕ) → head ≡ codes "open " ++ (object ++ (codes " r" ++ (decimal n ++ (codes " " ++ mode_text mode)))) → Cut head (how_tail how) front more → IsOpenEnded front
    by_cut head head_is (within left head_parts more_is) =
        let whole : OpenHead mode head = record {
          first = codes "open ";
          second = object ++ (codes " r" ++ (decimal n ++ (codes " " ++ mode_text mode)));
          parts = head_is;
          is_first = refl;
          is_second = record {
            first = object;
            second = codes " r" ++ (decimal n ++ (codes " " ++ mode_text mode));
            parts = refl;
            is_first = is.0;
            is_second = record {
              first = codes " r";
              second = decimal n ++ (codes " " ++ mode_text mode);
              parts = refl;
              is_first = refl;
              is_second = record { first = decimal n; second = codes " " ++ mode_text mode; parts = refl; is_first = index_text n is.1; is_second = record { first = codes " "; second = mode_text mode; parts = refl; is_first = refl; is_second = refl } };
            };
          };
        } in
        let closed = (closes_head mode).closes front left (subst (OpenHead mode) head_parts whole) in
        record {
          mode = mode;
          ended = ended_by (open_sample mode) closed.before (closed.end ++ way_of_mode mode) front
              (ap (λ (u : List ℕ). u ++ way_of_mode mode) closed.parts ∙ append_assoc closed.before closed.end (way_of_mode mode))
              (subst IsWholeLine (append_assoc front closed.end (way_of_mode mode)) (open_whole mode (front ++ closed.end) (way_of_mode mode) closed.whole (way_tail mode)));
        }
    by_cut head head_is (beyond passed front_is tail_is) =
        let kind = mode_of_way how in
        let closed = tail_closed how is.2 passed more tail_is in
        let whole : OpenHead mode head = record {
          first = codes "open ";
          second = object ++ (codes " r" ++ (decimal n ++ (codes " " ++ mode_text mode)));
          parts = head_is;
          is_first = refl;
          is_second = record {
            first = object;
            second = codes " r" ++ (decimal n ++ (codes " " ++ mode_text mode));
            parts = refl;
            is_first = is.0;
            is_second = record {
              first = codes " r";
              second = decimal n ++ (codes " " ++ mode_text mode);
              parts = refl;
              is_first = refl;
              is_second = record { first = decimal n; second = codes " " ++ mode_text mode; parts = refl; is_first = index_text n is.1; is_second = record { first = codes " "; second = mode_text mode; parts = refl; is_first = refl; is_second = refl } };
            };
          };
        } in
        record {
          mode = kind;
          ended = ended_by (open_sample kind) (head_sample kind ++ closed.before) closed.end front
              (ap (λ (u : List ℕ). head_sample kind ++ u) closed.parts ∙ sym (append_assoc (head_sample kind) closed.before closed.end))
              (subst IsWholeLine (sym (append_assoc head passed closed.end) ∙ ap (λ (u : List ℕ). u ++ closed.end) (sym front_is)) (open_whole mode head (passed ++ closed.end) whole closed.whole));
        }

-- ---- the samples

-- the sample of this number begins as the front does, and some end of it makes a line of the front
pub record IsEndedByOne (front : List ℕ) : Type 0 where
  pub number : ℕ
  pub few : number < 12
  pub alike : are_alike front (get_or samples number []) ≡ true
  pub ended : IsEndedBy front (get_or samples number [])

-- the rest of a line behind its first letter does not matter
letter : (s : ℕ) (sample text front more : List ℕ) → s ∷ text ≡ front ++ more → are_alike front (s ∷ sample) ≡ true
letter = alike_front

open_listed : (mode : Mode) (text front more : List ℕ) → 111 ∷ text ≡ front ++ more → IsEndedBy front (open_sample mode) → IsEndedByOne front
open_listed Plain text front more e ended = record { number = 7; few = omega arith; alike = letter 111 _ text front more e; ended = ended }
open_listed Shallow text front more e ended = record { number = 8; few = omega arith; alike = letter 111 _ text front more e; ended = ended }
open_listed Deep text front more e ended = record { number = 9; few = omega arith; alike = letter 111 _ text front more e; ended = ended }

line_ended : (l : Line) → IsLine l → (front more : List ℕ) → line_text l ++ 10 ∷ [] ≡ front ++ more → IsEndedByOne front
line_ended (lines.Post object signal args) is front more e =
    record { number = 0; few = omega arith; alike = letter 112 _ _ front more e; ended = end_line PostForm (codes "post a.a(1,1)\n") closes_post post_line front more (subst PostForm e (post_form object signal args is)) }
line_ended (lines.Start object) is front more e =
    record { number = 1; few = omega arith; alike = letter 115 _ _ front more e; ended = end_line StartForm (codes "start a\n") closes_start start_line front more (subst StartForm e (start_form object is)) }
line_ended (lines.Take object number firing) is front more e =
    record { number = 2; few = omega arith; alike = letter 116 _ _ front more e; ended = end_line TakeForm (codes "take a 1 t1+t1,t1 t1+t1,t1\n") closes_take take_line front more (subst TakeForm e (take_form object number firing is)) }
line_ended (lines.Done object state firing) is front more e =
    record { number = 3; few = omega arith; alike = letter 100 _ _ front more e; ended = end_line DoneForm (codes "done a v1 t1+t1,t1 t1+t1,t1\n") closes_done done_line front more (subst DoneForm e (done_form object state.0 firing is)) }
line_ended (lines.Exit object state outs) is front more e =
    record { number = 4; few = omega arith; alike = letter 101 _ _ front more e; ended = end_line ExitForm (codes "exit a v1 >a.a(1,1)\n") closes_exit exit_line front more (subst ExitForm e (exit_form object state.0 outs is)) }
line_ended (lines.Effect object t outs) is front more e =
    record { number = 5; few = omega arith; alike = letter 101 _ _ front more e; ended = end_line EffectForm (codes "effect a t1 >a.a(1,1)\n") closes_effect effect_line front more (subst EffectForm e (effect_form object t.0 outs is)) }
line_ended (lines.Enter object state outs) is front more e =
    record { number = 6; few = omega arith; alike = letter 101 _ _ front more e; ended = end_line EnterForm (codes "enter a v1 >a.a(1,1)\n") closes_enter enter_line front more (subst EnterForm e (enter_form object state.0 outs is)) }
line_ended (lines.Pick object choice route) is front more e =
    record { number = 10; few = omega arith; alike = letter 112 _ _ front more e; ended = end_line PickForm (codes "pick a v1 t1+t1,t1\n") closes_pick pick_line front more (subst PickForm e (pick_form object choice.0 route is)) }
line_ended (lines.DoStep object state step outs) is front more e =
    record { number = 11; few = omega arith; alike = letter 100 _ _ front more e; ended = end_line DoForm (codes "do a v1 1 >a.a(1,1)\n") closes_do do_line front more (subst DoForm e (do_form object state.0 step outs is)) }
line_ended (lines.Opened object r mode how) is front more e =
    let closed = open_closed object r.0 mode how is front more e in
    open_listed closed.mode _ front more e closed.ended

-- whatever begins a line is ended by a sample
pub begun_is_ended : (front : List ℕ) → BeginsLine front → IsEndedByOne front
begun_is_ended front begun = line_ended begun.line begun.is_line front begun.more begun.parts

-- what is ended begins a line
pub ended_is_begun : (front sample : List ℕ) → IsEndedBy front sample → BeginsLine front
ended_is_begun front sample ended = record { line = ended.2.0; more = drop ended.0 sample; is_line = ended.2.1; parts = sym ended.2.2 }

-- ---- for the functions that try samples

-- A line that is read is whole exactly where nothing follows it.
pub whole_exactly : (bytes rest : List ℕ) (l : Line) (b : Bool) → IsLine l → bytes ≡ line_text l ++ 10 ∷ rest → b ≡ eqb (length rest) 0 → (IsTrue b → IsWholeLine bytes) × (IsWholeLine bytes → IsTrue b)
whole_exactly bytes [] l b is parts test = (λ yes. (l, is, parts), λ whole. test)
whole_exactly bytes (c ∷ rest) l b is parts test = (
  λ yes. absurd (let none = eqb-true (length (c ∷ rest)) 0 (sym test ∙ yes) in omega (arith, none)),
  λ whole.
      let read : line_taken bytes ≡ got (shown_of l) (c ∷ rest) = ap line_taken parts ∙ line_again l (c ∷ rest) is in
      let again : line_taken bytes ≡ got (shown_of whole.0) [] = ap line_taken whole.2 ∙ line_again whole.0 [] whole.1 in
      let both = same_got (shown_of l) (shown_of whole.0) (c ∷ rest) [] (sym read ∙ again) in
      absurd (cc both.1),
)

-- the cut of a sample that was found, or none
pub found_cut : (front sample : List ℕ) (n : ℕ) → n ≤ length sample → IsWholeLine (front ++ drop n sample) → IsEndedBy front sample
found_cut front sample n few whole = (n, few, whole)

pub no_cut : (front sample : List ℕ) (n : ℕ) → length sample < n → ((k : ℕ) → k < n → IsWholeLine (front ++ drop k sample) → ⊥) → IsEndedBy front sample → ⊥
no_cut front sample n all none ended = none ended.0 (omega (arith, ended.1)) ended.2

pub no_sample : (front : List ℕ) (n : ℕ) → 12 ≤ n → ((k : ℕ) → k < n → are_alike front (get_or samples k []) ≡ true → IsEndedBy front (get_or samples k []) → ⊥) → BeginsLine front → ⊥
no_sample front n all none begun =
    let one = begun_is_ended front begun in
    none one.number (omega (arith, one.few)) one.alike one.ended
