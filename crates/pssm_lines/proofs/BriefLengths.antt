-- A brief line is far shorter than a line may be: of a name or two and a number or two.
use Rattle.std.proofs.Common.{◌≡◌, ℕ, ◌<◌, true, leb, List, [], ◌∷◌, ◌++◌, length, Option, Some, None, refl, arith, Bor}
use Rattle.std.specs.Prelude.{IfSome, codes}
use Rattle.std.specs.Fmt.{decimal}
use Rattle.pssm_model.specs.declared.ids.TransId.{TransId}
use Rattle.pssm_spelling.specs.Spelling.{IsName}
use Rattle.pssm_lines.specs.declared.parts.BriefAct.{BriefAct}
use Rattle.pssm_lines.specs.declared.parts.BriefAct.TheVariants as acts
use Rattle.pssm_lines.specs.declared.parts.BriefParts.{BriefParts}
use Rattle.pssm_lines.specs.LineText.{line_text, args_text, call_text, firing_text}
use Rattle.pssm_lines.specs.Grammar.{IsLine}
use Rattle.pssm_lines.specs.Parts.{firing_of_one, line_of_act, brief_line}
use Rattle.pssm_lines.specs.Faults.{IsJournalLine}
use Rattle.pssm_lines.specs.inner.Lines.{StandsAt}
use Rattle.pssm_lines.proofs.Lengths.{IsShort, short_append, short_more, short_name, short_number, short_within}

short_nothing : (most : ℕ) → IsShort most []
short_nothing most = record { few = omega arith }

-- a kind, an object, a letter, and a number at the end
short_element : (kind letter object : List ℕ) (n : ℕ) → leb (length kind) 10 ≡ true → leb (length letter) 10 ≡ true → IsName object → n < 65536
    → IsShort 100 (kind ++ (object ++ (letter ++ (decimal n ++ []))))
short_element kind letter object n kind_few letter_few name small =
    short_append 10 90 kind (object ++ (letter ++ (decimal n ++ []))) (short_within 10 kind kind_few)
    (short_append 64 26 object (letter ++ (decimal n ++ [])) (short_name object name)
    (short_append 10 16 letter (decimal n ++ []) (short_within 10 letter letter_few)
    (short_append 10 6 (decimal n) [] (short_number n (omega (arith, small))) (short_nothing 6))))

short_called : (object signal : List ℕ) → IsName object → IsName signal → IsShort 138 (call_text object signal [])
short_called object signal name called =
    short_append 64 74 object (codes "." ++ (signal ++ args_text [])) (short_name object name)
    (short_append 5 69 (codes ".") (signal ++ args_text []) (short_within 5 (codes ".") refl)
    (short_append 64 5 signal (args_text []) (short_name signal called) (short_within 5 (args_text []) refl)))

short_lone : (start : TransId) → start.0 < 65536 → IsShort 20 (firing_text (firing_of_one start))
short_lone start small =
    short_append 20 0 (codes "t" ++ decimal start.0) []
    (short_append 10 10 (codes "t") (decimal start.0) (short_within 10 (codes "t") refl) (short_number start.0 (omega (arith, small)))) (short_nothing 0)

short_act : (object : List ℕ) (act : BriefAct) → IsLine (line_of_act object act) → IsShort 148 (line_text (line_of_act object act))
short_act object (acts.Post signal) h =
    short_append 10 138 (codes "post ") (call_text object signal.now []) (short_within 10 (codes "post ") refl) (short_called object signal.now h.0 h.1)
short_act object (acts.Take number start) h =
    short_append 10 138 (codes "take ") (object ++ (codes " " ++ (decimal number ++ (codes " " ++ firing_text (firing_of_one start))))) (short_within 10 (codes "take ") refl)
    (short_append 64 74 object (codes " " ++ (decimal number ++ (codes " " ++ firing_text (firing_of_one start)))) (short_name object h.0)
    (short_append 10 64 (codes " ") (decimal number ++ (codes " " ++ firing_text (firing_of_one start))) (short_within 10 (codes " ") refl)
    (short_append 10 54 (decimal number) (codes " " ++ firing_text (firing_of_one start)) (short_number number h.2)
    (short_append 34 20 (codes " ") (firing_text (firing_of_one start)) (short_within 34 (codes " ") refl) (short_lone start h.3.0.1.0)))))
short_act object (acts.Exit state) h =
    short_more 100 148 (line_text (line_of_act object (acts.Exit state))) (omega arith) (short_element (codes "exit ") (codes " v") object state.0 refl refl h.0 h.1)
short_act object (acts.Effect transition) h =
    short_more 100 148 (line_text (line_of_act object (acts.Effect transition))) (omega arith) (short_element (codes "effect ") (codes " t") object transition.0 refl refl h.0 h.1)
short_act object (acts.Enter state) h =
    short_more 100 148 (line_text (line_of_act object (acts.Enter state))) (omega arith) (short_element (codes "enter ") (codes " v") object state.0 refl refl h.0 h.1)

-- A brief line of the grammar is one that a journal may have.
pub brief_is_journal_line : (parts : BriefParts) → IsLine (brief_line parts) → IsJournalLine (brief_line parts)
brief_is_journal_line parts line = record { line = line; short = let few = (short_act parts.object.now parts.act line).few in omega (arith, few) }

-- The same of one that was read, where one was.
pub standing_journal : (bytes : List ℕ) (o : Option (BriefParts × Bor (List ℕ))) → IfSome o (λ x. StandsAt bytes (brief_line x.0) x.1.now) → IfSome o (λ x. IsJournalLine (brief_line x.0))
standing_journal bytes None at = tt
standing_journal bytes (Some x) at = brief_is_journal_line x.0 at.0

pub standing_text : (bytes : List ℕ) (o : Option (BriefParts × Bor (List ℕ))) → IfSome o (λ x. StandsAt bytes (brief_line x.0) x.1.now)
    → IfSome o (λ x. bytes ≡ line_text (brief_line x.0) ++ 10 ∷ x.1.now)
standing_text bytes None at = tt
standing_text bytes (Some x) at = at.1
