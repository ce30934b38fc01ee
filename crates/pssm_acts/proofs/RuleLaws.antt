-- A token that fits breaks no rule, a token breaks one at most, and a text has one fault at most.
use Rattle.std.proofs.Common.{◌≡◌, ◌≤◌, ◌<◌, ℕ, List, [], ◌∷◌, ◌++◌, length, Option, Some, None, refl, sym, ap, ◌∙◌, subst, append_assoc, arith, length-append}
use Rattle.std.proofs.lemmas.List.{append-nil}
use Rattle.std.proofs.lemmas.List.Sums.{fold-append}
use Rattle.std.specs.List.{fold}
use Rattle.pssm_acts.specs.declared.act_fault.ActFault.{ActFault}
use Rattle.pssm_acts.specs.declared.act_fault.ActFault.TheVariants.{Syntax, UnknownName, WideNumber, Arity, TooLong, NoMemory}
use Rattle.pssm_semantics.specs.declared.setting.Names.{Names}
use Rattle.pssm_acts.specs.declared.token.Kind.{Kind}
use Rattle.pssm_acts.specs.declared.token.Kind.TheVariants as kinds
use Rattle.pssm_semantics.specs.declared.tree.Expr.{Expr}
use Rattle.pssm_acts.specs.ActGrammar.{SpellsArguments, none, some}
use Rattle.pssm_acts.specs.Shapes.{Begins}
use Rattle.pssm_acts.specs.TextFaults.{Place, Statement, Receiver, Signal, Mark, Operand, place, IsUnknown, IsOpening, BeginsStatement, steps_ended, Breaks, unknown, wide, sent, marked, level, statement, step, Obeys, TextFault, long, misplaced, broken, early}
use Rattle.pssm_acts.specs.Tokens.{Token, tokens_of}
use Rattle.pssm_acts.proofs.Fares.{IsOther}
use Rattle.pssm_acts.proofs.ShapeLaws.{begins_shorter}
use Rattle.pssm_acts.proofs.Tallies.{Tally, tally, Fits, Exceeds, IsFaultOf}
use Rattle.pssm_acts.proofs.Tallies as tallies

-- ---- lists

-- two ways to cut one list: the same, or the one cuts before the other
pub data Cuts (us : List Token) (t : Token) (vs : List Token) (u : Token) : Type 0 where
  same : us ≡ vs → t ≡ u → Cuts us t vs u
  first : (rest : List Token) → vs ≡ us ++ t ∷ rest → Cuts us t vs u
  later : (rest : List Token) → us ≡ vs ++ u ∷ rest → Cuts us t vs u

pub cuts : (us vs ts ws : List Token) (t u : Token) → us ++ t ∷ ts ≡ vs ++ u ∷ ws → Cuts us t vs u
cuts [] [] ts ws t u e = same refl (let e' : t ∷ ts ≡ u ∷ ws = e in cc)
cuts [] (v ∷ vs) ts ws t u e = first vs (let e' : t ∷ ts ≡ v ∷ (vs ++ u ∷ ws) = e in let head : t ≡ v = cc in ap (λ x. x ∷ vs) (sym head))
cuts (x ∷ us) [] ts ws t u e = later us (let e' : x ∷ (us ++ t ∷ ts) ≡ u ∷ ws = e in let head : x ≡ u = cc in ap (λ y. y ∷ us) head)
cuts (x ∷ us) (v ∷ vs) ts ws t u e =
    let e' : x ∷ (us ++ t ∷ ts) ≡ v ∷ (vs ++ u ∷ ws) = e in
    let head : x ≡ v = cc in
    let tail : us ++ t ∷ ts ≡ vs ++ u ∷ ws = cc in
    go (cuts us vs ts ws t u tail) head where
      go : Cuts us t vs u → x ≡ v → Cuts (x ∷ us) t (v ∷ vs) u
      go (same e d) head = same (ap (λ y. y ∷ us) head ∙ ap (λ y. v ∷ y) e) d
      go (first rest e) head = first rest (ap (λ y. y ∷ vs) (sym head) ∙ ap (λ y. x ∷ y) e)
      go (later rest e) head = later rest (ap (λ y. y ∷ us) head ∙ ap (λ y. v ∷ y) e)

-- the last of two equal lists
last_same : (us vs : List Token) (t u : Token) → us ++ t ∷ [] ≡ vs ++ u ∷ [] → t ≡ u
last_same us vs t u e =
    let ends = sym (fold-append (λ (x : Option Token) (y : Token). Some y) None us (t ∷ [])) ∙ ap (λ x. fold (λ (z : Option Token) (y : Token). Some y) None x) e ∙ fold-append (λ (x : Option Token) (y : Token). Some y) None vs (u ∷ []) in
    cc

-- One token more breaks nothing where it breaks nothing itself.
pub obeys_more : (names : Names) (ts : List Token) (t : Token) → Obeys names ts → ((fault : ActFault) → Breaks names ts t fault → ⊥) → Obeys names (ts ++ t ∷ [])
obeys_more names ts t earlier here before after u fault e breaks = go (cuts ts before [] after t u e) where
  go : Cuts ts t before u → ⊥
  go (same is is') = here fault (subst (λ x. Breaks names ts x fault) (sym is') (subst (λ x. Breaks names x u fault) (sym is) breaks))
  go (first rest is) = let much = ap length (e ∙ ap (λ x. x ++ u ∷ after) is) in omega (arith, much, length-append ts (t ∷ []), length-append (ts ++ t ∷ rest) (u ∷ after), length-append ts (t ∷ rest))
  go (later rest is) = earlier before rest u fault is breaks

pub obeys_none : (names : Names) → Obeys names []
obeys_none names [] after t fault e breaks = absurd cc
obeys_none names (u ∷ before) after t fault e breaks = absurd cc

-- Those before others obey where all do.
pub obeys_shorter : (names : Names) (ts us : List Token) → Obeys names (ts ++ us) → Obeys names ts
obeys_shorter names ts us all before after t fault e breaks = all before (after ++ us) t fault (ap (λ x. x ++ us) e ∙ append_assoc before (t ∷ after) us) breaks

-- ---- a token that fits

opening_fits : (names : Names) (word : List ℕ) (c : Tally) (kind : Kind) → IsOpening kind → Fits kind names word c → c.levels < 16
opening_fits names word c kinds.Open opens fits = fits
opening_fits names word c kinds.OpenBracket opens fits = fits
opening_fits names word c kinds.OpenBrace opens fits = fits
opening_fits names word c kind opens fits = absurd opens

name_fits : (names : Names) (word : List ℕ) (p : Place) (begun : ℕ) → BeginsStatement kinds.Name p names word → (p ≡ Statement → begun < 64) → begun < 64
name_fits names word Statement begun begins few = few refl
name_fits names word Receiver begun begins few = absurd begins
name_fits names word Signal begun begins few = absurd begins
name_fits names word Mark begun begins few = absurd begins
name_fits names word Operand begun begins few = absurd begins

statement_fits : (names : Names) (word : List ℕ) (c : Tally) (kind : Kind) → BeginsStatement kind c.place names word → Fits kind names word c → c.begun < 64
statement_fits names word c kinds.If begins fits = fits
statement_fits names word c kinds.Send begins fits = fits
statement_fits names word c kinds.Mark begins fits = fits
statement_fits names word c kinds.Name begins fits = name_fits names word c.place c.begun begins fits.1
statement_fits names word c kind begins fits = absurd begins

-- A token that fits breaks nothing, where it breaks nothing of arguments.
pub fits_breaks : (names : Names) (before : List Token) (t : Token) {fault : ActFault} → Fits t.kind names t.word (tally before) → (Breaks names before t (Arity t.at) → ⊥) → Breaks names before t fault → ⊥
fits_breaks names before t fits counted (unknown is un) = let h = subst (λ k. Fits k names t.word (tally before)) is fits in h.0 un
fits_breaks names before t fits counted (wide is never) = let h = subst (λ k. Fits k names t.word (tally before)) is fits in never h.0 h.1
fits_breaks names before t fits counted (sent earlier us dot name e dots names' found spelled wrong) = counted (sent earlier us dot name e dots names' found spelled wrong)
fits_breaks names before t fits counted (marked earlier us mark name e marks names' spelled wrong) = counted (marked earlier us mark name e marks names' spelled wrong)
fits_breaks names before t fits counted (level opens deep) = let h = opening_fits names t.word (tally before) t.kind opens fits in omega (arith, h, deep)
fits_breaks names before t fits counted (statement begins many) = let h = statement_fits names t.word (tally before) t.kind begins fits in omega (arith, h, many)
fits_breaks names before t fits counted (step is late) = let h : steps_ended before < 63 = subst (λ k. Fits k names t.word (tally before)) is fits in omega (arith, h, late)

-- ---- a fault

exceeds_breaks : (names : Names) (before : List Token) (t : Token) → Exceeds names t (tally before) → Breaks names before t (TooLong t.at)
exceeds_breaks names before t (tallies.level opens deep) = level opens deep
exceeds_breaks names before t (tallies.statement begins many) = statement begins many
exceeds_breaks names before t (tallies.step is late) = step is late

-- The fault of a step is that of the rule which the token breaks.
pub fault_breaks : (Wrong : Type 0) (names : Names) (before : List Token) (t : Token) (fault : ActFault) → (Wrong → Breaks names before t (Arity t.at)) → IsFaultOf fault Wrong names t (tally before) → IsOther fault → Breaks names before t fault
fault_breaks Wrong names before t (Syntax k) wrong h other = absurd other
fault_breaks Wrong names before t (UnknownName k) wrong h other = subst (λ x. Breaks names before t (UnknownName x)) (sym h.0) (unknown h.1 h.2)
fault_breaks Wrong names before t (WideNumber k) wrong h other = subst (λ x. Breaks names before t (WideNumber x)) (sym h.0) (wide h.1 h.2)
fault_breaks Wrong names before t (Arity k) wrong h other = subst (λ x. Breaks names before t (Arity x)) (sym h.0) (wrong h.1)
fault_breaks Wrong names before t (TooLong k) wrong h other = subst (λ x. Breaks names before t (TooLong x)) (sym h.0) (exceeds_breaks names before t h.1)
fault_breaks Wrong names before t NoMemory wrong h other = absurd h

-- ---- one fault at most

-- what a token of such a kind can break that is no name
abbrev due : Kind → ℕ → ActFault
due kinds.Number at = WideNumber at
due kinds.Close at = Arity at
due kind at = TooLong at

data Due (IsNot : Type 0) (t : Token) : ActFault → Type 0 where
  unknown_name : t.kind ≡ kinds.Name → IsNot → Due IsNot t (UnknownName t.at)
  known_name : t.kind ≡ kinds.Name → (IsNot → ⊥) → Due IsNot t (TooLong t.at)
  no_name : (kind : Kind) → t.kind ≡ kind → (kind ≡ kinds.Name → ⊥) → Due IsNot t (due kind t.at)

same_due : {IsNot : Type 0} {t : Token} {fault other : ActFault} → Due IsNot t fault → Due IsNot t other → fault ≡ other
same_due (unknown_name is un) (unknown_name is' un') = refl
same_due (unknown_name is un) (known_name is' known) = absurd (known un)
same_due (unknown_name is un) (no_name kind is' unlike) = absurd (unlike (sym is' ∙ is))
same_due (known_name is known) (unknown_name is' un') = absurd (known un')
same_due (known_name is known) (known_name is' known') = refl
same_due (known_name is known) (no_name kind is' unlike) = absurd (unlike (sym is' ∙ is))
same_due (no_name kind is unlike) (unknown_name is' un') = absurd (unlike (sym is ∙ is'))
same_due (no_name kind is unlike) (known_name is' known') = absurd (unlike (sym is ∙ is'))
same_due {t = t} (no_name kind is unlike) (no_name kind' is' unlike') = ap (λ x. due x t.at) (sym is ∙ is')

-- arguments end with a parenthesis
closing_of : {names : Names} {l : ℕ} {us : List Token} {args : List Expr} → SpellsArguments names l us args → (front : List Token) × (closing : Token) × (us ≡ front ++ closing ∷ []) × (closing.kind ≡ kinds.Close)
closing_of (none {opening = opening} {closing = closing} opens closes) = (opening ∷ [], closing, refl, closes)
closing_of (some {opening = opening} closing {ts = ts} opens inner closes) = (opening ∷ ts, closing, refl, closes)

closes_arguments : {names : Names} {l : ℕ} {us : List Token} {args : List Expr} (before earlier : List Token) (t head name : Token) → before ++ t ∷ [] ≡ earlier ++ head ∷ name ∷ us → SpellsArguments names l us args → t.kind ≡ kinds.Close
closes_arguments before earlier t head name e spelled =
    let ends = closing_of spelled in
    let whole : before ++ t ∷ [] ≡ (earlier ++ head ∷ name ∷ ends.0) ++ ends.1 ∷ [] = e ∙ ap (λ x. earlier ++ head ∷ name ∷ x) ends.2 ∙ sym (append_assoc earlier (head ∷ name ∷ ends.0) (ends.1 ∷ [])) in
    ap (λ x. x.kind) (last_same before (earlier ++ head ∷ name ∷ ends.0) t ends.1 whole) ∙ ends.3

opening_due : {IsNot : Type 0} (t : Token) (kind : Kind) → t.kind ≡ kind → IsOpening kind → Due IsNot t (TooLong t.at)
opening_due t kinds.Open is opens = no_name kinds.Open is (λ e. absurd cc)
opening_due t kinds.OpenBracket is opens = no_name kinds.OpenBracket is (λ e. absurd cc)
opening_due t kinds.OpenBrace is opens = no_name kinds.OpenBrace is (λ e. absurd cc)
opening_due t kind is opens = absurd opens

name_due : (names : Names) (t : Token) (p : Place) → t.kind ≡ kinds.Name → BeginsStatement kinds.Name p names t.word → Due (IsUnknown p names t.word) t (TooLong t.at)
name_due names t Statement is begins = known_name is begins
name_due names t Receiver is begins = absurd begins
name_due names t Signal is begins = absurd begins
name_due names t Mark is begins = absurd begins
name_due names t Operand is begins = absurd begins

statement_due : (names : Names) (t : Token) (p : Place) (kind : Kind) → t.kind ≡ kind → BeginsStatement kind p names t.word → Due (IsUnknown p names t.word) t (TooLong t.at)
statement_due names t p kinds.If is begins = no_name kinds.If is (λ e. absurd cc)
statement_due names t p kinds.Send is begins = no_name kinds.Send is (λ e. absurd cc)
statement_due names t p kinds.Mark is begins = no_name kinds.Mark is (λ e. absurd cc)
statement_due names t p kinds.Name is begins = name_due names t p is begins
statement_due names t p kind is begins = absurd begins

breaks_due : {names : Names} {before : List Token} {t : Token} {fault : ActFault} → Breaks names before t fault → Due (IsUnknown (place before) names t.word) t fault
breaks_due (unknown is un) = unknown_name is un
breaks_due (wide is never) = no_name kinds.Number is (λ e. absurd cc)
breaks_due {before = before} {t = t} (sent earlier us dot name e dots names' found spelled wrong) = no_name kinds.Close (closes_arguments before earlier t dot name e spelled) (λ e. absurd cc)
breaks_due {before = before} {t = t} (marked earlier us mark name e marks names' spelled wrong) = no_name kinds.Close (closes_arguments before earlier t mark name e spelled) (λ e. absurd cc)
breaks_due {t = t} (level opens deep) = opening_due t t.kind refl opens
breaks_due {names = names} {before = before} {t = t} (statement begins many) = statement_due names t (place before) t.kind refl begins
breaks_due (step is late) = no_name kinds.Step is (λ e. absurd cc)

-- ---- texts

-- A token fails: it is misplaced, or breaks a rule.
pub data Fails (Shape : List Token → Type 0) (names : Names) (before : List Token) (t : Token) : ActFault → Type 0 where
  misplaced_there : Begins Shape before → (Begins Shape (before ++ t ∷ []) → ⊥) → Fails Shape names before t (Syntax t.at)
  broken_there : {fault : ActFault} → Begins Shape (before ++ t ∷ []) → Breaks names before t fault → Fails Shape names before t fault

module _ (Shape : List Token → Type 0) (names : Names) where
  same_failure : (before : List Token) (t : Token) {fault other : ActFault} → Fails Shape names before t fault → Fails Shape names before t other → fault ≡ other
  same_failure before t (misplaced_there begins never) (misplaced_there begins' never') = refl
  same_failure before t (misplaced_there begins never) (broken_there begins' breaks) = absurd (never begins')
  same_failure before t (broken_there begins breaks) (misplaced_there begins' never) = absurd (never begins)
  same_failure before t (broken_there begins breaks) (broken_there begins' breaks') = same_due (breaks_due breaks) (breaks_due breaks')

  -- No tokens go on behind one that fails and break no rule.
  ends_there : (before rest : List Token) (t : Token) {fault : ActFault} → Fails Shape names before t fault → Begins Shape (before ++ t ∷ rest) → Obeys names (before ++ t ∷ rest) → ⊥
  ends_there before rest t (misplaced_there begins never) all obeys = never (begins_shorter (before ++ t ∷ []) rest (subst (λ x. Begins Shape x) (sym (append_assoc before (t ∷ []) rest)) all))
  ends_there before rest t {fault} (broken_there begins breaks) all obeys = obeys before rest t fault refl breaks

  begins_before : (before : List Token) (t : Token) {fault : ActFault} → Fails Shape names before t fault → Begins Shape before
  begins_before before t (misplaced_there begins never) = begins
  begins_before before t (broken_there begins breaks) = begins_shorter before (t ∷ []) begins

  -- the fault of a token of a text
  pub fails_text : (text : List ℕ) (before after : List Token) (t : Token) {fault : ActFault} → length text ≤ 4096 → tokens_of text ≡ before ++ t ∷ after → Obeys names before → Fails Shape names before t fault → TextFault Shape names text fault
  fails_text text before after t within whole obeys (misplaced_there begins never) = misplaced before after t within whole obeys begins never
  fails_text text before after t within whole obeys (broken_there begins breaks) = broken before after t within whole obeys begins breaks

  -- A short text fails at a token, or ends early.
  data Ways (text : List ℕ) (fault : ActFault) : Type 0 where
    at_token : (before after : List Token) (t : Token) → tokens_of text ≡ before ++ t ∷ after → Obeys names before → Fails Shape names before t fault → Ways text fault
    at_end : fault ≡ Syntax (length text) → Obeys names (tokens_of text) → Begins Shape (tokens_of text) → (Shape (tokens_of text) → ⊥) → Ways text fault

  ways : (text : List ℕ) {fault : ActFault} → length text ≤ 4096 → TextFault Shape names text fault → Ways text fault
  ways text short (long much) = absurd (omega (arith, short, much))
  ways text short (misplaced before after t within whole obeys begins never) = at_token before after t whole obeys (misplaced_there begins never)
  ways text short (broken before after t within whole obeys begins breaks) = at_token before after t whole obeys (broken_there begins breaks)
  ways text short (early within obeys begins unlike) = at_end refl obeys begins unlike

  same_way : (text : List ℕ) {fault other : ActFault} → Ways text fault → Ways text other → fault ≡ other
  same_way text (at_end is obeys begins unlike) (at_end is' obeys' begins' unlike') = is ∙ sym is'
  same_way text (at_end is obeys begins unlike) (at_token before after t whole obeys' fails) = absurd (ends_there before after t fails (subst (λ x. Begins Shape x) whole begins) (subst (λ x. Obeys names x) whole obeys))
  same_way text (at_token before after t whole obeys fails) (at_end is obeys' begins unlike) = absurd (ends_there before after t fails (subst (λ x. Begins Shape x) whole begins) (subst (λ x. Obeys names x) whole obeys'))
  same_way text {fault} {other} (at_token before after t whole obeys fails) (at_token before' after' t' whole' obeys' fails') = go (cuts before before' after after' t t' (sym whole ∙ whole')) where
    go : Cuts before t before' t' → fault ≡ other
    go (same e d) = same_failure before' t' (subst (λ x. Fails Shape names x t' fault) e (subst (λ x. Fails Shape names before x fault) d fails)) fails'
    go (first rest e) = absurd (ends_there before rest t fails (subst (λ x. Begins Shape x) e (begins_before before' t' fails')) (subst (λ x. Obeys names x) e obeys'))
    go (later rest e) = absurd (ends_there before' rest t' fails' (subst (λ x. Begins Shape x) e (begins_before before t fails)) (subst (λ x. Obeys names x) e obeys))

  -- A text has one fault at most.
  pub same_fault : (text : List ℕ) {fault other : ActFault} → TextFault Shape names text fault → TextFault Shape names text other → fault ≡ other
  same_fault text (long much) (long much') = refl
  same_fault text (long much) (misplaced before after t within whole obeys begins never) = absurd (omega (arith, much, within))
  same_fault text (long much) (broken before after t within whole obeys begins breaks) = absurd (omega (arith, much, within))
  same_fault text (long much) (early within obeys begins unlike) = absurd (omega (arith, much, within))
  same_fault text (misplaced before after t within whole obeys begins never) second = same_way text (at_token before after t whole obeys (misplaced_there begins never)) (ways text within second)
  same_fault text (broken before after t within whole obeys begins breaks) second = same_way text (at_token before after t whole obeys (broken_there begins breaks)) (ways text within second)
  same_fault text (early within obeys begins unlike) second = same_way text (at_end refl obeys begins unlike) (ways text within second)

  -- A short text of the shape that breaks no rule has none.
  pub no_fault : (text : List ℕ) {fault : ActFault} → length text ≤ 4096 → Shape (tokens_of text) → Obeys names (tokens_of text) → TextFault Shape names text fault → ⊥
  no_fault text short shape obeys found = go (ways text short found) where
    go : {fault : ActFault} → Ways text fault → ⊥
    go (at_token before after t whole obeys' fails) = ends_there before after t fails (record { more = []; shape = subst Shape (whole ∙ sym (append-nil (before ++ t ∷ after))) shape }) (subst (λ x. Obeys names x) whole obeys)
    go (at_end is obeys' begins unlike) = unlike shape
