-- What is looked up of an entry, step by step.
use Rattle.std.proofs.Common.{◌≡◌, Bool, true, false, List, [], ◌∷◌, ◌++◌, length, take, drop, Option, Some, None, refl, sym, ap, subst, ◌∙◌, append_assoc, ◌↔◌}
use Rattle.std.specs.Prelude.{IsTrue, IfNone, option_map, All, MatchOption}
use Rattle.std.specs.List.{AllByRecursion}
use Rattle.pssm_semantics.specs.declared.line.Line.{Line}
use Rattle.std.proofs.lemmas.List.{append-nil, take_at, drop_at}
use Rattle.std.proofs.lemmas.List.Elements.{All-same, All-take, All-drop, All-append}
use Rattle.std.proofs.lemmas.Option.{same_Some}
use Rattle.pssm_semantics.specs.declared.entry.ObjectId.{ObjectId}
use Rattle.pssm_semantics.specs.declared.entry.Out.{Out}
use Rattle.pssm_semantics.specs.declared.entry.Entry.{Entry}
use Rattle.pssm_semantics.specs.declared.line.Line.TheVariants.{Post, Start, Take, Done, Exit, Effect, Enter, Opened, Pick, DoStep}
use Rattle.pssm_semantics.specs.declared.line.LineOut.{LineOut}
use Rattle.pssm_semantics.specs.declared.setting.Class.{Class}
use Rattle.pssm_semantics.specs.declared.setting.Setting.{Setting}
use Rattle.pssm_semantics.specs.Settings.{class_of}
use Rattle.pssm_semantics.specs.Journal.{object_of}
use Rattle.pssm_semantics.specs.Known.{NamesKnown}
use Rattle.pssm_lines.specs.declared.parts.OutsText.{OutsText}
use Rattle.pssm_lines.specs.declared.parts.OutParts.{OutParts}
use Rattle.pssm_lines.specs.Grammar.{IsSpelledOut, IsLine}
use Rattle.pssm_lines.specs.Parts.{ShowsOut, ShowsOuts}
use Rattle.pssm_journal.specs.inner.LineOuts.{HasSpelledOuts}
use Rattle.pssm_journal.specs.Entries.{◌>>=◌}
use Rattle.pssm_journal.specs.Entries.{out_named, outs_named, KeepsNames, IsEntryOf, BreaksNames}

-- ---- outputs in a loop

-- the outputs so far, and those of what is left
abbrev pub with_front : List Out → Option (List Out) → Option (List Out)
with_front front others = option_map (λ xs. front ++ xs) others

pub with_none : (others : Option (List Out)) → with_front [] others ≡ others
with_none None = refl
with_none (Some xs) = refl

one_more : (front : List Out) (y : Out) (others : Option (List Out)) → with_front front (others >>= λ xs. Some (y ∷ xs)) ≡ with_front (front ++ y ∷ []) others
one_more front y None = refl
one_more front y (Some xs) = ap (λ (t : List Out). Some t) (sym (append_assoc front (y ∷ []) xs))

pub outs_more : (setting : Setting) (o : ObjectId) (front : List Out) (x : LineOut) (xs : List LineOut) (y : Out) → out_named setting o x ≡ Some y → with_front front (outs_named setting o (x ∷ xs)) ≡ with_front (front ++ y ∷ []) (outs_named setting o xs)
unfolding outs_named
outs_more setting o front x xs y e =
    ap (λ (first : Option Out). with_front front (first >>= λ a. outs_named setting o xs >>= λ others. Some (a ∷ others))) e ∙ one_more front y (outs_named setting o xs)

pub outs_stop : (setting : Setting) (o : ObjectId) (front : List Out) (x : LineOut) (xs : List LineOut) → out_named setting o x ≡ None → with_front front (outs_named setting o (x ∷ xs)) ≡ None
unfolding outs_named
outs_stop setting o front x xs e =
    ap (λ (first : Option Out). with_front front (first >>= λ a. outs_named setting o xs >>= λ others. Some (a ∷ others))) e

pub outs_end : (setting : Setting) (o : ObjectId) (front : List Out) → with_front front (outs_named setting o []) ≡ Some front
unfolding outs_named
outs_end setting o front = ap (λ (t : List Out). Some t) (append-nil front)

-- ---- outputs of a text

-- Of the outputs of a line some are known, and the rest of the text spells the others.
pub record IsPartly (setting : Setting) (o : ObjectId) (front : List Out) (rest : OutsText) (spelled : List LineOut) : Type 0 where
  pub others : List LineOut
  pub are : AllByRecursion IsSpelledOut others
  pub shown : ShowsOuts rest others
  pub whole : with_front front (outs_named setting o others) ≡ outs_named setting o spelled

pub partly_none : (setting : Setting) (o : ObjectId) (outs : OutsText) (spelled : List LineOut) → AllByRecursion IsSpelledOut spelled → ShowsOuts outs spelled → IsPartly setting o [] outs spelled
partly_none setting o outs spelled are shown = record { others = spelled; are = are; shown = shown; whole = with_none (outs_named setting o spelled) }

-- what a look at the text finds
abbrev pub IsNextOut : OutsText → Option (OutParts × OutsText) → Type 0
IsNextOut outs o = (spelled : List LineOut) → AllByRecursion IsSpelledOut spelled → ShowsOuts outs spelled
    → MatchOption o (spelled ≡ []) (λ x. (first : LineOut) × (others : List LineOut) × (spelled ≡ first ∷ others) × ShowsOut x.0 first × ShowsOuts x.1 others)

-- There is no other.
pub partly_all : (setting : Setting) (o : ObjectId) (front : List Out) (rest : OutsText) (spelled : List LineOut) → IsPartly setting o front rest spelled → IsNextOut rest None → Some front ≡ outs_named setting o spelled
partly_all setting o front rest spelled p next =
    let none : p.others ≡ [] = next p.others p.are p.shown in
    sym (outs_end setting o front) ∙ ap (λ (xs : List LineOut). with_front front (outs_named setting o xs)) (sym none) ∙ p.whole

-- There is one more, of which this is known.
pub partly_more : (setting : Setting) (o : ObjectId) (front more : List Out) (rest after : OutsText) (out : OutParts) (known : Option Out) (y : Out) (spelled : List LineOut) → IsPartly setting o front rest spelled
    → IsNextOut rest (Some (out, after)) → ((line : LineOut) → ShowsOut out line → known ≡ out_named setting o line) → known ≡ Some y → more ≡ front ++ y ∷ [] → IsPartly setting o more after spelled
partly_more setting o front more rest after out known y spelled p next named is grown =
    let one = next p.others p.are p.shown in
    let are : AllByRecursion IsSpelledOut (one.0 ∷ one.1) = subst (λ (xs : List LineOut). AllByRecursion IsSpelledOut xs) one.2 p.are in
    record {
      others = one.1;
      are = are.1;
      shown = one.4;
      whole = ap (λ (xs : List Out). with_front xs (outs_named setting o one.1)) grown ∙ sym (outs_more setting o front one.0 one.1 y (sym (named one.0 one.3) ∙ is))
          ∙ ap (λ (xs : List LineOut). with_front front (outs_named setting o xs)) (sym one.2) ∙ p.whole;
    }

-- There is one more, which is not known.
pub partly_stop : (setting : Setting) (o : ObjectId) (front : List Out) (rest after : OutsText) (out : OutParts) (known : Option Out) (spelled : List LineOut) → IsPartly setting o front rest spelled
    → IsNextOut rest (Some (out, after)) → ((line : LineOut) → ShowsOut out line → known ≡ out_named setting o line) → known ≡ None → None ≡ outs_named setting o spelled
partly_stop setting o front rest after out known spelled p next named is =
    let one = next p.others p.are p.shown in
    sym (outs_stop setting o front one.0 one.1 (sym (named one.0 one.3) ∙ is)) ∙ ap (λ (xs : List LineOut). with_front front (outs_named setting o xs)) (sym one.2) ∙ p.whole

-- The outputs of a line of the grammar are spelled as outputs are.
pub outs_of_grammar : (l : Line) → IsLine l → HasSpelledOuts l
outs_of_grammar (Post object signal args) h = tt
outs_of_grammar (Start object) h = tt
outs_of_grammar (Take object number firing) h = tt
outs_of_grammar (Done object state firing) h = tt
outs_of_grammar (Exit object state outs) h = h.2.1
outs_of_grammar (Effect object t outs) h = h.2.1
outs_of_grammar (Enter object state outs) h = h.2.1
outs_of_grammar (Opened object region mode how) h = tt
outs_of_grammar (Pick object choice route) h = tt
outs_of_grammar (DoStep object state step outs) h = h.3.1

-- ---- the first rule

pub keeps_where_known : (setting : Setting) (e : Entry) (class : Class) → class_of setting (object_of e) ≡ Some class → NamesKnown setting class e ↔ KeepsNames setting e
keeps_where_known setting e class here = (
  (λ known. λ J. (class, here, known)),
  (λ keeps. let some = keeps [] in subst (λ (c : Class). NamesKnown setting c e) (same_Some some.0 class (sym some.1 ∙ here)) some.2),
)

pub breaks_without_class : (setting : Setting) (e : Entry) → class_of setting (object_of e) ≡ None → KeepsNames setting e → ⊥
breaks_without_class setting e none keeps = let some = keeps [] in let is = some.1 in absurd cc

-- ---- two parts of a list

first_part : {X : Type 0} (P : X → Type 0) (xs ys : List X) → All P (xs ++ ys) → All P xs
first_part P xs ys all = All-same P xs (take (length xs) (xs ++ ys)) (sym (take_at xs ys (length xs) refl)) (All-take P (length xs) (xs ++ ys) all)

second_part : {X : Type 0} (P : X → Type 0) (xs ys : List X) → All P (xs ++ ys) → All P ys
second_part P xs ys all = All-same P ys (drop (length xs) (xs ++ ys)) (sym (drop_at xs ys (length xs) refl)) (All-drop P (length xs) (xs ++ ys) all)

-- where the first part passes, the second decides
pub both_parts : {X : Type 0} (P : X → Type 0) (xs ys : List X) (a b : Bool) → IsTrue a ↔ All P xs → a ≡ true → IsTrue b ↔ All P ys → IsTrue b ↔ All P (xs ++ ys)
both_parts P xs ys a b p passed q = (
  (λ h. All-append P xs ys (p.0 passed) (q.0 h)),
  (λ all. q.1 (second_part P xs ys all)),
)

-- where the first part fails, so does the whole
pub first_fails : {X : Type 0} (P : X → Type 0) (xs ys : List X) (a : Bool) → IsTrue a ↔ All P xs → a ≡ false → IsTrue a ↔ All P (xs ++ ys)
first_fails P xs ys a p failed = ((λ h. absurd cc), (λ all. p.1 (first_part P xs ys all)))

-- ---- the first rule, as the code finds it

pub keeps_by_class : (setting : Setting) (e : Entry) (o : ObjectId) (class : Class) (b : Bool) → o ≡ object_of e → Some class ≡ class_of setting o → IsTrue b ↔ NamesKnown setting class e → IsTrue b ↔ KeepsNames setting e
keeps_by_class setting e o class b is here known =
    let at = keeps_where_known setting e class (sym (here ∙ ap (λ (x : ObjectId). class_of setting x) is)) in
    ((λ h. at.0 (known.0 h)), (λ keeps. known.1 (at.1 keeps)))

pub keeps_by_none : (setting : Setting) (e : Entry) (o : ObjectId) → o ≡ object_of e → None ≡ class_of setting o → IsTrue false ↔ KeepsNames setting e
keeps_by_none setting e o is none =
    ((λ h. absurd cc), (λ keeps. absurd (breaks_without_class setting e (sym (none ∙ ap (λ (x : ObjectId). class_of setting x) is)) keeps)))

-- a line whose entry does not keep the first rule writes none that does
pub breaks_names : (setting : Setting) (line : Line) (e : Entry) (o : Option Entry) → IsEntryOf setting line e → IfNone o (KeepsNames setting e → ⊥) → IfNone o (BreaksNames setting line)
breaks_names setting line e (Some x) is none = tt
breaks_names setting line e None is none = λ other is_other keeps.
    let same : e ≡ other = same_Some e other (sym is ∙ is_other) in
    none (subst (λ (x : Entry). KeepsNames setting x) (sym same) keeps)
