-- The outputs that a text spells, as they are taken one after the other.
use Rattle.std.proofs.Common.{◌≡◌, List, [], ◌∷◌, ◌++◌, refl, sym, ap, subst, ◌∙◌, append_assoc}
use Rattle.std.specs.List.{AllByRecursion}
use Rattle.std.proofs.lemmas.List.{append-nil}
use Rattle.pssm_semantics.specs.declared.line.LineOut.{LineOut}
use Rattle.pssm_lines.specs.declared.parts.OutsText.{OutsText}
use Rattle.pssm_lines.specs.declared.parts.OutParts.{OutParts}
use Rattle.pssm_lines.specs.declared.parts.OutParts.TheVariants as out_parts
use Rattle.pssm_lines.specs.Grammar.{IsSpelledOut}
use Rattle.pssm_lines.specs.Parts.{ShowsOut, ShowsOuts}

-- Of what the text spells these were taken, and the other text spells the rest.
pub record AreLeft (text : OutsText) (taken spelled : List LineOut) : Type 0 where
  pub left : List LineOut
  pub parts : spelled ≡ taken ++ left
  pub are : AllByRecursion IsSpelledOut left
  pub shown : ShowsOuts text left

abbrev pub IsTakenOf : OutsText → OutsText → List LineOut → Type 0
IsTakenOf outs text taken = (spelled : List LineOut) → AllByRecursion IsSpelledOut spelled → ShowsOuts outs spelled → AreLeft text taken spelled

-- what the next output is
abbrev pub IsNext : OutsText → OutParts → OutsText → Type 0
IsNext text part rest = (spelled : List LineOut) → AllByRecursion IsSpelledOut spelled → ShowsOuts text spelled → (first : LineOut) × (others : List LineOut) × (spelled ≡ first ∷ others) × ShowsOut part first × ShowsOuts rest others

pub taken_none : (outs : OutsText) → IsTakenOf outs outs []
taken_none outs = λ spelled are shown. record { left = spelled; parts = refl; are = are; shown = shown }

one_out : (part : OutParts) (a b : LineOut) → ShowsOut part a → ShowsOut part b → a ≡ b
one_out (out_parts.Mark mark args) a b p q = p ∙ sym q
one_out (out_parts.Send object signal args) a b p q = p ∙ sym q

pub taken_more : (outs text rest : OutsText) (taken pushed : List LineOut) (part : OutParts) (out : LineOut) → IsTakenOf outs text taken → IsNext text part rest → ShowsOut part out → pushed ≡ taken ++ out ∷ [] → IsTakenOf outs rest pushed
taken_more outs text rest taken pushed part out so next is push = λ spelled are shown.
    let here = so spelled are shown in
    let one = next here.left here.are here.shown in
    let all = subst (λ xs. AllByRecursion IsSpelledOut xs) one.2 here.are in
    let same : out ≡ one.0 = one_out part out one.0 is one.3 in
    record {
      left = one.1;
      parts = here.parts ∙ ap (λ xs. taken ++ xs) one.2 ∙ ap (λ x. taken ++ x ∷ one.1) (sym same) ∙ sym (append_assoc taken (out ∷ []) one.1) ∙ ap (λ xs. xs ++ one.1) (sym push);
      are = all.1;
      shown = one.4;
    }

pub taken_all : (outs text : OutsText) (taken : List LineOut) → IsTakenOf outs text taken → ((spelled : List LineOut) → AllByRecursion IsSpelledOut spelled → ShowsOuts text spelled → spelled ≡ [])
    → (spelled : List LineOut) → AllByRecursion IsSpelledOut spelled → ShowsOuts outs spelled → taken ≡ spelled
taken_all outs text taken so none = λ spelled are shown.
    let here = so spelled are shown in
    sym (here.parts ∙ ap (λ xs. taken ++ xs) (none here.left here.are here.shown) ∙ append-nil taken)
