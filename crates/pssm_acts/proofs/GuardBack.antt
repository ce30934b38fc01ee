-- What is written of a guard spells it, so that it can be read back.
use Rattle.std.proofs.Common.{◌≡◌, ◌≤◌, ℕ, suc, zero, Bool, true, false, List, [], ◌∷◌, ◌++◌, length, refl, sym, ap, ◌∙◌, subst, arith, append-nil, codes, max}
use Rattle.std.proofs.Math.Nat.{le-max_left, le-max_right}
use Rattle.pssm_semantics.specs.declared.setting.Names.{Names}
use Rattle.pssm_semantics.specs.declared.tree.Rel.{Rel}
use Rattle.pssm_semantics.specs.declared.tree.Rel.TheVariants.{Eq, Ne, Lt, Le, Gt, Ge}
use Rattle.pssm_semantics.specs.declared.tree.Cond.{Cond, end_of-Cond, more_of-Cond}
use Rattle.pssm_semantics.specs.declared.tree.Cond.TheVariants.{True, False, Compare, Not', And', Or'}
use Rattle.pssm_acts.specs.ActText.{is_chain, in_brackets, expr_text, rel_text, cond_text}
use Rattle.pssm_acts.specs.inner.Operands.{unit_text}
use Rattle.pssm_semantics.specs.Fits.{CondFits}
use Rattle.pssm_acts.specs.Grammar.{GuardPart, Unit', Either, SpellsGuard, SpellsCond, truth, falsity, negation, brackets, relation, lone_unit, conjoined, lone_conjunction, disjoined}
use Rattle.pssm_acts.specs.ReadBack.{AreNames, levels_with, expr_levels, cond_levels, GuardIsPlain, GuardCanBeReadBack}
use Rattle.pssm_spelling.specs.Spelling.{continues_name}
use Rattle.pssm_spelling.specs.SpellingReading.{EndsRun}
use Rattle.pssm_acts.specs.Tokens.{Token, cut}
use Rattle.pssm_acts.specs.declared.token.Kind.{Kind}
use Rattle.pssm_acts.proofs.ExprBack.{level_in, rest_in, within_deep, whole_begins}
use Rattle.pssm_acts.proofs.FrontLaws.{Begins, not_begins, word_begins}
use Rattle.pssm_acts.proofs.SignLaws.{relation_begins, both_begins, either_begins, bracket_begins, bracket_ends}
use Rattle.pssm_acts.proofs.Written.{BeginsWith, spelled_as, one_token, enclosed, operands}
use Rattle.pssm_semantics.proofs.Views.{Not-is, And-is, Or-is}

-- The bytes begin with what spells a guard as such a part, and others are left behind it; an operand may end with it or not.
abbrev pub BeginsGuard : Names → GuardPart → ℕ → Cond → ℕ → List ℕ → List ℕ → Type 0
BeginsGuard names part l c end bytes rest = (after : Bool) × BeginsWith (λ ts. SpellsGuard names part l ts c) end after bytes rest

-- as which part a guard is spelled
abbrev pub guard_part_of : Bool → GuardPart
guard_part_of true = Either
guard_part_of false = Unit'

bracket_within : (b : Bool) (rest : List ℕ) → EndsRun continues_name rest → EndsRun continues_name (rest_in b (codes "]") rest)
bracket_within true rest ends = refl
bracket_within false rest ends = ends

relation_ends : (rel : Rel) (rest : List ℕ) → EndsRun continues_name (rel_text rel ++ rest)
relation_ends Eq rest = refl
relation_ends Ne rest = refl
relation_ends Lt rest = refl
relation_ends Le rest = refl
relation_ends Gt rest = refl
relation_ends Ge rest = refl

module _ (names : Names) (end : ℕ) where
  -- A guard that is joined stands in brackets as an operand.
  unit : (b : Bool) (n : ℕ) (c : Cond) (l : ℕ) (text rest : List ℕ) → levels_with b n ≤ l
      → BeginsGuard names (guard_part_of b) (level_in b l) c end (text ++ rest_in b (codes "]") rest) (rest_in b (codes "]") rest) → BeginsGuard names Unit' l c end (in_brackets b text ++ rest) rest
  unit true n c zero text rest deep inner = absurd (omega arith)
  unit true n c (suc l) text rest deep inner =
      (false, enclosed (codes "[") text (codes "]") rest (bracket_begins end (text ++ (codes "]" ++ rest)) false) inner.1 (bracket_ends end rest inner.0) refl (λ opening closing ts opens spelled closes. brackets closing opens spelled closes))
  unit false n c l text rest deep inner = inner

  -- what is written of a guard, wherever it stands
  abbrev Written : Cond → Type 0
  Written c = (l : ℕ) (rest : List ℕ) → cond_levels c ≤ l → EndsRun continues_name rest → BeginsGuard names (guard_part_of (is_chain c)) l c end (cond_text names c ++ rest) rest

  as_unit : (c : Cond) → Written c → (l : ℕ) (rest : List ℕ) → levels_with (is_chain c) (cond_levels c) ≤ l → EndsRun continues_name rest → BeginsGuard names Unit' l c end (unit_text names c ++ rest) rest
  as_unit c written l rest deep ends =
      unit (is_chain c) (cond_levels c) c l (cond_text names c) rest deep
      (written (level_in (is_chain c) l) (rest_in (is_chain c) (codes "]") rest) (within_deep (is_chain c) (cond_levels c) l deep) (bracket_within (is_chain c) rest ends))

  -- two units with a sign between them
  chain : (c d e : Cond) (sign : List ℕ) {kind : Kind} {word : List ℕ} → Written c → Written d → (l : ℕ) (rest : List ℕ) → max (levels_with (is_chain c) (cond_levels c)) (levels_with (is_chain d) (cond_levels d)) ≤ l → EndsRun continues_name rest
      → ((rest : List ℕ) → EndsRun continues_name (sign ++ rest)) → ((rest : List ℕ) (a : Bool) → Begins end a (sign ++ rest) kind word false rest)
      → ((t : Token) (ts us : List Token) → SpellsGuard names Unit' l ts c → t.kind ≡ kind → SpellsGuard names Unit' l us d → SpellsGuard names Either l (ts ++ t ∷ us) e)
      → BeginsGuard names Either l e end ((unit_text names c ++ sign ++ unit_text names d) ++ rest) rest
  chain c d e sign first second l rest deep ends stops begins make =
      let left_most = le-max_left (levels_with (is_chain c) (cond_levels c)) (levels_with (is_chain d) (cond_levels d)) in
      let right_most = le-max_right (levels_with (is_chain c) (cond_levels c)) (levels_with (is_chain d) (cond_levels d)) in
      let left = as_unit c first l (sign ++ (unit_text names d ++ rest)) (omega (arith, left_most, deep)) (stops (unit_text names d ++ rest)) in
      let right = as_unit d second l rest (omega (arith, right_most, deep)) ends in
      (right.0, operands (unit_text names c) sign (unit_text names d) rest left.1 (begins (unit_text names d ++ rest) left.0) right.1 make)

module _ (names : Names) (vars : AreNames names.vars) (end : ℕ) where
  -- What is written of a guard spells it, whatever stands behind that does not go on with a name.
  guard_begins : (c : Cond) (l : ℕ) (rest : List ℕ) → CondFits (length names.vars) c → GuardIsPlain names c → cond_levels c ≤ l → EndsRun continues_name rest
      → BeginsGuard names (guard_part_of (is_chain c)) l c end (cond_text names c ++ rest) rest
  guard_begins True l rest fits plain deep ends = (false, one_token (word_begins end false (codes "true") rest (record { spelled = refl; short = omega arith }) ends) refl (λ t is worded. truth is))
  guard_begins False l rest fits plain deep ends = (false, one_token (word_begins end false (codes "false") rest (record { spelled = refl; short = omega arith }) ends) refl (λ t is worded. falsity is))
  guard_begins (Compare rel a b) l rest fits plain deep ends =
      let left = whole_begins names vars end a l (rel_text rel ++ (expr_text names b ++ rest)) fits.0 plain.0 (omega (arith, le-max_left (expr_levels a) (expr_levels b))) (relation_ends rel (expr_text names b ++ rest)) in
      let right = whole_begins names vars end b l rest fits.1 plain.1 (omega (arith, le-max_right (expr_levels a) (expr_levels b))) ends in
      (true, operands (expr_text names a) (rel_text rel) (expr_text names b) rest left (relation_begins end (expr_text names b ++ rest) rel true) right (λ t ts us left' is right'. relation t left' is right'))
  guard_begins (Not' p (more_of-Cond c end_of-Cond)) l rest fits plain deep ends =
      let inner = as_unit names end c (λ l rest. guard_begins c l rest fits plain) l rest deep ends in
      let t = not_begins end false (unit_text names c ++ rest) inner.1.unequal in (
        inner.0,
        record {
          ts = t.token ∷ inner.1.ts;
          spelled = subst (SpellsGuard names Unit' l (t.token ∷ inner.1.ts)) (Not-is c) (negation t.is inner.1.spelled);
          same = t.same ∙ ap (λ ts. t.token ∷ ts) inner.1.same;
          unequal = refl;
        },
      )
  guard_begins (And' p (more_of-Cond c end_of-Cond) q (more_of-Cond d end_of-Cond)) l rest fits plain deep ends =
      chain names end c d (And' p (more_of-Cond c end_of-Cond) q (more_of-Cond d end_of-Cond)) (codes " && ") (λ l rest. guard_begins c l rest fits.0 plain.0) (λ l rest. guard_begins d l rest fits.1 plain.1) l rest deep ends
      (λ rest. refl) (λ rest a. both_begins end rest a) (λ t ts us left is right. subst (SpellsGuard names Either l (ts ++ t ∷ us)) (And-is c d) (lone_conjunction (conjoined t (lone_unit left) is right)))
  guard_begins (Or' p (more_of-Cond c end_of-Cond) q (more_of-Cond d end_of-Cond)) l rest fits plain deep ends =
      chain names end c d (Or' p (more_of-Cond c end_of-Cond) q (more_of-Cond d end_of-Cond)) (codes " || ") (λ l rest. guard_begins c l rest fits.0 plain.0) (λ l rest. guard_begins d l rest fits.1 plain.1) l rest deep ends
      (λ rest. refl) (λ rest a. either_begins end rest a) (λ t ts us left is right. subst (SpellsGuard names Either l (ts ++ t ∷ us)) (Or-is c d) (disjoined t (lone_conjunction (lone_unit left)) is (lone_unit right)))

  as_either : (b : Bool) (l : ℕ) (ts : List Token) (c : Cond) → SpellsGuard names (guard_part_of b) l ts c → SpellsGuard names Either l ts c
  as_either true l ts c spelled = spelled
  as_either false l ts c spelled = lone_conjunction (lone_unit spelled)

  -- so it does as a whole
  pub whole_guard_begins : (c : Cond) (l : ℕ) (rest : List ℕ) → CondFits (length names.vars) c → GuardIsPlain names c → cond_levels c ≤ l → EndsRun continues_name rest
      → BeginsGuard names Either l c end (cond_text names c ++ rest) rest
  whole_guard_begins c l rest fits plain deep ends =
      let part = guard_begins c l rest fits plain deep ends in
      (part.0, spelled_as (λ ts spelled. as_either (is_chain c) l ts c spelled) part.1)

-- No tokens are left at the end of a text.
pub all_cut : (end : ℕ) (a : Bool) (text : List ℕ) (ts : List Token) → cut end false 0 (text ++ []) ≡ ts ++ cut end a 0 [] → cut end false 0 text ≡ ts
unfolding cut
all_cut end a text ts same = ap (λ bytes. cut end false 0 bytes) (sym (append-nil text)) ∙ same ∙ append-nil ts

guard_spelled_back : (names : Names) (c : Cond) → GuardCanBeReadBack names c → SpellsCond names (cond_text names c) c
guard_spelled_back names c can =
    let text : List ℕ = cond_text names c in
    let part = whole_guard_begins names can.vars (length text) c 16 [] can.fits can.plain can.shallow tt in
    record { short = can.short; spelled = subst (λ ts. SpellsGuard names Either 16 ts c) (sym (all_cut (length text) part.0 text part.1.ts part.1.same)) part.1.spelled }

-- The text that is written where there was none spells the guard.
pub guard_read_back : (names : Names) (c : Cond) (old text : List ℕ) → old ≡ [] → text ≡ old ++ cond_text names c → GuardCanBeReadBack names c → SpellsCond names text c
guard_read_back names c old text none is can =
    subst (λ t. SpellsCond names t c) (sym (is ∙ ap (λ t. t ++ cond_text names c) none)) (guard_spelled_back names c can)
