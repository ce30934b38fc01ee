-- Whatever spells a guard is read as that guard.
use Rattle.std.proofs.Common.{◌≡◌, ◌+◌, ◌-◌, ◌<◌, ℕ, suc, zero, List, [], ◌∷◌, length, Option, Some, None, Result, Ok, refl, ap, ◌∙◌, subst, add-one, arith}
use Rattle.std.proofs.lemmas.Bool.{lt-ltb}
use Rattle.pssm_acts.specs.declared.act_fault.ActFault.{ActFault}
use Rattle.pssm_semantics.specs.declared.setting.Names.{Names}
use Rattle.pssm_acts.specs.declared.token.Kind.{Kind}
use Rattle.pssm_acts.specs.declared.token.Kind.TheVariants as kinds
use Rattle.pssm_semantics.specs.declared.tree.Expr.{Expr}
use Rattle.pssm_semantics.specs.declared.tree.Rel.{Rel}
use Rattle.pssm_semantics.specs.declared.tree.Cond.{Cond}
use Rattle.pssm_semantics.specs.declared.tree.Cond.TheVariants.{True, False, Compare}
use Rattle.pssm_semantics.specs.declared.tree.Cond.TheViews as guards
use Rattle.pssm_acts.specs.declared.expr_reader.Left.{Left}
use Rattle.pssm_acts.specs.declared.expr_reader.Level.{Level}
use Rattle.pssm_acts.specs.declared.expr_reader.Place.{Place}
use Rattle.pssm_acts.specs.declared.expr_reader.Place.TheVariants as places
use Rattle.pssm_acts.specs.declared.expr_reader.ExprReader.{ExprReader}
use Rattle.pssm_acts.specs.declared.guard_reader.Before.{Before}
use Rattle.pssm_acts.specs.declared.guard_reader.Bracket.{Bracket}
use Rattle.pssm_acts.specs.declared.guard_reader.Stage.{Stage}
use Rattle.pssm_acts.specs.declared.guard_reader.Stage.TheVariants.{Wants, First, Second, Has}
use Rattle.pssm_acts.specs.declared.guard_reader.GuardReader.{GuardReader}
use Rattle.pssm_acts.specs.Tokens.{Token}
use Rattle.pssm_acts.specs.inner.ExprReading.{and_then, sum_of, at_atom, atom_of, after_atom, expr_step, expr_value, fresh_expr}
use Rattle.pssm_acts.specs.inner.GuardReading.{nothing_before, fresh_guard, nots_of, conjunction_of, disjunction_of, unit_of, bracket_opened, side_begun, unit_wanted, in_first, compared, bracket_closed, after_unit, in_second, guard_step, guard_value, guard_read}
use Rattle.pssm_acts.specs.Grammar.{GuardPart, Unit', Both, Either, SpellsGuard, truth, falsity, negation, brackets, relation, lone_unit, conjoined, lone_conjunction, disjoined}
use Rattle.pssm_acts.proofs.ExprRead.{expr_steps_in, reader_at, ReadsSum, reads}
use Rattle.pssm_acts.proofs.Readers.{Leads, next, one, onward, within, begun, through}

abbrev pub guard_steps_in : Names → ℕ → GuardReader → Token → Result GuardReader ActFault
guard_steps_in names room reader t = guard_step names room reader t

abbrev pub guard_at : List Bracket → Option Cond → Stage → GuardReader
guard_at outer either stage = record { outer = outer; either = either; stage = stage }

-- ---- the sides of a comparison

-- a token of the left side goes to the left side
pub step_first : (names : Names) (room : ℕ) (before : Before) (outer : List Level) (left : Left) (place : Place) (n : ExprReader) (kind : Kind) (at : ℕ) (word : List ℕ)
    → expr_step names room (reader_at outer left place) (record { at = at; kind = kind; word = word }) ≡ Ok n
    → in_first names room before (reader_at outer left place) (record { at = at; kind = kind; word = word }) ≡ Ok (First before n)
unfolding expr_step at_atom atom_of after_atom in_first
step_first names room before outer left (places.Wants factor) n (kinds.Relation rel) at word step = absurd cc
step_first names room before outer left (places.Has term) n (kinds.Relation rel) at word step = absurd cc
step_first names room before outer left place n kind at word step = ap (λ x. and_then x (λ more. Ok (First before more))) step

pub step_second : (names : Names) (room : ℕ) (outside : List Bracket) (either : Option Cond) (before : Before) (rel : Rel) (a : Expr) (outer : List Level) (left : Left) (place : Place) (n : ExprReader) (kind : Kind) (at : ℕ) (word : List ℕ)
    → expr_step names (room - length outside) (reader_at outer left place) (record { at = at; kind = kind; word = word }) ≡ Ok n
    → in_second names room outside either (record { before = before; rel = rel; left = a; side = reader_at outer left place }) (record { at = at; kind = kind; word = word })
    ≡ Ok (guard_at outside either (Second (record { before = before; rel = rel; left = a; side = n })))
unfolding expr_step at_atom atom_of after_atom in_second
step_second names room outside either before rel a outer left (places.Wants factor) n kinds.And at word step = absurd cc
step_second names room outside either before rel a outer left (places.Has term) n kinds.And at word step = absurd cc
step_second names room outside either before rel a outer left (places.Wants factor) n kinds.Or at word step = absurd cc
step_second names room outside either before rel a outer left (places.Has term) n kinds.Or at word step = absurd cc
step_second names room outside either before rel a outer left (places.Wants factor) n kinds.CloseBracket at word step = absurd cc
step_second names room outside either before rel a outer left (places.Has term) n kinds.CloseBracket at word step = absurd cc
step_second names room outside either before rel a outer left place n kind at word step =
    ap (λ x. and_then x (λ more. Ok (guard_at outside either (Second (record { before = before; rel = rel; left = a; side = more }))))) step

pub step_begun : (names : Names) (room : ℕ) (outer : List Bracket) (either : Option Cond) (before : Before) (n : ExprReader) (kind : Kind) (at : ℕ) (word : List ℕ)
    → expr_step names (room - length outer) fresh_expr (record { at = at; kind = kind; word = word }) ≡ Ok n
    → unit_wanted names room outer either before (record { at = at; kind = kind; word = word }) ≡ Ok (guard_at outer either (First before n))
unfolding expr_step at_atom atom_of unit_wanted side_begun
step_begun names room outer either before n kinds.OpenBracket at word step = absurd cc
step_begun names room outer either before n kinds.Not at word step = absurd cc
step_begun names room outer either before n kinds.True at word step = absurd cc
step_begun names room outer either before n kinds.False at word step = absurd cc
step_begun names room outer either before n kind at word step = ap (λ x. and_then x (λ side. Ok (guard_at outer either (First before side)))) step

-- the left side from its first token on
first_run : (names : Names) (room : ℕ) (outer : List Bracket) (either : Option Cond) (before : Before) (left : Left) (term : Expr) (ts : List Token) → Leads (expr_steps_in names (room - length outer)) fresh_expr ts (reader_at [] left (places.Has term))
    → Leads (guard_steps_in names room) (guard_at outer either (Wants before)) ts (guard_at outer either (First before (reader_at [] left (places.Has term))))
unfolding guard_step
first_run names room outer either before left term ts run =
    begun (λ side. guard_at outer either (First before side)) (guard_at outer either (Wants before))
    (λ n t step. step_begun names room outer either before n t.kind t.at t.word step)
    (λ s n t step. ap (λ x. and_then x (λ stage. Ok (guard_at outer either stage))) (step_first names (room - length outer) before s.outer s.left s.place n t.kind t.at t.word step))
    (λ same. let places' : places.Wants None ≡ places.Has term = ap (λ r. r.place) same in cc)
    run

second_run : (names : Names) (room : ℕ) (outer : List Bracket) (either : Option Cond) (before : Before) (rel : Rel) (a : Expr) (n : ExprReader) (ts : List Token) → Leads (expr_steps_in names (room - length outer)) fresh_expr ts n
    → Leads (guard_steps_in names room) (guard_at outer either (Second (record { before = before; rel = rel; left = a; side = fresh_expr }))) ts (guard_at outer either (Second (record { before = before; rel = rel; left = a; side = n })))
unfolding guard_step
second_run names room outer either before rel a n ts run =
    within (λ side. guard_at outer either (Second (record { before = before; rel = rel; left = a; side = side })))
    (λ s n t step. step_second names room outer either before rel a s.outer s.left s.place n t.kind t.at t.word step) run

-- ---- units and chains

-- units joined by `&&` have been read, perhaps with the last comparison still open at its end
pub data Stands : Stage → Cond → Type 0 where
  has : {c : Cond} → Stands (Has c) c
  half : {before : Before} {rel : Rel} {a term : Expr} {left : Left} → Stands (Second (record { before = before; rel = rel; left = a; side = reader_at [] left (places.Has term) })) (unit_of before (Compare rel a (sum_of left term)))

module _ (names : Names) (room : ℕ) (outer : List Bracket) (either : Option Cond) (t : Token) where
  pub behind_and : (stage : Stage) (c : Cond) → Stands stage c → t.kind ≡ kinds.And → guard_step names room (guard_at outer either stage) t ≡ Ok (guard_at outer either (Wants (record { both = Some c; nots = 0 })))
  unfolding guard_step after_unit in_second compared expr_value
  behind_and stage c has is = simp is refl
  behind_and stage c half is = simp is refl

  pub behind_or : (stage : Stage) (c : Cond) → Stands stage c → t.kind ≡ kinds.Or → guard_step names room (guard_at outer either stage) t ≡ Ok (guard_at outer (Some (disjunction_of either c)) (Wants nothing_before))
  unfolding guard_step after_unit in_second compared expr_value
  behind_or stage c has is = simp is refl
  behind_or stage c half is = simp is refl

  pub behind_bracket : (bracket : Bracket) (stage : Stage) (c : Cond) → Stands stage c → t.kind ≡ kinds.CloseBracket
      → guard_step names room (guard_at (bracket ∷ outer) either stage) t ≡ Ok (guard_at outer bracket.either (Has (unit_of bracket.before (disjunction_of either c))))
  unfolding guard_step after_unit bracket_closed in_second compared expr_value
  behind_bracket bracket stage c has is = simp is refl
  behind_bracket bracket stage c half is = simp is refl

  pub begins_bracket : (before : Before) → t.kind ≡ kinds.OpenBracket → length outer < room → guard_step names room (guard_at outer either (Wants before)) t ≡ Ok (guard_at (record { either = either; before = before } ∷ outer) None (Wants nothing_before))
  unfolding guard_step unit_wanted bracket_opened
  begins_bracket before is within = simp (is, lt-ltb (length outer) room within) refl

  pub begins_not : (before : Before) → t.kind ≡ kinds.Not → guard_step names room (guard_at outer either (Wants before)) t ≡ Ok (guard_at outer either (Wants (record { both = before.both; nots = before.nots + 1 })))
  unfolding guard_step unit_wanted
  begins_not before is = simp is refl

  pub begins_true : (before : Before) → t.kind ≡ kinds.True → guard_step names room (guard_at outer either (Wants before)) t ≡ Ok (guard_at outer either (Has (unit_of before True)))
  unfolding guard_step unit_wanted
  begins_true before is = simp is refl

  pub begins_false : (before : Before) → t.kind ≡ kinds.False → guard_step names room (guard_at outer either (Wants before)) t ≡ Ok (guard_at outer either (Has (unit_of before False)))
  unfolding guard_step unit_wanted
  begins_false before is = simp is refl

  pub ends_first : (before : Before) (left : Left) (term : Expr) (rel : Rel) → t.kind ≡ kinds.Relation rel → guard_step names room (guard_at outer either (First before (reader_at [] left (places.Has term)))) t
      ≡ Ok (guard_at outer either (Second (record { before = before; rel = rel; left = sum_of left term; side = fresh_expr })))
  unfolding guard_step in_first expr_value
  ends_first before left term rel is = simp is refl

nots_more : (n : ℕ) (c : Cond) → nots_of (n + 1) c ≡ nots_of n (guards.Not c)
nots_more n c = rw add-one (go n) where
  go : (n : ℕ) → nots_of (suc n) c ≡ nots_of n (guards.Not c)
  go zero = refl
  go (suc n) = ap (λ x. guards.Not x) (go n)

-- what the tokens of a part do to a reader
record ReadsUnit (names : Names) (room : ℕ) (outer : List Bracket) (either : Option Cond) (before : Before) (ts : List Token) (c : Cond) : Type 0 where
  stage : Stage
  run : Leads (guard_steps_in names room) (guard_at outer either (Wants before)) ts (guard_at outer either stage)
  stands : Stands stage c

record ReadsGuard (names : Names) (room : ℕ) (outer : List Bracket) (ts : List Token) (c : Cond) : Type 0 where
  either : Option Cond
  stage : Stage
  conjunction : Cond
  run : Leads (guard_steps_in names room) (guard_at outer None (Wants nothing_before)) ts (guard_at outer either stage)
  stands : Stands stage conjunction
  worth : disjunction_of either conjunction ≡ c

abbrev ReadsPart : Names → ℕ → List Bracket → GuardPart → List Token → Cond → Type 0
ReadsPart names room outer Unit' ts c = (either : Option Cond) (before : Before) → ReadsUnit names room outer either before ts (unit_of before c)
ReadsPart names room outer Both ts c = (either : Option Cond) → ReadsUnit names room outer either nothing_before ts c
ReadsPart names room outer Either ts c = ReadsGuard names room outer ts c

-- the same with another name for the guard
renamed : {names : Names} {room : ℕ} {outer : List Bracket} {either : Option Cond} {before : Before} {ts : List Token} (c d : Cond) → c ≡ d → ReadsUnit names room outer either before ts c → ReadsUnit names room outer either before ts d
renamed {names} {room} {outer} {either} {before} {ts} c d is r = subst (λ x. ReadsUnit names room outer either before ts x) is r

reads_guard : {names : Names} {part : GuardPart} {l : ℕ} {ts : List Token} {c : Cond} (room : ℕ) (outer : List Bracket) → length outer + l ≡ room → SpellsGuard names part l ts c → ReadsPart names room outer part ts c
reads_guard {names} room outer deep (truth {l} {t} is) = λ either before. record { stage = _; run = one (begins_true names room outer either t before is); stands = has }
reads_guard {names} room outer deep (falsity {l} {t} is) = λ either before. record { stage = _; run = one (begins_false names room outer either t before is); stands = has }
reads_guard {names} room outer deep (negation {l} {t} {ts} {c} is inner) = λ either before.
    let after : Before = record { both = before.both; nots = before.nots + 1 } in
    let body : ReadsUnit names room outer either after ts (unit_of after c) = reads_guard room outer deep inner either after in
    renamed _ _ (ap (λ x. conjunction_of before.both x) (nots_more before.nots c))
    (record { stage = body.stage; run = next (begins_not names room outer either t before is) body.run; stands = body.stands })
reads_guard {names} room outer deep (brackets {l} {opening} closing {ts} {c} opens inner closes) = λ either before.
    let bracket : Bracket = record { either = either; before = before } in
    let within : length (bracket ∷ outer) + l ≡ room = omega arith in
    let body : ReadsGuard names room (bracket ∷ outer) ts c = reads_guard room (bracket ∷ outer) within inner in
    record {
      stage = Has (unit_of before c);
      run = next (begins_bracket names room outer either opening before opens (omega arith))
          (onward body.run
          (one (behind_bracket names room outer body.either closing bracket body.stage body.conjunction body.stands closes ∙ ap (λ x. Ok (guard_at outer either (Has (unit_of before x)))) body.worth)));
      stands = has;
    }
reads_guard {names} room outer deep (relation {l} t {ts} {us} {rel} {a} {b} left is right) = λ either before.
    let deep' : 0 + l ≡ room - length outer = omega arith in
    let first : ReadsSum names (room - length outer) [] ts a = reads (room - length outer) [] deep' left in
    let second : ReadsSum names (room - length outer) [] us b = reads (room - length outer) [] deep' right in
    renamed _ _ (ap (λ x. unit_of before (Compare rel a x)) second.worth)
    (record {
      stage = _;
      run = onward (first_run names room outer either before first.left first.term ts first.run)
          (next
          (ends_first names room outer either t before first.left first.term rel is ∙ ap (λ x. Ok (guard_at outer either (Second (record { before = before; rel = rel; left = x; side = fresh_expr })))) first.worth)
          (second_run names room outer either before rel a _ us second.run));
      stands = half;
    })
reads_guard {names} room outer deep (lone_unit u) = λ either. reads_guard room outer deep u either nothing_before
reads_guard {names} room outer deep (conjoined {l} t {ts} {us} {c} {d} front is back) = λ either.
    let first : ReadsUnit names room outer either nothing_before ts c = reads_guard room outer deep front either in
    let before : Before = record { both = Some c; nots = 0 } in
    let second : ReadsUnit names room outer either before us (guards.And c d) = reads_guard room outer deep back either before in
    record {
      stage = second.stage;
      run = onward first.run (next (behind_and names room outer either t first.stage c first.stands is) second.run);
      stands = second.stands;
    }
reads_guard {names} room outer deep (lone_conjunction {l} {ts} {c} b) =
    let first : ReadsUnit names room outer None nothing_before ts c = reads_guard room outer deep b None in
    record { either = None; stage = first.stage; conjunction = c; run = first.run; stands = first.stands; worth = refl }
reads_guard {names} room outer deep (disjoined {l} t {ts} {us} {c} {d} front is back) =
    let first : ReadsGuard names room outer ts c = reads_guard room outer deep front in
    let second : ReadsUnit names room outer (Some c) nothing_before us d = reads_guard room outer deep back (Some c) in
    record {
      either = Some c;
      stage = second.stage;
      conjunction = d;
      run = onward first.run
          (next (behind_or names room outer first.either t first.stage first.conjunction first.stands is ∙ ap (λ x. Ok (guard_at outer (Some x) (Wants nothing_before))) first.worth) second.run);
      stands = second.stands;
      worth = refl;
    }

pub ends_guard : (end : ℕ) (either : Option Cond) (stage : Stage) (c : Cond) → Stands stage c → guard_value (guard_at [] either stage) end ≡ Ok (disjunction_of either c)
unfolding guard_value compared expr_value
ends_guard end either stage c has = refl
ends_guard end either stage c half = refl

-- what the tokens of a guard do to a reader that has read nothing; so many levels may be open
pub record GuardRuns (names : Names) (room : ℕ) (ts : List Token) (c : Cond) : Type 0 where
  pub reader : GuardReader
  pub run : Leads (guard_steps_in names room) fresh_guard ts reader
  pub ends : (at : ℕ) → guard_value reader at ≡ Ok c

pub guard_runs : {names : Names} {room : ℕ} {ts : List Token} {c : Cond} → SpellsGuard names Either room ts c → GuardRuns names room ts c
guard_runs {names} {room} {ts} {c} spelled =
    let r : ReadsGuard names room [] ts c = reads_guard room [] (omega arith) spelled in
    record { reader = guard_at [] r.either r.stage; run = r.run; ends = λ at. ends_guard at r.either r.stage r.conjunction r.stands ∙ ap (λ x. Ok x) r.worth }

-- Whatever spells a guard is read as that guard.
pub guard_spelled : (names : Names) (end : ℕ) (ts : List Token) (c : Cond) → SpellsGuard names Either 16 ts c → guard_read names end fresh_guard ts ≡ Ok c
guard_spelled names end ts c spelled =
    let r : GuardRuns names 16 ts c = guard_runs spelled in
    through (λ n. guard_value n end) r.run ∙ r.ends end
