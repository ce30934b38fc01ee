-- Action texts that are read in their one spelling: what is numbered next, and that it is read again.
use Rattle.std.proofs.Common.{◌≡◌, ◌≢◌, ℕ, ◌<◌, Bool, true, false, cond, ltb, leb, ◌&&◌, List, [], ◌∷◌, ◌++◌, length, Option, Some, None, Result, Ok, Err, refl, sym, ap, subst, ◌∙◌, arith}
use Rattle.std.specs.Str.{bytes_eq}
use Rattle.std.proofs.lemmas.Bool.{and_parts, ltb-true, leb-true, lt-ltb, le-leb}
use Rattle.std.proofs.lemmas.Slice.Eq.{bytes_eq-Decides}
use Rattle.pssm_model.specs.declared.ids.ActId.{ActId}
use Rattle.pssm_model.specs.declared.ids.GuardId.{GuardId}
use Rattle.pssm_semantics.specs.declared.setting.Names.{Names}
use Rattle.pssm_semantics.specs.declared.setting.Program.{Program}
use Rattle.pssm_semantics.specs.declared.tree.Act.{Act}
use Rattle.pssm_semantics.specs.declared.tree.Cond.{Cond}
use Rattle.pssm_acts.specs.declared.act_fault.ActFault.{ActFault}
use Rattle.pssm_acts.specs.ActText.{act_text, cond_text}
use Rattle.pssm_acts.specs.ActGrammar.{SpellsAct, nothing}
use Rattle.pssm_acts.specs.Grammar.{SpellsCond}
use Rattle.pssm_acts.specs.Tokens.{cut}
use Rattle.pssm_acts.specs.inner.ActReading.{act_reading}
use Rattle.pssm_acts.specs.inner.GuardReading.{cond_reading}
use Rattle.pssm_acts.proofs.ActLaws.{act_held}
use Rattle.pssm_acts.proofs.ActRead.{act_read}
use Rattle.pssm_acts.proofs.CondLaws.{reading_spelled, spelled_reading}
use Rattle.pssm_acts.proofs.Unchanged.{act_alone}
use Rattle.pssm_flat.specs.Flat.{IsLineText, IsNextAct, IsNextGuard}
use Rattle.pssm_flat.specs.inner.Outlines.{lifted, Numbered, act_put_in, act_numbered, act_or_fault, with_act, guard_numbered, guard_or_fault, with_guard}
use Rattle.pssm_flat.proofs.Bind.{chosen_some, some_is}

-- ---- answers

pub lifted_takes : {X Y : Type 0} (f : X → Y) (r : Result (Option X) ActFault) (y : Y) → lifted f r ≡ Ok (Some y) → (x : X) × (r ≡ Ok (Some x)) × (f x ≡ y)
lifted_takes f (Ok (Some x)) y e = (x, refl, cc)
lifted_takes f (Ok None) y e = absurd cc
lifted_takes f (Err fault) y e = absurd cc

pub lifted_fault : {X Y : Type 0} (f : X → Y) (r : Result (Option X) ActFault) (fault : ActFault) → lifted f r ≡ Err fault → r ≡ Err fault
lifted_fault f (Ok (Some x)) fault e = absurd cc
lifted_fault f (Ok None) fault e = absurd cc
lifted_fault f (Err other) fault e = let same : other ≡ fault = cc in ap Err same

-- a test that was met
pub met : {A : Type 0} (t : Bool) (r : Result (Option A) ActFault) (y : A) → cond t r (Ok None) ≡ Ok (Some y) → (t ≡ true) × (r ≡ Ok (Some y))
met true r y e = (refl, e)
met false r y e = absurd cc

pub met_fault : {A : Type 0} (t : Bool) (r : Result (Option A) ActFault) (fault : ActFault) → cond t r (Ok None) ≡ Err fault → (t ≡ true) × (r ≡ Err fault)
met_fault true r fault e = (refl, e)
met_fault false r fault e = absurd cc

-- ---- behaviours

-- a text that is numbered next
pub record ReadsNext (names : Names) (p : Program) (text : List ℕ) (a : ActId) (q : Program) : Type 0 where
  pub next : IsNextAct names p a q
  pub text_is : act_text names next.marks next.act ≡ text

no_statement : (names : Names) (marks : List (List ℕ)) (act : Act) (text : List ℕ) → act.stmts ≡ [] → act_text names marks act ≡ text → 0 < length text → ⊥
no_statement names marks act text none same some =
    let empty : act_text names marks act ≡ [] = rw none refl in
    absurd (omega (arith, some, ap length (sym same ∙ empty)))

numbered_takes : (names : Names) (p : Program) (text : List ℕ) (read : Act × List (List ℕ)) (y : Numbered) → IsLineText text → 0 < length text → length p.acts < 32768 → SpellsAct names p.marks text read.0 read.1 → act_numbered names p text read ≡ Some y
    → ReadsNext names p text y.0 y.1
numbered_takes names p text read y line some few spells e =
    let found = chosen_some (bytes_eq (act_text names read.1 read.0) text && leb (length read.1) 32768) (Some (act_put_in p read.0 read.1)) y e in
    let tests = and_parts (bytes_eq (act_text names read.1 read.0) text) (leb (length read.1) 32768) found.0 in
    let same : act_text names read.1 read.0 ≡ text = (bytes_eq-Decides (act_text names read.1 read.0) text).0 tests.0 in
    let made : ReadsNext names p text (act_put_in p read.0 read.1).0 (act_put_in p read.0 read.1).1 = record {
      next = record {
        act = read.0;
        marks = read.1;
        some = λ none. no_statement names read.1 read.0 text none same some;
        spelled = subst (λ t. SpellsAct names p.marks t read.0 read.1) (sym same) spells;
        line = subst IsLineText (sym same) line;
        number = refl;
        behind_is = refl;
        few_acts = few;
        few_marks = leb-true (length read.1) 32768 tests.1;
      };
      text_is = same;
    } in
    subst (λ (z : Numbered). ReadsNext names p text z.0 z.1) (some_is (act_put_in p read.0 read.1) y found.1) made

pub act_takes : (names : Names) (p : Program) (text : List ℕ) (y : Numbered) → IsLineText text → with_act names p text ≡ Ok (Some y) → ReadsNext names p text y.0 y.1
unfolding with_act
act_takes names p text y line e =
    let found = met (ltb 0 (length text) && ltb (length p.acts) 32768) (act_or_fault names p text (act_reading names p.marks text)) y e in
    let tests = and_parts (ltb 0 (length text)) (ltb (length p.acts) 32768) found.0 in
    by_reading (act_reading names p.marks text) refl found.1 (ltb-true 0 (length text) tests.0) (ltb-true (length p.acts) 32768 tests.1) where
      by_reading : (r : Result (Act × List (List ℕ)) ActFault) → act_reading names p.marks text ≡ r → act_or_fault names p text r ≡ Ok (Some y) → 0 < length text → length p.acts < 32768 → ReadsNext names p text y.0 y.1
      by_reading (Ok read) at_read e some few = numbered_takes names p text read y line some few (act_held names p.marks text read at_read) (let same : act_numbered names p text read ≡ Some y = cc in same)
      by_reading (Err fault) at_read e some few = absurd cc

-- An empty text spells the empty behaviour.
pub spells_nothing : (names : Names) (marks : List (List ℕ)) → SpellsAct names marks [] (record { stmts = [] }) marks
unfolding cut
spells_nothing names marks = record { short = omega arith; spelled = record { spelled = nothing; few = omega arith } }

some_text : (names : Names) (marks noted : List (List ℕ)) (text : List ℕ) (act : Act) → SpellsAct names marks text act noted → act.stmts ≢ [] → 0 < length text
some_text names marks noted [] act spells some =
    let alone = act_alone names marks [] act (record { stmts = [] }) noted marks spells (spells_nothing names marks) in
    absurd (some (ap (λ (a : Act). a.stmts) alone.0))
some_text names marks noted (c ∷ text) act spells some = omega arith

-- What is numbered next is read from its spelling.
pub act_again : (names : Names) (p : Program) (a : ActId) (q : Program) (next : IsNextAct names p a q) → with_act names p (act_text names next.marks next.act) ≡ Ok (Some (a, q))
unfolding with_act
act_again names p a q next =
    let text = act_text names next.marks next.act in
    let some = some_text names p.marks next.marks text next.act next.spelled next.some in
    let read = act_read names p.marks text next.act next.marks next.spelled in
    let number : a ≡ record { 0 = length p.acts } = ap (λ n. let i : ActId = record { 0 = n } in i) next.number in
    let numbered : act_put_in p next.act next.marks ≡ (a, q) =
    ap (λ (i : ActId). let y : Numbered = (i, (act_put_in p next.act next.marks).1) in y) (sym number) ∙ ap (λ (r : Program). let y : Numbered = (a, r) in y) (sym next.behind_is) in
    rw (lt-ltb 0 (length text) some, lt-ltb (length p.acts) 32768 next.few_acts, read, (bytes_eq-Decides text text).1 refl, le-leb (length next.marks) 32768 next.few_marks) (ap (λ (y : Numbered). Ok (Some y)) numbered)

-- the fault of a text is handed on
pub act_fault : (names : Names) (p : Program) (text : List ℕ) (fault : ActFault) → with_act names p text ≡ Err fault → act_reading names p.marks text ≡ Err fault
unfolding with_act
act_fault names p text fault e =
    let found = met_fault (ltb 0 (length text) && ltb (length p.acts) 32768) (act_or_fault names p text (act_reading names p.marks text)) fault e in by_reading (act_reading names p.marks text) refl found.1 where
      by_reading : (r : Result (Act × List (List ℕ)) ActFault) → act_reading names p.marks text ≡ r → act_or_fault names p text r ≡ Err fault → act_reading names p.marks text ≡ Err fault
      by_reading (Ok read) at_read e = absurd cc
      by_reading (Err other) at_read e = at_read ∙ (let same : other ≡ fault = cc in ap Err same)

-- ---- guards

pub record ReadsGuard (names : Names) (p : Program) (text : List ℕ) (g : GuardId) (q : Program) : Type 0 where
  pub next : IsNextGuard names p g.0 q
  pub text_is : cond_text names next.cond ≡ text

abbrev NumberedGuard : Type 0
NumberedGuard = GuardId × Program

abbrev guard_put : Program → Cond → NumberedGuard
guard_put p cond = (record { 0 = length p.guards }, record { acts = p.acts; guards = p.guards ++ cond ∷ []; marks = p.marks })

guard_kept : (names : Names) (p : Program) (text : List ℕ) (cond' : Cond) (y : NumberedGuard) → IsLineText text → length p.guards < 65536 → SpellsCond names text cond' → guard_numbered names p text cond' ≡ Some y → ReadsGuard names p text y.0 y.1
guard_kept names p text cond' y line few spells e =
    let found = chosen_some (bytes_eq (cond_text names cond') text) (Some (guard_put p cond')) y e in
    let same : cond_text names cond' ≡ text = (bytes_eq-Decides (cond_text names cond') text).0 found.0 in
    let made : ReadsGuard names p text (guard_put p cond').0 (guard_put p cond').1 = record {
      next = record { cond = cond'; spelled = subst (λ t. SpellsCond names t cond') (sym same) spells; line = subst IsLineText (sym same) line; number_is = refl; behind_is = refl; few = few };
      text_is = same;
    } in
    subst (λ (z : NumberedGuard). ReadsGuard names p text z.0 z.1) (some_is (guard_put p cond') y found.1) made

pub guard_takes : (names : Names) (p : Program) (text : List ℕ) (y : GuardId × Program) → IsLineText text → with_guard names p text ≡ Ok (Some y) → ReadsGuard names p text y.0 y.1
unfolding with_guard
guard_takes names p text y line e =
    let found = met (ltb (length p.guards) 65536) (guard_or_fault names p text (cond_reading names text)) y e in by_reading (cond_reading names text) refl found.1 (ltb-true (length p.guards) 65536 found.0) where
      by_reading : (r : Result Cond ActFault) → cond_reading names text ≡ r → guard_or_fault names p text r ≡ Ok (Some y) → length p.guards < 65536 → ReadsGuard names p text y.0 y.1
      by_reading (Ok c) at_read e few = guard_kept names p text c y line few (reading_spelled names text c at_read) (let same : guard_numbered names p text c ≡ Some y = cc in same)
      by_reading (Err fault) at_read e few = absurd cc

pub guard_again : (names : Names) (p : Program) (g : GuardId) (q : Program) (next : IsNextGuard names p g.0 q) → with_guard names p (cond_text names next.cond) ≡ Ok (Some (g, q))
unfolding with_guard
guard_again names p g q next =
    let text = cond_text names next.cond in
    let read = spelled_reading names text next.cond next.spelled in
    let number : g ≡ record { 0 = length p.guards } = ap (λ n. let i : GuardId = record { 0 = n } in i) next.number_is in
    let numbered : guard_put p next.cond ≡ (g, q) =
    ap (λ (i : GuardId). let y : NumberedGuard = (i, (guard_put p next.cond).1) in y) (sym number) ∙ ap (λ (r : Program). let y : NumberedGuard = (g, r) in y) (sym next.behind_is) in
    rw (lt-ltb (length p.guards) 65536 next.few, read, (bytes_eq-Decides text text).1 refl) (ap (λ (y : NumberedGuard). Ok (Some y)) numbered)

pub guard_fault : (names : Names) (p : Program) (text : List ℕ) (fault : ActFault) → with_guard names p text ≡ Err fault → cond_reading names text ≡ Err fault
unfolding with_guard
guard_fault names p text fault e =
    let found = met_fault (ltb (length p.guards) 65536) (guard_or_fault names p text (cond_reading names text)) fault e in by_reading (cond_reading names text) refl found.1 where
      by_reading : (r : Result Cond ActFault) → cond_reading names text ≡ r → guard_or_fault names p text r ≡ Err fault → cond_reading names text ≡ Err fault
      by_reading (Ok c) at_read e = absurd cc
      by_reading (Err other) at_read e = at_read ∙ (let same : other ≡ fault = cc in ap Err same)
