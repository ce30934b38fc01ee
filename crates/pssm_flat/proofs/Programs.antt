-- Programs that go on with another: the lines of what was numbered before stay as they are.
use Rattle.std.proofs.Common.{◌≡◌, ◌≢◌, inl, inr, ℕ, zero, suc, ◌<◌, false, List, [], ◌∷◌, ◌++◌, length, Some, refl, sym, ap, subst, ◌∙◌, append_assoc, arith}
use Rattle.std.specs.Prelude.{map, codes, slice_get}
use Rattle.std.proofs.lemmas.List.{append-nil}
use Rattle.pssm_model.specs.declared.ids.ActId.{ActId}
use Rattle.pssm_model.specs.declared.elements.Vertex.{Vertex}
use Rattle.pssm_model.specs.declared.elements.Transition.{Transition}
use Rattle.pssm_model.specs.declared.elements.Guard.{Guard}
use Rattle.pssm_model.specs.declared.elements.Guard.TheVariants.{Always, Otherwise, When}
use Rattle.pssm_semantics.specs.declared.setting.Names.{Names}
use Rattle.pssm_semantics.specs.declared.setting.Class.{Class}
use Rattle.pssm_semantics.specs.declared.setting.Program.{Program}
use Rattle.pssm_semantics.specs.declared.tree.Act.{Act}
use Rattle.pssm_semantics.specs.declared.tree.Cond.{Cond}
use Rattle.pssm_semantics.specs.declared.tree.Stmt.{Stmt}
use Rattle.pssm_acts.specs.ActText.{act_text, cond_text}
use Rattle.pssm_acts.specs.Marks.{KeepsMarks}
use Rattle.pssm_acts.proofs.ActTextLaws.{kept_on}
use Rattle.pssm_acts.proofs.AnswerLaws.{same_kept}
use Rattle.pssm_acts.proofs.OtherMarks.{stmts_keep}
use Rattle.pssm_acts.proofs.Unchanged.{written_alike}
use Rattle.pssm_flat.specs.Text.{numbered, is_empty_act, behaviour_lines, step_line, guard_lines, vertex_line, vertex_lines, defer_line, transition_line, transition_lines, on_line}
use Rattle.pssm_flat.specs.Flat.{Leads, IsNextAct, LeadsAct, IsNextGuard, LeadsGuard, LeadsVertex, LeadsTransition, first_program}
use Rattle.pssm_flat.proofs.Items.{get_behind}

-- The second has the behaviours, guards and marks of the first in their places.
pub record GoesOnTo (p q : Program) : Type 0 where
  pub acts : List Act
  pub acts_are : q.acts ≡ p.acts ++ acts
  pub guards : List Cond
  pub guards_are : q.guards ≡ p.guards ++ guards
  pub marks : KeepsMarks p.marks q.marks

pub same_on : (p q : Program) → p ≡ q → GoesOnTo p q
same_on p q same =
    subst (λ (r : Program). GoesOnTo p r) same (record { acts = []; acts_are = sym (append-nil p.acts); guards = []; guards_are = sym (append-nil p.guards); marks = same_kept p.marks p.marks refl })

pub on_and_on : (p q r : Program) → GoesOnTo p q → GoesOnTo q r → GoesOnTo p r
on_and_on p q r a b = record {
  acts = a.acts ++ b.acts;
  acts_are = b.acts_are ∙ ap (λ xs. xs ++ b.acts) a.acts_are ∙ append_assoc p.acts a.acts b.acts;
  guards = a.guards ++ b.guards;
  guards_are = b.guards_are ∙ ap (λ xs. xs ++ b.guards) a.guards_are ∙ append_assoc p.guards a.guards b.guards;
  marks = kept_on p.marks q.marks r.marks a.marks b.marks;
}

pub act_on : (names : Names) (p : Program) (a : ActId) (q : Program) → LeadsAct names p a q → GoesOnTo p q
act_on names p a q (inl none) = same_on p q none.1
act_on names p a q (inr next) =
    subst (λ (r : Program). GoesOnTo p r) (sym next.behind_is) (record { acts = next.act ∷ []; acts_are = refl; guards = []; guards_are = sym (append-nil p.guards); marks = stmts_keep next.spelled.spelled.spelled })

guard_next_on : (names : Names) (p : Program) (n : ℕ) (q : Program) → IsNextGuard names p n q → GoesOnTo p q
guard_next_on names p n q next =
    subst (λ (r : Program). GoesOnTo p r) (sym next.behind_is) (record { acts = []; acts_are = sym (append-nil p.acts); guards = next.cond ∷ []; guards_are = refl; marks = same_kept p.marks p.marks refl })

pub guard_on : (names : Names) (p : Program) (g : Guard) (q : Program) → LeadsGuard names p g q → GoesOnTo p q
guard_on names p Always q same = same_on p q same
guard_on names p Otherwise q same = same_on p q same
guard_on names p (When g) q next = guard_next_on names p g.0 q next

pub leads_on : {X : Type 0} (Step : Program → X → Program → Type 0) → ((p : Program) (x : X) (q : Program) → Step p x q → GoesOnTo p q) → (p : Program) (xs : List X) (q : Program) → Leads Step p xs q → GoesOnTo p q
leads_on Step on p [] q same = same_on p q same
leads_on Step on p (x ∷ xs) q leads = on_and_on p leads.0 q (on p x leads.0 leads.1) (leads_on Step on leads.0 xs q leads.2)

pub steps_on : (names : Names) (p : Program) (xs : List ActId) (q : Program) → Leads (LeadsAct names) p xs q → GoesOnTo p q
steps_on names p xs q leads = leads_on (LeadsAct names) (act_on names) p xs q leads

pub vertex_on : (names : Names) (p : Program) (v : Vertex) (q : Program) → LeadsVertex names p v q → GoesOnTo p q
vertex_on names p v q leads =
    on_and_on p leads.entered q (act_on names p v.entry leads.entered leads.entry)
    (on_and_on leads.entered leads.left q (act_on names leads.entered v.exit leads.left leads.exit) (steps_on names leads.left v.steps q leads.steps))

pub transition_on : (names : Names) (p : Program) (t : Transition) (q : Program) → LeadsTransition names p t q → GoesOnTo p q
transition_on names p t q leads = on_and_on p leads.guarded q (guard_on names p t.guard leads.guarded leads.guard) (act_on names leads.guarded t.effect q leads.effect)

-- ---- the lines of behaviours

get_within : {X : Type 0} (xs ys : List X) (n : ℕ) (x : X) → slice_get xs n ≡ Some x → slice_get (xs ++ ys) n ≡ Some x
get_within [] ys zero x e = absurd cc
get_within [] ys (suc n) x e = absurd cc
get_within (y ∷ xs) ys zero x e = e
get_within (y ∷ xs) ys (suc n) x e = get_within xs ys n x e

abbrev pub empty_act : Act
empty_act = record { stmts = [] }

-- the empty behaviour is number 0
pub first_is_empty : (p : Program) → GoesOnTo first_program p → slice_get p.acts 0 ≡ Some empty_act
first_is_empty p on = rw on.acts_are refl

pub some_acts : (p : Program) → GoesOnTo first_program p → 0 < length p.acts
some_acts p on = rw on.acts_are (omega arith)

-- the behaviour that was numbered next is found by its number
pub act_found : (names : Names) (p : Program) (a : ActId) (q r : Program) (next : IsNextAct names p a q) → GoesOnTo q r → slice_get r.acts a.0 ≡ Some next.act
act_found names p a q r next on =
    let all : r.acts ≡ p.acts ++ next.act ∷ on.acts =
    on.acts_are ∙ ap (λ (x : Program). x.acts ++ on.acts) next.behind_is ∙ append_assoc p.acts (next.act ∷ []) on.acts in
    ap (λ n. slice_get r.acts n) next.number ∙ ap (λ xs. slice_get xs (length p.acts)) all ∙ get_behind p.acts on.acts next.act

-- and is written as it was read
pub text_found : (names : Names) (p : Program) (a : ActId) (q r : Program) (next : IsNextAct names p a q) → GoesOnTo q r → act_text names r.marks next.act ≡ act_text names next.marks next.act
text_found names p a q r next on =
    let kept : KeepsMarks next.marks r.marks = subst (λ (x : Program). KeepsMarks x.marks r.marks) next.behind_is on.marks in
    written_alike names p.marks p.marks (act_text names next.marks next.act) next.act next.act next.marks next.marks next.marks r.marks next.spelled next.spelled (same_kept next.marks next.marks refl) kept

pub not_empty : (stmts : List Stmt) → stmts ≢ [] → is_empty_act stmts ≡ false
not_empty [] some = absurd (some refl)
not_empty (s ∷ rest) some = refl

-- the line of a behaviour that was numbered next
abbrev pub own_line : List ℕ → Names → List (List ℕ) → Act → List ℕ
own_line word names marks act = word ++ (codes " " ++ act_text names marks act)

abbrev pub own_lines : (word : List ℕ) (names : Names) (p : Program) (a : ActId) (q : Program) → LeadsAct names p a q → List (List ℕ)
own_lines word names p a q (inl none) = []
own_lines word names p a q (inr next) = own_line word names next.marks next.act ∷ []

pub no_lines : (word : List ℕ) (names : Names) (x : Class) (a : ActId) → a.0 ≡ 0 → GoesOnTo first_program x.program → behaviour_lines word names x a ≡ []
no_lines word names x a none on = rw (none, first_is_empty x.program on) refl

pub lines_found : (word : List ℕ) (names : Names) (x : Class) (p : Program) (a : ActId) (q : Program) (leads : LeadsAct names p a q) → GoesOnTo first_program p → GoesOnTo q x.program
    → behaviour_lines word names x a ≡ own_lines word names p a q leads
lines_found word names x p a q (inl none) first on = no_lines word names x a none.0 (on_and_on first_program p x.program first (on_and_on p q x.program (same_on p q none.1) on))
lines_found word names x p a q (inr next) first on =
    rw (act_found names p a q x.program next on, not_empty next.act.stmts next.some) (ap (λ t. (word ++ (codes " " ++ t)) ∷ []) (text_found names p a q x.program next on))

-- the line of a do step
abbrev pub own_step : (names : Names) (p : Program) (a : ActId) (q : Program) → LeadsAct names p a q → List ℕ
own_step names p a q (inl none) = codes "step"
own_step names p a q (inr next) = codes "step " ++ act_text names next.marks next.act

pub step_found : (names : Names) (x : Class) (p : Program) (a : ActId) (q : Program) (leads : LeadsAct names p a q) → GoesOnTo first_program p → GoesOnTo q x.program → step_line names x a ≡ own_step names p a q leads
step_found names x p a q (inl none) first on =
    let whole = on_and_on first_program p x.program first (on_and_on p q x.program (same_on p q none.1) on) in
    rw (none.0, first_is_empty x.program whole) refl
step_found names x p a q (inr next) first on =
    rw (act_found names p a q x.program next on, not_empty next.act.stmts next.some) (ap (λ t. codes "step " ++ t) (text_found names p a q x.program next on))

-- the line of a guard
pub cond_found : (names : Names) (p : Program) (n : ℕ) (q r : Program) (next : IsNextGuard names p n q) → GoesOnTo q r → slice_get r.guards n ≡ Some next.cond
cond_found names p n q r next on =
    let all : r.guards ≡ p.guards ++ next.cond ∷ on.guards =
    on.guards_are ∙ ap (λ (x : Program). x.guards ++ on.guards) next.behind_is ∙ append_assoc p.guards (next.cond ∷ []) on.guards in
    ap (λ k. slice_get r.guards k) next.number_is ∙ ap (λ xs. slice_get xs (length p.guards)) all ∙ get_behind p.guards on.guards next.cond

abbrev pub own_guard : (names : Names) (p : Program) (g : Guard) (q : Program) → LeadsGuard names p g q → List (List ℕ)
own_guard names p Always q leads = []
own_guard names p Otherwise q leads = codes "else" ∷ []
own_guard names p (When g) q leads = (codes "if " ++ cond_text names leads.cond) ∷ []

pub guard_found : (names : Names) (x : Class) (p : Program) (g : Guard) (q : Program) (leads : LeadsGuard names p g q) → GoesOnTo q x.program → guard_lines names x g ≡ own_guard names p g q leads
guard_found names x p Always q leads on = refl
guard_found names x p Otherwise q leads on = refl
guard_found names x p (When g) q leads on = rw (cond_found names p g.0 q x.program leads on) refl

-- ---- the lines of elements stay

act_stays : (word : List ℕ) (names : Names) (x y : Class) (p : Program) (a : ActId) (q : Program) → LeadsAct names p a q → GoesOnTo first_program p → GoesOnTo q x.program → GoesOnTo q y.program
    → behaviour_lines word names x a ≡ behaviour_lines word names y a
act_stays word names x y p a q leads first on on' = lines_found word names x p a q leads first on ∙ sym (lines_found word names y p a q leads first on')

steps_stay : (names : Names) (x y : Class) (p : Program) (xs : List ActId) (q : Program) → Leads (LeadsAct names) p xs q → GoesOnTo first_program p → GoesOnTo q x.program → GoesOnTo q y.program
    → map (step_line names x) xs ≡ map (step_line names y) xs
steps_stay names x y p [] q leads first on on' = refl
steps_stay names x y p (a ∷ xs) q leads first on on' =
    let more = steps_on names leads.0 xs q leads.2 in
    let here : step_line names x a ≡ step_line names y a =
    step_found names x p a leads.0 leads.1 first (on_and_on leads.0 q x.program more on) ∙ sym (step_found names y p a leads.0 leads.1 first (on_and_on leads.0 q y.program more on')) in
    let rest = steps_stay names x y leads.0 xs q leads.2 (on_and_on first_program p leads.0 first (act_on names p a leads.0 leads.1)) on on' in
    ap (λ l. l ∷ map (step_line names x) xs) here ∙ ap (λ ls. step_line names y a ∷ ls) rest

pub vertex_stays : (names : Names) (x y : Class) (n : ℕ) (p : Program) (v : Vertex) (q : Program) → LeadsVertex names p v q → GoesOnTo first_program p → GoesOnTo q x.program → GoesOnTo q y.program
    → vertex_lines names x n v ≡ vertex_lines names y n v
vertex_stays names x y n p v q leads first on on' =
    let entry_on = act_on names p v.entry leads.entered leads.entry in
    let exit_on = act_on names leads.entered v.exit leads.left leads.exit in
    let steps_go = steps_on names leads.left v.steps q leads.steps in
    let first_entered = on_and_on first_program p leads.entered first entry_on in
    let first_left = on_and_on first_program leads.entered leads.left first_entered exit_on in
    let behind_exit : (z : Class) → GoesOnTo q z.program → GoesOnTo leads.left z.program = λ z g. on_and_on leads.left q z.program steps_go g in
    let behind_entry : (z : Class) → GoesOnTo q z.program → GoesOnTo leads.entered z.program = λ z g. on_and_on leads.entered leads.left z.program exit_on (behind_exit z g) in
    let entry = act_stays (codes "entry") names x y p v.entry leads.entered leads.entry first (behind_entry x on) (behind_entry y on') in
    let exit = act_stays (codes "exit") names x y leads.entered v.exit leads.left leads.exit first_entered (behind_exit x on) (behind_exit y on') in
    let steps = steps_stay names x y leads.left v.steps q leads.steps first_left on on' in
    let defers = map (defer_line names.signals) v.defers in
    ap (λ ls. vertex_line n v ∷ (ls ++ (behaviour_lines (codes "exit") names x v.exit ++ (map (step_line names x) v.steps ++ defers)))) entry
    ∙ ap (λ ls. vertex_line n v ∷ (behaviour_lines (codes "entry") names y v.entry ++ (ls ++ (map (step_line names x) v.steps ++ defers)))) exit
    ∙ ap (λ ls. vertex_line n v ∷ (behaviour_lines (codes "entry") names y v.entry ++ (behaviour_lines (codes "exit") names y v.exit ++ (ls ++ defers)))) steps

pub transition_stays : (names : Names) (x y : Class) (n : ℕ) (p : Program) (t : Transition) (q : Program) → LeadsTransition names p t q → GoesOnTo first_program p → GoesOnTo q x.program → GoesOnTo q y.program
    → transition_lines names x n t ≡ transition_lines names y n t
transition_stays names x y n p t q leads first on on' =
    let guard_go = guard_on names p t.guard leads.guarded leads.guard in
    let effect_go = act_on names leads.guarded t.effect q leads.effect in
    let guard = guard_found names x p t.guard leads.guarded leads.guard (on_and_on leads.guarded q x.program effect_go on) ∙ sym (guard_found names y p t.guard leads.guarded leads.guard (on_and_on leads.guarded q y.program effect_go on')) in
    let effect = act_stays (codes "effect") names x y leads.guarded t.effect q leads.effect (on_and_on first_program p leads.guarded first guard_go) on on' in
    let triggers = map (on_line names.signals) t.triggers in
    ap (λ ls. transition_line n t ∷ (triggers ++ (ls ++ behaviour_lines (codes "effect") names x t.effect))) guard
    ∙ ap (λ ls. transition_line n t ∷ (triggers ++ (guard_lines names y t.guard ++ ls))) effect

pub all_stay : {X : Type 0} (Step : Program → X → Program → Type 0) (f g : ℕ → X → List (List ℕ)) (x y : Program) → ((p : Program) (i : X) (q : Program) → Step p i q → GoesOnTo p q)
    → ((n : ℕ) (p : Program) (i : X) (q : Program) → Step p i q → GoesOnTo first_program p → GoesOnTo q x → GoesOnTo q y → f n i ≡ g n i)
    → (n : ℕ) (p : Program) (xs : List X) (q : Program) → Leads Step p xs q → GoesOnTo first_program p → GoesOnTo q x → GoesOnTo q y → numbered f n xs ≡ numbered g n xs
all_stay Step f g x y on stays n p [] q leads first to to' = refl
all_stay Step f g x y on stays n p (i ∷ xs) q leads first to to' =
    let more = leads_on Step on leads.0 xs q leads.2 in
    let here = stays n p i leads.0 leads.1 first (on_and_on leads.0 q x more to) (on_and_on leads.0 q y more to') in
    let rest = all_stay Step f g x y on stays (suc n) leads.0 xs q leads.2 (on_and_on first_program p leads.0 first (on p i leads.0 leads.1)) to to' in
    ap (λ ls. ls ++ numbered f (suc n) xs) here ∙ ap (λ ls. g n i ++ ls) rest

pub vertices_stay : (names : Names) (x y : Class) (n : ℕ) (p : Program) (vs : List Vertex) (q : Program) → Leads (LeadsVertex names) p vs q → GoesOnTo first_program p → GoesOnTo q x.program → GoesOnTo q y.program
    → numbered (vertex_lines names x) n vs ≡ numbered (vertex_lines names y) n vs
vertices_stay names x y = all_stay (LeadsVertex names) (vertex_lines names x) (vertex_lines names y) x.program y.program (vertex_on names) (vertex_stays names x y)

pub transitions_stay : (names : Names) (x y : Class) (n : ℕ) (p : Program) (ts : List Transition) (q : Program) → Leads (LeadsTransition names) p ts q → GoesOnTo first_program p → GoesOnTo q x.program → GoesOnTo q y.program
    → numbered (transition_lines names x) n ts ≡ numbered (transition_lines names y) n ts
transitions_stay names x y = all_stay (LeadsTransition names) (transition_lines names x) (transition_lines names y) x.program y.program (transition_on names) (transition_stays names x y)

-- the number 0 leads nowhere
pub zero_stays : (names : Names) (p : Program) (a : ActId) (q : Program) → GoesOnTo first_program p → a.0 ≡ 0 → LeadsAct names p a q → p ≡ q
zero_stays names p a q first zero_is (inl none) = none.1
zero_stays names p a q first zero_is (inr next) = absurd (let some = some_acts p first in let number = next.number in omega (arith, some, number, zero_is))
