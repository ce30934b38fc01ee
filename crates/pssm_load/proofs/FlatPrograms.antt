-- Behaviours, guards and marks of a model file are numbered in the order of the lines of its flat text, and their lines can be written.
use Rattle.std.proofs.Common.{◌≡◌, ◌≢◌, ◌≤◌, ◌<◌, ℕ, zero, suc, Bool, true, false, List, [], ◌∷◌, ◌++◌, length, take, map, inl, inr, refl, sym, ap, ◌∙◌, subst, arith, append_assoc, append-nil, length-append, if◌then◌else◌}
use Rattle.std.specs.List.{AllByRecursion}
use Rattle.std.proofs.lemmas.List.Elements.{All-from_recursion, recursion_from_All}
use Rattle.pssm_model.specs.declared.ids.ActId.{ActId}
use Rattle.pssm_model.specs.declared.elements.Vertex.{Vertex}
use Rattle.pssm_model.specs.declared.elements.Transition.{Transition}
use Rattle.pssm_model.specs.declared.elements.DraftMachine.{DraftMachine}
use Rattle.pssm_model.specs.declared.elements.Guard.{Guard}
use Rattle.pssm_model.specs.declared.draft_setting.Body.{Body}
use Rattle.pssm_model.specs.declared.draft_setting.FlatDraft.{FlatDraft}
use Rattle.pssm_semantics.specs.declared.setting.Names.{Names}
use Rattle.pssm_semantics.specs.declared.setting.Program.{Program}
use Rattle.pssm_semantics.specs.declared.setting.SignalDecl.{SignalDecl}
use Rattle.pssm_semantics.specs.declared.tree.Act.{Act}
use Rattle.pssm_semantics.specs.declared.tree.Cond.{Cond}
use Rattle.pssm_semantics.specs.declared.tree.Stmt.{Stmt}
use Rattle.pssm_semantics.specs.Fits.{ActFits}
use Rattle.pssm_spelling.specs.Spelling.{IsName}
use Rattle.pssm_acts.specs.ActGrammar.{SpellsBehaviour, SpellsAct, SpellsBehaviours, first, step}
use Rattle.pssm_acts.specs.ActText.{act_text, cond_text}
use Rattle.pssm_acts.specs.Marks.{KeepsMarks}
use Rattle.pssm_acts.specs.ReadBack.{AreNames, cond_levels, stmts_levels}
use Rattle.pssm_acts.specs.Tokens.{Token, tokens_of}
use Rattle.pssm_acts.specs.Vocabularies.{vocabulary}
use Rattle.pssm_acts.proofs.ActTextLaws.{kept_on}
use Rattle.pssm_acts.proofs.AnswerLaws.{same_kept}
use Rattle.pssm_acts.proofs.MarkNames.{AreMarks}
use Rattle.pssm_acts.proofs.OtherMarks.{stmts_keep}
use Rattle.pssm_acts.proofs.Renumbered.{stmts_renumbered}
use Rattle.pssm_acts.proofs.TokenLaws.{spelled_fits}
use Rattle.pssm_bodies.specs.Slots.{text_at}
use Rattle.pssm_bodies.specs.Readings.{is_empty, first_program, number_of, with_act, with_marks}
use Rattle.pssm_bodies.specs.Programs.{NumbersAct, AreNumbered, NumbersSteps, without, NumbersGuard, always, otherwise, when, NumbersVertex, NumbersTransition, AllNumbered, IsProgrammed}
use Rattle.pssm_bodies.specs.Programs.{steps as numbers_steps}
use Rattle.pssm_bodies.proofs.FitSound.{with_act_marks}
use Rattle.pssm_flat.specs.Flat.{IsLineText, Leads, IsNextAct, LeadsAct, LeadsGuard, LeadsVertex, LeadsTransition, IsNumbered}
use Rattle.pssm_load.proofs.FreeNames.{FreeWords, free_parts, tokens_free, guard_plain, stmts_plain, stmts_same}
use Rattle.pssm_load.proofs.ReadAgain.{HaveNames, spelled_again, written_same, guard_again}
use Rattle.pssm_load.proofs.PlainBytes.{guard_line, act_line}

-- ---- fronts of lists

-- The list begins so.
abbrev Front : {X : Type 0} → List X → List X → Type 0
Front {X} xs all = (rest : List X) × (xs ++ rest ≡ all)

whole_front : {X : Type 0} (xs : List X) → Front xs xs
whole_front xs = ([], append-nil xs)

shorter_front : {X : Type 0} (xs ys all : List X) → Front (xs ++ ys) all → Front xs all
shorter_front xs ys all front = (ys ++ front.0, sym (append_assoc xs ys front.0) ∙ front.1)

at_seam : {X : Type 0} (P : X → Type 0) (xs : List X) (x : X) (rest : List X) → AllByRecursion P (xs ++ x ∷ rest) → P x
at_seam P [] x rest all = all.0
at_seam P (y ∷ xs) x rest all = at_seam P xs x rest all.1

last_of_front : {X : Type 0} (P : X → Type 0) (xs all : List X) (x : X) → AllByRecursion P all → Front (xs ++ x ∷ []) all → P x × (length xs < length all)
last_of_front P xs all x hold front =
    let same : xs ++ (x ∷ front.0) ≡ all = sym (append_assoc xs (x ∷ []) front.0) ∙ front.1 in
    let size : length (xs ++ (x ∷ front.0)) ≡ length all = ap length same in
    (at_seam P xs x front.0 (subst (AllByRecursion P) (sym same) hold), omega (arith, length-append xs (x ∷ front.0), size))

take_short : {X : Type 0} (n : ℕ) (xs : List X) → length (take n xs) ≤ length xs
take_short zero xs = omega arith
take_short (suc n) [] = omega arith
take_short (suc n) (x ∷ xs) = let less = take_short n xs in omega (arith, less)

kept_grow : (marks more : List (List ℕ)) → KeepsMarks marks more → length marks ≤ length more
kept_grow marks more kept = let size = ap length kept in omega (arith, size, take_short (length marks) more)

-- ---- programs

-- What is asked of a behaviour and of a guard of the whole program.
abbrev pub ActHolds : Names → List (List ℕ) → Act → Type 0
ActHolds names marks act = ActFits (vocabulary names marks) act × (length (act_text names marks act) ≤ 4096) × (stmts_levels act.stmts ≤ 16)

abbrev pub GuardHolds : Names → Cond → Type 0
GuardHolds names c = (length (cond_text names c) ≤ 4096) × (cond_levels c ≤ 16)

-- a whole program whose behaviours and guards can be written and read back
pub record CanBeNumbered (names : Names) (final : Program) : Type 0 where
  pub acts : AllByRecursion (ActHolds names final.marks) final.acts
  pub guards : AllByRecursion (GuardHolds names) final.guards
  pub marks : AreMarks final.marks
  pub few_acts : length final.acts ≤ 32768
  pub few_marks : length final.marks ≤ 32768
  pub few_guards : length final.guards ≤ 65536

-- The whole program begins so.
record IsFront (p final : Program) : Type 0 where
  acts : Front p.acts final.acts
  guards : Front p.guards final.guards
  marks : KeepsMarks p.marks final.marks

named_each : (signals : List SignalDecl) → AllByRecursion IsName (map (λ (d : SignalDecl). d.name) signals)
    → AllByRecursion (λ (d : SignalDecl). IsName d.name) signals
named_each [] all = tt
named_each (d ∷ signals) all = (all.0, named_each signals all.1)

nothing_noted : (last marks noted : List (List ℕ)) (stmts : List Stmt) → is_empty stmts ≡ true → stmts_renumbered last marks stmts ≡ (stmts, noted)
    → marks ≡ noted
nothing_noted last marks noted [] e same = ap (λ (pair : List Stmt × List (List ℕ)). pair.1) same
nothing_noted last marks noted (s ∷ rest) e same = absurd cc

act_guards : (p : Program) (act : Act) → (with_act p act).guards ≡ p.guards
act_guards p act = go (is_empty act.stmts) where
  go : (b : Bool) → (if b then p else record { acts = p.acts ++ act ∷ []; guards = p.guards; marks = p.marks }).guards ≡ p.guards
  go true = refl
  go false = refl

act_front : (p : Program) (act : Act) (all : List Act) → Front (with_act p act).acts all → Front p.acts all
act_front p act all = go (is_empty act.stmts) where
  go : (b : Bool) → Front (if b then p else record { acts = p.acts ++ act ∷ []; guards = p.guards; marks = p.marks }).acts all → Front p.acts all
  go true front = front
  go false front = shorter_front p.acts (act ∷ []) all front

-- Marks and behaviours are put there in either order.
act_then_marks : (p : Program) (act : Act) (noted : List (List ℕ)) → with_act (with_marks p noted) act ≡ with_marks (with_act p act) noted
act_then_marks p act noted = go (is_empty act.stmts) where
  go : (b : Bool) → (if b then with_marks p noted else record { acts = p.acts ++ act ∷ []; guards = p.guards; marks = noted })
      ≡ with_marks (if b then p else record { acts = p.acts ++ act ∷ []; guards = p.guards; marks = p.marks }) noted
  go true = refl
  go false = refl

own_marks : (p : Program) (marks : List (List ℕ)) → p.marks ≡ marks → p ≡ with_marks p marks
own_marks p marks e = ap (λ (m : List (List ℕ)). with_marks p m) e

abbrev no_id : ActId
no_id = record { 0 = 0 }

abbrev next_id : Program → ActId
next_id p = record { 0 = length p.acts }

-- ---- behaviours one behind the other

record Split (p : Program) (acts : List Act) (act : Act) (to : List ActId) (q : Program) : Type 0 where
  front : List ActId
  last : ActId
  to_is : to ≡ front ++ last ∷ []
  middle : Program
  before : AreNumbered p acts front middle
  last_is : last ≡ number_of middle act
  behind : with_act middle act ≡ q

split : (p : Program) (acts : List Act) (act : Act) (to : List ActId) (q : Program) → AreNumbered p (acts ++ act ∷ []) to q → Split p acts act to q
split p [] act [] q n = absurd n
split p [] act (a ∷ []) q n = record { front = []; last = a; to_is = refl; middle = p; before = refl; last_is = n.0; behind = n.1 }
split p [] act (a ∷ b ∷ more) q n = absurd n.1
split p (x ∷ acts) act [] q n = absurd n
split p (x ∷ acts) act (a ∷ more) q n =
    let rest = split (with_act p x) acts act more q n.1 in
    record {
      front = a ∷ rest.front;
      last = rest.last;
      to_is = ap (λ (m : List ActId). a ∷ m) rest.to_is;
      middle = rest.middle;
      before = (n.0, rest.before);
      last_is = rest.last_is;
      behind = rest.behind;
    }

numbered_marks : (p : Program) (acts : List Act) (to : List ActId) (q : Program) → AreNumbered p acts to q → q.marks ≡ p.marks
numbered_marks p [] [] q e = ap (λ (r : Program). r.marks) (sym e)
numbered_marks p (act ∷ acts) (a ∷ more) q n = numbered_marks (with_act p act) acts more q n.1 ∙ with_act_marks p act
numbered_marks p [] (a ∷ more) q n = absurd n
numbered_marks p (act ∷ acts) [] q n = absurd n

numbered_guards : (p : Program) (acts : List Act) (to : List ActId) (q : Program) → AreNumbered p acts to q → q.guards ≡ p.guards
numbered_guards p [] [] q e = ap (λ (r : Program). r.guards) (sym e)
numbered_guards p (act ∷ acts) (a ∷ more) q n = numbered_guards (with_act p act) acts more q n.1 ∙ act_guards p act
numbered_guards p [] (a ∷ more) q n = absurd n
numbered_guards p (act ∷ acts) [] q n = absurd n

numbered_front : (p : Program) (acts : List Act) (to : List ActId) (q : Program) (all : List Act) → AreNumbered p acts to q → Front q.acts all
    → Front p.acts all
numbered_front p [] [] q all e front = subst (λ (r : Program). Front r.acts all) (sym e) front
numbered_front p (act ∷ acts) (a ∷ more) q all n front = act_front p act all (numbered_front (with_act p act) acts more q all n.1 front)
numbered_front p [] (a ∷ more) q all n front = absurd n
numbered_front p (act ∷ acts) [] q all n front = absurd n

leads_push : {S X : Type 0} (Step : S → X → S → Type 0) (a : S) (xs : List X) (b : S) (x : X) (c : S) → Leads Step a xs b → Step b x c
    → Leads Step a (xs ++ x ∷ []) c
leads_push Step a [] b x c e one = (c, subst (λ s. Step s x c) (sym e) one, refl)
leads_push Step a (y ∷ xs) b x c leads one = (leads.0, leads.1, leads_push Step leads.0 xs b x c leads.2 one)

behaviours_keep : {names : Names} {marks noted : List (List ℕ)} {ts : List Token} {acts : List Act} → SpellsBehaviours names marks ts acts noted
    → KeepsMarks marks noted
behaviours_keep (first spelled) = stmts_keep spelled.spelled
behaviours_keep (step {ts} {us} step' semicolon {acts} {act} {marks} {noted} {more} before is ends spelled) = kept_on marks noted more (behaviours_keep before) (stmts_keep spelled.spelled)

-- ---- what was read of a model file can be written

module _ (names : Names) (have : HaveNames names) (final : Program) (can : CanBeNumbered names final) where
  known : AreNames final.marks
  known = record { each = All-from_recursion IsName final.marks can.marks.names; differ = can.marks.differ }

  vars : AllByRecursion IsName names.vars
  vars = recursion_from_All IsName names.vars have.vars.each

  objects : AllByRecursion IsName names.objects
  objects = recursion_from_All IsName names.objects have.objects.each

  signals : AllByRecursion (λ (d : SignalDecl). IsName d.name) names.signals
  signals = named_each names.signals (recursion_from_All IsName (map (λ (d : SignalDecl). d.name) names.signals) have.signals.each)

  -- ---- behaviours

  next_act : (p : Program) (ts : List Token) (act : Act) (noted : List (List ℕ)) → FreeWords ts → SpellsBehaviour names p.marks ts act noted
      → KeepsMarks noted final.marks → act.stmts ≢ []
      → Front (p.acts ++ act ∷ []) final.acts → IsNextAct names p (record { 0 = length p.acts }) (record { acts = p.acts ++ act ∷ []; guards = p.guards; marks = noted })
  next_act p ts act noted free spells kept some front =
      let holds = last_of_front (ActHolds names final.marks) p.acts final.acts act can.acts front in
      let again = spelled_again names have p.marks ts act noted final.marks free spells kept known holds.0.0 holds.0.1 holds.0.2 in
      let alike = written_same names have p.marks (act_text names final.marks act) act noted final.marks again kept in
      let line = act_line names vars objects signals final.marks can.marks.names (vocabulary names final.marks) refl act holds.0.0.0 (stmts_plain final.marks spells.spelled free kept) in
      record {
        act = act;
        marks = noted;
        some = some;
        spelled = subst (λ (t : List ℕ). SpellsAct names p.marks t act noted) alike again;
        line = subst IsLineText alike line;
        number = refl;
        behind_is = refl;
        few_acts = (let less = holds.1 in let few = can.few_acts in omega (arith, less, few));
        few_marks = (let less = kept_grow noted final.marks kept in let few = can.few_marks in omega (arith, less, few));
      }

  act_leads : (p : Program) (ts : List Token) (act : Act) (noted : List (List ℕ)) → FreeWords ts → SpellsBehaviour names p.marks ts act noted
      → KeepsMarks noted final.marks
      → Front (with_act (with_marks p noted) act).acts final.acts → LeadsAct names p (number_of p act) (with_act (with_marks p noted) act)
  act_leads p ts act noted free spells kept = go (is_empty act.stmts) refl where
    go : (b : Bool) → is_empty act.stmts ≡ b → Front (if b then with_marks p noted else record { acts = p.acts ++ act ∷ []; guards = p.guards; marks = noted }).acts final.acts
        → LeadsAct names p (if b then no_id else next_id p) (if b then with_marks p noted else record { acts = p.acts ++ act ∷ []; guards = p.guards; marks = noted })
    go true e front = inl (refl, own_marks p noted (nothing_noted noted p.marks noted act.stmts e (stmts_same noted spells.spelled (same_kept noted noted refl))))
    go false e front =
        inr (next_act p ts act noted free spells kept (λ none. absurd (let is : is_empty act.stmts ≡ true = ap is_empty none in let both : true ≡ false = sym is ∙ e in cc)) front)

  module _ (bodies : List Body) where
    act_back : (p : Program) (from to : ActId) (q : Program) → NumbersAct names bodies p from to q → IsFront q final → LeadsAct names p to q × IsFront p final
    act_back p from to q n front =
        let next = with_act (with_marks p n.noted) n.act in
        let front' = subst (λ (r : Program). IsFront r final) n.leads front in
        let kept = subst (λ (m : List (List ℕ)). KeepsMarks m final.marks) (with_act_marks (with_marks p n.noted) n.act) front'.marks in
        let leads = act_leads p (tokens_of (text_at bodies from.0)) n.act n.noted (tokens_free (text_at bodies from.0)) n.spelled.spelled kept front'.acts in (
          subst (λ (r : Program). LeadsAct names p to r) (sym n.leads) (subst (λ (a : ActId). LeadsAct names p a next) (sym n.number) leads),
          record {
            acts = act_front (with_marks p n.noted) n.act final.acts front'.acts;
            guards = subst (λ (g : List Cond). Front g final.guards) (act_guards (with_marks p n.noted) n.act) front'.guards;
            marks = kept_on p.marks n.noted final.marks (stmts_keep n.spelled.spelled.spelled) kept;
          },
        )

  -- ---- do steps

  one_step : (p : Program) (marks last : List (List ℕ)) (act : Act) (noted : List (List ℕ)) (ts : List Token) (to : List ActId) (q : Program)
      → p.marks ≡ marks → FreeWords ts → SpellsBehaviour names marks ts act noted
      → AreNumbered (with_marks p last) (act ∷ []) to q → KeepsMarks noted final.marks → Front q.acts final.acts
      → Leads (LeadsAct names) p to (with_marks q noted)
  one_step p marks last act noted ts [] q own free spelled n kept front = absurd n
  one_step p marks last act noted ts (a ∷ b ∷ more) q own free spelled n kept front = absurd n.1
  one_step p marks last act noted ts (a ∷ []) q own free spelled n kept front =
      let behind : with_marks (with_act p act) noted ≡ with_marks q noted =
      ap (λ (r : Program). with_marks r noted) (sym (act_then_marks p act last)) ∙ ap (λ (r : Program). with_marks r noted) n.1 in
      let same : with_act (with_marks p noted) act ≡ with_marks q noted = act_then_marks p act noted ∙ behind in
      let there : Front (with_act (with_marks p noted) act).acts final.acts = subst (λ (r : Program). Front r.acts final.acts) (sym same) front in
      let spelled' : SpellsBehaviour names p.marks ts act noted = subst (λ (m : List (List ℕ)). SpellsBehaviour names m ts act noted) (sym own) spelled in
      let leads = act_leads p ts act noted free spelled' kept there in
      (with_marks q noted, subst (λ (x : ActId). LeadsAct names p x (with_marks q noted)) (sym n.0) (subst (λ (r : Program). LeadsAct names p (number_of p act) r) same leads), refl)

  steps_lead : {marks noted : List (List ℕ)} {ts : List Token} {acts : List Act} → SpellsBehaviours names marks ts acts noted → FreeWords ts → (p : Program)
      → p.marks ≡ marks → (last : List (List ℕ)) (to : List ActId) (q : Program)
      → AreNumbered (with_marks p last) acts to q → KeepsMarks noted final.marks → Front q.acts final.acts → Leads (LeadsAct names) p to (with_marks q noted)
  steps_lead (first {ts} {act} {marks} {noted} spelled) free p own last to q n kept front = one_step p marks last act noted ts to q own free spelled n kept front
  steps_lead (step {ts} {us} step' semicolon {acts} {act} {marks} {noted} {more} before is ends spelled) free p own last to q n kept front =
      let parts = split (with_marks p last) acts act to q n in
      let words = free_parts ts (step' ∷ semicolon ∷ us) free in
      let r = parts.middle in
      let there : Front (with_act r act).acts final.acts = subst (λ (x : Program). Front x.acts final.acts) (sym parts.behind) front in
      let kept' = kept_on noted more final.marks (stmts_keep spelled.spelled) kept in
      let lead = steps_lead before words.0 p own last parts.front r parts.before kept' (act_front r act final.acts there) in
      let same : with_act (with_marks r more) act ≡ with_marks q more = act_then_marks r act more ∙ ap (λ (x : Program). with_marks x more) parts.behind in
      let there' : Front (with_act (with_marks r more) act).acts final.acts = subst (λ (x : Program). Front x.acts final.acts) (sym same) front in
      let one = act_leads (with_marks r noted) us act more words.1.1.1 spelled kept there' in
      let last_one = subst (λ (x : ActId). LeadsAct names (with_marks r noted) x (with_marks q more)) (sym parts.last_is) (subst (λ (x : Program). LeadsAct names (with_marks r noted) (number_of r act) x) same one) in
      subst (λ (x : List ActId). Leads (LeadsAct names) p x (with_marks q more)) (sym parts.to_is)
      (leads_push (LeadsAct names) p parts.front (with_marks r noted) parts.last (with_marks q more) lead last_one)

  module _ (bodies : List Body) where
    steps_back : (p : Program) (from to : List ActId) (q : Program) → NumbersSteps names bodies p from to q → IsFront q final
        → Leads (LeadsAct names) p to q × IsFront p final
    steps_back p from to q without front = (refl, front)
    steps_back p from to q (numbers_steps {from = body} acts noted spelled numbered) front =
        let same = numbered_marks (with_marks p noted) acts to q numbered in
        let kept = subst (λ (m : List (List ℕ)). KeepsMarks m final.marks) same front.marks in
        let lead = steps_lead spelled.spelled (tokens_free (text_at bodies body.0)) p refl noted to q numbered kept front.acts in (
          subst (λ (r : Program). Leads (LeadsAct names) p to r) (sym (own_marks q noted same)) lead,
          record {
            acts = numbered_front (with_marks p noted) acts to q final.acts numbered front.acts;
            guards = subst (λ (g : List Cond). Front g final.guards) (numbered_guards (with_marks p noted) acts to q numbered) front.guards;
            marks = kept_on p.marks noted final.marks (behaviours_keep spelled.spelled) kept;
          },
        )

    -- ---- guards

    guard_back : (p : Program) (from to : Guard) (q : Program) → NumbersGuard names bodies p from to q → IsFront q final
        → LeadsGuard names p to q × IsFront p final
    guard_back p from to q always front = (refl, front)
    guard_back p from to q otherwise front = (refl, front)
    guard_back p from to q (when {from = body} cond spelled number leads) front =
        let front' = subst (λ (r : Program). IsFront r final) leads front in
        let holds = last_of_front (GuardHolds names) p.guards final.guards cond can.guards front'.guards in
        let text = text_at bodies body.0 in
        let less = holds.1 in
        let few = can.few_guards in (
          record {
            cond = cond;
            spelled = guard_again names have text cond spelled holds.0.0 holds.0.1;
            line = guard_line names vars cond (spelled_fits names text cond spelled.spelled) (guard_plain spelled.spelled (tokens_free text));
            number_is = ap (λ g. g.0) number;
            behind_is = leads;
            few = omega (arith, less, few);
          },
          record { acts = front'.acts; guards = shorter_front p.guards (cond ∷ []) final.guards front'.guards; marks = front'.marks },
        )

    -- ---- elements

    vertex_back : (p : Program) (from to : Vertex) (q : Program) → NumbersVertex names bodies p from to q → IsFront q final
        → LeadsVertex names p to q × IsFront p final
    vertex_back p from to q n front =
        let third = steps_back n.left from.steps to.steps q n.doing front in
        let second = act_back bodies n.entered from.exit to.exit n.left n.exit third.1 in
        let one = act_back bodies p from.entry to.entry n.entered n.entry second.1 in
        (record { entered = n.entered; left = n.left; entry = one.0; exit = second.0; steps = third.0 }, one.1)

    transition_back : (p : Program) (from to : Transition) (q : Program) → NumbersTransition names bodies p from to q → IsFront q final
        → LeadsTransition names p to q × IsFront p final
    transition_back p from to q n front =
        let second = act_back bodies n.guarded from.effect to.effect q n.effect front in
        let one = guard_back p from.guard to.guard n.guarded n.guard second.1 in
        (record { guarded = n.guarded; guard = one.0; effect = second.0 }, one.1)

    all_back : {E : Type 0} (Step : Program → E → E → Program → Type 0) (Lead : Program → E → Program → Type 0)
        → ((p : Program) (x y : E) (q : Program) → Step p x y q → IsFront q final → Lead p y q × IsFront p final)
        → (p : Program) (xs ys : List E) (q : Program) → AllNumbered Step p xs ys q → IsFront q final → Leads Lead p ys q × IsFront p final
    all_back Step Lead back p [] [] q e front = (e, subst (λ (r : Program). IsFront r final) (sym e) front)
    all_back Step Lead back p (x ∷ xs) (y ∷ ys) q n front =
        let rest = all_back Step Lead back n.0 xs ys q n.2 front in
        let one = back p x y n.0 n.1 rest.1 in
        ((n.0, one.0, rest.0), one.1)
    all_back Step Lead back p [] (y ∷ ys) q n front = absurd n
    all_back Step Lead back p (x ∷ xs) [] q n front = absurd n

  -- The program of a class numbers what its flat text has.
  pub is_numbered : (flat : FlatDraft) (machine : DraftMachine) → IsProgrammed names flat machine final → IsNumbered names machine final
  is_numbered flat machine is =
      let whole : IsFront final final = record { acts = whole_front final.acts; guards = whole_front final.guards; marks = same_kept final.marks final.marks refl } in
      let later = all_back flat.bodies (NumbersTransition names flat.bodies) (LeadsTransition names) (transition_back flat.bodies) is.middle flat.machine.transitions machine.transitions final is.transitions whole in
      let early = all_back flat.bodies (NumbersVertex names flat.bodies) (LeadsVertex names) (vertex_back flat.bodies) first_program flat.machine.vertices machine.vertices is.middle is.vertices later.1 in
      record { middle = is.middle; vertices = early.0; transitions = later.0 }
