-- The generated setting has a flat text.
use Rattle.std.proofs.Common.{◌≡◌, ◌≢◌, ◌≤◌, ◌<◌, ◌+◌, ℕ, zero, suc, true, List, [], ◌∷◌, ltb, Some, refl, sym, ap, inl, inr, arith}
use Rattle.std.specs.Prelude.{map, replicate, codes, get_or, IsTrue}
use Rattle.std.specs.List.{AllByRecursion, range_with_len, list_all}
use Rattle.std.proofs.lemmas.List.{length-replicate, replicate_more}
use Rattle.std.proofs.lemmas.List.FromFn.{length-map-range_with_len}
use Rattle.std.proofs.lemmas.List.Elements.{All-cons, All-nil}
use Rattle.std.proofs.lemmas.List.Kept.{AllPairs-cons}
use Rattle.pssm_model.specs.declared.ids.ActId.{ActId}
use Rattle.pssm_model.specs.declared.ids.SignalId.{SignalId}
use Rattle.pssm_model.specs.declared.elements.VertexKind.{VertexKind}
use Rattle.pssm_model.specs.declared.elements.VertexKind.TheVariants as kinds
use Rattle.pssm_semantics.specs.declared.setting.Names.{Names}
use Rattle.pssm_semantics.specs.declared.setting.Program.{Program}
use Rattle.pssm_semantics.specs.declared.tree.Stmt.{Stmt, Send}
use Rattle.pssm_semantics.specs.Fits.{ExprFits, StmtFits}
use Rattle.pssm_spelling.specs.Spelling.{IsName}
use Rattle.pssm_acts.specs.ActText.{act_text}
use Rattle.pssm_acts.specs.ActGrammar.{SpellsAct}
use Rattle.pssm_acts.specs.ReadBack.{AreNames, IsPlain, StmtIsPlain, CanBeReadBack}
use Rattle.pssm_acts.specs.Vocabularies.{vocabulary}
use Rattle.pssm_acts.proofs.BlockBack.{act_read_back}
use Rattle.pssm_flat.specs.Flat.{Leads, is_inner, is_label_byte, IsLabel, IsLineText, IsWrittenVertex, IsWrittenTransition, IsWrittenMachine, IsNextAct, LeadsVertex, LeadsTransition, first_program, IsNumbered, IsWrittenClass, IsWritten, IsFlat}
use Rattle.pssm_flat.proofs.RightTexts.{line_text_is}
use Rattle.pssm_suite.specs.Generated.{next_state}
use Rattle.pssm_suite.specs.GeneratedSetting.{vertex, transition, on_go, nothing, send_on, front_machine, front, back_machine, back, generated_setting}
use Rattle.pssm_suite.proofs.PlainMachines.{plain_shape}
use Rattle.pssm_suite.proofs.PlainFront.{step, next_within, front_plain}
use Rattle.pssm_suite.proofs.PlainBack.{back_plain}

-- ---- lists of items that are alike

all_equal : {X : Type 0} (P : X → Type 0) (y : X) → P y → (n : ℕ) → AllByRecursion P (replicate n y)
all_equal P y h zero = tt
all_equal P y h (suc n) = (h, all_equal P y h n)

all_made : {X : Type 0} (P : X → Type 0) (f : ℕ → X) (k n : ℕ) → ((i : ℕ) → k ≤ i → i < k + n → P (f i)) → AllByRecursion P (map f (range_with_len k n))
all_made P f k zero h = tt
all_made P f k (suc n) h = (h k (omega arith) (omega arith), all_made P f (k + 1) n (λ i le lt. h i (omega (arith, le)) (omega (arith, lt))))

lead_equal : {S X : Type 0} (Step : S → X → S → Type 0) (s : S) (y : X) → Step s y s → (n : ℕ) → Leads Step s (replicate n y) s
lead_equal Step s y h zero = refl
lead_equal Step s y h (suc n) = (s, h, lead_equal Step s y h n)

-- ---- the behaviour `send b.Go();`

-- the names that the behaviours may use
abbrev names : Names
names = record { vars = []; objects = codes "a" ∷ codes "b" ∷ []; signals = record { name = codes "Go"; count = 0 } ∷ [] }

no_names : AreNames []
no_names = record { each = All-nil IsName; differ = λ j k d before within. absurd (omega arith) }

single_name : (name : List ℕ) → IsName name → AreNames (name ∷ [])
single_name name is = record { each = All-cons IsName name [] is (All-nil IsName); differ = λ j k d before within. absurd (omega arith) }

a_is_not_b : codes "a" ≢ codes "b"
a_is_not_b same = let first : 97 ≡ 98 = ap (λ (t : List ℕ). get_or t 0 0) same in absurd (omega (arith, first))

objects_differ : AreNames (codes "a" ∷ codes "b" ∷ [])
objects_differ = record {
  each = All-cons IsName (codes "a") (codes "b" ∷ []) (record { spelled = refl; short = omega arith }) (single_name (codes "b") (record { spelled = refl; short = omega arith })).each;
  differ = AllPairs-cons (λ a b. a ≢ b) (codes "a") (codes "b" ∷ [])
      (All-cons (λ b. codes "a" ≢ b) (codes "b") [] a_is_not_b (All-nil (λ b. codes "a" ≢ b)))
      (single_name (codes "b") (record { spelled = refl; short = omega arith })).differ;
}

abbrev send_stmt : Stmt
send_stmt = Send (Some (record { 0 = 1 })) (record { 0 = 0 }) []

send_can : CanBeReadBack names [] send_on
send_can =
    let Fits : Stmt → Type 0 = StmtFits (vocabulary names []) in
    let Plain : Stmt → Type 0 = StmtIsPlain names [] in
    record {
      vars = no_names;
      objects = objects_differ;
      signals = single_name (codes "Go") (record { spelled = refl; short = omega arith });
      marks' = no_names;
      fits = (All-cons Fits send_stmt [] ((omega arith, omega arith, refl), All-nil (ExprFits 0)) (All-nil Fits), omega arith);
      plain = All-cons Plain send_stmt [] (refl, refl, All-nil (IsPlain names)) (All-nil Plain);
      short = omega arith;
      shallow = omega arith;
    }

send_spelled : SpellsAct names [] (act_text names [] send_on) send_on []
send_spelled = act_read_back names [] send_on (act_text names [] send_on) refl send_can

send_line : IsLineText (act_text names [] send_on)
send_line = line_text_is (codes "send b.Go();") refl refl

-- ---- the numbers of behaviours

-- the program with so many steps
abbrev program_of : ℕ → Program
program_of k = record { acts = nothing ∷ replicate k send_on; guards = []; marks = [] }

next_act : (k : ℕ) (a : ActId) → k < 4000 → a.0 ≡ k + 1 → IsNextAct names (program_of k) a (program_of (k + 1))
next_act k a few e = record {
  act = send_on;
  marks = [];
  some = λ none. absurd cc;
  spelled = send_spelled;
  line = send_line;
  number = omega (arith, e, length-replicate k send_on);
  behind_is = ap (λ others. let p : Program = record { acts = nothing ∷ others; guards = []; marks = [] } in p) (sym (replicate_more k send_on));
  few_acts = omega (arith, few, length-replicate k send_on);
  few_marks = omega arith;
}

steps_lead : (n total k m : ℕ) → k + m ≡ total → total ≤ 4000 → Leads (LeadsTransition names) (program_of k) (map (step n) (range_with_len (k + 1) m)) (program_of total)
steps_lead n total k zero e le = let same : k ≡ total = omega (arith, e) in ap program_of same
steps_lead n total k (suc m) e le = (
  program_of (k + 1),
  record { guarded = program_of k; guard = refl; effect = inr (next_act k (record { 0 = k + 1 }) (omega (arith, e, le)) refl) },
  steps_lead n total (k + 1) m (omega (arith, e)) le,
)

-- a vertex has no behaviour, and neither has a transition of effect 0
still : (r : ℕ) (kind : VertexKind) (label : List ℕ) → LeadsVertex names first_program (vertex r kind label) first_program
still r kind label = record { entered = first_program; left = first_program; entry = inl (refl, refl); exit = inl (refl, refl); steps = refl }

idle : (source target : ℕ) (triggers : List SignalId) → LeadsTransition names first_program (transition source target triggers 0) first_program
idle source target triggers = record { guarded = first_program; guard = refl; effect = inl (refl, refl) }

front_numbered : (n : ℕ) → n ≤ 4000 → IsNumbered names (front_machine n) (front n).program
front_numbered n few = record {
  middle = first_program;
  vertices = (first_program, still 0 kinds.Initial [], lead_equal (LeadsVertex names) first_program (vertex 0 kinds.State []) (still 0 kinds.State []) n);
  transitions = (first_program, idle 0 1 [], steps_lead n n 0 n (omega arith) few);
}

back_numbered : IsNumbered names back_machine back.program
back_numbered =
    let p = first_program in
    record {
      middle = first_program;
      vertices = (
        p,
        still 0 kinds.Initial [],
        (
          p,
          still 0 kinds.State (codes "S"),
          (
            p,
            still 1 kinds.Initial [],
            (
              p,
              still 1 kinds.State (codes "P"),
              (
                p,
                still 1 kinds.State (codes "P2"),
                (p, still 2 kinds.Initial [], (p, still 2 kinds.State (codes "R"), (p, still 2 kinds.State (codes "R2"), refl))),
              ),
            ),
          ),
        ),
      );
      transitions = (p, idle 0 1 [], (p, idle 2 3 [], (p, idle 5 6 [], (p, idle 3 4 on_go, (p, idle 6 7 on_go, (p, idle 4 3 on_go, (p, idle 7 6 on_go, refl)))))));
    }

-- ---- the elements

label_is : (label : List ℕ) → list_all (λ b. ltb b 128) label ≡ true → list_all is_inner label ≡ true → IsTrue (list_all is_label_byte label) → IsLabel label
label_is label low inner plain = record { text = (line_text_is label low inner).utf8; no_control = plain }

written_vertex : (r : ℕ) (kind : VertexKind) (label : List ℕ) → r < 65536 → IsLabel label → IsWrittenVertex 1 (vertex r kind label)
written_vertex r kind label lt is = record {
  owner = lt;
  label = is;
  as_state = inr (record { entry = refl; exit = refl; steps = refl; defers = refl });
  few_steps = omega arith;
  defers = tt;
}

unlabelled : (r : ℕ) (kind : VertexKind) → r < 65536 → IsWrittenVertex 1 (vertex r kind [])
unlabelled r kind lt = written_vertex r kind [] lt (label_is [] refl refl refl)

written_first : (source target : ℕ) → source < 65536 → target < 65536 → IsWrittenTransition 1 (transition source target [] 0)
written_first source target lt le = record { source = lt; target = le; triggers = tt }

written_step : (source target effect : ℕ) → source < 65536 → target < 65536 → IsWrittenTransition 1 (transition source target on_go effect)
written_step source target effect lt le = record { source = lt; target = le; triggers = (record { above = omega arith; known = omega arith }, tt) }

front_written : (n : ℕ) → n ≤ 4000 → IsWrittenMachine 1 (front_machine n)
front_written n few = record {
  some_region = omega arith;
  few_regions = omega arith;
  few_vertices = omega (arith, length-replicate n (vertex 0 kinds.State []), few);
  few_transitions = omega (arith, length-map-range_with_len (step n) 1 n, few);
  regions = (tt, tt);
  vertices = (unlabelled 0 kinds.Initial (omega arith), all_equal (IsWrittenVertex 1) (vertex 0 kinds.State []) (unlabelled 0 kinds.State (omega arith)) n);
  transitions = (
    written_first 0 1 (omega arith) (omega arith),
    all_made (IsWrittenTransition 1) (step n) 1 n
        (λ i le lt. let within = next_within n i le (omega (arith, lt)) in written_step i (next_state n i) i (omega (arith, lt, few)) (omega (arith, within.1, few))),
  );
}

back_written : IsWrittenMachine 1 back_machine
back_written =
    let label : (r : ℕ) (text : List ℕ) → r < 65536 → IsLabel text → IsWrittenVertex 1 (vertex r kinds.State text) = λ r text lt is. written_vertex r kinds.State text lt is in
    record {
      some_region = omega arith;
      few_regions = omega arith;
      few_vertices = omega arith;
      few_transitions = omega arith;
      regions = (tt, (omega arith, (omega arith, tt)));
      vertices = (
        unlabelled 0 kinds.Initial (omega arith),
        (
          label 0 (codes "S") (omega arith) (label_is (codes "S") refl refl refl),
          (
            unlabelled 1 kinds.Initial (omega arith),
            (
              label 1 (codes "P") (omega arith) (label_is (codes "P") refl refl refl),
              (
                label 1 (codes "P2") (omega arith) (label_is (codes "P2") refl refl refl),
                (unlabelled 2 kinds.Initial (omega arith), (label 2 (codes "R") (omega arith) (label_is (codes "R") refl refl refl), (label 2 (codes "R2") (omega arith) (label_is (codes "R2") refl refl refl), tt))),
              ),
            ),
          ),
        ),
      );
      transitions = (
        written_first 0 1 (omega arith) (omega arith),
        (
          written_first 2 3 (omega arith) (omega arith),
          (
            written_first 5 6 (omega arith) (omega arith),
            (written_step 3 4 0 (omega arith) (omega arith), (written_step 6 7 0 (omega arith) (omega arith), (written_step 4 3 0 (omega arith) (omega arith), (written_step 7 6 0 (omega arith) (omega arith), tt)))),
          ),
        ),
      );
    }

-- ---- the classes and the setting

front_class : (n : ℕ) → n ≤ 4000 → IsWrittenClass names (front n)
front_class n few = record { var_names = tt; few_vars = omega arith; firsts = tt; machine = front_written n few; numbered = front_numbered n few }

back_class : IsWrittenClass names back
back_class = record { var_names = tt; few_vars = omega arith; firsts = tt; machine = back_written; numbered = back_numbered }

generated_written : (n : ℕ) → n ≤ 4000 → IsWritten (generated_setting n)
unfolding generated_setting
generated_written n few = record {
  signal_names = (record { name_is = record { spelled = refl; short = omega arith }; new = tt }, tt);
  few_signals = omega arith;
  counts = (omega arith, tt);
  class_names = (record { name_is = record { spelled = refl; short = omega arith }; new = tt }, (record { name_is = record { spelled = refl; short = omega arith }; new = (λ same. absurd cc, tt) }, tt));
  few_classes = omega arith;
  object_names = (record { name_is = record { spelled = refl; short = omega arith }; new = tt }, (record { name_is = record { spelled = refl; short = omega arith }; new = (a_is_not_b, tt) }, tt));
  few_objects = omega arith;
  placed = (omega arith, (omega arith, tt));
  classes = (front_class n few, (back_class, tt));
}

pub generated_flat : (n : ℕ) → 1 ≤ n → n ≤ 4000 → IsFlat (generated_setting n)
unfolding generated_setting
generated_flat n some few = record {
  written = generated_written n few;
  shape = (plain_shape (front_machine n) (front_plain n some few), (plain_shape back_machine back_plain, tt));
}
