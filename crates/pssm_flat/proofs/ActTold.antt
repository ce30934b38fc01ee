-- A line with a faulty action text, in the words of settings and in those of the reader.
use Rattle.std.proofs.Common.{◌≡◌, inl, inr, ℕ, zero, suc, ◌<◌, ◌≤◌, Bool, true, false, List, [], ◌∷◌, ◌++◌, length, take, get_or, Some, None, Ok, Err, refl, sym, ap, subst, ◌∙◌, append_assoc, arith, lit≤}
use Rattle.std.specs.Prelude.{codes, slice_get, map}
use Rattle.std.specs.List.{flat_map, list_all}
use Rattle.std.specs.Str.{is_utf8}
use Rattle.std.proofs.lemmas.List.{append-nil, length-append, take_at}
use Rattle.std.proofs.lemmas.Str.{IsUtf8-from_is_utf8}
use Rattle.pssm_model.specs.declared.elements.Vertex.{Vertex}
use Rattle.pssm_model.specs.declared.elements.Transition.{Transition}
use Rattle.pssm_semantics.specs.declared.setting.Names.{Names}
use Rattle.pssm_semantics.specs.declared.setting.Program.{Program}
use Rattle.pssm_semantics.specs.declared.setting.Class.{Class}
use Rattle.pssm_semantics.specs.declared.setting.Setting.{Setting}
use Rattle.pssm_acts.specs.declared.act_fault.ActFault.{ActFault}
use Rattle.pssm_flat.specs.declared.action.ActionLine.{ActionLine}
use Rattle.pssm_flat.specs.declared.action.ActionLine.TheVariants as actions
use Rattle.pssm_flat.specs.declared.line.Line.TheVariants as lines
use Rattle.pssm_flat.specs.declared.head.Head.{Head}
use Rattle.pssm_flat.specs.declared.block.Block.{Block}
use Rattle.pssm_flat.specs.declared.outline.Outline.{Outline}
use Rattle.pssm_flat.specs.declared.outline.Outline.TheVariants as stages
use Rattle.pssm_flat.specs.Text.{machine_lines, head_lines, flat_lines, names_of}
use Rattle.pssm_flat.specs.Flat.{is_inner, Leads, IsLineText, LeadsAct, LeadsGuard, LeadsVertex, LeadsTransition, first_program}
use Rattle.pssm_flat.specs.Faults.{BeginsText, lines_before_class, action_word, HasActFault, IsActFault}
use Rattle.pssm_flat.specs.inner.Lines.{◌>>=◌, line_text, head_line_taken, element_line_taken, part_line_taken, signal_taken, object_taken, var_taken, named_taken, region_line_taken, vertex_line_taken, end_taken, transition_line_taken, behind_word, action_taken, line_taken}
use Rattle.pssm_spelling.specs.SpellingReading.{stripped}
use Rattle.std.proofs.lemmas.Bool.{and_parts}
use Rattle.pssm_model.specs.declared.elements.Guard.{Guard}
use Rattle.pssm_model.specs.declared.elements.Guard.TheVariants.{Always, Otherwise, When}
use Rattle.pssm_model.specs.declared.ids.ActId.{ActId}
use Rattle.pssm_flat.specs.inner.Outlines.{empty_block, taken, lifted, setting_of, with_action, after_line, line_or_none, after_bytes, after_lines, done_of, IsInner}
use Rattle.pssm_flat.proofs.Bind.{some_is, ok_is, fine}
use Rattle.pssm_acts.proofs.CondFaults.{refused}
use Rattle.pssm_flat.proofs.RightTexts.{line_text_is}
use Rattle.pssm_flat.proofs.ActFaults.{act_refused, act_told, guard_told}
use Rattle.pssm_flat.proofs.NumberLaws.{lifted_takes}
use Rattle.pssm_flat.proofs.LineForms.{line_again, line_inner}
use Rattle.pssm_flat.proofs.Good.{head_part, done_part, block_part, names_with, class_name_of, IsGoodBlock, IsGood}
use Rattle.pssm_flat.proofs.Reach.{head_is, lines_reach, read_inner, bytes_reach, after_append}
use Rattle.pssm_flat.proofs.Complete.{lines_read, block_of, ClassRead, class_read}
use Rattle.pssm_flat.proofs.CompleteHead.{next_line, head_of}
use Rattle.pssm_flat.proofs.Begins.{read_begins}
use Rattle.pssm_flat.proofs.Stays.{done_stay, head_stays, vars_stay}
use Rattle.pssm_flat.proofs.Turns.{Fronts, first_longer, second_longer, fronts, reads_on, reads_to, TurnsAt}
use Rattle.pssm_flat.proofs.Stops.{good_of}
use Rattle.pssm_flat.proofs.ActPlaces.{reads_fault, action_fault, action_instead, right_of, action_right, no_action, faulty_line}

-- ---- lists

pub cancel : (a x y : List (List ℕ)) → a ++ x ≡ a ++ y → x ≡ y
cancel [] x y e = e
cancel (l ∷ a) x y e = cancel a x y (let tail : a ++ x ≡ a ++ y = cc in tail)

cancel_class : (a p q : List Class) (x y : Class) → a ++ x ∷ p ≡ a ++ y ∷ q → x ≡ y
cancel_class [] p q x y e = cc
cancel_class (z ∷ a) p q x y e = cancel_class a p q x y (let tail : a ++ x ∷ p ≡ a ++ y ∷ q = cc in tail)

no_more : {X : Type 0} (a b m k : List X) → a ≡ b ++ m → b ≡ a ++ k → a ≡ b
no_more a b [] k e f = e ∙ append-nil b
no_more a b (x ∷ m) k e f = absurd (omega (arith, ap length e, ap length f, length-append b (x ∷ m), length-append a k))

get_past : (front later : List Class) (x : Class) → slice_get (front ++ x ∷ later) (length front) ≡ Some x
get_past [] later x = refl
get_past (y ∷ front) later x = get_past front later x

-- ---- limits

-- at most so many marks are numbered
few_by_act : (names : Names) (p : Program) (a : ActId) (q : Program) → LeadsAct names p a q → length p.marks ≤ 32768 → length q.marks ≤ 32768
few_by_act names p a q (inl none) few = subst (λ (r : Program). length r.marks ≤ 32768) none.1 few
few_by_act names p a q (inr next) few = subst (λ (r : Program). length r.marks ≤ 32768) (sym next.behind_is) next.few_marks

few_by_all : {X : Type 0} (Step : Program → X → Program → Type 0) → ((p : Program) (x : X) (q : Program) → Step p x q → length p.marks ≤ 32768 → length q.marks ≤ 32768) → (p : Program) (xs : List X) (q : Program) → Leads Step p xs q
    → length p.marks ≤ 32768 → length q.marks ≤ 32768
few_by_all Step keep p [] q same few = subst (λ (r : Program). length r.marks ≤ 32768) same few
few_by_all Step keep p (x ∷ xs) q leads few = few_by_all Step keep leads.0 xs q leads.2 (keep p x leads.0 leads.1 few)

few_by_vertex : (names : Names) (p : Program) (v : Vertex) (q : Program) → LeadsVertex names p v q → length p.marks ≤ 32768 → length q.marks ≤ 32768
few_by_vertex names p v q l few =
    few_by_all (LeadsAct names) (few_by_act names) l.left v.steps q l.steps (few_by_act names l.entered v.exit l.left l.exit (few_by_act names p v.entry l.entered l.entry few))

few_by_guard : (names : Names) (p : Program) (g : Guard) (q : Program) → LeadsGuard names p g q → length p.marks ≤ 32768 → length q.marks ≤ 32768
few_by_guard names p Always q same few = subst (λ (r : Program). length r.marks ≤ 32768) same few
few_by_guard names p Otherwise q same few = subst (λ (r : Program). length r.marks ≤ 32768) same few
few_by_guard names p (When g) q next few = subst (λ (r : Program). length r.marks ≤ 32768) (sym next.behind_is) few

few_by_transition : (names : Names) (p : Program) (t : Transition) (q : Program) → LeadsTransition names p t q → length p.marks ≤ 32768 → length q.marks ≤ 32768
few_by_transition names p t q l few = few_by_act names l.guarded t.effect q l.effect (few_by_guard names p t.guard l.guarded l.guard few)

pub few_marks : (h : Head) (b : Block) → IsGoodBlock h b → length b.program.marks ≤ 32768
few_marks h b good =
    let n = good.numbered in
    few_by_all (LeadsTransition b.names) (few_by_transition b.names) n.middle b.transitions b.program n.transitions
    (few_by_all (LeadsVertex b.names) (few_by_vertex b.names) first_program b.vertices n.middle n.vertices (lit≤ tt))

-- and so many behaviours
acts_by_act : (names : Names) (p : Program) (a : ActId) (q : Program) → LeadsAct names p a q → length p.acts ≤ 32768 → length q.acts ≤ 32768
acts_by_act names p a q (inl none) few = subst (λ (r : Program). length r.acts ≤ 32768) none.1 few
acts_by_act names p a q (inr next) few =
    subst (λ (r : Program). length r.acts ≤ 32768) (sym next.behind_is) (let room = next.few_acts in omega (arith, room, length-append p.acts (next.act ∷ [])))

acts_by_all : {X : Type 0} (Step : Program → X → Program → Type 0) → ((p : Program) (x : X) (q : Program) → Step p x q → length p.acts ≤ 32768 → length q.acts ≤ 32768) → (p : Program) (xs : List X) (q : Program) → Leads Step p xs q
    → length p.acts ≤ 32768 → length q.acts ≤ 32768
acts_by_all Step keep p [] q same few = subst (λ (r : Program). length r.acts ≤ 32768) same few
acts_by_all Step keep p (x ∷ xs) q leads few = acts_by_all Step keep leads.0 xs q leads.2 (keep p x leads.0 leads.1 few)

acts_by_vertex : (names : Names) (p : Program) (v : Vertex) (q : Program) → LeadsVertex names p v q → length p.acts ≤ 32768 → length q.acts ≤ 32768
acts_by_vertex names p v q l few =
    acts_by_all (LeadsAct names) (acts_by_act names) l.left v.steps q l.steps (acts_by_act names l.entered v.exit l.left l.exit (acts_by_act names p v.entry l.entered l.entry few))

acts_by_guard : (names : Names) (p : Program) (g : Guard) (q : Program) → LeadsGuard names p g q → length p.acts ≤ 32768 → length q.acts ≤ 32768
acts_by_guard names p Always q same few = subst (λ (r : Program). length r.acts ≤ 32768) same few
acts_by_guard names p Otherwise q same few = subst (λ (r : Program). length r.acts ≤ 32768) same few
acts_by_guard names p (When g) q next few = subst (λ (r : Program). length r.acts ≤ 32768) (sym next.behind_is) few

acts_by_transition : (names : Names) (p : Program) (t : Transition) (q : Program) → LeadsTransition names p t q → length p.acts ≤ 32768 → length q.acts ≤ 32768
acts_by_transition names p t q l few = acts_by_act names l.guarded t.effect q l.effect (acts_by_guard names p t.guard l.guarded l.guard few)

pub few_acts : (h : Head) (b : Block) → IsGoodBlock h b → length b.program.acts ≤ 32768
few_acts h b good =
    let n = good.numbered in
    acts_by_all (LeadsTransition b.names) (acts_by_transition b.names) n.middle b.transitions b.program n.transitions
    (acts_by_all (LeadsVertex b.names) (acts_by_vertex b.names) first_program b.vertices n.middle n.vertices (lit≤ tt))

-- ---- the class of an open block

-- what is read of a setting up to a line of an open block, behind the first region of that
pub record InBlock (s : Setting) (h : Head) (done : List Class) (b : Block) : Type 0 where
  pub class : Class
  pub class_is : slice_get s.classes (length done) ≡ Some class
  pub names_are : names_of s class ≡ b.names
  pub head_is' : s ≡ setting_of h s.classes
  pub classes_are : h.classes ≡ map class_name_of s.classes
  pub front_is : take (length done) s.classes ≡ done

pub in_block : (s : Setting) (h : Head) (done : List Class) (b : Block) (ls : List (List ℕ)) → IsGood (stages.Open h done b) → 0 < length b.regions → after_lines (stages.Open h done b) ls ≡ Some (stages.Ended s) → InBlock s h done b
in_block s h done b ls good some reads =
    let of = vars_stay h done b s ls good some reads in
    let head = head_stays h done b s ls good reads in
    let named : names_of s of.class ≡ names_with h of.class.vars = ap (λ (t : Setting). names_of t of.class) head.0 in
    record {
      class = of.class;
      class_is = ap (λ cs. slice_get cs (length done)) of.classes_are ∙ get_past done of.later of.class;
      names_are = named ∙ ap (names_with h) of.vars_are ∙ sym good.3.names_are;
      head_is' = head.0;
      classes_are = head.1;
      front_is = ap (take (length done)) of.classes_are ∙ take_at done (of.class ∷ of.later) (length done) refl;
    }

-- the lines before the block
pub before_is : (s : Setting) (h : Head) (done : List Class) (b : Block) → InBlock s h done b → lines_before_class s (length done) ≡ head_part h ++ done_part h done
before_is s h done b at =
    ap (λ cs. head_lines s ++ flat_map (machine_lines s) cs) at.front_is
    ∙ ap (λ (t : Setting). head_lines t ++ flat_map (machine_lines t) done) at.head_is'
    ∙ ap (λ ls. ls ++ done_part h done) (head_is h s.classes at.classes_are)

-- Where one class more was read at a line, it was read at each later one.
pub no_turn_behind : (n : ℕ) (a m : List (List ℕ)) (l : List ℕ) (later : Outline) → TurnsAt n a l → after_lines stages.Start (a ++ l ∷ m) ≡ Some later → length (done_of later) ≤ n → ⊥
no_turn_behind n a m l later t reads few =
    let on = reads_to a (l ∷ m) t.outline later t.reads reads in
    let step = reads_on t.outline later l m on in
    let same : t.next ≡ step.0 = some_is t.next step.0 (ok_is (Some t.next) (Some step.0) (sym t.reads_next ∙ step.1)) in
    let good = (bytes_reach t.outline l step.0 (good_of a t.outline t.reads) step.1).good in
    let stays = done_stay step.0 later m good step.2 in
    absurd (let many = t.many in omega (arith, few, many, ap (λ x. length (done_of x)) same, ap length stays.1, length-append (done_of step.0) stays.0))

take_count : (xs : List Class) (c : ℕ) (x : Class) → slice_get xs c ≡ Some x → length (take c xs) ≡ c
take_count [] zero x e = absurd cc
take_count [] (suc c) x e = absurd cc
take_count (y ∷ xs) zero x e = refl
take_count (y ∷ xs) (suc c) x e = ap suc (take_count xs c x e)

-- the line behind a class
pub turns : (s : Setting) (c : ℕ) (x : Class) → slice_get s.classes c ≡ Some x → (r : ClassRead s c x) → TurnsAt c (lines_before_class s (suc c)) r.last
turns s c x e r =
    let count = take_count s.classes c x e in
    record {
      outline = _;
      reads = ap (after_lines stages.Start) r.grown ∙ after_append stages.Start (lines_before_class s c) (machine_lines s x) ∙ ap (λ o. o >>= (λ d. after_lines d (machine_lines s x))) r.reads_before ∙ r.reads;
      next = r.next;
      reads_next = r.reads_last;
      few = omega (arith, count);
      many = omega (arith, count, ap length r.next_done, length-append (take c s.classes) (x ∷ []));
    }

-- ---- the words of settings

named_fault : (b : Block) (word : ActionLine) (action : List ℕ) (fault : ActFault) → reads_fault b word action fault → HasActFault word b.names action fault
named_fault b actions.Entry action fault is = act_refused b.names b.program.marks action fault is
named_fault b actions.Exit action fault is = act_refused b.names b.program.marks action fault is
named_fault b actions.Step action fault is = act_refused b.names b.program.marks action fault is
named_fault b actions.When action fault is = refused b.names action fault is
named_fault b actions.Effect action fault is = act_refused b.names b.program.marks action fault is

told_fault : (b : Block) (word : ActionLine) (action : List ℕ) (fault : ActFault) → HasActFault word b.names action fault → reads_fault b word action fault
told_fault b actions.Entry action fault is = act_told b.names b.program.marks action fault is
told_fault b actions.Exit action fault is = act_told b.names b.program.marks action fault is
told_fault b actions.Step action fault is = act_told b.names b.program.marks action fault is
told_fault b actions.When action fault is = guard_told b.names action fault is
told_fault b actions.Effect action fault is = act_told b.names b.program.marks action fault is

right_line : (word : ActionLine) → IsLineText (right_of word)
right_line actions.Entry = line_text_is (right_of actions.Entry) refl refl
right_line actions.Exit = line_text_is (right_of actions.Exit) refl refl
right_line actions.Step = line_text_is (right_of actions.Step) refl refl
right_line actions.When = line_text_is (right_of actions.When) refl refl
right_line actions.Effect = line_text_is (right_of actions.Effect) refl refl

some_regions : (h : Head) (b e : Block) (word : ActionLine) (text : List ℕ) → IsGoodBlock h b → with_action b word text ≡ Ok (Some e) → 0 < length b.regions
some_regions h b e word text good taken = elim good.begun [
  | inl some ↦ some
  | inr none ↦ absurd (let both : fine None ≡ Ok (Some e) = sym (no_action b word text none.0 none.1) ∙ taken in cc)
]

extended : (before : List (List ℕ)) (l : List ℕ) (d e : Outline) → after_lines stages.Start before ≡ Some d → after_bytes d l ≡ Ok (Some e) → after_lines stages.Start (before ++ l ∷ []) ≡ Some e
extended before l d e reads next = after_append stages.Start before (l ∷ []) ∙ ap (λ o. o >>= (λ x. after_lines x (l ∷ []))) reads ∙ ap (λ r. taken r >>= (λ x. Some x)) next

-- The front of a block that goes on with a line stands before the line behind it.
inside : (s : Setting) (c : ℕ) (x : Class) (e : slice_get s.classes c ≡ Some x) (r : ClassRead s c x) (before block more : List (List ℕ)) (w : List ℕ) (later : Outline) → before ≡ lines_before_class s c ++ block → flat_lines s ≡ (before ++ w ∷ []) ++ more
    → after_lines stages.Start (before ++ w ∷ []) ≡ Some later → length (done_of later) ≤ c → (rest : List (List ℕ)) × (machine_lines s x ≡ block ++ w ∷ rest)
inside s c x e r before block more w later parts whole reads few =
    by_fronts (fronts m block (r.last ∷ r.later) (w ∷ more) (cancel a (m ++ r.last ∷ r.later) (block ++ w ∷ more) same)) where
      a : List (List ℕ)
      a = lines_before_class s c

      m : List (List ℕ)
      m = machine_lines s x

      same : a ++ (m ++ r.last ∷ r.later) ≡ a ++ (block ++ w ∷ more)
      same =
          sym (append_assoc a m (r.last ∷ r.later)) ∙ ap (λ t. t ++ r.last ∷ r.later) (sym r.grown) ∙ sym (append_assoc (lines_before_class s (suc c)) (r.last ∷ []) r.later) ∙ ap (λ t. t ++ r.later) (sym r.through) ∙ sym r.whole ∙ whole
          ∙ append_assoc before (w ∷ []) more ∙ ap (λ t. t ++ w ∷ more) parts ∙ append_assoc a block (w ∷ more)

      -- It cannot stand at the line behind, or later.
      too_late : (k : List (List ℕ)) → block ++ w ∷ [] ≡ m ++ r.last ∷ k → ⊥
      too_late k late =
          let all : before ++ w ∷ [] ≡ lines_before_class s (suc c) ++ r.last ∷ k =
          ap (λ t. t ++ w ∷ []) parts ∙ append_assoc a block (w ∷ []) ∙ ap (λ t. a ++ t) late ∙ sym (append_assoc a m (r.last ∷ k)) ∙ ap (λ t. t ++ r.last ∷ k) (sym r.grown) in
          no_turn_behind c (lines_before_class s (suc c)) k r.last later (turns s c x e r) (ap (after_lines stages.Start) (sym all) ∙ reads) few

      by_fronts : Fronts m block (r.last ∷ r.later) (w ∷ more) → (rest : List (List ℕ)) × (m ≡ block ++ w ∷ rest)
      by_fronts (first_longer [] f g) = absurd (too_late [] (ap (λ t. t ++ w ∷ []) (sym (f ∙ append-nil block)) ∙ ap (λ t. m ++ t ∷ []) (let head : w ≡ r.last = cc in head)))
      by_fronts (first_longer (j ∷ k) f g) = (k, f ∙ ap (λ t. block ++ t ∷ k) (let head : j ≡ w = cc in head))
      by_fronts (second_longer [] f g) = absurd (too_late [] (ap (λ t. t ++ w ∷ []) (f ∙ append-nil m) ∙ ap (λ t. m ++ t ∷ []) (let head : w ≡ r.last = cc in head)))
      by_fronts (second_longer (j ∷ k) f g) = absurd (too_late (k ++ w ∷ []) (ap (λ t. t ++ w ∷ []) f ∙ append_assoc m (j ∷ k) (w ∷ []) ∙ ap (λ t. m ++ t ∷ (k ++ w ∷ [])) (let head : j ≡ r.last = cc in head)))

-- The reader's fault of a line is one in the words of settings.
pub act_is : (before : List (List ℕ)) (d : Outline) (text : List ℕ) (fault : ActFault) → after_lines stages.Start before ≡ Some d → after_bytes d text ≡ Err fault → IsActFault before text fault
act_is before d text fault reads e =
    let f = faulty_line d text fault e in
    let h = f.head in
    let done = f.done in
    let b = f.block in
    let opened : after_lines stages.Start before ≡ Some (stages.Open h done b) = reads ∙ ap Some f.open_is in
    let good = good_of before (stages.Open h done b) opened in
    let right = right_of f.word in
    let taken' = action_right b f.word f.action fault (few_marks h b good.3) f.refused_is in
    let w : List ℕ = action_word f.word ++ right in
    let next : Outline = stages.Open h done taken'.0 in
    let read : after_bytes (stages.Open h done b) w ≡ Ok (Some next) =
    next_line (stages.Open h done b) next (lines.Action f.word right) (right_line f.word) (ap (lifted (stages.Open h done)) taken'.1) in
    let longer = extended before w (stages.Open h done b) next opened read in
    let begins = read_begins (before ++ w ∷ []) next longer in
    let s = begins.setting in
    let all : after_lines stages.Start ((before ++ w ∷ []) ++ begins.more) ≡ Some (stages.Ended s) = ap (after_lines stages.Start) (sym begins.parts) ∙ lines_read s begins.written in
    let on = reads_to (before ++ w ∷ []) begins.more next (stages.Ended s) longer all in
    let good_next = good_of (before ++ w ∷ []) next longer in
    let some = some_regions h b taken'.0 f.word right good.3 taken'.1 in
    let whole : after_lines stages.Start (before ++ w ∷ begins.more) ≡ Some (stages.Ended s) = ap (after_lines stages.Start) (sym (append_assoc before (w ∷ []) begins.more)) ∙ all in
    let from_here = reads_to before (w ∷ begins.more) (stages.Open h done b) (stages.Ended s) opened whole in
    let at = in_block s h done b (w ∷ begins.more) good some from_here in
    let r = class_read s begins.written (length done) at.class at.class_is in
    let lines_are : before ≡ lines_before_class s (length done) ++ block_part b =
    sym (lines_reach stages.Start before (stages.Open h done b) tt opened).0 ∙ sym (append_assoc (head_part h) (done_part h done) (block_part b)) ∙ ap (λ t. t ++ block_part b) (sym (before_is s h done b at)) in
    let rest = inside s (length done) at.class at.class_is r before (block_part b) begins.more w next lines_are begins.parts longer (omega arith) in
    record {
      word = f.word;
      action = f.action;
      parts = f.text_is;
      line_text = f.line_text;
      setting = s;
      written = begins.written;
      place = length done;
      class = at.class;
      class_is = at.class_is;
      inner = block_part b;
      before_is = lines_are;
      right = right;
      more = rest.0;
      block = rest.1;
      fault_is = subst (λ ns. HasActFault f.word ns f.action fault) (sym at.names_are) (named_fault b f.word f.action fault (action_fault b f.word f.action fault f.refused_is));
    }

-- ---- the words of the reader

-- a line of an action is read as one
action_none : (word : ActionLine) (text : List ℕ) → is_utf8 text ≡ false → line_taken (action_word word ++ text) ≡ None
unfolding line_taken head_line_taken element_line_taken part_line_taken signal_taken object_taken var_taken named_taken region_line_taken vertex_line_taken end_taken transition_line_taken action_taken behind_word stripped
action_none actions.Entry text other = rw other refl
action_none actions.Exit text other = rw other refl
action_none actions.Step text other = rw other refl
action_none actions.When text other = rw other refl
action_none actions.Effect text other = rw other refl

inner_rest : (a b : List ℕ) → IsInner (a ++ b) → IsInner b
inner_rest [] b inner = inner
inner_rest (c ∷ a) b inner = inner_rest a b (and_parts (is_inner c) (list_all is_inner (a ++ b)) inner).1

-- what a right line says
record RightLine (d : Outline) (word : ActionLine) (right : List ℕ) (e : Outline) : Type 0 where
  head : Head
  done : List Class
  block : Block
  later : Block
  open_is : d ≡ stages.Open head done block
  taken_is' : with_action block word right ≡ Ok (Some later)
  next_is : stages.Open head done later ≡ e

right_is : (d e : Outline) (word : ActionLine) (right : List ℕ) → after_bytes d (action_word word ++ right) ≡ Ok (Some e) → RightLine d word right e
right_is d e word right read = let r = read_inner d (action_word word ++ right) (Ok (Some e)) read (λ none. absurd cc) in by_text (is_utf8 right) refl r.0 r.1 where
  by_stage : (d' : Outline) → d ≡ d' → after_line d' (lines.Action word right) ≡ Ok (Some e) → RightLine d word right e
  by_stage stages.Start same at = absurd cc
  by_stage (stages.Heading h) same at = absurd cc
  by_stage (stages.Open h done b) same at =
      let y = lifted_takes (stages.Open h done) (with_action b word right) e at in
      record { head = h; done = done; block = b; later = y.0; open_is = same; taken_is' = y.1; next_is = y.2 }
  by_stage (stages.Ended s) same at = absurd cc

  by_text : (t : Bool) → is_utf8 right ≡ t → IsInner (action_word word ++ right) → line_or_none d (line_taken (action_word word ++ right)) ≡ Ok (Some e) → RightLine d word right e
  by_text true utf8 inner at =
      let good : IsLineText right = record { utf8 = IsUtf8-from_is_utf8 right utf8; inner = inner_rest (action_word word) right inner } in
      by_stage d refl (ap (line_or_none d) (sym (line_again (lines.Action word right) good)) ∙ at)
  by_text false other inner at = absurd (let none : fine None ≡ Ok (Some e) = ap (line_or_none d) (sym (action_none word right other)) ∙ at in cc)

not_machine : (word : ActionLine) (right name : List ℕ) → action_word word ++ right ≡ codes "machine " ++ name → ⊥
not_machine actions.Entry right name e = absurd (let first : 101 ≡ 109 = ap (λ (t : List ℕ). get_or t 0 0) e in omega (arith, first))
not_machine actions.Exit right name e = absurd (let first : 101 ≡ 109 = ap (λ (t : List ℕ). get_or t 0 0) e in omega (arith, first))
not_machine actions.Step right name e = absurd (let first : 115 ≡ 109 = ap (λ (t : List ℕ). get_or t 0 0) e in omega (arith, first))
not_machine actions.When right name e = absurd (let first : 105 ≡ 109 = ap (λ (t : List ℕ). get_or t 0 0) e in omega (arith, first))
not_machine actions.Effect right name e = absurd (let first : 101 ≡ 109 = ap (λ (t : List ℕ). get_or t 0 0) e in omega (arith, first))

faulty_read : (h : Head) (done : List Class) (b : Block) (word : ActionLine) (action : List ℕ) (fault : ActFault) → IsLineText action → with_action b word action ≡ Err fault → after_bytes (stages.Open h done b) (action_word word ++ action) ≡ Err fault
unfolding after_bytes
faulty_read h done b word action fault is e = rw (line_inner (lines.Action word action) is, line_again (lines.Action word action) is) (ap (lifted (stages.Open h done)) e)

-- The open block is that of the class.
same_place : (before : List (List ℕ)) (s : Setting) (c : ℕ) (x : Class) (r : ClassRead s c x) (inner : List (List ℕ)) → before ≡ lines_before_class s c ++ inner → (right : List ℕ) (word : ActionLine) (more : List (List ℕ))
    → machine_lines s x ≡ inner ++ (action_word word ++ right) ∷ more → (h : Head) (done : List Class) (b later : Block) → after_lines stages.Start before ≡ Some (stages.Open h done b) → with_action b word right ≡ Ok (Some later) → take c s.classes ≡ done
same_place before s c x r [] parts right word more block h done b later reads taken' =
    absurd (not_machine word right x.name (let e : line_text (lines.Machine x.name) ∷ r.inner ≡ (action_word word ++ right) ∷ more = sym r.machine_is ∙ block in let head : line_text (lines.Machine x.name) ≡ action_word word ++ right = cc in sym head))
same_place before s c x r (j ∷ inner) parts right word more block h done b later reads taken' =
    let head_of_block : line_text (lines.Machine x.name) ∷ r.inner ≡ j ∷ (inner ++ (action_word word ++ right) ∷ more) = sym r.machine_is ∙ block in
    let first : line_text (lines.Machine x.name) ≡ j = cc in
    let on = reads_to (lines_before_class s c) (j ∷ inner) r.before (stages.Open h done b) r.reads_before (ap (after_lines stages.Start) (sym parts) ∙ reads) in
    let step = reads_on r.before (stages.Open h done b) j inner on in
    let begun = stages.Open (head_of s) (take c s.classes) (empty_block (head_of s) x.name) in
    let same : begun ≡ step.0 = some_is begun step.0 (ok_is (Some begun) (Some step.0) (sym r.begun ∙ ap (after_bytes r.before) first ∙ step.1)) in
    let good_step = (bytes_reach r.before j step.0 (good_of (lines_before_class s c) r.before r.reads_before) step.1).good in
    let lower = done_stay step.0 (stages.Open h done b) inner good_step step.2 in
    let lower_is : done ≡ take c s.classes ++ lower.0 = lower.1 ∙ ap (λ (y : Outline). done_of y ++ lower.0) (sym same) in
    let full = stages.Open (head_of s) (take c s.classes) (block_of (head_of s) x) in
    let all : after_lines stages.Start (before ++ (action_word word ++ right) ∷ more) ≡ Some full =
    ap (after_lines stages.Start) (ap (λ t. t ++ (action_word word ++ right) ∷ more) parts ∙ append_assoc (lines_before_class s c) (j ∷ inner) ((action_word word ++ right) ∷ more) ∙ ap (λ t. lines_before_class s c ++ t) (sym block))
    ∙ after_append stages.Start (lines_before_class s c) (machine_lines s x) ∙ ap (λ o. o >>= (λ d. after_lines d (machine_lines s x))) r.reads_before ∙ r.reads in
    let rest = reads_to before ((action_word word ++ right) ∷ more) (stages.Open h done b) full reads all in
    let upper = done_stay (stages.Open h done b) full ((action_word word ++ right) ∷ more) (good_of before (stages.Open h done b) reads) rest in
    no_more (take c s.classes) done upper.0 lower.0 upper.1 lower_is

-- A fault in the words of settings is the reader's.
pub act_line_told : (before : List (List ℕ)) (d : Outline) (text : List ℕ) (fault : ActFault) → after_lines stages.Start before ≡ Some d → IsActFault before text fault → after_bytes d text ≡ Err fault
act_line_told before d text fault reads p =
    let s = p.setting in
    let c = p.place in
    let x = p.class in
    let w : List ℕ = action_word p.word ++ p.right in
    let r = class_read s p.written c x p.class_is in
    let a = lines_before_class s c in
    let rest : List (List ℕ) = p.more ++ r.last ∷ r.later in
    let whole : flat_lines s ≡ before ++ w ∷ rest =
    r.whole ∙ ap (λ t. t ++ r.later) r.through ∙ append_assoc (lines_before_class s (suc c)) (r.last ∷ []) r.later ∙ ap (λ t. t ++ r.last ∷ r.later) (r.grown ∙ ap (λ t. a ++ t) p.block ∙ sym (append_assoc a p.inner (w ∷ p.more)) ∙ ap (λ t. t ++ w ∷ p.more) (sym p.before_is))
    ∙ append_assoc before (w ∷ p.more) (r.last ∷ r.later) in
    let on = reads_to before (w ∷ rest) d (stages.Ended s) reads (ap (after_lines stages.Start) (sym whole) ∙ lines_read s p.written) in
    let step = reads_on d (stages.Ended s) w rest on in
    let l = right_is d step.0 p.word p.right step.1 in
    let h = l.head in
    let done = l.done in
    let b = l.block in
    let opened : after_lines stages.Start before ≡ Some (stages.Open h done b) = reads ∙ ap Some l.open_is in
    let good = good_of before (stages.Open h done b) opened in
    let some = some_regions h b l.later p.word p.right good.3 l.taken_is' in
    let at = in_block s h done b (w ∷ rest) good some (subst (λ y. after_lines y (w ∷ rest) ≡ Some (stages.Ended s)) l.open_is on) in
    let place : take c s.classes ≡ done = same_place before s c x r p.inner p.before_is p.right p.word p.more p.block h done b l.later opened l.taken_is' in
    let count : c ≡ length done = sym (take_count s.classes c x p.class_is) ∙ ap length place in
    let both : Some x ≡ Some at.class = sym p.class_is ∙ ap (slice_get s.classes) count ∙ at.class_is in
    let class : x ≡ at.class = some_is x at.class both in
    let names : names_of s x ≡ b.names = ap (names_of s) class ∙ at.names_are in
    let fault_at = told_fault b p.word p.action fault (subst (λ ns. HasActFault p.word ns p.action fault) names p.fault_is) in
    let refused' = action_instead b l.later p.word p.right p.action fault l.taken_is' fault_at in
    subst (λ (y : Outline). after_bytes y text ≡ Err fault) (sym l.open_is)
    (ap (after_bytes (stages.Open h done b)) p.parts ∙ faulty_read h done b p.word p.action fault p.line_text refused')

-- The lines before such a line begin a text.
pub act_begins : (before : List (List ℕ)) (text : List ℕ) (fault : ActFault) → IsActFault before text fault → BeginsText before
act_begins before text fault p =
    let r = class_read p.setting p.written p.place p.class p.class_is in
    let a = lines_before_class p.setting p.place in
    let w : List ℕ = action_word p.word ++ p.right in
    record {
      setting = p.setting;
      written = p.written;
      more = w ∷ (p.more ++ r.last ∷ r.later);
      parts = r.whole ∙ ap (λ t. t ++ r.later) r.through ∙ append_assoc (lines_before_class p.setting (suc p.place)) (r.last ∷ []) r.later
          ∙ ap (λ t. t ++ r.last ∷ r.later) (r.grown ∙ ap (λ t. a ++ t) p.block ∙ sym (append_assoc a p.inner (w ∷ p.more)) ∙ ap (λ t. t ++ w ∷ p.more) (sym p.before_is))
          ∙ append_assoc before (w ∷ p.more) (r.last ∷ r.later);
    }
