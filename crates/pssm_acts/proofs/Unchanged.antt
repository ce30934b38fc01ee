-- A text in canonical spelling is read, whatever marks there are, and written back unchanged.
use Rattle.std.proofs.Common.{◌≡◌, ℕ, List, [], Result, Ok, Err, IfOk, IfErr, refl, sym, ap, ◌∙◌, subst}
use Rattle.pssm_acts.specs.declared.act_fault.ActFault.{ActFault}
use Rattle.pssm_acts.specs.declared.act_fault.ActFault.TheVariants.{Syntax, UnknownName, WideNumber, Arity, TooLong, NoMemory}
use Rattle.pssm_semantics.specs.declared.setting.Names.{Names}
use Rattle.pssm_semantics.specs.declared.tree.Act.{Act}
use Rattle.pssm_semantics.specs.declared.tree.Cond.{Cond}
use Rattle.pssm_semantics.specs.declared.tree.Stmt.{Stmt}
use Rattle.pssm_acts.specs.ActGrammar.{SpellsAct}
use Rattle.pssm_acts.specs.inner.ActReading.{act_reading}
use Rattle.pssm_acts.specs.ActText.{cond_text, act_text}
use Rattle.pssm_acts.specs.Canonical.{IsCanonicalCond, IsCanonicalAct}
use Rattle.pssm_acts.specs.inner.ExprReading.{Answers}
use Rattle.pssm_acts.specs.inner.GuardReading.{cond_reading}
use Rattle.pssm_acts.specs.Marks.{KeepsMarks}
use Rattle.pssm_acts.specs.inner.PhraseReading.{AnswersWith}
use Rattle.pssm_acts.specs.ReadBack.{CanBeReadBack}
use Rattle.pssm_acts.proofs.ActLaws.{act_answers_spelled}
use Rattle.pssm_acts.proofs.ActRead.{act_read}
use Rattle.pssm_acts.proofs.ActTextLaws.{fault_alone}
use Rattle.pssm_acts.proofs.AnswerLaws.{same_kept}
use Rattle.pssm_acts.proofs.BlockBack.{act_read_back}
use Rattle.pssm_acts.proofs.CondLaws.{spelled_reading}
use Rattle.pssm_acts.proofs.GuardBack.{guard_read_back}
use Rattle.pssm_acts.proofs.OtherMarks.{ActAgain, act_again}

-- What can be read is refused for want of memory alone.
memory_alone : {A : Type 0} (due : Result A ActFault) (x : A) (fault : ActFault) → due ≡ Ok x → Answers due (Err fault) → fault ≡ NoMemory
memory_alone due x NoMemory is h = refl
memory_alone due x (Syntax at) is h = absurd cc
memory_alone due x (UnknownName at) is h = absurd cc
memory_alone due x (WideNumber at) is h = absurd cc
memory_alone due x (Arity at) is h = absurd cc
memory_alone due x (TooLong at) is h = absurd cc

-- ---- guards

cond_canonical : (names : Names) (text : List ℕ) (canonical : IsCanonicalCond names text) → cond_reading names text ≡ Ok canonical.cond
cond_canonical names text canonical = spelled_reading names text canonical.cond (guard_read_back names canonical.cond [] text refl (sym canonical.same) canonical.can)

-- The clauses of `read_cond`.
pub cond_canonical_read : (names : Names) (text : List ℕ) (r : Result Cond ActFault) → Answers (cond_reading names text) r → IsCanonicalCond names text → IfErr r (λ fault. fault ≡ NoMemory)
cond_canonical_read names text (Ok c) h canonical = tt
cond_canonical_read names text (Err fault) h canonical = memory_alone (cond_reading names text) canonical.cond fault (cond_canonical names text canonical) h

pub cond_unchanged : (names : Names) (text : List ℕ) (r : Result Cond ActFault) → Answers (cond_reading names text) r → IsCanonicalCond names text → IfOk r (λ c. cond_text names c ≡ text)
cond_unchanged names text (Ok c) h canonical =
    let known : cond_reading names text ≡ Ok canonical.cond = cond_canonical names text canonical in
    let same : c ≡ canonical.cond = cc in
    ap (cond_text names) same ∙ canonical.same
cond_unchanged names text (Err fault) h canonical = tt

-- ---- behaviours

-- A text spells one behaviour with the marks that there are.
pub act_alone : (names : Names) (marks : List (List ℕ)) (text : List ℕ) (act other : Act) (noted left : List (List ℕ)) → SpellsAct names marks text act noted → SpellsAct names marks text other left
    → (act ≡ other) × (noted ≡ left)
act_alone names marks text act other noted left first second =
    let one : act_reading names marks text ≡ Ok (act, noted) = act_read names marks text act noted first in
    let two : act_reading names marks text ≡ Ok (other, left) = act_read names marks text other left second in
    let read : Act × List (List ℕ) = (act, noted) in
    let same : read ≡ (other, left) = cc in
    (ap (λ (pair : Act × List (List ℕ)). pair.0) same, ap (λ (pair : Act × List (List ℕ)). pair.1) same)

-- What was spelled with some marks is written alike with the later ones, and so is what the same text spells with any others.
pub written_alike : (names : Names) (marks others : List (List ℕ)) (text : List ℕ) (act read : Act) (noted left more further : List (List ℕ)) → SpellsAct names marks text act noted → SpellsAct names others text read left
    → KeepsMarks noted more → KeepsMarks left further → act_text names further read ≡ act_text names more act
written_alike names marks others text act read noted left more further first second kept kept' =
    let again = act_again names marks text act noted first others in
    let same = act_alone names others text read again.read left again.left second again.spelled in
    ap (act_text names further) same.0 ∙ again.written more further kept (subst (λ m. KeepsMarks m further) same.1 kept')

act_canonical : (names : Names) (marks : List (List ℕ)) (text : List ℕ) (canonical : IsCanonicalAct names text) → ActAgain names text canonical.act canonical.marks marks
act_canonical names marks text canonical =
    act_again names canonical.marks text canonical.act canonical.marks (act_read_back names canonical.marks canonical.act text (sym canonical.same) canonical.can) marks

-- What is read of a text in canonical spelling is written as this text, also with marks that are noted later.
pub canonical_written : (names : Names) (marks : List (List ℕ)) (text : List ℕ) (act : Act) (noted more : List (List ℕ)) → IsCanonicalAct names text → SpellsAct names marks text act noted → KeepsMarks noted more
    → act_text names more act ≡ text
canonical_written names marks text act noted more canonical spells kept =
    written_alike names canonical.marks marks text canonical.act act canonical.marks noted canonical.marks more
    (act_read_back names canonical.marks canonical.act text (sym canonical.same) canonical.can) spells (same_kept canonical.marks canonical.marks refl) kept
    ∙ canonical.same

-- What was read is read again from its spelling with later marks, by a reader that has the marks that were there before it was read.
pub read_again : (names : Names) (marks : List (List ℕ)) (text : List ℕ) (act : Act) (noted more : List (List ℕ)) → SpellsAct names marks text act noted → KeepsMarks noted more → CanBeReadBack names more act
    → SpellsAct names marks (act_text names more act) act noted
read_again names marks text act noted more spells kept can =
    let one = act_again names marks text act noted spells marks in
    let alone = act_alone names marks text act one.read noted one.left spells one.spelled in
    let two = act_again names more (act_text names more act) act more (act_read_back names more act (act_text names more act) refl can) marks in
    let was : List Stmt × List (List ℕ) = (act.stmts, noted) in
    let read : was ≡ (one.read.stmts, one.left) = cc in
    let same = sym (two.numbered more (same_kept more more refl)) ∙ one.numbered more kept ∙ sym read in
    subst (λ (pair : List Stmt × List (List ℕ)). SpellsAct names marks (act_text names more act) (record { stmts = pair.0 }) pair.1) same two.spelled

-- The clauses of `read_act`.
pub act_canonical_read : (names : Names) (marks : List (List ℕ)) (text : List ℕ) (r : Result Act ActFault) (left : List (List ℕ)) → AnswersWith (act_reading names marks text) r left → IsCanonicalAct names text
    → IfErr r (λ fault. fault ≡ NoMemory)
act_canonical_read names marks text (Ok act) left h canonical = tt
act_canonical_read names marks text (Err fault) left h canonical =
    let again = act_canonical names marks text canonical in
    memory_alone (act_reading names marks text) (again.read, again.left) fault (act_read names marks text again.read again.left again.spelled) (fault_alone (act_reading names marks text) fault left h)

pub act_unchanged : (names : Names) (marks : List (List ℕ)) (text : List ℕ) (r : Result Act ActFault) (left : List (List ℕ)) → AnswersWith (act_reading names marks text) r left → IsCanonicalAct names text
    → IfOk r (λ act. act_text names left act ≡ text)
act_unchanged names marks text (Ok act) left h canonical = canonical_written names marks text act left left canonical (act_answers_spelled names marks text (Ok act) left h) (same_kept left left refl)
act_unchanged names marks text (Err fault) left h canonical = tt
