-- How an answer that is owed comes of the parts of the work.
use Rattle.std.proofs.Common.{◌≡◌, ◌<◌, ◌≤◌, ℕ, List, [], ◌∷◌, length, codes, Option, IfSome, Result, Ok, Err, IfOk, IfErr, refl, sym, subst, inl, inr, arith, ◌∙◌}
use Rattle.pssm_base.specs.Faults.{Rose, NoneFell}
use Rattle.pssm_base.specs.History.{History}
use Rattle.pssm_base.specs.Reading.{Contents, Given, given, ReadsWhole, HoldsMore, ReadsNothing, SameContent}
use Rattle.pssm_semantics.specs.declared.setting.Setting.{Setting}
use Rattle.pssm_journal.specs.Judged.{Accepted, Refused, Limited, BadText}
use Rattle.pssm_judge.specs.declared.verdict.Verdict.{Verdict}
use Rattle.pssm_judge.specs.declared.verdict.Verdict.TheVariants as verdicts
use Rattle.pssm_judge.specs.declared.verdict.JudgeFault.{JudgeFault}
use Rattle.pssm_judge.specs.declared.verdict.JudgeFault.TheVariants as faults
use Rattle.pssm_judge.specs.Verdicts.{IsVerdictFor, IsFaultFor}
use Rattle.pssm_lines.specs.declared.fault.LineFault.TheVariants as bad_lines
use Rattle.pssm_tool.specs.declared.answer.Answer.{Answer}
use Rattle.pssm_tool.specs.declared.failure.Failure.{Failure}
use Rattle.pssm_tool.specs.declared.failure.Failure.TheVariants.{ReadFault, NoMemory}
use Rattle.pssm_tool.specs.Words.{Meaning, Judges, Means}
use Rattle.pssm_tool.specs.Due.{File, source_of, NamePath, HasModel, large_journal, judged, IsOwed, large_model, bad_model, on_model}
use Rattle.pssm_tool.specs.Headline.{IsContinued}
use Rattle.pssm_tool.specs.inner.Verdicts.{said}
use Rattle.pssm_tool.specs.inner.Failures.{LacksModel, holds_more, has_fault, FailedAt, FailedFor, GoesOn}

-- ---- the model

pub model_named : (words : List (List ℕ)) (meaning : Meaning) (path : List ℕ) → Means words meaning → source_of meaning ≡ File path → NamePath words path
model_named words meaning path means is = inl (meaning, means, is)

pub journal_named : (words : List (List ℕ)) (model journal : List ℕ) → Means words (Judges model journal) → NamePath words journal
journal_named words model journal is = inr (model, is)

-- An answer that is owed, and that accepts no journal or one that goes on.
abbrev pub IsGiven : List (List ℕ) → Given → Answer → Type 0
IsGiven words given answer = IsOwed words given answer × GoesOn words given answer

-- What is answered where there is no model is owed.
pub lacks_owed : (words : List (List ℕ)) (meaning : Meaning) (path : List ℕ) (given : Given) (answer : Answer) → Means words meaning → source_of meaning ≡ File path
    → LacksModel given path answer → IsGiven words given answer
lacks_owed words meaning path given answer means is (holds_more more e) =
    subst (λ (a : Answer). IsGiven words given a) (sym e) (large_model path (meaning, means, is) more refl, tt)
lacks_owed words meaning path given answer means is (has_fault bytes fault reads wrong e) =
    subst (λ (a : Answer). IsGiven words given a) (sym e) (bad_model path bytes fault (meaning, means, is) reads wrong refl, tt)

-- Reading the model failed.
pub failed_at_model : (words : List (List ℕ)) (meaning : Meaning) (path : List ℕ) (before after : List ℕ → ℕ) (failure : Failure) → Means words meaning → source_of meaning ≡ File path
    → FailedAt (before path) (after path) failure → FailedFor words before after failure
failed_at_model words meaning path before after ReadFault means is rose = (path, model_named words meaning path means is, rose)
failed_at_model words meaning path before after NoMemory means is none = tt

-- ---- the journal

-- What was read after the model was read holds of what was told before.
pub same_bytes : (contents then : Contents) (moment ended : History) (path bytes : List ℕ) → SameContent contents then → ReadsWhole (given then moment ended) path 16777216 bytes
    → ReadsWhole (given contents moment ended) path 16777216 bytes
same_bytes contents then moment ended path bytes same reads = record {
  told = subst (λ (o : Option (List ℕ)). IfSome o (λ held. bytes ≡ held)) (same path) reads.told;
  read = reads.read;
  at_most = reads.at_most;
}

same_size : (contents then : Contents) (moment ended : History) (path : List ℕ) → SameContent contents then → HoldsMore (given then moment ended) path 16777216
    → HoldsMore (given contents moment ended) path 16777216
same_size contents then moment ended path same large = record {
  told = subst (λ (o : Option (List ℕ)). IfSome o (λ held. 16777216 < length held)) (same path) large.told;
  read = large.read;
}

-- a count that did not fall and then rose
rose_after : (a b c : ℕ) → a ≤ b → Rose b c → Rose a c
rose_after a b c fell rose below = let up : b < c = rose below in omega arith

-- the model that was read, and what the judge said of the journal
module _ (contents then : Contents) (began moment ended : History) (before mid after : List ℕ → ℕ) (model journal : List ℕ) (setting : Setting) (has : HasModel (given contents began moment) (File model) setting) (same : SameContent contents then) (fell : NoneFell before mid) where
  -- The answer is owed.
  owed_said : (r : Result Verdict JudgeFault) → IfOk r (IsVerdictFor setting (given then moment ended) journal) → IfErr r (IsFaultFor setting (given then moment ended) (mid journal) (after journal) journal)
      → IfOk (said r) (λ answer. (words : List (List ℕ)) → Means words (Judges model journal) → IsOwed words (given contents began ended) answer)
  owed_said (Ok (verdicts.Accept n)) v f = λ words is. on_model (Judges model journal) setting moment is has (judged v.bytes (Accepted n) (same_bytes contents then moment ended journal v.bytes same v.reads) v.says.0 refl)
  owed_said (Ok (verdicts.Refuse n rule)) v f = λ words is. on_model (Judges model journal) setting moment is has (judged v.bytes (Refused n rule) (same_bytes contents then moment ended journal v.bytes same v.reads) v.says refl)
  owed_said (Err (faults.Text bad)) v f = λ words is. on_model (Judges model journal) setting moment is has (judged f.0 (BadText bad) (same_bytes contents then moment ended journal f.0 same f.1) f.2 refl)
  owed_said (Err (faults.Limit n)) v f = λ words is. on_model (Judges model journal) setting moment is has (judged f.0 (Limited n) (same_bytes contents then moment ended journal f.0 same f.1) f.2 refl)
  owed_said (Err faults.TooLarge) v f = λ words is. on_model (Judges model journal) setting moment is has (large_journal (same_size contents then moment ended journal same f) refl)
  owed_said (Err faults.ReadFault) v f = tt
  owed_said (Err faults.NoMemory) v f = tt

  -- An accepted journal goes on to a complete run.
  continues : (n : ℕ) (v : IsVerdictFor setting (given then moment ended) journal (verdicts.Accept n)) (words : List (List ℕ)) → Means words (Judges model journal) → (m j : List ℕ) → Means words (Judges m j) → IsContinued (given contents began ended) m j
  continues n v words is m j means =
      let both : codes "judge" ∷ model ∷ journal ∷ [] ≡ codes "judge" ∷ m ∷ j ∷ [] = sym is ∙ means in
      let models : model ≡ m = cc in
      let journals : journal ≡ j = cc in
      let p = v.says.1 in
      subst (λ (t : List ℕ). IsContinued (given contents began ended) t j) models (subst (λ (t : List ℕ). IsContinued (given contents began ended) model t) journals (record {
        setting = setting;
        entries = p.journal;
        moment = moment;
        model_is = has;
        holds = record {
          bytes = v.bytes;
          lines = p.lines;
          reads = same_bytes contents then moment ended journal v.bytes same v.reads;
          text = p.text;
          lines_are = p.kept.lines_are;
          entries_are = p.kept.entries_are;
          limits = p.kept.limits;
        };
        completes = p.completes;
      }))

  goes_on_said : (r : Result Verdict JudgeFault) → IfOk r (IsVerdictFor setting (given then moment ended) journal)
      → IfOk (said r) (λ answer. (words : List (List ℕ)) → Means words (Judges model journal) → GoesOn words (given contents began ended) answer)
  goes_on_said (Ok (verdicts.Accept n)) v = λ words is. continues n v words is
  goes_on_said (Ok (verdicts.Refuse n rule)) v = λ words is. tt
  goes_on_said (Err (faults.Text (bad_lines.BadLine line byte))) v = λ words is. tt
  goes_on_said (Err (faults.Text (bad_lines.LongLine line))) v = λ words is. tt
  goes_on_said (Err (faults.Text (bad_lines.NoEnd line))) v = λ words is. tt
  goes_on_said (Err (faults.Limit n)) v = λ words is. tt
  goes_on_said (Err faults.TooLarge) v = λ words is. tt
  goes_on_said (Err faults.ReadFault) v = tt
  goes_on_said (Err faults.NoMemory) v = tt

  -- Reading the journal failed.
  failed_said : (r : Result Verdict JudgeFault) → IfErr r (IsFaultFor setting (given then moment ended) (mid journal) (after journal) journal)
      → IfErr (said r) (λ failure. (words : List (List ℕ)) → Means words (Judges model journal) → FailedFor words before after failure)
  failed_said (Ok (verdicts.Accept n)) f = tt
  failed_said (Ok (verdicts.Refuse n rule)) f = tt
  failed_said (Err (faults.Text bad)) f = tt
  failed_said (Err (faults.Limit n)) f = tt
  failed_said (Err faults.TooLarge) f = tt
  failed_said (Err faults.ReadFault) f = λ words is. (journal, journal_named words model journal is, rose_after (before journal) (mid journal) (after journal) (fell journal) f)
  failed_said (Err faults.NoMemory) f = λ words is. tt

  -- ---- what the function answers, which is what the judge says
  module _ (r : Result Verdict JudgeFault) (verdict : IfOk r (IsVerdictFor setting (given then moment ended) journal)) (fault : IfErr r (IsFaultFor setting (given then moment ended) (mid journal) (after journal) journal))
      (answered : Result Answer Failure) (is_said : answered ≡ said r) where
    pub judged_owed : IfOk answered (λ answer. (words : List (List ℕ)) → Means words (Judges model journal) → IsOwed words (given contents began ended) answer)
    judged_owed = subst (λ (x : Result Answer Failure). IfOk x (λ answer. (words : List (List ℕ)) → Means words (Judges model journal) → IsOwed words (given contents began ended) answer)) (sym is_said) (owed_said r verdict fault)

    pub judged_goes_on : IfOk answered (λ answer. (words : List (List ℕ)) → Means words (Judges model journal) → GoesOn words (given contents began ended) answer)
    judged_goes_on = subst (λ (x : Result Answer Failure). IfOk x (λ answer. (words : List (List ℕ)) → Means words (Judges model journal) → GoesOn words (given contents began ended) answer)) (sym is_said) (goes_on_said r verdict)

    pub judged_failed : IfErr answered (λ failure. (words : List (List ℕ)) → Means words (Judges model journal) → FailedFor words before after failure)
    judged_failed = subst (λ (x : Result Answer Failure). IfErr x (λ failure. (words : List (List ℕ)) → Means words (Judges model journal) → FailedFor words before after failure)) (sym is_said) (failed_said r fault)

-- ---- the words

-- What holds for all words that mean a command holds for these.
pub at_words : {X E : Type 0} (r : Result X E) (Q : List (List ℕ) → X → Type 0) (words : List (List ℕ)) (meaning : Meaning) → IfOk r (λ x. (w : List (List ℕ)) → Means w meaning → Q w x) → Means words meaning → IfOk r (Q words)
at_words (Ok x) Q words meaning holds means = holds words means
at_words (Err e) Q words meaning holds means = tt

-- What holds for all of a kind holds for this one.
pub at_any : {X E A : Type 0} (r : Result X E) (Q : A → X → Type 0) (a : A) → IfOk r (λ x. (b : A) → Q b x) → IfOk r (Q a)
at_any (Ok x) Q a holds = holds a
at_any (Err e) Q a holds = tt

-- What holds where nothing is read holds here.
pub at_nothing : {X E : Type 0} (r : Result X E) (Q : Given → X → Type 0) (given : Given) → ReadsNothing given → IfOk r (λ x. (other : Given) → ReadsNothing other → Q other x) → IfOk r (Q given)
at_nothing (Ok x) Q given nothing holds = holds given nothing
at_nothing (Err e) Q given nothing holds = tt

-- Want of memory is a failure for all words.
pub no_memory_failed : {X : Type 0} (r : Result X Failure) (words : List (List ℕ)) (before after : List ℕ → ℕ) → IfErr r (λ f. f ≡ NoMemory) → IfErr r (FailedFor words before after)
no_memory_failed (Ok x) words before after is = tt
no_memory_failed (Err f) words before after is = subst (λ (x : Failure). FailedFor words before after x) (sym is) tt
