-- What a status tells of the answer that is owed.
use Rattle.std.proofs.Common.{◌≡◌, ◌≢◌, ◌⊎◌, ℕ, List, length, Option, None, Some, refl, sym, subst, inl, inr, arith, ap, ◌∙◌}
use Rattle.std.proofs.lemmas.Bool.Decides.{eqb_tells}
use Rattle.std.specs.Prelude.{IsSome}
use Rattle.std.specs.Io.KnownBytes.{Appends}
use Rattle.pssm_base.specs.History.{History}
use Rattle.pssm_base.specs.Reading.{Contents, Given, given, until, onward}
use Rattle.pssm_semantics.specs.declared.entry.Rule.{Rule}
use Rattle.pssm_semantics.specs.declared.setting.Setting.{Setting}
use Rattle.pssm_semantics.specs.declared.stimulus.Stimulus.{Stimulus}
use Rattle.pssm_lines.specs.declared.fault.LineFault.TheVariants as lines
use Rattle.pssm_journal.specs.Judged.{Judged, Accepted, Refused, Limited, BadText}
use Rattle.pssm_load.specs.declared.fault.LoadFault.{LoadFault}
use Rattle.pssm_tool.specs.declared.run_words.Options.{Options}
use Rattle.pssm_tool.specs.declared.answer.Answer.{Answer}
use Rattle.pssm_tool.specs.declared.answer.Answer.TheVariants.{Accept, Refuse, Limit, WellFormed, Usage, BadLine, NoEnd, TooLarge, Journal, Flat, Generated, BadModel}
use Rattle.pssm_workers.specs.declared.ended.Ended.TheVariants as ends
use Rattle.pssm_tool.specs.Words.{Meaning, Judges, Runs, Means}
use Rattle.pssm_tool.specs.Answers.{code_of, text_of, IsFailure}
use Rattle.pssm_tool.specs.Due.{File, source_of, HasModel, answer_to, IsDueForJournal, large_journal, judged, IsDueForRun, unfit, ran, IsDueForModel, IsOwed, usage, large_model, bad_model, on_model, IsTold, Gives, IsRunOwed, IsOfRun}
use Rattle.pssm_tool.specs.Headline.{IsContinued, IsAcceptedText}
use Rattle.pssm_tool.specs.inner.Failures.{GoesOn}
use Rattle.pssm_tool.proofs.WordLaws.{one_meaning}
use Rattle.pssm_tool.proofs.DueOnce.{HasOneLoad, AreAlike, owed_once, run_answered}
use Rattle.pssm_tool.proofs.ReadOnce.{owed_keeps, owed_once_read, run_answered_read}

-- ---- the answer of a status

refuse_from_code : (a : Answer) → code_of a ≡ 1 → (n : ℕ) × (rule : Rule) × (a ≡ Refuse n rule)
refuse_from_code (Refuse n rule) e = (n, rule, refl)
refuse_from_code (Journal text ends.Quiet) e = absurd (omega arith)
refuse_from_code (Journal text ends.Limit) e = absurd (omega arith)
refuse_from_code _ e = absurd (omega arith)

usage_from_code : (a : Answer) → code_of a ≡ 2 → a ≡ Usage
usage_from_code Usage e = refl
usage_from_code (Journal text ends.Quiet) e = absurd (omega arith)
usage_from_code (Journal text ends.Limit) e = absurd (omega arith)
usage_from_code _ e = absurd (omega arith)

-- the lines on what is wrong with a model
fault_from_code : (a : Answer) → code_of a ≡ 3 → (fault : LoadFault) × (a ≡ BadModel fault)
fault_from_code (BadModel fault) e = (fault, refl)
fault_from_code (Journal text ends.Quiet) e = absurd (omega arith)
fault_from_code (Journal text ends.Limit) e = absurd (omega arith)
fault_from_code _ e = absurd (omega arith)

-- the byte at which a journal's text goes wrong, or the line within which it ends
bad_journal_from_code : (a : Answer) → code_of a ≡ 4 → ((line : ℕ) × (byte : ℕ) × (a ≡ BadLine line byte)) ⊎ ((line : ℕ) × (a ≡ NoEnd line))
bad_journal_from_code (BadLine line byte) e = inl (line, byte, refl)
bad_journal_from_code (NoEnd line) e = inr (line, refl)
bad_journal_from_code (Journal text ends.Quiet) e = absurd (omega arith)
bad_journal_from_code (Journal text ends.Limit) e = absurd (omega arith)
bad_journal_from_code _ e = absurd (omega arith)

too_large_from_code : (a : Answer) → code_of a ≡ 9 → a ≡ TooLarge
too_large_from_code TooLarge e = refl
too_large_from_code (Journal text ends.Quiet) e = absurd (omega arith)
too_large_from_code (Journal text ends.Limit) e = absurd (omega arith)
too_large_from_code _ e = absurd (omega arith)

-- an acceptance, the journal of a run that ended quietly, a model that keeps the rules, or the line on a generated model's run
data IsGood (a : Answer) : Type 0 where
  accepts : (n : ℕ) → a ≡ Accept n → IsGood a
  quiet : (text : List ℕ) → a ≡ Journal text ends.Quiet → IsGood a
  well : a ≡ WellFormed → IsGood a
  printed : (text : List ℕ) → a ≡ Flat text → IsGood a
  line_on : (n entries takes : ℕ) (digest : List ℕ) → a ≡ Generated n entries takes digest → IsGood a

good_from_code : (a : Answer) → code_of a ≡ 0 → IsGood a
good_from_code (Accept n) e = accepts n refl
good_from_code WellFormed e = well refl
good_from_code (Flat text) e = printed text refl
good_from_code (Generated n entries takes digest) e = line_on n entries takes digest refl
good_from_code (Journal text ends.Quiet) e = quiet text refl
good_from_code (Journal text ends.Limit) e = absurd (omega arith)
good_from_code _ e = absurd (omega arith)

-- a journal that passes its limits, or that of a run which is full
data IsAtLimit (a : Answer) : Type 0 where
  limits : (n : ℕ) → a ≡ Limit n → IsAtLimit a
  full : (text : List ℕ) → a ≡ Journal text ends.Limit → IsAtLimit a

limit_from_code : (a : Answer) → code_of a ≡ 8 → IsAtLimit a
limit_from_code (Limit n) e = limits n refl
limit_from_code (Journal text ends.Quiet) e = absurd (omega arith)
limit_from_code (Journal text ends.Limit) e = full text refl
limit_from_code _ e = absurd (omega arith)

-- No answer has a status of failures.
pub code_is_known : (a : Answer) → (code_of a ≡ 5 → ⊥) × (code_of a ≡ 6 → ⊥) × (code_of a ≡ 7 → ⊥)
code_is_known (Journal text ends.Quiet) = ((λ e. omega arith), (λ e. omega arith), (λ e. omega arith))
code_is_known (Journal text ends.Limit) = ((λ e. omega arith), (λ e. omega arith), (λ e. omega arith))
code_is_known _ = ((λ e. omega arith), (λ e. omega arith), (λ e. omega arith))

-- What was told of an answer that is owed, by its status.
module _ (words : List (List ℕ)) (given : Given) (before after : Option (List ℕ)) (a : Answer) (owed : IsOwed words given a) (written : Appends before after (text_of a)) where
  given_as : (other : Answer) → a ≡ other → Gives words given before after other
  given_as other e = subst (λ (r : Answer). Gives words given before after r) e (owed, written)

  pub gives_good : code_of a ≡ 0 → ((n : ℕ) × Gives words given before after (Accept n)) ⊎ ((text : List ℕ) × Gives words given before after (Journal text ends.Quiet))
      ⊎ Gives words given before after WellFormed ⊎ ((text : List ℕ) × Gives words given before after (Flat text))
      ⊎ ((n entries takes : ℕ) × (digest : List ℕ) × Gives words given before after (Generated n entries takes digest))
  gives_good e = told (good_from_code a e) where
    told : IsGood a → ((n : ℕ) × Gives words given before after (Accept n)) ⊎ ((text : List ℕ) × Gives words given before after (Journal text ends.Quiet))
        ⊎ Gives words given before after WellFormed ⊎ ((text : List ℕ) × Gives words given before after (Flat text))
        ⊎ ((n entries takes : ℕ) × (digest : List ℕ) × Gives words given before after (Generated n entries takes digest))
    told (accepts n same) = inl (n, given_as (Accept n) same)
    told (quiet text same) = inr (inl (text, given_as (Journal text ends.Quiet) same))
    told (well same) = inr (inr (inl (given_as WellFormed same)))
    told (printed text same) = inr (inr (inr (inl (text, given_as (Flat text) same))))
    told (line_on n entries takes digest same) = inr (inr (inr (inr (n, entries, takes, digest, given_as (Generated n entries takes digest) same))))

  pub gives_limit : code_of a ≡ 8 → ((n : ℕ) × Gives words given before after (Limit n)) ⊎ ((text : List ℕ) × Gives words given before after (Journal text ends.Limit))
  gives_limit e = told (limit_from_code a e) where
    told : IsAtLimit a → ((n : ℕ) × Gives words given before after (Limit n)) ⊎ ((text : List ℕ) × Gives words given before after (Journal text ends.Limit))
    told (limits n same) = inl (n, given_as (Limit n) same)
    told (full text same) = inr (text, given_as (Journal text ends.Limit) same)

  pub gives_refuse : code_of a ≡ 1 → (n : ℕ) × (rule : Rule) × Gives words given before after (Refuse n rule)
  gives_refuse e = let r = refuse_from_code a e in (r.0, r.1, given_as (Refuse r.0 r.1) r.2)

  pub gives_usage : code_of a ≡ 2 → Gives words given before after Usage
  gives_usage e = given_as Usage (usage_from_code a e)

  pub gives_bad_model : code_of a ≡ 3 → (fault : LoadFault) × Gives words given before after (BadModel fault)
  gives_bad_model e = let r = fault_from_code a e in (r.0, given_as (BadModel r.0) r.1)

  pub gives_bad_journal : code_of a ≡ 4 → ((line : ℕ) × (byte : ℕ) × Gives words given before after (BadLine line byte)) ⊎ ((line : ℕ) × Gives words given before after (NoEnd line))
  gives_bad_journal e = elim (bad_journal_from_code a e) [
    | inl r ↦ inl (r.0, r.1, given_as (BadLine r.0 r.1) r.2)
    | inr r ↦ inr (r.0, given_as (NoEnd r.0) r.1)
  ]

  pub gives_too_large : code_of a ≡ 9 → Gives words given before after TooLarge
  gives_too_large e = given_as TooLarge (too_large_from_code a e)

-- ---- what a run wrote, and what was accepted

-- Two meanings of words are one, and what is owed on a model for one is owed for the other.
module _ (words : List (List ℕ)) (given : Given) (meaning : Meaning) (is : Means words meaning) where
  moved : (P : Meaning → Type 0) (other : Meaning) → Means words other → P other → P meaning
  moved P other also h = subst P (one_meaning words other meaning also is) h

-- the statuses 0 and 8
abbrev IsEnd : Answer → Type 0
IsEnd a = (code_of a ≡ 0) ⊎ (code_of a ≡ 8)

no_end : {P : Type 0} (a x : Answer) → IsEnd a → a ≡ x → (IsEnd x → ⊥) → P
no_end a x code e never = absurd (never (subst (λ (y : Answer). IsEnd y) e code))

-- What a run wrote is accepted as a journal of its model.
pub run_accepted : (words : List (List ℕ)) (given : Given) (before after : Option (List ℕ)) (a : Answer) (options : Options) (model : List ℕ) (names : List (List ℕ))
    → IsOwed words given a → Appends before after (text_of a) → Means words (Runs options model names) → IsEnd a → IsAcceptedText given model before after
run_accepted words given before after a options model names (usage none nothing e) written is code = absurd (none (Runs options model names) is)
run_accepted words given before after a options model names (large_model path also large e) written is code =
    no_end a TooLarge code e (λ ended. elim ended [ inl zero ↦ omega arith | inr eight ↦ omega arith ])
run_accepted words given before after a options model names (bad_model path bytes fault also reads wrong e) written is code =
    no_end a (BadModel fault) code e (λ ended. elim ended [ inl zero ↦ omega arith | inr eight ↦ omega arith ])
run_accepted words given before after a options model names (on_model m s moment also has due) written is code =
    by_run (behind.1) where
      behind : IsDueForModel (onward moment given) s (Runs options model names) a
      behind = moved words given (Runs options model names) is (λ x. IsDueForModel (onward moment given) s x a) m also due

      first_is : HasModel (until moment given) (File model) s
      first_is = moved words given (Runs options model names) is (λ x. HasModel (until moment given) (source_of x) s) m also has

      -- nothing was read behind the model
      model_is : HasModel given (File model) s
      model_is = subst (λ (m : History). HasModel (until m given) (File model) s) (sym behind.0) first_is

      by_run : IsDueForRun s options names a → IsAcceptedText given model before after
      by_run (unfit none e) = no_end a Usage code e (λ ended. elim ended [ inl zero ↦ omega arith | inr eight ↦ omega arith ])
      by_run (ran stimuli text ended are ran_so e) = record {
        setting = s;
        text = text;
        model_is = model_is;
        written = subst (λ (y : Answer). Appends before after (text_of y)) e written;
        accepted = (length ran_so.journal, record { lines = ran_so.lines; journal = ran_so.journal; text = ran_so.text; kept = ran_so.kept; entries_are = refl });
      }

-- An answer of status 0 that is owed for a judgement accepts.
judgement_accepts : (words : List (List ℕ)) (given : Given) (a : Answer) (model journal : List ℕ) → IsOwed words given a → code_of a ≡ 0 → Means words (Judges model journal) → (n : ℕ) × (a ≡ Accept n)
judgement_accepts words given a model journal (usage none nothing e) zero is = absurd (none (Judges model journal) is)
judgement_accepts words given a model journal (large_model path also large e) zero is = let c : code_of a ≡ 9 = ap code_of e in absurd (omega (arith, c, zero))
judgement_accepts words given a model journal (bad_model path bytes fault also reads wrong e) zero is = let c : code_of a ≡ 3 = ap code_of e in absurd (omega (arith, c, zero))
judgement_accepts words given a model journal (on_model m s moment also has due) zero is =
    by_journal (moved words given (Judges model journal) is (λ x. IsDueForModel (onward moment given) s x a) m also due) where
      by_said : (said : Judged) → a ≡ answer_to said → (n : ℕ) × (a ≡ Accept n)
      by_said (Accepted n) e = (n, e)
      by_said (Refused n rule) e = let c : code_of a ≡ 1 = ap code_of e in absurd (omega (arith, c, zero))
      by_said (Limited n) e = let c : code_of a ≡ 8 = ap code_of e in absurd (omega (arith, c, zero))
      by_said (BadText (lines.BadLine line byte)) e = let c : code_of a ≡ 4 = ap code_of e in absurd (omega (arith, c, zero))
      by_said (BadText (lines.LongLine line)) e = let c : code_of a ≡ 9 = ap code_of e in absurd (omega (arith, c, zero))
      by_said (BadText (lines.NoEnd line)) e = let c : code_of a ≡ 4 = ap code_of e in absurd (omega (arith, c, zero))

      by_journal : IsDueForJournal (onward moment given) s journal a → (n : ℕ) × (a ≡ Accept n)
      by_journal (large_journal large e) = let c : code_of a ≡ 9 = ap code_of e in absurd (omega (arith, c, zero))
      by_journal (judged bytes said reads v e) = by_said said e

-- A journal that was accepted goes on.
pub accepted_goes_on : (words : List (List ℕ)) (given : Given) (a : Answer) (model journal : List ℕ) → IsOwed words given a → GoesOn words given a → code_of a ≡ 0
    → Means words (Judges model journal) → IsContinued given model journal
accepted_goes_on words given a model journal owed on zero is =
    let accepts = judgement_accepts words given a model journal owed zero is in
    let so : GoesOn words given (Accept accepts.0) = subst (λ (y : Answer). GoesOn words given y) accepts.1 on in
    so model journal is

-- ---- the answer that comes is the one that is owed

-- The status is the answer's, or says that writing or memory failed.
answer_or_failure : {P : Type 0} (code n : ℕ) → (code ≢ 6 → code ≢ 7 → (code ≡ n) × P) → (code ≡ n) ⊎ IsFailure code
answer_or_failure code n told = elim (eqb_tells code 6) [
  | inl six ↦ inr (omega (arith, six.1), omega (arith, six.1))
  | inr other ↦ elim (eqb_tells code 7) [
    | inl seven ↦ inr (omega (arith, seven.1), omega (arith, seven.1))
    | inr another ↦ inl (told other.1 another.1).0
  ]
]

-- An answer that is like the one that comes has its status, but for what a run comes to.
exactly_alike : {P : Type 0} (code : ℕ) (came r : Answer) → (code ≢ 6 → code ≢ 7 → (code ≡ code_of came) × P) → AreAlike came r → (code ≡ code_of r) ⊎ IsFailure code ⊎ IsOfRun r
exactly_alike code came r told alike = elim alike [
  | inl same ↦ elim (answer_or_failure code (code_of came) told) [
    | inl is ↦ inl (is ∙ same)
    | inr failure ↦ inr (inl failure)
  ]
  | inr both ↦ inr (inr both.1)
]

-- An answer that is owed is the one that comes, where it is told what the paths hold.
pub exactly_owed : {P : Type 0} (law : HasOneLoad) (words : List (List ℕ)) (contents : Contents) (b a d e : History) (code : ℕ) (came r : Answer) → IsTold words contents
    → IsOwed words (given contents b a) came → (code ≢ 6 → code ≢ 7 → (code ≡ code_of came) × P) → IsOwed words (given contents d e) r → (code ≡ code_of r) ⊎ IsFailure code ⊎ IsOfRun r
exactly_owed law words contents b a d e code came r known owed told due = exactly_alike code came r told (owed_once law words contents known b a d e came r owed due)

-- The same where the calls are kept that were answered.
pub exactly_read : {P : Type 0} (law : HasOneLoad) (words : List (List ℕ)) (contents : Contents) (b a : History) (code : ℕ) (came r : Answer) → IsSome b
    → IsOwed words (given contents b a) came → (code ≢ 6 → code ≢ 7 → (code ≡ code_of came) × P) → IsOwed words (given contents b a) r → (code ≡ code_of r) ⊎ IsFailure code ⊎ IsOfRun r
exactly_read law words contents None a code came r kept owed told due = absurd cc
exactly_read law words contents (Some xs) None code came r kept owed told due = absurd (owed_keeps words contents xs came owed)
exactly_read law words contents (Some xs) (Some zs) code came r kept owed told due = exactly_alike code came r told (owed_once_read law words contents xs zs came r owed due)

-- What a run comes to has one of two statuses.
run_code : (a : Answer) → IsOfRun a → IsEnd a
run_code (Journal text ends.Quiet) run = inl refl
run_code (Journal text ends.Limit) run = inr refl
run_code (Generated n entries takes digest) run = inl refl
run_code _ run = absurd run

-- The status of what a run came to, unless writing or memory failed.
ends_or_failure : {P : Type 0} (code : ℕ) (came : Answer) → (code ≢ 6 → code ≢ 7 → (code ≡ code_of came) × P) → IsOfRun came → (code ≡ 0) ⊎ (code ≡ 8) ⊎ IsFailure code
ends_or_failure code came told run = elim (answer_or_failure code (code_of came) told) [
  | inl same ↦ elim (run_code came run) [
    | inl zero ↦ inl (same ∙ zero)
    | inr eight ↦ inr (inl (same ∙ eight))
  ]
  | inr failure ↦ inr (inr failure)
]

-- A run that is owed is what comes, with one of its ends.
pub runs_owed : {P : Type 0} (law : HasOneLoad) (words : List (List ℕ)) (contents : Contents) (b a d e : History) (code : ℕ) (came : Answer) (setting : Setting) (stimuli : List Stimulus)
    → IsTold words contents → IsOwed words (given contents b a) came → (code ≢ 6 → code ≢ 7 → (code ≡ code_of came) × P) → IsRunOwed words (given contents d e) setting stimuli
    → (code ≡ 0) ⊎ (code ≡ 8) ⊎ IsFailure code
runs_owed law words contents b a d e code came setting stimuli known owed told run = ends_or_failure code came told (run_answered law words contents known b a d e came setting stimuli owed run)

-- The same where the calls are kept that were answered.
pub runs_read : {P : Type 0} (law : HasOneLoad) (words : List (List ℕ)) (contents : Contents) (b a : History) (code : ℕ) (came : Answer) (setting : Setting) (stimuli : List Stimulus) → IsSome b
    → IsOwed words (given contents b a) came → (code ≢ 6 → code ≢ 7 → (code ≡ code_of came) × P) → IsRunOwed words (given contents b a) setting stimuli → (code ≡ 0) ⊎ (code ≡ 8) ⊎ IsFailure code
runs_read law words contents None a code came setting stimuli kept owed told run = absurd cc
runs_read law words contents (Some xs) None code came setting stimuli kept owed told run = absurd (owed_keeps words contents xs came owed)
runs_read law words contents (Some xs) (Some zs) code came setting stimuli kept owed told run =
    ends_or_failure code came told (run_answered_read law words contents xs zs came setting stimuli owed run)
