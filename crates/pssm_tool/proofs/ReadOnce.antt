-- One answer is owed for the words and for what was read, where the calls are kept that were answered, but for what a run comes to.
use Rattle.std.proofs.Common.{◌≡◌, ◌⊎◌, ℕ, List, [], length, refl, sym, ap, subst, ◌∙◌, inl, inr}
use Rattle.std.specs.Prelude.{None, Some, ⊤}
use Rattle.pssm_base.specs.History.{Reading, History, Grows, ReadsAll, ReadsPast}
use Rattle.pssm_base.specs.Reading.{Contents, given, ReadsWhole, HoldsMore}
use Rattle.pssm_base.proofs.Histories.{added_start, added_grows}
use Rattle.pssm_base.proofs.Once.{whole_once, whole_not_more}
use Rattle.pssm_semantics.specs.declared.setting.Setting.{Setting}
use Rattle.pssm_semantics.specs.declared.stimulus.Stimulus.{Stimulus}
use Rattle.pssm_flat.specs.Text.{flat_text}
use Rattle.pssm_journal.specs.Judged.{IsJudged}
use Rattle.pssm_journal.proofs.Judgements.{judged_once}
use Rattle.pssm_load.specs.declared.fault.LoadFault.{LoadFault}
use Rattle.pssm_load.specs.Loads.{Reads, ReadsSetting, IsLoadFault}
use Rattle.pssm_tool.specs.declared.answer.Answer.{Answer}
use Rattle.pssm_tool.specs.declared.answer.Answer.TheVariants.{WellFormed, Usage, TooLarge, Flat, BadModel}
use Rattle.pssm_tool.specs.Words.{Meaning, Judges, Runs, Checks, Prints, Generates, Means}
use Rattle.pssm_tool.specs.Answers.{code_of}
use Rattle.pssm_tool.specs.Due.{Source, File, Generator, source_of, NameModel, HasModel, answer_to, IsDueForJournal, large_journal, judged, IsDueForModel, IsOwed, usage, large_model, bad_model, on_model, BeginsWithModel, IsRunOwed, named, generated, IsOfRun}
use Rattle.pssm_tool.specs.Headline.{HoldsPrefix, IsContinued}
use Rattle.pssm_tool.proofs.WordLaws.{one_meaning}
use Rattle.pssm_tool.proofs.DueOnce.{HasOneLoad, AreAlike, same_code, run_once, generated_once, named_answered, generated_answered}

-- ---- what was read behind the model

-- nothing was read between two moments that are one
stays : (k : History) (zs : List Reading) → Some zs ≡ k → Grows k (Some zs)
stays k zs same = subst (λ (h : History). Grows h (Some zs)) same (added_start (Some zs) (λ more. ⊤) tt)

-- From the moment on up to which the model was read, calls were added.
due_grows : (contents : Contents) (k : History) (zs : List Reading) (m : Meaning) (s : Setting) (r : Answer) → IsDueForModel (given contents k (Some zs)) s m r → Grows k (Some zs)
due_grows contents k zs (Judges model journal) s r (large_journal more is) = added_grows k (Some zs) (λ calls. ReadsPast journal calls 16777216) more.read
due_grows contents k zs (Judges model journal) s r (judged bytes said read v is) = added_grows k (Some zs) (λ calls. ReadsAll journal calls bytes) read.read
due_grows contents k zs (Runs options model names) s r due = stays k zs due.0
due_grows contents k zs (Checks model) s r due = stays k zs due.0
due_grows contents k zs (Prints model) s r due = stays k zs due.0
due_grows contents k zs (Generates n) s r due = stays k zs due.0

-- The journal is read from that moment to the end.
journal_fixed : (contents : Contents) (ys zs : List Reading) (s : Setting) (journal : List ℕ) (r q : Answer) → IsDueForJournal (given contents (Some ys) (Some zs)) s journal r
    → IsDueForJournal (given contents (Some ys) (Some zs)) s journal q → r ≡ q
journal_fixed contents ys zs s journal r q (large_journal p is) (large_journal o too) = is ∙ sym too
journal_fixed contents ys zs s journal r q (large_journal p is) (judged bytes said read v too) =
    absurd (whole_not_more contents ys zs (Some zs) (Some zs) journal 16777216 bytes read (stays (Some zs) zs refl) p (stays (Some zs) zs refl))
journal_fixed contents ys zs s journal r q (judged bytes said read v is) (large_journal o too) =
    absurd (whole_not_more contents ys zs (Some zs) (Some zs) journal 16777216 bytes read (stays (Some zs) zs refl) o (stays (Some zs) zs refl))
journal_fixed contents ys zs s journal r q (judged bytes said read v is) (judged others also read_also w too) =
    let both = whole_once contents ys zs (Some zs) (Some zs) journal 16777216 bytes others read (stays (Some zs) zs refl) read_also (stays (Some zs) zs refl) in
    is ∙ ap answer_to (judged_once s bytes said also v (subst (λ (x : List ℕ). IsJudged s x also) (sym both.0) w)) ∙ sym too

module _ (law : HasOneLoad) (words : List (List ℕ)) (contents : Contents) (xs zs : List Reading) where
  -- ---- the model

  -- A model that was read first has one setting, and was read up to one moment.
  model_fixed : (source : Source) (k l : History) (s t : Setting) → HasModel (given contents (Some xs) k) source s → Grows k (Some zs) → HasModel (given contents (Some xs) l) source t → Grows l (Some zs)
      → (s ≡ t) × (k ≡ l)
  model_fixed (File path) k l s t one up two on =
      let both = whole_once contents xs zs k l path 16777216 one.bytes two.bytes one.reads up two.reads on in
      (law.setting one.bytes s t one.loads.reads (subst (λ (bytes : List ℕ). Reads bytes t) (sym both.0) two.loads.reads), both.1)
  model_fixed (Generator n) k l s t one up two on =
      let same : two.bytes ≡ one.bytes = two.reads.1 ∙ sym one.reads.1 in
      (law.setting one.bytes s t one.loads.reads (subst (λ (bytes : List ℕ). Reads bytes t) same two.loads.reads), one.reads.0 ∙ sym two.reads.0)

  journal_alike : (k : History) (path journal : List ℕ) (s : Setting) (r q : Answer) → HasModel (given contents (Some xs) k) (File path) s → IsDueForJournal (given contents k (Some zs)) s journal r
      → IsDueForJournal (given contents k (Some zs)) s journal q → AreAlike r q
  journal_alike None path journal s r q has p o = absurd has.reads.read
  journal_alike (Some ys) path journal s r q has p o = inl (ap code_of (journal_fixed contents ys zs s journal r q p o))

  -- What is owed behind one model for one meaning.
  answers_alike : (k : History) (m : Meaning) (s : Setting) (r q : Answer) → HasModel (given contents (Some xs) k) (source_of m) s → IsDueForModel (given contents k (Some zs)) s m r
      → IsDueForModel (given contents k (Some zs)) s m q → AreAlike r q
  answers_alike k (Judges model journal) s r q has p o = journal_alike k model journal s r q has p o
  answers_alike k (Runs options model names) s r q has p o = run_once s options names r q p.1 o.1
  answers_alike k (Checks model) s r q has p o = same_code r q WellFormed WellFormed refl p.1 o.1
  answers_alike k (Prints model) s r q has p o = same_code r q (Flat (flat_text s)) (Flat (flat_text s)) refl p.1 o.1
  answers_alike k (Generates n) s r q has p o = generated_once s n r q p.1 o.1

  -- ---- the words

  same_source : (path : List ℕ) (m : Meaning) → NameModel words path → Means words m → source_of m ≡ File path
  same_source path m names also = ap source_of (one_meaning words m names.0 also names.1) ∙ names.2

  same_path : (path other : List ℕ) → NameModel words path → NameModel words other → path ≡ other
  same_path path other names also = let e : File path ≡ File other = sym (same_source path also.0 names also.1) ∙ also.2 in cc

  size_or_fault : (path other bytes : List ℕ) → NameModel words path → NameModel words other → HoldsMore (given contents (Some xs) (Some zs)) path 16777216
      → ReadsWhole (given contents (Some xs) (Some zs)) other 16777216 bytes → ⊥
  size_or_fault path other bytes names also more reads =
      let here : ReadsWhole (given contents (Some xs) (Some zs)) path 16777216 bytes =
      subst (λ (p : List ℕ). ReadsWhole (given contents (Some xs) (Some zs)) p 16777216 bytes) (same_path other path also names) reads in
      whole_not_more contents xs zs (Some zs) (Some zs) path 16777216 bytes here (stays (Some zs) zs refl) more (stays (Some zs) zs refl)

  size_or_loads : (k : History) (path : List ℕ) (m : Meaning) (s : Setting) → NameModel words path → Means words m → HoldsMore (given contents (Some xs) (Some zs)) path 16777216
      → HasModel (given contents (Some xs) k) (source_of m) s → Grows k (Some zs) → ⊥
  size_or_loads k path m s names means more has up =
      let here : HasModel (given contents (Some xs) k) (File path) s = subst (λ (x : Source). HasModel (given contents (Some xs) k) x s) (same_source path m names means) has in
      whole_not_more contents xs zs k (Some zs) path 16777216 here.bytes here.reads up more (stays (Some zs) zs refl)

  faults_or_loads : (k : History) (path bytes : List ℕ) (fault : LoadFault) (m : Meaning) (s : Setting) → NameModel words path → Means words m
      → ReadsWhole (given contents (Some xs) (Some zs)) path 16777216 bytes → IsLoadFault bytes fault → HasModel (given contents (Some xs) k) (source_of m) s → Grows k (Some zs) → ⊥
  faults_or_loads k path bytes fault m s names means reads wrong has up =
      let here : HasModel (given contents (Some xs) k) (File path) s = subst (λ (x : Source). HasModel (given contents (Some xs) k) x s) (same_source path m names means) has in
      let both = whole_once contents xs zs k (Some zs) path 16777216 here.bytes bytes here.reads up reads (stays (Some zs) zs refl) in
      law.apart bytes s fault (subst (λ (read : List ℕ). ReadsSetting read s []) both.0 here.loads) wrong

  model_or_model : (k l : History) (m o : Meaning) (s t : Setting) (r q : Answer) → Means words m → Means words o → HasModel (given contents (Some xs) k) (source_of m) s
      → HasModel (given contents (Some xs) l) (source_of o) t → IsDueForModel (given contents k (Some zs)) s m r → IsDueForModel (given contents l (Some zs)) t o q → AreAlike r q
  model_or_model k l m o s t r q is too has also due done =
      let one : o ≡ m = one_meaning words o m too is in
      let there : HasModel (given contents (Some xs) l) (source_of m) t = subst (λ x. HasModel (given contents (Some xs) l) (source_of x) t) one also in
      let owed : IsDueForModel (given contents l (Some zs)) t m q = subst (λ x. IsDueForModel (given contents l (Some zs)) t x q) one done in
      let both = model_fixed (source_of m) k l s t has (due_grows contents k zs m s r due) there (due_grows contents l zs m t q owed) in
      let moved : IsDueForModel (given contents k (Some zs)) t m q = subst (λ h. IsDueForModel (given contents h (Some zs)) t m q) (sym both.1) owed in
      answers_alike k m s r q has due (subst (λ (x : Setting). IsDueForModel (given contents k (Some zs)) x m q) (sym both.0) moved)

  -- Two answers that are owed for what was read are alike.
  pub owed_once_read : (r q : Answer) → IsOwed words (given contents (Some xs) (Some zs)) r → IsOwed words (given contents (Some xs) (Some zs)) q → AreAlike r q
  owed_once_read r q (usage p nothing is) (usage o none too) = same_code r q Usage Usage refl is too
  owed_once_read r q (usage p nothing is) (large_model path o more too) = absurd (p o.0 o.1)
  owed_once_read r q (usage p nothing is) (bad_model path bytes fault o reads wrong too) = absurd (p o.0 o.1)
  owed_once_read r q (usage p nothing is) (on_model m t l o has due) = absurd (p m o)
  owed_once_read r q (large_model path p more is) (usage o none too) = absurd (o p.0 p.1)
  owed_once_read r q (large_model path p more is) (large_model other o also too) = same_code r q TooLarge TooLarge refl is too
  owed_once_read r q (large_model path p more is) (bad_model other bytes fault o reads wrong too) = absurd (size_or_fault path other bytes p o more reads)
  owed_once_read r q (large_model path p more is) (on_model m t l o has due) = absurd (size_or_loads l path m t p o more has (due_grows contents l zs m t q due))
  owed_once_read r q (bad_model path bytes fault p reads wrong is) (usage o none too) = absurd (o p.0 p.1)
  owed_once_read r q (bad_model path bytes fault p reads wrong is) (large_model other o more too) = absurd (size_or_fault other path bytes o p more reads)
  owed_once_read r q (bad_model path bytes fault p reads wrong is) (bad_model other others also o read so too) = same_code r q (BadModel fault) (BadModel also) refl is too
  owed_once_read r q (bad_model path bytes fault p reads wrong is) (on_model m t l o has due) =
      absurd (faults_or_loads l path bytes fault m t p o reads wrong has (due_grows contents l zs m t q due))
  owed_once_read r q (on_model m s k p has due) (usage o none too) = absurd (o m p)
  owed_once_read r q (on_model m s k p has due) (large_model path o more too) = absurd (size_or_loads k path m s o p more has (due_grows contents k zs m s r due))
  owed_once_read r q (on_model m s k p has due) (bad_model path bytes fault o reads wrong too) =
      absurd (faults_or_loads k path bytes fault m s o p reads wrong has (due_grows contents k zs m s r due))
  owed_once_read r q (on_model m s k p has due) (on_model n t l o also done) = model_or_model k l m n s t r q p o has also due done

  -- ---- runs

  -- On a model that was read first and last, what is owed is what its command owes, behind some moment.
  due_read : (m : Meaning) (s : Setting) (r : Answer) → Means words m → HasModel (given contents (Some xs) (Some zs)) (source_of m) s → IsOwed words (given contents (Some xs) (Some zs)) r
      → (moment : History) × IsDueForModel (given contents moment (Some zs)) s m r
  due_read m s r is has (usage none nothing same) = absurd (none m is)
  due_read m s r is has (large_model path o more same) = absurd (size_or_loads (Some zs) path m s o is more has (stays (Some zs) zs refl))
  due_read m s r is has (bad_model path bytes fault o reads wrong same) = absurd (faults_or_loads (Some zs) path bytes fault m s o is reads wrong has (stays (Some zs) zs refl))
  due_read m s r is has (on_model n t k o also due) =
      let one : n ≡ m = one_meaning words n m o is in
      let there : HasModel (given contents (Some xs) k) (source_of m) t = subst (λ x. HasModel (given contents (Some xs) k) (source_of x) t) one also in
      let owed : IsDueForModel (given contents k (Some zs)) t m r = subst (λ x. IsDueForModel (given contents k (Some zs)) t x r) one due in
      let both = model_fixed (source_of m) k (Some zs) t s there (due_grows contents k zs m t r owed) has (stays (Some zs) zs refl) in
      (k, subst (λ (x : Setting). IsDueForModel (given contents k (Some zs)) x m r) both.0 owed)

  -- Where a run is owed for what was read, what it came to is what comes.
  pub run_answered_read : (r : Answer) (s : Setting) (stimuli : List Stimulus) → IsOwed words (given contents (Some xs) (Some zs)) r → IsRunOwed words (given contents (Some xs) (Some zs)) s stimuli → IsOfRun r
  run_answered_read r s stimuli owed (named options model names is has are) = named_answered s options names stimuli r are (due_read (Runs options model names) s r is has owed).1.1
  run_answered_read r s stimuli owed (generated n is has are) = generated_answered s n r (due_read (Generates n) s r is has owed).1.1

  -- ---- the headline

  -- A journal that was accepted is a prefix of a complete run of the model that was read first.
  pub continued_read : (model journal : List ℕ) (setting : Setting) → BeginsWithModel (given contents (Some xs) (Some zs)) (File model) setting
      → IsContinued (given contents (Some xs) (Some zs)) model journal → HoldsPrefix (given contents (Some xs) (Some zs)) model journal setting
  continued_read model journal setting begins h =
      let up : Grows h.moment (Some zs) = added_grows h.moment (Some zs) (λ calls. ReadsAll journal calls h.holds.bytes) h.holds.reads.read in
      let both = model_fixed (File model) h.moment begins.moment h.setting setting h.model_is up begins.model_is begins.goes_on in
      subst (λ s. HoldsPrefix (given contents (Some xs) (Some zs)) model journal s) both.0 (record {
        moment = h.moment;
        entries = h.entries;
        model_is = h.model_is;
        holds = h.holds;
        prefix = (h.completes.2.more, h.completes.2.run);
      })

-- ---- a history that is kept stays kept

keeps_due : (contents : Contents) (k : History) (m : Meaning) (s : Setting) (r : Answer) → IsDueForModel (given contents k None) s m r → k ≡ None
keeps_due contents None (Judges model journal) s r due = refl
keeps_due contents (Some ys) (Judges model journal) s r (large_journal more is) = absurd more.read
keeps_due contents (Some ys) (Judges model journal) s r (judged bytes said read v is) = absurd read.read
keeps_due contents k (Runs options model names) s r due = sym due.0
keeps_due contents k (Checks model) s r due = sym due.0
keeps_due contents k (Prints model) s r due = sym due.0
keeps_due contents k (Generates n) s r due = sym due.0

keeps_model : (contents : Contents) (xs : List Reading) (k : History) (source : Source) (s : Setting) → HasModel (given contents (Some xs) k) source s → k ≡ None → ⊥
keeps_model contents xs None (File path) s has none = has.reads.read
keeps_model contents xs (Some ys) (File path) s has none = cc
keeps_model contents xs k (Generator n) s has none = let kept : k ≡ Some xs = has.reads.0 in cc

pub owed_keeps : (words : List (List ℕ)) (contents : Contents) (xs : List Reading) (r : Answer) → IsOwed words (given contents (Some xs) None) r → ⊥
owed_keeps words contents xs r (usage p nothing is) = let kept : Some xs ≡ None = sym nothing in cc
owed_keeps words contents xs r (large_model path p more is) = more.read
owed_keeps words contents xs r (bad_model path bytes fault p reads wrong is) = reads.read
owed_keeps words contents xs r (on_model m s k p has due) = keeps_model contents xs k (source_of m) s has (keeps_due contents k m s r due)
