-- One answer is owed for the words and what the files hold, but for what a run comes to by the order of its choices.
use Rattle.std.proofs.Common.{◌≡◌, ◌⊎◌, ◌<◌, ◌+◌, ◌*◌, ℕ, List, [], length, refl, sym, ap, subst, ◌∙◌, inl, inr, arith}
use Rattle.std.specs.Prelude.{Option, Some, None, IsSome, IfSome}
use Rattle.pssm_base.specs.History.{History}
use Rattle.pssm_base.specs.Reading.{Contents, Given, given, until, onward, ReadsWhole, HoldsMore}
use Rattle.sha2.specs.Sha256.{sha256}
use Rattle.pssm_semantics.specs.declared.setting.Setting.{Setting}
use Rattle.pssm_semantics.specs.declared.stimulus.Stimulus.{Stimulus}
use Rattle.pssm_flat.specs.Text.{flat_text}
use Rattle.pssm_journal.specs.Judged.{IsJudged}
use Rattle.pssm_journal.proofs.Judgements.{judged_once}
use Rattle.pssm_load.specs.declared.fault.LoadFault.{LoadFault}
use Rattle.pssm_load.specs.Loads.{Reads, ReadsSetting, IsLoadFault}
use Rattle.pssm_tool.specs.declared.run_words.Options.{Options}
use Rattle.pssm_tool.specs.declared.answer.Answer.{Answer}
use Rattle.pssm_tool.specs.declared.answer.Answer.TheVariants.{WellFormed, Usage, TooLarge, Journal, Flat, Generated, BadModel}
use Rattle.pssm_tool.specs.Words.{Meaning, Judges, Runs, Checks, Prints, Generates, Means}
use Rattle.pssm_tool.specs.Stimuli.{AreStimuli}
use Rattle.pssm_tool.specs.Answers.{code_of}
use Rattle.pssm_tool.specs.Due.{Source, File, Generator, source_of, NameModel, HasBytes, HasModel, answer_to, IsDueForJournal, large_journal, judged, IsDueForRun, unfit, ran, IsDueForGenerated, IsDueForModel, IsOwed, usage, large_model, bad_model, on_model, IsTold, IsRunOwed, named, generated, IsOfRun}
use Rattle.pssm_tool.proofs.WordLaws.{one_meaning}
use Rattle.pssm_tool.proofs.DueLaws.{model_named, journal_named}

-- ---- what the paths hold

-- what is told of a path
pub told_bytes : (o : Option (List ℕ)) → IsSome o → (held : List ℕ) × (o ≡ Some held)
told_bytes None some = absurd cc
told_bytes (Some held) some = (held, refl)

-- The bytes that were read are what the path holds.
read_is : (given : Given) (path bytes held : List ℕ) → given.contents path ≡ Some held → ReadsWhole given path 16777216 bytes → bytes ≡ held
read_is given path bytes held told read = subst (λ (o : Option (List ℕ)). IfSome o (λ x. bytes ≡ x)) told read.told

-- Two readings of a path give the same bytes, whatever was read before them and behind them.
same_read : (contents : Contents) (b a d e : History) (path held bytes others : List ℕ) → contents path ≡ Some held → ReadsWhole (given contents b a) path 16777216 bytes
    → ReadsWhole (given contents d e) path 16777216 others → others ≡ bytes
same_read contents b a d e path held bytes others told read also =
    read_is (given contents d e) path others held told also ∙ sym (read_is (given contents b a) path bytes held told read)

-- A path that was read is not too large.
not_large : (contents : Contents) (b a d e : History) (path bytes held : List ℕ) → contents path ≡ Some held → ReadsWhole (given contents b a) path 16777216 bytes
    → HoldsMore (given contents d e) path 16777216 → ⊥
not_large contents b a d e path bytes held told read large =
    let more : 16777216 < length held = subst (λ (o : Option (List ℕ)). IfSome o (λ x. 16777216 < length x)) told large.told in
    let same = ap length (read_is (given contents b a) path bytes held told read) in
    omega (arith, same, more, read.at_most)

journal_once : (contents : Contents) (b a d e : History) (setting : Setting) (journal held : List ℕ) (r q : Answer) → contents journal ≡ Some held
    → IsDueForJournal (given contents b a) setting journal r → IsDueForJournal (given contents d e) setting journal q → r ≡ q
journal_once contents b a d e setting journal held r q told (large_journal p is) (large_journal o too) = is ∙ sym too
journal_once contents b a d e setting journal held r q told (large_journal p is) (judged bytes said read v too) = absurd (not_large contents d e b a journal bytes held told read p)
journal_once contents b a d e setting journal held r q told (judged bytes said read v is) (large_journal o too) = absurd (not_large contents b a d e journal bytes held told read o)
journal_once contents b a d e setting journal held r q told (judged bytes said read v is) (judged others also read_also w too) =
    let same : others ≡ bytes = same_read contents b a d e journal held bytes others told read read_also in
    is ∙ ap answer_to (judged_once setting bytes said also v (subst (λ (x : List ℕ). IsJudged setting x also) same w)) ∙ sym too

-- Bytes have one setting, or a fault, and not both.
pub record HasOneLoad : Type 0 where
  pub setting : (bytes : List ℕ) (a b : Setting) → Reads bytes a → Reads bytes b → a ≡ b
  pub apart : (bytes : List ℕ) (setting : Setting) (fault : LoadFault) → ReadsSetting bytes setting [] → IsLoadFault bytes fault → ⊥

-- what is told of where a model comes from
abbrev pub IsSourceTold : Contents → Source → Type 0
IsSourceTold contents (File path) = (held : List ℕ) × (contents path ≡ Some held)
IsSourceTold contents (Generator n) = Unit {0}

-- A model's bytes are one.
same_model : (contents : Contents) (b a d e : History) (source : Source) (bytes others : List ℕ) → IsSourceTold contents source → HasBytes (given contents b a) source bytes
    → HasBytes (given contents d e) source others → others ≡ bytes
same_model contents b a d e (File path) bytes others told read also = same_read contents b a d e path told.0 bytes others told.1 read also
same_model contents b a d e (Generator n) bytes others told read also = also.1 ∙ sym read.1

module _ (law : HasOneLoad) (contents : Contents) (source : Source) (told : IsSourceTold contents source) where
  -- A model has one setting.
  pub model_once : (b a d e : History) (s t : Setting) → HasModel (given contents b a) source s → HasModel (given contents d e) source t → s ≡ t
  model_once b a d e s t p q =
      let same : q.bytes ≡ p.bytes = same_model contents b a d e source p.bytes q.bytes told p.reads q.reads in
      law.setting p.bytes s t p.loads.reads (subst (λ (bytes : List ℕ). Reads bytes t) same q.loads.reads)

module _ (law : HasOneLoad) (contents : Contents) (b a d e : History) (path held : List ℕ) (told : contents path ≡ Some held) (s : Setting) (has : HasModel (given contents b a) (File path) s) where
  -- A file that has a model is not too large.
  fits_model : HoldsMore (given contents d e) path 16777216 → ⊥
  fits_model large = not_large contents b a d e path has.bytes held told has.reads large

  -- Nothing is wrong with it.
  loads_well : (bytes : List ℕ) (fault : LoadFault) → ReadsWhole (given contents d e) path 16777216 bytes → IsLoadFault bytes fault → ⊥
  loads_well bytes fault reads wrong =
      let same : has.bytes ≡ bytes = same_read contents d e b a path held bytes has.bytes told reads has.reads in
      law.apart bytes s fault (subst (λ (read : List ℕ). ReadsSetting read s []) same has.loads) wrong

-- ---- two answers

-- Two answers have one status, or both are of runs.
abbrev pub AreAlike : Answer → Answer → Type 0
AreAlike a b = (code_of a ≡ code_of b) ⊎ (IsOfRun a × IsOfRun b)

pub same_code : (a b x y : Answer) → code_of x ≡ code_of y → a ≡ x → b ≡ y → AreAlike a b
same_code a b x y same e f = inl (ap code_of e ∙ same ∙ sym (ap code_of f))

of_run : (a b : Answer) → a ≡ b → IsOfRun b → IsOfRun a
of_run a b e run = subst IsOfRun (sym e) run

-- what a run with stimuli that fit comes to
pub named_answered : (s : Setting) (options : Options) (names : List (List ℕ)) (stimuli : List Stimulus) (a : Answer) → AreStimuli s names stimuli → IsDueForRun s options names a → IsOfRun a
named_answered s options names stimuli a are (unfit none e) = absurd (none stimuli are)
named_answered s options names stimuli a are (ran others text ended they so e) = of_run a (Journal text ended) e tt

pub generated_answered : (s : Setting) (n : ℕ) (a : Answer) → IsDueForGenerated s n a → IsOfRun a
generated_answered s n a p = of_run a (Generated n (12 * n + 14) (2 * n) (sha256 p.text)) p.answered tt

pub run_once : (s : Setting) (options : Options) (names : List (List ℕ)) (a b : Answer) → IsDueForRun s options names a → IsDueForRun s options names b → AreAlike a b
run_once s options names a b (unfit none e) (unfit also f) = same_code a b Usage Usage refl e f
run_once s options names a b (unfit none e) (ran stimuli text ended are is f) = absurd (none stimuli are)
run_once s options names a b (ran stimuli text ended are is e) (unfit none f) = absurd (none stimuli are)
run_once s options names a b (ran stimuli text ended are is e) (ran others also ends they so f) = inr (of_run a (Journal text ended) e tt, of_run b (Journal also ends) f tt)

pub generated_once : (s : Setting) (n : ℕ) (a b : Answer) → IsDueForGenerated s n a → IsDueForGenerated s n b → AreAlike a b
generated_once s n a b p q = inr (generated_answered s n a p, generated_answered s n b q)

-- ---- the words

module _ (law : HasOneLoad) (words : List (List ℕ)) (contents : Contents) (told : IsTold words contents) where
  source_told : (meaning : Meaning) → Means words meaning → (source : Source) → source_of meaning ≡ source → IsSourceTold contents source
  source_told meaning means (File path) is = told_bytes (contents path) (told path (model_named words meaning path means is))
  source_told meaning means (Generator n) is = tt

  model_told : (meaning : Meaning) → Means words meaning → IsSourceTold contents (source_of meaning)
  model_told meaning means = source_told meaning means (source_of meaning) refl

  -- the same of what is told for the other reading of the words
  moved : (P : Meaning → Type 0) (a b : Meaning) → Means words a → Means words b → P b → P a
  moved P a b p q h = subst P (one_meaning words b a q p) h

  -- What is owed on one model for one meaning.
  model_answer_once : (b a d e : History) (m : Meaning) (s : Setting) (r q : Answer) → Means words m → IsDueForModel (given contents b a) s m r → IsDueForModel (given contents d e) s m q → AreAlike r q
  model_answer_once b a d e (Judges m j) s r q means p o =
      let journal = told_bytes (contents j) (told j (journal_named words m j means)) in
      let same = journal_once contents b a d e s j journal.0 r q journal.1 p o in
      inl (ap code_of same)
  model_answer_once b a d e (Runs options m names) s r q means p o = run_once s options names r q p.1 o.1
  model_answer_once b a d e (Checks m) s r q means p o = same_code r q WellFormed WellFormed refl p.1 o.1
  model_answer_once b a d e (Prints m) s r q means p o = same_code r q (Flat (flat_text s)) (Flat (flat_text s)) refl p.1 o.1
  model_answer_once b a d e (Generates n) s r q means p o = generated_once s n r q p.1 o.1

  -- Words that name the path of a model name no other.
  same_source : (path : List ℕ) (m : Meaning) → NameModel words path → Means words m → source_of m ≡ File path
  same_source path m names also = ap source_of (one_meaning words m names.0 also names.1) ∙ names.2

  same_path : (path other : List ℕ) → NameModel words path → NameModel words other → path ≡ other
  same_path path other names also = let e : File path ≡ File other = sym (same_source path also.0 names also.1) ∙ also.2 in cc

  path_told : (path : List ℕ) → NameModel words path → (held : List ℕ) × (contents path ≡ Some held)
  path_told path names = told_bytes (contents path) (told path (inl names))

  size_or_fault : (b a d e : History) (path other bytes : List ℕ) → NameModel words path → NameModel words other → HoldsMore (given contents b a) path 16777216
      → ReadsWhole (given contents d e) other 16777216 bytes → ⊥
  size_or_fault b a d e path other bytes names also more reads =
      let held = path_told path names in
      let here : ReadsWhole (given contents d e) path 16777216 bytes = subst (λ (p : List ℕ). ReadsWhole (given contents d e) p 16777216 bytes) (same_path other path also names) reads in
      not_large contents d e b a path bytes held.0 held.1 here more

  size_or_loads : (b a d e : History) (path : List ℕ) (m : Meaning) (s : Setting) → NameModel words path → Means words m → HoldsMore (given contents b a) path 16777216
      → HasModel (given contents d e) (source_of m) s → ⊥
  size_or_loads b a d e path m s names means more has =
      let held = path_told path names in
      let here : HasModel (given contents d e) (File path) s = subst (λ (x : Source). HasModel (given contents d e) x s) (same_source path m names means) has in
      fits_model law contents d e b a path held.0 held.1 s here more

  faults_or_loads : (b a d e : History) (path bytes : List ℕ) (fault : LoadFault) (m : Meaning) (s : Setting) → NameModel words path → Means words m
      → ReadsWhole (given contents b a) path 16777216 bytes → IsLoadFault bytes fault → HasModel (given contents d e) (source_of m) s → ⊥
  faults_or_loads b a d e path bytes fault m s names means reads wrong has =
      let held = path_told path names in
      let here : HasModel (given contents d e) (File path) s = subst (λ (x : Source). HasModel (given contents d e) x s) (same_source path m names means) has in
      loads_well law contents d e b a path held.0 held.1 s here bytes fault reads wrong

  -- Two models that were read first, up to these moments, and what is owed behind them.
  model_or_model : (b k a d l e : History) (m o : Meaning) (s t : Setting) (r q : Answer) → Means words m → Means words o → HasModel (given contents b k) (source_of m) s
      → HasModel (given contents d l) (source_of o) t → IsDueForModel (given contents k a) s m r → IsDueForModel (given contents l e) t o q → AreAlike r q
  model_or_model b k a d l e m o s t r q is too has also due done =
      let here = moved (λ x. HasModel (given contents d l) (source_of x) t) m o is too also in
      let same = model_once law contents (source_of m) (model_told m is) d l b k t s here has in
      model_answer_once k a l e m s r q is due (subst (λ (x : Setting). IsDueForModel (given contents l e) x m q) same (moved (λ x. IsDueForModel (given contents l e) t x q) m o is too done))

  -- Two answers that are owed are alike, whatever was read before them.
  pub owed_once : (b a d e : History) (r q : Answer) → IsOwed words (given contents b a) r → IsOwed words (given contents d e) q → AreAlike r q
  owed_once b a d e r q (usage p nothing is) (usage o none too) = same_code r q Usage Usage refl is too
  owed_once b a d e r q (usage p nothing is) (large_model path o more too) = absurd (p o.0 o.1)
  owed_once b a d e r q (usage p nothing is) (bad_model path bytes fault o reads wrong too) = absurd (p o.0 o.1)
  owed_once b a d e r q (usage p nothing is) (on_model m t l o has due) = absurd (p m o)
  owed_once b a d e r q (large_model path p more is) (usage o none too) = absurd (o p.0 p.1)
  owed_once b a d e r q (large_model path p more is) (large_model other o also too) = same_code r q TooLarge TooLarge refl is too
  owed_once b a d e r q (large_model path p more is) (bad_model other bytes fault o reads wrong too) = absurd (size_or_fault b a d e path other bytes p o more reads)
  owed_once b a d e r q (large_model path p more is) (on_model m t l o has due) = absurd (size_or_loads b a d l path m t p o more has)
  owed_once b a d e r q (bad_model path bytes fault p reads wrong is) (usage o none too) = absurd (o p.0 p.1)
  owed_once b a d e r q (bad_model path bytes fault p reads wrong is) (large_model other o more too) = absurd (size_or_fault d e b a other path bytes o p more reads)
  owed_once b a d e r q (bad_model path bytes fault p reads wrong is) (bad_model other others also o read so too) = same_code r q (BadModel fault) (BadModel also) refl is too
  owed_once b a d e r q (bad_model path bytes fault p reads wrong is) (on_model m t l o has due) = absurd (faults_or_loads b a d l path bytes fault m t p o reads wrong has)
  owed_once b a d e r q (on_model m s k p has due) (usage o none too) = absurd (o m p)
  owed_once b a d e r q (on_model m s k p has due) (large_model path o more too) = absurd (size_or_loads d e b k path m s o p more has)
  owed_once b a d e r q (on_model m s k p has due) (bad_model path bytes fault o reads wrong too) = absurd (faults_or_loads d e b k path bytes fault m s o p reads wrong has)
  owed_once b a d e r q (on_model m s k p has due) (on_model n t l o also done) = model_or_model b k a d l e m n s t r q p o has also due done

  -- On a model that breaks no rule, what is owed is what its command owes, behind some moment.
  due_for : (b a d e : History) (m : Meaning) (s : Setting) (r : Answer) → Means words m → HasModel (given contents d e) (source_of m) s → IsOwed words (given contents b a) r
      → (moment : History) × IsDueForModel (given contents moment a) s m r
  due_for b a d e m s r is has (usage none nothing same) = absurd (none m is)
  due_for b a d e m s r is has (large_model path o more same) = absurd (size_or_loads b a d e path m s o is more has)
  due_for b a d e m s r is has (bad_model path bytes fault o reads wrong same) = absurd (faults_or_loads b a d e path bytes fault m s o is reads wrong has)
  due_for b a d e m s r is has (on_model n t k o also due) =
      let same = model_once law contents (source_of m) (model_told m is) b k d e t s (moved (λ x. HasModel (given contents b k) (source_of x) t) m n is o also) has in
      (k, subst (λ (x : Setting). IsDueForModel (given contents k a) x m r) same (moved (λ x. IsDueForModel (given contents k a) t x r) m n is o due))

  -- Where a run is owed, what it came to is what comes.
  pub run_answered : (b a d e : History) (r : Answer) (s : Setting) (stimuli : List Stimulus) → IsOwed words (given contents b a) r → IsRunOwed words (given contents d e) s stimuli → IsOfRun r
  run_answered b a d e r s stimuli owed (named options model names is has are) = named_answered s options names stimuli r are (due_for b a d e (Runs options model names) s r is has owed).1.1
  run_answered b a d e r s stimuli owed (generated n is has are) = generated_answered s n r (due_for b a d e (Generates n) s r is has owed).1.1
