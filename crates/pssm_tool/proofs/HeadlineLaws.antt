-- A journal is accepted exactly where it is a prefix of a complete run.
use Rattle.std.proofs.Common.{◌≡◌, ◌≢◌, ◌⊎◌, ℕ, List, length, None, Some, refl, subst, inl, inr}
use Rattle.std.specs.Prelude.{IsSome}
use Rattle.pssm_base.specs.History.{History}
use Rattle.pssm_base.specs.Reading.{Contents, Given, given, told as only_told, ReadsWhole}
use Rattle.pssm_semantics.specs.declared.entry.Entry.{Entry}
use Rattle.pssm_semantics.specs.declared.setting.Setting.{Setting}
use Rattle.pssm_semantics.specs.Rules.{Holds}
use Rattle.pssm_semantics.specs.Admissible.{IsAdmissibleIn, IsPrefixOfRun}
use Rattle.pssm_semantics_laws.proofs.Admissible.{IsAdmissible-front}
use Rattle.pssm_journal.specs.Judged.{IsJudged, Accepted}
use Rattle.pssm_tool.specs.declared.answer.Answer.{Answer}
use Rattle.pssm_tool.specs.declared.answer.Answer.TheVariants.{Accept}
use Rattle.pssm_tool.specs.Words.{Judges, Means}
use Rattle.pssm_tool.specs.Answers.{code_of, IsFailure}
use Rattle.pssm_tool.specs.Due.{File, HasModel, BeginsWithModel, judged, IsOwed, on_model, IsTold, IsOfRun}
use Rattle.pssm_tool.specs.Headline.{HoldsJournal, HoldsPrefix, AcceptsPrefixes, IsContinued}
use Rattle.pssm_tool.proofs.DueLaws.{model_named}
use Rattle.pssm_tool.proofs.DueOnce.{told_bytes, HasOneLoad, model_once}
use Rattle.pssm_tool.proofs.AnswerLaws.{exactly_owed, exactly_read}
use Rattle.pssm_tool.proofs.ReadOnce.{owed_keeps, continued_read}

-- A journal that continues to a complete run is admissible.
pub prefix_admissible : (setting : Setting) (J : List Entry) → IsPrefixOfRun setting J → IsAdmissibleIn setting J
prefix_admissible setting J (more, run) = IsAdmissible-front (Holds setting) J more run.admissible

-- ---- what the paths hold, where the calls that were answered are left aside

forget_reads : (contents : Contents) (b a : History) (path bytes : List ℕ) → ReadsWhole (given contents b a) path 16777216 bytes → ReadsWhole (only_told contents) path 16777216 bytes
forget_reads contents b a path bytes reads = record { told = reads.told; read = tt; at_most = reads.at_most }

forget_model : (contents : Contents) (b a : History) (path : List ℕ) (setting : Setting) → HasModel (given contents b a) (File path) setting → HasModel (only_told contents) (File path) setting
forget_model contents b a path setting has = record { bytes = has.bytes; reads = forget_reads contents b a path has.bytes has.reads; loads = has.loads }

forget_journal : (contents : Contents) (b a : History) (path : List ℕ) (setting : Setting) (J : List Entry) → HoldsJournal (given contents b a) path setting J → HoldsJournal (only_told contents) path setting J
forget_journal contents b a path setting J holds = record {
  bytes = holds.bytes;
  lines = holds.lines;
  reads = forget_reads contents b a path holds.bytes holds.reads;
  text = holds.text;
  lines_are = holds.lines_are;
  entries_are = holds.entries_are;
  limits = holds.limits;
}

module _ (law : HasOneLoad) (words : List (List ℕ)) (contents : Contents) (known : IsTold words contents) (model journal : List ℕ) (setting : Setting) (is : Means words (Judges model journal)) where
  -- An accepted journal is a prefix of a complete run.
  continued_is_prefix : (b a : History) → BeginsWithModel (only_told contents) (File model) setting → IsContinued (given contents b a) model journal → HoldsPrefix (only_told contents) model journal setting
  continued_is_prefix b a begins h =
      let held = told_bytes (contents model) (known model (model_named words (Judges model journal) model is refl)) in
      let same : h.setting ≡ setting = model_once law contents (File model) held b h.moment None begins.moment h.setting setting h.model_is begins.model_is in
      subst (λ s. HoldsPrefix (only_told contents) model journal s) same (record {
        moment = None;
        entries = h.entries;
        model_is = forget_model contents b h.moment model h.setting h.model_is;
        holds = forget_journal contents h.moment a journal h.setting h.entries h.holds;
        prefix = (h.completes.2.more, h.completes.2.run);
      })

-- A prefix of a complete run is owed its acceptance.
prefix_is_owed : (words : List (List ℕ)) (inputs : Given) (model journal : List ℕ) (setting : Setting) → Means words (Judges model journal) → (h : HoldsPrefix inputs model journal setting)
    → IsOwed words inputs (Accept (length h.entries))
prefix_is_owed words inputs model journal setting is h =
    let accepted : IsJudged setting h.holds.bytes (Accepted (length h.entries)) = record {
      lines = h.holds.lines;
      journal = h.entries;
      text = h.holds.text;
      kept = record {
        lines_are = h.holds.lines_are;
        entries_are = h.holds.entries_are;
        admissible = prefix_admissible setting h.entries h.prefix;
        limits = h.holds.limits;
      };
      entries_are = refl;
    } in
    on_model (Judges model journal) setting h.moment is h.model_is (judged h.holds.bytes (Accepted (length h.entries)) h.holds.reads accepted refl)

-- An acceptance is not of a run.
no_run : (n code : ℕ) → (code ≡ 0) ⊎ IsFailure code ⊎ IsOfRun (Accept n) → (code ≡ 0) ⊎ IsFailure code
no_run n code (inl zero) = inl zero
no_run n code (inr (inl failure)) = inr failure
no_run n code (inr (inr run)) = absurd run

-- What comes is exact in both directions.
pub accepts_prefixes : {P : Type 0} (law : HasOneLoad) (words : List (List ℕ)) (contents : Contents) (b a : History) (code : ℕ) (came : Answer) → IsTold words contents
    → IsOwed words (given contents b a) came → (code ≢ 6 → code ≢ 7 → (code ≡ code_of came) × P)
    → (code ≡ 0 → (model journal : List ℕ) → Means words (Judges model journal) → IsContinued (given contents b a) model journal) → AcceptsPrefixes words (only_told contents) code
accepts_prefixes law words contents b a code came known owed told continued model journal setting is begins = (
  λ zero. continued_is_prefix law words contents known model journal setting is b a begins (continued zero model journal is),
  λ h. no_run (length h.entries) code
      (exactly_owed law words contents b a None None code came (Accept (length h.entries)) known owed told (prefix_is_owed words (only_told contents) model journal setting is h)),
)

-- The same where the calls are kept that were answered, of what was read.
pub accepts_prefixes_read : {P : Type 0} (law : HasOneLoad) (words : List (List ℕ)) (contents : Contents) (b a : History) (code : ℕ) (came : Answer) → IsSome b
    → IsOwed words (given contents b a) came → (code ≢ 6 → code ≢ 7 → (code ≡ code_of came) × P)
    → (code ≡ 0 → (model journal : List ℕ) → Means words (Judges model journal) → IsContinued (given contents b a) model journal) → AcceptsPrefixes words (given contents b a) code
accepts_prefixes_read law words contents None a code came kept owed told continued = absurd cc
accepts_prefixes_read law words contents (Some xs) None code came kept owed told continued = absurd (owed_keeps words contents xs came owed)
accepts_prefixes_read law words contents (Some xs) (Some zs) code came kept owed told continued = λ model journal setting is begins. (
  λ zero. continued_read law words contents xs zs model journal setting begins (continued zero model journal is),
  λ h. no_run (length h.entries) code
      (exactly_read law words contents (Some xs) (Some zs) code came (Accept (length h.entries)) kept owed told (prefix_is_owed words (given contents (Some xs) (Some zs)) model journal setting is h)),
)
