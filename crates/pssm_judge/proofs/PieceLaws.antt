-- The judging of a journal, piece after piece.
use Rattle.std.proofs.Common.{◌≡◌, ◌<◌, ◌≤◌, ◌+◌, ◌⊎◌, ℕ, true, false, List, [], ◌∷◌, ◌++◌, length, take, drop, Option, Some, None, refl, sym, ap, subst, ◌∙◌, arith, inl, inr, append_assoc, length-append}
use Rattle.std.specs.Prelude.{MatchOption, IfSome, IfOk, IfErr, IsErrAnd, Result, Ok, Err}
use Rattle.std.proofs.lemmas.List.{append-nil, take-append-drop}
use Rattle.pssm_base.specs.Faults.{NoneFell}
use Rattle.pssm_base.specs.History.{History as Calls, Added, Adds, Grows, ReadsOn, reading}
use Rattle.pssm_base.specs.Reading.{SameContent, IsFront, Contents, Given, given, ReadsWhole, HoldsMore}
use Rattle.pssm_base.specs.inner.Filling.{IsRead, ReadsMore}
use Rattle.pssm_base.proofs.Histories.{added_start, added_piece, added_end, added_past}
use Rattle.pssm_base.proofs.Pieces.{read_more, read_all, read_past}
use Rattle.pssm_semantics.specs.declared.setting.Setting.{Setting}
use Rattle.pssm_semantics.specs.Laws.{CompletesInTime}
use Rattle.pssm_lines.specs.declared.fault.LineFault.TheVariants.{NoEnd}
use Rattle.pssm_lines.specs.Faults.{IsOpen}
use Rattle.pssm_lines.specs.Reading.{stream_of}
use Rattle.pssm_journal.specs.Judged.{IsJudged}
use Rattle.pssm_system.specs.History.{History}
use Rattle.pssm_judge.specs.declared.run.Stop.{Stop}
use Rattle.pssm_judge.specs.declared.place.Place.{Place}
use Rattle.pssm_judge.specs.declared.place.Behind.{Behind}
use Rattle.pssm_judge.specs.declared.verdict.Verdict.{Verdict}
use Rattle.pssm_judge.specs.declared.verdict.Verdict.TheVariants.{Accept}
use Rattle.pssm_judge.specs.declared.verdict.JudgeFault.{JudgeFault}
use Rattle.pssm_judge.specs.declared.verdict.JudgeFault.TheVariants.{Text, Limit, TooLarge, ReadFault, NoMemory}
use Rattle.pssm_judge.specs.Verdicts.{IsVerdictOn, IsVerdictFor, IsFaultFor}
use Rattle.pssm_judge.specs.inner.Answers.{IsFaultOn, said_at}
use Rattle.pssm_judge.specs.inner.Judging.{IsJudging, IsSaid, IsPlaced, IsFewer, IsOver}
use Rattle.pssm_judge.specs.inner.Pieces.{AddsRead, EndsRead, BreaksRead}
use Rattle.pssm_judge.proofs.JudgingLaws.{judging_begin, judging_more, stream_more, bad_here, judged_whole}

-- ---- more bytes come

said_more : (setting : Setting) (bytes more : List ℕ) (stop : Stop) → IsSaid setting bytes stop → IsSaid setting (bytes ++ more) stop
said_more setting bytes more stop said = λ others. subst (λ (t : List ℕ). IsJudged setting t (said_at stop)) (sym (append_assoc bytes more others)) (said (more ++ others))

pub said_here : (setting : Setting) (bytes : List ℕ) (stop : Stop) → IsSaid setting bytes stop → IsJudged setting bytes (said_at stop)
said_here setting bytes stop said = subst (λ (t : List ℕ). IsJudged setting t (said_at stop)) (append-nil bytes) (said [])

pub placed_more : (setting : Setting) (bytes rest more : List ℕ) (place : Place) (run : History) → IsPlaced setting bytes rest place run → IsPlaced setting (bytes ++ more) (rest ++ more) place run
placed_more setting bytes rest more place run placed = by_stop place.stop placed where
  by_stop : (o : Option Stop) → MatchOption o (IsJudging setting bytes rest place.begun place.line run) (λ stop. IsSaid setting bytes stop)
      → MatchOption o (IsJudging setting (bytes ++ more) (rest ++ more) place.begun place.line run) (λ stop. IsSaid setting (bytes ++ more) stop)
  by_stop None j = judging_more setting bytes rest more place.begun place.line run j
  by_stop (Some stop) said = said_more setting bytes more stop said

-- what was said stays said, whatever is still kept of the bytes
pub stays_said : (setting : Setting) (bytes rest other more : List ℕ) (place : Place) (run run' : History) (stop : Stop) → place.stop ≡ Some stop → IsPlaced setting bytes rest place run → IsPlaced setting (bytes ++ more) other place run'
stays_said setting bytes rest other more place run run' stop is placed =
    let said : IsSaid setting bytes stop = subst (λ (o : Option Stop). MatchOption o (IsJudging setting bytes rest place.begun place.line run) (λ s. IsSaid setting bytes s)) is placed in
    subst (λ (o : Option Stop). MatchOption o (IsJudging setting (bytes ++ more) other place.begun place.line run') (λ s. IsSaid setting (bytes ++ more) s)) (sym is) (said_more setting bytes more stop said)

-- where it goes on
pub placed_going : (setting : Setting) (bytes rest : List ℕ) (place : Place) (run : History) → place.stop ≡ None → IsJudging setting bytes rest place.begun place.line run → IsPlaced setting bytes rest place run
placed_going setting bytes rest place run is j = subst (λ (o : Option Stop). MatchOption o (IsJudging setting bytes rest place.begun place.line run) (λ s. IsSaid setting bytes s)) (sym is) j

pub going_placed : (setting : Setting) (bytes rest : List ℕ) (place : Place) (run : History) → place.stop ≡ None → IsPlaced setting bytes rest place run → IsJudging setting bytes rest place.begun place.line run
going_placed setting bytes rest place run is placed = subst (λ (o : Option Stop). MatchOption o (IsJudging setting bytes rest place.begun place.line run) (λ s. IsSaid setting bytes s)) is placed

-- ---- the whole lines of a text

-- The two parts of a text are all of it.
pub parts_of : (text whole open_ : List ℕ) (n : ℕ) → whole ≡ take n text → open_ ≡ drop n text → text ≡ whole ++ open_
parts_of text whole open_ n whole_is open_is = sym (take-append-drop n text) ∙ ap (λ (t : List ℕ). t ++ drop n text) (sym whole_is) ∙ ap (λ (t : List ℕ). whole ++ t) (sym open_is)

-- Of the bytes that came, those up to the whole lines' end.
pub front_judging : (setting : Setting) (came text whole open_ : List ℕ) (place : Place) (run : History) → text ≡ whole ++ open_ → IsJudging setting came text place.begun place.line run
    → (bytes : List ℕ) × (bytes ++ open_ ≡ came) × IsJudging setting bytes whole place.begun place.line run
front_judging setting came text whole open_ place run parts j = (
  stream_of place.begun j.lines whole,
  stream_more place.begun j.lines whole open_ ∙ ap (λ (t : List ℕ). stream_of place.begun j.lines t) (sym parts) ∙ sym j.stream,
  record {
    setting_is = j.setting_is;
    lines = j.lines;
    so_far = j.so_far;
    numbered = j.numbered;
    entries = j.entries;
    admissible = j.admissible;
    limits = j.limits;
    stream = refl;
  },
)

pub taken_whole : (setting : Setting) (came text whole open_ rest kept : List ℕ) (place next : Place) (run new : History) → text ≡ whole ++ open_ → kept ≡ rest ++ open_
    → ((bytes : List ℕ) → IsPlaced setting bytes whole place run → IsPlaced setting bytes rest next new) → place.stop ≡ None → IsJudging setting came text place.begun place.line run
    → IsPlaced setting came kept next new
taken_whole setting came text whole open_ rest kept place next run new parts kept_is takes going j =
    let front = front_judging setting came text whole open_ place run parts j in
    let placed = placed_more setting front.0 rest open_ next new (takes front.0 (placed_going setting front.0 whole place run going front.2)) in
    subst (λ (t : List ℕ). IsPlaced setting came t next new) (sym kept_is) (subst (λ (t : List ℕ). IsPlaced setting t (rest ++ open_) next new) front.1 placed)

-- ---- the lines of a text

pub fewer_first : (text : List ℕ) (place : Place) (o : Option Stop) → MatchOption o ((length text < length text + 1) ⊎ IsOpen place.begun text) (λ stop. Unit {0})
fewer_first text place None = inl (omega arith)
fewer_first text place (Some stop) = tt

-- no fewer are left
pub none_fewer : (behind : Behind) (left : ℕ) → IsFewer left behind → ((behind.place.stop ≡ None) × (length behind.rest.now < left) → ⊥) → IsOver behind
none_fewer behind left fewer never = by_stop behind.place.stop fewer (λ none less. never (none, less)) where
  by_stop : (o : Option Stop) → MatchOption o ((length behind.rest.now < left) ⊎ IsOpen behind.place.begun behind.rest.now) (λ stop. Unit {0}) → (o ≡ None → length behind.rest.now < left → ⊥)
      → MatchOption o (IsOpen behind.place.begun behind.rest.now) (λ stop. Unit {0})
  by_stop (Some stop) f m = tt
  by_stop None f m = elim f [
    | inl less ↦ absurd (m refl less)
    | inr open_ ↦ open_
  ]

-- ---- the end of the bytes

module _ (setting : Setting) (came : List ℕ) (rest : List ℕ) (place : Place) (run : History) (going : place.stop ≡ None) (placed : IsPlaced setting came rest place run) where
  pub accepts : place.begun ≡ true → rest ≡ [] → CompletesInTime run.setting run.journal → IsVerdictOn setting came (Accept (length run.journal))
  accepts begun none completes = judged_whole setting came rest place.begun place.line run (going_placed setting came rest place run going placed) begun none completes

  pub ends_open : ((place.begun ≡ true) × (rest ≡ []) → ⊥) → MatchOption place.stop (IsOpen place.begun rest) (λ stop. Unit {0}) → IsFaultOn setting came (Text (NoEnd place.line))
  ends_open some over =
      let open_ : IsOpen place.begun rest = subst (λ (o : Option Stop). MatchOption o (IsOpen place.begun rest) (λ stop. Unit {0})) going over in
      bad_here setting came rest place.begun place.line run (NoEnd place.line) (going_placed setting came rest place run going placed) (refl, open_, some)

-- ---- reading

-- What came of a path so far, and where the judging of it stands. No more was read than one byte past the limit.
pub record IsUnderway (setting : Setting) (content now : Contents) (before after : Calls) (old new : List ℕ → ℕ) (path : List ℕ) (from : ℕ) (text : List ℕ) (place : Place) (run : History) : Type 0 where
  pub came : List ℕ
  pub counted : from ≡ length came
  pub most : from ≤ 16777217
  pub read : IsRead (content path) came
  pub calls : Added before after (λ calls. ReadsOn path 0 calls came)
  pub placed : IsPlaced setting came text place run
  pub same : SameContent content now
  pub counts : NoneFell old new

nothing_read : (content : Option (List ℕ)) → IsRead content []
nothing_read None = tt
nothing_read (Some held) = refl

pub underway_first : (content : Contents) (before : Calls) (old : List ℕ → ℕ) (path text : List ℕ) (place : Place) (run : History) → run.journal ≡ [] → text ≡ []
    → place ≡ record { begun = false; line = 1; stop = None } → IsUnderway run.setting content content before before old old path 0 text place run
underway_first content before old path text place run none empty first = record {
  came = [];
  counted = refl;
  most = omega arith;
  read = nothing_read (content path);
  calls = added_start before (λ calls. ReadsOn path 0 calls []) refl;
  placed = subst (λ (t : List ℕ). IsPlaced run.setting [] t place run) (sym empty)
      (subst (λ (p : Place). IsPlaced run.setting [] [] p run) (sym first) (judging_begin [] run none));
  same = λ p. refl;
  counts = λ p. omega arith;
}

module _ (setting : Setting) (content now after : Contents) (calls mid last : Calls) (old new later : List ℕ → ℕ) (path : List ℕ) (from : ℕ) (text : List ℕ) (place : Place) (run : History)
    (u : IsUnderway setting content now calls mid old new path from text place run) (same : SameContent now after) (counts : NoneFell new later) where
  pub same_on : SameContent content after
  same_on = λ p. same p ∙ u.same p

  pub counts_on : NoneFell old later
  counts_on = λ p. omega (arith, counts p, u.counts p)

  -- the calls behind those that came are a stretch of theirs
  added_here : (piece : List ℕ) → Adds mid last (reading path from piece ∷ []) → Adds mid last (reading path (length u.came) piece ∷ [])
  added_here piece kept = subst (λ (k : ℕ). Adds mid last (reading path k piece ∷ [])) u.counted kept

  -- one piece more
  pub underway_more : (piece : List ℕ) (n : ℕ) (text' : List ℕ) (place' : Place) (run' : History) → AddsRead (now path) from piece → Adds mid last (reading path from piece ∷ []) → n ≡ length piece
      → 0 < n → from + n ≤ 16777217 → (IsPlaced setting u.came text place run → IsPlaced setting (u.came ++ piece) text' place' run')
      → IsUnderway setting content after calls last old later path (from + n) text' place' run'
  underway_more piece n text' place' run' adds kept many some fits takes = record {
    came = u.came ++ piece;
    counted = omega (arith, u.counted, many, length-append u.came piece);
    most = fits;
    read = subst (λ (o : Option (List ℕ)). IsRead o (u.came ++ piece)) (u.same path) (adds u.came u.counted (subst (λ (o : Option (List ℕ)). IsRead o u.came) (sym (u.same path)) u.read));
    calls =
        let more : ReadsMore mid last path u.came (u.came ++ piece) n = record {
          piece = piece;
          many = sym many;
          joined = refl;
          added = added_here piece kept;
        } in added_piece calls mid last path u.came (u.came ++ piece) n u.calls more some;
    placed = takes u.placed;
    same = same_on;
    counts = counts_on;
  }

  -- all was read
  pub whole_read : (n : ℕ) (into : List ℕ) → EndsRead (now path) from → Adds mid last (reading path from (take n into) ∷ []) → n ≡ 0 → from ≤ 16777216
      → ReadsWhole (given content calls last) path 16777216 u.came
  whole_read n into ends kept none few = record {
    told = subst (λ (o : Option (List ℕ)). IfSome o (λ held. u.came ≡ held)) (u.same path) (ends u.came u.counted (subst (λ (o : Option (List ℕ)). IsRead o u.came) (sym (u.same path)) u.read));
    read =
        let nothing : Adds mid last (reading path from [] ∷ []) = subst (λ (k : ℕ). Adds mid last (reading path from (take k into) ∷ [])) none kept in
        let more : ReadsMore mid last path u.came u.came 0 = record {
          piece = [];
          many = refl;
          joined = sym (append-nil u.came);
          added = added_here [] nothing;
        } in added_end calls mid last path u.came u.came 0 u.calls more refl;
    at_most = omega (arith, few, u.counted);
  }

-- more was read than a journal may have
pub holds_more : (setting : Setting) (content now : Contents) (calls mid : Calls) (old new : List ℕ → ℕ) (path : List ℕ) (from : ℕ) (text : List ℕ) (place : Place) (run : History)
    → IsUnderway setting content now calls mid old new path from text place run → 16777216 < from → HoldsMore (given content calls mid) path 16777216
holds_more setting content now calls mid old new path from text place run u past = record {
  told = read_past (content path) u.came 16777216 u.read (omega (arith, past, u.counted));
  read = added_past calls mid path u.came 16777216 u.calls (omega (arith, past, u.most, u.counted));
}

-- no call was made
pub none_made : (calls : Calls) → Grows calls calls
none_made calls = added_start calls (λ more. Unit {0}) tt

-- What is said of the bytes is said of the path.
pub verdict_for : (setting : Setting) (inputs : Given) (path came : List ℕ) (verdict : Verdict) → ReadsWhole inputs path 16777216 came → IsVerdictOn setting came verdict → IsVerdictFor setting inputs path verdict
verdict_for setting inputs path came verdict reads says = record { bytes = came; reads = reads; says = says }

pub fault_for : (setting : Setting) (inputs : Given) (before after : ℕ) (path came : List ℕ) (fault : JudgeFault) → ReadsWhole inputs path 16777216 came → IsFaultOn setting came fault → IsFaultFor setting inputs before after path fault
fault_for setting inputs before after path came (Text f) reads says = (came, reads, says)
fault_for setting inputs before after path came (Limit entry) reads says = (came, reads, says)
fault_for setting inputs before after path came NoMemory reads says = tt
fault_for setting inputs before after path came TooLarge reads says = absurd says
fault_for setting inputs before after path came ReadFault reads says = absurd says

-- ---- one read

pub adds_read : (content : Option (List ℕ)) (from n : ℕ) (into : List ℕ) → n ≤ length into → IfSome content (λ held. IsFront held from n into) → AddsRead content from (take n into)
adds_read content from n into within front = λ came counted read.
    read_more content came into n read within (subst (λ (k : ℕ). IfSome content (λ held. IsFront held k n into)) counted front)

pub ends_read : (content : Option (List ℕ)) (from n : ℕ) (into : List ℕ) → IfSome content (λ held. IsFront held from n into) → n ≡ 0 → EndsRead content from
ends_read content from n into front none = λ came counted read.
    read_all content came into read (subst (λ (k : ℕ). IfSome content (λ held. IsFront held k 0 into)) counted (subst (λ (k : ℕ). IfSome content (λ held. IsFront held from k into)) none front))

-- ---- what is said of each setting and all bytes

pub each_ok : {A E : Type 0} (r : Result A E) (P : Setting → List ℕ → Type 0) (Q : Setting → List ℕ → A → Type 0) → ((s : Setting) (t : List ℕ) → P s t → IfOk r (Q s t)) → IfOk r (λ x. (s : Setting) (t : List ℕ) → P s t → Q s t x)
each_ok (Ok x) P Q h = h
each_ok (Err e) P Q h = tt

pub each_err : {A E : Type 0} (r : Result A E) (P : Setting → List ℕ → Type 0) (Q : Setting → List ℕ → E → Type 0) → ((s : Setting) (t : List ℕ) → P s t → IfErr r (Q s t)) → IfErr r (λ x. (s : Setting) (t : List ℕ) → P s t → Q s t x)
each_err (Ok x) P Q h = tt
each_err (Err e) P Q h = h

-- what is said where the judging has ended at this
pub said_stopped : (setting : Setting) (bytes rest : List ℕ) (place : Place) (run : History) (stop : Stop) → place.stop ≡ Some stop → IsPlaced setting bytes rest place run → IsJudged setting bytes (said_at stop)
said_stopped setting bytes rest place run stop is placed =
    said_here setting bytes stop (subst (λ (o : Option Stop). MatchOption o (IsJudging setting bytes rest place.begun place.line run) (λ s. IsSaid setting bytes s)) is placed)

-- ---- the answer for the path

pub verdict_end : (r : Result Verdict JudgeFault) (setting : Setting) (inputs : Given) (path came : List ℕ) (P : Setting → List ℕ → Type 0) → ReadsWhole inputs path 16777216 came → P setting came
    → IfOk r (λ v. (s : Setting) (t : List ℕ) → P s t → IsVerdictOn s t v) → IfOk r (IsVerdictFor setting inputs path)
verdict_end (Ok v) setting inputs path came P reads placed h = verdict_for setting inputs path came v reads (h setting came placed)
verdict_end (Err f) setting inputs path came P reads placed h = tt

pub fault_end : (r : Result Verdict JudgeFault) (setting : Setting) (inputs : Given) (before after : ℕ) (path came : List ℕ) (P : Setting → List ℕ → Type 0) → ReadsWhole inputs path 16777216 came → P setting came
    → IfErr r (λ f. (s : Setting) (t : List ℕ) → P s t → IsFaultOn s t f) → IfErr r (IsFaultFor setting inputs before after path)
fault_end (Ok v) setting inputs before after path came P reads placed h = tt
fault_end (Err f) setting inputs before after path came P reads placed h = fault_for setting inputs before after path came f reads (h setting came placed)

-- a read failed
pub read_fault : (setting : Setting) (inputs : Given) (old mid after : ℕ) (path : List ℕ) (f : JudgeFault) → old ≤ mid → BreaksRead mid after f → IsFaultFor setting inputs old after path f
read_fault setting inputs old mid after path ReadFault low rose = λ not_last. let more = rose not_last in omega (arith, low, more)
read_fault setting inputs old mid after path (Text f) low rose = absurd rose
read_fault setting inputs old mid after path (Limit entry) low rose = absurd rose
read_fault setting inputs old mid after path TooLarge low rose = absurd rose
read_fault setting inputs old mid after path NoMemory low rose = absurd rose

-- A fault that is handed on is the same.
pub passed_on : {A : Type 0} (P : JudgeFault → Type 0) (g : JudgeFault) (r : Result A JudgeFault) → IsErrAnd r (λ f. f ≡ g) → P g → IfErr r P
passed_on P g (Ok x) e p = tt
passed_on P g (Err f) e p = subst P (sym e) p
