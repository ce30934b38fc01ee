-- Words that are spelled as stimuli, and what they name.
use Rattle.std.proofs.Common.{◌≡◌, ◌<◌, ◌+◌, ℕ, ℤ, zero, suc, true, get_or, List, [], ◌∷◌, ◌++◌, length, take, codes, Option, Some, None, refl, sym, ap, subst, ◌∙◌, arith, add-one, slice_get, IfSome, IfNone, append-nil}
use Rattle.std.specs.Borrow.{Bor}
use Rattle.std.specs.List.{AllByRecursion}
use Rattle.std.proofs.lemmas.List.{append_cancel_left, append_cancel_right}
use Rattle.pssm_semantics.specs.declared.entry.Entry.{Entry}
use Rattle.pssm_semantics.specs.declared.entry.Entry.TheVariants as entries
use Rattle.pssm_semantics.specs.declared.entry.ObjectId.{ObjectId}
use Rattle.pssm_model.specs.declared.ids.SignalId.{SignalId}
use Rattle.pssm_semantics.specs.Pool.{posts_of_entry}
use Rattle.pssm_semantics.specs.declared.line.Line.{Line}
use Rattle.pssm_semantics.specs.declared.line.Line.TheVariants.{Post}
use Rattle.pssm_semantics.specs.declared.setting.Setting.{Setting}
use Rattle.pssm_semantics.specs.declared.stimulus.Stimulus.{Stimulus}
use Rattle.pssm_semantics.specs.Known.{IsStimulusOf}
use Rattle.pssm_lines.specs.declared.parts.LineParts.{LineParts}
use Rattle.pssm_lines.specs.declared.parts.LineParts.TheVariants as parts
use Rattle.pssm_lines.specs.declared.fault.LineFault.{LineFault}
use Rattle.pssm_lines.specs.declared.fault.LineFault.TheVariants.{NoEnd}
use Rattle.pssm_lines.specs.LineText.{call_text, line_text}
use Rattle.pssm_lines.specs.Grammar.{IsLine}
use Rattle.pssm_lines.specs.Parts.{Shows}
use Rattle.pssm_lines.specs.Faults.{IsJournalLine, IsOpen, IsFaultOf}
use Rattle.pssm_lines.proofs.Spellings.{lines_apart, one_line}
use Rattle.pssm_lines.proofs.OneFault.{no_line_fault}
use Rattle.pssm_journal.specs.Entries.{◌>>=◌, IsEntryOf, KeepsNames, BreaksNames, entry_named, entry_at, object_named, signal_named}
use Rattle.pssm_journal.proofs.LineLengths.{short_line}
use Rattle.pssm_tool.specs.inner.Calls.{post_text, IsPost, ShowsCall}
use Rattle.pssm_tool.specs.Words.{IsCall, IsStimulusText}
use Rattle.pssm_tool.specs.inner.Commands.{lent}
use Rattle.pssm_tool.specs.inner.Running.{NameNoStimuli}
use Rattle.pssm_book.specs.Stimuli.{post_of}
use Rattle.pssm_tool.specs.Stimuli.{Names, AreStimuli}

-- ---- one word

-- The line that posts what a word spells is a line that a journal may have.
posts_line : (word object signal : List ℕ) (args : List ℤ) → IsCall word object signal args → IsLine (Post object signal args)
posts_line word object signal args call = (call.object_name, call.signal_name, call.args_are)

journal_line : (word object signal : List ℕ) (args : List ℤ) → IsCall word object signal args → IsJournalLine (Post object signal args)
journal_line word object signal args call = record { line = posts_line word object signal args call; short = omega (arith, (short_line (Post object signal args) (tt, posts_line word object signal args call)).few) }

-- Its text is that of the line.
line_of_call : (word object signal : List ℕ) (args : List ℤ) → IsCall word object signal args → post_text word ≡ line_text (Post object signal args) ++ 10 ∷ []
line_of_call word object signal args call = ap post_text call.spelled

-- Texts that end with the same are the same before it.
same_before_feed : (a b : List ℕ) → a ++ 10 ∷ [] ≡ b ++ 10 ∷ [] → a ≡ b
same_before_feed a b e = append_cancel_right a b (10 ∷ []) e

-- A word whose line is that of a post is spelled as a stimulus.
pub shows_call : (word text : List ℕ) (parts : LineParts) (rest : List ℕ) (line : Line) → text ≡ post_text word → IsJournalLine line → text ≡ line_text line ++ 10 ∷ rest → Shows parts line
    → rest ≡ [] → IsPost parts → ShowsCall word parts
shows_call word text (parts.Post object signal args) rest line is is_line whole shows none post =
    let same : line ≡ Post object.now signal.now args = shows in
    let here : IsLine (Post object.now signal.now args) = subst IsLine same is_line.line in
    let both : post_text word ≡ line_text (Post object.now signal.now args) ++ 10 ∷ [] =
    sym is ∙ whole ∙ ap (λ (l : Line). line_text l ++ 10 ∷ rest) same ∙ ap (λ (t : List ℕ). line_text (Post object.now signal.now args) ++ 10 ∷ t) none in
    let word_is : codes "post " ++ word ≡ codes "post " ++ call_text object.now signal.now args = same_before_feed (codes "post " ++ word) (line_text (Post object.now signal.now args)) both in
    record {
      object = object.now;
      signal = signal.now;
      args = args;
      call = record { object_name = here.0; signal_name = here.1; args_are = here.2; spelled = append_cancel_left (codes "post ") word (call_text object.now signal.now args) word_is };
      shows = refl;
    }
shows_call word text _ rest line is is_line whole shows none post = absurd post

-- Where the word is spelled as a stimulus its line is read, and nothing follows it.
module _ (word text object signal : List ℕ) (args : List ℤ) (call : IsCall word object signal args) (is : text ≡ post_text word) where
  one_read : (line : Line) (rest : List ℕ) → IsJournalLine line → text ≡ line_text line ++ 10 ∷ rest → (Post object signal args ≡ line) × ([] ≡ rest)
  one_read line rest is_line whole =
      lines_apart (Post object signal args) line [] rest (posts_line word object signal args call) is_line.line (sym (line_of_call word object signal args call) ∙ sym is ∙ whole)

  no_fault_here : (fault : LineFault) → IsFaultOf true 1 text fault → ⊥
  no_fault_here fault bad =
      no_line_fault (Post object signal args) 1 [] fault (journal_line word object signal args call)
      (subst (λ (t : List ℕ). IsFaultOf true 1 t fault) (is ∙ line_of_call word object signal args call) bad)

-- the parts of a post's line are those of a post
post_parts : (parts : LineParts) (object signal : List ℕ) (args : List ℤ) → Shows parts (Post object signal args) → IsPost parts
post_parts (parts.Post o s a) object signal args shows = tt
post_parts (parts.Start o) object signal args shows = absurd cc
post_parts (parts.Take o n f) object signal args shows = absurd cc
post_parts (parts.Done o s f) object signal args shows = absurd cc
post_parts (parts.Exit o s text) object signal args shows = absurd (let e = shows.1 in cc)
post_parts (parts.Effect o s text) object signal args shows = absurd (let e = shows.1 in cc)
post_parts (parts.Enter o s text) object signal args shows = absurd (let e = shows.1 in cc)
post_parts (parts.Opened o r m h) object signal args shows = absurd cc
post_parts (parts.Pick o c r) object signal args shows = absurd cc
post_parts (parts.DoStep o s n text) object signal args shows = absurd (let e = shows.1 in cc)

-- A line that is no post with nothing behind it is not that of a word that is spelled as a stimulus.
pub no_call : (word text : List ℕ) (parts : LineParts) (rest : List ℕ) (line : Line) → text ≡ post_text word → IsJournalLine line → text ≡ line_text line ++ 10 ∷ rest → Shows parts line
    → (rest ≡ [] → IsPost parts → ⊥) → IsStimulusText word → ⊥
no_call word text parts rest line is is_line whole shows other (object, signal, args, call) =
    let one = one_read word text object signal args call is line rest is_line whole in
    other (sym one.1) (post_parts parts object signal args (subst (λ (l : Line). Shows parts l) (sym one.0) shows))

-- Nor is a text that has a fault at its first line, or one whose first line is open.
pub no_call_at_fault : (word text : List ℕ) (fault : LineFault) → text ≡ post_text word → ((more : List ℕ) → IsFaultOf true 1 (text ++ more) fault) → IsStimulusText word → ⊥
no_call_at_fault word text fault is bad (object, signal, args, call) =
    no_fault_here word text object signal args call is fault (subst (λ (t : List ℕ). IsFaultOf true 1 t fault) (append-nil text) (bad []))

pub no_call_open : (word text : List ℕ) → text ≡ post_text word → IsOpen true text → IsStimulusText word → ⊥
no_call_open word text is open_ (object, signal, args, call) =
    no_fault_here word text object signal args call is (NoEnd 1) (refl, open_, λ both. let none : codes "post " ++ (word ++ 10 ∷ []) ≡ [] = sym is ∙ both.1 in cc)

-- what is kept of the parts of a line
module _ (word text : List ℕ) (parts : LineParts) (rest : List ℕ) (line : Line) (is : text ≡ post_text word) (is_line : IsJournalLine line) (whole : text ≡ line_text line ++ 10 ∷ rest) (shows : Shows parts line) where
  pub kept_call : (r : Option LineParts) → IfSome r (λ kept. (kept ≡ parts) × (rest ≡ []) × IsPost parts) → IfSome r (ShowsCall word)
  kept_call None kept = tt
  kept_call (Some x) kept = subst (λ (p : LineParts). ShowsCall word p) (sym kept.0) (shows_call word text parts rest line is is_line whole shows kept.1 kept.2)

  pub dropped_call : (r : Option LineParts) → IfNone r (rest ≡ [] → IsPost parts → ⊥) → IfNone r (IsStimulusText word → ⊥)
  dropped_call None other = no_call word text parts rest line is is_line whole shows other
  dropped_call (Some x) other = tt

-- A word is spelled in one way.
pub one_call : (word a b c d : List ℕ) (e f : List ℤ) → IsCall word a b e → IsCall word c d f → Post a b e ≡ Post c d f
one_call word a b c d e f p q =
    one_line (Post a b e) (Post c d f) (posts_line word a b e p) (posts_line word c d f q) (ap (λ (t : List ℕ). codes "post " ++ t) (sym p.spelled ∙ q.spelled))

-- ---- what a word names

-- the entry that a post's line writes
post_entry : (setting : Setting) (object signal : List ℕ) (args : List ℤ) (e : Entry) → IsEntryOf setting (Post object signal args) e → (x : Stimulus) × (e ≡ post_of x)
unfolding entry_named entry_at
post_entry setting object signal args e h = by_object (object_named setting object) h where
  by_signal : (o : ObjectId) (s : Option SignalId) → (s >>= λ s. Some (entries.Post o s args)) ≡ Some e → (x : Stimulus) × (e ≡ post_of x)
  by_signal o None h = absurd cc
  by_signal o (Some s) h = (record { object = o; signal = s; args = args }, let same : entries.Post o s args ≡ e = cc in sym same)

  by_object : (o : Option ObjectId) → (o >>= λ o. (signal_named setting signal >>= λ s. Some (entries.Post o s args))) ≡ Some e → (x : Stimulus) × (e ≡ post_of x)
  by_object None h = absurd cc
  by_object (Some o) h = by_signal o (signal_named setting signal) h

-- The stimulus that the entry posts is the one that the word names.
pub names_posted : (setting : Setting) (word : List ℕ) (parts : LineParts) (e : Entry) → (shown : ShowsCall word parts)
    → ((line : Line) → IsLine line → Shows parts line → IsEntryOf setting line e) → KeepsNames setting e
    → (r : Option Stimulus) → r ≡ slice_get (posts_of_entry e) 0 → IfSome r (Names setting word) × IfNone r ((x : Stimulus) → Names setting word x → ⊥)
names_posted setting word parts e shown found known r is =
    let call = shown.call in
    let writes = found (Post shown.object shown.signal shown.args) (posts_line word shown.object shown.signal shown.args call) shown.shows in
    let posts = post_entry setting shown.object shown.signal shown.args e writes in
    let same : r ≡ Some posts.0 = is ∙ ap (λ (f : Entry). slice_get (posts_of_entry f) 0) posts.1 in
    let kept : KeepsNames setting (post_of posts.0) = subst (λ (f : Entry). KeepsNames setting f) posts.1 known in
    let names : Names setting word posts.0 = record {
      object = shown.object;
      signal = shown.signal;
      args = shown.args;
      call = call;
      writes = subst (λ (f : Entry). IsEntryOf setting (Post shown.object shown.signal shown.args) f) posts.1 writes;
      known = kept [];
    } in
    subst (λ (o : Option Stimulus). IfSome o (Names setting word) × IfNone o ((x : Stimulus) → Names setting word x → ⊥)) (sym same) (names, tt)

-- The word names nothing where the line of its post writes no entry of the setting.
pub names_none : (setting : Setting) (word : List ℕ) (parts : LineParts) → (shown : ShowsCall word parts) → ((line : Line) → IsLine line → Shows parts line → BreaksNames setting line)
    → (x : Stimulus) → Names setting word x → ⊥
names_none setting word parts shown breaks x names =
    let line = posts_line word shown.object shown.signal shown.args shown.call in
    let same = one_call word names.object names.signal shown.object shown.signal names.args shown.args names.call shown.call in
    breaks (Post shown.object shown.signal shown.args) line shown.shows (post_of x) (subst (λ (l : Line). IsEntryOf setting l (post_of x)) same names.writes) (λ J. names.known)

-- A word that is spelled otherwise names nothing.
pub names_not_spelled : (setting : Setting) (word : List ℕ) → (IsStimulusText word → ⊥) → (x : Stimulus) → Names setting word x → ⊥
names_not_spelled setting word other x names = other (names.object, names.signal, names.args, names.call)

-- ---- words in order

lent_next : (words : List (Bor (List ℕ))) (i : ℕ) (d : Bor (List ℕ)) → i < length words → lent (take (suc i) words) ≡ lent (take i words) ++ (get_or words i d).now ∷ []
lent_next [] i d within = absurd (omega arith)
lent_next (y ∷ words) zero d within = refl
lent_next (y ∷ words) (suc i) d within = ap (λ (t : List (List ℕ)). y.now ∷ t) (lent_next words i d (omega arith))

-- the words up to the next one
lent_more : (words : List (Bor (List ℕ))) (i : ℕ) (d : Bor (List ℕ)) → i < length words → lent (take (i + 1) words) ≡ lent (take i words) ++ (get_or words i d).now ∷ []
lent_more words i d within = rw add-one (lent_next words i d within)

-- Not all words are spelled as stimuli where one is not.
pub not_spelled : (words : List (Bor (List ℕ))) (i : ℕ) (d : Bor (List ℕ)) (text : List ℕ) → i < length words → text ≡ (get_or words i d).now → (IsStimulusText text → ⊥)
    → AllByRecursion IsStimulusText (lent words) → ⊥
not_spelled [] i d text within is other all = absurd (omega arith)
not_spelled (y ∷ words) zero d text within is other all = other (subst (λ (t : List ℕ). IsStimulusText t) (sym is) all.0)
not_spelled (y ∷ words) (suc i) d text within is other all = not_spelled words i d text (omega arith) is other all.1

-- Words that name no stimulus where one names none.
pub not_named : (setting : Setting) (words : List (Bor (List ℕ))) (i : ℕ) (d : Bor (List ℕ)) (text : List ℕ) → i < length words → text ≡ (get_or words i d).now
    → ((s : Stimulus) → Names setting text s → ⊥) → NameNoStimuli setting (lent words)
not_named setting [] i d text within is other stimuli are = absurd (omega arith)
not_named setting (y ∷ words) i d text within is other [] are = absurd are
not_named setting (y ∷ words) zero d text within is other (s ∷ stimuli) are = other s (subst (λ (t : List ℕ). Names setting t s) (sym is) are.0)
not_named setting (y ∷ words) (suc i) d text within is other (s ∷ stimuli) are = not_named setting words i d text (omega arith) is other stimuli are.1

-- one word and one stimulus more
are_more : (setting : Setting) (words : List (List ℕ)) (word : List ℕ) (stimuli : List Stimulus) (s : Stimulus) → AreStimuli setting words stimuli → Names setting word s
    → AreStimuli setting (words ++ word ∷ []) (stimuli ++ s ∷ [])
are_more setting [] word [] s are is = (is, tt)
are_more setting [] word (x ∷ stimuli) s are is = absurd are
are_more setting (w ∷ words) word [] s are is = absurd are
are_more setting (w ∷ words) word (x ∷ stimuli) s are is = (are.0, are_more setting words word stimuli s are.1 is)

pub more_named : (setting : Setting) (words : List (Bor (List ℕ))) (i : ℕ) (d : Bor (List ℕ)) (text : List ℕ) (stimuli more : List Stimulus) (s : Stimulus) → i < length words
    → text ≡ (get_or words i d).now → AreStimuli setting (lent (take i words)) stimuli → Names setting text s → more ≡ stimuli ++ s ∷ [] → AreStimuli setting (lent (take (i + 1) words)) more
more_named setting words i d text stimuli more s within is are names e =
    let named : Names setting (get_or words i d).now s = subst (λ (t : List ℕ). Names setting t s) is names in
    subst (λ (t : List Stimulus). AreStimuli setting (lent (take (i + 1) words)) t) (sym e)
    (subst (λ (t : List (List ℕ)). AreStimuli setting t (stimuli ++ s ∷ [])) (sym (lent_more words i d within)) (are_more setting (lent (take i words)) (get_or words i d).now stimuli s are named))

-- Stimuli that are named are known.
pub all_known : (setting : Setting) (words : List (List ℕ)) (stimuli : List Stimulus) → AreStimuli setting words stimuli → AllByRecursion (IsStimulusOf setting) stimuli
all_known setting [] [] are = tt
all_known setting [] (x ∷ stimuli) are = absurd are
all_known setting (word ∷ words) [] are = absurd are
all_known setting (word ∷ words) (x ∷ stimuli) are = (are.0.known, all_known setting words stimuli are.1)
