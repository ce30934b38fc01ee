-- What a text spells with some marks, it spells with any others but for the numbers of marks: as many behaviours with statements, and the same names.
use Rattle.std.proofs.Common.{◌≡◌, ◌<◌, ◌⊎◌, inl, inr, ℕ, Bool, false, not, cond, List, [], ◌∷◌, ◌++◌, length, Option, Some, None, refl, sym, ap, ◌∙◌, subst, arith, position, bytes_eq, get_or, length-append}
use Rattle.std.specs.List.{count_by}
use Rattle.std.proofs.lemmas.List.{get_or_default}
use Rattle.std.proofs.lemmas.List.Quantifiers.{position-Some}
use Rattle.std.proofs.lemmas.List.Sums.{sum_by-append, sum_by-cons}
use Rattle.std.proofs.lemmas.Slice.Eq.{bytes_eq-Decides}
use Rattle.pssm_semantics.specs.declared.setting.Names.{Names}
use Rattle.pssm_semantics.specs.declared.tree.Act.{Act}
use Rattle.pssm_semantics.specs.declared.tree.Stmt.{Stmt, Assign, Send, Mark}
use Rattle.pssm_semantics.specs.declared.tree.Stmt.TheViews as views
use Rattle.pssm_semantics.specs.Fits.{stmt_count, stmts_count}
use Rattle.pssm_acts.specs.ActGrammar.{SpellsPhrase, assignment, sending, bare_mark, marking, SpellsStmts, nothing, phrase, choice, alternative, SpellsBehaviours, first, step}
use Rattle.pssm_acts.specs.Marks.{mark_of, grown, with_mark}
use Rattle.pssm_acts.specs.Tokens.{Token, tokens_of}
use Rattle.pssm_acts.proofs.BlockCounts.{stmts_more, choice_count, alternative_count}
use Rattle.pssm_bodies.specs.declared.slot.Reading.{Reading}
use Rattle.pssm_bodies.specs.Readings.{Said, behaviours, guard, Says, behaviour, guard', is_empty}
use Rattle.pssm_bodies.specs.Readings.{steps as says_steps}
use Rattle.pssm_bodies.specs.inner.Counts.{has_statements, said_count}
use Rattle.pssm_bodies.proofs.SlotLaws.{Has, has_append, append_has, has_contained}

abbrev Names' : Type 0
Names' = List (List ℕ)

-- ---- a mark that is named

-- The marks that were there are there still.
pub mark_stays : (marks : Names') (word m : List ℕ) → Has marks m → Has (with_mark marks word) m
mark_stays marks word m h = go (position (λ n. bytes_eq n word) marks) where
  go : (found : Option ℕ) → Has (grown found marks word) m
  go (Some k) = h
  go None = has_append marks (word ∷ []) m (inl h)

-- The one that is named is there.
pub mark_there : (marks : Names') (word : List ℕ) → Has (with_mark marks word) word
mark_there marks word = go (position (λ n. bytes_eq n word) marks) refl where
  go : (found : Option ℕ) → position (λ n. bytes_eq n word) marks ≡ found → Has (grown found marks word) word
  go (Some k) e =
      let at = position-Some (λ n. bytes_eq n word) marks k [] e in
      has_contained marks word (k, at.0, stands k at.0 ((bytes_eq-Decides (get_or marks k []) word).0 at.1)) where
        stands : (k : ℕ) → k < length marks → get_or marks k [] ≡ word → get_or marks k word ≡ word
        stands k lt is = get_or_default marks k word [] lt ∙ is
  go None e = has_append marks (word ∷ []) word (inr (inl refl))

-- There is no other.
pub mark_alone : (marks : Names') (word m : List ℕ) → Has (with_mark marks word) m → Has marks m ⊎ (word ≡ m)
mark_alone marks word m = go (position (λ n. bytes_eq n word) marks) where
  go : (found : Option ℕ) → Has (grown found marks word) m → Has marks m ⊎ (word ≡ m)
  go (Some k) h = inl h
  go None h = last (append_has marks (word ∷ []) m h) where
    last : Has marks m ⊎ Has (word ∷ []) m → Has marks m ⊎ (word ≡ m)
    last (inl h) = inl h
    last (inr (inl is)) = inr is
    last (inr (inr h)) = absurd h

-- ---- a phrase

-- The marks behind tokens are those before them, with names that the other reading notes too.
abbrev Among : Names' → Names' → Names' → Type 0
Among other noted left = (m : List ℕ) → Has left m → Has other m ⊎ Has noted m

abbrev Stays : Names' → Names' → Type 0
Stays marks noted = (m : List ℕ) → Has marks m → Has noted m

marked_among : (marks other : Names') (word m : List ℕ) → Has other m ⊎ (word ≡ m) → Has other m ⊎ Has (with_mark marks word) m
marked_among marks other word m (inl h) = inl h
marked_among marks other word m (inr is) = inr (subst (λ n. Has (with_mark marks word) n) is (mark_there marks word))

record PhraseAgain (names : Names) (l : ℕ) (ts : List Token) (s : Stmt) (noted other : Names') : Type 0 where
  read : Stmt
  left : Names'
  spelled : SpellsPhrase names other l ts read left
  counted : stmt_count read ≡ stmt_count s
  among : Among other noted left

phrase_again : {names : Names} {marks noted : Names'} {l : ℕ} {ts : List Token} {s : Stmt} → SpellsPhrase names marks l ts s noted → (other : Names') → PhraseAgain names l ts s noted other
phrase_again (assignment {l} {variable} {becomes} semicolon {ts} {x} {e} is found assigns spelled ends) other =
    record { read = Assign x e; left = other; spelled = assignment semicolon is found assigns spelled ends; counted = refl; among = λ m h. inl h }
phrase_again (sending {l} {send} {receiver} {dot} {name} semicolon {ts} {to} {signal} {args} is receives dots named found spelled few ends) other =
    record { read = Send to signal args; left = other; spelled = sending semicolon is receives dots named found spelled few ends; counted = refl; among = λ m h. inl h }
phrase_again {names} {marks} (bare_mark {l} {mark} {name} is named ends) other = record {
  read = Mark (mark_of other name.word) [];
  left = with_mark other name.word;
  spelled = bare_mark is named ends;
  counted = refl;
  among = λ m h. marked_among marks other name.word m (mark_alone other name.word m h);
}
phrase_again {names} {marks} (marking {l} {mark} {name} semicolon {ts} {args} is named spelled few ends) other = record {
  read = Mark (mark_of other name.word) args;
  left = with_mark other name.word;
  spelled = marking semicolon is named spelled few ends;
  counted = refl;
  among = λ m h. marked_among marks other name.word m (mark_alone other name.word m h);
}

phrase_stays : {names : Names} {marks noted : Names'} {l : ℕ} {ts : List Token} {s : Stmt} → SpellsPhrase names marks l ts s noted → Stays marks noted
phrase_stays (assignment semicolon is found assigns spelled ends) m h = h
phrase_stays (sending semicolon is receives dots named found spelled few ends) m h = h
phrase_stays {names} {marks} (bare_mark {l} {mark} {name} is named ends) m h = mark_stays marks name.word m h
phrase_stays {names} {marks} (marking {l} {mark} {name} semicolon is named spelled few ends) m h = mark_stays marks name.word m h

-- ---- statements

pub stmts_stay : {names : Names} {marks noted : Names'} {l : ℕ} {ts : List Token} {block : List Stmt} → SpellsStmts names marks l ts block noted → Stays marks noted
stmts_stay nothing m h = h
stmts_stay (phrase before spelled) m h = phrase_stays spelled m (stmts_stay before m h)
stmts_stay (choice if' opening closing before is condition opens inner closes) m h = stmts_stay inner m (stmts_stay before m h)
stmts_stay (alternative if' opening closing else' opening' closing' before is condition opens inner closes is' opens' rest closes') m h = stmts_stay rest m (stmts_stay inner m (stmts_stay before m h))

record StmtsAgain (names : Names) (l : ℕ) (ts : List Token) (block : List Stmt) (noted other : Names') : Type 0 where
  read : List Stmt
  left : Names'
  spelled : SpellsStmts names other l ts read left
  counted : stmts_count read ≡ stmts_count block
  empty : is_empty read ≡ is_empty block
  among : Among other noted left

-- Names behind more tokens, where they are among those behind the first, and these stay.
among_on : (other noted left more last : Names') → Among other noted left → Stays noted more → Among left more last → Among other more last
among_on other noted left more last before stays behind m h = go (behind m h) where
  go : Has left m ⊎ Has more m → Has other m ⊎ Has more m
  go (inr there) = inr there
  go (inl there) = on (before m there) where
    on : Has other m ⊎ Has noted m → Has other m ⊎ Has more m
    on (inl h) = inl h
    on (inr h) = inr (stays m h)

never_empty : (block : List Stmt) (s : Stmt) → is_empty (block ++ s ∷ []) ≡ false
never_empty [] s = refl
never_empty (x ∷ block) s = refl

stmts_again : {names : Names} {marks noted : Names'} {l : ℕ} {ts : List Token} {block : List Stmt} → SpellsStmts names marks l ts block noted → (other : Names') → StmtsAgain names l ts block noted other
stmts_again nothing other = record { read = []; left = other; spelled = nothing; counted = refl; empty = refl; among = λ m h. inl h }
stmts_again {names} (phrase {l} {ts} {us} {block} {s} {marks} {noted} {more = last} before spelled) other =
    let front : StmtsAgain names l ts block noted other = stmts_again before other in
    let part : PhraseAgain names l us s last front.left = phrase_again spelled front.left in
    record {
      read = front.read ++ part.read ∷ [];
      left = part.left;
      spelled = phrase front.spelled part.spelled;
      counted = omega (arith, stmts_more front.read part.read, stmts_more block s, front.counted, part.counted);
      empty = never_empty front.read part.read ∙ sym (never_empty block s);
      among = among_on other noted front.left last part.left front.among (phrase_stays spelled) part.among;
    }
stmts_again {names} (choice {l} {ts} {cs} {us} if' opening closing {block} {body} {c} {marks} {noted} {more = last} before is condition opens inner closes) other =
    let front = stmts_again before other in
    let part = stmts_again inner front.left in
    let s : Stmt = views.Choose c body None in
    let r : Stmt = views.Choose c part.read None in
    record {
      read = front.read ++ r ∷ [];
      left = part.left;
      spelled = choice if' opening closing front.spelled is condition opens part.spelled closes;
      counted = omega (arith, stmts_more front.read r, stmts_more block s, front.counted, part.counted, choice_count c part.read, choice_count c body);
      empty = never_empty front.read r ∙ sym (never_empty block s);
      among = among_on other noted front.left last part.left front.among (stmts_stay inner) part.among;
    }
stmts_again {names} (alternative {l} {ts} {cs} {us} {vs} if' opening closing else' opening' closing' {block} {body} {otherwise = rest} {c} {marks} {noted} {more = middle} {last} before is condition opens inner closes is' opens' others closes') other =
    let front = stmts_again before other in
    let part = stmts_again inner front.left in
    let back = stmts_again others part.left in
    let s : Stmt = views.Choose c body (Some rest) in
    let r : Stmt = views.Choose c part.read (Some back.read) in
    record {
      read = front.read ++ r ∷ [];
      left = back.left;
      spelled = alternative if' opening closing else' opening' closing' front.spelled is condition opens part.spelled closes is' opens' back.spelled closes';
      counted = omega (arith, stmts_more front.read r, stmts_more block s, front.counted, part.counted, back.counted, alternative_count c part.read back.read, alternative_count c body rest);
      empty = never_empty front.read r ∙ sym (never_empty block s);
      among = among_on other middle part.left last back.left (among_on other noted front.left middle part.left front.among (stmts_stay inner) part.among) (stmts_stay others) back.among;
    }

-- ---- behaviours

record BehavioursAgain (names : Names) (ts : List Token) (acts : List Act) (noted other : Names') : Type 0 where
  read : List Act
  left : Names'
  spelled : SpellsBehaviours names other ts read left
  all : length read ≡ length acts
  counted : count_by has_statements read ≡ count_by has_statements acts
  among : Among other noted left

-- one behaviour with its statements
one_counted : (read act : Act) → is_empty read.stmts ≡ is_empty act.stmts → count_by has_statements (read ∷ []) ≡ count_by has_statements (act ∷ [])
one_counted read act same =
    omega (arith, ap (λ (b : Bool). cond {A = ℕ} (not b) 1 0) same, sum_by-cons (λ a. cond (has_statements a) 1 0) read [], sum_by-cons (λ a. cond (has_statements a) 1 0) act [])

behaviours_again : {names : Names} {marks noted : Names'} {ts : List Token} {acts : List Act} → SpellsBehaviours names marks ts acts noted → (other : Names') → BehavioursAgain names ts acts noted other
behaviours_again {names} (first {ts} {act} {marks} {noted} spells) other =
    let again : StmtsAgain names 16 ts act.stmts noted other = stmts_again spells.spelled other in
    let read : Act = record { stmts = again.read } in
    record {
      read = read ∷ [];
      left = again.left;
      spelled = first (record { spelled = again.spelled; few = omega (arith, again.counted, spells.few) });
      all = refl;
      counted = one_counted read act again.empty;
      among = again.among;
    }
behaviours_again {names} (step {ts} {us} step' semicolon {acts} {act} {marks} {noted} {more} before is ends spells) other =
    let front : BehavioursAgain names ts acts noted other = behaviours_again before other in
    let again : StmtsAgain names 16 us act.stmts more front.left = stmts_again spells.spelled front.left in
    let read : Act = record { stmts = again.read } in
    record {
      read = front.read ++ read ∷ [];
      left = again.left;
      spelled = step step' semicolon front.spelled is ends (record { spelled = again.spelled; few = omega (arith, again.counted, spells.few) });
      all = omega (arith, length-append front.read (read ∷ []), length-append acts (act ∷ []), front.all);
      counted = omega (arith, sum_by-append (λ a. cond (has_statements a) 1 0) front.read (read ∷ []), sum_by-append (λ a. cond (has_statements a) 1 0) acts (act ∷ []), front.counted, one_counted read act again.empty);
      among = among_on other noted front.left more again.left front.among (stmts_stay spells.spelled) again.among;
    }

-- ---- texts

-- The text says as much with other marks, and no other names.
pub record SaysAgain (names : Names) (text : List ℕ) (reading : Reading) (said : Said) (noted other : Names') : Type 0 where
  pub read : Said
  pub left : Names'
  pub says : Says names other text reading read left
  pub counted : said_count read ≡ said_count said
  pub among : (m : List ℕ) → Has left m → Has other m ⊎ Has noted m

pub says_again : (names : Names) (marks : Names') (text : List ℕ) (reading : Reading) (said : Said) (noted : Names') → Says names marks text reading said noted → (other : Names')
    → SaysAgain names text reading said noted other
says_again names marks text reading said noted (behaviour {act} spells) other =
    let again : StmtsAgain names 16 (tokens_of text) act.stmts noted other = stmts_again spells.spelled.spelled other in
    let read : Act = record { stmts = again.read } in
    record {
      read = behaviours (read ∷ []);
      left = again.left;
      says = behaviour (record { short = spells.short; spelled = record { spelled = again.spelled; few = omega (arith, again.counted, spells.spelled.few) } });
      counted = one_counted read act again.empty;
      among = again.among;
    }
says_again names marks text reading said noted (says_steps {acts} spells) other =
    let again : BehavioursAgain names (tokens_of text) acts noted other = behaviours_again spells.spelled other in
    record {
      read = behaviours again.read;
      left = again.left;
      says = says_steps (record { short = spells.short; spelled = again.spelled; few = omega (arith, again.all, spells.few) });
      counted = again.counted;
      among = again.among;
    }
says_again names marks text reading said noted (guard' {cond = c} spells) other =
    record { read = guard c; left = other; says = guard' spells; counted = refl; among = λ m h. inl h }

-- The marks that there were stay.
behaviours_stay : {names : Names} {marks noted : Names'} {ts : List Token} {acts : List Act} → SpellsBehaviours names marks ts acts noted → Stays marks noted
behaviours_stay (first spells) m h = stmts_stay spells.spelled m h
behaviours_stay (step step' semicolon before is ends spells) m h = stmts_stay spells.spelled m (behaviours_stay before m h)

pub says_stay : (names : Names) (marks : Names') (text : List ℕ) (reading : Reading) (said : Said) (noted : Names') → Says names marks text reading said noted → (m : List ℕ) → Has marks m → Has noted m
says_stay names marks text reading said noted (behaviour spells) m h = stmts_stay spells.spelled.spelled m h
says_stay names marks text reading said noted (says_steps spells) m h = behaviours_stay spells.spelled m h
says_stay names marks text reading said noted (guard' spells) m h = h
