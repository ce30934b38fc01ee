-- That words mean one thing at most.
use Rattle.std.proofs.Common.{◌≡◌, ◌<◌, ◌≤◌, ◌-◌, ◌^◌, ℕ, get_or, List, [], ◌∷◌, length, take, drop, codes, refl, sym, ap, subst, ◌∙◌, arith, String, string_bytes, Bool, true, false, Option, Some, None, IfSome}
use Rattle.std.specs.declared.alloc.Global.{Global}
use Rattle.pssm_tool.specs.declared.run_words.Options.{Options}
use Rattle.pssm_tool.specs.declared.words.Command.{Command}
use Rattle.clap.specs.Words.{Row, first_of, matches_of}
use Rattle.pssm_spelling.specs.Numbers.{IsNumber}
use Rattle.pssm_tool.specs.Words.{texts, BeginWith, HasNumber, HasOptions, IsRun, IsGen, run_command, Meaning, Judges, Runs, Checks, Prints, Generates, Means, IsUsage}
use Rattle.pssm_tool.specs.inner.Commands.{meaning_of}
use Rattle.pssm_spelling.proofs.WordNumbers.{one_number}

all_taken : {X : Type 0} (xs : List X) → take (length xs) xs ≡ xs
all_taken [] = refl
all_taken (x ∷ xs) = ap (λ (ys : List _). x ∷ ys) (all_taken xs)

-- A slice that has an item is the item and the rest.
pub first_and_rest : {X : Type 0} (xs : List X) (x : X) → 1 ≤ length xs → x ≡ get_or xs 0 x → xs ≡ x ∷ take (length xs - 1) (drop 1 xs)
first_and_rest [] x some is = absurd (omega arith)
first_and_rest (y ∷ ys) x some is =
    let n : length (y ∷ ys) - 1 ≡ length ys = omega arith in
    rw n (rw (all_taken ys) (ap (λ (z : _). z ∷ ys) (sym is)))

pub true_and_false : (b : Bool) → b ≡ true → b ≡ false → ⊥
true_and_false b p q = let both : true ≡ false = sym p ∙ q in cc

-- ---- the first of the words

pub words_first : (words rest : List (String Global)) (x : String Global) (name : List ℕ) → words ≡ x ∷ rest → string_bytes x ≡ name → texts words ≡ name ∷ texts rest
words_first words rest x name e is = ap texts e ∙ ap (λ (t : List ℕ). t ∷ texts rest) is

-- ---- the words of a run

-- The number of an option is told by what is given.
one_given : (low high other : ℕ) (given : Option (List ℕ)) (m n : ℕ) → high < 2 ^ 64 → HasNumber low high other given m → HasNumber low high other given n → m ≡ n
one_given low high other (Some word) m n small p q = one_number word low high m n small p q
one_given low high other None m n small p q = p ∙ sym q

same_options : (a b : Options) → a.seed ≡ b.seed → a.workers ≡ b.workers → a.limit ≡ b.limit → a ≡ b
same_options a b p q r =
    ap (λ (n : ℕ). let o : Options = record { seed = n; workers = a.workers; limit = a.limit } in o) p
    ∙ ap (λ (n : ℕ). let o : Options = record { seed = b.seed; workers = n; limit = a.limit } in o) q
    ∙ ap (λ (n : ℕ). let o : Options = record { seed = b.seed; workers = b.workers; limit = n } in o) r

one_choice : (found : List Row) (a b : Options) → HasOptions found a → HasOptions found b → a ≡ b
one_choice found a b p q = same_options a b
    (one_given 0 18446744073709551615 0 (first_of (codes "seed") found) a.seed b.seed (omega arith) p.seed q.seed)
    (one_given 1 16 1 (first_of (codes "workers") found) a.workers b.workers (omega arith) p.workers q.workers)
    (one_given 0 1000000 10000 (first_of (codes "limit") found) a.limit b.limit (omega arith) p.limit q.limit)

one_run : (words : List (List ℕ)) (o k : Options) (m n : List ℕ) (s t : List (List ℕ)) → IsRun words o m s → IsRun words k n t → Runs o m s ≡ Runs k n t
one_run words o k m n s t p q =
    let options : o ≡ k = one_choice (matches_of run_command words) o k p.asks.numbers q.asks.numbers in
    let all : Some (m ∷ s) ≡ Some (n ∷ t) = sym p.asks.list ∙ q.asks.list in
    cc (options, all)

low_number : (low high other : ℕ) (given : Option (List ℕ)) (n : ℕ) → other ≤ high → HasNumber low high other given n → n ≤ high
low_number low high other (Some word) n below p = p.high
low_number low high other None n below p = omega arith

-- The limit of a run is in its range.
pub limit_low : (words : List (List ℕ)) (options : Options) (model : List ℕ) (stimuli : List (List ℕ)) → IsRun words options model stimuli → options.limit ≤ 1000000
limit_low words options model stimuli run =
    low_number 0 1000000 10000 (first_of (codes "limit") (matches_of run_command words)) options.limit (omega arith) run.asks.numbers.limit

-- So is the number of its workers.
pub workers_few : (words : List (List ℕ)) (options : Options) (model : List ℕ) (stimuli : List (List ℕ)) → IsRun words options model stimuli → options.workers ≤ 16
workers_few words options model stimuli run =
    low_number 1 16 1 (first_of (codes "workers") (matches_of run_command words)) options.workers (omega arith) run.asks.numbers.workers

-- The words `gen` and a number mean what was read.
pub gen_read : (read : Option Command) (words : List (List ℕ)) (word : List ℕ) → words ≡ codes "gen" ∷ word ∷ []
    → IfSome read (λ command. (n : ℕ) × (meaning_of command ≡ Generates n) × IsNumber word 1 4000 n) → IfSome read (λ command. Means words (meaning_of command))
gen_read None words word are is = tt
gen_read (Some command) words word are (n, same, number) = subst (λ (m : Meaning). Means words m) (sym same) (record { word = word; words_are = are; number = number })

-- The number of `gen` is in its range.
pub gen_in_range : (words : List (List ℕ)) (n : ℕ) → IsGen words n → (1 ≤ n) × (n ≤ 4000)
gen_in_range words n gen = (gen.number.low, gen.number.high)

-- ---- one meaning

-- the word that says which command it is
abbrev pub verb_of : Meaning → List ℕ
verb_of (Judges model journal) = codes "judge"
verb_of (Runs options model stimuli) = codes "run"
verb_of (Checks model) = codes "check"
verb_of (Prints model) = codes "flat"
verb_of (Generates n) = codes "gen"

begins : (words : List (List ℕ)) (meaning : Meaning) → Means words meaning → BeginWith words (verb_of meaning)
begins words (Judges model journal) is = (model ∷ journal ∷ [], is)
begins words (Runs options model stimuli) is = is.verb
begins words (Checks model) is = (model ∷ [], is)
begins words (Prints model) is = (model ∷ [], is)
begins words (Generates n) is = (is.word ∷ [], is.words_are)

one_begin : (words : List (List ℕ)) (v w : List ℕ) → BeginWith words v → BeginWith words w → v ≡ w
one_begin words v w p q = let e : v ∷ p.0 ≡ w ∷ q.0 = sym p.1 ∙ q.1 in cc

-- Words have one verb.
one_verb : (words : List (List ℕ)) (a b : Meaning) → Means words a → Means words b → verb_of a ≡ verb_of b
one_verb words a b p q = one_begin words (verb_of a) (verb_of b) (begins words a p) (begins words b q)

run_is_not_gen : codes "run" ≡ codes "gen" → ⊥
run_is_not_gen e = let first : 114 ≡ 103 = ap (λ (word : List ℕ). get_or word 0 0) e in omega (arith, first)

-- Words that begin with `run` and are no run mean nothing.
pub no_run : (words : List (List ℕ)) → BeginWith words (codes "run") → ((options : Options) (model : List ℕ) (stimuli : List (List ℕ)) → IsRun words options model stimuli → ⊥)
    → IsUsage words
no_run words run none (Runs options model stimuli) is = none options model stimuli is
no_run words run none (Judges model journal) is = let e : codes "run" ≡ codes "judge" = one_begin words (codes "run") (codes "judge") run (model ∷ journal ∷ [], is) in cc
no_run words run none (Checks model) is = let e : codes "run" ≡ codes "check" = one_begin words (codes "run") (codes "check") run (model ∷ [], is) in cc
no_run words run none (Prints model) is = let e : codes "run" ≡ codes "flat" = one_begin words (codes "run") (codes "flat") run (model ∷ [], is) in cc
no_run words run none (Generates n) is = run_is_not_gen (one_begin words (codes "run") (codes "gen") run (is.word ∷ [], is.words_are))

-- Words spell one number.
one_gen : (words : List (List ℕ)) (k n : ℕ) → IsGen words k → IsGen words n → Generates k ≡ Generates n
one_gen words k n p q =
    let both : codes "gen" ∷ p.word ∷ [] ≡ codes "gen" ∷ q.word ∷ [] = sym p.words_are ∙ q.words_are in
    let same : p.word ≡ q.word = cc in
    ap Generates (one_number q.word 1 4000 k n (omega arith) (subst (λ (w : List ℕ). IsNumber w 1 4000 k) same p.number) q.number)

-- Words mean one thing at most.
pub one_meaning : (words : List (List ℕ)) (a b : Meaning) → Means words a → Means words b → a ≡ b
one_meaning words (Judges m j) (Judges n k) p q = let e : codes "judge" ∷ m ∷ j ∷ [] ≡ codes "judge" ∷ n ∷ k ∷ [] = sym p ∙ q in cc
one_meaning words (Runs o m s) (Runs k n t) p q = one_run words o k m n s t p q
one_meaning words (Checks m) (Checks n) p q = let e : codes "check" ∷ m ∷ [] ≡ codes "check" ∷ n ∷ [] = sym p ∙ q in cc
one_meaning words (Prints m) (Prints n) p q = let e : codes "flat" ∷ m ∷ [] ≡ codes "flat" ∷ n ∷ [] = sym p ∙ q in cc
one_meaning words (Generates k) (Generates n) p q = one_gen words k n p q
one_meaning words (Judges m j) (Runs o n s) p q = let e : codes "judge" ≡ codes "run" = one_verb words (Judges m j) (Runs o n s) p q in cc
one_meaning words (Judges m j) (Checks n) p q = let e : codes "judge" ≡ codes "check" = one_verb words (Judges m j) (Checks n) p q in cc
one_meaning words (Judges m j) (Prints n) p q = let e : codes "judge" ≡ codes "flat" = one_verb words (Judges m j) (Prints n) p q in cc
one_meaning words (Runs o m s) (Judges n j) p q = let e : codes "run" ≡ codes "judge" = one_verb words (Runs o m s) (Judges n j) p q in cc
one_meaning words (Runs o m s) (Checks n) p q = let e : codes "run" ≡ codes "check" = one_verb words (Runs o m s) (Checks n) p q in cc
one_meaning words (Runs o m s) (Prints n) p q = let e : codes "run" ≡ codes "flat" = one_verb words (Runs o m s) (Prints n) p q in cc
one_meaning words (Checks m) (Judges n j) p q = let e : codes "check" ≡ codes "judge" = one_verb words (Checks m) (Judges n j) p q in cc
one_meaning words (Checks m) (Runs o n s) p q = let e : codes "check" ≡ codes "run" = one_verb words (Checks m) (Runs o n s) p q in cc
one_meaning words (Checks m) (Prints n) p q = let e : codes "check" ≡ codes "flat" = one_verb words (Checks m) (Prints n) p q in cc
one_meaning words (Prints m) (Judges n j) p q = let e : codes "flat" ≡ codes "judge" = one_verb words (Prints m) (Judges n j) p q in cc
one_meaning words (Prints m) (Runs o n s) p q = let e : codes "flat" ≡ codes "run" = one_verb words (Prints m) (Runs o n s) p q in cc
one_meaning words (Prints m) (Checks n) p q = let e : codes "flat" ≡ codes "check" = one_verb words (Prints m) (Checks n) p q in cc
one_meaning words (Judges m j) (Generates k) p q = let e : codes "judge" ≡ codes "gen" = one_verb words (Judges m j) (Generates k) p q in cc
one_meaning words (Runs o m s) (Generates k) p q = absurd (run_is_not_gen (one_verb words (Runs o m s) (Generates k) p q))
one_meaning words (Checks m) (Generates k) p q = let e : codes "check" ≡ codes "gen" = one_verb words (Checks m) (Generates k) p q in cc
one_meaning words (Prints m) (Generates k) p q = let e : codes "flat" ≡ codes "gen" = one_verb words (Prints m) (Generates k) p q in cc
one_meaning words (Generates k) (Judges n j) p q = let e : codes "gen" ≡ codes "judge" = one_verb words (Generates k) (Judges n j) p q in cc
one_meaning words (Generates k) (Runs o n s) p q = absurd (run_is_not_gen (sym (one_verb words (Generates k) (Runs o n s) p q)))
one_meaning words (Generates k) (Checks n) p q = let e : codes "gen" ≡ codes "check" = one_verb words (Generates k) (Checks n) p q in cc
one_meaning words (Generates k) (Prints n) p q = let e : codes "gen" ≡ codes "flat" = one_verb words (Generates k) (Prints n) p q in cc
