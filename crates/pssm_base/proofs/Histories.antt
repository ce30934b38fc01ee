-- Calls that are added to a history.
use Rattle.std.proofs.Common.{◌≡◌, ℕ, ◌+◌, ◌<◌, List, [], ◌∷◌, ◌++◌, length, None, Some, refl, arith, subst, sym, ap, ◌∙◌, append_assoc, zero-add, length-append}
use Rattle.std.specs.Prelude.{⊤}
use Rattle.std.proofs.lemmas.List.{append-nil, nil_from_length}
use Rattle.pssm_base.specs.History.{Reading, reading, History, Added, Adds, Grows, ReadsOn, ReadsAll, ReadsFront, ReadsPast}
use Rattle.pssm_base.specs.inner.Filling.{ReadsMore}

-- no calls were added
pub added_start : (history : History) (P : List Reading → Type 0) → P [] → Added history history P
added_start None P none = tt
added_start (Some calls) P none = ([], sym (append-nil calls), none)

-- where calls with a property were added, some were
pub added_grows : (before after : History) (P : List Reading → Type 0) → Added before after P → Grows before after
added_grows None after P added = tt
added_grows (Some calls) None P added = added
added_grows (Some calls) (Some all) P added = (added.0, added.1, tt)

-- calls that were added, and then others
pub added_then : (before mid after : History) (P Q W : List Reading → Type 0) → Added before mid P → Added mid after Q
    → ((first more : List Reading) → P first → Q more → W (first ++ more)) → Added before after W
added_then None mid after P Q W one two both = tt
added_then (Some calls) None after P Q W one two both = absurd one
added_then (Some calls) (Some all) None P Q W one two both = absurd two
added_then (Some calls) (Some all) (Some last) P Q W one two both =
    (one.0 ++ two.0, two.1 ∙ ap (λ l. l ++ two.0) one.1 ∙ append_assoc calls one.0 two.0, both one.0 two.0 one.2 two.2)

-- the same, of a property that the calls keep that are added
pub added_more : (before mid after : History) (P W : List Reading → Type 0) → Added before mid P → Grows mid after
    → ((first more : List Reading) → P first → W (first ++ more)) → Added before after W
added_more before mid after P W one two both = added_then before mid after P (λ more. ⊤) W one two (λ first more p _. both first more p)

pub grows_more : (before mid after : History) → Grows before mid → Grows mid after → Grows before after
grows_more before mid after one two = added_more before mid after (λ more. ⊤) (λ more. ⊤) one two (λ first more p. tt)

-- the next piece of a path
pub reads_on : (path : List ℕ) (from : ℕ) (calls : List Reading) (bytes piece : List ℕ) → ReadsOn path from calls bytes → 0 < length piece
    → ReadsOn path from (calls ++ reading path (from + length bytes) piece ∷ []) (bytes ++ piece)
reads_on path from [] bytes piece reads some =
    let there : from + length bytes ≡ from = omega (arith, ap length reads) in
    (piece, [], ap (λ k. reading path k piece) there, some, ap (λ l. l ++ piece) reads ∙ sym (append-nil piece), refl)
reads_on path from (call ∷ calls) bytes piece reads some =
    let there : (from + length reads.0) + length reads.1 ≡ from + length bytes = omega (arith, ap length reads.4, length-append reads.0 reads.1) in
    let more = reads_on path (from + length reads.0) calls reads.1 piece reads.5 some in (
      reads.0,
      reads.1 ++ piece,
      reads.2,
      reads.3,
      ap (λ l. l ++ piece) reads.4 ∙ append_assoc reads.0 reads.1 piece,
      subst (λ k. ReadsOn path (from + length reads.0) (calls ++ reading path k piece ∷ []) (reads.1 ++ piece)) there more,
    )

-- a piece more was read, which is not empty
pub added_piece : (before mid after : History) (path old new : List ℕ) (n : ℕ) → Added before mid (λ calls. ReadsOn path 0 calls old) → ReadsMore mid after path old new n
    → 0 < n → Added before after (λ calls. ReadsOn path 0 calls new)
added_piece before mid after path old new n so_far more some =
    added_then before mid after (λ calls. ReadsOn path 0 calls old) (λ calls. calls ≡ reading path (length old) more.piece ∷ []) (λ calls. ReadsOn path 0 calls new) so_far more.added
    (λ first last reads is.
    let longer : 0 < length more.piece = omega (arith, more.many) in
    let there = subst (λ k. ReadsOn path 0 (first ++ reading path k more.piece ∷ []) (old ++ more.piece)) (zero-add (length old)) (reads_on path 0 first old more.piece reads longer) in
    subst (λ calls. ReadsOn path 0 (first ++ calls) new) (sym is)
    (subst (λ bytes. ReadsOn path 0 (first ++ reading path (length old) more.piece ∷ []) bytes) (sym more.joined) there))

-- the end was met
pub added_end : (before mid after : History) (path old new : List ℕ) (n : ℕ) → Added before mid (λ calls. ReadsOn path 0 calls old) → ReadsMore mid after path old new n
    → n ≡ 0 → Added before after (λ calls. ReadsAll path calls new)
added_end before mid after path old new n so_far more none =
    let empty : more.piece ≡ [] = nil_from_length more.piece (more.many ∙ none) in
    let same : new ≡ old = more.joined ∙ ap (λ l. old ++ l) empty ∙ append-nil old in
    added_then before mid after (λ calls. ReadsOn path 0 calls old) (λ calls. calls ≡ reading path (length old) more.piece ∷ []) (λ calls. ReadsAll path calls new) so_far more.added
    (λ first last reads is. record {
      pieces = first;
      calls_are = ap (λ l. first ++ l) (is ∙ ap (λ l. reading path (length old) l ∷ []) empty ∙ ap (λ l. reading path (length l) [] ∷ []) (sym same));
      reads = subst (λ l. ReadsOn path 0 first l) (sym same) reads;
    })

-- a call failed behind what was read
pub added_fault : (before mid after : History) (path bytes : List ℕ) → Added before mid (λ calls. ReadsOn path 0 calls bytes) → Adds mid after []
    → Added before after (λ calls. ReadsFront path calls)
added_fault before mid after path bytes so_far none =
    added_then before mid after (λ calls. ReadsOn path 0 calls bytes) (λ calls. calls ≡ []) (λ calls. ReadsFront path calls) so_far none
    (λ first last reads is. (bytes, subst (λ calls. ReadsOn path 0 calls bytes) (sym (ap (λ l. first ++ l) is ∙ append-nil first)) reads))

-- one byte more than the limit was read
pub added_past : (before after : History) (path bytes : List ℕ) (limit : ℕ) → Added before after (λ calls. ReadsOn path 0 calls bytes) → length bytes ≡ limit + 1
    → Added before after (λ calls. ReadsPast path calls limit)
added_past None after path bytes limit added past = tt
added_past (Some calls) None path bytes limit added past = added
added_past (Some calls) (Some all) path bytes limit added past = (added.0, added.1, (bytes, added.2, past))
