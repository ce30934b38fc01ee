-- The counts of a machine, from the lists of its elements.
use Rattle.std.proofs.Common.{◌≡◌, ◌+◌, ◌<◌, ◌≤◌, ℕ, List, [], ◌∷◌, length, map, take, min, get_or, Option, Some, sum_by, refl, sym, ap, ◌∙◌, arith}
use Rattle.std.specs.Prelude.{slice_get}
use Rattle.std.proofs.lemmas.Option.{slice_get-get_or}
use Rattle.std.proofs.lemmas.List.Sums.{sum_by-cons, sum_by_push}
use Rattle.pssm_model.specs.DraftSettings.{body_count}
use Rattle.pssm_totals.specs.Totals.{counts_of, extends_of}
use Rattle.pssm_numbering.specs.Numbering.{ModelFile, machines, own_with, is_vertex, is_transition}
use Rattle.pssm_parts.specs.Elements.{vertex_at, transition_at}
use Rattle.pssm_drafting.specs.Drafts.{draft_of, parts_at}
use Rattle.pssm_limits.specs.inner.Counts.{vertex_bodies, transition_bodies, count_by, cut_count}
use Rattle.pssm_limits.specs.declared.counts.Counted.{Counted}
use Rattle.pssm_limits.proofs.ListLaws.{take_more, take_all, map_both}

sum_of_map : {X Y : Type 0} (f : Y → ℕ) (g : X → Y) (xs : List X) → sum_by f (map g xs) ≡ sum_by (λ x. f (g x)) xs
sum_of_map f g [] = refl
sum_of_map f g (x ∷ xs) =
    let one = sum_by-cons f (g x) (map g xs) in
    let other = sum_by-cons (λ y. f (g y)) x xs in
    let more = sum_of_map f g xs in
    omega arith

-- the bodies of a machine are those of its vertices and those of its transitions
pub bodies_in_parts : (file : ModelFile) (m : ℕ)
    → body_count (parts_at file m)
    ≡ sum_by (λ n. vertex_bodies (vertex_at file n)) (own_with is_vertex file m)
    + sum_by (λ n. transition_bodies (transition_at file n)) (own_with is_transition file m)
bodies_in_parts file m =
    let vertices = sum_of_map vertex_bodies (vertex_at file) (own_with is_vertex file m) in
    let transitions = sum_of_map transition_bodies (transition_at file) (own_with is_transition file m) in
    omega arith

-- the same of the lists of a machine, each sum cut off
pub bodies_from : (numbered file : ModelFile) → numbered ≡ file → (k m : ℕ) → slice_get (machines file) k ≡ Some m → (vs ts : List ℕ)
    → ((x : ℕ) → slice_get (machines numbered) k ≡ Some x → vs ≡ own_with is_vertex numbered x)
    → ((x : ℕ) → slice_get (machines numbered) k ≡ Some x → ts ≡ own_with is_transition numbered x) → (v t both : ℕ)
    → v ≡ min 65536 (sum_by (λ n. vertex_bodies (vertex_at file n)) vs) → t ≡ min 65536 (sum_by (λ n. transition_bodies (transition_at file n)) ts)
    → both ≡ min 65536 (v + t) → both ≡ min 65536 (body_count (parts_at file m))
bodies_from numbered file same k m at vs ts vertices transitions v t both vsum tsum sum =
    let there : slice_get (machines numbered) k ≡ Some m = ap (λ f. slice_get (machines f) k) same ∙ at in
    let vs_is : vs ≡ own_with is_vertex file m = vertices m there ∙ ap (λ f. own_with is_vertex f m) same in
    let ts_is : ts ≡ own_with is_transition file m = transitions m there ∙ ap (λ f. own_with is_transition f m) same in
    let vsum_is = ap (sum_by (λ n. vertex_bodies (vertex_at file n))) vs_is in
    let tsum_is = ap (sum_by (λ n. transition_bodies (transition_at file n))) ts_is in
    let whole = bodies_in_parts file m in
    omega arith

-- one item more is counted
pub cut_more : (f : ℕ → ℕ) (xs : List ℕ) (i total more : ℕ) → i < length xs → total ≡ min 65536 (sum_by f (take i xs))
    → more ≡ min 65536 (total + f (get_or xs i 0)) → more ≡ min 65536 (sum_by f (take (i + 1) xs))
cut_more f xs i total more lt before new =
    let sum = ap (sum_by f) (take_more xs i (get_or xs i 0) (slice_get-get_or xs i 0 lt)) ∙ sum_by_push f (take i xs) (get_or xs i 0) in
    omega arith

pub counted_all : (file : ModelFile) (what : Counted) (counts : List ℕ) (k : ℕ) → length (machines file) ≤ k
    → counts ≡ map (cut_count what file) (take k (machines file)) → counts ≡ counts_of (count_by what) (draft_of file)
counted_all file what counts k le all =
    all ∙ ap (map (cut_count what file)) (take_all (machines file) k le) ∙ sym (map_both (parts_at file) (λ p. min 65536 (count_by what p)) (machines file))

pub extended_all : (file : ModelFile) (extends : List (Option ℕ)) (k : ℕ) → length (machines file) ≤ k
    → extends ≡ map (λ m. (parts_at file m).extends) (take k (machines file)) → extends ≡ extends_of (draft_of file)
extended_all file extends k le all =
    all ∙ ap (map (λ m. (parts_at file m).extends)) (take_all (machines file) k le) ∙ sym (map_both (parts_at file) (λ p. p.extends) (machines file))
