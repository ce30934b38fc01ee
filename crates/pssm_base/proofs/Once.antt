-- What was read of a path is told by the calls that are kept: there is one way to take them apart.
use Rattle.std.proofs.Common.{◌≡◌, ℕ, ◌+◌, ◌<◌, ◌≤◌, List, [], ◌∷◌, ◌++◌, length, arith, subst, sym, ap, ◌∙◌, append_assoc, length-append}
use Rattle.std.specs.Prelude.{None, Some}
use Rattle.std.proofs.lemmas.List.{append_cancel_left, append_cancel_right}
use Rattle.pssm_base.specs.History.{Reading, reading, History, Grows, ReadsOn}
use Rattle.pssm_base.specs.Reading.{Contents, given, ReadsWhole, HoldsMore}

abbrev bytes_of : Reading → List ℕ
bytes_of call = call.bytes

-- A call that met the end is not one that gave a piece.
no_piece : {P : Type 0} (path other piece : List ℕ) (from at : ℕ) → reading path from [] ≡ reading other at piece → 0 < length piece → P
no_piece path other piece from at same some = let none : length piece ≡ 0 = sym (ap (λ c. length (bytes_of c)) same) in absurd (omega (arith, none, some))

heads : (x y : Reading) (xs ys : List Reading) → x ∷ xs ≡ y ∷ ys → (x ≡ y) × (xs ≡ ys)
heads x y xs ys same = (cc, cc)

-- The calls up to the end of a path are the same, and so are the bytes that they gave, and what was read behind them.
pub read_once : (path : List ℕ) (from : ℕ) (pieces others : List Reading) (bytes more : List ℕ) (i j : ℕ) (rest last : List Reading) → ReadsOn path from pieces bytes → ReadsOn path from others more
    → pieces ++ reading path i [] ∷ rest ≡ others ++ reading path j [] ∷ last → (bytes ≡ more) × (rest ≡ last)
read_once path from [] [] bytes more i j rest last one two same = (one ∙ sym two, (heads _ _ rest last same).1)
read_once path from [] (y ∷ ys) bytes more i j rest last one two same =
    let h = heads (reading path i []) y rest (ys ++ reading path j [] ∷ last) same in
    no_piece path path two.0 i from (h.0 ∙ two.2) two.3
read_once path from (x ∷ xs) [] bytes more i j rest last one two same =
    let h = heads x (reading path j []) (xs ++ reading path i [] ∷ rest) last same in
    no_piece path path one.0 j from (sym h.0 ∙ one.2) one.3
read_once path from (x ∷ xs) (y ∷ ys) bytes more i j rest last one two same =
    let h = heads x y (xs ++ reading path i [] ∷ rest) (ys ++ reading path j [] ∷ last) same in
    let piece : two.0 ≡ one.0 = ap bytes_of (sym two.2 ∙ sym h.0 ∙ one.2) in
    let there : ReadsOn path (from + length one.0) ys two.1 = subst (λ (p : List ℕ). ReadsOn path (from + length p) ys two.1) piece two.5 in
    let behind = read_once path (from + length one.0) xs ys one.1 two.1 i j rest last one.5 there h.1 in
    (one.4 ∙ ap (λ l. one.0 ++ l) behind.0 ∙ ap (λ l. l ++ two.1) (sym piece) ∙ sym two.4, behind.1)

-- What was read without an end is no more than what was read up to the end.
pub read_within : (path : List ℕ) (from : ℕ) (pieces others : List Reading) (bytes more : List ℕ) (i : ℕ) (rest last : List Reading) → ReadsOn path from pieces bytes → ReadsOn path from others more
    → pieces ++ reading path i [] ∷ rest ≡ others ++ last → length more ≤ length bytes
read_within path from pieces [] bytes more i rest last one two same = omega (arith, ap length two)
read_within path from [] (y ∷ ys) bytes more i rest last one two same =
    let h = heads (reading path i []) y rest (ys ++ last) same in
    no_piece path path two.0 i from (h.0 ∙ two.2) two.3
read_within path from (x ∷ xs) (y ∷ ys) bytes more i rest last one two same =
    let h = heads x y (xs ++ reading path i [] ∷ rest) (ys ++ last) same in
    let piece : two.0 ≡ one.0 = ap bytes_of (sym two.2 ∙ sym h.0 ∙ one.2) in
    let there : ReadsOn path (from + length one.0) ys two.1 = subst (λ (p : List ℕ). ReadsOn path (from + length p) ys two.1) piece two.5 in
    let behind = read_within path (from + length one.0) xs ys one.1 two.1 i rest last one.5 there h.1 in
    omega (arith, behind, ap length one.4, ap length two.4, length-append one.0 one.1, length-append two.0 two.1, ap length piece)

-- the calls behind those that were answered before
behind_first : (xs calls ys zs more : List Reading) → ys ≡ xs ++ calls → zs ≡ ys ++ more → zs ≡ xs ++ (calls ++ more)
behind_first xs calls ys zs more one two = two ∙ ap (λ l. l ++ more) one ∙ append_assoc xs calls more

up_to_end : (calls pieces more : List Reading) (last : Reading) → calls ≡ pieces ++ last ∷ [] → calls ++ more ≡ pieces ++ last ∷ more
up_to_end calls pieces more last is = ap (λ l. l ++ more) is ∙ append_assoc pieces (last ∷ []) more

-- Where the calls are kept, a path that was read whole first was read up to one moment, and gave these bytes alone.
pub whole_once : (contents : Contents) (xs zs : List Reading) (k l : History) (path : List ℕ) (limit : ℕ) (bytes more : List ℕ) → ReadsWhole (given contents (Some xs) k) path limit bytes → Grows k (Some zs)
    → ReadsWhole (given contents (Some xs) l) path limit more → Grows l (Some zs) → (bytes ≡ more) × (k ≡ l)
whole_once contents xs zs None l path limit bytes more one up two on = absurd one.read
whole_once contents xs zs (Some ys) None path limit bytes more one up two on = absurd two.read
whole_once contents xs zs (Some ys) (Some ws) path limit bytes more one up two on =
    let first = one.read.2 in
    let other = two.read.2 in
    let here = behind_first xs one.read.0 ys zs up.0 one.read.1 up.1 in
    let there = behind_first xs two.read.0 ws zs on.0 two.read.1 on.1 in
    let same : one.read.0 ++ up.0 ≡ two.read.0 ++ on.0 = append_cancel_left xs (one.read.0 ++ up.0) (two.read.0 ++ on.0) (sym here ∙ there) in
    let cut = sym (up_to_end one.read.0 first.pieces up.0 (reading path (length bytes) []) first.calls_are) ∙ same
    ∙ up_to_end two.read.0 other.pieces on.0 (reading path (length more) []) other.calls_are in
    let both = read_once path 0 first.pieces other.pieces bytes more (length bytes) (length more) up.0 on.0 first.reads other.reads cut in
    let ends : ys ++ up.0 ≡ ws ++ up.0 = sym up.1 ∙ on.1 ∙ ap (λ l. ws ++ l) (sym both.1) in
    (both.0, ap (λ (l : List Reading). Some l) (append_cancel_right ys ws up.0 ends))

-- It does not hold more than the limit.
pub whole_not_more : (contents : Contents) (xs zs : List Reading) (k l : History) (path : List ℕ) (limit : ℕ) (bytes : List ℕ) → ReadsWhole (given contents (Some xs) k) path limit bytes → Grows k (Some zs)
    → HoldsMore (given contents (Some xs) l) path limit → Grows l (Some zs) → ⊥
whole_not_more contents xs zs None l path limit bytes one up two on = absurd one.read
whole_not_more contents xs zs (Some ys) None path limit bytes one up two on = absurd two.read
whole_not_more contents xs zs (Some ys) (Some ws) path limit bytes one up two on =
    let first = one.read.2 in
    let other = two.read.2 in
    let here = behind_first xs one.read.0 ys zs up.0 one.read.1 up.1 in
    let there = behind_first xs two.read.0 ws zs on.0 two.read.1 on.1 in
    let same : one.read.0 ++ up.0 ≡ two.read.0 ++ on.0 = append_cancel_left xs (one.read.0 ++ up.0) (two.read.0 ++ on.0) (sym here ∙ there) in
    let cut = sym (up_to_end one.read.0 first.pieces up.0 (reading path (length bytes) []) first.calls_are) ∙ same in
    let within = read_within path 0 first.pieces two.read.0 bytes other.0 (length bytes) up.0 on.0 first.reads other.1 cut in
    omega (arith, within, one.at_most, other.2)
