-- Circles: their machines have one total; and the totals of all machines.
use Rattle.std.proofs.Common.{◌≡◌, ◌≢◌, ◌⊎◌, ◌<◌, ◌+◌, ℕ, List, [], ◌∷◌, ◌++◌, suc, length, replicate, map, drop, add-one, set, min, Option, Some, None, IfSome, refl, sym, ap, subst, ◌∙◌, inl, inr, ⊎_elim, arith, Contains, sum_by, get_or, take}
use Rattle.std.proofs.lemmas.Bool.{cases_lt}
use Rattle.std.proofs.lemmas.List.{get_or_past, get_or-replicate, length-replicate, get_or-map, length-map, take-append-drop, take_at}
use Rattle.std.proofs.lemmas.List.Elements.{Contains-append_left, Contains-append_right, Contains-append_cases}
use Rattle.std.proofs.Math.ListN.{length-set}
use Rattle.std.proofs.Math.Seq.{take-suc, drop-cons}
use Rattle.pssm_totals.specs.declared.marks.Mark.{Mark}
use Rattle.pssm_totals.specs.declared.marks.Mark.TheVariants.{Unknown, Passed, Total}
use Rattle.pssm_totals.specs.Totals.{IsTotal, AreTotals, count_at}
use Rattle.pssm_totals.specs.inner.Ways.{mark_at, total_in, IsDone, IsWay, AreRight, KeepsTotals, IsOpenWay, IsSettling, AreOpenOrDone, IsFilled, HasClosed}
use Rattle.pssm_totals.proofs.ListLaws.{AreApart, nothing_in, is_one, is_first, in_more, in_or_not, apart_by_pairs, pairs_by_apart, apart_front, apart_back, apart_both}
use Rattle.pssm_totals.proofs.TotalLaws.{way_front, way_back, way_closed, total_round}
use Rattle.pssm_totals.proofs.MarkLaws.{new_or_old}

-- ---- some machines with one note

pub fill_goes_on : (old marks : List Mark) (machines : List ℕ) (at : ℕ) (mark : Mark) → at < length marks → IsFilled old marks machines mark
    → IsFilled old (set marks at mark) (machines ++ at ∷ []) mark
fill_goes_on old marks machines at mark lt h = record {
  width = length-set marks at mark ∙ h.width;
  inside = λ x is. ⊎_elim
      (λ new. new.1)
      (λ before. before.1 ∙ ⊎_elim (λ on. h.inside x on) (λ same. absurd (before.0 same)) (in_more machines at x is))
      (new_or_old marks at x mark lt);
  outside = λ x none. ⊎_elim
      (λ new. absurd (none (Contains-append_right machines (at ∷ []) x (is_one at x new.0))))
      (λ before. before.1 ∙ h.outside x (λ on. none (Contains-append_left machines (at ∷ []) x on)))
      (new_or_old marks at x mark lt);
}

pub fill_more : (old marks : List Mark) (machines : List ℕ) (i : ℕ) (mark : Mark) → i < length machines → get_or machines i 0 < length marks
    → IsFilled old marks (take i machines) mark → IsFilled old (set marks (get_or machines i 0) mark) (take (i + 1) machines) mark
fill_more old marks machines i mark lt below h =
    subst (λ xs. IsFilled old (set marks (get_or machines i 0) mark) xs mark) (sym (ap (λ n. take n machines) (add-one i) ∙ take-suc machines i 0 lt))
    (fill_goes_on old marks (take i machines) (get_or machines i 0) mark below h)

-- ---- a circle

-- a path is what stands before a place, the machine there, and what stands behind it
pub cut_at : (path : List ℕ) (place m : ℕ) → place < length path → get_or path place m ≡ m → drop place path ≡ m ∷ drop (suc place) path
cut_at path place m lt e = drop-cons path place m lt ∙ ap (λ x. x ∷ drop (suc place) path) e

pub closed_at : (own : List ℕ) (old new : List Mark) (path rest circle : List ℕ) (place m total : ℕ) → place < length path → get_or path place m ≡ m
    → rest ≡ take place path → circle ≡ drop place path → total ≡ min 65536 (sum_by (count_at own) circle) → IsFilled old new circle (Total total)
    → HasClosed own old new path m rest
closed_at own old new path rest circle place m total lt is front back sum filled = record {
  others = drop (suc place) path;
  cut = sym (take-append-drop place path) ∙ ap (λ xs. xs ++ drop place path) (sym front) ∙ ap (λ xs. rest ++ xs) (cut_at path place m lt is);
  filled = subst (λ xs. IsFilled old new xs (Total (min 65536 (sum_by (count_at own) xs)))) (back ∙ cut_at path place m lt is)
      (subst (λ t. IsFilled old new circle (Total t)) sum filled);
}

module _ {extends : List (Option ℕ)} {own : List ℕ} {old new : List Mark} {path rest : List ℕ} {m : ℕ} where
  pub close_settles : IsOpenWay extends old path (Some m) → AreRight extends own old → HasClosed own old new path m rest → IsSettling extends own new rest
  close_settles h right closed = record {
    noted = record {
      width = closed.filled.width ∙ h.noted.width;
      passed = λ x on. closed.filled.outside x (λ round. apart_both rest circle x apart on round) ∙ passed_rest x on;
      on_path = λ x p. ⊎_elim
          (λ round. let t = closed.filled.inside x round in absurd (cc))
          (λ other. off x other (h.noted.on_path x (sym (closed.filled.outside x other) ∙ p)))
          (in_or_not circle x);
      different = pairs_by_apart rest (apart_front rest circle apart);
      closed = λ x base done e. ⊎_elim
          (λ round. ⊎_elim
          (λ next_round. inside base next_round)
          (λ same. let is : m ≡ base = cc in inside base (subst (Contains circle) is (is_first m closed.others)))
          (way_closed extends circle (Some m) x base way_circle round e))
          (λ other. keep base (h.noted.closed x base (done.0, sym (closed.filled.outside x other) ∙ done.1) e))
          (in_or_not circle x);
    };
    right = record {
      right = λ x t e. ⊎_elim
          (λ round. let f = closed.filled.inside x round in
          total_round m closed.others x t way_circle (apart_back rest circle apart) round (cc))
          (λ other. right.right x t (sym (closed.filled.outside x other) ∙ e))
          (in_or_not circle x);
    };
    leads = record {
      next = Some m;
      way = way_front extends rest circle (Some m) way;
      done = inside m (is_first m closed.others);
    };
  }
    where
      circle : List ℕ
      circle = m ∷ closed.others

      apart : AreApart (rest ++ circle)
      apart = subst AreApart closed.cut (apart_by_pairs path h.noted.different)

      way : IsWay extends (rest ++ circle) (Some m)
      way = subst (λ xs. IsWay extends xs (Some m)) closed.cut h.way

      way_circle : IsWay extends circle (Some m)
      way_circle = way_back extends rest circle (Some m) way

      inside : (x : ℕ) → Contains circle x → IsDone new x
      inside x round = (min 65536 (sum_by (count_at own) circle), closed.filled.inside x round)

      passed_on : (x : ℕ) → Contains (rest ++ circle) x → mark_at old x ≡ Passed
      passed_on x on = h.noted.passed x (subst (λ xs. Contains xs x) (sym closed.cut) on)

      passed_rest : (x : ℕ) → Contains rest x → mark_at old x ≡ Passed
      passed_rest x on = passed_on x (Contains-append_left rest circle x on)

      off : (x : ℕ) → (Contains circle x → ⊥) → Contains path x → Contains rest x
      off x other on = ⊎_elim (λ l. l) (λ r. absurd (other r)) (Contains-append_cases rest circle x (subst (λ xs. Contains xs x) closed.cut on))

      keep : (x : ℕ) → IsDone old x → IsDone new x
      keep x done = (done.0, closed.filled.outside x (λ round. let p = passed_on x (Contains-append_right rest circle x round) in let d = done.1 in cc) ∙ done.1)

  pub close_keeps : IsOpenWay extends old path (Some m) → HasClosed own old new path m rest → KeepsTotals old new
  close_keeps h closed = record {
    kept = λ x t e. closed.filled.outside x (λ round.
        let p = h.noted.passed x (subst (λ xs. Contains xs x) (sym closed.cut) (Contains-append_right rest (m ∷ closed.others) x round)) in cc) ∙ e;
  }

pub close_done : {own : List ℕ} {old new : List Mark} {path rest : List ℕ} {m : ℕ} → HasClosed own old new path m rest → AreOpenOrDone new path rest
close_done {own = own} {rest = rest} {m = m} closed = record {
  either = λ x on. ⊎_elim
      (λ still. inl still)
      (λ round. inr (min 65536 (sum_by (count_at own) (m ∷ closed.others)), closed.filled.inside x round))
      (Contains-append_cases rest (m ∷ closed.others) x (subst (λ xs. Contains xs x) closed.cut on));
}

-- ---- all machines

-- what was open or done is done, where what was open is done and totals are kept
pub all_done : (marks new : List Mark) (path rest : List ℕ) → AreOpenOrDone marks path rest → AreOpenOrDone new rest [] → KeepsTotals marks new
    → AreOpenOrDone new path []
all_done marks new path rest h more keeps = record {
  either = λ x on. ⊎_elim
      (λ still. more.either x still)
      (λ done. inr (done.0, keeps.kept x done.0 done.1))
      (h.either x on);
}

pub keeps_keeps : {old mid new : List Mark} → KeepsTotals old mid → KeepsTotals mid new → KeepsTotals old new
keeps_keeps h g = record { kept = λ x t e. g.kept x t (h.kept x t e) }

pub done_all : {marks new : List Mark} {path : List ℕ} {m : ℕ} → Contains path m ⊎ IsDone marks m → KeepsTotals marks new
    → AreOpenOrDone new path [] → IsDone new m
done_all {m = m} start keeps all =
    ⊎_elim
    (λ on. ⊎_elim (λ h. absurd (nothing_in m h)) (λ done. done) (all.either m on))
    (λ done. (done.0, keeps.kept m done.0 done.1))
    start

pub totals_read : (extends : List (Option ℕ)) (own : List ℕ) (marks : List Mark) (totals : List ℕ) → IsSettling extends own marks []
    → ((k : ℕ) → k < length extends → IsDone marks k) → totals ≡ map total_in marks → AreTotals extends own totals
totals_read extends own marks totals h done e = record {
  width = ap length e ∙ length-map marks total_in ∙ h.noted.width;
  each = λ m lt. one m (let l = length-map marks total_in in let w = h.noted.width in let s = ap length e in omega arith);
}
  where
    one : (m : ℕ) → m < length extends → IsTotal extends own m (get_or totals m 0)
    one m lt =
        let d = done m lt in
        let at : get_or totals m 0 ≡ total_in (mark_at marks m) =
        ap (λ xs. get_or xs m 0) e ∙ get_or-map total_in marks m Unknown 0 (let w = h.noted.width in omega arith) in
        subst (IsTotal extends own m) (sym (at ∙ ap total_in d.1)) (h.right.right m d.0 d.1)

-- the notes that were lent, as they come back
pub come_back : (n : ℕ) (new old : List Mark) → length new ≡ n → take n (new ++ drop (length new) old) ≡ new
come_back n new old e = take_at new (drop (length new) old) n e
