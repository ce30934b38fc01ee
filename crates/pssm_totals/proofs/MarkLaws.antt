-- Notes: on a way, at a machine of a path, and at the end.
use Rattle.std.proofs.Common.{◌≡◌, ◌≢◌, ◌⊎◌, ◌<◌, ◌+◌, ℕ, List, [], ◌∷◌, ◌++◌, length, set, min, Option, Some, None, IfSome, refl, sym, ap, subst, ◌∙◌, inl, inr, ⊎_elim, arith, Contains, sum_by}
use Rattle.std.specs.Option.{option_map_or}
use Rattle.std.proofs.lemmas.Bool.{cases_lt, cases_eq}
use Rattle.std.proofs.lemmas.List.{get_or_past, get_or-set_same, get_or-set_other}
use Rattle.std.proofs.lemmas.List.Elements.{Contains-append_left, Contains-append_right}
use Rattle.std.proofs.lemmas.List.Sums.{sum_by-set}
use Rattle.std.proofs.Math.ListN.{length-set}
use Rattle.pssm_totals.specs.declared.marks.Mark.{Mark}
use Rattle.pssm_totals.specs.declared.marks.Mark.TheVariants.{Unknown, Passed, Total}
use Rattle.pssm_totals.specs.Totals.{extended, ExtendWithin, Reaches, IsTotal, count_at}
use Rattle.pssm_totals.specs.Totals.Reaches.{itself, further}
use Rattle.pssm_totals.specs.inner.Ways.{mark_at, total_in, one_if_unknown, IsDone, AreMarks, AreRight, KeepsTotals, IsWalking, HasWalked, IsSettling, AreOpenOrDone}
use Rattle.pssm_totals.proofs.ListLaws.{AreApart, is_one, is_first, in_more, apart_by_pairs, pairs_by_apart, apart_more, apart_front, apart_both}
use Rattle.pssm_totals.proofs.ReachLaws.{base_below}
use Rattle.pssm_totals.proofs.TotalLaws.{way_front, way_back, way_more, total_ends, total_goes_on}

-- something is noted only of machines that there are
pub known_below : (marks : List Mark) (m : ℕ) → (mark_at marks m ≡ Unknown → ⊥) → m < length marks
known_below marks m known = ⊎_elim (λ lt. lt) (λ ge. absurd (known (get_or_past marks m Unknown ge))) (cases_lt m (length marks))

passed_below : (marks : List Mark) (m : ℕ) → mark_at marks m ≡ Passed → m < length marks
passed_below marks m e = known_below marks m (λ u. cc)

-- a machine whose note is no total keeps those of the others
pub keeps_others : (marks : List Mark) (at x total : ℕ) (mark : Mark) → (IsDone marks at → ⊥) → mark_at marks x ≡ Total total
    → mark_at (set marks at mark) x ≡ Total total
keeps_others marks at x total mark open_at e =
    get_or-set_other marks at x mark Unknown (λ same. open_at (total, subst (λ k. mark_at marks k ≡ Total total) same e)) ∙ e

-- what was noted is new, or was noted before
pub new_or_old : (marks : List Mark) (at x : ℕ) (mark : Mark) → at < length marks
    → ((x ≡ at) × (mark_at (set marks at mark) x ≡ mark)) ⊎ ((x ≡ at → ⊥) × (mark_at (set marks at mark) x ≡ mark_at marks x))
new_or_old marks at x mark lt =
    ⊎_elim
    (λ same. inl (same, subst (λ k. mark_at (set marks at mark) k ≡ mark) (sym same) (get_or-set_same marks at mark Unknown lt)))
    (λ other. inr (other, get_or-set_other marks at x mark Unknown other))
    (cases_eq x at)

pub done_reach : {extends : List (Option ℕ)} {marks : List Mark} {path : List ℕ} {y x : ℕ} → AreMarks extends marks path → IsDone marks y → Reaches extends y x
    → IsDone marks x
done_reach h done itself = done
done_reach {x = x} h done (further o more e) = h.closed o x (done_reach h done more) e

-- ---- on a way

next_within : (extends : List (Option ℕ)) (at : ℕ) (next : Option ℕ) → ExtendWithin extends → extended extends at ≡ next → IfSome next (λ k. k < length extends)
next_within extends at None within e = tt
next_within extends at (Some base) within e = base_below extends at base within e

module _ {extends : List (Option ℕ)} {marks : List Mark} {path : List ℕ} where
  pub marks_pass : (at : ℕ) → AreMarks extends marks path → at < length marks → mark_at marks at ≡ Unknown
      → AreMarks extends (set marks at Passed) (path ++ at ∷ [])
  marks_pass at h lt none = record {
    width = length-set marks at Passed ∙ h.width;
    passed = λ x is. ⊎_elim
        (λ new. new.1)
        (λ old. old.1 ∙ ⊎_elim (λ on. h.passed x on) (λ same. absurd (old.0 same)) (in_more path at x is))
        (new_or_old marks at x Passed lt);
    on_path = λ x e. ⊎_elim
        (λ new. Contains-append_right path (at ∷ []) x (is_one at x new.0))
        (λ old. Contains-append_left path (at ∷ []) x (h.on_path x (sym old.1 ∙ e)))
        (new_or_old marks at x Passed lt);
    different = pairs_by_apart (path ++ at ∷ []) (apart_more path at (apart_by_pairs path h.different) (λ on. let p = h.passed at on in cc));
    closed = λ x base done e. ⊎_elim
        (λ new. let d = done.1 in let n = new.1 in absurd (cc))
        (λ old. let before = h.closed x base (done.0, sym old.1 ∙ done.1) e in
        (before.0, keeps_others marks at base before.0 Passed open_at before.1))
        (new_or_old marks at x Passed lt);
  }
    where
      open_at : IsDone marks at → ⊥
      open_at done = let d = done.1 in cc

pub walk_goes_on : (extends : List (Option ℕ)) (old marks : List Mark) (m at : ℕ) (path : List ℕ) → ExtendWithin extends
    → IsWalking extends old marks m path (Some at)
    → mark_at marks at ≡ Unknown → IsWalking extends old (set marks at Passed) m (path ++ at ∷ []) (extended extends at)
walk_goes_on extends old marks m at path within h none = record {
  noted = marks_pass at h.noted lt none;
  way = way_more extends path at (extended extends at) h.way refl;
  within = next_within extends at (extended extends at) within refl;
  start = ⊎_elim
      (λ on. inl (Contains-append_left path (at ∷ []) m on))
      (λ e. inl (Contains-append_right path (at ∷ []) m (is_one at m (cc))))
      h.start;
  kept = record { kept = λ x total e. keeps_others marks at x total Passed open_at (h.kept.kept x total e) };
  no_more = record {
    kept = λ x total e. ⊎_elim
        (λ new. let n = new.1 in absurd (cc))
        (λ before. h.no_more.kept x total (sym before.1 ∙ e))
        (new_or_old marks at x Passed lt);
  };
}
  where
    lt : at < length marks
    lt = let w = h.noted.width in let l : at < length extends = h.within in omega arith

    open_at : IsDone marks at → ⊥
    open_at done = let d = done.1 in cc

-- ---- at a machine of a path, from the last one back

pub right_here : (extends : List (Option ℕ)) (own : List ℕ) (marks : List Mark) (path : List ℕ) (m total : ℕ) (next : Option ℕ) → AreMarks extends marks path
    → AreRight extends own marks → mark_at marks m ≡ Passed → extended extends m ≡ next → IfSome next (IsDone marks)
    → total ≡ min 65536 (count_at own m + option_map_or (λ base. total_in (mark_at marks base)) next 0) → IsTotal extends own m total
right_here extends own marks path m total None h right passed is done e = total_ends m total is (omega arith)
right_here extends own marks path m total (Some base) h right passed is done e =
    total_goes_on m base total done.0 is (right.right base done.0 done.1)
    (λ back. let again = done_reach h done back in let a = again.1 in cc)
    (let there : total_in (mark_at marks base) ≡ done.0 = ap total_in done.1 in omega arith)

pub on_path_below : {extends : List (Option ℕ)} {marks : List Mark} {path : List ℕ} (m : ℕ) → AreMarks extends marks path → Contains path m → m < length extends
on_path_below {marks = marks} m h on = let lt = passed_below marks m (h.passed m on) in let w = h.width in omega arith

pub last_below : {extends : List (Option ℕ)} {own : List ℕ} {marks : List Mark} (path : List ℕ) (m : ℕ)
    → IsSettling extends own marks (path ++ m ∷ []) → m < length extends
last_below path m h = on_path_below m h.noted (Contains-append_right path (m ∷ []) m (is_first m []))

pub settle_more : (extends : List (Option ℕ)) (own : List ℕ) (marks : List Mark) (path : List ℕ) (m total : ℕ) → IsSettling extends own marks (path ++ m ∷ [])
    → total ≡ min 65536 (count_at own m + option_map_or (λ base. total_in (mark_at marks base)) (extended extends m) 0)
    → IsSettling extends own (set marks m (Total total)) path
settle_more extends own marks path m total h e = record {
  noted = record {
    width = length-set marks m (Total total) ∙ h.noted.width;
    passed = λ x on. ⊎_elim
        (λ new. absurd (apart_both path (m ∷ []) x apart on (is_one m x new.0)))
        (λ old. old.1 ∙ h.noted.passed x (Contains-append_left path (m ∷ []) x on))
        (new_or_old marks m x (Total total) lt);
    on_path = λ x p. ⊎_elim
        (λ new. let n = new.1 in absurd (cc))
        (λ old. ⊎_elim (λ on. on) (λ same. absurd (old.0 same)) (in_more path m x (h.noted.on_path x (sym old.1 ∙ p))))
        (new_or_old marks m x (Total total) lt);
    different = pairs_by_apart path (apart_front path (m ∷ []) apart);
    closed = λ x base done f. keep base (⊎_elim
        (λ new. above base (subst (λ k. extended extends k ≡ Some base) new.0 f))
        (λ old. h.noted.closed x base (done.0, sym old.1 ∙ done.1) f)
        (new_or_old marks m x (Total total) lt));
  };
  right = record {
    right = λ x t f. ⊎_elim
        (λ new. let n = new.1 in let same : total ≡ t = cc in subst (λ k. IsTotal extends own k t) (sym new.0) (subst (IsTotal extends own m) same here))
        (λ old. h.right.right x t (sym old.1 ∙ f))
        (new_or_old marks m x (Total total) lt);
  };
  leads = record {
    next = Some m;
    way = way_front extends path (m ∷ []) h.leads.next h.leads.way;
    done = (total, get_or-set_same marks m (Total total) Unknown lt);
  };
}
  where
    apart : AreApart (path ++ m ∷ [])
    apart = apart_by_pairs (path ++ m ∷ []) h.noted.different

    passed_here : mark_at marks m ≡ Passed
    passed_here = h.noted.passed m (Contains-append_right path (m ∷ []) m (is_first m []))

    open_here : IsDone marks m → ⊥
    open_here done = let p = passed_here in let d = done.1 in cc

    lt : m < length marks
    lt = passed_below marks m passed_here

    is_next : extended extends m ≡ h.leads.next
    is_next = (way_back extends path (m ∷ []) h.leads.next h.leads.way).0

    above : (base : ℕ) → extended extends m ≡ Some base → IsDone marks base
    above base f = subst (λ o. IfSome o (IsDone marks)) (sym is_next ∙ f) h.leads.done

    keep : (x : ℕ) → IsDone marks x → IsDone (set marks m (Total total)) x
    keep x done = (done.0, keeps_others marks m x done.0 (Total total) open_here done.1)

    here : IsTotal extends own m total
    here = right_here extends own marks (path ++ m ∷ []) m total (extended extends m) h.noted h.right passed_here refl (subst (λ o. IfSome o (IsDone marks)) (sym is_next) h.leads.done) e

pub settle_keeps : (extends : List (Option ℕ)) (own : List ℕ) (old marks : List Mark) (path : List ℕ) (m total : ℕ)
    → IsSettling extends own marks (path ++ m ∷ [])
    → KeepsTotals old marks → KeepsTotals old (set marks m (Total total))
settle_keeps extends own old marks path m total h k = record {
  kept = λ x t e. keeps_others marks m x t (Total total) open_here (k.kept x t e);
}
  where
    passed_here : mark_at marks m ≡ Passed
    passed_here = h.noted.passed m (Contains-append_right path (m ∷ []) m (is_first m []))

    open_here : IsDone marks m → ⊥
    open_here done = let p = passed_here in let d = done.1 in cc

pub settle_done : (extends : List (Option ℕ)) (own : List ℕ) (marks : List Mark) (path whole : List ℕ) (m total : ℕ)
    → IsSettling extends own marks (path ++ m ∷ [])
    → AreOpenOrDone marks whole (path ++ m ∷ []) → AreOpenOrDone (set marks m (Total total)) whole path
settle_done extends own marks path whole m total h k = record {
  either = λ x on. ⊎_elim
      (λ still. ⊎_elim
      (λ before. inl before)
      (λ same. inr (total, subst (λ j. mark_at (set marks m (Total total)) j ≡ Total total) (sym same) (get_or-set_same marks m (Total total) Unknown (passed_below marks m passed_here))))
      (in_more path m x still))
      (λ done. inr (done.0, keeps_others marks m x done.0 (Total total) open_here done.1))
      (k.either x on);
}
  where
    passed_here : mark_at marks m ≡ Passed
    passed_here = h.noted.passed m (Contains-append_right path (m ∷ []) m (is_first m []))

    open_here : IsDone marks m → ⊥
    open_here done = let p = passed_here in let d = done.1 in cc
