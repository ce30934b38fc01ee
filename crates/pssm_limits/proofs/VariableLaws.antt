-- The variables that a class of the draft knows are those elements that belong to it.
use Rattle.std.proofs.Common.{◌≡◌, ◌<◌, ◌+◌, ◌||◌, ◌&&◌, ◌==◌, ℕ, zero, suc, Bool, true, false, cond, List, [], ◌∷◌, length, filter, Option, Some, None, refl, sym, ap, subst, ◌∙◌, ⊎_elim, arith, Contains}
use Rattle.std.specs.Prelude.{slice_get, slice_index_or, unwrap_or, option_map, codes}
use Rattle.std.specs.List.{range_with_len}
use Rattle.std.specs.Option.{option_map_or}
use Rattle.std.proofs.lemmas.Bool.{and_parts, cases_lt}
use Rattle.std.proofs.lemmas.Option.{slice_get-map, slice_get_within, slice_get_past, slice_get-get_or, get_or_from_slice_get}
use Rattle.pssm_model.specs.declared.draft_setting.DraftVar.{DraftVar}
use Rattle.pssm_model.specs.declared.draft_setting.DraftClass.{DraftClass}
use Rattle.pssm_model.specs.DraftSettings.{ExtendsFar, KnowsVariable}
use Rattle.pssm_model.specs.DraftSettings.KnowsVariable.{own, inherited}
use Rattle.pssm_roles.specs.declared.role.Role.TheVariants as role
use Rattle.pssm_roles.specs.Roles.{AreRolesOf}
use Rattle.pssm_totals.specs.Totals.{extended, extends_of}
use Rattle.pssm_totals.proofs.ListLaws.{nothing_in, first_or_behind, is_first, is_behind}
use Rattle.pssm_profile.specs.Counts.{references_count}
use Rattle.pssm_numbering.specs.Numbering.{ModelFile, role_at, parent_of, numbers, is_number, is_class, is_attribute, classes, with_role, children_with}
use Rattle.pssm_numbering.specs.Meanings.{is_variable, variables, can_name_variable, has_plain_type, has_plain_default}
use Rattle.pssm_numbering.proofs.ListLaws.{by_test}
use Rattle.pssm_drafting.specs.Drafts.{draft_of, class_at, variable_at}
use Rattle.pssm_limits.specs.inner.Ways.{AreReached}
use Rattle.pssm_limits.specs.inner.Variables.{name_of, machine_at, first_variables, is_in_marked, belongs}
use Rattle.pssm_limits.proofs.WayLaws.{far_is_reached, reached_is_far}

module _ {X : Type 0} where
  pub at_place : (xs : List X) (x : X) → Contains xs x → (k : ℕ) × (slice_get xs k ≡ Some x)
  at_place xs x (k, lt, e) = (k, slice_get-get_or xs k x lt ∙ ap (λ y. Some y) e)

  pub of_place : (xs : List X) (k : ℕ) (x : X) → slice_get xs k ≡ Some x → Contains xs x
  of_place xs k x at = (k, slice_get_within xs k x at, get_or_from_slice_get xs k x x at)

  pub filter_in : (q : X → Bool) (xs : List X) (x : X) → Contains xs x → q x ≡ true → Contains (filter q xs) x
  filter_in q [] x h here = absurd (nothing_in x h)
  filter_in q (y ∷ xs) x h here =
      by_test (q y)
      (λ taken. subst (λ (b : Bool). Contains (cond b (y ∷ filter q xs) (filter q xs)) x) (sym taken)
      (⊎_elim
      (λ same. subst (Contains (y ∷ filter q xs)) (sym same) (is_first y (filter q xs)))
      (λ behind. is_behind y (filter q xs) x (filter_in q xs x behind here))
      (first_or_behind y xs x h)))
      (λ passed. subst (λ (b : Bool). Contains (cond b (y ∷ filter q xs) (filter q xs)) x) (sym passed)
      (⊎_elim
      (λ same. let no : q x ≡ false = ap q same ∙ passed in absurd (cc))
      (λ behind. filter_in q xs x behind here)
      (first_or_behind y xs x h)))

  pub filter_of : (q : X → Bool) (xs : List X) (x : X) → Contains (filter q xs) x → Contains xs x × (q x ≡ true)
  filter_of q [] x h = absurd (nothing_in x h)
  filter_of q (y ∷ xs) x h =
      by_test (q y)
      (λ taken. ⊎_elim
      (λ same. (subst (Contains (y ∷ xs)) (sym same) (is_first y xs), ap q same ∙ taken))
      (λ behind. let more = filter_of q xs x behind in (is_behind y xs x more.0, more.1))
      (first_or_behind y (filter q xs) x (subst (λ (b : Bool). Contains (cond b (y ∷ filter q xs) (filter q xs)) x) taken h)))
      (λ passed. let more = filter_of q xs x (subst (λ (b : Bool). Contains (cond b (y ∷ filter q xs) (filter q xs)) x) passed h) in (is_behind y xs x more.0, more.1))

in_numbers : (a n k : ℕ) → k < n → Contains (range_with_len a n) (a + k)
in_numbers a zero k lt = absurd (omega arith)
in_numbers a (suc n) zero lt = subst (Contains (a ∷ range_with_len (a + 1) n)) (let e : a ≡ a + 0 = omega arith in e) (is_first a (range_with_len (a + 1) n))
in_numbers a (suc n) (suc k) lt =
    subst (Contains (a ∷ range_with_len (a + 1) n)) (let e : a + 1 + k ≡ a + suc k = omega arith in e) (is_behind a (range_with_len (a + 1) n) (a + 1 + k) (in_numbers (a + 1) n k (omega arith)))

is_same : (p c : ℕ) → (p == c) ≡ true → p ≡ c
is_same p c e = grind (arith, e)

module _ (file : ModelFile) where
  -- a variable is an attribute
  attribute_of : (n : ℕ) → is_variable file n ≡ true → is_attribute (role_at file n) ≡ true
  attribute_of n so =
      let four = and_parts (is && name && (count == 0) && type) (has_plain_default file n) so in
      let three = and_parts (is && name && (count == 0)) type four.0 in
      let two = and_parts (is && name) (count == 0) three.0 in
      (and_parts is name two.0).0
    where
      is : Bool
      is = is_attribute (role_at file n)

      name : Bool
      name = can_name_variable (name_of file n)

      count : ℕ
      count = references_count file.doc n (codes "association")

      type : Bool
      type = has_plain_type file n

  -- the variables of a class are those that stand in it
  variable_in : (c n : ℕ) → Contains (numbers file) n → is_variable file n ≡ true → parent_of file n ≡ Some c → Contains (variables file c) n
  variable_in c n there is in_class =
      let number : is_number c (parent_of file n) ≡ true = ap (is_number c) in_class ∙ (let e : (c == c) ≡ true = grind arith in e) in
      filter_in (is_variable file) (children_with is_attribute file c) n
      (filter_in (λ m. is_number c (parent_of file m)) (with_role is_attribute file) n
      (filter_in (λ m. is_attribute (role_at file m)) (numbers file) n there (attribute_of n is))
      number)
      is

  variable_of : (c n : ℕ) → Contains (variables file c) n → Contains (numbers file) n × (is_variable file n ≡ true) × (is_number c (parent_of file n) ≡ true)
  variable_of c n h =
      let one = filter_of (is_variable file) (children_with is_attribute file c) n h in
      let two = filter_of (λ m. is_number c (parent_of file m)) (with_role is_attribute file) n one.0 in
      let three = filter_of (λ m. is_attribute (role_at file m)) (numbers file) n two.0 in
      (three.0, one.1, two.1)

  class_in : AreRolesOf file.doc file.roles → (p : ℕ) → is_class (role_at file p) ≡ true → Contains (classes file) p
  class_in roles p is =
      ⊎_elim
      (λ lt. let counted = roles.counted in
      filter_in (λ m. is_class (role_at file m)) (numbers file) p
      (subst (Contains (numbers file)) (let e : 0 + p ≡ p = omega arith in e) (in_numbers 0 (length file.doc) p (omega arith))) is)
      (λ ge. let none : role_at file p ≡ role.Passed = ap (λ o. unwrap_or o role.Passed) (slice_get_past file.roles p ge) in
      let no : is_class (role_at file p) ≡ false = ap is_class none in absurd (cc))
      (cases_lt p (length file.roles))

  module _ (c : ℕ) (marks : List Bool) (reached : AreReached (extends_of (draft_of file)) (extended (extends_of (draft_of file)) (machine_at file c)) marks) where
    -- what belongs to a class is known there
    pub known_name : AreRolesOf file.doc file.roles → (n : ℕ) → Contains (first_variables file (length file.doc)) n → belongs file marks c n ≡ true
        → KnowsVariable (draft_of file) (class_at file c) (name_of file n)
    known_name roles n there is = let variable = filter_of (is_variable file) (numbers file) n there in by_parent variable.0 variable.1 (parent_of file n) refl is
      where
        vars_at : (k p : ℕ) → slice_get (variables file p) k ≡ Some n → slice_get (class_at file p).vars k ≡ Some (variable_at file n)
        vars_at k p at = slice_get-map (variable_at file) (variables file p) k ∙ ap (option_map (variable_at file)) at

        by_class : Contains (numbers file) n → is_variable file n ≡ true → (p : ℕ) → parent_of file n ≡ Some p → is_in_marked file marks p ≡ true
            → KnowsVariable (draft_of file) (class_at file c) (name_of file n)
        by_class number variable p in_class is =
            let parts = and_parts (is_class (role_at file p)) (slice_index_or marks (machine_at file p) false) is in
            let place = at_place (classes file) p (class_in roles p parts.0) in
            let var = at_place (variables file p) n (variable_in p n number variable in_class) in
            inherited (class_at file p) (variable_at file n) place.0 var.0
            (slice_get-map (class_at file) (classes file) place.0 ∙ ap (option_map (class_at file)) place.1)
            (reached_is_far (draft_of file) (machine_at file c) (reached.marked (machine_at file p) parts.1))
            (vars_at var.0 p var.1)
            refl

        by_parent : Contains (numbers file) n → is_variable file n ≡ true → (o : Option ℕ) → parent_of file n ≡ o
            → option_map_or (λ p. p == c || is_in_marked file marks p) o false ≡ true → KnowsVariable (draft_of file) (class_at file c) (name_of file n)
        by_parent number variable None in_class is = absurd cc
        by_parent number variable (Some p) in_class is =
            by_test (p == c)
            (λ same. let here : parent_of file n ≡ Some c = in_class ∙ ap (λ k. Some k) (is_same p c same) in
            let var = at_place (variables file c) n (variable_in c n number variable here) in
            own (variable_at file n) var.0 (vars_at var.0 c var.1) refl)
            (λ other. by_class number variable p in_class (sym (ap (λ (b : Bool). b || is_in_marked file marks p) other) ∙ is))

    -- a variable that belongs to the class has this name
    abbrev pub Belongs : List ℕ → Type 0
    Belongs x = (n : ℕ) × Contains (first_variables file (length file.doc)) n × (belongs file marks c n ≡ true) × (name_of file n ≡ x)

    of_class : (p n : ℕ) → Contains (variables file p) n → (p == c || is_in_marked file marks p) ≡ true → Belongs (name_of file n)
    of_class p n h is =
        let variable = variable_of p n h in
        (n, filter_in (is_variable file) (numbers file) n variable.0 variable.1, by_parent (parent_of file n) variable.2, refl)
      where
        by_parent : (o : Option ℕ) → is_number p o ≡ true → option_map_or (λ q. q == c || is_in_marked file marks q) o false ≡ true
        by_parent None number = absurd cc
        by_parent (Some q) number = ap (λ k. k == c || is_in_marked file marks k) (is_same q p number) ∙ is

    of_var : (p : ℕ) (var : DraftVar) (place : ℕ) (x : List ℕ) → slice_get (class_at file p).vars place ≡ Some var → var.name ≡ x
        → (p == c || is_in_marked file marks p) ≡ true → Belongs x
    of_var p var place x at named is =
        by_found (slice_get (variables file p) place) refl (sym (slice_get-map (variable_at file) (variables file p) place) ∙ at)
      where
        by_found : (o : Option ℕ) → slice_get (variables file p) place ≡ o → option_map (variable_at file) o ≡ Some var → Belongs x
        by_found None found e = absurd cc
        by_found (Some n) found e =
            let same : variable_at file n ≡ var = cc in
            subst Belongs (ap (λ (v : DraftVar). v.name) same ∙ named) (of_class p n (of_place (variables file p) place n found) is)

    -- what is known in a class belongs to it
    pub known_element : (x : List ℕ) → KnowsVariable (draft_of file) (class_at file c) x → Belongs x
    known_element x (own var place at named) = of_var c var place x at named (ap (λ (b : Bool). b || is_in_marked file marks c) (let e : (c == c) ≡ true = grind arith in e))
    known_element x (inherited other var number place class far at named) =
        by_found (slice_get (classes file) number) refl (sym (slice_get-map (class_at file) (classes file) number) ∙ class)
      where
        by_found : (o : Option ℕ) → slice_get (classes file) number ≡ o → option_map (class_at file) o ≡ Some other → Belongs x
        by_found None found e = absurd cc
        by_found (Some p) found e =
            let same : other ≡ class_at file p = cc in
            let is = filter_of (λ m. is_class (role_at file m)) (numbers file) p (of_place (classes file) number p found) in
            let mark = reached.all (machine_at file p)
            (far_is_reached (draft_of file) (machine_at file c) (subst (λ (k : DraftClass). ExtendsFar (draft_of file) (machine_at file c) k.machine) same far)) in
            of_var p var place x (subst (λ (k : DraftClass). slice_get k.vars place ≡ Some var) same at) named
            (by_test (p == c)
            (λ here. ap (λ (b : Bool). b || is_in_marked file marks p) here)
            (λ there. ap (λ (b : Bool). b || is_in_marked file marks p) there ∙ (let one = is.1 in cc)))
