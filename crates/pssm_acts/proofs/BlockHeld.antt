-- What is read as statements and blocks is spelled so.
use Rattle.std.proofs.Common.{◌≡◌, ◌+◌, ◌-◌, ◌<◌, ℕ, suc, List, [], ◌∷◌, ◌++◌, length, Option, Some, None, refl, sym, ap, ◌∙◌, subst, append_assoc, arith}
use Rattle.std.proofs.lemmas.List.{append-nil}
use Rattle.pssm_acts.specs.declared.read_blocks.OpenIf.{OpenIf}
use Rattle.pssm_semantics.specs.declared.setting.Names.{Names}
use Rattle.pssm_acts.specs.declared.token.Kind.TheVariants as kinds
use Rattle.pssm_semantics.specs.declared.tree.Cond.{Cond}
use Rattle.pssm_semantics.specs.declared.tree.Stmt.{Stmt}
use Rattle.pssm_semantics.specs.declared.tree.Stmt.TheViews as stmts
use Rattle.pssm_acts.specs.ActGrammar.{SpellsPhrase, SpellsStmts, nothing, phrase, choice, alternative}
use Rattle.pssm_acts.specs.Grammar.{Either, SpellsGuard}
use Rattle.pssm_acts.specs.Tokens.{Token}

-- `if c {`
pub record HeadHeld (names : Names) (l : ℕ) (c : Cond) (ts : List Token) : Type 0 where
  pub if' : Token
  pub opening : Token
  pub cs : List Token
  pub is : if'.kind ≡ kinds.If
  pub spelled : SpellsGuard names Either (suc l) cs c
  pub opens : opening.kind ≡ kinds.OpenBrace
  pub whole : ts ≡ if' ∷ (cs ++ opening ∷ [])

-- `if c { .. }`
pub record ChosenHeld (names : Names) (noted : List (List ℕ)) (l : ℕ) (c : Cond) (body : List Stmt) (ts : List Token) (marks : List (List ℕ)) : Type 0 where
  pub front : List Token
  pub us : List Token
  pub closing : Token
  pub head : HeadHeld names l c front
  pub spelled : SpellsStmts names noted l us body marks
  pub closes : closing.kind ≡ kinds.CloseBrace
  pub whole : ts ≡ front ++ (us ++ closing ∷ [])

-- `if c { .. } else`
pub record ElseHeld (names : Names) (noted : List (List ℕ)) (l : ℕ) (c : Cond) (body : List Stmt) (ts : List Token) (marks : List (List ℕ)) : Type 0 where
  pub front : List Token
  pub else' : Token
  pub chosen : ChosenHeld names noted l c body front marks
  pub is : else'.kind ≡ kinds.Else
  pub whole : ts ≡ front ++ else' ∷ []

-- `if c { .. } else {`
pub record AgainHeld (names : Names) (noted : List (List ℕ)) (l : ℕ) (c : Cond) (body : List Stmt) (ts : List Token) (marks : List (List ℕ)) : Type 0 where
  pub front : List Token
  pub opening : Token
  pub first : ElseHeld names noted l c body front marks
  pub opens : opening.kind ≡ kinds.OpenBrace
  pub whole : ts ≡ front ++ opening ∷ []

-- the tokens of an `if` up to the block that is open
abbrev pub IfHeld : Names → List (List ℕ) → ℕ → Cond → Option (List Stmt) → List Token → List (List ℕ) → Type 0
IfHeld names noted l c None ts marks = HeadHeld names l c ts × (marks ≡ noted)
IfHeld names noted l c (Some body) ts marks = AgainHeld names noted l c body ts marks

-- the tokens of a behaviour up to the innermost open block, and the marks there
abbrev pub OpenHeld : Names → List (List ℕ) → List OpenIf → ℕ → List Token → List (List ℕ) → Type 0
OpenHeld names first [] l ts marks = (l ≡ 16) × (ts ≡ []) × (marks ≡ first)
OpenHeld names first (open' ∷ outer) l ts marks =
    (front : List Token) × (start : List (List ℕ)) × (us : List Token) × (noted : List (List ℕ)) × (vs : List Token)
    × OpenHeld names first outer (suc l) front start × SpellsStmts names start (suc l) us open'.before noted
    × IfHeld names noted l open'.condition open'.body vs marks × (ts ≡ front ++ (us ++ vs))

-- each open block takes a level
depth_held : (names : Names) (first : List (List ℕ)) (outer : List OpenIf) (l : ℕ) (ts : List Token) (marks : List (List ℕ)) → OpenHeld names first outer l ts marks → length outer + l ≡ 16
depth_held names first [] l ts marks h = let e = h.0 in omega arith
depth_held names first (open' ∷ outer) l ts marks h = let e = depth_held names first outer (suc l) h.0 h.1 h.5 in omega arith

-- what the tokens of a behaviour spell of which whole statements have been read, and the marks behind them
pub record BlocksHeld (names : Names) (first : List (List ℕ)) (outer : List OpenIf) (block : List Stmt) (ts : List Token) (noted : List (List ℕ)) : Type 0 where
  pub l : ℕ
  pub front : List Token
  pub start : List (List ℕ)
  pub us : List Token
  pub outside : OpenHeld names first outer l front start
  pub here : SpellsStmts names start l us block noted
  pub whole : ts ≡ front ++ us

-- an `if` behind other statements
chosen_spelled : (names : Names) (start noted marks : List (List ℕ)) (l : ℕ) (ts us : List Token) (block body : List Stmt) (c : Cond) → SpellsStmts names start (suc l) ts block noted → ChosenHeld names noted l c body us marks
    → SpellsStmts names start (suc l) (ts ++ us) (block ++ stmts.Choose c body None ∷ []) marks
chosen_spelled names start noted marks l ts us block body c before h =
    let head = h.head in
    let tokens = head.if' ∷ (head.cs ++ head.opening ∷ (h.us ++ h.closing ∷ [])) in
    let spelled : SpellsStmts names start (suc l) (ts ++ tokens) (block ++ stmts.Choose c body None ∷ []) marks =
    choice head.if' head.opening h.closing before head.is head.spelled head.opens h.spelled h.closes in
    let same : us ≡ tokens = h.whole ∙ ap (λ x. x ++ (h.us ++ h.closing ∷ [])) head.whole ∙ ap (λ x. head.if' ∷ x) (append_assoc head.cs (head.opening ∷ []) (h.us ++ h.closing ∷ [])) in
    subst (λ x. SpellsStmts names start (suc l) (ts ++ x) (block ++ stmts.Choose c body None ∷ []) marks) (sym same) spelled

otherwise_spelled : (names : Names) (start noted marks last : List (List ℕ)) (l : ℕ) (ts us vs : List Token) (block body rest : List Stmt) (c : Cond) (closing : Token) → SpellsStmts names start (suc l) ts block noted
    → AgainHeld names noted l c body us marks → SpellsStmts names marks l vs rest last → closing.kind ≡ kinds.CloseBrace
    → SpellsStmts names start (suc l) (ts ++ (us ++ (vs ++ closing ∷ []))) (block ++ stmts.Choose c body (Some rest) ∷ []) last
otherwise_spelled names start noted marks last l ts us vs block body rest c closing before h inner closes =
    let e = h.first in
    let chosen = e.chosen in
    let head = chosen.head in
    let tail = vs ++ closing ∷ [] in
    let tokens = head.if' ∷ (head.cs ++ head.opening ∷ (chosen.us ++ chosen.closing ∷ e.else' ∷ h.opening ∷ tail)) in
    let spelled : SpellsStmts names start (suc l) (ts ++ tokens) (block ++ stmts.Choose c body (Some rest) ∷ []) last =
    alternative head.if' head.opening chosen.closing e.else' h.opening closing before head.is head.spelled head.opens chosen.spelled chosen.closes e.is h.opens inner closes in
    let whole : us ≡ (((head.if' ∷ (head.cs ++ head.opening ∷ [])) ++ (chosen.us ++ chosen.closing ∷ [])) ++ e.else' ∷ []) ++ h.opening ∷ [] =
    h.whole ∙ ap (λ x. x ++ h.opening ∷ []) (e.whole ∙ ap (λ x. x ++ e.else' ∷ []) (chosen.whole ∙ ap (λ x. x ++ (chosen.us ++ chosen.closing ∷ [])) head.whole)) in
    let same : us ++ tail ≡ tokens = ap (λ x. x ++ tail) whole ∙ simp append_assoc in
    subst (λ x. SpellsStmts names start (suc l) (ts ++ x) (block ++ stmts.Choose c body (Some rest) ∷ []) last) (sym same) spelled

module _ (names : Names) (first : List (List ℕ)) (outer : List OpenIf) where
  -- a statement more
  pub phrase_added : (block : List Stmt) (ts us : List Token) (noted marks : List (List ℕ)) (s : Stmt) → BlocksHeld names first outer block ts noted → SpellsPhrase names noted (16 - length outer) us s marks
      → BlocksHeld names first outer (block ++ s ∷ []) (ts ++ us) marks
  phrase_added block ts us noted marks s h spelled =
      let deep : 16 - length outer ≡ h.l = omega (arith, depth_held names first outer h.l h.front h.start h.outside) in
      record {
        l = h.l;
        front = h.front;
        start = h.start;
        us = h.us ++ us;
        outside = h.outside;
        here = phrase h.here (subst (λ x. SpellsPhrase names noted x us s marks) deep spelled);
        whole = ap (λ x. x ++ us) h.whole ∙ append_assoc h.front h.us us;
      }

  -- an `if` without `else`
  pub chosen_added : (block body : List Stmt) (ts us : List Token) (noted marks : List (List ℕ)) (c : Cond) → BlocksHeld names first outer block ts noted → length outer < 16
      → ChosenHeld names noted (15 - length outer) c body us marks → BlocksHeld names first outer (block ++ stmts.Choose c body None ∷ []) (ts ++ us) marks
  chosen_added block body ts us noted marks c h within chosen =
      let deep : h.l ≡ suc (15 - length outer) = omega (arith, depth_held names first outer h.l h.front h.start h.outside) in
      record {
        l = suc (15 - length outer);
        front = h.front;
        start = h.start;
        us = h.us ++ us;
        outside = subst (λ x. OpenHeld names first outer x h.front h.start) deep h.outside;
        here = chosen_spelled names h.start noted marks (15 - length outer) h.us us block body c (subst (λ x. SpellsStmts names h.start x h.us block noted) deep h.here) chosen;
        whole = ap (λ x. x ++ us) h.whole ∙ append_assoc h.front h.us us;
      }

  -- a brace opens a block
  pub opened_held : (block : List Stmt) (body : Option (List Stmt)) (ts us : List Token) (noted marks : List (List ℕ)) (c : Cond) → BlocksHeld names first outer block ts noted → length outer < 16
      → IfHeld names noted (15 - length outer) c body us marks → BlocksHeld names first (record { before = block; condition = c; body = body } ∷ outer) [] (ts ++ us) marks
  opened_held block body ts us noted marks c h within if' =
      let deep : h.l ≡ suc (15 - length outer) = omega (arith, depth_held names first outer h.l h.front h.start h.outside) in
      record {
        l = 15 - length outer;
        front = h.front ++ (h.us ++ us);
        start = marks;
        us = [];
        outside = (h.front, h.start, h.us, noted, us, subst (λ x. OpenHeld names first outer x h.front h.start) deep h.outside, subst (λ x. SpellsStmts names h.start x h.us block noted) deep h.here, if', refl);
        here = nothing;
        whole = ap (λ x. x ++ us) h.whole ∙ append_assoc h.front h.us us ∙ sym (append-nil (h.front ++ (h.us ++ us)));
      }

-- what is left where a brace has closed the first block of an `if`
pub record ClosedHeld (names : Names) (first : List (List ℕ)) (outer : List OpenIf) (before block : List Stmt) (c : Cond) (ts : List Token) (marks : List (List ℕ)) : Type 0 where
  pub front : List Token
  pub us : List Token
  pub noted : List (List ℕ)
  pub blocks : BlocksHeld names first outer before front noted
  pub within : length outer < 16
  pub chosen : ChosenHeld names noted (15 - length outer) c block us marks
  pub whole : ts ≡ front ++ us

module _ (names : Names) (first : List (List ℕ)) (outer : List OpenIf) (before : List Stmt) (c : Cond) where
  pub first_closed : (block : List Stmt) (ts : List Token) (t : Token) (marks : List (List ℕ)) → BlocksHeld names first (record { before = before; condition = c; body = None } ∷ outer) block ts marks → t.kind ≡ kinds.CloseBrace
      → ClosedHeld names first outer before block c (ts ++ t ∷ []) marks
  first_closed block ts t marks h closes =
      let o = h.outside in
      let deep : h.l ≡ 15 - length outer = omega (arith, depth_held names first outer (suc h.l) o.0 o.1 o.5) in
      let within : length outer < 16 = omega (arith, depth_held names first outer (suc h.l) o.0 o.1 o.5) in
      let if' = o.7 in
      let inner = subst (λ x. SpellsStmts names x h.l h.us block marks) if'.1 h.here in
      let chosen : ChosenHeld names o.3 h.l c block (o.4 ++ (h.us ++ t ∷ [])) marks = record { front = o.4; us = h.us; closing = t; head = if'.0; spelled = inner; closes = closes; whole = refl } in
      record {
        front = o.0 ++ o.2;
        us = o.4 ++ (h.us ++ t ∷ []);
        noted = o.3;
        blocks = record { l = suc h.l; front = o.0; start = o.1; us = o.2; outside = o.5; here = o.6; whole = refl };
        within = within;
        chosen = subst (λ x. ChosenHeld names o.3 x c block (o.4 ++ (h.us ++ t ∷ [])) marks) deep chosen;
        whole = ap (λ x. x ++ t ∷ []) (h.whole ∙ ap (λ x. x ++ h.us) o.8) ∙ simp append_assoc;
      }

  pub second_closed : (body block : List Stmt) (ts : List Token) (t : Token) (marks : List (List ℕ)) → BlocksHeld names first (record { before = before; condition = c; body = Some body } ∷ outer) block ts marks
      → t.kind ≡ kinds.CloseBrace → BlocksHeld names first outer (before ++ stmts.Choose c body (Some block) ∷ []) (ts ++ t ∷ []) marks
  second_closed body block ts t marks h closes =
      let o = h.outside in
      record {
        l = suc h.l;
        front = o.0;
        start = o.1;
        us = o.2 ++ (o.4 ++ (h.us ++ t ∷ []));
        outside = o.5;
        here = otherwise_spelled names o.1 o.3 h.start marks h.l o.2 o.4 h.us before body block c t o.6 o.7 h.here closes;
        whole = ap (λ x. x ++ t ∷ []) (h.whole ∙ ap (λ x. x ++ h.us) o.8) ∙ simp append_assoc;
      }

-- the whole behaviour
pub blocks_whole : (names : Names) (first : List (List ℕ)) (block : List Stmt) (ts : List Token) (noted : List (List ℕ)) → BlocksHeld names first [] block ts noted → SpellsStmts names first 16 ts block noted
blocks_whole names first block ts noted h =
    let o = h.outside in
    let tokens : ts ≡ h.us = h.whole ∙ ap (λ x. x ++ h.us) o.1 in
    let deep = subst (λ x. SpellsStmts names h.start x h.us block noted) o.0 h.here in
    let named = subst (λ x. SpellsStmts names x 16 h.us block noted) o.2 deep in
    subst (λ x. SpellsStmts names first 16 x block noted) (sym tokens) named

pub blocks_start : (names : Names) (first : List (List ℕ)) → BlocksHeld names first [] [] [] first
blocks_start names first = record { l = 16; front = []; start = first; us = []; outside = (refl, refl, refl); here = nothing; whole = refl }
