-- The entries of lines: there is one for each, and they split as the lines do.
use Rattle.std.proofs.Common.{◌≡◌, List, [], ◌∷◌, ◌++◌, refl, sym, ap, ◌∙◌}
use Rattle.std.proofs.lemmas.Option.{same_Some}
use Rattle.pssm_semantics.specs.declared.entry.Entry.{Entry}
use Rattle.pssm_semantics.specs.declared.line.Line.{Line}
use Rattle.pssm_semantics.specs.declared.setting.Setting.{Setting}
use Rattle.pssm_journal.specs.Entries.{IsEntryOf, AreEntries}

pub one_entry : (setting : Setting) (l : Line) (d e : Entry) → IsEntryOf setting l d → IsEntryOf setting l e → d ≡ e
one_entry setting l d e p q = same_Some d e (sym p ∙ q)

pub same_entries : (setting : Setting) (ls : List Line) (J K : List Entry) → AreEntries setting ls J → AreEntries setting ls K → J ≡ K
same_entries setting [] [] [] p q = refl
same_entries setting [] [] (k ∷ K) p q = absurd q
same_entries setting [] (j ∷ J) K p q = absurd p
same_entries setting (l ∷ ls) [] K p q = absurd p
same_entries setting (l ∷ ls) (j ∷ J) [] p q = absurd q
same_entries setting (l ∷ ls) (j ∷ J) (k ∷ K) p q =
    let head : j ≡ k = one_entry setting l j k p.0 q.0 in
    let tail : J ≡ K = same_entries setting ls J K p.1 q.1 in
    cc

-- the entries of two parts
pub record AreParts (setting : Setting) (ls ms : List Line) (J : List Entry) : Type 0 where
  pub front : List Entry
  pub back : List Entry
  pub whole : J ≡ front ++ back
  pub fronts : AreEntries setting ls front
  pub backs : AreEntries setting ms back

pub parts_of : (setting : Setting) (ls ms : List Line) (J : List Entry) → AreEntries setting (ls ++ ms) J → AreParts setting ls ms J
parts_of setting [] ms J p = record { front = []; back = J; whole = refl; fronts = tt; backs = p }
parts_of setting (l ∷ ls) ms [] p = absurd p
parts_of setting (l ∷ ls) ms (j ∷ J) p =
    let rest = parts_of setting ls ms J p.1 in
    record { front = j ∷ rest.front; back = rest.back; whole = ap (λ (t : List Entry). j ∷ t) rest.whole; fronts = (p.0, rest.fronts); backs = rest.backs }

-- the entry of a line between two parts, and the entries around it
pub record IsEntryBetween (setting : Setting) (J K : List Entry) (line : Line) : Type 0 where
  pub entry : Entry
  pub after : List Entry
  pub writes : IsEntryOf setting line entry
  pub whole : K ≡ J ++ entry ∷ after

pub entry_between : (setting : Setting) (ls more : List Line) (line : Line) (J K : List Entry) → AreEntries setting ls J → AreEntries setting (ls ++ line ∷ more) K → IsEntryBetween setting J K line
entry_between setting ls more line J K p q = at_back (parts_of setting ls (line ∷ more) K q) where
  at_back : AreParts setting ls (line ∷ more) K → IsEntryBetween setting J K line
  at_back parts = by_back parts.back refl parts.backs where
    by_back : (back : List Entry) → parts.back ≡ back → AreEntries setting (line ∷ more) back → IsEntryBetween setting J K line
    by_back [] e backs = absurd backs
    by_back (k ∷ back) e backs =
        let front_is : parts.front ≡ J = same_entries setting ls parts.front J parts.fronts p in
        let whole : K ≡ J ++ k ∷ back = parts.whole ∙ ap (λ (t : List Entry). t ++ parts.back) front_is ∙ ap (λ (t : List Entry). J ++ t) e in
        record { entry = k; after = back; writes = backs.0; whole = whole }
