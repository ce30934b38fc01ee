-- The signs in a text that is written, with the spaces around them.
use Rattle.std.proofs.Common.{◌-◌, ℕ, Bool, true, false, List, ◌++◌, length, refl, codes}
use Rattle.pssm_acts.specs.declared.token.Kind.TheVariants as kinds
use Rattle.pssm_semantics.specs.declared.tree.Rel.{Rel}
use Rattle.pssm_semantics.specs.declared.tree.Rel.TheVariants.{Eq, Ne, Lt, Le, Gt, Ge}
use Rattle.pssm_acts.specs.ActText.{rel_text}
use Rattle.pssm_acts.specs.Tokens.{number_len, sign_front, front, cut}
use Rattle.pssm_acts.proofs.FrontLaws.{Begins}

-- a relation without the spaces around it
abbrev pub sign_of : Rel → List ℕ
sign_of Eq = codes "=="
sign_of Ne = codes "!="
sign_of Lt = codes "<"
sign_of Le = codes "<="
sign_of Gt = codes ">"
sign_of Ge = codes ">="

module _ (end : ℕ) (rest : List ℕ) where
  -- signs in expressions
  pub plus_begins : Begins end true (codes " + " ++ rest) kinds.Plus (codes "+") false rest
  unfolding cut front number_len sign_front
  plus_begins = record { token = record { at = end - length (codes "+ " ++ rest); kind = kinds.Plus; word = codes "+" }; is = refl; worded = refl; same = refl }

  pub minus_begins : Begins end true (codes " - " ++ rest) kinds.Minus (codes "-") false rest
  unfolding cut front number_len sign_front
  minus_begins = record { token = record { at = end - length (codes "- " ++ rest); kind = kinds.Minus; word = codes "-" }; is = refl; worded = refl; same = refl }

  pub times_begins : Begins end true (codes " * " ++ rest) kinds.Times (codes "*") false rest
  unfolding cut front number_len sign_front
  times_begins = record { token = record { at = end - length (codes "* " ++ rest); kind = kinds.Times; word = codes "*" }; is = refl; worded = refl; same = refl }

  pub open_begins : (a : Bool) → Begins end a (codes "(" ++ rest) kinds.Open (codes "(") false rest
  unfolding cut front number_len sign_front
  open_begins a = record { token = record { at = end - length (codes "(" ++ rest); kind = kinds.Open; word = codes "(" }; is = refl; worded = refl; same = refl }

  pub close_begins : (a : Bool) → Begins end a (codes ")" ++ rest) kinds.Close (codes ")") true rest
  unfolding cut front number_len sign_front
  close_begins a = record { token = record { at = end - length (codes ")" ++ rest); kind = kinds.Close; word = codes ")" }; is = refl; worded = refl; same = refl }

  -- signs in guards
  pub relation_begins : (rel : Rel) (a : Bool) → Begins end a (rel_text rel ++ rest) (kinds.Relation rel) (sign_of rel) false rest
  unfolding cut front number_len sign_front
  relation_begins Eq a = record { token = record { at = end - length (codes "== " ++ rest); kind = kinds.Relation Eq; word = codes "==" }; is = refl; worded = refl; same = refl }
  relation_begins Ne a = record { token = record { at = end - length (codes "!= " ++ rest); kind = kinds.Relation Ne; word = codes "!=" }; is = refl; worded = refl; same = refl }
  relation_begins Lt a = record { token = record { at = end - length (codes "< " ++ rest); kind = kinds.Relation Lt; word = codes "<" }; is = refl; worded = refl; same = refl }
  relation_begins Le a = record { token = record { at = end - length (codes "<= " ++ rest); kind = kinds.Relation Le; word = codes "<=" }; is = refl; worded = refl; same = refl }
  relation_begins Gt a = record { token = record { at = end - length (codes "> " ++ rest); kind = kinds.Relation Gt; word = codes ">" }; is = refl; worded = refl; same = refl }
  relation_begins Ge a = record { token = record { at = end - length (codes ">= " ++ rest); kind = kinds.Relation Ge; word = codes ">=" }; is = refl; worded = refl; same = refl }

  pub both_begins : (a : Bool) → Begins end a (codes " && " ++ rest) kinds.And (codes "&&") false rest
  unfolding cut front number_len sign_front
  both_begins a = record { token = record { at = end - length (codes "&& " ++ rest); kind = kinds.And; word = codes "&&" }; is = refl; worded = refl; same = refl }

  pub either_begins : (a : Bool) → Begins end a (codes " || " ++ rest) kinds.Or (codes "||") false rest
  unfolding cut front number_len sign_front
  either_begins a = record { token = record { at = end - length (codes "|| " ++ rest); kind = kinds.Or; word = codes "||" }; is = refl; worded = refl; same = refl }

  pub bracket_begins : (a : Bool) → Begins end a (codes "[" ++ rest) kinds.OpenBracket (codes "[") false rest
  unfolding cut front number_len sign_front
  bracket_begins a = record { token = record { at = end - length (codes "[" ++ rest); kind = kinds.OpenBracket; word = codes "[" }; is = refl; worded = refl; same = refl }

  pub bracket_ends : (a : Bool) → Begins end a (codes "]" ++ rest) kinds.CloseBracket (codes "]") false rest
  unfolding cut front number_len sign_front
  bracket_ends a = record { token = record { at = end - length (codes "]" ++ rest); kind = kinds.CloseBracket; word = codes "]" }; is = refl; worded = refl; same = refl }

  -- signs and words in statements
  pub comma_begins : Begins end true (codes ", " ++ rest) kinds.Comma (codes ",") false rest
  unfolding cut front number_len sign_front
  comma_begins = record { token = record { at = end - length (codes ", " ++ rest); kind = kinds.Comma; word = codes "," }; is = refl; worded = refl; same = refl }

  pub semicolon_begins : (a : Bool) → Begins end a (codes ";" ++ rest) kinds.Semicolon (codes ";") false rest
  unfolding cut front number_len sign_front
  semicolon_begins a = record { token = record { at = end - length (codes ";" ++ rest); kind = kinds.Semicolon; word = codes ";" }; is = refl; worded = refl; same = refl }

  pub becomes_begins : Begins end true (codes " := " ++ rest) kinds.Becomes (codes ":=") false rest
  unfolding cut front number_len sign_front
  becomes_begins = record { token = record { at = end - length (codes ":= " ++ rest); kind = kinds.Becomes; word = codes ":=" }; is = refl; worded = refl; same = refl }

  pub dot_begins : (a : Bool) → Begins end a (codes "." ++ rest) kinds.Dot (codes ".") false rest
  unfolding cut front number_len sign_front
  dot_begins a = record { token = record { at = end - length (codes "." ++ rest); kind = kinds.Dot; word = codes "." }; is = refl; worded = refl; same = refl }

  pub brace_begins : (a : Bool) → Begins end a (codes " {" ++ rest) kinds.OpenBrace (codes "{") false rest
  unfolding cut front number_len sign_front
  brace_begins a = record { token = record { at = end - length (codes "{" ++ rest); kind = kinds.OpenBrace; word = codes "{" }; is = refl; worded = refl; same = refl }

  pub brace_ends : Begins end false (codes " }" ++ rest) kinds.CloseBrace (codes "}") false rest
  unfolding cut front number_len sign_front
  brace_ends = record { token = record { at = end - length (codes "}" ++ rest); kind = kinds.CloseBrace; word = codes "}" }; is = refl; worded = refl; same = refl }

  pub send_begins : Begins end false (codes "send " ++ rest) kinds.Send (codes "send") false rest
  unfolding cut front
  send_begins = record { token = record { at = end - length (codes "send " ++ rest); kind = kinds.Send; word = codes "send" }; is = refl; worded = refl; same = refl }

  pub mark_begins : Begins end false (codes "mark " ++ rest) kinds.Mark (codes "mark") false rest
  unfolding cut front
  mark_begins = record { token = record { at = end - length (codes "mark " ++ rest); kind = kinds.Mark; word = codes "mark" }; is = refl; worded = refl; same = refl }

  pub if_begins : Begins end false (codes "if " ++ rest) kinds.If (codes "if") false rest
  unfolding cut front
  if_begins = record { token = record { at = end - length (codes "if " ++ rest); kind = kinds.If; word = codes "if" }; is = refl; worded = refl; same = refl }

  pub else_begins : Begins end false (codes " else {" ++ rest) kinds.Else (codes "else") false (codes " {" ++ rest)
  unfolding cut front
  else_begins = record { token = record { at = end - length (codes "else {" ++ rest); kind = kinds.Else; word = codes "else" }; is = refl; worded = refl; same = refl }
