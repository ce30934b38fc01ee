-- What begins a piece of a line is ended by an end of a sample.
use Rattle.std.proofs.Common.{◌≡◌, ℕ, List, [], ◌∷◌, ◌++◌, ℤ, refl, sym, ap, subst, ◌∙◌, arith, inl, inr}
use Rattle.std.specs.Prelude.{codes, FitsSigned}
use Rattle.std.specs.Int.{w64}
use Rattle.std.specs.List.{AllByRecursion}
use Rattle.std.specs.Fmt.{decimal, signed_decimal}
use Rattle.pssm_model.specs.declared.steps.Route.{Route}
use Rattle.pssm_semantics.specs.declared.line.LineOut.{LineOut}
use Rattle.pssm_semantics.specs.declared.line.LineOut.TheVariants.{Mark, Send}
use Rattle.pssm_spelling.specs.Spelling.{IsName}
use Rattle.pssm_lines.specs.LineText.{args_text, transition_text, route_text, routes_text, firing_text, out_text, outs_text}
use Rattle.pssm_lines.specs.Grammar.{IsIndex, AreArgs, IsSpelledOut, AreSpelledOuts, IsSpelledRoute, IsSpelledFiring}
use Rattle.pssm_lines.specs.inner.LineReading.{transition, firing_with}
use Rattle.pssm_lines.proofs.Readers.{others_text, joined_text, AreSome}
use Rattle.pssm_lines.proofs.RouteLaws.{IsTransition}
use Rattle.pssm_lines.proofs.Cuts.{IsClosed, Closes, closes_as, closed_by_all, closed_already, Word, closes_word, Then, closes_then, Maybe, closes_maybe, no_front}
use Rattle.pssm_lines.proofs.Samples.{NumberText, closes_name, closes_number, SignedText, closes_signed}
use Rattle.pssm_lines.proofs.Texts.{TextOf, closes_few, closes_all, closes_some, AreAny, closes_any}

-- ---- texts behind each other

pub word_then : (word : List ℕ) (R : List ℕ → Type 0) (t : List ℕ) (x : Then (Word word) R t) → t ≡ word ++ x.second
word_then word R t x = x.parts ∙ ap (λ (u : List ℕ). u ++ x.second) x.is_first

pub text_then : {A : Type 0} (Is : A → Type 0) (text : A → List ℕ) (R : List ℕ → Type 0) (t : List ℕ) (x : Then (TextOf Is text) R t) → t ≡ text x.is_first.value ++ x.second
text_then Is text R t x = x.parts ∙ ap (λ (u : List ℕ). u ++ x.second) x.is_first.spelled

pub number_then : (least limit : ℕ) (R : List ℕ → Type 0) (t : List ℕ) (x : Then (NumberText least limit) R t) → t ≡ decimal x.is_first.number ++ x.second
number_then least limit R t x = x.parts ∙ ap (λ (u : List ℕ). u ++ x.second) x.is_first.spelled

-- ---- arguments

abbrev pub IndexText : List ℕ → Type 0
IndexText t = NumberText 0 65536 t

pub closes_index : Closes (NumberText 0 65536) (codes "1")
closes_index = closes_number 0 65536 (omega arith) (omega arith) (omega arith)

pub index_text : (n : ℕ) → IsIndex n → NumberText 0 65536 (decimal n)
index_text n small = record { number = n; low = omega arith; small = small; spelled = refl }

-- numbers with commas between them
abbrev pub IntegersText : List ℕ → Type 0
IntegersText t = TextOf (AreSome 7 (FitsSigned w64)) (joined_text 44 signed_decimal) t

pub closes_integer : Closes (TextOf (FitsSigned w64) signed_decimal) (codes "1")
closes_integer = closes_as SignedText (TextOf (FitsSigned w64) signed_decimal) (codes "1")
    (λ t x. record { value = x.number; is = x.fits; spelled = x.spelled }) (λ t x. record { number = x.value; fits = x.is; spelled = x.spelled }) closes_signed

abbrev pub ArgsText : List ℕ → Type 0
ArgsText t = TextOf AreArgs args_text t

abbrev pub Inside : List ℕ → Type 0
Inside t = Then (Maybe IntegersText) (Word (codes ")")) t

pub inside_then : (t : List ℕ) (x : Inside t) → t ≡ x.first ++ codes ")"
inside_then t x = x.parts ∙ ap (λ (u : List ℕ). x.first ++ u) x.is_second

pub to_args : (t : List ℕ) → Then (Word (codes "(")) Inside t → ArgsText t
to_args t x =
    let text : t ≡ codes "(" ++ (x.is_second.first ++ codes ")") = word_then (codes "(") Inside t x ∙ ap (λ (u : List ℕ). codes "(" ++ u) (inside_then x.second x.is_second) in
    elim x.is_second.is_first [
      | inl none ↦ record { value = []; is = (omega arith, tt); spelled = text ∙ ap (λ (u : List ℕ). codes "(" ++ (u ++ codes ")")) none }
      | inr some ↦ record { value = some.value; is = (some.is.1, some.is.2); spelled = text ∙ ap (λ (u : List ℕ). codes "(" ++ (u ++ codes ")")) some.spelled }
    ]

pub some_numbers : (args : List ℤ) → AreArgs args → Maybe IntegersText (joined_text 44 signed_decimal args)
some_numbers [] are = inl refl
some_numbers (x ∷ xs) are = inr (record { value = x ∷ xs; is = (omega arith, are.0, are.1); spelled = refl })

pub from_args : (t : List ℕ) → ArgsText t → Then (Word (codes "(")) Inside t
from_args t x =
    let joined = joined_text 44 signed_decimal x.value in
    record {
      first = codes "(";
      second = joined ++ codes ")";
      parts = x.spelled;
      is_first = refl;
      is_second = record { first = joined; second = codes ")"; parts = refl; is_first = some_numbers x.value x.is; is_second = refl };
    }

pub closes_args : Closes ArgsText (codes "(1,1)")
closes_args =
    closes_as (Then (Word (codes "(")) Inside) ArgsText (codes "(1,1)") to_args from_args
    (closes_then (Word (codes "(")) Inside (codes "(") (codes "1,1)") (closes_word (codes "("))
    (closes_then (Maybe IntegersText) (Word (codes ")")) (codes "1,1") (codes ")") (closes_maybe IntegersText (codes "1,1") (closes_some (FitsSigned w64) signed_decimal 44 6 (codes "1") closes_integer)) (closes_word (codes ")"))))

-- ---- outputs

abbrev pub Behind : List ℕ → Type 0
Behind t = Then (Word (codes ".")) (Then IsName ArgsText) t

-- a signal at an object
abbrev pub CallText : List ℕ → Type 0
CallText t = Then IsName Behind t

pub closes_named : Closes (Then IsName ArgsText) (codes "a(1,1)")
closes_named = closes_then IsName ArgsText (codes "a") (codes "(1,1)") closes_name closes_args

pub closes_call : Closes CallText (codes "a.a(1,1)")
closes_call =
    closes_then IsName Behind (codes "a") (codes ".a(1,1)") closes_name
    (closes_then (Word (codes ".")) (Then IsName ArgsText) (codes ".") (codes "a(1,1)") (closes_word (codes ".")) closes_named)

pub named_then : (t : List ℕ) (x : Then IsName ArgsText t) → t ≡ x.first ++ args_text x.is_second.value
named_then t x = x.parts ∙ ap (λ (u : List ℕ). x.first ++ u) x.is_second.spelled

pub call_then : (t : List ℕ) (x : CallText t) → t ≡ x.first ++ (codes "." ++ (x.is_second.is_second.first ++ args_text x.is_second.is_second.is_second.value))
call_then t x = x.parts ∙ ap (λ (u : List ℕ). x.first ++ u) (word_then (codes ".") (Then IsName ArgsText) x.second x.is_second ∙ ap (λ (u : List ℕ). codes "." ++ u) (named_then x.is_second.second x.is_second.is_second))

pub call_text_of : (object signal : List ℕ) (args : List ℤ) → IsName object → IsName signal → AreArgs args → CallText (object ++ (codes "." ++ (signal ++ args_text args)))
call_text_of object signal args name other are = record {
  first = object;
  second = codes "." ++ (signal ++ args_text args);
  parts = refl;
  is_first = name;
  is_second = record {
    first = codes ".";
    second = signal ++ args_text args;
    parts = refl;
    is_first = refl;
    is_second = record { first = signal; second = args_text args; parts = refl; is_first = other; is_second = record { value = args; is = are; spelled = refl } };
  };
}

abbrev pub OutText : List ℕ → Type 0
OutText t = TextOf IsSpelledOut out_text t

pub send_out : (t : List ℕ) → CallText t → OutText (codes ">" ++ t)
send_out t x = record { value = Send x.first x.is_second.is_second.first x.is_second.is_second.is_second.value; is = (x.is_first, x.is_second.is_second.is_first, x.is_second.is_second.is_second.is); spelled = ap (λ (u : List ℕ). codes ">" ++ u) (call_then t x) }

pub mark_out : (t : List ℕ) → Then IsName ArgsText t → OutText (codes "!" ++ t)
mark_out t x = record { value = Mark x.first x.is_second.value; is = (x.is_first, x.is_second.is); spelled = ap (λ (u : List ℕ). codes "!" ++ u) (named_then t x) }

pub sample_out : OutText (codes ">a.a(1,1)")
sample_out = send_out (codes "a.a(1,1)") closes_call.is_text

pub mark_closed : (front more mark : List ℕ) (args : List ℤ) → IsName mark → AreArgs args → codes "!" ++ (mark ++ args_text args) ≡ front ++ more → IsClosed OutText (codes ">a.a(1,1)") front
mark_closed [] more mark args name are e = closed_by_all OutText (codes ">a.a(1,1)") sample_out
mark_closed (c ∷ front) more mark args name are e =
    let head : 33 ≡ c = cc in
    let tail : mark ++ args_text args ≡ front ++ more = cc in
    let whole : Then IsName ArgsText (front ++ more) = record { first = mark; second = args_text args; parts = sym tail; is_first = name; is_second = record { value = args; is = are; spelled = refl } } in
    let closed = closes_named.closes front more whole in
    record {
      before = codes ">a." ++ closed.before;
      end = closed.end;
      parts = ap (λ (u : List ℕ). codes ">a." ++ u) closed.parts;
      whole = subst (λ (k : ℕ). OutText (k ∷ (front ++ closed.end))) head (mark_out (front ++ closed.end) closed.whole);
    }

pub send_closed : (front more object signal : List ℕ) (args : List ℤ) → IsName object → IsName signal → AreArgs args → codes ">" ++ (object ++ (codes "." ++ (signal ++ args_text args))) ≡ front ++ more → IsClosed OutText (codes ">a.a(1,1)") front
send_closed [] more object signal args name other are e = closed_by_all OutText (codes ">a.a(1,1)") sample_out
send_closed (c ∷ front) more object signal args name other are e =
    let head : 62 ≡ c = cc in
    let tail : object ++ (codes "." ++ (signal ++ args_text args)) ≡ front ++ more = cc in
    let closed = closes_call.closes front more (subst CallText tail (call_text_of object signal args name other are)) in
    record {
      before = codes ">" ++ closed.before;
      end = closed.end;
      parts = ap (λ (u : List ℕ). codes ">" ++ u) closed.parts;
      whole = subst (λ (k : ℕ). OutText (k ∷ (front ++ closed.end))) head (send_out (front ++ closed.end) closed.whole);
    }

pub out_closed : (front more : List ℕ) → OutText (front ++ more) → IsClosed OutText (codes ">a.a(1,1)") front
out_closed front more x = by_out x.value x.is (sym x.spelled) where
  by_out : (out : LineOut) → IsSpelledOut out → out_text out ≡ front ++ more → IsClosed OutText (codes ">a.a(1,1)") front
  by_out (Mark mark args) is e = mark_closed front more mark args is.0 is.1 e
  by_out (Send object signal args) is e = send_closed front more object signal args is.0 is.1 is.2 e

pub closes_out : Closes OutText (codes ">a.a(1,1)")
closes_out = record { is_text = sample_out; closes = out_closed }

abbrev pub OutsText : List ℕ → Type 0
OutsText t = TextOf AreSpelledOuts outs_text t

pub closes_outs : Closes OutsText (codes " >a.a(1,1)")
closes_outs = closes_few IsSpelledOut out_text 32 63 (codes ">a.a(1,1)") closes_out

-- ---- routes

abbrev pub TransitionText : List ℕ → Type 0
TransitionText t = TextOf IsTransition transition_text t

pub closes_transition : Closes TransitionText (codes "t1")
closes_transition =
    closes_as (Then (Word (codes "t")) IndexText) TransitionText (codes "t1")
    (λ t x. record { value = transition x.is_second.number; is = x.is_second.small; spelled = word_then (codes "t") IndexText t x ∙ ap (λ (u : List ℕ). codes "t" ++ u) x.is_second.spelled })
    (λ t x. record { first = codes "t"; second = decimal x.value.0; parts = x.spelled; is_first = refl; is_second = index_text x.value.0 x.is })
    (closes_then (Word (codes "t")) IndexText (codes "t") (codes "1") (closes_word (codes "t")) closes_index)

abbrev pub StartsText : List ℕ → Type 0
StartsText t = TextOf (AreAny IsTransition) (joined_text 43 transition_text) t

abbrev pub OthersText : List ℕ → Type 0
OthersText t = TextOf (AllByRecursion IsTransition) (others_text 44 transition_text) t

abbrev pub RouteText : List ℕ → Type 0
RouteText t = TextOf IsSpelledRoute route_text t

pub to_route : (t : List ℕ) → Then StartsText OthersText t → RouteText t
to_route t x =
    let starts = x.is_first in
    let others = x.is_second in
    let route : Route = record { starts = starts.value; rest = others.value } in
    record {
      value = route;
      is = (starts.is.0, starts.is.1, others.is);
      spelled = text_then (AreAny IsTransition) (joined_text 43 transition_text) OthersText t x ∙ ap (λ (u : List ℕ). joined_text 43 transition_text starts.value ++ u) others.spelled;
    }

pub from_route : (t : List ℕ) → RouteText t → Then StartsText OthersText t
from_route t x = record {
  first = joined_text 43 transition_text x.value.starts;
  second = others_text 44 transition_text x.value.rest;
  parts = x.spelled;
  is_first = record { value = x.value.starts; is = (x.is.0, x.is.1); spelled = refl };
  is_second = record { value = x.value.rest; is = x.is.2; spelled = refl };
}

pub closes_route : Closes RouteText (codes "t1+t1,t1")
closes_route =
    closes_as (Then StartsText OthersText) RouteText (codes "t1+t1,t1") to_route from_route
    (closes_then StartsText OthersText (codes "t1+t1") (codes ",t1") (closes_any IsTransition transition_text 43 (codes "t1") closes_transition) (closes_all IsTransition transition_text 44 (codes "t1") closes_transition))

abbrev pub RoutesText : List ℕ → Type 0
RoutesText t = TextOf (AreAny IsSpelledRoute) (joined_text 32 route_text) t

pub closes_routes : Closes RoutesText (codes "t1+t1,t1 t1+t1,t1")
closes_routes = closes_any IsSpelledRoute route_text 32 (codes "t1+t1,t1") closes_route

abbrev pub FiringText : List ℕ → Type 0
FiringText t = TextOf IsSpelledFiring firing_text t

pub routes_are : (routes : List Route) → AreAny IsSpelledRoute routes → routes_text routes ≡ joined_text 32 route_text routes
routes_are [] are = absurd (omega (arith, are.0))
routes_are (r ∷ rs) are = refl

pub to_firing : (t : List ℕ) → RoutesText t → FiringText t
to_firing t x = record { value = firing_with x.value; is = x.is.1; spelled = x.spelled ∙ sym (routes_are x.value x.is) }

pub dash_closed : (front more : List ℕ) → codes "-" ≡ front ++ more → IsClosed FiringText (codes "t1+t1,t1 t1+t1,t1") front
dash_closed [] more e = closed_by_all FiringText (codes "t1+t1,t1 t1+t1,t1") (to_firing (codes "t1+t1,t1 t1+t1,t1") closes_routes.is_text)
dash_closed (c ∷ front) more e =
    let head : 45 ≡ c = cc in
    let none : [] ≡ front ++ more = cc in
    let whole : c ∷ front ≡ codes "-" = ap (λ (k : ℕ). k ∷ front) (sym head) ∙ ap (λ (u : List ℕ). 45 ∷ u) (no_front front more (sym none)) in
    closed_already FiringText (codes "t1+t1,t1 t1+t1,t1") (c ∷ front) (record { value = firing_with []; is = tt; spelled = whole })

pub firing_closed : (front more : List ℕ) → FiringText (front ++ more) → IsClosed FiringText (codes "t1+t1,t1 t1+t1,t1") front
firing_closed front more x = by_routes x.value.routes x.is (sym x.spelled) where
  by_routes : (routes : List Route) → AllByRecursion IsSpelledRoute routes → routes_text routes ≡ front ++ more → IsClosed FiringText (codes "t1+t1,t1 t1+t1,t1") front
  by_routes [] are e = dash_closed front more e
  by_routes (r ∷ rs) are e =
      let closed = closes_routes.closes front more (record { value = r ∷ rs; is = (omega arith, are); spelled = sym e }) in
      record { before = closed.before; end = closed.end; parts = closed.parts; whole = to_firing (front ++ closed.end) closed.whole }

pub closes_firing : Closes FiringText (codes "t1+t1,t1 t1+t1,t1")
closes_firing = record { is_text = to_firing (codes "t1+t1,t1 t1+t1,t1") closes_routes.is_text; closes = firing_closed }
