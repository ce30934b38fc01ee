-- The arguments of a signal, continued by as many zeros as are missing.
use Rattle.std.proofs.Common.{◌≡◌, ◌≤◌, ◌-◌, ◌++◌, ℕ, zero, suc, ℤ, pos, List, [], ◌∷◌, length, take, drop, replicate, Option, Some, None, refl, sym, ap, ◌∙◌, arith, length-append}
use Rattle.std.proofs.Math.Nat.{suc-sub-suc}
use Rattle.std.proofs.lemmas.List.{length-take-le, take-replicate, drop-replicate}
use Rattle.pssm_semantics.specs.declared.entry.Entry.{Entry}
use Rattle.pssm_semantics.specs.declared.entry.Entry.TheVariants.{Post, Start, Take, Done, Exit, Effect, Enter, Opened, Pick, DoStep}
use Rattle.pssm_semantics.specs.declared.setting.Class.{Class}
use Rattle.pssm_semantics.specs.Values.{eight_of}
use Rattle.pssm_semantics.specs.Pool.{KnownSignals, told_by}
use Rattle.pssm_semantics.specs.Behaviours.{last_head, params_of_head}
use Rattle.pssm_object.specs.Standing.{Standing, StandsAfter}

continued : (n k : ℕ) (xs : List ℤ) → length xs ≤ n → n ≤ k → take n (xs ++ replicate k (pos 0)) ≡ xs ++ replicate (n - length xs) (pos 0)
continued n k [] few le =
    let all : n ≡ n - 0 = omega arith in
    take-replicate n k (pos 0) le ∙ ap (λ (i : ℕ). replicate i (pos 0)) all
continued zero k (x ∷ xs) few le = absurd (omega arith)
continued (suc n) k (x ∷ xs) few le =
    ap (λ ys. x ∷ ys) (continued n k xs (omega arith) (omega arith) ∙ ap (λ i. xs ++ replicate i (pos 0)) (sym (suc-sub-suc n (length xs))))

pub eight_is : (args zeros rest items : List ℤ) → length args ≤ 8 → zeros ≡ replicate 8 (pos 0) → rest ≡ drop (length args) zeros → items ≡ args ++ rest
    → items ≡ eight_of args
eight_is args zeros rest items few eight past all =
    all
    ∙ ap (λ r. args ++ r) (past ∙ ap (drop (length args)) eight ∙ drop-replicate (length args) 8 (pos 0))
    ∙ sym (continued 8 8 args few (omega arith))

-- there are eight of them
pub eight_long : (args : List ℤ) → length (eight_of args) ≡ 8
eight_long args = length-take-le 8 (args ++ replicate 8 (pos 0)) (omega (arith, length-append args (replicate 8 (pos 0))))

head_eight : (told : KnownSignals) (head : Option Entry) → length (params_of_head told head) ≡ 8
head_eight told None = refl
head_eight told (Some (Post o g args)) = refl
head_eight told (Some (Start o)) = refl
head_eight told (Some (Take o n firing)) = eight_long _
head_eight told (Some (Done o v firing)) = refl
head_eight told (Some (Exit o v outs)) = refl
head_eight told (Some (Effect o t outs)) = refl
head_eight told (Some (Enter o v outs)) = refl
head_eight told (Some (Opened o r mode how)) = refl
head_eight told (Some (Pick o v route)) = refl
head_eight told (Some (DoStep o v k outs)) = refl

-- an object has eight parameters
pub params_eight : (class : Class) (J : List Entry) (x : Standing) → StandsAfter class J x → length x.params ≡ 8
params_eight class J x s = ap (λ (ps : List ℤ). length ps) s.params_is ∙ head_eight (told_by J) (last_head J x.own)
