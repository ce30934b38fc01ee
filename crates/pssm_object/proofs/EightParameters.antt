-- Guards have the same values on the arguments of a signal as on these continued by zeros to eight.
use Rattle.std.proofs.Common.{◌≡◌, ◌≤◌, ◌-◌, ◌++◌, ℕ, zero, suc, ℤ, pos, List, [], ◌∷◌, length, take, replicate, slice_index_or, Bool, refl, arith}
use Rattle.pssm_semantics.specs.declared.tree.Expr.{Expr, end_of-Expr, more_of-Expr}
use Rattle.pssm_semantics.specs.declared.tree.Expr.TheVariants.{Num, Var, Param, Sum', Diff', Prod'}
use Rattle.pssm_semantics.specs.declared.tree.Cond.{Cond, end_of-Cond, more_of-Cond}
use Rattle.pssm_semantics.specs.declared.tree.Cond.TheVariants.{True, False, Compare, Not', And', Or'}
use Rattle.pssm_semantics.specs.Values.{Store, Params, eight_of, value_of, truth_of}

-- zeros for what is past the end
zeros_at : (n k i : ℕ) → slice_index_or (take n (replicate k (pos 0))) i (pos 0) ≡ pos 0
zeros_at zero k i = refl
zeros_at (suc n) zero i = refl
zeros_at (suc n) (suc k) zero = refl
zeros_at (suc n) (suc k) (suc i) = zeros_at n k i

continued_at : (n k : ℕ) (xs : List ℤ) (i : ℕ) → length xs ≤ n
    → slice_index_or (take n (xs ++ replicate k (pos 0))) i (pos 0) ≡ slice_index_or xs i (pos 0)
continued_at n k [] i few = zeros_at n k i
continued_at zero k (x ∷ xs) i few = absurd (omega arith)
continued_at (suc n) k (x ∷ xs) zero few = refl
continued_at (suc n) k (x ∷ xs) (suc i) few = continued_at n k xs i (omega arith)

module _ (store : Store) (args : Params) (few : length args ≤ 8) where
  value_eight : (e : Expr) → value_of e store (eight_of args) ≡ value_of e store args
  value_eight (Num n) = refl
  value_eight (Var x) = refl
  value_eight (Param k) = continued_at 8 8 args (k - 1) few
  value_eight (Sum' p (more_of-Expr a end_of-Expr) q (more_of-Expr b end_of-Expr)) = rw (value_eight a, value_eight b) refl
  value_eight (Diff' p (more_of-Expr a end_of-Expr) q (more_of-Expr b end_of-Expr)) = rw (value_eight a, value_eight b) refl
  value_eight (Prod' p (more_of-Expr a end_of-Expr) q (more_of-Expr b end_of-Expr)) = rw (value_eight a, value_eight b) refl

  -- the value of a guard
  pub truth_eight : (c : Cond) → truth_of c store (eight_of args) ≡ truth_of c store args
  truth_eight True = refl
  truth_eight False = refl
  truth_eight (Compare rel a b) = rw (value_eight a, value_eight b) refl
  truth_eight (Not' p (more_of-Cond c end_of-Cond)) = rw (truth_eight c) refl
  truth_eight (And' p (more_of-Cond c end_of-Cond) q (more_of-Cond d end_of-Cond)) = rw (truth_eight c, truth_eight d) refl
  truth_eight (Or' p (more_of-Cond c end_of-Cond) q (more_of-Cond d end_of-Cond)) = rw (truth_eight c, truth_eight d) refl
