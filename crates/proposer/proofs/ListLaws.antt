-- Lists by their places, sums over a list, and a fold whose steps go forward in an order.
-- Assumes nothing.
use Prim.Native.Nat.{ℕ, zero, suc, ◌+◌, ◌*◌, ◌<◌, ◌≤◌}
use mathlib.Core.Path.{◌≡◌, refl, sym, subst}
use mathlib.Core.Bool.{Bool, true, false, ◌&&◌}
use mathlib.Core.List.{List, [], ◌∷◌, ◌++◌}
use native.Mathlib.Nat.{not-suc-le-zero, le_of_suc-le-suc, suc-mul, zero-mul, zero-add, add-zero, add-suc}
use native.Mathlib.Decide.{ℕ_discrete}
use native.Mathlib.Omega.{arith}
use lib.ListN.{length, get_or, set, replicate}
use Rattle.words.specs.Tabulate.{tabulate}
use Rattle.words.specs.First.{all_below}
use Rattle.words.proofs.Bools.{clash}
use Rattle.proposer.specs.Fold.{fold_below}

module _ {A : Type 0} where
  -- ---- sums over a list
  unfoldable pub sum_of : (A → ℕ) → List A → ℕ
  sum_of f [] = 0
  sum_of f (x ∷ l) = f x + sum_of f l

  pub sum-set : (f : A → ℕ) (l : List A) (k : ℕ) (y d : A) → k < length l → sum_of f (set l k y) + f (get_or l k d) ≡ sum_of f l + f y
  unfolding sum_of
  sum-set f [] k y d h = absurd (not-suc-le-zero h)
  sum-set f (x ∷ l) zero y d h = omega arith
  sum-set f (x ∷ l) (suc k) y d h = let ih = sum-set f l k y d (le_of_suc-le-suc h) in omega arith

-- ---- sums below n
unfoldable pub sum_below : (ℕ → ℕ) → ℕ → ℕ
sum_below f zero = 0
sum_below f (suc n) = sum_below f n + f n

pub sum-le : (f g : ℕ → ℕ) (n : ℕ) → ((i : ℕ) → i < n → f i ≤ g i) → sum_below f n ≤ sum_below g n
unfolding sum_below
sum-le f g zero h = omega arith
sum-le f g (suc n) h = let ih = sum-le f g n (λ i l. h i (omega arith)) in let k = h n (omega arith) in omega arith

pub sum-const : (c n : ℕ) → sum_below (λ i. c) n ≡ n * c
unfolding sum_below
sum-const c zero = sym (zero-mul c)
sum-const c (suc n) = let ih = sum-const c n in omega (arith, suc-mul n c)

-- ---- a fold whose steps go forward in an order R, and keep I
pub record Forward {A : Type 0} (I : A → Type 0) (R : A → A → Type 0) (a b : A) : Type 0 where
  pub keeps : I b
  pub on : R a b

module _ {A : Type 0} (I : A → Type 0) (R : A → A → Type 0) (same : (a : A) → R a a) (trans : (a b c : A) → R a b → R b c → R a c)
    (anti : (a b : A) → R a b → R b a → b ≡ a) (f : A → ℕ → A) where
  pub fold-forward : (n : ℕ) → ((i : ℕ) → i < n → (a : A) → I a → Forward I R a (f a i)) → (a : A) → I a → Forward I R a (fold_below f a n)
  unfolding fold_below
  fold-forward zero step a ia = record { keeps = ia; on = same a }
  fold-forward (suc n) step a ia =
      let before = fold-forward n (λ i l. step i (omega arith)) a ia in
      let last = step n (omega arith) (fold_below f a n) before.keeps in
      record { keeps = last.keeps; on = trans a (fold_below f a n) _ before.on last.on }

  -- where the fold comes back to where it began, no step did anything
  pub fold-still : (n : ℕ) → ((i : ℕ) → i < n → (a : A) → I a → Forward I R a (f a i)) → (a : A) → I a → fold_below f a n ≡ a
      → (i : ℕ) → i < n → f a i ≡ a
  unfolding fold_below
  fold-still zero step a ia e i l = absurd (not-suc-le-zero l)
  fold-still (suc n) step a ia e i l =
      let before = fold-forward n (λ i l. step i (omega arith)) a ia in
      let last = step n (omega arith) (fold_below f a n) before.keeps in
      let back : R (fold_below f a n) a = subst (λ (x : A). R (fold_below f a n) x) e last.on in
      let is : fold_below f a n ≡ a = anti a (fold_below f a n) before.on back in
      elim (ℕ_discrete i n) [
        | yes q ↦ subst (λ (k : ℕ). f a k ≡ a) (sym q) (subst (λ (x : A). f x n ≡ a) is e)
        | no d ↦ fold-still n (λ i l. step i (omega arith)) a ia is i (omega arith)
      ]

-- one term that is less
pub sum_lt : (f g : ℕ → ℕ) (n j : ℕ) → ((i : ℕ) → i < n → f i ≤ g i) → j < n → f j < g j → sum_below f n < sum_below g n
unfolding sum_below
sum_lt f g zero j h l k = absurd (not-suc-le-zero l)
sum_lt f g (suc n) j h l k = elim (ℕ_discrete j n) [
  | yes q ↦
      let last : f n < g n = subst (λ (i : ℕ). f i < g i) q k in
      omega (arith, sum-le f g n (λ i l. h i (omega arith)))
  | no d ↦ omega (arith, sum_lt f g n j (λ i l. h i (omega arith)) (omega arith) k, h n (omega arith))
]

-- a test that doesn't hold everywhere fails somewhere
pub one-fails : (f : ℕ → Bool) (n : ℕ) → all_below f n ≡ false → (k : ℕ) × (k < n) × (f k ≡ false)
unfolding all_below
one-fails f zero e = clash e
one-fails f (suc n) e = by (all_below f n) (f n) refl refl (λ q. one-fails f n q) e
  where
    by : (a b : Bool) → all_below f n ≡ a → f n ≡ b → (all_below f n ≡ false → (k : ℕ) × (k < n) × (f k ≡ false)) → a && b ≡ false
        → (k : ℕ) × (k < suc n) × (f k ≡ false)
    by true true p q ih e = clash e
    by true false p q ih e = (n, omega arith, q)
    by false b p q ih e = let s = ih p in (s.0, omega (arith, s.1), s.2)

-- ---- a sum over a list that is made of a function, and a sum in two parts
sum-append : {A : Type 0} (f : A → ℕ) (l m : List A) → sum_of f (l ++ m) ≡ sum_of f l + sum_of f m
unfolding sum_of
sum-append f [] m = sym (zero-add (sum_of f m))
sum-append f (x ∷ l) m = omega (arith, sum-append f l m)

pub sum-tabulate : {A : Type 0} (f : A → ℕ) (g : ℕ → A) (n : ℕ) → sum_of f (tabulate g n) ≡ sum_below (λ k. f (g k)) n
unfolding tabulate sum_of sum_below
sum-tabulate f g zero = refl
sum-tabulate f g (suc n) = omega (arith, sum-append f (tabulate g n) (g n ∷ []), sum-tabulate f g n)

pub sum-replicate : {A : Type 0} (f : A → ℕ) (n : ℕ) (x : A) → sum_of f (replicate n x) ≡ n * f x
unfolding sum_of
sum-replicate f zero x = sym (zero-mul (f x))
sum-replicate f (suc n) x = omega (arith, sum-replicate f n x, suc-mul n (f x))

pub sum-split : (f : ℕ → ℕ) (m n : ℕ) → sum_below f (m + n) ≡ sum_below f m + sum_below (λ k. f (m + k)) n
unfolding sum_below
sum-split f m zero = rw (add-zero m) (sym (add-zero (sum_below f m)))
sum-split f m (suc n) = rw (add-suc m n) (omega (arith, sum-split f m n))

-- a fold keeps what each step keeps
pub fold-keeps : {A : Type 0} (I : A → Type 0) (f : A → ℕ → A) (n : ℕ) → ((i : ℕ) → i < n → (a : A) → I a → I (f a i)) → (a : A) → I a → I (fold_below f a n)
unfolding fold_below
fold-keeps I f zero step a h = h
fold-keeps I f (suc n) step a h = step n (omega arith) _ (fold-keeps I f n (λ i l. step i (omega arith)) a h)
