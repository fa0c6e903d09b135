-- Folds over the numbers below n.
-- Assumes nothing.
use Rattle.std.proofs.Common.{◌≡◌, ℕ, zero, suc, ◌+◌, ◌≤◌, Bool, true, false, List, [], ◌∷◌, ◌++◌, length, get_or, refl, sym, ap, ◌∙◌, add-one, length-append, arith}
use Rattle.std.proofs.Math.ListN.{get_or-append}
use Rattle.std.proofs.Math.Seq.{get_or-append_seam}
use native.Mathlib.Decide.{ℕ_discrete}
use Rattle.proposer.specs.Fold.{fold_below, concat_below, those}
use Rattle.proposer.proofs.ListLaws.{fold-keeps}
use Rattle.proposer.proofs.ThoseLaws.{those-more, those-same}

pub fold_more : {A : Type 0} (f : A → ℕ → A) (a : A) (i : ℕ) → fold_below f a (i + 1) ≡ f (fold_below f a i) i
unfolding fold_below
fold_more f a i = rw add-one

-- where a step changes nothing any more, none after it does
pub fold_rest : {A : Type 0} (f : A → A) (a : A) (k n : ℕ) → k ≤ n → f (fold_below (λ x _. f x) a k) ≡ fold_below (λ x _. f x) a k
    → fold_below (λ x _. f x) a n ≡ fold_below (λ x _. f x) a k
unfolding fold_below
fold_rest f a k zero l e = let none : 0 ≡ k = omega arith in ap (λ (j : ℕ). fold_below (λ x _. f x) a j) none
fold_rest f a k (suc n) l e = elim (ℕ_discrete k (suc n)) [
  | yes q ↦ ap (λ (j : ℕ). fold_below (λ x _. f x) a j) (sym q)
  | no d ↦ ap f (fold_rest f a k n (omega arith) e) ∙ e
]

-- ---- steps that do nothing
module _ {A : Type 0} (f : A → ℕ → A) where
  pub fold-idle : (a : A) → ((i : ℕ) → f a i ≡ a) → (n : ℕ) → fold_below f a n ≡ a
  unfolding fold_below
  fold-idle a idle zero = refl
  fold-idle a idle (suc n) = rw (fold-idle a idle n) (idle n)

  -- a step at the number that stands at an index, and the steps at all
  abbrev pub along_of : List ℕ → A → ℕ → A
  along_of l a i = f a (get_or l i 0)

  abbrev pub along_all : List ℕ → A → A
  along_all l a = fold_below (along_of l) a (length l)

  -- what follows the first k numbers of a list doesn't count
  along-front : (l m : List ℕ) (a : A) (k : ℕ) → k ≤ length l → fold_below (along_of (l ++ m)) a k ≡ fold_below (along_of l) a k
  unfolding fold_below
  along-front l m a zero h = refl
  along-front l m a (suc k) h = rw (along-front l m a k (omega arith), get_or-append l m 0 k h) refl

  along-last : (l : List ℕ) (a : A) (q : ℕ) → along_all (l ++ (q ∷ [])) a ≡ f (along_all l a) q
  unfolding fold_below
  along-last l a q =
      ap (λ (k : ℕ). fold_below (along_of (l ++ (q ∷ []))) a k) (length-append l (q ∷ []) ∙ add-one (length l))
      ∙ rw (along-front l (q ∷ []) a (length l) (omega arith), get_or-append_seam l q [] 0) refl

  -- a step does nothing where the test fails, in states that the steps keep
  module _ (test : ℕ → Bool) (Kept : A → Type 0) (keeps : (a : A) (q : ℕ) → Kept a → Kept (f a q))
      (idle : (a : A) (q : ℕ) → Kept a → test q ≡ false → f a q ≡ a) where
    pub fold-those : (a : A) → Kept a → (n : ℕ) → fold_below f a n ≡ along_all (those test n) a
    unfolding fold_below those concat_below
    fold-those a k zero = refl
    fold-those a k (suc n) = by (test n) refl (fold-those a k n)
      where
        by : (b : Bool) → test n ≡ b → fold_below f a n ≡ along_all (those test n) a → f (fold_below f a n) n ≡ along_all (those test (suc n)) a
        by true e ih = rw (ih, those-more test n e) (sym (along-last (those test n) a n))
        by false e ih =
            idle (fold_below f a n) n (fold-keeps Kept f n (λ i _ x. keeps x i) a k) e ∙ ih
            ∙ ap (λ (l : List ℕ). along_all l a) (sym (those-same test n e))
