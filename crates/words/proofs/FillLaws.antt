-- A loop that fills a list d from the front with a function's values, one store a turn. Its invariant is `Filled f d n k l`, with k the loop's
-- counter and l the list as it is; its measure is n - k.
--     fill, fills     where the loop begins, and after a turn
--     filled          where k has come to n; filled-whole where d has just n places
--     kept            the list's length
-- Assumes nothing.
use Prim.Native.Nat.{ℕ, zero, suc, ◌+◌, ◌<◌, ◌≤◌, zero-le}
use mathlib.Core.Path.{◌≡◌, refl, sym, ap, subst, ◌∙◌}
use mathlib.Core.List.{List, [], ◌∷◌, ◌++◌, append-nil}
use native.Mathlib.Nat.{le_antisymm}
use native.Mathlib.Numerals.{add-one}
use native.Mathlib.Omega.{arith}
use lib.ListN.{length, get_or, set, drop, length-append, length-drop, drop_of_length-le}
use lib.Seq.{drop-cons, set_at, append_snoc}
use Rattle.words.specs.Tabulate.{tabulate}

module _ {A : Type 0} where
  pub length-tabulate : (f : ℕ → A) (n : ℕ) → length (tabulate f n) ≡ n
  unfolding tabulate
  length-tabulate f zero = refl
  length-tabulate f (suc n) = let h = length-tabulate f n in simp length-append (omega arith)

  pub tabulate-same : (f g : ℕ → A) (n : ℕ) → ((i : ℕ) → i < n → f i ≡ g i) → tabulate f n ≡ tabulate g n
  unfolding tabulate
  tabulate-same f g zero h = refl
  tabulate-same f g (suc n) h = rw (tabulate-same f g n (λ i l. h i (omega arith)), h n (omega arith)) refl

  -- the list from its first value on
  pub tabulate-front : (f : ℕ → A) (n : ℕ) → tabulate f (suc n) ≡ f 0 ∷ tabulate (λ i. f (suc i)) n
  unfolding tabulate
  tabulate-front f zero = refl
  tabulate-front f (suc n) = ap (λ (l : List A). l ++ (f (suc n) ∷ [])) (tabulate-front f n)

  pub get_d_tabulate : (f : ℕ → A) (n i : ℕ) (d : A) → i < n → get_or (tabulate f n) i d ≡ f i
  get_d_tabulate f zero i d h = absurd (omega arith)
  get_d_tabulate f (suc n) zero d h = ap (λ (l : List A). get_or l 0 d) (tabulate-front f n)
  get_d_tabulate f (suc n) (suc i) d h =
      ap (λ (l : List A). get_or l (suc i) d) (tabulate-front f n) ∙ get_d_tabulate (λ j. f (suc j)) n i d (omega arith)

  pub record Filled (f : ℕ → A) (d : List A) (n k : ℕ) (l : List A) : Type 0 where
    pub within : k ≤ n
    pub room : n ≤ length d
    pub is : l ≡ tabulate f k ++ drop k d

  pub fill : {f : ℕ → A} {d : List A} {n : ℕ} → n ≤ length d → Filled f d n 0 d
  unfolding tabulate
  fill h = record { within = zero-le; room = h; is = refl }

  -- one store
  store : (f : ℕ → A) (d : List A) (k : ℕ) → k < length d → set (tabulate f k ++ drop k d) k (f k) ≡ tabulate f (k + 1) ++ drop (k + 1) d
  unfolding tabulate
  store f (x ∷ d) k h =
      ap (λ (r : List A). set (tabulate f k ++ r) k (f k)) (drop-cons (x ∷ d) k x h)
      ∙ set_at (tabulate f k) _ (drop (suc k) (x ∷ d)) (f k) k (length-tabulate f k)
      ∙ rw add-one (sym (append_snoc (tabulate f k) (f k) (drop (suc k) (x ∷ d))))
  store f [] k h = absurd (omega arith)

  -- v is the value as the code has it
  pub fills : {f : ℕ → A} {d l : List A} {n k : ℕ} {v : A} → Filled f d n k l → k < n → v ≡ f k → Filled f d n (k + 1) (set l k v)
  fills {f} {d} {l} {n} {k} {v} s h e =
      record { within = omega arith; room = s.room; is = rw (s.is, e) (store f d k (omega (arith, s.room))) }

  pub filled : {f : ℕ → A} {d l : List A} {n k : ℕ} → Filled f d n k l → n ≤ k → l ≡ tabulate f n ++ drop n d
  filled {f} {d} {l} {n} {k} s h = subst (λ (j : ℕ). l ≡ tabulate f j ++ drop j d) (le_antisymm s.within h) s.is

  -- where d has no more than n places, nothing of it is left
  pub filled-whole : {f : ℕ → A} {d l : List A} {n k : ℕ} → Filled f d n k l → n ≤ k → length d ≡ n → l ≡ tabulate f n
  filled-whole {f} {d} {l} {n} {k} s h e = rw (filled s h, drop_of_length-le d {i = n} (omega arith)) (append-nil (tabulate f n))

  pub kept : {f : ℕ → A} {d l : List A} {n k : ℕ} → Filled f d n k l → length l ≡ length d
  kept {f} {d} {l} {n} {k} s =
      ap length s.is ∙ length-append (tabulate f k) (drop k d)
      ∙ (let h = length-tabulate f k in simp length-drop (omega (arith, s.within, s.room)))
