-- What the code of rows needs of their definitions.
-- Assumes nothing.
use Prim.Native.Nat.{ℕ, zero, suc, min, ◌+◌, ◌<◌, ◌≤◌}
use mathlib.Core.Path.{◌≡◌, refl, sym, ap, ◌∙◌}
use mathlib.Core.Bool.{Bool, true, ◌&&◌}
use mathlib.Core.List.{List, [], ◌∷◌, ◌++◌}
use native.Mathlib.Omega.{arith}
use lib.IntN.{ℤ, pos}
use lib.ListN.{length, set, take, drop, replicate}
use lib.Pointwise.{pointwise}
use lib.Seq.{ext_get_or}
use Rattle.std.proofs.Common.{int_eq}
use Rattle.std.specs.Array.{AllOfLen}
use Rattle.std.proofs.lemmas.Grind.{common_steps}
use Rattle.std.specs.Cmp.Rules.{signed_items}
use Rattle.words.specs.Words.{word_of}
use Rattle.words.specs.Tabulate.{tabulate}
use Rattle.words.proofs.Bools.{and_left, and_right}
use Rattle.words.proofs.PadLaws.{padded}
use Rattle.words.proofs.FillLaws.{Filled, fill, fills, filled-whole, tabulate-front, length-tabulate, get_d_tabulate}
use Rattle.analysis.specs.Rows.{Row, row_of, slots_of, own_of, maybe_by, each, each_rest, join_rows_of}
use Rattle.analysis.specs.Arrays.{is_some, left_of}
use Rattle.std.specs.Prelude.{None, Option, Some}

-- none adds nothing
pub join-none : (m : Option Row) → m ≡ join_rows_of m None
unfolding join_rows_of
join-none None = refl
join-none (Some r) = refl

-- what narrowing made, from whether there is a row and from the row
pub left-again : (m : Option Row) → maybe_by (is_some m) (left_of m) ≡ m
unfolding maybe_by is_some left_of
left-again None = refl
left-again (Some r) = refl

-- rows whose words are equal are the same
pub same_words : {t : Bool} (r s : Row) → t ≡ (pointwise int_eq r.lows s.lows && pointwise int_eq r.highs s.highs) → t ≡ true → r ≡ s
same_words r s e h =
    let both = sym e ∙ h in
    let low = (signed_items r.lows s.lows).0 (and_left _ _ both) in
    let high = (signed_items r.highs s.highs).0 (and_right (pointwise int_eq r.lows s.lows) _ both) in
    rw (low, high)

-- a word of a list of zeros, past its end too
pub zeros : (n i : ℕ) → word_of (replicate n (pos 0)) i ≡ pos 0
zeros zero i = refl
zeros (suc n) zero = refl
zeros (suc n) (suc i) = zeros n i

-- a row of zeros
pub cleared : (r : Row) → AllOfLen (λ z. z ≡ pos 0) r.lows 16 → AllOfLen (λ z. z ≡ pos 0) r.highs 16 → r ≡ row_of (replicate 16 (pos 0)) (replicate 16 (pos 0))
cleared r h k = rw (all r.lows h, all r.highs k)
  where
    all : (l : List ℤ) → AllOfLen (λ z. z ≡ pos 0) l 16 → l ≡ replicate 16 (pos 0)
    all l h = ext_get_or (pos 0) l (replicate 16 (pos 0)) h.long (λ i b. h.at i (pos 0) (omega (arith, h.long)) ∙ sym (zeros 16 i))

-- ---- the slots, as the code makes them: the words, and zeros after them
pub slots_made : (ws : List ℤ) (n : ℕ) → n ≡ min (length ws) 16 → take n ws ++ drop n (replicate 16 (pos 0)) ≡ slots_of ws
unfolding slots_of
slots_made ws n e = padded ws 16 n e

-- so a row whose slots were made from both lists of ends is the row on which a point's formulas are read
pub own_in :
    (lows highs : List ℤ) (n k : ℕ) → n ≡ min (length lows) 16 → k ≡ min (length highs) 16
    → row_of (take n lows ++ drop n (replicate 16 (pos 0))) (take k highs ++ drop k (replicate 16 (pos 0))) ≡ own_of (row_of lows highs)
own_in lows highs n k e h = rw (slots_made lows n e, slots_made highs k h) refl

-- ---- f of both words at each place, written over the words of a, one place a turn
abbrev pairwise : (ℤ → ℤ → ℤ) → List ℤ → List ℤ → ℕ → ℤ
pairwise f a b v = f (word_of a v) (word_of b v)

each-tabulate : (f : ℤ → ℤ → ℤ) (a b : List ℤ) → length b ≡ length a → each f a b ≡ tabulate (pairwise f a b) (length a)
unfolding each each_rest tabulate
each-tabulate f [] [] e = refl
each-tabulate f [] (y ∷ m) e = absurd (omega arith)
each-tabulate f (x ∷ l) [] e = absurd (omega arith)
each-tabulate f (x ∷ l) (y ∷ m) e =
    ap (λ (r : List ℤ). f x y ∷ r) (each-tabulate f l m (omega arith)) ∙ sym (tabulate-front (pairwise f (x ∷ l) (y ∷ m)) (length l))

-- l as it is when the loop has come to the place k
pub record Joining (f : ℤ → ℤ → ℤ) (a b : List ℤ) (k : ℕ) (l : List ℤ) : Type 0 where
  pub so_far : Filled (pairwise f a b) a 16 k l

module _ (f : ℤ → ℤ → ℤ) (a b : List ℤ) where
  pub joining : length a ≡ 16 → Joining f a b 0 a
  joining h = record { so_far = fill (omega arith) }

  -- the word that is read before it is written over is still that of a
  pub joins : (k : ℕ) (l : List ℤ) (z : ℤ) → Joining f a b k l → k < 16 → z ≡ f (word_of l k) (word_of b k) → Joining f a b (k + 1) (set l k z)
  joins k l z s h e = record { so_far = fills s.so_far h (e ∙ ap (λ (y : ℤ). f y (word_of b k)) still) }
    where
      still : word_of l k ≡ word_of a k
      still = rw s.so_far.is (grind (arith, common_steps, length-tabulate (pairwise f a b) k))

  pub joined_all : (k : ℕ) (l : List ℤ) → Joining f a b k l → 16 ≤ k → length a ≡ 16 → length b ≡ 16 → l ≡ each f a b
  joined_all k l s h p q = filled-whole s.so_far h p ∙ sym (ap (tabulate (pairwise f a b)) p) ∙ sym (each-tabulate f a b (q ∙ sym p))
