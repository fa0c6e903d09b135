-- A buffer that is written from its front, and the pairs that are written to it.
--     front             the words ps at the front of d
--     stores_append     stores of one list and then of another
--     two_pairs         the words of one node's pairs
--     no_words          the pairs of the nodes below 0
--     words_more        the pairs of one node more
--     pairs_room        those of the nodes below n, and of n, are no more words than all
--     front_none        the buffer before the first node's pairs
--     front_more        one node's pairs stored behind those of the nodes before it
-- Assumes nothing.
use Prim.Native.Nat.{ℕ, zero, suc, ◌+◌, ◌<◌, ◌≤◌}
use mathlib.Core.Path.{◌≡◌, refl, ap, subst, ◌∙◌}
use mathlib.Core.Bool.{Bool}
use mathlib.Core.List.{List, [], ◌∷◌, ◌++◌, append_assoc}
use mathlib.Core.Logic.{⊎_elim}
use native.Mathlib.Nat.{not-suc-le-zero, eq-or-lt_of_le, le_of_suc-le-suc}
use native.Mathlib.Numerals.{add-one}
use native.Mathlib.Omega.{arith}
use lib.IntN.{ℤ}
use lib.ListN.{length, set, drop, length-append, length-drop}
use lib.Seq.{sets, sets-eq, take-append_seam, drop-append-add, drop-drop}
use Rattle.checker.specs.AlarmList.{pair_if, pairs_at, pairs_of}

module _ {A : Type 0} where
  abbrev pub front : List A → List A → List A
  front ps d = ps ++ drop (length ps) d

  front-append : (ps qs d : List A) → length ps + length qs ≤ length d → sets (front ps d) (length ps) qs ≡ front (ps ++ qs) d
  front-append ps qs d h =
      sets-eq qs (ps ++ drop (length ps) d) (length ps) (simp (length-append, length-drop) (omega arith))
      ∙ rw (take-append_seam, drop-append-add, drop-drop, length-append, append_assoc)

  pub stores_append : (d : List A) (i : ℕ) (ps qs : List A) → sets d i (ps ++ qs) ≡ sets (sets d i ps) (i + length ps) qs
  stores_append d i [] qs = ap (λ (k : ℕ). sets d k qs) (omega arith)
  stores_append d i (a ∷ ps) qs = stores_append (set d i a) (suc i) ps qs ∙ ap (λ (k : ℕ). sets (sets (set d i a) (suc i) ps) k qs) (omega arith)

module _ (f : ℕ → ℕ → Bool) where
  pub two_pairs : (n : ℕ) → length (pairs_at f n) ≡ length (pair_if (f n 1) n 1) + length (pair_if (f n 2) n 2)
  unfolding pairs_at
  two_pairs n = length-append (pair_if (f n 1) n 1) (pair_if (f n 2) n 2)

  pub no_words : length (pairs_of f 0) ≡ 0
  unfolding pairs_of
  no_words = refl

  pairs-more : (n : ℕ) → pairs_of f (n + 1) ≡ pairs_of f n ++ pairs_at f n
  unfolding pairs_of
  pairs-more n = rw add-one

  pub words_more : (n : ℕ) → length (pairs_of f (n + 1)) ≡ length (pairs_of f n) + (length (pair_if (f n 1) n 1) + length (pair_if (f n 2) n 2))
  words_more n = rw (pairs-more n, length-append, two_pairs n)

  pub pairs_length : (n : ℕ) → length (pairs_of f (n + 1)) ≡ length (pairs_of f n) + length (pairs_at f n)
  pairs_length n = rw (pairs-more n, length-append)

  pub pairs_room : (n nodes : ℕ) → n < nodes → length (pairs_of f n) + length (pairs_at f n) ≤ length (pairs_of f nodes)
  unfolding pairs_of
  pairs_room n zero l = absurd (not-suc-le-zero l)
  pairs_room n (suc nodes) l =
      ⊎_elim
      (λ e. subst (λ (k : ℕ). length (pairs_of f n) + length (pairs_at f n) ≤ length (pairs_of f k ++ pairs_at f k)) e (simp length-append (omega arith)))
      (λ lt. let h = pairs_room n nodes lt in simp length-append (omega arith))
      (eq-or-lt_of_le (le_of_suc-le-suc l))

  pub front_none : (d : List ℤ) → front (pairs_of f 0) d ≡ d
  unfolding pairs_of
  front_none d = refl

  pub front_more : (n : ℕ) (d : List ℤ) → length (pairs_of f n) + length (pairs_at f n) ≤ length d
      → sets (front (pairs_of f n) d) (length (pairs_of f n)) (pairs_at f n) ≡ front (pairs_of f (n + 1)) d
  front_more n d h = rw (pairs-more n, front-append (pairs_of f n) (pairs_at f n) d h)
