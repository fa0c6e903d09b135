-- Rows joined: in whatever order they come, and with intervals put in place of a row's own.
-- Assumes nothing.
use mathlib.Core.Path.{◌≡◌, refl, sym, ap, ◌∙◌}
use mathlib.Core.Bool.{Bool, true, false}
use mathlib.Core.List.{List, [], ◌∷◌}
use Prim.Native.Nat.{ℕ, zero, suc}
use native.Mathlib.Omega.{arith}
use lib.IntN.{ℤ, pos}
use lib.ListN.{length, set, drop, length-set}
use lib.Signed.{≤ℤ_refl}
use Rattle.interval.specs.Interval.{span}
use Rattle.interval.specs.declared.Interval.{Interval}
use Rattle.interval.proofs.IntegerLaws.{min-is, max-is}
use Rattle.words.specs.Words.{word_of}
use Rattle.words.proofs.Bools.{clash}
use Rattle.analysis.specs.Rows.{Row, maybe_by, then_row, put_of, each_rest, each, join_rows_of}
use Rattle.analysis.specs.Arrays.{is_some, left_of}
use Rattle.analysis.proofs.RowLaws.{each-is, joined}
use Rattle.std.proofs.lemmas.Int.{ints, clamps}
use Rattle.std.specs.Int.{int_min, int_max}
use Rattle.std.specs.Prelude.{Option, None, Some}

-- ---- the order in which rows are joined
-- the lists may be of different lengths: 0 is read past the end of one, so f of two zeros must be 0 again
module _ (f : ℤ → ℤ → ℤ) (z : f (pos 0) (pos 0) ≡ pos 0) (assoc : (x y w : ℤ) → f (f x y) w ≡ f x (f y w)) where
  -- every place but the first
  each-drop : (l m : List ℤ) → drop 1 (each f l m) ≡ each f (drop 1 l) (drop 1 m)
  unfolding each each_rest
  each-drop [] [] = refl
  each-drop [] (y ∷ m) = refl
  each-drop (x ∷ l) m = refl

  each-assoc : (l m n : List ℤ) → each f (each f l m) n ≡ each f l (each f m n)
  unfolding each each_rest
  each-assoc [] [] [] = refl
  each-assoc [] [] (w ∷ n) = rw (← assoc (pos 0) (pos 0) w, z, ← each-assoc [] [] n) refl
  each-assoc [] (y ∷ m) n = rw (assoc (pos 0) y (word_of n 0), each-assoc [] m (drop 1 n)) refl
  each-assoc (x ∷ l) m n = rw (each-drop m n, each-is f z m n 0, assoc x (word_of m 0) (word_of n 0), each-assoc l (drop 1 m) (drop 1 n)) refl

min_assoc : (a b c : ℤ) → int_min (int_min a b) c ≡ int_min a (int_min b c)
min_assoc a b c = omega (arith, ints, clamps)

max_assoc : (a b c : ℤ) → int_max (int_max a b) c ≡ int_max a (int_max b c)
max_assoc a b c = omega (arith, ints, clamps)

-- what is joined to what was joined before
pub join_rows-assoc : (s t u : Option Row) → join_rows_of (join_rows_of s t) u ≡ join_rows_of s (join_rows_of t u)
unfolding join_rows_of
join_rows-assoc None t u = refl
join_rows-assoc (Some r) None u = refl
join_rows-assoc (Some r) (Some s) None = refl
join_rows-assoc (Some r) (Some s) (Some t) =
    rw (
      each-assoc int_min (min-is (≤ℤ_refl (pos 0))) min_assoc r.lows s.lows t.lows,
      each-assoc int_max (max-is (≤ℤ_refl (pos 0))) max_assoc r.highs s.highs t.highs,
    )
    refl

-- ---- a row in which intervals were put
-- a word put in place, then f of both words at each place
each_set : (f : ℤ → ℤ → ℤ) (l m : List ℤ) → length l ≡ length m → (v : ℕ) (x : ℤ) → each f l (set m v x) ≡ set (each f l m) v (f (word_of l v) x)
unfolding each each_rest
each_set f [] [] e v x = refl
each_set f [] (y ∷ m) e v x = absurd (omega arith)
each_set f (w ∷ l) [] e v x = absurd (omega arith)
each_set f (w ∷ l) (y ∷ m) e zero x = refl
each_set f (w ∷ l) (y ∷ m) e (suc v) x = ap (λ (r : List ℤ). f w y ∷ r) (each_set f l m (omega arith) v x)

-- the same with two words, one after the other
pub each_sets : (f : ℤ → ℤ → ℤ) (l m : List ℤ) → length l ≡ length m → (v w : ℕ) (x y : ℤ) → each f l (set (set m v x) w y) ≡ set (set (each f l m) v (f (word_of l v) x)) w (f (word_of l w) y)
each_sets f l m e v w x y = each_set f l (set m v x) (e ∙ sym (length-set m v x)) w y ∙ ap (λ (r : List ℤ). set r w (f (word_of l w) y)) (each_set f l m e v x)

-- the ends of v in a row, widened by those of a..b
abbrev widened_at : Row → ℕ → ℤ → ℤ → Option Interval
widened_at r v a b = span (int_min (word_of r.lows v) a) (int_max (word_of r.highs v) b)

-- the row s with a..b at v and then c..d at w, joined to r: both rows joined, with the widened ends of r put there
join_written :
    (r s : Row) → length r.lows ≡ length s.lows → length r.highs ≡ length s.highs
    → (v w : ℕ) (a b c d : ℤ)
    → join_rows_of (Some r) (then_row (put_of s v (span a b)) (λ q. put_of q w (span c d)))
    ≡ then_row (put_of (joined r s) v (widened_at r v a b)) (λ q. put_of q w (widened_at r w c d))
unfolding join_rows_of then_row put_of
join_written r s e h v w a b c d = rw (each_sets int_min r.lows s.lows e v w a c, each_sets int_max r.highs s.highs h v w b d) refl

-- a row that is there
there : (f : Bool) (p q : Row) → maybe_by f p ≡ Some q → p ≡ q
unfolding maybe_by is_some left_of
there true p q e = ap left_of e
there false p q e = clash (sym (ap is_some e))

-- as the code makes it: t is both rows joined, and the widened ends are put there, one after the other
pub written_is :
    (r s : Row) → length r.lows ≡ length s.lows → length r.highs ≡ length s.highs
    → (v w : ℕ) (a b c d : ℤ) (f g : Bool) (t p q : Row) {x y : Option Interval}
    → x ≡ widened_at r v a b → y ≡ widened_at r w c d → Some t ≡ join_rows_of (Some r) (Some s) → maybe_by f p ≡ put_of t v x → maybe_by g q ≡ put_of p w y
    → Some q ≡ join_rows_of (Some r) (then_row (put_of s v (span a b)) (λ o. put_of o w (span c d)))
unfolding then_row put_of join_rows_of left_of
written_is r s l h v w a b c d f g t p q x-is y-is t-is p-is q-is =
    rw (there g q _ (rw y-is at q-is), there f p _ (rw x-is at p-is), ap left_of t-is) (sym (join_written r s l h v w a b c d))

-- the same of two intervals that are set, as `Row::widen_cut` sets them
pub widened_is :
    (r s : Row) → length r.lows ≡ length s.lows → length r.highs ≡ length s.highs
    → (v w : ℕ) (x y a b : Interval) (t p q : Row)
    → Some a ≡ widened_at r v x.low x.high → Some b ≡ widened_at r w y.low y.high
    → Some t ≡ join_rows_of (Some r) (Some s) → Some p ≡ put_of t v (Some a) → Some q ≡ put_of p w (Some b)
    → Some q ≡ join_rows_of (Some r) (then_row (put_of s v (Some x)) (λ o. put_of o w (Some y)))
unfolding maybe_by
widened_is r s l h v w x y a b t p q a-is b-is t-is p-is q-is = written_is r s l h v w x.low x.high y.low y.high true true t p q a-is b-is t-is p-is q-is
