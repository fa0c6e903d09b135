-- What the analysis writes into a row has its ends in order: the interval of a tree, the cuts of a comparison, and the row that narrowing leaves.
-- Assumes nothing.
use Prim.Native.Nat.{ℕ, ◌≤◌, zero-le}
use mathlib.Core.Path.{◌≡◌, refl, sym, subst, ◌∙◌}
use mathlib.Core.Bool.{Bool, true, false}
use mathlib.Core.List.{List, [], ◌∷◌}
use native.Mathlib.Omega.{arith}
use lib.IntN.{ℤ, pos}
use lib.ListN.{length, drop, replicate, length-replicate}
use lib.Signed.{le_z, ≤ℤ_refl}
use Rattle.words.specs.Words.{word_of}
use Rattle.interval.specs.Interval.{least, greatest, on_ends, from_to, taken_of, span}
use Rattle.interval.specs.Lattice.{meet_of, join_of}
use Rattle.interval.specs.Arithmetic.{computed_of, nothing_of, negate_of, operate_of}
use Rattle.interval.specs.Narrow.{cuts_of}
use Rattle.interval.specs.declared.Comparison.{Comparison}
use Rattle.interval.specs.declared.Cuts.{Cuts}
use Rattle.interval.specs.declared.Interval.{Interval}
use Rattle.interval.specs.declared.Operation.{Operation}
use Rattle.interval.specs.declared.Uncut.{Uncut}
use Rattle.interval.proofs.IntegerLaws.{le_z-cases, le_z-yes', le-true, ≤_trans, min-left, max-left}
use Rattle.interval.proofs.IntervalLaws.{on_ends-cases, on_both-cases, taken-ordered}
use Rattle.interval.proofs.LatticeLaws as lattice
use Rattle.interval.proofs.NarrowLaws.{cuts-met}
use Rattle.table.specs.Tree.{Arith, constant, input, variable, negation, binary, choice, no_arith, Cond, compare, both, either, is_not, no_cond}
use Rattle.analysis.specs.declared.Row.{Row}
use Rattle.analysis.specs.Rows.{range_of, own_of, then_row, put_of, meet_at_of, each, join_rows_of}
use Rattle.analysis.specs.Analysis.{carry_of, carry_both_of, value_of, narrow_of}
use Rattle.analysis.specs.Arrays.{left_of}
use Rattle.analysis.specs.Cuts.{met_if}
use Rattle.analysis.proofs.RowLaws.{joined, joined-low-is, joined-high-is, slots-within}
use Rattle.rules.specs.Ready.{Ordered}
use Rattle.rules.proofs.RowLaws.{slots_length, written-ordered}
use Rattle.std.specs.Int.{int_min, int_max}
use Rattle.std.specs.Prelude.{None, Option, Some}

-- ---- intervals
from-ordered : (a b : ℤ) → lattice.Ordered (from_to a b)
from-ordered a b = le_z-cases lattice.Ordered a b (span a b) None (λ h. h) (λ h. tt)

computed-ordered : (u : Option Uncut) (z : Bool) → lattice.Ordered (computed_of u z).range
unfolding computed_of
computed-ordered None z = tt
computed-ordered (Some u) z = from-ordered (int_max u.low least) (int_min u.high greatest)

negate-ordered : (r : Option Interval) → lattice.Ordered (negate_of r).range
unfolding negate_of
negate-ordered r = on_ends-cases (λ c. lattice.Ordered c.range) nothing_of _ r tt (λ a b _ _. computed-ordered _ _)

operate-ordered : (op : Operation) (r s : Option Interval) → lattice.Ordered (operate_of op r s).range
unfolding operate_of
operate-ordered op r s = on_both-cases (λ c. lattice.Ordered c.range) nothing_of _ r s tt (λ a b c d _ _ _ _. computed-ordered _ _)

join-ordered : (r s : Option Interval) → lattice.Ordered (join_of r s)
unfolding join_of
join-ordered r s =
    on_ends-cases lattice.Ordered (taken_of s) _ r (on_ends-cases lattice.Ordered None span s tt (λ c d k _. k))
    (λ a b h _. on_ends-cases lattice.Ordered (span a b) _ s h (λ c d k _. ≤_trans (min-left a c) (≤_trans h (max-left b d))))

value-in-order : (x : Arith) (r : Row) → lattice.Ordered (value_of x r)
unfolding value_of
value-in-order (constant n z) r = ≤ℤ_refl z
value-in-order (input n a b) r = max-left a b
value-in-order (variable n v) r = from-ordered (word_of r.lows v) (word_of r.highs v)
value-in-order (negation n x) r = negate-ordered (value_of x r)
value-in-order (binary n op x y) r = operate-ordered op (value_of x r) (value_of y r)
value-in-order (choice n c x y) r = join-ordered _ _
value-in-order (no_arith n) r = ≤ℤ_refl (pos 0)

-- the ends that were read of one
ends-ordered : {x : Option Interval} {e : Interval} → lattice.Ordered x → x ≡ Some e → le_z e.low e.high ≡ true
ends-ordered o q = le-true (rw q at o)

pub value-ordered : (x : Arith) (r : Row) {i : Option Interval} {e : Interval} → i ≡ value_of x r → i ≡ Some e → le_z e.low e.high ≡ true
value-ordered x r f q = ends-ordered (value-in-order x r) (sym f ∙ q)

-- ---- cuts
in-order-taken : (x : Option Interval) → lattice.Ordered x → taken_of x ≡ x
unfolding on_ends
in-order-taken None o = refl
in-order-taken (Some e) o = rw (le-true o)

pub cuts-taken : (k : Comparison) (w : Bool) (r s : Option Interval) {u : Cuts} → u ≡ cuts_of k w r s → (taken_of u.left ≡ u.left) × (taken_of u.right ≡ u.right)
cuts-taken k w r s e =
    let met = cuts-met k w r s in
    rw e
    (in-order-taken _ (subst lattice.Ordered met.0 (lattice.meet-ordered r _)), in-order-taken _ (subst lattice.Ordered met.1 (lattice.meet-ordered s _)))

pub taken-in-order : (x : Option Interval) {e : Interval} → taken_of x ≡ x → x ≡ Some e → le_z e.low e.high ≡ true
taken-in-order x {e} t q = le-true (taken-ordered x e.low e.high (t ∙ q))

-- the second, which is met with the first where both are of one variable
pub last-ordered : (same : Bool) (l r : Option Interval) {x : Option Interval} {e : Interval} → taken_of r ≡ r → x ≡ met_if same l r → x ≡ Some e → le_z e.low e.high ≡ true
unfolding met_if
last-ordered true l r t f q = ends-ordered (lattice.meet-ordered l r) (sym f ∙ q)
last-ordered false l r t f q = taken-in-order r t (sym f ∙ q)

-- ---- rows of n variables, through narrowing
each_long : (f : ℤ → ℤ → ℤ) (l m : List ℤ) → length l ≤ length (each f l m)
unfolding each
each_long f [] m = zero-le
each_long f (x ∷ l) m = let k = each_long f l (drop 1 m) in omega arith

module _ (n : ℕ) where
  abbrev Neat : Row → Type 0
  Neat r = Ordered r.lows r.highs n

  abbrev Left : Option Row → Type 0
  Left None = Unit {0}
  Left (Some r) = Neat r

  joined-neat : (r s : Row) → Neat r → Neat s → Neat (joined r s)
  joined-neat r s o p = record {
    low = omega (arith, o.low, each_long int_min r.lows s.lows);
    high = omega (arith, o.high, each_long int_max r.highs s.highs);
    ends = λ v l. rw (joined-low-is r s v, joined-high-is r s v)
        (le-true (≤_trans (min-left _ _) (≤_trans (le_z-yes' (word_of r.lows v) (word_of r.highs v) (o.ends v l)) (max-left _ _))));
  }

  meet_at-neat : (r : Row) (v : ℕ) (i : Option Interval) → Neat r → Left (meet_at_of r v i)
  unfolding meet_at_of put_of
  meet_at-neat r v i o = by (meet_of (range_of r v) i) (lattice.meet-ordered (range_of r v) i)
    where
      by : (m : Option Interval) → lattice.Ordered m → Left (put_of r v m)
      by None p = tt
      by (Some e) p = written-ordered v e.low e.high o (le-true p)

  carry-neat : (x : Arith) (i : Option Interval) (r : Row) → Neat r → Left (carry_of x i r)
  unfolding carry_of
  carry-neat x None r o = tt
  carry-neat (constant k z) (Some e) r o = o
  carry-neat (input k l h) (Some e) r o = o
  carry-neat (variable k v) (Some e) r o = meet_at-neat r v (span e.low e.high) o
  carry-neat (negation k x) (Some e) r o = o
  carry-neat (binary k op x y) (Some e) r o = o
  carry-neat (choice k c x y) (Some e) r o = o
  carry-neat (no_arith k) (Some e) r o = o

  then-neat : (m : Option Row) (f : Row → Option Row) → Left m → ((r : Row) → Neat r → Left (f r)) → Left (then_row m f)
  unfolding then_row
  then-neat None f o g = tt
  then-neat (Some r) f o g = g r o

  join_rows-neat : (m k : Option Row) → Left m → Left k → Left (join_rows_of m k)
  unfolding join_rows_of
  join_rows-neat None k o p = p
  join_rows-neat (Some r) None o p = o
  join_rows-neat (Some r) (Some s) o p = joined-neat r s o p

  narrow-neat : (c : Cond) (w : Bool) (r : Row) → Neat r → Left (narrow_of c w r)
  unfolding narrow_of carry_both_of
  narrow-neat (compare k q x y) w r o = then-neat _ _ (carry-neat x _ r o) (λ s p. carry-neat y _ s p)
  narrow-neat (both k c d) true r o = then-neat _ _ (narrow-neat c true r o) (λ s p. narrow-neat d true s p)
  narrow-neat (both k c d) false r o = join_rows-neat _ _ (narrow-neat c false r o) (narrow-neat d false r o)
  narrow-neat (either k c d) true r o = join_rows-neat _ _ (narrow-neat c true r o) (narrow-neat d true r o)
  narrow-neat (either k c d) false r o = then-neat _ _ (narrow-neat c false r o) (λ s p. narrow-neat d false s p)
  narrow-neat (is_not k c) true r o = narrow-neat c false r o
  narrow-neat (is_not k c) false r o = narrow-neat c true r o
  narrow-neat (no_cond k) true r o = tt
  narrow-neat (no_cond k) false r o = o

  module _ (few : n ≤ 16) where
    left-neat : (m : Option Row) → Left m → Neat (left_of m)
    unfolding left_of
    left-neat None o = record { low = simp length-replicate few; high = simp length-replicate few; ends = λ v l. le-true (≤ℤ_refl (word_of (replicate 16 (pos 0)) v)) }
    left-neat (Some r) o = o

    own-neat : (r : Row) → Neat r → Neat (own_of r)
    own-neat r o = record {
      low = rw (slots_length r.lows) few;
      high = rw (slots_length r.highs) few;
      ends = λ v l. rw (slots-within r.lows v (omega arith), slots-within r.highs v (omega arith)) (o.ends v l);
    }

    -- what is left of a row in sixteen slots: s is the row as the code has it, q what narrowing left in its place
    pub narrowed : (c : Cond) (w : Bool) (r : Row) {s q : Row} → s ≡ own_of r → q ≡ left_of (narrow_of c w s) → Ordered r.lows r.highs n → Ordered q.lows q.highs n
    narrowed c w r e f o = rw (f, e) (left-neat _ (narrow-neat c w (own_of r) (own-neat r o)))
