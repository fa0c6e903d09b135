-- Negation, sum, difference, product and quotient of intervals (document 01, 'Intervals'), and the remainder (document 02, request 1).
-- Assumes nothing.
use Rattle.std.specs.Prelude.{Bool, true, false, cond, ◌||◌, ◌&&◌, ℤ, pos, negsuc, neg_ℤ, nat_abs, ◌+ℤ◌, ◌-ℤ◌, ◌*ℤ◌, None, Option, Some}
use Rattle.std.specs.Int.Signed.{le_z, lt_z, quot_z, rem_z}
use Rattle.interval.specs.Integer.{min4_z, max4_z, eq_z}
use Rattle.interval.specs.Interval.{least, greatest, on_ends, on_both, from_to}
use Rattle.interval.specs.declared.Interval.{Interval}
use Rattle.interval.specs.declared.Operation.{Operation}
use Rattle.interval.specs.declared.Operation.TheVariants.{Sum, Difference, Product, Quotient, Remainder}
use Rattle.interval.specs.declared.Computed.{Computed}
use Rattle.interval.specs.declared.Uncut.{Uncut}
use Rattle.std.specs.Int.{int_min, int_max}

-- ---- on numbers
-- the exact result; a quotient is cut towards zero, and a remainder has the dividend's sign
abbrev pub exact : Operation → ℤ → ℤ → ℤ
exact Sum x y = x +ℤ y
exact Difference x y = x -ℤ y
exact Product x y = x *ℤ y
exact Quotient x y = quot_z x y
exact Remainder x y = rem_z x y

-- whether the operation divides by its right operand
abbrev pub divides_of : Operation → Bool
divides_of Sum = false
divides_of Difference = false
divides_of Product = false
divides_of Quotient = true
divides_of Remainder = true

-- whether it divides by zero
abbrev pub by_zero : Operation → ℤ → Bool
by_zero op y = divides_of op && eq_z y (pos 0)

-- whether z is a word
abbrev pub is_word : ℤ → Bool
is_word z = le_z least z && le_z z greatest

-- the exact results from lo to hi
abbrev pub pair : ℤ → ℤ → Option Uncut
pair lo hi = Some (record { low = lo; high = hi })

-- ---- the uncut pair: 'least and greatest exact result over the ends (four pairs for two operands)'
abbrev pub ends : (ℤ → ℤ) → ℤ → ℤ → Option Uncut
ends f a b = pair (int_min (f a) (f b)) (int_max (f a) (f b))

unfoldable pub hull_of : ℤ → ℤ → ℤ → ℤ → Option Uncut
hull_of p q r s = pair (min4_z p q r s) (max4_z p q r s)

abbrev pub corners : (ℤ → ℤ → ℤ) → ℤ → ℤ → ℤ → ℤ → Option Uncut
corners f a b c d = hull_of (f a c) (f a d) (f b c) (f b d)

-- the quotient: 'split the divisor into its part below 0 and its part above 0', a part without a number giving no pair
unfoldable pub below_of : ℤ → ℤ → ℤ → ℤ → Option Uncut
below_of a b c d = cond (le_z c (negsuc 0)) (corners quot_z a b c (int_min d (negsuc 0))) None

unfoldable pub above_of : ℤ → ℤ → ℤ → ℤ → Option Uncut
above_of a b c d = cond (le_z (pos 1) d) (corners quot_z a b (int_max c (pos 1)) d) None

-- 'least and greatest corner quotient over the nonempty parts'
unfoldable pub either_part_of : Option Uncut → Option Uncut → Option Uncut
either_part_of None v = v
either_part_of (Some u) None = Some u
either_part_of (Some u) (Some v) = pair (int_min u.low v.low) (int_max u.high v.high)

-- the remainder: D, 'the greatest magnitude in the divisor's interval, less 1', which is at one of its ends
abbrev pub magnitude : ℤ → ℤ
magnitude z = pos (nat_abs z)

unfoldable pub largest_of : ℤ → ℤ → ℤ
largest_of c d = int_max (magnitude c) (magnitude d) -ℤ pos 1

-- 'the low end is the greater of low a and -D if low a is negative, else 0'
unfoldable pub remainder_low_of : ℤ → ℤ → ℤ
remainder_low_of a most = cond (lt_z a (pos 0)) (int_max a (neg_ℤ most)) (pos 0)

-- 'the high end is the lesser of high a and D if high a is positive, else 0'
unfoldable pub remainder_high_of : ℤ → ℤ → ℤ
remainder_high_of b most = cond (lt_z (pos 0) b) (int_min b most) (pos 0)

-- 'a divisor of only 0 gives none'
unfoldable pub remainders_of : ℤ → ℤ → ℤ → ℤ → Option Uncut
remainders_of a b c d = cond (eq_z c (pos 0) && eq_z d (pos 0)) None (pair (remainder_low_of a (largest_of c d)) (remainder_high_of b (largest_of c d)))

-- ---- the pair of each operation
unfoldable pub uncut_of : Operation → ℤ → ℤ → ℤ → ℤ → Option Uncut
uncut_of Sum a b c d = corners ◌+ℤ◌ a b c d
uncut_of Difference a b c d = corners ◌-ℤ◌ a b c d
uncut_of Product a b c d = corners ◌*ℤ◌ a b c d
uncut_of Quotient a b c d = either_part_of (below_of a b c d) (above_of a b c d)
uncut_of Remainder a b c d = remainders_of a b c d

-- 'zero is possible exactly if the divisor's interval holds 0'
abbrev pub zero_in_of : Operation → ℤ → ℤ → Bool
zero_in_of op c d = divides_of op && (le_z c (pos 0) && le_z (pos 0) d)

-- ---- 'cut to MIN..MAX; none if nothing is left'
abbrev pub clamp_of : ℤ → ℤ → Option Interval
clamp_of lo hi = from_to (int_max lo least) (int_min hi greatest)

-- 'overflow is possible exactly if the uncut pair passes MIN or MAX'
abbrev pub passes_of : ℤ → ℤ → Bool
passes_of lo hi = lt_z lo least || lt_z greatest hi

unfoldable pub computed_of : Option Uncut → Bool → Computed
computed_of None z = record { range = None; overflow = false; zero = z }
computed_of (Some u) z = record { range = clamp_of u.low u.high; overflow = passes_of u.low u.high; zero = z }

-- ---- on intervals: 'an operand with none gives none and no alarm at this node'
abbrev pub nothing_of : Computed
nothing_of = record { range = None; overflow = false; zero = false }

unfoldable pub negate_of : Option Interval → Computed
negate_of r = on_ends nothing_of (λ a b. computed_of (ends neg_ℤ a b) false) r

unfoldable pub operate_of : Operation → Option Interval → Option Interval → Computed
operate_of op r s = on_both nothing_of (λ a b c d. computed_of (uncut_of op a b c d) (zero_in_of op c d)) r s
