-- What a comparison of a known truth leaves of its two sides (document 01, 'Intervals', narrowing).
-- Assumes nothing.
use Rattle.std.specs.Prelude.{Bool, true, false, cond, ◌&&◌, ℤ, pos, ◌+ℤ◌, ◌-ℤ◌, None, Option}
use Rattle.interval.specs.Integer.{eq_z}
use Rattle.interval.specs.Interval.{on_both, from_to, span}
use Rattle.interval.specs.declared.Interval.{Interval}
use Rattle.interval.specs.declared.Cuts.{Cuts}
use Rattle.interval.specs.declared.Comparison.{Comparison}
use Rattle.interval.specs.declared.Comparison.TheVariants.{Less, AtMost, Equal, NotEqual}
use Rattle.std.specs.Int.{int_min, int_max}

-- 'an empty interval ... gives none': both sides where one is
abbrev pub no_cuts_of : Cuts
no_cuts_of = record { left = None; right = None }

unfoldable pub kept_of : Option Interval → Option Interval → Cuts
kept_of r s = on_both no_cuts_of (λ a b c d. record { left = span a b; right = span c d }) r s

-- the sides exchanged
abbrev pub swapped_of : Cuts → Cuts
swapped_of u = record { left = u.right; right = u.left }

-- 'not equal removes an end equal to the other side's single value': the ends of a..b past the c of c..d
unfoldable pub low_past_of : ℤ → ℤ → ℤ → ℤ
low_past_of a c d = cond (eq_z c d && eq_z a c) (a +ℤ pos 1) a

unfoldable pub high_past_of : ℤ → ℤ → ℤ → ℤ
high_past_of b c d = cond (eq_z c d && eq_z b c) (b -ℤ pos 1) b

unfoldable pub without_of : ℤ → ℤ → ℤ → ℤ → Option Interval
without_of a b c d = from_to (low_past_of a c d) (high_past_of b c d)

-- 'less cuts high a to high b - 1 and low b up to low a + 1; at most likewise without the 1; equal takes the meet'; 'both cuts use the ends
-- from before'
unfoldable pub cuts_at : Comparison → ℤ → ℤ → ℤ → ℤ → Cuts
cuts_at Less a b c d = kept_of (from_to a (int_min b (d -ℤ pos 1))) (from_to (int_max c (a +ℤ pos 1)) d)
cuts_at AtMost a b c d = kept_of (from_to a (int_min b d)) (from_to (int_max c a) d)
cuts_at Equal a b c d = kept_of (from_to (int_max a c) (int_min b d)) (from_to (int_max a c) (int_min b d))
cuts_at NotEqual a b c d = kept_of (without_of a b c d) (without_of c d a b)

-- the comparison and the truth that is wanted of it: 'a wanted "no" uses the opposite condition (not a < b is b at most a)'
unfoldable pub cuts_for_of : Comparison → Bool → ℤ → ℤ → ℤ → ℤ → Cuts
cuts_for_of k true a b c d = cuts_at k a b c d
cuts_for_of Less false a b c d = swapped_of (cuts_at AtMost c d a b)
cuts_for_of AtMost false a b c d = swapped_of (cuts_at Less c d a b)
cuts_for_of Equal false a b c d = cuts_at NotEqual a b c d
cuts_for_of NotEqual false a b c d = cuts_at Equal a b c d

-- 'an operand with none gives none'
unfoldable pub cuts_of : Comparison → Bool → Option Interval → Option Interval → Cuts
cuts_of k w r s = on_both no_cuts_of (cuts_for_of k w) r s
