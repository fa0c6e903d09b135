-- Decisions: which of true and false are possible for a comparison of intervals, and for both, either and not (document 01, 'Intervals').
-- Assumes nothing.
use Rattle.std.specs.Prelude.{Bool, true, false, cond, not, ◌&&◌, ◌||◌, ℤ, Option}
use Rattle.std.specs.Int.Signed.{le_z, lt_z}
use Rattle.interval.specs.Integer.{eq_z}
use Rattle.interval.specs.Interval.{on_both}
use Rattle.interval.specs.declared.Interval.{Interval}
use Rattle.interval.specs.declared.Decision.{Decision}
use Rattle.interval.specs.declared.Comparison.{Comparison}
use Rattle.interval.specs.declared.Comparison.TheVariants.{Less, AtMost, Equal, NotEqual}

-- ---- on numbers
abbrev pub test : Comparison → ℤ → ℤ → Bool
test Less x y = lt_z x y
test AtMost x y = le_z x y
test Equal x y = eq_z x y
test NotEqual x y = not (eq_z x y)

-- ---- decisions
abbrev pub decision : Bool → Bool → Decision
decision t f = record { yes = t; no = f }

-- document 01's none
abbrev pub neither_of : Decision
neither_of = decision false false

abbrev pub is_some : Decision → Bool
is_some d = d.yes || d.no

-- whether the truth b is possible
abbrev pub allows : Decision → Bool → Bool
allows d true = d.yes
allows d false = d.no

-- 'none on any side gives none'
abbrev pub if_some : Decision → Decision → Decision → Decision
if_some d e x = cond (is_some d && is_some e) x neither_of

-- 'both and either combine the possibilities of their sides, not exchanges them'
unfoldable pub both_of : Decision → Decision → Decision
both_of d e = if_some d e (decision (d.yes && e.yes) (d.no || e.no))

unfoldable pub either_of : Decision → Decision → Decision
either_of d e = if_some d e (decision (d.yes || e.yes) (d.no && e.no))

unfoldable pub opposite_of : Decision → Decision
opposite_of d = decision d.no d.yes

-- ---- on intervals, from the ends a..b and c..d
abbrev pub meets_of : ℤ → ℤ → ℤ → ℤ → Bool
meets_of a b c d = le_z a d && le_z c b

-- 'both are the same single value'
abbrev pub same_single_of : ℤ → ℤ → ℤ → ℤ → Bool
same_single_of a b c d = eq_z a b && (eq_z c d && eq_z a c)

-- less: 'true if low a < high b, false if high a >= low b'; at most: 'true if low a <= high b, false if high a > low b'; equal: 'true if they
-- meet, false unless both are the same single value'; 'not equal reversed'
unfoldable pub decide_of : Comparison → ℤ → ℤ → ℤ → ℤ → Decision
decide_of Less a b c d = decision (lt_z a d) (le_z c b)
decide_of AtMost a b c d = decision (le_z a d) (lt_z c b)
decide_of Equal a b c d = decision (meets_of a b c d) (not (same_single_of a b c d))
decide_of NotEqual a b c d = decision (not (same_single_of a b c d)) (meets_of a b c d)

unfoldable pub compare_of : Comparison → Option Interval → Option Interval → Decision
compare_of k r s = on_both neither_of (decide_of k) r s
