-- The starred examples of document 01 for single operations, and the remainder of document 02's request 1, in one table proved by computation.
-- Assumes nothing.
use Rattle.std.specs.Prelude.{◌≡◌, refl, Bool, true, false, List, [], ◌∷◌, map, pos, negsuc, None, Option}
use Rattle.interval.specs.Integer.{min4_z, max4_z, eq_z}
use Rattle.interval.specs.Interval.{least, greatest, on_ends, span}
use Rattle.interval.specs.Arithmetic.{hull_of, below_of, above_of, either_part_of, largest_of, remainder_low_of, remainder_high_of, remainders_of, uncut_of, computed_of, negate_of, operate_of}
use Rattle.interval.specs.Narrow.{kept_of, cuts_at, cuts_for_of, cuts_of}
use Rattle.interval.specs.declared.Interval.{Interval}
use Rattle.interval.specs.declared.Computed.{Computed}
use Rattle.interval.specs.declared.Operation.TheVariants.{Sum, Difference, Product, Quotient, Remainder}
use Rattle.interval.specs.declared.Comparison.TheVariants.{Less}

-- what an operation gave, and what the document says of it
pub record Row : Type 0 where
  pub got : Computed
  pub said : Computed

abbrev gives : Option Interval → Bool → Bool → Computed
gives r o z = record { range = r; overflow = o; zero = z }

abbrev row : Computed → Computed → Row
row g s = record { got = g; said = s }

unfoldable pub table : List Row
table =
    -- -(MIN..0) is 0..MAX, overflow
    row (negate_of (span least (pos 0))) (gives (span (pos 0) greatest) true false)
    -- 1..2 times MAX is MAX..MAX, overflow
    ∷ row (operate_of Product (span (pos 1) (pos 2)) (span greatest greatest)) (gives (span greatest greatest) true false)
    -- MIN / -1: none, overflow
    ∷ row (operate_of Quotient (span least least) (span (negsuc 0) (negsuc 0))) (gives None true false)
    -- -7..7 / -2..3 is -7..7, zero
    ∷ row (operate_of Quotient (span (negsuc 6) (pos 7)) (span (negsuc 1) (pos 3))) (gives (span (negsuc 6) (pos 7)) false true)
    -- 10 divided by 0..5: 2..10, zero possible
    ∷ row (operate_of Quotient (span (pos 10) (pos 10)) (span (pos 0) (pos 5))) (gives (span (pos 2) (pos 10)) false true)
    -- v < v on 0..9: the meet of the two cuts is 1..8, so the cuts are 0..8 and 1..9
    ∷ row (gives (cuts_of Less true (span (pos 0) (pos 9)) (span (pos 0) (pos 9))).left false false) (gives (span (pos 0) (pos 8)) false false)
    ∷ row (gives (cuts_of Less true (span (pos 0) (pos 9)) (span (pos 0) (pos 9))).right false false) (gives (span (pos 1) (pos 9)) false false)
    -- -7 / 2 is -3, not -4
    ∷ row (operate_of Quotient (span (negsuc 6) (negsuc 6)) (span (pos 2) (pos 2))) (gives (span (negsuc 2) (negsuc 2)) false false)
    -- an interval handed in with its low end above its high is taken as none, and gives no alarm
    ∷ row (operate_of Quotient (span (pos 1) (pos 2)) (span (pos 0) (negsuc 0))) (gives None false false)
    ∷ row (operate_of Sum (span (pos 2) (pos 1)) (span greatest greatest)) (gives None false false)
    ∷ row (operate_of Difference (span (pos 1) (pos 2)) (span (negsuc 2) (pos 4))) (gives (span (negsuc 2) (pos 5)) false false)
    -- 5 by 3: 0..2, though the exact remainder is 2
    ∷ row (operate_of Remainder (span (pos 5) (pos 5)) (span (pos 3) (pos 3))) (gives (span (pos 0) (pos 2)) false false)
    -- MIN by -1 gives 0, and no alarm
    ∷ row (operate_of Remainder (span least least) (span (negsuc 0) (negsuc 0))) (gives (span (pos 0) (pos 0)) false false)
    -- for a divisor of MIN, D is MAX
    ∷ row (operate_of Remainder (span least greatest) (span least least)) (gives (span (negsuc 2147483646) greatest) false false)
    -- each end is the dividend's own, -D or D, or 0: -7..7 by -2..3 is -2..2, -3..100 by 8 is -3..7, 3..4 by -9..-5 is 0..4, -100..-20 by 12 is -11..0
    ∷ row (operate_of Remainder (span (negsuc 6) (pos 7)) (span (negsuc 1) (pos 3))) (gives (span (negsuc 1) (pos 2)) false true)
    ∷ row (operate_of Remainder (span (negsuc 2) (pos 100)) (span (pos 8) (pos 8))) (gives (span (negsuc 2) (pos 7)) false false)
    ∷ row (operate_of Remainder (span (pos 3) (pos 4)) (span (negsuc 8) (negsuc 4))) (gives (span (pos 0) (pos 4)) false false)
    ∷ row (operate_of Remainder (span (negsuc 99) (negsuc 19)) (span (pos 12) (pos 12))) (gives (span (negsuc 10) (pos 0)) false false)
    -- a divisor of only 0 gives none; an operand with none gives none and no alarm
    ∷ row (operate_of Remainder (span (pos 1) (pos 2)) (span (pos 0) (pos 0))) (gives None false true)
    ∷ row (operate_of Remainder None (span (pos 0) (pos 0))) (gives None false false)
    ∷ row (operate_of Remainder (span (pos 1) (pos 2)) None) (gives None false false)
    ∷ []

abbrev pub Starred : Type 0
Starred = map (λ (r : Row). r.got) table ≡ map (λ (r : Row). r.said) table

pub starred : Starred
unfolding table on_ends negate_of operate_of min4_z max4_z eq_z hull_of below_of above_of either_part_of largest_of remainder_low_of remainder_high_of remainders_of uncut_of computed_of kept_of cuts_at cuts_for_of cuts_of
starred = refl
