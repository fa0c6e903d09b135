-- The lattice of intervals: none, the order, meet and join (document 01, 'Intervals').
-- Assumes nothing.
use Rattle.std.specs.Prelude.{◌≡◌, Bool, true, false, ◌&&◌, None, Option}
use Rattle.std.specs.Int.Signed.{le_z}
use Rattle.interval.specs.Interval.{on_ends, on_both, from_to, taken_of, span}
use Rattle.interval.specs.declared.Interval.{Interval}
use Rattle.std.specs.Int.{int_min, int_max}

abbrev pub is_none_of : Option Interval → Bool
is_none_of r = on_ends true (λ a b. false) r

-- whether r lies within s; none lies within every interval
unfoldable pub within_of : Option Interval → Option Interval → Bool
within_of r s = on_ends true (λ a b. on_ends false (λ c d. le_z c a && le_z b d) s) r

infix 20 ◌⊑◌
abbrev pub ◌⊑◌ : Option Interval → Option Interval → Type 0
r ⊑ s = within_of r s ≡ true

-- the numbers of both
unfoldable pub meet_of : Option Interval → Option Interval → Option Interval
meet_of r s = on_both None (λ a b c d. from_to (int_max a c) (int_min b d)) r s

-- the least interval that holds both, none adding nothing
unfoldable pub join_of : Option Interval → Option Interval → Option Interval
join_of r s = on_ends (taken_of s) (λ a b. on_ends (span a b) (λ c d. span (int_min a c) (int_max b d)) s) r
