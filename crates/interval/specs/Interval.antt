-- Intervals of words: their ends, and the numbers in them (document 01, 'Intervals').
-- Assumes nothing.
use Rattle.std.specs.Prelude.{cond, ℤ, pos, negsuc, ◌≤ℤ◌, None, Option, Some}
use Rattle.std.specs.Int.Signed.{le_z}
use Rattle.interval.specs.declared.Interval.{Interval}

-- MIN and MAX
abbrev pub least : ℤ
least = negsuc 2147483647

abbrev pub greatest : ℤ
greatest = pos 2147483647

-- from lo to hi, in this order or not
abbrev pub span : ℤ → ℤ → Option Interval
span lo hi = Some (record { low = lo; high = hi })

-- f of the interval's ends, or n where it is none. 'An interval handed in with its low end above its high is taken as none': this is the one
-- place that says so, and every operation on intervals is made with it
unfoldable pub on_ends : {A : Type 0} → A → (ℤ → ℤ → A) → Option Interval → A
on_ends n f None = n
on_ends n f (Some e) = cond (le_z e.low e.high) (f e.low e.high) n

-- f of the ends of both, or n where one is none
abbrev pub on_both : {A : Type 0} → A → (ℤ → ℤ → ℤ → ℤ → A) → Option Interval → Option Interval → A
on_both n f r s = on_ends n (λ a b. on_ends n (λ c d. f a b c d) s) r

-- ---- one interval
-- from lo to hi: none where lo is above hi
abbrev pub from_to : ℤ → ℤ → Option Interval
from_to lo hi = cond (le_z lo hi) (span lo hi) None

-- the interval as it is taken
abbrev pub taken_of : Option Interval → Option Interval
taken_of r = on_ends None span r

-- ---- what an interval means: the numbers that it holds
pub record Within (lo hi z : ℤ) : Type 0 where
  pub low : lo ≤ℤ z
  pub high : z ≤ℤ hi

abbrev pub Holds : Option Interval → ℤ → Type 0
Holds None z = ⊥
Holds (Some e) z = Within e.low e.high z
