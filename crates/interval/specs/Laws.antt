-- What the definitions mean for the numbers in the intervals, and how they stand in the order 'lies within': every law that crates above use.
-- The function `laws_hold` has them as its contract.
-- Assumes nothing.
use Rattle.std.specs.Prelude.{◌≡◌, Bool, true, false, not, ◌&&◌, ◌||◌, ◌⊎◌, ℤ, pos, neg_ℤ, ◌+ℤ◌, ◌≤ℤ◌, Option}
use Rattle.interval.specs.Interval.{least, greatest, Within, Holds, span}
use Rattle.interval.specs.Lattice.{is_none_of, ◌⊑◌, meet_of, join_of}
use Rattle.interval.specs.Arithmetic.{exact, by_zero, is_word, magnitude, largest_of, negate_of, operate_of}
use Rattle.interval.specs.Compare.{test, allows, both_of, either_of, opposite_of, compare_of}
use Rattle.interval.specs.Narrow.{cuts_of}
use Rattle.interval.specs.declared.Interval.{Interval}
use Rattle.interval.specs.declared.Operation.{Operation}
use Rattle.interval.specs.declared.Operation.TheVariants.{Sum, Difference, Product, Quotient, Remainder}
use Rattle.interval.specs.declared.Computed.{Computed}
use Rattle.interval.specs.declared.Comparison.{Comparison}
use Rattle.interval.specs.declared.Decision.{Decision}
use Rattle.interval.specs.declared.Cuts.{Cuts}

-- ---- what is wider
-- q has each result of p and each of its alarms
pub record Wider (p q : Computed) : Type 0 where
  pub range : p.range ⊑ q.range
  pub overflow : p.overflow ≡ true → q.overflow ≡ true
  pub zero : p.zero ≡ true → q.zero ≡ true

-- e allows each truth that d allows
pub record Allows (d e : Decision) : Type 0 where
  pub truth : (b : Bool) → allows d b ≡ true → allows e b ≡ true

pub record CutsWithin (u v : Cuts) : Type 0 where
  pub left : u.left ⊑ v.left
  pub right : u.right ⊑ v.right

-- ---- arithmetic
pub record Negation : Type 0 where
  -- an exact result that is a word lies in the interval, and one that isn't is told as overflow
  pub negate-contains : (r : Option Interval) (x : ℤ) → Holds r x → is_word (neg_ℤ x) ≡ true → Holds (negate_of r).range (neg_ℤ x)
  pub negate-overflow : (r : Option Interval) (x : ℤ) → Holds r x → is_word (neg_ℤ x) ≡ false → (negate_of r).overflow ≡ true
  -- none only where every exact result is outside
  pub negate-some : (r : Option Interval) (x : ℤ) → Holds r x → is_none_of (negate_of r).range ≡ true → is_word (neg_ℤ x) ≡ false

-- the ends of the uncut pair are exact results: of a remainder they need not be, as 5 by 3 gives 0..2
abbrev pub ExactEnds : Operation → Type 0
ExactEnds Sum = Unit {0}
ExactEnds Difference = Unit {0}
ExactEnds Product = Unit {0}
ExactEnds Quotient = Unit {0}
ExactEnds Remainder = ⊥

-- the operands x of r and y of s, whose exact result is no word
pub record Outside (op : Operation) (r s : Option Interval) : Type 0 where
  pub x : ℤ
  pub y : ℤ
  pub left : Holds r x
  pub right : Holds s y
  pub divides : by_zero op y ≡ false
  pub outside : is_word (exact op x y) ≡ false

-- an operand x of r, where s holds 0 and the operation divides by it
pub record Divided (op : Operation) (r s : Option Interval) : Type 0 where
  pub x : ℤ
  pub left : Holds r x
  pub right : Holds s (pos 0)
  pub divides : by_zero op (pos 0) ≡ true

pub record Operations : Type 0 where
  pub operate-contains : (op : Operation) (r s : Option Interval) (x y : ℤ) → Holds r x → Holds s y → by_zero op y ≡ false → is_word (exact op x y) ≡ true → Holds (operate_of op r s).range (exact op x y)
  pub operate-overflow : (op : Operation) (r s : Option Interval) (x y : ℤ) → Holds r x → Holds s y → by_zero op y ≡ false → is_word (exact op x y) ≡ false → (operate_of op r s).overflow ≡ true
  pub operate-zero : (op : Operation) (r s : Option Interval) (x y : ℤ) → Holds r x → Holds s y → by_zero op y ≡ true → (operate_of op r s).zero ≡ true
  pub operate-some : (op : Operation) (r s : Option Interval) (x y : ℤ) → Holds r x → Holds s y → by_zero op y ≡ false → is_none_of (operate_of op r s).range ≡ true → is_word (exact op x y) ≡ false
  -- zero is told only where the divisor's interval holds 0
  pub operate-zero-only : (op : Operation) (r s : Option Interval) → (operate_of op r s).zero ≡ true → Divided op r s
  -- overflow is told only where some exact result is outside; of a remainder, never (`remainder-no-overflow`)
  pub operate-overflow-only : (op : Operation) → ExactEnds op → (r s : Option Interval) → (operate_of op r s).overflow ≡ true → Outside op r s

pub record Remainders : Type 0 where
  -- D is 'the greatest magnitude in the divisor's interval, less 1': none is greater, and an end has it
  pub largest-bounds : (c d y : ℤ) → Within c d y → magnitude y ≤ℤ (largest_of c d +ℤ pos 1)
  pub largest-attained : (c d : ℤ) → (magnitude c ≡ largest_of c d +ℤ pos 1) ⊎ (magnitude d ≡ largest_of c d +ℤ pos 1)
  -- 'zero is its only alarm': of words, a remainder never overflows
  pub remainder-no-overflow : (r s : Option Interval) → r ⊑ span least greatest → (operate_of Remainder r s).overflow ≡ false

-- ---- decisions
pub record Decisions : Type 0 where
  -- the truth of a comparison, and of a combination, is possible
  pub compare-allows : (k : Comparison) (r s : Option Interval) (x y : ℤ) → Holds r x → Holds s y → allows (compare_of k r s) (test k x y) ≡ true
  pub both-allows : (d e : Decision) (s t : Bool) → allows d s ≡ true → allows e t ≡ true → allows (both_of d e) (s && t) ≡ true
  pub either-allows : (d e : Decision) (s t : Bool) → allows d s ≡ true → allows e t ≡ true → allows (either_of d e) (s || t) ≡ true
  pub opposite-allows : (d : Decision) (t : Bool) → allows d t ≡ true → allows (opposite_of d) (not t) ≡ true

-- ---- cuts, meet and join
pub record Narrowing : Type 0 where
  -- the cuts for the truth that a comparison has keep both numbers, and lie within what was cut
  pub cuts-contains-left : (k : Comparison) (r s : Option Interval) (x y : ℤ) → Holds r x → Holds s y → Holds (cuts_of k (test k x y) r s).left x
  pub cuts-contains-right : (k : Comparison) (r s : Option Interval) (x y : ℤ) → Holds r x → Holds s y → Holds (cuts_of k (test k x y) r s).right y
  pub cuts-within-left : (k : Comparison) (w : Bool) (r s : Option Interval) → (cuts_of k w r s).left ⊑ r
  pub cuts-within-right : (k : Comparison) (w : Bool) (r s : Option Interval) → (cuts_of k w r s).right ⊑ s
  -- and meeting them with what was cut changes nothing
  pub cuts-met-left : (k : Comparison) (w : Bool) (r s : Option Interval) → meet_of r (cuts_of k w r s).left ≡ (cuts_of k w r s).left
  pub cuts-met-right : (k : Comparison) (w : Bool) (r s : Option Interval) → meet_of s (cuts_of k w r s).right ≡ (cuts_of k w r s).right

pub record Lattice : Type 0 where
  pub meet-contains : (r s : Option Interval) (z : ℤ) → Holds r z → Holds s z → Holds (meet_of r s) z
  pub meet-within-left : (r s : Option Interval) → meet_of r s ⊑ r
  pub meet-within-right : (r s : Option Interval) → meet_of r s ⊑ s
  pub join-contains-left : (r s : Option Interval) (z : ℤ) → Holds r z → Holds (join_of r s) z
  pub join-contains-right : (r s : Option Interval) (z : ℤ) → Holds s z → Holds (join_of r s) z
  pub join-within : (r s t : Option Interval) → r ⊑ t → s ⊑ t → join_of r s ⊑ t
  pub join-comm : (r s : Option Interval) → join_of r s ≡ join_of s r
  -- r lies within s exactly when s holds every number of r
  pub within-holds : (r s : Option Interval) → r ⊑ s → (z : ℤ) → Holds r z → Holds s z
  pub holds-within : (r s : Option Interval) → ((z : ℤ) → Holds r z → Holds s z) → r ⊑ s
  pub within-refl : (r : Option Interval) → r ⊑ r
  pub within-trans : (r s t : Option Interval) → r ⊑ s → s ⊑ t → r ⊑ t

-- ---- monotone: wider operands give a wider result and keep its flags
pub record Monotone : Type 0 where
  pub meet-mono : (r r' s s' : Option Interval) → r ⊑ r' → s ⊑ s' → meet_of r s ⊑ meet_of r' s'
  pub join-mono : (r r' s s' : Option Interval) → r ⊑ r' → s ⊑ s' → join_of r s ⊑ join_of r' s'
  pub negate-mono : (r r' : Option Interval) → r ⊑ r' → Wider (negate_of r) (negate_of r')
  pub operate-mono : (op : Operation) (r r' s s' : Option Interval) → r ⊑ r' → s ⊑ s' → Wider (operate_of op r s) (operate_of op r' s')
  pub compare-mono : (k : Comparison) (r r' s s' : Option Interval) → r ⊑ r' → s ⊑ s' → Allows (compare_of k r s) (compare_of k r' s')
  pub both-mono : (d d' e e' : Decision) → Allows d d' → Allows e e' → Allows (both_of d e) (both_of d' e')
  pub either-mono : (d d' e e' : Decision) → Allows d d' → Allows e e' → Allows (either_of d e) (either_of d' e')
  pub opposite-mono : (d d' : Decision) → Allows d d' → Allows (opposite_of d) (opposite_of d')
  pub cuts-mono : (k : Comparison) (w : Bool) (r r' s s' : Option Interval) → r ⊑ r' → s ⊑ s' → CutsWithin (cuts_of k w r s) (cuts_of k w r' s')

pub record Laws : Type 0 where
  pub negation : Negation
  pub operations : Operations
  pub remainders : Remainders
  pub decisions : Decisions
  pub narrowing : Narrowing
  pub lattice : Lattice
  pub monotone : Monotone
