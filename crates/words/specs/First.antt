-- The smallest place at which a test fails; a test at every place, and at some place.
-- Assumes nothing.
use Rattle.std.specs.Prelude.{ℕ, zero, suc, Bool, true, false, ◌&&◌, ◌||◌, Option, None, Some, ltb}
use Rattle.words.specs.declared.search.Places.{Places}

-- nothing where the test holds, and the place where it fails
unfoldable pub unless : Bool → ℕ → Option ℕ
unless true p = None
unless false p = Some p

-- the first answer, unless it is nothing
unfoldable pub or_else : Option ℕ → Option ℕ → Option ℕ
or_else (Some p) later = Some p
or_else None later = later

-- the smallest place below n at which the test fails
unfoldable pub first_bad : (ℕ → Bool) → ℕ → Option ℕ
first_bad f zero = None
first_bad f (suc n) = or_else (first_bad f n) (unless (f n) n)

abbrev pub places : ℕ → ℕ → Places
places from to = record { from = from; to = to }

-- the smallest of the places at which the test fails
unfoldable pub first_bad_in : (ℕ → Bool) → Places → Option ℕ
first_bad_in f r = first_bad (λ k. ltb k r.from || f k) r.to

-- the test holds at each place below n
unfoldable pub all_below : (ℕ → Bool) → ℕ → Bool
all_below f zero = true
all_below f (suc n) = all_below f n && f n

-- the test holds at some place below n
unfoldable pub some_below : (ℕ → Bool) → ℕ → Bool
some_below f zero = false
some_below f (suc n) = some_below f n || f n
