-- Words read without a condition.
-- Assumes nothing.
use Rattle.std.specs.Prelude.{ℕ, Bool, ◌&&◌, List, leb, ℤ, pos, negsuc, get_or, take, drop}

-- the word at an index; 0 past the end
abbrev pub word_of : List ℤ → ℕ → ℤ
word_of ws i = get_or ws i (pos 0)

-- a word as a number; one below 0 becomes a number that is no size, kind or index
unfoldable pub number_of : ℤ → ℕ
number_of (pos n) = n
number_of (negsuc n) = 4294967295

-- the word at an index, as a number
abbrev pub number_at : List ℤ → ℕ → ℕ
number_at ws i = number_of (word_of ws i)

-- the words from an index on, so many of them or as many as there are
abbrev pub part_of : List ℤ → ℕ → ℕ → List ℤ
part_of ws from count = take count (drop from ws)

-- lo to hi holds n
abbrev pub inside : ℕ → ℕ → ℕ → Bool
inside lo hi n = leb lo n && leb n hi
