-- Words from bytes, little-endian and in two's complement (document 01, 'The run', the printing program).
-- Assumes nothing.
use Rattle.std.specs.Prelude.{ℕ, ◌+◌, ◌*◌, ◌-◌, ◌/◌, min, Bool, true, false, List, ◌++◌, ltb, ℤ, pos, negsuc, length, get_or, drop}
use Rattle.words.specs.Tabulate.{tabulate}

-- the four bytes from an index on, the lowest first
abbrev pub unsigned_of : List ℕ → ℕ → ℕ
unsigned_of b i = get_or b i 0 + 256 * get_or b (i + 1) 0 + 65536 * get_or b (i + 2) 0 + 16777216 * get_or b (i + 3) 0

unfoldable pub signed_by : Bool → ℕ → ℤ
signed_by true n = pos n
signed_by false n = negsuc (4294967295 - n)

-- a number below 2^32 as a signed word: from 2^31 on it stands for itself less 2^32
unfoldable pub signed_of : ℕ → ℤ
signed_of n = signed_by (ltb n 2147483648) n

-- word k of the bytes
abbrev pub word_in : List ℕ → ℕ → ℤ
word_in b k = signed_of (unsigned_of b (4 * k))

-- how many words there are bytes and room for
abbrev pub whole_of : List ℕ → List ℤ → ℕ
whole_of b room = min (length room) (length b / 4)

-- the room with those words at its front
abbrev pub decoded_of : List ℕ → List ℤ → List ℤ
decoded_of b room = tabulate (word_in b) (whole_of b room) ++ drop (whole_of b room) room
