-- The printing program, from the bytes of standard input to the text that it prints (document 01, 'The run', the printing program).
-- Assumes nothing.
use Rattle.std.specs.Prelude.{ℕ, ◌+◌, ◌*◌, Bool, true, false, ◌&&◌, List, [], ◌∷◌, leb, ℤ, length, drop}
use Rattle.words.specs.Words.{number_of}
use Rattle.words.specs.Tabulate.{tabulate}
use Rattle.words.specs.Bytes.{word_in}
use Rattle.rangecheck.specs.Print.{printed_of}

-- 'reads little-endian words from standard input: table length, proposal length, both parts'
-- word 0 is the table's length and word 1 the proposal's; one below 0 becomes a number past both limits
unfoldable pub length_at : List ℕ → ℕ → ℕ
length_at b k = number_of (word_in b k)

unfoldable pub table_of : List ℕ → List ℤ
table_of b = tabulate (word_in (drop 8 b)) (length_at b 0)

unfoldable pub proposal_of : List ℕ → List ℤ
proposal_of b = tabulate (word_in (drop (8 + 4 * length_at b 0) b)) (length_at b 1)

-- both lengths have come, and lie in '0..5149 and 0..11268'
unfoldable pub in_limits : List ℕ → Bool
in_limits b = leb 8 (length b) && (leb (length_at b 0) 5149 && leb (length_at b 1) 11268)

-- how many bytes are called for: the lengths, and the parts where the lengths lie in their limits
unfoldable pub called_by : Bool → List ℕ → ℕ
called_by true b = 8 + 4 * length_at b 0 + 4 * length_at b 1
called_by false b = 8

unfoldable pub called_for : List ℕ → ℕ
called_for b = called_by (in_limits b) b

-- there are no 'missing bytes'; bytes after the parts are ignored
unfoldable pub all_there : List ℕ → Bool
all_there b = in_limits b && leb (called_for b) (length b)

-- 'unread', as a line
abbrev pub unread : List ℕ
unread = 117 ∷ 110 ∷ 114 ∷ 101 ∷ 97 ∷ 100 ∷ 10 ∷ []

unfoldable pub program_by : Bool → List ℕ → List ℕ
program_by true b = printed_of (table_of b) (proposal_of b)
program_by false b = unread

-- the text that the program prints, given those bytes
unfoldable pub program_of : List ℕ → List ℕ
program_of b = program_by (all_there b) b
