-- Text in ASCII: a number in decimal.
-- Assumes nothing.
use Rattle.std.specs.Prelude.{ℕ, zero, suc, ◌+◌, ◌/◌, ◌%◌, Bool, true, false, List, [], ◌∷◌, ◌++◌, ltb}

-- the last digit alone, where it is all; else behind those before it
unfoldable pub last_or : Bool → List ℕ → ℕ → List ℕ
last_or true front d = (48 + d) ∷ []
last_or false front d = front ++ ((48 + d) ∷ [])

-- a number's digits, at most k of them
unfoldable pub digits_in : ℕ → ℕ → List ℕ
digits_in zero n = []
digits_in (suc k) n = last_or (ltb n 10) (digits_in k (n / 10)) (n % 10)

-- a number below 2^64 has at most 20 digits
abbrev pub decimal_of : ℕ → List ℕ
decimal_of n = digits_in 20 n
