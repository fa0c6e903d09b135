-- The alarm list: the (node, kind) pairs that the analysis calls possible at reached points, by node, then kind (document 01, 'Refusals of a
-- check').
-- Assumes nothing.
use Rattle.std.specs.Prelude.{ℕ, zero, suc, Bool, true, false, List, [], ◌∷◌, ◌++◌, eqb, ℤ, pos, get_or}
use Rattle.words.specs.First.{some_below}
use Rattle.table.specs.Layout.{sizes_of}
use Rattle.analysis.specs.Alarms.{lists, place_of}
use Rattle.rules.specs.Alarms.{alarms_at}

-- some reached point has the alarm (n, k)
unfoldable pub raised : List ℤ → List ℤ → ℕ → ℕ → Bool
raised t w n k = some_below (λ p. lists n k (alarms_at t w p)) (sizes_of t).points

-- ---- the words of the pairs that a test holds of
unfoldable pub pair_if : Bool → ℕ → ℕ → List ℤ
pair_if true n k = pos n ∷ pos k ∷ []
pair_if false n k = []

-- of one node, '1 overflow, 2 zero'
unfoldable pub pairs_at : (ℕ → ℕ → Bool) → ℕ → List ℤ
pairs_at f n = pair_if (f n 1) n 1 ++ pair_if (f n 2) n 2

-- of the nodes below n
unfoldable pub pairs_of : (ℕ → ℕ → Bool) → ℕ → List ℤ
pairs_of f zero = []
pairs_of f (suc n) = pairs_of f n ++ pairs_at f n

-- ---- the words that acceptance writes
unfoldable pub alarm_words : List ℤ → List ℤ → List ℤ
alarm_words t w = pairs_of (raised t w) (sizes_of t).nodes

-- the marks have a one for (n, k)
abbrev pub marked_at : List ℕ → ℕ → ℕ → Bool
marked_at marks n k = eqb (get_or marks (place_of n k) 0) 1
