-- Refusal 16 by its tests.
-- Assumes nothing.
use Prim.Native.Nat.{ℕ, ◌+◌, ◌-◌, ◌*◌, ◌<◌, ◌≤◌}
use mathlib.Core.Path.{◌≡◌}
use mathlib.Core.Bool.{Bool, not}
use mathlib.Core.List.{List}
use native.Mathlib.Omega.{arith}
use borrow.Author.Tests.{lt-ltb, le-ltb}
use lib.IntN.{ℤ}
use lib.ListN.{length}
use Rattle.words.specs.Words.{word_of}
use Rattle.table.specs.Layout.{sizes_of}
use Rattle.table.specs.Decode.{point_of}
use Rattle.table.specs.Passes.{FormedPoint}
use Rattle.table.specs.declared.Point.{Point}
use Rattle.table.specs.declared.Point.TheVariants.{Unlock}
use Rattle.rules.specs.declared.checked.Checked.{Checked}
use Rattle.rules.specs.Held.{has_of}
use Rattle.rules.specs.Proposal.{intervals_of, head_of, rest_at}
use Rattle.rules.specs.Rules.{implies, takes, rest_point, rest_entry, rule16}
use Rattle.rules.proofs.ProposalLaws.{intervals-bound}
use Rattle.rules.proofs.PartsLaws.{row_room, row_low, row-high}
use Rattle.rules.proofs.CheckedLaws.{ready_of, formed_at, lows_count, highs_count}

-- ---- at a place: a point, or an entry
pub rest_at_point : (t w : List ℤ) (place : ℕ) → place < (sizes_of t).points → rule16 t w place ≡ rest_point t w place
unfolding rule16
rest_at_point t w place l = rw (lt-ltb place (sizes_of t).points l)

pub rest_at_entry : (t w : List ℤ) (place : ℕ) → (sizes_of t).points ≤ place → rule16 t w place ≡ rest_entry t w (place - (sizes_of t).points)
unfolding rule16
rest_at_entry t w place l = rw (le-ltb place (sizes_of t).points l)

module _ (c : Checked) where
  -- the mutex of an unlock is one of the table's
  pub unlock_names : (p : ℕ) {m q : ℕ} {x : Point} → p < (sizes_of c.proposal.table.words.now).points
      → x ≡ point_of c.proposal.table.points.now p → x ≡ Unlock m q → m < (sizes_of c.proposal.table.words.now).mutexes
  unfolding FormedPoint
  unlock_names p l e f = (formed_at c p l e f).0

  -- ---- the ends of the variable v in the rest row of m, straight from all low and all high ends
  module _ (m v : ℕ) (lm : m < (sizes_of c.proposal.table.words.now).mutexes) (lv : v < (sizes_of c.proposal.table.words.now).variables) where
    rest-inside : (c.proposal.table.sizes.points + m) * c.proposal.table.sizes.variables + v < intervals_of c.proposal.table.words.now c.proposal.words.now
    rest-inside =
        let ready = ready_of c in
        let room = row_room ready.bounded ((sizes_of c.proposal.table.words.now).points + m) (omega arith) in
        rw c.proposal.table.cut.sizes (omega arith)

    pub rest_fits : (c.proposal.table.sizes.points + m) * c.proposal.table.sizes.variables + v < 4736
    rest_fits = let ready = ready_of c in omega (arith, rest-inside, intervals-bound ready.bounded)

    pub rest_low_there : (c.proposal.table.sizes.points + m) * c.proposal.table.sizes.variables + v < length c.proposal.rows.lows.now
    rest_low_there = rw (lows_count c.proposal) rest-inside

    pub rest_high_there : (c.proposal.table.sizes.points + m) * c.proposal.table.sizes.variables + v < length c.proposal.rows.highs.now
    rest_high_there = rw (highs_count c.proposal) rest-inside

    pub rest_low : word_of (rest_at c.proposal.table.words.now c.proposal.words.now m).lows v
        ≡ word_of c.proposal.rows.lows.now ((c.proposal.table.sizes.points + m) * c.proposal.table.sizes.variables + v)
    rest_low = rw (c.proposal.parts.lows, c.proposal.table.cut.sizes) (row_low (ready_of c) ((sizes_of c.proposal.table.words.now).points + m) v lv)

    pub rest_high : word_of (rest_at c.proposal.table.words.now c.proposal.words.now m).highs v
        ≡ word_of c.proposal.rows.highs.now ((c.proposal.table.sizes.points + m) * c.proposal.table.sizes.variables + v)
    rest_high = rw (c.proposal.parts.highs, c.proposal.table.cut.sizes) (row-high (ready_of c) ((sizes_of c.proposal.table.words.now).points + m) v lv)

-- ---- at an entry and a mutex: the entry has the mutex, or lies within its rest row
abbrev pub entry_rests : List ℤ → List ℤ → ℕ → ℕ → Bool
entry_rests t w i m = implies (not (has_of (head_of t w i 1) m)) (takes t w (rest_at t w m) i)
