-- What the code has where refusals 1 to 16 passed: no more nodes than there are marks for, and in the marks the words of the alarm list.
-- Assumes nothing.
use Prim.Native.Nat.{ℕ, ◌*◌, ◌≤◌}
use mathlib.Core.Path.{◌≡◌}
use mathlib.Core.List.{List}
use native.Mathlib.Omega.{arith}
use lib.IntN.{ℤ}
use lib.ListN.{replicate}
use Rattle.words.specs.Words.{number_at}
use Rattle.words.specs.Stages.{passed}
use Rattle.words.proofs.StageLaws.{and_then-first}
use Rattle.table.specs.Layout.{sizes_of}
use Rattle.table.specs.Validate.{validate_of}
use Rattle.table.proofs.PassLaws.{passes}
use Rattle.rules.specs.Examine.{ready_of, examined_of, marks_by, marks_of}
use Rattle.checker.specs.AlarmList.{pairs_of, alarm_words, marked_at}
use Rattle.checker.proofs.MarkLaws.{marks-words}

module _ (t w : List ℤ) (examined : examined_of t w ≡ passed) where
  ready : ready_of t w ≡ passed
  unfolding examined_of
  ready = and_then-first (ready_of t w) _ examined

  pub nodes_within : number_at t 4 ≤ 1024
  unfolding ready_of
  nodes_within = (passes t (and_then-first (validate_of t) _ ready)).nodes.high

  pub marked_words : pairs_of (marked_at (marks_of t w (replicate 2048 0))) (number_at t 4) ≡ alarm_words t w
  unfolding marks_of marks_by
  marked_words = rw ready (marks-words t w 2048 (omega (arith, nodes_within)))
