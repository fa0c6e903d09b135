-- The words before this one are there, whatever function the closure computes.
-- Assumes nothing.
use Rattle.std.proofs.Common.{◌≡◌, ℕ, ◌<◌, ℤ}
use lib.Seq.{paste}
use Rattle.words.specs.Tabulate.{tabulate}
use Rattle.iterator.proofs.write.put_each.Given as goal

abbrev pub invariant-loop-k : goal.invariant-loop-k
invariant-loop-k g l =
    (f : ℕ → ℤ) → ((k : ℕ) (r : ℤ) → k < l.fn.n → goal.F-post g l.fn.word k r → r ≡ f k) → l.out ≡ paste l.initial.out l.at (tabulate f l.fn.n) l.k
