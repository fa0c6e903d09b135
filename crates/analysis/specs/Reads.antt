-- Which variables a tree reads, and when two rows agree on them (document 02, request 3).
-- Assumes nothing.
use Rattle.std.specs.Prelude.{ℕ, ◌≡◌, Bool, true, false, ◌||◌, eqb, length}
use Rattle.interval.specs.Lattice.{is_none_of}
use Rattle.table.specs.Tree.{Arith, constant, input, variable, negation, binary, choice, no_arith, Cond, compare, both, either, is_not, no_cond}
use Rattle.analysis.specs.Rows.{Row, range_of}

-- ---- whether a tree reads the variable v: 'every variable read anywhere', in conditions, under choices and in both branches
unfoldable mutual
  pub reads : Arith → ℕ → Bool
  reads (constant n z) v = false
  reads (input n a b) v = false
  reads (variable n u) v = eqb u v
  reads (negation n x) v = reads x v
  reads (binary n op x y) v = reads x v || reads y v
  reads (choice n c x y) v = cond_reads c v || (reads x v || reads y v)
  reads (no_arith n) v = false

  pub cond_reads : Cond → ℕ → Bool
  cond_reads (compare n k x y) v = reads x v || reads y v
  cond_reads (both n c d) v = cond_reads c v || cond_reads d v
  cond_reads (either n c d) v = cond_reads c v || cond_reads d v
  cond_reads (is_not n c) v = cond_reads c v
  cond_reads (no_cond n) v = false

-- ---- 'two rows ... which agree on every variable read': their intervals are the same
pub record Agree (read : ℕ → Bool) (r s : Row) : Type 0 where
  pub at : (v : ℕ) → read v ≡ true → range_of r v ≡ range_of s v

-- 'without empty intervals'
pub record NoneEmpty (r : Row) : Type 0 where
  pub at : (v : ℕ) → is_none_of (range_of r v) ≡ false

-- each variable has both its ends: only then is a narrowed interval all in the row, or none of it
abbrev pub Paired : Row → Type 0
Paired r = length r.lows ≡ length r.highs
