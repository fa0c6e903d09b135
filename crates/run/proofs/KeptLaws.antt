-- What a program has of its table: the words of the nodes and of the points with zeros behind them, so the same four words at each number, the same
-- trees at its nodes, and the same at its points.
-- Assumes nothing.
use Prim.Native.Nat.{ℕ, suc, min, ◌*◌, ◌<◌, ◌≤◌}
use mathlib.Core.Path.{◌≡◌, refl, sym, ap, fun_ext, ◌∙◌}
use mathlib.Core.Bool.{Bool, true, false}
use mathlib.Core.List.{List, ◌++◌}
use native.Mathlib.Omega.{arith}
use borrow.Author.Tests.{ltb-true, ltb-false}
use lib.Dec.{ltb}
use lib.IntN.{ℤ, pos}
use lib.ListN.{length, take, drop, replicate, length-take, length-append, length-drop, length-replicate, get_or-eq_default}
use lib.Seq.{ext_get_or}
use Rattle.std.proofs.lemmas.Grind.{common_steps}
use Rattle.words.specs.Words.{word_of}
use Rattle.words.specs.Stages.{passed}
use Rattle.words.specs.Tabulate.{tabulate}
use Rattle.words.proofs.FillLaws.{length-tabulate, get_d_tabulate}
use Rattle.table.specs.Layout.{sizes_of, points_of, nodes_of, four_by, four_of}
use Rattle.table.specs.Validate.{validate_of}
use Rattle.table.specs.Decode.{shape_from, shape_of, point_from, point_of}
use Rattle.table.specs.Passes.{Passes}
use Rattle.table.specs.Tree.{arith_f, cond_f, arith_at, cond_at}
use Rattle.table.proofs.KindLaws.{four-words}
use Rattle.table.proofs.PassLaws.{passes}
use Rattle.run.specs.Kept.{Kept}

-- ---- they read as the words do
same-word : (ws : List ℤ) (m : ℕ) → length ws ≤ m → (i : ℕ) → word_of (tabulate (word_of ws) m) i ≡ word_of ws i
same-word ws m h i = by (ltb i m) refl
  where
    by : (b : Bool) → ltb i m ≡ b → word_of (tabulate (word_of ws) m) i ≡ word_of ws i
    by true e = get_d_tabulate (word_of ws) m i (pos 0) (ltb-true i m e)
    by false e =
        let past = ltb-false i m e in
        get_or-eq_default (tabulate (word_of ws) m) (pos 0) (rw (length-tabulate (word_of ws) m) past) ∙ sym (get_or-eq_default ws (pos 0) (omega arith))

same-four : (ws : List ℤ) (k m : ℕ) → length ws ≡ 4 * k → k ≤ m → (n : ℕ) → four_of (tabulate (word_of ws) (4 * m)) n ≡ four_of ws n
unfolding four_by
same-four ws k m e h n =
    let same = same-word ws (4 * m) (omega arith) in
    simp (four-words ws k e n, four-words (tabulate (word_of ws) (4 * m)) m (length-tabulate (word_of ws) (4 * m)) n, same)

-- ---- the program of a table
module _ (t : List ℤ) (ok : Passes t) where
  node-count : length (nodes_of t) ≡ 4 * (sizes_of t).nodes
  unfolding nodes_of
  node-count = simp (length-take, length-drop) (omega (arith, ok.whole))

  point-count : length (points_of t) ≡ 4 * (sizes_of t).points
  unfolding points_of
  point-count = simp (length-take, length-drop) (omega (arith, ok.whole))

  kept-all : Kept t (tabulate (word_of (nodes_of t)) 4096) (tabulate (word_of (points_of t)) 1024)
  kept-all = record { node = same-four (nodes_of t) _ 1024 node-count ok.nodes.high; point = same-four (points_of t) _ 256 point-count ok.points.high }

-- from what the code made
pub kept_made :
    (t ns ps nodes points : List ℤ) → validate_of t ≡ passed → ns ≡ nodes_of t → ps ≡ points_of t →
    nodes ≡ tabulate (word_of ns) 4096 → points ≡ tabulate (word_of ps) 1024 → Kept t nodes points
kept_made t ns ps nodes points ok en ep h k = rw (h, k, en, ep) (kept-all t (passes t ok))

-- ---- what is kept
module _ {t nodes points : List ℤ} (k : Kept t nodes points) where
  shapes : shape_of nodes ≡ shape_of (nodes_of t)
  shapes = fun_ext (λ n. ap (shape_from n) (k.node n))

  pub kept-arith : (n : ℕ) → arith_at nodes n ≡ arith_at (nodes_of t) n
  unfolding arith_at
  kept-arith n = ap (λ s. arith_f (suc n) s n) shapes

  pub kept-cond : (n : ℕ) → cond_at nodes n ≡ cond_at (nodes_of t) n
  unfolding cond_at
  kept-cond n = ap (λ s. cond_f (suc n) s n) shapes

  pub kept-point : (q : ℕ) → point_of points q ≡ point_of (points_of t) q
  kept-point q = ap point_from (k.point q)

pub ruleset kept = (kept-arith, kept-cond, kept-point)
