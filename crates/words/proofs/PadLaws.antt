-- Words in an array, and zeros behind them, as the code makes them.
-- Assumes nothing.
use Prim.Native.Nat.{ℕ, min, ◌<◌}
use mathlib.Core.Path.{◌≡◌, sym, ◌∙◌}
use mathlib.Core.List.{List, ◌++◌}
use native.Mathlib.Omega.{arith}
use lib.IntN.{ℤ, pos}
use lib.ListN.{length, take, drop, replicate, length-take, length-append, length-drop, length-replicate}
use lib.Seq.{ext_get_or}
use Rattle.std.proofs.lemmas.Grind.{common_steps}
use Rattle.words.specs.Words.{word_of}
use Rattle.words.specs.Tabulate.{tabulate}
use Rattle.words.proofs.FillLaws.{length-tabulate, get_d_tabulate}

pub padded : (ws : List ℤ) (m n : ℕ) → n ≡ min (length ws) m → take n ws ++ drop n (replicate m (pos 0)) ≡ tabulate (word_of ws) m
padded ws m n e =
    let long : length (take n ws ++ drop n (replicate m (pos 0))) ≡ m = simp (length-append, length-take, length-drop, length-replicate) (omega arith) in
    ext_get_or (pos 0) _ _ (long ∙ sym (length-tabulate (word_of ws) m))
    (λ i b. let k : i < m = omega (arith, long) in word i k ∙ sym (get_d_tabulate (word_of ws) m i (pos 0) k))
  where
    word : (i : ℕ) → i < m → word_of (take n ws ++ drop n (replicate m (pos 0))) i ≡ word_of ws i
    word i h = grind (arith, common_steps)
