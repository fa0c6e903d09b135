-- Parts of a list of words: what a part holds, and how long it is.
-- Assumes nothing.
use Prim.Native.Nat.{ℕ, ◌+◌, ◌-◌, ◌<◌, ◌≤◌}
use mathlib.Core.Path.{◌≡◌, sym, ◌∙◌}
use mathlib.Core.List.{List, []}
use native.Mathlib.Omega.{arith}
use native.Mathlib.Nat.{add-sub_cancel_left}
use lib.IntN.{ℤ, pos}
use lib.ListN.{length, take, drop, length-drop, length-take, drop_of_length-le}
use lib.Seq.{take_all, take-nil, get_or-take, get_or-drop}
use Rattle.words.specs.Words.{word_of, part_of}

pub part-past : (ws : List ℤ) (from count : ℕ) → length ws ≤ from → part_of ws from count ≡ []
part-past ws from count h = rw (drop_of_length-le ws h) (take-nil count)

-- a part that runs to the end, and one that does not, as the code cuts them
pub part-rest : (ws : List ℤ) (from count : ℕ) → length ws - from ≤ count → part_of ws from count ≡ take (length ws - from) (drop from ws)
part-rest ws from count h =
    take_all count (drop from ws) (rw (length-drop from ws) h)
    ∙ sym (take_all (length ws - from) (drop from ws) (rw (length-drop from ws) (omega arith)))

pub part-some : (ws : List ℤ) (from count : ℕ) → take (from + count - from) (drop from ws) ≡ part_of ws from count
part-some ws from count = rw add-sub_cancel_left

-- a word of a part is a word of the whole
pub part-word : (ws : List ℤ) (from count i : ℕ) → i < count → word_of (part_of ws from count) i ≡ word_of ws (from + i)
part-word ws from count i h = get_or-take count (drop from ws) i (pos 0) h ∙ get_or-drop from ws i (pos 0)

-- a part that the whole has room for is as long as was asked
pub part_length : (ws : List ℤ) (from count : ℕ) → from + count ≤ length ws → length (part_of ws from count) ≡ count
part_length ws from count h = simp (length-take, length-drop) (omega arith)
