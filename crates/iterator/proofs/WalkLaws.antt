-- The round that makes no new mark is the last.
-- Assumes nothing.
use Rattle.std.proofs.Common.{◌≡◌, ℕ, ◌≤◌, Bool, false, List, ℤ, sym, subst, ◌∙◌}
use Rattle.proposer.specs.Fold.{fold_below}
use Rattle.proposer.specs.Walk.{mark_count, round_of, first_marks, walks_of}
use Rattle.iterator.specs.Marks.{Marked}
use Rattle.iterator.proofs.FoldLaws.{fold_rest}

pub last_round : (t : List ℤ) {k : ℕ} {a b : List Bool} {new : Bool} → k ≤ mark_count t → a ≡ fold_below (λ (m : List Bool) (_ : ℕ). round_of t m) (first_marks t) k
    → Marked (round_of t a) a b new → new ≡ false → b ≡ walks_of t
unfolding walks_of
last_round t {k} {a} l e m old =
    let still : round_of t a ≡ a = sym m.marks ∙ m.still old in
    m.still old ∙ e ∙ sym (fold_rest (round_of t) (first_marks t) k (mark_count t) l (subst (λ (w : List Bool). round_of t w ≡ w) e still))
