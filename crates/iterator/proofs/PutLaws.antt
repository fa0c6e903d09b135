-- Elements put from a place on: none, one, one list and then another, what stands at the front then; the values of a function,
-- and a list a turn.
-- Assumes nothing.
use Prim.Native.Nat.{ℕ, suc, ◌+◌, ◌*◌, ◌<◌, ◌≤◌}
use mathlib.Core.Path.{◌≡◌, refl, sym, ap, subst, ◌∙◌}
use mathlib.Core.List.{List, [], ◌∷◌, ◌++◌}
use native.Mathlib.Nat.{add-zero, div-le_self, mod-le, le_antisymm, mul-le-mul_right, suc-mul}
use native.Mathlib.Numerals.{add-one}
use native.Mathlib.Omega.{arith}
use lib.ListN.{length, drop, set, length-append}
use lib.Seq.{paste}
use Rattle.std.proofs.lemmas.List.Edits.{paste_none, paste_all, paste_more, paste-paste}
use Rattle.words.specs.Tabulate.{tabulate}
use Rattle.words.proofs.FillLaws.{length-tabulate, get_d_tabulate}
use Rattle.proposer.specs.Fold.{concat_below}
use Rattle.iterator.specs.Write.{Puts}

module _ {A : Type 0} where
  pub puts_none : (d : List A) (at : ℕ) → Puts d at [] d at
  puts_none d at = record { is = paste_none d at []; next-is = sym (add-zero at) }

  pub puts_one : (d : List A) (at : ℕ) (x : A) → at < length d → Puts d at (x ∷ []) (set d at x) (at + 1)
  puts_one d at x h =
      record {
        is =
            ap (λ (l : List A). set l at x) (paste_none d at (x ∷ []))
            ∙ ap (λ (k : ℕ). set (paste d at (x ∷ []) 0) k x) (sym (add-zero at)) ∙ paste_more d at (x ∷ []) 0 x (omega arith) (omega arith);
        next-is = refl;
      }

  pub puts_append : {d m e ps qs : List A} {at k next : ℕ} → at ≤ length d → Puts d at ps m k → Puts m k qs e next → Puts d at (ps ++ qs) e next
  puts_append {d} {m} {e} {ps} {qs} {at} {k} {next} h p q =
      record {
        is = q.is ∙ rw (p.is, p.next-is, length-append ps qs) (paste-paste d at ps qs (length ps) (length qs) refl refl h);
        next-is = omega (arith, p.next-is, q.next-is, length-append ps qs);
      }

  -- at the front
  pub puts_front : {d e ws : List A} {next : ℕ} → Puts d 0 ws e next → e ≡ ws ++ drop next d
  puts_front {d} {e} {ws} p =
      p.is ∙ paste_all d 0 ws (length ws) refl ∙ ap (λ (k : ℕ). ws ++ drop k d) (sym p.next-is)

  -- ---- a loop that puts the values of a function, k of them so far
  module _ (f : ℕ → A) (d : List A) (at n : ℕ) {l : List A} {k : ℕ} (is : l ≡ paste d at (tabulate f n) k) where
    pub each_next : {x : A} → at + n ≤ length d → k < n → x ≡ f k → set l (at + k) x ≡ paste d at (tabulate f n) (k + 1)
    each_next {x} room below e =
        let more = length-tabulate f n in
        rw (is, e ∙ sym (get_d_tabulate f n k x below)) (paste_more d at (tabulate f n) k x (omega arith) (omega arith))

    pub each_end : k ≤ n → n ≤ k → Puts d at (tabulate f n) l (at + n)
    each_end within end =
        let all = length-tabulate f n in
        let here : k ≡ length (tabulate f n) = omega arith in
        record { is = is ∙ ap (λ (j : ℕ). paste d at (tabulate f n) j) here; next-is = omega arith }

  -- ---- a loop that puts a list a turn
  pub concat_none : (f : ℕ → List A) (d : List A) (at : ℕ) → Puts d at (concat_below f 0) d at
  unfolding concat_below
  concat_none f d at = puts_none d at

  pub concat_next : (f : ℕ → List A) {d m e : List A} {at k next after : ℕ} → at ≤ length d → Puts d at (concat_below f k) m next → Puts m next (f k) e after
      → Puts d at (concat_below f (k + 1)) e after
  unfolding concat_below
  concat_next f {k = k} h p q = rw (add-one k) (puts_append h p q)

  pub concat_end : (f : ℕ → List A) {d m : List A} {at k n next : ℕ} → k ≤ n → n ≤ k → Puts d at (concat_below f k) m next → Puts d at (concat_below f n) m next
  concat_end f {d} {m} {at} {next = next} within end p = subst (λ (j : ℕ). Puts d at (concat_below f j) m next) (le_antisymm within end) p

-- a part of a number is no greater
pub ruleset parts = (div-le_self, mod-le)

-- the room of row k of r rows
pub row_room : (at k r v n : ℕ) → k < r → at + r * v ≤ n → at + k * v + v ≤ n
row_room at k r v n l h = omega (arith, mul-le-mul_right {m = suc k} {n = r} v l, suc-mul k v)

pub row_next : (at k v : ℕ) {next after : ℕ} → next ≡ at + k * v → after ≡ next + v → after ≡ at + (k + 1) * v
row_next at k v is e = rw (add-one k) (omega (arith, is, e, suc-mul k v))
