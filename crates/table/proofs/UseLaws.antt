-- How often a node is used: what a count of one says of the users, and that the counts that stop at two tell a count of one.
-- Assumes nothing.
use Prim.Native.Nat.{ℕ, zero, suc, ◌+◌, ◌<◌, ◌≤◌, min}
use mathlib.Core.Path.{◌≡◌, refl, ◌∙◌}
use mathlib.Core.Bool.{Bool}
use mathlib.Core.List.{List, [], ◌∷◌, ◌++◌}
use native.Mathlib.Nat.{zero-add}
use native.Mathlib.Omega.{arith}
use lib.Dec.{eqb}
use lib.IntN.{ℤ}
use lib.ListN.{length, get_or, replicate, length-set, length-replicate, get_or-replicate}
use Rattle.std.proofs.lemmas.Grind.{common_steps}
use Rattle.words.specs.First.{first_bad}
use Rattle.table.specs.Layout.{sizes_of, nodes_of, points_of}
use Rattle.table.specs.Uses.{node_refs, point_refs, refs_below, one_if, count_of, uses_of, rule6, bump_of, use_of, uses_in, is_one_of}
use Rattle.std.specs.Prelude.{Option}

-- ---- counts over lists and over users
pub count-append : (n : ℕ) (l m : List ℕ) → count_of n (l ++ m) ≡ count_of n l + count_of n m
unfolding count_of
count-append n [] m = omega arith
count-append n (x ∷ l) m = omega (arith, count-append n l m)

module _ (f : ℕ → List ℕ) (n : ℕ) where
  -- one user's count, and two users' counts, are within the count of all
  pub user-count : (k p : ℕ) → p < k → count_of n (f p) ≤ count_of n (refs_below f k)
  unfolding refs_below
  user-count zero p l = absurd (omega arith)
  user-count (suc k) p l = let before = user-count k p in grind (arith, common_steps, count-append)

  users-count : (k p q : ℕ) → p < q → q < k → count_of n (f p) + count_of n (f q) ≤ count_of n (refs_below f k)
  unfolding refs_below
  users-count zero p q l h = absurd (omega arith)
  users-count (suc k) p q l h = let one = user-count k p in let two = users-count k p q l in grind (arith, common_steps, count-append)

  -- so a node counted once has no two users
  pub users-apart : (k p q : ℕ) → count_of n (refs_below f k) ≤ 1 → p < k → q < k → 1 ≤ count_of n (f p) → 1 ≤ count_of n (f q) → p ≡ q
  users-apart k p q one lp lq cp cq =
      let before : p < q → ⊥ = λ l. omega (arith, users-count k p q l lq) in
      let after : q < p → ⊥ = λ l. omega (arith, users-count k q p l lp) in
      omega arith

-- ---- the counts that stop at two
pub uses-append : (counts l m : List ℕ) → uses_in counts (l ++ m) ≡ uses_in (uses_in counts l) m
unfolding uses_in
uses-append counts [] m = refl
uses-append counts (n ∷ l) m = uses-append (use_of counts n) l m

-- no use changes how many counts there are
use-length : (counts : List ℕ) (x : ℕ) → length (use_of counts x) ≡ length counts
unfolding use_of
use-length counts x = simp length-set

uses-length : (counts refs : List ℕ) → length (uses_in counts refs) ≡ length counts
unfolding uses_in
uses-length counts [] = refl
uses-length counts (x ∷ refs) = uses-length (use_of counts x) refs ∙ use-length counts x

-- the count of n after a use of x, and after all the uses in the list: it stands for k uses
use-min : (counts : List ℕ) (x n k : ℕ) → n < length counts → get_or counts n 0 ≡ min 2 k → get_or (use_of counts x) n 0 ≡ min 2 (k + one_if (eqb x n))
unfolding use_of bump_of
use-min counts x n k l e = grind (arith, common_steps)

uses-min : (counts refs : List ℕ) (n k : ℕ) → n < length counts → get_or counts n 0 ≡ min 2 k → get_or (uses_in counts refs) n 0 ≡ min 2 (k + count_of n refs)
unfolding uses_in count_of
uses-min counts [] n k l e = omega arith
uses-min counts (x ∷ refs) n k l e =
    omega (arith, uses-min (use_of counts x) refs n (k + one_if (eqb x n)) (rw use-length l) (use-min counts x n k l e))

-- a count of one stands for one use
one-min : (c k : ℕ) → c ≡ min 2 k → eqb c 1 ≡ eqb k 1
one-min c k e = grind (arith, common_steps)

-- over any room, since the list of 1024 counts would be written out
uses-one : (room : ℕ) (refs : List ℕ) (n : ℕ) → n < room → is_one_of (uses_in (replicate room 0) refs) n ≡ eqb (count_of n refs) 1
uses-one room refs n l = one-min _ _ (rw zero-add at (uses-min (replicate room 0) refs n 0 (rw length-replicate l) (get_or-replicate room n 0 0 l)))

-- ---- refusal 6
-- two tests that agree below n fail first at the same place
first_bad-same : (f g : ℕ → Bool) (n : ℕ) → ((k : ℕ) → k < n → f k ≡ g k) → first_bad f n ≡ first_bad g n
unfolding first_bad
first_bad-same f g zero h = refl
first_bad-same f g (suc n) h = rw (first_bad-same f g n (λ k l. h k (omega arith)), h n (omega arith))

-- the first count that isn't one, where there is room for all nodes: the counts after the nodes' uses, and then after the points' uses
pub uses_first :
    (room : ℕ) (t : List ℤ) (one two : List ℕ) {count : ℕ} {r : Option ℕ} → (sizes_of t).nodes ≤ room → count ≡ (sizes_of t).nodes →
    one ≡ uses_in (replicate room 0) (refs_below (node_refs (nodes_of t)) (sizes_of t).nodes) → two ≡ uses_in one (refs_below (point_refs (points_of t)) (sizes_of t).points) →
    r ≡ first_bad (is_one_of two) count → r ≡ first_bad (rule6 t) (sizes_of t).nodes
unfolding uses_of
uses_first room t one two l ec e f g = rw (f, e, ← uses-append, ec) at g ∙ first_bad-same _ _ _ (λ n h. uses-one room _ n (omega arith))
