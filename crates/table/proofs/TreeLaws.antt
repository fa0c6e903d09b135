-- The children of a shape are below their parent, so enough fuel is as good as more, and a node's tree is one step from its shape.
-- A proof of code uses `children-of`, `arith-of` and `cond_of`, at the shape that the code found.
-- Assumes nothing.
use Prim.Native.Nat.{ℕ, zero, suc, ◌<◌}
use mathlib.Core.Path.{◌≡◌}
use mathlib.Core.List.{List}
use native.Mathlib.Omega.{arith}
use lib.IntN.{ℤ}
use Rattle.std.proofs.lemmas.Grind.{common_steps}
use Rattle.table.specs.declared.Shape.{Shape}
use Rattle.table.specs.Decode.{kept, shape_by, shape_from, shape_of, Below}
use Rattle.table.specs.Tree.{Arith, Cond, arith_by, cond_by, arith_f, cond_f, arith_at, cond_at}

-- ---- the children are below the node
pub shape_by-below : (n k : ℕ) (x y : ℤ) (a b c : ℕ) → Below n (shape_by n k x y a b c)
unfolding shape_by kept
shape_by-below n k x y a b c = grind (arith, common_steps)

pub children-below : (ns : List ℤ) (n : ℕ) → Below n (shape_of ns n)
unfolding shape_from
children-below ns n = shape_by-below n _ _ _ _ _ _

-- ---- a step looks at nodes below n alone
module _ (a a' : ℕ → Arith) (c c' : ℕ → Cond) (n : ℕ) (h : (m : ℕ) → m < n → (a m ≡ a' m) × (c m ≡ c' m)) where
  arith_by-same : (s : Shape) → Below n s → arith_by a c n s ≡ arith_by a' c' n s
  unfolding arith_by
  arith_by-same s b = grind (arith, common_steps)

  cond_by-same : (s : Shape) → Below n s → cond_by a c n s ≡ cond_by a' c' n s
  unfolding cond_by
  cond_by-same s b = grind (arith, common_steps)

-- ---- so enough fuel is as good as more
module _ (s : ℕ → Shape) (low : (n : ℕ) → Below n (s n)) where
  fuel-same : (f g n : ℕ) → n < f → n < g → (arith_f f s n ≡ arith_f g s n) × (cond_f f s n ≡ cond_f g s n)
  unfolding arith_f
  fuel-same zero g n p q = absurd (omega arith)
  fuel-same (suc f) zero n p q = absurd (omega arith)
  fuel-same (suc f) (suc g) n p q =
      let h : (m : ℕ) → m < n → (arith_f f s m ≡ arith_f g s m) × (cond_f f s m ≡ cond_f g s m) =
      λ m l. fuel-same f g m (omega arith) (omega arith) in
      (arith_by-same _ _ _ _ n h (s n) (low n), cond_by-same _ _ _ _ n h (s n) (low n))

-- ---- a tree is one step
module _ (ns : List ℤ) (n : ℕ) where
  -- below n, the fuel that a step leaves is enough
  left-same : (m : ℕ) → m < n → (arith_f n (shape_of ns) m ≡ arith_at ns m) × (cond_f n (shape_of ns) m ≡ cond_at ns m)
  unfolding arith_at cond_at
  left-same m l = fuel-same (shape_of ns) (children-below ns) n (suc m) m l (omega arith)

  pub arith_is : arith_at ns n ≡ arith_by (arith_at ns) (cond_at ns) n (shape_of ns n)
  unfolding arith_at arith_f
  arith_is = arith_by-same _ _ _ _ n left-same (shape_of ns n) (children-below ns n)

  pub cond-is : cond_at ns n ≡ cond_by (arith_at ns) (cond_at ns) n (shape_of ns n)
  unfolding cond_at arith_f
  cond-is = cond_by-same _ _ _ _ n left-same (shape_of ns n) (children-below ns n)

  -- the same at the shape that the code found
  pub children-of : {s : Shape} → shape_of ns n ≡ s → Below n s
  children-of e = rw e at (children-below ns n)

  pub arith-of : {s : Shape} → shape_of ns n ≡ s → arith_at ns n ≡ arith_by (arith_at ns) (cond_at ns) n s
  arith-of e = rw e at arith_is

  pub cond_of : {s : Shape} → shape_of ns n ≡ s → cond_at ns n ≡ cond_by (arith_at ns) (cond_at ns) n s
  cond_of e = rw e at cond-is
