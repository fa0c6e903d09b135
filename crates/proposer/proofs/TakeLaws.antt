-- Places into which rows are taken: what stands in each, how far it can still move, and what a row that is taken in without a change tells.
-- Assumes nothing.
use Prim.Native.Nat.{ℕ, ◌+◌, ◌*◌, ◌<◌, ◌≤◌}
use mathlib.Core.Path.{◌≡◌, refl, sym, ap, subst, ◌∙◌}
use mathlib.Core.Bool.{Bool, true, false, ◌&&◌}
use mathlib.Core.List.{List}
use mathlib.Core.Logic.{◌⊎◌, inl, inr}
use native.Mathlib.Omega.{arith}
use native.Mathlib.Decide.{dec_lt}
use lib.IntN.{ℤ, pos}
use lib.ListN.{length, length-set, get_or-eq_default}
use lib.Signed.{le_z, ◌≤ℤ◌, ≤ℤ_refl}
use Rattle.words.specs.Words.{word_of}
use Rattle.words.specs.Tabulate.{tabulate}
use Rattle.words.proofs.Bools.{clash}
use Rattle.words.proofs.FillLaws.{length-tabulate, get_d_tabulate}
use Rattle.words.proofs.ListLaws.{at_each, tabulate-past, at-tabulate}
use Rattle.interval.proofs.IntegerLaws.{≤_trans}
use Rattle.analysis.specs.declared.Row.{Row}
use Rattle.analysis.proofs.RowLaws.{Tighter}
use Rattle.proposer.specs.Widen.{low_to, high_to, covers_of, trimmed_of, widened_of, Places, place_in, store_of, take_if, take_by, take_in}
use Rattle.proposer.proofs.ListLaws.{sum_of, sum-set, sum_below, sum-le, sum_lt, sum-const, one-fails}
use Rattle.proposer.proofs.WidenLaws.{Proper, lower_left, upper_left, lowers-few, uppers-few, LowTo, low-to, HighTo, high-to}
use Rattle.std.specs.Prelude.{None, Option, Some}

-- every interval of a row, and 0 to 0 past its end
pub record ProperRow (r : Row) : Type 0 where
  pub at : (v : ℕ) → Proper (word_of r.lows v) (word_of r.highs v)

pub proper-zero : Proper (pos 0) (pos 0)
proper-zero = record { low = record { le = tt }; ordered = ≤ℤ_refl (pos 0); high = record { le = tt } }

-- what holds of the ends that two lists are made of, and of 0 and 0 past them
pub at_both : (n : ℕ) (f g : ℕ → ℤ) (P : ℤ → ℤ → Type 0) → ((v : ℕ) → v < n → P (f v) (g v)) → P (pos 0) (pos 0)
    → (v : ℕ) → P (word_of (tabulate f n) v) (word_of (tabulate g n) v)
at_both n f g P h z v = elim (dec_lt v n) [
  | yes l ↦ rw (get_d_tabulate f n v (pos 0) l, get_d_tabulate g n v (pos 0) l) (h v l)
  | no l ↦ let le : n ≤ v = omega arith in rw (tabulate-past f n v (pos 0) le, tabulate-past g n v (pos 0) le) z
]

-- what is taken from Maybe: none never is
pub some-not-none : {r : Row} {X : Type 0} → Some r ≡ None → X
some-not-none e = let z : ◌≡◌ {A = ℕ} 0 1 = cc in absurd (omega arith)

-- n intervals a row; the places at which `begins` holds begin with the row `first`; `On` holds of places that have a row
module _ (n : ℕ) (ts : List ℤ) (begins : ℕ → Bool) (first : Row) (On : ℕ → Type 0) where
  pub record Known (k : ℕ) (r : Row) : Type 0 where
    pub lows : length r.lows ≡ n
    pub highs : length r.highs ≡ n
    pub proper : ProperRow r
    pub on : On k
    pub begun : begins k ≡ true → Tighter first r

  abbrev pub Fine : ℕ → Option Row → Type 0
  Fine k None = begins k ≡ false
  Fine k (Some r) = Known k r

  pub record Good (count : ℕ) (a : Places) : Type 0 where
    pub count-is : length a.at ≡ count
    pub fine : (k : ℕ) → Fine k (place_in a k)

  -- ---- how many times the ends of a row, of a place, of all places can still move; a new row counts as one
  abbrev pub spare : Row → ℕ → ℕ
  spare r v = lower_left ts (word_of r.lows v) + upper_left ts (word_of r.highs v)

  abbrev pub row_left : Row → ℕ
  row_left r = sum_below (spare r) n

  abbrev pub most : ℕ
  most = n * (2 * (length ts + 1))

  unfoldable pub place_left : Option Row → ℕ
  place_left None = 1 + most
  place_left (Some r) = row_left r

  abbrev pub left_of : Places → ℕ
  left_of a = sum_of place_left a.at

  pub row-most : (r : Row) → row_left r ≤ most
  row-most r =
      omega (
        arith,
        sum-const (2 * (length ts + 1)) n,
        sum-le (spare r) (λ v. 2 * (length ts + 1)) n (λ v _.
            omega (arith, lowers-few ts (length ts) (word_of r.lows v), uppers-few ts (length ts) (word_of r.highs v))),
      )

  -- ---- going forward: nothing has changed, or something has moved
  pub record Ahead (a b : Places) : Type 0 where
    pub moved : b.moved ≡ true
    pub less : left_of b < left_of a

  abbrev pub Grows : Places → Places → Type 0
  Grows a b = (b ≡ a) ⊎ Ahead a b

  pub grows_same : (a : Places) → Grows a a
  grows_same a = inl refl

  pub grows-trans : (a b c : Places) → Grows a b → Grows b c → Grows a c
  grows-trans a b c (inl e) h = subst (λ (x : Places). Grows x c) e h
  grows-trans a b c (inr h) (inl e) = subst (λ (x : Places). Grows a x) (sym e) (inr h)
  grows-trans a b c (inr h) (inr k) = inr (record { moved = k.moved; less = omega (arith, h.less, k.less) })

  pub grows-anti : (a b : Places) → Grows a b → Grows b a → b ≡ a
  grows-anti a b (inl e) k = e
  grows-anti a b (inr h) (inl e) = sym e
  grows-anti a b (inr h) (inr k) = absurd (omega (arith, h.less, k.less))

  -- ---- the rows that are stored
  trimmed-known : (k : ℕ) (s : Row) → ProperRow s → On k → begins k ≡ false → Known k (trimmed_of n s)
  unfolding trimmed_of
  trimmed-known k s p o e =
      record {
        lows = length-tabulate (λ v. word_of s.lows v) n;
        highs = length-tabulate (λ v. word_of s.highs v) n;
        proper = record { at = at_both n _ _ Proper (λ v _. p.at v) proper-zero };
        on = o;
        begun = λ f. clash (sym f ∙ e);
      }

  module _ (k : ℕ) (r s : Row) (old : Known k r) (new : ProperRow s) where
    low-at : (v : ℕ) → LowTo ts (word_of r.lows v) (word_of s.lows v) (low_to ts (word_of r.lows v) (word_of s.lows v))
    low-at v = low-to ts (word_of r.lows v) (word_of s.lows v) (old.proper.at v).low (new.at v).low

    high-at : (v : ℕ) → HighTo ts (word_of r.highs v) (word_of s.highs v) (high_to ts (word_of r.highs v) (word_of s.highs v))
    high-at v = high-to ts (word_of r.highs v) (word_of s.highs v) (old.proper.at v).high (new.at v).high

    -- past its end a row of n intervals is 0
    low-past : (v : ℕ) → n ≤ v → word_of r.lows v ≡ pos 0
    low-past v h = get_or-eq_default r.lows (pos 0) {n = v} (omega (arith, old.lows))

    high-past : (v : ℕ) → n ≤ v → word_of r.highs v ≡ pos 0
    high-past v h = get_or-eq_default r.highs (pos 0) {n = v} (omega (arith, old.highs))

    widened-known : Known k (widened_of n ts r s)
    unfolding widened_of
    widened-known =
        record {
          lows = length-tabulate (λ v. low_to ts (word_of r.lows v) (word_of s.lows v)) n;
          highs = length-tabulate (λ v. high_to ts (word_of r.highs v) (word_of s.highs v)) n;
          proper = record {
            at = at_both n _ _ Proper (λ v _. record {
              low = (low-at v).word;
              ordered = ≤_trans (low-at v).out (≤_trans (old.proper.at v).ordered (high-at v).out);
              high = (high-at v).word;
            }) proper-zero;
          };
          on = old.on;
          begun = λ e. record {
            low = at-tabulate (λ v z. z ≤ℤ word_of first.lows v) _ n (pos 0)
                (λ v _. ≤_trans (low-at v).out ((old.begun e).low v))
                (λ v h. subst (λ (z : ℤ). z ≤ℤ word_of first.lows v) (low-past v h) ((old.begun e).low v));
            high = at-tabulate (λ v z. word_of first.highs v ≤ℤ z) _ n (pos 0)
                (λ v _. ≤_trans ((old.begun e).high v) (high-at v).out)
                (λ v h. subst (λ (z : ℤ). word_of first.highs v ≤ℤ z) (high-past v h) ((old.begun e).high v));
          };
        }

    -- an end had to move: fewer are left
    widened-spare : (v : ℕ) → v < n → spare (widened_of n ts r s) v ≡ lower_left ts (low_to ts (word_of r.lows v) (word_of s.lows v)) + upper_left ts (high_to ts (word_of r.highs v) (word_of s.highs v))
    unfolding widened_of
    widened-spare v l = rw (
      get_d_tabulate (λ v. low_to ts (word_of r.lows v) (word_of s.lows v)) n v (pos 0) l,
      get_d_tabulate (λ v. high_to ts (word_of r.highs v) (word_of s.highs v)) n v (pos 0) l,
    ) refl

    widened-less : covers_of n r s ≡ false → row_left (widened_of n ts r s) < row_left r
    unfolding covers_of
    widened-less e =
        let at = one-fails (λ v. le_z (word_of r.lows v) (word_of s.lows v) && le_z (word_of s.highs v) (word_of r.highs v)) n e in
        sum_lt (spare (widened_of n ts r s)) (spare r) n at.0
        (λ v l. omega (arith, widened-spare v l, (low-at v).left, (high-at v).left)) at.1
        (by at.0 at.1 (le_z (word_of r.lows at.0) (word_of s.lows at.0)) (le_z (word_of s.highs at.0) (word_of r.highs at.0)) refl refl at.2)
      where
        by : (v : ℕ) → v < n → (a b : Bool) → le_z (word_of r.lows v) (word_of s.lows v) ≡ a → le_z (word_of s.highs v) (word_of r.highs v) ≡ b → a && b ≡ false
            → spare (widened_of n ts r s) v < spare r v
        by v l false b p q f = omega (arith, widened-spare v l, (low-at v).fewer p, (high-at v).left)
        by v l true false p q f = omega (arith, widened-spare v l, (low-at v).left, (high-at v).fewer q)
        by v l true true p q f = clash f

  -- ---- a row taken in at the place k
  pub record Takes (count : ℕ) (a b : Places) : Type 0 where
    pub keeps : Good count b
    pub on : Grows a b

  module _ (count : ℕ) (a : Places) (k : ℕ) (s : Row) (good : Good count a) (below : k < count) (new : ProperRow s) (here : On k) where
    stored : (r : Row) → Known k r → place_left (Some r) < place_left (place_in a k) → Takes count a (store_of a k r)
    stored r i less =
        let l : k < length a.at = omega (arith, good.count-is) in
        record {
          keeps = record {
            count-is = length-set a.at k (Some r) ∙ good.count-is;
            fine = at_each Fine a.at k (Some r) None l i (λ x _. good.fine x);
          };
          on = inr (record { moved = refl; less = omega (arith, sum-set place_left a.at k (Some r) None l) });
        }

    pub take-forward : Takes count a (take_in n ts a k s)
    unfolding take_in take_if take_by place_left
    take-forward = by (place_in a k) refl (good.fine k)
      where
        if : (r : Row) → place_in a k ≡ Some r → Known k r → (b : Bool) → covers_of n r s ≡ b → Takes count a (take_if b n ts a k r s)
        if r e i true f = record { keeps = good; on = grows_same a }
        if r e i false f = stored (widened_of n ts r s) (widened-known k r s i new) (rw e (widened-less k r s i new f))

        by : (m : Option Row) → place_in a k ≡ m → Fine k m → Takes count a (take_by m n ts a k s)
        by None e i = stored (trimmed_of n s) (trimmed-known k s new here i) (rw e (omega (arith, row-most (trimmed_of n s))))
        by (Some r) e i = if r e i (covers_of n r s) refl

  -- ---- a row that changed nothing: the place has a row whose ends hold it
  pub record Covered (a : Places) (k : ℕ) (s : Row) : Type 0 where
    pub row : Row
    pub is : place_in a k ≡ Some row
    pub covers : covers_of n row s ≡ true

  pub take-still : (a : Places) (k : ℕ) (s : Row) → a.moved ≡ false → take_in n ts a k s ≡ a → Covered a k s
  unfolding take_in take_if take_by
  take-still a k s quiet e = by (place_in a k) refl e
    where
      never : {X : Type 0} {b : Places} → b.moved ≡ true → b ≡ a → X
      never m e = clash (sym m ∙ ap (λ (x : Places). x.moved) e ∙ quiet)

      if : (r : Row) → place_in a k ≡ Some r → (b : Bool) → covers_of n r s ≡ b → take_if b n ts a k r s ≡ a → Covered a k s
      if r q true f e = record { row = r; is = q; covers = f }
      if r q false f e = never refl e

      by : (m : Option Row) → place_in a k ≡ m → take_by m n ts a k s ≡ a → Covered a k s
      by None q e = never refl e
      by (Some r) q e = if r q (covers_of n r s) refl e
