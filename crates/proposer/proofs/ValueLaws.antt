-- What the analysis makes of a row of proper intervals is proper: values of trees whose constants are words, narrowed rows, and so every outcome.
-- Assumes nothing.
use Prim.Native.Nat.{ℕ, zero, suc, ◌+◌, ◌*◌}
use mathlib.Core.Path.{◌≡◌, refl, sym, subst}
use mathlib.Core.Bool.{Bool, true, false}
use mathlib.Core.List.{List}
use native.Mathlib.Decide.{dec_lt}
use native.Mathlib.Omega.{arith}
use lib.Dec.{eqb}
use lib.IntN.{ℤ, pos}
use lib.ListN.{set, length-take, get_or-eq_default}
use lib.Signed.{◌≤ℤ◌, ≤ℤ_refl}
use Rattle.words.specs.Words.{word_of, part_of}
use Rattle.words.proofs.PartLaws.{part-word}
use Rattle.interval.specs.Interval.{least, greatest, taken_of, Within, span}
use Rattle.interval.specs.Lattice.{◌⊑◌, meet_of, join_of}
use Rattle.interval.specs.Arithmetic.{clamp_of, computed_of, negate_of, operate_of}
use Rattle.interval.specs.declared.Interval.{Interval}
use Rattle.interval.specs.declared.Computed.{Computed}
use Rattle.interval.specs.declared.Operation.{Operation}
use Rattle.interval.specs.declared.Operation.TheVariants.{Sum, Difference, Product, Quotient, Remainder}
use Rattle.interval.specs.declared.Comparison.{Comparison}
use Rattle.interval.specs.declared.Comparison.TheVariants.{Less, AtMost, Equal, NotEqual}
use Rattle.interval.specs.declared.Uncut.{Uncut}
use Rattle.interval.proofs.IntegerLaws.{≤_trans, le_z-cases, min-left, min-right, max-left, max-right, min-above, max-below, min-is, max-is}
use Rattle.interval.proofs.IntervalLaws.{first, last, on_ends-cases, on_both-cases, from_to-only}
use Rattle.interval.proofs.LatticeLaws.{Ordered, meet-ordered, meet-within-left, within-holds}
use Rattle.table.specs.Layout.{sizes_of, nodes_of, four_by, four_of}
use Rattle.table.specs.Decode.{pick, kept, operation_of, comparison_of, shape_by, shape_from, shape_of}
use Rattle.table.specs.Tree.{Arith, constant, input, variable, negation, binary, choice, no_arith, Cond, compare, both, either, is_not, no_cond, arith_by, arith_f, arith_at}
use Rattle.table.specs.declared.Shape.{Shape}
use Rattle.table.specs.declared.Shape.TheVariants.{Constant, Input, Variable, Negation, Binary, Choice, Compare, Both, Either, Not, Bad}
use Rattle.analysis.specs.declared.Row.{Row}
use Rattle.analysis.specs.Rows.{row_of, range_of, row_if, then_row, put_of, meet_at_of, join_rows_of}
use Rattle.analysis.specs.Analysis.{range_on, carry_of, carry_both_of, value_of, narrow_of}
use Rattle.analysis.proofs.RowLaws.{set_all, each-is}
use Rattle.proposer.specs.Laws.{Words}
use Rattle.proposer.proofs.WidenLaws.{Proper}
use Rattle.proposer.proofs.TakeLaws.{ProperRow, proper-zero}
use Rattle.std.specs.Int.{int_min, int_max}
use Rattle.std.specs.Prelude.{None, Option, Some}

abbrev pub ProperOn : Option Interval → Type 0
ProperOn None = Unit {0}
ProperOn (Some e) = Proper e.low e.high

-- ---- intervals
range-proper : (r : Row) (v : ℕ) → ProperRow r → ProperOn (range_of r v)
range-proper r v p = le_z-cases ProperOn (word_of r.lows v) (word_of r.highs v) (span _ _) None (λ _. p.at v) (λ _. tt)

clamp-proper : (lo hi : ℤ) → ProperOn (clamp_of lo hi)
clamp-proper lo hi =
    le_z-cases ProperOn (int_max lo least) (int_min hi greatest) (span (int_max lo least) (int_min hi greatest)) None
    (λ h. record { low = max-right lo least; ordered = h; high = min-right hi greatest }) (λ _. tt)

computed-proper : (u : Option Uncut) (z : Bool) → ProperOn (computed_of u z).range
unfolding computed_of
computed-proper None z = tt
computed-proper (Some u) z = clamp-proper u.low u.high

negate-proper : (r : Option Interval) → ProperOn (negate_of r).range
unfolding negate_of
negate-proper r = on_ends-cases (λ (c : Computed). ProperOn c.range) _ _ r tt (λ a b _ _. computed-proper _ _)

operate-proper : (op : Operation) (r s : Option Interval) → ProperOn (operate_of op r s).range
unfolding operate_of
operate-proper op r s = on_both-cases (λ (c : Computed). ProperOn c.range) _ _ r s tt (λ a b c d _ _ _ _. computed-proper _ _)

join-proper : (r s : Option Interval) → ProperOn r → ProperOn s → ProperOn (join_of r s)
unfolding join_of
join-proper r s p q =
    on_ends-cases ProperOn (taken_of s) _ r (on_ends-cases ProperOn None span s tt (λ c d _ i. subst ProperOn i q)) (λ a b _ e.
    let pa : Proper a b = subst ProperOn e p in
    on_ends-cases ProperOn (span a b) _ s pa (λ c d _ i.
    let qc : Proper c d = subst ProperOn i q in
    record {
      low = min-above pa.low qc.low;
      ordered = ≤_trans (min-left a c) (≤_trans pa.ordered (max-left b d));
      high = max-below pa.high qc.high;
    }))

-- ---- narrowed rows
abbrev pub MaybeProper : Option Row → Type 0
MaybeProper None = Unit {0}
MaybeProper (Some r) = ProperRow r

-- a word put in at v
set-at-proper : (r : Row) (v : ℕ) (a b : ℤ) → ProperRow r → word_of r.lows v ≤ℤ a → a ≤ℤ b → b ≤ℤ word_of r.highs v
    → ProperRow (row_of (set r.lows v a) (set r.highs v b))
set-at-proper r v a b p la ab bh =
    record {
      at = λ u. record {
        low = set_all (λ u z. least ≤ℤ z) r.lows v a (λ u. (p.at u).low) (≤_trans (p.at v).low la) u;
        ordered = set_all (λ u z. word_of (set r.lows v a) u ≤ℤ z) r.highs v b
            (set_all (λ u z. z ≤ℤ word_of r.highs u) r.lows v a (λ u. (p.at u).ordered) (≤_trans ab bh))
            (set_all (λ u z. u ≡ v → z ≤ℤ b) r.lows v a (λ u e. rw e (≤_trans la ab)) (λ _. ab) v refl) u;
        high = set_all (λ u z. z ≤ℤ greatest) r.highs v b (λ u. (p.at u).high) (≤_trans bh (p.at v).high) u;
      };
    }

put-proper : (r : Row) (v : ℕ) (s : Option Interval) → ProperRow r → Ordered s → s ⊑ range_of r v → MaybeProper (put_of r v s)
unfolding put_of
put-proper r v None p o w = tt
put-proper r v (Some e) p o w = set-at-proper r v e.low e.high p (end e.low (first o)).low o (end e.high (last o)).high
  where
    end : (z : ℤ) → Within e.low e.high z → Within (word_of r.lows v) (word_of r.highs v) z
    end z q = from_to-only (word_of r.lows v) (word_of r.highs v) z (within-holds (span e.low e.high) (range_of r v) w z q)

meet_at-proper : (r : Row) (v : ℕ) (s : Option Interval) → ProperRow r → MaybeProper (meet_at_of r v s)
unfolding meet_at_of
meet_at-proper r v s p = put-proper r v (meet_of (range_of r v) s) p (meet-ordered (range_of r v) s) (meet-within-left (range_of r v) s)

then-proper : (s : Option Row) (f : Row → Option Row) → MaybeProper s → ((r : Row) → ProperRow r → MaybeProper (f r)) → MaybeProper (then_row s f)
unfolding then_row
then-proper None f p g = tt
then-proper (Some r) f p g = g r p

join_rows-proper : (s t : Option Row) → MaybeProper s → MaybeProper t → MaybeProper (join_rows_of s t)
unfolding join_rows_of
join_rows-proper None t p q = q
join_rows-proper (Some s) None p q = p
join_rows-proper (Some s) (Some t) p q = record {
  at = λ v. rw (each-is int_min (min-is (≤ℤ_refl (pos 0))) s.lows t.lows v, each-is int_max (max-is (≤ℤ_refl (pos 0))) s.highs t.highs v) (record {
    low = min-above (p.at v).low (q.at v).low;
    ordered = ≤_trans (min-left _ _) (≤_trans (p.at v).ordered (max-left _ _));
    high = max-below (p.at v).high (q.at v).high;
  });
}

carry-proper : (x : Arith) (s : Option Interval) (r : Row) → ProperRow r → MaybeProper (carry_of x s r)
unfolding carry_of
carry-proper x None r p = tt
carry-proper (constant n z) (Some e) r p = p
carry-proper (input n l h) (Some e) r p = p
carry-proper (variable n v) (Some e) r p = meet_at-proper r v (span e.low e.high) p
carry-proper (negation n x) (Some e) r p = p
carry-proper (binary n op x y) (Some e) r p = p
carry-proper (choice n c x y) (Some e) r p = p
carry-proper (no_arith n) (Some e) r p = p

pub narrow-proper : (c : Cond) (w : Bool) (r : Row) → ProperRow r → MaybeProper (narrow_of c w r)
unfolding narrow_of carry_both_of
narrow-proper (compare n k x y) w r p = then-proper _ _ (carry-proper x _ r p) (λ s q. carry-proper y _ s q)
narrow-proper (both n c d) true r p = then-proper _ _ (narrow-proper c true r p) (λ s q. narrow-proper d true s q)
narrow-proper (both n c d) false r p = join_rows-proper _ _ (narrow-proper c false r p) (narrow-proper d false r p)
narrow-proper (either n c d) true r p = join_rows-proper _ _ (narrow-proper c true r p) (narrow-proper d true r p)
narrow-proper (either n c d) false r p = then-proper _ _ (narrow-proper c false r p) (λ s q. narrow-proper d false s q)
narrow-proper (is_not n c) true r p = narrow-proper c false r p
narrow-proper (is_not n c) false r p = narrow-proper c true r p
narrow-proper (no_cond n) true r p = tt
narrow-proper (no_cond n) false r p = p

-- ---- trees whose constants and inputs are words
abbrev pub Word : ℤ → Type 0
Word z = Within least greatest z

unfoldable Tame : Arith → Type 0
Tame (constant n z) = Word z
Tame (input n a b) = Word a × Word b
Tame (variable n v) = Unit {0}
Tame (negation n x) = Unit {0}
Tame (binary n op x y) = Unit {0}
Tame (choice n c x y) = Tame x × Tame y
Tame (no_arith n) = Unit {0}

-- a branch that is taken has a proper row
branch-proper : (d : Bool) (s : Option Row) → MaybeProper s → MaybeProper (row_if d s)
unfolding row_if
branch-proper true s p = p
branch-proper false s p = tt

on-proper : (s : Option Row) (f : Row → Option Interval) → MaybeProper s → ((r : Row) → ProperRow r → ProperOn (f r)) → ProperOn (range_on s f)
unfolding range_on
on-proper None f p g = tt
on-proper (Some r) f p g = g r p

value-proper : (x : Arith) (r : Row) → Tame x → ProperRow r → ProperOn (value_of x r)
unfolding value_of Tame
value-proper (constant n z) r w p = record { low = w.low; ordered = ≤ℤ_refl z; high = w.high }
value-proper (input n a b) r w p = record { low = w.0.low; ordered = max-left a b; high = max-below w.0.high w.1.high }
value-proper (variable n v) r w p = range-proper r v p
value-proper (negation n x) r w p = negate-proper (value_of x r)
value-proper (binary n op x y) r w p = operate-proper op (value_of x r) (value_of y r)
value-proper (choice n c x y) r w p =
    join-proper _ _
    (on-proper _ (λ s. value_of x s) (branch-proper _ _ (narrow-proper c true r p)) (λ s q. value-proper x s w.0 q))
    (on-proper _ (λ s. value_of y s) (branch-proper _ _ (narrow-proper c false r p)) (λ s q. value-proper y s w.1 q))
value-proper (no_arith n) r w p = proper-zero

-- ---- the trees of a table of words
unfoldable TameShape : Shape → Type 0
TameShape (Constant z) = Word z
TameShape (Input l h) = Word l × Word h
TameShape (Variable v) = Unit {0}
TameShape (Negation x) = Unit {0}
TameShape (Binary op x y) = Unit {0}
TameShape (Choice x y z) = Unit {0}
TameShape (Compare k x y) = Unit {0}
TameShape (Both x y) = Unit {0}
TameShape (Either x y) = Unit {0}
TameShape (Not x) = Unit {0}
TameShape Bad = Unit {0}

by-tame : (a : ℕ → Arith) (c : ℕ → Cond) (n : ℕ) (s : Shape) → ((m : ℕ) → Tame (a m)) → TameShape s → Tame (arith_by a c n s)
unfolding Tame TameShape arith_by
by-tame a c n (Constant z) h w = w
by-tame a c n (Input l u) h w = w
by-tame a c n (Variable v) h w = tt
by-tame a c n (Negation x) h w = tt
by-tame a c n (Binary op x y) h w = tt
by-tame a c n (Choice x y z) h w = (h y, h z)
by-tame a c n (Compare k x y) h w = tt
by-tame a c n (Both x y) h w = tt
by-tame a c n (Either x y) h w = tt
by-tame a c n (Not x) h w = tt
by-tame a c n Bad h w = tt

fuel-tame : (f : ℕ) (s : ℕ → Shape) (n : ℕ) → ((m : ℕ) → TameShape (s m)) → Tame (arith_f f s n)
unfolding arith_f Tame
fuel-tame zero s n h = tt
fuel-tame (suc f) s n h = by-tame _ _ n (s n) (λ m. fuel-tame f s m h) (h n)

-- as a record, so that the shape can be read off it
record Fit (s : Shape) : Type 0 where
  fit : TameShape s

pick-fit : (b : Bool) (x y : Shape) → Fit x → Fit y → Fit (pick b x y)
pick-fit true x y p q = p
pick-fit false x y p q = q

kept-fit : (b : Bool) (s : Shape) → Fit s → Fit (kept b s)
unfolding kept TameShape
kept-fit true s w = w
kept-fit false s w = record { fit = tt }

operation-fit : (op : Operation) (n a b : ℕ) → Fit (operation_of op n a b)
unfolding TameShape
operation-fit op n a b = kept-fit _ (Binary op a b) (record { fit = tt })

comparison-fit : (k : Comparison) (n a b : ℕ) → Fit (comparison_of k n a b)
unfolding TameShape
comparison-fit k n a b = kept-fit _ (Compare k a b) (record { fit = tt })

shape-tame : (n k : ℕ) (x y : ℤ) (a b c : ℕ) → Word x → Word y → Fit (shape_by n k x y a b c)
unfolding shape_by TameShape
shape-tame n k x y a b c p q =
    pick-fit (eqb k 0) (Constant x) _ (record { fit = p })
    (pick-fit (eqb k 1) (Input x y) _ (record { fit = (p, q) })
    (pick-fit (eqb k 2) (Variable a) _ (record { fit = tt })
    (pick-fit (eqb k 3) _ _ (kept-fit _ (Negation a) (record { fit = tt }))
    (pick-fit (eqb k 4) _ _ (operation-fit Sum n a b)
    (pick-fit (eqb k 5) _ _ (operation-fit Difference n a b)
    (pick-fit (eqb k 6) _ _ (operation-fit Product n a b)
    (pick-fit (eqb k 7) _ _ (operation-fit Quotient n a b)
    (pick-fit (eqb k 8) _ _ (kept-fit _ (Choice a b c) (record { fit = tt }))
    (pick-fit (eqb k 9) _ _ (operation-fit Remainder n a b)
    (pick-fit (eqb k 16) _ _ (comparison-fit Less n a b)
    (pick-fit (eqb k 17) _ _ (comparison-fit AtMost n a b)
    (pick-fit (eqb k 18) _ _ (comparison-fit Equal n a b)
    (pick-fit (eqb k 19) _ _ (comparison-fit NotEqual n a b)
    (pick-fit (eqb k 20) _ _ (kept-fit _ (Both a b) (record { fit = tt }))
    (pick-fit (eqb k 21) _ _ (kept-fit _ (Either a b) (record { fit = tt }))
    (pick-fit (eqb k 22) _ _ (kept-fit _ (Not a) (record { fit = tt })) (record { fit = tt })))))))))))))))))

zero_word : Word (pos 0)
zero_word = record { low = proper-zero.low; high = proper-zero.high }

four-tame : (b : Bool) (ws : List ℤ) (n i : ℕ) → ((j : ℕ) → Word (word_of ws j)) → TameShape (shape_from n (four_by b ws i))
unfolding four_by shape_from
four-tame true ws n i h = (shape-tame n _ _ _ _ _ _ (h (i + 1)) (h (i + 2))).fit
four-tame false ws n i h = (shape-tame n _ _ _ _ _ _ zero_word zero_word).fit

pub part-words : (ws : List ℤ) (from count : ℕ) → ((j : ℕ) → Word (word_of ws j)) → (i : ℕ) → Word (word_of (part_of ws from count) i)
part-words ws from count h i = elim (dec_lt i count) [
  | yes l ↦ subst Word (sym (part-word ws from count i l)) (h (from + i))
  | no l ↦ subst Word (sym (get_or-eq_default (part_of ws from count) (pos 0) {n = i} (simp length-take (omega arith)))) zero_word
]

nodes-words : (t : List ℤ) → Words t → (i : ℕ) → Word (word_of (nodes_of t) i)
unfolding nodes_of
nodes-words t w = part-words t (5 + (sizes_of t).tasks + (sizes_of t).variables + 4 * (sizes_of t).points) (4 * (sizes_of t).nodes) w.word

table-tame : (t : List ℤ) (n : ℕ) → Words t → Tame (arith_at (nodes_of t) n)
unfolding arith_at four_of
table-tame t n w = fuel-tame (suc n) (shape_of (nodes_of t)) n (λ m. four-tame _ (nodes_of t) m _ (nodes-words t w))

pub node-proper : (t : List ℤ) (n : ℕ) (r : Row) → Words t → ProperRow r → ProperOn (value_of (arith_at (nodes_of t) n) r)
node-proper t n r w p = value-proper (arith_at (nodes_of t) n) r (table-tame t n w) p
