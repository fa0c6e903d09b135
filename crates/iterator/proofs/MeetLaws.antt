-- Rows that are met a variable at a time: the row that the definition gives, or none.
-- Assumes nothing.
use Rattle.std.proofs.Common.{◌≡◌, ℕ, suc, ◌+◌, ◌<◌, ◌≤◌, Bool, true, false, List, [], ◌∷◌, ℤ, pos, length, refl, sym, ap, subst, ◌∙◌, arith}
use Rattle.std.proofs.lemmas.List.{ext_get_or}
use Rattle.std.specs.Prelude.{Option, None, Some}
use Rattle.std.specs.Option.{option_map}
use Rattle.std.specs.Int.{int_min, int_max}
use Rattle.std.specs.Int.Signed.{le_z}
use lib.Signed.{≤ℤ_refl}
use Rattle.words.specs.Words.{word_of}
use Rattle.words.specs.Tabulate.{tabulate}
use Rattle.words.proofs.FillLaws.{length-tabulate, get_d_tabulate}
use Rattle.words.proofs.FirstLaws.{each-all_below, fails-at}
use Rattle.interval.specs.Interval.{from_to, span}
use Rattle.interval.specs.declared.Interval.{Interval}
use Rattle.interval.proofs.IntegerLaws.{min-is, max-is}
use Rattle.analysis.specs.declared.Row.{Row}
use Rattle.analysis.specs.Rows.{row_of, row_if, each_rest, each}
use Rattle.analysis.proofs.RowLaws.{each-is}
use Rattle.rules.specs.Outcomes.{meet_rows_of}
use Rattle.rules.proofs.RowLaws.{Meets, meet-some}
use Rattle.proposer.specs.Widen.{trimmed_of, place_in}
use Rattle.proposer.specs.Passes.{row_in}
use Rattle.iterator.specs.declared.places.Rows.{Rows}
use Rattle.iterator.specs.declared.given.Given.{Given}
use Rattle.iterator.specs.Arrays.{rows_by, rows_in}
use Rattle.iterator.specs.Given.{table_of}
use Rattle.table.specs.Layout.{sizes_of}
use Rattle.table.specs.declared.Sizes.{Sizes}

-- ---- an interval, where it is one
pub between_some : (lo hi : ℤ) {x : Interval} → from_to lo hi ≡ Some x → (le_z lo hi ≡ true) × (x ≡ record { low = lo; high = hi })
between_some lo hi {x} e = by (le_z lo hi) refl
  where
    by : (b : Bool) → le_z lo hi ≡ b → (le_z lo hi ≡ true) × (x ≡ record { low = lo; high = hi })
    by true f = (f, let g : span lo hi ≡ Some x = rw f at e in cc)
    by false f = let g : ◌≡◌ {A = Option Interval} None (Some x) = rw f at e in absurd cc

pub between_none : (lo hi : ℤ) → from_to lo hi ≡ None → le_z lo hi ≡ false
between_none lo hi e = by (le_z lo hi) refl
  where
    by : (b : Bool) → le_z lo hi ≡ b → le_z lo hi ≡ false
    by true f = let g : span lo hi ≡ None = rw f at e in absurd cc
    by false f = f

-- ---- word by word
each-length : (f : ℤ → ℤ → ℤ) (l m : List ℤ) → length m ≡ length l → length (each f l m) ≡ length l
unfolding each each_rest
each-length f [] [] e = refl
each-length f [] (y ∷ m) e = absurd (omega arith)
each-length f (x ∷ l) [] e = absurd (omega arith)
each-length f (x ∷ l) (y ∷ m) e = ap suc (each-length f l m (omega arith))

each-tabulate : (f : ℤ → ℤ → ℤ) → f (pos 0) (pos 0) ≡ pos 0 → (g h : ℕ → ℤ) (n : ℕ) → each f (tabulate g n) (tabulate h n) ≡ tabulate (λ v. f (g v) (h v)) n
each-tabulate f zero-is g h n =
    let k : ℕ → ℤ = λ v. f (g v) (h v) in
    let long = each-length f (tabulate g n) (tabulate h n) (length-tabulate h n ∙ sym (length-tabulate g n)) ∙ length-tabulate g n in
    ext_get_or (pos 0) _ _ (long ∙ sym (length-tabulate k n)) (λ v b.
    let below : v < n = omega arith in
    each-is f zero-is (tabulate g n) (tabulate h n) v
    ∙ rw (get_d_tabulate g n v (pos 0) below, get_d_tabulate h n v (pos 0) below, get_d_tabulate k n v (pos 0) below) refl)

-- ---- the first n intervals of r and s
module _ (n : ℕ) (r s : Row) where
  abbrev pub low_in : ℕ → ℤ
  low_in v = int_max (word_of r.lows v) (word_of s.lows v)

  abbrev pub high_in : ℕ → ℤ
  high_in v = int_min (word_of r.highs v) (word_of s.highs v)

  meets-at : (v : ℕ) → v < n → Meets (trimmed_of n r) (trimmed_of n s) v ≡ le_z (low_in v) (high_in v)
  unfolding trimmed_of
  meets-at v l =
      meet-some (word_of (tabulate (word_of r.lows) n) v) (word_of (tabulate (word_of r.highs) n) v) (word_of (tabulate (word_of s.lows) n) v)
      (word_of (tabulate (word_of s.highs) n) v)
      ∙ rw (
        get_d_tabulate (word_of r.lows) n v (pos 0) l,
        get_d_tabulate (word_of r.highs) n v (pos 0) l,
        get_d_tabulate (word_of s.lows) n v (pos 0) l,
        get_d_tabulate (word_of s.highs) n v (pos 0) l,
      ) refl

  pub met-none : (v : ℕ) → v < n → le_z (low_in v) (high_in v) ≡ false → meet_rows_of n (trimmed_of n r) (trimmed_of n s) ≡ None
  unfolding meet_rows_of row_if
  met-none v l e = rw (fails-at (Meets (trimmed_of n r) (trimmed_of n s)) n v l (meets-at v l ∙ e)) refl

  pub met-some : ((v : ℕ) → v < n → le_z (low_in v) (high_in v) ≡ true)
      → meet_rows_of n (trimmed_of n r) (trimmed_of n s) ≡ Some (row_of (tabulate low_in n) (tabulate high_in n))
  unfolding meet_rows_of row_if trimmed_of
  met-some all =
      rw (
        each-all_below (Meets (trimmed_of n r) (trimmed_of n s)) n (λ v l. meets-at v l ∙ all v l),
        each-tabulate int_max (max-is (≤ℤ_refl (pos 0))) (word_of r.lows) (word_of s.lows) n,
        each-tabulate int_min (min-is (≤ℤ_refl (pos 0))) (word_of r.highs) (word_of s.highs) n,
      ) refl

-- a row and the rest row at the place k, as code met them: n variables, by what it knows of both numbers
met-rest : {n m k j : ℕ} (c : ℕ) (rows : Rows) (row rest : Row) (met : Option Row) → n ≡ m → k ≡ j → m ≤ 16 → k < c
    → ((i c : ℕ) → i ≤ 16 → k < c → trimmed_of i rest ≡ row_in i (place_in (rows_by i c rows) k))
    → option_map (trimmed_of n) met ≡ meet_rows_of n (trimmed_of n row) (trimmed_of n rest)
    → meet_rows_of m (trimmed_of m row) (row_in m (place_in (rows_by m c rows) j)) ≡ option_map (trimmed_of m) met
met-rest {n} {m} {k} {j} c rows row rest met e f few below read gave =
    ap (λ (i : ℕ). meet_rows_of m (trimmed_of m row) (row_in m (place_in (rows_by m c rows) i))) (sym f)
    ∙ ap (λ (r : Row). meet_rows_of m (trimmed_of m row) r) (sym (read m c few below))
    ∙ sym (subst (λ (i : ℕ). option_map (trimmed_of i) met ≡ meet_rows_of i (trimmed_of i row) (trimmed_of i rest)) e gave)

-- the rest row of the mutex m, by the sizes that code reads
module _ (g : Given) (rows : Rows) (row rest : Row) (met : Option Row) (m : ℕ) where
  abbrev sizes : Sizes
  sizes = sizes_of (table_of g)

  abbrev read_sizes : Sizes
  read_sizes = g.table.now.sizes

  pub rest-met : m < sizes.mutexes
      → ((i c : ℕ) → i ≤ 16 → read_sizes.points + m < c → trimmed_of i rest ≡ row_in i (place_in (rows_by i c rows) (read_sizes.points + m)))
      → option_map (trimmed_of read_sizes.variables) met ≡ meet_rows_of read_sizes.variables (trimmed_of read_sizes.variables row) (trimmed_of read_sizes.variables rest)
      → meet_rows_of sizes.variables (trimmed_of sizes.variables row) (row_in sizes.variables (place_in (rows_in (table_of g) rows) (sizes.points + m)))
      ≡ option_map (trimmed_of sizes.variables) met
  rest-met mutex read gave =
      let small = g.small in
      let few : sizes.variables ≤ 16 = omega (arith, small.variables-are, small.variables) in
      let below : read_sizes.points + m < sizes.points + sizes.mutexes = omega (arith, small.points-are) in
      met-rest (sizes.points + sizes.mutexes) rows row rest met small.variables-are (ap (λ (k : ℕ). k + m) small.points-are) few below read gave
