-- The words that are written, read as a proposal: its sizes and length, the held word of a point, the heads and the interval of an entry, and rows.
-- Assumes nothing.
use Prim.Native.Nat.{ℕ, zero, suc, ◌+◌, ◌*◌, ◌<◌}
use mathlib.Core.Path.{◌≡◌, refl, sym, ap, ◌∙◌}
use mathlib.Core.List.{List, [], ◌∷◌, ◌++◌, map, append-nil, append_assoc}
use native.Mathlib.Nat.{not-suc-le-zero, le_of_suc-le-suc, mul_comm}
use native.Mathlib.Omega.{arith}
use lib.IntN.{ℤ, pos}
use lib.ListN.{length, get_or, take, length-append, get_or-append}
use lib.Seq.{take_at, drop_at, get_or-append-add}
use Rattle.words.specs.Words.{word_of, number_of, number_at, part_of}
use Rattle.words.proofs.FillLaws.{length-tabulate, get_d_tabulate}
use Rattle.words.proofs.PartLaws.{part-word}
use Rattle.table.specs.Layout.{sizes_of}
use Rattle.analysis.specs.declared.Row.{Row}
use Rattle.analysis.specs.Rows.{row_of}
use Rattle.rules.specs.Proposal.{entries_of, rows_of, intervals_of, heads_from, lows_from, proposal_length, held_word_of, heads_of, head_of, lows_of, highs_of, row_at, entries_at, entry_low, entry_high}
use Rattle.proposer.specs.Fold.{concat_below}
use Rattle.proposer.specs.Widen.{place_in}
use Rattle.proposer.specs.Passes.{State}
use Rattle.proposer.specs.Propose.{held_by, codes_of, head_words, row_out, span_of, ends_out, sizes_out, held_out, heads_out, words_of}
use Rattle.proposer.proofs.ThoseLaws.{chunks-length, chunk}

pub cut : (a b c : List ℤ) (m n : ℕ) → length a ≡ m → length b ≡ n → part_of (a ++ (b ++ c)) m n ≡ b
cut a b c m n e f = ap (λ (x : List ℤ). take n x) (drop_at a (b ++ c) m e) ∙ take_at b c n f

cut-last : (a b : List ℤ) (m n : ℕ) → length a ≡ m → length b ≡ n → part_of (a ++ b) m n ≡ b
cut-last a b m n e f = ap (λ (x : List ℤ). part_of (a ++ x) m n) (sym (append-nil b)) ∙ cut a b [] m n e f

map-length : {A B : Type 0} (f : A → B) (l : List A) → length (map f l) ≡ length l
map-length f [] = refl
map-length f (x ∷ l) = ap suc (map-length f l)

map_at : {A B : Type 0} (f : A → B) (l : List A) (i : ℕ) (d : B) (e : A) → i < length l → get_or (map f l) i d ≡ f (get_or l i e)
map_at f [] i d e h = absurd (not-suc-le-zero h)
map_at f (x ∷ l) zero d e h = refl
map_at f (x ∷ l) (suc i) d e h = map_at f l i d e (le_of_suc-le-suc h)

module _ (t : List ℤ) (h : ℕ → ℕ) (s : State) where
  abbrev w : List ℤ
  w = words_of t h s

  -- how many entries
  abbrev pub count : ℕ
  count = length (codes_of t h s)

  pub entries-is : entries_of (words_of t h s) ≡ length (codes_of t h s)
  unfolding entries_of number_of words_of
  entries-is = refl

  pub size_is : (number_at (words_of t h s) 0 ≡ (sizes_of t).points) × (number_at (words_of t h s) 1 ≡ (sizes_of t).variables) × (number_at (words_of t h s) 2 ≡ (sizes_of t).mutexes)
  unfolding number_of words_of
  size_is = (refl, refl, refl)

  front_length : length (sizes_out t h s ++ held_out t h s) ≡ heads_from t
  unfolding heads_from
  front_length = length-append (sizes_out t h s) (held_out t h s) ∙ ap (λ (n : ℕ). 4 + n) (length-tabulate (λ p. held_by (place_in s.rows p) (h p)) (sizes_of t).points)

  heads-length : length (heads_out t h s) ≡ 3 * entries_of (words_of t h s)
  heads-length =
      chunks-length (λ i. head_words t h s (get_or (codes_of t h s) i 0)) 3 (length (codes_of t h s)) (λ k l. refl)
      ∙ mul_comm (length (codes_of t h s)) 3 ∙ ap (λ (n : ℕ). 3 * n) (sym entries-is)

  -- ---- held words
  pub held_word : (p : ℕ) → p < (sizes_of t).points → held_word_of (words_of t h s) p ≡ held_by (place_in s.rows p) (h p)
  unfolding held_word_of words_of
  held_word p l =
      let rest = heads_out t h s ++ (ends_out t h s (λ r. r.lows) ++ ends_out t h s (λ r. r.highs)) in
      get_or-append-add (sizes_out t h s) (held_out t h s ++ rest) p (pos 0)
      ∙ get_or-append (held_out t h s) rest (pos 0) p (omega (arith, length-tabulate (λ p. held_by (place_in s.rows p) (h p)) (sizes_of t).points))
      ∙ get_d_tabulate (λ p. held_by (place_in s.rows p) (h p)) (sizes_of t).points p (pos 0) l

  -- ---- heads
  by_heads : words_of t h s ≡ (sizes_out t h s ++ held_out t h s) ++ (heads_out t h s ++ (ends_out t h s (λ r. r.lows) ++ ends_out t h s (λ r. r.highs)))
  unfolding words_of
  by_heads = sym (append_assoc (sizes_out t h s) (held_out t h s) _)

  by-lows : words_of t h s ≡ ((sizes_out t h s ++ held_out t h s) ++ heads_out t h s) ++ (ends_out t h s (λ r. r.lows) ++ ends_out t h s (λ r. r.highs))
  by-lows = by_heads ∙ sym (append_assoc (sizes_out t h s ++ held_out t h s) (heads_out t h s) _)

  by-highs : words_of t h s ≡ (((sizes_out t h s ++ held_out t h s) ++ heads_out t h s) ++ ends_out t h s (λ r. r.lows)) ++ ends_out t h s (λ r. r.highs)
  by-highs = by-lows ∙ sym (append_assoc ((sizes_out t h s ++ held_out t h s) ++ heads_out t h s) (ends_out t h s (λ r. r.lows)) _)

  heads-is : heads_of t (words_of t h s) ≡ heads_out t h s
  unfolding heads_of
  heads-is =
      ap (λ (x : List ℤ). part_of x (heads_from t) (3 * entries_of (words_of t h s))) by_heads
      ∙ cut (sizes_out t h s ++ held_out t h s) (heads_out t h s) _ (heads_from t) (3 * entries_of (words_of t h s)) front_length heads-length

  pub head-is : (i j : ℕ) → i < length (codes_of t h s) → j < 3 → head_of t (words_of t h s) i j ≡ number_of (word_of (head_words t h s (get_or (codes_of t h s) i 0)) j)
  unfolding head_of
  head-is i j li lj =
      ap number_of (
      ap (λ (x : List ℤ). word_of x (3 * i + j)) (heads-is ∙ sym (append-nil (heads_out t h s)))
      ∙ ap (λ (k : ℕ). word_of (heads_out t h s ++ []) (k + j)) (mul_comm 3 i)
      ∙ sym (part-word (heads_out t h s ++ []) (i * 3) 3 j lj)
      ∙ ap (λ (x : List ℤ). word_of x j) (chunk (λ i. head_words t h s (get_or (codes_of t h s) i 0)) 3 (length (codes_of t h s)) (λ k l. refl) i li []))

  -- ---- rows and intervals, where each row has an interval for each variable
  module _ (low : (k : ℕ) → k < (sizes_of t).points + (sizes_of t).mutexes → length (row_out t h s k).lows ≡ (sizes_of t).variables)
      (high : (k : ℕ) → k < (sizes_of t).points + (sizes_of t).mutexes → length (row_out t h s k).highs ≡ (sizes_of t).variables) where
    ends-length : (f : Row → List ℤ) → ((k : ℕ) → k < (sizes_of t).points + (sizes_of t).mutexes → length (f (row_out t h s k)) ≡ (sizes_of t).variables)
        → length (ends_out t h s f) ≡ intervals_of t (words_of t h s)
    unfolding intervals_of
    ends-length f e =
        length-append (concat_below (λ k. f (row_out t h s k)) ((sizes_of t).points + (sizes_of t).mutexes)) _
        ∙ omega (
          arith,
          chunks-length (λ k. f (row_out t h s k)) (sizes_of t).variables ((sizes_of t).points + (sizes_of t).mutexes) e,
          map-length (λ c. word_of (f (span_of t h s c)) 0) (codes_of t h s),
          entries-is,
        )

    before-lows : length ((sizes_out t h s ++ held_out t h s) ++ heads_out t h s) ≡ lows_from t (words_of t h s)
    unfolding lows_from
    before-lows = length-append (sizes_out t h s ++ held_out t h s) (heads_out t h s) ∙ omega (arith, front_length, heads-length)

    before-highs : length (((sizes_out t h s ++ held_out t h s) ++ heads_out t h s) ++ ends_out t h s (λ r. r.lows)) ≡ lows_from t (words_of t h s) + intervals_of t (words_of t h s)
    before-highs = length-append ((sizes_out t h s ++ held_out t h s) ++ heads_out t h s) _ ∙ omega (arith, before-lows, ends-length (λ r. r.lows) low)

    pub whole : length (words_of t h s) ≡ proposal_length t (words_of t h s)
    unfolding proposal_length
    whole =
        ap length by-highs
        ∙ length-append (((sizes_out t h s ++ held_out t h s) ++ heads_out t h s) ++ ends_out t h s (λ r. r.lows)) (ends_out t h s (λ r. r.highs))
        ∙ omega (arith, before-highs, ends-length (λ r. r.highs) high)

    lows-is : lows_of t (words_of t h s) ≡ ends_out t h s (λ r. r.lows)
    unfolding lows_of
    lows-is =
        ap (λ (x : List ℤ). part_of x (lows_from t (words_of t h s)) (intervals_of t (words_of t h s))) by-lows
        ∙ cut ((sizes_out t h s ++ held_out t h s) ++ heads_out t h s) (ends_out t h s (λ r. r.lows)) (ends_out t h s (λ r. r.highs)) _ _ before-lows (ends-length (λ r. r.lows) low)

    highs-is : highs_of t (words_of t h s) ≡ ends_out t h s (λ r. r.highs)
    unfolding highs_of
    highs-is =
        ap (λ (x : List ℤ). part_of x (lows_from t (words_of t h s) + intervals_of t (words_of t h s)) (intervals_of t (words_of t h s))) by-highs
        ∙ cut-last (((sizes_out t h s ++ held_out t h s) ++ heads_out t h s) ++ ends_out t h s (λ r. r.lows)) (ends_out t h s (λ r. r.highs)) _ _ before-highs (ends-length (λ r. r.highs) high)

    pub row_is : (k : ℕ) → k < (sizes_of t).points + (sizes_of t).mutexes → row_at t (words_of t h s) k ≡ row_out t h s k
    unfolding row_at
    row_is k l =
        let lo = ap (λ (x : List ℤ). part_of x (k * (sizes_of t).variables) (sizes_of t).variables) lows-is
        ∙ chunk (λ k. (row_out t h s k).lows) (sizes_of t).variables ((sizes_of t).points + (sizes_of t).mutexes) low k l _ in
        let hi = ap (λ (x : List ℤ). part_of x (k * (sizes_of t).variables) (sizes_of t).variables) highs-is
        ∙ chunk (λ k. (row_out t h s k).highs) (sizes_of t).variables ((sizes_of t).points + (sizes_of t).mutexes) high k l _ in
        ap (λ (x : List ℤ). row_of x (part_of (highs_of t (words_of t h s)) (k * (sizes_of t).variables) (sizes_of t).variables)) lo
        ∙ ap (λ (x : List ℤ). row_of (row_out t h s k).lows x) hi

    entry-ends : (f : Row → List ℤ) → ((k : ℕ) → k < (sizes_of t).points + (sizes_of t).mutexes → length (f (row_out t h s k)) ≡ (sizes_of t).variables)
        → (i : ℕ) → i < length (codes_of t h s)
        → word_of (part_of (ends_out t h s f) (rows_of t * (sizes_of t).variables) (entries_of (words_of t h s))) i ≡ word_of (f (span_of t h s (get_or (codes_of t h s) i 0))) 0
    entry-ends f e i l =
        ap (λ (x : List ℤ). word_of x i) (cut-last (concat_below (λ k. f (row_out t h s k)) ((sizes_of t).points + (sizes_of t).mutexes)) (map (λ c. word_of (f (span_of t h s c)) 0) (codes_of t h s)) _ _
        (chunks-length (λ k. f (row_out t h s k)) (sizes_of t).variables ((sizes_of t).points + (sizes_of t).mutexes) e)
        (map-length (λ c. word_of (f (span_of t h s c)) 0) (codes_of t h s) ∙ sym entries-is))
        ∙ map_at (λ c. word_of (f (span_of t h s c)) 0) (codes_of t h s) i (pos 0) 0 l

    pub entry-low : (i : ℕ) → i < length (codes_of t h s) → entry_low t (words_of t h s) i ≡ word_of (span_of t h s (get_or (codes_of t h s) i 0)).lows 0
    unfolding entry_low entries_at
    entry-low i l =
        ap (λ (x : List ℤ). word_of (part_of x (rows_of t * (sizes_of t).variables) (entries_of (words_of t h s))) i) lows-is ∙ entry-ends (λ r. r.lows) low i l

    pub entry-high : (i : ℕ) → i < length (codes_of t h s) → entry_high t (words_of t h s) i ≡ word_of (span_of t h s (get_or (codes_of t h s) i 0)).highs 0
    unfolding entry_high entries_at
    entry-high i l =
        ap (λ (x : List ℤ). word_of (part_of x (rows_of t * (sizes_of t).variables) (entries_of (words_of t h s))) i) highs-is ∙ entry-ends (λ r. r.highs) high i l
