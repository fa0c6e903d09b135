-- Refusals 8, 9 and 10 where the code has looked at the cases before.
-- Assumes nothing.
use Prim.Native.Nat.{ℕ, zero, suc, ◌+◌, ◌-◌, ◌*◌, ◌%◌, ◌^◌, ◌<◌, ◌≤◌}
use mathlib.Core.Path.{◌≡◌, refl, sym, ap, ◌∙◌}
use mathlib.Core.Bool.{Bool, true, false, ◌||◌}
use mathlib.Core.List.{List}
use native.Mathlib.Nat.{add-zero, add-suc, mul-add-mod_self_left, add_assoc}
use native.Mathlib.Omega.{arith}
use borrow.Author.Tests.{ltb-true, lt-ltb, le-ltb}
use lib.Dec.{ltb}
use lib.IntN.{ℤ}
use lib.ListN.{length}
use lib.Signed.{le_z}
use Rattle.words.specs.Words.{word_of, number_at}
use Rattle.words.specs.First.{first_bad, or_else, places, first_bad_in}
use Rattle.words.proofs.FirstLaws.{first_bad-none}
use Rattle.words.proofs.PlaceLaws.{Sought, seeks, sought}
use Rattle.table.specs.Layout.{sizes_of}
use Rattle.table.specs.declared.Sizes.{Sizes}
use Rattle.rules.specs.declared.proposal.Proposal.{Proposal}
use Rattle.rules.proofs.ProposalLaws.{passed_table}
use Rattle.rules.proofs.ReadyLaws.{layout-bounded}
use Rattle.rules.specs.Proposal.{intervals_of, proposal_length, entries_of, heads_from, lows_from, held_word_of, held_of, head_of, lows_of, highs_of}
use Rattle.rules.specs.Rules.{minus_one, held_in_range, head_in_range, rule9, before_of, rule10}
use Rattle.std.specs.Prelude.{Option, None, Some}

-- an entry past the first is looked at with the one before
pub order_is : (t w : List ℤ) (i : ℕ) → (i ≡ 0 → ⊥) → rule10 t w i ≡ before_of t w (i - 1) (head_of t w i 0) (head_of t w i 1) (head_of t w i 2)
unfolding rule10
order_is t w zero h = absurd (h refl)
order_is t w (suc i) h = let e : suc i - 1 ≡ i = omega arith in rw e

-- ---- the held words
-- the proposal is as long as its sizes call for
pub words_length : (p : Proposal) → length p.words.now ≡ proposal_length p.table.words.now p.words.now
words_length p = let b = layout-bounded (passed_table p.table) p.sized in b.whole

pub held_word : (t w : List ℤ) (i : ℕ) → 4 ≤ i → i < heads_from t
    → rule9 t w i ≡ minus_one (word_of w i) || ltb (number_at w i) (2 ^ (sizes_of t).mutexes)
unfolding rule9 held_in_range held_of held_word_of
held_word t w i h l = let there : 4 + (i - 4) ≡ i = omega arith in rw (le-ltb i 4 h, lt-ltb i (heads_from t) l, there)

-- ---- the heads of the entries
-- the search for a word that fails has come to the word i; what it gives
abbrev pub At : Proposal → ℕ → Type 0
At p i = Sought (rule9 p.table.words.now p.words.now) (heads_from p.table.words.now) (lows_from p.table.words.now p.words.now) i

abbrev Failing : Proposal → Option ℕ
Failing p = first_bad_in (rule9 p.table.words.now p.words.now) (places (heads_from p.table.words.now) (lows_from p.table.words.now p.words.now))

-- word k of the head of entry e
pub head-word : (t w : List ℤ) (e k : ℕ) → 3 * e + k < 3 * entries_of w
    → rule9 t w (heads_from t + (3 * e + k)) ≡ head_in_range t (k % 3) (number_at w (heads_from t + (3 * e + k)))
unfolding rule9 heads_from lows_from
head-word t w e k l =
    let at = heads_from t + (3 * e + k) in
    let there : heads_from t + (3 * e + k) - heads_from t ≡ 3 * e + k = omega arith in
    rw (
      le-ltb at 4 (omega arith),
      le-ltb at (heads_from t) (omega arith),
      lt-ltb at (lows_from t w) (omega arith),
      there,
      mul-add-mod_self_left 3 e k,
    )

module _ (t w : List ℤ) (k : ℕ) (l : k < entries_of w) where
  -- the three words of the head of entry k
  pub head_room : heads_from t + 3 * k + 2 < lows_from t w
  unfolding lows_from
  head_room = omega arith

  task-is : rule9 t w (heads_from t + 3 * k) ≡ ltb (number_at w (heads_from t + 3 * k)) (sizes_of t).tasks
  unfolding head_in_range
  task-is = rw add-zero at (head-word t w k 0 (omega arith))

  set_is : rule9 t w (heads_from t + 3 * k + 1) ≡ ltb (number_at w (heads_from t + 3 * k + 1)) (2 ^ (sizes_of t).mutexes)
  unfolding head_in_range
  set_is = rw add_assoc (head-word t w k 1 (omega arith))

  variable-is : rule9 t w (heads_from t + 3 * k + 2) ≡ ltb (number_at w (heads_from t + 3 * k + 2)) (sizes_of t).variables
  unfolding head_in_range
  variable-is = rw add_assoc (head-word t w k 2 (omega arith))

-- a word x is where the search has come to, and n is how many tasks, sets or variables there are: it is the first that fails, or passes too
module _ {f : ℕ → Bool} {from to i n x : ℕ} (s : Sought f from to i) (room : i < to) (is : f i ≡ ltb x n) where
  stops-at : n ≤ x → Some i ≡ first_bad_in f (places from to)
  stops-at h = sought s room (is ∙ le-ltb x n h)

  passes-at : x < n → Sought f from to (i + 1)
  passes-at h = seeks s room (is ∙ lt-ltb x n h)

-- the head of entry k where the code has come to it: the heads begin at from, and x is the word that was read
module _ (p : Proposal) {from k : ℕ} (e : from ≡ heads_from p.table.words.now) (l : k < p.entries) where
  below : k < entries_of p.words.now
  below = omega (arith, p.parts.entries)

  room : from + 3 * k + 2 < lows_from p.table.words.now p.words.now
  room = rw e (head_room p.table.words.now p.words.now k below)

  task-test : {x : ℕ} → x ≡ number_at p.words.now (from + 3 * k) → rule9 p.table.words.now p.words.now (from + 3 * k) ≡ ltb x p.table.sizes.tasks
  task-test q = rw (q, e, p.table.cut.sizes) (task-is p.table.words.now p.words.now k below)

  pub task-fails : {x : ℕ} → At p (from + 3 * k) → x ≡ number_at p.words.now (from + 3 * k) → p.table.sizes.tasks ≤ x → Some (from + 3 * k) ≡ Failing p
  task-fails s q = stops-at s (omega (arith, room)) (task-test q)

  pub past-task : {x : ℕ} → At p (from + 3 * k) → x ≡ number_at p.words.now (from + 3 * k) → x < p.table.sizes.tasks → At p (from + 3 * k + 1)
  past-task s q = passes-at s (omega (arith, room)) (task-test q)

  module _ {sets : ℕ} (r : sets ≡ 2 ^ (sizes_of p.table.words.now).mutexes) where
    set-test : {x : ℕ} → x ≡ number_at p.words.now (from + 3 * k + 1) → rule9 p.table.words.now p.words.now (from + 3 * k + 1) ≡ ltb x sets
    set-test q = rw (q, r, e) (set_is p.table.words.now p.words.now k below)

    pub set_fails : {x : ℕ} → At p (from + 3 * k + 1) → x ≡ number_at p.words.now (from + 3 * k + 1) → sets ≤ x → Some (from + 3 * k + 1) ≡ Failing p
    set_fails s q = stops-at s (omega (arith, room)) (set-test q)

    pub past-set : {x : ℕ} → At p (from + 3 * k + 1) → x ≡ number_at p.words.now (from + 3 * k + 1) → x < sets → At p (from + 3 * k + 2)
    past-set s q h = let next : from + 3 * k + 1 + 1 ≡ from + 3 * k + 2 = omega arith in rw next at (passes-at s (omega (arith, room)) (set-test q) h)

  variable-test : {x : ℕ} → x ≡ number_at p.words.now (from + 3 * k + 2)
      → rule9 p.table.words.now p.words.now (from + 3 * k + 2) ≡ ltb x p.table.sizes.variables
  variable-test q = rw (q, e, p.table.cut.sizes) (variable-is p.table.words.now p.words.now k below)

  pub variable-fails : {x : ℕ} → At p (from + 3 * k + 2) → x ≡ number_at p.words.now (from + 3 * k + 2) → p.table.sizes.variables ≤ x
      → Some (from + 3 * k + 2) ≡ Failing p
  variable-fails s q = stops-at s room (variable-test q)

  pub past-variable : {x : ℕ} → At p (from + 3 * k + 2) → x ≡ number_at p.words.now (from + 3 * k + 2) → x < p.table.sizes.variables
      → At p (from + 3 * (k + 1))
  past-variable s q h =
      let next : from + 3 * k + 2 + 1 ≡ from + 3 * (k + 1) = omega arith in
      rw next at (passes-at s room (variable-test q) h)

-- ---- the ends
pub end_is : (t w : List ℤ) (k : ℕ) → rule9 t w (lows_from t w + k) ≡ le_z (word_of (lows_of t w) k) (word_of (highs_of t w) k)
unfolding rule9 heads_from lows_from
end_is t w k =
    let at = lows_from t w + k in
    let there : lows_from t w + k - lows_from t w ≡ k = omega arith in
    rw (le-ltb at 4 (omega arith), le-ltb at (heads_from t) (omega arith), le-ltb at (lows_from t w) (omega arith), there)

module _ (p : Proposal) where
  -- where they begin
  pub ends_from : lows_from p.table.words.now p.words.now ≤ 1796
  unfolding lows_from heads_from
  ends_from = let points = ap (λ (s : Sizes). s.points) p.table.cut.sizes in omega (arith, p.few.points, p.few.entries, p.parts.entries)

  pub end_test : (i : ℕ) → lows_from p.table.words.now p.words.now ≤ i
      → let k = i - lows_from p.table.words.now p.words.now in
      rule9 p.table.words.now p.words.now i ≡ le_z (word_of p.rows.lows.now k) (word_of p.rows.highs.now k)
  end_test i l =
      let from = lows_from p.table.words.now p.words.now in
      let there : from + (i - from) ≡ i = omega arith in
      rw (p.parts.lows, p.parts.highs) (rw there at (end_is p.table.words.now p.words.now (i - from)))

-- ---- one search after another
abbrev Clear : (ℕ → Bool) → ℕ → Type 0
Clear f n = (j : ℕ) → j < n → f j ≡ true

same_search : (f g : ℕ → Bool) (n : ℕ) → ((j : ℕ) → j < n → f j ≡ g j) → first_bad f n ≡ first_bad g n
unfolding first_bad
same_search f g zero h = refl
same_search f g (suc n) h = rw (same_search f g n (λ j l. h j (omega arith)), h n (omega arith))

-- from a place on before which all pass, a search is one from the start
from-start : {f : ℕ → Bool} {from : ℕ} (n : ℕ) {s : Option ℕ} → s ≡ first_bad_in f (places from n) → Clear f from → s ≡ first_bad f n
unfolding first_bad_in
from-start {f} {from} n e h = e ∙ same_search (λ j. ltb j from || f j) f n (λ j l. by j (ltb j from) refl)
  where
    by : (j : ℕ) (b : Bool) → ltb j from ≡ b → b || f j ≡ f j
    by j true q = sym (h j (ltb-true j from q))
    by j false q = refl

-- where one before fails, it is the first in a longer search too
found-later : (f : ℕ → Bool) (n k : ℕ) {i : ℕ} → first_bad f n ≡ Some i → first_bad f (n + k) ≡ Some i
unfolding first_bad or_else
found-later f n zero e = rw (add-zero n) e
found-later f n (suc k) e = rw (add-suc n k, found-later f n k e)

-- h, k and l are what the searches of the held words, of the heads and of the ends gave
module _ (t w : List ℤ) {h : Option ℕ} (held : h ≡ first_bad_in (rule9 t w) (places 4 (heads_from t))) where
  held-all : h ≡ first_bad (rule9 t w) (heads_from t)
  unfolding rule9
  held-all = from-start _ held (λ j l. rw (lt-ltb j 4 l))

  pub held-first : {i : ℕ} → h ≡ Some i → Some i ≡ first_bad (rule9 t w) (lows_from t w + intervals_of t w)
  unfolding lows_from
  held-first e = sym (found-later _ _ _ (found-later _ _ _ (sym held-all ∙ e)))

  module _ {k : Option ℕ} (none : h ≡ None) (head : k ≡ first_bad_in (rule9 t w) (places (heads_from t) (lows_from t w))) where
    heads-all : k ≡ first_bad (rule9 t w) (lows_from t w)
    heads-all = from-start _ head (first_bad-none _ _ (sym held-all ∙ none))

    pub head-first : {i : ℕ} → k ≡ Some i → Some i ≡ first_bad (rule9 t w) (lows_from t w + intervals_of t w)
    head-first e = sym (found-later _ _ _ (sym heads-all ∙ e))

    pub end-first : {l : Option ℕ} → k ≡ None → l ≡ first_bad_in (rule9 t w) (places (lows_from t w) (lows_from t w + intervals_of t w))
        → l ≡ first_bad (rule9 t w) (lows_from t w + intervals_of t w)
    end-first e last = from-start _ last (first_bad-none _ _ (sym heads-all ∙ e))
