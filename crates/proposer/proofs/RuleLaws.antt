-- Where a pass changes nothing, the words of its state keep rules 11 to 16.
-- Assumes nothing.
use Prim.Native.Nat.{ℕ, ◌+◌, ◌-◌, ◌/◌, ◌%◌, ◌<◌}
use mathlib.Core.Path.{◌≡◌, refl, sym, ap, subst, ◌∙◌}
use mathlib.Core.Bool.{Bool, true, false, not, ◌&&◌}
use mathlib.Core.List.{List, [], ◌∷◌}
use native.Mathlib.Decide.{dec_lt}
use native.Mathlib.Omega.{arith}
use borrow.Author.Tests.{lt-ltb, le-ltb, eq-eqb, eqb-true}
use lib.Dec.{eqb, ltb}
use lib.IntN.{ℤ, pos}
use lib.Seq.{get_or-set_same}
use lib.Signed.{le_z, ≤ℤ_refl}
use Rattle.words.specs.Words.{word_of, number_of}
use Rattle.words.proofs.Bools.{clash, and-true, and_left, and_right, or_left, or_right}
use Rattle.words.proofs.FirstLaws.{all_below-each, each-all_below, some_below-one, one-some_below}
use Rattle.interval.specs.Interval.{from_to, span}
use Rattle.interval.specs.Lattice.{within_of, ◌⊑◌}
use Rattle.interval.specs.declared.Interval.{Interval}
use Rattle.interval.proofs.IntegerLaws.{le-true, le_z-yes'}
use Rattle.interval.proofs.LatticeLaws.{from_to-mono}
use Rattle.table.specs.Layout.{sizes_of, starts_of, points_of, first_of, task_of}
use Rattle.table.specs.Decode.{point_of}
use Rattle.table.specs.Passes.{Passes, FormedPoint}
use Rattle.table.specs.declared.Point.{Point}
use Rattle.table.specs.declared.Point.TheVariants.{End, Assign, Test, Lock, Unlock}
use Rattle.analysis.specs.declared.Row.{Row}
use Rattle.analysis.specs.Rows.{row_of, range_of}
use Rattle.analysis.proofs.RowLaws.{Tighter}
use Rattle.rules.specs.Held.{has_of, disjoint_of}
use Rattle.rules.specs.Proposal.{entries_of, held_of, reached_of, head_of, row_at, rest_at, entry_low, entry_high}
use Rattle.rules.specs.Outcomes.{Outcome, row_within_of, written_of, outcomes_with, outcomes_by, outcomes_of}
use Rattle.rules.specs.Rules.{implies, all_outcomes, holds_start, is_first, start_point, rule11, held_fits, locks_fit, rows_fit, rule12, rule13, files, filed, writes, rule14, takes, disturbs, undisturbed, rule15, rests, rest_point, rest_entry, rule16}
use Rattle.proposer.specs.Laws.{Words}
use Rattle.proposer.specs.Walk.{sets_of, Brings}
use Rattle.proposer.specs.Widen.{covers_of, Places, place_in, take_in}
use Rattle.proposer.specs.Passes.{State, row_in, code_of, files_by, files_at, written_to, with_at, take_both, entry_into, disturb, unguarded, take_all, rested_by, file_in, filed_by, outcomes_in, leave_by, leave}
use Rattle.proposer.specs.Propose.{held_by, words_of}
use Rattle.proposer.proofs.WidenLaws.{Proper}
use Rattle.proposer.proofs.TakeLaws.{ProperRow, Fine, Grows, grows-anti, take-forward, Covered, take-still}
use Rattle.proposer.proofs.ValueLaws.{ProperOn}
use Rattle.proposer.proofs.OutcomeLaws.{AllOf, all_map, Sound, written-proper}
use Rattle.proposer.proofs.WordLaws.{held_word, row_is}
use Rattle.proposer.proofs.PassLaws.{start_row, OnPoint, starting, never, Anywhere, Inv, row-known, take_all-forward, rested-forward, sound-at, Arrives, Still}
use Rattle.proposer.proofs.SlotLaws.{variable-below, codes, head_code, head-below, slot-found}
use Rattle.proposer.proofs.EntryLaws.{code-task, code-set, code-variable, EntryAt, entry_at, EntryFor, entry-for, low_fits, high_fits}
use Rattle.std.specs.Prelude.{None, Option, Some}

-- ---- tests
implies-if : (a b : Bool) → (a ≡ true → b ≡ true) → implies a b ≡ true
implies-if true b f = f refl
implies-if false b f = refl

some_inj : {r s : Row} → Some r ≡ Some s → r ≡ s
some_inj e = cc

-- no end must move: the interval lies within
covers-within : (n : ℕ) (r s : Row) (v : ℕ) → covers_of n r s ≡ true → v < n → range_of s v ⊑ range_of r v
unfolding covers_of
covers-within n r s v e l =
    let at = all_below-each (λ v. le_z (word_of r.lows v) (word_of s.lows v) && le_z (word_of s.highs v) (word_of r.highs v)) n e v l in
    let low = le_z (word_of r.lows v) (word_of s.lows v) in
    let high = le_z (word_of s.highs v) (word_of r.highs v) in
    from_to-mono {lo = word_of s.lows v} {hi = word_of s.highs v} {lo' = word_of r.lows v} {hi' = word_of r.highs v}
    (le_z-yes' (word_of r.lows v) (word_of s.lows v) (and_left low high at)) (le_z-yes' (word_of s.highs v) (word_of r.highs v) (and_right low high at))

covers-row : (n : ℕ) (r s : Row) → covers_of n r s ≡ true → row_within_of n s r ≡ true
unfolding row_within_of
covers-row n r s e = each-all_below (λ v. within_of (range_of s v) (range_of r v)) n (λ v l. covers-within n r s v e l)

all_true : (P : Outcome → Type 0) (f : Outcome → Bool) (l : List Outcome) → ((o : Outcome) → P o → f o ≡ true) → AllOf P l → all_outcomes f l ≡ true
unfolding AllOf all_outcomes
all_true P f [] g h = refl
all_true P f (o ∷ l) g h = and-true (g o h.0) (all_true P f l g h.1)

all_both : (P Q : Outcome → Type 0) (l : List Outcome) → AllOf P l → AllOf Q l → AllOf (λ o. P o × Q o) l
unfolding AllOf
all_both P Q [] h k = tt
all_both P Q (o ∷ l) h k = ((h.0, k.0), all_both P Q l h.1 k.1)

-- the outcomes of a proposal are those by its rest rows
outcomes-by : (t w : List ℤ) (rest : ℕ → Row) (p : ℕ) (x : Point) (s : ℕ) (r : Row) → FormedPoint t p x → ((m : ℕ) → m < (sizes_of t).mutexes → rest_at t w m ≡ rest m)
    → outcomes_by t w x s r ≡ outcomes_with t rest x s r
unfolding outcomes_by outcomes_with FormedPoint
outcomes-by t w rest p End s r f e = refl
outcomes-by t w rest p (Assign v y q) s r f e = refl
outcomes-by t w rest p (Test c y n) s r f e = refl
outcomes-by t w rest p (Lock m q) s r f e = rw (e m f.0) refl
outcomes-by t w rest p (Unlock m q) s r f e = refl

module _ (t ts : List ℤ) (h : ℕ → ℕ) (on : ℕ → Bool) (passes : Passes t) (words : Words t) (brings : Brings t h on) (s : State)
    (inv : Inv t ts h on s) (still : Still t ts h on passes words brings s) (calm : s.rows.moved ≡ false) (calm-entries : s.entries.moved ≡ false) where
  abbrev Rows·Covered : ℕ → Row → Type 0
  Rows·Covered k r = Covered (sizes_of t).variables ts (starting t) (start_row t) (OnPoint t on) s.rows k r

  -- ---- reading the words
  row-at : (k : ℕ) (r : Row) → k < (sizes_of t).points + (sizes_of t).mutexes → place_in s.rows k ≡ Some r → row_at t (words_of t h s) k ≡ r
  unfolding row_in
  row-at k r l e = row_is t h s (low_fits t ts h on passes words brings s inv) (high_fits t ts h on passes words brings s inv) k l ∙ rw e refl

  rest-at : (m : ℕ) → m < (sizes_of t).mutexes → rest_at t (words_of t h s) m ≡ row_in (sizes_of t).variables (place_in s.rows ((sizes_of t).points + m))
  rest-at m l = row_is t h s (low_fits t ts h on passes words brings s inv) (high_fits t ts h on passes words brings s inv) ((sizes_of t).points + m) (omega arith)

  held_at : (p : ℕ) (r : Row) → p < (sizes_of t).points → place_in s.rows p ≡ Some r → held_of (words_of t h s) p ≡ h p
  unfolding held_of held_by number_of
  held_at p r l e = rw (held_word t h s p l, e) refl

  reached-some : (p : ℕ) (X : Bool) → p < (sizes_of t).points → ((r : Row) → place_in s.rows p ≡ Some r → X ≡ true) → implies (reached_of (words_of t h s) p) X ≡ true
  unfolding held_of held_by number_of
  reached-some p X l f = by (place_in s.rows p) refl
    where
      by : (m : Option Row) → place_in s.rows p ≡ m → implies (reached_of (words_of t h s) p) X ≡ true
      by None e = rw (held_word t h s p l, e) refl
      by (Some r) e = implies-if (reached_of (words_of t h s) p) X (λ _. f r e)

  outcomes-is : (p : ℕ) (r : Row) → p < (sizes_of t).points → place_in s.rows p ≡ Some r → outcomes_of t (words_of t h s) p ≡ outcomes_in t ts h s p r
  unfolding outcomes_of
  outcomes-is p r l e =
      rw (held_at p r l e, row-at p r (omega arith) e)
      (outcomes-by t (words_of t h s) (λ m. row_in (sizes_of t).variables (place_in s.rows ((sizes_of t).points + m))) p (point_of (points_of t) p) (h p) r (passes.point p l) rest-at)

  -- ---- 11
  -- a place that begins with the starting values has a row that holds them
  started : (k : ℕ) → starting t k ≡ true → (r : Row) × (place_in s.rows k ≡ Some r) × Tighter (start_row t) r
  started k e = by (place_in s.rows k) refl (inv.rows.fine k)
    where
      by : (m : Option Row) → place_in s.rows k ≡ m → Fine (sizes_of t).variables ts (starting t) (start_row t) (OnPoint t on) k m
          → (r : Row) × (place_in s.rows k ≡ Some r) × Tighter (start_row t) r
      by None q f = clash (sym e ∙ f)
      by (Some r) q f = (r, q, f.begun e)

  start-holds : (r : Row) → Tighter (start_row t) r → holds_start t r ≡ true
  unfolding holds_start
  start-holds r g =
      each-all_below (λ v. within_of (span (word_of (starts_of t) v) (word_of (starts_of t) v)) (range_of r v)) (sizes_of t).variables
      (λ v l. rw (le-true (≤ℤ_refl (word_of (starts_of t) v))) at (from_to-mono (g.low v) (g.high v)))

  first-starting : (p : ℕ) → p < (sizes_of t).points → is_first t p ≡ true → starting t p ≡ true
  first-starting p l e = and-true (lt-ltb p ((sizes_of t).points + (sizes_of t).mutexes) (omega arith)) (or_right (not (ltb p (sizes_of t).points)) e)

  pub rest-starting : (m : ℕ) → m < (sizes_of t).mutexes → starting t ((sizes_of t).points + m) ≡ true
  rest-starting m l = and-true (lt-ltb ((sizes_of t).points + m) ((sizes_of t).points + (sizes_of t).mutexes) (omega arith)) (or_left _ (ap not (le-ltb ((sizes_of t).points + m) (sizes_of t).points (omega arith))))

  first-held : (p : ℕ) → is_first t p ≡ true → h p ≡ 0
  first-held p e =
      let u = some_below-one (λ u. eqb (first_of t u) p) (sizes_of t).tasks e in
      subst (λ (q : ℕ). h q ≡ 0) (eqb-true _ _ u.2) (brings.first u.0 u.1)

  pub start-ok : (place : ℕ) → place < (sizes_of t).points + (sizes_of t).mutexes → rule11 t (words_of t h s) place ≡ true
  unfolding rule11 start_point
  start-ok place l = elim (dec_lt place (sizes_of t).points) [
    | yes m ↦ rw (lt-ltb place (sizes_of t).points m) (implies-if (is_first t place) _ (λ e.
        let r = started place (first-starting place m e) in
        and-true (eq-eqb _ 0 (held_at place r.0 m r.1 ∙ first-held place e)) (rw (row-at place r.0 l r.1) (start-holds r.0 r.2))))
    | no m ↦
        let q : (sizes_of t).points + (place - (sizes_of t).points) ≡ place = omega arith in
        let e = subst (λ (k : ℕ). starting t k ≡ true) q (rest-starting (place - (sizes_of t).points) (omega arith)) in
        let r = started place e in
        rw (le-ltb place (sizes_of t).points (omega arith)) (rw (row-at place r.0 l r.1) (start-holds r.0 r.2))
  ]

  -- ---- what leaving a point without a change tells
  take_all-still : (place : Outcome → ℕ) (l : List Outcome)
      → AllOf (λ o. (place o < (sizes_of t).points + (sizes_of t).mutexes) × ProperRow o.row × OnPoint t on (place o)) l
      → take_all place (sizes_of t).variables ts s.rows l ≡ s.rows → AllOf (λ o. Rows·Covered (place o) o.row) l
  unfolding take_all AllOf
  take_all-still place [] g e = tt
  take_all-still place (o ∷ l) g e =
      let one = take-forward (sizes_of t).variables ts (starting t) (start_row t) (OnPoint t on) ((sizes_of t).points + (sizes_of t).mutexes) s.rows (place o) o.row inv.rows g.0.0 g.0.1 g.0.2 in
      let more = take_all-forward t ts h on passes words brings place l (take_in (sizes_of t).variables ts s.rows (place o) o.row) one.keeps g.1 in
      let first : take_in (sizes_of t).variables ts s.rows (place o) o.row ≡ s.rows =
      grows-anti _ _ _ _ _ s.rows _ one.on (subst (λ (x : Places). Grows (sizes_of t).variables ts (starting t) (start_row t) (OnPoint t on) (take_in (sizes_of t).variables ts s.rows (place o) o.row) x) e more.on) in (
        take-still (sizes_of t).variables ts (starting t) (start_row t) (OnPoint t on) s.rows (place o) o.row calm first,
        take_all-still place l g.1 (subst (λ (x : Places). take_all place (sizes_of t).variables ts x l ≡ s.rows) first e),
      )

  -- an entry that holds lo to hi, under the head (u, s, v)
  files-here : {u n : ℕ} (v : ℕ) (lo hi : ℤ) (i : ℕ) (x : Row) → head_of t (words_of t h s) i 0 ≡ u → head_of t (words_of t h s) i 1 ≡ n → head_of t (words_of t h s) i 2 ≡ v
      → entry_low t (words_of t h s) i ≡ word_of x.lows 0 → entry_high t (words_of t h s) i ≡ word_of x.highs 0
      → covers_of 1 x (row_of (lo ∷ []) (hi ∷ [])) ≡ true → Proper lo hi → files t (words_of t h s) u n v (span lo hi) i ≡ true
  unfolding files
  files-here v lo hi i x eu en ev el eh c z =
      and-true (eq-eqb _ _ eu) (and-true (eq-eqb _ _ en) (and-true (eq-eqb _ _ ev)
      (rw (el, eh) (rw (le-true z.ordered) at (covers-within 1 x (row_of (lo ∷ []) (hi ∷ [])) 0 c (omega arith))))))

  module _ (p : ℕ) (r : Row) (l : p < (sizes_of t).points) (e : place_in s.rows p ≡ Some r) where
    left-still : leave_by t ts h (Some r) s p ≡ s
    unfolding leave
    left-still = subst (λ (m : Option Row). leave_by t ts h m s p ≡ s) e (still.leaves p l)

    rows-still : rested_by (point_of (points_of t) p) t ts (take_all (λ o. o.target) (sizes_of t).variables ts s.rows (outcomes_in t ts h s p r)) (outcomes_in t ts h s p r) ≡ s.rows
    unfolding leave_by
    rows-still = ap (λ (x : State). x.rows) left-still

    entries-still : filed_by (point_of (points_of t) p) t ts h s.entries p r ≡ s.entries
    unfolding leave_by
    entries-still = ap (λ (x : State). x.entries) left-still

    sound : AllOf (Sound t (Arrives t ts h on passes words brings)) (outcomes_in t ts h s p r)
    sound = sound-at t ts h on passes words brings s p r inv l e

    targets : AllOf (λ o. (o.target < (sizes_of t).points + (sizes_of t).mutexes) × ProperRow o.row × OnPoint t on o.target) (outcomes_in t ts h s p r)
    targets = all_map _ _ (outcomes_in t ts h s p r) (λ o k. (omega (arith, k.point), k.proper, λ _. k.brings.0)) sound

    arrived-still : take_all (λ o. o.target) (sizes_of t).variables ts s.rows (outcomes_in t ts h s p r) ≡ s.rows
    arrived-still =
        let arrived = take_all-forward t ts h on passes words brings (λ o. o.target) (outcomes_in t ts h s p r) s.rows inv.rows targets in
        let rested = rested-forward t ts h on passes words brings p (point_of (points_of t) p) _ (outcomes_in t ts h s p r) (passes.point p l) arrived.keeps sound in
        grows-anti _ _ _ _ _ s.rows _ arrived.on
        (subst (λ (x : Places). Grows (sizes_of t).variables ts (starting t) (start_row t) (OnPoint t on) (take_all (λ o. o.target) (sizes_of t).variables ts s.rows (outcomes_in t ts h s p r)) x) rows-still rested.on)

    pub arrived : AllOf (λ o. Rows·Covered o.target o.row) (outcomes_in t ts h s p r)
    arrived = take_all-still (λ o. o.target) (outcomes_in t ts h s p r) targets arrived-still

    rested-still : rested_by (point_of (points_of t) p) t ts s.rows (outcomes_in t ts h s p r) ≡ s.rows
    rested-still = subst (λ (x : Places). rested_by (point_of (points_of t) p) t ts x (outcomes_in t ts h s p r) ≡ s.rows) arrived-still rows-still

    -- 12
    locks-here : locks_fit (words_of t h s) (outcomes_in t ts h s p r) ≡ true
    unfolding locks_fit
    locks-here =
        all_true _ (λ o. held_fits o.held (held_of (words_of t h s) o.target)) (outcomes_in t ts h s p r)
        (λ o k. eq-eqb _ _ (held_at o.target k.1.row k.0.point k.1.is ∙ k.0.brings.1))
        (all_both _ _ (outcomes_in t ts h s p r) sound arrived)

    -- 13
    rows-here : rows_fit t (words_of t h s) (outcomes_in t ts h s p r) ≡ true
    unfolding rows_fit
    rows-here =
        all_true _ (λ o. row_within_of (sizes_of t).variables o.row (row_at t (words_of t h s) o.target)) (outcomes_in t ts h s p r)
        (λ o k. rw (row-at o.target k.1.row (omega (arith, k.0.point)) k.1.is) (covers-row (sizes_of t).variables k.1.row o.row k.1.covers))
        (all_both _ _ (outcomes_in t ts h s p r) sound arrived)

    -- 14
    filed-by : (v : ℕ) (lo hi : ℤ) (c : ℕ) (x : Row) → EntryFor t ts h on passes words brings s inv c x → head_code t h p ≡ c
        → written_to (point_of (points_of t) p) ≡ v → covers_of 1 x (row_of (lo ∷ []) (hi ∷ [])) ≡ true → Proper lo hi
        → filed t (words_of t h s) (task_of t p) (h p) v (span lo hi) ≡ true
    unfolding filed
    filed-by v lo hi c x i code variable covers z =
        one-some_below (files t (words_of t h s) (task_of t p) (h p) v (span lo hi)) (entries_of (words_of t h s)) i.index i.below
        (files-here v lo hi i.index x
        (i.task ∙ ap (λ (n : ℕ). n / (sizes_of t).variables / sets_of t) (sym code) ∙ code-task t ts h on passes words brings p l)
        (i.set ∙ ap (λ (n : ℕ). n / (sizes_of t).variables % sets_of t) (sym code) ∙ code-set t ts h on passes words brings p l)
        (i.variable ∙ ap (λ (n : ℕ). n % (sizes_of t).variables) (sym code) ∙ code-variable t ts h on passes words brings p l ∙ variable)
        i.low i.high covers z)

    filed-here : (v y q : ℕ) → point_of (points_of t) p ≡ Assign v y q → (x : Option Interval) → written_of t y r ≡ x → ProperOn x
        → filed t (words_of t h s) (task_of t p) (h p) v x ≡ true
    unfolding filed files_by written_to file_in filed_by
    filed-here v y q is None w z = refl
    filed-here v y q is (Some e) w z =
        let own : files_at t h (code_of t (task_of t p) (h p) v) p ≡ true = rw is (eq-eqb (code_of t (task_of t p) (h p) v) _ refl) in
        let code : head_code t h p ≡ code_of t (task_of t p) (h p) v = rw is refl in
        let slot = slot-found t h (code_of t (task_of t p) (h p) v) p l own in
        let kept : take_in 1 ts s.entries slot.0 (row_of (e.low ∷ []) (e.high ∷ [])) ≡ s.entries = rw (is, w, slot.1) at entries-still in
        let c = take-still 1 ts never (start_row t) Anywhere s.entries slot.0 (row_of (e.low ∷ []) (e.high ∷ [])) calm-entries kept in
        let below = subst (λ (n : ℕ). n < codes t) code (head-below t h passes p l (brings.set p)) in
        filed-by v e.low e.high (code_of t (task_of t p) (h p) v) c.row
        (entry-for t ts h on passes words brings s inv (code_of t (task_of t p) (h p) v) slot.0 c.row below slot.1 c.is)
        code (rw is refl) c.covers z

    writes-here : (x : Point) → point_of (points_of t) p ≡ x → writes t (words_of t h s) x p (h p) r ≡ true
    unfolding writes written_of
    writes-here End is = refl
    writes-here (Assign v y q) is = filed-here v y q is (written_of t y r) refl (written-proper t y r words (row-known t ts h on s p r inv e).proper)
    writes-here (Test c y n) is = refl
    writes-here (Lock m q) is = refl
    writes-here (Unlock m q) is = refl

    -- 16
    rests-here : (x : Point) → point_of (points_of t) p ≡ x → FormedPoint t p x → rests t (words_of t h s) x (outcomes_in t ts h s p r) ≡ true
    unfolding rests FormedPoint rested_by
    rests-here End is f = refl
    rests-here (Assign v y q) is f = refl
    rests-here (Test c y n) is f = refl
    rests-here (Lock m q) is f = refl
    rests-here (Unlock m q) is f =
        let kept : take_all (λ o. (sizes_of t).points + m) (sizes_of t).variables ts s.rows (outcomes_in t ts h s p r) ≡ s.rows =
        subst (λ (x : Point). rested_by x t ts s.rows (outcomes_in t ts h s p r) ≡ s.rows) is rested-still in
        all_true _ (λ o. row_within_of (sizes_of t).variables o.row (rest_at t (words_of t h s) m)) (outcomes_in t ts h s p r)
        (λ o k. rw (row-at ((sizes_of t).points + m) k.row (omega (arith, f.0)) k.is) (covers-row (sizes_of t).variables k.row o.row k.covers))
        (take_all-still (λ o. (sizes_of t).points + m) (outcomes_in t ts h s p r)
        (all_map _ (λ (o : Outcome). ((sizes_of t).points + m < (sizes_of t).points + (sizes_of t).mutexes) × ProperRow o.row × OnPoint t on ((sizes_of t).points + m)) (outcomes_in t ts h s p r)
        (λ o k. (omega (arith, f.0), k.proper, λ below. absurd (omega arith))) sound) kept)

  -- ---- an entry taken into a row without a change
  into-still : (k q : ℕ) (r x : Row) → q < (sizes_of t).points → place_in s.rows k ≡ Some r → place_in s.entries q ≡ Some x → entry_into true t ts s k q ≡ s
      → from_to (word_of x.lows 0) (word_of x.highs 0) ⊑ range_of r (written_to (point_of (points_of t) q))
  unfolding entry_into take_both
  into-still k q r x l er ex kept =
      let v = written_to (point_of (points_of t) q) in
      let known = row-known t ts h on s k r inv er in
      let lv = variable-below t passes q l in
      let rows : take_in (sizes_of t).variables ts s.rows k (with_at r v x) ≡ s.rows = rw (er, ex) at (ap (λ (y : State). y.rows) kept) in
      let c = take-still (sizes_of t).variables ts (starting t) (start_row t) (OnPoint t on) s.rows k (with_at r v x) calm rows in
      let same : c.row ≡ r = some_inj (sym c.is ∙ er) in
      rw (
        get_or-set_same r.lows v (word_of x.lows 0) (pos 0) (omega (arith, known.lows)),
        get_or-set_same r.highs v (word_of x.highs 0) (pos 0) (omega (arith, known.highs)),
      ) at (covers-within (sizes_of t).variables r (with_at r v x) v (subst (λ (y : Row). covers_of (sizes_of t).variables y (with_at r v x) ≡ true) same c.covers) lv)

  takes-here : (k i : ℕ) (r : Row) → place_in s.rows k ≡ Some r → (x : EntryAt t ts h on passes words brings s inv i) → entry_into true t ts s k x.slot ≡ s
      → takes t (words_of t h s) r i ≡ true
  unfolding takes
  takes-here k i r e x kept = rw (x.variable, x.low, x.high) (into-still k x.slot r x.row x.below e x.is kept)

  -- ---- the rules
  pub locks-ok : (p : ℕ) → p < (sizes_of t).points → rule12 t (words_of t h s) p ≡ true
  unfolding rule12
  locks-ok p l = reached-some p _ l (λ r e. rw (outcomes-is p r l e) (locks-here p r l e))

  pub flow-ok : (p : ℕ) → p < (sizes_of t).points → rule13 t (words_of t h s) p ≡ true
  unfolding rule13
  flow-ok p l = reached-some p _ l (λ r e. rw (outcomes-is p r l e) (rows-here p r l e))

  pub write-ok : (p : ℕ) → p < (sizes_of t).points → rule14 t (words_of t h s) p ≡ true
  unfolding rule14
  write-ok p l = reached-some p _ l (λ r e. rw (held_at p r l e, row-at p r (omega arith) e) (writes-here p r l e (point_of (points_of t) p) refl))

  undisturbed-here : (p i : ℕ) (r : Row) → p < (sizes_of t).points → i < entries_of (words_of t h s) → place_in s.rows p ≡ Some r → undisturbed t (words_of t h s) p i ≡ true
  unfolding undisturbed disturbs disturb
  undisturbed-here p i r l li e =
      let x = entry_at t ts h on passes words brings s inv i li in
      rw (held_at p r l e, row-at p r (omega arith) e, x.task, x.set)
      (implies-if (not (eqb (task_of t x.slot) (task_of t p)) && disjoint_of (h x.slot) (h p)) _ (λ f.
      takes-here p i r e x (subst (λ (b : Bool). entry_into b t ts s p x.slot ≡ s) f (still.disturbs p x.slot l x.below))))

  pub disturb-ok : (p : ℕ) → p < (sizes_of t).points → rule15 t (words_of t h s) p ≡ true
  unfolding rule15
  disturb-ok p l = reached-some p _ l (λ r e. each-all_below (undisturbed t (words_of t h s) p) (entries_of (words_of t h s)) (λ i li. undisturbed-here p i r l li e))

  rest-entry-ok : (i : ℕ) → i < entries_of (words_of t h s) → rest_entry t (words_of t h s) i ≡ true
  unfolding rest_entry unguarded
  rest-entry-ok i li =
      let x = entry_at t ts h on passes words brings s inv i li in
      each-all_below (λ m. implies (not (has_of (head_of t (words_of t h s) i 1) m)) (takes t (words_of t h s) (rest_at t (words_of t h s) m) i)) (sizes_of t).mutexes (λ m lm.
      let r = started ((sizes_of t).points + m) (rest-starting m lm) in
      rw (row-at ((sizes_of t).points + m) r.0 (omega arith) r.1, x.set)
      (implies-if (not (has_of (h x.slot) m)) _ (λ f.
      takes-here ((sizes_of t).points + m) i r.0 r.1 x (subst (λ (b : Bool). entry_into b t ts s ((sizes_of t).points + m) x.slot ≡ s) f (still.unguards m x.slot lm x.below)))))

  pub rest_ok : (place : ℕ) → place < (sizes_of t).points + entries_of (words_of t h s) → rule16 t (words_of t h s) place ≡ true
  unfolding rule16 rest_point
  rest_ok place l = elim (dec_lt place (sizes_of t).points) [
    | yes m ↦ rw (lt-ltb place (sizes_of t).points m) (reached-some place _ m (λ r e. rw (outcomes-is place r m e) (rests-here place r m e (point_of (points_of t) place) refl (passes.point place m))))
    | no m ↦ rw (le-ltb place (sizes_of t).points (omega arith)) (rest-entry-ok (place - (sizes_of t).points) (omega arith))
  ]
