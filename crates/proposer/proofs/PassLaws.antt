-- A pass goes forward: it keeps what the state is, and where it changes nothing, no part of it does.
-- Assumes nothing.
use Prim.Native.Nat.{ℕ, zero, suc, ◌+◌, ◌<◌}
use mathlib.Core.Path.{◌≡◌, refl, ap, subst, ◌∙◌}
use mathlib.Core.Bool.{Bool, true, false, ◌&&◌}
use mathlib.Core.List.{List, [], ◌∷◌}
use mathlib.Core.Logic.{inl}
use native.Mathlib.Omega.{arith}
use lib.Dec.{ltb}
use lib.IntN.{ℤ}
use Rattle.words.specs.Words.{word_of}
use Rattle.interval.specs.declared.Interval.{Interval}
use Rattle.table.specs.Layout.{sizes_of, starts_of, points_of}
use Rattle.table.specs.Decode.{point_of}
use Rattle.table.specs.Passes.{Passes, FormedPoint}
use Rattle.table.specs.declared.Point.{Point}
use Rattle.table.specs.declared.Point.TheVariants.{End, Assign, Test, Lock, Unlock}
use Rattle.analysis.specs.declared.Row.{Row}
use Rattle.analysis.specs.Rows.{row_of}
use Rattle.rules.specs.Outcomes.{Outcome}
use Rattle.proposer.specs.Laws.{Words}
use Rattle.proposer.specs.Fold.{fold_below}
use Rattle.proposer.specs.Walk.{Brings}
use Rattle.proposer.specs.Widen.{Places, place_in, take_in}
use Rattle.proposer.specs.Passes.{State, begins, begun, row_in, slot_of, written_to, with_at, take_both, entry_into, disturb, unguarded, take_all, rested_by, file_in, filed_by, outcomes_in, leave_by, leave, visit, rest_visit, pass_of}
use Rattle.proposer.proofs.ListLaws.{Forward, fold-forward, fold-still}
use Rattle.proposer.proofs.WidenLaws.{Proper}
use Rattle.proposer.proofs.TakeLaws.{ProperRow, proper-zero, Known, Fine, Good, Grows, grows-trans, grows-anti, Takes, take-forward}
use Rattle.proposer.proofs.ValueLaws.{ProperOn}
use Rattle.proposer.proofs.OutcomeLaws.{AllOf, all_map, Sized, zero-sized, set-proper, Sound, outcomes-sound, written-proper}
use Rattle.proposer.proofs.SlotLaws.{variable-below, slot-below}
use Rattle.std.specs.Prelude.{Option, None, Some}

abbrev pub start_row : List ℤ → Row
start_row t = row_of (starts_of t) (starts_of t)

abbrev pub OnPoint : List ℤ → (ℕ → Bool) → ℕ → Type 0
OnPoint t on k = k < (sizes_of t).points → on k ≡ true

-- where a row begins with the starting values
abbrev pub starting : List ℤ → ℕ → Bool
starting t k = ltb k ((sizes_of t).points + (sizes_of t).mutexes) && begins t k

abbrev pub never : ℕ → Bool
never k = false

abbrev pub Anywhere : ℕ → Type 0
Anywhere k = Unit {0}

module _ (t ts : List ℤ) (h : ℕ → ℕ) (on : ℕ → Bool) where
  abbrev pub GoodRows : Places → Type 0
  GoodRows a = Good (sizes_of t).variables ts (starting t) (start_row t) (OnPoint t on) ((sizes_of t).points + (sizes_of t).mutexes) a

  abbrev pub GoodEntries : Places → Type 0
  GoodEntries a = Good 1 ts never (start_row t) Anywhere (sizes_of t).points a

  abbrev pub RowsGrow : Places → Places → Type 0
  RowsGrow a b = Grows (sizes_of t).variables ts (starting t) (start_row t) (OnPoint t on) a b

  abbrev pub EntriesGrow : Places → Places → Type 0
  EntriesGrow a b = Grows 1 ts never (start_row t) Anywhere a b

  pub record Inv (s : State) : Type 0 where
    pub rows : GoodRows s.rows
    pub entries : GoodEntries s.entries

  pub record Onward (a b : State) : Type 0 where
    pub rows : RowsGrow a.rows b.rows
    pub entries : EntriesGrow a.entries b.entries

  pub onward-same : (a : State) → Onward a a
  onward-same a = record { rows = inl refl; entries = inl refl }

  pub onward-trans : (a b c : State) → Onward a b → Onward b c → Onward a c
  onward-trans a b c p q = record {
    rows = grows-trans _ _ _ _ _ a.rows b.rows c.rows p.rows q.rows;
    entries = grows-trans _ _ _ _ _ a.entries b.entries c.entries p.entries q.entries;
  }

  state-eq : (a b : State) → b.rows ≡ a.rows → b.entries ≡ a.entries → b ≡ a
  state-eq a b e f =
      ap (λ (x : Places). record { rows = x; entries = b.entries }) e ∙ ap (λ (x : Places). record { rows = a.rows; entries = x }) f

  pub onward-anti : (a b : State) → Onward a b → Onward b a → b ≡ a
  onward-anti a b p q =
      state-eq a b (grows-anti _ _ _ _ _ a.rows b.rows p.rows q.rows) (grows-anti _ _ _ _ _ a.entries b.entries p.entries q.entries)

  abbrev pub Onto : State → State → Type 0
  Onto a b = Forward Inv Onward a b

  pub onto-then : (a b c : State) → Onto a b → (Inv b → Onto b c) → Onto a c
  onto-then a b c p f = let q = f p.keeps in record { keeps = q.keeps; on = onward-trans a b c p.on q.on }

  -- where the second of two steps comes back, the first did nothing
  pub first-still : (a b c : State) → Onto a b → Onto b c → c ≡ a → b ≡ a
  first-still a b c p q e = onward-anti a b p.on (subst (λ (x : State). Onward b x) e q.on)

  -- a step at the rows only
  at_rows : (s : State) (b : Places) → Inv s → Takes (sizes_of t).variables ts (starting t) (start_row t) (OnPoint t on) ((sizes_of t).points + (sizes_of t).mutexes) s.rows b
      → Onto s (record { rows = b; entries = s.entries })
  at_rows s b i k = record { keeps = record { rows = k.keeps; entries = i.entries }; on = record { rows = k.on; entries = inl refl } }

  -- ---- the rows of a good state
  fine-sized : (k : ℕ) (m : Option Row) → Fine (sizes_of t).variables ts (starting t) (start_row t) (OnPoint t on) k m → Sized (sizes_of t).variables (row_in (sizes_of t).variables m)
  unfolding row_in
  fine-sized k None f = zero-sized (sizes_of t).variables
  fine-sized k (Some r) f = record { lows = f.lows; highs = f.highs; proper = f.proper }

  pub row_sized : (s : State) (k : ℕ) → Inv s → Sized (sizes_of t).variables (row_in (sizes_of t).variables (place_in s.rows k))
  row_sized s k i = fine-sized k (place_in s.rows k) (i.rows.fine k)

  pub row-known : (s : State) (k : ℕ) (r : Row) → Inv s → place_in s.rows k ≡ Some r → Known (sizes_of t).variables ts (starting t) (start_row t) (OnPoint t on) k r
  row-known s k r i e = subst (λ (m : Option Row). Fine (sizes_of t).variables ts (starting t) (start_row t) (OnPoint t on) k m) e (i.rows.fine k)

  pub entry_known : (s : State) (q : ℕ) (x : Row) → Inv s → place_in s.entries q ≡ Some x → Known 1 ts never (start_row t) Anywhere q x
  entry_known s q x i e = subst (λ (m : Option Row). Fine 1 ts never (start_row t) Anywhere q m) e (i.entries.fine q)

  module _ (passes : Passes t) (words : Words t) (brings : Brings t h on) where
    -- ---- an entry taken into a row
    with-proper : (s : State) (k q : ℕ) (r x : Row) → Inv s → q < (sizes_of t).points → place_in s.rows k ≡ Some r → place_in s.entries q ≡ Some x
        → ProperRow (with_at r (written_to (point_of (points_of t) q)) x)
    with-proper s k q r x i l e f =
        let known = row-known s k r i e in
        set-proper (sizes_of t).variables r (written_to (point_of (points_of t) q)) (word_of x.lows 0) (word_of x.highs 0)
        (record { lows = known.lows; highs = known.highs; proper = known.proper })
        (variable-below t passes q l) ((entry_known s q x i f).proper.at 0)

    into-forward : (b : Bool) (s : State) (k q : ℕ) → Inv s → k < (sizes_of t).points + (sizes_of t).mutexes → q < (sizes_of t).points → Onto s (entry_into b t ts s k q)
    unfolding entry_into take_both
    into-forward false s k q i lk lq = record { keeps = i; on = onward-same s }
    into-forward true s k q i lk lq = by (place_in s.entries q) refl (place_in s.rows k) refl
      where
        by : (e : Option Row) → place_in s.entries q ≡ e → (m : Option Row) → place_in s.rows k ≡ m
            → Onto s (record { rows = take_both e m (sizes_of t).variables ts s.rows k (written_to (point_of (points_of t) q)); entries = s.entries })
        by None ee m em = record { keeps = i; on = onward-same s }
        by (Some x) ee None em = record { keeps = i; on = onward-same s }
        by (Some x) ee (Some r) em =
            at_rows s _ i (take-forward _ ts _ _ _ _ s.rows k (with_at r (written_to (point_of (points_of t) q)) x) i.rows lk
            (with-proper s k q r x i lq em ee) (row-known s k r i em).on)

    -- ---- outcomes taken in
    pub take_all-forward : (place : Outcome → ℕ) (l : List Outcome) (a : Places) → GoodRows a
        → AllOf (λ o. (place o < (sizes_of t).points + (sizes_of t).mutexes) × ProperRow o.row × OnPoint t on (place o)) l
        → Takes (sizes_of t).variables ts (starting t) (start_row t) (OnPoint t on) ((sizes_of t).points + (sizes_of t).mutexes) a (take_all place (sizes_of t).variables ts a l)
    unfolding take_all AllOf
    take_all-forward place [] a g h = record { keeps = g; on = inl refl }
    take_all-forward place (o ∷ l) a g h =
        let one = take-forward (sizes_of t).variables ts (starting t) (start_row t) (OnPoint t on) ((sizes_of t).points + (sizes_of t).mutexes) a (place o) o.row g h.0.0 h.0.1 h.0.2 in
        let more = take_all-forward place l (take_in (sizes_of t).variables ts a (place o) o.row) one.keeps h.1 in
        record { keeps = more.keeps; on = grows-trans _ _ _ _ _ _ _ _ one.on more.on }

    abbrev pub Arrives : ℕ → ℕ → Type 0
    Arrives q s = (on q ≡ true) × (h q ≡ s)

    pub sound-at : (s : State) (p : ℕ) (r : Row) → Inv s → p < (sizes_of t).points → place_in s.rows p ≡ Some r → AllOf (Sound t Arrives) (outcomes_in t ts h s p r)
    sound-at s p r i l e =
        let known = row-known s p r i e in
        outcomes-sound t Arrives p (point_of (points_of t) p) _ (h p) r words (passes.point p l)
        (λ q s' g. (brings.goes_on p q s' l (known.on l) g, brings.goes p q s' l (known.on l) g))
        (record { lows = known.lows; highs = known.highs; proper = known.proper })
        (λ m. row_sized s ((sizes_of t).points + m) i)

    pub rested-forward : (p : ℕ) (x : Point) (a : Places) (l : List Outcome) → FormedPoint t p x → GoodRows a → AllOf (Sound t Arrives) l
        → Takes (sizes_of t).variables ts (starting t) (start_row t) (OnPoint t on) ((sizes_of t).points + (sizes_of t).mutexes) a (rested_by x t ts a l)
    unfolding rested_by FormedPoint
    rested-forward p End a l f g h = record { keeps = g; on = inl refl }
    rested-forward p (Assign v e q) a l f g h = record { keeps = g; on = inl refl }
    rested-forward p (Test c y n) a l f g h = record { keeps = g; on = inl refl }
    rested-forward p (Lock m q) a l f g h = record { keeps = g; on = inl refl }
    rested-forward p (Unlock m q) a l f g h =
        take_all-forward (λ o. (sizes_of t).points + m) l a g
        (all_map (Sound t Arrives) (λ (o : Outcome). ((sizes_of t).points + m < (sizes_of t).points + (sizes_of t).mutexes) × ProperRow o.row × OnPoint t on ((sizes_of t).points + m)) l
        (λ o k. (omega (arith, f.0), k.proper, λ below. absurd (omega arith))) h)

    -- ---- a write filed
    proper-one : (lo hi : ℤ) → Proper lo hi → ProperRow (row_of (lo ∷ []) (hi ∷ []))
    proper-one lo hi p = record { at = at }
      where
        at : (v : ℕ) → Proper (word_of (lo ∷ []) v) (word_of (hi ∷ []) v)
        at zero = p
        at (suc v) = proper-zero

    file_in-forward : (x : Option Interval) (c : ℕ) (f : Option ℕ) (a : Places) → slot_of t h c ≡ f → GoodEntries a → ProperOn x
        → Takes 1 ts never (start_row t) Anywhere (sizes_of t).points a (file_in x f ts a)
    unfolding file_in
    file_in-forward None c f a e g p = record { keeps = g; on = inl refl }
    file_in-forward (Some d) c None a e g p = record { keeps = g; on = inl refl }
    file_in-forward (Some d) c (Some q) a e g p =
        take-forward 1 ts never (start_row t) Anywhere (sizes_of t).points a q (row_of (d.low ∷ []) (d.high ∷ [])) g (slot-below t h c q e) (proper-one d.low d.high p) tt

    filed-forward : (x : Point) (p : ℕ) (r : Row) (a : Places) → GoodEntries a → ProperRow r → Takes 1 ts never (start_row t) Anywhere (sizes_of t).points a (filed_by x t ts h a p r)
    unfolding filed_by
    filed-forward End p r a g z = record { keeps = g; on = inl refl }
    filed-forward (Assign v e q) p r a g z = file_in-forward _ _ _ a refl g (written-proper t e r words z)
    filed-forward (Test c y n) p r a g z = record { keeps = g; on = inl refl }
    filed-forward (Lock m q) p r a g z = record { keeps = g; on = inl refl }
    filed-forward (Unlock m q) p r a g z = record { keeps = g; on = inl refl }

    -- ---- a visit
    leave_by-forward : (m : Option Row) (s : State) (p : ℕ) → Inv s → p < (sizes_of t).points → place_in s.rows p ≡ m → Onto s (leave_by t ts h m s p)
    unfolding leave_by
    leave_by-forward None s p i l e = record { keeps = i; on = onward-same s }
    leave_by-forward (Some r) s p i l e =
        let sound = sound-at s p r i l e in
        let arrived = take_all-forward (λ o. o.target) (outcomes_in t ts h s p r) s.rows i.rows
        (all_map (Sound t Arrives) (λ (o : Outcome). (o.target < (sizes_of t).points + (sizes_of t).mutexes) × ProperRow o.row × OnPoint t on o.target)
        (outcomes_in t ts h s p r) (λ o k. (omega (arith, k.point), k.proper, λ _. k.brings.0)) sound) in
        let rested = rested-forward p (point_of (points_of t) p) _ (outcomes_in t ts h s p r) (passes.point p l) arrived.keeps sound in
        let filed = filed-forward (point_of (points_of t) p) p r s.entries i.entries (row-known s p r i e).proper in
        record {
          keeps = record { rows = rested.keeps; entries = filed.keeps };
          on = record { rows = grows-trans _ _ _ _ _ _ _ _ arrived.on rested.on; entries = filed.on };
        }

    pub leave-forward : (s : State) (p : ℕ) → Inv s → p < (sizes_of t).points → Onto s (leave t ts h s p)
    unfolding leave
    leave-forward s p i l = leave_by-forward (place_in s.rows p) s p i l refl

    disturb-forward : (p : ℕ) → p < (sizes_of t).points → (q : ℕ) → q < (sizes_of t).points → (s : State) → Inv s → Onto s (disturb t ts h p s q)
    unfolding disturb
    disturb-forward p lp q lq s i = into-forward _ s p q i (omega arith) lq

    unguarded-forward : (m : ℕ) → m < (sizes_of t).mutexes → (q : ℕ) → q < (sizes_of t).points → (s : State) → Inv s → Onto s (unguarded t ts h m s q)
    unfolding unguarded
    unguarded-forward m lm q lq s i = into-forward _ s ((sizes_of t).points + m) q i (omega arith) lq

    disturbed-forward : (p : ℕ) → p < (sizes_of t).points → (s : State) → Inv s → Onto s (fold_below (disturb t ts h p) s (sizes_of t).points)
    disturbed-forward p lp = fold-forward Inv Onward onward-same onward-trans onward-anti (disturb t ts h p) (sizes_of t).points (disturb-forward p lp)

    visit-forward : (p : ℕ) → p < (sizes_of t).points → (s : State) → Inv s → Onto s (visit t ts h s p)
    unfolding visit
    visit-forward p lp s i = onto-then s _ _ (disturbed-forward p lp s i) (λ j. leave-forward _ p j lp)

    rest_visit-forward : (m : ℕ) → m < (sizes_of t).mutexes → (s : State) → Inv s → Onto s (rest_visit t ts h s m)
    unfolding rest_visit
    rest_visit-forward m lm = fold-forward Inv Onward onward-same onward-trans onward-anti (unguarded t ts h m) (sizes_of t).points (unguarded-forward m lm)

    visits-forward : (s : State) → Inv s → Onto s (fold_below (visit t ts h) s (sizes_of t).points)
    visits-forward = fold-forward Inv Onward onward-same onward-trans onward-anti (visit t ts h) (sizes_of t).points visit-forward

    rests-forward : (s : State) → Inv s → Onto s (fold_below (rest_visit t ts h) s (sizes_of t).mutexes)
    rests-forward = fold-forward Inv Onward onward-same onward-trans onward-anti (rest_visit t ts h) (sizes_of t).mutexes rest_visit-forward

    pub pass-forward : (s : State) → Inv (begun s) → Onto (begun s) (pass_of t ts h s)
    unfolding pass_of
    pass-forward s i = onto-then (begun s) _ _ (visits-forward (begun s) i) (λ j. rests-forward _ j)

    -- ---- a pass that changed nothing: no part of it did
    pub record Still (s : State) : Type 0 where
      pub disturbs : (p q : ℕ) → p < (sizes_of t).points → q < (sizes_of t).points → disturb t ts h p s q ≡ s
      pub leaves : (p : ℕ) → p < (sizes_of t).points → leave t ts h s p ≡ s
      pub unguards : (m q : ℕ) → m < (sizes_of t).mutexes → q < (sizes_of t).points → unguarded t ts h m s q ≡ s

    pub pass-still : (s : State) → Inv (begun s) → pass_of t ts h s ≡ begun s → Still (begun s)
    unfolding pass_of visit rest_visit
    pass-still s i e =
        let b = begun s in
        let visits = visits-forward b i in
        let same : fold_below (visit t ts h) b (sizes_of t).points ≡ b = first-still b _ _ visits (rests-forward _ visits.keeps) e in
        let rests : fold_below (rest_visit t ts h) b (sizes_of t).mutexes ≡ b = subst (λ (x : State). fold_below (rest_visit t ts h) x (sizes_of t).mutexes ≡ b) same e in
        let visited = fold-still Inv Onward onward-same onward-trans onward-anti (visit t ts h) (sizes_of t).points visit-forward b i same in
        let rested = fold-still Inv Onward onward-same onward-trans onward-anti (rest_visit t ts h) (sizes_of t).mutexes rest_visit-forward b i rests in
        let quiet : (p : ℕ) → p < (sizes_of t).points → fold_below (disturb t ts h p) b (sizes_of t).points ≡ b =
        λ p l. let d = disturbed-forward p l b i in first-still b _ _ d (leave-forward _ p d.keeps l) (visited p l) in
        record {
          disturbs = λ p q lp lq. fold-still Inv Onward onward-same onward-trans onward-anti (disturb t ts h p) (sizes_of t).points (disturb-forward p lp) b i (quiet p lp) q lq;
          leaves = λ p l. subst (λ (x : State). leave t ts h x p ≡ b) (quiet p l) (visited p l);
          unguards = λ m q lm lq. fold-still Inv Onward onward-same onward-trans onward-anti (unguarded t ts h m) (sizes_of t).points (unguarded-forward m lm) b i (rested m lm) q lq;
        }
