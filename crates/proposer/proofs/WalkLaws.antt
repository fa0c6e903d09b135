-- The walks: their marks are closed under instructions, and where 18 passes every point has one set, so that the passes have what they need.
-- Assumes nothing.
use Prim.Native.Nat.{ℕ, zero, suc, ◌+◌, ◌*◌, ◌/◌, ◌%◌, ◌<◌, ◌≤◌}
use mathlib.Core.Path.{◌≡◌, refl, sym, ap, subst, ◌∙◌}
use mathlib.Core.Bool.{Bool, true, false, not}
use mathlib.Core.List.{List, [], ◌∷◌}
use mathlib.Core.Logic.{◌⊎◌, inl, inr}
use native.Mathlib.Nat.{not-suc-le-zero, mod-lt}
use native.Mathlib.Decide.{ℕ_discrete}
use native.Mathlib.Omega.{arith}
use borrow.Author.Tests.{eqb-true, not-false}
use lib.Dec.{eqb}
use lib.IntN.{ℤ}
use lib.ListN.{length, get_or, set, replicate, length-set, length-replicate}
use lib.Pow.{pow_pos}
use lib.Seq.{get_or-set_same, get_or-set_other, set-get_or}
use Rattle.words.specs.First.{first_bad}
use Rattle.words.proofs.Bools.{clash}
use Rattle.words.proofs.FirstLaws.{first_bad-smallest, first_bad-none, all_below-each, some_below-one, one-some_below}
use Rattle.table.specs.Layout.{sizes_of, shares_of, points_of, first_of}
use Rattle.table.specs.Decode.{point_of}
use Rattle.table.specs.Passes.{Passes, FormedPoint}
use Rattle.table.specs.declared.Point.{Point}
use Rattle.table.specs.declared.Point.TheVariants.{End, Assign, Test, Lock, Unlock}
use Rattle.table.proofs.TaskLaws.{first-le}
use Rattle.rules.specs.Held.{has_of, with_of, without_of}
use Rattle.rules.specs.Rules.{implies}
use Rattle.rules.proofs.SetLaws.{with-set, without-set}
use Rattle.proposer.specs.Fold.{fold_below}
use Rattle.proposer.specs.Walk.{Goes, goes_if, goes_of, sets_of, mark_at, mark_count, mark_all, walk_if, walk_on, round_of, first_marks, walks_of, brought, or_zero, held_in, held_at, one_in, rule18, walked_to, Leads, Brings}
use Rattle.proposer.proofs.ListLaws.{sum_of, sum-set, sum-replicate, Forward, fold-forward, fold-still}
use Rattle.proposer.proofs.WidenLaws.{bit}
use Rattle.proposer.proofs.CodeLaws.{pair_left, pair-right, pair-below, left_below}
use Rattle.std.specs.Prelude.{Option, None, Some}

module _ (t : List ℤ) (passes : Passes t) where
  -- ---- where instructions lead
  unfoldable AllGoes : List Goes → Type 0
  AllGoes [] = Unit {0}
  AllGoes (g ∷ l) = ((g.target < (sizes_of t).points) × (g.held < sets_of t)) × AllGoes l

  if-goes : (b : Bool) (q s : ℕ) → q < (sizes_of t).points → s < sets_of t → AllGoes (goes_if b q s)
  unfolding goes_if AllGoes
  if-goes true q s l k = ((l, k), tt)
  if-goes false q s l k = tt

  all-goes : (p : ℕ) (x : Point) (s : ℕ) → FormedPoint t p x → s < sets_of t → AllGoes (goes_of x s)
  unfolding goes_of goes_if AllGoes FormedPoint
  all-goes p End s f l = tt
  all-goes p (Assign v e q) s f l = if-goes true q s f.2.point l
  all-goes p (Test c j k) s f l = ((f.1.point, l), if-goes true k s f.2.point l)
  all-goes p (Lock m q) s f l = if-goes (not (has_of s m)) q (with_of s m) f.1.point (with-set s m (sizes_of t).mutexes l f.0)
  all-goes p (Unlock m q) s f l = if-goes (has_of s m) q (without_of s m) f.1.point (without-set s m (sizes_of t).mutexes l)

  -- ---- marks: none is taken back, and a change leaves fewer places without one
  abbrev left : List Bool → ℕ
  left m = sum_of (λ b. bit (not b)) m

  pub record Sized (m : List Bool) : Type 0 where
    pub size : length m ≡ mark_count t

  pub record Grows (a b : List Bool) : Type 0 where
    pub keeps : (j : ℕ) → get_or a j false ≡ true → get_or b j false ≡ true
    pub less : (b ≡ a) ⊎ (left b < left a)

  grows_same : (a : List Bool) → Grows a a
  grows_same a = record { keeps = λ j e. e; less = inl refl }

  grows-trans : (a b c : List Bool) → Grows a b → Grows b c → Grows a c
  grows-trans a b c p q = record { keeps = λ j e. q.keeps j (p.keeps j e); less = by p.less q.less }
    where
      by : (b ≡ a) ⊎ (left b < left a) → (c ≡ b) ⊎ (left c < left b) → (c ≡ a) ⊎ (left c < left a)
      by (inl e) (inl f) = inl (f ∙ e)
      by (inl e) (inr k) = inr (rw e at k)
      by (inr h) (inl f) = inr (rw f h)
      by (inr h) (inr k) = inr (omega arith)

  grows-anti : (a b : List Bool) → Grows a b → Grows b a → b ≡ a
  grows-anti a b p q = by p.less q.less
    where
      by : (b ≡ a) ⊎ (left b < left a) → (a ≡ b) ⊎ (left a < left b) → b ≡ a
      by (inl e) k = e
      by (inr h) (inl f) = sym f
      by (inr h) (inr k) = absurd (omega arith)

  abbrev Onto : List Bool → List Bool → Type 0
  Onto a b = Forward Sized Grows a b

  onto-then : (a b c : List Bool) → Onto a b → (Sized b → Onto b c) → Onto a c
  onto-then a b c p f = let q = f p.keeps in record { keeps = q.keeps; on = grows-trans a b c p.on q.on }

  first-still : (a b c : List Bool) → Onto a b → Onto b c → c ≡ a → b ≡ a
  first-still a b c p q e = grows-anti a b p.on (subst (λ (x : List Bool). Grows b x) e q.on)

  mark-forward : (m : List Bool) (k : ℕ) → Sized m → k < mark_count t → Onto m (set m k true)
  unfolding bit
  mark-forward m k z l =
      record {
        keeps = record { size = length-set m k true ∙ z.size };
        on = record {
          keeps = λ j e. elim (ℕ_discrete j k) [
            | yes q ↦ rw q (get_or-set_same m k true false (omega (arith, z.size)))
            | no d ↦ get_or-set_other m k j true false d ∙ e
          ];
          less = by (get_or m k false) refl;
        };
      }
    where
      by : (b : Bool) → get_or m k false ≡ b → (set m k true ≡ m) ⊎ (left (set m k true) < left m)
      by true e = inl (subst (λ (x : Bool). set m k x ≡ m) e (set-get_or m k false))
      by false e =
          let s = rw e at (sum-set (λ b. bit (not b)) m k true false (omega (arith, z.size))) in
          inr (omega (arith, s))

  mark_all-forward : (l : List Goes) (m : List Bool) → Sized m → AllGoes l → Onto m (mark_all t m l)
  unfolding mark_all AllGoes
  mark_all-forward [] m z g = record { keeps = z; on = grows_same m }
  mark_all-forward (o ∷ l) m z g =
      onto-then m _ _ (mark-forward m (mark_at t o.target o.held) z (pair-below o.target o.held (sizes_of t).points (sets_of t) g.0.0 g.0.1))
      (λ y. mark_all-forward l _ y g.1)

  -- where nothing is marked anew, all was marked
  mark_all-still : (l : List Goes) (m : List Bool) → Sized m → AllGoes l → mark_all t m l ≡ m → (q s : ℕ) → Leads l q s
      → (q < (sizes_of t).points) × (s < sets_of t) × (brought t m q s ≡ true)
  unfolding mark_all AllGoes Leads
  mark_all-still [] m z g e q s d = absurd d
  mark_all-still (o ∷ l) m z g e q s d =
      let k = mark_at t o.target o.held in
      let below = pair-below o.target o.held (sizes_of t).points (sets_of t) g.0.0 g.0.1 in
      let one = mark-forward m k z below in
      let same : set m k true ≡ m = first-still m _ _ one (mark_all-forward l (set m k true) one.keeps g.1) e in
      by d (ap (λ (x : List Bool). get_or x k false) (sym same) ∙ get_or-set_same m k true false (omega (arith, z.size, below)))
      (λ f. mark_all-still l m z g.1 (subst (λ (x : List Bool). mark_all t x l ≡ m) same e) q s f)
    where
      by : ((o.target ≡ q) × (o.held ≡ s)) ⊎ Leads l q s → get_or m (mark_at t o.target o.held) false ≡ true
          → (Leads l q s → (q < (sizes_of t).points) × (s < sets_of t) × (brought t m q s ≡ true)) → (q < (sizes_of t).points) × (s < sets_of t) × (brought t m q s ≡ true)
      by (inl c) has more =
          (subst (λ (x : ℕ). x < (sizes_of t).points) c.0 g.0.0, subst (λ (x : ℕ). x < sets_of t) c.1 g.0.1, rw (c.0, c.1) at has)
      by (inr f) has more = more f

  point-of : (i : ℕ) → i < mark_count t → i / sets_of t < (sizes_of t).points
  point-of i l = left_below i (sizes_of t).points (sets_of t) (pow_pos (sizes_of t).mutexes) l

  goes_at : (i : ℕ) → i < mark_count t → AllGoes (goes_of (point_of (points_of t) (i / sets_of t)) (i % sets_of t))
  goes_at i l =
      all-goes (i / sets_of t) _ (i % sets_of t) (passes.point (i / sets_of t) (point-of i l)) (mod-lt i {m = sets_of t} (pow_pos (sizes_of t).mutexes))

  walk_on-forward : (i : ℕ) → i < mark_count t → (m : List Bool) → Sized m → Onto m (walk_on t m i)
  unfolding walk_on walk_if
  walk_on-forward i l m z = by (get_or m i false)
    where
      by : (b : Bool) → Onto m (walk_if b t m i)
      by true = mark_all-forward (goes_of (point_of (points_of t) (i / sets_of t)) (i % sets_of t)) m z (goes_at i l)
      by false = record { keeps = z; on = grows_same m }

  round-forward : (m : List Bool) → Sized m → Onto m (round_of t m)
  unfolding round_of
  round-forward = fold-forward Sized Grows grows_same grows-trans grows-anti (walk_on t) (mark_count t) walk_on-forward

  -- ---- the first points
  pub first-point : (u : ℕ) → u < (sizes_of t).tasks → first_of t u < (sizes_of t).points
  unfolding first_of
  first-point u l = omega (arith, passes.share u l, first-le (shares_of t) (suc u) (sizes_of t).tasks l, passes.sum)

  first_below : (u : ℕ) → u < (sizes_of t).tasks → mark_at t (first_of t u) 0 < mark_count t
  first_below u l = pair-below (first_of t u) 0 (sizes_of t).points (sets_of t) (first-point u l) (pow_pos (sizes_of t).mutexes)

  abbrev blank : List Bool
  blank = replicate (mark_count t) false

  abbrev mark_first : List Bool → ℕ → List Bool
  mark_first m u = set m (mark_at t (first_of t u) 0) true

  blank-sized : Sized blank
  blank-sized = record { size = length-replicate (mark_count t) false }

  first-forward : (u : ℕ) → u < (sizes_of t).tasks → (m : List Bool) → Sized m → Onto m (mark_first m u)
  first-forward u l m z = mark-forward m (mark_at t (first_of t u) 0) z (first_below u l)

  firsts-forward : (n : ℕ) → n ≤ (sizes_of t).tasks → Onto blank (fold_below mark_first blank n)
  firsts-forward n l = fold-forward Sized Grows grows_same grows-trans grows-anti mark_first n (λ u k. first-forward u (omega arith)) blank blank-sized

  first-marked : (n : ℕ) → n ≤ (sizes_of t).tasks → (u : ℕ) → u < n → get_or (fold_below mark_first blank n) (mark_at t (first_of t u) 0) false ≡ true
  unfolding fold_below
  first-marked zero l u k = absurd (not-suc-le-zero k)
  first-marked (suc n) l u k =
      let before = firsts-forward n (omega arith) in
      let one = first-forward n (omega arith) (fold_below mark_first blank n) before.keeps in
      elim (ℕ_discrete u n) [
        | yes e ↦ rw e (get_or-set_same (fold_below mark_first blank n) (mark_at t (first_of t n) 0) true false (omega (arith, before.keeps.size, first_below n (omega arith))))
        | no d ↦ one.on.keeps _ (first-marked n (omega arith) u (omega arith))
      ]

  firsts : Onto blank (first_marks t)
  unfolding first_marks
  firsts = firsts-forward (sizes_of t).tasks (omega arith)

  -- ---- the rounds
  abbrev after : ℕ → List Bool
  after n = fold_below (λ marks _. round_of t marks) (first_marks t) n

  after-forward : (n : ℕ) → Onto (first_marks t) (after n)
  after-forward n = fold-forward Sized Grows grows_same grows-trans grows-anti (λ marks _. round_of t marks) n (λ i l m z. round-forward m z) (first_marks t) firsts.keeps

  -- after n rounds nothing changes any more, or n marks are new
  rounds : (n : ℕ) → (round_of t (after n) ≡ after n) ⊎ (left (after n) + n ≤ left (first_marks t))
  unfolding fold_below
  rounds zero = inr (omega arith)
  rounds (suc n) = by (rounds n) (round-forward (after n) (after-forward n).keeps).on.less
    where
      by : (round_of t (after n) ≡ after n) ⊎ (left (after n) + n ≤ left (first_marks t)) → (round_of t (after n) ≡ after n) ⊎ (left (round_of t (after n)) < left (after n))
          → (round_of t (round_of t (after n)) ≡ round_of t (after n)) ⊎ (left (round_of t (after n)) + suc n ≤ left (first_marks t))
      by (inl e) k = inl (ap (λ (x : List Bool). round_of t x) e)
      by (inr h) (inl e) = inl (ap (λ (x : List Bool). round_of t x) e)
      by (inr h) (inr k) = inr (omega arith)

  left-few : left (first_marks t) ≤ mark_count t
  unfolding bit
  left-few =
      let all : left blank ≡ mark_count t * 1 = sum-replicate (λ b. bit (not b)) (mark_count t) false in
      by firsts.on.less all
    where
      by : (first_marks t ≡ blank) ⊎ (left (first_marks t) < left blank) → left blank ≡ mark_count t * 1 → left (first_marks t) ≤ mark_count t
      by (inl e) all = rw e (omega arith)
      by (inr k) all = omega arith

  closed : round_of t (walks_of t) ≡ walks_of t
  unfolding walks_of
  closed = by (rounds (mark_count t)) (round-forward (after (mark_count t)) (after-forward (mark_count t)).keeps).on.less
    where
      by : (round_of t (after (mark_count t)) ≡ after (mark_count t)) ⊎ (left (after (mark_count t)) + mark_count t ≤ left (first_marks t))
          → (round_of t (after (mark_count t)) ≡ after (mark_count t)) ⊎ (left (round_of t (after (mark_count t))) < left (after (mark_count t)))
          → round_of t (after (mark_count t)) ≡ after (mark_count t)
      by (inl e) k = e
      by (inr h) (inl e) = e
      by (inr h) (inr k) = absurd (omega (arith, left-few))

  walks-sized : Sized (walks_of t)
  unfolding walks_of
  walks-sized = (after-forward (mark_count t)).keeps

  -- ---- what the marks mean
  pub first-brought : (u : ℕ) → u < (sizes_of t).tasks → brought t (walks_of t) (first_of t u) 0 ≡ true
  unfolding walks_of first_marks
  first-brought u l = (after-forward (mark_count t)).on.keeps _ (first-marked (sizes_of t).tasks (omega arith) u l)

  pub goes-brought : (p s q s' : ℕ) → p < (sizes_of t).points → s < sets_of t → brought t (walks_of t) p s ≡ true → Leads (goes_of (point_of (points_of t) p) s) q s'
      → (q < (sizes_of t).points) × (s' < sets_of t) × (brought t (walks_of t) q s' ≡ true)
  unfolding round_of walk_on walk_if
  goes-brought p s q s' lp ls e d =
      let i = mark_at t p s in
      let li : i < mark_count t = pair-below p s (sizes_of t).points (sets_of t) lp ls in
      let on = fold-still Sized Grows grows_same grows-trans grows-anti (walk_on t) (mark_count t) walk_on-forward (walks_of t) walks-sized closed i li in
      let kept : mark_all t (walks_of t) (goes_of (point_of (points_of t) (i / sets_of t)) (i % sets_of t)) ≡ walks_of t = rw e at on in
      mark_all-still (goes_of (point_of (points_of t) (i / sets_of t)) (i % sets_of t)) (walks_of t) walks-sized (goes_at i li) kept q s'
      (rw (pair_left p s (sets_of t) ls, pair-right p s (sets_of t) ls) d)

  -- ---- the held sets
  pub held-set : (p : ℕ) → held_at t p < sets_of t
  unfolding held_at held_in or_zero
  held-set p = by (first_bad (λ s. not (brought t (walks_of t) p s)) (sets_of t)) refl
    where
      by : (f : Option ℕ) → first_bad (λ s. not (brought t (walks_of t) p s)) (sets_of t) ≡ f → or_zero f < sets_of t
      by (Some s) e = (first_bad-smallest (λ s. not (brought t (walks_of t) p s)) (sets_of t) s e).below
      by None e = pow_pos (sizes_of t).mutexes

  -- a point to which a walk comes is brought its set
  pub held-brought : (p : ℕ) → walked_to t p ≡ true → brought t (walks_of t) p (held_at t p) ≡ true
  unfolding walked_to held_at held_in or_zero
  held-brought p e = by (first_bad (λ s. not (brought t (walks_of t) p s)) (sets_of t)) refl
    where
      by : (f : Option ℕ) → first_bad (λ s. not (brought t (walks_of t) p s)) (sets_of t) ≡ f → brought t (walks_of t) p (or_zero f) ≡ true
      by (Some s) q = not-false _ (first_bad-smallest (λ s. not (brought t (walks_of t) p s)) (sets_of t) s q).fails
      by None q =
          let k = some_below-one (λ s. brought t (walks_of t) p s) (sets_of t) e in
          clash (sym (first_bad-none (λ s. not (brought t (walks_of t) p s)) (sets_of t) q k.0 k.1) ∙ ap not k.2)

  pub walked : (p s : ℕ) → s < sets_of t → brought t (walks_of t) p s ≡ true → walked_to t p ≡ true
  unfolding walked_to
  walked p s l e = one-some_below (λ s. brought t (walks_of t) p s) (sets_of t) s l e

  implied : (a b : Bool) → implies a b ≡ true → a ≡ true → b ≡ true
  implied true b e p = e
  implied false b e p = clash (sym p)

  pub only_one : (p s : ℕ) → rule18 t p ≡ true → s < sets_of t → brought t (walks_of t) p s ≡ true → held_at t p ≡ s
  unfolding rule18 one_in held_at
  only_one p s one ls e =
      sym (eqb-true _ _ (implied (brought t (walks_of t) p s) _
      (all_below-each (λ s. implies (brought t (walks_of t) p s) (eqb s (held_in t (walks_of t) p))) (sets_of t) one s ls) e))

  module _ (one : (p : ℕ) → p < (sizes_of t).points → rule18 t p ≡ true) where
    only : (p s : ℕ) → p < (sizes_of t).points → s < sets_of t → brought t (walks_of t) p s ≡ true → held_at t p ≡ s
    only p s lp ls e = only_one p s (one p lp) ls e

    pub walks-bring : Brings t (held_at t) (walked_to t)
    walks-bring =
        record {
          set = held-set;
          first_on = λ u l. walked (first_of t u) 0 (pow_pos (sizes_of t).mutexes) (first-brought u l);
          first = λ u l. only (first_of t u) 0 (first-point u l) (pow_pos (sizes_of t).mutexes) (first-brought u l);
          goes_on = λ p q s l e d. let k = goes-brought p (held_at t p) q s l (held-set p) (held-brought p e) d in walked q s k.1 k.2;
          goes = λ p q s l e d. let k = goes-brought p (held_at t p) q s l (held-set p) (held-brought p e) d in only q s k.0 k.1 k.2;
        }
