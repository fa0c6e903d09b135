-- The list of the pairs that a test f holds of: its length is even, the pairs on it are those below the bound that f holds of, and it rises.
-- Assumes nothing.
use Prim.Native.Nat.{ℕ, zero, suc, ◌*◌, ◌/◌, ◌<◌, ◌≤◌}
use mathlib.Core.Path.{◌≡◌, refl, sym, subst, ◌∙◌}
use mathlib.Core.Bool.{Bool, true, false, ◌&&◌, ◌||◌, or-false, or_assoc}
use mathlib.Core.List.{List, [], ◌∷◌, ◌++◌}
use mathlib.Core.Logic.{inl, inr, ⊎_elim}
use native.Mathlib.Nat.{not-suc-le-zero, eq-or-lt_of_le, le_of_suc-le-suc}
use native.Mathlib.Omega.{arith}
use borrow.Author.Tests.{ltb-false, lt-ltb, eqb-true, eq-eqb, ne_eqb}
use lib.Dec.{eqb, ltb}
use lib.IntN.{ℤ}
use lib.ListN.{length}
use Rattle.words.specs.Words.{number_of}
use Rattle.words.proofs.Bools.{clash, and-true, and_left, and_right, and-false, or_left, or_right, or_cases}
use Rattle.analysis.specs.Laws.{IsKind}
use Rattle.checker.specs.AlarmList.{pair_if, pairs_at, pairs_of}
use Rattle.checker.specs.Laws.{on_list, rising_from}

-- ---- lists of whole pairs
unfoldable Paired : List ℤ → Type 0
Paired [] = Unit {0}
Paired (a ∷ []) = ⊥
Paired (a ∷ (b ∷ l)) = Paired l

append-paired : (l m : List ℤ) → Paired l → Paired m → Paired (l ++ m)
unfolding Paired
append-paired [] m h s = s
append-paired (a ∷ []) m h s = absurd h
append-paired (a ∷ (b ∷ l)) m h s = append-paired l m h s

pair_if-paired : (s : Bool) (n k : ℕ) → Paired (pair_if s n k)
unfolding Paired pair_if
pair_if-paired true n k = tt
pair_if-paired false n k = tt

pairs-paired : (f : ℕ → ℕ → Bool) (n : ℕ) → Paired (pairs_of f n)
unfolding Paired pairs_at pairs_of
pairs-paired f zero = tt
pairs-paired f (suc n) =
    append-paired (pairs_of f n) _ (pairs-paired f n)
    (append-paired (pair_if (f n 1) n 1) (pair_if (f n 2) n 2) (pair_if-paired (f n 1) n 1) (pair_if-paired (f n 2) n 2))

paired-even : (l : List ℤ) → Paired l → length l ≡ 2 * (length l / 2)
unfolding Paired
paired-even [] h = refl
paired-even (a ∷ []) h = absurd h
paired-even (a ∷ (b ∷ l)) h = let e = paired-even l h in omega arith

pub pairs-even : (f : ℕ → ℕ → Bool) (n : ℕ) → length (pairs_of f n) ≡ 2 * (length (pairs_of f n) / 2)
pairs-even f n = paired-even (pairs_of f n) (pairs-paired f n)

-- ---- what is on a list
on-append : (n k : ℕ) (l m : List ℤ) → Paired l → on_list n k (l ++ m) ≡ on_list n k l || on_list n k m
unfolding Paired on_list
on-append n k [] m h = refl
on-append n k (a ∷ []) m h = absurd h
on-append n k (a ∷ (b ∷ l)) m h =
    rw (on-append n k l m h) (sym (or_assoc (eqb (number_of a) n && eqb (number_of b) k) (on_list n k l) (on_list n k m)))

on-if : (s : Bool) (m j n k : ℕ) → on_list n k (pair_if s m j) ≡ s && (eqb m n && eqb j k)
unfolding on_list pair_if number_of
on-if true m j n k = or-false (eqb m n && eqb j k)
on-if false m j n k = refl

-- the pairs of one node more
on-more : (f : ℕ → ℕ → Bool) (b n k : ℕ)
    → on_list n k (pairs_of f (suc b)) ≡ on_list n k (pairs_of f b) || ((f b 1 && (eqb b n && eqb 1 k)) || (f b 2 && (eqb b n && eqb 2 k)))
unfolding pairs_at pairs_of
on-more f b n k =
    rw (
      on-append n k (pairs_of f b) (pair_if (f b 1) b 1 ++ pair_if (f b 2) b 2) (pairs-paired f b),
      on-append n k (pair_if (f b 1) b 1) (pair_if (f b 2) b 2) (pair_if-paired (f b 1) b 1),
      on-if (f b 1) b 1 n k,
      on-if (f b 2) b 2 n k,
    ) refl

pub on_below : (f : ℕ → ℕ → Bool) (b n k : ℕ) → on_list n k (pairs_of f b) ≡ true → (n < b) × IsKind k
unfolding on_list pairs_at pairs_of
on_below f zero n k e = clash (sym e)
on_below f (suc b) n k e =
    or_cases (on_list n k (pairs_of f b)) _ (sym (on-more f b n k) ∙ e) (λ q. let h = on_below f b n k q in (omega (arith, h.0), h.1))
    (λ q. or_cases (f b 1 && (eqb b n && eqb 1 k)) (f b 2 && (eqb b n && eqb 2 k)) q
    (λ r. told 1 (and_right (f b 1) _ r) inl)
    (λ r. told 2 (and_right (f b 2) _ r) inr))
  where
    told : (j : ℕ) → eqb b n && eqb j k ≡ true → (k ≡ j → IsKind k) → (n < suc b) × IsKind k
    told j r is = let s = eqb-true b n (and_left _ _ r) in (omega arith, is (sym (eqb-true j k (and_right (eqb b n) _ r))))

not_on : (f : ℕ → ℕ → Bool) (b n k : ℕ) → b ≤ n → on_list n k (pairs_of f b) ≡ false
not_on f b n k l = by (on_list n k (pairs_of f b)) refl
  where
    by : (s : Bool) → on_list n k (pairs_of f b) ≡ s → s ≡ false
    by true e = let h = on_below f b n k e in absurd (omega (arith, h.0))
    by false e = refl

on-last : (f : ℕ → ℕ → Bool) (n k : ℕ) → IsKind k → on_list n k (pairs_of f (suc n)) ≡ f n k
on-last f n k (inl e) = rw (on-more f n n k, not_on f n n k (omega arith), eq-eqb n n refl, e) (one (f n 1) (f n 2))
  where
    one : (s t : Bool) → s && true || t && false ≡ s
    one true t = refl
    one false t = and-false t
on-last f n k (inr e) = rw (on-more f n n k, not_on f n n k (omega arith), eq-eqb n n refl, e) (two (f n 1) (f n 2))
  where
    two : (s t : Bool) → s && false || t && true ≡ t
    two true true = refl
    two true false = refl
    two false true = refl
    two false false = refl

on-earlier : (f : ℕ → ℕ → Bool) (b n k : ℕ) → n < b → on_list n k (pairs_of f (suc b)) ≡ on_list n k (pairs_of f b)
on-earlier f b n k l = rw (on-more f b n k, ne_eqb b n (λ e. omega arith), and-false (f b 1), and-false (f b 2)) (or-false (on_list n k (pairs_of f b)))

pub on-holds : (f : ℕ → ℕ → Bool) (b n k : ℕ) → n < b → IsKind k → on_list n k (pairs_of f b) ≡ f n k
on-holds f zero n k l is = absurd (not-suc-le-zero l)
on-holds f (suc b) n k l is =
    ⊎_elim (λ e. subst (λ (j : ℕ). on_list n k (pairs_of f (suc j)) ≡ f n k) e (on-last f n k is))
    (λ lt. on-earlier f b n k lt ∙ on-holds f b n k lt is)
    (eq-or-lt_of_le (le_of_suc-le-suc l))

-- ---- rising
-- a rising list, and a list that rises from its last pair, or from the start where it is empty
append-rising : (l m : List ℤ) (a b : ℕ) → Paired l → ((x y : ℕ) → on_list x y l ≡ true → rising_from x y m ≡ true)
    → rising_from a b l ≡ true → rising_from a b m ≡ true → rising_from a b (l ++ m) ≡ true
unfolding Paired on_list rising_from
append-rising [] m a b p h e s = s
append-rising (x ∷ []) m a b p h e s = absurd p
append-rising (x ∷ (y ∷ l)) m a b p h e s =
    let i = number_of x in
    let j = number_of y in
    let up = ltb a i || (eqb a i && ltb b j) in
    let here : on_list i j (x ∷ (y ∷ l)) ≡ true = or_left (on_list i j l) (and-true (eq-eqb i i refl) (eq-eqb j j refl)) in
    let rest = append-rising l m i j p (λ u v q. h u v (or_right (eqb i u && eqb j v) q)) (and_right up (rising_from i j l) e) (h i j here) in
    and-true {a = up} (and_left up (rising_from i j l) e) rest

above : (a b n k : ℕ) → a ≤ n → (a ≡ n → b < k) → ltb a n || (eqb a n && ltb b k) ≡ true
above a b n k l h = by (ltb a n) refl
  where
    by : (s : Bool) → ltb a n ≡ s → s || (eqb a n && ltb b k) ≡ true
    by true e = refl
    by false e = let ge = ltb-false a n e in let q : a ≡ n = omega arith in and-true (eq-eqb a n q) (lt-ltb b k (h q))

last-rising : (s t : Bool) (a b n : ℕ) → a ≤ n → (a ≡ n → b ≡ 0) → rising_from a b (pair_if s n 1 ++ pair_if t n 2) ≡ true
unfolding rising_from pair_if number_of
last-rising true true a b n l h = and-true (above a b n 1 l (λ e. let z = h e in omega arith)) (and-true (above n 1 n 2 (omega arith) (λ e. omega arith)) refl)
last-rising true false a b n l h = and-true (above a b n 1 l (λ e. let z = h e in omega arith)) refl
last-rising false true a b n l h = and-true (above a b n 2 l (λ e. let z = h e in omega arith)) refl
last-rising false false a b n l h = refl

pub pairs-rising : (f : ℕ → ℕ → Bool) (n : ℕ) → rising_from 0 0 (pairs_of f n) ≡ true
unfolding pairs_at pairs_of rising_from
pairs-rising f zero = refl
pairs-rising f (suc n) =
    append-rising (pairs_of f n) (pair_if (f n 1) n 1 ++ pair_if (f n 2) n 2) 0 0 (pairs-paired f n)
    (λ x y e. let h = on_below f n x y e in let l : x < n = h.0 in last-rising (f n 1) (f n 2) x y n (omega arith) (λ q. absurd (omega arith)))
    (pairs-rising f n)
    (last-rising (f n 1) (f n 2) 0 0 n (omega arith) (λ e. refl))
