-- Places as the code keeps them: what stands there, and a row taken in there.
--     place_is                        the place k
--     stored_is                       the place k after a store
--     takes-new, takes-held, takes-moved      a row taken in where there is none, where no end must move, and where one must
-- Assumes nothing.
use Rattle.std.proofs.Common.{◌≡◌, ℕ, ◌<◌, Bool, true, false, List, ℤ, get_or, set, map, refl, sym, ap, ◌∙◌}
use Rattle.std.proofs.lemmas.List.{get_or-take, map-set}
use Rattle.std.proofs.Math.Seq.{take-set-lt}
use Rattle.std.proofs.Math.ListN as lists
use Rattle.std.specs.Prelude.{Option, None, Some}
use Rattle.std.specs.Option.{is_some, option_map}
use Rattle.analysis.specs.declared.Row.{Row}
use Rattle.proposer.specs.Widen.{covers_of, trimmed_of, widened_of, place_in, store_of, take_if, take_by, take_in}
use Rattle.iterator.specs.Arrays.{places_by}

module _ {A : Type 0} (f : A → Row) (c : ℕ) (at : List (Option A)) (moved : Bool) (k : ℕ) (below : k < c) where
  pub place_is : place_in (places_by f c at moved) k ≡ option_map f (get_or at k None)
  unfolding places_by
  place_is = get_or-take c (map (option_map f) at) k None below ∙ lists.get_or-map (option_map f) at k None

  -- what is put there is stored there
  pub stored_is : (x : A) → places_by f c (set at k (Some x)) true ≡ store_of (places_by f c at moved) k (f x)
  unfolding places_by
  stored_is x = rw (map-set (option_map f) at k (Some x), take-set-lt c (map (option_map f) at) k (Some (f x)) below) refl

  module _ (n : ℕ) (ts : List ℤ) (s : Row) where
    taken : {m : Option A} → get_or at k None ≡ m → take_in n ts (places_by f c at moved) k s ≡ take_by (option_map f m) n ts (places_by f c at moved) k s
    unfolding take_in
    taken e = rw (place_is, e) refl

    pub takes-new : {x : A} → get_or at k None ≡ None → f x ≡ trimmed_of n s → places_by f c (set at k (Some x)) true ≡ take_in n ts (places_by f c at moved) k s
    unfolding take_by
    takes-new {x} e same = rw same at (stored_is x) ∙ sym (taken e)

    module _ {old : A} (e : get_or at k None ≡ Some old) where
      taken-old : (b : Bool) → covers_of n (f old) s ≡ b → take_in n ts (places_by f c at moved) k s ≡ take_if b n ts (places_by f c at moved) k (f old) s
      unfolding take_by
      taken-old b covers = taken e ∙ ap (λ (t : Bool). take_if t n ts (places_by f c at moved) k (f old) s) covers

      pub takes-held : covers_of n (f old) s ≡ true → places_by f c at moved ≡ take_in n ts (places_by f c at moved) k s
      unfolding take_if
      takes-held covers = sym (taken-old true covers)

      pub takes-moved : {x : A} → covers_of n (f old) s ≡ false → f x ≡ widened_of n ts (f old) s
          → places_by f c (set at k (Some x)) true ≡ take_in n ts (places_by f c at moved) k s
      unfolding take_if
      takes-moved {x} covers same = rw same at (stored_is x) ∙ sym (taken-old false covers)

-- nothing stands there
pub absent : {A : Type 0} (m : Option A) {there : Bool} → there ≡ is_some m → there ≡ false → m ≡ None
absent None e f = refl
absent (Some x) e f = let g : true ≡ false = sym e ∙ f in absurd cc
