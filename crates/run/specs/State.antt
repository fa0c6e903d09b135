-- The state of a run: its parts, and the state with one part changed (document 01, 'The run').
-- Assumes nothing.
use Rattle.std.specs.Prelude.{ℕ, zero, suc, Bool, true, false, cond, List, eqb, ltb, ℤ, pos, negsuc, get_or, set, replicate}
use Rattle.words.specs.Words.{word_of}
use Rattle.words.specs.Tabulate.{tabulate}
use Rattle.table.specs.Layout.{sizes_of, starts_of, first_of}
use Rattle.run.specs.declared.State.{State}

-- ---- 'each task's point, each variable, each mutex's owner or -1, each task's stop node and kind (-1 and 0 for none)'
abbrev pub point_in : State → ℕ → ℕ
point_in s u = get_or s.points u 0

abbrev pub owner_in : State → ℕ → ℤ
owner_in s m = word_of s.owners m

abbrev pub stop_node_in : State → ℕ → ℤ
stop_node_in s u = word_of s.stop_nodes u

abbrev pub stop_kind_in : State → ℕ → ℕ
stop_kind_in s u = get_or s.stop_kinds u 0

-- the word is -1
abbrev pub is_free : ℤ → Bool
is_free (pos n) = false
is_free (negsuc zero) = true
is_free (negsuc (suc n)) = false

-- the word is the number u
abbrev pub is_number : ℤ → ℕ → Bool
is_number (pos n) u = eqb n u
is_number (negsuc n) u = false

-- task u is the owner of mutex m
abbrev pub owns_of : State → ℕ → ℕ → Bool
owns_of s u m = is_number (owner_in s m) u

-- ---- one part changed
abbrev pub with_point_of : State → ℕ → ℕ → State
with_point_of s u q =
    record {
      points = set s.points u q;
      values = s.values;
      owners = s.owners;
      stop_nodes = s.stop_nodes;
      stop_kinds = s.stop_kinds;
    }

abbrev pub with_value_of : State → ℕ → ℤ → State
with_value_of s v z =
    record {
      points = s.points;
      values = set s.values v z;
      owners = s.owners;
      stop_nodes = s.stop_nodes;
      stop_kinds = s.stop_kinds;
    }

abbrev pub with_owner_of : State → ℕ → ℤ → State
with_owner_of s m o =
    record {
      points = s.points;
      values = s.values;
      owners = set s.owners m o;
      stop_nodes = s.stop_nodes;
      stop_kinds = s.stop_kinds;
    }

abbrev pub with_stop_of : State → ℕ → ℕ → ℕ → State
with_stop_of s u n k =
    record {
      points = s.points;
      values = s.values;
      owners = s.owners;
      stop_nodes = set s.stop_nodes u (pos n);
      stop_kinds = set s.stop_kinds u k;
    }

-- ---- where a run starts: 'at first points and starting values, all free'; 'slots past the sizes are 0'
-- -1 in the first n of eight slots
unfoldable pub free_of : ℕ → List ℤ
free_of n = tabulate (λ i. cond (ltb i n) (negsuc 0) (pos 0)) 8

unfoldable pub firsts_of : List ℤ → List ℕ
firsts_of t = tabulate (λ u. cond (ltb u (sizes_of t).tasks) (first_of t u) 0) 8

unfoldable pub values_of : List ℤ → List ℤ
values_of t = tabulate (λ v. word_of (starts_of t) v) 16

unfoldable pub start_of : List ℤ → State
start_of t =
    record {
      points = firsts_of t;
      values = values_of t;
      owners = free_of (sizes_of t).mutexes;
      stop_nodes = free_of (sizes_of t).tasks;
      stop_kinds = replicate 8 0;
    }

-- the state that a refusal gives: 'its words are 0'
unfoldable pub blank_of : State
blank_of =
    record {
      points = replicate 8 0;
      values = replicate 16 (pos 0);
      owners = replicate 8 (pos 0);
      stop_nodes = replicate 8 (pos 0);
      stop_kinds = replicate 8 0;
    }
