-- Alarms: a node and the kind of error that is possible there, and the marks that the code makes of them (document 01, 'Intervals').
-- Assumes nothing.
use Rattle.std.specs.Prelude.{Bool, true, false, ◌&&◌, ◌||◌, List, [], ◌∷◌, ◌++◌, ℕ, ◌+◌, ◌*◌, ◌-◌, eqb, set}
use Rattle.interval.specs.declared.Computed.{Computed}
use Rattle.analysis.specs.declared.Alarm.{Alarm}
use Rattle.analysis.specs.declared.Kind.{Kind}
use Rattle.analysis.specs.declared.Kind.TheVariants.{Overflow, Zero}

-- ---- document 01's number of a kind
abbrev pub kind_number : Kind → ℕ
kind_number Overflow = 1
kind_number Zero = 2

-- ---- pairs of a node and a kind: '1 overflow, 2 zero'
abbrev pub alarm_of : ℕ → ℕ → Alarm
alarm_of n k = record { node = n; kind = k }

unfoldable pub alarm_if : Bool → ℕ → ℕ → List Alarm
alarm_if true n k = alarm_of n k ∷ []
alarm_if false n k = []

-- those of an operation at the node n
unfoldable pub told_of : ℕ → Computed → List Alarm
told_of n o = alarm_if o.overflow n 1 ++ alarm_if o.zero n 2

-- whether (n, k) is in the list
unfoldable pub lists : ℕ → ℕ → List Alarm → Bool
lists n k [] = false
lists n k (a ∷ l) = (eqb a.node n && eqb a.kind k) || lists n k l

-- ---- marks: two for each node, one a kind
abbrev pub place_of : ℕ → ℕ → ℕ
place_of n k = 2 * n + (k - 1)

-- the marks with one at the place of each alarm; a place past their end is left out
unfoldable pub marked_of : List ℕ → List Alarm → List ℕ
marked_of marks [] = marks
marked_of marks (a ∷ l) = marked_of (set marks (place_of a.node a.kind) 1) l
