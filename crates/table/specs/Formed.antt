-- Refusals 4 and 5 at a place: what the fields of a node and of a point must be (document 01, 'Task table'; document 02, request 1).
-- Assumes nothing.
use Rattle.std.specs.Prelude.{ℕ, Bool, true, false, ◌&&◌, List, eqb, ltb, ℤ}
use Rattle.std.specs.Int.Signed.{le_z}
use Rattle.words.specs.Words.{number_of, inside}
use Rattle.table.specs.declared.Four.{Four}
use Rattle.table.specs.Layout.{four_of, task_of}
use Rattle.table.specs.Decode.{pick, is_arithmetic, is_condition}

-- what a field of a node or a point must be
pub data Field : Type 0 where
  -- 0
  Unused : Field
  Any : Field
  -- this word or a greater one
  AtLeast : ℤ → Field
  Variable : Field
  Mutex : Field
  Arithmetic : Field
  Condition : Field
  -- a point of the same task
  Target : Field
  -- nothing will do: the kind is unknown
  Unknown : Field

-- what the three fields must be
pub record Fields : Type 0 where
  pub a : Field
  pub b : Field
  pub c : Field

-- what a field may name: so many variables and mutexes, the nodes below a number, so many points, those of one task
pub record Limits : Type 0 where
  pub variables : ℕ
  pub mutexes : ℕ
  pub nodes : ℕ
  pub points : ℕ
  pub task : ℕ

-- ---- what the fields a, b, c must be, by the kind k
abbrev pub fields_of : Field → Field → Field → Fields
fields_of a b c = record { a = a; b = b; c = c }

-- '0 constant a; 1 input between a and b (a at most b); 2 variable a; 3 negation of a; 4 sum, 5 difference, 6 product, 7 quotient of a and b;
-- 8 choice: condition a, then b, else c'; 'arithmetic node 9, the remainder of a by b'; '16 less, 17 at most, 18 equal, 19 not equal (of arithmetic a, b); 20 both, 21 either (of conditions
-- a, b); 22 not a'; 'unused fields are 0'
unfoldable pub node_fields_of : ℕ → ℤ → Fields
node_fields_of k a =
    pick (eqb k 0) (fields_of Any Unused Unused)
    (pick (eqb k 1) (fields_of Any (AtLeast a) Unused)
    (pick (eqb k 2) (fields_of Variable Unused Unused)
    (pick (eqb k 3) (fields_of Arithmetic Unused Unused)
    (pick (inside 4 7 k) (fields_of Arithmetic Arithmetic Unused)
    (pick (eqb k 8) (fields_of Condition Arithmetic Arithmetic)
    (pick (eqb k 9) (fields_of Arithmetic Arithmetic Unused)
    (pick (inside 16 19 k) (fields_of Arithmetic Arithmetic Unused)
    (pick (inside 20 21 k) (fields_of Condition Condition Unused)
    (pick (eqb k 22) (fields_of Condition Unused Unused)
    (fields_of Unknown Unknown Unknown))))))))))

-- '0 end; 1 assign variable a from arithmetic node b, go to c; 2 test condition node a, yes to b, no to c; 3 lock mutex a, go to b; 4 unlock
-- mutex a, go to b'
unfoldable pub point_fields_of : ℕ → Fields
point_fields_of k =
    pick (eqb k 0) (fields_of Unused Unused Unused)
    (pick (eqb k 1) (fields_of Variable Arithmetic Target)
    (pick (eqb k 2) (fields_of Condition Target Target)
    (pick (inside 3 4 k) (fields_of Mutex Target Unused)
    (fields_of Unknown Unknown Unknown))))

-- the kind of the node n
abbrev pub kind_of : List ℤ → ℕ → ℕ
kind_of ns n = number_of (four_of ns n).kind

-- whether the word w is what the field must be; 'targets lie in the same task'
unfoldable pub fits_of : Limits → List ℤ → List ℤ → Field → ℤ → Bool
fits_of l t ns Unused w = eqb (number_of w) 0
fits_of l t ns Any w = true
fits_of l t ns (AtLeast a) w = le_z a w
fits_of l t ns Variable w = ltb (number_of w) l.variables
fits_of l t ns Mutex w = ltb (number_of w) l.mutexes
fits_of l t ns Arithmetic w = ltb (number_of w) l.nodes && is_arithmetic (kind_of ns (number_of w))
fits_of l t ns Condition w = ltb (number_of w) l.nodes && is_condition (kind_of ns (number_of w))
fits_of l t ns Target w = ltb (number_of w) l.points && eqb (task_of t (number_of w)) l.task
fits_of l t ns Unknown w = false

abbrev pub fields_fit_of : Limits → List ℤ → List ℤ → Fields → Four → Bool
fields_fit_of l t ns f x = fits_of l t ns f.a x.a && (fits_of l t ns f.b x.b && fits_of l t ns f.c x.c)

-- 4 node
abbrev pub node_ok_of : Limits → List ℤ → List ℤ → ℕ → Bool
node_ok_of l t ns n =
    fields_fit_of (record { variables = l.variables; mutexes = l.mutexes; nodes = n; points = l.points; task = l.task }) t ns
    (node_fields_of (kind_of ns n) (four_of ns n).a) (four_of ns n)

-- 5 point
abbrev pub point_ok_of : Limits → List ℤ → List ℤ → List ℤ → ℕ → Bool
point_ok_of l t ns ps p =
    fields_fit_of (record { variables = l.variables; mutexes = l.mutexes; nodes = l.nodes; points = l.points; task = task_of t p }) t ns
    (point_fields_of (kind_of ps p)) (four_of ps p)
