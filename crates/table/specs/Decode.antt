-- What stands at a node and at a point, with no recursion (document 01, 'Task table'; document 02, request 1).
-- Assumes nothing.
use Rattle.std.specs.Prelude.{ℕ, ◌<◌, ◌≤◌, ◌≡◌, Bool, true, false, ◌&&◌, List, eqb, leb, ltb, ℤ}
use Rattle.interval.specs.declared.Operation.{Operation}
use Rattle.interval.specs.declared.Operation.TheVariants.{Sum, Difference, Product, Quotient, Remainder}
use Rattle.interval.specs.declared.Comparison.{Comparison}
use Rattle.interval.specs.declared.Comparison.TheVariants.{Less, AtMost, Equal, NotEqual}
use Rattle.words.specs.Words.{number_of, inside}
use Rattle.table.specs.declared.Four.{Four}
use Rattle.table.specs.declared.Node.{Node}
use Rattle.table.specs.declared.Shape.{Shape}
use Rattle.table.specs.declared.Shape.TheVariants.{Constant, Input, Variable, Negation, Binary, Choice, Compare, Both, Either, Not, Bad}
use Rattle.table.specs.declared.Point.{Point}
use Rattle.table.specs.declared.Point.TheVariants.{End, Assign, Test, Lock, Unlock}
use Rattle.table.specs.Layout.{four_of}

abbrev pub pick : {A : Type 0} → Bool → A → A → A
pick true x y = x
pick false x y = y

-- ---- kinds of nodes
-- 'arithmetic nodes' 0 to 9, 'conditions' 16 to 22
abbrev pub is_arithmetic : ℕ → Bool
is_arithmetic k = leb k 9

abbrev pub is_condition : ℕ → Bool
is_condition k = inside 16 22 k

-- ---- shapes
-- 'a child's number is below its parent's': the shape s where that holds
unfoldable pub kept : Bool → Shape → Shape
kept true s = s
kept false s = Bad

-- an operation and a comparison of the nodes a and b, at the node n
abbrev pub operation_of : Operation → ℕ → ℕ → ℕ → Shape
operation_of op n a b = kept (ltb a n && ltb b n) (Binary op a b)

abbrev pub comparison_of : Comparison → ℕ → ℕ → ℕ → Shape
comparison_of k n a b = kept (ltb a n && ltb b n) (Compare k a b)

-- the shape of the node n of the kind k, by its words x y and the numbers a b c of its fields: '4 sum, 5 difference, 6 product, 7 quotient', 'arithmetic
-- node 9, the remainder'; '16 less, 17 at most, 18 equal, 19 not equal'. A kind that is none of these is `Bad`
unfoldable pub shape_by : ℕ → ℕ → ℤ → ℤ → ℕ → ℕ → ℕ → Shape
shape_by n k x y a b c =
    pick (eqb k 0) (Constant x)
    (pick (eqb k 1) (Input x y)
    (pick (eqb k 2) (Variable a)
    (pick (eqb k 3) (kept (ltb a n) (Negation a))
    (pick (eqb k 4) (operation_of Sum n a b)
    (pick (eqb k 5) (operation_of Difference n a b)
    (pick (eqb k 6) (operation_of Product n a b)
    (pick (eqb k 7) (operation_of Quotient n a b)
    (pick (eqb k 8) (kept (ltb a n && (ltb b n && ltb c n)) (Choice a b c))
    (pick (eqb k 9) (operation_of Remainder n a b)
    (pick (eqb k 16) (comparison_of Less n a b)
    (pick (eqb k 17) (comparison_of AtMost n a b)
    (pick (eqb k 18) (comparison_of Equal n a b)
    (pick (eqb k 19) (comparison_of NotEqual n a b)
    (pick (eqb k 20) (kept (ltb a n && ltb b n) (Both a b))
    (pick (eqb k 21) (kept (ltb a n && ltb b n) (Either a b))
    (pick (eqb k 22) (kept (ltb a n) (Not a))
    Bad))))))))))))))))

unfoldable pub shape_from : ℕ → Four → Shape
shape_from n f = shape_by n (number_of f.kind) f.a f.b (number_of f.a) (number_of f.b) (number_of f.c)

-- the shape of the node n of the nodes ns
abbrev pub shape_of : List ℤ → ℕ → Shape
shape_of ns n = shape_from n (four_of ns n)

-- every child of a node n of this shape is below n
abbrev pub Below : ℕ → Shape → Type 0
Below n (Constant z) = Unit {0}
Below n (Input l h) = Unit {0}
Below n (Variable v) = Unit {0}
Below n (Negation x) = x < n
Below n (Binary op x y) = (x < n) × (y < n)
Below n (Choice x y z) = (x < n) × (y < n) × (z < n)
Below n (Compare k x y) = (x < n) × (y < n)
Below n (Both x y) = (x < n) × (y < n)
Below n (Either x y) = (x < n) × (y < n)
Below n (Not x) = x < n
Below n Bad = Unit {0}

-- ---- a node as the evaluators read it: its kind, the words of its first two fields, and the numbers of all three
unfoldable pub node_from : Four → Node
node_from f = record { kind = number_of f.kind; x = f.a; y = f.b; a = number_of f.a; b = number_of f.b; c = number_of f.c }

abbrev pub node_of : List ℤ → ℕ → Node
node_of ns n = node_from (four_of ns n)

-- ---- what the kinds' numbers stand for, where the code tells them apart itself. No definition of the table or of the analysis needs this
-- k is no input, no negation, no operation and no choice
pub record Leaf (k : ℕ) : Type 0 where
  pub no-input : k ≡ 1 → ⊥
  pub no-parent : 3 ≤ k → 9 < k

-- the operation of the kinds 4 to 7 and 9, and the comparison of the kinds 16 to 19
unfoldable pub kind_operation : ℕ → Operation
kind_operation k = pick (eqb k 4) Sum (pick (eqb k 5) Difference (pick (eqb k 6) Product (pick (eqb k 7) Quotient Remainder)))

unfoldable pub kind_comparison : ℕ → Comparison
kind_comparison k = pick (eqb k 16) Less (pick (eqb k 17) AtMost (pick (eqb k 18) Equal NotEqual))

-- ---- points
-- '0 end; 1 assign variable a from arithmetic node b, go to c; 2 test condition node a, yes to b, no to c; 3 lock mutex a, go to b; 4 unlock
-- mutex a, go to b'
unfoldable pub point_by : ℕ → ℕ → ℕ → ℕ → Point
point_by k a b c =
    pick (eqb k 1) (Assign a b c)
    (pick (eqb k 2) (Test a b c)
    (pick (eqb k 3) (Lock a b)
    (pick (eqb k 4) (Unlock a b)
    End)))

unfoldable pub point_from : Four → Point
point_from f = point_by (number_of f.kind) (number_of f.a) (number_of f.b) (number_of f.c)

-- what stands at the point p of the points ps
abbrev pub point_of : List ℤ → ℕ → Point
point_of ps p = point_from (four_of ps p)
