-- What a tree means: its evaluation from the variables' values and the schedule's words, left to right, both sides always, of a choice one
-- branch (document 01, 'The run'). The first error ends the evaluation.
-- Assumes nothing.
use Rattle.std.specs.Prelude.{Bool, true, false, not, ◌&&◌, ◌||◌, List, ℕ, suc, ltb, ℤ, pos, neg_ℤ, length}
use Rattle.std.specs.Int.Signed.{le_z}
use Rattle.interval.specs.Arithmetic.{exact, by_zero, is_word}
use Rattle.interval.specs.Compare.{test}
use Rattle.interval.specs.declared.Operation.{Operation}
use Rattle.table.specs.Tree.{Arith, constant, input, variable, negation, binary, choice, no_arith, Cond, compare, both, either, is_not, no_cond}
use Rattle.words.specs.Words.{word_of}

-- what an evaluation comes to, with the position in the schedule after it: it gives a value, or stops with an error at a node, of a kind
-- (1 overflow, 2 division by zero)
pub data Evaluation (A : Type 0) : Type 0 where
  gives : A → ℕ → Evaluation A
  stops : ℕ → ℕ → ℕ → Evaluation A

-- one thing after another
unfoldable pub followed_by : {A B : Type 0} → Evaluation A → (A → ℕ → Evaluation B) → Evaluation B
followed_by (gives x p) f = f x p
followed_by (stops n k p) f = stops n k p

-- ---- the nodes
-- an exact result at the node n: itself if it is a word, else an error of kind 1
unfoldable pub fit_by : Bool → ℕ → ℤ → ℕ → Evaluation ℤ
fit_by true n z p = gives z p
fit_by false n z p = stops n 1 p

unfoldable pub fit : ℕ → ℤ → ℕ → Evaluation ℤ
fit n z p = fit_by (is_word z) n z p

-- an operation at the node n: a division by 0 is an error of kind 2
unfoldable pub perform_by : Bool → ℕ → ℤ → ℕ → Evaluation ℤ
perform_by true n z p = stops n 2 p
perform_by false n z p = fit n z p

unfoldable pub perform : ℕ → Operation → ℤ → ℤ → ℕ → Evaluation ℤ
perform n op x y p = perform_by (by_zero op y) n (exact op x y) p

-- the word w if it lies in a..b, else the low end
unfoldable pub word_in : Bool → ℤ → ℤ → ℤ
word_in true a w = w
word_in false a w = a

-- an input uses up the next word; with no word left, its low end
unfoldable pub input_by : Bool → ℤ → ℤ → ℤ → ℕ → Evaluation ℤ
input_by true a b w p = gives (word_in (le_z a w && le_z w b) a w) (suc p)
input_by false a b w p = gives a p

unfoldable pub branch : Bool → (ℕ → Evaluation ℤ) → (ℕ → Evaluation ℤ) → ℕ → Evaluation ℤ
branch true f g p = f p
branch false f g p = g p

-- ---- the trees: vs are the variables' values, ws the schedule's words, p the position in them
unfoldable mutual
  pub result : Arith → List ℤ → List ℤ → ℕ → Evaluation ℤ
  result (constant n z) vs ws p = gives z p
  result (input n a b) vs ws p = input_by (ltb p (length ws)) a b (word_of ws p) p
  result (variable n v) vs ws p = gives (word_of vs v) p
  result (negation n x) vs ws p = followed_by (result x vs ws p) (λ a q. fit n (neg_ℤ a) q)
  result (binary n op x y) vs ws p = followed_by (result x vs ws p) (λ a q. followed_by (result y vs ws q) (λ b s. perform n op a b s))
  result (choice n c x y) vs ws p = followed_by (truth c vs ws p) (λ t q. branch t (λ s. result x vs ws s) (λ s. result y vs ws s) q)
  result (no_arith n) vs ws p = gives (pos 0) p

  pub truth : Cond → List ℤ → List ℤ → ℕ → Evaluation Bool
  truth (compare n k x y) vs ws p = followed_by (result x vs ws p) (λ a q. followed_by (result y vs ws q) (λ b s. gives (test k a b) s))
  truth (both n c d) vs ws p = followed_by (truth c vs ws p) (λ t q. followed_by (truth d vs ws q) (λ u s. gives (t && u) s))
  truth (either n c d) vs ws p = followed_by (truth c vs ws p) (λ t q. followed_by (truth d vs ws q) (λ u s. gives (t || u) s))
  truth (is_not n c) vs ws p = followed_by (truth c vs ws p) (λ t q. gives (not t) q)
  truth (no_cond n) vs ws p = gives false p
