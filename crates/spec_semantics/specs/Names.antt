-- The inputs and variables that an expression names. Assumes nothing.
use Rattle.std.specs.Prelude.{Bool, false, ◌||◌, ℕ, eqb}
use Rattle.spec_design.specs.Expression.{Leaf, int, bit, input, variable, Expr, leaf, unary, binary}

-- the leaf is the k-th data input
unfoldable pub leaf_reads_input : Leaf → ℕ → Bool
leaf_reads_input (int z) k = false
leaf_reads_input (bit b) k = false
leaf_reads_input (input j) k = eqb j k
leaf_reads_input (variable j) k = false

-- the leaf is the k-th variable
unfoldable pub leaf_reads_variable : Leaf → ℕ → Bool
leaf_reads_variable (int z) k = false
leaf_reads_variable (bit b) k = false
leaf_reads_variable (input j) k = false
leaf_reads_variable (variable j) k = eqb j k

-- the expression names the k-th data input
unfoldable pub reads_input : Expr → ℕ → Bool
reads_input (leaf l) k = leaf_reads_input l k
reads_input (unary o t a) k = reads_input a k
reads_input (binary o t a b) k = reads_input a k || reads_input b k

-- the expression names the k-th variable
unfoldable pub reads_variable : Expr → ℕ → Bool
reads_variable (leaf l) k = leaf_reads_variable l k
reads_variable (unary o t a) k = reads_variable a k
reads_variable (binary o t a b) k = reads_variable a k || reads_variable b k
