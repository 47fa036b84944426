-- Statements, their numbers and their classes (document 01, "Classes and cycles"; document 000, table 5.3). Assumes nothing.
use Rattle.std.specs.Prelude.{◌≡◌, Bool, false, ◌||◌, ℕ, suc, ◌+◌, eqb}
use Rattle.spec_design.specs.Expression.{Expr, items}

-- what is always passed: an assignment to the k-th output or to the k-th variable, counted from 0 in declared order; null
pub data Act : Type 0 where
  output : ℕ → Expr → Act
  variable : ℕ → Expr → Act
  null : Act

-- if-then is an if without else. A sequence has no number of its own.
pub data Stmt : Type 0 where
  act : Act → Stmt
  wait : Stmt
  if_then : Expr → Stmt → Stmt
  if_else : Expr → Stmt → Stmt → Stmt
  while : Expr → Stmt → Stmt
  seq : Stmt → Stmt → Stmt

-- "by number in text order from 0": how many numbers a statement takes. Where its first is n, they are n to n + size s - 1.
unfoldable pub size : Stmt → ℕ
size (act a) = 1
size wait = 1
size (if_then e a) = suc (size a)
size (if_else e a b) = suc (size a + size b)
size (while e b) = suc (size b)
size (seq a b) = size a + size b

-- the literals, names and operators of all its expressions
unfoldable pub total_items : Stmt → ℕ
total_items (act (output k e)) = items e
total_items (act (variable k e)) = items e
total_items (act null) = 0
total_items wait = 0
total_items (if_then e a) = items e + total_items a
total_items (if_else e a b) = items e + (total_items a + total_items b)
total_items (while e b) = items e + total_items b
total_items (seq a b) = total_items a + total_items b

-- s, whose first number is n, has a wait with the number p
unfoldable pub has : Stmt → ℕ → ℕ → Bool
has (act a) n p = false
has wait n p = eqb p n
has (if_then e a) n p = has a (suc n) p
has (if_else e a b) n p = has a (suc n) p || has b (suc n + size a) p
has (while e b) n p = has b (suc n) p
has (seq a b) n p = has a n p || has b (n + size a) p

pub data Class : Type 0 where
  A B C : Class

-- "In sequence: C if either part is C, else B if either is B, else A."
unfoldable pub seq_class : Class → Class → Class
seq_class A A = A
seq_class A B = B
seq_class A C = C
seq_class B A = B
seq_class B B = B
seq_class B C = C
seq_class C A = C
seq_class C B = C
seq_class C C = C

-- "If: both A gives A, both C gives C, else B"
unfoldable pub if_class : Class → Class → Class
if_class A A = A
if_class A B = B
if_class A C = B
if_class B A = B
if_class B B = B
if_class B C = B
if_class C A = B
if_class C B = B
if_class C C = C

-- "Assignments and null are A, wait is C"; "a missing else counts as null"; "A while .. is B"
unfoldable pub class_of : Stmt → Class
class_of (act a) = A
class_of wait = C
class_of (if_then e a) = if_class (class_of a) A
class_of (if_else e a b) = if_class (class_of a) (class_of b)
class_of (while e b) = B
class_of (seq a b) = seq_class (class_of a) (class_of b)

-- "A while needs a C body": every while of s has one
unfoldable pub LoopsC : Stmt → Type 0
LoopsC (act a) = Unit {0}
LoopsC wait = Unit {0}
LoopsC (if_then e a) = LoopsC a
LoopsC (if_else e a b) = LoopsC a × LoopsC b
LoopsC (while e b) = (class_of b ≡ C) × LoopsC b
LoopsC (seq a b) = LoopsC a × LoopsC b
