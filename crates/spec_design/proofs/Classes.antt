-- The classes of compound statements are those of document 000, table 5.3, row by row as it is printed. Assumes nothing.
use mathlib.Core.Path.{◌≡◌, refl}
use mathlib.Core.List.{List, [], ◌∷◌}
use Rattle.spec_design.specs.Statement.{Class, A, B, C, seq_class, if_class}

-- a row of the table: the first part's class, with the second part A, B and C
row : (Class → Class → Class) → Class → List Class
row f x = f x A ∷ f x B ∷ f x C ∷ []

sequence_A : row seq_class A ≡ A ∷ B ∷ C ∷ []
unfolding row seq_class
sequence_A = refl

sequence_B : row seq_class B ≡ B ∷ B ∷ C ∷ []
unfolding row seq_class
sequence_B = refl

sequence_C : row seq_class C ≡ C ∷ C ∷ C ∷ []
unfolding row seq_class
sequence_C = refl

if_then_else_A : row if_class A ≡ A ∷ B ∷ B ∷ []
unfolding row if_class
if_then_else_A = refl

if_then_else_B : row if_class B ≡ B ∷ B ∷ B ∷ []
unfolding row if_class
if_then_else_B = refl

if_then_else_C : row if_class C ≡ B ∷ B ∷ C ∷ []
unfolding row if_class
if_then_else_C = refl
