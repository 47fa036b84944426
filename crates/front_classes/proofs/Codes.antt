-- The rules on classes as the code has them are those on classes; classes in sequence may be grouped from either side. Assumes nothing.
use mathlib.Core.Path.{◌≡◌, refl}
use mathlib.Core.Option.{Option, none, some}
use Rattle.spec_design.specs.Statement.{Class, A, B, C, seq_class, if_class}
use Rattle.spec_language.specs.Classes.{pair, looped, is_c, not_classed_wrong}
use Rattle.front_classes.specs.Codes.{class_code, class_of, sequence_code, if_code, while_code, body_allowed}

pub class_back : (x : Option Class) → class_of (class_code x) ≡ x
unfolding class_code class_of
class_back none = refl
class_back (some A) = refl
class_back (some B) = refl
class_back (some C) = refl

pub sequence_is : (x y : Option Class) → sequence_code (class_code x) (class_code y) ≡ class_code (pair seq_class x y)
sequence_is x y = rw (class_back x, class_back y)

pub if_is : (x y : Option Class) → if_code (class_code x) (class_code y) ≡ class_code (pair if_class x y)
if_is x y = rw (class_back x, class_back y)

pub while_is : (x : Option Class) → while_code (class_code x) ≡ class_code (looped x)
while_is x = rw (class_back x)

pub allowed_is : (x : Option Class) → body_allowed (class_code x) ≡ not_classed_wrong x
allowed_is x = rw (class_back x)

pub whole_is : (x : Option Class) → is_c (class_of (class_code x)) ≡ is_c x
whole_is x = rw (class_back x)

-- A before or behind changes no class
pub sequence_first : (x : Option Class) → pair seq_class (some A) x ≡ x
unfolding pair seq_class
sequence_first none = refl
sequence_first (some A) = refl
sequence_first (some B) = refl
sequence_first (some C) = refl

pub sequence_last : (x : Option Class) → pair seq_class x (some A) ≡ x
unfolding pair seq_class
sequence_last none = refl
sequence_last (some A) = refl
sequence_last (some B) = refl
sequence_last (some C) = refl

seq_assoc : (x y z : Class) → seq_class (seq_class x y) z ≡ seq_class x (seq_class y z)
unfolding seq_class
seq_assoc A A A = refl
seq_assoc A A B = refl
seq_assoc A A C = refl
seq_assoc A B A = refl
seq_assoc A B B = refl
seq_assoc A B C = refl
seq_assoc A C A = refl
seq_assoc A C B = refl
seq_assoc A C C = refl
seq_assoc B A A = refl
seq_assoc B A B = refl
seq_assoc B A C = refl
seq_assoc B B A = refl
seq_assoc B B B = refl
seq_assoc B B C = refl
seq_assoc B C A = refl
seq_assoc B C B = refl
seq_assoc B C C = refl
seq_assoc C A A = refl
seq_assoc C A B = refl
seq_assoc C A C = refl
seq_assoc C B A = refl
seq_assoc C B B = refl
seq_assoc C B C = refl
seq_assoc C C A = refl
seq_assoc C C B = refl
seq_assoc C C C = refl

pub sequence_assoc : (x y z : Option Class) → pair seq_class (pair seq_class x y) z ≡ pair seq_class x (pair seq_class y z)
unfolding pair
sequence_assoc none y z = refl
sequence_assoc (some x) none z = refl
sequence_assoc (some x) (some y) none = refl
sequence_assoc (some x) (some y) (some z) = rw (seq_assoc x y z)
