-- Classes as the code has them, and the rules of document 01 on them. Assumes nothing.
use Rattle.std.specs.Prelude.{Bool, Option, None, Some}
use Rattle.std.proofs.Math.Option.{none, some}
use Rattle.std.proofs.Math.Option as M
use Rattle.spec_design.specs.Statement.{Class, A, B, C, seq_class, if_class}
use Rattle.spec_language.specs.Classes.{pair, looped, not_classed_wrong}
use Rattle.front_classes.specs.declared.rules.Class as K
use Rattle.front_classes.specs.declared.rules.Class.TheVariants as V

-- a class that is there or not, as the code has it: none of what holds a wrong while
unfoldable pub class_code : M.Option Class → Option K.Class
class_code none = None
class_code (some A) = Some V.A
class_code (some B) = Some V.B
class_code (some C) = Some V.C

-- and back
unfoldable pub class_of : Option K.Class → M.Option Class
class_of None = none
class_of (Some V.A) = some A
class_of (Some V.B) = some B
class_of (Some V.C) = some C

-- "In sequence: C if either part is C, else B if either is B, else A.", unless a part has none
abbrev pub sequence_code : Option K.Class → Option K.Class → Option K.Class
sequence_code a b = class_code (pair seq_class (class_of a) (class_of b))

-- "If: both A gives A, both C gives C, else B"
abbrev pub if_code : Option K.Class → Option K.Class → Option K.Class
if_code a b = class_code (pair if_class (class_of a) (class_of b))

-- "A while needs a C body and is B."
abbrev pub while_code : Option K.Class → Option K.Class
while_code a = class_code (looped (class_of a))

-- "while with a classed body that is not C" is wrong: one with a C body, or with one that has no class, is not
abbrev pub body_allowed : Option K.Class → Bool
body_allowed a = not_classed_wrong (class_of a)
