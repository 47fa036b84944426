-- Stores one behind another; the bytes by position are those of the design's code and lines. Assumes nothing.
use Prim.Native.Nat.{ℕ, zero, suc, ◌+◌, ◌%◌, ◌≤◌}
use native.Mathlib.Omega.{arith}
use mathlib.Core.Path.{◌≡◌, refl, sym, ap, ◌∙◌}
use mathlib.Core.Bool.{Bool, true, false, cond}
use mathlib.Core.Option.{Option, some}
use mathlib.Core.List.{List, [], ◌∷◌, ◌++◌, append_assoc, append-nil}
use lib.ListN.{length, get_or, length-append}
use lib.Seq.{sets}
use lib.Dec.{eqb}
use lib.IntN.{ℤ, pos}
use Rattle.spec_design.specs.Types.{Ty, ExprTy}
use Rattle.spec_design.specs.Expression.{Leaf, int, bit, input, variable, Unary, sign, invert, Binary, plus, minus, equal, unequal, less, at_most, greater}
use Rattle.spec_design.specs.Expression.{at_least, and, or, xor, times, divide, modulo, remainder, Expr, leaf_type, type_of_unary, type_of_binary}
use Rattle.spec_design.specs.Expression.{type_of}
use Rattle.spec_design.proofs.Postfix.{Steps, lay_whole}
use Rattle.spec_semantics.specs.Twos.{unsigned32}
use Rattle.spec_format.specs.Words as Words
use Rattle.spec_format.specs.Code.{Operation, push, apply1, apply2, post, operation_bytes, code}
use Rattle.spec_design.specs.Process.{fits}
use Rattle.spec_format.proofs.Encoded.{operation_append}
use Rattle.base_ir.specs.Operations.{Op, op, leaf_op, ops}
use Rattle.base_codes.specs.Operation.{INTEGER, STD_LOGIC, INPUT, VARIABLE, unary_code, binary_code, width_of}
use Rattle.base_codes.specs.Types.{tag_of}
use Rattle.base_ir.specs.Arrays.{ops_from}
use Rattle.base_ir.proofs.Laid.{unary_op, binary_op, ops_laid}
use Rattle.image_encoder.specs.Emitted.{op_bytes, code_from, width_from}
use Rattle.image_flow.proofs.Sets.{sets_append}
use Rattle.spec_semantics.proofs.Typed.{fits_type, given_some, given2_some, named_below}

-- bytes stored behind others
pub put_after : (l : List ℕ) {m n : List ℕ} (at : ℕ) (us vs : List ℕ) → m ≡ sets l at us → n ≡ sets m (at + length us) vs → n ≡ sets l at (us ++ vs)
put_after l at us vs p q = q ∙ ap (λ (w : List ℕ). sets w (at + length us) vs) p ∙ sym (sets_append l at us vs)

-- CODE

-- the bytes of operations
unfoldable pub flat_bytes : List Op → List ℕ
flat_bytes [] = []
flat_bytes (o ∷ os) = op_bytes o.code o.arg ++ flat_bytes os

pub flat_append : (a b : List Op) → flat_bytes (a ++ b) ≡ flat_bytes a ++ flat_bytes b
unfolding flat_bytes
flat_append [] b = refl
flat_append (o ∷ a) b = ap (λ (l : List ℕ). op_bytes o.code o.arg ++ l) (flat_append a b)
    ∙ sym (append_assoc (op_bytes o.code o.arg) (flat_bytes a) (flat_bytes b))

pub code_flat : (codes : List ℕ) (args : List ℤ) (m c : ℕ) → code_from codes args m c ≡ flat_bytes (ops_from codes args m c)
unfolding code_from flat_bytes ops_from
code_flat codes args m zero = refl
code_flat codes args m (suc c) = ap (λ (l : List ℕ). op_bytes (get_or codes m 0) (get_or args m (pos 0)) ++ l) (code_flat codes args (m + 1) c)

pub width_op : (c : ℕ) (z : ℤ) → width_of c ≡ length (op_bytes c z)
unfolding width_of op_bytes
width_op c z = go (eqb c INTEGER) (eqb c STD_LOGIC) (eqb c INPUT) (eqb c VARIABLE)
  where
    go : (a b d e : Bool) → cond a 5 (cond b 2 (cond d 2 (cond e 2 1)))
        ≡ length (cond a (c ∷ Words.bytes4 (unsigned32 z)) (cond (eqb (cond a 5 (cond b 2 (cond d 2 (cond e 2 1)))) 1) (c ∷ []) (c ∷ unsigned32 z % 256 ∷ [])))
    go true b d e = refl
    go false true d e = refl
    go false false true e = refl
    go false false false true = refl
    go false false false false = refl

pub width_code : (codes : List ℕ) (args : List ℤ) (m c : ℕ) → width_from codes m c ≡ length (code_from codes args m c)
unfolding code_from width_from
width_code codes args m zero = refl
width_code codes args m (suc c) =
    let h = width_code codes args (m + 1) c in
    let w = width_op (get_or codes m 0) (get_or args m (pos 0)) in
    let l = length-append (op_bytes (get_or codes m 0) (get_or args m (pos 0))) (code_from codes args (m + 1) c) in
    omega arith

-- an operator's byte is its code, whatever its argument
unary_flat : (o : Unary) (z : ℤ) → flat_bytes (op (unary_code o) z ∷ []) ≡ operation_bytes (apply1 o ∷ [])
unfolding flat_bytes op_bytes width_of operation_bytes
unary_flat sign z = refl
unary_flat invert z = refl

binary_flat : (o : Binary) (z : ℤ) → flat_bytes (op (binary_code o) z ∷ []) ≡ operation_bytes (apply2 o ∷ [])
unfolding flat_bytes op_bytes width_of operation_bytes
binary_flat plus z = refl
binary_flat minus z = refl
binary_flat equal z = refl
binary_flat unequal z = refl
binary_flat less z = refl
binary_flat at_most z = refl
binary_flat greater z = refl
binary_flat at_least z = refl
binary_flat and z = refl
binary_flat or z = refl
binary_flat xor z = refl
binary_flat times z = refl
binary_flat divide z = refl
binary_flat modulo z = refl
binary_flat remainder z = refl

module _ (is vs : List Ty) (hi : length is ≤ 256) (hv : length vs ≤ 256) where
  leaf_flat : (l : Leaf) (t : ExprTy) → leaf_type is vs l ≡ some t → flat_bytes (leaf_op l ∷ []) ≡ operation_bytes (push l ∷ [])
  unfolding flat_bytes op_bytes width_of operation_bytes leaf_type
  leaf_flat (int z) t e = refl
  leaf_flat (bit true) t e = refl
  leaf_flat (bit false) t e = refl
  leaf_flat (input k) t e = let b = named_below is k t e in let z : k % 256 ≡ k = omega arith in rw z
  leaf_flat (variable k) t e = let b = named_below vs k t e in let z : k % 256 ≡ k = omega arith in rw z

  -- an operation more behind one operand's bytes, and behind two
  behind : (w : List ℕ) (a : List Operation) (o : Op) (i : Operation) (k : List Op) → flat_bytes (o ∷ []) ≡ operation_bytes (i ∷ [])
      → (w ++ operation_bytes a) ++ flat_bytes (o ∷ k) ≡ (w ++ operation_bytes (a ++ (i ∷ []))) ++ flat_bytes k
  behind w a o i k e =
      ap (λ (l : List ℕ). (w ++ operation_bytes a) ++ l) (flat_append (o ∷ []) k ∙ ap (λ (l : List ℕ). l ++ flat_bytes k) e)
      ∙ (sym (append_assoc (w ++ operation_bytes a) (operation_bytes (i ∷ [])) (flat_bytes k))
      ∙ ap (λ (l : List ℕ). l ++ flat_bytes k) (append_assoc w (operation_bytes a) (operation_bytes (i ∷ []))
      ∙ ap (λ (l : List ℕ). w ++ l) (sym (operation_append a (i ∷ [])))))

  joined : (w : List ℕ) (a b : List Operation) → (w ++ operation_bytes a) ++ operation_bytes b ≡ w ++ operation_bytes (a ++ b)
  joined w a b = append_assoc w (operation_bytes a) (operation_bytes b) ∙ ap (λ (l : List ℕ). w ++ l) (sym (operation_append a b))

  -- the bytes so far, the code of an expression, and the bytes of the operations behind it
  flat_steps : (q : List ℕ)
      → Steps leaf_op unary_op binary_op (λ (e : Expr) (w : List ℕ). (t : ExprTy) × (type_of is vs e ≡ some t))
      (λ (e : Expr) (w : List ℕ). w ++ operation_bytes (post e)) (λ (k : List Op) (w : List ℕ). w ++ flat_bytes k ≡ q)
  unfolding type_of post
  flat_steps q =
      record {
        leaf = λ l w k f c.
            ap (λ (z : List ℕ). w ++ z) (flat_append (leaf_op l ∷ []) k ∙ ap (λ (z : List ℕ). z ++ flat_bytes k) (leaf_flat l f.0 f.1))
            ∙ (sym (append_assoc w (operation_bytes (push l ∷ [])) (flat_bytes k)) ∙ c);
        unary = λ o s a w k f. (
          (s, (given_some (type_of_unary o) s f.0 (type_of is vs a) f.1).0),
          λ c. behind w (post a) (unary_op o s) (apply1 o) k
              (unary_flat o (pos (tag_of s))) ∙ c,
        );
        binary = λ o s a b w k f.
            let p = given2_some (type_of_binary o) s f.0 (type_of is vs a) (type_of is vs b) f.1 in (
              (s, p.0),
              (s, p.1),
              λ c. behind (w ++ operation_bytes (post a)) (post b) (binary_op o s) (apply2 o) k (binary_flat o (pos (tag_of s)))
                  ∙ (ap (λ (l : List ℕ). l ++ flat_bytes k) (joined w (post a) (post b ++ (apply2 o ∷ []))) ∙ c),
            );
      }

  -- the bytes of an expression's operations are its code
  ops_flat : (e : Expr) (t : ExprTy) → type_of is vs e ≡ some t → flat_bytes (ops e) ≡ operation_bytes (post e)
  unfolding flat_bytes
  ops_flat e t h = lay_whole ops_laid (flat_steps (operation_bytes (post e))) e [] (t, h) (append-nil (operation_bytes (post e)))

  pub code_is : (e : Expr) (t : Option ExprTy) → fits is vs e t ≡ true → flat_bytes (ops e) ≡ code e
  unfolding code
  code_is e t h = let q = fits_type is vs e t h in ops_flat e q.0 q.1
