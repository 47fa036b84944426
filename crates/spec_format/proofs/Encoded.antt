-- Every number of a good table's image is a byte: by the law of postfix items, and by induction on cells and lines. Assumes nothing.
use Prim.Native.Nat.{ℕ, ◌+◌, ◌≤◌, ◌<◌, ◌*◌}
use native.Mathlib.Omega.{arith}
use mathlib.Core.Path.{◌≡◌, refl, sym, ap, ◌∙◌}
use mathlib.Core.Bool.{Bool, true, false}
use mathlib.Core.Option.{some}
use mathlib.Core.List.{List, [], ◌∷◌, ◌++◌, append_assoc}
use lib.ListN.{length, length-map}
use Rattle.spec_design.specs.Types.{Ty, std_logic, integer, ExprTy, type_byte}
use Rattle.spec_design.specs.Expression.{Leaf, int, bit, input, variable, Unary, sign, invert, Binary, plus, minus, equal, unequal, less, at_most, greater}
use Rattle.spec_design.specs.Expression.{at_least, and, or, xor, times, divide, modulo, remainder, Expr, leaf_type, type_of_unary, type_of_binary}
use Rattle.spec_design.specs.Expression.{type_of}
use Rattle.spec_design.proofs.Postfix.{Steps, lay_whole}
use Rattle.spec_design.specs.Statement.{output, variable as assign, null}
use Rattle.spec_design.specs.Process.{typed_act}
use Rattle.spec_format.specs.Words.{Bytes, bytes2, bytes4}
use Rattle.spec_semantics.specs.Twos.{unsigned32}
use Rattle.spec_format.specs.Code.{Operation, push, apply1, apply2, post, byte_of_bit, first, others, operation_bytes, code}
use Rattle.base_codes.specs.Operation.{unary_code, binary_code}
use Rattle.spec_format.specs.Signature.{Cell, Signature, types, type_bytes, cell_bytes, signature_bytes, GoodSignature}
use Rattle.spec_format.specs.Lines.{Line, waits, acts, branches}
use Rattle.spec_format.specs.Image.{Table, RawLine, raw_bytes, raws_bytes, code_of_line, code_of_lines, raw_of, raws_of, pairs, joined, image, form1, sections_for}
use Rattle.spec_format.specs.Image.{encode_table}
use Rattle.spec_format.specs.Good.{fits_line, GoodLines, GoodTable}
use Rattle.spec_format.proofs.Words.{bytes_append, bytes2_bytes, bytes4_bytes}
use Rattle.spec_format.proofs.Coding.{untyped1, untyped2, post_laid}
use Rattle.spec_format.proofs.Lines.{good_fits}
use Rattle.spec_semantics.proofs.Typed.{fits_type, given_some, given2_some, named_below}

-- Code.

bit_small : (b : Bool) → byte_of_bit b < 256
bit_small true = omega arith
bit_small false = omega arith

unary_small : (o : Unary) → unary_code o < 256
unary_small sign = omega arith
unary_small invert = omega arith

binary_small : (o : Binary) → binary_code o < 256
binary_small plus = omega arith
binary_small minus = omega arith
binary_small equal = omega arith
binary_small unequal = omega arith
binary_small less = omega arith
binary_small at_most = omega arith
binary_small greater = omega arith
binary_small at_least = omega arith
binary_small and = omega arith
binary_small or = omega arith
binary_small xor = omega arith
binary_small times = omega arith
binary_small divide = omega arith
binary_small modulo = omega arith
binary_small remainder = omega arith

unary_bytes : (o : Unary) → Bytes (operation_bytes (apply1 o ∷ []))
unfolding operation_bytes Bytes
unary_bytes o = (unary_small o, tt)

binary_bytes : (o : Binary) → Bytes (operation_bytes (apply2 o ∷ []))
unfolding operation_bytes Bytes
binary_bytes o = (binary_small o, tt)

pub operation_append : (a b : List Operation) → operation_bytes (a ++ b) ≡ operation_bytes a ++ operation_bytes b
unfolding operation_bytes
operation_append [] b = refl
operation_append (i ∷ a) b =
    ap (λ z. first i ∷ z) (ap (λ z. others i ++ z) (operation_append a b) ∙ sym (append_assoc (others i) (operation_bytes a) (operation_bytes b)))

module _ (is vs : List Ty) (hi : length is ≤ 256) (hv : length vs ≤ 256) where
  leaf_bytes : (l : Leaf) (t : ExprTy) → leaf_type is vs l ≡ some t → Bytes (operation_bytes (push l ∷ []))
  unfolding operation_bytes Bytes leaf_type
  leaf_bytes (int z) t e = (omega arith, (omega arith, (omega arith, (omega arith, (omega arith, tt)))))
  leaf_bytes (bit b) t e = (omega arith, (bit_small b, tt))
  leaf_bytes (input k) t e = (omega arith, (omega (arith, named_below is k t e), tt))
  leaf_bytes (variable k) t e = (omega arith, (omega (arith, named_below vs k t e), tt))

  -- an operation's bytes before those of others
  bytes_before : (i : Operation) (k : List Operation) → Bytes (operation_bytes (i ∷ [])) → Bytes (operation_bytes k) → Bytes (operation_bytes (i ∷ k))
  bytes_before i k h c = rw (operation_append (i ∷ []) k) (bytes_append (operation_bytes (i ∷ [])) (operation_bytes k) h c)

  bytes_steps : Steps push untyped1 untyped2 (λ (e : Expr) (w : Unit {0}). (t : ExprTy) × (type_of is vs e ≡ some t)) (λ (e : Expr) (w : Unit {0}). w)
      (λ (k : List Operation) (w : Unit {0}). Bytes (operation_bytes k))
  unfolding type_of
  bytes_steps =
      record {
        leaf = λ l w k f c. bytes_before (push l) k (leaf_bytes l f.0 f.1) c;
        unary = λ o s a w k f. ((s, (given_some (type_of_unary o) s f.0 (type_of is vs a) f.1).0), bytes_before (apply1 o) k (unary_bytes o));
        binary = λ o s a b w k f. let p = given2_some (type_of_binary o) s f.0 (type_of is vs a) (type_of is vs b) f.1 in
            ((s, p.0), (s, p.1), bytes_before (apply2 o) k (binary_bytes o));
      }

  post_bytes : (e : Expr) (t : ExprTy) → type_of is vs e ≡ some t → Bytes (operation_bytes (post e))
  unfolding operation_bytes Bytes
  post_bytes e t h = lay_whole post_laid bytes_steps e tt (t, h) tt

  pub code_bytes : (e : Expr) (t : ExprTy) → type_of is vs e ≡ some t → Bytes (code e)
  unfolding code
  code_bytes e t h = post_bytes e t h

-- Lines and signature.

module _ (σ : Signature) (g : GoodSignature σ) where
  outputs_few : length (types σ.outputs) ≤ 256
  outputs_few = omega (arith, length-map σ.outputs (λ c. c.type), g.outputs)

  variables_few : length (types σ.variables) ≤ 256
  variables_few = omega (arith, length-map σ.variables (λ c. c.type), g.variables)

  inputs_few : length σ.inputs ≤ 256
  inputs_few = omega (arith, g.inputs)

  -- code, kind and target of a fitting line
  line_bytes : (l : Line) (p q : ℕ) → fits_line σ l ≡ true → Bytes (code_of_line l) × ((raw_of p l q).kind < 256) × ((raw_of p l q).target < 256)
  unfolding code_of_line raw_of typed_act Bytes
  line_bytes (waits f) p q h = (tt, omega arith, omega arith)
  line_bytes (acts (output k e) f) p q h =
      let s = fits_type _ _ e _ h in
      let b = named_below (types σ.outputs) k s.0 s.2 in
      (code_bytes σ.inputs (types σ.variables) inputs_few variables_few e s.0 s.1, omega arith, omega (arith, outputs_few))
  line_bytes (acts (assign k e) f) p q h =
      let s = fits_type _ _ e _ h in
      let b = named_below (types σ.variables) k s.0 s.2 in
      (code_bytes σ.inputs (types σ.variables) inputs_few variables_few e s.0 s.1, omega arith, omega (arith, variables_few))
  line_bytes (acts null f) p q h = (tt, omega arith, omega arith)
  line_bytes (branches e f k) p q h =
      let s = fits_type _ _ e _ h in
      (code_bytes σ.inputs (types σ.variables) inputs_few variables_few e s.0 s.1, omega arith, omega arith)

  raw_bytes_lem : (w : RawLine) → w.kind < 256 → w.target < 256 → Bytes (raw_bytes w)
  unfolding Bytes
  raw_bytes_lem w k t = (
    k,
    (
      t,
      (
        omega arith,
        (
          omega arith,
          (
            omega arith,
            (omega arith, (omega arith, (omega arith, (omega arith, (omega arith, (omega arith, (omega arith, tt))))))),
          ),
        ),
      ),
    ),
  )

  lines_bytes_lem : (n : ℕ) (rs : List ℕ) (p : ℕ) (ls : List Line) (qs : List ℕ) → GoodLines σ n rs ls qs
      → Bytes (code_of_lines ls) × Bytes (raws_bytes (raws_of p ls qs))
  unfolding code_of_lines raws_of GoodLines raws_bytes Bytes
  lines_bytes_lem n rs p [] [] h = (tt, tt)
  lines_bytes_lem n rs p [] (q ∷ qs) h = absurd h
  lines_bytes_lem n rs p (l ∷ ls) [] h = absurd h
  lines_bytes_lem n rs p (l ∷ ls) (q ∷ qs) h =
      let b = line_bytes l p q (good_fits σ n rs q l h.0) in
      let r = lines_bytes_lem n rs (p + length (code_of_line l)) ls qs h.2 in (
        bytes_append (code_of_line l) (code_of_lines ls) b.0 r.0,
        bytes_append (raw_bytes (raw_of p l q)) (raws_bytes (raws_of (p + length (code_of_line l)) ls qs)) (raw_bytes_lem (raw_of p l q) b.1 b.2) r.1,
      )

  type_small : (t : Ty) → type_byte t < 256
  type_small std_logic = omega arith
  type_small integer = omega arith

  type_bytes_lem : (l : List Ty) → Bytes (type_bytes l)
  unfolding type_bytes Bytes
  type_bytes_lem [] = tt
  type_bytes_lem (t ∷ l) = (type_small t, type_bytes_lem l)

  cell_bytes_lem : (l : List Cell) → Bytes (cell_bytes l)
  unfolding cell_bytes Bytes
  cell_bytes_lem [] = tt
  cell_bytes_lem (c ∷ l) = (
    type_small c.type,
    bytes_append (bytes4 (unsigned32 c.initial)) (cell_bytes l) (bytes4_bytes (unsigned32 c.initial))
        (cell_bytes_lem l),
  )

  signature_bytes_lem : Bytes (signature_bytes σ)
  unfolding signature_bytes Bytes
  signature_bytes_lem = (
    omega (arith, g.inputs),
    (
      omega (arith, g.outputs),
      (
        omega (arith, g.variables),
        bytes_append (type_bytes σ.inputs) _ (type_bytes_lem σ.inputs)
            (bytes_append (cell_bytes σ.outputs) _ (cell_bytes_lem σ.outputs) (cell_bytes_lem σ.variables)),
      ),
    ),
  )

-- The whole image.

AllBytes : List (List ℕ) → Type 0
AllBytes [] = Unit {0}
AllBytes (s ∷ ss) = Bytes s × AllBytes ss

pairs_bytes : (o : ℕ) (ss : List (List ℕ)) → Bytes (pairs o ss)
unfolding pairs Bytes
pairs_bytes o [] = tt
pairs_bytes o (s ∷ ss) =
    bytes_append (bytes4 o) (bytes4 (length s) ++ pairs (o + length s) ss) (bytes4_bytes o)
    (bytes_append (bytes4 (length s)) (pairs (o + length s) ss) (bytes4_bytes (length s)) (pairs_bytes (o + length s) ss))

joined_bytes : (ss : List (List ℕ)) → AllBytes ss → Bytes (joined ss)
unfolding joined AllBytes Bytes
joined_bytes [] h = tt
joined_bytes (s ∷ ss) h = bytes_append s (joined ss) h.0 (joined_bytes ss h.1)

image_bytes : (form : ℕ) (ss : List (List ℕ)) → AllBytes ss → Bytes (image form ss)
unfolding image
image_bytes form ss h =
    bytes_append (bytes2 form) _ (bytes2_bytes form) (bytes_append (bytes2 (length ss)) _ (bytes2_bytes (length ss))
    (bytes_append (pairs _ ss) (joined ss) (pairs_bytes _ ss) (joined_bytes ss h)))

-- Every number of a good table's image is a byte.
pub table_bytes : (t : Table) → GoodTable t → Bytes (encode_table t)
unfolding encode_table form1 sections_for AllBytes
table_bytes t g =
    let b = lines_bytes_lem t.signature g.signature (length t.lines) t.reaches 0 t.lines t.reaches g.lines in
    image_bytes 1 _ (signature_bytes_lem t.signature g.signature, (b.1, (b.0, tt)))

-- a line has 12 bytes
pub raws_length : (p : ℕ) (ls : List Line) (qs : List ℕ) → length qs ≡ length ls → length (raws_bytes (raws_of p ls qs)) ≡ 12 * length ls
unfolding raws_of raws_bytes
raws_length p [] [] e = omega arith
raws_length p [] (q ∷ qs) e = omega arith
raws_length p (l ∷ ls) [] e = absurd (omega arith)
raws_length p (l ∷ ls) (q ∷ qs) e = let h = raws_length (p + length (code_of_line l)) ls qs (omega arith) in omega arith
