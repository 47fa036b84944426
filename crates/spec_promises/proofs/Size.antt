-- The image of an accepted text has at most 65,535 bytes. An expression's code has at most 3 bytes for each of its literals, names and operators, and 2
-- more; each of these and each statement is a token of the text. Assumes nothing.
use mathlib.Core.Path.{◌≡◌, refl, sym, ◌∙◌, ap}
use mathlib.Core.List.{List, [], ◌∷◌, ◌++◌, map}
use Prim.Native.Nat.{ℕ, suc, ◌+◌, ◌*◌, ◌≤◌}
use native.Mathlib.Omega.{arith}
use lib.ListN.{length, length-append}
use Rattle.spec_design.specs.Types.{Ty}
use Rattle.spec_design.specs.Expression.{Leaf, int, bit, input, variable, Unary, Binary, Expr, items}
use Rattle.spec_design.specs.Statement.{Act, null, Stmt, act, wait, if_then, if_else, while, seq, size, total_items}
use Rattle.spec_design.specs.Statement as D
use Rattle.spec_design.specs.Process.{Source, Slot, Process, source_types, WellFormed}
use Rattle.spec_format.specs.Code.{Operation, push, apply1, apply2, others, operation_bytes, code}
use Rattle.spec_format.specs.Lines.{Line, waits, acts, branches, lines, lines_of, reaches_of}
use Rattle.spec_format.specs.Signature.{Cell, type_bytes, cell_bytes, signature_bytes}
use Rattle.spec_format.specs.Image.{code_of_line, code_of_lines, pairs, joined, image, Sections, form1, sections_for, encode_table}
use Rattle.spec_format.specs.Encode.{cells, signature_for, table_of, encode}
use Rattle.spec_design.proofs.Postfix.{Steps, lay_whole}
use Rattle.spec_format.proofs.Coding.{untyped1, untyped2, post_laid}
use Rattle.spec_format.proofs.Encoded.{raws_length}
use Rattle.spec_language.specs.Validity.{Valid}
use Rattle.spec_language.proofs.WellFormed.{valid_well_formed}
use Rattle.spec_language.proofs.Room.{valid_room}
use Rattle.spec_simulation.proofs.Lines.{lines_length_lem}
use Rattle.spec_simulation.proofs.Reaches.{reaches_of_length}

-- code bytes of operations one after another
bytes_append : (a b : List Operation) → length (operation_bytes (a ++ b)) ≡ length (operation_bytes a) + length (operation_bytes b)
unfolding operation_bytes
bytes_append [] b = omega arith
bytes_append (i ∷ a) b =
    let h = bytes_append a b in
    let k = length-append (others i) (operation_bytes (a ++ b)) in
    let l = length-append (others i) (operation_bytes a) in
    omega arith

leaf_bytes : (l : Leaf) → length (operation_bytes (push l ∷ [])) ≤ 5
unfolding operation_bytes
leaf_bytes (int z) = omega arith
leaf_bytes (bit b) = omega arith
leaf_bytes (input k) = omega arith
leaf_bytes (variable k) = omega arith

unary_bytes : (o : Unary) → length (operation_bytes (apply1 o ∷ [])) ≡ 1
unfolding operation_bytes
unary_bytes o = refl

binary_bytes : (o : Binary) → length (operation_bytes (apply2 o ∷ [])) ≡ 1
unfolding operation_bytes
binary_bytes o = refl

-- an operation's bytes before those of others
bytes_before : (i : Operation) (k : List Operation) (m : ℕ) → length (operation_bytes (i ∷ [])) ≤ m
    → length (operation_bytes (i ∷ k)) ≤ m + length (operation_bytes k)
bytes_before i k m h = let e = bytes_append (i ∷ []) k in omega arith

-- with n bytes before it, at most 3 bytes an item and 2 more
room_steps : (r : ℕ) → Steps push untyped1 untyped2 (λ (e : Expr) (n : ℕ). Unit {0}) (λ (e : Expr) (n : ℕ). n + (3 * items e + 2))
    (λ (k : List Operation) (n : ℕ). n + length (operation_bytes k) ≤ r)
unfolding items
room_steps r =
    record {
      leaf = λ l n k f c. let h = bytes_before (push l) k 5 (leaf_bytes l) in omega arith;
      unary = λ o t a n k f. (tt, λ c. let g = unary_bytes o in let h = bytes_before (apply1 o) k 1 (omega arith) in omega arith);
      binary = λ o t a b n k f. (tt, tt, λ c. let g = binary_bytes o in let h = bytes_before (apply2 o) k 1 (omega arith) in omega arith);
    }

code_room : (e : Expr) → length (code e) ≤ 3 * items e + 2
unfolding code operation_bytes
code_room e = let h = lay_whole post_laid (room_steps (3 * items e + 2)) e 0 tt (omega arith) in omega arith

lines_code_append : (a b : List Line) → length (code_of_lines (a ++ b)) ≡ length (code_of_lines a) + length (code_of_lines b)
unfolding code_of_lines
lines_code_append [] b = omega arith
lines_code_append (l ∷ a) b =
    let h = lines_code_append a b in
    let k = length-append (code_of_line l) (code_of_lines (a ++ b)) in
    let j = length-append (code_of_line l) (code_of_lines a) in
    omega arith

-- one line
line_one : (l : Line) → length (code_of_lines (l ∷ [])) ≡ length (code_of_line l)
unfolding code_of_lines
line_one l = length-append (code_of_line l) [] ∙ omega arith

cons_code : (l : Line) (ls : List Line) → length (code_of_lines (l ∷ ls)) ≡ length (code_of_line l) + length (code_of_lines ls)
unfolding code_of_lines
cons_code l ls = length-append (code_of_line l) (code_of_lines ls)

-- the code of a statement's lines
lines_room : (s : Stmt) (n f : ℕ) → length (code_of_lines (lines s n f)) ≤ 3 * (size s + total_items s)
unfolding lines code_of_line size total_items
lines_room (act (D.Act.output k e)) n f = let h = line_one (acts (D.Act.output k e) f) in let g = code_room e in omega arith
lines_room (act (D.Act.variable k e)) n f = let h = line_one (acts (D.Act.variable k e) f) in let g = code_room e in omega arith
lines_room (act null) n f = let h = line_one (acts null f) in omega arith
lines_room wait n f = let h = line_one (waits f) in omega arith
lines_room (if_then e a) n f =
    let h = cons_code (branches e (suc n) f) (lines a (suc n) f) in
    let g = code_room e in
    let k = lines_room a (suc n) f in
    omega arith
lines_room (if_else e a b) n f =
    let h = cons_code (branches e (suc n) (suc n + size a)) (lines a (suc n) f ++ lines b (suc n + size a) f) in
    let j = lines_code_append (lines a (suc n) f) (lines b (suc n + size a) f) in
    let g = code_room e in
    let k = lines_room a (suc n) f in
    let l = lines_room b (suc n + size a) f in
    omega arith
lines_room (while e b) n f =
    let h = cons_code (branches e (suc n) f) (lines b (suc n) n) in
    let g = code_room e in
    let k = lines_room b (suc n) n in
    omega arith
lines_room (seq a b) n f =
    let j = lines_code_append (lines a n (n + size a)) (lines b (n + size a) f) in
    let k = lines_room a n (n + size a) in
    let l = lines_room b (n + size a) f in
    omega arith

-- the other sections
types_length : (l : List Ty) → length (type_bytes l) ≡ length l
unfolding type_bytes
types_length [] = refl
types_length (t ∷ l) = ap suc (types_length l)

cells_length : (l : List Cell) → length (cell_bytes l) ≡ 5 * length l
unfolding cell_bytes
cells_length [] = omega arith
cells_length (c ∷ l) = let h = cells_length l in omega arith

map_length : {A B : Type 0} (f : A → B) (l : List A) → length (map f l) ≡ length l
map_length f [] = refl
map_length f (a ∷ l) = ap suc (map_length f l)

-- header and sections
form1_length : (x : Sections) → length (form1 x) ≡ 28 + (length x.signature + (length x.lines + length x.code))
unfolding form1 image pairs joined
form1_length x =
    let a = length-append x.signature (x.lines ++ (x.code ++ [])) in
    let b = length-append x.lines (x.code ++ []) in
    let c = length-append x.code [] in
    omega arith

-- at most 3 + 16 + 5 * 16 + 5 * 32 bytes
signature_room : (p : Process) → WellFormed p → length (signature_bytes (signature_for p)) ≤ 259
unfolding signature_bytes signature_for
signature_room p w =
    let i = types_length (source_types p.inputs) in
    let i' = map_length (λ (s : Source). s.type) p.inputs in
    let o = cells_length (cells p.outputs) in
    let o' = map_length {B = Cell} (λ (s : Slot). record { type = s.type; initial = s.initial }) p.outputs in
    let v = cells_length (cells p.variables) in
    let v' = map_length {B = Cell} (λ (s : Slot). record { type = s.type; initial = s.initial }) p.variables in
    let a = length-append (type_bytes (source_types p.inputs)) (cell_bytes (cells p.outputs) ++ cell_bytes (cells p.variables)) in
    let b = length-append (cell_bytes (cells p.outputs)) (cell_bytes (cells p.variables)) in
    let k = w.inputs in
    let l = w.outputs in
    let m = w.variables in
    omega arith

-- The image of a process whose items and statements are few enough.
pub image_room : (p : Process) → WellFormed p → size p.body + total_items p.body ≤ 16384 → length (encode p) ≤ 65535
unfolding encode table_of encode_table sections_for lines_of
image_room p w h =
    let f = form1_length (sections_for (table_of p)) in
    let g = signature_room p w in
    let l = lines_length_lem p.body 0 0 in
    let r = raws_length 0 (lines p.body 0 0) (reaches_of p.body) (reaches_of_length p.body ∙ sym l) in
    let c = lines_room p.body 0 0 in
    let s = w.statements in
    omega arith

-- The image of an accepted text.
pub valid_fits : (b : List ℕ) (d : Process) → Valid b d → length (encode d) ≤ 65535
valid_fits b d v = image_room d (valid_well_formed v) (valid_room b d v)
