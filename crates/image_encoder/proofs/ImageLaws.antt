-- The bytes by position are the sections of the process's image: lines and code by induction on statements, the signature by its lists. Assumes nothing.
use Prim.Native.Nat.{ℕ, zero, suc, ◌+◌, ◌-◌, ◌%◌, ◌≤◌, ◌<◌, min}
use native.Mathlib.Omega.{arith}
use mathlib.Core.Path.{◌≡◌, refl, sym, ap, ◌∙◌}
use mathlib.Core.Bool.{true}
use mathlib.Core.Option.{some}
use mathlib.Core.List.{List, [], ◌∷◌, ◌++◌, append_assoc}
use lib.ListN.{length, get_or, drop, length-append, drop_of_length-le}
use lib.Seq.{drop-cons}
use lib.IntN.{ℤ}
use Rattle.spec_design.specs.Types.{Ty, boolean}
use Rattle.spec_design.specs.Expression.{Expr, nth, plainly}
use Rattle.spec_design.specs.Statement.{Act, output, variable, null, Stmt, act, wait, if_then, if_else, while, seq, size}
use Rattle.spec_design.specs.Process.{fits, typed_act, typed}
use Rattle.spec_semantics.proofs.Basic.{and_left, and_right}
use Rattle.spec_format.specs.Code.{code}
use Rattle.spec_format.specs.Lines.{Line, waits, acts, branches, lines, line, next}
use Rattle.spec_format.specs.Image.{RawLine, raw, raw_of, raws_of, code_of_line, code_of_lines}
use Rattle.spec_simulation.proofs.Lines.{Each}
use Rattle.base_ir.specs.Operations.{Op, ops}
use Rattle.base_ir.specs.Entries.{entries, entry_ops}
use Rattle.base_ir.specs.Arrays.{Row, row_in, At}
use Rattle.base_ir.proofs.Held.{Own, at_first, at_rest, at_output, at_variable, at_null, at_wait, at_if, at_while, at_else, entry_ops_append}
use Rattle.image_flow.specs.declared.followers.Links.{Links}
use Rattle.image_flow.specs.Followers.{other_of}
use Rattle.image_encoder.specs.Emitted.{width_from, run_width, kind_byte, line_at, lines_from}
use Rattle.image_encoder.proofs.EmittedLaws.{flat_bytes, flat_append, code_flat, width_code, code_is}
use Rattle.spec_semantics.proofs.Typed.{fits_type, named_below}

-- LINES

-- the row of a statement shows the fields of its line
pub record RowFits (codes rows : List ℕ) (y : ℕ) (l : Line) : Type 0 where
  pub size : run_width codes (row_in rows y).from (row_in rows y).to ≡ length (code_of_line l)
  pub fields : (p q : ℕ) → line_at (row_in rows y) p (length (code_of_line l)) (next l) (other_of l) q ≡ raw_of p l q

-- the bytes of a statement's own operations
own_size : (codes : List ℕ) (args : List ℤ) (rows : List ℕ) {k t : ℕ} (own : List Op) {j m i e : ℕ} → Own codes args rows k t own j m i e
    → m + length own ≤ 16384 → (c : List ℕ) → flat_bytes own ≡ c
    → run_width codes (row_in rows j).from (row_in rows j).to ≡ length c
own_size codes args rows {k} {t} own {j} {m} {i} {e} o b c h =
    let z : min (m + length own) 16384 - m ≡ length own = omega arith in
    ap (λ (r : Row). run_width codes r.from r.to) o.line ∙ ap (λ (q : ℕ). width_from codes m q) z ∙ width_code codes args m (length own)
    ∙ ap length (code_flat codes args m (length own) ∙ ap flat_bytes o.code ∙ h)

-- its kind and its target
own_fields : {codes : List ℕ} {args : List ℤ} {rows : List ℕ} {k t : ℕ} {own : List Op} {j m i e : ℕ} → Own codes args rows k t own j m i e → (p n f g q : ℕ)
    → line_at (row_in rows j) p n f g q ≡ raw (kind_byte k) (t % 256) p n f g q
own_fields o p n f g q = ap (λ (r : Row). line_at r p n f g q) o.line

-- the operations of parts are no more than those of the whole

if_room : (e : Expr) (a : Stmt) → length (entry_ops (entries (if_then e a))) ≡ length (ops e) + length (entry_ops (entries a))
unfolding entry_ops entries
if_room e a = length-append (ops e) (entry_ops (entries a))

while_room : (e : Expr) (a : Stmt) → length (entry_ops (entries (while e a))) ≡ length (ops e) + length (entry_ops (entries a))
unfolding entry_ops entries
while_room e a = length-append (ops e) (entry_ops (entries a))

seq_room : (a b : Stmt) → length (entry_ops (entries (seq a b))) ≡ length (entry_ops (entries a)) + length (entry_ops (entries b))
unfolding entries
seq_room a b = ap length (entry_ops_append (entries a) (entries b)) ∙ length-append (entry_ops (entries a)) (entry_ops (entries b))

else_room : (e : Expr) (a b : Stmt) → length (entry_ops (entries (if_else e a b))) ≡ length
    (ops e) + (length (entry_ops (entries a)) + length (entry_ops (entries b)))
unfolding entry_ops entries
else_room e a b = length-append (ops e) (entry_ops (entries a ++ entries b)) ∙ ap (λ (n : ℕ). length (ops e) + n) (seq_room a b)

lines_code_append_lem : (a b : List Line) → code_of_lines (a ++ b) ≡ code_of_lines a ++ code_of_lines b
unfolding code_of_lines
lines_code_append_lem [] b = refl
lines_code_append_lem (l ∷ a) b = ap (λ (w : List ℕ). code_of_line l ++ w) (lines_code_append_lem a b) ∙ sym (append_assoc (code_of_line l) (code_of_lines a) (code_of_lines b))

both : {a a' b b' : List ℕ} → a ≡ a' → b ≡ b' → a ++ b ≡ a' ++ b'
both e g = rw (e, g)

module _ (codes : List ℕ) (args : List ℤ) (rows : List ℕ) (is os vs : List Ty) (hi : length is ≤ 256) (ho : length os ≤ 256) (hv : length vs ≤ 256) where
  plain_row : {k t : ℕ} (own : List Op) {j m i e : ℕ} (l : Line) → Own codes args rows k t own j m i e → m + length own ≤ 16384 → flat_bytes own ≡ code_of_line l
      → ((p q : ℕ) → raw (kind_byte k) (t % 256) p (length (code_of_line l)) (next l) (other_of l) q ≡ raw_of p l q) → RowFits codes rows j l
  plain_row own l o b h g =
      record { size = own_size codes args rows own o b (code_of_line l) h; fields = λ p q. own_fields o p (length (code_of_line l)) (next l) (other_of l) q ∙ g p q }

  act_row : (a : Act) (j m f : ℕ) → At codes args rows (act a) j m → typed_act is os vs a ≡ true → m + length (entry_ops (entries (act a))) ≤ 16384
      → RowFits codes rows j (acts a f)
  unfolding typed_act entry_ops entries code_of_line raw_of flat_bytes
  act_row (output k e) j m f h t b =
      let q = fits_type is vs e (plainly (nth os k)) t in
      let u = named_below os k q.0 q.2 in
      let z : k % 256 ≡ k = omega arith in
      let n = length-append (ops e) [] in
      plain_row (ops e) (acts (output k e) f) (at_output h) (omega arith) (code_is is vs hi hv e (plainly (nth os k)) t) (λ p r. rw z)
  act_row (variable k e) j m f h t b =
      let q = fits_type is vs e (plainly (nth vs k)) t in
      let u = named_below vs k q.0 q.2 in
      let z : k % 256 ≡ k = omega arith in
      let n = length-append (ops e) [] in
      plain_row (ops e) (acts (variable k e) f) (at_variable h) (omega arith) (code_is is vs hi hv e (plainly (nth vs k)) t) (λ p r. rw z)
  act_row null j m f h t b = plain_row [] (acts null f) (at_null h) (omega arith) refl (λ p r. refl)

  wait_row : (j m f : ℕ) → At codes args rows wait j m → m ≤ 16384 → RowFits codes rows j (waits f)
  unfolding code_of_line raw_of flat_bytes
  wait_row j m f h b = plain_row [] (waits f) (at_wait h) (omega arith) refl (λ p r. refl)

  branch_row : {k i u : ℕ} (e : Expr) (j m f g : ℕ) → kind_byte k ≡ 3 → Own codes args rows k 0 (ops e) j m i u → fits is vs e (some boolean) ≡ true
      → m + length (ops e) ≤ 16384 → RowFits codes rows j (branches e f g)
  unfolding code_of_line raw_of
  branch_row {k} e j m f g d o t b =
      plain_row (ops e) (branches e f g) o b (code_is is vs hi hv e (some boolean) t) (λ p r. ap (λ (w : ℕ). raw w 0 p (length (code e)) f g r) d)

  pub each_row : (s : Stmt) (j m f : ℕ) → At codes args rows s j m → typed is os vs s ≡ true → m + length (entry_ops (entries s)) ≤ 16384
      → Each (λ y l. RowFits codes rows y l) s j f
  unfolding Each typed
  each_row (act a) j m f h t b = act_row a j m f h t b
  each_row wait j m f h t b = wait_row j m f h (omega arith)
  each_row (if_then e a) j m f h t b =
      let w = at_if h in
      let z : j + 1 ≡ suc j = omega arith in
      let n = if_room e a in (
        branch_row e j m (suc j) f refl w.0 (and_left (fits is vs e (some boolean)) _ t) (omega arith),
        each_row a (suc j) (m + length (ops e)) f (rw z at w.1) (and_right (fits is vs e (some boolean)) _ t) (omega arith),
      )
  each_row (if_else e a b) j m f h t r =
      let w = at_else h in
      let z : j + 1 ≡ suc j = omega arith in
      let n = else_room e a b in
      let q = and_right (fits is vs e (some boolean)) _ t in (
        branch_row e j m (suc j) (suc j + size a) refl w.0 (and_left (fits is vs e (some boolean)) _ t) (omega arith),
        each_row a (suc j) (m + length (ops e)) f (rw z at w.1.0) (and_left (typed is os vs a) _ q) (omega arith),
        each_row b (suc j + size a) (m + length (ops e) + length (entry_ops (entries a))) f (rw z at w.1.1) (and_right (typed is os vs a) _ q) (omega arith),
      )
  each_row (while e a) j m f h t b =
      let w = at_while h in
      let z : j + 1 ≡ suc j = omega arith in
      let n = while_room e a in (
        branch_row e j m (suc j) f refl w.0 (and_left (fits is vs e (some boolean)) _ t) (omega arith),
        each_row a (suc j) (m + length (ops e)) j (rw z at w.1) (and_right (fits is vs e (some boolean)) _ t) (omega arith),
      )
  each_row (seq a b) j m f h t r =
      let n = seq_room a b in (
        each_row a j m (j + size a) (at_first h) (and_left (typed is os vs a) _ t) (omega arith),
        each_row b (j + size a) (m + length (entry_ops (entries a))) f (at_rest h) (and_right (typed is os vs a) _ t) (omega arith),
      )

  -- CODE: the operations of all statements, in text order, are the code of all lines

  act_code : (a : Act) (f : ℕ) → typed_act is os vs a ≡ true → flat_bytes (entry_ops (entries (act a))) ≡ code_of_lines (acts a f ∷ [])
  unfolding typed_act entry_ops entries code_of_lines code_of_line flat_bytes
  act_code (output k e) f t = flat_append (ops e) [] ∙ ap (λ (l : List ℕ). l ++ []) (code_is is vs hi hv e (plainly (nth os k)) t)
  act_code (variable k e) f t = flat_append (ops e) [] ∙ ap (λ (l : List ℕ). l ++ []) (code_is is vs hi hv e (plainly (nth vs k)) t)
  act_code null f t = refl

  wait_code : (f : ℕ) → flat_bytes [] ≡ code_of_lines (waits f ∷ [])
  unfolding flat_bytes code_of_lines code_of_line
  wait_code f = refl

  branch_code : (e : Expr) (f g : ℕ) (x : List Op) (ls : List Line) → fits is vs e (some boolean) ≡ true → flat_bytes x ≡ code_of_lines ls
      → flat_bytes (ops e ++ x) ≡ code_of_lines (branches e f g ∷ ls)
  unfolding code_of_lines code_of_line
  branch_code e f g x ls t h = flat_append (ops e) x ∙ ap (λ (l : List ℕ). l ++ flat_bytes x) (code_is is vs hi hv e (some boolean) t)
      ∙ ap (λ (l : List ℕ). code e ++ l) h

  pub lines_code : (s : Stmt) (n f : ℕ) → typed is os vs s ≡ true → flat_bytes (entry_ops (entries s)) ≡ code_of_lines (lines s n f)
  unfolding typed entry_ops entries lines
  lines_code (act a) n f t = act_code a f t
  lines_code wait n f t = wait_code f
  lines_code (if_then e a) n f t = branch_code e (suc n) f _ _ (and_left (fits is vs e (some boolean)) _ t)
      (lines_code a (suc n) f (and_right (fits is vs e (some boolean)) _ t))
  lines_code (if_else e a b) n f t =
      let q = and_right (fits is vs e (some boolean)) _ t in
      branch_code e (suc n) (suc n + size a) _ _ (and_left (fits is vs e (some boolean)) _ t)
      (ap flat_bytes (entry_ops_append (entries a) (entries b)) ∙ flat_append (entry_ops (entries a)) (entry_ops (entries b))
      ∙ both (lines_code a (suc n) f (and_left (typed is os vs a) _ q)) (lines_code b (suc n + size a) f (and_right (typed is os vs a) _ q))
      ∙ sym (lines_code_append_lem (lines a (suc n) f) (lines b (suc n + size a) f)))
  lines_code (while e a) n f t = branch_code e (suc n) f _ _ (and_left (fits is vs e (some boolean)) _ t)
      (lines_code a (suc n) n (and_right (fits is vs e (some boolean)) _ t))
  lines_code (seq a b) n f t =
      ap flat_bytes (entry_ops_append (entries a) (entries b)) ∙ flat_append (entry_ops (entries a)) (entry_ops (entries b))
      ∙ both (lines_code a n (n + size a) (and_left (typed is os vs a) _ t)) (lines_code b (n + size a) f (and_right (typed is os vs a) _ t))
      ∙ sym (lines_code_append_lem (lines a n (n + size a)) (lines b (n + size a) f))

  -- LINES: by position from the arrays, and from the list of lines

  pub raws_from : (x : Links) (r : List ℕ) (t : List Line) (qs : List ℕ)
      → ((y : ℕ) → y < length t → RowFits codes rows y (line t y)) → ((y : ℕ) → y < length t → get_or x.next y 0 ≡ next (line t y))
      → ((y : ℕ) → y < length t → get_or x.other y 0 ≡ other_of (line t y))
      → ((y : ℕ) → y < length t → get_or r y 0 ≡ get_or qs y 0) → length qs ≡ length t → (j c p : ℕ) → j + c ≡ length t
      → lines_from codes rows x r j c p ≡ raws_of p (drop j t) (drop j qs)
  unfolding lines_from raws_of
  raws_from x r t qs fit nx ot re e j zero p h =
      let q : length t ≤ j = omega arith in
      let d : drop j t ≡ [] = drop_of_length-le t q in
      rw d
  raws_from x r t qs fit nx ot re e j (suc c) p h =
      let f = fit j (omega arith) in
      let z : j + 1 ≡ suc j = omega arith in
      let d : drop j t ≡ line t j ∷ drop (suc j) t = drop-cons t j (waits 0) (omega arith) in
      let d' : drop j qs ≡ get_or qs j 0 ∷ drop (suc j) qs = drop-cons qs j 0 (omega arith) in
      rw (d, d') (made f.size (f.fields p (get_or qs j 0)) (nx j (omega arith)) (ot j (omega arith)) (re j (omega arith))
      (ap (λ (i : ℕ). lines_from codes rows x r i c (p + length (code_of_line (line t j)))) z
      ∙ raws_from x r t qs fit nx ot re e (suc j) c (p + length (code_of_line (line t j))) (omega arith)))
    where
      made : {w n f f' g g' q q' : ℕ} {a : RawLine} {b : List RawLine} → w ≡ n → line_at (row_in rows j) p n f' g' q' ≡ a → f ≡ f' → g ≡ g' → q ≡ q'
          → lines_from codes rows x r (j + 1) c (p + n) ≡ b
          → line_at (row_in rows j) p w f g q ∷ lines_from codes rows x r (j + 1) c (p + w) ≡ a ∷ b
      made {w} {n} {f} {f'} {g} {g'} {q} {q'} {a} {b} e₁ e₂ e₃ e₄ e₅ e₆ = rw (e₁, e₃, e₄, e₅, e₂, e₆)
