-- The bytes that are stored are the image of the process that the arrays hold, and the answer is the definition's. Assumes nothing.
use Prim.Native.Nat.{ℕ, zero, suc, ◌+◌, ◌-◌, ◌*◌, ◌≤◌, ◌<◌, min}
use native.Mathlib.Omega.{arith}
use mathlib.Core.Path.{◌≡◌, refl, sym, ap, ◌∙◌}
use mathlib.Core.List.{List, [], ◌∷◌, ◌++◌, append-nil, map}
use lib.ListN.{length, get_or, take, drop, length-append, length-map}
use lib.Seq.{sets, sets-eq}
use lib.IntN.{ℤ, pos}
use Rattle.base_answers.specs.Answers.{done, refusal}
use Rattle.spec_design.specs.Types.{Ty, type_byte}
use Rattle.spec_design.specs.Statement.{size}
use Rattle.spec_design.specs.Process.{Source, Slot, Process, WellFormed, source_types, slot_types, initials}
use Rattle.spec_format.specs.Words.{bytes4}
use Rattle.spec_semantics.specs.Twos.{unsigned32}
use Rattle.spec_format.specs.Lines.{lines_of, line, reaches_of}
use Rattle.spec_format.specs.Signature.{type_bytes, cell_bytes, signature_bytes}
use Rattle.spec_format.specs.Image.{raws_bytes, code_of_lines, pairs, joined, image, form1, sections_for, encode_table}
use Rattle.spec_format.specs.Encode.{cells, signature_for, table_of, encode}
use Rattle.spec_format.specs.Writing.{written_into}
use Rattle.spec_format.proofs.Writing.{fits_written, short_written}
use Rattle.spec_format.proofs.Encoded.{raws_length}
use Rattle.spec_simulation.proofs.Lines.{lines_of_length, lines_of_line}
use Rattle.spec_simulation.proofs.Reaches.{reaches_of_length}
use Rattle.base_ir.specs.declared.Declared.{Declared}
use Rattle.base_ir.specs.Arrays.{BodyIn, NamesIn, Holds}
use Rattle.base_ir.proofs.Held.{entries_size, at_whole}
use Rattle.std.specs.Prelude.{Ok, Err}
use Rattle.image_flow.specs.declared.followers.Links.{Links}
use Rattle.image_flow.specs.Followers.{stored, Followed}
use Rattle.image_flow.specs.Reaches.{Reached}
use Rattle.image_encoder.specs.Emitted.{code_from, width_from, run_width, lines_from, types_from, cells_from, slots_from, signature_from, signature_size}
use Rattle.image_encoder.specs.Emitted.{lines_size, header_of}
use Rattle.image_encoder.specs.Outcome.{encoded_told, lines_bytes, LinesStored, BodyStored, Encodes}
use Rattle.image_flow.proofs.Sets.{get_d_sets_in}
use Rattle.image_flow.proofs.ReachesLaws.{link_next_is, link_other_is}
use Rattle.image_encoder.proofs.EmittedLaws.{put_after, code_flat, width_code, flat_bytes}
use Rattle.image_encoder.proofs.SectionsLaws.{types_length, cells_length}
use Rattle.image_encoder.proofs.ImageLaws.{RowFits, each_row, lines_code, raws_from}

-- LISTS OF DECLARATIONS

cons_head : {A : Type 0} {x y : A} {xs ys : List A} → x ∷ xs ≡ y ∷ ys → x ≡ y
cons_head e = cc

cons_tail : {A : Type 0} {x y : A} {xs ys : List A} → x ∷ xs ≡ y ∷ ys → xs ≡ ys
cons_tail e = cc

nil_cons : {A P : Type 0} {y : A} {ys : List A} → [] ≡ y ∷ ys → P
nil_cons e = let z : ◌≡◌ {A = ℕ} 0 1 = cc in absurd (omega arith)

-- an element of a list that begins with known ones
take_cons : {A : Type 0} (l : List A) (k n : ℕ) (d y : A) (ys : List A) → take (suc n) (drop k l) ≡ y ∷ ys → (get_or l k d ≡ y) × (take n (drop (k + 1) l) ≡ ys)
take_cons [] zero n d y ys e = nil_cons e
take_cons [] (suc k) n d y ys e = nil_cons e
take_cons (x ∷ l) zero n d y ys e = (cons_head e, cons_tail e)
take_cons (x ∷ l) (suc k) n d y ys e = let z : suc k + 1 ≡ suc (k + 1) = omega arith in rw z (take_cons l k n d y ys e)

cons_both : {x y : ℕ} {xs ys : List ℕ} → x ≡ y → xs ≡ ys → x ∷ xs ≡ y ∷ ys
cons_both e g = cc

types_held : (ts : List Ty) (l : List ℕ) (k : ℕ) → take (length ts) (drop k l) ≡ map type_byte ts → types_from l k (length ts) ≡ type_bytes ts
unfolding types_from type_bytes
types_held [] l k e = refl
types_held (t ∷ ts) l k e =
    let p = take_cons l k (length ts) 0 (type_byte t) (map type_byte ts) e in cons_both p.0 (types_held ts l (k + 1) p.1)

cells_held : (ss : List Slot) (l : List ℕ) (z : List ℤ) (k : ℕ) → take (length ss) (drop k l) ≡ map type_byte (slot_types ss)
    → take (length ss) (drop k z) ≡ initials ss
    → cells_from l z k (length ss) ≡ cell_bytes (cells ss)
unfolding cells_from cell_bytes
cells_held [] l z k e g = refl
cells_held (s ∷ ss) l z k e g =
    let p = take_cons l k (length ss) 0 (type_byte s.type) (map type_byte (slot_types ss)) e in
    let q = take_cons z k (length ss) (pos 0) s.initial (initials ss) g in
    cons_both p.0
    (ap (λ (w : ℤ). bytes4 (unsigned32 w) ++ cells_from l z (k + 1) (length ss)) q.0
    ∙ ap (λ (w : List ℕ). bytes4 (unsigned32 s.initial) ++ w) (cells_held ss l z (k + 1) p.1 q.1))

cells_count : (l : List Slot) → length (cells l) ≡ length l
cells_count [] = refl
cells_count (s ∷ l) = ap suc (cells_count l)

-- the signature of the declarations
signature_held : {p : Process} {d : Declared} → NamesIn p d → signature_from d ≡ signature_bytes (signature_for p)
unfolding signature_bytes signature_for
signature_held {p} {d} h =
    let ei : length (source_types p.inputs) ≡ d.inputs.count = h.inputs.0 in
    let eo : length p.outputs ≡ d.outputs.count = sym (length-map p.outputs (λ (s : Slot). s.type)) ∙ h.outputs.0 in
    let ev : length p.variables ≡ d.variables.count = sym (length-map p.variables (λ (s : Slot). s.type)) ∙ h.variables.0 in
    cons_both (sym ei) (cons_both (sym eo ∙ sym (cells_count p.outputs)) (cons_both (sym ev ∙ sym (cells_count p.variables))
    (append_both (by_types (source_types p.inputs) d.inputs.types ei h.inputs.1)
    (append_both (by_cells p.outputs d.outputs.types d.outputs.values eo h.outputs.1 h.first_outputs.1)
    (by_cells p.variables d.variables.types d.variables.values ev h.variables.1 h.first_variables.1)))))
  where
    append_both : {a b c e : List ℕ} → a ≡ b → c ≡ e → a ++ c ≡ b ++ e
    append_both f g = cc

    by_types : (ts : List Ty) (l : List ℕ) {n : ℕ} → length ts ≡ n → take n l ≡ map type_byte ts → types_from l 0 n ≡ type_bytes ts
    by_types ts l e g = ap (λ (k : ℕ). types_from l 0 k) (sym e) ∙ types_held ts l 0 (ap (λ (k : ℕ). take k l) e ∙ g)

    by_cells : (ss : List Slot) (l : List ℕ) (z : List ℤ) {n : ℕ} → length ss ≡ n → take n l ≡ map type_byte (slot_types ss) → take n z ≡ initials ss
        → cells_from l z 0 n ≡ cell_bytes (cells ss)
    by_cells ss l z e g f =
        ap (λ (k : ℕ). cells_from l z 0 k) (sym e) ∙ cells_held ss l z 0 (ap (λ (k : ℕ). take k l) e ∙ g) (ap (λ (k : ℕ). take k z) e ∙ f)

-- THE BODY

few_types : (p : Process) → WellFormed p
    → (length (source_types p.inputs) ≤ 256) × (length (slot_types p.outputs) ≤ 256) × (length (slot_types p.variables) ≤ 256)
few_types p w =
    let a = length-map p.inputs (λ (s : Source). s.type) in
    let b = length-map p.outputs (λ (s : Slot). s.type) in
    let c = length-map p.variables (λ (s : Slot). s.type) in
    let i = w.inputs in
    let o = w.outputs in
    let v = w.variables in
    (omega arith, omega arith, omega arith)

counted_in_body : {p : Process} {codes : List ℕ} {args : List ℤ} {rows : List ℕ} {k n : ℕ} → BodyIn p codes args rows k n → size p.body ≡ n
counted_in_body {p} b = sym (entries_size p.body) ∙ b.lines.count

-- the lines section, from the followers and reaches that were stored
pub body_lines : (codes rows : List ℕ) (n at : ℕ) (x₀ x : Links) (r₀ r before after : List ℕ) → n ≤ length x₀.next → n ≤ length x₀.other → n ≤ length r₀
    → Followed rows n x₀ x → Reached rows n x r₀ r
    → after ≡ sets before at (raws_bytes (lines_from codes rows x r 0 n 0)) → LinesStored codes rows n at before after
body_lines codes rows n at x₀ x r₀ r before after hn ho hr fol rea e p args k b w =
    let s = p.body in
    let held = at_whole b in
    let count : size s ≡ n = counted_in_body b in
    let xs : x ≡ stored 0 (lines_of s) x₀ = fol codes args s b.block held count hn ho in
    let rs : r ≡ sets r₀ 0 (reaches_of s) = rea codes args s x₀ held count w.class w.loops hn ho xs hr in
    let few = few_types p w in
    let t = lines_of s in
    let tn : length t ≡ n = lines_of_length s ∙ count in
    let qn : length (reaches_of s) ≡ length t = reaches_of_length s ∙ sym (lines_of_length s) in
    let oc = b.code.count in
    let os = b.code.short in
    let fit : (y : ℕ) → y < length t → RowFits codes rows y (line t y) =
    λ y l. lines_of_line (λ y l. RowFits codes rows y l) s
    (each_row codes args rows (source_types p.inputs) (slot_types p.outputs) (slot_types p.variables) few.0 few.1 few.2 s 0 0 0 held w.typed
    (omega arith)) y (rw (lines_of_length s) at l) in
    let re : (y : ℕ) → y < length t → get_or r y 0 ≡ get_or (reaches_of s) y 0 = λ y l. rw rs (in_run r₀ (reaches_of s) y (omega arith) (omega arith)) in
    let lines_are = raws_from codes args rows (source_types p.inputs) (slot_types p.outputs) (slot_types p.variables) few.0 few.1 few.2 x r t
    (reaches_of s) fit
    (λ y l. rw xs (link_next_is t x₀ y l (omega arith))) (λ y l. rw xs (link_other_is t x₀ y l (omega arith))) re qn 0 n 0 (omega arith) in
    e ∙ ap (λ (q : List _). sets before at (raws_bytes q)) lines_are
  where
    in_run : (l vs : List ℕ) (y : ℕ) → y < length vs → length vs ≤ length l → get_or (sets l 0 vs) y 0 ≡ get_or vs y 0
    in_run l vs y h b = let z : 0 + y ≡ y = omega arith in ap (λ (i : ℕ). get_or (sets l 0 vs) i 0) (sym z) ∙ get_d_sets_in l 0 vs y 0 h (omega arith)

-- the code section
code_held : {p : Process} {codes : List ℕ} {args : List ℤ} {rows : List ℕ} {k n : ℕ} → BodyIn p codes args rows k n → WellFormed p
    → code_from codes args 0 k ≡ code_of_lines (lines_of p.body)
unfolding lines_of
code_held {p} {codes} {args} {rows} {k} {n} b w =
    let few = few_types p w in
    code_flat codes args 0 k ∙ ap flat_bytes b.code.are
    ∙ lines_code codes args rows (source_types p.inputs) (slot_types p.outputs) (slot_types p.variables) few.0 few.1 few.2 p.body 0 0
    w.typed

-- THE WHOLE

-- an image from its three sections
encode_is : (p : Process) → encode p ≡ header_of (length (signature_bytes (signature_for p))) (length (lines_bytes p)) (length (code_of_lines (lines_of p.body)))
    ++ (signature_bytes (signature_for p) ++ (lines_bytes p ++ code_of_lines (lines_of p.body)))
unfolding encode encode_table form1 sections_for table_of image pairs joined
encode_is p =
    ap (λ (w : List ℕ). header_of (length (signature_bytes (signature_for p))) (length (lines_bytes p)) (length (code_of_lines (lines_of p.body)))
    ++ (signature_bytes (signature_for p) ++ (lines_bytes p ++ w))) (append-nil (code_of_lines (lines_of p.body)))

-- how long the sections are
signature_length_lem : (d : Declared) → length (signature_from d) ≡ signature_size d
signature_length_lem d =
    let a = types_length d.inputs.types 0 d.inputs.count in
    let b = cells_length d.outputs.types d.outputs.values 0 d.outputs.count in
    let c = cells_length d.variables.types d.variables.values 0 d.variables.count in
    let x = length-append (types_from d.inputs.types 0 d.inputs.count) (slots_from d) in
    let y = length-append (cells_from d.outputs.types d.outputs.values 0 d.outputs.count)
    (cells_from d.variables.types d.variables.values 0 d.variables.count) in
    omega arith

lines_length_lem : {p : Process} {codes : List ℕ} {args : List ℤ} {rows : List ℕ} {k n : ℕ} → BodyIn p codes args rows k n
    → length (lines_bytes p) ≡ 12 * n
lines_length_lem {p} b =
    let l = lines_of_length p.body in
    let c = counted_in_body b in
    let h = raws_length 0 (lines_of p.body) (reaches_of p.body) (reaches_of_length p.body ∙ sym l) in
    omega arith

code_length_lem : {p : Process} {codes : List ℕ} {args : List ℤ} {rows : List ℕ} {k n c : ℕ} → BodyIn p codes args rows k n → WellFormed p
    → c ≡ run_width codes 0 k → length (code_of_lines (lines_of p.body)) ≡ c
code_length_lem {p} {codes} {args} {rows} {k} b w e =
    let h = b.code.short in
    let z : min k 16384 - 0 ≡ k = omega arith in
    ap length (sym (code_held b w)) ∙ (sym (width_code codes args 0 k) ∙ ap (λ (n : ℕ). width_from codes 0 n) (sym z) ∙ sym e)

-- the lines and the code one behind another
pub body_stored : (codes : List ℕ) (args : List ℤ) (rows : List ℕ) (k n at : ℕ) (b : List ℕ) {m₁ m₂ : List ℕ} → LinesStored codes rows n at b m₁
    → m₂ ≡ sets m₁ (at + 12 * n) (code_from codes args 0 k) → BodyStored codes args rows k n at b m₂
body_stored codes args rows k n at b {m₁} e₁ e₂ p held w =
    put_after b at (lines_bytes p) (code_of_lines (lines_of p.body)) (e₁ p args k held w)
    (e₂ ∙ ap (λ (i : ℕ). sets m₁ (at + i) (code_from codes args 0 k)) (sym (lines_length_lem held))
    ∙ ap (λ (l : List ℕ). sets m₁ (at + length (lines_bytes p)) l) (code_held held w))

-- header and signature of a design whose code has c bytes
abbrev front : Declared → ℕ → List ℕ
front d c = header_of (signature_size d) (lines_size d) c ++ signature_from d

-- the image, with its sections as they are held
image_held : {p : Process} {codes : List ℕ} {args : List ℤ} {rows : List ℕ} {d : Declared} {c : ℕ} → Holds p d codes args rows → WellFormed p
    → c ≡ run_width codes 0 d.operations → encode p ≡ front d c ++ (lines_bytes p ++ code_of_lines (lines_of p.body))
image_held {p} {codes} {args} {rows} {d} {c} h w e =
    encode_is p ∙ same (lines_bytes p ++ code_of_lines (lines_of p.body)) (signature_held h.declared) (signature_length_lem d) (lines_length_lem h.body)
    (code_length_lem h.body w e)
  where
    same : (r : List ℕ) {s s' : List ℕ} {a k l n c : ℕ} → s' ≡ s → length s' ≡ a → k ≡ l → n ≡ c
        → header_of (length s) k n ++ (s ++ r) ≡ header_of a l c ++ (s' ++ r)
    same r e₁ e₂ e₃ e₄ = rw (← e₁, e₂, e₃, e₄)

-- how long the image is
image_length : {p : Process} {codes : List ℕ} {args : List ℤ} {rows : List ℕ} {d : Declared} {c : ℕ} → Holds p d codes args rows → WellFormed p
    → c ≡ run_width codes 0 d.operations → length (encode p) ≡ 28 + signature_size d + lines_size d + c
image_length {p} {codes} {args} {rows} {d} {c} h w e =
    let a = signature_length_lem d in
    let b = lines_length_lem h.body in
    let f = code_length_lem h.body w e in
    let x = length-append (signature_from d) (lines_bytes p ++ code_of_lines (lines_of p.body)) in
    let y = length-append (lines_bytes p) (code_of_lines (lines_of p.body)) in
    ap length (image_held h w e) ∙ omega arith

-- the answer, where there is room and where there is not
written : (i b a : List ℕ) (n : ℕ) → length i ≡ n → n ≤ length b → a ≡ sets b 0 i
    → (encoded_told (Ok n) ≡ (written_into i b).answer) × (a ≡ (written_into i b).buffer)
written i b a n e h g =
    let z : 0 + length i ≡ length i = omega arith in
    rw (fits_written i b (omega arith)) (ap done (sym e), g ∙ sets-eq i b 0 (omega arith) ∙ ap (λ (k : ℕ). i ++ drop k b) z)

short : (i b : List ℕ) (n : ℕ) → length i ≡ n → length b < n → (encoded_told (Err (record { needed = n })) ≡ (written_into i b).answer) × (b ≡ (written_into i b).buffer)
short i b n e h = rw (short_written i b (omega arith)) (ap (refusal 10) (sym e), refl)

module _ (codes : List ℕ) (args : List ℤ) (rows : List ℕ) (d : Declared) where
  -- The buffer is too short.
  pub write_short : (b : List ℕ) {s c : ℕ} → s ≡ signature_size d → c ≡ run_width codes 0 d.operations → length b < 28 + s + lines_size d + c
      → Encodes codes args rows d b b (Err (record { needed = 28 + s + lines_size d + c }))
  write_short b {s} {c} q e h p held w =
      short (encode p) b (28 + s + lines_size d + c) (image_length held w e ∙ ap (λ (k : ℕ). 28 + k + lines_size d + c) (sym q)) h

  -- The image is stored.
  pub write_done : (b : List ℕ) {m₁ m₂ : List ℕ} {s c : ℕ} → s ≡ signature_size d → c ≡ run_width codes 0 d.operations
      → 28 + s + lines_size d + c ≤ length b → m₁ ≡ sets b 0 (header_of (signature_size d) (lines_size d) c ++ signature_from d)
      → BodyStored codes args rows d.operations d.statements (28 + s) m₁ m₂ → Encodes codes args rows d b m₂ (Ok (28 + s + lines_size d + c))
  write_done b {m₁} {m₂} {s} {c} q e h e₁ e₂ p held w =
      let f = signature_length_lem d in
      let z : 28 + s ≡ 0 + length (front d c) = omega arith in
      let r = lines_bytes p ++ code_of_lines (lines_of p.body) in
      written (encode p) b m₂ (28 + s + lines_size d + c) (image_length held w e ∙ ap (λ (k : ℕ). 28 + k + lines_size d + c) (sym q)) h
      (put_after b 0 (front d c) r e₁ (e₂ p held.body w ∙ ap (λ (k : ℕ). sets m₁ k r) z) ∙ ap (λ (k : List ℕ). sets b 0 k) (sym (image_held held w e)))
