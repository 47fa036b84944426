-- Lines are read back from their bytes, and lines that open are those whose bytes they are: by induction on the lines, code offset and rest of the
-- code running along. Assumes nothing.
use Prim.Native.Nat.{ℕ, zero, suc, ◌+◌, ◌*◌, ◌≤◌, ◌<◌}
use native.Mathlib.Omega.{arith}
use mathlib.Core.Path.{◌≡◌, refl, sym, ap, ◌∙◌}
use mathlib.Core.Bool.{true, ◌&&◌}
use mathlib.Core.Option.{Option, none, some, map, bind}
use mathlib.Core.List.{List, [], ◌∷◌, ◌++◌}
use lib.ListN.{length, get_or, take, drop, length-append, length-drop, take-append-drop}
use lib.Seq.{length-take-le, take-append_seam, drop-append_seam}
use lib.Dec.{ltb, leb, eqb}
use borrow.Author.Tests.{leb-true, le-leb, ltb-true}
use Rattle.spec_design.specs.Types.{Ty}
use Rattle.spec_design.specs.Statement.{output, variable, null}
use Rattle.spec_design.specs.Process.{typed_act}
use Rattle.spec_semantics.proofs.Basic.{false_true, none_some, some_injective, eqb-true, eqb_same, and_left, and_right, cond_case}
use Rattle.spec_format.specs.Words.{Bytes, only_if}
use Rattle.spec_format.specs.Code.{decode}
use Rattle.spec_format.specs.Signature.{Signature, types}
use Rattle.spec_format.specs.Lines.{Line, waits, acts, branches, reach_of}
use Rattle.spec_format.specs.Image.{RawLine, raw_bytes, raws_bytes, code_of_line, code_of_lines, raw, raw_of, raws_of}
use Rattle.spec_format.specs.Good.{fits_line, within, good_line, GoodLines}
use Rattle.spec_format.specs.Opening.{raw_line_at, raws, is_empty, line_of, open_line, Lined, lined, bad_at, with, go_on, open_lines, raw_reaches}
use Rattle.spec_format.proofs.Words.{word2_bytes2, bytes2_front, word2_small, byte_at, bytes_take, bytes_drop}
use Rattle.spec_format.proofs.Basic.{and_then_some, map_some, only_if_some}
use Rattle.spec_format.proofs.Decoding.{decode_code, decode_back}
use Rattle.spec_semantics.proofs.Typed.{fits_type}

-- A line's fields.

pub record Narrow (w : RawLine) : Type 0 where
  pub offset : w.offset < 65536
  pub size : w.size < 65536
  pub next : w.next < 65536
  pub other : w.other < 65536
  pub reach : w.reach < 65536

unfoldable pub AllNarrow : List RawLine → Type 0
AllNarrow [] = Unit {0}
AllNarrow (w ∷ l) = Narrow w × AllNarrow l

pub raws_read : (l : List RawLine) → AllNarrow l → raws (length l) (raws_bytes l) ≡ l
unfolding raws raws_bytes AllNarrow
raws_read [] h = refl
raws_read (w ∷ l) h =
    rw (
      word2_bytes2 w.offset h.0.offset,
      word2_bytes2 w.size h.0.size,
      word2_bytes2 w.next h.0.next,
      word2_bytes2 w.other h.0.other,
      word2_bytes2 w.reach h.0.reach,
      raws_read l h.1,
    )

pub raws_bytes_length : (l : List RawLine) → length (raws_bytes l) ≡ 12 * length l
unfolding raws_bytes
raws_bytes_length [] = refl
raws_bytes_length (w ∷ l) = let e = raws_bytes_length l in omega arith

pub raw_place : (p : ℕ) (l : Line) (q : ℕ) → ((raw_of p l q).offset ≡ p) × ((raw_of p l q).size ≡ length (code_of_line l)) × ((raw_of p l q).reach ≡ q)
unfolding raw_of code_of_line
raw_place p (waits f) q = (refl, refl, refl)
raw_place p (acts (output k e) f) q = (refl, refl, refl)
raw_place p (acts (variable k e) f) q = (refl, refl, refl)
raw_place p (acts null f) q = (refl, refl, refl)
raw_place p (branches e f g) q = (refl, refl, refl)

-- A good line is read back from its fields and its code.

line_read : (σ : Signature) (l : Line) (p q : ℕ) → fits_line σ l ≡ true
    → line_of σ.inputs (types σ.variables) (raw_of p l q).kind (raw_of p l q).target (code_of_line l) (raw_of p l q).next (raw_of p l q).other ≡ some l
unfolding line_of raw_of code_of_line typed_act
line_read σ (waits f) p q h = refl
line_read σ (acts (output k e) f) p q h = let u = fits_type _ _ e _ h in rw (decode_code σ.inputs (types σ.variables) e u.0 u.1)
line_read σ (acts (variable k e) f) p q h = let u = fits_type _ _ e _ h in rw (decode_code σ.inputs (types σ.variables) e u.0 u.1)
line_read σ (acts null f) p q h = refl
line_read σ (branches e f g) p q h = let u = fits_type _ _ e _ h in rw (decode_code σ.inputs (types σ.variables) e u.0 u.1)

pub good_fits : (σ : Signature) (n : ℕ) (rs : List ℕ) (q : ℕ) (l : Line) → good_line σ n rs q l ≡ true → fits_line σ l ≡ true
unfolding good_line
good_fits σ n rs q l h = and_right (eqb q (reach_of rs l)) _ (and_right (within n l) _ h)

pub line_opens : (σ : Signature) (n : ℕ) (rs : List ℕ) (p : ℕ) (c : List ℕ) (l : Line) (q : ℕ) → good_line σ n rs q l ≡ true
    → open_line σ n rs p (code_of_line l ++ c) (raw_of p l q) ≡ some l
unfolding open_line bind
line_opens σ n rs p c l q h =
    let w = raw_place p l q in
    rw (
      w.0,
      w.1,
      w.2,
      eqb_same p,
      le-leb (length (code_of_line l)) (length (code_of_line l ++ c)) (omega (arith, length-append (code_of_line l) c)),
      take-append_seam (code_of_line l) c,
      line_read σ l p q (good_fits σ n rs q l h),
      h,
    )

pub lines_open : (σ : Signature) (n : ℕ) (rs : List ℕ) (x p : ℕ) (ls : List Line) (qs : List ℕ) → GoodLines σ n rs ls qs
    → open_lines σ n rs x p (code_of_lines ls) (raws_of p ls qs) ≡ lined ls
unfolding open_lines code_of_lines raws_of GoodLines
lines_open σ n rs x p [] [] g = refl
lines_open σ n rs x p [] (q ∷ qs) g = absurd g
lines_open σ n rs x p (l ∷ ls) [] g = absurd g
lines_open σ n rs x p (l ∷ ls) (q ∷ qs) g =
    let w = raw_place p l q in
    rw (line_opens σ n rs p (code_of_lines ls) l q g.0, w.1, drop-append_seam (code_of_line l) (code_of_lines ls))
    (rw (lines_open σ n rs (suc x) (p + length (code_of_line l)) ls qs g.2))

pub raws_reaches : (σ : Signature) (n : ℕ) (rs : List ℕ) (p : ℕ) (ls : List Line) (qs : List ℕ) → GoodLines σ n rs ls qs → raw_reaches (raws_of p ls qs) ≡ qs
unfolding raws_of GoodLines
raws_reaches σ n rs p [] [] g = refl
raws_reaches σ n rs p [] (q ∷ qs) g = absurd g
raws_reaches σ n rs p (l ∷ ls) [] g = absurd g
raws_reaches σ n rs p (l ∷ ls) (q ∷ qs) g = rw ((raw_place p l q).2, raws_reaches σ n rs (p + length (code_of_line l)) ls qs g.2)

pub raws_length : (σ : Signature) (n : ℕ) (rs : List ℕ) (p : ℕ) (ls : List Line) (qs : List ℕ) → GoodLines σ n rs ls qs → length (raws_of p ls qs) ≡ length ls
unfolding raws_of GoodLines
raws_length σ n rs p [] [] g = refl
raws_length σ n rs p [] (q ∷ qs) g = absurd g
raws_length σ n rs p (l ∷ ls) [] g = absurd g
raws_length σ n rs p (l ∷ ls) (q ∷ qs) g = ap suc (raws_length σ n rs (p + length (code_of_line l)) ls qs g.2)

raw_narrow : (n p : ℕ) (l : Line) (q : ℕ) → within n l ≡ true → n ≤ 512 → p + length (code_of_line l) < 65536 → q < 65536 → Narrow (raw_of p l q)
unfolding raw_of code_of_line
raw_narrow n p (waits f) q h s z b =
    let y = ltb-true f n h in record { offset = omega arith; size = omega arith; next = omega arith; other = omega arith; reach = b }
raw_narrow n p (acts (output k e) f) q h s z b =
    let y = ltb-true f n h in record { offset = omega arith; size = omega arith; next = omega arith; other = omega arith; reach = b }
raw_narrow n p (acts (variable k e) f) q h s z b =
    let y = ltb-true f n h in record { offset = omega arith; size = omega arith; next = omega arith; other = omega arith; reach = b }
raw_narrow n p (acts null f) q h s z b =
    let y = ltb-true f n h in record { offset = omega arith; size = omega arith; next = omega arith; other = omega arith; reach = b }
raw_narrow n p (branches e f g) q h s z b =
    let y = ltb-true f n (and_left (ltb f n) _ h) in
    let y' = ltb-true g n (and_right (ltb f n) _ h) in
    record { offset = omega arith; size = omega arith; next = omega arith; other = omega arith; reach = b }

pub raws_narrow : (σ : Signature) (n : ℕ) (rs : List ℕ) (p : ℕ) (ls : List Line) (qs : List ℕ) → GoodLines σ n rs ls qs → n ≤ 512
    → p + length (code_of_lines ls) < 65536 → AllNarrow (raws_of p ls qs)
unfolding raws_of GoodLines code_of_lines AllNarrow good_line
raws_narrow σ n rs p [] [] g s z = tt
raws_narrow σ n rs p [] (q ∷ qs) g s z = absurd g
raws_narrow σ n rs p (l ∷ ls) [] g s z = absurd g
raws_narrow σ n rs p (l ∷ ls) (q ∷ qs) g s z =
    let e = length-append (code_of_line l) (code_of_lines ls) in (
      raw_narrow n p l q (and_left (within n l) _ g.0) s (omega arith) g.1,
      raws_narrow σ n rs (p + length (code_of_line l)) ls qs g.2 s (omega arith),
    )

-- Lines that open.

raw_back : (s : List ℕ) → Bytes s → 12 ≤ length s → raw_bytes (raw_line_at s) ++ drop 12 s ≡ s
unfolding Bytes
raw_back [] z q = absurd (omega arith)
raw_back (a ∷ []) z q = absurd (omega arith)
raw_back (a ∷ b ∷ []) z q = absurd (omega arith)
raw_back (a ∷ b ∷ c ∷ []) z q = absurd (omega arith)
raw_back (a ∷ b ∷ c ∷ d ∷ []) z q = absurd (omega arith)
raw_back (a ∷ b ∷ c ∷ d ∷ e ∷ []) z q = absurd (omega arith)
raw_back (a ∷ b ∷ c ∷ d ∷ e ∷ f ∷ []) z q = absurd (omega arith)
raw_back (a ∷ b ∷ c ∷ d ∷ e ∷ f ∷ g ∷ []) z q = absurd (omega arith)
raw_back (a ∷ b ∷ c ∷ d ∷ e ∷ f ∷ g ∷ h ∷ []) z q = absurd (omega arith)
raw_back (a ∷ b ∷ c ∷ d ∷ e ∷ f ∷ g ∷ h ∷ i ∷ []) z q = absurd (omega arith)
raw_back (a ∷ b ∷ c ∷ d ∷ e ∷ f ∷ g ∷ h ∷ i ∷ j ∷ []) z q = absurd (omega arith)
raw_back (a ∷ b ∷ c ∷ d ∷ e ∷ f ∷ g ∷ h ∷ i ∷ j ∷ k ∷ []) z q = absurd (omega arith)
raw_back (a ∷ b ∷ c ∷ d ∷ e ∷ f ∷ g ∷ h ∷ i ∷ j ∷ k ∷ l ∷ s) z q =
    let y = z.1.1 in
    ap (λ r. a ∷ b ∷ r)
    (bytes2_front c d y.0 y.1.0 (bytes2_front e f y.1.1.0 y.1.1.1.0 (bytes2_front g h y.1.1.1.1.0 y.1.1.1.1.1.0
    (bytes2_front i j y.1.1.1.1.1.1.0 y.1.1.1.1.1.1.1.0
    (bytes2_front k l y.1.1.1.1.1.1.1.1.0 y.1.1.1.1.1.1.1.1.1.0 refl)))))

reach_small : (s : List ℕ) → Bytes s → 12 ≤ length s → (raw_line_at s).reach < 65536
reach_small s h q = word2_small (get_or s 10 0) (get_or s 11 0) (byte_at s 10 h) (byte_at s 11 h)

unfoldable pub AllReach : List RawLine → Type 0
AllReach [] = Unit {0}
AllReach (w ∷ ws) = (w.reach < 65536) × AllReach ws

pub raws_back : (n : ℕ) (s : List ℕ) → length s ≡ 12 * n → Bytes s → (raws_bytes (raws n s) ≡ s) × AllReach (raws n s) × (length (raws n s) ≡ n)
unfolding raws raws_bytes AllReach
raws_back zero [] e h = (refl, tt, refl)
raws_back zero (k ∷ s) e h = absurd (omega arith)
raws_back (suc n) s e h =
    let i = raws_back n (drop 12 s) (length-drop 12 s ∙ omega arith) (bytes_drop 12 s h) in (
      ap (λ z. raw_bytes (raw_line_at s) ++ z) i.0 ∙ raw_back s h (omega arith),
      (reach_small s h (omega arith), i.1),
      ap suc i.2,
    )

-- what a line's fields and code are where it is read
record Shape (k t : ℕ) (c : List ℕ) (f g : ℕ) (l : Line) : Type 0 where
  code : c ≡ code_of_line l
  same : (p q : ℕ) → raw k t p (length c) f g q ≡ raw_of p l q

raw_cong : {k k' t t' n n' g g' : ℕ} (p f q : ℕ) → k ≡ k' → t ≡ t' → n ≡ n' → g ≡ g' → raw k t p n f g q ≡ raw k' t' p n' f g' q
raw_cong p f q ek et en eg = cc

empty_nil : (c : List ℕ) → is_empty c ≡ true → c ≡ []
empty_nil [] e = refl
empty_nil (k ∷ c) e = false_true e

shape_without : (k t : ℕ) (c : List ℕ) (f g : ℕ) (m : Line) (l : Line) (n : ℕ) → eqb k n ≡ true → code_of_line m ≡ []
    → ((p q : ℕ) → raw_of p m q ≡ raw n 0 p 0 f 0 q) → only_if (eqb t 0 && (eqb g 0 && is_empty c)) (some m) ≡ some l → Shape k t c f g l
shape_without k t c f g m l n q em er e =
    let z = only_if_some (eqb t 0 && (eqb g 0 && is_empty c)) l e in
    let ec = empty_nil c (and_right (eqb g 0) _ (and_right (eqb t 0) _ z.0)) in
    let et = eqb-true t 0 (and_left (eqb t 0) _ z.0) in
    let eg = eqb-true g 0 (and_left (eqb g 0) _ (and_right (eqb t 0) _ z.0)) in
    rw (← some_injective m l z.1)
    (record { code = ec ∙ sym em; same = λ p r. raw_cong p f r (eqb-true k n q) et (ap length ec) eg ∙ sym (er p r) })

module _ (is vs : List Ty) where
  shape_output : (k t : ℕ) (c : List ℕ) (f g : ℕ) (l : Line) → Bytes c → eqb k 1 ≡ true
      → only_if (eqb g 0) (map (λ e. acts (output t e.1) f) (decode is vs c)) ≡ some l → Shape k t c f g l
  unfolding code_of_line raw_of
  shape_output k t c f g l h q e =
      let z = only_if_some (eqb g 0) l e in
      let m = map_some _ (decode is vs c) l z.1 in
      let d = (decode_back is vs c m.0.0 m.0.1 h m.1).0 in
      rw (← m.2) (record { code = d; same = λ p r. raw_cong p f r (eqb-true k 1 q) refl (ap length d) (eqb-true g 0 z.0) })

  shape_variable : (k t : ℕ) (c : List ℕ) (f g : ℕ) (l : Line) → Bytes c → eqb k 2 ≡ true
      → only_if (eqb g 0) (map (λ e. acts (variable t e.1) f) (decode is vs c)) ≡ some l → Shape k t c f g l
  unfolding code_of_line raw_of
  shape_variable k t c f g l h q e =
      let z = only_if_some (eqb g 0) l e in
      let m = map_some _ (decode is vs c) l z.1 in
      let d = (decode_back is vs c m.0.0 m.0.1 h m.1).0 in
      rw (← m.2) (record { code = d; same = λ p r. raw_cong p f r (eqb-true k 2 q) refl (ap length d) (eqb-true g 0 z.0) })

  shape_branch : (k t : ℕ) (c : List ℕ) (f g : ℕ) (l : Line) → Bytes c → eqb k 3 ≡ true
      → only_if (eqb t 0) (map (λ e. branches e.1 f g) (decode is vs c)) ≡ some l → Shape k t c f g l
  unfolding code_of_line raw_of
  shape_branch k t c f g l h q e =
      let z = only_if_some (eqb t 0) l e in
      let m = map_some _ (decode is vs c) l z.1 in
      let d = (decode_back is vs c m.0.0 m.0.1 h m.1).0 in
      rw (← m.2) (record { code = d; same = λ p r. raw_cong p f r (eqb-true k 3 q) (eqb-true t 0 z.0) (ap length d) refl })

  line_shape : (k t : ℕ) (c : List ℕ) (f g : ℕ) (l : Line) → Bytes c → line_of is vs k t c f g ≡ some l → Shape k t c f g l
  unfolding line_of code_of_line raw_of
  line_shape k t c f g l h e =
      cond_case (eqb k 0) e (λ q m. shape_without k t c f g (waits f) l 0 q refl (λ p r. refl) m) (λ q e1.
      cond_case (eqb k 1) e1 (λ q m. shape_output k t c f g l h q m) (λ q e2.
      cond_case (eqb k 2) e2 (λ q m. shape_variable k t c f g l h q m) (λ q e3.
      cond_case (eqb k 3) e3 (λ q m. shape_branch k t c f g l h q m) (λ q e4.
      cond_case (eqb k 4) e4 (λ q m. shape_without k t c f g (acts null f) l 4 q refl (λ p r. refl) m) (λ q e5. none_some l e5)))))

-- A line that opens: its fields are the line's, its code is the beginning of the code that is left, and it is good.
pub record LineBack (σ : Signature) (n : ℕ) (rs : List ℕ) (p : ℕ) (c : List ℕ) (w : RawLine) (l : Line) : Type 0 where
  pub code : take w.size c ≡ code_of_line l
  pub size : w.size ≡ length (code_of_line l)
  pub fields : w ≡ raw_of p l w.reach
  pub good : good_line σ n rs w.reach l ≡ true

pub line_back : (σ : Signature) (n : ℕ) (rs : List ℕ) (p : ℕ) (c : List ℕ) (w : RawLine) (l : Line) → Bytes c → open_line σ n rs p c w ≡ some l
    → LineBack σ n rs p c w l
unfolding open_line
line_back σ n rs p c w l h e =
    let z = only_if_some (eqb w.offset p && leb w.size (length c)) l e in
    let eo = eqb-true w.offset p (and_left (eqb w.offset p) _ z.0) in
    let es = length-take-le w.size c (leb-true w.size (length c) (and_right (eqb w.offset p) _ z.0)) in
    let m = and_then_some (line_of σ.inputs (types σ.variables) w.kind w.target (take w.size c) w.next w.other) _ l z.1 in
    let q = only_if_some (good_line σ n rs w.reach m.0) l m.2 in
    let s =
    line_shape σ.inputs (types σ.variables) w.kind w.target (take w.size c) w.next w.other m.0 (bytes_take w.size c h) m.1 in
    rw (← some_injective m.0 l q.1)
    (record {
      code = s.code;
      size = sym es ∙ ap length s.code;
      fields = ap (λ x. raw w.kind w.target x w.size w.next w.other w.reach) eo
          ∙ ap (λ x. raw w.kind w.target p x w.next w.other w.reach) (sym es) ∙ s.same p w.reach;
      good = q.0;
    })

go_lined : (o : Option Line) (x : ℕ) (k : Line → Lined) (ls : List Line) → go_on o x k ≡ lined ls → (l : Line) × (o ≡ some l) × (k l ≡ lined ls)
go_lined none x k ls e = absurd (let z : ◌≡◌ {A = ℕ} 0 1 = cc in omega arith)
go_lined (some l) x k ls e = (l, refl, e)

with_lined : (l : Line) (r : Lined) (ls : List Line) → with l r ≡ lined ls → (m : List Line) × (r ≡ lined m) × (l ∷ m ≡ ls)
with_lined l (lined m) ls e = (m, refl, cc)
with_lined l (bad_at x) ls e = absurd (let z : ◌≡◌ {A = ℕ} 0 1 = cc in omega arith)

pub record LinesBack (σ : Signature) (n : ℕ) (rs : List ℕ) (p : ℕ) (c : List ℕ) (ws : List RawLine) (ls : List Line) : Type 0 where
  pub code : c ≡ code_of_lines ls
  pub fields : ws ≡ raws_of p ls (raw_reaches ws)
  pub good : GoodLines σ n rs ls (raw_reaches ws)

lined_injective : (a b : List Line) → lined a ≡ lined b → a ≡ b
lined_injective a b e = cc

pub lines_back : (σ : Signature) (n : ℕ) (rs : List ℕ) (x p : ℕ) (c : List ℕ) (ws : List RawLine) (ls : List Line) → Bytes c → AllReach ws
    → open_lines σ n rs x p c ws ≡ lined ls → LinesBack σ n rs p c ws ls
unfolding open_lines code_of_lines raws_of GoodLines AllReach
lines_back σ n rs x p [] [] ls h a e = rw (← lined_injective [] ls e) (record { code = refl; fields = refl; good = tt })
lines_back σ n rs x p (k ∷ c) [] ls h a e = absurd (let z : ◌≡◌ {A = ℕ} 0 1 = cc in omega arith)
lines_back σ n rs x p c (w ∷ ws) ls h a e =
    let g = go_lined (open_line σ n rs p c w) x _ ls e in
    let o = with_lined g.0 _ ls g.2 in
    let b = line_back σ n rs p c w g.0 h g.1 in
    let r = lines_back σ n rs (suc x) (p + w.size) (drop w.size c) ws o.0 (bytes_drop w.size c h) a.1 o.1 in
    rw (← o.2)
    (record {
      code = sym (take-append-drop w.size c) ∙ ap (λ z. z ++ drop w.size c) b.code ∙ ap (λ z. code_of_line g.0 ++ z) r.code;
      fields = ap (λ z. w ∷ z) (r.fields ∙ ap (λ z. raws_of (p + z) o.0 (raw_reaches ws)) b.size)
          ∙ ap (λ z. z ∷ raws_of (p + length (code_of_line g.0)) o.0 (raw_reaches ws)) b.fields;
      good = (b.good, a.0, r.good);
    })
