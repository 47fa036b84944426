-- A line is opened exactly where its fields pass the tests by place, and the lines one after the other are judged by them: by cases on the
-- kind. Assumes nothing.
use Prim.Native.Nat.{ℕ, zero, suc, ◌+◌, ◌-◌, ◌*◌, ◌≤◌, ◌<◌, max}
use native.Mathlib.Omega.{arith}
use native.Mathlib.Nat.{add-zero}
use native.Mathlib.Numerals.{add-one}
use mathlib.Core.Path.{◌≡◌, refl, sym, ap, ◌∙◌}
use mathlib.Core.Bool.{Bool, true, false, cond, ◌&&◌}
use mathlib.Core.Option.{Option, none, some, map, bind}
use mathlib.Core.List.{List, [], ◌∷◌}
use lib.ListN.{length, get_or, take, drop, length-drop, get_or-map}
use lib.Seq.{get_or-drop, drop-drop}
use lib.Dec.{ltb, leb, eqb}
use borrow.Author.Tests.{eq-eqb, ne_eqb, le-leb, lt-leb}
use Rattle.spec_design.specs.Types.{Ty, ExprTy, boolean, same_ty, same_type}
use Rattle.spec_design.specs.Expression.{Expr, items, nth, plainly}
use Rattle.spec_design.specs.Statement.{output, variable, null}
use Rattle.spec_design.specs.Process.{is_type, fits, typed_act}
use Rattle.spec_format.specs.Words.{Bytes, word2, word2_at, only_if}
use Rattle.spec_format.specs.Code.{decode}
use Rattle.spec_format.specs.Lines.{Line, waits, acts, branches, reach}
use Rattle.spec_format.specs.Image.{RawLine, raw}
use Rattle.spec_format.specs.Good.{good_line}
use Rattle.spec_format.specs.Opening.{raw_line_at, raws, is_empty, line_of, open_line}
use Rattle.spec_format.proofs.Words.{bytes_take, bytes_drop}
use Rattle.spec_format.proofs.Decoding.{decode_back}
use Rattle.std.specs.Prelude.{Some}
use Rattle.base_codes.specs.Types.{BOOLEAN}
use Rattle.base_codes.proofs.TypeLaws.{same_tag}
use Rattle.image_loader.specs.Sections.{is_some}
use Rattle.image_loader.specs.Code.{tagged, tag_at, signature_at, input_types, output_types, variable_types, code_type}
use Rattle.image_loader.specs.Lines.{tags_same, leaves_type, code_fits, followers_fit, stored_reaches}
use Rattle.image_loader.proofs.Bools.{and_true}
use Rattle.image_loader.proofs.SignatureLaws.{is_some_only_if}
use Rattle.image_loader.proofs.CodeLaws.{byte_case}

-- The code of a line.

-- a type that fits is a tag that is the same
type_tag : (l : Bool) (t : ExprTy) (u : Option ExprTy)
    → (l && is_type (some t) u) ≡ tags_same (tagged (only_if l (some t))) (tagged u)
unfolding is_type same_type same_ty
type_tag false t u = refl
type_tag true t none = refl
type_tag true t (some u) = rw (same_tag t u)

-- a line with code: the code leaves the type u, and the tests a, m and q hold
coded : (is vs : List Ty) (c : List ℕ) (u : Option ExprTy) (F : Expr → Line) (good : Line → Bool) (a m q : Bool) → Bytes c
    → ((e : Expr) → good (F e) ≡ (m && (q && fits is vs e u)))
    → is_some (bind (only_if a (map (λ e. F e.1) (decode is vs c))) (λ l. only_if (good l) (some l)))
    ≡ (tags_same (tagged (code_type is vs c)) (tagged u) && (a && (m && q)))
unfolding code_type bind fits
coded is vs c u F good a m q b h = go (decode is vs c) refl a
  where
    order : (m q l : Bool) → (m && (q && l)) ≡ (l && (m && q))
    order true true true = refl
    order true true false = refl
    order true false true = refl
    order true false false = refl
    order false q true = refl
    order false q false = refl

    last : (l : Bool) → (l && false) ≡ false
    last true = refl
    last false = refl

    tested : (x : Line) (v : Bool) → good x ≡ v → is_some (only_if (good x) (some x)) ≡ v
    tested x v e = is_some_only_if (good x) (some x) ∙ rw e (and_true v)

    go : (d : Option (ExprTy × Expr)) → decode is vs c ≡ d → (a : Bool)
        → is_some (bind (only_if a (map (λ e. F e.1) d)) (λ l. only_if (good l) (some l)))
        ≡ (tags_same (tagged (bind d (λ p. only_if (leb (items p.1) 64) (some p.0)))) (tagged u) && (a && (m && q)))
    go none e true = refl
    go none e false = refl
    go (some p) e true =
        let t = (decode_back is vs c p.0 p.1 b e).1 in
        tested (F p.1) (m && (q && (leb (items p.1) 64 && is_type (some p.0) u))) (h p.1 ∙ rw t refl)
        ∙ order m q (leb (items p.1) 64 && is_type (some p.0) u) ∙ ap (λ z. z && (m && q)) (type_tag (leb (items p.1) 64) p.0 u)
    go (some p) e false = sym (last (tags_same (tagged (only_if (leb (items p.1) 64) (some p.0))) (tagged u)))

empty_test : (c : List ℕ) → is_empty c ≡ eqb (length c) 0
empty_test [] = refl
empty_test (k ∷ c) = sym (ne_eqb (suc (length c)) 0 (λ e. omega arith))

-- the tests in the order of the code
acts_order : (s a m q : Bool) → (s && (a && (m && q))) ≡ (s && cond m (cond a q false) false)
acts_order false a m q = refl
acts_order true true true q = refl
acts_order true true false q = refl
acts_order true false true q = refl
acts_order true false false q = refl

branch_order : (s a x y z : Bool) → (s && (a && ((x && y) && z))) ≡ (cond a s false && cond x (cond y z false) false)
branch_order true true true true z = refl
branch_order true true true false z = refl
branch_order true true false y z = refl
branch_order true false x y z = refl
branch_order false true x y z = refl
branch_order false false x y z = refl

plain_order : (t g e f q : Bool) → ((t && (g && e)) && (f && (q && true))) ≡ (cond t e false && cond f (cond g q false) false)
plain_order false g e f q = refl
plain_order true false true true q = refl
plain_order true false true false q = refl
plain_order true false false f q = refl
plain_order true true false f q = refl
plain_order true true true false q = refl
plain_order true true true true true = refl
plain_order true true true true false = refl

-- a line without code
codeless : (a : Bool) (l : Line) (good : Line → Bool) → is_some (bind (only_if a (some l)) (λ l. only_if (good l) (some l))) ≡ (a && good l)
unfolding bind
codeless true l good = is_some_only_if (good l) (some l) ∙ and_true (good l)
codeless false l good = refl

module _ (sig : List ℕ) (n : ℕ) (rs : List ℕ) (q t f g : ℕ) (c : List ℕ) (b : Bytes c) where
  -- what is said of a line of kind k
  abbrev Judged : ℕ → Type 0
  Judged k =
      is_some (bind (line_of (input_types sig) (variable_types sig) k t c f g) (λ l. only_if (good_line (signature_at sig) n rs q l) (some l)))
      ≡ (code_fits sig k t c && followers_fit n rs k f g q)

  kind_0 : Judged 0
  unfolding line_of good_line code_fits followers_fit
  kind_0 =
      codeless (eqb t 0 && (eqb g 0 && is_empty c)) (waits f) (good_line (signature_at sig) n rs q)
      ∙ rw (empty_test c) (plain_order (eqb t 0) (eqb g 0) (eqb (length c) 0) (ltb f n) (eqb q 0))

  kind_1 : Judged 1
  unfolding line_of good_line typed_act code_fits followers_fit leaves_type
  kind_1 =
      coded (input_types sig) (variable_types sig) c (plainly (nth (output_types sig) t)) (λ e. acts (output t e) f) (good_line (signature_at sig) n rs q)
      (eqb g 0) (ltb f n) (eqb q (suc (reach rs f))) b (λ e. refl)
      ∙ rw add-one (acts_order (leaves_type sig c (tag_at (output_types sig) t)) (eqb g 0) (ltb f n) (eqb q (suc (reach rs f))))

  kind_2 : Judged 2
  unfolding line_of good_line typed_act code_fits followers_fit leaves_type
  kind_2 =
      coded (input_types sig) (variable_types sig) c (plainly (nth (variable_types sig) t)) (λ e. acts (variable t e) f) (good_line (signature_at sig) n rs q)
      (eqb g 0) (ltb f n) (eqb q (suc (reach rs f))) b (λ e. refl)
      ∙ rw add-one (acts_order (leaves_type sig c (tag_at (variable_types sig) t)) (eqb g 0) (ltb f n) (eqb q (suc (reach rs f))))

  kind_3 : Judged 3
  unfolding line_of good_line code_fits followers_fit leaves_type
  kind_3 =
      coded (input_types sig) (variable_types sig) c (some boolean) (λ e. branches e f g) (good_line (signature_at sig) n rs q)
      (eqb t 0) (ltb f n && ltb g n) (eqb q (suc (max (reach rs f) (reach rs g)))) b (λ e. refl)
      ∙ rw add-one (branch_order (leaves_type sig c (Some BOOLEAN)) (eqb t 0) (ltb f n) (ltb g n) (eqb q (suc (max (reach rs f) (reach rs g)))))

  kind_4 : Judged 4
  unfolding line_of good_line typed_act code_fits followers_fit
  kind_4 =
      codeless (eqb t 0 && (eqb g 0 && is_empty c)) (acts null f) (good_line (signature_at sig) n rs q)
      ∙ rw (empty_test c, add-one) (plain_order (eqb t 0) (eqb g 0) (eqb (length c) 0) (ltb f n) (eqb q (suc (reach rs f))))

  kind_other : (k : ℕ) → (k ≡ 0 → ⊥) → (k ≡ 1 → ⊥) → (k ≡ 2 → ⊥) → (k ≡ 3 → ⊥) → (k ≡ 4 → ⊥) → Judged k
  unfolding line_of code_fits bind
  kind_other k n0 n1 n2 n3 n4 =
      rw (ne_eqb k 0 n0, ne_eqb k 1 n1, ne_eqb k 2 n2, ne_eqb k 3 n3, ne_eqb k 4 n4) (never (eqb t 0) (followers_fit n rs k f g q))
    where
      never : (a v : Bool) → false ≡ (cond a false false && v)
      never true v = refl
      never false v = refl

  pub kind_any : (k : ℕ) → Judged k
  kind_any k =
      byte_case Judged k 0 kind_0 (λ n0. byte_case Judged k 1 kind_1 (λ n1. byte_case Judged k 2 kind_2 (λ n2.
      byte_case Judged k 3 kind_3 (λ n3. byte_case Judged k 4 kind_4 (λ n4. kind_other k n0 n1 n2 n3 n4)))))

-- The fields of a line by place.
pub raw_at : (s : List ℕ) (o : ℕ)
    → raw_line_at (drop o s) ≡ raw (get_or s o 0) (get_or s (o + 1) 0) (word2_at s (o + 2)) (word2_at s (o + 4)) (word2_at s (o + 6)) (word2_at s (o + 8)) (word2_at
    s (o + 10))
raw_at s o = fields (byte 0 ∙ ap (λ k. get_or s k 0) (add-zero o)) (byte 1) (word 2) (word 4) (word 6) (word 8) (word 10)
  where
    byte : (k : ℕ) → get_or (drop o s) k 0 ≡ get_or s (o + k) 0
    byte k = get_or-drop o s k 0

    word : (k : ℕ) → word2_at (drop o s) k ≡ word2_at s (o + k)
    word k = let e : o + (k + 1) ≡ o + k + 1 = omega arith in two (byte k) (byte (k + 1) ∙ ap (λ z. get_or s z 0) e)
      where
        two : {a b x y : ℕ} → a ≡ x → b ≡ y → word2 a b ≡ word2 x y
        two p q = rw (p, q)

    fields : {a b c d e f g a' b' c' d' e' f' g' : ℕ} → a ≡ a' → b ≡ b' → c ≡ c' → d ≡ d' → e ≡ e' → f ≡ f' → g ≡ g'
        → raw a b c d e f g ≡ raw a' b' c' d' e' f' g'
    fields p1 p2 p3 p4 p5 p6 p7 = rw (p1, p2, p3, p4, p5, p6, p7)

raws_get : (n x : ℕ) (s : List ℕ) (d : RawLine) → x < n → get_or (raws n s) x d ≡ raw_line_at (drop (12 * x) s)
unfolding raws
raws_get zero x s d b = absurd (omega arith)
raws_get (suc n) zero s d b = refl
raws_get (suc n) (suc x) s d b =
    let e : 12 + 12 * x ≡ 12 * suc x = omega arith in
    raws_get n x (drop 12 s) d (omega arith) ∙ ap raw_line_at (drop-drop (12 * x) 12 s ∙ ap (λ k. drop k s) e)

-- the reach of the line x by place
pub reaches_get : (n x : ℕ) (s : List ℕ) → x < n → word2_at s (12 * x + 10) ≡ get_or (stored_reaches n s) x 0
reaches_get n x s b =
    sym (get_or-map (λ (w : RawLine). w.reach) (raws n s) x (raw 0 0 0 0 0 0 0)
    ∙ ap (λ (w : RawLine). w.reach) (raws_get n x s (raw 0 0 0 0 0 0 0) b ∙ raw_at s (12 * x)))

pub raws_length : (n : ℕ) (s : List ℕ) → length (raws n s) ≡ n
unfolding raws
raws_length zero s = refl
raws_length (suc n) s = ap suc (raws_length n (drop 12 s))

-- the run of s bytes from the offset p on, by its end
pub run_same : (code : List ℕ) (p s e : ℕ) → e ≡ p + s → take (e - p) (drop p code) ≡ take s (drop p code)
run_same code p s e h = let z : e - p ≡ s = omega arith in ap (λ k. take k (drop p code)) z

-- A line by the tests on its fields, as the code makes them.
module _ (sig lines code : List ℕ) (n x p : ℕ) (b : Bytes code) where
  -- whether the line x opens
  abbrev opens : Bool
  opens = is_some (open_line (signature_at sig) n (stored_reaches n lines) p (drop p code) (raw_line_at (drop (12 * x) lines)))

  raw_tests : (w : RawLine) → is_some (open_line (signature_at sig) n (stored_reaches n lines) p (drop p code) w)
      ≡ ((eqb w.offset p && leb w.size (length (drop p code)))
      && (code_fits sig w.kind w.target (take w.size (drop p code)) && followers_fit n (stored_reaches n lines) w.kind w.next w.other
      w.reach))
  unfolding open_line
  raw_tests w =
      is_some_only_if (eqb w.offset p && leb w.size (length (drop p code))) _
      ∙ ap (λ z. (eqb w.offset p && leb w.size (length (drop p code))) && z)
      (kind_any sig n (stored_reaches n lines) w.reach w.target w.next w.other (take w.size (drop p code))
      (bytes_take w.size (drop p code) (bytes_drop p code b)) w.kind)

  tests : (k t o s f g q : ℕ) → raw_line_at (drop (12 * x) lines) ≡ raw k t o s f g q
      → opens ≡ ((eqb o p && leb s (length (drop p code))) && (code_fits sig k t (take s (drop p code)) && followers_fit n (stored_reaches n lines) k f g q))
  tests k t o s f g q e =
      ap (λ w. is_some (open_line (signature_at sig) n (stored_reaches n lines) p (drop p code) w)) e ∙ raw_tests (raw k t o s f g q)

  -- from the fields as the code has read them
  by_tests : {k t o s : ℕ} → k ≡ get_or lines (12 * x) 0 → t ≡ get_or lines (12 * x + 1) 0 → o ≡ word2_at lines (12 * x + 2) → s ≡ word2_at lines (12 * x + 4)
      → opens ≡ ((eqb o p && leb s (length (drop p code))) && (code_fits sig k t (take s (drop p code))
      && followers_fit n (stored_reaches n lines) k (word2_at lines (12 * x + 6)) (word2_at lines (12 * x + 8)) (word2_at lines (12 * x + 10))))
  by_tests {k} {t} {o} {s} ek et eo es =
      tests k t o s (word2_at lines (12 * x + 6)) (word2_at lines (12 * x + 8)) (word2_at lines (12 * x + 10))
      (raw_at lines (12 * x) ∙ rw (← ek, ← et, ← eo, ← es))

  room : (s : ℕ) → p ≤ length code → s ≤ length code - p → leb s (length (drop p code)) ≡ true
  room s h l = le-leb s (length (drop p code)) (omega (arith, length-drop p code))

  no_room : (s : ℕ) → p ≤ length code → length code - p < s → leb s (length (drop p code)) ≡ false
  no_room s h l = lt-leb s (length (drop p code)) (omega (arith, length-drop p code))

  pub offset_bad : {o : ℕ} → o ≡ word2_at lines (12 * x + 2) → (o ≡ p → ⊥) → false ≡ opens
  offset_bad {o} e h = sym (by_tests refl refl e refl ∙ rw (ne_eqb o p h))

  pub size_bad : {o s : ℕ} → o ≡ word2_at lines (12 * x + 2) → s ≡ word2_at lines (12 * x + 4) → p ≤ length code → o ≡ p → length code - p < s → false ≡ opens
  size_bad {o} {s} e d h m l = sym (by_tests refl refl e d ∙ rw (eq-eqb o p m, no_room s h l))

  module _ {k t o s : ℕ} (ek : k ≡ get_or lines (12 * x) 0) (et : t ≡ get_or lines (12 * x + 1) 0) (eo : o ≡ word2_at lines (12 * x + 2))
      (es : s ≡ word2_at lines (12 * x + 4)) (h : p ≤ length code) (m : o ≡ p) (l : s ≤ length code - p) where
    pub code_bad : code_fits sig k t (take s (drop p code)) ≡ false → false ≡ opens
    code_bad v = sym (by_tests ek et eo es ∙ rw (eq-eqb o p m, room s h l, v))

    pub line_good : {r : Bool} → code_fits sig k t (take s (drop p code)) ≡ true
        → r ≡ followers_fit n (stored_reaches n lines) k (word2_at lines (12 * x + 6)) (word2_at lines (12 * x + 8)) (word2_at lines (12 * x + 10)) → r ≡ opens
    line_good v w = w ∙ sym (by_tests ek et eo es ∙ rw (eq-eqb o p m, room s h l, v))

-- next, other and reach of a line, from what the code reads
pub followers_read : (n : ℕ) (rs : List ℕ) (k : ℕ) {f f' g g' q q' : ℕ} {r : Bool} → f ≡ f' → g ≡ g' → q ≡ q' → r ≡ followers_fit n rs k f g q
    → r ≡ followers_fit n rs k f' g' q'
followers_read n rs k a b c e = rw (← a, ← b, ← c) e
