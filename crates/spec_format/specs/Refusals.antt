-- Refusals 11, 12 and 13 without a method: what the bytes of an image are not (document 01, "Turned back"). Assumes nothing.
use Rattle.std.specs.Prelude.{◌≡◌, true, List, [], ◌∷◌, ℕ, zero, suc, ◌+◌, ◌≤◌, ◌<◌, length, get_or, take, drop}
use Rattle.spec_format.specs.Signature.{Signature, signature_bytes, GoodSignature}
use Rattle.spec_format.specs.Lines.{Line}
use Rattle.spec_format.specs.Image.{RawLine, raw, code_of_line, raw_of, Sections, form1}
use Rattle.spec_format.specs.Good.{good_line}
use Rattle.spec_format.specs.Opening.{whole_lines, raw_reaches, raw_lines}

-- form, count, pairs and image length are right, and the lines section has "1 to 512 whole lines"
pub record Sectioned (b : List ℕ) (x : Sections) : Type 0 where
  pub bytes : b ≡ form1 x
  pub small : length b ≤ 65535
  pub lines : whole_lines x.lines ≡ true

-- the signature section is that of a good signature
pub record Signed (x : Sections) (σ : Signature) : Type 0 where
  pub bytes : x.signature ≡ signature_bytes σ
  pub good : GoodSignature σ

-- "Code runs of successive lines adjoin": where the run of the line k begins
unfoldable pub run_start : List RawLine → ℕ → ℕ
run_start [] k = 0
run_start (w ∷ ws) zero = 0
run_start (w ∷ ws) (suc k) = w.size + run_start ws k

-- the fields of the line k
abbrev pub fields_at : Sections → ℕ → RawLine
fields_at x k = get_or (raw_lines x) k (raw 0 0 0 0 0 0 0)

-- the fields and the run of the line k, with the offset where the runs before it end, are those of the good line l
pub record GoodAt (σ : Signature) (x : Sections) (k : ℕ) (l : Line) : Type 0 where
  pub fields : fields_at x k ≡ raw_of (run_start (raw_lines x) k) l (fields_at x k).reach
  pub code : take (length (code_of_line l)) (drop (run_start (raw_lines x) k) x.code) ≡ code_of_line l
  pub good : good_line σ (length (raw_lines x)) (raw_reaches (raw_lines x)) (fields_at x k).reach l ≡ true

-- "lowest bad line; the line count if only the code section is not filled"
pub data Lowest (σ : Signature) (x : Sections) (k : ℕ) : Type 0 where
  bad_line : k < length (raw_lines x) → ((l : Line) → GoodAt σ x k l → ⊥) → ((y : ℕ) → y < k → (l : Line) × GoodAt σ x y l) → Lowest σ x k
  not_filled : k ≡ length (raw_lines x) → ((y : ℕ) → y < k → (l : Line) × GoodAt σ x y l) → run_start (raw_lines x) k < length x.code → Lowest σ x k

-- 11: "form, count, pairs, image length, lines section not 1 to 512 whole lines", at 0; 12: "signature", at 0; 13: "lines or code"
pub data Refusal (b : List ℕ) (number place : ℕ) : Type 0 where
  sections_refused : number ≡ 11 → place ≡ 0 → ((x : Sections) → Sectioned b x → ⊥) → Refusal b number place
  signature_refused : number ≡ 12 → place ≡ 0 → (x : Sections) → Sectioned b x → ((σ : Signature) → Signed x σ → ⊥) → Refusal b number place
  line_refused : number ≡ 13 → (x : Sections) → Sectioned b x → (σ : Signature) → Signed x σ → Lowest σ x place → Refusal b number place
