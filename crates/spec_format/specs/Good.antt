-- When a table is one that an image may hold (document 01, "Image, form 1"). Assumes nothing.
use Rattle.std.specs.Prelude.{◌≡◌, Bool, true, ◌&&◌, List, [], ◌∷◌, ℕ, ◌≤◌, ◌<◌, length, ltb, eqb}
use Rattle.std.proofs.Math.Option.{some}
use Rattle.spec_design.specs.Types.{boolean}
use Rattle.spec_design.specs.Process.{fits, typed_act}
use Rattle.spec_format.specs.Lines.{Line, waits, acts, branches, reach_of}
use Rattle.spec_format.specs.Signature.{Signature, types, GoodSignature}
use Rattle.spec_format.specs.Image.{Table, encode_table}

-- "1 to 64 operations"; "It must leave one value of the type the line needs": the target's, boolean for a branch; the target is there
abbrev pub fits_line : Signature → Line → Bool
fits_line σ (waits f) = true
fits_line σ (acts a f) = typed_act σ.inputs (types σ.outputs) (types σ.variables) a
fits_line σ (branches e f g) = fits σ.inputs (types σ.variables) e (some boolean)

-- next and other are lines of a table of n lines
abbrev pub within : ℕ → Line → Bool
within n (waits f) = ltb f n
within n (acts a f) = ltb f n
within n (branches e f g) = ltb f n && ltb g n

-- the line l with the reach q, in a table of n lines with the reaches rs: "Reach is 0 for a wait, else 1 plus the larger reach of its followers."
unfoldable pub good_line : Signature → ℕ → List ℕ → ℕ → Line → Bool
good_line σ n rs q l = within n l && (eqb q (reach_of rs l) && fits_line σ l)

-- lines with their reaches, as many of these as of those; a reach has two bytes
unfoldable pub GoodLines : Signature → ℕ → List ℕ → List Line → List ℕ → Type 0
GoodLines σ n rs [] [] = Unit {0}
GoodLines σ n rs [] (q ∷ qs) = ⊥
GoodLines σ n rs (l ∷ ls) [] = ⊥
GoodLines σ n rs (l ∷ ls) (q ∷ qs) = (good_line σ n rs q l ≡ true) × (q < 65536) × GoodLines σ n rs ls qs

-- what document 01 asks of a table: its signature, its lines "(1 to 512)" and an image of "at most 65,535 bytes"
pub record GoodTable (t : Table) : Type 0 where
  pub signature : GoodSignature t.signature
  pub some_line : 1 ≤ length t.lines
  pub few_lines : length t.lines ≤ 512
  pub lines : GoodLines t.signature (length t.lines) t.reaches t.lines t.reaches
  pub bytes : length (encode_table t) ≤ 65535
