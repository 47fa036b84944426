-- What the signature and lines sections of an image hold, byte by byte (document 01, "Image, form 1", "State"). Assumes nothing.
use Rattle.std.specs.Prelude.{◌≡◌, Bool, false, cond, ◌&&◌, ◌||◌, List, [], ◌∷◌, ℕ, zero, suc, ◌+◌, ◌*◌, ◌/◌, length, get_or, ℤ, pos, ltb, eqb}
use Rattle.std.proofs.Math.Option.{Option, none, some}
use Rattle.base_codes.specs.Limit as L
use Rattle.base_codes.specs.Image as M
use Rattle.base_signed.specs.Signed.{in_type_byte}
use Rattle.spec_format.specs.Words.{word4_at}
use Rattle.spec_semantics.specs.Twos.{signed32}
use Rattle.spec_format.specs.Image.{Table}
use Rattle.spec_format.specs.Opening.{opened, open_sections}
use Rattle.spec_semantics.specs.Records.{zeros}

-- the three sections are those of an image that opens to the table t: what the opener establishes, and all that a cycle rests on
abbrev pub Opens : List ℕ → List ℕ → List ℕ → Table → Type 0
Opens signature lines code t = open_sections (record { signature = signature; lines = lines; code = code }) ≡ opened t

-- "bytes for the counts of data inputs .., outputs, variables ..; a type byte per input; for each output": where the outputs begin
abbrev pub outputs_at : List ℕ → ℕ
outputs_at s = M.COUNTS + get_or s 0 0

-- "type and 4-byte initial value" of each output, "then variable": where the variables begin
abbrev pub variables_at : List ℕ → ℕ
variables_at s = outputs_at s + M.SLOT * get_or s M.OUTPUTS 0

-- the lowest index of an input value that is not of its type, the first value having the index k; input k's type byte stands at 3 + k
unfoldable pub wrong_from : List ℕ → ℕ → List ℤ → Option ℕ
wrong_from s k [] = none
wrong_from s k (z ∷ l) = cond (in_type_byte (get_or s (M.COUNTS + k) 0) z) (wrong_from s (suc k) l) (some k)

-- slots of the n outputs or variables that begin at p, then unused ones: "unused ones 0, a std_logic slot 0 or 1"
unfoldable pub slots_at : List ℕ → ℕ → ℕ → List ℤ → Bool
slots_at s p zero l = zeros l
slots_at s p (suc n) [] = false
slots_at s p (suc n) (z ∷ l) = in_type_byte (get_or s p 0) z && slots_at s (p + M.SLOT) n l

-- "the initial values": what the four bytes at p say, or 0 in an unused slot
abbrev pub initial_at : List ℕ → ℕ → Bool → ℤ
initial_at s p used = cond used (signed32 (word4_at s p)) (pos 0)

-- the initial values of the n outputs or variables that begin at p
unfoldable pub initials_at : List ℕ → ℕ → ℕ → List ℤ
initials_at s p zero = []
initials_at s p (suc n) = signed32 (word4_at s (p + 1)) ∷ initials_at s (p + M.SLOT) n

-- the type bytes of the n outputs or variables that begin at p
unfoldable pub type_bytes_at : List ℕ → ℕ → ℕ → List ℕ
type_bytes_at s p zero = []
type_bytes_at s p (suc n) = get_or s p 0 ∷ type_bytes_at s (p + M.SLOT) n

-- "A place (512 for the beginning, else a wait's line)": a 12-byte line whose "kind byte" is "0 wait"
unfoldable pub place_at : List ℕ → ℕ → Bool
place_at l p = eqb p L.BEGINNING || (ltb p (length l / M.LINE) && eqb (get_or l (p * M.LINE) 0) M.WAIT)
