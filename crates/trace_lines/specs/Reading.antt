-- What the reading of rows answers, by position. Assumes nothing.
use Rattle.std.specs.Prelude.{Option, None, Some, ◌≡◌, Bool, not, cond, List, [], ◌++◌, ℕ, ◌+◌, ◌≤◌, min, length, drop, ℤ, eqb, leb}
use Rattle.std.proofs.lemmas.List.Edits.{sets}
use Rattle.base_codes.specs.Limit as L
use Rattle.front_token.specs.Places.{end_of_run}
use Rattle.trace_lines.specs.Rows.{parted, all, decimals}

-- the byte b is not c
unfoldable pub other : ℕ → ℕ → Bool
other c b = not (eqb b c)

-- where the byte c stands from a place on, or the end
abbrev pub part_end : ℕ → List ℕ → ℕ → ℕ
part_end c s at = end_of_run (other c) s at

-- a number cut at 2147483649, which is outside integer with either sign
abbrev pub cut : Option ℕ → Option ℕ
cut None = None
cut (Some m) = Some (min m 2147483649)

-- a row of at most 16 values: "data inputs (at most 16)", so a longer one is not as long as its count
abbrev pub short : Option (List ℤ) → Option (List ℤ)
short None = None
short (Some l) = cond (leb (length l) L.INPUTS) (Some l) None

-- the row's answer r, and the lent values, v before and w after: the values of the row are stored from index 0 on
abbrev pub reads_of : Option (List ℤ) → List ℤ → Option ℕ → List ℤ → Type 0
reads_of None v r w = r ≡ None
reads_of (Some l) v r w = (r ≡ Some (length l)) × (w ≡ sets v 0 l)

pub record Reads (x : Option (List ℤ)) (v : List ℤ) (r : Option ℕ) (w : List ℤ) : Type 0 where
  pub is : reads_of x v r w

-- the parts of a line from index i on; behind the end there is none any more
abbrev pub parts_from : List ℕ → ℕ → List (List ℕ)
parts_from s i = cond (leb i (length s)) (parted (drop i s)) []

-- the values l, then those of the parts
abbrev pub after : List ℤ → Option (List ℤ) → Option (List ℤ)
after l None = None
after l (Some m) = Some (l ++ m)

-- the row of the values l and the parts that are still to be read
abbrev pub joined : List ℤ → List (List ℕ) → Option (List ℤ)
joined l ws = short (after l (all ws))

-- what holds whenever the loop over a line's parts is at index i with n values stored
pub record Reading (line : List ℕ) (before now : List ℤ) (n i : ℕ) : Type 0 where
  pub read : List ℤ
  pub count : n ≡ length read
  pub few : n ≤ L.INPUTS
  pub stored : now ≡ sets before 0 read
  pub inside : i ≤ length line + 1
  pub rest : short (decimals line) ≡ joined read (parts_from line i)
