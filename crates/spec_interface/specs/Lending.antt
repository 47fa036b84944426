-- Parts of a caller's bytes that are lent out (document 01, "is handed out as that part of the text", "as parts of the caller's bytes"). Assumes nothing.
use Rattle.std.specs.Prelude.{◌≡◌, Bool, cond, ◌&&◌, List, [], ◌++◌, ℕ, ◌+◌, ◌-◌, length, take, drop, leb}
use Rattle.std.specs.Borrow.{Bor}
use Rattle.base_answers.specs.declared.Sections as declared
use Rattle.spec_format.specs.Image.{Sections}

-- the bounds lie in the bytes l
abbrev pub within : List ℕ → ℕ → ℕ → Bool
within l a e = leb a e && leb e (length l)

-- the bytes from a up to e; none where the bounds do not lie in l
abbrev pub bytes_between : List ℕ → ℕ → ℕ → List ℕ
bytes_between l a e = cond (within l a e) (take (e - a) (drop a l)) []

-- how far from the start they stand; 0 where the bounds do not lie in l
abbrev pub start_between : List ℕ → ℕ → ℕ → ℕ
start_between l a e = cond (within l a e) a 0

-- what code lends between two bounds: r points into the same block as s, so far behind its start, and holds those bytes
pub record Lends (s : Bor (List ℕ)) (a e : ℕ) (r : Bor (List ℕ)) : Type 0 where
  pub bytes : r.now ≡ bytes_between s.now a e
  pub block : r.ref_ptr.0 ≡ s.ref_ptr.0
  pub place : r.ref_ptr.1 ≡ s.ref_ptr.1 + start_between s.now a e

-- the bytes u stand in the bytes l at the place p
pub record StandsAt (l : List ℕ) (p : ℕ) (u : List ℕ) : Type 0 where
  pub before : List ℕ
  pub behind : List ℕ
  pub is : l ≡ before ++ (u ++ behind)
  pub place : length before ≡ p

-- "that part": r is the part of s that begins at the place p, in memory and in its bytes
pub record PartAt (s : Bor (List ℕ)) (p : ℕ) (r : Bor (List ℕ)) : Type 0 where
  pub block : r.ref_ptr.0 ≡ s.ref_ptr.0
  pub offset : r.ref_ptr.1 ≡ s.ref_ptr.1 + p
  pub stands : StandsAt s.now p r.now

-- whatever is lent of the bytes l between a and e is u, and stands there
abbrev pub LentAs : List ℕ → ℕ → ℕ → List ℕ → Type 0
LentAs l a e u = (s r : Bor (List ℕ)) → s.now ≡ l → Lends s a e r → (r.now ≡ u) × PartAt s a r

-- "the first starts at byte 28, no gaps": where three sections start, and where the last ends
abbrev pub bounds_of : Sections → declared.Sections
bounds_of x =
    let lines = 28 + length x.signature in
    let code = lines + length x.lines in
    record { signature = 28; lines = lines; code = code; end = code + length x.code }
