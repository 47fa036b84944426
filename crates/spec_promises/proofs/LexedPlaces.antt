-- Every token that a text has starts inside it, and so does what refusal 2 stands at: a piece begins where those before it end. Assumes nothing.
use mathlib.Core.List.{List, [], ◌∷◌, ◌++◌}
use Prim.Native.Nat.{ℕ, zero, suc, ◌+◌, ◌≤◌}
use native.Mathlib.Omega.{arith}
use lib.ListN.{length, length-append}
use Rattle.spec_grammar.specs.Token.{Token}
use Rattle.spec_grammar.specs.Limits.{Each}
use Rattle.spec_language.specs.Lexing.{Lexes, Stops}
use Rattle.spec_language.specs.Lexing as S
use Rattle.spec_language.specs.Validity.{place_of}

-- the token starts at n at the latest
abbrev pub By : ℕ → Token → Type 0
By n x = x.place ≤ n

-- what holds by n holds later
later : (n m : ℕ) → n ≤ m → (ts : List Token) → Each (By n) ts → Each (By m) ts
later n m l [] h = tt
later n m l (x ∷ ts) h = (let a = h.0 in omega arith, later n m l ts h.1)

from_places : {n : ℕ} {b : List ℕ} {ts : List Token} → Lexes n b ts → Each (By (n + length b)) ts
from_places S.end = tt
from_places {n} {ts = ts} (S.Lexes.gap {w} {rest} p r) =
    let e = length-append w rest in
    later (n + length w + length rest) (n + length (w ++ rest)) (omega arith) ts (from_places r)
from_places {n} (S.Lexes.token {w} {rest} {ts} p r) =
    let e = length-append w rest in
    (omega arith, later (n + length w + length rest) (n + length (w ++ rest)) (omega arith) ts (from_places r))

-- all tokens of a text start inside it
pub lexed_places : {b : List ℕ} {ts : List Token} → Lexes 0 b ts → Each (By (length b)) ts
lexed_places {b} {ts} r = later (0 + length b) (length b) (omega arith) ts (from_places r)

from_stop : {n p : ℕ} {b : List ℕ} → Stops n b p → p ≤ n + length b
from_stop (S.token_missing h) = omega arith
from_stop (S.Stops.malformed q) = omega arith
from_stop (S.Stops.gap {w} {rest} q r) = let h = from_stop r in let e = length-append w rest in omega arith
from_stop (S.Stops.token {w} {rest} q r) = let h = from_stop r in let e = length-append w rest in omega arith

-- and what is no token
pub stopped_place : {b : List ℕ} {p : ℕ} → Stops 0 b p → p ≤ length b
stopped_place s = let h = from_stop s in omega arith

-- the place of the token k, or the end
pub token_place : (n : ℕ) (ts : List Token) (k : ℕ) → Each (By n) ts → place_of n ts k ≤ n
unfolding place_of
token_place n [] k h = omega arith
token_place n (x ∷ ts) zero h = h.0
token_place n (x ∷ ts) (suc k) h = token_place n ts k h.1
