-- A row of the statements judged from its numbers. Assumes nothing.
use mathlib.Core.Path.{◌≡◌, sym, ap, ◌∙◌}
use mathlib.Core.Bool.{Bool}
use mathlib.Core.List.{List}
use Prim.Native.Nat.{ℕ, ◌+◌, ◌*◌, ◌≤◌, ◌<◌}
use native.Mathlib.Omega.{arith}
use Rattle.std.specs.Prelude.{Option, None}
use borrow.Author.Tests.{le-leb, lt-leb}
use lib.ListN.{get_or}
use Rattle.spec_language.specs.Lists.{unless}
use Rattle.front_layout.specs.Rows.{row}
use Rattle.front_offences.specs.Lowest.{lowest_of, lower}
use Rattle.front_typing.specs.Operators.{fits_code}
use Rattle.base_codes.specs.Stack.{stack_of}
use Rattle.front_typing.specs.Expressions.{Sources, Work, name_at, place_at, expr_work, top_of, Says, JudgedBy}
use Rattle.front_typing.specs.Positions.{wanted_code, row_code, statement_at}
use Rattle.front_typing.specs.declared.Progress.{Progress}
use Rattle.front_typing.specs.declared.Judged.{Judged}

-- the answer for an expression, from what its items say
pub judged_whole : (a : List ℕ) (r : Progress) (w : Work) (u : ℕ) → Says a r w → u ≡ top_of (stack_of 0 a r.depth)
    → JudgedBy (record { code = u; lowest = r.lowest }) w
judged_whole a r w u h e = record { code = e ∙ ap (λ (x : Work). top_of x.stack) h.says; lowest = ap (λ (x : Work). x.lowest) h.says }

row_judged : (A : Sources) (k i f t o q u p : ℕ) (w r : Option ℕ) (e : Judged) (b : Bool) → t ≤ 16384 → JudgedBy e (expr_work A f t)
    → u ≡ wanted_code k (name_at A i) → b ≡ fits_code u e.code → p ≡ place_at A i
    → w ≡ lowest_of (unless b p) → r ≡ lower e.lowest w → r ≡ row_code A (row k i f t o q)
row_judged A k i f t o q u p w r e b h j eu eb ep ew er = rw (le-leb t 16384 h) (er ∙ rw (ew, eb, ep, eu, j.code, j.lowest))

-- the numbers of row j
pub statement_judged : (A : Sources) (rows : List ℕ) (j k i f t u p : ℕ) (w r : Option ℕ) (e : Judged) (b : Bool)
    → k ≡ get_or rows (6 * j + 0) 0 → i ≡ get_or rows (6 * j + 1) 0 → f ≡ get_or rows (6 * j + 2) 0 → t ≡ get_or rows (6 * j + 3) 0
    → t ≤ 16384 → JudgedBy e (expr_work A f t)
    → u ≡ wanted_code k (name_at A i) → b ≡ fits_code u e.code → p ≡ place_at A i
    → w ≡ lowest_of (unless b p) → r ≡ lower e.lowest w → r ≡ statement_at A rows j
unfolding statement_at
statement_judged A rows j k i f t u p w r e b ek ei ef et h g eu eb ep ew er =
    let z : 6 * j ≡ 6 * j + 0 = omega arith in
    row_judged A k i f t (get_or rows (6 * j + 4) 0) (get_or rows (6 * j + 5) 0) u p w r e b h g eu eb ep ew er
    ∙ rw (ek ∙ ap (λ (x : ℕ). get_or rows x 0) (sym z), ei, ef, et)

pub statement_outside : (A : Sources) (rows : List ℕ) (j t : ℕ) → t ≡ get_or rows (6 * j + 3) 0 → 16384 < t → None ≡ statement_at A rows j
unfolding statement_at
statement_outside A rows j t e h = rw (lt-leb (get_or rows (6 * j + 3) 0) 16384 (rw e at h))
