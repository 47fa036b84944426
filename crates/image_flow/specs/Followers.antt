-- Followers by position: what one pass over the statements, in text order, stores as each one's next and other. Assumes nothing.
use Rattle.std.specs.Prelude.{◌≡◌, cond, List, map, ℕ, zero, suc, ◌+◌, ◌≤◌, length, get_or, set, ℤ, eqb}
use Rattle.std.proofs.lemmas.List.Edits.{sets}
use Rattle.base_codes.specs.Statement as S
use Rattle.spec_design.specs.Statement.{Stmt, size}
use Rattle.base_ir.specs.Entries.{Block}
use Rattle.base_ir.specs.Arrays.{Row, row_in, At}
use Rattle.image_flow.specs.declared.followers.Links.{Links}
use Rattle.spec_format.specs.Lines.{Line, waits, acts, branches, lines_of, next}

-- two arrays, a number of each for every statement
abbrev pub links : List ℕ → List ℕ → Links
links a b = record { next = a; other = b }

-- both numbers of statement j stored
abbrev pub link : Links → ℕ → ℕ → ℕ → Links
link x j a b = links (set x.next j a) (set x.other j b)

-- the line that follows statement j: the next of its block or, behind the last, what follows the block
abbrev pub follower_of : Row → ℕ → Links → ℕ
follower_of r j x = cond (eqb r.end (get_or x.next j 0)) (get_or x.other j 0) r.end

-- the statements of the block behind statement j, if there are any, are followed by what follows the block
unfoldable pub rested : Row → ℕ → Links → Links
rested r j x = cond (eqb r.end (get_or x.next j 0)) x (link x r.end (get_or x.next j 0) (get_or x.other j 0))

-- both of statement j: what is announced, and the line that follows it
abbrev pub Announced : Row → ℕ → Links → Links → ℕ → Type 0
Announced r j before after f = (after ≡ rested r j before) × (f ≡ follower_of r j before)

-- a branch at statement j: next is its block, which ends before the line e where a follows; other is the line g
abbrev pub branched : ℕ → ℕ → ℕ → ℕ → Links → Links
branched j e a g x = link (link x (j + 1) e a) j (j + 1) g

-- an if whose second part begins at the line o and which ends before the line e, where f follows: "a branch takes next if true, other if false"
abbrev pub if_links : ℕ → ℕ → ℕ → ℕ → Links → Links
if_links o e j f x = cond (eqb o e) (branched j e f f x) (link (branched j o f o x) o e f)

-- statement j, which the line f follows, and the blocks in it: "from the end of a loop body the condition follows"
unfoldable pub opened : Row → ℕ → ℕ → Links → Links
opened r j f x =
    cond (eqb r.kind S.IF) (if_links r.other r.end j f x) (cond (eqb r.kind S.WHILE) (branched j r.end j f x) (link x j f 0))

-- one statement
unfoldable pub step_at : List ℕ → ℕ → Links → Links
step_at rows j x = opened (row_in rows j) j (follower_of (row_in rows j) j x) (rested (row_in rows j) j x)

-- the statements from j on, c of them
unfoldable pub followed : List ℕ → ℕ → ℕ → Links → Links
followed rows j zero x = x
followed rows j (suc c) x = followed rows (j + 1) c (step_at rows j x)

-- "a branch takes .. other if false"; "Unused fields are 0"
abbrev pub other_of : Line → ℕ
other_of (waits f) = 0
other_of (acts a f) = 0
other_of (branches e f g) = g

-- the followers of lines stand in the arrays from j on, and all else is as it was
abbrev pub stored : ℕ → List Line → Links → Links
stored j ls x = links (sets x.next j (map next ls)) (sets x.other j (map other_of ls))

-- of every body of n statements that the rows hold, next and other of its lines are stored, and all else is as it was
abbrev pub Followed : List ℕ → ℕ → Links → Links → Type 0
Followed rows n before after =
    (codes : List ℕ) (args : List ℤ) (s : Stmt) → Block s → At codes args rows s 0 0 → size s ≡ n → n ≤ length before.next → n ≤ length before.other
    → after ≡ stored 0 (lines_of s) before
