-- Where a block is resumed: at a wait of its own, or in the part of a statement that has the wait (document 01, "Classes and cycles"). Assumes nothing.
use Rattle.std.specs.Prelude.{◌≡◌, true, List, ℕ, ◌≤◌, ◌<◌, ℤ}
use Rattle.std.proofs.Math.Option.{Option}
use Rattle.base_codes.specs.Limit as L
use Rattle.spec_design.specs.Statement.{Stmt, has}
use Rattle.spec_semantics.specs.Equations.{Run, then, resume}
use Rattle.base_ir.specs.Entries.{Block}
use Rattle.direct_statements.specs.Holding.{HeldIn, HeldRest, start_rest}
use Rattle.direct_statements.specs.declared.Inside.{Inside}
use Rattle.direct_statements.specs.declared.Inside.TheVariants.{Nothing, Wait, Part}

-- the rows that are told lie in first .. end, and a part is smaller than the whole
abbrev pub inside_rows : ℕ → ℕ → Inside → Type 0
inside_rows first end Nothing = Unit {0}
inside_rows first end (Wait x) = (first ≤ x) × (x ≤ end)
inside_rows first end (Part a b x) = (first < a) × (a ≤ b) × (b ≤ end) × (first ≤ x) × (x ≤ end) × (end ≤ L.STATEMENTS)

module _ (codes : List ℕ) (args : List ℤ) (rows : List ℕ) (s : Stmt) (first e p : ℕ) where
  -- "A wait is .. passed when resumed.": what comes after it stands from row x on
  pub record Waited (x : ℕ) : Type 0 where
    pub rest : Option Stmt
    pub after : HeldRest codes args rows rest x e
    pub same : (i : List ℤ) (σ : Run) → resume s first p i σ ≡ start_rest rest x i σ

  -- the part that has the wait is in the rows a .. b, and what comes after it stands from row x on
  pub record Within (a b x : ℕ) : Type 0 where
    pub block : Stmt
    pub held : HeldIn codes args rows block a b
    pub is_block : Block block
    pub waits : has block a p ≡ true
    pub rest : Option Stmt
    pub after : HeldRest codes args rows rest x e
    pub same : (i : List ℤ) (σ : Run) → resume s first p i σ ≡ then (resume block a p i σ) (λ τ. start_rest rest x i τ)

  abbrev pub resumes_in : Inside → Type 0
  resumes_in Nothing = ⊥
  resumes_in (Wait x) = Waited x
  resumes_in (Part a b x) = Within a b x

-- every block that the arrays hold in the rows first .. e is resumed at its wait p as r says
abbrev pub ResumesAt : List ℕ → ℕ → ℕ → ℕ → Inside → Type 0
ResumesAt rows first e p r =
    (codes : List ℕ) (args : List ℤ) (s : Stmt) → HeldIn codes args rows s first e → Block s → has s first p ≡ true → resumes_in codes args rows s first e p r
