-- Refusal 9 by position: classes and offences of the rows from one number up to another, whatever the array holds. A row says where its statement and, of an if,
-- the first part end; the numbers are brought into the range of the rows. Rows are left behind in every step, so as many steps as rows suffice. Assumes nothing.
use Rattle.std.specs.Prelude.{◌≡◌, List, Option, None, Some, ℕ, zero, suc, ◌+◌, ◌≤◌, min, max, eqb, ltb}
use Rattle.base_codes.specs.Statement as S
use Rattle.base_codes.specs.Limit as L
use Rattle.spec_grammar.specs.Reader.{choose}
use Rattle.spec_language.specs.Lists.{unless}
use Rattle.front_offences.specs.Lowest.{lowest_of, lower}
use Rattle.front_layout.specs.Arrays.{number_in}
use Rattle.front_offences.specs.declared.Shape.{Shape}
use Rattle.front_classes.specs.declared.Summary.{Summary}
use Rattle.spec_language.specs.Classes.{is_c}
use Rattle.front_classes.specs.declared.rules.Class.{Class}
use Rattle.front_classes.specs.declared.rules.Class.TheVariants.{A, C}
use Rattle.front_classes.specs.Codes.{class_of, sequence_code, if_code, while_code, body_allowed}
use Rattle.front_classes.specs.Held.{number_of}
use Rattle.std.specs.Option.{option_or}

abbrev pub summary : Option Class → Option ℕ → Summary
summary c l = record { class = c; lowest = l }

-- two parts in sequence; the parts of an if; a while at the place p with its body
abbrev pub in_sequence : Summary → Summary → Summary
in_sequence a b = summary (sequence_code a.class b.class) (lower a.lowest b.lowest)

abbrev pub of_if : Summary → Summary → Summary
of_if a b = summary (if_code a.class b.class) (lower a.lowest b.lowest)

abbrev pub of_while : ℕ → Summary → Summary
of_while p a = summary (while_code a.class) (lower (lowest_of (unless (body_allowed a.class) p)) a.lowest)

-- "null is A": no statement
abbrev pub nothing : Summary
nothing = summary (Some A) None

module _ (rows places : List ℕ) (n : ℕ) where
  -- where the statement at row `at` ends, and where the first part of an if does
  abbrev pub end_in : ℕ → ℕ → ℕ
  end_in at to = max (at + 1) (min (number_of rows at S.END) to)

  abbrev pub other_in : ℕ → ℕ → ℕ
  other_in at end = max (at + 1) (min (number_of rows at S.OTHER) end)

  -- a statement by its kind, over what is found of the rows inside it
  unfoldable pub statement_of : (ℕ → ℕ → Summary) → ℕ → ℕ → Summary
  statement_of block at end =
      choose (eqb (number_of rows at 0) S.IF) (of_if (block (at + 1) (other_in at end)) (block (other_in at end) end))
      (choose (eqb (number_of rows at 0) S.WHILE) (of_while (number_in places n (number_of rows at S.TOKEN)) (block (at + 1) end))
      (choose (eqb (number_of rows at 0) S.WAIT) (summary (Some C) None) nothing))

  -- the statements from row `at` up to another, behind what was found before, in f steps
  unfoldable pub run_in : ℕ → ℕ → ℕ → Summary → Summary
  run_in zero at to a = a
  run_in (suc f) at to a = choose (ltb at to) (run_in f (end_in at to) to (in_sequence a (statement_of (λ (x y : ℕ). run_in f x y nothing) at (end_in at to)))) a

  -- a block, and a statement with the rows inside it
  abbrev pub block_in : ℕ → ℕ → ℕ → Summary
  block_in f from to = run_in f from to nothing

  abbrev pub statement_in : ℕ → ℕ → ℕ → Summary
  statement_in f at end = statement_of (λ (x y : ℕ). run_in f x y nothing) at end

  -- what the code answers, for every number of steps that suffices
  pub record StatementIs (at end : ℕ) (r : Summary) : Type 0 where
    pub is : (f : ℕ) → end ≤ at + 1 + f → r ≡ statement_in f at end

  pub record BlockIs (from to : ℕ) (r : Summary) : Type 0 where
    pub is : (f : ℕ) → to ≤ from + f → r ≡ block_in f from to

-- "if none, process body not C"
abbrev pub whole_place_in : ℕ → Summary → Option ℕ
whole_place_in p a = option_or a.lowest (lowest_of (unless (is_c (class_of a.class)) p))

-- the lowest of all, of at most 512 statements
unfoldable pub lowest_in : List ℕ → Shape → List ℕ → Option ℕ
lowest_in starts p rows = whole_place_in (number_in starts p.tokens p.process)
    (block_in rows starts p.tokens (min p.statements L.STATEMENTS) 0 (min p.statements L.STATEMENTS))
