-- What a reader of a part of an expression answers and writes, against the grammar's reader: whatever comes after the part, the grammar's reader goes on
-- where the reader left off, with the part's tree; and the items written are the postfix of that tree. Assumes nothing.
use Rattle.std.specs.Prelude.{◌≡◌, true, List, ◌∷◌, ◌++◌, ℕ, ◌<◌}
use Rattle.base_codes.specs.Token.{one_of, adding, multiplying, AND, OR, XOR}
use Rattle.spec_grammar.specs.Token.{Token}
use Rattle.spec_grammar.specs.Tree.{Expr}
use Rattle.spec_grammar.specs.Grammar.{NonTerminal, expression, ands, ors, xors, simple, terms, term, factors, Says, Sym, nt, Fun}
use Rattle.spec_grammar.specs.Meter.{InHeading}
use Rattle.spec_grammar.proofs.Steps.{Ok}
use Rattle.front_layout.specs.Tokens.{Holds}
use Rattle.front_cursor.specs.Reading.{Read, from, Fine, Moves}
use Rattle.front_layout.specs.Postfix.{Item, postfix}
use Rattle.front_layout.specs.Items.{Arrays, Wrote}

-- from q to r the reader has read an M with a value, and written its items behind those before
pub record Reads (M : NonTerminal) (flat : Says M → List Item) (ts : List Token) (d : ℕ) (q r : Read) (before after : Arrays) : Type 0 where
  pub value : Says M
  pub goes : (S : NonTerminal) (s l : ℕ) (h : InHeading) → Fine s h → (γ : List Sym) (κ : Says M → Fun γ (Says S)) → Ok (nt M ∷ γ)
      → from ts S s l h q d (nt M ∷ γ) κ ≡ from ts S s l h r d γ (κ value)
  pub wrote : r.fault ≡ 0 → Wrote ts q.written r.written before after (flat value)

-- the lists of operands: a sum, a product, and a chain of each of the three operators
pub data Tail : Type 0 where
  sum product and_chain or_chain xor_chain : Tail

-- what the list is a part of; what comes of it after an operand
abbrev pub whole_of : Tail → NonTerminal
whole_of sum = simple
whole_of product = term
whole_of and_chain = expression
whole_of or_chain = expression
whole_of xor_chain = expression

abbrev pub tail_of : Tail → NonTerminal
tail_of sum = terms
tail_of product = factors
tail_of and_chain = ands
tail_of or_chain = ors
tail_of xor_chain = xors

-- the rest of the text as a function of the whole list's tree; of what comes after the operands read so far, whose tree is a
abbrev pub of_whole : (t : Tail) (S : NonTerminal) (γ : List Sym) → (Expr → Fun γ (Says S)) → Says (whole_of t) → Fun γ (Says S)
of_whole sum S γ κ = κ
of_whole product S γ κ = κ
of_whole and_chain S γ κ = κ
of_whole or_chain S γ κ = κ
of_whole xor_chain S γ κ = κ

abbrev pub of_tail : (t : Tail) (S : NonTerminal) (γ : List Sym) → (Expr → Fun γ (Says S)) → Expr → Says (tail_of t) → Fun γ (Says S)
of_tail sum S γ κ a f = κ (f a)
of_tail product S γ κ a f = κ (f a)
of_tail and_chain S γ κ a f = κ (f a)
of_tail or_chain S γ κ a f = κ (f a)
of_tail xor_chain S γ κ a f = κ (f a)

-- the kinds of a list's operators
abbrev pub operator_of : Tail → ℕ → Type 0
operator_of sum k = one_of k adding ≡ true
operator_of product k = one_of k multiplying ≡ true
operator_of and_chain k = k ≡ AND
operator_of or_chain k = k ≡ OR
operator_of xor_chain k = k ≡ XOR

-- from q to r the reader has read some operands of a list, whose tree so far is the value
pub record Partly (t : Tail) (ts : List Token) (d : ℕ) (q r : Read) (before after : Arrays) : Type 0 where
  pub value : Expr
  pub goes : (S : NonTerminal) (s l : ℕ) (h : InHeading) → Fine s h → (γ : List Sym) (κ : Expr → Fun γ (Says S)) → Ok (nt (whole_of t) ∷ γ)
      → from ts S s l h q d (nt (whole_of t) ∷ γ) (of_whole t S γ κ) ≡ from ts S s l h r d (nt (tail_of t) ∷ γ) (of_tail t S γ κ value)
  pub wrote : r.fault ≡ 0 → Wrote ts q.written r.written before after (postfix value)

-- from q to r the reader has read operators with their right operands: the tree so far has grown, and its items by those written
pub record Turn (t : Tail) (ts : List Token) (d : ℕ) (q r : Read) (before after : Arrays) : Type 0 where
  pub grow : Expr → Expr
  pub items : List Item
  pub grows : (a : Expr) → postfix (grow a) ≡ postfix a ++ items
  pub goes : (a : Expr) (S : NonTerminal) (s l : ℕ) (h : InHeading) → Fine s h → (γ : List Sym) (κ : Expr → Fun γ (Says S)) → Ok (nt (tail_of t) ∷ γ)
      → from ts S s l h q d (nt (tail_of t) ∷ γ) (of_tail t S γ κ a) ≡ from ts S s l h r d (nt (tail_of t) ∷ γ) (of_tail t S γ κ (grow a))
  pub wrote : r.fault ≡ 0 → Wrote ts q.written r.written before after items

-- The contracts, over the arrays kinds and long of n tokens.
pub record ReadsOver (M : NonTerminal) (flat : Says M → List Item) (kinds long : List ℕ) (n : ℕ) (q : Read) (d : ℕ) (before : Arrays) (r : Read)
    (after : Arrays) : Type 0 where
  pub moves : Moves n q r
  pub reads : (ts : List Token) → Holds ts kinds long n → Reads M flat ts d q r before after

pub record PartlyOver (t : Tail) (kinds long : List ℕ) (n : ℕ) (q : Read) (d : ℕ) (before : Arrays) (r : Read) (after : Arrays) : Type 0 where
  pub moves : Moves n q r
  pub reads : (ts : List Token) → Holds ts kinds long n → Partly t ts d q r before after

pub record TurnOver (t : Tail) (kinds long : List ℕ) (n : ℕ) (q : Read) (d : ℕ) (before : Arrays) (r : Read) (after : Arrays) : Type 0 where
  pub moves : Moves n q r
  pub reads : (ts : List Token) → Holds ts kinds long n → Turn t ts d q r before after

-- one turn, by which the reader gets further
pub record OneTurn (t : Tail) (kinds long : List ℕ) (n : ℕ) (q : Read) (d : ℕ) (before : Arrays) (r : Read) (after : Arrays) : Type 0 where
  pub turn : TurnOver t kinds long n q d before r after
  pub further : r.fault ≡ 0 → q.at < r.at
