-- Which production of a part of the heading the reader takes at a token, by the grammar's tables. Assumes nothing.
use mathlib.Core.Path.{◌≡◌}
use mathlib.Core.Logic.{◌⊎◌}
use mathlib.Core.List.{List, [], ◌∷◌}
use Prim.Native.Nat.{ℕ}
use borrow.Author.Tests.{ne_eqb}
use Rattle.base_codes.specs.Token.{NUMBER, ZERO, ONE, SEMI, COLON, BECOMES, MINUS, IN, OUT, VARIABLE, STD_LOGIC, INTEGER}
use Rattle.spec_grammar.specs.Tree.{integer_literal, logic_literal, minus, input, output_port, variable_mode}
use Rattle.spec_grammar.specs.Grammar.{NonTerminal, more_ports, port, names, mode, type, init, value, vars, Says, Mark, ins, outs, variables, Sym, tk, nt, tok}
use Rattle.spec_grammar.specs.Grammar.{Fun, Production, productions, ◌↠◌}
use Rattle.spec_grammar.specs.Reader.{elem, first, firsts, follow, nullable, nullables, chosen, pick, take, no_rule}

abbrev pub in_rule : Production mode
in_rule = tk ins IN ∷ [] ↠ λ _. input

abbrev pub out_rule : Production mode
out_rule = tk outs OUT ∷ [] ↠ λ _. output_port

abbrev pub logic_rule : Production type
logic_rule = tok STD_LOGIC ∷ [] ↠ λ x. x

abbrev pub integer_rule : Production type
integer_rule = tok INTEGER ∷ [] ↠ λ x. x

abbrev pub becomes_rule : Production init
becomes_rule = tok BECOMES ∷ nt value ∷ [] ↠ λ _ i. i

abbrev pub number_rule : Production value
number_rule = tok NUMBER ∷ [] ↠ λ n. integer_literal n

abbrev pub minus_rule : Production value
minus_rule = tok MINUS ∷ tok NUMBER ∷ [] ↠ λ s n. minus s n

abbrev pub zero_rule : Production value
zero_rule = tok ZERO ∷ [] ↠ λ x. logic_literal x

abbrev pub one_rule : Production value
one_rule = tok ONE ∷ [] ↠ λ x. logic_literal x

abbrev pub next_port_rule : Production more_ports
next_port_rule = tok SEMI ∷ nt port ∷ nt more_ports ∷ [] ↠ λ _ g gs. g ∷ gs

abbrev pub variable_rule : Production vars
variable_rule = tk variables VARIABLE ∷ nt names ∷ tok COLON ∷ nt type ∷ nt init ∷ tok SEMI ∷ nt vars ∷ [] ↠ λ _ ns _ t i _ vs. record
    { names = ns; mode = variable_mode; type = t; init = i } ∷ vs

-- At a token of kind j, M goes on by its production that begins with a token of kind k; or no such token is there, and M cannot begin.
abbrev pub Begins : (M : NonTerminal) (m : Mark) (k : ℕ) (δ : List Sym) → Fun (tk m k ∷ δ) (Says M) → ℕ → Type 0
Begins M m k δ f j = ((j ≡ k) × (pick (productions M) j ≡ take (tk m k ∷ δ ↠ f))) ⊎ ((j ≡ k → ⊥) × (pick (productions M) j ≡ no_rule))

pub pick_in : (k : ℕ) → k ≡ 31 → pick (productions mode) k ≡ take in_rule
unfolding pick productions chosen firsts nullables first nullable follow elem
pick_in k e = rw e

pub pick_out : (k : ℕ) → k ≡ 32 → pick (productions mode) k ≡ take out_rule
unfolding pick productions chosen firsts nullables first nullable follow elem
pick_out k e = rw e

pub no_mode : (k : ℕ) → (k ≡ 31 → ⊥) → (k ≡ 32 → ⊥) → pick (productions mode) k ≡ no_rule
unfolding pick productions chosen firsts nullables first nullable follow elem
no_mode k f g = rw (ne_eqb k 31 f, ne_eqb k 32 g)

pub pick_logic : (k : ℕ) → k ≡ 42 → pick (productions type) k ≡ take logic_rule
unfolding pick productions chosen firsts nullables first nullable follow elem
pick_logic k e = rw e

pub pick_integer : (k : ℕ) → k ≡ 43 → pick (productions type) k ≡ take integer_rule
unfolding pick productions chosen firsts nullables first nullable follow elem
pick_integer k e = rw e

pub no_type : (k : ℕ) → (k ≡ 42 → ⊥) → (k ≡ 43 → ⊥) → pick (productions type) k ≡ no_rule
unfolding pick productions chosen firsts nullables first nullable follow elem
no_type k f g = rw (ne_eqb k 42 f, ne_eqb k 43 g)

pub pick_becomes : (k : ℕ) → k ≡ 10 → pick (productions init) k ≡ take becomes_rule
unfolding pick productions chosen firsts nullables first nullable follow elem
pick_becomes k e = rw e

pub pick_number : (k : ℕ) → k ≡ 2 → pick (productions value) k ≡ take number_rule
unfolding pick productions chosen firsts nullables first nullable follow elem
pick_number k e = rw e

pub pick_minus : (k : ℕ) → k ≡ 12 → pick (productions value) k ≡ take minus_rule
unfolding pick productions chosen firsts nullables first nullable follow elem
pick_minus k e = rw e

pub pick_zero : (k : ℕ) → k ≡ 3 → pick (productions value) k ≡ take zero_rule
unfolding pick productions chosen firsts nullables first nullable follow elem
pick_zero k e = rw e

pub pick_one : (k : ℕ) → k ≡ 4 → pick (productions value) k ≡ take one_rule
unfolding pick productions chosen firsts nullables first nullable follow elem
pick_one k e = rw e

pub no_value : (k : ℕ) → (k ≡ 12 → ⊥) → (k ≡ 3 → ⊥) → (k ≡ 4 → ⊥) → (k ≡ 2 → ⊥) → pick (productions value) k ≡ no_rule
unfolding pick productions chosen firsts nullables first nullable follow elem
no_value k f g h i = rw (ne_eqb k 2 i, ne_eqb k 12 f, ne_eqb k 3 g, ne_eqb k 4 h)

pub pick_next_port : (k : ℕ) → k ≡ 7 → pick (productions more_ports) k ≡ take next_port_rule
unfolding pick productions chosen firsts nullables first nullable follow elem
pick_next_port k e = rw e

pub pick_variable : (k : ℕ) → k ≡ 33 → pick (productions vars) k ≡ take variable_rule
unfolding pick productions chosen firsts nullables first nullable follow elem
pick_variable k e = rw e
