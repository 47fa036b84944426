-- Document 01's examples on tokens. Assumes nothing.
use mathlib.Core.Path.{◌≡◌, refl}
use mathlib.Core.List.{List, [], ◌∷◌, ◌++◌}
use Prim.Native.Nat.{ℕ, zero, suc}
use Rattle.spec_grammar.specs.Token.{Token}
use Rattle.base_codes.specs.Token.{NAME, NUMBER, LP, RP, SEMI, COLON, COMMA, BECOMES, PLUS, MINUS, EQ, AND, OR, NOT, MOD}
use Rattle.base_codes.specs.Token.{ENTITY, IS, PORT, END, ARCHITECTURE, OF, BEGIN, PROCESS, IN, VARIABLE, NULL, IF, THEN, STD_LOGIC, INTEGER}
use Rattle.spec_grammar.specs.Grammar.{text_production, productions}
use Rattle.spec_grammar.specs.Tree.{Text, Expr, name, sign, negate, binary, parens, assign, only, without, input}
use Rattle.spec_grammar.specs.Meter.{tick, over}
use Rattle.spec_grammar.specs.Reader.{nullable, first, follow, elem, nullables, firsts, chosen, pick, compose, on_skip, shift, through, by_rule, enter}
use Rattle.spec_grammar.specs.Reader.{advance, at_end, keep, after, run, read_text}
use Rattle.spec_grammar.specs.Acceptance.{Answer, accepted, no_sentence, past_limit}
use Rattle.spec_grammar.specs.Reader.{placed, answer}

-- opens all that an answer computes by
unfoldable computed : List Token → Answer
unfolding answer placed read_text run after keep at_end advance enter by_rule through shift on_skip compose pick chosen firsts nullables elem follow first nullable
    productions text_production tick over
computed ts = answer ts

abbrev t : ℕ → Token
t k = record { kind = k; value = 0; size = 1; place = 0 }

abbrev n : ℕ → Token
n i = record { kind = NAME; value = i; size = 1; place = 0 }

abbrev int : ℕ → Token
int i = record { kind = NUMBER; value = i; size = 1; place = 0 }

-- entity e is port ( clk : in std_logic ) ; end e ; architecture a of e is begin process VARS begin .. (25 tokens up to a body without variables)
abbrev opening : List Token
opening =
    t ENTITY ∷ n 1 ∷ t IS ∷ t PORT ∷ t LP ∷ n 2 ∷ t COLON ∷ t IN ∷ t STD_LOGIC ∷ t RP ∷ t SEMI ∷ t END ∷ n 1 ∷ t SEMI ∷
    t ARCHITECTURE ∷ n 3 ∷ t OF ∷ n 1 ∷ t IS ∷ t BEGIN ∷ t PROCESS ∷ []

abbrev closing : List Token
closing = t END ∷ t PROCESS ∷ t SEMI ∷ t END ∷ n 3 ∷ t SEMI ∷ []

abbrev assigned : List Token → List Token
assigned e = opening ++ (t BEGIN ∷ n 5 ∷ t BECOMES ∷ e ++ (t SEMI ∷ closing))

abbrev in_parens : ℕ → List Token → List Token
in_parens zero l = l
in_parens (suc k) l = t LP ∷ (in_parens k l ++ (t RP ∷ []))

abbrev sums : ℕ → List Token
sums zero = n 6 ∷ []
sums (suc k) = n 6 ∷ t PLUS ∷ sums k

-- P5: a and b or c gets 3 at or (token 27)
p5 : answer (assigned (n 6 ∷ t AND ∷ n 7 ∷ t OR ∷ n 8 ∷ [])) ≡ no_sentence 27
unfolding computed
p5 = refl

-- a and b and c or d too
p5' : answer (assigned (n 6 ∷ t AND ∷ n 7 ∷ t AND ∷ n 9 ∷ t OR ∷ n 8 ∷ [])) ≡ no_sentence 29
unfolding computed
p5' = refl

-- P6: s - -1 gets 3 at the second -
p6 : answer (assigned (n 6 ∷ t MINUS ∷ t MINUS ∷ int 1 ∷ [])) ≡ no_sentence 26
unfolding computed
p6 = refl

-- not on a primary: not not a gets 3 at the second not
not_not : answer (assigned (t NOT ∷ t NOT ∷ n 6 ∷ [])) ≡ no_sentence 25
unfolding computed
not_not = refl

-- one of = /= < <= > >=: a = b = c gets 3 at the second =
two_equals : answer (assigned (n 6 ∷ t EQ ∷ n 7 ∷ t EQ ∷ n 8 ∷ [])) ≡ no_sentence 27
unfolding computed
two_equals = refl

-- the end of the text is missing: 3 at the count of the tokens
short : answer opening ≡ no_sentence 21
unfolding computed
short = refl

abbrev text_with : Expr → Text
text_with e = record {
  entity = n 1;
  ports = record { names = n 2 ∷ []; mode = input; type = t STD_LOGIC; init = without } ∷ [];
  end_of_entity = n 1;
  arch = n 3;
  of_arch = n 1;
  process = t PROCESS;
  vars = [];
  body = only (assign (n 5) e);
  end_of_arch = n 3;
}

-- P7: not a = b is (not a) = b
p7 : answer (assigned (t NOT ∷ n 6 ∷ t EQ ∷ n 7 ∷ [])) ≡ accepted (text_with (binary (t EQ) (negate (t NOT) (name (n 6))) (name (n 7))))
unfolding computed
p7 = refl

-- - a - b + c is ((- a) - b) + c
signs : answer (assigned (t MINUS ∷ n 6 ∷ t MINUS ∷ n 7 ∷ t PLUS ∷ n 8 ∷ [])) ≡ accepted
    (text_with (binary (t PLUS) (binary (t MINUS) (sign (t MINUS) (name (n 6))) (name (n 7))) (name (n 8))))
unfolding computed
signs = refl

-- "a sign covers the whole first term": - a mod b is - (a mod b)
sign_of_a_term : answer (assigned (t MINUS ∷ n 6 ∷ t MOD ∷ n 7 ∷ [])) ≡ accepted (text_with (sign (t MINUS) (binary (t MOD) (name (n 6)) (name (n 7)))))
unfolding computed
sign_of_a_term = refl

-- P9: initial -2147483648 gets 4 at the number
p9 : answer (opening ++ (t VARIABLE ∷ n 5 ∷ t COLON ∷ t INTEGER ∷ t BECOMES ∷ t MINUS ∷ int 2147483648 ∷ t SEMI ∷ [])) ≡ past_limit 27
unfolding computed
p9 = refl

-- 16 parentheses; the 17th gets 4
abbrev grouped : ℕ → Expr → Expr
grouped zero e = e
grouped (suc k) e = parens (grouped k e)

p16 : answer (assigned (in_parens 16 (n 6 ∷ []))) ≡ accepted (text_with (grouped 16 (name (n 6))))
unfolding computed
p16 = refl

p17 : answer (assigned (in_parens 17 (n 6 ∷ []))) ≡ past_limit 40
unfolding computed
p17 = refl

-- 33 names and 32 + are 65 items: the 65th gets 4 (24 tokens stand before the first)
items : answer (assigned (sums 32)) ≡ past_limit 88
unfolding computed
items = refl

-- a null in 15 ifs has depth 16; in 16 it has depth 17 and gets 4 there (22 tokens, and 3 for each if, stand before it)
abbrev ifs : ℕ → List Token
ifs zero = t NULL ∷ t SEMI ∷ []
ifs (suc k) = t IF ∷ n 6 ∷ t THEN ∷ (ifs k ++ (t END ∷ t IF ∷ t SEMI ∷ []))

abbrev is_accepted_lem : Answer → ℕ
is_accepted_lem (accepted v) = 1
is_accepted_lem (no_sentence k) = 0
is_accepted_lem (past_limit k) = 0

depth_16 : is_accepted_lem (answer (opening ++ (t BEGIN ∷ ifs 15 ++ closing))) ≡ 1
unfolding computed
depth_16 = refl

depth_17 : answer (opening ++ (t BEGIN ∷ ifs 16 ++ closing)) ≡ past_limit 70
unfolding computed
depth_17 = refl

-- 18 names in one group get 4 at its `in`; an entity name of 33 bytes gets 4
abbrev commas : ℕ → List Token
commas zero = n 2 ∷ t COLON ∷ t IN ∷ t INTEGER ∷ []
commas (suc k) = n 2 ∷ t COMMA ∷ commas k

inputs_18 : answer (t ENTITY ∷ n 1 ∷ t IS ∷ t PORT ∷ t LP ∷ commas 17) ≡ past_limit 41
unfolding computed
inputs_18 = refl

long_name : answer (t ENTITY ∷ record { kind = NAME; value = 1; size = 33; place = 7 } ∷ []) ≡ past_limit 1
unfolding computed
long_name = refl

-- `entity 5` gets 3 at the 5
entity_5 : answer (t ENTITY ∷ int 5 ∷ []) ≡ no_sentence 1
unfolding computed
entity_5 = refl
