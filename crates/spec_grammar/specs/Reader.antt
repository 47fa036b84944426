-- The executable reader, LL(1): at each token it goes by the token's kind alone, and takes the production that can begin with it, down to the token.
-- Not to be believed: proofs/Exact.antt shows that it answers what Acceptance.antt says. Assumes nothing.
use Rattle.std.specs.Prelude.{Bool, true, false, ◌&&◌, ◌||◌, List, [], ◌∷◌, ◌++◌, ℕ, zero, suc, ◌-◌, eqb, length}
use Rattle.spec_grammar.specs.Token.{Token}
use Rattle.base_codes.specs.Token.{NAME, NUMBER, ZERO, ONE, LP, RP, SEMI, COLON, COMMA, BECOMES, MINUS, LE, AND, OR, XOR, NOT, adding, multiplying, relational}
use Rattle.base_codes.specs.Token.{ENTITY, END, BEGIN, IN, OUT, VARIABLE, NULL, WAIT, IF, THEN, ELSE, WHILE, LOOP, STD_LOGIC, INTEGER}
use Rattle.spec_grammar.specs.Grammar.{NonTerminal, text, ports, more_ports, port, names, more_names, mode, type, init, value, vars, body, more, statement, target, else_part}
use Rattle.spec_grammar.specs.Grammar.{expression, chain, ands, ors, xors, relation, compared, simple, terms, term, factors, factor, primary, Says, Mark, Sym, tk, nt, Fun, Production, productions, text_production}
use Rattle.spec_grammar.specs.Tree.{Text}
use Rattle.spec_grammar.specs.Meter.{Meter, zeroes, tick, over}
use Rattle.spec_grammar.specs.Acceptance.{Answer, accepted, no_sentence, past_limit}

-- a nonterminal may be empty
unfoldable pub nullable : NonTerminal → Bool
nullable text = false
nullable ports = false
nullable more_ports = true
nullable port = false
nullable names = false
nullable more_names = true
nullable mode = false
nullable type = false
nullable init = true
nullable value = false
nullable vars = true
nullable body = false
nullable more = true
nullable statement = false
nullable target = false
nullable else_part = true
nullable expression = false
nullable chain = true
nullable ands = true
nullable ors = true
nullable xors = true
nullable relation = false
nullable compared = true
nullable simple = false
nullable terms = true
nullable term = false
nullable factors = true
nullable factor = false
nullable primary = false

-- the kinds that a nonterminal can begin with
abbrev starts : List ℕ
starts = NAME ∷ NULL ∷ WAIT ∷ IF ∷ WHILE ∷ []

abbrev primaries : List ℕ
primaries = NUMBER ∷ ZERO ∷ ONE ∷ NAME ∷ LP ∷ []

unfoldable pub first : NonTerminal → List ℕ
first text = ENTITY ∷ []
first ports = NAME ∷ []
first more_ports = SEMI ∷ []
first port = NAME ∷ []
first names = NAME ∷ []
first more_names = COMMA ∷ []
first mode = IN ∷ OUT ∷ []
first type = STD_LOGIC ∷ INTEGER ∷ []
first init = BECOMES ∷ []
first value = NUMBER ∷ MINUS ∷ ZERO ∷ ONE ∷ []
first vars = VARIABLE ∷ []
first body = starts
first more = starts
first statement = starts
first target = LE ∷ BECOMES ∷ []
first else_part = ELSE ∷ []
first expression = MINUS ∷ NOT ∷ primaries
first chain = AND ∷ OR ∷ XOR ∷ []
first ands = AND ∷ []
first ors = OR ∷ []
first xors = XOR ∷ []
first relation = MINUS ∷ NOT ∷ primaries
first compared = relational
first simple = MINUS ∷ NOT ∷ primaries
first terms = adding
first term = NOT ∷ primaries
first factors = multiplying
first factor = NOT ∷ primaries
first primary = primaries

-- the kinds that can come after it
abbrev after_e : List ℕ
after_e = THEN ∷ LOOP ∷ SEMI ∷ RP ∷ []

abbrev after_r : List ℕ
after_r = AND ∷ OR ∷ XOR ∷ after_e

abbrev after_s : List ℕ
after_s = relational ++ after_r

abbrev after_t : List ℕ
after_t = adding ++ after_s

unfoldable pub follow : NonTerminal → List ℕ
follow text = []
follow ports = RP ∷ []
follow more_ports = RP ∷ []
follow port = SEMI ∷ RP ∷ []
follow names = COLON ∷ []
follow more_names = COLON ∷ []
follow mode = STD_LOGIC ∷ INTEGER ∷ []
follow type = BECOMES ∷ SEMI ∷ RP ∷ []
follow init = SEMI ∷ RP ∷ []
follow value = SEMI ∷ RP ∷ []
follow vars = BEGIN ∷ []
follow body = END ∷ ELSE ∷ []
follow more = END ∷ ELSE ∷ []
follow statement = END ∷ ELSE ∷ starts
follow target = END ∷ ELSE ∷ starts
follow else_part = END ∷ []
follow expression = after_e
follow chain = after_e
follow ands = after_e
follow ors = after_e
follow xors = after_e
follow relation = after_r
follow compared = after_r
follow simple = after_s
follow terms = after_s
follow term = after_t
follow factors = after_t
follow factor = multiplying ++ after_t
follow primary = multiplying ++ after_t

-- how many productions deep a nonterminal can go before its first token
unfoldable pub rank : NonTerminal → ℕ
rank text = 0
rank ports = 2
rank more_ports = 0
rank port = 1
rank names = 0
rank more_names = 0
rank mode = 0
rank type = 0
rank init = 0
rank value = 0
rank vars = 0
rank body = 1
rank more = 1
rank statement = 0
rank target = 0
rank else_part = 0
rank expression = 5
rank chain = 0
rank ands = 0
rank ors = 0
rank xors = 0
rank relation = 4
rank compared = 0
rank simple = 3
rank terms = 0
rank term = 2
rank factors = 0
rank factor = 1
rank primary = 0

abbrev pub choose {ℓ} : {A : Type ℓ} → Bool → A → A → A
choose true a b = a
choose false a b = b

-- k is one of the list
unfoldable pub elem : ℕ → List ℕ → Bool
elem k [] = false
elem k (j ∷ js) = eqb k j || elem k js

-- the same of a list of symbols
unfoldable pub nullables : List Sym → Bool
nullables [] = true
nullables (tk m k ∷ γ) = false
nullables (nt M ∷ γ) = nullable M && nullables γ

unfoldable pub firsts : List Sym → List ℕ
firsts [] = []
firsts (tk m k ∷ γ) = k ∷ []
firsts (nt M ∷ γ) = first M ++ choose (nullable M) (firsts γ) []

-- the kinds at which a production is taken: those that it can begin with; where it may be empty, those that can come after its nonterminal
unfoldable pub chosen : {M : NonTerminal} → Production M → List ℕ
chosen {M} r = firsts r.rhs ++ choose (nullables r.rhs) (follow M) []

pub data Pick (M : NonTerminal) : Type 0 where
  take : Production M → Pick M
  no_rule : Pick M

unfoldable pub pick : {M : NonTerminal} → List (Production M) → ℕ → Pick M
pick [] k = no_rule
pick (r ∷ rs) k = choose (elem k (chosen r)) (take r) (pick rs k)

-- What is still to come is a list of symbols γ, and a function κ that makes the whole, a nonterminal S, of what they will say.
-- What a token does to it: nothing fits; some symbols were empty, and γ is left; or it is taken, with a mark, and this is left.
pub data Step (S : NonTerminal) (γ : List Sym) : Type 0 where
  stuck : Step S γ
  skip : Fun γ (Says S) → Step S γ
  to : Mark → (δ : List Sym) → Fun δ (Says S) → Step S γ

unfoldable pub compose : (M S : NonTerminal) (γ δ : List Sym) → Fun γ (Says M) → (Says M → Fun δ (Says S)) → Fun (γ ++ δ) (Says S)
compose M S [] δ f κ = κ f
compose M S (tk m k ∷ γ) δ f κ = λ v. compose M S γ δ (f v) κ
compose M S (nt A ∷ γ) δ f κ = λ v. compose M S γ δ (f v) κ

unfoldable pub on_skip : {S : NonTerminal} {γ δ : List Sym} → Step S γ → (Fun γ (Says S) → Step S δ) → Step S δ
on_skip stuck f = stuck
on_skip (skip κ) f = f κ
on_skip (to m δ κ) f = to m δ κ

unfoldable pub shift : (S : NonTerminal) (γ : List Sym) (m : Mark) (δ : List Sym) → Bool → Fun δ (Says S) → Step S γ
shift S γ m δ true κ = to m δ κ
shift S γ m δ false κ = stuck

-- the symbols δ, with γ after them; rec says what x does to a nonterminal
unfoldable pub through : (S : NonTerminal) (x : Token) (rec : (M : NonTerminal) (γ : List Sym) → (Says M → Fun γ (Says S)) → Step S γ) (δ γ : List Sym)
    → Fun (δ ++ γ) (Says S) → Step S γ
through S x rec [] γ κ = skip κ
through S x rec (tk m k ∷ δ) γ κ = shift S γ m (δ ++ γ) (eqb x.kind k) (κ x)
through S x rec (nt M ∷ δ) γ κ = on_skip (rec M (δ ++ γ) κ) (λ κ'. through S x rec δ γ κ')

unfoldable pub by_rule : (S : NonTerminal) (x : Token) (rec : (M : NonTerminal) (γ : List Sym) → (Says M → Fun γ (Says S)) → Step S γ) (M : NonTerminal)
    (γ : List Sym) → (Says M → Fun γ (Says S)) → Pick M → Step S γ
by_rule S x rec M γ κ (take r) = through S x rec r.rhs γ (compose M S r.rhs γ r.says κ)
by_rule S x rec M γ κ no_rule = stuck

-- the nonterminal M, with γ after it, as deep as the number says
unfoldable pub enter : ℕ → (S : NonTerminal) (x : Token) (M : NonTerminal) (γ : List Sym) → (Says M → Fun γ (Says S)) → Step S γ
enter zero S x M γ κ = stuck
enter (suc f) S x M γ κ = by_rule S x (enter f S x) M γ κ (pick (productions M) x.kind)

unfoldable pub advance : (S : NonTerminal) (x : Token) (γ : List Sym) → Fun γ (Says S) → Step S []
advance S x [] κ = skip κ
advance S x (s ∷ γ) κ = on_skip (through S x (enter 8 S x) (s ∷ []) γ κ) (λ κ'. advance S x γ κ')

-- The whole read; or what was left when it was refused: as no text (3), or at a limit (4).
pub data Outcome (A : Type 0) : Type 0 where
  read : A → Outcome A
  refused : List Token → Outcome A
  limited : List Token → Outcome A

unfoldable pub at_end : (S : NonTerminal) (γ : List Sym) → Fun γ (Says S) → Outcome (Says S)
at_end S [] κ = read κ
at_end S (s ∷ γ) κ = refused []

-- a token that is taken must keep the limits
unfoldable pub keep : {A : Type 0} → List Token → Bool → Outcome A → Outcome A
keep ts true o = limited ts
keep ts false o = o

unfoldable pub after : {S : NonTerminal} → (Meter → Bool) → Meter → Token → List Token → Step S []
    → (Meter → (γ : List Sym) → Fun γ (Says S) → Outcome (Says S)) → Outcome (Says S)
after lim c x ts stuck f = refused (x ∷ ts)
after lim c x ts (skip κ) f = refused (x ∷ ts)
after lim c x ts (to m γ κ) f = keep (x ∷ ts) (lim (tick c m x)) (f (tick c m x) γ κ)

-- lim says when the counts are past a limit
unfoldable pub run : (Meter → Bool) → List Token → (S : NonTerminal) → Meter → (γ : List Sym) → Fun γ (Says S) → Outcome (Says S)
run lim [] S c γ κ = at_end S γ κ
run lim (x ∷ ts) S c γ κ = after lim c x ts (advance S x γ κ) (run lim ts S)

-- a whole text
unfoldable pub read_text : (Meter → Bool) → List Token → Outcome Text
read_text lim ts = run lim ts text zeroes text_production.rhs text_production.says

-- The reader's answer for a list of tokens: its tree, or the refusal with the index of its token.
unfoldable pub placed : List Token → Outcome Text → Answer
placed ts (read v) = accepted v
placed ts (refused rest) = no_sentence (length ts - length rest)
placed ts (limited rest) = past_limit (length ts - length rest)

unfoldable pub answer : List Token → Answer
answer ts = placed ts (read_text over ts)
