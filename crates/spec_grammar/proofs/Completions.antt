-- Each nonterminal has a text: one is computed. So each list of symbols has one. Assumes nothing.
use mathlib.Core.Path.{refl}
use mathlib.Core.Option.{Option, none, some}
use mathlib.Core.Bool.{Bool, true, false}
use mathlib.Core.List.{List, [], ◌∷◌}
use Prim.Native.Nat.{ℕ, zero, suc}
use lib.Dec.{T}
use Rattle.spec_grammar.specs.Grammar.{NonTerminal, text, ports, more_ports, port, names, more_names, mode, type, init, value, vars, body, more, statement}
use Rattle.spec_grammar.specs.Grammar.{target, else_part}
use Rattle.spec_grammar.specs.Grammar.{expression, chain, ands, ors, xors, relation, compared, simple, terms, term, factors, factor, primary, Sym, tk, nt}
use Rattle.spec_grammar.specs.Grammar.{Production, productions, text_production}
use Rattle.spec_grammar.specs.Derivation.{◌∈◌, here, there, Tree, by, Trees, empty, token, child}

and_also : {A B : Type 0} → Option A → (A → Option B) → Option B
and_also none f = none
and_also (some a) f = f a

try_syms : ((M : NonTerminal) → Option (Tree M)) → (γ : List Sym) → Option (Trees γ)
try_syms rec [] = some empty
try_syms rec (tk m k ∷ γ) = and_also (try_syms rec γ) (λ ds. some (token (record { kind = k; value = 0; size = 0; place = 0 }) refl ds))
try_syms rec (nt M ∷ γ) = and_also (rec M) (λ d. and_also (try_syms rec γ) (λ ds. some (child d ds)))

-- a nonterminal's first production that a text is found for
try_rules : {M : NonTerminal} → ((A : NonTerminal) → Option (Tree A)) → (rs : List (Production M)) → ((r : Production M) → r ∈ rs → r ∈ productions M)
    → Option (Tree M)
try_rules rec [] inc = none
try_rules rec (r ∷ rs) inc =
    elim (try_syms rec r.rhs) [ some ds ↦ some (by r (inc r here) ds) | none ↦ try_rules rec rs (λ q m. inc q (there m)) ]

try : ℕ → (M : NonTerminal) → Option (Tree M)
try zero M = none
try (suc n) M = try_rules (try n) (productions M) (λ r m. m)

found : {A : Type 0} → Option A → Bool
found none = false
found (some a) = true

all_found : (M : NonTerminal) → T (found (try 8 M))
unfolding try try_rules try_syms and_also found productions text_production
all_found text = tt
all_found ports = tt
all_found more_ports = tt
all_found port = tt
all_found names = tt
all_found more_names = tt
all_found mode = tt
all_found type = tt
all_found init = tt
all_found value = tt
all_found vars = tt
all_found body = tt
all_found more = tt
all_found statement = tt
all_found target = tt
all_found else_part = tt
all_found expression = tt
all_found chain = tt
all_found ands = tt
all_found ors = tt
all_found xors = tt
all_found relation = tt
all_found compared = tt
all_found simple = tt
all_found terms = tt
all_found term = tt
all_found factors = tt
all_found factor = tt
all_found primary = tt

the : {A : Type 0} (o : Option A) → T (found o) → A
unfolding found
the none t = absurd t
the (some a) t = a

pub fill : (γ : List Sym) → Trees γ
fill [] = empty
fill (tk m k ∷ γ) = token (record { kind = k; value = 0; size = 0; place = 0 }) refl (fill γ)
fill (nt M ∷ γ) = child (the (try 8 M) (all_found M)) (fill γ)
