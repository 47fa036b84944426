-- In the tree of a derivation the ports are inputs and outputs and the variables are variables: a property of what each nonterminal says, kept by
-- every production. Assumes nothing.
use mathlib.Core.Path.{◌≡◌, refl, subst}
use mathlib.Core.Bool.{true, false}
use mathlib.Core.List.{List, [], ◌∷◌}
use Prim.Native.Nat.{ℕ}
use Rattle.spec_grammar.specs.Token.{Token}
use Rattle.spec_grammar.specs.Tree.{Group, Text}
use Rattle.spec_grammar.specs.Grammar.{NonTerminal, text, ports, more_ports, port, names, more_names, mode, type, init, value, vars, body, more, statement}
use Rattle.spec_grammar.specs.Grammar.{target, else_part, expression, chain, ands, ors, xors, relation, compared, simple, terms, term, factors, factor, primary}
use Rattle.spec_grammar.specs.Grammar.{Says, Mark, Sym, tk, nt, Fun, Production, productions, text_production}
use Rattle.spec_grammar.specs.Derivation.{span, Reads}
use Rattle.spec_grammar.specs.Limits.{Each}
use Rattle.spec_grammar.proofs.Each.{each_any}
use Rattle.spec_grammar.proofs.Keeping.{Keeps, KeepAll, tree_keeps}
use Rattle.spec_language.specs.Declarations.{is_variable}

-- no port is a variable; every variable is one
pub record Moded (t : Text) : Type 0 where
  pub ports : Each (λ (g : Group). is_variable g.mode ≡ false) t.ports
  pub vars : Each (λ (g : Group). is_variable g.mode ≡ true) t.vars

-- what is kept; of most nonterminals nothing is asked
abbrev Kept : (M : NonTerminal) → Says M → Type 0
Kept text t = Moded t
Kept ports gs = Each (λ (g : Group). is_variable g.mode ≡ false) gs
Kept more_ports gs = Each (λ (g : Group). is_variable g.mode ≡ false) gs
Kept port g = is_variable g.mode ≡ false
Kept names v = Unit {0}
Kept more_names v = Unit {0}
Kept mode m = is_variable m ≡ false
Kept type v = Unit {0}
Kept init v = Unit {0}
Kept value v = Unit {0}
Kept vars gs = Each (λ (g : Group). is_variable g.mode ≡ true) gs
Kept body v = Unit {0}
Kept more v = Unit {0}
Kept statement v = Unit {0}
Kept target v = Unit {0}
Kept else_part v = Unit {0}
Kept expression v = Unit {0}
Kept chain v = Unit {0}
Kept ands v = Unit {0}
Kept ors v = Unit {0}
Kept xors v = Unit {0}
Kept relation v = Unit {0}
Kept compared v = Unit {0}
Kept simple v = Unit {0}
Kept terms v = Unit {0}
Kept term v = Unit {0}
Kept factors v = Unit {0}
Kept factor v = Unit {0}
Kept primary v = Unit {0}

-- where all that M may say has it, every production keeps it
anyway : (M : NonTerminal) → ((v : Says M) → Kept M v) → (γ : List Sym) (f : Fun γ (Says M)) → Keeps (λ (k : ℕ) (x : Token). Unit {0}) Kept γ M f
anyway M h [] f = h f
anyway M h (tk m k ∷ γ) f = λ x _. anyway M h γ (f x)
anyway M h (nt A ∷ γ) f = λ v _. anyway M h γ (f v)

free : (M : NonTerminal) → ((v : Says M) → Kept M v) → (rs : List (Production M)) → KeepAll (λ (k : ℕ) (x : Token). Unit {0}) Kept M rs
free M h [] = tt
free M h (r ∷ rs) = (anyway M h r.rhs r.says, free M h rs)

all_keep : (M : NonTerminal) → KeepAll (λ (k : ℕ) (x : Token). Unit {0}) Kept M (productions M)
unfolding productions text_production is_variable
all_keep text = (
  λ _ _ _ _ _ _ _ _ _ _ ps p _ _ _ _ _ _ _ _ _ _ _ _ _ _ _ _ _ _ _ _ _ _ _ _ vs v _ _ _ _ _ _ _ _ _ _ _ _ _ _ _ _. record { ports = p; vars = v },
  tt,
)
all_keep ports = (λ g h gs k. (h, k), tt)
all_keep more_ports = (tt, (λ _ _ g h gs k. (h, k), tt))
all_keep port = (λ ns _ _ _ m h t _ i _. h, tt)
all_keep names = free names (λ v. tt) (productions names)
all_keep more_names = free more_names (λ v. tt) (productions more_names)
all_keep mode = (λ _ _. refl, (λ _ _. refl, tt))
all_keep type = free type (λ v. tt) (productions type)
all_keep init = free init (λ v. tt) (productions init)
all_keep value = free value (λ v. tt) (productions value)
all_keep vars = (tt, (λ _ _ ns _ _ _ t _ i _ _ _ vs k. (refl, k), tt))
all_keep body = free body (λ v. tt) (productions body)
all_keep more = free more (λ v. tt) (productions more)
all_keep statement = free statement (λ v. tt) (productions statement)
all_keep target = free target (λ v. tt) (productions target)
all_keep else_part = free else_part (λ v. tt) (productions else_part)
all_keep expression = free expression (λ v. tt) (productions expression)
all_keep chain = free chain (λ v. tt) (productions chain)
all_keep ands = free ands (λ v. tt) (productions ands)
all_keep ors = free ors (λ v. tt) (productions ors)
all_keep xors = free xors (λ v. tt) (productions xors)
all_keep relation = free relation (λ v. tt) (productions relation)
all_keep compared = free compared (λ v. tt) (productions compared)
all_keep simple = free simple (λ v. tt) (productions simple)
all_keep terms = free terms (λ v. tt) (productions terms)
all_keep term = free term (λ v. tt) (productions term)
all_keep factors = free factors (λ v. tt) (productions factors)
all_keep factor = free factor (λ v. tt) (productions factor)
all_keep primary = free primary (λ v. tt) (productions primary)

pub moded : {ts : List Token} {es : List Mark} {t : Text} → Reads text ts es t → Moded t
moded r =
    subst Moded r.said
    (tree_keeps (λ (k : ℕ) (x : Token). Unit {0}) Kept (λ (x : Token). Unit {0}) (λ k x e _. tt) all_keep r.tree
    (each_any (λ (x : Token). Unit {0}) (λ x. tt) (span r.tree)))
