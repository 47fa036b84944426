-- The tables fit the grammar: one test, computed for each nonterminal, and what it means. Assumes nothing.
use mathlib.Core.Path.{◌≡◌, refl, sym, ◌∙◌, subst}
use mathlib.Core.Bool.{Bool, true, false, ◌&&◌}
use mathlib.Core.List.{List, [], ◌∷◌}
use Prim.Native.Nat.{ℕ}
use native.Mathlib.Omega.{arith}
use lib.Dec.{T, ltb}
use Rattle.spec_grammar.specs.Grammar.{NonTerminal, text, ports, more_ports, port, names, more_names, mode, type, init, value, vars, body, more, statement}
use Rattle.spec_grammar.specs.Grammar.{target, else_part}
use Rattle.spec_grammar.specs.Grammar.{expression, chain, ands, ors, xors, relation, compared, simple, terms, term, factors, factor, primary, Sym, tk, nt}
use Rattle.spec_grammar.specs.Grammar.{Production, productions, text_production}
use Rattle.spec_grammar.specs.Derivation.{◌∈◌, here, there}
use Rattle.spec_grammar.specs.Reader.{nullable, first, follow, rank, elem, choose, nullables, firsts, chosen, Pick, take, no_rule, pick}
use Rattle.spec_grammar.proofs.Sets.{and_left, and_right, subset, within, disjoint, apart}

-- in a right-hand side of M, what can come after each nonterminal is in that nonterminal's table
unfoldable pub inside : NonTerminal → List Sym → Bool
inside M [] = true
inside M (tk m k ∷ γ) = inside M γ
inside M (nt A ∷ γ) = subset (firsts γ) (follow A) && (choose (nullables γ) (subset (follow M) (follow A)) true && inside M γ)

-- the parts that come before the first token are of lower rank
unfoldable pub lead : ℕ → List Sym → Bool
lead n [] = true
lead n (tk m k ∷ γ) = true
lead n (nt A ∷ γ) = ltb (rank A) n && choose (nullable A) (lead n γ) true

unfoldable pub ok_rule : {M : NonTerminal} → Production M → Bool
ok_rule {M} r = subset (firsts r.rhs) (first M) && (choose (nullables r.rhs) (nullable M) true && (inside M r.rhs && lead (rank M) r.rhs))

-- no kind is for two productions
unfoldable pub alone : {M : NonTerminal} → Production M → List (Production M) → Bool
alone r [] = true
alone r (q ∷ rs) = disjoint (chosen r) (chosen q) && alone r rs

unfoldable pub ok_rules : {M : NonTerminal} → List (Production M) → Bool
ok_rules [] = true
ok_rules (r ∷ rs) = ok_rule r && (alone r rs && ok_rules rs)

unfoldable pub ok_part : NonTerminal → Bool
ok_part M = ok_rules (productions M) && ltb (rank M) 8

pub all_ok : (M : NonTerminal) → T (ok_part M)
unfolding ok_part ok_rules alone ok_rule inside lead subset disjoint chosen firsts nullables elem first follow nullable rank productions text_production
all_ok text = tt
all_ok ports = tt
all_ok more_ports = tt
all_ok port = tt
all_ok names = tt
all_ok more_names = tt
all_ok mode = tt
all_ok type = tt
all_ok init = tt
all_ok value = tt
all_ok vars = tt
all_ok body = tt
all_ok more = tt
all_ok statement = tt
all_ok target = tt
all_ok else_part = tt
all_ok expression = tt
all_ok chain = tt
all_ok ands = tt
all_ok ors = tt
all_ok xors = tt
all_ok relation = tt
all_ok compared = tt
all_ok simple = tt
all_ok terms = tt
all_ok term = tt
all_ok factors = tt
all_ok factor = tt
all_ok primary = tt

-- What the test means.
pub rules_ok : (M : NonTerminal) → T (ok_rules (productions M))
unfolding ok_part
rules_ok M = and_left (ok_rules (productions M)) (ltb (rank M) 8) (all_ok M)

pub rank_ok : (M : NonTerminal) → T (ltb (rank M) 8)
unfolding ok_part
rank_ok M = and_right (ok_rules (productions M)) (ltb (rank M) 8) (all_ok M)

rule_ok' : {M : NonTerminal} {r : Production M} {rs : List (Production M)} → T (ok_rules rs) → r ∈ rs → T (ok_rule r)
unfolding ok_rules
rule_ok' {r} {rs} t (here {rs = qs}) = and_left (ok_rule r) (alone r qs && ok_rules qs) t
rule_ok' {r} {rs} t (there {q} {rs = qs} m) = rule_ok' (and_right (alone q qs) (ok_rules qs) (and_right (ok_rule q) (alone q qs && ok_rules qs) t)) m

pub if_so : (b c : Bool) → T (choose b c true) → T b → T c
if_so true c t u = t
if_so false c t u = absurd u

module _ {M : NonTerminal} {r : Production M} (m : r ∈ productions M) where
  pub rule_ok : T (ok_rule r)
  rule_ok = rule_ok' (rules_ok M) m

  pub begins : (k : ℕ) → T (elem k (firsts r.rhs)) → T (elem k (first M))
  unfolding ok_rule
  begins k t = within (firsts r.rhs) (first M)
      (and_left (subset (firsts r.rhs) (first M)) (choose (nullables r.rhs) (nullable M) true && (inside M r.rhs && lead (rank M) r.rhs)) rule_ok) k
      t

  rest_ok : T (choose (nullables r.rhs) (nullable M) true && (inside M r.rhs && lead (rank M) r.rhs))
  unfolding ok_rule
  rest_ok = and_right (subset (firsts r.rhs) (first M))
      (choose (nullables r.rhs) (nullable M) true && (inside M r.rhs && lead (rank M) r.rhs)) rule_ok

  pub vanishes : T (nullables r.rhs) → T (nullable M)
  vanishes u = if_so (nullables r.rhs) (nullable M)
      (and_left (choose (nullables r.rhs) (nullable M) true) (inside M r.rhs && lead (rank M) r.rhs) rest_ok) u

  pub inside_ok : T (inside M r.rhs)
  inside_ok = and_left (inside M r.rhs) (lead (rank M) r.rhs)
      (and_right (choose (nullables r.rhs) (nullable M) true) (inside M r.rhs && lead (rank M) r.rhs) rest_ok)

  pub lead_ok : T (lead (rank M) r.rhs)
  lead_ok = and_right (inside M r.rhs) (lead (rank M) r.rhs)
      (and_right (choose (nullables r.rhs) (nullable M) true) (inside M r.rhs && lead (rank M) r.rhs) rest_ok)

-- the reader takes the production that a kind is for
alone_ok : {M : NonTerminal} (q : Production M) {r : Production M} {rs : List (Production M)} → T (alone q rs) → r ∈ rs → T (disjoint (chosen q) (chosen r))
unfolding alone
alone_ok q t (here {rs = qs}) = and_left (disjoint (chosen q) (chosen _)) (alone q qs) t
alone_ok q t (there {q = p} {rs = qs} m) = alone_ok q (and_right (disjoint (chosen q) (chosen p)) (alone q qs) t) m

choose_true : {M : NonTerminal} (b : Bool) (p q : Pick M) → T b → choose b p q ≡ p
choose_true true p q t = refl
choose_true false p q t = absurd t

choose_false : {M : NonTerminal} (b : Bool) (p q : Pick M) → (T b → ⊥) → choose b p q ≡ q
choose_false true p q t = absurd (t tt)
choose_false false p q t = refl

pick' : {M : NonTerminal} {r : Production M} {rs : List (Production M)} (k : ℕ) → T (ok_rules rs) → r ∈ rs → T (elem k (chosen r)) → pick rs k ≡ take r
unfolding pick ok_rules
pick' {r} k t (here {rs = qs}) u = choose_true (elem k (chosen r)) (take r) (pick qs k) u
pick' {r} k t (there {q} {rs = qs} m) u =
    choose_false (elem k (chosen q)) (take q) (pick qs k)
    (λ w. apart (chosen q) (chosen r) (alone_ok q (and_left (alone q qs) (ok_rules qs) (and_right (ok_rule q) (alone q qs && ok_rules qs) t)) m) k w u)
    ∙ pick' k (and_right (alone q qs) (ok_rules qs) (and_right (ok_rule q) (alone q qs && ok_rules qs) t)) m u

pub pick_finds : {M : NonTerminal} {r : Production M} (k : ℕ) → r ∈ productions M → T (elem k (chosen r)) → pick (productions M) k ≡ take r
pick_finds {M} k m u = pick' k (rules_ok M) m u

-- and what it takes is a production
take_inj : {M : NonTerminal} (q r : Production M) → take q ≡ take r → q ≡ r
take_inj q r e = cc

pick_case : {M : NonTerminal} (q r : Production M) (rs : List (Production M)) (b : Bool) (p : Pick M) → choose b (take q) p ≡ take r → (p ≡ take r → r ∈ rs)
    → r ∈ (q ∷ rs)
pick_case q r rs true p e ih = subst (λ (s : Production _). r ∈ (s ∷ rs)) (sym (take_inj q r e)) here
pick_case q r rs false p e ih = there (ih e)

pub no_rule_take : {M : NonTerminal} {r : Production M} → no_rule ≡ take r → ⊥
no_rule_take e = let z : ◌≡◌ {A = ℕ} 0 1 = cc in omega arith

pick_rule' : {M : NonTerminal} (r : Production M) (rs : List (Production M)) (k : ℕ) → pick rs k ≡ take r → r ∈ rs
unfolding pick
pick_rule' r [] k e = absurd (no_rule_take e)
pick_rule' r (q ∷ rs) k e = pick_case q r rs (elem k (chosen q)) (pick rs k) e (pick_rule' r rs k)

pub pick_rule : {M : NonTerminal} (r : Production M) (k : ℕ) → pick (productions M) k ≡ take r → r ∈ productions M
pick_rule r k e = pick_rule' r (productions _) k e

pub take_same : {M : NonTerminal} (q r : Production M) → take q ≡ take r → q ≡ r
take_same q r e = take_inj q r e
