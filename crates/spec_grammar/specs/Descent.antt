-- The same reader as functions that call each other, nonterminal by nonterminal, as the code does: each takes the counts and the tokens, and gives what was said, the counts and the tokens left.
-- Assumes nothing.
use Rattle.std.specs.Prelude.{Bool, List, [], ◌∷◌, ℕ, zero, suc, eqb}
use Rattle.std.proofs.Math.Option.{Option, none, some}
use Rattle.spec_grammar.specs.Token.{Token}
use Rattle.spec_grammar.specs.Grammar.{NonTerminal, Says, Mark, Sym, tk, nt, Fun, Production, productions}
use Rattle.spec_grammar.specs.Meter.{Meter, tick}
use Rattle.spec_grammar.specs.Reader.{choose, Pick, take, no_rule, pick}

pub data Got (A : Type 0) : Type 0 where
  got : A → Meter → List Token → Got A
  not_got : List Token → Got A
  past : List Token → Got A

unfoldable pub next : {A B : Type 0} → Got A → (A → Meter → List Token → Got B) → Got B
next (got a c ts) f = f a c ts
next (not_got ts) f = not_got ts
next (past ts) f = past ts

-- a token
unfoldable pub one : (Meter → Bool) → Mark → ℕ → Meter → List Token → Got Token
one lim m k c [] = not_got []
one lim m k c (x ∷ ts) = choose (eqb x.kind k) (choose (lim (tick c m x)) (past (x ∷ ts)) (got x (tick c m x) ts)) (not_got (x ∷ ts))

-- a right-hand side, one symbol after another
unfoldable pub each : (Meter → Bool) → (rec : (M : NonTerminal) → Meter → List Token → Got (Says M)) → (M : NonTerminal) (δ : List Sym) → Fun δ (Says M) → Meter
    → List Token → Got (Says M)
each lim rec M [] f c ts = got f c ts
each lim rec M (tk m k ∷ δ) f c ts = next (one lim m k c ts) (λ v c' ts'. each lim rec M δ (f v) c' ts')
each lim rec M (nt A ∷ δ) f c ts = next (rec A c ts) (λ v c' ts'. each lim rec M δ (f v) c' ts')

-- a nonterminal's empty production, if it has one
unfoldable pub of_empty : (M : NonTerminal) (δ : List Sym) → Fun δ (Says M) → Option (Says M) → Option (Says M)
of_empty M [] f o = some f
of_empty M (s ∷ δ) f o = o

unfoldable pub empty_rule : {M : NonTerminal} → List (Production M) → Option (Says M)
empty_rule [] = none
empty_rule {M} (r ∷ rs) = of_empty M r.rhs r.says (empty_rule rs)

unfoldable pub leave : {A : Type 0} → Option A → Meter → List Token → Got A
leave none c ts = not_got ts
leave (some v) c ts = got v c ts

unfoldable pub chosen_rule : (Meter → Bool) → (rec : (M : NonTerminal) → Meter → List Token → Got (Says M)) → (M : NonTerminal) → Meter → List Token → Pick M
    → Got (Says M)
chosen_rule lim rec M c ts (take r) = each lim rec M r.rhs r.says c ts
chosen_rule lim rec M c ts no_rule = leave (empty_rule (productions M)) c ts

unfoldable pub headed : (Meter → Bool) → (rec : (M : NonTerminal) → Meter → List Token → Got (Says M)) → (M : NonTerminal) → Meter → List Token → Got (Says M)
headed lim rec M c [] = leave (empty_rule (productions M)) c []
headed lim rec M c (x ∷ ts) = chosen_rule lim rec M c (x ∷ ts) (pick (productions M) x.kind)

unfoldable pub descend : ℕ → (Meter → Bool) → (M : NonTerminal) → Meter → List Token → Got (Says M)
descend zero lim M c ts = not_got ts
descend (suc n) lim M c ts = headed lim (descend n lim) M c ts
