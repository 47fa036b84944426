-- The laws by which a reader that calls itself nonterminal by nonterminal (recursive descent) is shown equal to `run`: one for a token, one for a production,
-- one for a nonterminal that is left out.
-- Assumes nothing.
use mathlib.Core.Path.{◌≡◌, refl, sym, ◌∙◌, subst, ap}
use mathlib.Core.Bool.{Bool, true, false, ◌&&◌}
use mathlib.Core.List.{List, [], ◌∷◌, ◌++◌}
use mathlib.Core.Logic.{inl, inr}
use Prim.Native.Nat.{ℕ, zero, suc, ◌<◌}
use native.Mathlib.Omega.{arith}
use lib.Dec.{T, eqb, ltb, ltb→lt}
use Rattle.spec_grammar.specs.Token.{Token}
use Rattle.spec_grammar.specs.Grammar.{NonTerminal, Says, Mark, Sym, tk, nt, Fun, Production, productions, ◌↠◌}
use Rattle.spec_grammar.specs.Meter.{Meter, tick}
use Rattle.spec_grammar.specs.Derivation.{◌∈◌}
use Rattle.spec_grammar.specs.Reader.{nullable, first, follow, rank, elem, choose, nullables, firsts, chosen, compose, Pick, take, no_rule, pick, Step}
use Rattle.spec_grammar.specs.Reader.{stuck, skip, to, on_skip, shift, through, by_rule, enter, advance, refused, at_end, keep, after, run}
use Rattle.spec_grammar.proofs.Sets.{and_left, and_right, elem_cases, elem_choose}
use Rattle.spec_grammar.proofs.Tables.{lead, lead_ok, vanishes, begins, pick_rule, pick_finds, take_same, no_rule_take, rank_ok, if_so}
use Rattle.spec_grammar.proofs.Trees.{starts, Has}
use Rattle.spec_grammar.proofs.Steps.{Ok, Spec, advance_spec}
use Rattle.spec_grammar.proofs.Runs.{Starts, some_text}

both : (a b : Bool) → T a → T b → T (a && b)
both true b t u = u
both false b t u = t

-- Steps apart.
is_skip : {S : NonTerminal} {γ : List Sym} → Step S γ → ℕ
is_skip stuck = 0
is_skip (skip κ) = 1
is_skip (to m δ κ) = 2

-- a nonterminal that is skipped may be empty
abbrev Empties : (S : NonTerminal) (rec : (M : NonTerminal) (γ : List Sym) → (Says M → Fun γ (Says S)) → Step S γ) → Type 0
Empties S rec = (M : NonTerminal) (γ : List Sym) (κ : Says M → Fun γ (Says S)) → is_skip (rec M γ κ) ≡ 1 → T (nullable M)

on_skip_skip : {S : NonTerminal} {γ δ : List Sym} (s : Step S γ) (f : Fun γ (Says S) → Step S δ) (A B : Type 0) → is_skip (on_skip s f) ≡ 1 → (is_skip s ≡ 1 → A)
    → ((κ : Fun γ (Says S)) → is_skip (f κ) ≡ 1 → B) → A × B
unfolding on_skip is_skip
on_skip_skip stuck f A B e g h = absurd (zero_one e)
  where
    zero_one : ◌≡◌ {A = ℕ} 0 1 → ⊥
    zero_one z = omega arith
on_skip_skip (skip κ) f A B e g h = (g refl, h κ e)
on_skip_skip (to m δ κ) f A B e g h = absurd (two_one e)
  where
    two_one : ◌≡◌ {A = ℕ} 2 1 → ⊥
    two_one z = omega arith

through_empties : (S : NonTerminal) (x : Token) (rec : (M : NonTerminal) (γ : List Sym) → (Says M → Fun γ (Says S)) → Step S γ) → Empties S rec
    → (δ γ : List Sym) (κ : Fun (δ ++ γ) (Says S)) → is_skip (through S x rec δ γ κ) ≡ 1 → T (nullables δ)
unfolding through nullables shift is_skip
through_empties S x rec h [] γ κ e = tt
through_empties S x rec h (tk m k ∷ δ) γ κ e = shifted (eqb x.kind k) e
  where
    shifted : (b : Bool) → is_skip (shift S γ m (δ ++ γ) b (κ x)) ≡ 1 → ⊥
    shifted true q = omega arith
    shifted false q = omega arith
through_empties S x rec h (nt M ∷ δ) γ κ e =
    let p : T (nullable M) × T (nullables δ) =
    on_skip_skip (rec M (δ ++ γ) κ) (λ κ'. through S x rec δ γ κ') (T (nullable M)) (T (nullables δ)) e (h M (δ ++ γ) κ)
    (λ κ' q. through_empties S x rec h δ γ κ' q) in
    both (nullable M) (nullables δ) p.0 p.1

enter_empties : (n : ℕ) (S : NonTerminal) (x : Token) → Empties S (enter n S x)
unfolding enter by_rule is_skip
enter_empties zero S x M γ κ e = absurd (zero_one e)
  where
    zero_one : ◌≡◌ {A = ℕ} 0 1 → ⊥
    zero_one z = omega arith
enter_empties (suc n) S x M γ κ e = chosen (pick (productions M) x.kind) refl e (enter_empties n S x)
  where
    zero_one : ◌≡◌ {A = ℕ} 0 1 → ⊥
    zero_one z = omega arith

    chosen : (p : Pick M) → pick (productions M) x.kind ≡ p → is_skip (by_rule S x (enter n S x) M γ κ p) ≡ 1 → Empties S (enter n S x) → T (nullable M)
    chosen no_rule q z ih = absurd (zero_one z)
    chosen (take r) q z ih = vanishes (pick_rule r x.kind q) (through_empties S x (enter n S x) ih r.rhs γ (compose M S r.rhs γ r.says κ) z)

-- Deep enough is deep enough.
on_skip_same : {S : NonTerminal} {γ δ : List Sym} (s : Step S γ) (f g : Fun γ (Says S) → Step S δ) → ((κ : Fun γ (Says S)) → is_skip s ≡ 1 → f κ ≡ g κ)
    → on_skip s f ≡ on_skip s g
unfolding on_skip is_skip
on_skip_same stuck f g h = refl
on_skip_same (skip κ) f g h = h κ refl
on_skip_same (to m δ κ) f g h = refl

module _ (S : NonTerminal) (x : Token) (n : ℕ) (rec rec' : (M : NonTerminal) (γ : List Sym) → (Says M → Fun γ (Says S)) → Step S γ) (empties : Empties S rec)
    (agree : (M : NonTerminal) → rank M < n → (γ : List Sym) (κ : Says M → Fun γ (Says S)) → rec M γ κ ≡ rec' M γ κ) where
  through_same : (δ γ : List Sym) (κ : Fun (δ ++ γ) (Says S)) → T (lead n δ) → through S x rec δ γ κ ≡ through S x rec' δ γ κ
  unfolding through lead
  through_same [] γ κ l = refl
  through_same (tk m k ∷ δ) γ κ l = refl
  through_same (nt M ∷ δ) γ κ l =
      on_skip_same (rec M (δ ++ γ) κ) (λ κ'. through S x rec δ γ κ') (λ κ'. through S x rec' δ γ κ')
      (λ κ' e. through_same δ γ κ' (if_so (nullable M) (lead n δ) (and_right (ltb (rank M) n) (choose (nullable M) (lead n δ) true) l)
      (empties M (δ ++ γ) κ e)))
      ∙ ap (λ (s : Step S (δ ++ γ)). on_skip s (λ κ'. through S x rec' δ γ κ'))
      (agree M (ltb→lt (rank M) n (and_left (ltb (rank M) n) (choose (nullable M) (lead n δ) true) l)) (δ ++ γ) κ)

enter_same : (n n' : ℕ) (S : NonTerminal) (x : Token) (M : NonTerminal) → rank M < n → rank M < n' → (γ : List Sym) (κ : Says M → Fun γ (Says S))
    → enter n S x M γ κ ≡ enter n' S x M γ κ
unfolding enter by_rule
enter_same zero n' S x M l l' γ κ = absurd (below l)
  where
    below : {m : ℕ} → m < 0 → ⊥
    below h = omega arith
enter_same (suc n) zero S x M l l' γ κ = absurd (below l')
  where
    below : {m : ℕ} → m < 0 → ⊥
    below h = omega arith
enter_same (suc n) (suc n') S x M l l' γ κ = chosen (pick (productions M) x.kind) refl (enter_same n n' S x)
  where
    lower : (m a b : ℕ) → b < suc m → a < b → a < m
    lower m a b g h = omega arith

    chosen : (p : Pick M) → pick (productions M) x.kind ≡ p
        → ((A : NonTerminal) → rank A < n → rank A < n' → (δ : List Sym) (κ' : Says A → Fun δ (Says S)) → enter n S x A δ κ' ≡ enter n' S x A δ κ')
        → by_rule S x (enter n S x) M γ κ p ≡ by_rule S x (enter n' S x) M γ κ p
    chosen no_rule q ih = refl
    chosen (take r) q ih =
        through_same S x (rank M) (enter n S x) (enter n' S x) (enter_empties n S x)
        (λ A h. ih A (lower n (rank A) (rank M) l h) (lower n' (rank A) (rank M) l' h))
        r.rhs γ (compose M S r.rhs γ r.says κ) (lead_ok (pick_rule r x.kind q))

-- What is to come, cut in two.
on_skip_on_skip : {S : NonTerminal} {γ : List Sym} (s : Step S γ) (f : Fun γ (Says S) → Step S []) → on_skip (on_skip {δ = γ} s (λ κ. skip κ)) f ≡ on_skip s f
unfolding on_skip
on_skip_on_skip stuck f = refl
on_skip_on_skip (skip κ) f = refl
on_skip_on_skip (to m δ κ) f = refl

shift_shift : (S : NonTerminal) (γ δ : List Sym) (m : Mark) (b : Bool) (κ : Fun (δ ++ γ) (Says S)) (f : Fun (δ ++ γ) (Says S) → Step S [])
    (g : Fun γ (Says S) → Step S []) → on_skip (shift S (δ ++ γ) m (δ ++ γ) b κ) f ≡ on_skip (shift S γ m (δ ++ γ) b κ) g
unfolding on_skip shift
shift_shift S γ δ m true κ f g = refl
shift_shift S γ δ m false κ f g = refl

part_part : (S : NonTerminal) (γ δ : List Sym) (s : Step S (δ ++ γ)) (f : Fun (δ ++ γ) (Says S) → Step S γ) (g : Fun (δ ++ γ) (Says S) → Step S [])
    (h : Fun γ (Says S) → Step S []) → ((κ : Fun (δ ++ γ) (Says S)) → g κ ≡ on_skip (f κ) h)
    → on_skip (on_skip {δ = δ ++ γ} s (λ κ. skip κ)) g ≡ on_skip (on_skip s f) h
unfolding on_skip
part_part S γ δ stuck f g h e = refl
part_part S γ δ (skip κ) f g h e = e κ
part_part S γ δ (to m ε κ) f g h e = refl

advance_append : (S : NonTerminal) (x : Token) (δ γ : List Sym) (κ : Fun (δ ++ γ) (Says S))
    → advance S x (δ ++ γ) κ ≡ on_skip (through S x (enter 8 S x) δ γ κ) (λ κ'. advance S x γ κ')
unfolding advance through on_skip
advance_append S x [] γ κ = refl
advance_append S x (tk m k ∷ δ) γ κ = shift_shift S γ δ m (eqb x.kind k) (κ x) (λ κ'. advance S x (δ ++ γ) κ') (λ κ'. advance S x γ κ')
advance_append S x (nt M ∷ δ) γ κ =
    part_part S γ δ (enter 8 S x M (δ ++ γ) κ) (λ κ'. through S x (enter 8 S x) δ γ κ') (λ κ'. advance S x (δ ++ γ) κ') (λ κ'. advance S x γ κ')
    (λ κ'. advance_append S x δ γ κ')

advance_rule : (S : NonTerminal) (x : Token) (M : NonTerminal) (γ : List Sym) (κ : Says M → Fun γ (Says S)) (r : Production M)
    → pick (productions M) x.kind ≡ take r → advance S x (nt M ∷ γ) κ ≡ advance S x (r.rhs ++ γ) (compose M S r.rhs γ r.says κ)
unfolding advance through enter by_rule
advance_rule S x M γ κ r e =
    on_skip_on_skip (enter 8 S x M γ κ) (λ κ'. advance S x γ κ')
    ∙ (ap (λ (s : Step S γ). on_skip s (λ κ'. advance S x γ κ')) entered
    ∙ sym (advance_append S x r.rhs γ κr))
  where
    κr : Fun (r.rhs ++ γ) (Says S)
    κr = compose M S r.rhs γ r.says κ

    lower : (a b : ℕ) → b < 8 → a < b → a < 7
    lower a b g h = omega arith

    lower' : (a b : ℕ) → b < 8 → a < b → a < 8
    lower' a b g h = omega arith

    entered : enter 8 S x M γ κ ≡ through S x (enter 8 S x) r.rhs γ κr
    entered =
        ap (λ (p : Pick M). by_rule S x (enter 7 S x) M γ κ p) e
        ∙ through_same S x (rank M) (enter 7 S x) (enter 8 S x) (enter_empties 7 S x)
        (λ A h. enter_same 7 8 S x A (lower (rank A) (rank M) (ltb→lt (rank M) 8 (rank_ok M)) h) (lower' (rank A) (rank M) (ltb→lt (rank M) 8 (rank_ok M)) h))
        r.rhs γ κr (lead_ok (pick_rule r x.kind e))

-- LAW 1, a production: where the token picks it, its right-hand side stands for its nonterminal.
pub by_rule_lem : (lim : Meter → Bool) (x : Token) (ts : List Token) (S : NonTerminal) (c : Meter) (M : NonTerminal) (γ : List Sym) (κ : Says M → Fun γ (Says S))
    (r : Production M) → pick (productions M) x.kind ≡ take r
    → run lim (x ∷ ts) S c (nt M ∷ γ) κ ≡ run lim (x ∷ ts) S c (r.rhs ++ γ) (compose M S r.rhs γ r.says κ)
unfolding run
by_rule_lem lim x ts S c M γ κ r e = ap (λ (s : Step S []). after lim c x ts s (run lim ts S)) (advance_rule S x M γ κ r e)

-- LAW 2, a token: taken, refused, or missing.
tok_step : (S : NonTerminal) (x : Token) (m : Mark) (γ : List Sym) (b : Bool) (κ : Fun γ (Says S)) → b ≡ true
    → on_skip (shift S γ m γ b κ) (λ κ'. advance S x γ κ') ≡ to m γ κ
unfolding on_skip shift
tok_step S x m γ true κ e = refl
tok_step S x m γ false κ e = let z : ◌≡◌ {A = ℕ} 0 1 = cc in absurd (no_way z)
  where
    no_way : ◌≡◌ {A = ℕ} 0 1 → ⊥
    no_way z = omega arith

tok_stuck : (S : NonTerminal) (x : Token) (m : Mark) (γ : List Sym) (b : Bool) (κ : Fun γ (Says S)) → b ≡ false
    → on_skip (shift S γ m γ b κ) (λ κ'. advance S x γ κ') ≡ stuck
unfolding on_skip shift
tok_stuck S x m γ false κ e = refl
tok_stuck S x m γ true κ e = let z : ◌≡◌ {A = ℕ} 0 1 = cc in absurd (no_way z)
  where
    no_way : ◌≡◌ {A = ℕ} 0 1 → ⊥
    no_way z = omega arith

pub taken : (lim : Meter → Bool) (x : Token) (ts : List Token) (S : NonTerminal) (c : Meter) (m : Mark) (k : ℕ) (γ : List Sym) (κ : Token → Fun γ (Says S))
    → eqb x.kind k ≡ true → run lim (x ∷ ts) S c (tk m k ∷ γ) κ ≡ keep (x ∷ ts) (lim (tick c m x)) (run lim ts S (tick c m x) γ (κ x))
unfolding run after advance through
taken lim x ts S c m k γ κ e = ap (λ (s : Step S []). after lim c x ts s (run lim ts S)) (tok_step S x m γ (eqb x.kind k) (κ x) e)

pub not_taken : (lim : Meter → Bool) (x : Token) (ts : List Token) (S : NonTerminal) (c : Meter) (m : Mark) (k : ℕ) (γ : List Sym) (κ : Token → Fun γ (Says S))
    → eqb x.kind k ≡ false → run lim (x ∷ ts) S c (tk m k ∷ γ) κ ≡ refused (x ∷ ts)
unfolding run after advance through
not_taken lim x ts S c m k γ κ e = ap (λ (s : Step S []). after lim c x ts s (run lim ts S)) (tok_stuck S x m γ (eqb x.kind k) (κ x) e)

pub missing : (lim : Meter → Bool) (S : NonTerminal) (c : Meter) (s : Sym) (γ : List Sym) (κ : Fun (s ∷ γ) (Says S)) → run lim [] S c (s ∷ γ) κ ≡ refused []
unfolding run at_end
missing lim S c s γ κ = refl

-- LAW 3, a nonterminal that is left out: where the token cannot begin it.
pick_elem : {M : NonTerminal} (q : Production M) (rs : List (Production M)) (k : ℕ) → pick rs k ≡ take q → T (elem k (chosen q))
unfolding pick
pick_elem q [] k e = absurd (no_rule_take e)
pick_elem q (r ∷ rs) k e = go (elem k (chosen r)) refl (pick rs k) e (pick_elem q rs k)
  where
    go : (b : Bool) → elem k (chosen r) ≡ b → (p : Pick _) → choose b (take r) p ≡ take q → (p ≡ take q → T (elem k (chosen q))) → T (elem k (chosen q))
    go true w p z ih = subst (λ (s : Production _). T (elem k (chosen s))) (take_same r q z) (subst T (sym w) tt)
    go false w p z ih = ih z

nonempty : (lim : Meter → Bool) (S : NonTerminal) (c : Meter) (γ : List Sym) (κ : Fun γ (Says S)) → (T (nullables γ) → ⊥) → run lim [] S c γ κ ≡ refused []
unfolding run at_end nullables
nonempty lim S c [] κ h = absurd (h tt)
nonempty lim S c (s ∷ γ) κ h = refl

pub run_stuck : (lim : Meter → Bool) (S : NonTerminal) (c : Meter) (M : NonTerminal) (γ : List Sym) (κ : Says M → Fun γ (Says S)) (x : Token) (us : List Token)
    → pick (productions M) x.kind ≡ no_rule → run lim (x ∷ us) S c (nt M ∷ γ) κ ≡ refused (x ∷ us)
unfolding run after advance through enter by_rule on_skip
run_stuck lim S c M γ κ x us e = ap (λ (p : Pick M). after lim c x us
    (on_skip (on_skip {δ = γ} (by_rule S x (enter 7 S x) M γ κ p) (λ κ'. skip κ')) (λ κ'. advance S x γ κ')) (run lim us S)) e

module _ (lim : Meter → Bool) (S : NonTerminal) (c : Meter) (M : NonTerminal) (γ : List Sym) (κ : Says M → Fun γ (Says S)) (o : Ok (nt M ∷ γ)) (v : Says M)
    (m : ([] ↠ v) ∈ productions M) where
  -- no text goes on with x
  no_way_on : (x : Token) (ts : List Token) → (T (elem x.kind (follow M)) → ⊥) → (s : Step S []) → Spec S x γ (κ v) [] (Unit {0}) s
      → after lim c x ts s (run lim ts S) ≡ refused (x ∷ ts)
  unfolding after
  no_way_on x ts f stuck h = refl
  no_way_on x ts f (skip κ') h = refl
  no_way_on x ts f (to n δ κ') h =
      let t : Starts S δ κ' [] = some_text S δ κ' in
      let a : Has S γ (κ v) (x ∷ t.later) (n ∷ t.es) t.v = h.1 t.later t.es t.v t.has in
      absurd (f (o.0 x.kind (starts a.trees x t.later a.spanned)))

  no_pick : (x : Token) → (T (elem x.kind (first M)) → ⊥) → (T (elem x.kind (follow M)) → ⊥) → (p : Pick M) → pick (productions M) x.kind ≡ p
      → p ≡ no_rule
  unfolding chosen
  no_pick x f g no_rule e = refl
  no_pick x f g (take q) e = elim (elem_cases x.kind (firsts q.rhs) (choose (nullables q.rhs) (follow M) [])
      (pick_elem q (productions M) x.kind e)) [
        | inl u ↦ absurd (f (begins (pick_rule q x.kind e) x.kind u))
        | inr u ↦ absurd (g (elem_choose x.kind (nullables q.rhs) (follow M) u).1)
      ]

  run_on : (x : Token) (us : List Token) → (T (elem x.kind (follow M)) → ⊥) → run lim (x ∷ us) S c γ (κ v) ≡ refused (x ∷ us)
  unfolding run
  run_on x us f = no_way_on x us f (advance S x γ (κ v)) (advance_spec S x γ (κ v) o.2)

  picked : (x : Token) → T (elem x.kind (follow M)) → T (elem x.kind (chosen {M = M} ([] ↠ v)))
  unfolding chosen firsts nullables
  picked x t = t

  dropped : (x : Token) (us : List Token) → T (elem x.kind (follow M)) → run lim (x ∷ us) S c (nt M ∷ γ) κ ≡ run lim (x ∷ us) S c γ (κ v)
  unfolding compose
  dropped x us t = by_rule_lem lim x us S c M γ κ ([] ↠ v) (pick_finds x.kind m (picked x t))

  pub left_out : (ts : List Token) → ((x : Token) (us : List Token) → ts ≡ x ∷ us → T (elem x.kind (first M)) → ⊥)
      → run lim ts S c (nt M ∷ γ) κ ≡ run lim ts S c γ (κ v)
  left_out [] h = missing lim S c (nt M) γ κ ∙ sym (nonempty lim S c γ (κ v) o.1)
  left_out (x ∷ us) h = go (elem x.kind (follow M)) refl
    where
      go : (b : Bool) → elem x.kind (follow M) ≡ b → run lim (x ∷ us) S c (nt M ∷ γ) κ ≡ run lim (x ∷ us) S c γ (κ v)
      go true e = dropped x us (subst T (sym e) tt)
      go false e =
          run_stuck lim S c M γ κ x us (no_pick x (h x us refl) (λ t. subst T e t) (pick (productions M) x.kind) refl)
          ∙ sym (run_on x us (λ t. subst T e t))

  -- the same, where it is known that no production is picked
  pub left_out_at : (x : Token) (us : List Token) → pick (productions M) x.kind ≡ no_rule → run lim (x ∷ us) S c (nt M ∷ γ) κ ≡ run lim (x ∷ us) S c γ (κ v)
  left_out_at x us e = run_stuck lim S c M γ κ x us e ∙ sym (run_on x us (λ t. no_rule_take (sym e ∙ pick_finds x.kind m (picked x t))))

  pub left_out_end : run lim [] S c (nt M ∷ γ) κ ≡ run lim [] S c γ (κ v)
  left_out_end = missing lim S c (nt M) γ κ ∙ sym (nonempty lim S c γ (κ v) o.1)
