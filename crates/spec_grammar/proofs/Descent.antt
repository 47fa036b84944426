-- Recursive descent reads what `run` reads: at a nonterminal M, whatever is to come after it, run goes on where the descent left off. Assumes nothing.
use mathlib.Core.Path.{◌≡◌, refl, sym, ◌∙◌, subst, ap}
use mathlib.Core.Bool.{Bool, true, false, ◌&&◌}
use mathlib.Core.Logic.{◌⊎◌, inl, inr}
use mathlib.Core.Option.{Option, none, some}
use mathlib.Core.List.{List, [], ◌∷◌, ◌++◌}
use Prim.Native.Nat.{ℕ, zero, suc, ◌+◌, ◌*◌, ◌<◌, ◌≤◌}
use native.Mathlib.Omega.{arith}
use lib.Dec.{T, eqb, ltb, ltb→lt}
use lib.ListN.{length}
use Rattle.spec_grammar.specs.Token.{Token}
use Rattle.spec_grammar.specs.Grammar.{NonTerminal, text, Says, Mark, Sym, tk, nt, Fun, Production, productions, ◌↠◌, text_production}
use Rattle.spec_grammar.specs.Tree.{Text}
use Rattle.spec_grammar.specs.Meter.{Meter, zeroes, tick}
use Rattle.spec_grammar.specs.Derivation.{◌∈◌, here, there}
use Rattle.spec_grammar.specs.Reader.{nullable, rank, choose, nullables, compose, Pick, take, no_rule, pick, Outcome, read, refused, limited, keep, run}
use Rattle.spec_grammar.specs.Reader.{read_text, at_end, after, advance, elem, first, firsts, follow}
use Rattle.spec_grammar.specs.Descent.{Got, got, not_got, past, next, one, each, of_empty, empty_rule, leave, chosen_rule, headed, descend}
use Rattle.spec_grammar.proofs.Sets.{and_left, and_right, subset}
use Rattle.spec_grammar.proofs.Tables.{lead, lead_ok, inside_ok, vanishes, pick_rule, rank_ok, if_so}
use Rattle.spec_grammar.proofs.Steps.{Ok, ok_rule_lem, ok_syms, tested}
use Rattle.spec_grammar.proofs.Laws.{by_rule_lem, taken, not_taken, missing, left_out_at, left_out_end, run_stuck}

-- what comes of the whole, where k goes on from what was got
unfoldable pub whole : {A B : Type 0} → Got A → (A → Meter → List Token → Outcome B) → Outcome B
whole (got a c ts) k = k a c ts
whole (not_got ts) k = refused ts
whole (past ts) k = limited ts

pub whole_next : {A B D : Type 0} (g : Got A) (f : A → Meter → List Token → Got B) (k : B → Meter → List Token → Outcome D)
    → whole (next g f) k ≡ whole g (λ a c ts. whole (f a c ts) k)
unfolding whole next
whole_next (got a c ts) f k = refl
whole_next (not_got ts) f k = refl
whole_next (past ts) f k = refl

abbrev pub All : {A : Type 0} → (List Token → Type 0) → Got A → Type 0
All P (got a c ts) = P ts
All P (not_got ts) = Unit {0}
All P (past ts) = Unit {0}

pub whole_same : {A B : Type 0} (P : List Token → Type 0) (g : Got A) (k k' : A → Meter → List Token → Outcome B) → All P g
    → ((a : A) (c : Meter) (ts : List Token) → P ts → k a c ts ≡ k' a c ts) → whole g k ≡ whole g k'
unfolding whole
whole_same P (got a c ts) k k' p h = h a c ts p
whole_same P (not_got ts) k k' p h = refl
whole_same P (past ts) k k' p h = refl

pub all_next : {A B : Type 0} (P Q : List Token → Type 0) (g : Got A) (f : A → Meter → List Token → Got B) → All P g
    → ((a : A) (c : Meter) (ts : List Token) → P ts → All Q (f a c ts)) → All Q (next g f)
unfolding next
all_next P Q (got a c ts) f p h = h a c ts p
all_next P Q (not_got ts) f p h = tt
all_next P Q (past ts) f p h = tt

-- A token.
abbrev pub Shorter : List Token → List Token → Type 0
Shorter ts us = length us < length ts

one_case : (lim : Meter → Bool) (m : Mark) (k : ℕ) (c : Meter) (x : Token) (ts : List Token) (b d : Bool)
    → All (Shorter (x ∷ ts)) (choose b (choose d (past (x ∷ ts)) (got x (tick c m x) ts)) (not_got (x ∷ ts)))
one_case lim m k c x ts true true = tt
one_case lim m k c x ts true false = omega arith
one_case lim m k c x ts false d = tt

pub one_shorter : (lim : Meter → Bool) (m : Mark) (k : ℕ) (c : Meter) (ts : List Token) → All (Shorter ts) (one lim m k c ts)
unfolding one
one_shorter lim m k c [] = tt
one_shorter lim m k c (x ∷ ts) = one_case lim m k c x ts (eqb x.kind k) (lim (tick c m x))

pub one_whole : (lim : Meter → Bool) (m : Mark) (k : ℕ) (c : Meter) (ts : List Token) (S : NonTerminal) (γ : List Sym) (κ : Token → Fun γ (Says S))
    → run lim ts S c (tk m k ∷ γ) κ ≡ whole (one lim m k c ts) (λ v c' ts'. run lim ts' S c' γ (κ v))
unfolding one whole keep
one_whole lim m k c [] S γ κ = missing lim S c (tk m k) γ κ
one_whole lim m k c (x ∷ ts) S γ κ = go (eqb x.kind k) refl (lim (tick c m x)) refl
  where
    go : (b : Bool) → eqb x.kind k ≡ b → (d : Bool) → lim (tick c m x) ≡ d
        → run lim (x ∷ ts) S c (tk m k ∷ γ) κ ≡ whole (choose b (choose d (past (x ∷ ts)) (got x (tick c m x) ts)) (not_got (x ∷ ts)))
        (λ v c' ts'. run lim ts' S c' γ (κ v))
    go true e true w = taken lim x ts S c m k γ κ e ∙ ap (λ (b : Bool). keep (x ∷ ts) b (run lim ts S (tick c m x) γ (κ x))) w
    go true e false w = taken lim x ts S c m k γ κ e ∙ ap (λ (b : Bool). keep (x ∷ ts) b (run lim ts S (tick c m x) γ (κ x))) w
    go false e d w = not_taken lim x ts S c m k γ κ e

-- The empty production.
some_same : {A : Type 0} (a b : A) → some a ≡ some b → a ≡ b
some_same a b e = cc

none_some : {A : Type 0} (a : A) → none ≡ some a → ⊥
none_some a e = let z : ◌≡◌ {A = ℕ} 0 1 = cc in omega arith

of_empty_is : (M : NonTerminal) (v : Says M) (δ : List Sym) (f : Fun δ (Says M)) (o : Option (Says M)) → of_empty M δ f o ≡ some v
    → (◌≡◌ {A = Production M} (δ ↠ f) ([] ↠ v)) ⊎ (o ≡ some v)
unfolding of_empty
of_empty_is M v [] f o e = inl (ap (λ (u : Says M). ◌↠◌ {M = M} [] u) (some_same f v e))
of_empty_is M v (s ∷ δ) f o e = inr e

empty_is : (M : NonTerminal) (v : Says M) (rs : List (Production M)) → empty_rule rs ≡ some v → ([] ↠ v) ∈ rs
unfolding empty_rule
empty_is M v [] e = absurd (none_some v e)
empty_is M v (r ∷ rs) e = go (of_empty_is M v r.rhs r.says (empty_rule rs) e) (empty_is M v rs)
  where
    go : (◌≡◌ {A = Production M} r ([] ↠ v)) ⊎ (empty_rule rs ≡ some v) → (empty_rule rs ≡ some v → ([] ↠ v) ∈ rs) → ([] ↠ v) ∈ (r ∷ rs)
    go (inl q) ih = subst (λ (t : Production M). t ∈ (r ∷ rs)) q here
    go (inr q) ih = there (ih q)

-- The tokens left are fewer, or nothing was read and may be.
abbrev Moves : Bool → List Token → List Token → Type 0
Moves b ts us = (length us < length ts) ⊎ ((us ≡ ts) × T b)

all_map : {A : Type 0} (P Q : List Token → Type 0) → ((us : List Token) → P us → Q us) → (g : Got A) → All P g → All Q g
all_map P Q h (got a c ts) p = h ts p
all_map P Q h (not_got ts) p = tt
all_map P Q h (past ts) p = tt

both : (a b : Bool) → T a → T b → T (a && b)
both true b t u = u
both false b t u = t

shorter_moves : (b d : Bool) (ts ts' us : List Token) → length ts' < length ts → Moves b ts' us → Moves d ts us
shorter_moves b d ts ts' us h (inl p) = inl (omega arith)
shorter_moves b d ts ts' us h (inr p) = inl (subst (λ (l : List Token). length l < length ts) (sym p.0) h)

moves_moves : (a b : Bool) (ts ts' us : List Token) → Moves a ts ts' → Moves b ts' us → Moves (a && b) ts us
moves_moves a b ts ts' us (inl p) q = shorter_moves b (a && b) ts ts' us p q
moves_moves a b ts ts' us (inr p) (inl q) = inl (subst (λ (l : List Token). length us < length l) p.0 q)
moves_moves a b ts ts' us (inr p) (inr q) = inr (q.0 ∙ p.0, both a b p.1 q.1)

module _ (lim : Meter → Bool) (rec : (M : NonTerminal) → Meter → List Token → Got (Says M))
    (moves : (A : NonTerminal) (c : Meter) (ts : List Token) → All (Moves (nullable A) ts) (rec A c ts)) where
  each_moves : (M : NonTerminal) (δ : List Sym) (f : Fun δ (Says M)) (c : Meter) (ts : List Token) → All (Moves (nullables δ) ts) (each lim rec M δ f c ts)
  unfolding each nullables
  each_moves M [] f c ts = inr (refl, tt)
  each_moves M (tk m k ∷ δ) f c ts =
      all_next (Shorter ts) (Moves false ts) (one lim m k c ts) (λ v c' ts'. each lim rec M δ (f v) c' ts') (one_shorter lim m k c ts)
      (λ v c' ts' p. all_map (Moves (nullables δ) ts') (Moves false ts) (λ us q. shorter_moves (nullables δ) false ts ts' us p q)
      (each lim rec M δ (f v) c' ts') (each_moves M δ (f v) c' ts'))
  each_moves M (nt A ∷ δ) f c ts =
      all_next (Moves (nullable A) ts) (Moves (nullable A && nullables δ) ts) (rec A c ts) (λ v c' ts'. each lim rec M δ (f v) c' ts') (moves A c ts)
      (λ v c' ts' p. all_map (Moves (nullables δ) ts') (Moves (nullable A && nullables δ) ts) (λ us q. moves_moves (nullable A) (nullables δ) ts ts' us p q)
      (each lim rec M δ (f v) c' ts') (each_moves M δ (f v) c' ts'))

  leave_moves : (M : NonTerminal) (c : Meter) (ts : List Token) (o : Option (Says M)) → empty_rule (productions M) ≡ o
      → All (Moves (nullable M) ts) (leave o c ts)
  unfolding leave nullables
  leave_moves M c ts none e = tt
  leave_moves M c ts (some v) e = inr (refl, vanishes (empty_is M v (productions M) e) tt)

  chosen_moves : (M : NonTerminal) (c : Meter) (ts : List Token) (k : ℕ) (p : Pick M) → pick (productions M) k ≡ p
      → All (Moves (nullable M) ts) (chosen_rule lim rec M c ts p)
  unfolding chosen_rule
  chosen_moves M c ts k no_rule e = leave_moves M c ts (empty_rule (productions M)) refl
  chosen_moves M c ts k (take r) e = all_map (Moves (nullables r.rhs) ts) (Moves (nullable M) ts) (λ us q. go us q) (each lim rec M r.rhs r.says c ts)
      (each_moves M r.rhs r.says c ts)
    where
      go : (us : List Token) → Moves (nullables r.rhs) ts us → Moves (nullable M) ts us
      go us (inl q) = inl q
      go us (inr q) = inr (q.0, vanishes (pick_rule r k e) q.1)

  headed_moves : (M : NonTerminal) (c : Meter) (ts : List Token) → All (Moves (nullable M) ts) (headed lim rec M c ts)
  unfolding headed
  headed_moves M c [] = leave_moves M c [] (empty_rule (productions M)) refl
  headed_moves M c (x ∷ ts) = chosen_moves M c (x ∷ ts) x.kind (pick (productions M) x.kind) refl

descend_moves : (n : ℕ) (lim : Meter → Bool) (A : NonTerminal) (c : Meter) (ts : List Token) → All (Moves (nullable A) ts) (descend n lim A c ts)
unfolding descend
descend_moves zero lim A c ts = tt
descend_moves (suc n) lim A c ts = headed_moves lim (descend n lim) (descend_moves n lim) A c ts

-- The descent at M, from c and ts, is what run does, whatever is to come.
abbrev pub Does : (Meter → Bool) → (M : NonTerminal) → Meter → List Token → Got (Says M) → Type 0
Does lim M c ts g = (S : NonTerminal) (γ : List Sym) (κ : Says M → Fun γ (Says S)) → Ok (nt M ∷ γ)
    → run lim ts S c (nt M ∷ γ) κ ≡ whole g (λ v c' ts'. run lim ts' S c' γ (κ v))

-- deep enough for δ: by rank, as long as nothing is read, and after that in any case
abbrev Enough : ℕ → ℕ → List Sym → List Token → Type 0
Enough n r δ ts = (T (lead r δ) × (8 * length ts + r ≤ n)) ⊎ (8 * length ts + 8 ≤ n)

enough_token : (n r : ℕ) (δ δ' : List Sym) (ts us : List Token) → r ≤ 8 → Enough n r δ ts → length us < length ts → Enough n r δ' us
enough_token n r δ δ' ts us l (inl p) h = inr (go p.1)
  where
    go : 8 * length ts + r ≤ n → 8 * length us + 8 ≤ n
    go q = omega arith
enough_token n r δ δ' ts us l (inr p) h = inr (omega arith)

enough_rec : (n r : ℕ) (A : NonTerminal) (δ : List Sym) (ts : List Token) → Enough n r (nt A ∷ δ) ts → 8 * length ts + rank A < n
unfolding lead
enough_rec n r A δ ts (inl p) = go (ltb→lt (rank A) r (and_left (ltb (rank A) r) (choose (nullable A) (lead r δ) true) p.0)) p.1
  where
    go : rank A < r → 8 * length ts + r ≤ n → 8 * length ts + rank A < n
    go h q = omega arith
enough_rec n r A δ ts (inr p) = go (ltb→lt (rank A) 8 (rank_ok A)) p
  where
    go : rank A < 8 → 8 * length ts + 8 ≤ n → 8 * length ts + rank A < n
    go h q = omega arith

enough_part : (n r : ℕ) (A : NonTerminal) (δ : List Sym) (ts us : List Token) → r ≤ 8 → Enough n r (nt A ∷ δ) ts → Moves (nullable A) ts us → Enough n r δ us
unfolding lead
enough_part n r A δ ts us l e (inl h) = enough_token n r (nt A ∷ δ) δ ts us l e h
enough_part n r A δ ts us l (inl p) (inr h) =
    subst (λ (t : List Token). Enough n r δ t) (sym h.0)
    (inl (if_so (nullable A) (lead r δ) (and_right (ltb (rank A) r) (choose (nullable A) (lead r δ) true) p.0) h.1, p.1))
enough_part n r A δ ts us l (inr p) (inr h) = subst (λ (t : List Token). Enough n r δ t) (sym h.0) (inr p)

module _ (lim : Meter → Bool) (n : ℕ) (rec : (M : NonTerminal) → Meter → List Token → Got (Says M))
    (moves : (A : NonTerminal) (c : Meter) (ts : List Token) → All (Moves (nullable A) ts) (rec A c ts))
    (does : (A : NonTerminal) (c : Meter) (ts : List Token) → 8 * length ts + rank A < n → Does lim A c ts (rec A c ts)) where
  each_does : (M : NonTerminal) (r : ℕ) → r ≤ 8 → (δ : List Sym) (f : Fun δ (Says M)) (c : Meter) (ts : List Token) → Enough n r δ ts
      → (S : NonTerminal) (γ : List Sym) (κ : Says M → Fun γ (Says S)) → Ok (δ ++ γ)
      → run lim ts S c (δ ++ γ) (compose M S δ γ f κ) ≡ whole (each lim rec M δ f c ts) (λ v c' ts'. run lim ts' S c' γ (κ v))
  unfolding each compose whole
  each_does M r l [] f c ts e S γ κ o = refl
  each_does M r l (tk m k ∷ δ) f c ts e S γ κ o =
      one_whole lim m k c ts S (δ ++ γ) (λ v. compose M S δ γ (f v) κ)
      ∙ (whole_same (Shorter ts) (one lim m k c ts) (λ v c' ts'. run lim ts' S c' (δ ++ γ) (compose M S δ γ (f v) κ))
      (λ v c' ts'. whole (each lim rec M δ (f v) c' ts') (λ u c'' ts''. run lim ts'' S c'' γ (κ u))) (one_shorter lim m k c ts)
      (λ v c' ts' p. each_does M r l δ (f v) c' ts' (enough_token n r (tk m k ∷ δ) δ ts ts' l e p) S γ κ o)
      ∙ sym (whole_next (one lim m k c ts) (λ v c' ts'. each lim rec M δ (f v) c' ts') (λ u c'' ts''. run lim ts'' S c'' γ (κ u))))
  each_does M r l (nt A ∷ δ) f c ts e S γ κ o =
      does A c ts (enough_rec n r A δ ts e) S (δ ++ γ) (λ v. compose M S δ γ (f v) κ) o
      ∙ (whole_same (Moves (nullable A) ts) (rec A c ts) (λ v c' ts'. run lim ts' S c' (δ ++ γ) (compose M S δ γ (f v) κ))
      (λ v c' ts'. whole (each lim rec M δ (f v) c' ts') (λ u c'' ts''. run lim ts'' S c'' γ (κ u))) (moves A c ts)
      (λ v c' ts' p. each_does M r l δ (f v) c' ts' (enough_part n r A δ ts ts' l e p) S γ κ o.2)
      ∙ sym (whole_next (rec A c ts) (λ v c' ts'. each lim rec M δ (f v) c' ts') (λ u c'' ts''. run lim ts'' S c'' γ (κ u))))

  end_does : (M : NonTerminal) (c : Meter) (o : Option (Says M)) → empty_rule (productions M) ≡ o → Does lim M c [] (leave o c [])
  unfolding leave whole
  end_does M c none e S γ κ o = missing lim S c (nt M) γ κ
  end_does M c (some v) e S γ κ o = left_out_end lim S c M γ κ o v (empty_is M v (productions M) e)

  leave_does : (M : NonTerminal) (c : Meter) (x : Token) (ts : List Token) → pick (productions M) x.kind ≡ no_rule → (o : Option (Says M))
      → empty_rule (productions M) ≡ o → Does lim M c (x ∷ ts) (leave o c (x ∷ ts))
  unfolding leave whole
  leave_does M c x ts q none e S γ κ o = run_stuck lim S c M γ κ x ts q
  leave_does M c x ts q (some v) e S γ κ o = left_out_at lim S c M γ κ o v (empty_is M v (productions M) e) x ts q

  chosen_does : (M : NonTerminal) (c : Meter) (x : Token) (ts : List Token) → 8 * length (x ∷ ts) + rank M ≤ n → (p : Pick M)
      → pick (productions M) x.kind ≡ p → Does lim M c (x ∷ ts) (chosen_rule lim rec M c (x ∷ ts) p)
  unfolding chosen_rule
  chosen_does M c x ts b no_rule e S γ κ o = leave_does M c x ts e (empty_rule (productions M)) refl S γ κ o
  chosen_does M c x ts b (take r) e S γ κ o =
      by_rule_lem lim x ts S c M γ κ r e
      ∙ each_does M (rank M) low r.rhs r.says c (x ∷ ts) (inl (lead_ok m, b)) S γ κ (ok_rule_lem M r.rhs γ (inside_ok m) o)
    where
      m : r ∈ productions M
      m = pick_rule r x.kind e

      less : {a : ℕ} → a < 8 → a ≤ 8
      less h = omega arith

      low : rank M ≤ 8
      low = less (ltb→lt (rank M) 8 (rank_ok M))

  headed_does : (M : NonTerminal) (c : Meter) (ts : List Token) → 8 * length ts + rank M < suc n → Does lim M c ts (headed lim rec M c ts)
  unfolding headed
  headed_does M c [] b S γ κ o = end_does M c (empty_rule (productions M)) refl S γ κ o
  headed_does M c (x ∷ ts) b S γ κ o = chosen_does M c x ts (omega arith) (pick (productions M) x.kind) refl S γ κ o

pub descend_does : (n : ℕ) (lim : Meter → Bool) (M : NonTerminal) (c : Meter) (ts : List Token) → 8 * length ts + rank M < n
    → Does lim M c ts (descend n lim M c ts)
unfolding descend
descend_does zero lim M c ts b S γ κ o = absurd (below b)
  where
    below : {m : ℕ} → m < 0 → ⊥
    below h = omega arith
descend_does (suc n) lim M c ts b S γ κ o = headed_does lim n (descend n lim) (descend_moves n lim) (descend_does n lim) M c ts b S γ κ o

-- A whole text by descent: its one production's right-hand side, and then nothing may be left.
unfoldable pub ended : Text → Meter → List Token → Outcome Text
ended v c [] = read v
ended v c (x ∷ ts) = refused (x ∷ ts)

last : (lim : Meter → Bool) (v : Text) (c : Meter) (us : List Token) → run lim us text c [] v ≡ ended v c us
unfolding run at_end after advance ended
last lim v c [] = refl
last lim v c (x ∷ us) = refl

anything : {A : Type 0} (g : Got A) → All (λ us. Unit {0}) g
anything (got a c ts) = tt
anything (not_got ts) = tt
anything (past ts) = tt

pub text_descends : (n : ℕ) (lim : Meter → Bool) (ts : List Token) → 8 * length ts + 8 ≤ n
    → read_text lim ts ≡ whole (each lim (descend n lim) text text_production.rhs text_production.says zeroes ts) ended
unfolding read_text text_production ok_syms firsts first nullables nullable follow subset elem compose
text_descends n lim ts h =
    each_does lim n (descend n lim) (descend_moves n lim) (λ A c us b. descend_does n lim A c us b) text 0 (omega arith) text_production.rhs
    text_production.says zeroes ts (inr h) text [] (λ v. v) (tested text_production.rhs tt)
    ∙ whole_same (λ us. Unit {0}) (each lim (descend n lim) text text_production.rhs text_production.says zeroes ts)
    (λ v c us. run lim us text c [] v) ended
    (anything (each lim (descend n lim) text text_production.rhs text_production.says zeroes ts)) (λ v c us u. last lim v c us)
