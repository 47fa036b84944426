-- The reader is right about every list of symbols that it can be at. Assumes nothing.
use mathlib.Core.Path.{◌≡◌, refl, sym, subst, ap}
use mathlib.Core.Bool.{Bool, true, false}
use mathlib.Core.List.{List, [], ◌∷◌, ◌++◌}
use Prim.Native.Nat.{ℕ, zero, suc, ◌<◌}
use native.Mathlib.Nat.{le_of_suc-le-suc, not-suc-le-zero}
use lib.Dec.{T}
use lib.ListN.{length, take}
use Rattle.spec_grammar.specs.Token.{Token}
use Rattle.spec_grammar.specs.Grammar.{NonTerminal, Says, Mark, Sym, tk, nt, Fun}
use Rattle.spec_grammar.specs.Meter.{Meter, tick, gauge}
use Rattle.spec_grammar.specs.Derivation.{Trees, empty, token, child, span, spans, marks, says_all}
use Rattle.spec_grammar.specs.Reader.{Step, stuck, skip, to, advance, Outcome, read, refused, limited, at_end, keep, after, run}
use Rattle.spec_grammar.proofs.Trees.{nil_cons, Has, nulls, empty_right}
use Rattle.spec_grammar.proofs.Steps.{Ok, Spec, Onto, Off, Past, Never, advance_spec}
use Rattle.spec_grammar.proofs.Completions.{fill}

-- some text begins with w
pub record Starts (S : NonTerminal) (γ : List Sym) (κ : Fun γ (Says S)) (w : List Token) : Type 0 where
  pub later : List Token
  pub es : List Mark
  pub v : Says S
  pub has : Has S γ κ (w ++ later) es v

-- in some text that begins with w, the counts c are over after w
pub record Over (lim : Meter → Bool) (S : NonTerminal) (γ : List Sym) (κ : Fun γ (Says S)) (c : Meter) (w : List Token) : Type 0 where
  pub later : List Token
  pub es : List Mark
  pub v : Says S
  pub has : Has S γ κ (w ++ later) es v
  pub passed : T (lim (gauge c w es))

-- they are over after no token of w
abbrev pub Clear : (lim : Meter → Bool) (S : NonTerminal) (γ : List Sym) (κ : Fun γ (Says S)) → Meter → List Token → Type 0
Clear lim S γ κ c w = (j : ℕ) → j < length w → Over lim S γ κ c (take (suc j) w) → ⊥

-- what is left begins with the first token that cannot go on; where nothing is left, the whole can go on, and must
abbrev pub Cannot : (S : NonTerminal) (γ : List Sym) → Fun γ (Says S) → (w rest : List Token) → Type 0
Cannot S γ κ w [] = (es : List Mark) (v : Says S) → Has S γ κ w es v → ⊥
Cannot S γ κ w (y ∷ rest) = Starts S γ κ (w ++ (y ∷ [])) → ⊥

pub record Refused (lim : Meter → Bool) (S : NonTerminal) (γ : List Sym) (κ : Fun γ (Says S)) (c : Meter) (ts rest : List Token) : Type 0 where
  pub before : List Token
  pub parts : ts ≡ before ++ rest
  pub goes_on : Starts S γ κ before
  pub cannot : Cannot S γ κ before rest
  pub clear : Clear lim S γ κ c before

pub record Limited (lim : Meter → Bool) (S : NonTerminal) (γ : List Sym) (κ : Fun γ (Says S)) (c : Meter) (ts rest : List Token) : Type 0 where
  pub before : List Token
  pub x : Token
  pub others : List Token
  pub left : rest ≡ x ∷ others
  pub parts : ts ≡ before ++ rest
  pub passes : Over lim S γ κ c (before ++ (x ∷ []))
  pub clear : Clear lim S γ κ c before

pub record Accepted (lim : Meter → Bool) (S : NonTerminal) (γ : List Sym) (κ : Fun γ (Says S)) (c : Meter) (ts : List Token) (v : Says S) : Type 0 where
  pub es : List Mark
  pub has : Has S γ κ ts es v
  pub one : (fs : List Mark) (u : Says S) → Has S γ κ ts fs u → u ≡ v
  pub clear : Clear lim S γ κ c ts

abbrev pub Right : (lim : Meter → Bool) (S : NonTerminal) (γ : List Sym) → Fun γ (Says S) → Meter → List Token → Outcome (Says S) → Type 0
Right lim S γ κ c ts (read v) = Accepted lim S γ κ c ts v
Right lim S γ κ c ts (refused rest) = Refused lim S γ κ c ts rest
Right lim S γ κ c ts (limited rest) = Limited lim S γ κ c ts rest

pub some_text : (S : NonTerminal) (γ : List Sym) (κ : Fun γ (Says S)) → Starts S γ κ []
some_text S γ κ = record {
  later = spans (fill γ);
  es = marks (fill γ);
  v = says_all (fill γ) S κ;
  has = record { trees = fill γ; spanned = refl; marked = refl; said = refl };
}

clear_nil : (lim : Meter → Bool) (S : NonTerminal) (γ : List Sym) (κ : Fun γ (Says S)) (c : Meter) → Clear lim S γ κ c []
clear_nil lim S γ κ c j h = absurd (not-suc-le-zero h)

-- something is still to come, and there are no tokens
no_text : (s : Sym) (γ : List Sym) → Ok (s ∷ γ) → (ds : Trees (s ∷ γ)) → spans ds ≡ [] → ⊥
unfolding spans
no_text (tk m k) γ o (token x e ds) q = nil_cons (sym q)
no_text (nt M) γ o (child d ds) q = o.1 (nulls ds (empty_right (span d) (spans ds) q))

nothing_said : (S : NonTerminal) (κ : Says S) (u : Says S) (ds : Trees []) → says_all ds S κ ≡ u → u ≡ κ
unfolding says_all
nothing_said S κ u empty e = sym e

end_right : (lim : Meter → Bool) (S : NonTerminal) (c : Meter) (γ : List Sym) (κ : Fun γ (Says S)) → Ok γ → Right lim S γ κ c [] (at_end S γ κ)
unfolding at_end spans marks says_all
end_right lim S c [] κ o = record {
  es = [];
  has = record { trees = empty; spanned = refl; marked = refl; said = refl };
  one = λ fs u h. nothing_said S κ u h.trees h.said;
  clear = clear_nil lim S [] κ c;
}
end_right lim S c (s ∷ γ) κ o = record {
  before = [];
  parts = refl;
  goes_on = some_text S (s ∷ γ) κ;
  cannot = λ es v h. no_text s γ o h.trees h.spanned;
  clear = clear_nil lim S (s ∷ γ) κ c;
}

-- no text begins with x: refused there
here_right : (lim : Meter → Bool) (S : NonTerminal) (c : Meter) (γ : List Sym) (κ : Fun γ (Says S)) (x : Token) (ts : List Token) → Never S x γ κ
    → Refused lim S γ κ c (x ∷ ts) (x ∷ ts)
here_right lim S c γ κ x ts h = record
    { before = []; parts = refl; goes_on = some_text S γ κ; cannot = λ s. h s.later s.es s.v s.has; clear = clear_nil lim S γ κ c }

pub nothing_left : (S : NonTerminal) (κ : Says S) (x : Token) → Never S x [] κ
unfolding spans
nothing_left S κ x us es v h = go h.trees h.spanned
  where
    go : (ds : Trees []) → spans ds ≡ x ∷ us → ⊥
    go empty e = nil_cons e

-- the token x is taken, with the mark m: what is known after it is known before it
module _ (lim : Meter → Bool) (S : NonTerminal) (γ : List Sym) (κ : Fun γ (Says S)) (δ : List Sym) (κ' : Fun δ (Says S)) (c : Meter) (x : Token) (m : Mark)
    (on : Onto S x m γ κ δ κ') (off : Off S x m γ κ δ κ') where
  starts_on : (w : List Token) → Starts S δ κ' w → Starts S γ κ (x ∷ w)
  starts_on w s = record { later = s.later; es = m ∷ s.es; v = s.v; has = on (w ++ s.later) s.es s.v s.has }

  starts_off : (w : List Token) → Starts S γ κ (x ∷ w) → Starts S δ κ' w
  starts_off w s =
      let p : Past S m δ κ' (w ++ s.later) s.es s.v = off (w ++ s.later) s.es s.v s.has in
      record { later = s.later; es = p.others; v = s.v; has = p.has }

  over_on : (w : List Token) → Over lim S δ κ' (tick c m x) w → Over lim S γ κ c (x ∷ w)
  unfolding gauge
  over_on w s = record { later = s.later; es = m ∷ s.es; v = s.v; has = on (w ++ s.later) s.es s.v s.has; passed = s.passed }

  over_off : (w : List Token) → Over lim S γ κ c (x ∷ w) → Over lim S δ κ' (tick c m x) w
  unfolding gauge
  over_off w s =
      let p : Past S m δ κ' (w ++ s.later) s.es s.v = off (w ++ s.later) s.es s.v s.has in
      record {
        later = s.later;
        es = p.others;
        v = s.v;
        has = p.has;
        passed = subst (λ (fs : List Mark). T (lim (gauge c (x ∷ w) fs))) p.begin
            s.passed;
      }

  clear_on : (lim (tick c m x) ≡ false) → (w : List Token) → Clear lim S δ κ' (tick c m x) w → Clear lim S γ κ c (x ∷ w)
  unfolding gauge
  clear_on e w k zero h s = subst T e (over_off [] s).passed
  clear_on e w k (suc j) h s = k j (le_of_suc-le-suc h) (over_off (take (suc j) w) s)

  cannot_on : (w rest : List Token) → Cannot S δ κ' w rest → Cannot S γ κ (x ∷ w) rest
  cannot_on w [] k = λ es v h. let p : Past S m δ κ' w es v = off w es v h in k p.others v p.has
  cannot_on w (y ∷ rest) k = λ s. k (starts_off (w ++ (y ∷ [])) s)

  taken_right : (lim (tick c m x) ≡ false) → (ts : List Token) (o : Outcome (Says S)) → Right lim S δ κ' (tick c m x) ts o → Right lim S γ κ c (x ∷ ts) o
  taken_right e ts (read v) h = record {
    es = m ∷ h.es;
    has = on ts h.es v h.has;
    one = λ fs u a. let p : Past S m δ κ' ts fs u = off ts fs u a in h.one p.others u p.has;
    clear = clear_on e ts h.clear;
  }
  taken_right e ts (refused rest) h = record {
    before = x ∷ h.before;
    parts = ap (λ (l : List Token). x ∷ l) h.parts;
    goes_on = starts_on h.before h.goes_on;
    cannot = cannot_on h.before rest h.cannot;
    clear = clear_on e h.before h.clear;
  }
  taken_right e ts (limited rest) h = record {
    before = x ∷ h.before;
    x = h.x;
    others = h.others;
    left = h.left;
    parts = ap (λ (l : List Token). x ∷ l) h.parts;
    passes = over_on (h.before ++ (h.x ∷ [])) h.passes;
    clear = clear_on e h.before h.clear;
  }

  keep_right : (ts : List Token) (o : Outcome (Says S)) → Right lim S δ κ' (tick c m x) ts o → (b : Bool) → lim (tick c m x) ≡ b
      → Right lim S γ κ c (x ∷ ts) (keep (x ∷ ts) b o)
  unfolding keep gauge
  keep_right ts o h true e = record {
    before = [];
    x = x;
    others = ts;
    left = refl;
    parts = refl;
    passes = over_on [] (record {
      later = (some_text S δ κ').later;
      es = (some_text S δ κ').es;
      v = (some_text S δ κ').v;
      has = (some_text S δ κ').has;
      passed = subst T (sym e) tt;
    });
    clear = clear_nil lim S γ κ c;
  }
  keep_right ts o h false e = taken_right e ts o h

after_right : (lim : Meter → Bool) (S : NonTerminal) (c : Meter) (γ : List Sym) (κ : Fun γ (Says S)) (x : Token) (ts : List Token) (s : Step S [])
    → Spec S x γ κ [] (Unit {0}) s → ((b : Meter) (δ : List Sym) (κ' : Fun δ (Says S)) → Ok δ → Right lim S δ κ' b ts (run lim ts S b δ κ'))
    → Right lim S γ κ c (x ∷ ts) (after lim c x ts s (run lim ts S))
unfolding after
after_right lim S c γ κ x ts stuck h ih = here_right lim S c γ κ x ts h
after_right lim S c γ κ x ts (skip κ') h ih = here_right lim S c γ κ x ts (λ us es v a. nothing_left S κ' x us es v (h.2 us es v a))
after_right lim S c γ κ x ts (to m δ κ') h ih =
    keep_right lim S γ κ δ κ' c x m h.1 h.2 ts (run lim ts S (tick c m x) δ κ') (ih (tick c m x) δ κ' h.0) (lim (tick c m x)) refl

pub run_right : (lim : Meter → Bool) (ts : List Token) (S : NonTerminal) (c : Meter) (γ : List Sym) (κ : Fun γ (Says S)) → Ok γ
    → Right lim S γ κ c ts (run lim ts S c γ κ)
unfolding run
run_right lim [] S c γ κ o = end_right lim S c γ κ o
run_right lim (x ∷ ts) S c γ κ o = after_right lim S c γ κ x ts (advance S x γ κ) (advance_spec S x γ κ o) (λ b δ κ' p. run_right lim ts S b δ κ' p)
