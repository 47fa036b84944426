-- Every text gets exactly one answer: it is valid, and then means one process, or it is refused, and then by one number at one place. Each statement
-- is read off the computed verdict, of which there is one. Assumes nothing.
use mathlib.Core.Path.{◌≡◌, refl, sym, ◌∙◌, ap, subst}
use mathlib.Core.Logic.{◌⊎◌, inl, inr}
use mathlib.Core.List.{List}
use Prim.Native.Nat.{ℕ}
use native.Mathlib.Omega.{arith}
use Rattle.spec_grammar.specs.Token.{Token}
use Rattle.spec_grammar.specs.Tree.{Text}
use Rattle.spec_grammar.specs.Grammar.{text}
use Rattle.spec_grammar.specs.Derivation.{Reads}
use Rattle.spec_grammar.proofs.Exact as Grammar
use Rattle.spec_design.specs.Process.{Process}
use Rattle.spec_language.specs.Reading.{reading}
use Rattle.spec_language.specs.Verdict.{Verdict, accepted, refused, verdict}
use Rattle.spec_language.specs.Validity.{Parses, Valid, Refuses}
use Rattle.spec_language.proofs.LexExact.{one_lexing}
use Rattle.spec_language.proofs.Judged.{accepts, refuses}

-- a text is valid or refused
pub one_answer : (b : List ℕ) → ((d : Process) × Valid b d) ⊎ ((n p : ℕ) × Refuses b n p)
one_answer b = go (verdict b) refl
  where
    go : (v : Verdict) → verdict b ≡ v → ((d : Process) × Valid b d) ⊎ ((n p : ℕ) × Refuses b n p)
    go (accepted d) e = inl (d, (accepts b d).0 e)
    go (refused n p) e = inr (n, p, (refuses b n p).0 e)

-- a valid text means one process
pub valid_one : {b : List ℕ} {d e : Process} → Valid b d → Valid b e → d ≡ e
valid_one {b} {d} {e} v w = let z : accepted d ≡ accepted e = sym ((accepts b d).1 v) ∙ (accepts b e).1 w in cc

-- a refused text is refused by one number, at one place
pub refuses_one : {b : List ℕ} {n p m q : ℕ} → Refuses b n p → Refuses b m q → (n ≡ m) × (p ≡ q)
refuses_one {b} {n} {p} {m} {q} r s = let z : refused n p ≡ refused m q = sym ((refuses b n p).1 r) ∙ (refuses b m q).1 s in (cc, cc)

-- no text is both
pub not_both : {b : List ℕ} {d : Process} {n p : ℕ} → Valid b d → Refuses b n p → ⊥
not_both {b} {d} {n} {p} v r =
    let z : accepted d ≡ refused n p = sym ((accepts b d).1 v) ∙ (refuses b n p).1 r in
    let w : ◌≡◌ {A = ℕ} 0 1 = cc in
    omega arith

-- A text has one tree: it has one list of tokens, and they have one tree.
pub one_tree : {b : List ℕ} {t u : Text} → Parses b t → Parses b u → t ≡ u
one_tree {b} {t} {u} p q =
    let e : p.tokens ≡ q.tokens = one_lexing b p.tokens q.tokens p.lexes q.lexes in
    let r : Reads text q.tokens p.marks t = subst (λ (ts : List Token). Reads text ts p.marks t) e p.reads in
    Grammar.one_reading q.tokens p.marks q.marks t u r q.reads

-- "it has one reading"
pub one_reading : {b : List ℕ} {t u : Text} → Parses b t → Parses b u → reading t ≡ reading u
one_reading p q = ap reading (one_tree p q)
