-- The verdict is exactly what is promised. Assumes nothing.
use mathlib.Core.Path.{◌≡◌, refl, sym, ◌∙◌, ap, subst}
use mathlib.Core.Bool.{Bool, true, false}
use mathlib.Core.Logic.{◌↔◌}
use mathlib.Core.Option.{Option, none, some}
use mathlib.Core.List.{List, [], ◌∷◌}
use Prim.Native.Nat.{ℕ, ◌≤◌, ◌<◌}
use native.Mathlib.Omega.{arith}
use native.Mathlib.Decide.{dec_le}
use lib.Dec.{leb, leb→le, le→leb}
use lib.ListN.{length}
use Rattle.spec_grammar.specs.Token.{Token}
use Rattle.spec_grammar.specs.Tree.{Text}
use Rattle.spec_grammar.specs.Acceptance as P
use Rattle.spec_grammar.specs.Acceptance.{Answer}
use Rattle.spec_grammar.specs.Reader.{answer}
use Rattle.spec_grammar.proofs.Exact.{answers}
use Rattle.spec_grammar.proofs.Limits.{exactly_limits}
use Rattle.spec_design.specs.Process.{Process}
use Rattle.spec_language.specs.Lexer.{Lexed, tokens, lex}
use Rattle.spec_language.specs.Lexer as L
use Rattle.spec_language.specs.Names.{names}
use Rattle.spec_language.specs.Typing.{types}
use Rattle.spec_language.specs.Values.{values}
use Rattle.spec_language.specs.Clock.{clock}
use Rattle.spec_language.specs.Classes.{loops}
use Rattle.spec_language.specs.Rules.{Offence, Stage, table}
use Rattle.spec_language.specs.Elaboration.{Elaborates, elaborate}
use Rattle.spec_language.specs.Verdict.{Verdict, accepted, refused, on_accepted, lowest_offence, judged, ruled, parsed, lexed, verdict}
use Rattle.spec_language.specs.Validity.{Free, First, Parses, Valid, Refuses}
use Rattle.spec_language.specs.Validity as Q
use Rattle.spec_language.proofs.Facts.{clash, T_is, is_T}
use Rattle.spec_language.proofs.Offences.{lowest_is, lowest_none, is_lowest, by_nil}
use Rattle.spec_language.proofs.Elaborated.{Clean, elaborated, elaborated_only}
use Rattle.spec_language.proofs.LexExact.{lex_tokens, lex_stops}

-- the rules
ruled_free : (rs : List Stage) (t : Text) → Free rs t → ruled rs t ≡ accepted (elaborate t)
unfolding ruled judged lowest_offence
ruled_free [] t f = refl
ruled_free (r ∷ rs) t f = rw f.0 (ruled_free rs t f.1)

ruled_first : (rs : List Stage) (t : Text) (n p : ℕ) → First t n p rs → ruled rs t ≡ refused n p
unfolding ruled judged lowest_offence
ruled_first [] t n p i = elim i [ ]
ruled_first (r ∷ rs) t n p (Q.First.here h) = rw (is_lowest (r t) (record { number = n; place = p }) h)
ruled_first (r ∷ rs) t n p (Q.First.there e h) = rw e (ruled_first rs t n p h)

abbrev RuledRight : List Stage → Text → Verdict → Type 0
RuledRight rs t v = on_accepted (λ d. Free rs t × (elaborate t ≡ d)) (λ n p. First t n p rs) v

ruled_right : (rs : List Stage) (t : Text) → RuledRight rs t (ruled rs t)
unfolding ruled judged
ruled_right [] t = (tt, refl)
ruled_right (r ∷ rs) t = go (lowest_offence (r t)) refl (ruled rs t) (ruled_right rs t)
  where
    go : (o : Option Offence) → lowest_offence (r t) ≡ o → (v : Verdict) → RuledRight rs t v → RuledRight (r ∷ rs) t (judged o v)
    go none e (accepted d) h = ((lowest_none (r t) e, h.0), h.1)
    go none e (refused n p) h = Q.First.there (lowest_none (r t) e) h
    go (some a) e v h = Q.First.here (lowest_is (r t) a e)

pub clean : (t : Text) → Free table t → Clean t
unfolding table
clean t f =
    record {
      names = by_nil 5 names t f.0;
      types = by_nil 6 types t f.1.0;
      values = by_nil 7 values t f.1.1.0;
      clock = by_nil 8 clock t f.1.1.1.0;
      loops = by_nil 9 loops t f.1.1.1.1.0;
    }

-- all stages: what is computed is so
abbrev Right : List ℕ → Verdict → Type 0
Right b v = on_accepted (Valid b) (Refuses b) v

parses : (b : List ℕ) (ts : List Token) (t : Text) → length b ≤ 16384 → lex b ≡ tokens ts → answer ts ≡ P.accepted t → Parses b t
parses b ts t s l e = let x = (exactly_limits ts t).0 e in
    record { short = s; tokens = ts; lexes = (lex_tokens b ts).0 l; marks = x.0; reads = x.1; limits = x.2 }

pub right : (b : List ℕ) → Right b (verdict b)
unfolding verdict lexed parsed
right b = size (leb (length b) 16384) refl
  where
    rules : (t : Text) → Parses b t → (v : Verdict) → RuledRight table t v → Right b v
    rules t p (accepted d) h = record { tree = t; parses = p; free = h.0; means = subst (Elaborates t) h.1 (elaborated t (clean t h.0)) }
    rules t p (refused n q) h = Q.offends p h

    parse : length b ≤ 16384 → (ts : List Token) → lex b ≡ tokens ts → (a : Answer) → answer ts ≡ a → Right b (parsed (length b) ts a)
    parse s ts l (P.accepted t) e = rules t (parses b ts t s l e) (ruled table t) (ruled_right table t)
    parse s ts l (P.no_sentence k) e = Q.no_sentence ts s ((lex_tokens b ts).0 l) ((answers ts (P.no_sentence k)).0 e)
    parse s ts l (P.past_limit k) e = Q.past_limit ts s ((lex_tokens b ts).0 l) ((answers ts (P.past_limit k)).0 e)

    lexing : length b ≤ 16384 → (x : Lexed) → lex b ≡ x → Right b (lexed (length b) x)
    lexing s (tokens ts) l = parse s ts l (answer ts) refl
    lexing s (L.malformed p) l = Q.token_missing s ((lex_stops b p).0 l)

    long : leb (length b) 16384 ≡ false → 16384 < length b
    long e = at (dec_le (length b) 16384)
      where
        at : Dec (length b ≤ 16384) → 16384 < length b
        at (yes h) = clash (sym (T_is (leb (length b) 16384) (le→leb (length b) 16384 h)) ∙ e)
        at (no h) = omega arith

    size : (q : Bool) → leb (length b) 16384 ≡ q → Right b (verdict b)
    size true e = rw e (lexing (leb→le (length b) 16384 (is_T e)) (lex b) refl)
    size false e = rw e (Q.too_long (long e))

-- what is so is computed
parses_computed : (b : List ℕ) (t : Text) → Parses b t → verdict b ≡ ruled table t
unfolding verdict lexed parsed
parses_computed b t p =
    let s = T_is (leb (length b) 16384) (le→leb (length b) 16384 p.short) in
    let l = (lex_tokens b p.tokens).1 p.lexes in
    let a = (exactly_limits p.tokens t).1 (p.marks, p.reads, p.limits) in
    rw (s, l, a)

valid_computed : (b : List ℕ) (d : Process) → Valid b d → verdict b ≡ accepted d
valid_computed b d v = parses_computed b v.tree v.parses
    ∙ (ruled_free table v.tree v.free ∙ ap accepted (elaborated_only v.tree d (clean v.tree v.free) v.means))

refuses_computed : (b : List ℕ) (n p : ℕ) → Refuses b n p → verdict b ≡ refused n p
unfolding verdict lexed parsed
refuses_computed b n p (Q.too_long h) = at (leb (length b) 16384) refl
  where
    at : (q : Bool) → leb (length b) 16384 ≡ q → verdict b ≡ refused 1 0
    at true e = let k = leb→le (length b) 16384 (is_T e) in absurd (omega arith)
    at false e = rw e
refuses_computed b n p (Q.token_missing s h) = rw (T_is (leb (length b) 16384) (le→leb (length b) 16384 s), (lex_stops b p).1 h)
refuses_computed b n p (Q.no_sentence {k} ts s l e) =
    rw (T_is (leb (length b) 16384) (le→leb (length b) 16384 s), (lex_tokens b ts).1 l, (answers ts (P.no_sentence k)).1 e)
refuses_computed b n p (Q.past_limit {k} ts s l e) =
    rw (T_is (leb (length b) 16384) (le→leb (length b) 16384 s), (lex_tokens b ts).1 l, (answers ts (P.past_limit k)).1 e)
refuses_computed b n p (Q.offends {t} q f) = parses_computed b t q ∙ ruled_first table t n p f

-- THE THEOREMS
pub accepts : (b : List ℕ) (d : Process) → (verdict b ≡ accepted d) ↔ Valid b d
accepts b d = (λ e. subst (Right b) e (right b), valid_computed b d)

pub refuses : (b : List ℕ) (n p : ℕ) → (verdict b ≡ refused n p) ↔ Refuses b n p
refuses b n p = (λ e. subst (Right b) e (right b), refuses_computed b n p)
