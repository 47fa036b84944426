-- From the parts of the front end to the verdict. Assumes nothing.
use mathlib.Core.Path.{◌≡◌, refl, sym, ◌∙◌, ap, subst}
use mathlib.Core.Bool.{Bool, true, false, cond}
use mathlib.Core.Option.{Option, none, some}
use mathlib.Core.List.{List, [], ◌∷◌}
use Prim.Native.Nat.{ℕ, zero, suc, ◌+◌, ◌≤◌, ◌<◌}
use native.Mathlib.Omega.{arith}
use Rattle.std.specs.Prelude.{Result, Ok, Err, MatchResult, IsOkAnd}
use lib.Dec.{leb, ltb}
use lib.ListN.{length, length-set}
use lib.IntN.{ℤ}
use borrow.Author.Tests.{ltb-true, ltb-false, le-leb, lt-leb}
use Rattle.base_answers.specs.declared.Refusal.{Refusal}
use Rattle.base_answers.specs.declared.Refusal.TheVariants.{TextTooLong, NoToken, NoSentence, LimitPassed}
use Rattle.spec_grammar.specs.Token.{Token}
use Rattle.spec_grammar.specs.Tree.{Text}
use Rattle.spec_grammar.specs.Acceptance as P
use Rattle.spec_grammar.specs.Reader.{answer}
use Rattle.spec_grammar.proofs.Limits.{exactly_limits}
use Rattle.spec_language.specs.Lexer.{lex, tokens, malformed}
use Rattle.spec_language.specs.Lexer as L
use Rattle.spec_language.specs.Rules.{Offence, Stage, table}
use Rattle.spec_language.specs.Validity as W
use Rattle.spec_language.specs.Validity.{place_of}
use Rattle.spec_language.specs.Elaboration.{elaborate}
use Rattle.spec_language.specs.Verdict.{Verdict, accepted, refused, lowest_offence, judged, ruled, parsed, lexed, verdict}
use Rattle.spec_language.proofs.Elaborated.{Clean}
use Rattle.spec_language.proofs.Offences.{lowest_none}
use Rattle.spec_language.proofs.Judged.{clean}
use Rattle.spec_language.proofs.Modes.{moded}
use Rattle.spec_language.proofs.WellFormed.{well_formed}
use Rattle.front_lexer.specs.Tokens as X
use Rattle.front_lexer.specs.Tokens.{counted}
use Rattle.front_limits.specs.Flags.{marked}
use Rattle.front_limits.proofs.Held.{marked_size, tokens_held, words_held, flags_held}
use Rattle.front_parser.specs.declared.Parsed.{Parsed}
use Rattle.front_cursor.specs.declared.Unread.{Unread}
use Rattle.front_cursor.specs.declared.Unread.TheVariants as U
use Rattle.front_parser.specs.Answers.{lent, ReadAs, parses_as, Parses}
use Rattle.front_offences.specs.Laid.{Laid}
use Rattle.front_scope.specs.Resolves as N
use Rattle.front_limits.specs.Words.{WordsIn}
use Rattle.front_offences.proofs.Tokens.{number_inside, picked, passed}
use Rattle.base_ir.specs.declared.Declared.{Declared}
use Rattle.base_answers.specs.Answers.{number_of, refused_by, told}
use Rattle.base_answers.specs.Answers as A
use Rattle.base_answers.proofs.Told.{done_refused}
use Rattle.front_accept.specs.Answered.{place_in, unread_as}
use Rattle.front_accept.specs.Stages.{shape_of, ruled_as, Ruled, Read}
use Rattle.front_accept.specs.Designs.{Border}
use Rattle.front_accept.specs.Readings.{Lexes, Holds, HoldsValues, judgement_of, JudgedAs}
use Rattle.front_elaborator.specs.Positions.{value_at, Resolves}
use Rattle.front_offences.specs.declared.Shape.{Shape}
use Rattle.front_accept.specs.Fronts.{TreeIn, DesignArrays, design_arrays, FrontAs}
use Rattle.front_layout.specs.Tokens.{token_at}
use Rattle.front_layout.specs.Rows.{Row, set_row, store_rows, output}
use Rattle.front_layout.specs.Items.{Arrays, arrays, Placed, store}
use Rattle.front_layout.specs.Arrays.{number_in, TokensIn}
use Rattle.front_offences.proofs.Kinded.{kinded}
use Rattle.front_layout.proofs.Stored.{rows_held, items_held, names_held}

-- THE RULES

-- where the stages leave nothing, none is offended
free_rules : (rs : List Stage) (t : Text) → told {A = Unit {0}} (Ok tt) ≡ ruled_as (ruled rs t) → W.Free rs t × (ruled rs t ≡ accepted (elaborate t))
unfolding ruled judged
free_rules [] t e = (tt, refl)
free_rules (r ∷ rs) t e = go (lowest_offence (r t)) refl e (free_rules rs t)
  where
    go : (o : Option Offence) → lowest_offence (r t) ≡ o → told {A = Unit {0}} (Ok tt) ≡ ruled_as (judged o (ruled rs t))
        → (told {A = Unit {0}} (Ok tt) ≡ ruled_as (ruled rs t) → W.Free rs t × (ruled rs t ≡ accepted (elaborate t)))
        → ((r t ≡ []) × W.Free rs t) × (judged o (ruled rs t) ≡ accepted (elaborate t))
    go none q f ih = let s = ih f in ((lowest_none (r t) q, s.0), s.1)
    go (some o) q f ih = done_refused f

pub free_text : (t : Text) → told {A = Unit {0}} (Ok tt) ≡ ruled_as (ruled table t) → Clean t × (ruled table t ≡ accepted (elaborate t))
free_text t e = let s = free_rules table t e in (clean t s.0, s.1)

-- an offence is the verdict's
offended_as : (x : Refusal) (v : Verdict) → told {A = Unit {0}} (Err x) ≡ ruled_as v → v ≡ refused (number_of x) (A.place_of x)
offended_as x (accepted p) e = done_refused (sym e)
offended_as x (refused n k) e = let y : n ≡ number_of x = cc in let z : k ≡ A.place_of x = cc in rw (y, z)

-- THE PARSER

-- items that are stored leave the array as long as it was
store_length : (n : ℕ) (ps : List Placed) (b : Arrays) → length (store n ps b).codes ≡ length b.codes
unfolding store
store_length n [] b = refl
store_length n (p ∷ ps) b = store_length (n + 1) ps _ ∙ length-set b.codes n p.code

-- and so do rows
set_length : (s : ℕ) (r : Row) (l : List ℕ) → length (set_row s r l) ≡ length l
unfolding set_row
set_length s r l = rw (length-set, length-set, length-set, length-set, length-set, length-set)

rows_length : (s : ℕ) (rs : List Row) (l : List ℕ) → length (store_rows s rs l) ≡ length l
unfolding store_rows
rows_length s [] l = refl
rows_length s (r ∷ rs) l = rows_length (s + 1) rs (set_row s r l) ∙ set_length s r l

-- what was parsed is a tree within the limits, and the arrays hold it
pub tree_in : {text kinds starts sizes codes₀ codes indices₀ indices rows₀ rows decls₀ decls : List ℕ} {n : ℕ} {p : Parsed} {ts : List Token} {t : Text}
    → answer ts ≡ P.accepted t → TokensIn ts kinds starts n → WordsIn text ts sizes n
    → length codes₀ ≡ 16384 → length indices₀ ≡ 16384 → length rows₀ ≡ 3072 → length decls₀ ≡ 390
    → ReadAs ts t (lent (output (arrays codes₀ indices₀) rows₀) decls₀) (lent (output (arrays codes indices) rows) decls) p
    → TreeIn text ts t kinds starts sizes n p codes indices rows decls
tree_in {p = p} {ts} {t} e T Q lc li lr ld r =
    let x = (exactly_limits ts t).0 e in
    record {
      tokens = T;
      words = Q;
      items = items_held r.lines.items lc li r.few_items;
      lines = rows_held r.lines lr r.few_statements;
      names = names_held r.names ld r.few_names;
      heads = record { entity_at = r.entity; entity_end_at = r.at_entity_end; arch_at = r.arch; arch_of_at = r.at_arch_of; arch_end_at = r.at_arch_end };
      process = r.process;
      kinded = kinded x.1;
      moded = moded x.1;
      limits = x.2;
      room = ap (λ (a : Arrays). length a.codes) r.lines.items.arrays ∙ (store_length 0 r.lines.items.placed _ ∙ lc);
      lines_room = ap length r.lines.stored ∙ (rows_length 0 r.lines.rows _ ∙ lr);
    }

placed_inside : (l : ℕ) (ts : List Token) (i : ℕ) → i < length ts → place_of l ts i ≡ (token_at ts i).place
unfolding place_of
placed_inside l [] i h = absurd (omega arith)
placed_inside l (x ∷ ts) zero h = refl
placed_inside l (x ∷ ts) (suc i) h = placed_inside l ts i (omega arith)

placed_past : (l : ℕ) (ts : List Token) (i : ℕ) → length ts ≤ i → place_of l ts i ≡ l
unfolding place_of
placed_past l [] i h = refl
placed_past l (x ∷ ts) zero h = absurd (omega arith)
placed_past l (x ∷ ts) (suc i) h = placed_past l ts i (omega arith)

-- the place of a token by position
pub place_is : {ts : List Token} {kinds starts : List ℕ} {n : ℕ} (l i : ℕ) → TokensIn ts kinds starts n → place_in starts n l i ≡ place_of l ts i
place_is {ts} {kinds} {starts} {n} l i T = go (ltb i n) refl
  where
    go : (b : Bool) → ltb i n ≡ b → place_in starts n l i ≡ place_of l ts i
    go true q =
        let h = ltb-true i n q in
        let c = T.count in
        sym (picked (ltb i n) (number_in starts n i) l (place_of l ts i) q
        (placed_inside l ts i (omega arith) ∙ (sym (T.place i h) ∙ sym (number_inside starts n i T.short h))))
    go false q = let h = ltb-false i n q in let c = T.count in
        sym (passed (ltb i n) (number_in starts n i) l (place_of l ts i) q (placed_past l ts i (omega arith)))

-- THE FRONT END, FROM ITS END TO ITS BEGINNING

-- the judgement on a text of a shape, by what the rules say
abbrev by_ruling : Shape → Result (Unit {0}) Refusal → Result Shape Refusal
by_ruling p (Ok u) = Ok p
by_ruling p (Err x) = Err x

pub ruling_mapped : {s p : Shape} (x : Result (Unit {0}) Refusal) (j : Result Shape Refusal) → s ≡ p
    → MatchResult x (λ u. IsOkAnd j (λ a. a ≡ s)) (λ e. j ≡ Err e) → j ≡ by_ruling p x
ruling_mapped (Ok u) (Ok a) e h = ap Ok (h ∙ e)
ruling_mapped (Ok u) (Err y) e h = absurd h
ruling_mapped (Err y) j e h = h

module _ {text kinds starts sizes codes indices rows decls owners₀ owners : List ℕ} {n : ℕ} {p : Parsed} {x : Result (Unit {0}) Refusal}
    (R : Ruled table (Read text starts sizes (shape_of n p) codes indices rows decls owners) x)
    (O : N.Resolves text kinds starts sizes n decls p.names owners₀ owners) (room : length owners₀ ≡ 16384) (ts : List Token) (t : Text)
    (I : TreeIn text ts t kinds starts sizes n p codes indices rows decls) where
  all_laid : Laid ts t kinds starts n codes indices p.items rows p.statements decls p.names owners
  all_laid =
      record {
        of_tokens = I.tokens;
        of_items = I.items;
        of_rows = I.lines;
        of_decls = I.names;
        of_owners = O.owners ts t (let s = I.tokens.short in omega arith) I.tokens I.words I.names I.kinded;
        kinded = I.kinded;
      }

  decided : told x ≡ ruled_as (ruled table t)
  decided =
      R.is t
      (record { held = record { tokens = ts; kinds = kinds; laid = all_laid; words = I.words; heads = I.heads }; process = I.process; within = I.limits })

  -- no rule is offended, or the refusal of one that is
  pub judged_ruled : {j : Result Shape Refusal} → j ≡ by_ruling (shape_of n p) x
      → JudgedAs (Holds text ts kinds starts sizes codes indices rows decls owners) (ruled table t) j
  judged_ruled e = rw e (record { is = go x decided })
    where
      go : (y : Result (Unit {0}) Refusal) → told y ≡ ruled_as (ruled table t)
          → judgement_of (Holds text ts kinds starts sizes codes indices rows decls owners) (ruled table t) (by_ruling (shape_of n p) y)
      go (Ok u) h =
          let s = free_text t h in
          let q = s.0 in (
            t,
            s.1,
            record {
              laid = all_laid;
              words = I.words;
              limits = I.limits;
              named = q.names;
              clocked = q.clock;
              formed = well_formed t I.moded I.limits q;
              room = I.room;
              lines_room = I.lines_room;
            },
          )
      go (Err y) h = offended_as y (ruled table t) h

not_tree : {A : Type 0} {p : Parsed} {u : Unread} → ◌≡◌ {A = Result Parsed Unread} (Ok p) (Err u) → A
not_tree e = absurd (let z : ◌≡◌ {A = ℕ} 0 1 = cc in omega arith)

module _ {kinds starts codes₀ codes indices₀ indices rows₀ rows decls₀ decls : List ℕ} {n : ℕ} {x : Result Parsed Unread} (l : ℕ) (ts : List Token)
    (P₁ : Parses ts (lent (output (arrays codes₀ indices₀) rows₀) decls₀) (lent (output (arrays codes indices) rows) decls) x)
    (T : TokensIn ts kinds starts n) (Held : Shape → Text → Type 0) where
  -- a tree was read: the rules decide
  pub judged_tree : {text sizes : List ℕ} {p : Parsed} (r : Result Shape Refusal) → x ≡ Ok p → WordsIn text ts sizes n
      → length codes₀ ≡ 16384 → length indices₀ ≡ 16384 → length rows₀ ≡ 3072 → length decls₀ ≡ 390
      → ((t : Text) → TreeIn text ts t kinds starts sizes n p codes indices rows decls → JudgedAs Held (ruled table t) r)
      → JudgedAs Held (parsed l ts (answer ts)) r
  unfolding parsed
  judged_tree {p = p} r e Q lc li lr ld f = go (answer ts) refl P₁.is
    where
      go : (a : P.Answer) → answer ts ≡ a → parses_as ts (lent (output (arrays codes₀ indices₀) rows₀) decls₀)
          (lent (output (arrays codes indices) rows) decls) a x → JudgedAs Held (parsed l ts a) r
      go (P.accepted t) h (q, g, w) =
          let z : ◌≡◌ {A = Result Parsed Unread} (Ok p) (Ok q) = sym e ∙ g in
          let y : q ≡ p = cc in
          f t (tree_in h T Q lc li lr ld (subst (λ (u : Parsed). ReadAs ts t (lent (output (arrays codes₀ indices₀) rows₀) decls₀)
          (lent (output (arrays codes indices) rows) decls) u) y w))
      go (P.no_sentence k) h g = not_tree (sym e ∙ g)
      go (P.past_limit k) h g = not_tree (sym e ∙ g)

  -- no tree was read: refusal 3 or 4 at the token's place
  pub judged_unread : {u : Unread} {y : Refusal} → x ≡ Err u → y ≡ unread_as starts n l u → JudgedAs Held (parsed l ts (answer ts)) (Err y)
  unfolding parsed
  judged_unread {u} {y} e hy = record { is = go (answer ts) P₁.is }
    where
      refused_as : Refusal → Verdict
      refused_as v = refused (number_of v) (A.place_of v)

      same : (v : Unread) → x ≡ Err v → y ≡ unread_as starts n l v
      same v g = let z : ◌≡◌ {A = Result Parsed Unread} (Err u) (Err v) = sym e ∙ g in let w : u ≡ v = cc in hy ∙ ap (unread_as starts n l) w

      go : (a : P.Answer) → parses_as ts (lent (output (arrays codes₀ indices₀) rows₀) decls₀) (lent (output (arrays codes indices) rows) decls) a x
          → parsed l ts a ≡ refused_as y
      go (P.accepted t) (q, g, _) = not_tree (sym g ∙ e)
      go (P.no_sentence j) g = sym (ap refused_as (same (U.NoSentence j) g ∙ ap NoSentence (place_is l j T)))
      go (P.past_limit j) g = sym (ap refused_as (same (U.LimitPassed j) g ∙ ap LimitPassed (place_is l j T)))

-- the values of items beside the tree
pub values_held : {text : List ℕ} {ts : List Token} {kinds starts sizes codes indices rows decls owners : List ℕ} {args₀ args : List ℤ} {v : Verdict}
    {j : Result Shape Refusal} {p : Shape} → j ≡ Ok p → JudgedAs (Holds text ts kinds starts sizes codes indices rows decls owners) v j
    → Resolves (value_at text starts sizes kinds owners) codes indices p.items args₀ args
    → JudgedAs (HoldsValues text ts kinds starts sizes codes rows decls owners args₀ args) v j
values_held {text} {ts} {kinds} {starts} {sizes} {codes} {indices} {rows} {decls} {owners} {v = v} e h r =
    let w = subst (judgement_of (Holds text ts kinds starts sizes codes indices rows decls owners) v) e h.is in
    rw e (record { is = (w.0, w.1, record { indices = indices; tree = w.2; values = r }) })

-- a refusal is the same whatever the arrays hold
pub refused_still : (Held Kept : Shape → Text → Type 0) {v : Verdict} {j : Result Shape Refusal} {x : Refusal} → j ≡ Err x → JudgedAs Held v j → JudgedAs Kept v j
refused_still Held Kept {v} e h = let w = subst (judgement_of Held v) e h.is in rw e (record { is = w })

module _ (Held : Shape → Text → Type 0) {v : Verdict} {j : Result Shape Refusal} (h : JudgedAs Held v j) where
  -- no rule is offended: the design
  pub front_sound : {text ops : List ℕ} {args : List ℤ} {lines : List ℕ} {d : Declared} {p : Shape} → j ≡ Ok p
      → ((t : Text) → Held p t → Border text (elaborate t) d ops args lines)
      → FrontAs v text (Ok d) (design_arrays ops args lines)
  front_sound e f = let w = subst (judgement_of Held v) e h.is in rw w.1 (refl, f w.0 w.2)

  -- a refusal
  pub front_unsound : (text : List ℕ) (after : DesignArrays) {r : Result Declared Refusal} {x : Refusal} → j ≡ Err x → r ≡ Err x → FrontAs v text r after
  front_unsound text after e f = let w = subst (judgement_of Held v) e h.is in rw (w, f) (refl, refl)

-- flags that are marked are as many as before
pub flags_size : (text kinds starts sizes flags₀ : List ℕ) (n : ℕ) {flags : List ℕ} → flags ≡ marked text kinds starts sizes n flags₀ → length flags₀ ≡ 16384
    → length flags ≡ 16384
flags_size text kinds starts sizes flags₀ n m l = ap length m ∙ (marked_size text kinds starts sizes flags₀ n ∙ l)

not_tokens : {A : Type 0} {n : ℕ} {x : Refusal} → ◌≡◌ {A = Result ℕ Refusal} (Ok n) (Err x) → A
not_tokens e = absurd (let z : ◌≡◌ {A = ℕ} 0 1 = cc in omega arith)

-- the text has tokens: the parser decides
pub front_tokens : (text : List ℕ) (n : ℕ) (r : Result Declared Refusal) (after : DesignArrays) → Ok n ≡ X.lexed text
    → ((ts : List Token) → lex text ≡ tokens ts → FrontAs (parsed (length text) ts (answer ts)) text r after) → FrontAs (verdict text) text r after
unfolding verdict X.lexed lexed
front_tokens text n r after e f = go (ltb 16384 (length text)) refl (lex text) refl e
  where
    go : (b : Bool) → ltb 16384 (length text) ≡ b → (k : L.Lexed) → lex text ≡ k → Ok n ≡ cond b (Err TextTooLong) (counted 0 k)
        → FrontAs (cond (leb (length text) 16384) (lexed (length text) k) (refused 1 0)) text r after
    go true q k h g = not_tokens g
    go false q (tokens ts) h g = rw (le-leb (length text) 16384 (let z = ltb-false 16384 (length text) q in omega arith)) (f ts h)
    go false q (malformed p) h g = not_tokens g

-- the text has none: refusal 1 or 2
pub front_not_lexed : (text : List ℕ) (x : Refusal) {r : Result Declared Refusal} (after : DesignArrays) → Err x ≡ X.lexed text → r ≡ Err x
    → FrontAs (verdict text) text r after
unfolding verdict X.lexed lexed
front_not_lexed text x after e f = subst (λ (z : Result Declared Refusal). FrontAs (verdict text) text z after) (sym f) (go (ltb 16384 (length text)) refl (lex text) e)
  where
    go : (b : Bool) → ltb 16384 (length text) ≡ b → (k : L.Lexed) → Err x ≡ cond b (Err TextTooLong) (counted 0 k)
        → FrontAs (cond (leb (length text) 16384) (lexed (length text) k) (refused 1 0)) text (Err x) after
    go true q k g = let z : x ≡ TextTooLong = cc in rw (lt-leb (length text) 16384 (ltb-true 16384 (length text) q)) (ap refused_by z, refl)
    go false q (tokens ts) g = not_tokens (sym g)
    go false q (malformed p) g = let z : x ≡ NoToken p = cc in
        rw (le-leb (length text) 16384 (let y = ltb-false 16384 (length text) q in omega arith)) (ap refused_by z, refl)

-- the text was lexed: its tokens decide
pub front_lexed : (text kinds₀ kinds starts₀ starts sizes₀ sizes long₀ : List ℕ) (n : ℕ) {x : Result ℕ Refusal} (r : Result Declared Refusal) (after : DesignArrays) → x ≡ Ok n
    → X.Lexing text x kinds₀ kinds starts₀ starts sizes₀ sizes → length kinds₀ ≡ 16384 → length starts₀ ≡ 16384 → length sizes₀ ≡ 16384 → length long₀ ≡ 16384
    → ((ts : List Token) → Lexes text ts kinds starts sizes n (marked text kinds starts sizes n long₀)
    → FrontAs (parsed (length text) ts (answer ts)) text r after)
    → FrontAs (verdict text) text r after
front_lexed text kinds₀ kinds starts₀ starts sizes₀ sizes long₀ n r after e lx lk ls lz ll f =
    front_tokens text n r after l.answer
    (λ ts t. f ts (record {
      tokens = tokens_held text kinds₀ kinds starts₀ starts sizes₀ sizes n ts l t lk ls;
      words = words_held text kinds₀ kinds starts₀ starts sizes₀ sizes n ts l t lz;
      flagged = flags_held text kinds₀ kinds starts₀ starts sizes₀ sizes n ts l t lk ls lz long₀ ll;
    }))
  where
    l : X.Lexing text (Ok n) kinds₀ kinds starts₀ starts sizes₀ sizes
    l = subst (λ (y : Result ℕ Refusal). X.Lexing text y kinds₀ kinds starts₀ starts sizes₀ sizes) e lx
