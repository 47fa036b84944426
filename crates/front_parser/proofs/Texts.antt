-- The returns of the reader of a text: the three parts, one after another, are the grammar's production of a text. Assumes nothing.
use mathlib.Core.Path.{◌≡◌, refl, sym, ◌∙◌, ap, subst}
use mathlib.Core.List.{List, [], ◌∷◌, ◌++◌, append_assoc}
use Prim.Native.Nat.{ℕ, ◌+◌, ◌≤◌, ◌<◌}
use native.Mathlib.Omega.{arith}
use lib.ListN.{length}
use Rattle.spec_grammar.specs.Token.{Token}
use Rattle.spec_grammar.specs.Tree.{Group, Body, Text}
use Rattle.spec_grammar.specs.Grammar.{text, ports, vars, body, Sym, nt, tok, text_production}
use Rattle.spec_grammar.specs.Meter.{InHeading}
use Rattle.spec_grammar.specs.Acceptance.{Answer, accepted, no_sentence, past_limit}
use Rattle.spec_grammar.specs.Reader.{elem, first, firsts, follow, nullable, nullables, placed, answer}
use Rattle.spec_grammar.proofs.Sets.{subset}
use Rattle.spec_grammar.proofs.Steps.{Ok as Fits, ok_syms, tested}
use Rattle.spec_language.specs.Declarations.{groups}
use Rattle.front_cursor.specs.declared.Unread.{Unread}
use Rattle.front_cursor.specs.declared.Unread.TheVariants.{NoSentence, LimitPassed}
use Rattle.front_layout.specs.Tokens.{token_at, Holds}
use Rattle.std.specs.Prelude.{Result, Ok, Err}
use Rattle.front_cursor.specs.Reading.{Read, unread, from}
use Rattle.front_cursor.proofs.Whole.{text_starts, text_accepted, text_goes_on, text_refused, text_limited}
use Rattle.front_layout.specs.Rows.{Output}
use Rattle.front_declarations.specs.Headers.{heading_of}
use Rattle.front_layout.specs.Headings.{Heading, group_headings, groups_names, headings, WroteNames}
use Rattle.front_layout.proofs.NameRows.{names_wrote_then}
use Rattle.front_parser.specs.declared.Parsed.{Parsed}
use Rattle.front_parser.specs.Units.{EntityPart, ArchitecturePart, ProcessPart}
use Rattle.front_parser.specs.Runs.{toks}
use Rattle.front_parser.specs.Parts.{entity_end_kinds, architecture_kinds, end_kinds, EntityRead, EntityOver, ArchitectureRead, ArchitectureOver, ProcessRead}
use Rattle.front_parser.specs.Parts.{ProcessOver}
use Rattle.front_parser.specs.Answers.{lent, numbers_of, ReadAs, parses_as, Parses}

-- what comes after the entity, and after the declarations
abbrev after_declarations : List Sym
after_declarations = nt body ∷ (toks end_kinds ++ [])

abbrev after_entity : List Sym
after_entity = toks architecture_kinds ++ (nt vars ∷ tok 29 ∷ after_declarations)

ok_text : Fits (nt ports ∷ (toks entity_end_kinds ++ after_entity))
unfolding ok_syms subset firsts follow nullables first nullable elem
ok_text = tested (nt ports ∷ (toks entity_end_kinds ++ after_entity)) tt

headings_append : (xs ys : List Group) → groups_names (xs ++ ys) ≡ groups_names xs ++ groups_names ys
unfolding groups_names
headings_append [] ys = refl
headings_append (g ∷ xs) ys = ap (λ (l : List Heading). group_headings g ++ l) (headings_append xs ys)
    ∙ sym (append_assoc (group_headings g) (groups_names xs) (groups_names ys))

pub small : {n : ℕ} → n ≤ 16384 → 16384 < n → ⊥
small a b = omega arith

module _ {kinds long : List ℕ} {n : ℕ} {p : EntityPart} {q : ArchitecturePart} {r : ProcessPart} {d0 d1 d2 : List ℕ} {o0 o1 : Output}
    (e : EntityOver kinds long n d0 p d1) (a : ArchitectureOver kinds long n p.header d1 q d2) (b : ProcessOver kinds long n q.header o0 r o1)
    (ts : List Token) (holds : Holds ts kinds long n) where
  abbrev tree_of : EntityRead ts p d0 d1 → ArchitectureRead ts p.header q d1 d2 → ProcessRead ts q.header r o0 o1 → Text
  tree_of x y z = record {
    entity = token_at ts 1;
    ports = x.groups;
    end_of_entity = token_at ts (x.at + 1 + 1 + 1);
    arch = token_at ts (p.header.cursor.at + 1);
    of_arch = token_at ts (p.header.cursor.at + 1 + 1 + 1);
    process = token_at ts (p.header.cursor.at + 1 + 1 + 1 + 1 + 1 + 1);
    vars = y.groups;
    body = z.value;
    end_of_arch = token_at ts (z.at + 1 + 1 + 1 + 1);
  }

  abbrev tree : Text
  tree = tree_of (e.reads ts holds) (a.reads ts holds) (b.reads ts holds)

  abbrev heading : InHeading
  heading = heading_of (a.reads ts holds).flag q.header

  comes_to : answer ts ≡ placed ts (from ts text r.listing.statements 1 heading r.listing.cursor 0 [] tree)
  unfolding text_production
  comes_to =
      text_starts ts
      ∙ ap (placed ts) (x.goes text after_entity text_production.says ok_text
      ∙ (y.goes text after_declarations (λ w1 w2 w3 w4 w5 w6 w7. known w2 w4 w7) ok_text.2
      ∙ z.goes y.flag text [] (known (token_at ts (p.header.cursor.at + 1)) (token_at ts (p.header.cursor.at + 1 + 1 + 1))
      (token_at ts (p.header.cursor.at + 1 + 1 + 1 + 1 + 1 + 1)) y.groups y.begin) ok_text.2.2))
    where
      x : EntityRead ts p d0 d1
      x = e.reads ts holds

      y : ArchitectureRead ts p.header q d1 d2
      y = a.reads ts holds

      z : ProcessRead ts q.header r o0 o1
      z = b.reads ts holds

      known : Token → Token → Token → List Group → Token → Body → Token → Token → Token → Token → Token → Token → Text
      known t u w gs _ s _ _ _ _ v _ = record {
        entity = token_at ts 1;
        ports = x.groups;
        end_of_entity = token_at ts
            (x.at + 1 + 1 + 1);
        arch = t;
        of_arch = u;
        process = w;
        vars = gs;
        body = s;
        end_of_arch = v;
      }

  inside : r.listing.cursor.at ≤ length ts
  inside = let c = holds.count in let i = b.inside in omega arith

  answered : (k : Answer) (s : Result Parsed Unread) → placed ts (from ts text r.listing.statements 1 heading r.listing.cursor 0 [] tree) ≡ k
      → parses_as ts (lent o0 d0) (lent o1 d2) k s → Parses ts (lent o0 d0) (lent o1 d2) s
  answered k s w v = record { is = subst (λ (j : Answer). parses_as ts (lent o0 d0) (lent o1 d2) j s) (sym (comes_to ∙ w)) v }

  parse_refused : r.listing.cursor.fault ≡ 3 → Parses ts (lent o0 d0) (lent o1 d2) (Err (NoSentence r.listing.cursor.at))
  parse_refused f = answered (no_sentence r.listing.cursor.at) (Err (NoSentence r.listing.cursor.at))
      (text_refused ts tree r.listing.statements 1 heading r.listing.cursor 0 inside f) refl

  parse_limited : r.listing.cursor.fault ≡ 4 → Parses ts (lent o0 d0) (lent o1 d2) (Err (LimitPassed r.listing.cursor.at))
  parse_limited f = answered (past_limit r.listing.cursor.at) (Err (LimitPassed r.listing.cursor.at))
      (text_limited ts tree r.listing.statements 1 heading r.listing.cursor 0 inside f) refl

  -- each answer is the grammar's
  pub parse_unread : (x : Unread) → r.listing.cursor ≡ unread x → Parses ts (lent o0 d0) (lent o1 d2) (Err x)
  parse_unread (NoSentence at) g = subst (λ (k : ℕ). Parses ts (lent o0 d0) (lent o1 d2) (Err (NoSentence k))) (ap (λ (u : Read). u.at) g)
      (parse_refused (ap (λ (u : Read). u.fault) g))
  parse_unread (LimitPassed at) g = subst (λ (k : ℕ). Parses ts (lent o0 d0) (lent o1 d2) (Err (LimitPassed k))) (ap (λ (u : Read). u.at) g)
      (parse_limited (ap (λ (u : Read). u.fault) g))

  pub parse_longer : r.listing.cursor.fault ≡ 0 → r.listing.cursor.at < n → Parses ts (lent o0 d0) (lent o1 d2) (Err (NoSentence r.listing.cursor.at))
  parse_longer f l = answered (no_sentence r.listing.cursor.at) (Err (NoSentence r.listing.cursor.at))
      (text_goes_on ts tree r.listing.statements 1 heading r.listing.cursor 0 inside f (let c = holds.count in omega arith)) refl

  pub parse_whole : r.listing.cursor.fault ≡ 0 → n ≤ r.listing.cursor.at → Parses ts (lent o0 d0) (lent o1 d2) (Ok (numbers_of p q r))
  unfolding headings groups
  parse_whole f l = answered (accepted tree) (Ok (numbers_of p q r))
      (text_accepted ts tree r.listing.statements 1 heading r.listing.cursor 0 inside f (let c = holds.count in let i = inside in omega arith))
      (numbers_of p q r, refl, known)
    where
      x : EntityRead ts p d0 d1
      x = e.reads ts holds

      y : ArchitectureRead ts p.header q d1 d2
      y = a.reads ts holds

      z : ProcessRead ts q.header r o0 o1
      z = b.reads ts holds

      fq : q.header.cursor.fault ≡ 0
      fq = b.began f

      fp : p.header.cursor.fault ≡ 0
      fp = a.began fq

      at : (i j : ℕ) → i ≡ j → token_at ts i ≡ token_at ts j
      at i j w = ap (token_at ts) w

      known : ReadAs ts tree (lent o0 d0) (lent o1 d2) (numbers_of p q r)
      known = record {
        lines = z.wrote f;
        names = subst (λ (ds : List Heading). WroteNames ts 0 (numbers_of p q r).names d0 d2 ds) (sym (headings_append x.groups y.groups))
            (names_wrote_then (x.wrote fp) (y.wrote fq));
        few_statements = b.few;
        few_items = (let i = b.room in let j = e.asks.short in omega arith);
        few_names = (let i = a.asks in let u = i.inputs in let v = i.outputs in let w = i.vars in omega arith);
        entity = at p.name 1 (x.named fp).0;
        at_entity_end = at p.end (x.at + 1 + 1 + 1) (let w = (x.named fp).1 in omega arith);
        arch = at q.name (p.header.cursor.at + 1) (a.named fq).0;
        at_arch_of = at q.of (p.header.cursor.at + 1 + 1 + 1) (let w = (a.named fq).1 in omega arith);
        process = at q.process (p.header.cursor.at + 1 + 1 + 1 + 1 + 1 + 1) (let w = (a.named fq).2 in omega arith);
        at_arch_end = at r.end (z.at + 1 + 1 + 1 + 1) (let w = z.named f in omega arith);
      }
