-- The meter's limits are the limits on the tree: no token of a text passes a limit exactly where its tree keeps them all.
-- The counts after a token are the same in every text that begins so (Marks.antt), and each group of counts keeps its limits after every token exactly where
-- the tree does (Tokens.antt, Headings.antt, Statements.antt, Expressions.antt). Assumes nothing.
use mathlib.Core.Path.{◌≡◌, refl, sym, ◌∙◌, subst, ap}
use mathlib.Core.Bool.{Bool, true, false, ◌||◌}
use mathlib.Core.Logic.Iff
use mathlib.Core.Logic.{◌↔◌}
use mathlib.Core.List.{List, [], ◌∷◌, ◌++◌}
use Prim.Native.Nat.{ℕ, suc, ◌≤◌}
use native.Mathlib.Omega.{arith}
use native.Mathlib.Decide.{dec_le}
use lib.Dec.{T, ltb, ltb→lt, lt→ltb}
use lib.ListN.{length, take, drop, take-append-drop}
use Rattle.spec_grammar.specs.Token.{Token}
use Rattle.spec_grammar.specs.Tree.{Text}
use Rattle.spec_grammar.specs.Grammar.{text, Mark}
use Rattle.spec_grammar.specs.Meter.{Meter, zeroes, tick, over, gauge}
use Rattle.spec_grammar.specs.Limits.{WithinLimits}
use Rattle.spec_grammar.specs.Derivation.{Reads}
use Rattle.spec_grammar.specs.Acceptance.{Within, accepted, Exactly}
use Rattle.spec_grammar.specs.Reader.{answer}
use Rattle.spec_grammar.proofs.Exact.{answers}
use Rattle.spec_grammar.proofs.Marks.{marks_alike}
use Rattle.spec_grammar.proofs.Along.{Along}
use Rattle.spec_grammar.proofs.Tokens as Tokens
use Rattle.spec_grammar.proofs.Headings as Headings
use Rattle.spec_grammar.proofs.Statements as Statements
use Rattle.spec_grammar.proofs.Expressions as Expressions

-- The counts are over no limit.
abbrev Clear : Meter → Type 0
Clear c = T (over c) → ⊥

-- A test fails exactly if the number is within its limit; a disjunction fails exactly if both its parts do.
at_most : (n k : ℕ) → (T (ltb n k) → ⊥) ↔ (k ≤ n)
at_most n k = ((λ h. elim (dec_le k n) [ yes l ↦ l | no l ↦ absurd (h (lt→ltb n k (omega arith))) ]), λ l t. omega (arith, ltb→lt n k t))

neither : (a b : Bool) → (T (a || b) → ⊥) ↔ ((T a → ⊥) × (T b → ⊥))
neither true b = ((λ h. absurd (h tt)), λ h t. h.0 tt)
neither false b = ((λ h. ((λ t. t), h)), λ h. h.1)

one_more : (n k : ℕ) (b : Bool) → (T (ltb n k || b) → ⊥) ↔ ((k ≤ n) × (T b → ⊥))
one_more n k b = (
  (λ h. let g = (neither (ltb n k) b).0 h in ((at_most n k).0 g.0, g.1)),
  λ h. (neither (ltb n k) b).1 ((at_most n k).1 h.0, h.1),
)

-- So the counts are over no limit exactly if each keeps its own.
clear_kept : (c : Meter) → Clear c ↔ (Tokens.Kept c × Headings.Kept c × Statements.Kept c × Expressions.Kept c)
unfolding over
clear_kept c =
    let b8 : Bool = ltb 2147483647 c.literal in
    let b7 : Bool = ltb 16 c.expr.parens || b8 in
    let b6 : Bool = ltb 64 c.expr.items || b7 in
    let b5 : Bool = ltb 16 c.body.begun || b6 in
    let b4 : Bool = ltb 512 c.body.statements || b5 in
    let b3 : Bool = ltb 32 c.head.vars || b4 in
    let b2 : Bool = ltb 16 c.head.outputs || b3 in
    let b1 : Bool = ltb 17 c.head.inputs || b2 in
    let bytes = one_more 32 c.bytes b1 in
    let inputs = one_more 17 c.head.inputs b2 in
    let outputs = one_more 16 c.head.outputs b3 in
    let vars = one_more 32 c.head.vars b4 in
    let statements = one_more 512 c.body.statements b5 in
    let depth = one_more 16 c.body.begun b6 in
    let items = one_more 64 c.expr.items b7 in
    let parens = one_more 16 c.expr.parens b8 in
    let value = at_most 2147483647 c.literal in (
      (λ h.
          let h1 = bytes.0 h in
          let h2 = inputs.0 h1.1 in
          let h3 = outputs.0 h2.1 in
          let h4 = vars.0 h3.1 in
          let h5 = statements.0 h4.1 in
          let h6 = depth.0 h5.1 in
          let h7 = items.0 h6.1 in
          let h8 = parens.0 h7.1 in
          ((h1.0, value.0 h8.1), (h2.0, h3.0, h4.0), (h5.0, h6.0), (h7.0, h8.0))),
      λ k. bytes.1 (
        k.0.0,
        inputs.1 (
          k.1.0,
          outputs.1
              (k.1.1, vars.1 (k.1.2, statements.1 (k.2.0, depth.1 (k.2.1, items.1 (k.3.0, parens.1 (k.3.1, value.1 k.0.1)))))),
        ),
      ),
    )

-- The counts after the tokens w depend on the marks of w alone.
gauge_take : (c : Meter) (w : List Token) (es : List Mark) → gauge c w (take (length w) es) ≡ gauge c w es
unfolding gauge
gauge_take c [] es = refl
gauge_take c (x ∷ w) [] = refl
gauge_take c (x ∷ w) (e ∷ es) = gauge_take (tick c e x) w es

module _ (ts : List Token) (es : List Mark) (t : Text) (r : Reads text ts es t) where
  -- the text, parted after k tokens
  parted : (k : ℕ) → Reads text (take k ts ++ drop k ts) es t
  parted k = subst (λ (l : List Token). Reads text l es t) (sym (take-append-drop k ts)) r

  -- No token passes a limit exactly if in this text, after no token, the counts are over one.
  within_along : Within ts (length ts) ↔ Along Clear zeroes ts es
  within_along = (
    (λ w j h o. w j h (record { begins = record { later = drop (suc j) ts; marks = es; whole = t; reads = parted (suc j) }; over_here = o })),
    λ a j h p.
        let w : List Token = take (suc j) ts in
        let fs : List Mark = p.begins.marks in
        let e : take (length w) fs ≡ take (length w) es =
        marks_alike w p.begins.later (drop (suc j) ts) fs es p.begins.whole t p.begins.reads (parted (suc j)) in
        let g : gauge zeroes w fs ≡ gauge zeroes w es = sym (gauge_take zeroes w fs) ∙ (ap (gauge zeroes w) e ∙ gauge_take zeroes w es) in
        a j h (subst (λ (c : Meter). T (over c)) g p.over_here),
  )

  -- Over none: each group of counts keeps its limits.
  along_parts : Along Clear zeroes ts es ↔ (Along Tokens.Kept zeroes ts es × Along Headings.Kept zeroes ts es × Along Statements.Kept zeroes ts es
      × Along Expressions.Kept zeroes ts es)
  along_parts = (
    (λ a. ((λ j h. ((clear_kept _).0 (a j h)).0), (λ j h. ((clear_kept _).0 (a j h)).1), (λ j h. ((clear_kept _).0 (a j h)).2), λ j h. ((clear_kept _).0 (a j h)).3)),
    λ k j h. (clear_kept _).1 (k.0 j h, k.1 j h, k.2 j h, k.3 j h),
  )

  -- Each group keeps them exactly where the tree does.
  parts_tree : (Along Tokens.Kept zeroes ts es × Along Headings.Kept zeroes ts es × Along Statements.Kept zeroes ts es × Along Expressions.Kept zeroes ts es)
      ↔ WithinLimits t
  parts_tree = (
    (λ k.
        let a : Tokens.Keeps t = (Tokens.tokens_kept ts es t r).0 k.0 in
        let b : Headings.Keeps t = (Headings.headings_kept ts es t r).0 k.1 in
        let c : Statements.Keeps t = (Statements.statements_kept ts es t r).0 k.2 in
        let d : Expressions.Keeps t = (Expressions.expressions_kept ts es t r).0 k.3 in
        record {
          names = a.0;
          inputs = b.0;
          outputs = b.1;
          variables = b.2;
          statements = c.0;
          depth = c.1;
          items = d.0;
          parens = d.1;
          literals = a.1;
        }),
    λ w. (
      (Tokens.tokens_kept ts es t r).1 (w.names, w.literals),
      (Headings.headings_kept ts es t r).1 (w.inputs, w.outputs, w.variables),
      (Statements.statements_kept ts es t r).1 (w.statements, w.depth),
      (Expressions.expressions_kept ts es t r).1 (w.items, w.parens),
    ),
  )

-- THE THEOREM: no token of a text passes a limit exactly where its tree keeps the limits.
pub limits_on_tree : (ts : List Token) (es : List Mark) (t : Text) → Reads text ts es t → Within ts (length ts) ↔ WithinLimits t
limits_on_tree ts es t r = Iff.trans (within_along ts es t r) (Iff.trans (along_parts ts es t r) (parts_tree ts es t r))

-- The tokens are accepted as the text t exactly where they are a text that says t, and t keeps the limits.
pub exactly_limits : (ts : List Token) (t : Text) → (answer ts ≡ accepted t) ↔ ((es : List Mark) × Reads text ts es t × WithinLimits t)
exactly_limits ts t = (
  (λ e. let x : Exactly ts (accepted t) = (answers ts (accepted t)).0 e in (x.0, x.1, (limits_on_tree ts x.0 t x.1).0 x.2)),
  λ x. (answers ts (accepted t)).1 (x.0, x.1, (limits_on_tree ts x.0 t x.1).1 x.2),
)

-- So an accepted text keeps the limits.
pub accepted_limits : (ts : List Token) (t : Text) → answer ts ≡ accepted t → WithinLimits t
accepted_limits ts t e = ((exactly_limits ts t).0 e).2
