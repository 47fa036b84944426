-- One item is written: what the store changes of the cursor, and what stands in the arrays. Assumes nothing.
use mathlib.Core.Path.{◌≡◌, refl, sym, ◌∙◌}
use mathlib.Core.Bool.{Bool, true, false}
use mathlib.Core.List.{List, [], ◌∷◌}
use Prim.Native.Nat.{ℕ, ◌+◌, ◌≤◌}
use native.Mathlib.Omega.{arith}
use borrow.Author.Tests.{eq-eqb, ne_eqb, eqb-true, eqb-false}
use lib.Dec.{eqb}
use Rattle.spec_grammar.specs.Token.{Token}
use Rattle.spec_grammar.specs.Reader.{choose}
use Rattle.front_cursor.specs.declared.Unread.{Unread}
use Rattle.front_cursor.specs.Reading.{Read, unread}
use Rattle.front_cursor.proofs.Steps.{unread_ends}
use Rattle.front_layout.specs.Tokens.{token_at}
use Rattle.front_layout.specs.Postfix.{item_of}
use Rattle.front_layout.specs.Items.{Arrays, store, Wrote}
use Rattle.front_expressions.specs.Put.{put_at, Put}

pub put_stays : (q : Read) → (q.fault ≡ 0 → ⊥) → q ≡ put_at q
unfolding put_at
put_stays q f = rw (ne_eqb q.fault 0 f)

pub put_on : (q : Read) → q.fault ≡ 0 → record { fault = q.fault; at = q.at; items = q.items; written = q.written + 1 } ≡ put_at q
unfolding put_at
put_on q f = rw (eq-eqb q.fault 0 f)

-- nothing is written behind a refusal
pub put_ends : (e : Unread) {code at : ℕ} (a : Arrays) → Put (unread e) code at a (unread e) a
put_ends e a = record { answer = put_stays (unread e) (unread_ends e); stored = λ z. absurd (unread_ends e z) }

-- what the store changes of the cursor: the number of items written, by one if it has not refused
pub record Counts (q r : Read) : Type 0 where
  pub fault : r.fault ≡ q.fault
  pub at : r.at ≡ q.at
  pub items : r.items ≡ q.items
  pub few : r.written ≤ q.written + 1
  pub one : q.fault ≡ 0 → r.written ≡ q.written + 1
  pub none : (q.fault ≡ 0 → ⊥) → r.written ≡ q.written

pub put_counts : (q r : Read) → r ≡ put_at q → Counts q r
unfolding put_at
put_counts q r e = go (eqb q.fault 0) refl e
  where
    go : (b : Bool) → eqb q.fault 0 ≡ b → r ≡ choose b (record { fault = q.fault; at = q.at; items = q.items; written = q.written + 1 }) q → Counts q r
    go true w z = rw z (record { fault = refl; at = refl; items = refl; few = omega arith; one = λ f. refl; none = λ f. absurd (f (eqb-true q.fault 0 w)) })
    go false w z = rw z (record { fault = refl; at = refl; items = refl; few = omega arith; one = λ f. absurd (eqb-false q.fault 0 w f); none = λ f. refl })

-- one item
pub wrote_put : {q r : Read} {code at : ℕ} {a b : Arrays} → Put q code at a r b → r.fault ≡ 0 → (ts : List Token)
    → Wrote ts q.written r.written a b (item_of code (token_at ts at) ∷ [])
unfolding store
wrote_put {q} {r} {code} {at} {a} {b} p z ts =
    let c = put_counts q r p.answer in
    record { placed = record { code = code; index = at } ∷ []; count = c.one (sym c.fault ∙ z); are = refl; arrays = p.stored (sym c.fault ∙ z) }
