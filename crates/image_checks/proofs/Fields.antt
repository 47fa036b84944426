-- The kind byte and the follower of a line that is opened: it is a wait exactly when the kind is 0, and next follows it. By cases on the kind. So a
-- place is judged, and a cycle begun, by the bytes of one line. Assumes nothing.
use Prim.Native.Nat.{ℕ, ◌+◌, ◌*◌, ◌<◌}
use mathlib.Core.Path.{◌≡◌, refl, sym, ap, subst, ◌∙◌}
use mathlib.Core.Bool.{Bool, true, false, ◌&&◌, ◌||◌}
use mathlib.Core.Option.{Option, some, map}
use mathlib.Core.List.{List}
use lib.ListN.{length, get_or, take, drop}
use lib.Dec.{ltb, leb, eqb}
use borrow.Author.Tests.{ltb-true, eqb-true, eqb-false, eq-eqb, ne_eqb}
use Rattle.spec_design.specs.Types.{Ty, ExprTy}
use Rattle.spec_design.specs.Expression.{Expr}
use Rattle.spec_design.specs.Statement.{output, variable, null}
use Rattle.spec_semantics.proofs.Basic.{none_some, some_injective, and_left, or_other, cond_case}
use Rattle.spec_format.specs.Words.{only_if, word2_at}
use Rattle.spec_format.specs.Code.{decode}
use Rattle.spec_format.specs.Signature.{Signature, types}
use Rattle.spec_format.specs.Lines.{Line, waits, acts, branches, line, next}
use Rattle.spec_format.specs.Walk.{from}
use Rattle.spec_format.specs.Image.{Table, RawLine}
use Rattle.spec_format.specs.Good.{good_line}
use Rattle.spec_format.specs.Opening.{is_empty, line_of, open_line}
use Rattle.spec_format.specs.State.{is_wait, place_allowed}
use Rattle.spec_format.proofs.Basic.{and_then_some, map_some, only_if_some}
use Rattle.image_checks.specs.Places.{Opens, place_at}
use Rattle.image_checks.proofs.Positions.{here}
use Rattle.image_checks.proofs.Opened.{fields_of, fields_at, OpenedLine, opens_count, opens_line}

module _ (P : Line → Type 0) (l : Line) where
  plain : (k : Line) (b : Bool) → P k → only_if b (some k) ≡ some l → P l
  plain k b p e = subst P (some_injective k l (only_if_some b l e).1) p

  coded : (k : Expr → Line) (b : Bool) (o : Option (ExprTy × Expr)) → ((x : Expr) → P (k x)) → only_if b (map (λ u. k u.1) o) ≡ some l → P l
  coded k b o p e = let m = map_some (λ u. k u.1) o l (only_if_some b l e).1 in subst P m.2 (p m.0.1)

  -- what holds of the line of each kind holds of the line
  line_cases : (is vs : List Ty) (k t : ℕ) (c : List ℕ) (f g : ℕ)
      → (k ≡ 0 → P (waits f))
      → ((k ≡ 0 → ⊥) → (x : Expr) → P (acts (output t x) f))
      → ((k ≡ 0 → ⊥) → (x : Expr) → P (acts (variable t x) f))
      → ((k ≡ 0 → ⊥) → (x : Expr) → P (branches x f g))
      → ((k ≡ 0 → ⊥) → P (acts null f))
      → line_of is vs k t c f g ≡ some l → P l
  unfolding line_of
  line_cases is vs k t c f g p0 p1 p2 p3 p4 e =
      let bare = eqb t 0 && (eqb g 0 && is_empty c) in
      let o = decode is vs c in
      cond_case (eqb k 0) e (λ q m. plain (waits f) bare (p0 (eqb-true k 0 q)) m) (λ q m.
      let h = eqb-false k 0 q in
      cond_case (eqb k 1) m (λ q m. coded (λ x. acts (output t x) f) (eqb g 0) o (p1 h) m) (λ q m.
      cond_case (eqb k 2) m (λ q m. coded (λ x. acts (variable t x) f) (eqb g 0) o (p2 h) m) (λ q m.
      cond_case (eqb k 3) m (λ q m. coded (λ x. branches x f g) (eqb t 0) o (p3 h) m) (λ q m.
      cond_case (eqb k 4) m (λ q m. plain (acts null f) bare (p4 h) m) (λ q m. none_some l m)))))

module _ (σ : Signature) (n : ℕ) (rs code : List ℕ) (w : RawLine) (l : Line) (e : OpenedLine σ n rs code w l) where
  opened_line : line_of σ.inputs (types σ.variables) w.kind w.target (take w.size (drop w.offset code)) w.next w.other ≡ some l
  unfolding open_line
  opened_line =
      let c = drop w.offset code in
      let a = only_if_some (eqb w.offset w.offset && leb w.size (length c)) l e in
      let b = and_then_some (line_of σ.inputs (types σ.variables) w.kind w.target (take w.size c) w.next w.other) _ l a.1 in
      b.1 ∙ (only_if_some (good_line σ n rs w.reach b.0) l b.2).1

  by_kind : (P : Line → Type 0)
      → (w.kind ≡ 0 → P (waits w.next))
      → ((w.kind ≡ 0 → ⊥) → (x : Expr) → P (acts (output w.target x) w.next))
      → ((w.kind ≡ 0 → ⊥) → (x : Expr) → P (acts (variable w.target x) w.next))
      → ((w.kind ≡ 0 → ⊥) → (x : Expr) → P (branches x w.next w.other))
      → ((w.kind ≡ 0 → ⊥) → P (acts null w.next))
      → P l
  by_kind P p0 p1 p2 p3 p4 =
      line_cases P l σ.inputs (types σ.variables) w.kind w.target (take w.size (drop w.offset code)) w.next
      w.other p0 p1 p2 p3 p4 opened_line

  -- a line is a wait exactly when its kind is 0
  wait_kind : eqb w.kind 0 ≡ is_wait l
  wait_kind =
      by_kind (λ x. eqb w.kind 0 ≡ is_wait x) (eq-eqb w.kind 0) (λ h x. ne_eqb w.kind 0 h) (λ h x. ne_eqb w.kind 0 h) (λ h x. ne_eqb w.kind 0 h)
      (ne_eqb w.kind 0)

  -- "Next is the line to follow", whatever the kind
  next_field : next l ≡ w.next
  next_field = by_kind (λ x. next x ≡ w.next) (λ h. refl) (λ h x. refl) (λ h x. refl) (λ h x. refl) (λ h. refl)

module _ (s l c : List ℕ) (t : Table) (e : Opens s l c t) where
  -- the line k of the table is a wait exactly when its kind byte is 0
  pub opens_wait : (k : ℕ) → k < length t.lines → eqb (get_or l (k * 12) 0) 0 ≡ is_wait (line t.lines k)
  opens_wait k h =
      ap (λ b. eqb b 0) (sym (here l (k * 12)))
      ∙ wait_kind t.signature (length t.lines) t.reaches c (fields_of l k) (line t.lines k) (opens_line s l c t e k h)

  -- A place is right by the bytes exactly when it is right for the opened table.
  pub opens_place : (p : ℕ) → place_at l p ≡ place_allowed t.lines p
  unfolding place_at place_allowed
  opens_place p = rw (← opens_count s l c t e) (ap (λ b. eqb p 512 || b) (go (ltb p (length t.lines)) refl))
    where
      go : (b : Bool) → ltb p (length t.lines) ≡ b → (b && eqb (get_or l (p * 12) 0) 0) ≡ (b && is_wait (line t.lines p))
      go true h = opens_wait p (ltb-true p (length t.lines) h)
      go false h = refl

  -- the line that follows the line k
  pub opens_next : (k : ℕ) → k < length t.lines → word2_at l (k * 12 + 6) ≡ next (line t.lines k)
  opens_next k h =
      ap (λ (w : RawLine). w.next) (sym (fields_at l k))
      ∙ sym (next_field t.signature (length t.lines) t.reaches c (fields_of l k) (line t.lines k) (opens_line s l c t e k h))

  -- where a cycle begins: the first line, or the one that follows the wait
  pub from_beginning : (p : ℕ) → p ≡ 512 → 0 ≡ from t.lines p
  unfolding from
  from_beginning p h = rw (eq-eqb p 512 h)

  pub from_wait : (p : ℕ) → (p ≡ 512 → ⊥) → place_allowed t.lines p ≡ true → word2_at l (p * 12 + 6) ≡ from t.lines p
  unfolding from place_allowed
  from_wait p f h = rw (ne_eqb p 512 f) (opens_next p
      (ltb-true p (length t.lines) (and_left (ltb p (length t.lines)) _ (or_other (eqb p 512) _ (ne_eqb p 512 f) h))))
