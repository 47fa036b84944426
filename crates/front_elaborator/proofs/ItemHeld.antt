-- The operations by position are those of the items, which are those of the design. Assumes nothing.
use mathlib.Core.Path.{◌≡◌, refl, sym, ◌∙◌, ap}
use mathlib.Core.Bool.{Bool, true, false, cond}
use mathlib.Core.Logic.{inl, inr}
use mathlib.Core.Option.{Option, none, some}
use mathlib.Core.List.{List, [], ◌∷◌, map}
use Prim.Native.Nat.{ℕ, zero, suc, ◌+◌, ◌≤◌, ◌<◌}
use native.Mathlib.Omega.{arith}
use lib.Dec.{eqb}
use lib.ListN.{length, get_or}
use lib.IntN.{pos}
use borrow.Author.Tests.{lt-ltb, le-leb, ne_eqb}
use Rattle.base_codes.specs.Item as I
use Rattle.spec_grammar.specs.Token.{Token}
use Rattle.base_codes.specs.Token.{one_of, NAME, NUMBER, ZERO, ONE}
use Rattle.spec_grammar.specs.Tree.{Mode, input, output_port, variable_mode, Text}
use Rattle.spec_grammar.specs.Reader.{choose}
use Rattle.spec_grammar.specs.Limits.{Each}
use Rattle.spec_grammar.proofs.Each.{each_at}
use Rattle.spec_language.specs.Bytes.{fixed}
use Rattle.spec_language.specs.Words.{value}
use Rattle.spec_language.specs.Lists.{filter}
use Rattle.spec_language.specs.Declarations.{Decl, scope_for, declared, find, is_input, is_output, is_variable, is_clock, is_data}
use Rattle.spec_language.specs.Elaboration.{position}
use Rattle.spec_language.proofs.Facts.{find_name}
use Rattle.front_token.specs.Places.{part}
use Rattle.front_lexer.specs.TokenValues.{Valued, token_value}
use Rattle.front_lexer.proofs.TokenValues.{number_token}
use Rattle.front_layout.specs.Tokens.{token_at, no_token}
use Rattle.front_layout.specs.Postfix.{Item, item_of}
use Rattle.front_layout.specs.Items.{item_at_index}
use Rattle.front_layout.specs.Arrays.{TokensIn, OwnersIn, placed_from}
use Rattle.front_layout.specs.Headings.{mode_code, headings, DeclsIn}
use Rattle.front_offences.specs.Kinded.{IsBit}
use Rattle.front_offences.proofs.Tokens.{kind_inside}
use Rattle.front_offences.proofs.Owners.{mode_of, mode_found, decls_count}
use Rattle.base_ir.specs.Operations.{Op, op, bit_arg}
use Rattle.front_limits.specs.Words.{WordsIn}
use Rattle.front_elaborator.specs.Elaborated.{mode_op, found_op, op_of}
use Rattle.front_elaborator.specs.Positions.{number_at, slot_at, within, name_code, name_arg, code_of, code_at, arg_at, ops_at}
use Rattle.front_elaborator.specs.Sources.{SlotsIn, Fine}

-- an index is no larger than its list
pub position_within : (l : List Decl) (v : ℕ) → position l v ≤ length l
unfolding position
position_within [] v = omega arith
position_within (d ∷ l) v = go (eqb d.name.value v) (position_within l v)
  where
    go : (b : Bool) → position l v ≤ length l → cond b zero (suc (position l v)) ≤ suc (length l)
    go true h = omega arith
    go false h = omega arith

pub filter_length : (p : Decl → Bool) (l : List Decl) → length (filter p l) ≤ length l
unfolding filter
filter_length p [] = omega arith
filter_length p (d ∷ l) = go (p d) (filter_length p l)
  where
    go : (b : Bool) → length (filter p l) ≤ length l → length (cond b (d ∷ filter p l) (filter p l)) ≤ suc (length l)
    go true h = omega arith
    go false h = omega arith

within_fits : (v : ℕ) → v ≤ 2147483647 → within v ≡ v
within_fits v h = rw (le-leb v 2147483647 h)

-- a name's operation, by its mode and its index
name_op : ℕ → ℕ → Op
name_op m s = op (name_code m) (pos (within (name_arg m s)))

module _ (Δ : List Decl) (c : Option Token) (slots : List ℕ) (S : SlotsIn Δ (scope_for Δ c) c slots) (few : length Δ ≤ 65) (v : ℕ) where
  filtered : (p : Decl → Bool) → within (position (filter p Δ) v) ≡ position (filter p Δ) v
  filtered p = let a = position_within (filter p Δ) v in let b = filter_length p Δ in within_fits (position (filter p Δ) v) (omega arith)

  found : (e : Decl) → find Δ v ≡ some e → is_clock c e.name.value ≡ false
      → name_op (mode_code e.mode) (slot_at slots (position Δ v)) ≡ mode_op (scope_for Δ c) v e.mode
  unfolding mode_code scope_for name_op is_input is_output is_variable is_data
  found e f u = go e.mode refl
    where
      go : (m : Mode) → e.mode ≡ m → name_op (mode_code m) (slot_at slots (position Δ v)) ≡ mode_op (scope_for Δ c) v m
      go input q = let d : is_data c e ≡ true = rw (q, u) in let s = S.input v e f d in rw s (ap (λ (z : ℕ). op 3 (pos z)) (filtered (is_data c)))
      go output_port q = refl
      go variable_mode q = let d : is_variable e.mode ≡ true = rw q in let s = S.variable v e f d in
          rw s (ap (λ (z : ℕ). op 4 (pos z)) (filtered (λ (x : Decl). is_variable x.mode)))

  name_op_lem : (o : Option Decl) → find Δ v ≡ o → is_clock c v ≡ false → name_op (mode_of o) (slot_at slots (position Δ v)) ≡ found_op (scope_for Δ c) v o
  unfolding mode_of name_op
  name_op_lem none f u = refl
  name_op_lem (some e) f u = found e f (rw (find_name Δ v e f) u)

-- '0' and '1' by kind and by value
bit_op : (text : List ℕ) (x : Token) (k : ℕ) → Valued text x → IsBit x → k ≡ x.kind
    → op 2 (pos (within (choose (eqb k 4) 1 0))) ≡ op 2 (bit_arg (eqb x.value 1))
unfolding token_value one_of fixed
bit_op text x k w (inl z) e = let h : x.value ≡ 0 = w.value ∙ rw z in rw (e, z, h)
bit_op text x k w (inr o) e = let h : x.value ≡ 1 = w.value ∙ rw o in rw (e, o, h)

module _ (text : List ℕ) (ts : List Token) (kinds starts sizes owners decls slots : List ℕ) (n d : ℕ) (t : Text) (c : Option Token)
    (T : TokensIn ts kinds starts n) (Z : WordsIn text ts sizes n) (O : OwnersIn ts (declared t) owners n) (D : DeclsIn ts (headings t) decls d)
    (S : SlotsIn (declared t) (scope_for (declared t) c) c slots) where
  -- what is read at an index that counts
  read : (l : List ℕ) (i : ℕ) → i < n → number_at l i ≡ get_or l i 0
  read l i h = let s = T.short in rw (lt-ltb i 16384 (omega arith))

  few : length (declared t) ≤ 65
  few = let a = decls_count ts t decls d D in let b = D.short in omega arith

  name_item : (i : ℕ) → Fine c (item_of I.NAME (token_at ts i))
      → op (code_at owners decls d I.NAME i) (pos (within (arg_at text starts sizes kinds owners decls d slots I.NAME i))) ≡ op_of (declared t)
      (scope_for (declared t) c)
      (item_of I.NAME (token_at ts i))
  unfolding code_at code_of arg_at op_of name_op
  name_item i f =
      let k = f.name refl in
      let l : i < n = kind_inside T i NAME k (omega arith) in
      let o : number_at owners i ≡ position (declared t) (token_at ts i).value = read owners i l ∙ O.owner i l k in
      let a = position_within (declared t) (token_at ts i).value in
      let b = few in
      let w : within (number_at owners i) ≡ position (declared t) (token_at ts i).value = ap within o
      ∙ within_fits (position (declared t) (token_at ts i).value) (omega arith) in
      rw (w, mode_found ts t decls d D (token_at ts i).value)
      (name_op_lem (declared t) c slots S few (token_at ts i).value (find (declared t) (token_at ts i).value) refl (f.unclocked refl))

  number_item : (i : ℕ) → Fine c (item_of I.NUMBER (token_at ts i))
      → op (code_at owners decls d I.NUMBER i) (pos (within (arg_at text starts sizes kinds owners decls d slots I.NUMBER i))) ≡ op_of (declared t)
      (scope_for (declared t) c)
      (item_of I.NUMBER (token_at ts i))
  unfolding code_at code_of arg_at op_of
  number_item i f =
      let k = f.number refl in
      let l : i < n = kind_inside T i NUMBER k (omega arith) in
      let a : number_at starts i ≡ (token_at ts i).place = read starts i l ∙ T.place i l in
      let b : number_at sizes i ≡ (token_at ts i).size = read sizes i l ∙ Z.size i l in
      let w : value 0 (part text (token_at ts i).place (token_at ts i).size) ≡ (token_at ts i).value =
      sym (number_token text (token_at ts i) (each_at (Valued text) ts no_token Z.valued i (let k = T.count in omega arith)) k) in
      rw (a, b, w, within_fits (token_at ts i).value (f.small refl), within_fits (token_at ts i).value (f.small refl))

  bit_item : (i : ℕ) → Fine c (item_of I.BIT (token_at ts i))
      → op (code_at owners decls d I.BIT i) (pos (within (arg_at text starts sizes kinds owners decls d slots I.BIT i))) ≡ op_of (declared t)
      (scope_for (declared t) c)
      (item_of I.BIT (token_at ts i))
  unfolding code_at code_of arg_at op_of
  bit_item i f =
      let l : i < n = inside (f.bit refl) in
      bit_op text (token_at ts i) (number_at kinds i) (each_at (Valued text) ts no_token Z.valued i (let k = T.count in omega arith)) (f.bit refl)
      (read kinds i l ∙ T.kind i l)
    where
      inside : IsBit (token_at ts i) → i < n
      inside (inl z) = kind_inside T i ZERO z (omega arith)
      inside (inr o) = kind_inside T i ONE o (omega arith)

  other_item : (k i : ℕ) → 3 < k → op (code_at owners decls d k i) (pos (within (arg_at text starts sizes kinds owners decls d slots k i))) ≡ op_of (declared t)
      (scope_for (declared t) c) (item_of k (token_at ts i))
  unfolding code_at code_of arg_at op_of
  other_item k i h =
      rw (ne_eqb k I.NAME (λ e. omega arith), ne_eqb k I.NUMBER (λ e. omega arith), ne_eqb k I.BIT (λ e. omega arith))

  item_op : (k i : ℕ) → Fine c (item_of k (token_at ts i))
      → op (code_at owners decls d k i) (pos (within (arg_at text starts sizes kinds owners decls d slots k i))) ≡ op_of (declared t) (scope_for (declared t) c)
      (item_of k (token_at ts i))
  unfolding code_at code_of arg_at op_of
  item_op zero i f = refl
  item_op (suc zero) i f = number_item i f
  item_op (suc (suc zero)) i f = bit_item i f
  item_op (suc (suc (suc zero))) i f = name_item i f
  item_op (suc (suc (suc (suc k)))) i f = other_item (suc (suc (suc (suc k)))) i (omega arith)

  -- the operations by position are those of the items
  pub ops_are : (codes indices : List ℕ) (m q : ℕ) (is : List Item) → map (item_at_index ts) (placed_from codes indices m q) ≡ is → Each (Fine c) is
      → ops_at (code_at owners decls d) (arg_at text starts sizes kinds owners decls d slots) codes indices m q ≡ map
      (op_of (declared t) (scope_for (declared t) c)) is
  unfolding ops_at placed_from
  ops_are codes indices m zero [] e f = refl
  ops_are codes indices m zero (i ∷ is) e f = absurd (let z : ◌≡◌ {A = ℕ} 0 1 = cc in omega arith)
  ops_are codes indices m (suc q) [] e f = absurd (let z : ◌≡◌ {A = ℕ} 0 1 = cc in omega arith)
  ops_are codes indices m (suc q) (i ∷ is) e f =
      let h : item_of (get_or codes m 0) (token_at ts (get_or indices m 0)) ≡ i = cc in
      let r : map (item_at_index ts) (placed_from codes indices (m + 1) q) ≡ is = cc in
      rw (item_op (get_or codes m 0) (get_or indices m 0) (rw h f.0), h, ops_are codes indices (m + 1) q is r f.1)
