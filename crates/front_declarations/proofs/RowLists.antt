-- The rows of a group's names: stored one after another, and seen as the grammar's group. Assumes nothing.
use mathlib.Core.Path.{◌≡◌, refl, sym, ◌∙◌, ap, subst}
use mathlib.Core.Bool.{Bool, true, false, cond}
use mathlib.Core.List.{List, map}
use Prim.Native.Nat.{ℕ, zero, suc, ◌+◌, ◌-◌, ◌*◌, ◌≤◌, ◌<◌}
use native.Mathlib.Omega.{arith}
use lib.Dec.{eqb}
use lib.ListN.{length, length-map, get_or-eq_default}
use Rattle.spec_design.specs.Types.{std_logic, integer, type_byte}
use Rattle.base_codes.specs.Token.{INTEGER}
use Rattle.spec_grammar.specs.Token.{Token}
use Rattle.spec_language.specs.Declarations.{type_named}
use Rattle.spec_grammar.specs.Tree.{without, integer_literal, logic_literal, minus, Mode, Group}
use Rattle.spec_grammar.specs.Reader.{choose}
use Rattle.front_layout.specs.Tokens.{token_at, no_token, kind_in, Holds}
use Rattle.front_cursor.proofs.Steps.{kind_is}
use Rattle.front_declarations.specs.declared.Shape.{Shape}
use Rattle.front_declarations.specs.Headers.{names_from}
use Rattle.front_layout.specs.Headings.{mode_code, init_code, init_token, value_token, value_index, names_of, group_names, group_headings, DeclRow, heading_seen}
use Rattle.front_layout.specs.Headings.{set_decl, store_decls, WroteNames}
use Rattle.front_declarations.specs.Rows.{row_of, rows_of, type_of, init_of, value_from, shape_at}
use Rattle.front_declarations.proofs.Values.{init_from}

-- The loop that stores rows: what is still to be stored, into the array as it is, makes what the whole makes.
pub record Storing (g : Shape) (i j at : ℕ) (before : List ℕ) (k name : ℕ) (l : List ℕ) : Type 0 where
  pub low : name ≤ 16384 + 2 * k
  pub rest : store_decls k (rows_of g name (j - k)) l ≡ store_decls i (rows_of g at (j - i)) before

pub storing_first : (g : Shape) (i j at : ℕ) (l : List ℕ) → at ≤ 16384 → Storing g i j at l i at l
storing_first g i j at l a = record { low = omega arith; rest = refl }

pub storing_again : {g : Shape} {i j at : ℕ} {before : List ℕ} {k name : ℕ} {l l' : List ℕ} → Storing g i j at before k name l → k < j
    → l' ≡ set_decl k (row_of g name) l → Storing g i j at before (k + 1) (name + 2) l'
unfolding rows_of store_decls
storing_again {g} {i} {j} {at} {before} {k} {name} {l} {l'} s h e =
    let c : suc (j - (k + 1)) ≡ j - k = omega arith in
    record {
      low = let z = s.low in omega arith;
      rest = ap (store_decls (k + 1) (rows_of g (name + 2) (j - (k + 1)))) e ∙ (ap (λ (c : ℕ). store_decls k (rows_of g name c) l) c ∙ s.rest);
    }

pub storing_done : {g : Shape} {i j at : ℕ} {before : List ℕ} {k name : ℕ} {l : List ℕ} → Storing g i j at before k name l → j ≤ k
    → l ≡ store_decls i (rows_of g at (j - i)) before
unfolding rows_of store_decls
storing_done {g} {i} {j} {at} {before} {k} {name} {l} s h = let c : 0 ≡ j - k = omega arith in ap (λ (c : ℕ). store_decls k (rows_of g name c) l) c ∙ s.rest

-- The rows of a shape are the names of a group, where the shape has the group's mode, type and value.
pub record Alike (ts : List Token) (g : Group) (s : Shape) : Type 0 where
  pub mode : s.mode ≡ mode_code g.mode
  pub type : s.kind ≡ type_byte (type_named g.type)
  pub init : s.init ≡ init_code g.init
  pub value : token_at ts s.value ≡ init_token g.init
  pub literal : token_at ts (value_index (init_code g.init) s.value) ≡ value_token g.init

pub rows_seen : (ts : List Token) (g : Group) (s : Shape) → Alike ts g s → (at c : ℕ)
    → map (heading_seen ts) (rows_of s at c) ≡ names_of g (token_at ts s.first) (names_from ts at c)
unfolding rows_of names_of names_from
rows_seen ts g s a at zero = refl
rows_seen ts g s a at (suc c) = rw (rows_seen ts g s a (at + 2) c, a.mode, a.type, a.init, a.value, a.literal)

type_seen : (x : Token) → type_of x.kind ≡ type_byte (type_named x)
unfolding type_named
type_seen x = go (eqb x.kind INTEGER)
  where
    go : (b : Bool) → choose b (type_byte integer) (type_byte std_logic) ≡ type_byte (cond b integer std_logic)
    go true = refl
    go false = refl

module _ {ts : List Token} {kinds long : List ℕ} {n : ℕ} (holds : Holds ts kinds long n) (short : n ≤ 16384) where
  init_seen : (i : ℕ) → init_of (kind_in kinds n i) (kind_in kinds n (i + 1)) ≡ init_code (init_from ts i)
  unfolding init_code
  init_seen i = rw (kind_is holds i, kind_is holds (i + 1)) (go (eqb (token_at ts i).kind 10) (eqb k 12) (eqb k 3) (eqb k 4))
    where
      k : ℕ
      k = (token_at ts (i + 1)).kind

      x : Token
      x = token_at ts (i + 1)

      y : Token
      y = token_at ts (i + 1 + 1)

      go : (a b c d : Bool) → choose a (choose b 3 (choose c 2 (choose d 2 1))) 0 ≡ init_code
          (choose a (choose b (minus x y) (choose c (logic_literal x) (choose d (logic_literal x) (integer_literal x)))) without)
      go false b c d = refl
      go true true c d = refl
      go true false true d = refl
      go true false false true = refl
      go true false false false = refl

  value_seen : (i : ℕ) → token_at ts (value_from (kind_in kinds n i) i) ≡ init_token (init_from ts i)
  unfolding init_token
  value_seen i = rw (kind_is holds i) (go (eqb (token_at ts i).kind 10) (eqb k 12) (eqb k 3) (eqb k 4))
    where
      k : ℕ
      k = (token_at ts (i + 1)).kind

      x : Token
      x = token_at ts (i + 1)

      y : Token
      y = token_at ts (i + 1 + 1)

      go : (a b c d : Bool) → token_at ts (choose a (i + 1) 16384) ≡ init_token
          (choose a (choose b (minus x y) (choose c (logic_literal x) (choose d (logic_literal x) (integer_literal x)))) without)
      go false b c d = get_or-eq_default ts no_token {n = 16384} (let c = holds.count in omega arith)
      go true true c d = refl
      go true false true d = refl
      go true false false true = refl
      go true false false false = refl

  literal_seen : (i : ℕ) → token_at ts (value_index (init_code (init_from ts i)) (value_from (kind_in kinds n i) i)) ≡ value_token (init_from ts i)
  unfolding init_code value_index value_token
  literal_seen i = rw (kind_is holds i) (go (eqb (token_at ts i).kind 10) (eqb k 12) (eqb k 3) (eqb k 4))
    where
      k : ℕ
      k = (token_at ts (i + 1)).kind

      x : Token
      x = token_at ts (i + 1)

      y : Token
      y = token_at ts (i + 1 + 1)

      go : (a b c d : Bool) → token_at ts (value_index
          (init_code (choose a (choose b (minus x y) (choose c (logic_literal x) (choose d (logic_literal x) (integer_literal x)))) without))
          (choose a (i + 1) 16384))
          ≡ value_token (choose a (choose b (minus x y) (choose c (logic_literal x) (choose d (logic_literal x) (integer_literal x)))) without)
      go false b c d = get_or-eq_default ts no_token {n = 16384} (let c = holds.count in omega arith)
      go true true c d = refl
      go true false true d = refl
      go true false false true = refl
      go true false false false = refl

  pub shape_alike : (first mode at : ℕ) (m : Mode) (names : List Token) → mode ≡ mode_code m
      → Alike ts (record { names = names; mode = m; type = token_at ts at; init = init_from ts (at + 1) }) (shape_at kinds n first mode at)
  shape_alike first mode at m names e = record {
    mode = e;
    type = rw (kind_is holds at) (type_seen (token_at ts at));
    init = init_seen (at + 1);
    value = value_seen (at + 1);
    literal = literal_seen
        (at + 1);
  }

rows_count : (g : Shape) (at c : ℕ) → length (rows_of g at c) ≡ c
unfolding rows_of
rows_count g at zero = refl
rows_count g at (suc c) = ap suc (rows_count g (at + 2) c)

-- The names of a whole group are written.
pub group_wrote : {ts : List Token} {kinds long : List ℕ} {n : ℕ} → Holds ts kinds long n → n ≤ 16384
    → (first at i j c mode : ℕ) (m : Mode) (names : List Token) (before after : List ℕ) → mode ≡ mode_code m → names ≡ names_from ts first (suc c) → j ≡ i + suc c
    → after ≡ store_decls i (rows_of (shape_at kinds n first mode at) first (j - i)) before
    → WroteNames ts i j before after (group_headings (record { names = names; mode = m; type = token_at ts at; init = init_from ts (at + 1) }))
unfolding names_from group_names
group_wrote {ts} {kinds} {long} {n} holds short first at i j c mode m names before after em en ej es =
    subst (λ (ns : List Token). WroteNames ts i j before after
    (group_headings (record { names = ns; mode = m; type = token_at ts at; init = init_from ts (at + 1) }))) (sym en)
    (record { rows = rows; count = count; are = are; stored = es ∙ ap (λ (d : ℕ). store_decls i (rows_of s first d) before) taken })
  where
    s : Shape
    s = shape_at kinds n first mode at

    g : Group
    g = record { names = names_from ts first (suc c); mode = m; type = token_at ts at; init = init_from ts (at + 1) }

    rows : List DeclRow
    rows = rows_of s first (suc c)

    taken : j - i ≡ suc c
    taken = omega arith

    are : map (heading_seen ts) rows ≡ group_headings g
    are = rows_seen ts g s (shape_alike holds short first mode at m (names_from ts first (suc c)) em) first (suc c)

    count : j ≡ i + length (group_headings g)
    count = let a = ap length are in let b = length-map rows (heading_seen ts) in let d = rows_count s first (suc c) in omega arith
