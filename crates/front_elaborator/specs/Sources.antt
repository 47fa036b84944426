-- What the elaborator's arrays must hold besides those of the stages: names' indices; and the items of an accepted text. Assumes nothing.
use Rattle.std.specs.Prelude.{◌≡◌, true, false, List, ℕ, ◌≤◌}
use Rattle.std.proofs.Math.Option.{Option, some}
use Rattle.base_codes.specs.Item as I
use Rattle.base_codes.specs.Limit.{INTEGER}
use Rattle.spec_grammar.specs.Token.{Token}
use Rattle.base_codes.specs.Token.{NAME, NUMBER}
use Rattle.spec_language.specs.Declarations.{Decl, Scope, find, is_output, is_variable, is_clock, is_data}
use Rattle.spec_language.specs.Elaboration.{position}
use Rattle.front_layout.specs.Postfix.{Item}
use Rattle.front_offences.specs.Kinded.{IsBit}
use Rattle.front_elaborator.specs.Positions.{slot_at}

-- the array holds, for each declaration, its index among the data inputs, the outputs or the variables; c is the clock's name
pub record SlotsIn (Δ : List Decl) (Γ : Scope) (c : Option Token) (slots : List ℕ) : Type 0 where
  pub input : (v : ℕ) (e : Decl) → find Δ v ≡ some e → is_data c e ≡ true → slot_at slots (position Δ v) ≡ position Γ.inputs v
  pub output : (v : ℕ) (e : Decl) → find Δ v ≡ some e → is_output e.mode ≡ true → slot_at slots (position Δ v) ≡ position Γ.outputs v
  pub variable : (v : ℕ) (e : Decl) → find Δ v ≡ some e → is_variable e.mode ≡ true → slot_at slots (position Δ v) ≡ position Γ.variables v

-- an item of an accepted text: a name that is not the clock's, a number within the limit, '0' or '1', or an operator
pub record Fine (c : Option Token) (i : Item) : Type 0 where
  pub name : i.code ≡ I.NAME → i.token.kind ≡ NAME
  pub unclocked : i.code ≡ I.NAME → is_clock c i.token.value ≡ false
  pub number : i.code ≡ I.NUMBER → i.token.kind ≡ NUMBER
  pub small : i.code ≡ I.NUMBER → i.token.value ≤ INTEGER
  pub bit : i.code ≡ I.BIT → IsBit i.token
