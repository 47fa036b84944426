-- What each stage asks of the arrays, from what is known of the tree that they hold. Assumes nothing.
use mathlib.Core.Path.{◌≡◌}
use mathlib.Core.List.{List, []}
use Prim.Native.Nat.{ℕ}
use Rattle.spec_grammar.specs.Tree.{Text}
use Rattle.spec_language.specs.Names.{names}
use Rattle.front_offences.specs.declared.Shape.{Shape}
use Rattle.front_typing.specs.Judges as T
use Rattle.front_values.specs.Judges as W
use Rattle.front_clock.specs.Judges as K
use Rattle.front_classes.specs.Judges as C
use Rattle.front_accept.specs.Stages.{Read, Named}

module _ {starts codes indices rows decls owners : List ℕ} {p : Shape} (t : Text) where
  -- no name is wrong
  pub named : {text sizes : List ℕ} → Read text starts sizes p codes indices rows decls owners t → names t ≡ []
      → Named starts p codes indices rows decls owners t
  named h e = record { tokens = h.held.tokens; kinds = h.held.kinds; laid = h.held.laid; process = h.process; within = h.within; named = e }

  module _ (h : Named starts p codes indices rows decls owners t) where
    pub of_types : T.Held starts p codes indices rows decls owners t
    of_types = record { tokens = h.tokens; kinds = h.kinds; laid = h.laid; limited = h.within.items }

    pub of_values : W.Held starts p decls t
    of_values = record { tokens = h.tokens; kinds = h.kinds; of_tokens = h.laid.of_tokens; of_decls = h.laid.of_decls }

    pub of_clock : K.Held starts p codes indices rows decls owners t
    of_clock = record { tokens = h.tokens; kinds = h.kinds; laid = h.laid; named = h.named }

    pub of_classes : C.Held starts p rows t
    of_classes = record { tokens = h.tokens; kinds = h.kinds; of_tokens = h.laid.of_tokens; of_rows = h.laid.of_rows; process = h.process }
