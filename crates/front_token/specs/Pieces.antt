-- What starts at a place of a text: language's `start_of`, with ends in place of sizes. Assumes nothing.
use Rattle.std.specs.Prelude.{List, [], ◌∷◌, ℕ, ◌+◌, drop}
use Rattle.spec_language.specs.Lexer.{Start, gap, lexeme, unknown, start_of}
use Rattle.front_token.specs.declared.pieces.Piece.{Piece}
use Rattle.front_token.specs.declared.pieces.Piece.TheVariants.{Gap, Token, Nothing}

-- a gap or a token of so many bytes that stands at a place, by its end
abbrev pub placed : Start → ℕ → Piece
placed (gap n) at = Gap (at + n)
placed (lexeme k v n) at = Token k (at + n)
placed unknown at = Nothing

-- of the rest of a text; at its end no token starts
abbrev pub piece_from : List ℕ → ℕ → Piece
piece_from [] at = Nothing
piece_from (b ∷ l) at = placed (start_of b l) at

-- of a text, at a place
abbrev pub piece_at : List ℕ → ℕ → Piece
piece_at text at = piece_from (drop at text) at
