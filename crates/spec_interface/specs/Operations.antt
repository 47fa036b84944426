-- To be read first: the definitions of the public operations. Each stands in the `ensures` of the code that performs the operation. They are functions, so
-- every call ends and has one outcome, refused calls too. What callers are told and lent by them is in Entry and Lending (Rattle) and CInterface (C). Assumes
-- nothing.

-- the compiler: a text and a lent buffer to the buffer with the image's bytes and their number, or 1 to 10
unfoldable pub use Rattle.spec_interface.specs.Compile.{compile_of}
-- the opener: an image to its table, or 11 to 13
unfoldable pub use Rattle.spec_format.specs.Opening.{open_of}
-- the fresh state of an image: place 512 and the initial values, or 11 to 13
unfoldable pub use Rattle.spec_format.specs.State.{fresh_of}
-- a cycle: image, state record, input row and lent output row to the way performed, state record and output row, or 11 to 16 or 18
unfoldable pub use Rattle.spec_format.specs.Cycle.{cycle_of}
-- a list of cycles on an image, each from the state record that the one before it left
unfoldable pub use Rattle.spec_format.specs.Cycle.{calls_of}
-- many rows in one call on an image: the same rows given singly, or 11 to 13 or 17 for the call as a whole
unfoldable pub use Rattle.spec_format.specs.Batch.{batch_of}
-- the direct run of a cycle from the text, without an image: as a cycle, or 1 to 9, 14 to 16 or 18
unfoldable pub use Rattle.spec_behaviour.specs.Direct.{direct_of}
-- the fresh state of a text: the beginning and the initial values, or 1 to 9
unfoldable pub use Rattle.spec_behaviour.specs.Direct.{direct_fresh}
-- the bytes of the token that starts at a place of a text; none where no token starts there
unfoldable pub use Rattle.spec_language.specs.Lexer.{token_at}
