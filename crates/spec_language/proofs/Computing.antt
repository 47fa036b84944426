-- Opens everything that a verdict, a token or a reading computes by: an example says `unfolding computed` and is then `refl`. Assumes nothing.
use mathlib.Core.Option.{Option, none, some}
use mathlib.Core.List.{List}
use Prim.Native.Nat.{ℕ}
use Rattle.spec_grammar.specs.Grammar as Grammar
use Rattle.spec_grammar.specs.Meter as Meter
use Rattle.spec_grammar.specs.Acceptance as Acceptance
use Rattle.spec_grammar.specs.Reader as Reader
use Rattle.spec_design.specs.Types as Types
use Rattle.spec_design.specs.Expression as Expression
use Rattle.spec_design.specs.Statement as Statement
use Rattle.spec_language.specs.Lists as Lists
use Rattle.spec_language.specs.Bytes as Bytes
use Rattle.spec_language.specs.Words as Words
use Rattle.spec_language.specs.Lexer as Lexer
use Rattle.spec_language.specs.Declarations as Declarations
use Rattle.spec_language.specs.Names as Names
use Rattle.spec_language.specs.Typing as Typing
use Rattle.base_codes.specs.Operation as Operation
use Rattle.spec_language.specs.Values as Values
use Rattle.spec_language.specs.Clock as Clock
use Rattle.spec_language.specs.Classes as Classes
use Rattle.spec_language.specs.Rules as Rules
use Rattle.spec_language.specs.Elaboration as Elaboration
use Rattle.spec_language.specs.Reading as Reading
use Rattle.spec_language.specs.Validity as Validity
use Rattle.spec_language.specs.Verdict as Verdict

unfoldable pub computed : List ℕ → Verdict.Verdict
unfolding Grammar.text_production Grammar.productions Meter.tick Meter.over Reader.nullable Reader.first Reader.follow Reader.rank Reader.elem Reader.nullables
    Reader.firsts Reader.chosen Reader.pick Reader.compose Reader.on_skip Reader.shift Reader.through Reader.by_rule Reader.enter Reader.advance Reader.at_end
    Reader.keep Reader.after Reader.run Reader.read_text Reader.placed Reader.answer Types.same_ty Types.same_type Expression.sum_type Expression.order_type
    Expression.equality_type Expression.logical_type Expression.type_of_unary Expression.type_of_binary Statement.seq_class Statement.if_class Lists.unless
    Lists.each Lists.filter Bytes.bytes Bytes.between Bytes.elem Bytes.fixed Bytes.bytes_of Bytes.byte_kind Bytes.is Bytes.in_word Bytes.not_lf
    Bytes.lower Words.well_made Words.folded Words.value Words.reserved Words.word_kind Words.peek Words.is_dashes Lexer.run Lexer.begins
    Lexer.fixed_start Lexer.word_start Lexer.number_start Lexer.start_from Lexer.start_of Lexer.◌▸◌ Lexer.on_start Lexer.lex_from Lexer.lex
    Lexer.on_token Lexer.token_from Lexer.token_at Declarations.type_named Declarations.declare Declarations.spread Declarations.groups
    Declarations.declared Declarations.is_input Declarations.is_output Declarations.is_variable Declarations.find Declarations.is_a
    Declarations.type_in Declarations.within Declarations.statements Declarations.or_else Declarations.wait_name
    Declarations.first_wait Declarations.clock_of Declarations.is_logic Declarations.clock_like Declarations.is_clock
    Declarations.is_data Declarations.scope_for Declarations.scope_of Names.again Names.doubled Names.readable
    Names.names_in Names.names_of Names.differs Names.names Operation.operator_of Typing.result_of Typing.on_one
    Typing.on_two Typing.type_of Typing.wrong1 Typing.wrong2 Typing.types_in Typing.wants Typing.types_of
    Typing.initial_of Typing.initials_of Typing.types Values.first_at Values.missing Values.values_of
    Values.values Clock.reads_in Clock.reads_of Clock.strays Clock.clock_for Clock.clock Classes.pair
    Classes.looped Classes.class Classes.classes Classes.is_c Classes.not_classed_wrong Classes.loops_of
    Classes.or_whole Classes.loops Rules.by Rules.table Elaboration.minus Elaboration.bit_value
    Elaboration.source Elaboration.position Elaboration.name_code Elaboration.named
    Elaboration.or_boolean Elaboration.or_plus Elaboration.code Elaboration.stmt
    Elaboration.stmts Elaboration.initial Elaboration.slot Elaboration.process_for
    Elaboration.elaborate Reading.read_expr Reading.read_stmt Reading.read_body
    Reading.given Reading.unless_input Reading.read_decl Reading.reading
    Validity.place_of Verdict.earlier Verdict.earliest
    Verdict.lowest_offence Verdict.judged Verdict.ruled
    Verdict.parsed Verdict.lexed Verdict.verdict
computed b = Verdict.verdict b

-- the reading of a text that lexes and parses
unfoldable pub on_answer : Acceptance.Answer → Option Reading.Reading
on_answer (Acceptance.accepted t) = some (Reading.reading t)
on_answer (Acceptance.no_sentence k) = none
on_answer (Acceptance.past_limit k) = none

unfoldable pub on_lexed : Lexer.Lexed → Option Reading.Reading
on_lexed (Lexer.tokens ts) = on_answer (Reader.answer ts)
on_lexed (Lexer.malformed p) = none

unfoldable pub reading_of : List ℕ → Option Reading.Reading
reading_of b = on_lexed (Lexer.lex b)
