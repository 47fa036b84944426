-- `front_accept::accept` meets its contract: the tokens decide, or the refusal of the lexer. Assumes nothing.
use mathlib.Core.Path.{refl, sym, ◌∙◌}
use Rattle.std.proofs.Common.{rules}
use Rattle.front_accept.specs.Fronts.{design_arrays}
use Rattle.front_accept.proofs.Fronting.{front_lexed, front_not_lexed}
use Rattle.front_accept.proofs.accept.Goals as goal

pub returns : goal.returns
returns c =
    λ z. front_lexed _ _ _ _ _ _ _ _ _ c.parsed_text.result _
    c.in_ok-n.was
    c.lex.ensures refl refl refl refl
    (λ ts h. c.parsed_text.ensures z ts h)

pub returns-in_err-n : goal.returns-in_err-n
returns-in_err-n c =
    λ z. front_not_lexed _ _ (design_arrays _ _ _) (sym c.in_err-n.was ∙ c.lex.ensures.answer) (search rules)
