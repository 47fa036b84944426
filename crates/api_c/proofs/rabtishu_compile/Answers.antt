-- `api_c::rabtishu_compile` meets its contract: the compiler's, its answer as three numbers, whose place and count have 32 bits. Assumes nothing.
use mathlib.Core.Path.{ap, ◌∙◌}
use Prim.Native.Nat.{ℕ}
use Rattle.base_answers.specs.Answers.{Told, counted}
use Rattle.base_answers.specs.Numbers.{numbers_of}
use Rattle.spec_interface.specs.Compile.{compile_of}
use Rattle.api_c.proofs.CallLaws.{compiled_numbers_lem}
use Rattle.api_c.proofs.NarrowLaws.{compile_narrow}
use Rattle.api_c.proofs.rabtishu_compile.Goals as goal

pub answered-requires : goal.answered-requires
answered-requires c = compile_narrow _ _ c.compile.result c.compile.ensures.0

pub returns : goal.returns
returns c = (
  c.answered.ensures
      ∙ (ap (λ (t : Told ℕ). numbers_of (counted (λ n. n) t)) c.compile.ensures.0
      ∙ compiled_numbers_lem (compile_of c.args.text.now c.args.image.now).answer),
  c.compile.ensures.1,
)
