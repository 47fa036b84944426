-- `direct_expressions::evaluation::evaluate` meets its contract: the operations leave the expression's value. Assumes nothing.
use Rattle.base_codes.specs.Fault.{outcome}
use Rattle.direct_expressions.proofs.ExpressionLaws.{value_told}
use Rattle.direct_expressions.proofs.evaluation.evaluate.Goals as goal

pub returns : goal.returns
returns c =
    record {
      value = c.run.ensures;
      of_expression = (λ e h n l. value_told c.args.inputs.now c.args.variables.now
          c.args.codes.now c.args.args.now c.args.from
          c.args.to (outcome c.run.result) c.run.ensures e h n l);
    }
