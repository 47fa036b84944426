-- `front_accept::layout::declared` meets its contract: the three kinds of names, one after the other. Assumes nothing.
use mathlib.Core.Path.{refl}
use Rattle.front_accept.proofs.layout.declared.Goals as goal

pub returns : goal.returns
returns c =
    record {
      statements = refl;
      operations = refl;
      inputs = c.inputs-inputs.ensures;
      outputs = c.slotted-outputs.ensures;
      variables = c.slotted-variables.ensures;
    }
