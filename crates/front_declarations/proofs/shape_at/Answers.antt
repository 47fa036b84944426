-- `front_declarations::shape_at` meets its contract: each field by its own function. Assumes nothing.
use Rattle.front_declarations.proofs.shape_at.Goals as goal

pub returns : goal.returns
returns c =
    rw (
      c.type_of-of.ensures,
      c.init_of-init.ensures,
      c.value_index-value.ensures,
      c.kind_at-after.ensures,
      c.kind_at-kind.ensures,
      c.kind_at.ensures,
    )
