use Rattle.std.proofs.Common.{◌≡◌, pos, replicate}
use Rattle.front_elaborator.specs.Names.{of_mode, type_at, place_at}
use Rattle.front_elaborator.proofs.NameLaws.{Picks}
use Rattle.front_elaborator.proofs.names.declared.Given as goal

abbrev pub invariant-loop-k : goal.invariant-loop-k
invariant-loop-k l =
    record {
      type : Picks (of_mode l.decls l.clock l.mode) (type_at l.decls) (replicate 32 0) l.k-end l.names.types l.names.count l.k;
      start : Picks (of_mode l.decls l.clock l.mode) (place_at l.starts l.decls) (replicate 32 0) l.k-end l.names.starts l.names.count l.k;
      size : Picks (of_mode l.decls l.clock l.mode) (place_at l.sizes l.decls) (replicate 32 0) l.k-end l.names.sizes l.names.count l.k;
      value : l.names.values ≡ replicate 32 (pos 0);
    }
