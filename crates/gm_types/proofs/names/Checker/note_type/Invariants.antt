use Rattle.std.proofs.Common.{◌≡◌, ◌≤◌, length}
use Rattle.gm_base.specs.Rules.{least_from}
use Rattle.gm_ast.specs.SurfaceTree.{type_of}
use Rattle.gm_ast.specs.Statements.{type_broken}
use Rattle.gm_types.specs.Views.{env_of}
use Rattle.gm_types.specs.Notes.{type_upto}
use Rattle.gm_types.proofs.names.Checker.note_type.Given as goal

-- what the layers that are left break leads from the least so far to the answer
abbrev pub invariant-layers : goal.invariant-layers
invariant-layers l = record {
  within : l.left ≤ length l.vtype.layers.items;
  rest : l.self ≡ record l.initial.self { least = l.self.least };
  least : least_from l.self.least (type_broken (type_upto l.vtype l.left) l.inner (env_of l.initial.self)) ≡ least_from l.initial.self.least (type_broken (type_of l.vtype) l.initial.inner (env_of l.initial.self));
}

abbrev pub decreases-layers : goal.decreases-layers
decreases-layers l = l.left
