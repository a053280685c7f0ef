-- The nodes so far have their first fields, and the others zeros.
use Rattle.std.proofs.Common.{◌≡◌, ◌-◌, ◌++◌, ℕ, length, map, take, replicate}
use Rattle.gm_value.specs.Numbers.{zero_of}
use Rattle.gm_image.specs.Views.{program}
use Rattle.gm_machine.specs.Machine.{start_fields}
use Rattle.gm_machine.proofs.own_fields.start_of_nodes.Given as goal

abbrev pub invariant-loop-place : goal.invariant-loop-place
invariant-loop-place l = record {
  width : l.fields.width ≡ length (program l.image).fields;
  rows : l.fields.rows ≡ map (λ (node : ℕ). start_fields (program l.image) l.graph (node, 0)) (take l.place l.nodes) ++ replicate (length l.nodes - l.place) (map zero_of (program l.image).fields);
}
