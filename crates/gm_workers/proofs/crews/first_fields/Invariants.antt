-- The nodes so far have their first fields.
use Rattle.std.proofs.Common.{◌≡◌, length, map, take}
use Rattle.gm_image.specs.Views.{program}
use Rattle.gm_machine.specs.Machine.{start_fields}
use Rattle.gm_workers.proofs.crews.first_fields.Given as goal

abbrev pub invariant-loop-place : goal.invariant-loop-place
invariant-loop-place l = record {
  width : l.fields.width ≡ length l.image.fields;
  long : length l.fields.rows ≡ length l.nodes;
  first : take l.place l.fields.rows ≡ map (λ n. start_fields (program l.image) l.graph (n, n)) (take l.place l.nodes);
}
