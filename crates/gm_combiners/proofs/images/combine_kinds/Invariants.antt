use Rattle.std.proofs.Common.{◌≡◌, ◌++◌, length}
use Rattle.std.specs.Vec.Iter.{into_iter_items, into_iter_len}
use Rattle.gm_combiners.specs.Candidates.{leaves, left_for}
use Rattle.gm_combiners.specs.Combiners.{first_fitting, kinds_with}
use Rattle.gm_combiners.proofs.images.combine_kinds.Given as goal

-- the kinds so far
abbrev pub invariant-loop-kind : goal.invariant-loop-kind
invariant-loop-kind l = record {
  rest : l.yielded ++ into_iter_items l.kind-iterator ≡ into_iter_items l.initial.kind-iterator;
  kinds : l.combined.items ≡ kinds_with (λ k types. first_fitting (leaves (left_for l.candidates k)) types) 0 l.yielded;
  number : l.number ≡ length l.yielded;
  long : into_iter_len l.kind-iterator ≡ length (into_iter_items l.kind-iterator);
}
