use Rattle.std.proofs.Common.{◌≡◌}
use Rattle.gm_store.specs.Held.{shape_of}
use Rattle.gm_runtime_tests.proofs.argument_totals.write_all.Given as goal

-- the store so far has the same slots
abbrev pub invariant-loop-write : goal.invariant-loop-write
invariant-loop-write l = shape_of l.store ≡ shape_of l.fn.store
