use Rattle.std.proofs.Common.{◌≡◌, drop, map}
use Rattle.std.specs.Prelude.{◌+◌}
use Rattle.gm_lowering.specs.Blocks as Blocks
use Rattle.gm_message.specs.Views.{as_load}
use Rattle.gm_terms.proofs.terms.load_index.Given as goal

-- what is left gives the rest of the index
abbrev pub invariant-loop-load : goal.invariant-loop-load
invariant-loop-load l =
    l.index + Blocks.load_index (as_load l.fn.wanted) (map as_load (drop l.load-index l.loads)) ≡ Blocks.load_index (as_load l.fn.wanted) (map as_load l.loads)
