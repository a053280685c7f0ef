use Rattle.std.proofs.Common.{◌≡◌, ◌++◌, map, length}
use Rattle.std.specs.Vec.Iter.{into_iter_items, into_iter_len}
use Rattle.gm_lowering.specs.Lowered.{kind_of}
use Rattle.gm_message.specs.Views.{as_kind}
use Rattle.gm_lower.proofs.images.kinds_of.Given as goal

-- what is there and what is left make the whole
abbrev pub invariant-loop-kind : goal.invariant-loop-kind
invariant-loop-kind l =
    (l.kinds.items ++ map kind_of (map as_kind (into_iter_items l.kind-iterator))
    ≡ l.initial.kinds.items ++ map kind_of (map as_kind (into_iter_items l.initial.kind-iterator)))
    × (into_iter_len l.kind-iterator ≡ length (into_iter_items l.kind-iterator))
