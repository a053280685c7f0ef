use Rattle.std.specs.Prelude.{map}
use Rattle.std.specs.List.{zip}
use Rattle.gm_listing.specs.Listing.{value_line}
use Rattle.gm_listing.proofs.Writing.{IsWriting}
use Rattle.gm_listing.proofs.scalars.put_scalars.Given as goal

abbrev pub invariant-loop-i : goal.invariant-loop-i
invariant-loop-i l = IsWriting (λ scalar. value_line l.graph.numbers scalar.0 scalar.1) l.initial.text.items l.text.items (zip (map (λ name. name.now) l.names) l.values) l.i
