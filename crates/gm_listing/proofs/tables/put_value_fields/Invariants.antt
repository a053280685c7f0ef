use Rattle.std.specs.Prelude.{slice_get}
use Rattle.gm_listing.specs.Listing.{value_field}
use Rattle.gm_listing.proofs.Writing.{IsWriting}
use Rattle.gm_listing.proofs.tables.put_value_fields.Given as goal

abbrev pub invariant-loop-values : goal.invariant-loop-values
invariant-loop-values l = IsWriting (λ values. value_field l.graph.numbers (slice_get values l.node)) l.initial.text.items l.text.items l.properties l.values-index
