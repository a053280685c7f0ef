use Rattle.gm_listing.specs.Listing.{name_field}
use Rattle.gm_listing.proofs.Writing.{IsWriting}
use Rattle.gm_listing.proofs.tables.put_names.Given as goal

abbrev pub invariant-loop-name : goal.invariant-loop-name
invariant-loop-name l = IsWriting (λ name. name_field name.now) l.initial.text.items l.text.items l.names l.name-index
