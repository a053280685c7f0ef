-- Four scalars are added to a store of one node.
use Rattle.std.proofs.Common.{◌≡◌, ◌∙◌, ◌+◌, ℕ, ap, length}
use Rattle.gm_store.specs.Held.{Held, Shape, shape_of}
use Rattle.gm_runtime_tests.proofs.argument_totals.store.Goals as goal

-- one scalar more
more : (old new : Held) (n : ℕ) → shape_of old ≡ record { scalars = n; rows = 0; nodes = 1 } → shape_of new ≡ record (shape_of old) { scalars = length old.scalars + 1 } → shape_of new ≡ record { scalars = n + 1; rows = 0; nodes = 1 }
more old new n is added = added ∙ ap (λ (shape : Shape). record shape { scalars = shape.scalars + 1 }) is

pub returns : goal.returns
returns c =
    let one = more c.new-store.result c.add_scalar.new.self 0 (ap shape_of c.new-store.ensures) c.in_ok-add_scalar.ensures.shape in
    let two = more c.add_scalar.new.self c.add_scalar-2.new.self 1 one c.in_ok-add_scalar-2.ensures.shape in
    let three = more c.add_scalar-2.new.self c.add_scalar-3.new.self 2 two c.in_ok-add_scalar-3.ensures.shape in
    more c.add_scalar-3.new.self c.add_scalar-4.new.self 3 three c.in_ok-add_scalar-4.ensures.shape
