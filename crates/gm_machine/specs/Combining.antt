-- Messages of combinable kinds, and what stands for them.
use Rattle.std.specs.Prelude.{◌≡◌, ◌<◌, ◌^◌, ◌⊎◌, ℕ, nat_eq, ℤ, unsigned_abs, IsTrue, Option, Some, None, List, [], ◌∷◌, map, filter, slice_get}
use Rattle.std.specs.Option.{option_and_then}
use Rattle.gm_value.specs.declared.values.Value.{Value}
use Rattle.gm_value.specs.declared.reductions.Reduce.{Reduce}
use Rattle.gm_value.specs.declared.reductions.Reduce.TheVariants.{Product}
use Rattle.gm_value.specs.Bag.{SameBag}
use Rattle.gm_value.specs.Numbers.{number_of}
use Rattle.gm_value.specs.Reductions.{combined}
use Rattle.gm_image.specs.declared.images.Kind.{Kind}
use Rattle.gm_image.specs.Program.{Program}
use Rattle.gm_image.specs.Soundness.{is_sound}
use Rattle.gm_machine.specs.Expressions.{value_at}
use Rattle.gm_machine.specs.Laws.{SameStep}
use Rattle.gm_machine.specs.Vertex.{Message, VertexContext, vertex_after}
use Rattle.gm_machine.specs.Machine.{block_at}

-- the combiner of a kind, if it has one
abbrev pub combiner : Program → ℕ → Option Reduce
combiner p k = option_and_then (λ (kind : Kind). kind.combiner) (slice_get p.kinds k)

-- the one value of a message of a combinable kind
abbrev pub carried : Message → Value
carried m = value_at m.values 0

abbrev pub of_kind : ℕ → List Message → List Message
of_kind k ms = filter (λ m. nat_eq m.kind k) ms

-- numbers reduced to one, without a unit: none where there is none
abbrev pub more_exact : Reduce → ℤ → Option ℤ → ℤ
more_exact r z None = z
more_exact r z (Some e) = combined r z e

abbrev pub exact_of : Reduce → List Value → Option ℤ
exact_of r [] = None
exact_of r (v ∷ bag) = Some (more_exact r (number_of v) (exact_of r bag))

-- two products of more than 2 ^ 63 in magnitude: each makes 0 of a held 0, and Overflow of each other held value
abbrev pub AreFar : Reduce → Option ℤ → Option ℤ → Type 0
AreFar Product (Some a) (Some b) = (2 ^ 63 < unsigned_abs a) × (2 ^ 63 < unsigned_abs b)
AreFar r a b = ⊥

-- exact totals that do the same: one number, or two such products
abbrev pub SameTotal : Reduce → Option ℤ → Option ℤ → Type 0
SameTotal r a b = (a ≡ b) ⊎ AreFar r a b

-- messages of one kind that do the same: of a combinable kind those whose exact totals do the same, and of another those that are the same but for their order
abbrev pub SameKind : Option Reduce → List Message → List Message → Type 0
SameKind None some other = SameBag some other
SameKind (Some r) some other = SameTotal r (exact_of r (map carried some)) (exact_of r (map carried other))

abbrev pub SameInboxes : Program → List Message → List Message → Type 0
SameInboxes p inbox other = (k : ℕ) → SameKind (combiner p k) (of_kind k inbox) (of_kind k other)

-- the step of a vertex of a sound image takes the messages of each combinable kind by their total, and the others as a bag
abbrev pub StepTakesTotals : Type 0
StepTakesTotals = (p : Program) (q : ℕ) (s : VertexContext) (inbox other : List Message) (fields : List Value) → IsTrue (is_sound p) → SameInboxes p inbox other →
    SameStep (vertex_after p (block_at p q) s inbox fields) (vertex_after p (block_at p q) s other fields)
