-- Messages that stand for an exact total.
use Rattle.std.specs.Prelude.{◌≡◌, ℕ, ℤ, IsTrue, Some, List, [], ◌∷◌, ◌++◌, map}
use Rattle.gm_value.specs.declared.reductions.Reduce.{Reduce}
use Rattle.gm_value.specs.declared.values.Value.{Value}
use Rattle.gm_image.specs.Program.{Program}
use Rattle.gm_image.specs.Soundness.{is_sound}
use Rattle.gm_machine.specs.Combining.{combiner, carried, of_kind, exact_of, SameTotal}
use Rattle.gm_machine.specs.Laws.{SameStep}
use Rattle.gm_machine.specs.Machine.{block_at}
use Rattle.gm_machine.specs.Vertex.{Message, VertexContext, vertex_after}

-- messages of a kind to a node, each with one of some values
abbrev pub each_to : ℕ → ℕ → List Value → List Message
each_to to kind values = map (λ v. record { to = to; kind = kind; values = v ∷ [] }) values

-- a list of messages with some behind it whose exact total does the same as a number
pub record AddsTotal (old : List Message) (to kind : ℕ) (r : Reduce) (exact : ℤ) (new : List Message) : Type 0 where
  pub values : List Value
  pub behind : new ≡ old ++ each_to to kind values
  pub total : SameTotal r (exact_of r values) (Some exact)

-- a list of messages with some of a kind to a node behind it
pub record AddsSome (old : List Message) (to kind : ℕ) (new : List Message) : Type 0 where
  pub values : List Value
  pub behind : new ≡ old ++ each_to to kind values

-- messages of one kind alone
abbrev pub AreOfKind : ℕ → List Message → Type 0
AreOfKind k messages = of_kind k messages ≡ messages

-- in the step of a vertex of a sound image messages of a combinable kind may be left out for others of the kind whose exact total does the same as theirs
abbrev pub StepTakesHandedTotals : Type 0
StepTakesHandedTotals = (p : Program) (q : ℕ) (s : VertexContext) (inbox left_out : List Message) (fields : List Value) (to kind : ℕ) (r : Reduce) (values : List Value) →
    IsTrue (is_sound p) → combiner p kind ≡ Some r → AreOfKind kind left_out → SameTotal r (exact_of r values) (exact_of r (map carried left_out)) →
    SameStep (vertex_after p (block_at p q) s (inbox ++ each_to to kind values) fields) (vertex_after p (block_at p q) s (inbox ++ left_out) fields)
