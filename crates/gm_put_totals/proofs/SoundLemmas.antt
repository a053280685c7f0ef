-- What the nodes put in a superstep of a sound image may be exchanged for what settles as it.
use Rattle.std.proofs.Common.{◌≡◌, ℕ, List, [], ◌∷◌, ◌++◌, length, sym}
use Rattle.std.specs.Prelude.{IsTrue}
use Rattle.std.specs.List.{flat_map}
use Rattle.gm_value.specs.declared.values.Value.{Value}
use Rattle.gm_image.specs.Folds.{Reduction}
use Rattle.gm_image.specs.Program.{Program}
use Rattle.gm_image.specs.Rows.{handled_lines}
use Rattle.gm_image.specs.Soundness.{is_sound}
use Rattle.gm_machine.specs.Machine.{block_at}
use Rattle.gm_machine.specs.Taking.{Contribution, settled}
use Rattle.gm_machine.specs.Vertex.{Message, VertexContext, vertex_after}
use Rattle.gm_machine.proofs.SoundPuts.{PutsOneWay, put_reduction, sound-puts, vertex-by}
use Rattle.gm_put_totals.specs.Settling.{ReduceBy, SettleAs}
use Rattle.gm_put_totals.proofs.SettlingLemmas.{by-append, of-by, settles-alone}

by-each : {A : Type 0} (reduction : ℕ → Reduction) (f : A → List Contribution) (xs : List A) → ((x : A) → ReduceBy reduction (f x)) → ReduceBy reduction (flat_map f xs)
by-each reduction f [] each = tt
by-each reduction f (x ∷ xs) each = by-append reduction (f x) (flat_map f xs) (each x) (by-each reduction f xs each)

pub steps-exchanged : {A : Type 0} (p : Program) (q : ℕ) → IsTrue (is_sound p) → (context : A → VertexContext) (box : A → List Message) (fields : A → List Value) (xs : List A) (puts : List Contribution) (held : List Value) →
    SettleAs (flat_map (λ x. (vertex_after p (block_at p q) (context x) (box x) (fields x)).state.puts) xs) puts →
    settled (length p.places) puts held ≡ settled (length p.places) (flat_map (λ x. (vertex_after p (block_at p q) (context x) (box x) (fields x)).state.puts) xs) held
steps-exchanged {A} p q sound context box fields xs puts held is =
    let reduction : ℕ → Reduction = put_reduction (handled_lines (block_at p q) ++ (block_at p q).body) in
    let one : PutsOneWay p (block_at p q) = sound-puts p sound q in
    let put : A → List Contribution = λ x. (vertex_after p (block_at p q) (context x) (box x) (fields x)).state.puts in
    sym (settles-alone reduction (length p.places) (flat_map put xs) puts held is
    (by-each reduction put xs (λ x. of-by reduction (put x) (vertex-by reduction p (block_at p q) (context x) (box x) (fields x) one.0 one.1))))
