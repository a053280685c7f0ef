-- What settles as what the nodes of a sound image put.
use Rattle.std.proofs.Common.{◌≡◌, ◌∙◌, ◌<◌, ◌+◌, ℕ, suc, List, [], ◌∷◌, ◌++◌, length, sym, ap, subst, arith}
use Rattle.std.specs.Prelude.{IsTrue, slice_index_or}
use Rattle.std.specs.List.{flat_map, range_with_len}
use Rattle.gm_value.specs.declared.values.Value.{Value}
use Rattle.gm_value.specs.Bag.{SameBag}
use Rattle.gm_image.specs.Folds.{Reduction}
use Rattle.gm_image.specs.Program.{Program}
use Rattle.gm_image.specs.Rows.{handled_lines}
use Rattle.gm_image.specs.Soundness.{is_sound}
use Rattle.gm_machine.specs.Machine.{block_at}
use Rattle.gm_machine.specs.Taking.{Contribution, settled}
use Rattle.gm_machine.specs.Vertex.{Message, VertexContext, vertex_after}
use Rattle.gm_machine.proofs.OrderLaws.{AreBy, AreBy-append}
use Rattle.gm_machine.proofs.SoundPuts.{AreBy-permuted, PutsOneWay, put_reduction, sound-puts, steps-settle, vertex-by}
use Rattle.gm_put_totals.specs.Settling.{ReduceBy, SettleAs}
use Rattle.gm_put_totals.proofs.SettlingLemmas.{settles-alone, settles-itself, settles-together}
use Rattle.gm_core.specs.Cores.{below}

-- lists that settle as those of their places do so together
pub settle-places : {A : Type 0} (g : A → List Contribution) (xs : List A) (f : ℕ → List Contribution) → ((k : ℕ) (d : A) → k < length xs → SettleAs (f k) (g (slice_index_or xs k d)))
    → SettleAs (flat_map f (below (length xs))) (flat_map g xs)
settle-places {A} g xs f each = at xs 0 (λ k d low. subst (λ n. SettleAs (f n) (g (slice_index_or xs k d))) (let e : k ≡ 0 + k = omega arith in e) (each k d low)) where
  at : (ys : List A) (a : ℕ) → ((k : ℕ) (d : A) → k < length ys → SettleAs (f (a + k)) (g (slice_index_or ys k d))) → SettleAs (flat_map f (range_with_len a (length ys))) (flat_map g ys)
  at [] a each' = settles-itself []
  at (y ∷ ys) a each' =
      settles-together (f a) (g y) (flat_map f (range_with_len (a + 1) (length ys))) (flat_map g ys)
      (subst (λ n. SettleAs (f n) (g y)) (let e : a + 0 ≡ a = omega arith in e) (each' 0 y (omega arith)))
      (at ys (a + 1) (λ k d low. subst (λ n. SettleAs (f n) (g (slice_index_or ys k d))) (let e : a + suc k ≡ (a + 1) + k = omega arith in e) (each' (suc k) d (omega arith))))

-- contributions that are reduced by the reductions of their slots
by-each : {A : Type 0} (reduction : ℕ → Reduction) (f : A → List Contribution) (xs : List A) → ((x : A) → AreBy reduction (f x)) → AreBy reduction (flat_map f xs)
by-each reduction f [] each = tt
by-each reduction f (x ∷ xs) each = AreBy-append reduction (f x) (flat_map f xs) (each x) (by-each reduction f xs each)

as-reduce : (reduction : ℕ → Reduction) (cs : List Contribution) → AreBy reduction cs → ReduceBy reduction cs
as-reduce reduction [] by = tt
as-reduce reduction (c ∷ cs) by = (by.0, as-reduce reduction cs by.1)

-- the steps of a sound image's nodes settle with what settles as what they put, in any order
pub settled-as : {A : Type 0} (p : Program) (q : ℕ) → IsTrue (is_sound p) → (context : A → VertexContext) (box : A → List Message) (fields : A → List Value) (xs : List A) (some other : List Contribution) (held : List Value)
    → SameBag some (flat_map (λ x. (vertex_after p (block_at p q) (context x) (box x) (fields x)).state.puts) xs) → SettleAs some other
    → settled (length p.places) other held ≡ settled (length p.places) (flat_map (λ x. (vertex_after p (block_at p q) (context x) (box x) (fields x)).state.puts) xs) held
settled-as {A} p q sound context box fields xs some other held same alike =
    let reduction : ℕ → Reduction = put_reduction (handled_lines (block_at p q) ++ (block_at p q).body) in
    let one : PutsOneWay p (block_at p q) = sound-puts p sound q in
    let all : AreBy reduction (flat_map (λ (x : A). (vertex_after p (block_at p q) (context x) (box x) (fields x)).state.puts) xs) =
    by-each reduction (λ x. (vertex_after p (block_at p q) (context x) (box x) (fields x)).state.puts) xs (λ x. vertex-by reduction p (block_at p q) (context x) (box x) (fields x) one.0 one.1) in
    let by : ReduceBy reduction some = as-reduce reduction some ((AreBy-permuted reduction same).1 all) in
    sym (settles-alone reduction (length p.places) some other held alike by)
    ∙ steps-settle p q sound context box fields xs some held same
