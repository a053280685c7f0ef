-- Rows of all kinds take a batch.
use Rattle.std.proofs.Common.{◌≡◌, ◌≢◌, ◌<◌, ◌+◌, ℕ, ℤ, Option, Some, None, List, [], ◌∷◌, ◌++◌, map, length, set, get_or, refl, sym, ap, subst, ◌∙◌, arith, ⊎_elim}
use Rattle.std.proofs.lemmas.Bool.{cases_eq}
use Rattle.std.proofs.lemmas.List.{get_or-set_same, get_or-set_other}
use Rattle.gm_value.specs.declared.values.Value.{Value}
use Rattle.gm_value.specs.declared.reductions.Reduce.{Reduce}
use Rattle.gm_value.specs.Bag.{SameBag}
use Rattle.gm_value.specs.Numbers.{number_of}
use Rattle.gm_machine.specs.Vertex.{Message}
use Rattle.gm_machine.specs.Combining.{exact_of}
use Rattle.gm_combine.specs.declared.rows.KindRow.{KindRow}
use Rattle.gm_combine.specs.Totals.{ShowsTotal, all_at}
use Rattle.gm_combine.specs.Folds.{placed, AddsAll}
use Rattle.gm_combine.specs.Batches.{messages_to}
use Rattle.gm_combine.specs.Held.{HeldRows, row_at, reduce_in, type_in, total_in, AreTotals, IsRow, reduce_held, total_held}
use Rattle.gm_combine.proofs.Messages.{values_at, exact-same, exact-more, exact-other}

-- the rows of other kinds stay, and the row of the kind takes the batch: then the rows hold the totals of all messages
pub totals-after : (old new : HeldRows) (kind : ℕ) (places : List ℕ) (vs : List Value) →
    new.places ≡ old.places →
    ((k : ℕ) → k ≢ kind → row_at new.kinds k ≡ row_at old.kinds k) →
    reduce_in new kind ≡ reduce_in old kind →
    ((r : Reduce) → reduce_in old kind ≡ Some r → AddsAll r (total_in old kind) (placed places (map number_of vs)) (total_in new kind)) →
    (ms more : List Message) → AreTotals old ms → SameBag more (ms ++ messages_to kind places vs) → AreTotals new more
totals-after old new kind places vs wide others reduces adds ms more are same k place r is here = ⊎_elim this other (cases_eq k kind) where
  this : k ≡ kind → ShowsTotal r (total_in new k place) (exact_of r (values_at k place more))
  this is_kind =
      let is_r : reduce_in old kind ≡ Some r = sym reduces ∙ subst (λ n. reduce_in new n ≡ Some r) is_kind is in
      let shown = adds r is_r place (exact_of r (values_at kind place ms)) (are kind place r is_r (subst (λ n. place < n) wide here)) in
      let exact : all_at r place (placed places (map number_of vs)) (exact_of r (values_at kind place ms)) ≡ exact_of r (values_at kind place more) =
      exact-more r kind place ms places vs ∙ sym (exact-same r kind place more (ms ++ messages_to kind places vs) same) in
      subst (λ n. ShowsTotal r (total_in new n place) (exact_of r (values_at n place more))) (sym is_kind)
      (subst (λ e. ShowsTotal r (total_in new kind place) e) exact shown)

  other : (k ≡ kind → ⊥) → ShowsTotal r (total_in new k place) (exact_of r (values_at k place more))
  other differs =
      let row : row_at new.kinds k ≡ row_at old.kinds k = others k differs in
      let is_r : reduce_in old k ≡ Some r = subst (λ x. reduce_held x ≡ Some r) row is in
      let shown = are k place r is_r (subst (λ n. place < n) wide here) in
      let exact : exact_of r (values_at k place ms) ≡ exact_of r (values_at k place more) =
      sym (exact-other r k kind place ms places vs (λ e. differs (sym e))) ∙ sym (exact-same r k place more (ms ++ messages_to kind places vs) same) in
      subst (λ e. ShowsTotal r (total_in new k place) e) exact
      (subst (λ x. ShowsTotal r (total_held x place) (exact_of r (values_at k place ms))) (sym row) shown)
