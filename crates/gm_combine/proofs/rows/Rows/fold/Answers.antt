-- A batch is folded into the row of its kind.
use Rattle.std.proofs.Common.{◌≡◌, ◌<◌, ◌+◌, ℕ, All, None, length, map, set, get_or, refl, sym, ap, subst, ◌∙◌, arith}
use Rattle.std.proofs.lemmas.List.{get_or-set_same, get_or-set_other}
use Rattle.gm_value.specs.Numbers.{number_of}
use Rattle.gm_combine.specs.Folds.{placed, AddsAll}
use Rattle.gm_combine.specs.Batches.{values_of, type_carried, messages_to}
use Rattle.gm_combine.specs.Held.{HeldRows, IsRow, row_at, reduce_in, type_in, total_in, reduce_held, type_held, total_held, TakesMore}
use Rattle.gm_combine.proofs.Picking.{any-default}
use Rattle.gm_combine.proofs.Preparing.{some-within, same-held, rows-after}
use Rattle.gm_combine.proofs.Folding.{totals-after}
use Rattle.gm_combine.proofs.Messages.{length-messages, places-within}
use Rattle.gm_combine.proofs.rows.Rows.fold.Goals as goal

pub add_to-requires-clause-takes : goal.add_to-requires-clause-takes
add_to-requires-clause-takes c =
    let kinds = c.self.inside.kinds.items in
    let k = c.batch.inside.kind in
    let vtype = rw (← c.self.view_is, ← c.batch.view_is) at c.requires.vtype in
    let here : k < length kinds = some-within kinds k (type_carried c.batch.inside.values) vtype in
    let row : c.index_mut.result.now ≡ row_at kinds k = c.index_mut.ensures.value ∙ any-default kinds k c.index_mut.result.now None here in
    let few = rw (← c.self.view_is, ← c.batch.view_is) at c.requires.few in
    let within = rw (← c.self.view_is, ← c.batch.view_is) at c.requires.places in
    let many = length-messages k c.batch.inside.places.items (values_of c.batch.inside.values) c.batch.invariant in
    rw (row, c.as_slice-places.ensures.value) record {
      width = c.self.inside.width;
      messages = c.self.inside.messages;
      is = c.self.invariant.1 k;
      few = omega (arith, few, many);
      within = places-within c.self.inside.width k c.batch.inside.places.items (values_of c.batch.inside.values) c.batch.invariant within;
    }

pub invariant_of-self : goal.invariant_of-self
invariant_of-self c =
    let kinds = c.self.inside.kinds.items in
    let k = c.batch.inside.kind in
    let new = c.add_to.new.row in
    let vtype = rw (← c.self.view_is, ← c.batch.view_is) at c.requires.vtype in
    let here : k < length kinds = some-within kinds k (type_carried c.batch.inside.values) vtype in
    let row : c.index_mut.result.now ≡ row_at kinds k = c.index_mut.ensures.value ∙ any-default kinds k c.index_mut.result.now None here in
    let w = c.self.inside.width in
    let m = c.self.inside.messages in
    let n = length c.as_slice-places.result.now in
    let few = rw (← c.self.view_is, ← c.batch.view_is) at c.requires.few in
    let many = length-messages k c.batch.inside.places.items (values_of c.batch.inside.values) c.batch.invariant in
    let as_many : n ≡ length c.batch.inside.places.items = ap length c.as_slice-places.ensures.value in
    let is : IsRow w (m + n) new = c.add_to.ensures.is w m (subst (IsRow w m) (sym row) (c.self.invariant.1 k)) in
    (omega (arith, few, many, as_many), rows-after kinds k new w m n here is c.self.invariant.1)

pub returns-clause-reduces : goal.returns-clause-reduces
returns-clause-reduces c =
    let kinds = c.self.inside.kinds.items in
    let k = c.batch.inside.kind in
    let new = c.add_to.new.row in
    let vtype = rw (← c.self.view_is, ← c.batch.view_is) at c.requires.vtype in
    let here : k < length kinds = some-within kinds k (type_carried c.batch.inside.values) vtype in
    let row : c.index_mut.result.now ≡ row_at kinds k = c.index_mut.ensures.value ∙ any-default kinds k c.index_mut.result.now None here in
    λ kind. same-held reduce_held kinds k new here (c.add_to.ensures.reduce ∙ ap reduce_held row) kind ∙ ap (λ s. reduce_in s kind) c.self.view_is

pub returns-clause-types : goal.returns-clause-types
returns-clause-types c =
    let kinds = c.self.inside.kinds.items in
    let k = c.batch.inside.kind in
    let new = c.add_to.new.row in
    let vtype = rw (← c.self.view_is, ← c.batch.view_is) at c.requires.vtype in
    let here : k < length kinds = some-within kinds k (type_carried c.batch.inside.values) vtype in
    let row : c.index_mut.result.now ≡ row_at kinds k = c.index_mut.ensures.value ∙ any-default kinds k c.index_mut.result.now None here in
    λ kind. same-held type_held kinds k new here (c.add_to.ensures.vtype ∙ ap type_held row) kind ∙ ap (λ s. type_in s kind) c.self.view_is

pub returns-clause-messages : goal.returns-clause-messages
returns-clause-messages c =
    let many = length-messages c.batch.inside.kind c.batch.inside.places.items (values_of c.batch.inside.values) c.batch.invariant in
    let m : c.self.inside.messages ≡ c.args.self.now.messages = ap (λ s. s.messages) c.self.view_is in
    let n : length c.as_slice-places.result.now ≡ length c.args.batch.now.messages = ap length c.as_slice-places.ensures.value ∙ sym many ∙ ap (λ b. length b.messages) c.batch.view_is in
    omega (arith, m, n)

pub returns-clause-totals : goal.returns-clause-totals
returns-clause-totals c = λ ms more are same.
    let kinds = c.self.inside.kinds.items in
    let k = c.batch.inside.kind in
    let new = c.add_to.new.row in
    let vtype = rw (← c.self.view_is, ← c.batch.view_is) at c.requires.vtype in
    let here : k < length kinds = some-within kinds k (type_carried c.batch.inside.values) vtype in
    let row : c.index_mut.result.now ≡ row_at kinds k = c.index_mut.ensures.value ∙ any-default kinds k c.index_mut.result.now None here in
    let numbers = map number_of (values_of c.batch.inside.values) in
    let old : HeldRows = record { places = c.self.inside.width; messages = c.self.inside.messages; kinds = kinds } in
    let next : HeldRows = record { places = c.self.inside.width; messages = c.self.inside.messages + length c.as_slice-places.result.now; kinds = set kinds k new } in
    let are_old = rw (← c.self.view_is) at are in
    let same_old = rw (← c.batch.view_is) at same in
    totals-after old next k c.batch.inside.places.items (values_of c.batch.inside.values) refl
    (λ j differs. get_or-set_other kinds k j new None differs)
    (same-held reduce_held kinds k new here (c.add_to.ensures.reduce ∙ ap reduce_held row) k)
    (λ r is_r. subst (λ x. AddsAll r (total_held x) (placed c.batch.inside.places.items numbers) (total_in next k)) row
    (subst (λ x. AddsAll r (total_held c.index_mut.result.now) (placed c.batch.inside.places.items numbers) (total_held x)) (sym (get_or-set_same kinds k new None here))
    (subst (λ ps. AddsAll r (total_held c.index_mut.result.now) (placed ps numbers) (total_held new)) c.as_slice-places.ensures.value
    (c.add_to.ensures.added r (ap reduce_held row ∙ is_r)))))
    ms more are_old same_old
