-- Each kind gets its row.
use Rattle.std.proofs.Common.{◌≡◌, ℕ, None, refl, sym, ap, subst, ◌∙◌, map, length}
use Rattle.gm_combine.specs.Held.{IsRow, reduce_held, type_held, total_held, type_if}
use Rattle.gm_combine.proofs.Preparing.{push-each, maps-more, maps-at, take-whole}
use Rattle.gm_combine.proofs.rows.Rows.prepare.Goals as goal

pub loop-kind-preserved : goal.loop-kind-preserved
loop-kind-preserved c =
    let kinds = c.loop-kind.kinds.items in
    let row = c.in_ok-row.row in
    let given = c.as_slice-kind-items.result.now in
    let items : c.push.new.self.items ≡ _ = c.in_ok-push.ensures.items in
    rw items (
      push-each (IsRow c.args.width 0) kinds row c.in_ok-row.ensures.row c.loop-kind.invariant.0,
      maps-more reduce_held (λ k. k.combiner) kinds given c.loop-kind.kind-index row c.kind-item.result c.loop-kind.invariant.1 c.in_ok-row.ensures.reduce c.loop-kind-test.true c.kind-item.is,
      maps-more type_held type_if kinds given c.loop-kind.kind-index row c.kind-item.result c.loop-kind.invariant.2 c.in_ok-row.ensures.vtype c.loop-kind-test.true c.kind-item.is,
      push-each (λ x. (place : ℕ) → total_held x place ≡ None) kinds row c.in_ok-row.ensures.none c.loop-kind.invariant.3,
    )

pub returns-clause-reduces : goal.returns-clause-reduces
returns-clause-reduces c =
    let given = c.as_slice-kind-items.result.now in
    let all = take-whole given c.loop-kind.kind-index c.loop-kind-test.false c.loop-kind.auto.kind-index-end in
    let kinds = c.as_slice-kind-items.ensures ∙ ap (λ i. i.kinds) c.image.ensures.same in
    maps-at reduce_held (λ k. k.combiner) c.loop-kind.kinds.items c.args.image.now.kinds refl (c.loop-kind.invariant.1 ∙ ap (map (λ k. k.combiner)) (all ∙ kinds))

pub returns-clause-types : goal.returns-clause-types
returns-clause-types c =
    let given = c.as_slice-kind-items.result.now in
    let all = take-whole given c.loop-kind.kind-index c.loop-kind-test.false c.loop-kind.auto.kind-index-end in
    let kinds = c.as_slice-kind-items.ensures ∙ ap (λ i. i.kinds) c.image.ensures.same in
    maps-at type_held type_if c.loop-kind.kinds.items c.args.image.now.kinds refl (c.loop-kind.invariant.2 ∙ ap (map type_if) (all ∙ kinds))
