use Rattle.std.proofs.Common.{◌≡◌, ◌∙◌, arith, length, subst, ap, ℕ, List}
use Rattle.gm_graph.specs.Rows.{IsGrouped, IsGroupedWith, rows_by_line}
use Rattle.gm_graph.specs.declared.groups.Groups.{Groups}
use Rattle.gm_graph.proofs.Ordering.{lent-within, lent-few, rows-counted}
use Rattle.gm_graph.proofs.builds.rows_both_ways.Goals as goal

-- groups by copies of the ends
of-copies : (nodes : ℕ) (ks os ss ts : List ℕ) (groups : Groups) → ks ≡ ss → os ≡ ts → IsGrouped nodes ks os groups → IsGrouped nodes ss ts groups
of-copies nodes ks os ss ts groups a b held =
    let P : List ℕ → Type 0 = λ l. IsGrouped nodes l os groups in
    let Q : List ℕ → Type 0 = λ l. IsGrouped nodes ss l groups in
    subst Q b (subst P a held)

pub places_of-requires-clause-keys_within : goal.places_of-requires-clause-keys_within
places_of-requires-clause-keys_within c =
    let ss = c.args.sources.items in
    let ts = c.args.targets.items in
    let out = c.in_ok-outward.outward in
    let held : IsGrouped c.args.nodes ss ts out = of-copies c.args.nodes _ _ ss ts out (c.in_ok-keys.ensures.items ∙ c.as_slice.ensures.value) (c.in_ok-others.ensures.items ∙ c.as_slice-2.ensures.value) c.in_ok-outward.ensures in
    lent-within c.args.nodes ss out.starts.items _ _ c.as_slice-3.ensures.value c.as_slice-4.ensures.value held.starts c.requires.sources_within

pub places_of-requires-clause-few_places : goal.places_of-requires-clause-few_places
places_of-requires-clause-few_places c =
    let ss = c.args.sources.items in
    let ts = c.args.targets.items in
    let out = c.in_ok-outward.outward in
    let held : IsGrouped c.args.nodes ss ts out = of-copies c.args.nodes _ _ ss ts out (c.in_ok-keys.ensures.items ∙ c.as_slice.ensures.value) (c.in_ok-others.ensures.items ∙ c.as_slice-2.ensures.value) c.in_ok-outward.ensures in
    lent-few c.args.nodes ss out.starts.items _ c.as_slice-4.ensures.value held.starts (omega (arith, c.requires.few_edges))

pub new-requires-clause-numbers_len : goal.new-requires-clause-numbers_len
new-requires-clause-numbers_len c =
    omega (arith, c.in_ok-rows.ensures.len, ap length c.as_slice-3.ensures.value, c.requires.ends)

pub returns-clause-outward : goal.returns-clause-outward
returns-clause-outward c =
    let ss = c.args.sources.items in
    let ts = c.args.targets.items in
    let out = c.in_ok-outward.outward in
    let held : IsGrouped c.args.nodes ss ts out = of-copies c.args.nodes _ _ ss ts out (c.in_ok-keys.ensures.items ∙ c.as_slice.ensures.value) (c.in_ok-others.ensures.items ∙ c.as_slice-2.ensures.value) c.in_ok-outward.ensures in
    held

pub returns-clause-inward : goal.returns-clause-inward
returns-clause-inward c =
    let ss = c.args.sources.items in
    let ts = c.args.targets.items in
    let out = c.in_ok-outward.outward in
    let held : IsGrouped c.args.nodes ss ts out = of-copies c.args.nodes _ _ ss ts out (c.in_ok-keys.ensures.items ∙ c.as_slice.ensures.value) (c.in_ok-others.ensures.items ∙ c.as_slice-2.ensures.value) c.in_ok-outward.ensures in
    let rows : c.in_ok-rows.rows.items ≡ rows_by_line out = rows-counted c.args.nodes ss ts c.in_ok-rows.rows.items _ _ out held c.requires.sources_within c.as_slice-3.ensures.value c.as_slice-4.ensures.value c.in_ok-rows.ensures in
    let P : List ℕ → Type 0 = λ l. IsGroupedWith c.args.nodes ts ss l c.in_ok-inward.inward in
    subst P rows c.in_ok-inward.ensures
