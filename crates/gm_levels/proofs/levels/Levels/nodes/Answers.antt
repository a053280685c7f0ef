use Rattle.std.proofs.Common.{arith, ◌≡◌, ◌+◌, ◌-◌, Some, sym, ap, length, ◌∙◌}
use Rattle.std.specs.Prelude.{slice_get}
use Rattle.gm_levels.specs.Rows.{part_of, parts_of}
use Rattle.gm_levels.proofs.Listing.{length-parts, get-parts}
use Rattle.gm_levels.proofs.levels.Levels.nodes.Goals as goal

pub part-requires-clause-there : goal.part-requires-clause-there
part-requires-clause-there c =
    let order = c.self.inside.order.items in
    let starts = c.self.inside.starts.items in
    let parts : length c.args.self.now.lists ≡ length starts - 1 = ap (λ v. length v.lists) (sym c.self.view_is) ∙ length-parts order starts in
    rw c.as_slice-2.ensures.value (omega arith)

pub part-requires-clause-ordered : goal.part-requires-clause-ordered
part-requires-clause-ordered c =
    let order = c.self.inside.order.items in
    let starts = c.self.inside.starts.items in
    let parts : length c.args.self.now.lists ≡ length starts - 1 = ap (λ v. length v.lists) (sym c.self.view_is) ∙ length-parts order starts in
    rw c.as_slice-2.ensures.value (c.self.invariant.ascending c.args.level (omega arith))

pub part-requires-clause-within : goal.part-requires-clause-within
part-requires-clause-within c =
    let order = c.self.inside.order.items in
    let starts = c.self.inside.starts.items in
    let parts : length c.args.self.now.lists ≡ length starts - 1 = ap (λ v. length v.lists) (sym c.self.view_is) ∙ length-parts order starts in
    rw (c.as_slice-2.ensures.value, c.as_slice.ensures.value) (c.self.invariant.within (c.args.level + 1) (omega arith))

pub returns : goal.returns
returns c =
    let order = c.self.inside.order.items in
    let starts = c.self.inside.starts.items in
    let lists : length c.args.self.now.lists ≡ length (parts_of order starts) = ap (λ v. length v.lists) (sym c.self.view_is) in
    let here : c.part.result.now ≡ part_of order starts c.args.level = c.part.ensures ∙ ap (λ xs. part_of xs c.as_slice-2.result.now c.args.level) c.as_slice.ensures.value ∙ ap (λ xs. part_of order xs c.args.level) c.as_slice-2.ensures.value in
    ap (λ v. slice_get v.lists c.args.level) (sym c.self.view_is) ∙ get-parts order starts c.args.level (omega arith) ∙ ap (λ xs. Some xs) (sym here)
