-- One more factor in a row of products.
use Rattle.std.proofs.Common.{◌≡◌, ◌<◌, ℤ, ◌*ℤ◌, length, subst, arith}
use Rattle.gm_value.specs.declared.reductions.Reduce.TheVariants as reduce
use Rattle.gm_value.specs.Totals.{Shows}
use Rattle.gm_combine.proofs.Multiplying.{products-add, products-hold}
use Rattle.gm_value.specs.Numbers.{number_of}
use Rattle.gm_combine.proofs.products.ProductsTotalRow.add.Goals as goal

pub returns-clause-added : goal.returns-clause-added
returns-clause-added g c =
    let cells = c.args.self.now.cells.items in
    let marks = c.args.self.now.marks.items in
    let as_many : length marks ≡ length cells = c.requires.room.1.1.as_marked in
    let in_marks : c.args.place < length marks = omega (arith, as_many, c.requires.place) in
    let more : (e : ℤ) → Shows reduce.Product c.held-held.result e → Shows reduce.Product c.total_add.result (number_of (g.T.Number.value c.args.value) *ℤ e) =
    λ e is. subst (λ v. Shows reduce.Product c.total_add.result (number_of v *ℤ e)) c.value.ensures (c.total_add.ensures.shows e is) in
    λ r is_product. products-add r is_product cells marks c.args.place c.held-held.result c.total_add.result (number_of (g.T.Number.value c.args.value))
    c.requires.place in_marks c.held-held.ensures.some c.held-held.ensures.none more

pub returns-clause-holds : goal.returns-clause-holds
returns-clause-holds g c = λ count are.
    let more : (e : ℤ) → Shows reduce.Product c.held-held.result e → Shows reduce.Product c.total_add.result (number_of (g.T.Number.value c.args.value) *ℤ e) =
    λ e is. subst (λ v. Shows reduce.Product c.total_add.result (number_of v *ℤ e)) c.value.ensures (c.total_add.ensures.shows e is) in
    products-hold c.args.self.now.cells.items c.args.self.now.marks.items c.args.place c.held-held.result c.total_add.result (number_of (g.T.Number.value c.args.value))
    are c.requires.place c.held-held.ensures.some c.held-held.ensures.none more
