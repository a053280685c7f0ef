-- One more number in a row of sums.
use Rattle.std.proofs.Common.{rules, ◌≡◌, ◌<◌, ◌+ℤ◌, ℤ, pos, List, FitsSigned, length, get_or, set, true, false, sym, subst, ap, refl, ◌∙◌, arith}
use mir.Syntax.{w64}
use Rattle.std.proofs.lemmas.Int.{to_z-of_z}
use Rattle.gm_value.specs.Numbers.{number_of}
use Rattle.gm_combine.specs.Cells.{sum_of}
use Rattle.gm_combine.proofs.Picking.{any-default}
use Rattle.gm_combine.proofs.Summing.{sums-added, sums-held}
use Rattle.gm_combine.proofs.sums.SumsTotalRow.add.Goals as goal

pub returns-clause-added : goal.returns-clause-added
returns-clause-added g c =
    let low = c.args.self.now.low.items in
    let carried = c.args.self.now.carried.items in
    let new = c.sum_in_parts-low.result.0 in
    let more = c.sum_in_parts-low.result.1 in
    let new_fits : FitsSigned w64 new = search rules in
    let more_fits : FitsSigned w64 more = search rules in
    let number_fits : FitsSigned w64 c.number.result = search rules in
    let held_fits : FitsSigned w64 c.index.result.now = search rules in
    λ r is_sum. sums-added r is_sum c.requires.room.0 low carried _ _ c.args.self.now.marks.items c.args.place (number_of (g.T.Number.value c.args.value)) c.number.result c.index.result.now new more
    c.requires.room.1.1 c.requires.place
    (ap (set low c.args.place) (to_z-of_z w64 new new_fits))
    (simp to_z-of_z at c.carry_at.ensures)
    c.number.ensures
    (c.index.ensures ∙ any-default low c.args.place c.index.result.now (pos 0) c.requires.place)
    (simp to_z-of_z at c.sum_in_parts-low.ensures.sum)

pub returns-clause-holds : goal.returns-clause-holds
returns-clause-holds g c = λ count are.
    let low = c.args.self.now.low.items in
    let new = c.sum_in_parts-low.result.0 in
    let more = c.sum_in_parts-low.result.1 in
    let new_fits : FitsSigned w64 new = search rules in
    let more_fits : FitsSigned w64 more = search rules in
    sums-held count low c.args.self.now.carried.items _ _ c.args.self.now.marks.items c.args.place new more are c.requires.place c.sum_in_parts-low.ensures.once
    (ap (set low c.args.place) (to_z-of_z w64 new new_fits))
    (simp to_z-of_z at c.carry_at.ensures)
