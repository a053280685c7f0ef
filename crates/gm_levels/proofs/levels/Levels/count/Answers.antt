use Rattle.std.proofs.Common.{arith, sym, ap, length, ◌∙◌}
use Rattle.gm_levels.proofs.Listing.{length-parts}
use Rattle.gm_levels.proofs.levels.Levels.count.Goals as goal

pub returns : goal.returns
returns c =
    let parts = ap (λ v. length v.lists) (sym c.self.view_is) ∙ length-parts c.self.inside.order.items c.self.inside.starts.items in
    omega (arith, c.len.ensures)
