use Rattle.std.proofs.Common.{◌∙◌, ap}
use Rattle.gm_prepare.specs.Placing.{placed_each}
use Rattle.gm_prepare.proofs.Placing.{all-placed}
use Rattle.gm_prepare.proofs.iterators.place_all.Goals as goal

pub returns : goal.returns
returns c = c.place_inners.ensures ∙ ap (placed_each c.args.inners.items) c.place_outer.ensures ∙ all-placed c.args.inners.items c.args.declarations.now.items
