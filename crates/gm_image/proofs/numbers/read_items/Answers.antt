use Rattle.std.proofs.Common.{subst}
use Rattle.std.specs.List.{AllByRecursion}
use Rattle.gm_image.proofs.numbers.read_items.Goals as goal

pub returns : goal.returns
returns g c = subst (λ xs. AllByRecursion g.T.Numbered.ranged xs) c.as_slice.ensures c.read_all.ensures
