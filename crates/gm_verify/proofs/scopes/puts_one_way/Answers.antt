use Rattle.std.proofs.Common.{◌∙◌, List, ap}
use Rattle.std.specs.List.{list_all, flat_map}
use Rattle.gm_image.specs.Folds as F
use Rattle.gm_image.specs.Folds.{puts_of, is_the_one}
use Rattle.gm_verify.proofs.scopes.puts_one_way.Goals as goal

pub returns : goal.returns
returns c = λ before shown. c.one_way.ensures (flat_map puts_of before) shown ∙ ap (λ (rs : List F.Reduction). list_all (is_the_one (flat_map puts_of before)) rs) c.put_of.ensures
