use Rattle.std.proofs.Common.{◌∙◌, ◌++◌, List, ap, subst}
use Rattle.std.specs.List.{flat_map}
use Rattle.gm_image.specs.Views.{line}
use Rattle.gm_image.specs.Folds as F
use Rattle.gm_image.specs.Folds.{puts_of}
use Rattle.gm_verify.specs.Firsts.{ShowsFirsts}
use Rattle.gm_verify.proofs.Folded.{folds-push}
use Rattle.gm_verify.proofs.scopes.add_put.Goals as goal

pub returns : goal.returns
returns c = λ before shown.
    subst (λ (rs : List F.Reduction). ShowsFirsts c.add_one.new.firsts rs)
    (ap (λ (rs : List F.Reduction). flat_map puts_of before ++ rs) c.put_of.ensures ∙ folds-push puts_of before (line c.args.vertex_line.now))
    (c.in_ok-add_one.ensures (flat_map puts_of before) shown)
