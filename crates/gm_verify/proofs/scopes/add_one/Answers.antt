use Rattle.std.proofs.Common.{◌∙◌, ◌++◌, Option, List, ap, sym, subst}
use Rattle.std.proofs.lemmas.List.{append-nil}
use Rattle.gm_image.specs.Folds as F
use Rattle.gm_verify.specs.declared.firsts.Reduction.{Reduction}
use Rattle.gm_verify.specs.Firsts.{ShowsFirsts, list_of}
use Rattle.gm_verify.proofs.scopes.add_one.Goals as goal

pub returns-in-None : goal.returns-in-None
returns-in-None c = λ rs shown.
    subst (λ (xs : List F.Reduction). ShowsFirsts c.args.firsts.now xs) (sym (ap (λ (o : Option Reduction). rs ++ list_of o) c.in-None.is ∙ append-nil rs)) shown
