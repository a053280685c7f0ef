use Rattle.std.proofs.Common.{◌∙◌, Option, ap, sym}
use Rattle.std.specs.List.{list_all}
use Rattle.gm_image.specs.Folds.{is_the_one}
use Rattle.gm_verify.specs.declared.firsts.Reduction.{Reduction}
use Rattle.gm_verify.specs.Firsts.{reduction_of, list_of}
use Rattle.gm_verify.proofs.Lists.{and-true}
use Rattle.gm_verify.proofs.scopes.one_way.Goals as goal

pub returns-in-Some : goal.returns-in-Some
returns-in-Some c = λ rs shown.
    c.is_the_one.ensures rs shown ∙ and-true (is_the_one rs (reduction_of c.in-Some.some))
    ∙ sym (ap (λ (o : Option Reduction). list_all (is_the_one rs) (list_of o)) c.in-Some.is)
