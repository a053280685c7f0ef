use Rattle.std.proofs.Common.{◌∙◌, ap, sym}
use Rattle.gm_base.specs.Rules.{least}
use Rattle.gm_ast.specs.Races.{races}
use Rattle.gm_ast.specs.Tree.{program_of}
use Rattle.gm_race.proofs.Leasts.{nothing-least, least-whole}
use Rattle.gm_race.proofs.judging.races.Goals as goal

pub returns-clause-accepted : goal.returns-clause-accepted
returns-clause-accepted c =
    let t = c.tree-tree.result.now in
    let e = least-whole t c.deref-2.result.now c.deref-3.result.now c.in_ok-found.found.items c.in_default.ensures c.deref-2.ensures.value c.deref-3.ensures.value c.in_ok-found.ensures in
    nothing-least (races (program_of c.args.program.now)) (sym (e ∙ ap (λ u. least (races (program_of u))) c.tree-tree.ensures.tree))

pub returns-in-Some-clause-refused : goal.returns-in-Some-clause-refused
returns-in-Some-clause-refused c =
    let t = c.tree-tree.result.now in
    let e = least-whole t c.deref-2.result.now c.deref-3.result.now c.in_ok-found.found.items c.in-Some.ensures c.deref-2.ensures.value c.deref-3.ensures.value c.in_ok-found.ensures in
    sym (e ∙ ap (λ u. least (races (program_of u))) c.tree-tree.ensures.tree)
