-- A statement that is a reduction.
use Rattle.std.proofs.Common.{◌≡◌, sym, ap, ◌∙◌, ◌||◌, not}
use Rattle.std.specs.List.{list_all}
use Rattle.gm_ast.specs.Tree.{stmt_of}
use Rattle.gm_lowering.specs.Plans.{way_of}
use Rattle.gm_plain_loops.specs.Tests.{folds_first, is_folded, is_unsent}
use Rattle.gm_suits.proofs.Sequences.{stmt_of-Reduce}
use Rattle.gm_suits.proofs.sends.+folding.Goals as goal

pub folds_first-returns-in-Reduce : goal.folds_first-returns-in-Reduce
folds_first-returns-in-Reduce t c =
    let ds = c.args.declarations.now in
    let n = c.args.node in
    let body = stmt_of c.args.body.now in
    let r = c.in-Reduce in
    c.folds_before.ensures
    ∙ (ap (λ ts. not (is_folded (way_of ds n ts)) || list_all (is_unsent ds n body r.total.key.statement) ts) c.deref.ensures.value
    ∙ sym (ap (folds_first ds n body) (ap stmt_of r.is ∙ stmt_of-Reduce r.key r.total r.reduce r.targets r.values)))
