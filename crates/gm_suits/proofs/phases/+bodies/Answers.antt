-- A body that is a reduction.
use Rattle.std.proofs.Common.{◌≡◌, sym, ap, ◌∙◌, map}
use Rattle.gm_ast.specs.Tree.{expr_of, stmt_of}
use Rattle.gm_plain_loops.specs.Tests.{suits_reduction, suits_body}
use Rattle.gm_suits.proofs.Sequences.{stmt_of-Reduce}
use Rattle.gm_suits.proofs.phases.+bodies.Goals as goal

pub suits_body-returns-in-Reduce : goal.suits_body-returns-in-Reduce
suits_body-returns-in-Reduce t c =
    let ds = c.args.declarations.now in
    let inner = c.args.inner in
    let its = c.args.iterators.now in
    let r = c.in-Reduce in
    c.suits_reduction.ensures
    ∙ (ap (λ ts. suits_reduction ds inner its r.key r.total ts (map expr_of c.deref-in-Reduce.result.now)) c.deref.ensures.value
    ∙ (ap (λ es. suits_reduction ds inner its r.key r.total r.targets.items (map expr_of es)) c.deref-in-Reduce.ensures.value
    ∙ sym (ap (suits_body ds inner its) (ap stmt_of r.is ∙ stmt_of-Reduce r.key r.total r.reduce r.targets r.values))))
