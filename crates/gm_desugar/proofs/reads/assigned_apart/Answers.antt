use Rattle.std.proofs.Common.{◌≡◌, ap, ◌∙◌}
use Rattle.gm_ast.specs.Program.{Assign}
use Rattle.gm_ast.specs.Tree.{expr_of, stmt_of}
use Rattle.gm_trees.specs.Places.{after_all}
use Rattle.gm_desugar.specs.Reads.{stays_alone, set_unless, told_unless, after_reads}
use Rattle.gm_desugar.proofs.InPlace.{apart-after}
use Rattle.gm_desugar.proofs.reads.assigned_apart.Goals as goal

pub returns-clause-apart : goal.returns-clause-apart
returns-clause-apart c =
    let k = c.args.key in
    let n = c.args.next.now in
    let e = expr_of c.args.value.now in
    let alone = c.stays_alone-alone.result in
    ap (λ r. after_all r (Assign k c.args.target (expr_of c.reads_unless.new.e))) c.in_ok-set.ensures.set
    ∙ ap (λ d. after_all (set_unless alone n k e) (Assign k c.args.target d)) c.in_ok-set.ensures.told
    ∙ apart-after alone n k e (Assign k c.args.target) ∙ ap (λ a. after_reads a n k e (Assign k c.args.target)) c.stays_alone-alone.ensures
