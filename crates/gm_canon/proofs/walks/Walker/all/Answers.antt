use Rattle.std.proofs.Common.{◌≡◌, ◌+◌, ◌∷◌, List, ap, subst, map, drop}
use Rattle.gm_ast.specs.Canonical.{reads_broken, all_broken}
use Rattle.gm_ast.specs.Program.{Expr}
use Rattle.gm_ast.specs.Tree.{expr_of}
use Rattle.gm_canon.proofs.Items.{drop-item}
use Rattle.gm_canon.proofs.Parts.{Walks, walks-next}
use Rattle.gm_canon.proofs.walks.Walker.all.Goals as goal

pub loop-value-preserved : goal.loop-value-preserved
loop-value-preserved c =
    let values = c.args.values.now in
    let i = c.loop-value.value-index in
    let item = c.value-item.result in
    let rest : map expr_of (drop i values) ≡ expr_of item ∷ map expr_of (drop (i + 1) values) = ap (map expr_of) (drop-item values i item c.loop-value-test.true c.value-item.is) in
    let w = subst (λ (r : List Expr). Walks c.args.self.now c.loop-value.self (all_broken (map expr_of values)) (all_broken r)) rest c.loop-value.invariant in
    walks-next (all_broken (map expr_of values)) (reads_broken (expr_of item)) (all_broken (map expr_of (drop (i + 1) values))) w c.in_ok-reads.ensures
