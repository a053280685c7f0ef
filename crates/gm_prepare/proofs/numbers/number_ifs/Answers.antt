use Rattle.std.proofs.Common.{◌≡◌, subst}
use Rattle.std.specs.Prelude.{OnOk}
use Rattle.gm_ast.specs.Tree.{program_of}
use Rattle.gm_dissect.proofs.Trees.{finished}
use Rattle.gm_parting.specs.Numbers.{with_own_numbers}
use Rattle.gm_prepare.proofs.numbers.number_ifs.Goals as goal

pub returns : goal.returns
returns c =
    let p = program_of c.args.program in
    let tree = c.number_tree-outcome.new.tree in
    let changed : OnOk c.number_tree-outcome.result (program_of tree ≡ with_own_numbers p) = subst (λ t. OnOk c.number_tree-outcome.result (program_of tree ≡ with_own_numbers (program_of t))) c.into_tree-tree.ensures c.number_tree-outcome.ensures in
    finished c.finish.result c.number_tree-outcome.result tree (λ t. program_of t ≡ with_own_numbers p) c.finish.ensures.tree c.finish.ensures.changed changed
