use Rattle.std.proofs.Common.{◌≡◌, sym, subst}
use Rattle.std.specs.Prelude.{IfOk, OnOk}
use Rattle.gm_ast.specs.Tree.{program_of}
use Rattle.gm_forms.specs.Meanings.{SameMeaning}
use Rattle.gm_desugar.specs.Groups.{without_groups}
use Rattle.gm_desugar.specs.Stages.{WithoutGroups}
use Rattle.gm_desugar.proofs.GroupsLaws.{same-without_groups, kept}
use Rattle.gm_desugar.proofs.Trees.{finished, ok-then}
use Rattle.gm_desugar.proofs.groups.groups_out.Goals as goal

pub returns-clause-made : goal.returns-clause-made
returns-clause-made c =
    let p = program_of c.args.program in
    let tree = c.ungroup_tree-outcome.new.tree in
    let changed : OnOk c.ungroup_tree-outcome.result (program_of tree ≡ without_groups p) = subst (λ t. OnOk c.ungroup_tree-outcome.result (program_of tree ≡ without_groups (program_of t))) c.into_tree-tree.ensures c.ungroup_tree-outcome.ensures in
    finished c.finish.result c.ungroup_tree-outcome.result tree (λ t. program_of t ≡ without_groups p) c.finish.ensures.tree c.finish.ensures.changed changed

pub returns-clause-same : goal.returns-clause-same
returns-clause-same c =
    let p = program_of c.args.program in
    let made : IfOk c.finish.result (λ r. program_of r ≡ without_groups p) = returns-clause-made c in
    ok-then c.finish.result made (λ r same. subst (SameMeaning p) (sym same) (same-without_groups p))

pub returns-clause-ready : goal.returns-clause-ready
returns-clause-ready c =
    let p = program_of c.args.program in
    let made : IfOk c.finish.result (λ r. program_of r ≡ without_groups p) = returns-clause-made c in
    ok-then c.finish.result made (λ r same ready. subst WithoutGroups (sym same) (kept p ready))
