use Rattle.std.proofs.Common.{◌≡◌, sym, subst}
use Rattle.std.specs.Prelude.{IfOk, OnOk}
use Rattle.gm_ast.specs.Tree.{program_of}
use Rattle.gm_forms.specs.Meanings.{SameMeaning}
use Rattle.gm_desugar.specs.Conditions.{with_conditions}
use Rattle.gm_desugar.specs.Stages.{WithConditions}
use Rattle.gm_desugar.proofs.ConditionsOut.{same-with_conditions, kept}
use Rattle.gm_desugar.proofs.Trees.{finished, ok-then}
use Rattle.gm_desugar.proofs.conditions.conditions_out.Goals as goal

pub returns-clause-made : goal.returns-clause-made
returns-clause-made c =
    let p = program_of c.args.program in
    let tree = c.set_conditions-outcome.new.tree in
    let changed : OnOk c.set_conditions-outcome.result (program_of tree ≡ with_conditions p) = subst (λ t. OnOk c.set_conditions-outcome.result (program_of tree ≡ with_conditions (program_of t))) c.into_tree-tree.ensures c.set_conditions-outcome.ensures in
    finished c.finish.result c.set_conditions-outcome.result tree (λ t. program_of t ≡ with_conditions p) c.finish.ensures.tree c.finish.ensures.changed changed

pub returns-clause-same : goal.returns-clause-same
returns-clause-same c =
    let p = program_of c.args.program in
    let made : IfOk c.finish.result (λ r. program_of r ≡ with_conditions p) = returns-clause-made c in
    ok-then c.finish.result made (λ r same named. subst (SameMeaning p) (sym same) (same-with_conditions p named))

pub returns-clause-ready : goal.returns-clause-ready
returns-clause-ready c =
    let p = program_of c.args.program in
    let made : IfOk c.finish.result (λ r. program_of r ≡ with_conditions p) = returns-clause-made c in
    ok-then c.finish.result made (λ r same ready. subst WithConditions (sym same) (kept p ready))
