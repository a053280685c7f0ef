use Rattle.std.proofs.Common.{◌≡◌, sym, subst}
use Rattle.std.specs.Prelude.{IfOk, OnOk}
use Rattle.gm_ast.specs.Tree.{program_of}
use Rattle.gm_cut.specs.Parts.{goes_any_way, IsPartedBy}
use Rattle.gm_forms.specs.Meanings.{SameMeaning}
use Rattle.gm_dissect.proofs.Trees.{finished, ok-then}
use Rattle.gm_parting.specs.Apart.{with_statements_apart}
use Rattle.gm_parting.proofs.ApartLaws.{same-apart, parted-apart-still}
use Rattle.gm_dissecting.proofs.apart.statements_apart.Goals as goal

pub returns-clause-made : goal.returns-clause-made
returns-clause-made c =
    let p = program_of c.args.program in
    let tree = c.stand_tree-outcome.new.tree in
    let changed : OnOk c.stand_tree-outcome.result (program_of tree ≡ with_statements_apart p) = subst (λ t. OnOk c.stand_tree-outcome.result (program_of tree ≡ with_statements_apart (program_of t))) c.into_tree-tree.ensures c.stand_tree-outcome.ensures in
    finished c.finish.result c.stand_tree-outcome.result tree (λ t. program_of t ≡ with_statements_apart p) c.finish.ensures.tree c.finish.ensures.changed changed

pub returns-clause-same : goal.returns-clause-same
returns-clause-same c =
    let p = program_of c.args.program in
    let made : IfOk c.finish.result (λ r. program_of r ≡ with_statements_apart p) = returns-clause-made c in
    ok-then c.finish.result made (λ r same cut. subst (SameMeaning p) (sym same) (same-apart p cut))

pub returns-clause-cut : goal.returns-clause-cut
returns-clause-cut c =
    let p = program_of c.args.program in
    let made : IfOk c.finish.result (λ r. program_of r ≡ with_statements_apart p) = returns-clause-made c in
    ok-then c.finish.result made (λ r same cut. subst (IsPartedBy goes_any_way) (sym same) (parted-apart-still p cut))
