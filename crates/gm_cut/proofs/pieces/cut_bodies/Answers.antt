use Rattle.std.proofs.Common.{◌≡◌, sym, subst}
use Rattle.std.specs.Prelude.{IfOk, OnOk}
use Rattle.gm_ast.specs.Tree.{program_of}
use Rattle.gm_dissect.proofs.Trees.{finished, ok-then}
use Rattle.gm_forms.specs.Meanings.{SameMeaning}
use Rattle.gm_forms.specs.Ready.{Ready3}
use Rattle.gm_cut.specs.Parts.{in_pieces, IsPartedBy}
use Rattle.gm_cut.proofs.PartLaws.{flippable-parted, ready-parted, same-parted}
use Rattle.gm_cut.proofs.pieces.cut_bodies.Goals as goal

pub returns-clause-made : goal.returns-clause-made
returns-clause-made c =
    let p = program_of c.args.program in
    let tree = c.cut_tree-outcome.new.tree in
    let changed : OnOk c.cut_tree-outcome.result (program_of tree ≡ in_pieces p) = subst (λ t. OnOk c.cut_tree-outcome.result (program_of tree ≡ in_pieces (program_of t))) c.into_tree-tree.ensures c.cut_tree-outcome.ensures in
    finished c.finish.result c.cut_tree-outcome.result tree (λ t. program_of t ≡ in_pieces p) c.finish.ensures.tree c.finish.ensures.changed changed

pub returns-clause-same : goal.returns-clause-same
returns-clause-same c =
    let p = program_of c.args.program in
    let made : IfOk c.finish.result (λ r. program_of r ≡ in_pieces p) = returns-clause-made c in
    ok-then c.finish.result made (λ r same kind ready asks. subst (SameMeaning p) (sym same) (same-parted kind p ready asks))

pub returns-clause-cut : goal.returns-clause-cut
returns-clause-cut c =
    let p = program_of c.args.program in
    let made : IfOk c.finish.result (λ r. program_of r ≡ in_pieces p) = returns-clause-made c in
    ok-then c.finish.result made (λ r same kind ready asks. subst (IsPartedBy kind) (sym same) (ready-parted kind p ready asks))

pub returns-clause-ready : goal.returns-clause-ready
returns-clause-ready c =
    let p = program_of c.args.program in
    let made : IfOk c.finish.result (λ r. program_of r ≡ in_pieces p) = returns-clause-made c in
    ok-then c.finish.result made (λ r same ready asks. subst Ready3 (sym same) (flippable-parted p ready asks))
