use Rattle.std.proofs.Common.{◌≡◌, sym, subst}
use Rattle.std.specs.Prelude.{IfOk, OnOk}
use Rattle.gm_ast.specs.Tree.{program_of}
use Rattle.gm_forms.specs.Meanings.{SameMeaning}
use Rattle.gm_desugar.specs.Reads.{with_reads_apart}
use Rattle.gm_desugar.specs.Stages.{WithReadsApart}
use Rattle.gm_desugar.proofs.ReadsOut.{same-with_reads_apart, kept}
use Rattle.gm_desugar.proofs.Trees.{finished, ok-then}
use Rattle.gm_desugar.proofs.reads.reads_out.Goals as goal

pub returns-clause-made : goal.returns-clause-made
returns-clause-made c =
    let p = program_of c.args.program in
    let tree = c.set_reads-outcome.new.tree in
    let changed : OnOk c.set_reads-outcome.result (program_of tree ≡ with_reads_apart p) = subst (λ t. OnOk c.set_reads-outcome.result (program_of tree ≡ with_reads_apart (program_of t))) c.into_tree-tree.ensures c.set_reads-outcome.ensures in
    finished c.finish.result c.set_reads-outcome.result tree (λ t. program_of t ≡ with_reads_apart p) c.finish.ensures.tree c.finish.ensures.changed changed

pub returns-clause-same : goal.returns-clause-same
returns-clause-same c =
    let p = program_of c.args.program in
    let made : IfOk c.finish.result (λ r. program_of r ≡ with_reads_apart p) = returns-clause-made c in
    ok-then c.finish.result made (λ r same named. subst (SameMeaning p) (sym same) (same-with_reads_apart p named))

pub returns-clause-ready : goal.returns-clause-ready
returns-clause-ready c =
    let p = program_of c.args.program in
    let made : IfOk c.finish.result (λ r. program_of r ≡ with_reads_apart p) = returns-clause-made c in
    ok-then c.finish.result made (λ r same ready. subst WithReadsApart (sym same) (kept p ready))
