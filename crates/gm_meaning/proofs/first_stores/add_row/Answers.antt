use Rattle.std.proofs.Common.{◌∙◌, ap, pos, length}
use Rattle.gm_value.specs.declared.values.Value.TheVariants.{I32}
use Rattle.gm_value.specs.Numbers.{zero_of}
use Rattle.gm_ast.specs.declared.tree.Variable.{Variable}
use Rattle.gm_ast.specs.Tree.{program_of}
use Rattle.gm_semantics.specs.Stores.{Store}
use Rattle.gm_store.specs.Held.{node_of}
use Rattle.gm_meaning.proofs.Inputs.{row-first}
use Rattle.gm_meaning.proofs.first_stores.add_row.Goals as goal

pub returns-else-x-tree-clause-values : goal.returns-else-x-tree-clause-values
returns-else-x-tree-clause-values c = λ q m.
    row-first (program_of c.args.tree.now) c.args.graph.now.node_columns c.args.x q m (length c.args.store.now.rows) c.zero.result (node_of c.args.store.now q m) (node_of c.add_row.new.self q m)
    (ap (λ (s : Store). s.node q m) (c.in_ok-add_row.ensures.store (λ a b. I32 (pos 0))))
    c.requires.rows
    (c.zero.ensures ∙ ap (λ (v : Variable). zero_of v.vtype) c.variable_at.ensures)
    c.if-x-tree.false
