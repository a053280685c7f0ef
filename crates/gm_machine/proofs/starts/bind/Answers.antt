-- An input of nodes takes the next column, where there is one.
use Rattle.std.proofs.Common.{◌≤◌, ℕ, List, length, sym, subst, arith}
use Rattle.gm_value.specs.declared.values.Value.{Value}
use Rattle.gm_image.specs.declared.images.InputItem.{InputItem}
use Rattle.gm_image.specs.declared.images.InputItem.TheVariants.{Node}
use Rattle.gm_image.specs.Views.{input}
use Rattle.gm_machine.specs.Machine.{properties, row_at}
use Rattle.gm_machine.specs.Starts.{IsBound}
use Rattle.gm_machine.proofs.Starting.{input-bound, inputs-end}
use Rattle.gm_machine.proofs.starts.bind.Goals as goal

pub returns-then-column-node_column_count : goal.returns-then-column-node_column_count
returns-then-column-node_column_count c =
    let columns : List (List Value) = c.args.graph.now.node_columns in
    let held : List Value = c.args.fields.now.items in
    let P : InputItem → Type 0 = λ i. IsBound (input i) (row_at columns c.args.node) c.args.column held c.args.column held in
    let end : length columns ≤ c.args.column = omega (arith, c.if-column-node_column_count.true, c.node_column_count.ensures) in
    subst P (sym c.in-Node.is) (λ items. inputs-end columns c.args.column c.args.node held (input (Node c.in-Node.vtype c.in-Node.name c.in-Node.slot)) end (properties items))

pub returns-in_ok-next-in-Node : goal.returns-in_ok-next-in-Node
returns-in_ok-next-in-Node c =
    let columns : List (List Value) = c.args.graph.now.node_columns in
    let held : List Value = c.args.fields.now.items in
    let next : ℕ = c.in_ok-next-in-Node.next in
    let P : InputItem → Type 0 = λ i. IsBound (input i) (row_at columns c.args.node) c.args.column held next c.write.new.values.items in
    subst P (sym c.in-Node.is)
    (λ items. input-bound columns c.args.column next c.args.node c.start_value-value.result held c.write.new.values.items (input (Node c.in-Node.vtype c.in-Node.name c.in-Node.slot))
    c.start_value-value.ensures c.in_ok-next-in-Node.ensures c.write.ensures (properties items))
