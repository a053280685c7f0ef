-- A number beyond 32 bits is no node.
use Rattle.std.proofs.Common.{FitsSigned, rules}
use mir.Syntax.{w128}
use Rattle.std.proofs.lemmas.Int.{to_z-of_z}
use Rattle.gm_value.specs.Numbers.{number_of}
use Rattle.gm_machine.proofs.Outside.{no-node}
use Rattle.gm_machine.proofs.expressions.node_with.Goals as goal

pub returns-in-Err : goal.returns-in-Err
returns-in-Err c =
    let in_bits : FitsSigned w128 c.number.result = search rules in
    let beyond = simp to_z-of_z at c.in-Err.ensures in
    no-node c.args.graph.now c.number.result (number_of c.args.v) c.node_count-nodes.ensures.known.few_nodes beyond c.number.ensures.number
