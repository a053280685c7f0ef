-- The head of a loop is a line of the list.
use Rattle.std.proofs.Common.{◌≡◌, rules, subst}
use Rattle.gm_image.specs.declared.lines.MasterLine.{MasterLine}
use Rattle.gm_image.specs.declared.lines.MasterLine.TheVariants as lines
use Rattle.gm_image.specs.Views.{command}
use Rattle.gm_graph.specs.Serving.{Serve}
use Rattle.gm_machine.specs.Asking.{command_outward}
use Rattle.gm_machine.proofs.Serving.{command_item}
use Rattle.gm_machine.proofs.masters.back.Goals as goal

pub at_head-requires-clause-asked : goal.at_head-requires-clause-asked
at_head-requires-clause-asked c =
    let rows = c.args.list.now.in_rows.now in
    let x : MasterLine = c.in-Some-Turn.field-0.now in
    let is : x ≡ lines.Turn c.in-Some-Turn.exit c.in-Some-Turn.a = search rules in
    let P : MasterLine → Type 0 = λ y. Serve rows (command_outward (command y)) in
    subst P is (command_item rows c.args.list.now.lines.now c.args.head x c.in-Some-Turn.ensures.lookup.3.0 c.in-Some-Turn.ensures.lookup.1 c.requires.asked)
