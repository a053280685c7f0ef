use Rattle.std.proofs.Common.{◌≤◌, ◌∙◌, length, arith}
use Rattle.gm_input.specs.Lines.{held, held_at_end}
use Rattle.gm_input.proofs.Searching.{held_few}
use Rattle.gm_input.proofs.Reading.{program_front, graph_whole, at_end_few}
use Rattle.gm_input.proofs.fronts.whole.Goals as goal

pub returns-clause-program : goal.returns-clause-program
returns-clause-program c =
    c.truncate.ensures.items ∙ program_front c.args.bytes.items c.args.line c.args.most c.min.result c.requires (omega (arith, c.min.ensures, c.len.ensures, c.held_at_end.ensures))

pub returns-clause-graph : goal.returns-clause-graph
returns-clause-graph c = graph_whole c.args.bytes.items c.args.line c.requires

pub returns-clause-close : goal.returns-clause-close
returns-clause-close c =
    let few : length (held_at_end c.args.line) ≤ length (held c.args.line) = at_end_few c.args.line in
    let three : length (held c.args.line) ≤ 3 = held_few c.args.line in
    λ short. omega (arith, short, c.min.ensures, c.len.ensures, c.held_at_end.ensures, c.truncate.ensures.len)
