use Rattle.std.proofs.Common.{◌≡◌, ◌≤◌, ◌∙◌, length, get_or, sym, arith}
use Rattle.std.specs.Prelude.{Some, None}
use Rattle.gm_input.specs.Lines.{held, line_with}
use Rattle.gm_input.proofs.Searching.{held_within, mark_here, read_on}
use Rattle.gm_input.proofs.lines.seek.Goals as goal

pub overflow_sub-result : goal.overflow_sub-result
overflow_sub-result c =
    let few : length (held c.loop-at.line) ≤ c.loop-at.at = held_within c.args.bytes.now c.loop-at.line c.loop-at.at c.loop-at.invariant.within c.loop-at.invariant.searched in
    omega (arith, c.held.ensures)

pub returns-in-None : goal.returns-in-None
returns-in-None c =
    let few : length (held c.loop-at.line) ≤ c.loop-at.at = held_within c.args.bytes.now c.loop-at.line c.loop-at.at c.loop-at.invariant.within c.loop-at.invariant.searched in
    let ends : line_with c.loop-at.line (get_or c.args.bytes.now c.loop-at.at 0) ≡ None = sym c.with.ensures ∙ c.in-None.is in
    (mark_here c.args.bytes.now c.loop-at.line c.loop-at.at _ c.loop-at-test.true c.loop-at.invariant.searched ends (omega (arith, c.held.ensures)), omega arith)

pub loop-at-preserved : goal.loop-at-preserved
loop-at-preserved c =
    let on : line_with c.loop-at.line (get_or c.args.bytes.now c.loop-at.at 0) ≡ Some c.in-Some.longer = sym c.with.ensures ∙ c.in-Some.is in
    record {
      within = omega arith;
      searched = read_on c.args.bytes.now c.loop-at.line c.in-Some.longer c.loop-at.at c.loop-at-test.true c.loop-at.invariant.searched on;
      before = omega arith;
    }
