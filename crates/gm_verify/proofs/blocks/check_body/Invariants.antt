use Rattle.std.proofs.Common.{◌≡◌, ◌+◌, List}
use Rattle.gm_image.specs.Program.{Line}
use Rattle.gm_image.specs.Views.{program}
use Rattle.gm_verify.specs.Scopes.{ShowsPuts}
use Rattle.gm_verify.proofs.Bodies.{Bodies}
use Rattle.gm_verify.proofs.blocks.check_body.Given as goal

-- the lines so far break no rule, and are shown
abbrev pub invariant-loop-index : goal.invariant-loop-index
invariant-loop-index l = record {
  at : l.next ≡ l.fn.number + l.index;
  held : (earlier : List Line) → ShowsPuts l.initial.puts earlier → Bodies (program l.image) l.fn.number l.lines l.index l.next l.scope l.puts earlier;
}
