use Rattle.std.proofs.Common.{◌∙◌}
use Rattle.gm_image.specs.Views.{block}
use Rattle.gm_merge_laws.specs.Joins.{block_lines}
use Rattle.gm_merge.proofs.Testing.{silent-lines, calm-lines}
use Rattle.gm_merge.proofs.joinable.Earlier.new.Goals as goal

pub returns : goal.returns
returns c = record {
  puts = c.in_ok-puts.ensures;
  bound = c.block_bound-bound.ensures;
  silent = c.block_holds-is_silent.ensures ∙ silent-lines (block_lines (block c.args.first.now));
  calm = c.block_holds-is_calm.ensures ∙ calm-lines (block_lines (block c.args.first.now));
}
