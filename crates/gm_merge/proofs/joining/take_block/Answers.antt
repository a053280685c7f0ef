use Rattle.std.proofs.Common.{◌∙◌, map, sym, ap}
use Rattle.gm_image.specs.Views.{block}
use Rattle.gm_merge.proofs.Standing.{block-index, taken-out, taken-copy}
use Rattle.gm_merge.proofs.joining.take_block.Goals as goal

pub returns-then-is_shared-clause-taken : goal.returns-then-is_shared-clause-taken
returns-then-is_shared-clause-taken c = c.in_ok-copy.ensures ∙ sym (block-index c.args.blocks.now.items c.args.number c.index.result.now c.requires c.index.ensures)

pub returns-then-is_shared-clause-others : goal.returns-then-is_shared-clause-others
returns-then-is_shared-clause-others c = taken-copy c.args.steps.now c.args.number (map block c.args.blocks.now.items)

pub returns-clause-taken : goal.returns-clause-taken
returns-clause-taken c = ap block c.replace.ensures.value ∙ sym (block-index c.args.blocks.now.items c.args.number c.index_mut.result.now c.requires c.index_mut.ensures.value)

pub returns-clause-others : goal.returns-clause-others
returns-clause-others c = taken-out c.args.steps.now c.args.number c.args.blocks.now.items c.replace.new.dest (sym c.is_shared.ensures ∙ c.if-is_shared.false)
