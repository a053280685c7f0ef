-- The blocks of loops are those of the laws.
use Rattle.std.proofs.Common.{suc, ◌∷◌, ap}
use Rattle.gm_lowering.specs.Places.{segment}
use Rattle.gm_lowering.specs.Plans.{carried}
use Rattle.gm_lowering.specs.Blocks.{message_loop, taking_blocks}
use Rattle.gm_lowering.specs.OwnLoops.{own_block}
use Rattle.gm_lowering.specs.Phases.{own_spots}
use Rattle.gm_lowering.specs.Receiving.{receive_block}
use Rattle.gm_lowering.specs.Sends.{send_block}
use Rattle.gm_lowering.specs.Shapes.{OwnLoopsHaveOneBlock, MessageLoopsHaveTwoBlocks}

pub one-block : OwnLoopsHaveOneBlock
one-block c base kind n key test body e =
    let seg = segment base (own_spots c n key test body) in ap (λ ys. own_block c seg n kind key test body ∷ taking_blocks c seg kind ys) e

pub two-blocks : MessageLoopsHaveTwoBlocks
two-blocks c base kind n mask_key mask key h test body e =
    let loop = message_loop c base kind n mask_key mask key h test body in
    let loads = carried n test body in
    ap (λ ys. send_block c loop.segment n mask_key mask h.domain kind loads ∷ (receive_block c loop.segment n h.iterator loads kind key test body ∷ taking_blocks c loop.segment (suc kind) ys)) e
