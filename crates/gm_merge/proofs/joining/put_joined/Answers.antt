use Rattle.std.proofs.Common.{◌≡◌, ◌∙◌, ◌<◌, ◌∷◌, [], map, length, ap, arith}
use Rattle.std.proofs.lemmas.List.{map-append, length-map}
use Rattle.gm_image.specs.Views.{block}
use Rattle.gm_merge.proofs.Standing.{two-joined}
use Rattle.gm_merge.proofs.joining.put_joined.Goals as goal

pub take_block-requires-2 : goal.take_block-requires-2
take_block-requires-2 c =
    let old = length-map c.args.blocks.now.items block in
    let new = length-map c.take_block.new.blocks.items block in
    omega (arith, c.in_ok-first.ensures.others.long, old, new, c.requires.second)

pub returns : goal.returns
returns c =
    two-joined _ _ _ _ _ _ _ _ _ _ _ c.requires.apart c.in_ok-first.ensures.others c.in_ok-second.ensures.others c.in_ok-first.ensures.taken c.in_ok-second.ensures.taken c.in_ok-joined.ensures
    (ap (map block) c.in_ok-push.ensures.items ∙ map-append block c.take_block-2.new.blocks.items (c.in_ok-joined.joined ∷ []))
