use Rattle.std.proofs.Common.{◌∙◌, map, ap}
use Rattle.std.specs.Prelude.{nat_eq}
use Rattle.std.specs.HashSet.{contains}
use Rattle.gm_image.specs.Views.{line}
use Rattle.gm_merge.specs.Registers.{restarts_among}
use Rattle.gm_merge.proofs.Rising.{restarts-rising}
use Rattle.gm_merge.proofs.registers.find_restarts.Goals as goal

pub returns : goal.returns
returns c = λ first shown.
    c.in_ok-lines.ensures
    ∙ ap (restarts_among (contains nat_eq c.args.set.now) c.args.registers.now) c.as_slice.ensures.value
    ∙ restarts-rising (contains nat_eq c.args.set.now) c.args.registers.now first (map line c.args.body.now) c.in_ok-reads.reads.items shown c.in_ok-reads.ensures.rising c.in_ok-reads.ensures.read
