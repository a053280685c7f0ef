use Rattle.std.proofs.Common.{◌≡◌, ◌++◌, map, length}
use Rattle.std.specs.Vec.Iter.{into_iter_items, into_iter_len}
use Rattle.gm_image.specs.Views.{command}
use Rattle.gm_layouts.specs.Where.{where_of}
use Rattle.gm_bodies.specs.Keeps.{setting}
use Rattle.gm_masters.specs.Parts.{command_by}
use Rattle.gm_masters.proofs.commands.add_settings.Given as goal

-- what is there and what is left make the whole
abbrev pub invariant-loop-setting : goal.invariant-loop-setting
invariant-loop-setting l =
    (map command l.out.items ++ map (command_by (where_of l.fn.layout)) (map setting (into_iter_items l.setting-iterator))
    ≡ map command l.initial.out.items ++ map (command_by (where_of l.fn.layout)) (map setting (into_iter_items l.initial.setting-iterator)))
    × (into_iter_len l.setting-iterator ≡ length (into_iter_items l.setting-iterator))
