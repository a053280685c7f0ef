use Rattle.std.proofs.Common.{◌≡◌, ◌++◌, map, length}
use Rattle.std.specs.Vec.Iter.{into_iter_items, into_iter_len}
use Rattle.gm_image.specs.Views.{line}
use Rattle.gm_layouts.specs.Where.{where_of}
use Rattle.gm_bodies.specs.Keeps.{setting}
use Rattle.gm_bodies.specs.Sites.{line_by}
use Rattle.gm_bodies.proofs.bodies.add_settings.Given as goal

-- what is there and what is left make the whole
abbrev pub invariant-loop-setting : goal.invariant-loop-setting
invariant-loop-setting l =
    (map line l.out.items ++ map (line_by (where_of l.fn.layout)) (map setting (into_iter_items l.setting-iterator))
    ≡ map line l.initial.out.items ++ map (line_by (where_of l.fn.layout)) (map setting (into_iter_items l.initial.setting-iterator)))
    × (into_iter_len l.setting-iterator ≡ length (into_iter_items l.setting-iterator))
