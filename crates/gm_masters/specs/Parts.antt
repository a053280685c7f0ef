-- Parts of an image in code, seen as those of the definition.
use Rattle.std.specs.Prelude.{ℕ, ◌+◌, Option, Some, None, List, [], ◌∷◌, ◌++◌, length, map}
use Rattle.gm_value.specs.declared.reductions.Reduce.{Reduce}
use Rattle.gm_ast.specs.declared.tree.Key.{Key}
use Rattle.gm_ast.specs.declared.tree.Target.{Target}
use Rattle.gm_ast.specs.Program.{Expr}
use Rattle.gm_image.specs.Term.{Term}
use Rattle.gm_image.specs.Program.{Command, SetGlobal, Jump}
use Rattle.gm_image.specs.Views.{block, command}
use Rattle.gm_bodies.specs.declared.keeps.Slot.{Slot}
use Rattle.gm_bodies.specs.declared.keeps.Slot.TheVariants as slots
use Rattle.gm_layouts.specs.Where.{where_of}
use Rattle.gm_lowering.specs.Layouts.{Layout}
use Rattle.gm_lowering.specs.Places.{Segment, segment, shown_places, spots_in_all}
use Rattle.gm_lowering.specs.Terms.{master_env, term}
use Rattle.gm_lowering.specs.Bodies.{kept_lines, with_types}
use Rattle.gm_lowering.specs.Lowered as L
use Rattle.gm_masters.specs.declared.parts.At.{At}
use Rattle.gm_masters.specs.declared.parts.Frame.{Frame}
use Rattle.gm_masters.specs.declared.parts.Part.{Part}

abbrev pub as_frame : Frame → L.Frame
as_frame w = record { layout = where_of w.layout.now; finish = w.finish }

abbrev pub as_at : At → L.At
as_at at = record { line = at.line; block = at.block; kind = at.kind; place = at.place; depth = at.depth }

abbrev pub as_part : Part → L.Part
as_part x = record { commands = map command x.commands.items; blocks = map block x.blocks.items; places = x.places.items }

-- behind a part with some kinds
abbrev pub past_by : L.At → L.Part → ℕ → L.At
past_by at x kinds = record at {
  line = at.line + length x.commands;
  block = at.block + length x.blocks;
  kind = at.kind + kinds;
  place = at.place + length x.places;
}

-- a command that sets a slot
abbrev pub command_at : Layout → Slot → Term → Command
command_at c (slots.Target t) a = L.set_global c t a
command_at c (slots.Spare i t) a = SetGlobal (c.spare_global i t) a

abbrev pub command_by : Layout → Slot × Term → Command
command_by c p = command_at c p.0 p.1

-- the commands that keep the better values of a reduction to scalars, where places are those of a segment
abbrev pub kept_commands : Layout → Segment → Key → Reduce → List Target → List Expr → List Command
kept_commands c g k r ts es = let v = master_env c g in kept_lines (L.keeping c v) r (with_types c ts) (map (term v k) es)

-- a reduction to scalars
abbrev pub combined_part : L.Frame → L.At → Key → Reduce → List Target → List Expr → L.Part
combined_part w at k r ts es =
    let g = segment at.place (spots_in_all es k) in
    let v = master_env w.layout g in
    L.commands_with (kept_lines (L.keeping w.layout v) r (with_types w.layout ts) (map (term v k) es)) (shown_places g)

-- the result that is returned, if there is one
abbrev pub value_part : L.Frame → L.At → Key → Option Expr → L.Part
value_part w at k None = L.no_part
value_part w at k (Some e) = L.told w at k e (λ t. SetGlobal w.layout.result t ∷ [])

-- a part, and to the end
abbrev pub ending : L.Frame → L.Part → L.Part
ending w x = record { commands = x.commands ++ (Jump w.finish ∷ []); blocks = x.blocks; places = x.places }
