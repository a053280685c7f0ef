-- The parts of conditions and loops of the sequential phase, by the parts of their bodies.
use Rattle.std.specs.Prelude.{ℕ, suc, ◌+◌, pos, true, false, List, [], ◌∷◌, ◌++◌, length}
use Rattle.gm_base.specs.declared.places.Place.{Place}
use Rattle.gm_value.specs.declared.values.Value.TheVariants.{Flag, I64}
use Rattle.gm_image.specs.Term as M
use Rattle.gm_image.specs.Term.{Term}
use Rattle.gm_image.specs.Program.{Command, SetGlobal, Turn, Back}
use Rattle.gm_lowering.specs.Layouts.{Layout}
use Rattle.gm_lowering.specs.Lowered as L
use Rattle.gm_lowering.specs.Lowered.{At, Part}

-- a part with commands before and behind it, and places before it
abbrev pub between : List Place → List Command → Part → List Command → Part
between places before x after = record { commands = before ++ (x.commands ++ after); blocks = x.blocks; places = places ++ x.places }

-- the two ways of a condition, by the line behind the first
abbrev pub choice_of : List Place → Term → ℕ → Part → Part → Part
choice_of places t behind x y = record {
  commands = L.choice t behind x.commands y.commands;
  blocks = x.blocks ++ y.blocks;
  places = places ++ (x.places ++ y.places);
}

-- the line behind a body
abbrev pub behind : At → Part → ℕ
behind start x = start.line + length x.commands

-- a While that begins at one point, and its body at another
abbrev pub while_of : List Place → Term → At → At → Part → Part
while_of places t at start x = between places (Turn (behind start x + 1) t ∷ []) x (Back at.line ∷ [])

-- a Do, by the flag that holds in its first turn
abbrev pub do_of : ℕ → List Place → Term → At → At → Part → Part
do_of flag places t at start x =
    between places
    (SetGlobal flag (M.Const (Flag true)) ∷ Turn (behind start x + 1) (M.Or (M.Global flag) t) ∷ SetGlobal flag (M.Const (Flag false)) ∷ [])
    x (Back (suc at.line) ∷ [])

-- the lines before the body of a For, by its depth, its iterator, the line behind its body, the place of its addition and its filter
abbrev pub for_lines : Layout → ℕ → ℕ → ℕ → ℕ → Term → List Command
for_lines c depth iterator end place test =
    SetGlobal (c.counter depth) (M.Const (I64 (pos 0)))
    ∷ Turn (end + 1) (L.counts c depth)
    ∷ SetGlobal (c.global iterator) (M.NodeAt (M.Global (c.counter depth)))
    ∷ SetGlobal (c.counter depth) (L.next_count c depth place)
    ∷ L.test_lines end test

-- a For
abbrev pub for_of : Layout → ℕ → ℕ → List Place → Term → At → At → Part → Part
for_of c iterator place places test at start x = between places (for_lines c at.depth iterator (behind start x) place test) x (Back (suc at.line) ∷ [])
