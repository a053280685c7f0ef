-- What holds of the program of an accepted text, and of what the passes make of it.
use Rattle.std.specs.Prelude.{◌≡◌, ℕ, true, List}
use Rattle.gm_ast.specs.Program.{Program}
use Rattle.gm_canon.specs.Verdict.{StandsFor}
use Rattle.gm_compilable.specs.Parted.{parted}
use Rattle.gm_forms.specs.Meanings.{SameMeaning}
use Rattle.gm_forms.specs.Ready.{Ready4}
use Rattle.gm_image.specs.Program as Image
use Rattle.gm_lower.specs.Laws.{IsItsImage}
use Rattle.gm_merge.specs.Results.{SameOutcomes}
use Rattle.gm_plain_loops.specs.Tests.{tells_phases, suits_loops}
use Rattle.gm_compile.specs.Compiled.{MayBeParted, Represents}

-- the loops of an accepted program may be parted
abbrev pub AcceptedMayBeParted : Type 0
AcceptedMayBeParted = (text : List ℕ) (p : Program) → StandsFor text p → MayBeParted p

-- a parted program means the same and is in its last form, its phases are told by a master list, and its loops suit
pub record IsPartedWell (p : Program) : Type 0 where
  pub same : SameMeaning p (parted p)
  pub ready : Ready4 (parted p)
  pub tells : tells_phases (parted p) ≡ true
  pub suits : suits_loops (parted p) ≡ true

-- only the kinds, the blocks and the master list of a second image are others
abbrev pub HasSameInterface : Image.Program → Image.Program → Type 0
HasSameInterface i m = m ≡ record i { kinds = m.kinds; blocks = m.blocks; master = m.master }

-- an image runs as that of a program in its last form: it has its outcomes, its inputs, outputs and columns
pub record RunsAsImageOf (q : Program) (m : Image.Program) : Type 0 where
  pub image : Image.Program
  pub own : IsItsImage q image
  pub outcomes : SameOutcomes image m
  pub rest : HasSameInterface image m

-- then an image that runs as that of the parted program stands for the program
abbrev pub ImagesRepresent : Type 0
ImagesRepresent = (text : List ℕ) (p : Program) (m : Image.Program) → StandsFor text p → IsPartedWell p → RunsAsImageOf (parted p) m → Represents m p
