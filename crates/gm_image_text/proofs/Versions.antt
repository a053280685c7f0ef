-- What has a text in version 1 has one in version 2.
use Rattle.std.proofs.Common.{List, [], ◌∷◌}
use Rattle.std.specs.List.{AllByRecursion}
use Rattle.gm_value.specs.declared.reductions.Reduce.{Reduce}
use Rattle.gm_image.specs.Program as P
use Rattle.gm_image.specs.Program.{Program, Target, Handler, Block}
use Rattle.gm_image_text.specs.declared.heads.Version.{Version}
use Rattle.gm_image_text.specs.declared.heads.Version.TheVariants as version
use Rattle.gm_image_text.specs.Fits.{TargetsFit, LineFits, ListFits, HandlerFits, BlockFits, Fits}

all_weaker : {A : Type 0} {F G : A → Type 0} → ((x : A) → F x → G x) → (xs : List A) → AllByRecursion F xs → AllByRecursion G xs
all_weaker f [] h = tt
all_weaker f (x ∷ xs) h = (f x h.0, all_weaker f xs h.1)

module _ (v : Version) where
  targets_in_two : (r : Reduce) (ts : List Target) → TargetsFit v r ts → TargetsFit version.Two r ts
  targets_in_two r [] h = absurd h
  targets_in_two r (t ∷ []) h = h
  targets_in_two r (t ∷ (u ∷ us)) h = (tt, h.1)

  line_in_two : (l : P.Line) → LineFits v l → LineFits version.Two l
  line_in_two (P.SetField f a) h = h
  line_in_two (P.Fold r p ts) h = (h.0, targets_in_two r ts h.1)
  line_in_two (P.SetRegister i a) h = h
  line_in_two (P.Put r p ts) h = (h.0, targets_in_two r ts h.1)
  line_in_two (P.Send k to vs) h = h
  line_in_two (P.Skip n a) h = h
  line_in_two (P.Each d n) h = h

  lines_in_two : (ls : List P.Line) → ListFits (LineFits v) ls → ListFits (LineFits version.Two) ls
  lines_in_two ls h = (h.0, all_weaker line_in_two ls h.1)

  handler_in_two : (x : Handler) → HandlerFits v x → HandlerFits version.Two x
  handler_in_two x h = (h.0, lines_in_two x.lines h.1)

  block_in_two : (b : Block) → BlockFits v b → BlockFits version.Two b
  block_in_two b h = ((h.0.0, all_weaker handler_in_two b.handlers h.0.1), lines_in_two b.body h.1)

  pub fits_in_two : (p : Program) → Fits v p → Fits version.Two p
  fits_in_two p h = record {
    name = h.name;
    inputs = h.inputs;
    outputs = h.outputs;
    result = h.result;
    globals = h.globals;
    fields = h.fields;
    registers = h.registers;
    columns = h.columns;
    kinds = h.kinds;
    places = h.places;
    blocks = (h.blocks.0, all_weaker block_in_two p.blocks h.blocks.1);
    master = h.master;
  }
