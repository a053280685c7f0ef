-- Sections of a text one after another, of which one is refused.
use Rattle.std.proofs.Common.{◌≡◌, List}
use Rattle.std.specs.Prelude.{Result, Ok, Err}
use Rattle.gm_image_text.specs.declared.faults.TextStop.{TextStop}
use Rattle.gm_image_text.specs.declared.faults.TextStop.TheVariants as of_text
use Rattle.gm_image_text.specs.Lines.{Line}
use Rattle.gm_image_text.specs.Sections.{Reads, then_at}
use Rattle.gm_image_text.specs.Giving.{RefusesText}

module _ {X Y : Type 0} (first : Reads X) (second : Reads Y) (ls : List Line) where
  -- the first one
  pub refused_first : (stop : TextStop) → RefusesText stop (first ls) → RefusesText stop (then_at first second ls)
  refused_first (of_text.Bad at) h = rw h
  refused_first of_text.NoMemory h = tt

  -- one behind the first
  pub refused_second : (rest : List Line) (x : X) (stop : TextStop) → first ls ≡ Ok (x, rest) → RefusesText stop (second rest) → RefusesText stop (then_at first second ls)
  refused_second rest x (of_text.Bad at) e h = rw (e, h)
  refused_second rest x of_text.NoMemory e h = tt
