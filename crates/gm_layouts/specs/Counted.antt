-- Globals before the spare ones.
use Rattle.std.specs.Prelude.{◌≡◌, length}
use Rattle.gm_ast.specs.Program.{Program}
use Rattle.gm_lowering.specs.Layouts.{named_globals, kept_globals, counted_globals}
use Rattle.gm_layouts.specs.declared.layouts.Counted.{Counted}

-- the types are those of the program's globals, and the numbers stand at their places
abbrev pub IsCounted : Counted → Program → Type 0
IsCounted c p = (c.types.items ≡ counted_globals p) × (c.result ≡ length (named_globals p)) × (c.loops ≡ length (kept_globals p))
