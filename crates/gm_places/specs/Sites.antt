-- The spots of a body where it stands.
use Rattle.std.specs.Prelude.{List}
use Rattle.gm_ast.specs.Program.{Stmt}
use Rattle.gm_lowering.specs.Bodies.{spots_of}
use Rattle.gm_lowering.specs.Places.{Spot}
use Rattle.gm_layouts.specs.Where.{where_of}
use Rattle.gm_places.specs.declared.spreads.BodySite.{BodySite}

abbrev pub spots_at : BodySite → Stmt → List Spot
spots_at site s = spots_of (where_of site.layout.now) site.node site.iterators.now site.at_once s
