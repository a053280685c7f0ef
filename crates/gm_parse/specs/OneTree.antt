-- A text has one tree.
use Rattle.std.specs.Prelude.{◌≡◌, List}
use Rattle.gm_token.specs.Tokens.{Token}
use Rattle.gm_ast.specs.Surface.{SurfaceProcedure}
use Rattle.gm_parse.specs.Trees.{IsTreeOf}

-- two trees of one text are equal
abbrev pub TextsHaveOneTree : Type 0
TextsHaveOneTree = (tokens : List Token) (one other : SurfaceProcedure) → IsTreeOf tokens one → IsTreeOf tokens other → one ≡ other
