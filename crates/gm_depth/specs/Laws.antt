-- How deep the expressions of an accepted text are, and how many Ifs stand within one another.
use Rattle.std.specs.Prelude.{◌≡◌, ◌≤◌, true, Some}
use Rattle.gm_token.specs.Tokens.{Listing}
use Rattle.gm_parse.specs.Refused.{IsAccepted}
use Rattle.gm_parse.specs.Trees.{IsTreeOf}
use Rattle.gm_ast.specs.Surface.{SurfaceProcedure}
use Rattle.gm_ast.specs.Program.{Program}
use Rattle.gm_ast.specs.Procedures.{elaborated}
use Rattle.gm_depth.specs.Depths.{is_shallow_text}
use Rattle.gm_depth.specs.Nesting.{nesting, tree_nesting, text_nesting}
use Rattle.gm_depth.specs.Trees.{is_shallow_tree}

-- the grammar and its limits accept some tokens, and this is the tree that they spell
pub record IsAcceptedTree (it : Listing) (tree : SurfaceProcedure) : Type 0 where
  pub accepted : IsAccepted it
  pub spelled : IsTreeOf it.tokens tree

-- no expression of an accepted text has more than 256 levels
abbrev pub TreesAreShallow : Type 0
TreesAreShallow = (it : Listing) (tree : SurfaceProcedure) → IsAcceptedTree it tree → is_shallow_tree tree ≡ true

-- and none of its program more than 257
abbrev pub ProgramsAreShallow : Type 0
ProgramsAreShallow = (it : Listing) (tree : SurfaceProcedure) (p : Program) → IsAcceptedTree it tree → (elaborated tree).part ≡ Some p → is_shallow_text p ≡ true

-- no more than 64 Ifs stand within one another in an accepted text
abbrev pub TreesNestLittle : Type 0
TreesNestLittle = (it : Listing) (tree : SurfaceProcedure) → IsAcceptedTree it tree → tree_nesting tree.body ≤ text_nesting

-- nor in the bodies of the parallel loops and searches of its program
abbrev pub ProgramsNestLittle : Type 0
ProgramsNestLittle = (it : Listing) (tree : SurfaceProcedure) (p : Program) → IsAcceptedTree it tree → (elaborated tree).part ≡ Some p → nesting p.body ≤ text_nesting
