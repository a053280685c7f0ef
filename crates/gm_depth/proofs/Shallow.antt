-- The expressions of an accepted text are shallow, and few Ifs stand within one another.
use Rattle.std.proofs.Common.{◌≡◌, ◌≤◌, true, Some, arith, [], length}
use Rattle.gm_token.specs.Tokens.{Listing, words_of}
use Rattle.gm_ast.specs.Surface.{SurfaceProcedure}
use Rattle.gm_ast.specs.Program.{Program}
use Rattle.gm_ast.specs.Procedures.{elaborated}
use Rattle.gm_parse.specs.Derivation.{Nothing, Derives}
use Rattle.gm_depth.specs.Depths.{is_shallow_text}
use Rattle.gm_depth.specs.Trees.{is_shallow_tree}
use Rattle.gm_depth.specs.Nesting.{nesting, tree_nesting, text_nesting}
use Rattle.gm_depth.specs.Laws.{IsAcceptedTree}
use Rattle.gm_depth.proofs.Statements.{procedure}
use Rattle.gm_depth.proofs.Marks.{calm}
use Rattle.gm_depth.proofs.Checking.{program-fine}
use Rattle.gm_depth.proofs.Nesting.{procedure-nests}
use Rattle.gm_depth.proofs.NestingKept.{program-nests}

pub trees-shallow : (it : Listing) (tree : SurfaceProcedure) → IsAcceptedTree it tree → is_shallow_tree tree ≡ true
trees-shallow it tree h =
    let l = (procedure h.spelled).leads 0 (length it.tokens) (omega arith) Nothing [] Derives.end in
    (l.calm (calm (words_of it) h.accepted.program.shallow l.marks l.derives)).0

pub programs-shallow : (it : Listing) (tree : SurfaceProcedure) (p : Program) → IsAcceptedTree it tree → (elaborated tree).part ≡ Some p → is_shallow_text p ≡ true
programs-shallow it tree p h e = program-fine tree p (trees-shallow it tree h) e

pub trees-nest-little : (it : Listing) (tree : SurfaceProcedure) → IsAcceptedTree it tree → tree_nesting tree.body ≤ text_nesting
trees-nest-little it tree h =
    let l = (procedure-nests h.spelled).leads 0 (length it.tokens) (omega arith) Nothing [] Derives.end in
    (l.calm (calm (words_of it) h.accepted.program.shallow l.marks l.derives)).0

pub programs-nest-little : (it : Listing) (tree : SurfaceProcedure) (p : Program) → IsAcceptedTree it tree → (elaborated tree).part ≡ Some p → nesting p.body ≤ text_nesting
programs-nest-little it tree p h e =
    let x : nesting p.body ≤ tree_nesting tree.body = program-nests tree p e in
    let y : tree_nesting tree.body ≤ text_nesting = trees-nest-little it tree h in
    omega arith
