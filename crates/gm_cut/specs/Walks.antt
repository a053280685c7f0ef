-- A walk over the body of a loop over nodes, as loops and a run of statements.
use Rattle.std.specs.Prelude.{ℕ, Bool, true, false, List, [], ◌++◌, map}
use Rattle.std.specs.List.{list_any}
use Rattle.gm_base.specs.declared.places.Place.{Place}
use Rattle.gm_value.specs.declared.operations.Op1.TheVariants.{Not}
use Rattle.gm_ast.specs.declared.tree.Head.{Head}
use Rattle.gm_ast.specs.declared.tree.Key.{Key}
use Rattle.gm_ast.specs.Program.{Expr, Unary, Both, Stmt, Skip, Then, If}
use Rattle.gm_forms.specs.Cut.{is_own_loop}
use Rattle.gm_loop_laws.specs.Pieces.{Piece, piece}
use Rattle.gm_cut.specs.Own.{adds_beyond}
use Rattle.gm_cut.specs.Parts.{piece_loop}
use Rattle.gm_cut.specs.Runs.{joins_run}
use Rattle.gm_cut.specs.Taken.{Taken, all_taken, taken}

-- whether a statement is a block
abbrev pub is_block : Stmt → Bool
is_block Skip = true
is_block (Then a b) = true
is_block s = false

-- the loops of pieces
abbrev pub loops_of : Key → Place → Head → List Piece → List Stmt
loops_of k at h ps = map (piece_loop k at h) ps

-- whether a run adds through another node variable
abbrev pub adds_in : ℕ → List Stmt → Bool
adds_in n run = list_any (adds_beyond n) run

-- a statement behind a run
abbrev pub walked : ℕ → Place → Expr → List Stmt → Stmt → Taken
walked n at mask run s = taken (is_own_loop n) (joins_run n) at mask run s

-- the pieces of a branch under its side of a condition
abbrev pub branch_pieces : ℕ → Place → Expr → Stmt → List Piece
branch_pieces n at mask s = all_taken mask (walked n at mask [] s)

-- the pieces of a statement that is not own
abbrev pub cut_pieces : ℕ → Place → Expr → Stmt → List Piece
cut_pieces n at mask (If k c a b) = branch_pieces n at (Both mask c) a ++ branch_pieces n at (Both mask (Unary Not at c)) b
cut_pieces n at mask s = piece mask s
