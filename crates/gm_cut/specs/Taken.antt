-- How a walk over a body comes to its pieces, by a run of own statements that goes on.
use Rattle.std.specs.Prelude.{Bool, true, false, List, [], ◌∷◌, ◌++◌}
use Rattle.gm_base.specs.declared.places.Place.{Place}
use Rattle.gm_value.specs.declared.operations.Op1.TheVariants.{Not}
use Rattle.gm_ast.specs.Program.{Expr, Unary, Both, Stmt, Skip, Then, If, sequence}
use Rattle.gm_loop_laws.specs.Pieces.{Piece, piece}

-- the pieces before which nothing is left to do, and the run that may go on behind them
pub record Taken : Type 0 where
  pub pieces : List Piece
  pub run : List Stmt

-- the piece of a run, if it has statements
abbrev pub run_piece : Expr → List Stmt → List Piece
run_piece mask [] = []
run_piece mask (x ∷ xs) = piece mask (sequence (x ∷ xs))

-- all pieces, where nothing comes behind
abbrev pub all_taken : Expr → Taken → List Piece
all_taken mask t = t.pieces ++ run_piece mask t.run

-- own, joins: as those of runs; place: that of the other side of a condition
module _ (own : Stmt → Bool) (joins : List Stmt → Stmt → Bool) (place : Place) where
  -- one more statement, which is cut into pieces if it is not own
  abbrev pub takes : Bool → Bool → Expr → List Stmt → Stmt → List Piece → Taken
  takes true alone mask run s cut = record { pieces = []; run = run ++ (s ∷ []) }
  takes false true mask run s cut = record { pieces = run_piece mask run; run = s ∷ [] }
  takes false false mask run s cut = record { pieces = run_piece mask run ++ cut; run = [] }

  -- a statement behind a run, under a mask
  abbrev pub taken : Expr → List Stmt → Stmt → Taken
  taken mask run Skip = record { pieces = []; run = run }
  taken mask run (Then a b) =
      let first : Taken = taken mask run a in
      let second : Taken = taken mask first.run b in
      record { pieces = first.pieces ++ second.pieces; run = second.run }
  taken mask run (If k c a b) =
      takes (joins run (If k c a b)) (own (If k c a b)) mask run (If k c a b)
      (all_taken (Both mask c) (taken (Both mask c) [] a) ++ all_taken (Both mask (Unary Not place c)) (taken (Both mask (Unary Not place c)) [] b))
  taken mask run s = takes (joins run s) (own s) mask run s (piece mask s)
