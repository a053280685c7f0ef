-- The assignments of copies, from a table of marks and from what is marked in its order.
use Rattle.std.proofs.Common.{◌≡◌, ℕ, suc, Bool, true, false, List, [], ◌∷◌, map, refl, ap}
use Rattle.gm_ast.specs.Program.{Stmt}
use Rattle.gm_bfs.specs.declared.fresh.Fresh.{Fresh}
use Rattle.gm_bfs.specs.declared.fresh.Site.{Site}
use Rattle.gm_bfs.specs.Marked.{marked_from}
use Rattle.gm_bfs.specs.Searches.{copies_from, copy_property}

pub copies-marked : (s : Site) (f : Fresh) (p : ℕ) (marks : List Bool) → map (copy_property s f) (marked_from p marks) ≡ copies_from s f p marks
copies-marked s f p [] = refl
copies-marked s f p (true ∷ marks) = ap (λ (rest : List Stmt). copy_property s f p ∷ rest) (copies-marked s f (suc p) marks)
copies-marked s f p (false ∷ marks) = copies-marked s f (suc p) marks
