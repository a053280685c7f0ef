-- What follows for the program of a text.
use Rattle.std.proofs.Common.{◌≡◌, ℕ, true, List, subst}
use Rattle.gm_ast.specs.Surface.{SurfaceProcedure}
use Rattle.gm_ast.specs.Program.{Program}
use Rattle.gm_ready.specs.Spelled.{is_spelled}
use Rattle.gm_ready.proofs.Judging.{IfPart}
use Rattle.gm_order.specs.Places.{ascend, places_of_procedure}
use Rattle.gm_order.specs.Laws.{HasTree, HasProgram}
use Rattle.gm_order.proofs.Picks.{procedure}
use Rattle.gm_order.proofs.Ascending.{picks-ascend, scanned-ascend}
use Rattle.gm_order.proofs.SpelledTrees.{scanned-small, procedure-fits}
use Rattle.gm_order.proofs.SpelledStatements.{elaborated-spelled}

pub text-ascends : (text : List ℕ) (tree : SurfaceProcedure) → HasTree text tree → ascend (places_of_procedure tree) ≡ true
text-ascends text tree s = picks-ascend (procedure s.spelled) (scanned-ascend s.scanned.1)

pub text-spelled : (text : List ℕ) (p : Program) → HasProgram text p → is_spelled p ≡ true
text-spelled text p s =
    let fit = procedure-fits s.spelled.spelled (scanned-small s.spelled.scanned.1) in
    subst (IfPart (λ q. is_spelled q ≡ true)) s.is (elaborated-spelled s.tree fit)
