-- Whether statements give to others once and do nothing behind it, in one pass.
use Rattle.std.specs.Prelude.{ℕ, Bool, ◌&&◌, if◌then◌else◌, List, [], ◌∷◌}
use Rattle.gm_ast.specs.declared.tree.Declaration.{Declaration}
use Rattle.gm_ast.specs.Program.{Stmt}
use Rattle.gm_lowering.specs.Plans.{is_nothing, gives_nothing, gives_last}

-- the answer for statements behind others: of those, whether they end with what is given, and whether they give nothing
abbrev pub continued : List Declaration → ℕ → Bool → Bool → List Stmt → Bool
continued ds i last quiet [] = last
continued ds i last quiet (s ∷ ss) =
    if is_nothing s then continued ds i last quiet ss else continued ds i (quiet && gives_last ds i s) (quiet && gives_nothing ds s) ss
