use Rattle.std.proofs.Common.{◌≡◌, refl, sym, ◌∙◌, false}
use Rattle.gm_ast.specs.Program.{Program}
use Rattle.gm_ast.specs.Tree.{program_of}
use Rattle.gm_bfs.specs.Levelled.{has_search, levelled}
use Rattle.gm_bfs.proofs.InPlaceTrees.{on-ok}
use Rattle.gm_bfs.proofs.levelled.without_searches.Goals as goal

-- a program without searches stays as it is
no-search : (p : Program) → has_search p.body ≡ false → p ≡ levelled p
no-search p h = rw h refl

pub returns-then-has_search : goal.returns-then-has_search
returns-then-has_search c = on-ok c.searches_into_loops.result c.searches_into_loops.ensures (λ made. made (sym c.has_search.ensures ∙ c.if-has_search.true))

pub returns-else-has_search : goal.returns-else-has_search
returns-else-has_search c = no-search (program_of c.args.tree.now) (sym c.has_search.ensures ∙ c.if-has_search.false)
