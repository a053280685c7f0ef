-- What stays the same over an outermost loop, as the source meaning says it.
use Rattle.std.specs.Prelude.{ℕ, true, Option, None, option_map}
use Rattle.gm_model.specs.Graphs.{NumberedGraph}
use Rattle.gm_graph.specs.Walks.{edge_at}
use Rattle.gm_ast.specs.declared.tree.Key.{Key}
use Rattle.gm_ast.specs.Program as P
use Rattle.gm_ast.specs.Program.{Stmt}
use Rattle.gm_ast.specs.Tree.{expr_of, stmt_of}
use Rattle.gm_semantics.specs.Iterations as I
use Rattle.gm_semantics.specs.Iterations.{Loop}
use Rattle.gm_semantics.specs.Loops.{pushes}
use Rattle.gm_semantics.specs.Statements.{variable_at}
use Rattle.gm_loops.specs.declared.around.Around.{Around}
use Rattle.gm_loops.specs.declared.around.Body.{Body}
use Rattle.gm_loops.specs.declared.around.Body.TheVariants.{Statement, Assignment}
use Rattle.gm_loops.specs.declared.around.Ends.{Ends}
use Rattle.gm_loops.specs.declared.around.Ends.TheVariants.{AtOnce, WithInner, WithOutermost}
use Rattle.gm_loops.specs.declared.around.Mode.{Mode}
use Rattle.gm_loops.specs.declared.around.Mode.TheVariants.{Outermost, AtEdge}
use Rattle.gm_loops.specs.declared.sights.Sight.{Sight}
use Rattle.gm_loops.specs.Sights.{level_in}

-- when a reduction assignment takes effect
abbrev pub ends_as : Ends → I.Ends
ends_as AtOnce = I.AtOnce
ends_as WithInner = I.WithInner
ends_as WithOutermost = I.WithOutermost

-- the row of the edge at which a body stands, if it stands at one
abbrev pub row_of : Mode → Option ℕ
row_of Outermost = None
row_of (AtEdge row) = row

-- where a body stands
abbrev pub mode_of : NumberedGraph → Mode → I.Mode
mode_of g Outermost = I.Outermost
mode_of g (AtEdge row) = I.AtEdge (edge_at g row)

abbrev pub mode_in : Around → Mode → I.Mode
mode_in a = mode_of a.setting.now.graph.now

-- what the operators of a statement see
abbrev pub sight_of : Around → Mode → Key → Sight
sight_of a mode key = record {
  setting = a.setting;
  levels = a.levels;
  parallel = true;
  row = row_of mode;
  key = key;
}

-- the body of a loop
abbrev pub body_of : Body → Stmt
body_of (Statement s) = stmt_of s.now
body_of (Assignment key t e) = P.Assign key t (expr_of e.now)

-- what stays the same over a loop
abbrev pub loop_of : Around → Loop
loop_of a = record {
  graph = a.setting.now.graph.now;
  levels = level_in (option_map (λ l. l.now) a.levels);
  depth = λ y. (variable_at a.setting.now.declarations.now y).depth;
  vtype = λ y. (variable_at a.setting.now.declarations.now y).vtype;
  outer = a.outer;
  pushed = pushes (body_of a.body) a.outer;
}
