-- Graphs of texts have columns.
use Rattle.gm_fitting.proofs.EdgeLists.{edge-lists}
use Rattle.gm_fitting.proofs.Matrices.{matrices}
use Rattle.gm_fitting.proofs.laws.graphs_have_columns.Goals as goal

pub returns-clause-lists : goal.returns-clause-lists
returns-clause-lists c = edge-lists

pub returns-clause-matrices : goal.returns-clause-matrices
returns-clause-matrices c = matrices
