-- The passes keep a program's table of declarations in order, and its names.
use Rattle.gm_ast.specs.Program.{Program}
use Rattle.gm_bfs.specs.Levelled.{levelled}
use Rattle.gm_desugaring.specs.Desugaring.{with_plain_loops}
use Rattle.gm_flip.specs.Flipped.{without_pulls}
use Rattle.gm_outward.specs.Outward.{outward}
use Rattle.gm_parting.specs.Iterators.{with_iterators_placed}
use Rattle.gm_parting.specs.Passes.{prepared, dissected}
use Rattle.gm_interface.specs.Tables.{HasTable, IteratesNoParameter}
use Rattle.gm_interface.specs.Laws.{KeepsTable, PassesKeepTables, KeepsNames, PassesKeepNames, KeepsParameters, PassesKeepParameters}
use Rattle.gm_interface.proofs.Widened.{Widens, widened-table, widened-names, widened-parameters, both-parameters, further}
use Rattle.gm_interface.proofs.Passes as Passes
use Rattle.gm_interface.proofs.Placed.{placed-table, placed-names, placed-parameters, placed-declared}

table : (pass : Program → Program) → ((p : Program) → Widens p (pass p)) → KeepsTable pass
table pass w p any h = widened-table p (pass p) (w p) h

prepared-table : (p : Program) → IteratesNoParameter p → HasTable p → HasTable (prepared p)
prepared-table p none h = widened-table (with_iterators_placed p) (prepared p) (Passes.behind-placed p) (placed-table p none h)

pub passes-keep-tables : PassesKeepTables
passes-keep-tables = record {
  groups = table _ Passes.groups;
  compounds = table _ Passes.compounds;
  literals = table _ Passes.literals;
  conditions = table _ Passes.conditions;
  reads = table _ Passes.reads;
  picks = table _ Passes.picks;
  accesses = table _ Passes.accesses;
  folds = table _ Passes.folds;
  inner_folds = table _ Passes.inner-folds;
  plain_loops = table _ Passes.plain-loops;
  searches = table _ Passes.searches;
  iterators = placed-table;
  declared = table _ Passes.declared;
  deferred = table _ Passes.deferred;
  filters = table _ Passes.filters;
  saved_conditions = table _ Passes.saved-conditions;
  conditions_apart = table _ Passes.conditions-apart;
  nodes = table _ Passes.nodes;
  groups_kept = table _ Passes.groups-kept;
  prepared = prepared-table;
  pieces = table _ Passes.pieces;
  statements = table _ Passes.statements;
  slices = table _ Passes.slices;
  dissected = λ p none h. widened-table (prepared p) (dissected p) (Passes.behind-prepared p) (prepared-table p none h);
  pulls = table _ Passes.pulls;
  asked = table _ Passes.asked;
}

names : (pass : Program → Program) → ((p : Program) → Widens p (pass p)) → KeepsNames pass
names pass w p d h = widened-names p (pass p) (w p) d h

dissected-names : KeepsNames dissected
dissected-names p d h =
    let i = with_iterators_placed p in
    widened-names i (dissected p) (further i (prepared p) (dissected p) (Passes.behind-placed p) (Passes.behind-prepared p)) (placed-declared p d) (placed-names p h)

pub passes-keep-names : PassesKeepNames
passes-keep-names = record {
  plain_loops = names with_plain_loops Passes.plain-loops;
  searches = names levelled Passes.searches;
  dissected = dissected-names;
  pulls = names without_pulls Passes.pulls;
  asked = names outward Passes.asked;
}

parameters : (pass : Program → Program) → ((p : Program) → Widens p (pass p)) → KeepsParameters pass
parameters pass w p d = widened-parameters p (pass p) (w p) d

dissected-parameters : KeepsParameters dissected
dissected-parameters p d =
    let i = with_iterators_placed p in
    let w = further i (prepared p) (dissected p) (Passes.behind-placed p) (Passes.behind-prepared p) in
    let f = placed-parameters p in
    let g = widened-parameters i (dissected p) w (placed-declared p d) in
    both-parameters p i (dissected p) f g

pub passes-keep-parameters : PassesKeepParameters
passes-keep-parameters = record {
  plain_loops = parameters with_plain_loops Passes.plain-loops;
  searches = parameters levelled Passes.searches;
  dissected = dissected-parameters;
  pulls = parameters without_pulls Passes.pulls;
  asked = parameters outward Passes.asked;
}
