use Rattle.std.proofs.Common.{◌≡◌, drop, map}
use Rattle.std.specs.List.{list_all}
use Rattle.gm_ast.specs.Tree.{expr_of}
use Rattle.gm_plain_loops.specs.Tests.{asks_around}
use Rattle.gm_suits.proofs.names.all_ask_around.Given as goal

-- the values that are left give the answer
abbrev pub invariant-loop-value : goal.invariant-loop-value
invariant-loop-value l = list_all (asks_around l.declarations l.iterators) (map expr_of (drop l.value-index l.values)) ≡ list_all (asks_around l.declarations l.iterators) (map expr_of l.values)
