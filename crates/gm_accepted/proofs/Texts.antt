-- A program that a text stands for, as the laws of texts and of canonical programs speak of it.
use Rattle.std.proofs.Common.{ℕ, List}
use Rattle.gm_ast.specs.Canonical.{IsCanonical}
use Rattle.gm_ast.specs.Procedures.{IsTyped}
use Rattle.gm_ast.specs.Program.{Program}
use Rattle.gm_canon.specs.Verdict.{StandsFor}
use Rattle.gm_depth.specs.Laws.{IsAcceptedTree}
use Rattle.gm_order.specs.Laws.{HasProgram}

pub program-of : (text : List ℕ) (p : Program) → StandsFor text p → HasProgram text p
program-of text p s = record {
  tree = s.tree;
  spelled = record { listing = s.spelled.listing; scanned = s.spelled.scanned; spelled = s.spelled.spelled };
  clean = s.stands.typed.clean;
  is = s.stands.typed.is;
}

pub tree-of : (text : List ℕ) (p : Program) (s : StandsFor text p) → IsAcceptedTree s.spelled.listing s.tree
tree-of text p s = record { accepted = s.spelled.accepted; spelled = s.spelled.spelled }

pub typed-of : (text : List ℕ) (p : Program) → StandsFor text p → IsTyped p
typed-of text p s = record { source = s.tree; clean = s.stands.typed.clean; is = s.stands.typed.is }

pub canonical-of : (text : List ℕ) (p : Program) → StandsFor text p → IsCanonical p
canonical-of text p s = record {
  typed = typed-of text p s;
  race_free = s.stands.race_free;
  canonical = s.stands.canonical;
}
