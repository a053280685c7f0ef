-- Inner loops that read no edge against the way of a message: each of their statements goes one way.
use Rattle.std.specs.Prelude.{◌≡◌, true}
use Rattle.gm_ast.specs.Program.{Program}
use Rattle.gm_forms.specs.Ready.{Ready2}
use Rattle.gm_cut.specs.Lean.{has_statements_that_go}
use Rattle.gm_cut.specs.Parts.{goes_any_way, in_pieces, IsPartedBy}
use Rattle.gm_parting.specs.Apart.{with_statements_apart}
use Rattle.gm_one_way.specs.Along.{ReadsAlong, has_statements_alone}

-- each statement of a parted program goes one way where each stands alone, and none reads an edge against its way
abbrev pub StatementsGo : Type 0
StatementsGo = (p : Program) → IsPartedBy goes_any_way p → ReadsAlong p → has_statements_alone p ≡ true → has_statements_that_go p ≡ true

-- statements that are made to stand alone read no edge against their way that did not before, and so each goes one way
abbrev pub ApartKeepsAlong : Type 0
ApartKeepsAlong = (p : Program) → IsPartedBy goes_any_way p → ReadsAlong p → ReadsAlong (with_statements_apart p)

abbrev pub ApartGo : Type 0
ApartGo = (p : Program) → IsPartedBy goes_any_way p → ReadsAlong p → has_statements_that_go (with_statements_apart p) ≡ true

-- bodies that go to pieces keep it
abbrev pub PiecesKeepAlong : Type 0
PiecesKeepAlong = (p : Program) → Ready2 p → ReadsAlong p → ReadsAlong (in_pieces p)
