-- What the passes keep of a program's table of declarations.
use Rattle.std.specs.Prelude.{◌≡◌, ◌≤◌, ◌+◌, ℕ, List, Some, length}
use Rattle.gm_token.specs.Scanning.{IsScanOf}
use Rattle.gm_token.specs.Tokens.{Listing}
use Rattle.gm_parse.specs.Trees.{IsTreeOf}
use Rattle.gm_ast.specs.Procedures.{IsTyped, elaborated}
use Rattle.gm_ast.specs.Program.{Program}
use Rattle.gm_ast.specs.Surface.{SurfaceProcedure}
use Rattle.gm_desugar.specs.Compounds.{without_compounds}
use Rattle.gm_desugar.specs.Conditions.{with_conditions}
use Rattle.gm_desugar.specs.Groups.{without_groups}
use Rattle.gm_desugar.specs.Literals.{with_negative_literals}
use Rattle.gm_desugar.specs.Reads.{with_reads_apart}
use Rattle.gm_reductions.specs.Accesses.{without_accesses}
use Rattle.gm_reductions.specs.Folds.{without_folds}
use Rattle.gm_picks.specs.Picks.{with_plain_picks}
use Rattle.gm_hoisting.specs.Hoisting.{without_inner_folds}
use Rattle.gm_desugaring.specs.Desugaring.{with_plain_loops}
use Rattle.gm_bfs.specs.Levelled.{levelled}
use Rattle.gm_dissect.specs.AllDeferred.{without_deferred}
use Rattle.gm_dissect.specs.Conditions.{with_saved_conditions}
use Rattle.gm_cut.specs.Lean.{in_lean_slices}
use Rattle.gm_cut.specs.Parts.{in_pieces}
use Rattle.gm_flip.specs.Flipped.{without_pulls}
use Rattle.gm_outward.specs.Outward.{outward}
use Rattle.gm_locals.specs.AllGroups.{with_groups_kept}
use Rattle.gm_parting.specs.Apart.{with_statements_apart}
use Rattle.gm_parting.specs.Declared.{with_locals_declared}
use Rattle.gm_parting.specs.Filters.{with_saved_filters}
use Rattle.gm_parting.specs.Iterators.{with_iterators_placed}
use Rattle.gm_parting.specs.Nodes.{with_nodes_read}
use Rattle.gm_parting.specs.Numbers.{with_conditions_apart}
use Rattle.gm_parting.specs.Passes.{prepared, dissected}
use Rattle.gm_sound_lowering.specs.Asked.{HasNames}
use Rattle.gm_interface.specs.Tables.{HasTable, HasNamesApart, IsNamedText, IteratesNoParameter, HasParametersOf}

-- the table of a program that breaks no rule of types is in order
abbrev pub TypedHasTable : Type 0
TypedHasTable = (p : Program) → IsTyped p → HasTable p

-- and so are the names of its inputs and outputs
abbrev pub TypedHasNamesApart : Type 0
TypedHasNamesApart = (p : Program) → IsTyped p → HasNamesApart p

-- a procedure that a text spells, its inputs and its outputs have names
abbrev pub TextsAreNamed : Type 0
TextsAreNamed = (text : List ℕ) (it : Listing) (tree : SurfaceProcedure) (p : Program) → IsScanOf text it → IsTreeOf it.tokens tree → (elaborated tree).part ≡ Some p → IsNamedText p

-- a pass keeps something of programs, where something else is asked of them
abbrev pub Keeps : (Program → Type 0) → (Program → Type 0) → (Program → Program) → Type 0
Keeps Asked Has pass = (p : Program) → Asked p → Has p → Has (pass p)

-- nothing is asked
abbrev pub Any : Program → Type 0
Any p = Unit {0}

abbrev pub KeepsTable : (Program → Program) → Type 0
KeepsTable pass = Keeps Any HasTable pass

-- the passes in their order, those up to plain loops together, and those that dissect
pub record PassesKeepTables : Type 0 where
  pub groups : KeepsTable without_groups
  pub compounds : KeepsTable without_compounds
  pub literals : KeepsTable with_negative_literals
  pub conditions : KeepsTable with_conditions
  pub reads : KeepsTable with_reads_apart
  pub picks : KeepsTable with_plain_picks
  pub accesses : KeepsTable without_accesses
  pub folds : KeepsTable without_folds
  pub inner_folds : KeepsTable without_inner_folds
  pub plain_loops : KeepsTable with_plain_loops
  pub searches : KeepsTable levelled
  pub iterators : Keeps IteratesNoParameter HasTable with_iterators_placed
  pub declared : KeepsTable with_locals_declared
  pub deferred : KeepsTable without_deferred
  pub filters : KeepsTable with_saved_filters
  pub saved_conditions : KeepsTable with_saved_conditions
  pub conditions_apart : KeepsTable with_conditions_apart
  pub nodes : KeepsTable with_nodes_read
  pub groups_kept : KeepsTable with_groups_kept
  pub prepared : Keeps IteratesNoParameter HasTable prepared
  pub pieces : KeepsTable in_pieces
  pub statements : KeepsTable with_statements_apart
  pub slices : KeepsTable in_lean_slices
  pub dissected : Keeps IteratesNoParameter HasTable dissected
  pub pulls : KeepsTable without_pulls
  pub asked : KeepsTable outward

-- a pass keeps the names of a program whose inputs and outputs are declared
abbrev pub KeepsNames : (Program → Program) → Type 0
KeepsNames pass = Keeps (λ p. p.inputs + p.outputs ≤ length p.declarations) HasNames pass

pub record PassesKeepNames : Type 0 where
  pub plain_loops : KeepsNames with_plain_loops
  pub searches : KeepsNames levelled
  pub dissected : KeepsNames dissected
  pub pulls : KeepsNames without_pulls
  pub asked : KeepsNames outward

-- a pass keeps the name, the result, and the inputs and outputs of a program that declares these
abbrev pub KeepsParameters : (Program → Program) → Type 0
KeepsParameters pass = (p : Program) → p.inputs + p.outputs ≤ length p.declarations → HasParametersOf p (pass p)

pub record PassesKeepParameters : Type 0 where
  pub plain_loops : KeepsParameters with_plain_loops
  pub searches : KeepsParameters levelled
  pub dissected : KeepsParameters dissected
  pub pulls : KeepsParameters without_pulls
  pub asked : KeepsParameters outward
