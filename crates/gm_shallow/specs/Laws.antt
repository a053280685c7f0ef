-- How many levels the passes add to the expressions of a program, and how many Ifs within one another.
use Rattle.std.specs.Prelude.{◌≡◌, ◌≤◌, ◌+◌, ℕ, suc, max, true, Some}
use Rattle.gm_token.specs.Tokens.{Listing}
use Rattle.gm_ast.specs.Surface.{SurfaceProcedure}
use Rattle.gm_ast.specs.Program.{Program}
use Rattle.gm_ast.specs.Procedures.{elaborated}
use Rattle.gm_depth.specs.Depths.{all_within, is_shallow}
use Rattle.gm_depth.specs.Laws.{IsAcceptedTree}
use Rattle.gm_depth.specs.Nesting.{nesting}
use Rattle.gm_desugar.specs.Compounds.{without_compounds}
use Rattle.gm_desugar.specs.Conditions.{with_conditions}
use Rattle.gm_desugar.specs.Groups.{without_groups}
use Rattle.gm_desugar.specs.Literals.{with_negative_literals}
use Rattle.gm_desugar.specs.Reads.{with_reads_apart}
use Rattle.gm_reductions.specs.Accesses.{without_accesses}
use Rattle.gm_reductions.specs.Folds.{without_folds}
use Rattle.gm_picks.specs.Picks.{with_plain_picks}
use Rattle.gm_hoisting.specs.Hoisting.{without_inner_folds}
use Rattle.gm_desugaring.specs.Desugaring.{with_plain_loops}
use Rattle.gm_bfs.specs.Levelled.{levelled}
use Rattle.gm_dissect.specs.AllDeferred.{without_deferred}
use Rattle.gm_dissect.specs.Conditions.{with_saved_conditions}
use Rattle.gm_dissect.specs.Locals.{with_kept_locals}
use Rattle.gm_cut.specs.Lean.{in_lean_slices}
use Rattle.gm_cut.specs.Parts.{in_pieces}
use Rattle.gm_flip.specs.Flipped.{without_pulls}
use Rattle.gm_locals.specs.AllGroups.{with_groups_kept}
use Rattle.gm_parting.specs.Apart.{with_statements_apart}
use Rattle.gm_parting.specs.Declared.{with_locals_declared}
use Rattle.gm_parting.specs.Filters.{with_saved_filters}
use Rattle.gm_parting.specs.Iterators.{with_iterators_placed}
use Rattle.gm_parting.specs.Nodes.{with_nodes_read}
use Rattle.gm_parting.specs.Numbers.{with_conditions_apart}
use Rattle.gm_parting.specs.Passes.{dissected, prepared}

-- Under a limit of at least so many levels, as many as the expressions have that a pass makes anew: where no expression of a program has more levels than the limit, none has more after the pass
abbrev pub KeepsLevels : ℕ → (Program → Program) → Type 0
KeepsLevels least pass = (limit : ℕ) (p : Program) → least ≤ limit → all_within limit p.body ≡ true → all_within limit (pass p).body ≡ true

-- or none has more than one more
abbrev pub AddsLevel : ℕ → (Program → Program) → Type 0
AddsLevel least pass = (limit : ℕ) (p : Program) → least ≤ limit → all_within limit p.body ≡ true → all_within (suc limit) (pass p).body ≡ true

-- or than two more
abbrev pub AddsTwoLevels : ℕ → (Program → Program) → Type 0
AddsTwoLevels least pass = (limit : ℕ) (p : Program) → least ≤ limit → all_within limit p.body ≡ true → all_within (suc (suc limit)) (pass p).body ≡ true

-- the passes in their order, those up to plain loops together, and these with the one of searches
pub record PassesAddFewLevels : Type 0 where
  pub groups : KeepsLevels 1 without_groups
  pub compounds : AddsLevel 1 without_compounds
  pub literals : KeepsLevels 1 with_negative_literals
  pub conditions : KeepsLevels 1 with_conditions
  pub reads : KeepsLevels 1 with_reads_apart
  pub picks : KeepsLevels 1 with_plain_picks
  pub accesses : KeepsLevels 3 without_accesses
  pub folds : KeepsLevels 1 without_folds
  pub inner_folds : KeepsLevels 1 without_inner_folds
  pub plain_loops : AddsLevel 2 with_plain_loops
  pub searches : AddsLevel 2 levelled
  pub together : AddsTwoLevels 2 (λ p. levelled (with_plain_loops p))

-- the program of an accepted text stays within the 512 levels of images through these passes
abbrev pub TextsStayShallow : Type 0
TextsStayShallow =
    (it : Listing) (tree : SurfaceProcedure) (p : Program) → IsAcceptedTree it tree → (elaborated tree).part ≡ Some p
    → (is_shallow (with_plain_loops p) ≡ true) × (is_shallow (levelled (with_plain_loops p)) ≡ true)

-- ---- the passes that cut loops

-- Where besides no more than so many Ifs stand within one another in a parallel body: none has more after the pass than the limit and one level, and one for each of these Ifs
abbrev pub AddsLevelForEachIf : (Program → Program) → Type 0
AddsLevelForEachIf pass = (limit ifs : ℕ) (p : Program) → nesting p.body ≤ ifs → all_within limit p.body ≡ true → all_within (suc (limit + ifs)) (pass p).body ≡ true

-- the passes that make loops that are cut. Those of pieces have the conditions of the Ifs around a piece in its mask, as Not a condition on its other side
pub record CuttingAddsFewLevels : Type 0 where
  pub deferred : KeepsLevels 1 without_deferred
  pub saved_conditions : KeepsLevels 1 with_saved_conditions
  pub kept_locals : KeepsLevels 1 with_kept_locals
  pub pieces : AddsLevelForEachIf in_pieces
  pub slices : KeepsLevels 0 in_lean_slices
  pub pulls : AddsLevel 0 without_pulls

-- those that prepare a program for pieces, and those behind
pub record DissectingAddsFewLevels : Type 0 where
  pub iterators : KeepsLevels 0 with_iterators_placed
  pub declared : KeepsLevels 1 with_locals_declared
  pub filters : KeepsLevels 1 with_saved_filters
  pub conditions : KeepsLevels 1 with_conditions_apart
  pub nodes : KeepsLevels 1 with_nodes_read
  pub groups : KeepsLevels 1 with_groups_kept
  pub together : KeepsLevels 1 prepared
  pub statements : KeepsLevels 2 with_statements_apart

-- ---- Ifs within one another

-- a pass leaves no more Ifs within one another in the parallel bodies of a program
abbrev pub KeepsNesting : (Program → Program) → Type 0
KeepsNesting pass = (p : Program) → nesting (pass p).body ≤ nesting p.body

-- or none or one, that of a count
abbrev pub NestsOne : (Program → Program) → Type 0
NestsOne pass = (p : Program) → nesting (pass p).body ≤ max 1 (nesting p.body)

-- or one more, that of a filter
abbrev pub NestsOneMore : (Program → Program) → Type 0
NestsOneMore pass = (p : Program) → nesting (pass p).body ≤ suc (nesting p.body)

-- the passes in their order, and those up to loops over levels together
pub record PassesNestLittle : Type 0 where
  pub groups : KeepsNesting without_groups
  pub compounds : KeepsNesting without_compounds
  pub literals : KeepsNesting with_negative_literals
  pub conditions : KeepsNesting with_conditions
  pub reads : KeepsNesting with_reads_apart
  pub picks : KeepsNesting with_plain_picks
  pub accesses : KeepsNesting without_accesses
  pub folds : NestsOne without_folds
  pub inner_folds : NestsOneMore without_inner_folds
  pub searches : KeepsNesting levelled
  pub together : (p : Program) → nesting (levelled (with_plain_loops p)).body ≤ suc (max 1 (nesting p.body))
  pub deferred : KeepsNesting without_deferred
  pub saved_conditions : KeepsNesting with_saved_conditions
  pub kept_locals : KeepsNesting with_kept_locals

-- ---- programs of texts

-- a program that is ready to be cut, and then cut in pieces
abbrev pub ready_to_cut : Program → Program
ready_to_cut p = with_kept_locals (with_saved_conditions (without_deferred (levelled (with_plain_loops p))))

-- the program of an accepted text stays within the 512 levels of images through all these passes, to its pieces, their slices, and no loops that pull
abbrev pub TextsStayShallowInPieces : Type 0
TextsStayShallowInPieces =
    (it : Listing) (tree : SurfaceProcedure) (p : Program) → IsAcceptedTree it tree → (elaborated tree).part ≡ Some p →
    let pieces = in_pieces (ready_to_cut p) in
    (is_shallow (ready_to_cut p) ≡ true) × ((is_shallow pieces ≡ true) × ((is_shallow (in_lean_slices pieces) ≡ true) × (is_shallow (without_pulls (in_lean_slices pieces)) ≡ true)))

-- it leaves one more, that of a node that is read first
abbrev pub PreparedNestsOneMore : Type 0
PreparedNestsOneMore = NestsOneMore prepared

-- and the program of an accepted text stays within these levels when it is dissected, and when besides no loop pulls
abbrev pub TextsStayShallowDissected : Type 0
TextsStayShallowDissected =
    (it : Listing) (tree : SurfaceProcedure) (p : Program) → IsAcceptedTree it tree → (elaborated tree).part ≡ Some p →
    let q = levelled (with_plain_loops p) in
    (is_shallow (prepared q) ≡ true) × ((is_shallow (dissected q) ≡ true) × (is_shallow (without_pulls (dissected q)) ≡ true))
