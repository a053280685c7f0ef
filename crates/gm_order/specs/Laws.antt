-- What holds of the program of a text.
use Rattle.std.specs.Prelude.{◌≡◌, ℕ, true, List, [], Some}
use Rattle.gm_token.specs.Tokens.{Listing}
use Rattle.gm_token.specs.Scanning.{IsScanOf}
use Rattle.gm_parse.specs.Trees.{IsTreeOf}
use Rattle.gm_ast.specs.Surface.{SurfaceProcedure}
use Rattle.gm_ast.specs.Program.{Program}
use Rattle.gm_ast.specs.Procedures.{elaborated}
use Rattle.gm_ast.specs.Canonical.{uncanonical}
use Rattle.gm_forms.specs.Order.{is_ordered}
use Rattle.gm_forms.specs.Typing.{has_types}
use Rattle.gm_desugar.specs.Literals.{with_negative_literals}
use Rattle.gm_ready.specs.Spelled.{is_spelled}
use Rattle.gm_hoisting.specs.Throughout.{stands_throughout}
use Rattle.gm_hoisting.specs.Totals.{can_be_hoisted}
use Rattle.gm_order.specs.Places.{ascend, places_of_procedure}

-- a text is made of tokens, and this is their tree
pub record HasTree (text : List ℕ) (tree : SurfaceProcedure) : Type 0 where
  pub listing : Listing
  pub scanned : IsScanOf text listing
  pub spelled : IsTreeOf listing.tokens tree

-- the tree of a text breaks no rule of types, and this is its program
pub record HasProgram (text : List ℕ) (program : Program) : Type 0 where
  pub tree : SurfaceProcedure
  pub spelled : HasTree text tree
  pub clean : (elaborated tree).broken ≡ []
  pub is : (elaborated tree).part ≡ Some program

-- the places in the tree of a text ascend as they do in the text
abbrev pub PlacesOfTextsAscend : Type 0
PlacesOfTextsAscend = (text : List ℕ) (tree : SurfaceProcedure) → HasTree text tree → ascend (places_of_procedure tree) ≡ true

-- in the program of a text constants are in the ranges of their types, and only Min and Max have several targets
abbrev pub TextProgramsAreSpelled : Type 0
TextProgramsAreSpelled = (text : List ℕ) (p : Program) → HasProgram text p → is_spelled p ≡ true

-- the expressions of the program of a text have the types that they must have
abbrev pub TextProgramsHaveTypes : Type 0
TextProgramsHaveTypes = (text : List ℕ) (p : Program) → HasProgram text p → has_types p ≡ true

-- a canonical program of a text is ordered
abbrev pub TextProgramsAreOrdered : Type 0
TextProgramsAreOrdered = (text : List ℕ) (p : Program) → HasProgram text p → uncanonical p ≡ [] → is_ordered p ≡ true

-- where hoisting asks for it, the total of each reduction of a canonical program of a text stands in order, as one that may fault
abbrev pub TextProgramsCanBeHoisted : Type 0
TextProgramsCanBeHoisted = (text : List ℕ) (p : Program) → HasProgram text p → uncanonical p ≡ [] → can_be_hoisted p ≡ true

-- and so does that of each reduction within a group assignment or another reduction, which passes make loops of, where each minus before a literal is a constant
abbrev pub TextTotalsStand : Type 0
TextTotalsStand = (text : List ℕ) (p : Program) → HasProgram text p → uncanonical p ≡ [] → stands_throughout (with_negative_literals p) ≡ true
