-- What a text stands for, and the rule that it breaks in the first phase that finds one broken. The phases in their
-- order: tokens, grammar, types, races, canonical form.
use Rattle.std.specs.Prelude.{◌≡◌, ℕ, List, [], Some}
use Rattle.gm_base.specs.declared.rules.Refusal.{Refusal}
use Rattle.gm_base.specs.declared.rules.Stop.{Stop}
use Rattle.gm_base.specs.declared.rules.Stop.TheVariants.{Refused, NoMemory}
use Rattle.gm_base.specs.Rules.{least}
use Rattle.gm_token.specs.Tokens.{Listing}
use Rattle.gm_token.specs.Scanning.{IsScanOf, IsRefusalOf}
use Rattle.gm_parse.specs.Refused.{IsAccepted, IsRefusal}
use Rattle.gm_parse.specs.Trees.{IsTreeOf}
use Rattle.gm_ast.specs.Surface.{SurfaceProcedure}
use Rattle.gm_ast.specs.Program.{Program}
use Rattle.gm_ast.specs.Procedures.{elaborated}
use Rattle.gm_ast.specs.Races.{races}
use Rattle.gm_ast.specs.Canonical.{uncanonical}

-- ---- a procedure as it is spelled

-- a procedure breaks no rule of types, and this is its program
pub record TypesAs (tree : SurfaceProcedure) (program : Program) : Type 0 where
  pub clean : (elaborated tree).broken ≡ []
  pub is : (elaborated tree).part ≡ Some program

-- a procedure stands for a program that has no races and is canonical
pub record TreeStandsFor (tree : SurfaceProcedure) (program : Program) : Type 0 where
  pub typed : TypesAs tree program
  pub race_free : races program ≡ []
  pub canonical : uncanonical program ≡ []

-- a procedure breaks a rule: one of types; or its program has races; or its program has no races and is not canonical
pub data TreeBreaks (tree : SurfaceProcedure) : Refusal → Type 0 where
  by_types : {r : Refusal} → least (elaborated tree).broken ≡ Some r → TreeBreaks tree r
  by_races : {r : Refusal} (program : Program) → TypesAs tree program → least (races program) ≡ Some r → TreeBreaks tree r
  by_form : {r : Refusal} (program : Program) → TypesAs tree program → races program ≡ [] → least (uncanonical program) ≡ Some r → TreeBreaks tree r

-- why a procedure stands for no program: it breaks a rule; want of memory may come of any procedure
abbrev pub IsVerdictOnTree : SurfaceProcedure → Stop → Type 0
IsVerdictOnTree tree (Refused r) = TreeBreaks tree r
IsVerdictOnTree tree NoMemory = Unit {0}

-- ---- a text

-- a text spells a procedure: it is made of tokens, and the grammar and its limits accept these
pub record Spells (text : List ℕ) (tree : SurfaceProcedure) : Type 0 where
  pub listing : Listing
  pub scanned : IsScanOf text listing
  pub accepted : IsAccepted listing
  pub spelled : IsTreeOf listing.tokens tree

-- a text stands for a program: it spells a procedure that does
pub record StandsFor (text : List ℕ) (program : Program) : Type 0 where
  pub tree : SurfaceProcedure
  pub spelled : Spells text tree
  pub stands : TreeStandsFor tree program

-- a text breaks a rule: it is not made of tokens; or its tokens are refused; or it spells a procedure that breaks one
pub data Breaks (text : List ℕ) : Refusal → Type 0 where
  by_tokens : {r : Refusal} → IsRefusalOf text r → Breaks text r
  by_grammar : {r : Refusal} (it : Listing) → IsScanOf text it → IsRefusal it r → Breaks text r
  by_tree : {r : Refusal} (tree : SurfaceProcedure) → Spells text tree → TreeBreaks tree r → Breaks text r

-- why a text stands for no program: it breaks a rule; want of memory may come of any text
abbrev pub IsVerdictOf : List ℕ → Stop → Type 0
IsVerdictOf text (Refused r) = Breaks text r
IsVerdictOf text NoMemory = Unit {0}
