-- The stop of each phase is the verdict on the text.
use Rattle.std.proofs.Common.{◌≡◌, ℕ, List, [], sym, subst}
use Rattle.std.specs.Prelude.{Result, Ok, Err, IfErr}
use Rattle.std.specs.Result.{IsErrAnd}
use Rattle.gm_base.specs.declared.rules.Stop.{Stop}
use Rattle.gm_base.specs.declared.rules.Stop.TheVariants.{Refused, NoMemory}
use Rattle.gm_token.specs.Tokens.{Listing}
use Rattle.gm_token.specs.Scanning as Scanning
use Rattle.gm_token.specs.Scanning.{IsScanOf}
use Rattle.gm_parse.specs.Refused as Parsing
use Rattle.gm_types.specs.Stops as Typing
use Rattle.gm_race.specs.Judging as Racing
use Rattle.gm_ast.specs.Surface.{SurfaceProcedure}
use Rattle.gm_ast.specs.Program.{Program}
use Rattle.gm_ast.specs.Races.{races}
use Rattle.gm_canon.specs.Stops as Forming
use Rattle.gm_canon.specs.Verdict.{Spells, TypesAs, by_tokens, by_grammar, by_tree, by_types, by_races, by_form, IsVerdictOf, IsVerdictOnTree}

-- an error that is passed on as it is
pub passed-on : {A : Type 0} (P : Stop → Type 0) (r : Result A Stop) (x : Stop) → IsErrAnd r (λ y. y ≡ x) → P x → IfErr r P
passed-on P (Ok a) x h k = tt
passed-on P (Err y) x h k = subst P (sym h) k

-- ---- a procedure

pub stop-by_types : (tree : SurfaceProcedure) (s : Stop) → Typing.IsStopOf tree s → IsVerdictOnTree tree s
stop-by_types tree (Refused r) h = by_types h
stop-by_types tree NoMemory h = tt

pub stop-by_races : (tree : SurfaceProcedure) (p : Program) → TypesAs tree p → (s : Stop) → Racing.IsStopOf p s → IsVerdictOnTree tree s
stop-by_races tree p typed (Refused r) h = by_races p typed h
stop-by_races tree p typed NoMemory h = tt

pub stop-by_form : (tree : SurfaceProcedure) (p : Program) → TypesAs tree p → races p ≡ [] → (s : Stop) → Forming.IsStopOf p s → IsVerdictOnTree tree s
stop-by_form tree p typed race_free (Refused r) h = by_form p typed race_free h
stop-by_form tree p typed race_free NoMemory h = tt

-- ---- a text

pub stop-by_tokens : (text : List ℕ) (s : Stop) → Scanning.IsStopOf text s → IsVerdictOf text s
stop-by_tokens text (Refused r) h = by_tokens h
stop-by_tokens text NoMemory h = tt

pub stop-by_grammar : (text : List ℕ) (it : Listing) → IsScanOf text it → (s : Stop) → Parsing.IsStopOf it s → IsVerdictOf text s
stop-by_grammar text it scanned (Refused r) h = by_grammar it scanned h
stop-by_grammar text it scanned NoMemory h = tt

pub stop-by_tree : (text : List ℕ) (tree : SurfaceProcedure) → Spells text tree → (s : Stop) → IsVerdictOnTree tree s → IsVerdictOf text s
stop-by_tree text tree spelled (Refused r) h = by_tree tree spelled h
stop-by_tree text tree spelled NoMemory h = tt
