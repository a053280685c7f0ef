-- Declarations without values.
use Rattle.std.proofs.Common.{◌≡◌, ℕ, ◌+◌, List, [], ◌∷◌, ◌++◌, map, drop, ap, sym, refl, ◌∙◌, append_assoc, Option}
use Rattle.std.specs.Prelude.{Some, None, option_map}
use Rattle.std.specs.Global.{Vec}
use Rattle.gm_types.proofs.CoreTrees.{stmt_of-Block}
use Rattle.std.proofs.lemmas.List.{map-append}
use Rattle.std.specs.Prelude.{Box, box_value}
use Rattle.std.specs.declared.alloc.Global.{Global}
use Rattle.gm_base.specs.declared.places.Place.{Place}
use Rattle.gm_ast.specs.declared.surface.SpelledExpr.{SpelledExpr}
use Rattle.gm_ast.specs.declared.surface.SpelledStmt as Written
use Rattle.gm_ast.specs.declared.surface.SpelledStmt.{SpelledStmt}
use Rattle.gm_ast.specs.Surface.{If}
use Rattle.gm_ast.specs.SurfaceTree as Spelled
use Rattle.gm_ast.proofs.SurfaceTrees.{stmt_of-If}
use Rattle.gm_types.specs.Shapes.{branch_in}
use Rattle.gm_ast.specs.declared.tree.Key.{Key}
use Rattle.gm_ast.specs.declared.tree.Stmt as Tree
use Rattle.gm_ast.specs.Program as P
use Rattle.gm_ast.specs.Program.{Stmt}
use Rattle.gm_ast.specs.Statements.{plain_declarations}
use Rattle.gm_ast.specs.Tree.{stmt_of}

-- a declaration without a value
abbrev pub declared_plain : Key → ℕ → Stmt
declared_plain k n = P.Declare k n None

-- declarations one after another
pub plain-sequence : (k : Key) (ns : List ℕ) → plain_declarations k ns ≡ P.sequence (map (declared_plain k) ns)
plain-sequence k [] = refl
plain-sequence k (n ∷ ns) = ap (P.Then (P.Declare k n None)) (plain-sequence k ns)

-- one declaration more
pub plain-next : (ss : List Tree.Stmt) (k : Key) (ns : List ℕ) (i n : ℕ) (s : Tree.Stmt) → stmt_of s ≡ declared_plain k n → drop i ns ≡ n ∷ drop (i + 1) ns
    → map stmt_of ss ++ map (declared_plain k) (drop i ns) ≡ map (declared_plain k) ns
    → map stmt_of (ss ++ (s ∷ [])) ++ map (declared_plain k) (drop (i + 1) ns) ≡ map (declared_plain k) ns
plain-next ss k ns i n s is rest h =
    ap (λ xs. xs ++ map (declared_plain k) (drop (i + 1) ns)) (map-append stmt_of ss (s ∷ [])) ∙ append_assoc (map stmt_of ss) (stmt_of s ∷ []) (map (declared_plain k) (drop (i + 1) ns))
    ∙ ap (λ t. map stmt_of ss ++ (t ∷ map (declared_plain k) (drop (i + 1) ns))) is ∙ ap (λ xs. map stmt_of ss ++ map (declared_plain k) xs) (sym rest) ∙ h

-- the sequence of statements that are held
pub sequence-held : (o : Option (Vec Tree.Stmt)) → option_map (λ v. P.sequence (map stmt_of v.items)) o ≡ option_map P.sequence (option_map (λ v. map stmt_of v.items) o)
sequence-held None = refl
sequence-held (Some v) = refl

-- a block of no statements
pub empty-block : (v : Vec Tree.Stmt) → v.items ≡ [] → stmt_of (Tree.TheViews.Block v) ≡ P.Skip
empty-block v h = stmt_of-Block v ∙ ap (λ ss. P.sequence (map stmt_of ss)) h

-- the syntax of a choice between statements
pub if_tree : (at : Place) (c : SpelledExpr) (s : Box SpelledStmt Global) (other : Option (Box SpelledStmt Global))
    → Spelled.stmt_of (Written.If at c s other) ≡ If at (Spelled.expr_of c) (Spelled.stmt_of (box_value s)) (branch_in other)
if_tree at c s None = stmt_of-If at c s None
if_tree at c s (Some o) = stmt_of-If at c s (Some o)
