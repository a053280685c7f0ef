-- Types layer by layer.
use Rattle.std.proofs.Common.{◌≡◌, ◌<◌, ◌≤◌, ℕ, ◌+◌, false, List, [], ◌∷◌, ◌++◌, ap, sym, refl, ◌∙◌, take, length, get_or, option_map, Option, arith}
use Rattle.std.specs.Prelude.{fold}
use Rattle.std.proofs.lemmas.List.{length-take-le}
use Rattle.std.proofs.lemmas.List.Sums.{fold_more}
use Rattle.gm_base.specs.declared.places.Place.{Place}
use Rattle.gm_ast.specs.declared.kinds.Role.{Role}
use Rattle.gm_ast.specs.declared.kinds.Role.TheVariants.{Inside}
use Rattle.gm_ast.specs.declared.surface.Bearer.{Bearer}
use Rattle.gm_ast.specs.declared.surface.PropertyLayer.{PropertyLayer}
use Rattle.gm_ast.specs.declared.surface.SpelledType.{SpelledType}
use Rattle.gm_ast.specs.Names.{Env}
use Rattle.gm_ast.specs.Surface.{SurfaceName, SurfaceType, Plain, Property}
use Rattle.gm_ast.specs.SurfaceTree.{name_of, layer_over}
use Rattle.gm_ast.specs.Statements.{vtype_of, is_edge_type, holds_node, type_broken}
use Rattle.gm_types.specs.Notes.{type_upto, layer_broken}

-- the type of the values is that of the innermost word
pub vtype-within : (t : SurfaceType) (ls : List PropertyLayer) → vtype_of (fold layer_over t ls) ≡ vtype_of t
vtype-within t [] = refl
vtype-within t (l ∷ ls) = vtype-within (layer_over t l) ls

-- a property is no edge
pub no-edge-within : (at : Place) (b : Bearer) (inner : SurfaceType) (g : Option SurfaceName) (ls : List PropertyLayer) → is_edge_type (fold layer_over (Property at b inner g) ls) ≡ false
no-edge-within at b inner g [] = refl
no-edge-within at b inner g (l ∷ ls) = no-edge-within _ _ _ _ ls

-- one layer more
pub upto-next : (t : SpelledType) (n : ℕ) (layer : PropertyLayer) → n < length t.layers.items → layer ≡ get_or t.layers.items n layer → type_upto t (n + 1) ≡ layer_over (type_upto t n) layer
upto-next t n layer lt is = fold_more layer_over (Plain t.place t.word (option_map name_of t.graph)) t.layers.items n layer lt ∙ ap (layer_over (type_upto t n)) (sym is)

-- a type with layers is that of no edge
pub no-edge-layered : (t : SurfaceType) (ls : List PropertyLayer) → 0 < length ls → is_edge_type (fold layer_over t ls) ≡ false
no-edge-layered t [] h = absurd (omega arith)
no-edge-layered t (l ∷ ls) h = no-edge-within l.place l.bearer t (option_map name_of l.graph) ls

-- a property is not Node
pub no-node-within : (at : Place) (b : Bearer) (inner : SurfaceType) (g : Option SurfaceName) (ls : List PropertyLayer) → holds_node (fold layer_over (Property at b inner g) ls) ≡ false
no-node-within at b inner g [] = refl
no-node-within at b inner g (l ∷ ls) = no-node-within _ _ _ _ ls

-- nor is a type with layers
pub no-node-layered : (t : SurfaceType) (ls : List PropertyLayer) → 0 < length ls → holds_node (fold layer_over t ls) ≡ false
no-node-layered t [] h = absurd (omega arith)
no-node-layered t (l ∷ ls) h = no-node-within l.place l.bearer t (option_map name_of l.graph) ls

-- nor one within some of its layers
pub no-node-upto : (t : SpelledType) (n : ℕ) → 0 < n → n ≤ length t.layers.items → holds_node (type_upto t n) ≡ false
no-node-upto t n pos h = no-node-layered (Plain t.place t.word (option_map name_of t.graph)) (take n t.layers.items) (omega (arith, length-take-le n t.layers.items h))

-- what the outermost of some layers breaks, and what those within it break
pub broken-next : (t : SpelledType) (left n : ℕ) (layer : PropertyLayer) (role : Role) (env : Env) → n + 1 ≡ left → n < length t.layers.items → layer ≡ get_or t.layers.items n layer
    → type_broken (type_upto t left) role env ≡ layer_broken layer role (holds_node (type_upto t n)) env ++ type_broken (type_upto t n) Inside env
broken-next t left n layer role env e lt is = ap (λ (k : ℕ). type_broken (type_upto t k) role env) (sym e) ∙ ap (λ u. type_broken u role env) (upto-next t n layer lt is)
