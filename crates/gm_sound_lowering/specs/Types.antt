-- The types of the terms of an image.
use Rattle.std.specs.Prelude.{◌≡◌, ℕ, Bool, true, false, not, ◌&&◌, ◌||◌, Option, Some, None, List, [], ◌∷◌, map, slice_get}
use Rattle.std.specs.List.{list_all, list_any}
use Rattle.gm_base.specs.declared.places.Place.{Place}
use Rattle.gm_value.specs.declared.values.VType.{VType}
use Rattle.gm_value.specs.declared.values.VType.TheVariants as V
use Rattle.gm_ast.specs.declared.tree.Domain.{Domain}
use Rattle.gm_ast.specs.declared.tree.Key.{Key}
use Rattle.gm_ast.specs.Program.{Expr, Program}
use Rattle.gm_forms.specs.Forms.{is_along, is_flat}
use Rattle.gm_forms.specs.Typing.{type_at, has_type}
use Rattle.gm_forms.specs.Uses.{Use, suits, uses_in}
use Rattle.gm_typed_stores.specs.Values.{Each}
use Rattle.gm_image.specs.Indices.{in_range, leaf_in_range}
use Rattle.gm_image.specs.Leaves.{stands_in_master, stands_at_vertex}
use Rattle.gm_image.specs.Parts.{all_leaves, all_places}
use Rattle.gm_image.specs.Program as image
use Rattle.gm_image.specs.Sorts.{sort_of}
use Rattle.gm_image.specs.declared.sorts.Sort.TheVariants.{Known}
use Rattle.gm_image.specs.Term.{Term}
use Rattle.gm_lowering.specs.Blocks.{receiver_env, direction_of}
use Rattle.gm_lowering.specs.Layouts.{layout, is_node_value, has_field}
use Rattle.gm_lowering.specs.Lowered.{lowered}
use Rattle.gm_lowering.specs.Places.{Spot, Segment, place_index, spots_in}
use Rattle.gm_lowering.specs.Plans.{Load, same_load, load_type, loads_in}
use Rattle.gm_lowering.specs.Terms.{master_env, own_env, each_env, term}
use Rattle.gm_sound_lowering.specs.Asked.{NodesAreNodes, is_plain}

-- a term has a type, in a handler of a kind or in none; its indices are in range, and its leaves stand where a test lets them
pub record IsTerm (i : image.Program) (kind : Option ℕ) (stands : Term → Bool) (t : VType) (a : Term) : Type 0 where
  pub sort : sort_of i kind a ≡ Known t
  pub leaves : all_leaves (leaf_in_range i kind) a ≡ true
  pub places : all_places (in_range i.places) a ≡ true
  pub leaf : all_leaves stands a ≡ true

-- the index of a spot's place is in range
abbrev pub PlaceIn : image.Program → (Key → Place → ℕ) → Spot → Type 0
PlaceIn i place z = in_range i.places (place z.fault.key z.fault.place) ≡ true

-- whether a variable stands in the table as it is used, with a field if it is a property of nodes
abbrev pub has_its_field : Program → Use → Bool
has_its_field p u = not (is_node_value u.role) || has_field p u.variable

abbrev pub is_placed : Program → Use → Bool
is_placed p u = suits p.declarations u && has_its_field p u

-- what is asked of an expression, whose operators have a key: it has a type, and reads through some iterators, and an edge where one is at hand; its variables stand in the table as they are used; its constants may stand in an image; and its places are in range
pub record IsAsked (p : Program) (place : Key → Place → ℕ) (its : List ℕ) (edge : Bool) (k : Key) (t : VType) (e : Expr) : Type 0 where
  pub typed : has_type p.declarations t e ≡ true
  pub flat : is_flat its edge e ≡ true
  pub named : list_all (is_placed p) (uses_in e) ≡ true
  pub plain : is_plain p.declarations e ≡ true
  pub places : Each (PlaceIn (lowered p) place) (spots_in e k)

-- what a message carries of its sender
abbrev pub IsCarried : List Load → Load → Type 0
IsCarried loads x = list_any (same_load x) loads ≡ true

-- the term of an expression of a type has the type: in the master list, at a vertex, in an each, and at the receiver of a message of a kind that carries what the expression reads of its sender
pub record TermsHaveTypes : Type 0 where
  pub master : (p : Program) (g : Segment) (k : Key) (t : VType) (e : Expr) → NodesAreNodes p.declarations → IsAsked p (place_index g) [] false k t e
      → IsTerm (lowered p) None stands_in_master t (term (master_env (layout p) g) k e)
  pub own : (p : Program) (g : Segment) (n : ℕ) (k : Key) (t : VType) (e : Expr) → NodesAreNodes p.declarations → type_at p.declarations n ≡ V.Node
      → IsAsked p (place_index g) (n ∷ []) false k t e → IsTerm (lowered p) None (stands_at_vertex None None) t (term (own_env (layout p) g n) k e)
  pub each : (p : Program) (g : Segment) (n m : ℕ) (d : Domain) (k : Key) (t : VType) (e : Expr) → NodesAreNodes p.declarations → type_at p.declarations n ≡ V.Node → type_at p.declarations m ≡ V.Node
      → IsAsked p (place_index g) (n ∷ []) (is_along d) k t e → IsTerm (lowered p) None (stands_at_vertex None (Some (direction_of d))) t (term (each_env (layout p) g n m) k e)
  pub receiver : (p : Program) (g : Segment) (n m : ℕ) (loads : List Load) (kind : ℕ) (edge : Bool) (k : Key) (t : VType) (e : Expr)
      → NodesAreNodes p.declarations → type_at p.declarations n ≡ V.Node → type_at p.declarations m ≡ V.Node
      → slice_get (lowered p).kinds kind ≡ Some (record { combiner = None; values = map (load_type p.declarations) loads })
      → IsAsked p (place_index g) (n ∷ (m ∷ [])) edge k t e → Each (IsCarried loads) (loads_in n e)
      → IsTerm (lowered p) (Some kind) (stands_at_vertex (Some kind) None) t (term (receiver_env (layout p) g n m loads) k e)
