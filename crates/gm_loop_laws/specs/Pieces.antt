-- The law of a loop's body that is cut into a list of pieces.
use Rattle.std.specs.Prelude.{◌≡◌, ◌≤◌, ℕ, Bool, true, false, ◌&&◌, ◌||◌, if◌then◌else◌, List, [], ◌∷◌, ◌++◌, map}
use Rattle.gm_base.specs.declared.places.Place.{Place}
use Rattle.gm_value.specs.declared.operations.Op1.TheVariants.{Not}
use Rattle.gm_model.specs.Graphs.{IsGraph}
use Rattle.gm_ast.specs.declared.tree.Declaration.{Declaration}
use Rattle.gm_ast.specs.declared.tree.Key.{Key}
use Rattle.gm_ast.specs.declared.tree.Head.{Head}
use Rattle.gm_ast.specs.Program.{Expr, Unary, Both, Stmt, Skip, Then, Foreach, If, sequence}
use Rattle.gm_semantics.specs.Statements.{Run, State, sequential}
use Rattle.gm_semantics.specs.Frames.{ReadsBelow, NamesBelow, AlikeStates, AlikeCourses}
use Rattle.gm_forms.specs.Forms.{is_outer_body}
use Rattle.gm_forms.specs.Fission.{pushed_properties, can_cut}
use Rattle.gm_loop_laws.specs.Alone.{stands_alone}
use Rattle.gm_loop_laws.specs.Masks.{is_certain, is_stable}

-- whether a body has no inner loop
abbrev pub no_inner : Stmt → Bool
no_inner (Then a b) = no_inner a && no_inner b
no_inner (Foreach k at h test body) = false
no_inner (If k c a b) = no_inner a && no_inner b
no_inner _ = true

-- whether a part of a body is one inner loop that stands alone, also by what it pushes itself
abbrev pub is_lone : List Declaration → List ℕ → ℕ → Stmt → Bool
is_lone ds pushed n (Foreach k at h test body) = stands_alone ds pushed n body && stands_alone ds (pushed_properties n body) n body
is_lone ds pushed n _ = false

-- a part of a body, under its own mask
pub record Piece : Type 0 where
  pub mask : Expr
  pub part : Stmt

abbrev pub piece : Expr → Stmt → List Piece
piece mask s = record { mask = mask; part = s } ∷ []

-- whole: which parts of a body stay together. The pieces of the rest: those of a block one after another, and those of an If under the mask and each branch's side of its condition
module _ (whole : Stmt → Bool) (place : Place) where
  abbrev pub pieces_of : Expr → Stmt → List Piece
  pieces_of mask Skip = []
  pieces_of mask (Then a b) = if whole (Then a b) then piece mask (Then a b) else pieces_of mask a ++ pieces_of mask b
  pieces_of mask (If k c a b) = if whole (If k c a b) then piece mask (If k c a b) else pieces_of (Both mask c) a ++ pieces_of (Both mask (Unary Not place c)) b
  pieces_of mask s = piece mask s

  -- whether a part may be a loop of its own: it has no inner loop or is one
  abbrev pub stands : List Declaration → List ℕ → ℕ → Expr → Stmt → Bool
  stands ds pushed n mask s = is_certain (n ∷ []) mask && (is_outer_body ds false n s && (no_inner s || is_lone ds pushed n s))

  -- whether a body may be cut into its pieces: each part from what stands behind it, and the masks stay
  abbrev pub may_part : List Declaration → ℕ → ℕ → Key → Place → List ℕ → Expr → Stmt → Bool
  may_part ds n m key at pushed mask Skip = is_certain (n ∷ []) mask
  may_part ds n m key at pushed mask (Then a b) =
      if whole (Then a b) then stands ds pushed n mask (Then a b)
      else can_cut ds n m key at pushed a b && (is_stable n a mask && (may_part ds n m key at pushed mask a && may_part ds n m key at pushed mask b))
  may_part ds n m key at pushed mask (If k c a b) =
      if whole (If k c a b) then stands ds pushed n mask (If k c a b)
      else can_cut ds n m key at pushed a b
      && (is_stable n a mask && (is_stable n a c && (may_part ds n m key at pushed (Both mask c) a && may_part ds n m key at pushed (Both mask (Unary Not place c)) b)))
  may_part ds n m key at pushed mask s = stands ds pushed n mask s

-- a loop runs as the loops of the pieces of its body, each under its own mask, one after another. m is a property of which the body does not know, and at a place before its faults
abbrev pub PiecesInTurn : Type 0
PiecesInTurn = (j : ℕ) (run : Run) (m : ℕ) (key : Key) (at place here : Place) (h : Head) (whole : Stmt → Bool) (mask : Expr) (body : Stmt) (s t : State) →
    let n = h.iterator in
    IsGraph run.graph → j ≤ m → ReadsBelow j mask → NamesBelow j body →
    may_part whole here run.declarations n m key at (pushed_properties n body) mask body ≡ true → AlikeStates j s t →
    AlikeCourses j (sequential (Foreach key place h mask body) run s) (sequential (sequence (map (λ p. Foreach key place h p.mask p.part) (pieces_of whole here mask body))) run t)
