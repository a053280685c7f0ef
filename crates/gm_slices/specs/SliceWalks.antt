-- The walk over an inner body that comes to slices, each of which evaluates only what it needs.
use Rattle.std.specs.Prelude.{ℕ, Bool, true, false, ◌||◌, if◌then◌else◌, List, [], ◌∷◌, ◌++◌, map}
use Rattle.gm_base.specs.declared.places.Place.{Place}
use Rattle.gm_ast.specs.declared.tree.Declaration.{Declaration}
use Rattle.gm_ast.specs.declared.tree.Head.{Head}
use Rattle.gm_ast.specs.declared.tree.Key.{Key}
use Rattle.gm_ast.specs.Program.{Expr, Stmt, Skip, Then, Foreach, If, sequence}
use Rattle.gm_loop_laws.specs.Resumed.{is_still}
use Rattle.gm_cut.specs.Lean.{lean_slice}
use Rattle.gm_cut.specs.Slices.{goes_one_way, statements_of}

-- whether a statement is neither a block nor an If
abbrev pub is_leaf : Stmt → Bool
is_leaf Skip = false
is_leaf (Then a b) = false
is_leaf (If k c a b) = false
is_leaf s = true

-- whether a body is an inner loop
abbrev pub is_loop : Stmt → Bool
is_loop (Foreach k at h test body) = true
is_loop s = false

-- a loop over nodes and its inner loop, but for the inner body
pub record Nest : Type 0 where
  pub key : Key
  pub place : Place
  pub head : Head
  pub mask : Expr
  pub inner_key : Key
  pub inner_place : Place
  pub inner_head : Head
  pub test : Expr

-- both loops, with an inner body
abbrev pub nested : Nest → Stmt → Stmt
nested nest s = Foreach nest.key nest.place nest.head nest.mask (Foreach nest.inner_key nest.inner_place nest.inner_head nest.test s)

-- ds: the table; nest: the loops
module _ (ds : List Declaration) (nest : Nest) where
  abbrev pub goes : Stmt → Bool
  goes body = goes_one_way ds nest.head.iterator nest.inner_head nest.test body

  -- the slice of a group behind others
  abbrev pub slice_to : List Stmt → List Stmt → Stmt
  slice_to done group = lean_slice ds nest.head.iterator nest.inner_head.iterator done group

  -- whether a statement waits for one that does more than set locals
  abbrev pub waits : Stmt → Bool
  waits s = is_still (nest.head.iterator ∷ nest.inner_head.iterator ∷ []) s

  -- the slices of the statements that are left, behind those that are done, a group that goes on if it is not new, and those that wait
  abbrev pub slices_behind : Bool → List Stmt → List Stmt → List Stmt → List Stmt → List Stmt
  slices_behind new done group wait [] = slice_to done (group ++ wait) ∷ []
  slices_behind new done group wait (s ∷ ss) =
      if waits s then slices_behind new done group (wait ++ (s ∷ [])) ss
      else if new || goes (slice_to done (group ++ (wait ++ (s ∷ [])))) then slices_behind false done (group ++ (wait ++ (s ∷ []))) [] ss
      else slice_to done group ∷ slices_behind false (done ++ group) (wait ++ (s ∷ [])) [] ss

  -- what comes of those that wait, of which the last does not, and of those that are left
  abbrev pub placed_behind : Bool → List Stmt → List Stmt → List Stmt → List Stmt → List Stmt
  placed_behind new done group next ss =
      if new || goes (slice_to done (group ++ next)) then slices_behind false done (group ++ next) [] ss
      else slice_to done group ∷ slices_behind false (done ++ group) next [] ss

  -- their loops
  abbrev pub placed : Bool → List Stmt → List Stmt → List Stmt → List Stmt → List Stmt
  placed new done group next ss = map (nested nest) (placed_behind new done group next ss)

  abbrev pub loops_behind : Bool → List Stmt → List Stmt → List Stmt → List Stmt → List Stmt
  loops_behind new done group wait ss = map (nested nest) (slices_behind new done group wait ss)

  -- what is left once those that wait are joined to the group
  abbrev pub loops_joined : List Stmt → List Stmt → List Stmt → List Stmt
  loops_joined done group ss = loops_behind false done group [] ss

  -- the loops as they stand, or those of all slices
  abbrev pub sliced_nest : Stmt → Stmt
  sliced_nest body = if goes body then nested nest body else sequence (loops_behind true [] [] [] (statements_of body))
