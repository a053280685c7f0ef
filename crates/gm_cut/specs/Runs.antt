-- Own statements of a body that stand together, as blocks.
use Rattle.std.specs.Prelude.{ℕ, Bool, true, false, ◌&&◌, ◌||◌, not, List, [], ◌∷◌, ◌++◌}
use Rattle.std.specs.List.{list_any}
use Rattle.gm_ast.specs.Program.{Stmt, Skip, Then, If, sequence}
use Rattle.gm_forms.specs.Cut.{is_calm, adds_elsewhere, is_own_loop}

-- own: what may be a loop of own statements; joins: whether a statement may stand behind a run of such
module _ (own : Stmt → Bool) (joins : List Stmt → Stmt → Bool) where
  -- the block of some statements, if there are any, before others
  abbrev pub before : List Stmt → Stmt → Stmt
  before [] s = s
  before (x ∷ xs) s = Then (sequence (x ∷ xs)) s

  -- a statement behind a run of own statements, and then the rest, which takes the run that goes on. A statement that joins the run is the last of it; an own one begins another; any other stands between two, as t
  abbrev pub placed : Bool → Bool → List Stmt → Stmt → Stmt → (List Stmt → Stmt) → Stmt
  placed true alone run s t rest = rest (run ++ (s ∷ []))
  placed false true run s t rest = before run (rest (s ∷ []))
  placed false false run s t rest = before run (Then t (rest []))

  abbrev pub joined : List Stmt → Stmt → Stmt → (List Stmt → Stmt) → Stmt
  joined run s t rest = placed (joins run s) (own s) run s t rest

  -- the statements of a body behind a run, and then the rest, each run in a block. Blocks within blocks are opened, and so are the branches of an If that is cut
  abbrev pub gathered : Stmt → List Stmt → (List Stmt → Stmt) → Stmt
  gathered Skip run rest = rest run
  gathered (Then a b) run rest = gathered a run (λ r. gathered b r rest)
  gathered (If k c a b) run rest = joined run (If k c a b) (If k c (gathered a [] sequence) (gathered b [] sequence)) rest
  gathered s run rest = joined run s s rest

  -- a body with each run of own statements in a block
  abbrev pub grouped : Stmt → Stmt
  grouped s = gathered s [] sequence

-- whether a statement of a loop over nodes joins a run: it is own, and it cannot fault where the run reduces by a Sum or Product through a node variable, whose total is taken a step later
abbrev pub joins_run : ℕ → List Stmt → Stmt → Bool
joins_run n run s = is_own_loop n s && (not (list_any (adds_elsewhere (n ∷ [])) run) || is_calm (n ∷ []) s)

-- the body of a loop over nodes with each run of its own statements in a block
abbrev pub with_runs : ℕ → Stmt → Stmt
with_runs n body = grouped (is_own_loop n) (joins_run n) body
