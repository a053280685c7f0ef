-- What is kept of an inner body where some variables are needed behind it, with sets of variables as tests.
use Rattle.std.specs.Prelude.{ℕ, zero, suc, Bool, true, false, ◌&&◌, ◌||◌, not, if◌then◌else◌, List, [], ◌∷◌}
use Rattle.std.specs.List.{list_any}
use Rattle.gm_ast.specs.declared.tree.Declaration.{Declaration}
use Rattle.gm_ast.specs.declared.tree.Target.{Target}
use Rattle.gm_ast.specs.declared.tree.Target.TheVariants as T
use Rattle.gm_ast.specs.Program.{Stmt, Skip, Then, Declare, DeclareEdge, Assign, Defer, Combine, Foreach, If, sequence}
use Rattle.gm_forms.specs.Sharing.{are_at_once}
use Rattle.gm_loop_laws.specs.Resumed.{is_still}
use Rattle.gm_slices.specs.Needs.{with_member, either, with_told, with_all_told, with_told_option, is_touched}

-- a target's variable where what it holds is read, and the node variable through which it is
abbrev pub with_read_at : Bool → Target → (ℕ → Bool) → (ℕ → Bool)
with_read_at held (T.Scalar x at) m = if held then with_member x m else m
with_read_at held (T.Property x p at) m = with_member x m

abbrev pub with_reads_at : Bool → List Target → (ℕ → Bool) → (ℕ → Bool)
with_reads_at held [] m = m
with_reads_at held (t ∷ ts) m = with_reads_at held ts (with_read_at held t m)

-- whether a statement is neither a block, nor an If, nor declares an edge
abbrev pub is_plain : Stmt → Bool
is_plain Skip = false
is_plain (Then a b) = false
is_plain (DeclareEdge x y at) = false
is_plain (If k c a b) = false
is_plain s = true

-- ds: the table; its: the iterators around; n: the outer one
module _ (ds : List Declaration) (its : List ℕ) (n : ℕ) where
  -- whether an inner body sets one of a set of variables before its loop ends
  abbrev pub sets : (ℕ → Bool) → Stmt → Bool
  sets m (Then a b) = sets m a || sets m b
  sets m (Declare k x e) = m x
  sets m (Assign k t e) = is_touched m t
  sets m (Combine k total r ts es) = are_at_once ds n true ts && list_any (is_touched m) ts
  sets m (If k c a b) = sets m a || sets m b
  sets m (Foreach k at h test body) = sets m body
  sets m _ = false

  -- whether a part of an inner body may be evaluated again behind others: where it neither sets a variable nor declares an edge, it never is
  abbrev pub may_serve_again : Stmt → Bool
  may_serve_again (Then a b) = may_serve_again a || may_serve_again b
  may_serve_again (Declare k x e) = true
  may_serve_again (DeclareEdge x y at) = true
  may_serve_again (Assign k t e) = true
  may_serve_again (Combine k total r ts es) = are_at_once ds n true ts
  may_serve_again (If k c a b) = may_serve_again a || may_serve_again b
  may_serve_again (Foreach k at h test body) = may_serve_again body
  may_serve_again _ = false

  -- the variables that an inner body reads
  abbrev pub with_read : Stmt → (ℕ → Bool) → (ℕ → Bool)
  with_read (Then a b) m = with_read b (with_read a m)
  with_read (Declare k x e) m = with_told_option e m
  with_read (Assign k t e) m = with_told e (with_read_at false t m)
  with_read (Defer k t e) m = with_told e (with_read_at false t m)
  with_read (Combine k total r ts es) m = with_all_told es (with_reads_at (are_at_once ds n true ts) ts m)
  with_read (If k c a b) m = with_read b (with_read a (with_told c m))
  with_read (Foreach k at h test body) m = with_read body (with_told test (with_member h.owner m))
  with_read _ m = m

  -- whether a part serves
  abbrev pub is_wanted : Bool → (ℕ → Bool) → Stmt → Bool
  is_wanted new m s = sets m s || (new && not (is_still its s))

  -- the variables that are needed from a part on
  abbrev pub with_wants : Bool → Stmt → (ℕ → Bool) → (ℕ → Bool)
  with_wants new Skip m = m
  with_wants new (Then a b) m = with_wants new a (with_wants new b m)
  with_wants new (DeclareEdge x y at) m = m
  with_wants new (If k c a b) m = if is_wanted new m (If k c a b) then with_told c (either (with_wants new a m) (with_wants new b m)) else m
  with_wants new s m = if is_wanted new m s then with_read s m else m

  -- what of it is evaluated
  abbrev pub wanted : Bool → Stmt → (ℕ → Bool) → Stmt
  wanted new Skip m = Skip
  wanted new (Then a b) m = Then (wanted new a (with_wants new b m)) (wanted new b m)
  wanted new (DeclareEdge x y at) m = DeclareEdge x y at
  wanted new (If k c a b) m = if is_wanted new m (If k c a b) then If k c (wanted new a m) (wanted new b m) else Skip
  wanted new s m = if is_wanted new m s then s else Skip

  -- the same of an If that serves
  abbrev pub with_branches : Bool → Stmt → (ℕ → Bool) → (ℕ → Bool)
  with_branches new (If k c a b) m = with_told c (either (with_wants new a m) (with_wants new b m))
  with_branches new s m = m

  abbrev pub branches : Bool → Stmt → (ℕ → Bool) → Stmt
  branches new (If k c a b) m = If k c (wanted new a m) (wanted new b m)
  branches new s m = s

  -- ---- statements one after another

  abbrev pub wanted_all : Bool → List Stmt → (ℕ → Bool) → List Stmt
  wanted_all new [] m = []
  wanted_all new (s ∷ ss) m = wanted new s (with_wants new (sequence ss) m) ∷ wanted_all new ss m

  -- of which those before an index stand as they are
  abbrev pub wanted_from : Bool → ℕ → List Stmt → (ℕ → Bool) → List Stmt
  wanted_from new zero ss m = wanted_all new ss m
  wanted_from new (suc i) [] m = []
  wanted_from new (suc i) (s ∷ ss) m = s ∷ wanted_from new i ss m

  abbrev pub with_wants_from : Bool → ℕ → List Stmt → (ℕ → Bool) → (ℕ → Bool)
  with_wants_from new zero ss m = with_wants new (sequence ss) m
  with_wants_from new (suc i) [] m = m
  with_wants_from new (suc i) (s ∷ ss) m = with_wants_from new i ss m

-- whether a statement is an If
abbrev pub is_if : Stmt → Bool
is_if (If k c a b) = true
is_if s = false
