-- The law of slices: what sets locals that nothing kept reads may go.
use Rattle.std.specs.Prelude.{◌≡◌, ℕ, Bool, true, false, ◌&&◌, not, if◌then◌else◌, List, [], ◌∷◌, Option, Some, None}
use Rattle.std.specs.List.{list_all}
use Rattle.gm_model.specs.Graphs.{IsGraph}
use Rattle.gm_ast.specs.declared.tree.Key.{Key}
use Rattle.gm_ast.specs.declared.tree.Target.{Target}
use Rattle.gm_ast.specs.declared.tree.Target.TheVariants as T
use Rattle.gm_ast.specs.Program.{Expr, Stmt, Skip, Then, Declare, DeclareEdge, Assign, Defer, Combine, Foreach, If}
use Rattle.gm_ast.specs.Ways.{is_in}
use Rattle.gm_semantics.specs.Stores.{Store}
use Rattle.gm_semantics.specs.Iterations.{Loop}
use Rattle.gm_loop_laws.specs.Masks.{looped, is_certain, spares}

-- gone: the locals whose settings go; its: the iterators around
module _ (gone : List ℕ) where
  -- whether a target is such a local
  abbrev pub is_gone : List ℕ → ℕ → Bool
  is_gone its x = is_in gone x && not (is_in its x)

  -- whether a statement only sets such locals, and cannot fault
  abbrev pub is_idle : List ℕ → Stmt → Bool
  is_idle its Skip = true
  is_idle its (Then a b) = is_idle its a && is_idle its b
  is_idle its (Declare k x None) = is_gone its x
  is_idle its (Declare k x (Some e)) = is_gone its x && is_certain its e
  is_idle its (DeclareEdge x y at) = true
  is_idle its (Assign k (T.Scalar x at) e) = is_gone its x && is_certain its e
  is_idle its (If k c a b) = is_certain its c && (is_idle its a && is_idle its b)
  is_idle its _ = false

  -- a body without such statements
  abbrev pub sliced : List ℕ → Stmt → Stmt
  sliced its (Then a b) = Then (sliced its a) (sliced its b)
  sliced its (Declare k x e) = if is_idle its (Declare k x e) then Skip else Declare k x e
  sliced its (Assign k t e) = if is_idle its (Assign k t e) then Skip else Assign k t e
  sliced its (If k c a b) = if is_idle its (If k c a b) then Skip else If k c (sliced its a) (sliced its b)
  sliced its (Foreach k at h test body) = Foreach k at h test (sliced (h.iterator ∷ its) body)
  sliced its s = s

  -- whether a target is no iterator and none of the variables, nor reached through one
  abbrev pub spares_target : List ℕ → Target → Bool
  spares_target its (T.Scalar x at) = not (is_in its x) && not (is_in gone x)
  spares_target its (T.Property x p at) = not (is_in gone x) && not (is_in gone p)

  abbrev pub spares_option : Option Expr → Bool
  spares_option None = true
  spares_option (Some e) = spares gone e

  -- whether what is kept of a body knows nothing of the locals, and writes no iterator
  abbrev pub knows_none : List ℕ → Stmt → Bool
  knows_none its (Then a b) = knows_none its a && knows_none its b
  knows_none its (Declare k x e) = not (is_in its x) && spares_option e
  knows_none its (Assign k t e) = spares_target its t && spares gone e
  knows_none its (Defer k t e) = spares_target its t && spares gone e
  knows_none its (Combine k total r ts es) = list_all (spares_target its) ts && list_all (spares gone) es
  knows_none its (If k c a b) = spares gone c && (knows_none its a && knows_none its b)
  knows_none its (Foreach k at h test body) = not (is_in gone h.owner) && (not (is_in its h.iterator) && (spares gone test && knows_none (h.iterator ∷ its) body))
  knows_none its _ = true

-- a loop does the same without them
abbrev pub Slices : Type 0
Slices = (loop : Loop) (gone : List ℕ) (key : Key) (test : Expr) (body : Stmt) (s : Store) →
    let its = loop.outer ∷ [] in
    IsGraph loop.graph → knows_none gone its (sliced gone its body) ≡ true →
    looped loop key test (sliced gone its body) s ≡ looped loop key test body s
