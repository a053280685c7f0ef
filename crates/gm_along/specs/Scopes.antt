-- Which locals a body of a parallel loop writes: those that it declares, and those that are declared outside of it.
use Rattle.std.specs.Prelude.{◌≡◌, ℕ, ◌+◌, ◌≤◌, Bool, true, List, [], ◌∷◌}
use Rattle.gm_ast.specs.declared.tree.Declaration.{Declaration}
use Rattle.gm_ast.specs.declared.tree.Target.{Target}
use Rattle.gm_ast.specs.declared.tree.Target.TheVariants as T
use Rattle.gm_ast.specs.Program.{Stmt, Then, Declare, DeclareEdge, Assign, Combine, Foreach, For, If, While, Do, InBfs, InBfsBoth, Program}
use Rattle.gm_ast.specs.Ways.{locals, is_in}
use Rattle.gm_forms.specs.Forms.{depth_at}

-- any variable
abbrev pub anyone : ℕ → Bool
anyone x = true

module _ (ds : List Declaration) where
  -- a target inside so many parallel loops: a scalar that is declared inside as many is one of the body's own
  abbrev pub OwnTarget : ℕ → (ℕ → Bool) → Target → Type 0
  OwnTarget d own (T.Scalar x at) = d ≤ depth_at ds x → own x ≡ true
  OwnTarget d own (T.Property x p at) = Unit {0}

  abbrev pub OwnTargets : ℕ → (ℕ → Bool) → List Target → Type 0
  OwnTargets d own [] = Unit {0}
  OwnTargets d own (t ∷ ts) = OwnTarget d own t × OwnTargets d own ts

  -- a statement inside so many parallel loops declares locals as deep, and of locals as deep it writes the body's own alone. The body of a parallel loop has its own; what stands in a sequential loop is not counted
  abbrev pub Scoped : ℕ → (ℕ → Bool) → Stmt → Type 0
  Scoped d own (Then a b) = Scoped d own a × Scoped d own b
  Scoped d own (Declare k x e) = depth_at ds x ≡ d
  Scoped d own (DeclareEdge x y at) = depth_at ds x ≡ d
  Scoped d own (Assign k t e) = OwnTarget d own t
  Scoped d own (Combine k total r ts es) = OwnTargets d own ts
  Scoped d own (If k c a b) = Scoped d own a × Scoped d own b
  Scoped d own (Foreach k at h test body) = Scoped (d + 1) (is_in (locals body)) body
  Scoped d own (For k at h test body) = Scoped d anyone body
  Scoped d own (While k at c body) = Scoped d anyone body
  Scoped d own (Do k at body c) = Scoped d anyone body
  Scoped d own (InBfs k at s test body) = Scoped (d + 1) (is_in (locals body)) body
  Scoped d own (InBfsBoth k at s test body back_key back_test back) = Scoped (d + 1) (is_in (locals body)) body × Scoped (d + 1) (is_in (locals back)) back
  Scoped d own s = Unit {0}

-- so does a program in its sequential phase
abbrev pub IsScoped : Program → Type 0
IsScoped p = Scoped p.declarations 0 anyone p.body
