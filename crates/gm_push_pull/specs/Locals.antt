-- The locals of an inner body, with what their values read.
use Rattle.std.specs.Prelude.{◌≡◌, ℕ, nat_eq, Bool, ◌||◌, List, [], ◌∷◌, Option, Some, None, is_some}
use Rattle.indexmap.specs.IndexMap.{get}
use Rattle.gm_ast.specs.Ways.{Mention, Alone, Through, OfEdge, is_in}
use Rattle.gm_push_pull.specs.declared.reads.Reads.{Reads}
use Rattle.gm_push_pull.specs.declared.locals.Locals.{Locals}
use Rattle.gm_push_pull.specs.Reads.{joined, nothing, own_reads}
use Rattle.gm_push_pull.specs.Tests.{Test, holds}

-- what is read, where something is
abbrev pub or_nothing : Option Reads → Reads
or_nothing None = nothing
or_nothing (Some r) = r

-- whether a variable is one of the locals
abbrev pub is_known : Locals → ℕ → Bool
is_known l x = is_some (get nat_eq l.facts x)

-- what the value of a local reads, as far as it is known
abbrev pub held_by : Locals → ℕ → Reads
held_by l x = or_nothing (get nat_eq l.facts x)

-- the answer for the value of a local
abbrev pub held_so : Locals → Test → ℕ → Bool
held_so l t x = holds (held_by l x) t

-- what is read where a mention is added
abbrev pub noted : Locals → Reads → Mention → Reads
noted l r (Alone x) = joined r (held_by l x)
noted l r (Through x) = joined (joined r (own_reads l.iterator (Through x))) (held_by l x)
noted l r (OfEdge x at) = joined (joined r (own_reads l.iterator (OfEdge x at))) (held_by l x)

-- what is read where mentions are added
abbrev pub noted_all : Locals → Reads → List Mention → Reads
noted_all l r [] = r
noted_all l r (m ∷ ms) = noted_all l (noted l r m) ms

-- locals to which these are added, of which nothing is known yet
pub record Gathers (old new : Locals) (xs : List ℕ) : Type 0 where
  pub iterator : new.iterator ≡ old.iterator
  pub known : (x : ℕ) → is_known new x ≡ (is_known old x || is_in xs x)
  pub plain : ((x : ℕ) → held_by old x ≡ nothing) → (x : ℕ) → held_by new x ≡ nothing
