-- A walk over a program that finds its accesses.
use Rattle.std.specs.Prelude.{◌≡◌, ℕ, ◌+◌, ◌-◌, List, [], ◌∷◌, ◌++◌, map, length, take}
use Rattle.gm_ast.specs.declared.accesses.Access.{Access}
use Rattle.gm_ast.specs.declared.tree.Domain.{Domain}
use Rattle.gm_ast.specs.Accesses as Accesses
use Rattle.gm_ast.specs.Accesses.{Around}
use Rattle.gm_race.specs.declared.found.Loop.{Loop}
use Rattle.gm_race.specs.declared.walks.Walker.{Walker}
use Rattle.gm_race.specs.Views.{access_of}

-- a loop, as the rules see it
abbrev pub loop_of : Loop → Accesses.Loop
loop_of l = record { number = l.number; iterator = l.iterator; domain = l.domain }

-- the loops around the part that is walked over
abbrev pub loops_around : Walker → List Accesses.Loop
loops_around w = map loop_of w.loops.items

-- what stands around the part that is walked over
abbrev pub around_of : Walker → Around
around_of w = record { declarations = w.declarations.now; loops = loops_around w }

-- the accesses so far
abbrev pub seen : Walker → List Access
seen w = map access_of w.found.items

-- a walk over a part has found its accesses and passed its loops, and stands where it stood
pub record Finds (old new : Walker) (listed : List Access) (passed : ℕ) : Type 0 where
  pub found : seen new ≡ seen old ++ listed
  pub next : new.next ≡ old.next + passed
  pub loops : new.loops.items ≡ old.loops.items
  pub declarations : new.declarations ≡ old.declarations

-- a walk has entered a loop
pub record Enters (old new : Walker) (iterator : ℕ) (domain : Domain) : Type 0 where
  pub found : seen new ≡ seen old
  pub next : new.next ≡ old.next + 1
  pub loops : new.loops.items ≡ old.loops.items ++ (record { number = old.next; iterator = iterator; domain = domain } ∷ [])
  pub declarations : new.declarations ≡ old.declarations

-- a walk has left the innermost loop
pub record Leaves (old new : Walker) : Type 0 where
  pub found : seen new ≡ seen old
  pub next : new.next ≡ old.next
  pub loops : new.loops.items ≡ take (length old.loops.items - 1) old.loops.items
  pub declarations : new.declarations ≡ old.declarations

-- a walk over parts one after another: what is found so far, with what the rest has, is what all have
pub record Walks {X : Type 0} (accesses : X → Around → ℕ → List Access) (passed : X → ℕ) (initial self : Walker) (all rest : X) : Type 0 where
  pub found : seen self ++ accesses rest (around_of self) self.next ≡ seen initial ++ accesses all (around_of initial) initial.next
  pub next : self.next + passed rest ≡ initial.next + passed all
  pub loops : self.loops.items ≡ initial.loops.items
  pub declarations : self.declarations ≡ initial.declarations
