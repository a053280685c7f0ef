-- The ways of an inner body's reductions, by what is known of its locals.
use Rattle.std.specs.Prelude.{◌≡◌, ◌&&◌, ◌++◌, Bool, true, false, if◌then◌else◌, List, [], ◌∷◌, Option, flat_map, map, is_some}
use Rattle.gm_base.specs.declared.places.Place.{Place}
use Rattle.gm_ast.specs.declared.tree.Head.{Head}
use Rattle.gm_ast.specs.declared.tree.Target.{Target}
use Rattle.gm_ast.specs.declared.ways.Way.{Way}
use Rattle.gm_ast.specs.Program.{Stmt, Then, Combine, If}
use Rattle.gm_ast.specs.Ways.{mentions, owner_of, way_by, is_against}
use Rattle.gm_push_pull.specs.declared.reads.Reads.{Reads}
use Rattle.gm_push_pull.specs.declared.locals.Locals.{Locals}
use Rattle.gm_push_pull.specs.declared.finding.Finder.{Finder}
use Rattle.gm_push_pull.specs.Places.{earlier}
use Rattle.gm_push_pull.specs.Locals.{is_known, noted_all}
use Rattle.gm_push_pull.specs.Sweeps.{compared}

-- whether a target is a local
abbrev pub known_target : Locals → Target → Bool
known_target l (Target.Scalar x at) = is_known l x
known_target l (Target.Property x p at) = false

-- whether all targets are locals
abbrev pub all_known : Locals → List Target → Bool
all_known l [] = true
all_known l (t ∷ ts) = known_target l t && all_known l ts

-- a reduction that ends with the loop: its targets, and what its support reads
pub record Reduction : Type 0 where
  pub targets : List Target
  pub reads : Reads

-- the reductions of a statement that end with the loop, where the filter and the conditions around read this
abbrev pub reductions : Locals → Stmt → Reads → List Reduction
reductions l (Then a b) r = reductions l a r ++ reductions l b r
reductions l (If k c a b) r = reductions l a (noted_all l r (mentions c)) ++ reductions l b (noted_all l r (mentions c))
reductions l (Combine k total op ts es) r =
    if all_known l ts then []
    else (record { targets = ts; reads = noted_all l (noted_all l r (compared ts es)) (flat_map owner_of ts) } ∷ [])
reductions l _ r = []

-- the way of a reduction with some targets, whose support reads this
abbrev pub way_from : Head → List Target → Reads → Way
way_from h ts r = way_by h ts r.neighbour (is_some r.edge)

-- the way of a reduction
abbrev pub way_found : Head → Reduction → Way
way_found h x = way_from h x.targets x.reads

-- the first read of an edge against the way of a message, of one that is known and of those of more reductions
abbrev pub first_against : Head → Option Place → List Reduction → Option Place
first_against h best [] = best
first_against h best (x ∷ xs) = first_against h (if is_against h.domain (way_found h x) then earlier best x.reads.edge else best) xs

-- more reductions are found
pub record Finds (old new : Finder) (xs : List Reduction) : Type 0 where
  pub head : new.head ≡ old.head
  pub locals : new.locals ≡ old.locals
  pub ways : new.ways.items ≡ old.ways.items ++ map (way_found old.head) xs
  pub against : new.against ≡ first_against old.head old.against xs
