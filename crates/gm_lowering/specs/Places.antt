-- The places at which something may fault, in the order of faults.
use Rattle.std.specs.Prelude.{ℕ, ◌+◌, Bool, if◌then◌else◌, Option, Some, None, List, [], ◌∷◌, ◌++◌, length, map, filter}
use Rattle.gm_base.specs.declared.places.Place.{Place}
use Rattle.gm_ast.specs.declared.tree.Key.{Key}
use Rattle.gm_ast.specs.declared.tree.TotalKey.{TotalKey}
use Rattle.gm_ast.specs.Keys.{Fault, total_fault, fault_lt}
use Rattle.gm_ast.specs.Program.{Expr, Live, Unary, Binary, Both, Either, Choose}
use Rattle.gm_forms.specs.Order.{can_fail1, can_fail2, fault_if}

-- where something may fault: where it stands in the order of faults, and the place that its fault shows
pub record Spot : Type 0 where
  pub fault : Fault
  pub shown : Place

-- an operator's fault shows its own place
abbrev pub spot_of : Fault → Spot
spot_of f = record { fault = f; shown = f.place }

abbrev pub spot_at : Key → Place → Spot
spot_at k at = spot_of (record { key = k; place = at })

-- a total's fault
abbrev pub spot_of_total : TotalKey → Spot
spot_of_total t = record { fault = total_fault t; shown = t.shown }

-- the spots of an expression with no reduction in it, whose operators have a key
abbrev pub spots_in : Expr → Key → List Spot
spots_in (Unary op at e) k = map spot_of (fault_if (can_fail1 op) k at) ++ spots_in e k
spots_in (Binary op at a b) k = map spot_of (fault_if (can_fail2 op) k at) ++ (spots_in a k ++ spots_in b k)
spots_in (Both a b) k = spots_in a k ++ spots_in b k
spots_in (Either a b) k = spots_in a k ++ spots_in b k
spots_in (Choose c a b) k = spots_in c k ++ (spots_in a k ++ spots_in b k)
spots_in (Live x at) k = spot_at k at ∷ []
spots_in _ k = []

abbrev pub spots_in_all : List Expr → Key → List Spot
spots_in_all [] k = []
spots_in_all (e ∷ es) k = spots_in e k ++ spots_in_all es k

abbrev pub spots_in_option : Option Expr → Key → List Spot
spots_in_option None k = []
spots_in_option (Some e) k = spots_in e k

-- whether a spot comes before another
abbrev pub spot_lt : Spot → Spot → Bool
spot_lt a b = fault_lt a.fault b.fault

-- spots in order with one more among them, if it is not there
abbrev pub inserted : Spot → List Spot → List Spot
inserted s [] = s ∷ []
inserted s (x ∷ xs) = if spot_lt s x then s ∷ (x ∷ xs) else (if spot_lt x s then x ∷ inserted s xs else x ∷ xs)

-- spots in ascending order, each once
abbrev pub ascending : List Spot → List Spot
ascending [] = []
ascending (s ∷ ss) = inserted s (ascending ss)

-- the spots of one loop or statement, in order, and the index of the first among the places of the image
pub record Segment : Type 0 where
  pub base : ℕ
  pub spots : List Spot

-- the index of a place: behind those of the spots that come before it
abbrev pub place_index : Segment → Key → Place → ℕ
place_index g k at = g.base + length (filter (λ s. spot_lt s (spot_at k at)) g.spots)

-- a total's index
abbrev pub total_index : Segment → TotalKey → ℕ
total_index g t = place_index g t.key t.place

-- the segment of some spots from an index on
abbrev pub segment : ℕ → List Spot → Segment
segment base spots = record { base = base; spots = ascending spots }

-- what the places of a segment show
abbrev pub shown_places : Segment → List Place
shown_places g = map (λ s. s.shown) g.spots
