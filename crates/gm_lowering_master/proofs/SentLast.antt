-- Totals of what is sent come behind all other faults of a loop where none of its spots comes behind theirs.
use Rattle.std.proofs.Common.{◌≡◌, ℕ, zero, suc, Bool, true, false, Some, List, [], ◌∷◌, map, refl, ap, ◌∙◌, sym, arith, ⊎_elim, inl, inr}
use Rattle.std.specs.Prelude.{slice_get}
use Rattle.std.proofs.lemmas.Bool.Decides.{nat_tests}
use Rattle.gm_base.specs.declared.places.Place.{Place}
use Rattle.gm_value.specs.declared.faults.FaultKind.{FaultKind}
use Rattle.gm_value.specs.declared.faults.FaultKind.TheVariants.{DivideByZero, NilNode, Overflow}
use Rattle.gm_value.specs.Bag.{IsIn}
use Rattle.gm_value.specs.Faults.{fault_number}
use Rattle.gm_model.specs.Graphs.{NumberedGraph}
use Rattle.gm_ast.specs.declared.tree.TotalKey.{TotalKey}
use Rattle.gm_ast.specs.Keys.{fault_lt}
use Rattle.gm_semantics.specs.declared.faults.Fault.{Fault}
use Rattle.gm_semantics.specs.Contributions.{Contribution}
use Rattle.gm_semantics.specs.Faults as F
use Rattle.gm_semantics.specs.Faults.{lower, comes_before, rank_of}
use Rattle.gm_semantics.proofs.LeastLaws.{lower-first}
use Rattle.gm_forms.proofs.CutLaws.{fault-order}
use Rattle.gm_machine.specs.Vertex.{Message}
use Rattle.gm_lowering.specs.Places.{Spot, spot_lt, spot_of_total}
use Rattle.gm_lowering.specs.Plans.{Away}
use Rattle.gm_lowering.specs.Settles.{HasSpot, spot_of_fault}
use Rattle.gm_lowering.specs.Sent.{AreSent}
use Rattle.gm_lowering.specs.Shown.{ShowOne}
use Rattle.gm_lowering.proofs.Orders.{lt-tie, tied-rank}

found-in : {A : Type 0} (xs : List A) (i : ℕ) (x : A) → slice_get xs i ≡ Some x → IsIn x xs
found-in [] i x e = cc
found-in (y ∷ ys) zero x e = inl (first-some y x e) where
  first-some : {A : Type 0} (a b : A) → Some a ≡ Some b → b ≡ a
  first-some a b e = cc
found-in (y ∷ ys) (suc i) x e = inr (found-in ys i x e)

spot-within : (z : Spot) (spots : List Spot) → HasSpot z spots → IsIn z spots
spot-within z [] h = absurd h
spot-within z (s ∷ ss) h = ⊎_elim (λ (e : s ≡ z). inl (sym e)) (λ (j : HasSpot z ss). inr (spot-within z ss j)) h

pub from-map : {A B : Type 0} (f : A → B) (xs : List A) (y : B) → IsIn y (map f xs) → (x : A) × IsIn x xs × (y ≡ f x)
from-map f [] y i = absurd i
from-map f (x ∷ xs) y i = ⊎_elim (λ (e : y ≡ f x). (x, inl refl, e)) (λ (j : IsIn y (map f xs)). let q = from-map f xs y j in (q.0, inr q.1, q.2)) i

-- what is sent is of one of the reductions
pub sent-by : (kind : ℕ) (sends : List Away) (g : NumberedGraph) (cs : List Contribution) (ms : List Message) → AreSent kind sends g cs ms → (y : Contribution) → IsIn y cs
    → (a : Away) × IsIn a sends × (y.total ≡ a.total) × (y.reduce ≡ a.reduce)
sent-by kind sends g [] ms o y i = absurd i
sent-by kind sends g (z ∷ cs) [] o y i = absurd o
sent-by kind sends g (z ∷ cs) (m ∷ ms) o y i =
    ⊎_elim
    (λ (e : y ≡ z). let q = o.0 in (q.away, found-in sends q.index q.away q.found, ap (λ t. t.total) (e ∙ q.made), ap (λ t. t.reduce) (e ∙ q.made)))
    (λ (w : IsIn y cs). sent-by kind sends g cs ms o.2 y w)
    i

before-itself : (xs : List ℕ) → comes_before xs xs ≡ false
before-itself [] = refl
before-itself (x ∷ xs) = let rest = before-itself xs in grind (arith, nat_tests)

-- at one place a total's fault, which is of the last kind, comes last
last-kind : (k : FaultKind) (p q : Place) → q ≡ p → comes_before (3 ∷ p.line ∷ p.col ∷ []) (fault_number k ∷ q.line ∷ q.col ∷ []) ≡ false
last-kind DivideByZero p q e = refl
last-kind NilNode p q e = refl
last-kind Overflow p q e = ap (λ (z : Place). comes_before (3 ∷ p.line ∷ p.col ∷ []) (3 ∷ z.line ∷ z.col ∷ [])) e ∙ before-itself (3 ∷ p.line ∷ p.col ∷ [])

-- a fault among spots of which none comes behind a total's comes before it
pub behind : (spots : List Spot) → ShowOne spots → (f : Fault) (t : TotalKey) → HasSpot (spot_of_fault f) spots → HasSpot (spot_of_total t) spots
    → ((s : Spot) → IsIn s spots → spot_lt (spot_of_total t) s ≡ false) → lower f (F.total_fault t) ≡ f
behind spots shows f t has own none = lower-first f (F.total_fault t) (by (fault_lt (spot_of_fault f).fault (spot_of_total t).fault) refl) where
  by : (b : Bool) → fault_lt (spot_of_fault f).fault (spot_of_total t).fault ≡ b → comes_before (rank_of (F.total_fault t)) (rank_of f) ≡ false
  by true e = fault-order f (F.total_fault t) e
  by false e =
      let same : (spot_of_fault f).fault ≡ (spot_of_total t).fault = lt-tie (spot_of_fault f).fault (spot_of_total t).fault e (none (spot_of_fault f) (spot-within (spot_of_fault f) spots has)) in
      tied-rank f (F.total_fault t) same
      ∙ last-kind f.kind t.shown f.shown (shows (spot_of_fault f) (spot_of_total t) (spot-within (spot_of_fault f) spots has) (spot-within (spot_of_total t) spots own) same)
