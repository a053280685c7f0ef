-- The least fault of lists put together.
use Rattle.std.proofs.Common.{◌≡◌, false, Option, Some, None, List, [], ◌∷◌, ◌++◌, refl, ap, ◌∙◌, sym}
use Rattle.std.specs.List.{flat_map, cons_option}
use Rattle.gm_semantics.specs.declared.faults.Fault.{Fault}
use Rattle.gm_semantics.specs.Faults.{rank_of, comes_before, lower, lesser, least}
use Rattle.gm_semantics.proofs.LeastLaws.{lower_comm, lower-exchange, lower-first}

abbrev pub lesser_of : Option Fault → Option Fault → Option Fault
lesser_of None b = b
lesser_of (Some f) b = lesser f b

lower_assoc : (f g h : Fault) → lower f (lower g h) ≡ lower (lower f g) h
lower_assoc f g h = ap (lower f) (lower_comm g h) ∙ lower-exchange f h g ∙ lower_comm h (lower f g)

lesser_assoc : (f : Fault) (a b : Option Fault) → lesser f (lesser_of a b) ≡ lesser_of (lesser f a) b
lesser_assoc f None b = refl
lesser_assoc f (Some g) None = refl
lesser_assoc f (Some g) (Some h) = ap Some (lower_assoc f g h)

pub least-append : (xs ys : List Fault) → least (xs ++ ys) ≡ lesser_of (least xs) (least ys)
least-append [] ys = refl
least-append (f ∷ xs) ys = ap (lesser f) (least-append xs ys) ∙ lesser_assoc f (least xs) (least ys)

least-option : (o : Option Fault) (fs : List Fault) → least (cons_option o fs) ≡ lesser_of o (least fs)
least-option None fs = refl
least-option (Some f) fs = refl

-- the least faults of lists, one for each
abbrev pub leasts : {A : Type 0} → (A → List Fault) → List A → List Fault
leasts f [] = []
leasts f (x ∷ xs) = cons_option (least (f x)) (leasts f xs)

-- the least of leasts is the least of all
pub least-of_leasts : {A : Type 0} (f : A → List Fault) (xs : List A) → least (leasts f xs) ≡ least (flat_map f xs)
least-of_leasts f [] = refl
least-of_leasts f (x ∷ xs) = least-option (least (f x)) (leasts f xs) ∙ ap (lesser_of (least (f x))) (least-of_leasts f xs) ∙ sym (least-append (f x) (flat_map f xs))

-- every fault of the second list comes after the fault
abbrev pub AllAfter : Fault → List Fault → Type 0
AllAfter f [] = Unit {0}
AllAfter f (g ∷ gs) = (comes_before (rank_of g) (rank_of f) ≡ false) × AllAfter f gs

pub least-before : (f : Fault) (gs : List Fault) → AllAfter f gs → lesser f (least gs) ≡ Some f
least-before f [] h = refl
least-before f (g ∷ gs) h =
    exchange (least gs) ∙ ap (lesser g) (least-before f gs h.1) ∙ ap Some (lower_comm g f ∙ lower-first f g h.0)
  where
    exchange : (o : Option Fault) → lesser f (lesser g o) ≡ lesser g (lesser f o)
    exchange None = ap Some (lower_comm f g)
    exchange (Some h) = ap Some (lower-exchange f g h)

-- where one part's least fault comes before all of another part, it is the least of both
pub least-of_first : (xs ys : List Fault) (f : Fault) → least xs ≡ Some f → AllAfter f ys → least (xs ++ ys) ≡ Some f
least-of_first xs ys f e h = least-append xs ys ∙ ap (λ o. lesser_of o (least ys)) e ∙ least-before f ys h
