-- The parts of iterations in order, and the least of their faults.
use Rattle.std.proofs.Common.{◌≡◌, ◌∙◌, List, [], ◌∷◌, ◌++◌, map, Option, Some, None, refl, ap, sym, append_assoc}
use Rattle.std.proofs.lemmas.List.{append-nil}
use Rattle.gm_semantics.specs.declared.faults.Fault.{Fault}
use Rattle.gm_semantics.specs.Faults.{lower, lesser, least, somes, joined}
use Rattle.gm_semantics.proofs.LeastLaws.{lower-exchange, lower_comm}
use Rattle.gm_loops.specs.Parts.{sooner}

-- of three faults it does not matter which two are compared first
lower_assoc : (f g h : Fault) → lower (lower f g) h ≡ lower f (lower g h)
lower_assoc f g h = lower_comm (lower f g) h ∙ lower-exchange h f g ∙ ap (lower f) (lower_comm h g)

lesser_assoc : (f g : Fault) (o : Option Fault) → lesser (lower f g) o ≡ lesser f (lesser g o)
lesser_assoc f g None = refl
lesser_assoc f g (Some h) = ap Some (lower_assoc f g h)

sooner_lesser : (f : Fault) (o p : Option Fault) → sooner (lesser f o) p ≡ lesser f (sooner o p)
sooner_lesser f None p = refl
sooner_lesser f (Some g) p = lesser_assoc f g p

-- the least fault of two lists
pub least-append : (fs gs : List Fault) → least (fs ++ gs) ≡ sooner (least fs) (least gs)
least-append [] gs = refl
least-append (f ∷ fs) gs = ap (lesser f) (least-append fs gs) ∙ sym (sooner_lesser f (least fs) (least gs))

-- the least fault where there may be one
pub least-one : (o : Option Fault) → o ≡ least (somes (o ∷ []))
least-one None = refl
least-one (Some f) = refl

pub somes-append : (os ps : List (Option Fault)) → somes (os ++ ps) ≡ somes os ++ somes ps
somes-append [] ps = refl
somes-append (None ∷ os) ps = somes-append os ps
somes-append (Some f ∷ os) ps = ap (λ l. f ∷ l) (somes-append os ps)

pub joined-append : {A : Type 0} (xss yss : List (List A)) → joined (xss ++ yss) ≡ joined xss ++ joined yss
joined-append [] yss = refl
joined-append (xs ∷ xss) yss = ap (λ l. xs ++ l) (joined-append xss yss) ∙ sym (append_assoc xs (joined xss) (joined yss))

pub map-append : {A B : Type 0} (f : A → B) (xs ys : List A) → map f (xs ++ ys) ≡ map f xs ++ map f ys
map-append f [] ys = refl
map-append f (x ∷ xs) ys = ap (λ l. f x ∷ l) (map-append f xs ys)

-- what a part of iterations comes to, for more of them
pub parts-append : {A B : Type 0} (f : A → List B) (xs ys : List A) → joined (map f (xs ++ ys)) ≡ joined (map f xs) ++ joined (map f ys)
parts-append f xs ys = ap joined (map-append f xs ys) ∙ joined-append (map f xs) (map f ys)

pub faults-append : {A : Type 0} (f : A → Option Fault) (xs ys : List A) → least (somes (map f (xs ++ ys))) ≡ sooner (least (somes (map f xs))) (least (somes (map f ys)))
faults-append f xs ys =
    ap (λ (os : List (Option Fault)). least (somes os)) (map-append f xs ys)
    ∙ ap least (somes-append (map f xs) (map f ys))
    ∙ least-append (somes (map f xs)) (somes (map f ys))

-- one part after others
pub joined-one : {A : Type 0} (xs : List A) → joined (xs ∷ []) ≡ xs
joined-one xs = append-nil xs

-- where the second is none the first is the least
pub sooner_none : (o : Option Fault) → sooner o None ≡ o
sooner_none None = refl
sooner_none (Some f) = refl
