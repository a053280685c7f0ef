-- The least fault of lists that have the same members.
use Rattle.std.proofs.Common.{◌≡◌, Bool, true, false, cond, List, [], ◌∷◌, ◌++◌, map, refl, sym, ap, subst, ◌∙◌, Option, Some, None, ⊎_elim, inl, inr}
use Rattle.std.proofs.lemmas.Bool.{cases_Bool}
use Rattle.gm_value.specs.Bag.{IsIn, SameBag, same_cons, same_trans}
use Rattle.gm_value.proofs.BagLaws.{SameBag-refl, SameBag-sym, SameBag-middle, SameBag-last}
use Rattle.gm_semantics.specs.declared.faults.Fault.{Fault}
use Rattle.gm_semantics.specs.Faults.{rank_of, comes_before, lower, lesser, least, somes}
use Rattle.gm_semantics.proofs.LeastLaws.{lower-second, lower-first, lesser-exchange, least-same}

lower_itself : (f : Fault) → lower f f ≡ f
lower_itself f = by (comes_before (rank_of f) (rank_of f))
  where
    by : (b : Bool) → cond b f f ≡ f
    by true = refl
    by false = refl

lower_twice : (f g : Fault) → lower f (lower f g) ≡ lower f g
lower_twice f g =
    ⊎_elim
    (λ (e : comes_before (rank_of g) (rank_of f) ≡ true). ap (lower f) (lower-second f g e))
    (λ (e : comes_before (rank_of g) (rank_of f) ≡ false). ap (lower f) (lower-first f g e) ∙ lower_itself f ∙ sym (lower-first f g e))
    (cases_Bool (comes_before (rank_of g) (rank_of f)))

lesser_twice : (f : Fault) (o : Option Fault) → lesser f (lesser f o) ≡ lesser f o
lesser_twice f None = ap Some (lower_itself f)
lesser_twice f (Some g) = ap Some (lower_twice f g)

-- a member adds nothing to the least fault
least-member : (f : Fault) (fs : List Fault) → IsIn f fs → lesser f (least fs) ≡ least fs
least-member f [] h = absurd h
least-member f (g ∷ gs) h =
    ⊎_elim
    (λ (e : f ≡ g). ap (λ x. lesser x (lesser g (least gs))) e ∙ lesser_twice g (least gs))
    (λ (rest : IsIn f gs). lesser-exchange f g (least gs) ∙ ap (lesser g) (least-member f gs rest))
    h

least-within : (fs gs : List Fault) → ((f : Fault) → IsIn f fs → IsIn f gs) → least (fs ++ gs) ≡ least gs
least-within [] gs all = refl
least-within (f ∷ fs) gs all = ap (lesser f) (least-within fs gs (λ x h. all x (inr h))) ∙ least-member f gs (all f (inl refl))

append_nil : {A : Type 0} (xs : List A) → xs ++ [] ≡ xs
append_nil [] = refl
append_nil (x ∷ xs) = ap (λ l. x ∷ l) (append_nil xs)

same_swapped : {A : Type 0} (xs ys : List A) → SameBag (xs ++ ys) (ys ++ xs)
same_swapped [] ys = subst (SameBag ys) (sym (append_nil ys)) (SameBag-refl ys)
same_swapped (x ∷ xs) ys = same_trans (same_cons x (same_swapped xs ys)) (SameBag-sym (SameBag-middle ys x xs))

-- lists with the same members have one least fault
pub least-members : (fs gs : List Fault) → ((f : Fault) → IsIn f fs → IsIn f gs) → ((f : Fault) → IsIn f gs → IsIn f fs) → least fs ≡ least gs
least-members fs gs there back = sym (least-within gs fs back) ∙ least-same (same_swapped gs fs) ∙ least-within fs gs there

-- the least fault with one more
pub least-last : (fs : List Fault) (f : Fault) → least (fs ++ f ∷ []) ≡ lesser f (least fs)
least-last fs f = least-same (SameBag-last fs f)

pub somes-append : (os ps : List (Option Fault)) → somes (os ++ ps) ≡ somes os ++ somes ps
somes-append [] ps = refl
somes-append (None ∷ os) ps = somes-append os ps
somes-append (Some f ∷ os) ps = ap (λ l. f ∷ l) (somes-append os ps)

is_some_one : (f g : Fault) → Some f ≡ Some g → f ≡ g
is_some_one f g e = cc

no_some : (f : Fault) → Some f ≡ None → ⊥
no_some f e = cc

-- the faults of some parts are the parts that are faults
pub IsIn-somes : (f : Fault) (os : List (Option Fault)) → IsIn (Some f) os → IsIn f (somes os)
IsIn-somes f [] h = absurd h
IsIn-somes f (None ∷ os) h = ⊎_elim (λ (e : Some f ≡ None). absurd (no_some f e)) (λ (rest : IsIn (Some f) os). IsIn-somes f os rest) h
IsIn-somes f (Some g ∷ os) h = ⊎_elim (λ (e : Some f ≡ Some g). inl (is_some_one f g e)) (λ (rest : IsIn (Some f) os). inr (IsIn-somes f os rest)) h

pub somes-IsIn : (f : Fault) (os : List (Option Fault)) → IsIn f (somes os) → IsIn (Some f) os
somes-IsIn f [] h = absurd h
somes-IsIn f (None ∷ os) h = inr (somes-IsIn f os h)
somes-IsIn f (Some g ∷ os) h = ⊎_elim (λ (e : f ≡ g). inl (ap Some e)) (λ (rest : IsIn f (somes os)). inr (somes-IsIn f os rest)) h

-- a member of what a function gives of a list
pub IsIn-map : {A B : Type 0} (f : A → B) (x : A) (xs : List A) → IsIn x xs → IsIn (f x) (map f xs)
IsIn-map f x [] h = absurd h
IsIn-map f x (y ∷ ys) h = ⊎_elim (λ (e : x ≡ y). inl (ap f e)) (λ (rest : IsIn x ys). inr (IsIn-map f x ys rest)) h

pub map-IsIn : {A B : Type 0} (f : A → B) (y : B) (xs : List A) → IsIn y (map f xs) → (x : A) × (IsIn x xs × (y ≡ f x))
map-IsIn f y [] h = absurd h
map-IsIn f y (x ∷ xs) h =
    ⊎_elim
    (λ (e : y ≡ f x). (x, (inl refl, e)))
    (λ (rest : IsIn y (map f xs)). let r = map-IsIn f y xs rest in (r.0, (inr r.1.0, r.1.1)))
    h
