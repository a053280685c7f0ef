-- The latest of faults under one key is the one at the latest place.
use Rattle.std.proofs.Common.{◌≡◌, true, false, List, [], ◌∷◌, ◌++◌, refl, ap, ◌∙◌, arith}
use Rattle.std.specs.Prelude.{◌&&◌, ◌||◌, nat_eq, nat_lt, if◌then◌else◌}
use Rattle.std.proofs.lemmas.Bool.{eq-eqb, le-ltb}
use Rattle.gm_base.specs.declared.places.Place.{Place}
use Rattle.gm_base.specs.Places.{place_lt}
use Rattle.gm_ast.specs.declared.tree.Key.{Key}
use Rattle.gm_ast.specs.Keys.{Fault, stage_rank, fault_lt}
use Rattle.gm_forms.specs.Order.{fault_of}
use Rattle.gm_hoisting.specs.Hoisting.{later_of, latest_of}

-- faults under one key come as their places do
same_key : (k : Key) (a b : Place) → fault_lt (fault_of k a) (fault_of k b) ≡ place_lt a b
same_key k a b =
    let s = k.statement in
    let r = stage_rank k.stage in
    ap (λ t. t || (nat_eq s s && (nat_lt r r || (nat_eq r r && place_lt a b)))) (le-ltb s s (omega arith))
    ∙ ap (λ t. t && (nat_lt r r || (nat_eq r r && place_lt a b))) (eq-eqb s s refl)
    ∙ ap (λ t. t || (nat_eq r r && place_lt a b)) (le-ltb r r (omega arith)) ∙ ap (λ t. t && place_lt a b) (eq-eqb r r refl)

pub later_yes : (k : Key) (a b : Place) → place_lt a b ≡ true → later_of (fault_of k a) (fault_of k b) ≡ fault_of k b
later_yes k a b e = ap (λ t. if t then fault_of k b else fault_of k a) (same_key k a b ∙ e)

pub later_no : (k : Key) (a b : Place) → place_lt a b ≡ false → later_of (fault_of k a) (fault_of k b) ≡ fault_of k a
later_no k a b e = ap (λ t. if t then fault_of k b else fault_of k a) (same_key k a b ∙ e)

-- the latest of some faults and of others
pub latest_append : (f : Fault) (xs ys : List Fault) → latest_of f (xs ++ ys) ≡ latest_of (latest_of f xs) ys
latest_append f [] ys = refl
latest_append f (x ∷ xs) ys = latest_append (later_of f x) xs ys
