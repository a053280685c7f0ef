-- What serves a whole serves its parts.
use Rattle.std.proofs.Common.{◌≡◌, ◌∙◌, ◌<◌, ◌+◌, ℕ, zero, suc, Bool, true, false, ◌&&◌, Option, Some, None, List, [], ◌∷◌, map, take, drop, length, get_or, refl, ap, arith}
use Rattle.std.specs.List.{list_all}
use Rattle.std.proofs.lemmas.Bool.{and_parts}
use Rattle.gm_model.specs.Graphs.{NumberedGraph}
use Rattle.gm_graph.specs.Serving.{Serve}

-- what implies what is asked is served with it
pub implied : (rows : Option NumberedGraph) (x y : Bool) → (x ≡ true → y ≡ true) → Serve rows x → Serve rows y
implied (Some r) x y so h = refl
implied None x y so h = so h

pub left : (rows : Option NumberedGraph) (x y : Bool) → Serve rows (x && y) → Serve rows x
left rows x y h = implied rows (x && y) x (λ b. (and_parts x y b).0) h

pub right : (rows : Option NumberedGraph) (x y : Bool) → Serve rows (x && y) → Serve rows y
right rows x y h = implied rows (x && y) y (λ b. (and_parts x y b).1) h

pub joined : (rows : Option NumberedGraph) (x y : Bool) → Serve rows x → Serve rows y → Serve rows (x && y)
joined (Some r) x y a b = refl
joined None true y a b = b
joined None false y a b = a

-- what stands at a place of a list, what stands behind it, and what stands before one
at_place : {A B : Type 0} (p : B → Bool) (f : A → B) (xs : List A) (i : ℕ) (d : A) → i < length xs → list_all p (map f xs) ≡ true → p (f (get_or xs i d)) ≡ true
at_place p f [] i d lt h = absurd (omega arith)
at_place p f (x ∷ xs) zero d lt h = (and_parts (p (f x)) (list_all p (map f xs)) h).0
at_place p f (x ∷ xs) (suc i) d lt h = at_place p f xs i d (omega arith) (and_parts (p (f x)) (list_all p (map f xs)) h).1

behind : {A B : Type 0} (p : B → Bool) (f : A → B) (xs : List A) (i : ℕ) → list_all p (map f xs) ≡ true → list_all p (map f (drop i xs)) ≡ true
behind p f xs zero h = h
behind p f [] (suc i) h = refl
behind p f (x ∷ xs) (suc i) h = behind p f xs i (and_parts (p (f x)) (list_all p (map f xs)) h).1

before : {A B : Type 0} (p : B → Bool) (f : A → B) (xs : List A) (i : ℕ) → list_all p (map f xs) ≡ true → list_all p (map f (take i xs)) ≡ true
before p f xs zero h = refl
before p f [] (suc i) h = refl
before p f (x ∷ xs) (suc i) h =
    let both = and_parts (p (f x)) (list_all p (map f xs)) h in
    ap (λ b. b && list_all p (map f (take i xs))) both.0 ∙ before p f xs i both.1

pub item : {A B : Type 0} (rows : Option NumberedGraph) (p : B → Bool) (f : A → B) (xs : List A) (i : ℕ) (d : A) → i < length xs → Serve rows (list_all p (map f xs)) → Serve rows (p (f (get_or xs i d)))
item rows p f xs i d lt h = implied rows (list_all p (map f xs)) (p (f (get_or xs i d))) (at_place p f xs i d lt) h

pub rest : {A B : Type 0} (rows : Option NumberedGraph) (p : B → Bool) (f : A → B) (xs : List A) (i : ℕ) → Serve rows (list_all p (map f xs)) → Serve rows (list_all p (map f (drop i xs)))
rest rows p f xs i h = implied rows (list_all p (map f xs)) (list_all p (map f (drop i xs))) (behind p f xs i) h

pub front : {A B : Type 0} (rows : Option NumberedGraph) (p : B → Bool) (f : A → B) (xs : List A) (i : ℕ) → Serve rows (list_all p (map f xs)) → Serve rows (list_all p (map f (take i xs)))
front rows p f xs i h = implied rows (list_all p (map f xs)) (list_all p (map f (take i xs))) (before p f xs i) h
