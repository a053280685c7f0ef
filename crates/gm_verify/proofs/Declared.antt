-- Walks over the lines of inputs and outputs.
use Rattle.std.proofs.Common.{◌≡◌, ◌+◌, ◌<◌, ◌≤◌, ℕ, suc, List, [], ◌∷◌, ◌++◌, drop, take, map, filter, get_or, length, Option, None, Bool, true, false, cond, refl, sym, ap, ◌∙◌, arith}
use Rattle.std.proofs.lemmas.List.{take_more, map-append}
use Rattle.gm_image.specs.declared.rules.ImageRule.{ImageRule}
use Rattle.gm_image.specs.Program.{Program, Item}
use Rattle.gm_image.specs.Rows.{Row, rows_after}
use Rattle.gm_image.specs.Names.{is_of_edges}
use Rattle.gm_image.specs.Soundness.{broken_rule}
use Rattle.gm_verify.specs.declared.items.Seen.{Seen}
use Rattle.gm_verify.specs.Checks.{Walks}
use Rattle.gm_verify.specs.Items.{Shows}
use Rattle.gm_verify.proofs.Lists.{drop-item}
use Rattle.gm_verify.proofs.Walking.{walks-room, walks-next}

-- items so far break no rule, and the code shows them
pub record Declares (p : Program) (n : ℕ) (row : List Item → Item → Row) (all : List Item) (m : ℕ) (seen : Seen) (before rest : List Item) : Type 0 where
  pub walked : Walks p n (rows_after row [] all) m (rows_after row before rest)
  pub shown : Shows seen before

-- the items that are left, and those so far with one more
pub rest-at : {A B : Type 0} (f : A → B) (xs : List A) (i : ℕ) (x : A) → i < length xs → x ≡ get_or xs i x → map f (drop i xs) ≡ f x ∷ map f (drop (i + 1) xs)
rest-at f xs i x lt is = ap (map f) (drop-item xs i x lt is)

pub before-at : {A B : Type 0} (f : A → B) (xs : List A) (i : ℕ) (x : A) → i < length xs → x ≡ get_or xs i x → map f (take i xs) ++ f x ∷ [] ≡ map f (take (i + 1) xs)
before-at {A} f xs i x lt is =
    sym (ap (map f) (take_more xs i x lt ∙ ap (λ (y : A). take i xs ++ y ∷ []) (sym is)) ∙ map-append f (take i xs) (x ∷ []))

pub length-rows_after : (row : List Item → Item → Row) (xs before : List Item) → length (rows_after row before xs) ≡ length xs
length-rows_after row [] before = refl
length-rows_after row (x ∷ xs) before = ap suc (length-rows_after row xs (before ++ x ∷ []))

-- the number of the next line
pub declares-room : (p : Program) (n : ℕ) (row : List Item → Item → Row) (all : List Item) (m : ℕ) (seen : Seen) (before rest : List Item) (x : Item)
    → Declares p n row all m seen before (x ∷ rest) → n + length all ≤ 4294967296 → m < 4294967296
declares-room p n row all m seen before rest x d room =
    let long : length (rows_after row [] all) ≡ length all = length-rows_after row all [] in
    walks-room p n (rows_after row [] all) m (row before x) (rows_after row (before ++ x ∷ []) rest) d.walked (omega (arith, long, room))

-- one more item, which breaks no rule
pub declares-next : (p : Program) (n : ℕ) (row : List Item → Item → Row) (all : List Item) (m next : ℕ) (seen new : Seen) (before rest : List Item) (x : Item) (rule : Option ImageRule)
    → Declares p n row all m seen before (x ∷ rest) → rule ≡ broken_rule p (row before x) → rule ≡ None → next ≡ m + 1
    → ((b : List Item) → Shows seen b → Shows new (b ++ x ∷ [])) → Declares p n row all next new (before ++ x ∷ []) rest
declares-next p n row all m next seen new before rest x rule d is none at adds = record {
  walked = walks-next p n (rows_after row [] all) m next (row before x) (rows_after row (before ++ x ∷ []) rest) rule d.walked is none at;
  shown = adds before d.shown;
}

length-filter-le : {A : Type 0} (p : A → Bool) (xs : List A) → length (filter p xs) ≤ length xs
length-filter-le p [] = omega arith
length-filter-le p (x ∷ xs) = by (p x) (length-filter-le p xs)
  where
    by : (b : Bool) → length (filter p xs) ≤ length xs → length (cond b (x ∷ filter p xs) (filter p xs)) ≤ length (x ∷ xs)
    by true h = omega (arith, h)
    by false h = omega (arith, h)

-- edge inputs are not too many to be counted
pub declares-few : (p : Program) (n : ℕ) (row : List Item → Item → Row) (all : List Item) (m : ℕ) (seen : Seen) (before rest : List Item)
    → Declares p n row all m seen before rest → length before ≤ 4294967296 → seen.edges < 18446744073709551615
declares-few p n row all m seen before rest d few =
    let most : length (filter is_of_edges before) ≤ length before = length-filter-le is_of_edges before in
    omega (arith, d.shown.edges, most, few)
