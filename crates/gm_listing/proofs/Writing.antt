-- The writing of pieces of a text, one after another.
use Rattle.std.proofs.Common.{◌≡◌, ◌≤◌, ◌+◌, ◌<◌, ◌⊎◌, inl, inr, ◌∙◌, ℕ, List, [], ◌∷◌, ◌++◌, length, map, drop, refl, sym, ap, get_or, add-one, append_assoc, append-nil, arith}
use Rattle.std.specs.Prelude.{slice_get, Some}
use Rattle.std.specs.List.{flat_map, zip, enumerate_from}
use Rattle.std.proofs.lemmas.Slice.Zip.{get_or-zip, length-zip}
use Rattle.std.proofs.lemmas.List.{length-map}
use Rattle.std.proofs.lemmas.List.FromFn.{get_or-enumerate_from}
use Rattle.std.proofs.lemmas.Option.{slice_get_within, get_or_from_slice_get}
use Rattle.std.proofs.Math.ListN.{get_or-map}
use Rattle.std.proofs.Math.Seq.{drop-cons}
use Rattle.std.proofs.Math.ListN.{drop_of_length-le}

-- what is written so far and the pieces that are left are what was there before and all pieces
pub record IsWriting {A : Type 0} (piece : A → List ℕ) (start text : List ℕ) (xs : List A) (i : ℕ) : Type 0 where
  pub so_far : text ++ flat_map piece (drop i xs) ≡ start ++ flat_map piece xs

pub writes_none : {A : Type 0} (piece : A → List ℕ) (start : List ℕ) (xs : List A) → IsWriting piece start start xs 0
writes_none piece start xs = record { so_far = refl }

-- the piece at an index is written
pub writes_at : {A : Type 0} (piece : A → List ℕ) (start text more : List ℕ) (xs : List A) (i : ℕ) (d : A) → IsWriting piece start text xs i → i < length xs → more ≡ text ++ piece (get_or xs i d)
    → IsWriting piece start more xs (i + 1)
writes_at piece start text more xs i d w within e =
    let here : drop i xs ≡ get_or xs i d ∷ drop (i + 1) xs = rw add-one (drop-cons xs i d within) in
    let next : flat_map piece (drop i xs) ≡ piece (get_or xs i d) ++ flat_map piece (drop (i + 1) xs) = rw here refl in
    let all : text ++ (piece (get_or xs i d) ++ flat_map piece (drop (i + 1) xs)) ≡ start ++ flat_map piece xs = rw next at w.so_far in
    record { so_far = rw (e, append_assoc) all }

pub writes_on : {A : Type 0} (piece : A → List ℕ) (start text more : List ℕ) (xs : List A) (i : ℕ) (x : A) → IsWriting piece start text xs i → i < length xs → x ≡ get_or xs i x
    → more ≡ text ++ piece x → IsWriting piece start more xs (i + 1)
writes_on piece start text more xs i x w within one e = writes_at piece start text more xs i x w within (e ∙ ap (λ y. text ++ piece y) one)

pub writes_all : {A : Type 0} (piece : A → List ℕ) (start text : List ℕ) (xs : List A) (i : ℕ) → IsWriting piece start text xs i → length xs ≤ i → text ≡ start ++ flat_map piece xs
writes_all piece start text xs i w h =
    let none : drop i xs ≡ [] = drop_of_length-le xs h in
    sym (append-nil text) ∙ (rw none at w.so_far)

-- two lists side by side are as long as the shorter one
pub zip_ends : {A B : Type 0} (xs : List A) (ys : List B) (i : ℕ) → (length xs ≤ i) ⊎ (length ys ≤ i) → length (zip xs ys) ≤ i
zip_ends xs ys i (inl h) = omega (arith, length-zip xs ys)
zip_ends xs ys i (inr h) = omega (arith, length-zip xs ys)

-- the piece of what stands at an index of two lists, of which the first shows another list, is written
pub writes_pair : {A B D : Type 0} (piece : B × D → List ℕ) (shown : A → B) (start text more : List ℕ) (xs : List A) (ys : List D) (i : ℕ) (x : A) (y : D) → IsWriting piece start text (zip (map shown xs) ys) i
    → i < length xs → i < length ys → more ≡ text ++ piece (shown (get_or xs i x), get_or ys i y) → IsWriting piece start more (zip (map shown xs) ys) (i + 1)
writes_pair {B = B} {D = D} piece shown start text more xs ys i x y w here there e =
    let first : i < length (map shown xs) = rw length-map here in
    let within : i < length (zip (map shown xs) ys) = omega (arith, length-zip (map shown xs) ys) in
    let d : B × D = (shown x, y) in
    let pair : get_or (zip (map shown xs) ys) i d ≡ (get_or (map shown xs) i (shown x), get_or ys i y) = get_or-zip (map shown xs) ys i d first there in
    let both : get_or (zip (map shown xs) ys) i d ≡ (shown (get_or xs i x), get_or ys i y) = pair ∙ (λ j. (get_or-map shown xs i x j, get_or ys i y)) in
    writes_at piece start text more (zip (map shown xs) ys) i d w within (rw both e)

-- the index and the number of a node
pub at_index : (xs : List ℕ) (i x : ℕ) → slice_get xs i ≡ Some x → (i, x) ≡ get_or (enumerate_from 0 xs) i (i, x)
at_index xs i x h =
    let within : i < length xs = slice_get_within xs i x h in
    let d : ℕ × ℕ = (i, x) in
    let there : get_or (enumerate_from 0 xs) i d ≡ (0 + i, get_or xs i x) = get_or-enumerate_from 0 xs i d within in
    let here : get_or xs i x ≡ x = get_or_from_slice_get xs i x x h in
    let index : 0 + i ≡ i = omega arith in
    sym (there ∙ (λ j. (index j, here j)))
