-- What is written behind a text, put together.
use Rattle.std.proofs.Common.{◌≡◌, ℕ, ◌+◌, ◌<◌, ◌≤◌, List, [], ◌∷◌, ◌++◌, length, map, drop, get_or, refl, ap, sym, ◌∙◌, add-one, append_assoc, append-nil}
use Rattle.std.specs.Prelude.{codes, Result, Ok, Err, OnOk}
use Rattle.std.specs.Fmt.{decimal}
use Rattle.std.specs.List.{flat_map}
use Rattle.std.proofs.Math.Seq.{drop-cons}
use Rattle.std.proofs.Math.ListN.{drop_of_length-le}
use Rattle.std.proofs.lemmas.List.{length-map}
use Rattle.std.proofs.lemmas.List.Folds.{flat_map-map}
use Rattle.gm_image_text.specs.Lines.{Word, Line, led, joined, spaced, text_of}
use Rattle.gm_image_text.specs.Spelling.{listed}

-- words behind words, and lines behind lines
pub led_both : (ws vs : List Word) → led (ws ++ vs) ≡ led ws ++ led vs
led_both [] vs = refl
led_both (w ∷ ws) vs = ap (λ v. 32 ∷ v) (ap (λ v. w ++ v) (led_both ws vs) ∙ sym (append_assoc w (led ws) (led vs)))

pub text_both : (ls ks : List Line) → text_of (ls ++ ks) ≡ text_of ls ++ text_of ks
text_both [] ks = refl
text_both (l ∷ ls) ks = ap (λ v. l ++ v) (text_both ls ks) ∙ sym (append_assoc l (text_of ls) (text_of ks))

-- lines behind lines, each part written behind what is there
pub two_texts : (o t1 t2 : List ℕ) (ls ks : List Line) → t1 ≡ o ++ text_of ls → t2 ≡ t1 ++ text_of ks → t2 ≡ o ++ text_of (ls ++ ks)
two_texts o t1 t2 ls ks e1 e2 =
    e2 ∙ ap (λ v. v ++ text_of ks) e1 ∙ append_assoc o (text_of ls) (text_of ks) ∙ ap (λ v. o ++ v) (sym (text_both ls ks))

-- one line
pub line_text : (o t : List ℕ) (line : Line) → t ≡ o ++ line → t ≡ o ++ text_of (line ∷ [])
line_text o t line e = e ∙ ap (λ v. o ++ v) (sym (append-nil line))

-- a line of a word and a name
pub named_line : (o t1 t2 t3 : List ℕ) (word name : Word) → t1 ≡ o ++ word → t2 ≡ t1 ++ led (name ∷ []) → t3 ≡ t2 ++ 10 ∷ [] → t3 ≡ o ++ spaced (word ∷ name ∷ [])
named_line o t1 t2 t3 word name e1 e2 e3 = e3 ∙ ap (λ v. v ++ 10 ∷ []) (e2 ∙ ap (λ v. v ++ led (name ∷ [])) e1) ∙ simp (append_assoc, append-nil)

-- a line's first word, a number, and words behind them
pub sent : (o t1 t2 t3 t4 : List ℕ) (word kind : Word) (to vs : List Word) → t1 ≡ o ++ word → t2 ≡ t1 ++ led (kind ∷ []) → t3 ≡ t2 ++ led to → t4 ≡ t3 ++ led vs → t4 ≡ o ++ joined (word ∷ kind ∷ (to ++ vs))
sent o t1 t2 t3 t4 word kind to vs e1 e2 e3 e4 =
    e4 ∙ ap (λ v. v ++ led vs) (e3 ∙ ap (λ v. v ++ led to) (e2 ∙ ap (λ v. v ++ led (kind ∷ [])) e1))
    ∙ simp (led_both, append_assoc, append-nil)

-- words behind words, each part written behind what is there, where the second writing may fail
two_leds : (o t1 t2 : List ℕ) (ws vs : List Word) → t1 ≡ o ++ led ws → t2 ≡ t1 ++ led vs → t2 ≡ o ++ led (ws ++ vs)
two_leds o t1 t2 ws vs e1 e2 = e2 ∙ ap (λ v. v ++ led vs) e1 ∙ append_assoc o (led ws) (led vs) ∙ ap (λ v. o ++ v) (sym (led_both ws vs))

pub after_led : {A E : Type 0} (r : Result A E) (o t1 t2 : List ℕ) (ws vs all : List Word) → all ≡ ws ++ vs → t1 ≡ o ++ led ws → OnOk r (t2 ≡ t1 ++ led vs) → OnOk r (t2 ≡ o ++ led all)
after_led (Ok x) o t1 t2 ws vs all s e h = two_leds o t1 t2 ws vs e h ∙ ap (λ v. o ++ led v) (sym s)
after_led (Err x) o t1 t2 ws vs all s e h = h

pub after_two : {A E : Type 0} (r : Result A E) (o t1 t2 t3 : List ℕ) (ws vs us all : List Word) → all ≡ ws ++ (vs ++ us) → t1 ≡ o ++ led ws → t2 ≡ t1 ++ led vs → OnOk r (t3 ≡ t2 ++ led us) → OnOk r (t3 ≡ o ++ led all)
after_two r o t1 t2 t3 ws vs us all s e1 e2 h =
    after_led r o t2 t3 (ws ++ vs) us all (s ∙ sym (append_assoc ws vs us)) (two_leds o t1 t2 ws vs e1 e2) h

-- the first line of a handler, and its other lines
pub on_lines : (o t1 t2 t3 t4 t5 : List ℕ) (kind count : Word) (rest : List Line) → t1 ≡ o ++ codes "on" → t2 ≡ t1 ++ led (kind ∷ []) → t3 ≡ t2 ++ led (count ∷ []) → t4 ≡ t3 ++ 10 ∷ [] → t5 ≡ t4 ++ text_of rest
    → t5 ≡ o ++ text_of (spaced (codes "on" ∷ kind ∷ count ∷ []) ∷ rest)
on_lines o t1 t2 t3 t4 t5 kind count rest e1 e2 e3 e4 e5 =
    e5 ∙ ap (λ v. v ++ text_of rest) (e4 ∙ ap (λ v. v ++ 10 ∷ []) (e3 ∙ ap (λ v. v ++ led (count ∷ [])) (e2 ∙ ap (λ v. v ++ led (kind ∷ [])) e1)))
    ∙ simp (append_assoc, append-nil)

-- the words of each, and the lines of each
pub led_flat : {X Y : Type 0} (view : X → Y) (f : Y → List Word) (xs : List X) → led (flat_map f (map view xs)) ≡ flat_map (λ x. led (f (view x))) xs
led_flat view f [] = refl
led_flat view f (x ∷ xs) = led_both (f (view x)) (flat_map f (map view xs)) ∙ ap (λ v. led (f (view x)) ++ v) (led_flat view f xs)

pub led_each : {X : Type 0} (f : X → Word) (xs : List X) → led (map f xs) ≡ flat_map (λ x. led (f x ∷ [])) xs
led_each f [] = refl
led_each f (x ∷ xs) = ap (λ v. 32 ∷ v) (ap (λ v. f x ++ v) (led_each f xs) ∙ ap (λ v. v ++ flat_map (λ y. led (f y ∷ [])) xs) (sym (append-nil (f x))))

pub text_flat : {X : Type 0} (f : X → List Line) (xs : List X) → text_of (flat_map f xs) ≡ flat_map (λ x. text_of (f x)) xs
text_flat f [] = refl
text_flat f (x ∷ xs) = text_both (f x) (flat_map f xs) ∙ ap (λ v. text_of (f x) ++ v) (text_flat f xs)

-- a header with so many items, seen through a view
pub listed_seen : {X Y : Type 0} (word : Word) (view : X → Y) (f : Y → List Line) (xs : List X) → listed word (λ x. f (view x)) xs ≡ listed word f (map view xs)
listed_seen word view f xs =
    ap (λ v. spaced (word ∷ decimal (length xs) ∷ []) ∷ v) (sym (flat_map-map f view xs))
    ∙ ap (λ n. spaced (word ∷ decimal n ∷ []) ∷ flat_map f (map view xs)) (sym (length-map xs view))

pub text_seen : {X Y : Type 0} (word : Word) (view : X → Y) (f : Y → List Line) (xs : List X) (o t : List ℕ) → t ≡ o ++ text_of (listed word (λ x. f (view x)) xs) → t ≡ o ++ text_of (listed word f (map view xs))
text_seen word view f xs o t e = e ∙ ap (λ ls. o ++ text_of ls) (listed_seen word view f xs)

-- what is written so far and the pieces that are left are what was there before and all pieces
pub record IsWriting {A : Type 0} (piece : A → List ℕ) (start text : List ℕ) (xs : List A) (i : ℕ) : Type 0 where
  pub so_far : text ++ flat_map piece (drop i xs) ≡ start ++ flat_map piece xs

pub writes_none : {A : Type 0} (piece : A → List ℕ) (start : List ℕ) (xs : List A) → IsWriting piece start start xs 0
writes_none piece start xs = record { so_far = refl }

-- the piece at an index is written
pub writes_at : {A : Type 0} (piece : A → List ℕ) (start text more : List ℕ) (xs : List A) (i : ℕ) (d : A) → IsWriting piece start text xs i → i < length xs → more ≡ text ++ piece (get_or xs i d)
    → IsWriting piece start more xs (i + 1)
writes_at piece start text more xs i d w within e =
    let here : drop i xs ≡ get_or xs i d ∷ drop (i + 1) xs = rw add-one (drop-cons xs i d within) in
    let next : flat_map piece (drop i xs) ≡ piece (get_or xs i d) ++ flat_map piece (drop (i + 1) xs) = rw here refl in
    let all : text ++ (piece (get_or xs i d) ++ flat_map piece (drop (i + 1) xs)) ≡ start ++ flat_map piece xs = rw next at w.so_far in
    record { so_far = rw (e, append_assoc) all }

pub writes_on : {A : Type 0} (piece : A → List ℕ) (start text more : List ℕ) (xs : List A) (i : ℕ) (x : A) → IsWriting piece start text xs i → i < length xs → x ≡ get_or xs i x
    → more ≡ text ++ piece x → IsWriting piece start more xs (i + 1)
writes_on piece start text more xs i x w within one e = writes_at piece start text more xs i x w within (e ∙ ap (λ y. text ++ piece y) one)

pub writes_all : {A : Type 0} (piece : A → List ℕ) (start text : List ℕ) (xs : List A) (i : ℕ) → IsWriting piece start text xs i → length xs ≤ i → text ≡ start ++ flat_map piece xs
writes_all piece start text xs i w h =
    let none : drop i xs ≡ [] = drop_of_length-le xs h in
    sym (append-nil text) ∙ (rw none at w.so_far)
