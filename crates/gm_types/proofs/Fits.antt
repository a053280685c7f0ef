-- The values of a reduction against its targets, one by one.
use Rattle.std.proofs.Common.{◌≡◌, ◌+◌, ℕ, Bool, false, nat_eq, List, [], ◌∷◌, ◌++◌, map, length, drop, get_or, ◌<◌, ◌≤◌, Vec, Global, ap, refl, sym, ◌∙◌, append-nil, append_assoc, option_map, Option, ◌≢◌, arith}
use Rattle.std.specs.Prelude.{Some, None, Ok, Err, if◌then◌else◌}
use Rattle.std.proofs.lemmas.Bool.Decides.{nat_tests}
use Rattle.std.proofs.lemmas.List.{map-append, drop_more, drop_all, length-map}
use Rattle.gm_base.specs.declared.places.Place.{Place}
use Rattle.gm_base.specs.declared.rules.Rule.TheVariants.{T9}
use Rattle.gm_ast.specs.declared.kinds.Goal.{Goal}
use Rattle.gm_ast.specs.Program.{Expr}
use Rattle.gm_ast.specs.Judged.{Answer, ok_of, errs_of, refused}
use Rattle.gm_ast.specs.Kinds.{Part}
use Rattle.gm_ast.specs.Statements.{fits_each, fits_goal, answers_with}
use Rattle.gm_types.specs.declared.parts.Part as Held
use Rattle.gm_types.specs.Parts.{part_of}
use Rattle.gm_types.specs.Shapes.{with_last, joined}

-- the values, and after the last of them whether there are as many targets
abbrev pub fits_left : Place → Bool → List Goal → List Part → List (Answer Expr)
fits_left at same gs [] = if same then [] else refused T9 at ∷ []
fits_left at same [] (p ∷ ps) = if same then [] else refused T9 at ∷ []
fits_left at same (g ∷ gs) (p ∷ ps) = fits_goal g.wanted T9 at p ∷ fits_left at same gs ps

-- two numbers that differ
unequal : (m n : ℕ) → m ≢ n → nat_eq m n ≡ false
unequal m n h = grind (arith, nat_tests)

-- the numbers after two are equal where these are
alike : (m n k l : ℕ) → k ≡ m + 1 → l ≡ n + 1 → nat_eq m n ≡ nat_eq k l
alike m n k l h j = grind (arith, nat_tests)

-- as many values as targets, or not
pub fits-left : (at : Place) (gs : List Goal) (ps : List Part) → fits_each at gs ps ≡ fits_left at (nat_eq (length gs) (length ps)) gs ps
fits-left at [] [] = refl
fits-left at [] (p ∷ ps) = ap (λ same. if same then [] else refused T9 at ∷ []) (sym (unequal 0 (length (p ∷ ps)) (omega arith)))
fits-left at (g ∷ gs) [] = ap (λ same. if same then [] else refused T9 at ∷ []) (sym (unequal (length (g ∷ gs)) 0 (omega arith)))
fits-left at (g ∷ gs) (p ∷ ps) =
    ap (λ answers. fits_goal g.wanted T9 at p ∷ answers) (fits-left at gs ps)
    ∙ ap (λ same. fits_goal g.wanted T9 at p ∷ fits_left at same gs ps) (alike (length gs) (length ps) (length (g ∷ gs)) (length (p ∷ ps)) (omega arith) (omega arith))

-- a value beyond the last target
pub fits-beyond : (at : Place) (same : Bool) (p : Part) (ps : List Part) → fits_left at same [] (p ∷ ps) ≡ fits_left at same [] ps
fits-beyond at same p [] = refl
fits-beyond at same p (q ∷ ps) = refl

-- before the first value
pub fits-first : (at : Place) (gs : List Goal) (held items : List Held.Part) (count : ℕ) → items ≡ held → count ≡ length held
    → fits_left at (nat_eq (length gs) count) gs (map part_of items) ≡ fits_each at gs (map part_of held)
fits-first at gs held items count h k =
    ap (λ (ps : List Held.Part). fits_left at (nat_eq (length gs) count) gs (map part_of ps)) h
    ∙ ap (λ (n : ℕ). fits_left at (nat_eq (length gs) n) gs (map part_of held)) (k ∙ sym (length-map held part_of))
    ∙ sym (fits-left at gs (map part_of held))

-- one value more
pub fits-next : (at : Place) (same : Bool) (gs : List Goal) (n : ℕ) (d : Goal) (p : Part) (ps : List Part) → n < length gs
    → fits_left at same (drop n gs) (p ∷ ps) ≡ fits_goal (get_or gs n d).wanted T9 at p ∷ fits_left at same (drop (n + 1) gs) ps
fits-next at same gs n d p ps lt = ap (λ hs. fits_left at same hs (p ∷ ps)) (drop_more gs n d lt)

-- a value more, beyond the last target
pub fits-past : (at : Place) (same : Bool) (gs : List Goal) (n : ℕ) (p : Part) (ps : List Part) → length gs ≤ n
    → fits_left at same (drop n gs) (p ∷ ps) ≡ fits_left at same (drop n gs) ps
fits-past at same gs n p ps h =
    ap (λ hs. fits_left at same hs (p ∷ ps)) (drop_all n gs h) ∙ fits-beyond at same p ps ∙ ap (λ hs. fits_left at same hs ps) (sym (drop_all n gs h))

-- an answer more is held
pub joined-answer : {A : Type 0} (held : Option (List A)) (a : Answer A) (rest : Answer (List A))
    → joined held (ok_of (answers_with (λ x xs. x ∷ xs) a rest)) ≡ joined (with_last held (ok_of a)) (ok_of rest)
joined-answer None a rest = refl
joined-answer (Some xs) (Ok a) (Ok ys) = ap Some (sym (append_assoc xs (a ∷ []) ys))
joined-answer (Some xs) (Ok a) (Err rs) = refl
joined-answer (Some xs) (Err es) (Ok ys) = refl
joined-answer (Some xs) (Err es) (Err rs) = refl

-- what is broken by two answers
pub errs-answers : {A B C : Type 0} (f : A → B → C) (a : Answer A) (b : Answer B) → errs_of (answers_with f a b) ≡ errs_of a ++ errs_of b
errs-answers f (Ok a) (Ok b) = refl
errs-answers f (Ok a) (Err rs) = refl
errs-answers f (Err es) (Ok b) = sym (append-nil es)
errs-answers f (Err es) (Err rs) = refl

-- one more is held of what something is made of
pub with_last-map : {A B : Type 0} (f : A → B) (xs : Option (List A)) (x : Option A) → option_map (map f) (with_last xs x) ≡ with_last (option_map (map f) xs) (option_map f x)
with_last-map f None x = refl
with_last-map f (Some xs) None = refl
with_last-map f (Some xs) (Some x) = ap Some (map-append f xs (x ∷ []))

-- what is made of the items that are held
pub items-made : {A B : Type 0} (f : A → B) (o : Option (Vec A Global)) → option_map (λ v. map f v.items) o ≡ option_map (map f) (option_map (λ v. v.items) o)
items-made f None = refl
items-made f (Some v) = refl

-- one more is held, as what is made of the items
pub held-next : {A B : Type 0} (f : A → B) (held more : Option (Vec A Global)) (x : Option A) → option_map (λ v. v.items) more ≡ with_last (option_map (λ v. v.items) held) x
    → option_map (λ v. map f v.items) more ≡ with_last (option_map (λ v. map f v.items) held) (option_map f x)
held-next f held more x h =
    items-made f more ∙ ap (option_map (map f)) h ∙ with_last-map f (option_map (λ v. v.items) held) x
    ∙ ap (λ xs. with_last xs (option_map f x)) (sym (items-made f held))
