-- The index of the first reduction that has a slot, while a reduction is added.
use Rattle.std.proofs.Common.{◌≡◌, ◌+◌, ◌<◌, ℕ, zero, suc, Bool, true, false, cond, Option, Some, None, List, [], ◌∷◌, ◌++◌, length, map, take, get_or, refl, sym, ap, ◌∙◌, arith}
use Rattle.std.specs.Prelude.{nat_eq, ◌||◌, find, slice_get, is_some}
use Rattle.std.specs.HashMap.{get}
use Rattle.std.specs.Option.{option_or}
use Rattle.std.proofs.lemmas.List.{map-append, length-map}
use Rattle.std.proofs.lemmas.List.Folds.{find-append}
use Rattle.std.proofs.lemmas.Bool.Decides.{nat_tests}
use Rattle.gm_image.specs.declared.lines.Expr.{Expr}
use Rattle.gm_image.specs.Views.{target}
use Rattle.gm_image.specs.Parts.{slots_of, is_among}
use Rattle.gm_image.specs.Folds as F
use Rattle.gm_image.specs.Folds.{has_slot}
use Rattle.gm_verify.specs.declared.firsts.Reduction.{Reduction}
use Rattle.gm_verify.specs.declared.firsts.Firsts.{Firsts}
use Rattle.gm_verify.specs.Firsts.{reduction_of, found_at, ShowsFirsts}
use Rattle.gm_verify.proofs.Slots.{among-more}

-- the index of a slot: the one that it had, else the new one where the slot is among those so far
abbrev pub index_with : Option ℕ → Bool → ℕ → Option ℕ
index_with (Some k) b index = Some k
index_with None true index = Some index
index_with None false index = None

-- a slot that has an index already
pub present : (a : Option ℕ) (b c : Bool) (index : ℕ) → (c ≡ true → is_some (index_with a b index) ≡ true) → index_with a b index ≡ index_with a (c || b) index
present (Some k) b c index h = refl
present None true true index h = refl
present None true false index h = refl
present None false false index h = refl
present None false true index h = absurd (no (h refl))
  where
    no : false ≡ true → ⊥
    no e = cc

-- a slot that gets the new index
pub absent : (a : Option ℕ) (b c : Bool) (index : ℕ) → (c ≡ true → is_some (index_with a b index) ≡ false) → cond c (Some index) (index_with a b index) ≡ index_with a (c || b) index
absent a b false index h = refl
absent None false true index h = refl
absent None true true index h = refl
absent (Some k) b true index h = absurd (no (h refl))
  where
    no : true ≡ false → ⊥
    no e = cc

-- equal slots have one index
pub same_slot : (f : ℕ → Option ℕ) (x i : ℕ) (b : Bool) → is_some (f x) ≡ b → nat_eq x i ≡ true → is_some (f i) ≡ b
same_slot f x i b h e =
    let at : x ≡ i = grind (arith, nat_tests, e) in
    ap (λ (k : ℕ). is_some (f k)) (sym at) ∙ h

pub get-left : {A : Type 0} (xs ys : List A) (k : ℕ) → k < length xs → slice_get (xs ++ ys) k ≡ slice_get xs k
get-left [] ys k lt = absurd (omega arith)
get-left (x ∷ xs) ys zero lt = refl
get-left (x ∷ xs) ys (suc k) lt = get-left xs ys k (omega (arith, lt))

pub get-last : {A : Type 0} (xs : List A) (y : A) → slice_get (xs ++ y ∷ []) (length xs) ≡ Some y
get-last [] y = refl
get-last (x ∷ xs) y = get-last xs y

pub length-push : {A : Type 0} (xs : List A) (y : A) → length (xs ++ y ∷ []) ≡ length xs + 1
length-push [] y = refl
length-push (x ∷ xs) y =
    let rest : length (xs ++ y ∷ []) ≡ length xs + 1 = length-push xs y in
    omega (arith, rest)

get-some : {A : Type 0} (xs : List A) (k : ℕ) → k < length xs → slice_get xs k ≡ None → ⊥
get-some [] k lt h = omega (arith, lt)
get-some (x ∷ xs) zero lt h = cc
get-some (x ∷ xs) (suc k) lt h = get-some xs k (omega (arith, lt)) h

or-some : {A : Type 0} (o z : Option A) → (o ≡ None → ⊥) → option_or o z ≡ o
or-some (Some x) z h = refl
or-some None z h = absurd (h refl)

-- where a slot is found first, with one more reduction
picked : (rs : List F.Reduction) (r : F.Reduction) (i : ℕ) (o : Option ℕ) (b : Bool) → find (has_slot i) rs ≡ found_at rs o → ((k : ℕ) → o ≡ Some k → k < length rs) → has_slot i r ≡ b
    → option_or (find (has_slot i) rs) (cond (has_slot i r) (Some r) None) ≡ found_at (rs ++ r ∷ []) (index_with o b (length rs))
picked rs r i (Some k) b is within has =
    ap (λ (o : Option F.Reduction). option_or o (cond (has_slot i r) (Some r) None)) is
    ∙ or-some (slice_get rs k) (cond (has_slot i r) (Some r) None) (get-some rs k (within k refl)) ∙ sym (get-left rs (r ∷ []) k (within k refl))
picked rs r i None true is within has =
    ap (λ (o : Option F.Reduction). option_or o (cond (has_slot i r) (Some r) None)) is
    ∙ ap (λ (b : Bool). cond b (Some r) None) has ∙ sym (get-last rs r)
picked rs r i None false is within has =
    ap (λ (o : Option F.Reduction). option_or o (cond (has_slot i r) (Some r) None)) is
    ∙ ap (λ (b : Bool). cond b (Some r) None) has

-- the indices stay below the number of reductions
kept-within : (n : ℕ) (o : Option ℕ) (b : Bool) (k : ℕ) → ((j : ℕ) → o ≡ Some j → j < n) → index_with o b n ≡ Some k → k < n + 1
kept-within n (Some j) b k within h =
    let e : j ≡ k = cc in
    let lt : j < n = within j refl in
    omega (arith, e, lt)
kept-within n None true k within h =
    let e : n ≡ k = cc in
    omega (arith, e)
kept-within n None false k within h = absurd cc

-- a reduction is added
pub shows-add : (f new : Firsts) (rs : List F.Reduction) (r : Reduction) → ShowsFirsts f rs → new.reductions.items ≡ f.reductions.items ++ r ∷ []
    → ((i : ℕ) → get nat_eq new.indices i ≡ index_with (get nat_eq f.indices i) (is_among i (reduction_of r).slots) (length f.reductions.items))
    → ShowsFirsts new (rs ++ reduction_of r ∷ [])
shows-add f new rs r s more at =
    let long : length f.reductions.items ≡ length rs = sym (ap length s.reductions ∙ length-map f.reductions.items reduction_of) in
    let now : (i : ℕ) → get nat_eq new.indices i ≡ index_with (get nat_eq f.indices i) (is_among i (reduction_of r).slots) (length rs) =
    λ i. at i ∙ ap (λ (n : ℕ). index_with (get nat_eq f.indices i) (is_among i (reduction_of r).slots) n) long in
    record {
      reductions = ap (λ (xs : List F.Reduction). xs ++ reduction_of r ∷ []) s.reductions ∙ sym (ap (map reduction_of) more ∙ map-append reduction_of f.reductions.items (r ∷ []));
      first = λ i.
          find-append (has_slot i) rs (reduction_of r ∷ [])
          ∙ picked rs (reduction_of r) i (get nat_eq f.indices i) (is_among i (reduction_of r).slots) (s.first i) (λ k h. s.within i k h) refl
          ∙ ap (found_at (rs ++ reduction_of r ∷ [])) (sym (now i));
      within = λ i k h.
          let lt : k < length rs + 1 = kept-within (length rs) (get nat_eq f.indices i) (is_among i (reduction_of r).slots) k (λ j e. s.within i j e) (sym (now i) ∙ h) in
          let more_long : length (rs ++ reduction_of r ∷ []) ≡ length rs + 1 = length-push rs (reduction_of r) in
          omega (arith, lt, more_long);
    }

-- the indices behind a slot that has one already
pub index-kept : (before now : ℕ → Option ℕ) (ts : List (ℕ × Expr)) (i : ℕ) (t : ℕ × Expr) (index : ℕ) → i < length ts → t ≡ get_or ts i t
    → ((n : ℕ) → now n ≡ index_with (before n) (is_among n (slots_of (map target (take i ts)))) index) → is_some (now t.0) ≡ true
    → (n : ℕ) → now n ≡ index_with (before n) (is_among n (slots_of (map target (take (i + 1) ts)))) index
index-kept before now ts i t index lt is inv has n =
    inv n
    ∙ present (before n) (is_among n (slots_of (map target (take i ts)))) (nat_eq t.0 n) index (λ e. sym (ap is_some (inv n)) ∙ same_slot now t.0 n true has e)
    ∙ ap (λ (b : Bool). index_with (before n) b index) (sym (among-more ts i t n lt is))

-- and behind one that gets the new index
pub index-put : (before now after : ℕ → Option ℕ) (ts : List (ℕ × Expr)) (i : ℕ) (t : ℕ × Expr) (index : ℕ) → i < length ts → t ≡ get_or ts i t
    → ((n : ℕ) → now n ≡ index_with (before n) (is_among n (slots_of (map target (take i ts)))) index) → is_some (now t.0) ≡ false
    → ((n : ℕ) → after n ≡ cond (nat_eq t.0 n) (Some index) (now n))
    → (n : ℕ) → after n ≡ index_with (before n) (is_among n (slots_of (map target (take (i + 1) ts)))) index
index-put before now after ts i t index lt is inv has put n =
    put n ∙ ap (cond (nat_eq t.0 n) (Some index)) (inv n)
    ∙ absent (before n) (is_among n (slots_of (map target (take i ts)))) (nat_eq t.0 n) index (λ e. sym (ap is_some (inv n)) ∙ same_slot now t.0 n false has e)
    ∙ ap (λ (b : Bool). index_with (before n) b index) (sym (among-more ts i t n lt is))
