-- Fields into which totals are put, the last one first.
use Rattle.std.proofs.Common.{◌≡◌, ◌≢◌, ◌∙◌, ◌<◌, ◌≤◌, ◌+◌, ℕ, zero, suc, List, [], ◌∷◌, ◌++◌, Option, None, refl, ap, sym, subst, length, get_or, set, replicate, arith, length-set, ⊎_elim}
use Rattle.std.proofs.lemmas.Bool.{cases_eq}
use Rattle.std.proofs.lemmas.List.{get_or-set_other, get_or-set_same}
use Rattle.gm_value.specs.declared.values.Value.{Value}
use Rattle.gm_batch_handlers.specs.declared.row_states.SlotTotal.{SlotTotal}
use Rattle.gm_batch_handlers.specs.Gifts.{held_in, with_totals}
use Rattle.gm_batch_handlers.proofs.HandlingLaws.{totals-at, totals-wide}

-- the first so many columns are left
pub record IsStoredTo (columns : List (List Value)) (totals : List (Option SlotTotal)) (n : ℕ) (now : List (List Value)) : Type 0 where
  pub long : length now ≡ length columns
  pub left : (slot : ℕ) → slot < n → get_or now slot [] ≡ get_or columns slot []
  pub stored : (slot : ℕ) → n ≤ slot → slot < length columns → get_or now slot [] ≡ held_in (get_or columns slot []) (get_or totals slot None)

pub stored-first : (columns : List (List Value)) (totals : List (Option SlotTotal)) (n : ℕ) → n ≡ length columns → IsStoredTo columns totals n columns
stored-first columns totals n e = record {
  long = refl;
  left = λ slot lt. refl;
  stored = λ slot le lt. absurd (omega (arith, e, le, lt));
}

-- a slot more
pub stored-more : (columns : List (List Value)) (totals : List (Option SlotTotal)) (n : ℕ) (t : Option SlotTotal) (now new : List (List Value)) → n < length columns → get_or totals n None ≡ t
    → new ≡ set now n (held_in (get_or columns n []) t) → IsStoredTo columns totals (n + 1) now → IsStoredTo columns totals n new
stored-more columns totals n t now new lt at is so = subst (λ l. IsStoredTo columns totals n l) (sym is) (record {
  long = length-set now n (held_in (get_or columns n []) t) ∙ so.long;
  left = λ slot below. get_or-set_other now n slot (held_in (get_or columns n []) t) [] (λ e. omega (arith, below, e)) ∙ so.left slot (omega (arith, below));
  stored = λ slot le below.
      ⊎_elim
      (λ (here : n ≡ slot).
      subst (λ k. get_or (set now n (held_in (get_or columns n []) t)) k [] ≡ held_in (get_or columns k []) (get_or totals k None)) here
      (get_or-set_same now n (held_in (get_or columns n []) t) [] (omega (arith, lt, so.long)) ∙ ap (held_in (get_or columns n [])) (sym at)))
      (λ (other : n ≢ slot).
      get_or-set_other now n slot (held_in (get_or columns n []) t) [] (λ e. other (sym e)) ∙ so.stored slot (omega (arith, le, other)) below)
      (cases_eq n slot);
})

-- all slots
same-lists : (xs ys : List (List Value)) → length xs ≡ length ys → ((k : ℕ) → k < length ys → get_or xs k [] ≡ get_or ys k []) → xs ≡ ys
same-lists [] [] long h = refl
same-lists [] (y ∷ ys) long h = absurd (omega (arith, long))
same-lists (x ∷ xs) [] long h = absurd (omega (arith, long))
same-lists (x ∷ xs) (y ∷ ys) long h = λ i. h 0 (omega arith) i ∷ same-lists xs ys (omega (arith, long)) (λ k lt. h (suc k) (omega (arith, lt))) i

pub stored-all : (columns : List (List Value)) (totals : List (Option SlotTotal)) (now : List (List Value)) → length totals ≡ length columns
    → IsStoredTo columns totals 0 now → now ≡ with_totals columns totals
stored-all columns totals now wide so =
    same-lists now (with_totals columns totals) (so.long ∙ sym (totals-wide columns totals))
    (λ k lt. let below : k < length columns = omega (arith, lt, totals-wide columns totals) in
    so.stored k (omega arith) below ∙ sym (totals-at columns totals k wide below))

-- totals that were popped
pub length-both : (xs : List (Option SlotTotal)) (t : Option SlotTotal) → length (xs ++ t ∷ []) ≡ length xs + 1
length-both [] t = omega arith
length-both (x ∷ xs) t = omega (arith, length-both xs t)

pub popped : (totals now rest : List (Option SlotTotal)) (t : Option SlotTotal) → now ≡ rest ++ t ∷ [] → ((k : ℕ) → k < length now → get_or now k None ≡ get_or totals k None)
    → (get_or totals (length rest) None ≡ t) × ((k : ℕ) → k < length rest → get_or rest k None ≡ get_or totals k None)
popped totals now rest t is same = (
  sym (same (length rest) (omega (arith, ap length is, length-both rest t))) ∙ ap (λ l. get_or l (length rest) None) is ∙ at-end rest t,
  λ k lt. sym (in-front rest t k lt) ∙ sym (ap (λ l. get_or l k None) is) ∙ same k (omega (arith, lt, ap length is, length-both rest t)),
)
  where
    at-end : (xs : List (Option SlotTotal)) (t : Option SlotTotal) → get_or (xs ++ t ∷ []) (length xs) None ≡ t
    at-end [] t = refl
    at-end (x ∷ xs) t = at-end xs t

    in-front : (xs : List (Option SlotTotal)) (t : Option SlotTotal) (k : ℕ) → k < length xs → get_or (xs ++ t ∷ []) k None ≡ get_or xs k None
    in-front [] t k lt = absurd (omega (arith, lt))
    in-front (x ∷ xs) t zero lt = refl
    in-front (x ∷ xs) t (suc k) lt = in-front xs t k (omega (arith, lt))

-- a slot more, whose total is the last one
pub storing-step : (columns : List (List Value)) (totals now rest : List (Option SlotTotal)) (t : Option SlotTotal) (fields new : List (List Value)) → now ≡ rest ++ t ∷ []
    → length now ≤ length columns → IsStoredTo columns totals (length now) fields → ((k : ℕ) → k < length now → get_or now k None ≡ get_or totals k None)
    → new ≡ set fields (length rest) (held_in (get_or fields (length rest) []) t)
    → (length rest ≤ length columns) × (IsStoredTo columns totals (length rest) new × ((k : ℕ) → k < length rest → get_or rest k None ≡ get_or totals k None))
storing-step columns totals now rest t fields new is le so same stored =
    let long : length now ≡ length rest + 1 = ap length is ∙ length-both rest t in
    let out = popped totals now rest t is same in (
      omega (arith, long, le),
      (
        stored-more columns totals (length rest) t fields new (omega (arith, long, le)) out.0
            (stored ∙ ap (λ xs. set fields (length rest) (held_in xs t)) (so.left (length rest) (omega (arith, long))))
            (subst (λ n. IsStoredTo columns totals n fields) long so),
        out.1,
      ),
    )

-- no total more
abbrev no-total : Option SlotTotal
no-total = None

pub replicated-more : (totals : List (Option SlotTotal)) → totals ≡ replicate (length totals) None → totals ++ None ∷ [] ≡ replicate (length (totals ++ None ∷ [])) None
replicated-more totals is = ap (λ l. l ++ None ∷ []) is ∙ push (length totals) ∙ ap (λ n. replicate n None) (sym (length-more totals)) where
  push : (n : ℕ) → replicate n (no-total) ++ no-total ∷ [] ≡ replicate (suc n) no-total
  push zero = refl
  push (suc n) = ap (λ l. no-total ∷ l) (push n)

  length-more : (xs : List (Option SlotTotal)) → length (xs ++ None ∷ []) ≡ suc (length xs)
  length-more [] = refl
  length-more (x ∷ xs) = ap suc (length-more xs)
