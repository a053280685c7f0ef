-- Parts in a row, and lists behind their headers.
use Rattle.std.proofs.Common.{◌≡◌, ℕ, zero, suc, List, [], ◌∷◌, ◌++◌, length, refl, ap, sym, subst, arith}
use Rattle.std.specs.Prelude.{Ok}
use Rattle.std.specs.List.{flat_map, AllByRecursion}
use Rattle.gm_image_text.specs.Lines.{Line}
use Rattle.gm_image_text.specs.Sections.{Reads, then_at, times_at}
use Rattle.gm_image_text.proofs.Binds.{ok_is}
use Rattle.gm_image_text.proofs.Spelled.{IsLine}
use Rattle.gm_image_text.proofs.Parts.{PartLaw, dep_law, Recasts, mapped_law}

-- a list with as many items as a count says
pub record Counted {X : Type 0} (F : X → Type 0) (n : ℕ) (xs : List X) : Type 0 where
  pub many : length xs ≡ n
  pub each : AllByRecursion F xs

module _ {X : Type 0} (F : X → Type 0) (lines : X → List Line) (read : Reads X) (law : PartLaw F lines read) where
  empty_is : (xs : List X) → length xs ≡ 0 → xs ≡ []
  empty_is [] e = refl
  empty_is (x ∷ xs) e = absurd (omega (arith, e))

  none_law : PartLaw (Counted F 0) (flat_map lines) (times_at read 0)
  none_law = record {
    some = [];
    some_fits = record { many = refl; each = tt };
    ok = λ ls rest xs e.
        let pair : ([], ls) ≡ (xs, rest) = ok_is ([], ls) (xs, rest) e in
        let P : List X × List Line → Type 0 = λ v. Counted F 0 v.0 × (ls ≡ flat_map lines v.0 ++ v.1) in
        subst P pair (record { many = refl; each = tt }, refl);
    again = λ xs rest h.
        let none : xs ≡ [] = empty_is xs h.many in
        let P : List X → Type 0 = λ v. times_at read 0 (flat_map lines v ++ rest) ≡ Ok (v, rest) in
        subst P (sym none) refl;
    fault = λ ls rest e. cc;
    ended = λ xs h.
        let P : List X → Type 0 = λ v. AllByRecursion IsLine (flat_map lines v) in
        subst P (sym (empty_is xs h.many)) tt;
  }

  abbrev head_of : X → List X → X
  head_of d [] = d
  head_of d (x ∷ xs) = x

  abbrev tail_of : List X → List X
  tail_of [] = []
  tail_of (x ∷ xs) = xs

  abbrev take_apart : List X → X × List X
  take_apart xs = (head_of law.some xs, tail_of xs)

  recasts_list : (n : ℕ) → Recasts {X = X × List X} {Y = List X} (λ z. F z.0 × Counted F n z.1) (λ z. lines z.0 ++ flat_map lines z.1) (Counted F (suc n)) (flat_map lines) (λ z. z.0 ∷ z.1) take_apart
  recasts_list n = record {
    there = λ z h. (record { many = ap suc h.1.many; each = (h.0, h.1.each) }, refl);
    back = λ xs h. parts xs h;
  } where
    parts : (xs : List X) → Counted F (suc n) xs → (F (take_apart xs).0 × Counted F n (take_apart xs).1) × ((take_apart xs).0 ∷ (take_apart xs).1 ≡ xs)
    parts [] h = let bad : 0 ≡ suc n = h.many in absurd (omega (arith, bad))
    parts (x ∷ xs) h =
        let many : length (x ∷ xs) ≡ suc n = h.many in
        ((h.each.0, record { many = omega (arith, many); each = h.each.1 }), refl)

  -- so many parts in a row
  pub times_law : (n : ℕ) → PartLaw (Counted F n) (flat_map lines) (times_at read n)
  times_law zero = none_law
  times_law (suc n) =
      mapped_law (λ z. F z.0 × Counted F n z.1) (λ z. lines z.0 ++ flat_map lines z.1) (then_at read (λ ms. times_at read n ms))
      (dep_law F lines read law (λ x xs. Counted F n xs) (λ x xs. flat_map lines xs) (λ x ms. times_at read n ms) (λ x f. times_law n))
      (Counted F (suc n)) (flat_map lines) (λ z. z.0 ∷ z.1) take_apart (recasts_list n)
