-- Where a skip ends, as the code knows the lines behind it.
use Rattle.std.proofs.Common.{◌≡◌, ◌<◌, ◌≤◌, ℕ, Bool, true, false, not, Some, None, List, length, refl, sym, ap, ◌∙◌, arith}
use Rattle.std.specs.Prelude.{nat_eq, nat_le, ◌&&◌, slice_get}
use Rattle.std.proofs.lemmas.Bool.Decides.{nat_tests}
use Rattle.std.proofs.lemmas.Option.{slice_get_within}
use Rattle.gm_image.specs.Program.{Line}
use Rattle.gm_image.specs.Spans.{left_past, skips_whole}
use Rattle.gm_verify.specs.Sites.{ShowsLater}

twice : (b : Bool) → not (not b) ≡ b
twice true = refl
twice false = refl

same : (a b : Bool) → Some a ≡ Some b → a ≡ b
same a b e = cc

below : (n m : ℕ) → n ≤ m → nat_le n m ≡ true
below n m h = grind (arith, nat_tests, h)

pub skips-some : (insides : List Bool) (later : List Line) (n : ℕ) (b : Bool) → ShowsLater insides later → Some b ≡ slice_get insides n → not b ≡ skips_whole n later
skips-some insides later n b s is =
    let lt : n < length insides = slice_get_within insides n b (sym is) in
    let low : n ≤ length later = omega (arith, lt, s.long) in
    let known : b ≡ not (nat_eq (left_past 0 n later) 0) = same _ _ (is ∙ s.known n low) in
    ap not known ∙ twice (nat_eq (left_past 0 n later) 0) ∙ sym (ap (λ (c : Bool). c && nat_eq (left_past 0 n later) 0) (below n (length later) low))

pub skips-none : (insides : List Bool) (later : List Line) (n : ℕ) → ShowsLater insides later → None ≡ slice_get insides n → false ≡ skips_whole n later
skips-none insides later n s is = elim (nat_le n (length later)) as (λ c. nat_le n (length later) ≡ c → false ≡ (c && nat_eq (left_past 0 n later) 0)) [
  | true ↦ λ e.
      let low : n ≤ length later = grind (arith, nat_tests, e) in
      let found : None ≡ Some (not (nat_eq (left_past 0 n later) 0)) = is ∙ s.known n low in
      absurd cc
  | false ↦ λ e. refl
] refl
