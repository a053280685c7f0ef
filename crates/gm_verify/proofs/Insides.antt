-- Which lines of a list stand in an each.
use Rattle.std.proofs.Common.{◌≡◌, ◌+◌, ◌<◌, ℕ, zero, suc, Bool, true, false, not, Some, List, [], ◌∷◌, ◌++◌, length, map, get_or, refl, sym, ap, ◌∙◌, arith}
use Rattle.std.specs.Prelude.{nat_eq, nat_lt, slice_get}
use Rattle.std.proofs.lemmas.Bool.Decides.{nat_tests}
use Rattle.gm_image.specs.declared.lines.VertexLine.{VertexLine}
use Rattle.gm_image.specs.Program.{Line}
use Rattle.gm_image.specs.Views.{line}
use Rattle.gm_image.specs.Rows.{left_after}
use Rattle.gm_image.specs.Spans.{left_past}
use Rattle.gm_verify.proofs.Adding.{get-left, get-last}

-- the lines before an index are known, and how many lines of an each are left there
pub record Insides (v : List Bool) (ls : List Line) (i left : ℕ) : Type 0 where
  pub known : (k : ℕ) → k < i → slice_get v k ≡ Some (not (nat_eq (left_past 0 k ls) 0))
  pub long : length v ≡ i
  pub now : left ≡ left_past 0 i ls

-- one line further
pub left_past-next : (xs : List VertexLine) (i k n : ℕ) (x : VertexLine) → k ≡ suc i → i < length xs → x ≡ get_or xs i x → left_past n k (map line xs) ≡ left_after (left_past n i (map line xs)) (line x)
left_past-next xs i k n x next lt is = ap (λ (j : ℕ). left_past n j (map line xs)) next ∙ further xs i n x lt is
  where
    further : (xs : List VertexLine) (i n : ℕ) (x : VertexLine) → i < length xs → x ≡ get_or xs i x → left_past n (suc i) (map line xs) ≡ left_after (left_past n i (map line xs)) (line x)
    further [] i n x lt is = absurd (omega (arith, lt))
    further (y ∷ ys) zero n x lt is = ap (λ (z : VertexLine). left_after n (line z)) (sym is)
    further (y ∷ ys) (suc i) n x lt is = further ys i (left_after n (line y)) x (omega (arith, lt)) is

pub insides-start : (ls : List Line) → Insides [] ls 0 0
insides-start ls = record { known = λ k lt. absurd (omega (arith, lt)); long = refl; now = refl }

pub insides-push : (v : List Bool) (ls : List Line) (i left : ℕ) (b : Bool) → Insides v ls i left → b ≡ not (nat_eq left 0)
    → (k : ℕ) → k < i + 1 → slice_get (v ++ b ∷ []) k ≡ Some (not (nat_eq (left_past 0 k ls) 0))
insides-push v ls i left b s is k lt = elim (nat_lt k i) as (λ c. nat_lt k i ≡ c → slice_get (v ++ b ∷ []) k ≡ Some (not (nat_eq (left_past 0 k ls) 0))) [
  | true ↦ λ e.
      let low : k < i = grind (arith, nat_tests, e) in
      let fits : k < length v = omega (arith, low, s.long) in
      get-left v (b ∷ []) k fits ∙ s.known k low
  | false ↦ λ e.
      let here : k ≡ i = grind (arith, nat_tests, e, lt) in
      let at : k ≡ length v = omega (arith, here, s.long) in
      ap (λ (j : ℕ). slice_get (v ++ b ∷ []) j) at ∙ get-last v b
      ∙ ap Some (is ∙ ap (λ (n : ℕ). not (nat_eq n 0)) (s.now ∙ ap (λ (j : ℕ). left_past 0 j ls) (sym here)))
] refl
