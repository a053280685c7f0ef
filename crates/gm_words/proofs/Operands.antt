-- The positionals of `run` and `exec`.
use Rattle.std.proofs.Common.{◌≡◌, ◌≤◌, ◌∙◌, ◌&&◌, ap, cond, Bool, true, false, List, [], ◌∷◌, drop, length, map, Some, None, refl, sym, arith, Bor, take, ◌-◌, length-drop}
use Rattle.std.specs.List.{list_all, slice_index_or}
use Rattle.std.proofs.Math.Seq.{take-length}
use Rattle.gm_words.specs.Words.{Text}
use Rattle.gm_words.specs.Jobs.{is_assignment, two_words}

all_of_texts : (words : List (Bor Text)) → list_all is_assignment (map (λ w. w.now) words) ≡ list_all (λ w. is_assignment w.now) words
all_of_texts [] = refl
all_of_texts (w ∷ words) = ap (λ (b : Bool). is_assignment w.now && b) (all_of_texts words)

pub two_of : (words : List (Bor Text)) (d e : Bor Text) → 2 ≤ length words
    → two_words (map (λ w. w.now) words) ≡ cond (list_all (λ w. is_assignment w.now) (drop 2 words))
    (Some ((slice_index_or words 0 d).now, (slice_index_or words 1 e).now, map (λ w. w.now) (drop 2 words))) None
two_of [] d e size = absurd (omega arith)
two_of (a ∷ []) d e size = absurd (omega arith)
two_of (a ∷ b ∷ words) d e size = ap (λ (t : Bool). cond t (Some (a.now, b.now, map (λ (w : Bor Text). w.now) words)) None) (all_of_texts words)

-- `words[2..]`
abbrev pub from_two : List (Bor Text) → List (Bor Text)
from_two words = take (length words - 2) (drop 2 words)

from_two_is : (words : List (Bor Text)) → from_two words ≡ drop 2 words
from_two_is words = ap (λ n. take n (drop 2 words)) (sym (length-drop 2 words)) ∙ take-length (drop 2 words)

pub no_two : (words : List (Bor Text)) → 2 ≤ length words → list_all (λ w. is_assignment w.now) (from_two words) ≡ false → two_words (map (λ w. w.now) words) ≡ None
no_two words size bad =
    let test = ap (list_all (λ w. is_assignment w.now)) (sym (from_two_is words)) ∙ bad in
    two_of words (record { ref_ptr = (0, 0); now = [] }) (record { ref_ptr = (0, 0); now = [] }) size ∙ rw test refl

pub some_two : (words : List (Bor Text)) (d e : Bor Text) (a b : Text) (cs : List Text) → 2 ≤ length words → list_all (λ w. is_assignment w.now) (from_two words) ≡ true
    → a ≡ (slice_index_or words 0 d).now → b ≡ (slice_index_or words 1 e).now → cs ≡ map (λ w. w.now) (from_two words) → two_words (map (λ w. w.now) words) ≡ Some (a, b, cs)
some_two words d e a b cs size good a_is b_is cs_is =
    let test = ap (list_all (λ w. is_assignment w.now)) (sym (from_two_is words)) ∙ good in
    let rest = cs_is ∙ ap (map (λ w. w.now)) (from_two_is words) in
    two_of words d e size ∙ rw (test, a_is, b_is, rest) refl
