-- The reductions and the folded fields of lines, one line after another.
use Rattle.std.proofs.Common.{◌≡◌, ◌+◌, ◌<◌, ℕ, ◌||◌, List, [], ◌∷◌, ◌++◌, take, map, length, get_or, sym, ap, ◌∙◌}
use Rattle.std.specs.Prelude.{◌==◌}
use Rattle.std.specs.List.{flat_map}
use Rattle.std.proofs.lemmas.List.{append-nil, take_more, map-append}
use Rattle.std.proofs.lemmas.List.Folds.{list_any-append}
use Rattle.std.proofs.lemmas.Grind.{flat_map-append}
use Rattle.gm_image.specs.declared.lines.VertexLine.{VertexLine}
use Rattle.gm_image.specs.Program.{Line}
use Rattle.gm_image.specs.Views.{line}
use Rattle.gm_image.specs.Parts.{is_among}
use Rattle.gm_image.specs.Folds as F
use Rattle.gm_image.specs.Folds.{folds_of, puts_of, folded_fields}

-- the reductions of lines with one more
pub folds-push : (f : Line → List F.Reduction) (ls : List Line) (l : Line) → flat_map f ls ++ f l ≡ flat_map f (ls ++ l ∷ [])
folds-push f ls l = ap (λ (rs : List F.Reduction). flat_map f ls ++ rs) (sym (append-nil (f l))) ∙ sym (flat_map-append f ls (l ∷ []))

-- whether a number is among the folded fields of lines and more lines
pub folded-both : (ls more : List Line) (n : ℕ) → is_among n (folded_fields (ls ++ more)) ≡ (is_among n (folded_fields ls) || is_among n (folded_fields more))
folded-both ls more n =
    ap (λ (rs : List F.Reduction). is_among n (flat_map (λ r. r.slots) rs)) (flat_map-append folds_of ls more)
    ∙ ap (is_among n) (flat_map-append (λ (r : F.Reduction). r.slots) (flat_map folds_of ls) (flat_map folds_of more))
    ∙ list_any-append (λ m. m == n) (folded_fields ls) (folded_fields more)

-- with one more line
pub folded-push : (ls : List Line) (l : Line) (n : ℕ) → is_among n (folded_fields (ls ++ l ∷ [])) ≡ (is_among n (folded_fields ls) || is_among n (folded_fields (l ∷ [])))
folded-push ls l n = folded-both ls (l ∷ []) n

-- of the lines so far
pub folded-more : (ls : List VertexLine) (i : ℕ) (x : VertexLine) (n : ℕ) → i < length ls → x ≡ get_or ls i x
    → is_among n (folded_fields (map line (take (i + 1) ls))) ≡ (is_among n (folded_fields (map line (take i ls))) || is_among n (folded_fields (line x ∷ [])))
folded-more ls i x n lt is =
    ap (λ (xs : List VertexLine). is_among n (folded_fields (map line xs))) (take_more ls i x lt ∙ ap (λ (y : VertexLine). take i ls ++ y ∷ []) (sym is))
    ∙ ap (λ (xs : List Line). is_among n (folded_fields xs)) (map-append line (take i ls) (x ∷ []))
    ∙ folded-push (map line (take i ls)) (line x) n
