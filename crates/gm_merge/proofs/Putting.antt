-- The globals that lines put, one line after another.
use Rattle.std.proofs.Common.{◌≡◌, ◌+◌, ◌<◌, ℕ, ◌||◌, List, [], ◌∷◌, ◌++◌, take, map, length, get_or, sym, ap, ◌∙◌}
use Rattle.std.specs.Prelude.{◌==◌}
use Rattle.std.specs.List.{flat_map}
use Rattle.std.proofs.lemmas.List.{append-nil, take_more, map-append}
use Rattle.std.proofs.lemmas.List.Folds.{list_any-append}
use Rattle.std.proofs.lemmas.Grind.{flat_map-append}
use Rattle.gm_image.specs.declared.lines.VertexLine.{VertexLine}
use Rattle.gm_image.specs.declared.images.Handler as H
use Rattle.gm_image.specs.Program.{Line, Handler}
use Rattle.gm_image.specs.Views.{line, handler}
use Rattle.gm_image.specs.Parts.{is_among}
use Rattle.gm_image.specs.Folds as F
use Rattle.gm_image.specs.Folds.{puts_of}
use Rattle.gm_merge_laws.specs.Joins.{put_globals}
use Rattle.gm_merge.specs.Tests.{lines_of}

-- whether a number is among the globals that lines and more lines put
pub puts-both : (ls more : List Line) (n : ℕ) → is_among n (put_globals (ls ++ more)) ≡ (is_among n (put_globals ls) || is_among n (put_globals more))
puts-both ls more n =
    ap (λ (rs : List F.Reduction). is_among n (flat_map (λ r. r.slots) rs)) (flat_map-append puts_of ls more)
    ∙ ap (is_among n) (flat_map-append (λ (r : F.Reduction). r.slots) (flat_map puts_of ls) (flat_map puts_of more))
    ∙ list_any-append (λ m. m == n) (put_globals ls) (put_globals more)

-- of the lines so far
pub puts-more : (ls : List VertexLine) (i : ℕ) (x : VertexLine) (n : ℕ) → i < length ls → x ≡ get_or ls i x
    → is_among n (put_globals (map line (take (i + 1) ls))) ≡ (is_among n (put_globals (map line (take i ls))) || is_among n (put_globals (line x ∷ [])))
puts-more ls i x n lt is =
    ap (λ (xs : List VertexLine). is_among n (put_globals (map line xs))) (take_more ls i x lt ∙ ap (λ (y : VertexLine). take i ls ++ y ∷ []) (sym is))
    ∙ ap (λ (xs : List Line). is_among n (put_globals xs)) (map-append line (take i ls) (x ∷ []))
    ∙ puts-both (map line (take i ls)) (line x ∷ []) n

-- of the handlers so far
pub puts-handled : (hs : List H.Handler) (i : ℕ) (x : H.Handler) (n : ℕ) → i < length hs → x ≡ get_or hs i x
    → is_among n (put_globals (lines_of (map handler (take (i + 1) hs)))) ≡ (is_among n (put_globals (lines_of (map handler (take i hs)))) || is_among n (put_globals (map line x.lines)))
puts-handled hs i x n lt is =
    ap (λ (xs : List H.Handler). is_among n (put_globals (lines_of (map handler xs)))) (take_more hs i x lt ∙ ap (λ (y : H.Handler). take i hs ++ y ∷ []) (sym is))
    ∙ ap (λ (xs : List Handler). is_among n (put_globals (lines_of xs))) (map-append handler (take i hs) (x ∷ []))
    ∙ ap (λ (xs : List Line). is_among n (put_globals xs)) (flat_map-append (λ (h : Handler). h.lines) (map handler (take i hs)) (handler x ∷ []))
    ∙ ap (λ (xs : List Line). is_among n (put_globals (lines_of (map handler (take i hs)) ++ xs))) (append-nil (map line x.lines))
    ∙ puts-both (lines_of (map handler (take i hs))) (map line x.lines) n
