-- Conditions and loops of the sequential phase, by what was made of their parts.
use Rattle.std.proofs.Common.{◌≡◌, ℕ, ap, ◌∙◌, length}
use Rattle.std.specs.Prelude.{◌+◌, ◌∷◌}
use Rattle.gm_base.specs.declared.places.Place.{Place}
use Rattle.gm_ast.specs.declared.tree.Head.{Head}
use Rattle.gm_ast.specs.declared.tree.Key.{Key}
use Rattle.gm_ast.specs.Program.{Expr, Stmt}
use Rattle.gm_ast.specs.Program as P
use Rattle.gm_image.specs.Term.{Term}
use Rattle.gm_lowering.specs.Places.{Segment, segment, shown_places, spot_at, spots_in, place_index}
use Rattle.gm_lowering.specs.Plans.{kinds_in}
use Rattle.gm_lowering.specs.Terms.{master_env, term}
use Rattle.gm_lowering.specs.Lowered.{At, Frame, Part, deeper, lines_on, part, places_on, test_lines}
use Rattle.gm_masters.specs.Parts.{past_by}
use Rattle.gm_masters.specs.Turns.{choice_of, while_of, do_of, for_of}

-- the term of an expression in the master list
abbrev told_at : Frame → Key → Expr → Segment → Term
told_at w k e g = term (master_env w.layout g) k e

pub if_is : (w : Frame) (k : Key) (c : Expr) (a b : Stmt) (at start behind : At) (g : Segment) (t : Term) (x y whole : Part) (n : ℕ)
    → g ≡ segment at.place (spots_in c k)
    → t ≡ told_at w k c g
    → start ≡ lines_on 1 (places_on (shown_places g) at)
    → x ≡ part w a start
    → n ≡ length (kinds_in w.layout.declarations a)
    → behind ≡ past_by start x n
    → y ≡ part w b (lines_on 1 behind)
    → whole ≡ choice_of (shown_places g) t behind.line x y
    → whole ≡ part w (P.If k c a b) at
if_is w k c a b at start behind g t x y whole n places value begins first kinds past second made =
    let m = length (kinds_in w.layout.declarations a) in
    let two : Segment → Term → At → Part → Part = λ h u j z. choice_of (shown_places h) u j.line z (part w b (lines_on 1 j)) in
    let from : Segment → Term → At → Part = λ h u j. two h u (past_by j (part w a j) m) (part w a j) in
    made
    ∙ ap (λ z. choice_of (shown_places g) t behind.line x z) second
    ∙ ap (λ j. two g t j x) past
    ∙ ap (λ i. two g t (past_by start x i) x) kinds
    ∙ ap (λ z. two g t (past_by start z m) z) first
    ∙ ap (λ j. from g t j) begins
    ∙ ap (λ u. from g u (lines_on 1 (places_on (shown_places g) at))) value
    ∙ ap (λ h. from h (told_at w k c h) (lines_on 1 (places_on (shown_places h) at))) places

pub while_is : (w : Frame) (k : Key) (place : Place) (c : Expr) (body : Stmt) (at start : At) (g : Segment) (t : Term) (x whole : Part)
    → g ≡ segment at.place (spots_in c k)
    → t ≡ told_at w k c g
    → start ≡ lines_on 1 (places_on (shown_places g) at)
    → x ≡ part w body start
    → whole ≡ while_of (shown_places g) t at start x
    → whole ≡ part w (P.While k place c body) at
while_is w k place c body at start g t x whole places value begins turn made =
    let from : Segment → Term → At → Part = λ h u j. while_of (shown_places h) u at j (part w body j) in
    made
    ∙ ap (λ z. while_of (shown_places g) t at start z) turn
    ∙ ap (λ j. from g t j) begins
    ∙ ap (λ u. from g u (lines_on 1 (places_on (shown_places g) at))) value
    ∙ ap (λ h. from h (told_at w k c h) (lines_on 1 (places_on (shown_places h) at))) places

pub do_is : (w : Frame) (k : Key) (place : Place) (c : Expr) (body : Stmt) (at start : At) (g : Segment) (t : Term) (x whole : Part)
    → g ≡ segment at.place (spots_in c k)
    → t ≡ told_at w k c g
    → start ≡ lines_on 3 (deeper (places_on (shown_places g) at))
    → x ≡ part w body start
    → whole ≡ do_of (w.layout.flag at.depth) (shown_places g) t at start x
    → whole ≡ part w (P.Do k place body c) at
do_is w k place c body at start g t x whole places value begins turn made =
    let from : Segment → Term → At → Part = λ h u j. do_of (w.layout.flag at.depth) (shown_places h) u at j (part w body j) in
    made
    ∙ ap (λ z. do_of (w.layout.flag at.depth) (shown_places g) t at start z) turn
    ∙ ap (λ j. from g t j) begins
    ∙ ap (λ u. from g u (lines_on 3 (deeper (places_on (shown_places g) at)))) value
    ∙ ap (λ h. from h (told_at w k c h) (lines_on 3 (deeper (places_on (shown_places h) at)))) places

pub for_is : (w : Frame) (k : Key) (place : Place) (head : Head) (c : Expr) (body : Stmt) (at start : At) (g : Segment) (t : Term) (x whole : Part)
    → g ≡ segment at.place (spot_at k place ∷ spots_in c k)
    → t ≡ told_at w k c g
    → start ≡ lines_on (4 + length (test_lines 0 t)) (deeper (places_on (shown_places g) at))
    → x ≡ part w body start
    → whole ≡ for_of w.layout head.iterator (place_index g k place) (shown_places g) t at start x
    → whole ≡ part w (P.For k place head c body) at
for_is w k place head c body at start g t x whole places value begins turn made =
    let start_by : Segment → Term → At = λ h u. lines_on (4 + length (test_lines 0 u)) (deeper (places_on (shown_places h) at)) in
    let from : Segment → Term → At → Part = λ h u j. for_of w.layout head.iterator (place_index h k place) (shown_places h) u at j (part w body j) in
    made
    ∙ ap (λ z. for_of w.layout head.iterator (place_index g k place) (shown_places g) t at start z) turn
    ∙ ap (λ j. from g t j) begins
    ∙ ap (λ u. from g u (start_by g u)) value
    ∙ ap (λ h. from h (told_at w k c h) (start_by h (told_at w k c h))) places
