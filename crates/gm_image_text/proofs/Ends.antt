-- Where an image ends, and what stands behind it.
use Rattle.std.proofs.Common.{◌≡◌, ◌<◌, ℕ, List, [], ◌∷◌, length, refl, ap, ◌∙◌, arith}
use Rattle.std.specs.Prelude.{Result, Ok, Err}
use Rattle.gm_image.specs.Program.{Program}
use Rattle.gm_image_text.specs.declared.heads.Version.{Version}
use Rattle.gm_image_text.specs.Lines.{Line, lines_of}
use Rattle.gm_image_text.specs.Sections.{◌>>=◌, Opening, opening_at, Middle, middle_at, Closing, closing_at, program_of, image_of, all_read, whole_at}
use Rattle.gm_image_text.specs.declared.faults.TextStop.{TextStop}
use Rattle.gm_image_text.specs.declared.faults.TextStop.TheVariants as of_text
use Rattle.gm_image_text.specs.Giving.{RefusesText}
use Rattle.gm_image_text.proofs.Cutting.{some_line}

abbrev Answer : Type 0 → Type 0
Answer X = Result (X × List Line) (List Line)

-- the reading behind the last lines, behind the middle ones and behind the first
abbrev behind_closing : Opening → Middle → Answer Closing → Result Program (List Line)
behind_closing o m r =
    let both : Answer (Middle × Closing) = ◌>>=◌ {A = Closing × List Line} {B = (Middle × Closing) × List Line} r (λ z. Ok ((m, z.0), z.1)) in
    let all : Answer (Opening × (Middle × Closing)) = ◌>>=◌ {A = (Middle × Closing) × List Line} {B = (Opening × (Middle × Closing)) × List Line} both (λ w. Ok ((o, w.0), w.1)) in
    let image : Answer (Version × Program) = ◌>>=◌ {A = (Opening × (Middle × Closing)) × List Line} {B = (Version × Program) × List Line} all (λ v. Ok (image_of v.0, v.1)) in
    ◌>>=◌ {A = (Version × Program) × List Line} {B = Program} image (λ x. all_read x.0.1 x.1)

abbrev behind_middle : Opening → Answer Middle → Result Program (List Line)
behind_middle o r =
    let both : Answer (Middle × Closing) = ◌>>=◌ {A = Middle × List Line} {B = (Middle × Closing) × List Line} r (λ y. ◌>>=◌ {A = Closing × List Line} {B = (Middle × Closing) × List Line} (closing_at o.0 y.1) (λ z. Ok ((y.0, z.0), z.1))) in
    let all : Answer (Opening × (Middle × Closing)) = ◌>>=◌ {A = (Middle × Closing) × List Line} {B = (Opening × (Middle × Closing)) × List Line} both (λ w. Ok ((o, w.0), w.1)) in
    let image : Answer (Version × Program) = ◌>>=◌ {A = (Opening × (Middle × Closing)) × List Line} {B = (Version × Program) × List Line} all (λ v. Ok (image_of v.0, v.1)) in
    ◌>>=◌ {A = (Version × Program) × List Line} {B = Program} image (λ x. all_read x.0.1 x.1)

abbrev behind_opening : Answer Opening → Result Program (List Line)
behind_opening r =
    let all : Answer (Opening × (Middle × Closing)) =
    ◌>>=◌ {A = Opening × List Line} {B = (Opening × (Middle × Closing)) × List Line} r (λ x. ◌>>=◌ {A = (Middle × Closing) × List Line} {B = (Opening × (Middle × Closing)) × List Line} (◌>>=◌ {A = Middle × List Line} {B = (Middle × Closing) × List Line} (middle_at x.1) (λ y. ◌>>=◌ {A = Closing × List Line} {B = (Middle × Closing) × List Line} (closing_at x.0.0 y.1) (λ z. Ok ((y.0, z.0), z.1)))) (λ w. Ok ((x.0, w.0), w.1))) in
    let image : Answer (Version × Program) = ◌>>=◌ {A = (Opening × (Middle × Closing)) × List Line} {B = (Version × Program) × List Line} all (λ v. Ok (image_of v.0, v.1)) in
    ◌>>=◌ {A = (Version × Program) × List Line} {B = Program} image (λ x. all_read x.0.1 x.1)

whole_is : (ls l1 l2 l3 : List Line) (o : Opening) (m : Middle) (k : Closing) → opening_at ls ≡ Ok (o, l1) → middle_at l1 ≡ Ok (m, l2) → closing_at o.0 l2 ≡ Ok (k, l3) → whole_at ls ≡ all_read (program_of (o, (m, k))) l3
whole_is ls l1 l2 l3 o m k e f g = ap behind_opening e ∙ ap (behind_middle o) f ∙ ap (behind_closing o m) g

surplus : (p : Program) (ls : List Line) → 0 < length ls → all_read p ls ≡ Err ls
surplus p [] h = absurd (omega (arith, h))
surplus p (l ∷ ls) h = refl

-- a text that is left behind an image
pub left_over : (ls l1 l2 : List Line) (rest : List ℕ) (o : Opening) (m : Middle) (k : Closing) → opening_at ls ≡ Ok (o, l1) → middle_at l1 ≡ Ok (m, l2) → closing_at o.0 l2 ≡ Ok (k, lines_of rest) → 0 < length rest → whole_at ls ≡ Err (lines_of rest)
left_over ls l1 l2 [] o m k e f g h = absurd (omega (arith, h))
left_over ls l1 l2 (b ∷ bs) o m k e f g h = whole_is ls l1 l2 (lines_of (b ∷ bs)) o m k e f g ∙ surplus (program_of (o, (m, k))) (lines_of (b ∷ bs)) (some_line b bs)

-- one of the three parts is refused
pub opening_refused : (ls : List Line) (stop : TextStop) → RefusesText stop (opening_at ls) → RefusesText stop (whole_at ls)
opening_refused ls (of_text.Bad at) h = ap behind_opening h
opening_refused ls of_text.NoMemory h = tt

pub middle_refused : (ls l1 : List Line) (o : Opening) (stop : TextStop) → opening_at ls ≡ Ok (o, l1) → RefusesText stop (middle_at l1) → RefusesText stop (whole_at ls)
middle_refused ls l1 o (of_text.Bad at) e h = ap behind_opening e ∙ ap (behind_middle o) h
middle_refused ls l1 o of_text.NoMemory e h = tt

pub closing_refused : (ls l1 l2 : List Line) (o : Opening) (m : Middle) (stop : TextStop) → opening_at ls ≡ Ok (o, l1) → middle_at l1 ≡ Ok (m, l2) → RefusesText stop (closing_at o.0 l2) → RefusesText stop (whole_at ls)
closing_refused ls l1 l2 o m (of_text.Bad at) e f h = ap behind_opening e ∙ ap (behind_middle o) f ∙ ap (behind_closing o m) h
closing_refused ls l1 l2 o m of_text.NoMemory e f h = tt
