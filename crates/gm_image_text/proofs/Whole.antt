-- What the reading of all lines says of a text.
use Rattle.std.proofs.Common.{◌≡◌, ◌<◌, ◌≤◌, ◌+◌, ◌-◌, ℕ, suc, true, false, cond, eqb, List, [], ◌∷◌, ◌++◌, length, take, refl, ap, sym, ◌∙◌, subst, arith, append_assoc, length-append}
use Rattle.std.specs.Prelude.{Result, Ok, Err}
use Rattle.gm_image.specs.Program.{Program}
use Rattle.gm_image_text.specs.declared.heads.Version.{Version}
use Rattle.gm_image_text.specs.Lines.{Line, lines_of, text_of, onto_first}
use Rattle.gm_image_text.specs.Spelling.{lines_in}
use Rattle.gm_image_text.specs.Sections.{◌>>=◌, image_at, all_read, whole_at}
use Rattle.gm_image_text.specs.declared.faults.ImageFault.TheVariants as fault
use Rattle.gm_image_text.specs.ImageText.{IsTextOf, AreLinesOf, BeginsImage, IsBadLine}
use Rattle.gm_image_text.proofs.Binds.{bind_ok, bind_err, ok_is, err_is, Fails}
use Rattle.gm_image_text.proofs.Spelled.{lines_text, text_lines}
use Rattle.gm_image_text.proofs.Parts.{Stops, IsStuck}
use Rattle.gm_image_text.proofs.ImageLaw.{ImageFits, image_law}

none_behind : (ls : List Line) → ls ++ [] ≡ ls
none_behind [] = refl
none_behind (l ∷ ls) = ap (λ v. l ∷ v) (none_behind ls)

abbrev at_end : (Version × Program) × List Line → Result Program (List Line)
at_end x = all_read x.0.1 x.1

abbrev lines_of_image : Version × Program → List Line
lines_of_image z = lines_in z.0 z.1

read_all : (p q : Program) (rest : List Line) → all_read q rest ≡ Ok p → (rest ≡ []) × (q ≡ p)
read_all p q [] e = (refl, ok_is q p e)
read_all p q (l ∷ ls) e = cc

-- all lines are an image's
lines_ok : (ls : List Line) (p : Program) → whole_at ls ≡ Ok p → AreLinesOf p ls
lines_ok ls p e =
    let it = bind_ok (image_at ls) at_end p e in
    let last = read_all p it.0.0.1 it.0.1 it.2 in
    let got : ImageFits it.0.0 × (ls ≡ lines_of_image it.0.0 ++ it.0.1) = image_law.ok ls it.0.1 it.0.0 it.1 in
    let Q : Program → Type 0 = λ v. AreLinesOf v ls in
    subst Q last.1 (record { version = it.0.0.0; fits = got.0; spelled = sym (got.1 ∙ ap (λ v. lines_of_image it.0.0 ++ v) last.0 ∙ none_behind (lines_of_image it.0.0)) })

pub text_ok : (text : List ℕ) (p : Program) → whole_at (lines_of text) ≡ Ok p → IsTextOf p text
text_ok text p e =
    let it : AreLinesOf p (lines_of text) = lines_ok (lines_of text) p e in
    record { version = it.version; fits = it.fits; spelled = sym (text_lines text) ∙ ap text_of (sym it.spelled) }

image_again : (z : Version × Program) → ImageFits z → image_at (lines_of_image z) ≡ Ok (z, [])
image_again z h = ap image_at (sym (none_behind (lines_of_image z))) ∙ image_law.again z [] h

pub lines_again : (ls : List Line) (p : Program) → AreLinesOf p ls → whole_at ls ≡ Ok p
lines_again ls p h = ap whole_at (sym h.spelled) ∙ ap (λ r. r >>= at_end) (image_again (h.version, p) h.fits)

-- an image's text has the image's lines
pub text_again : (text : List ℕ) (p : Program) → IsTextOf p text → whole_at (lines_of text) ≡ Ok p
text_again text p h = lines_again (lines_of text) p (record { version = h.version; fits = h.fits; spelled = sym (ap lines_of h.spelled ∙ lines_text (lines_in h.version p) (image_law.ended (h.version, p) h.fits)) })

-- where the reading stops
record BadAt (ls rest : List Line) : Type 0 where
  front : List Line
  split : ls ≡ front ++ rest
  good : BeginsImage front
  bad : (l : Line) (more : List Line) → rest ≡ l ∷ more → BeginsImage (front ++ l ∷ []) → ⊥
  unfinished : rest ≡ [] → (p : Program) → AreLinesOf p ls → ⊥

no_end : (ls rest : List Line) → whole_at ls ≡ Err rest → (p : Program) → AreLinesOf p ls → ⊥
no_end ls rest e p h = clash (sym e ∙ lines_again ls p h) where
  clash : ◌≡◌ {A = Result Program (List Line)} (Err rest) (Ok p) → ⊥
  clash f = cc

-- a line that stops the reading begins no image's text
stuck_line : (front : List Line) (l : Line) (more : List Line) → IsStuck image_at front (l ∷ more) → BeginsImage (front ++ l ∷ []) → ⊥
stuck_line front l more stuck b = clash (sym (stuck b.more) ∙ ap image_at (sym (append_assoc front (l ∷ []) b.more) ∙ sym b.spelled.spelled) ∙ image_again (b.spelled.version, b.image) b.spelled.fits) where
  clash : ◌≡◌ {A = Result ((Version × Program) × List Line) (List Line)} (Err (l ∷ b.more)) (Ok ((b.spelled.version, b.image), [])) → ⊥
  clash f = cc

-- neither does a line behind an image
surplus_line : (q : Version × Program) (l : Line) → ImageFits q → BeginsImage (lines_of_image q ++ l ∷ []) → ⊥
surplus_line q l f b =
    let same : Ok (q, l ∷ b.more) ≡ Ok ((b.spelled.version, b.image), []) =
    sym (image_law.again q (l ∷ b.more) f) ∙ ap image_at (sym (append_assoc (lines_of_image q) (l ∷ []) b.more) ∙ sym b.spelled.spelled) ∙ image_again (b.spelled.version, b.image) b.spelled.fits in
    let rests : l ∷ b.more ≡ [] = ap (λ v. v.1) (ok_is (q, l ∷ b.more) ((b.spelled.version, b.image), []) same) in
    clash rests where
      clash : l ∷ b.more ≡ [] → ⊥
      clash g = cc

behind_all : (q : Program) (tail rest : List Line) → all_read q tail ≡ Err rest → tail ≡ rest
behind_all q [] rest e = cc
behind_all q (l ∷ ls) rest e = err_is (l ∷ ls) rest e

head_is : (l k : Line) (ls ks : List Line) → l ∷ ls ≡ k ∷ ks → l ≡ k
head_is l k ls ks e = cc

bad_at : (ls rest : List Line) → whole_at ls ≡ Err rest → BadAt ls rest
bad_at ls rest e = by_fault (bind_err (image_at ls) at_end rest e) where
  by_fault : Fails (image_at ls) at_end rest → BadAt ls rest
  by_fault (Fails.here is) =
      let s : Stops ImageFits lines_of_image image_at ls rest = image_law.fault ls rest is in
      record {
        front = s.front;
        split = s.split;
        good = record { image = s.whole.1; more = s.more; spelled = record { version = s.whole.0; fits = s.fits; spelled = s.begins } };
        bad = λ l more at b.
            let P : List Line → Type 0 = λ v. IsStuck image_at s.front v in
            stuck_line s.front l more (subst P at s.stuck) b;
        unfinished = λ none p h. no_end ls rest e p h;
      }
  by_fault (Fails.later x was is) =
      let got : ImageFits x.0 × (ls ≡ lines_of_image x.0 ++ x.1) = image_law.ok ls x.1 x.0 was in
      let tail : x.1 ≡ rest = behind_all x.0.1 x.1 rest is in
      record {
        front = lines_of_image x.0;
        split = got.1 ∙ ap (λ v. lines_of_image x.0 ++ v) tail;
        good = record { image = x.0.1; more = []; spelled = record { version = x.0.0; fits = got.0; spelled = sym (none_behind (lines_of_image x.0)) } };
        bad = λ l more at b. surplus_line x.0 l got.0 b;
        unfinished = λ none p h. no_end ls rest e p h;
      }

take_front : (front rest : List Line) → take (length front) (front ++ rest) ≡ front
take_front [] rest = refl
take_front (l ∷ ls) rest = ap (λ v. l ∷ v) (take_front ls rest)

take_one_more : (front : List Line) (l : Line) (more : List Line) → take (suc (length front)) (front ++ l ∷ more) ≡ front ++ l ∷ []
take_one_more [] l more = refl
take_one_more (k ∷ ks) l more = ap (λ v. k ∷ v) (take_one_more ks l more)

-- how many lines stand before the first bad one
pub fault_within : (ls rest : List Line) → whole_at ls ≡ Err rest → length rest ≤ length ls
fault_within ls rest e =
    let it : BadAt ls rest = bad_at ls rest e in
    omega (arith, ap length it.split, length-append it.front rest)

empty_is : (ls : List Line) → length ls ≡ 0 → ls ≡ []
empty_is [] h = refl
empty_is (l ∷ ls) h = absurd (omega (arith, h))

-- the first bad line
pub fault_line : (ls rest : List Line) (number : ℕ) → whole_at ls ≡ Err rest → number ≡ length ls - length rest + 1 → IsBadLine ls number
fault_line ls rest number e count =
    let it : BadAt ls rest = bad_at ls rest e in
    let total : length ls ≡ length it.front + length rest = ap length it.split ∙ length-append it.front rest in
    let Q : List Line → Type 0 = BeginsImage in
    record {
      before = length it.front;
      count = omega (arith, count, total);
      within = omega (arith, total);
      good = subst Q (sym (ap (take (length it.front)) it.split ∙ take_front it.front rest)) it.good;
      bad = λ lt b. at_bad it rest refl lt (omega (arith, count, total)) b;
      unfinished = λ all p h. it.unfinished (empty_is rest (omega (arith, total, all))) p h;
    } where
      at_bad : (it : BadAt ls rest) (tail : List Line) → rest ≡ tail → length it.front < length ls → number ≡ suc (length it.front) → BeginsImage (take number ls) → ⊥
      at_bad it [] is lt n b =
          let total : length ls ≡ length it.front + length rest = ap length it.split ∙ length-append it.front rest in
          let none : length rest ≡ 0 = ap length is in
          absurd (omega (arith, total, none, lt))
      at_bad it (l ∷ more) is lt n b =
          let same : take number ls ≡ it.front ++ l ∷ [] = ap (λ k. take k ls) n ∙ ap (take (suc (length it.front))) (it.split ∙ ap (λ v. it.front ++ v) is) ∙ take_one_more it.front l more in
          let P : List Line → Type 0 = BeginsImage in
          it.bad l more is (subst P same b)

-- a text has no more lines than bytes
onto_length : (b : ℕ) (ls : List Line) → length (onto_first b ls) ≤ suc (length ls)
onto_length b [] = omega arith
onto_length b (l ∷ ls) = omega arith

pub few_lines : (text : List ℕ) → length (lines_of text) ≤ length text
few_lines [] = omega arith
few_lines (b ∷ bs) =
    let more : length (lines_of bs) ≤ length bs = few_lines bs in
    elim (eqb b 10) as (λ v. length (cond v ((10 ∷ []) ∷ lines_of bs) (onto_first b (lines_of bs))) ≤ suc (length bs)) [
      | true ↦ omega (arith, more)
      | false ↦ let most : length (onto_first b (lines_of bs)) ≤ suc (length (lines_of bs)) = onto_length b (lines_of bs) in omega (arith, more, most)
    ]

line_is : (m n : ℕ) → fault.BadText m ≡ fault.BadText n → m ≡ n
line_is m n e = cc

-- the same, of the number in an answer
pub fault_is_line : (ls rest : List Line) (number line : ℕ) → whole_at ls ≡ Err rest → number ≡ length ls - length rest + 1 → fault.BadText number ≡ fault.BadText line → IsBadLine ls line
fault_is_line ls rest number line e count same = fault_line ls rest line e (sym (line_is number line same) ∙ count)
