-- Where the lines of a handler and of a body stand.
use Rattle.std.proofs.Common.{◌≡◌, ◌+◌, ◌-◌, ◌<◌, ◌≤◌, ℕ, zero, suc, Bool, true, false, not, Option, Some, None, List, [], ◌∷◌, length, map, drop, get_or, refl, sym, ap, subst, ◌∙◌, arith, length-drop}
use Rattle.std.specs.Prelude.{nat_eq, nat_le, ◌&&◌, is_none, slice_get}
use Rattle.std.proofs.lemmas.List.{drop-map}
use Rattle.gm_image.specs.declared.lines.VertexLine.{VertexLine}
use Rattle.gm_image.specs.Program.{Program, Line, SetField, Fold, SetRegister, Put, Send, Skip, Each}
use Rattle.gm_image.specs.Views.{line}
use Rattle.gm_image.specs.Rows.{Site, LineRow, left_after}
use Rattle.gm_image.specs.Spans.{left_past, each_stays}
use Rattle.gm_image.specs.Soundness.{broken_rule}
use Rattle.gm_verify.specs.declared.lines.Spot.{Spot}
use Rattle.gm_verify.specs.Sites.{ShowsInsides, ShowsLater, ShowsSite}
use Rattle.gm_verify.proofs.Declared.{rest-at}
use Rattle.gm_verify.proofs.Sounding.{keeps-spans}

-- how many lines of an each are left behind some lines and some more
left_past-more : (i n j left : ℕ) (ls : List Line) → j ≡ i + n → i ≤ length ls → left_past left j ls ≡ left_past (left_past left i ls) n (drop i ls)
left_past-more zero n j left ls at within = ap (λ (k : ℕ). left_past left k ls) (omega (arith, at))
left_past-more (suc i) n j left [] at within = absurd (omega (arith, within))
left_past-more (suc i) n j left (l ∷ ls) at within =
    let next : j ≡ suc (i + n) = omega (arith, at) in
    let low : i ≤ length ls = omega (arith, within) in
    ap (λ (k : ℕ). left_past left k (l ∷ ls)) next ∙ left_past-more i n (i + n) (left_after left l) ls refl low

get-drop : {A : Type 0} (xs : List A) (i n j : ℕ) → j ≡ i + n → slice_get (drop i xs) n ≡ slice_get xs j
get-drop xs zero n j at = ap (λ (k : ℕ). slice_get xs k) (omega (arith, at))
get-drop [] (suc i) n j at = refl
get-drop (x ∷ xs) (suc i) n j at =
    let next : suc (i + n) ≡ j = omega (arith, at) in
    get-drop xs i n (i + n) refl ∙ ap (λ (k : ℕ). slice_get (x ∷ xs) k) next

-- what follows a line
pub later-long : (v : List Bool) (ls later : List Line) (l : Line) (i : ℕ) → ShowsInsides v ls → drop i ls ≡ l ∷ later → length (drop (i + 1) v) ≡ length later + 1
later-long v ls later l i s at =
    let rest : length ls - i ≡ suc (length later) = sym (length-drop i ls) ∙ ap length at in
    omega (arith, length-drop (i + 1) v, s.long, rest)

later-known : (v : List Bool) (ls later : List Line) (l : Line) (i n : ℕ) → ShowsInsides v ls → drop i ls ≡ l ∷ later → left_past 0 i ls ≡ 0 → left_after 0 l ≡ 0 → n ≤ length later
    → slice_get (drop (i + 1) v) n ≡ Some (not (nat_eq (left_past 0 n later) 0))
later-known v ls later l i n s at none outside within =
    let rest : length ls - i ≡ suc (length later) = sym (length-drop i ls) ∙ ap length at in
    let low : i ≤ length ls = omega (arith, rest) in
    let fits : i + 1 + n ≤ length ls = omega (arith, rest, within) in
    let next : i + 1 + n ≡ i + suc n = omega arith in
    let left : left_past 0 (i + 1 + n) ls ≡ left_past 0 n later =
    left_past-more i (suc n) (i + 1 + n) 0 ls next low ∙ ap (λ (m : ℕ). left_past m (suc n) (drop i ls)) none
    ∙ ap (left_past 0 (suc n)) at ∙ ap (λ (m : ℕ). left_past m n later) outside in
    get-drop v (i + 1) n (i + 1 + n) refl ∙ s.known (i + 1 + n) fits ∙ ap (λ (m : ℕ). Some (not (nat_eq m 0))) left

pub shows-later : (v : List Bool) (ls later : List Line) (l : Line) (i : ℕ) → ShowsInsides v ls → drop i ls ≡ l ∷ later → left_past 0 i ls ≡ 0 → left_after 0 l ≡ 0 → ShowsLater (drop (i + 1) v) later
shows-later v ls later l i s at none outside = record {
  long = later-long v ls later l i s at;
  known = λ n within. later-known v ls later l i n s at none outside within;
}

-- a line with what is cut off behind it
pub shows-site : (v : List Bool) (xs : List VertexLine) (i : ℕ) (x : VertexLine) (spot : Spot) (s : Site) → ShowsInsides v (map line xs) → i < length xs → x ≡ get_or xs i x
    → spot.insides.now ≡ drop (i + 1) v → s.kind ≡ spot.kind → s.later ≡ map line (drop (i + 1) xs) → (s.around.left ≡ 0 → left_past 0 i (map line xs) ≡ 0) → ShowsSite spot s (line x)
shows-site v xs i x spot s shown lt is cut kind later left =
    let at : drop i (map line xs) ≡ line x ∷ s.later = drop-map line i xs ∙ rest-at line xs i x lt is ∙ ap (λ ls. line x ∷ ls) (sym later) in
    record {
      kind = kind;
      long = ap length cut ∙ later-long v (map line xs) s.later (line x) i shown at;
      later = λ outside none. subst (λ (bs : List Bool). ShowsLater bs s.later) (sym cut) (shows-later v (map line xs) s.later (line x) i shown at (left outside) none);
    }

falls : (a b : Bool) → ((a && false) && b) ≡ false
falls true b = refl
falls false b = refl

-- a line of a handler that breaks no rule is no each
pub no-each : (p : Program) (s : Site) (k : ℕ) (l : Line) → s.kind ≡ Some k → broken_rule p (LineRow s l) ≡ None → left_after 0 l ≡ 0
no-each p s k (Each d n) kind none =
    let stays : each_stays s n ≡ true = keeps-spans p (LineRow s (Each d n)) none in
    let never : each_stays s n ≡ false =
    ap (λ (o : Option ℕ). (nat_eq s.around.left 0 && is_none o) && nat_le n (length s.later)) kind ∙ falls (nat_eq s.around.left 0) (nat_le n (length s.later)) in
    absurd cc
no-each p s k (SetField f a) kind none = refl
no-each p s k (Fold r place ts) kind none = refl
no-each p s k (SetRegister r a) kind none = refl
no-each p s k (Put r place ts) kind none = refl
no-each p s k (Send m to vs) kind none = refl
no-each p s k (Skip n a) kind none = refl
