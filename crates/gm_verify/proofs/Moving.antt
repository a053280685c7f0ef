-- What is around the next line, as the code knows it.
use Rattle.std.proofs.Common.{◌≡◌, ℕ, zero, suc, min, List, [], ◌∷◌, length, map, take, refl, sym, ap, subst, ◌∙◌, arith}
use Rattle.std.specs.Prelude.{nat_eq, option_map}
use Rattle.std.specs.HashSet.{contains}
use Rattle.gm_image.specs.declared.lines.VertexLine.{VertexLine}
use Rattle.gm_image.specs.Program.{Line, SetField, Fold, SetRegister, Put, Send, Skip, Each}
use Rattle.gm_image.specs.Views.{line}
use Rattle.gm_image.specs.Parts.{is_among}
use Rattle.gm_image.specs.Rows.{Around, left_after, each_around, around_by, around_next}
use Rattle.gm_image.specs.Folds.{folded_fields}
use Rattle.gm_verify.specs.declared.scopes.Scope.{Scope}
use Rattle.gm_image.specs.Items.{direction_of}
use Rattle.gm_verify.specs.Scopes.{each_of, ShowsScope, ShowsFolds}

take-none : {A : Type 0} (n : ℕ) → take {A = A} n [] ≡ []
take-none zero = refl
take-none (suc n) = refl

-- the first lines of a list, at most all of them
pub take-some : (xs : List VertexLine) (n m : ℕ) → m ≡ min (length xs) n → map line (take m xs) ≡ take n (map line xs)
take-some [] n m is = ap (map line) (take-none m) ∙ sym (take-none n)
take-some (x ∷ xs) zero m is = ap (λ (k : ℕ). map line (take k (x ∷ xs))) least
  where
    least : m ≡ zero
    least = omega (arith, is)
take-some (x ∷ xs) (suc n) m is = ap (λ (k : ℕ). map line (take k (x ∷ xs))) least ∙ ap (λ ls. line x ∷ ls) (take-some xs n (min (length xs) n) refl)
  where
    least : m ≡ suc (min (length xs) n)
    least = omega (arith, is)

-- around the first line of an each
around-first : (a : Around) (l : Line) (ls : List Line) (old left : ℕ) → old ≡ 0 → (left ≡ 0 → ⊥) → around_by left old a l ls ≡ each_around l left ls
around-first a l ls zero zero none some = absurd (some refl)
around-first a l ls zero (suc left) none some = refl
around-first a l ls (suc old) left none some = absurd (omega (arith, none))

shows-each : (s : Scope) (l : Line) (ls : List Line) → s.left ≡ left_after 0 l → (s.left ≡ 0 → ⊥) → option_map direction_of s.each ≡ each_of l
    → ((n : ℕ) → contains nat_eq s.folded n ≡ is_among n (folded_fields (take s.left ls))) → ShowsFolds s.firsts [] → ShowsScope s (each_around l s.left ls)
shows-each s (Each d n) ls is some each folded firsts = record { each = sym each; left = refl; folded = folded; before = firsts }
shows-each s (SetField f a) ls is some each folded firsts = absurd (some is)
shows-each s (Fold r p ts) ls is some each folded firsts = absurd (some is)
shows-each s (SetRegister r a) ls is some each folded firsts = absurd (some is)
shows-each s (Put r p ts) ls is some each folded firsts = absurd (some is)
shows-each s (Send k to vs) ls is some each folded firsts = absurd (some is)
shows-each s (Skip n a) ls is some each folded firsts = absurd (some is)

-- an each begins
pub moves-in : (s : Scope) (a : Around) (l : Line) (ls : List Line) → a.left ≡ 0 → s.left ≡ left_after a.left l → (s.left ≡ 0 → ⊥) → option_map direction_of s.each ≡ each_of l
    → ((n : ℕ) → contains nat_eq s.folded n ≡ is_among n (folded_fields (take s.left ls))) → ShowsFolds s.firsts [] → ShowsScope s (around_next a l ls)
moves-in s a l ls old is some each folded firsts =
    subst (λ (b : Around). ShowsScope s b)
    (sym (ap (λ (n : ℕ). around_by n a.left a l ls) (sym is) ∙ around-first a l ls a.left s.left old some))
    (shows-each s l ls (is ∙ ap (λ (n : ℕ). left_after n l) old) some each folded firsts)

-- how many lines are left around the next line
next-left : (a : Around) (l : Line) (ls : List Line) (old left : ℕ) → left ≡ left_after old l → (around_by left old a l ls).left ≡ left
next-left a l ls old zero is = refl
next-left a (Each d n) ls zero (suc left) is = refl
next-left a (SetField f t) ls zero (suc left) is = absurd cc
next-left a (Fold r p ts) ls zero (suc left) is = absurd cc
next-left a (SetRegister r t) ls zero (suc left) is = absurd cc
next-left a (Put r p ts) ls zero (suc left) is = absurd cc
next-left a (Send k to vs) ls zero (suc left) is = absurd cc
next-left a (Skip n t) ls zero (suc left) is = absurd cc
next-left a l ls (suc old) (suc left) is = refl

pub left-next : (a : Around) (l : Line) (ls : List Line) → (around_next a l ls).left ≡ left_after a.left l
left-next a l ls = next-left a l ls a.left (left_after a.left l) refl
