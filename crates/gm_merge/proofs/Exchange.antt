-- All places of some lines are below those of others exactly where the others' are not below a bound of the first.
use Rattle.std.proofs.Common.{◌≡◌, ℕ, ◌+◌, Bool, true, false, ◌&&◌, nat_le, nat_lt, Option, Some, None, List, [], ◌∷◌, refl, sym, ap, ◌∙◌, arith}
use Rattle.std.specs.Prelude.{max}
use Rattle.std.specs.List.{list_all}
use mathlib.Core.Path.{fun_ext}
use Rattle.std.proofs.lemmas.Bool.{le-leb}
use Rattle.std.proofs.lemmas.Bool.Decides.{nat_tests}
use Rattle.gm_image.specs.Term.{Term, Const, Global, NodeCount, EdgeCount, Field, Self, OutDegree, InDegree, Register, Message, Neighbour, Column, NodeAt, Live, Unary, Binary, And, Or, Choose}
use Rattle.gm_image.specs.Program.{Line, SetField, Fold, SetRegister, Put, Send, Skip, Each}
use Rattle.gm_image.specs.Parts.{all_places, place_holds, line_terms}
use Rattle.gm_merge_laws.specs.Joins.{own_place, line_places, is_below}
use Rattle.gm_merge.specs.Bounds.{above, term_bound, terms_bound, own_bound, line_bound, lines_bound}

four : (n p a b : Bool) → (((n && p) && a) && b) ≡ (n && (p && a && b))
four true true true b = refl
four true true false b = refl
four true false a b = refl
four false p a b = refl

three : (n a b : Bool) → ((n && a) && b) ≡ (n && (a && b))
three true true b = refl
three true false b = refl
three false a b = refl

cross : (a b c d : Bool) → ((a && b) && (c && d)) ≡ ((a && c) && (b && d))
cross true true true d = refl
cross true true false d = refl
cross true false true d = refl
cross true false false d = refl
cross false b c d = refl

right : (n : Bool) → n ≡ (n && true)
right true = refl
right false = refl

-- a bound is at most a number exactly where the old one is and the places are below it
max-below : (n p m : ℕ) → nat_le (max n (p + 1)) m ≡ (nat_le n m && nat_lt p m)
max-below n p m = grind (arith, nat_tests)

abbrev under : ℕ → ℕ → Bool
under m x = nat_lt x m

above-below : (n m : ℕ) (p : Option ℕ) → nat_le (above n p) m ≡ (nat_le n m && place_holds (under m) p)
above-below n m None = right (nat_le n m)
above-below n m (Some p) = max-below n p m

term-below : (n m : ℕ) (t : Term) → nat_le (term_bound n t) m ≡ (nat_le n m && all_places (under m) t)
term-below n m (Const v) = right (nat_le n m)
term-below n m (Global g) = right (nat_le n m)
term-below n m NodeCount = right (nat_le n m)
term-below n m EdgeCount = right (nat_le n m)
term-below n m (Field f) = right (nat_le n m)
term-below n m Self = right (nat_le n m)
term-below n m OutDegree = right (nat_le n m)
term-below n m InDegree = right (nat_le n m)
term-below n m (Register r) = right (nat_le n m)
term-below n m (Message i) = right (nat_le n m)
term-below n m Neighbour = right (nat_le n m)
term-below n m (Column w) = right (nat_le n m)
term-below n m (NodeAt a) = term-below n m a
term-below n m (Live p a) = term-below (max n (p + 1)) m a ∙ ap (λ x. x && all_places (under m) a) (max-below n p m) ∙ three (nat_le n m) (nat_lt p m) (all_places (under m) a)
term-below n m (Unary op p a) = term-below (above n p) m a ∙ ap (λ x. x && all_places (under m) a) (above-below n m p) ∙ three (nat_le n m) (place_holds (under m) p) (all_places (under m) a)
term-below n m (Binary op p a b) =
    term-below (term_bound (above n p) a) m b
    ∙ ap (λ x. x && all_places (under m) b) (term-below (above n p) m a ∙ ap (λ x. x && all_places (under m) a) (above-below n m p))
    ∙ four (nat_le n m) (place_holds (under m) p) (all_places (under m) a) (all_places (under m) b)
term-below n m (And a b) = term-below (term_bound n a) m b ∙ ap (λ x. x && all_places (under m) b) (term-below n m a) ∙ three (nat_le n m) (all_places (under m) a) (all_places (under m) b)
term-below n m (Or a b) = term-below (term_bound n a) m b ∙ ap (λ x. x && all_places (under m) b) (term-below n m a) ∙ three (nat_le n m) (all_places (under m) a) (all_places (under m) b)
term-below n m (Choose c a b) =
    term-below (term_bound (term_bound n c) a) m b
    ∙ ap (λ x. x && all_places (under m) b) (term-below (term_bound n c) m a ∙ ap (λ x. x && all_places (under m) a) (term-below n m c))
    ∙ four (nat_le n m) (all_places (under m) c) (all_places (under m) a) (all_places (under m) b)

terms-below : (n m : ℕ) (ts : List Term) → nat_le (terms_bound n ts) m ≡ (nat_le n m && list_all (all_places (under m)) ts)
terms-below n m [] = right (nat_le n m)
terms-below n m (t ∷ ts) =
    terms-below (term_bound n t) m ts ∙ ap (λ x. x && list_all (all_places (under m)) ts) (term-below n m t)
    ∙ three (nat_le n m) (all_places (under m) t) (list_all (all_places (under m)) ts)

own-below : (n m : ℕ) (l : Line) → nat_le (own_bound n l) m ≡ (nat_le n m && own_place (under m) l)
own-below n m (SetField f a) = right (nat_le n m)
own-below n m (Fold r p ts) = max-below n p m
own-below n m (SetRegister r a) = right (nat_le n m)
own-below n m (Put r p ts) = max-below n p m
own-below n m (Send k to vs) = right (nat_le n m)
own-below n m (Skip k a) = right (nat_le n m)
own-below n m (Each d k) = right (nat_le n m)

line-below : (n m : ℕ) (l : Line) → nat_le (line_bound n l) m ≡ (nat_le n m && line_places (under m) l)
line-below n m l =
    terms-below (own_bound n l) m (line_terms l) ∙ ap (λ x. x && list_all (all_places (under m)) (line_terms l)) (own-below n m l)
    ∙ three (nat_le n m) (own_place (under m) l) (list_all (all_places (under m)) (line_terms l))

lines-below : (n m : ℕ) (ls : List Line) → nat_le (lines_bound n ls) m ≡ (nat_le n m && list_all (line_places (under m)) ls)
lines-below n m [] = right (nat_le n m)
lines-below n m (l ∷ ls) =
    lines-below (line_bound n l) m ls ∙ ap (λ x. x && list_all (line_places (under m)) ls) (line-below n m l)
    ∙ three (nat_le n m) (line_places (under m) l) (list_all (line_places (under m)) ls)

-- a question about all places of something: it holds of two tests at once exactly where it holds of each, and of the test that always holds
record Asks (W : (ℕ → Bool) → Bool) : Type 0 where
  both : (P Q : ℕ → Bool) → W (λ y. P y && Q y) ≡ (W P && W Q)
  all : W (λ y. true) ≡ true

-- two questions at once ask about the places of both
asks-and : (V W : (ℕ → Bool) → Bool) → Asks V → Asks W → Asks (λ P. V P && W P)
asks-and V W v w = record {
  both = λ P Q. ap (λ x. x && W (λ y. P y && Q y)) (v.both P Q) ∙ ap (λ x. (V P && V Q) && x) (w.both P Q) ∙ cross (V P) (V Q) (W P) (W Q);
  all = ap (λ x. x && W (λ y. true)) v.all ∙ w.all;
}

asks-none : Asks (λ P. true)
asks-none = record { both = λ P Q. refl; all = refl }

asks-one : (p : ℕ) → Asks (λ P. P p)
asks-one p = record { both = λ P Q. refl; all = refl }

asks-option : (p : Option ℕ) → Asks (λ P. place_holds P p)
asks-option None = asks-none
asks-option (Some p) = asks-one p

asks-term : (t : Term) → Asks (λ P. all_places P t)
asks-term (Const v) = asks-none
asks-term (Global g) = asks-none
asks-term NodeCount = asks-none
asks-term EdgeCount = asks-none
asks-term (Field f) = asks-none
asks-term Self = asks-none
asks-term OutDegree = asks-none
asks-term InDegree = asks-none
asks-term (Register r) = asks-none
asks-term (Message i) = asks-none
asks-term Neighbour = asks-none
asks-term (Column w) = asks-none
asks-term (NodeAt a) = asks-term a
asks-term (Live p a) = asks-and (λ P. P p) (λ P. all_places P a) (asks-one p) (asks-term a)
asks-term (Unary op p a) = asks-and (λ P. place_holds P p) (λ P. all_places P a) (asks-option p) (asks-term a)
asks-term (Binary op p a b) = asks-and (λ P. place_holds P p && all_places P a) (λ P. all_places P b) (asks-and (λ P. place_holds P p) (λ P. all_places P a) (asks-option p) (asks-term a)) (asks-term b)
asks-term (And a b) = asks-and (λ P. all_places P a) (λ P. all_places P b) (asks-term a) (asks-term b)
asks-term (Or a b) = asks-and (λ P. all_places P a) (λ P. all_places P b) (asks-term a) (asks-term b)
asks-term (Choose c a b) = asks-and (λ P. all_places P c && all_places P a) (λ P. all_places P b) (asks-and (λ P. all_places P c) (λ P. all_places P a) (asks-term c) (asks-term a)) (asks-term b)

asks-terms : (ts : List Term) → Asks (λ P. list_all (all_places P) ts)
asks-terms [] = asks-none
asks-terms (t ∷ ts) = asks-and (λ P. all_places P t) (λ P. list_all (all_places P) ts) (asks-term t) (asks-terms ts)

asks-own : (l : Line) → Asks (λ P. own_place P l)
asks-own (SetField f a) = asks-none
asks-own (Fold r p ts) = asks-one p
asks-own (SetRegister r a) = asks-none
asks-own (Put r p ts) = asks-one p
asks-own (Send k to vs) = asks-none
asks-own (Skip n a) = asks-none
asks-own (Each d n) = asks-none

asks-line : (l : Line) → Asks (λ P. line_places P l)
asks-line l = asks-and (λ P. own_place P l) (λ P. list_all (all_places P) (line_terms l)) (asks-own l) (asks-terms (line_terms l))

asks-lines : (ls : List Line) → Asks (λ P. list_all (line_places P) ls)
asks-lines [] = asks-none
asks-lines (l ∷ ls) = asks-and (λ P. line_places P l) (λ P. list_all (line_places P) ls) (asks-line l) (asks-lines ls)

-- the order of two questions may be exchanged
module _ (W : (ℕ → Bool) → Bool) (asks : Asks W) (R : ℕ → ℕ → Bool) where
  -- a question V may be asked inside of W
  abbrev Inside : ((ℕ → Bool) → Bool) → Type 0
  Inside V = V (λ x. W (R x)) ≡ W (λ y. V (λ x. R x y))

  in-and : (U V : (ℕ → Bool) → Bool) → Inside U → Inside V → Inside (λ P. U P && V P)
  in-and U V u v =
      ap (λ b. b && V (λ x. W (R x))) u ∙ ap (λ b. W (λ y. U (λ x. R x y)) && b) v
      ∙ sym (asks.both (λ y. U (λ x. R x y)) (λ y. V (λ x. R x y)))

  in-none : Inside (λ P. true)
  in-none = sym asks.all

  in-option : (p : Option ℕ) → Inside (λ P. place_holds P p)
  in-option None = in-none
  in-option (Some p) = refl

  in-term : (t : Term) → Inside (λ P. all_places P t)
  in-term (Const v) = in-none
  in-term (Global g) = in-none
  in-term NodeCount = in-none
  in-term EdgeCount = in-none
  in-term (Field f) = in-none
  in-term Self = in-none
  in-term OutDegree = in-none
  in-term InDegree = in-none
  in-term (Register r) = in-none
  in-term (Message i) = in-none
  in-term Neighbour = in-none
  in-term (Column w) = in-none
  in-term (NodeAt a) = in-term a
  in-term (Live p a) = in-and (λ P. P p) (λ P. all_places P a) refl (in-term a)
  in-term (Unary op p a) = in-and (λ P. place_holds P p) (λ P. all_places P a) (in-option p) (in-term a)
  in-term (Binary op p a b) = in-and (λ P. place_holds P p && all_places P a) (λ P. all_places P b) (in-and (λ P. place_holds P p) (λ P. all_places P a) (in-option p) (in-term a)) (in-term b)
  in-term (And a b) = in-and (λ P. all_places P a) (λ P. all_places P b) (in-term a) (in-term b)
  in-term (Or a b) = in-and (λ P. all_places P a) (λ P. all_places P b) (in-term a) (in-term b)
  in-term (Choose c a b) = in-and (λ P. all_places P c && all_places P a) (λ P. all_places P b) (in-and (λ P. all_places P c) (λ P. all_places P a) (in-term c) (in-term a)) (in-term b)

  in-terms : (ts : List Term) → Inside (λ P. list_all (all_places P) ts)
  in-terms [] = in-none
  in-terms (t ∷ ts) = in-and (λ P. all_places P t) (λ P. list_all (all_places P) ts) (in-term t) (in-terms ts)

  in-own : (l : Line) → Inside (λ P. own_place P l)
  in-own (SetField f a) = in-none
  in-own (Fold r p ts) = refl
  in-own (SetRegister r a) = in-none
  in-own (Put r p ts) = refl
  in-own (Send k to vs) = in-none
  in-own (Skip n a) = in-none
  in-own (Each d n) = in-none

  in-line : (l : Line) → Inside (λ P. line_places P l)
  in-line l = in-and (λ P. own_place P l) (λ P. list_all (all_places P) (line_terms l)) (in-own l) (in-terms (line_terms l))

  in-lines : (ls : List Line) → Inside (λ P. list_all (line_places P) ls)
  in-lines [] = in-none
  in-lines (l ∷ ls) = in-and (λ P. line_places P l) (λ P. list_all (line_places P) ls) (in-line l) (in-lines ls)

-- all places of the first lines are below those of the second exactly where those are at least the bound of the first
pub bound-is-below : (first second : List Line) → list_all (line_places (nat_le (lines_bound 0 first))) second ≡ list_all (line_places (is_below second)) first
bound-is-below first second =
    ap (λ P. list_all (line_places P) second) (fun_ext (λ y. lines-below 0 y first ∙ ap (λ x. x && list_all (line_places (under y)) first) (le-leb 0 y (omega arith))))
    ∙ sym (in-lines (λ P. list_all (line_places P) second) (asks-lines second) nat_lt first)
