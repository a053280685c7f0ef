-- What soundness says of names and expressions: their numbers being in range, they have a spelling.
use Rattle.std.proofs.Common.{◌≡◌, ◌<◌, ◌≤◌, ℕ, suc, max, Bool, true, false, ◌&&◌, ◌||◌, eqb, List, [], ◌∷◌, length, refl, ap, ◌∙◌, subst, arith}
use Rattle.std.specs.Prelude.{nat_le, Option, Some, None}
use Rattle.std.specs.List.{list_all, list_any}
use Rattle.std.proofs.lemmas.Bool.{eqb-true}
use Rattle.std.proofs.lemmas.Bool.Decides.{nat_tests}
use Rattle.gm_value.specs.declared.values.VType.{VType}
use Rattle.gm_value.specs.declared.values.Value.TheVariants as values
use Rattle.gm_image.specs.declared.sorts.Sort.{Sort}
use Rattle.gm_image.specs.declared.sorts.Sort.TheVariants as sorts
use Rattle.gm_image.specs.Term.{Term, Const, Global, NodeCount, EdgeCount, Field, Self, OutDegree, InDegree, Register, Message, Neighbour, Column, NodeAt, Live, Unary, Binary, And, Or, Choose}
use Rattle.gm_image.specs.Program.{Program}
use Rattle.gm_image.specs.Parts.{depth, is_shallow}
use Rattle.gm_image.specs.Sorts.{expects, one_sort, two_sort, three_sort, sort_of, node_at_sort, live_sort, unary_sort, binary_sort, logic_sort, choice_sort}
use Rattle.gm_image.specs.Names.{is_name_byte, begins_with_letter, is_name}
use Rattle.gm_image_text.specs.Fits.{ends_word, IsPlain, IsName, NumbersFit, levels, TermFits}
use Rattle.gm_image.specs.Ranges.{InRange}

-- the parts of a test
pub both : (a b : Bool) → (a && b) ≡ true → (a ≡ true) × (b ≡ true)
both true b e = (refl, e)
both false b e = cc

-- names
not_lf : (b : ℕ) (t : Bool) → eqb b 10 ≡ t → is_name_byte b ≡ true → t ≡ false
not_lf b true e h =
    let ten : b ≡ 10 = eqb-true b 10 e in
    let P : ℕ → Type 0 = λ n. is_name_byte n ≡ true in
    let bad : false ≡ true = subst P ten h in
    cc
not_lf b false e h = refl

not_blank : (b : ℕ) (t : Bool) → eqb b 32 ≡ t → is_name_byte b ≡ true → t ≡ false
not_blank b true e h =
    let blank : b ≡ 32 = eqb-true b 32 e in
    let P : ℕ → Type 0 = λ n. is_name_byte n ≡ true in
    let bad : false ≡ true = subst P blank h in
    cc
not_blank b false e h = refl

plain_byte : (b : ℕ) → is_name_byte b ≡ true → ends_word b ≡ false
plain_byte b h = ap (λ v. v || eqb b 32) (not_lf b (eqb b 10) refl h) ∙ not_blank b (eqb b 32) refl h

plain_bytes : (bs : List ℕ) → list_all is_name_byte bs ≡ true → IsPlain bs
plain_bytes [] h = refl
plain_bytes (b ∷ bs) h =
    let it = both (is_name_byte b) (list_all is_name_byte bs) h in
    ap (λ v. v || list_any ends_word bs) (plain_byte b it.0) ∙ plain_bytes bs it.1

some_byte : (bs : List ℕ) → begins_with_letter bs ≡ true → 0 < length bs
some_byte [] h = cc
some_byte (b ∷ bs) h = omega arith

pub name_fits : (bs : List ℕ) → is_name bs ≡ true → IsName bs
name_fits bs h =
    let it = both (begins_with_letter bs) (list_all is_name_byte bs) h in
    record { nonempty = some_byte bs it.0; plain = plain_bytes bs it.1 }

-- the levels of an expression
levels_depth : (a : Term) → levels a ≡ depth a
levels_depth (Const v) = refl
levels_depth (Global g) = refl
levels_depth NodeCount = refl
levels_depth EdgeCount = refl
levels_depth (Field f) = refl
levels_depth Self = refl
levels_depth OutDegree = refl
levels_depth InDegree = refl
levels_depth (Register r) = refl
levels_depth (Message i) = refl
levels_depth Neighbour = refl
levels_depth (Column w) = refl
levels_depth (NodeAt a) = ap suc (levels_depth a)
levels_depth (Live p a) = ap suc (levels_depth a)
levels_depth (Unary op p a) = ap suc (levels_depth a)
levels_depth (Binary op p a b) = λ i. suc (max (levels_depth a i) (levels_depth b i))
levels_depth (And a b) = λ i. suc (max (levels_depth a i) (levels_depth b i))
levels_depth (Or a b) = λ i. suc (max (levels_depth a i) (levels_depth b i))
levels_depth (Choose c a b) = λ i. suc (max (levels_depth c i) (max (levels_depth a i) (levels_depth b i)))

at_most : (n m : ℕ) → nat_le n m ≡ true → n ≤ m
at_most n m h = grind (arith, nat_tests)

shallow : (a : Term) → is_shallow a ≡ true → levels a ≤ 1024
shallow a h = let low : depth a ≤ 1024 = at_most (depth a) 1024 h in omega (arith, levels_depth a)

-- a sort that is no clash
NoClash : Sort → Type 0
NoClash sorts.Clash = ⊥
NoClash (sorts.Known t) = Unit {0}
NoClash sorts.Unknown = Unit {0}

no_clash : (t : VType) (s : Sort) → expects t s ≡ true → NoClash s
unfolding NoClash
no_clash t (sorts.Known u) e = tt
no_clash t sorts.Unknown e = tt
no_clash t sorts.Clash e = let bad : false ≡ true = e in cc

of_one : (f : VType → Sort) (s : Sort) → NoClash (one_sort f s) → NoClash s
unfolding NoClash
of_one f (sorts.Known t) h = tt
of_one f sorts.Unknown h = tt
of_one f sorts.Clash h = h

of_two : (f : VType → VType → Sort) (s r : Sort) → NoClash (two_sort f s r) → NoClash s × NoClash r
unfolding NoClash
of_two f (sorts.Known t) r h = (tt, of_one (f t) r h)
of_two f sorts.Unknown r h = (tt, of_one (λ _. sorts.Unknown) r h)
of_two f sorts.Clash r h = absurd h

of_three : (f : VType → VType → VType → Sort) (s r q : Sort) → NoClash (three_sort f s r q) → NoClash s × NoClash r × NoClash q
unfolding NoClash
of_three f (sorts.Known t) r q h = let it = of_two (f t) r q h in (tt, it.0, it.1)
of_three f sorts.Unknown r q h = let it = of_two (λ _ _. sorts.Unknown) r q h in (tt, it.0, it.1)
of_three f sorts.Clash r q h = absurd h

-- the numbers of an expression
module _ (p : Program) (k : Option ℕ) where
  numbers : (a : Term) → InRange a → NoClash (sort_of p k a) → NumbersFit a
  unfolding NoClash
  numbers (Const (values.I32 z)) h s = h
  numbers (Const (values.I64 z)) h s = h
  numbers (Const (values.Flag b)) h s = tt
  numbers (Const (values.At None)) h s = tt
  numbers (Const (values.At (Some n))) h s = s
  numbers (Global g) h s = h
  numbers NodeCount h s = tt
  numbers EdgeCount h s = tt
  numbers (Field f) h s = h
  numbers Self h s = tt
  numbers OutDegree h s = tt
  numbers InDegree h s = tt
  numbers (Register r) h s = h
  numbers (Message i) h s = h
  numbers Neighbour h s = tt
  numbers (Column w) h s = h
  numbers (NodeAt a) h s = numbers a h (of_one node_at_sort (sort_of p k a) s)
  numbers (Live q a) h s = (h.0, numbers a h.1 (of_one live_sort (sort_of p k a) s))
  numbers (Unary op q a) h s = (h.0, numbers a h.1 (of_one (unary_sort op) (sort_of p k a) s))
  numbers (Binary op q a b) h s =
      let it = of_two (binary_sort op) (sort_of p k a) (sort_of p k b) s in
      (h.0, numbers a h.1 it.0, numbers b h.2 it.1)
  numbers (And a b) h s =
      let it = of_two logic_sort (sort_of p k a) (sort_of p k b) s in
      (numbers a h.0 it.0, numbers b h.1 it.1)
  numbers (Or a b) h s =
      let it = of_two logic_sort (sort_of p k a) (sort_of p k b) s in
      (numbers a h.0 it.0, numbers b h.1 it.1)
  numbers (Choose c a b) h s =
      let it = of_three choice_sort (sort_of p k c) (sort_of p k a) (sort_of p k b) s in
      (numbers c h.0 it.0, numbers a h.1 it.1, numbers b h.2 it.2)

  -- an expression of a type that is wanted has a spelling
  pub term_fits : (t : VType) (a : Term) → InRange a → is_shallow a ≡ true → expects t (sort_of p k a) ≡ true → TermFits a
  term_fits t a h d e = record { numbers = numbers a h (no_clash t (sort_of p k a) e); flat = shallow a d }
