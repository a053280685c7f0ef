-- Constants are read from their spellings and from nothing else.
use Rattle.std.proofs.Common.{◌≡◌, ◌≤◌, Bool, true, false, cond, ◌&&◌, leb, List, [], ◌∷◌, ◌++◌, refl, ap, sym, ◌∙◌, subst, arith}
use Rattle.std.specs.Prelude.{Option, Some, None, option_map, ℤ, pos, negsuc, IsTrue, bytes_eq, codes}
use Rattle.std.specs.Fmt.{signed_decimal}
use Rattle.std.proofs.lemmas.Bool.Decides.{nat_tests}
use Rattle.std.proofs.lemmas.Slice.Eq.{bytes_eq-Decides}
use Rattle.gm_value.specs.declared.values.VType.{VType}
use Rattle.gm_value.specs.declared.values.VType.TheVariants as types
use Rattle.gm_value.specs.declared.values.Value.{Value}
use Rattle.gm_value.specs.declared.values.Value.TheVariants as values
use Rattle.gm_value.specs.Numbers.{type_of, fits, value_at}
use Rattle.gm_image_text.specs.Lines.{Word}
use Rattle.gm_image_text.specs.Fits.{IsPlain, ValueFits}
use Rattle.gm_image_text.specs.Spelling.{type_word, value_words}
use Rattle.gm_image_text.specs.Tables as tables
use Rattle.gm_image_text.specs.Tables.{row_in}
use Rattle.gm_image_text.specs.Numbers.{signed_in, value_from, value_in}
use Rattle.gm_image_text.specs.Reading.{◌>>=◌, word_at, constant_at}
use Rattle.gm_image_text.proofs.LineBinds.{some_is, map_some, bind_some}
use Rattle.gm_image_text.proofs.Spelled.{AllPlain}
use Rattle.gm_image_text.proofs.Fields.{FieldLaw}
use Rattle.gm_image_text.proofs.Numerals.{IsNear, signed_ok, signed_again, signed_plain}
use Rattle.gm_image_text.proofs.TableLaws.{flag_word, flags_word, types_word}

and_true : (a b : Bool) → a && b ≡ true → (a ≡ true) × (b ≡ true)
and_true true b e = (refl, e)
and_true false b e = cc

-- the word of a constant behind that of its type
abbrev pub value_text : Value → Word
value_text (values.I32 z) = signed_decimal z
value_text (values.I64 z) = signed_decimal z
value_text (values.Flag b) = flag_word b
value_text (values.At _) = codes "NIL"

words_are : (v : Value) → value_words v ≡ type_word (type_of v) ∷ value_text v ∷ []
words_are (values.I32 z) = refl
words_are (values.I64 z) = refl
words_are (values.Flag true) = refl
words_are (values.Flag false) = refl
words_are (values.At _) = refl

near32 : (z : ℤ) → fits types.I32 z ≡ true → IsNear z
near32 (pos n) h = let it : leb n 2147483647 ≡ true = h in (let low : n ≤ 2147483647 = grind (arith, nat_tests, it) in omega (arith, low))
near32 (negsuc n) h =
    let it = and_true (leb n 2147483647) true h in
    let low : n ≤ 2147483647 = grind (arith, nat_tests, it.0) in
    omega (arith, low)

near64 : (z : ℤ) → fits types.I64 z ≡ true → IsNear z
near64 (pos n) h = let it : leb n 9223372036854775807 ≡ true = h in (let low : n ≤ 9223372036854775807 = grind (arith, nat_tests, it) in omega (arith, low))
near64 (negsuc n) h =
    let it = and_true (leb n 9223372036854775807) true h in
    let low : n ≤ 9223372036854775807 = grind (arith, nat_tests, it.0) in
    omega (arith, low)

true_is : (b : Bool) → b ≡ true → IsTrue b
true_is b e = e

is_true : (b : Bool) → IsTrue b → b ≡ true
is_true b h = h

-- what a value of a type is and how it is spelled
pub record IsSpelled (t : VType) (w : Word) (v : Value) : Type 0 where
  pub fits_type : ValueFits v
  pub typed : type_of v ≡ t
  pub word : w ≡ value_text v

from_number : (t : VType) (o : Option ℤ) (v : Value) → value_from t o ≡ Some v → (z : ℤ) × (o ≡ Some z) × (fits t z ≡ true) × (value_at t z ≡ v)
from_number t None v e = cc
from_number t (Some z) v e =
    elim (fits t z) as (λ b. fits t z ≡ b → cond b (Some (value_at t z)) None ≡ Some v → (y : ℤ) × (Some z ≡ Some y) × (fits t y ≡ true) × (value_at t y ≡ v)) [
      | true ↦ λ is h. (z, refl, is, some_is (value_at t z) v h)
      | false ↦ λ is h. cc
    ] refl e

value_ok : (t : VType) (w : Word) (v : Value) → IsPlain w → value_in t w ≡ Some v → IsSpelled t w v
value_ok types.I32 w v p e =
    let it = from_number types.I32 (signed_in w) v e in
    let P : Value → Type 0 = λ u. IsSpelled types.I32 w u in
    subst P it.3 (record { fits_type = true_is (fits types.I32 it.0) it.2; typed = refl; word = signed_ok w it.0 it.1 (near32 it.0 it.2) })
value_ok types.I64 w v p e =
    let it = from_number types.I64 (signed_in w) v e in
    let P : Value → Type 0 = λ u. IsSpelled types.I64 w u in
    subst P it.3 (record { fits_type = true_is (fits types.I64 it.0) it.2; typed = refl; word = signed_ok w it.0 it.1 (near64 it.0 it.2) })
value_ok types.Flag w v p e =
    let it = map_some (row_in tables.flags w) (λ b. values.Flag b) v e in
    let P : Value → Type 0 = λ u. IsSpelled types.Flag w u in
    subst P it.2 (record { fits_type = tt; typed = refl; word = (flags_word.ok w it.0 p it.1).1 })
value_ok types.Node w v p e =
    elim (bytes_eq w (codes "NIL")) as (λ b. bytes_eq w (codes "NIL") ≡ b → cond b (Some (values.At None)) None ≡ Some v → IsSpelled types.Node w v) [
      | true ↦ λ is h.
          let P : Value → Type 0 = λ u. IsSpelled types.Node w u in
          subst P (some_is (values.At None) v h) (record { fits_type = tt; typed = refl; word = (bytes_eq-Decides w (codes "NIL")).0 is })
      | false ↦ λ is h. cc
    ] refl e

value_again : (v : Value) → ValueFits v → value_in (type_of v) (value_text v) ≡ Some v
value_again (values.I32 z) h =
    let is : fits types.I32 z ≡ true = is_true (fits types.I32 z) h in
    ap (value_from types.I32) (signed_again z (near32 z is)) ∙ ap (λ b. cond b (Some (value_at types.I32 z)) None) is
value_again (values.I64 z) h =
    let is : fits types.I64 z ≡ true = is_true (fits types.I64 z) h in
    ap (value_from types.I64) (signed_again z (near64 z is)) ∙ ap (λ b. cond b (Some (value_at types.I64 z)) None) is
value_again (values.Flag b) h = ap (option_map (λ b. values.Flag b)) (flags_word.again b tt)
value_again (values.At None) h = refl
value_again (values.At (Some n)) h = absurd h

value_plain : (v : Value) → ValueFits v → IsPlain (value_text v)
value_plain (values.I32 z) h = signed_plain z (near32 z (is_true (fits types.I32 z) h))
value_plain (values.I64 z) h = signed_plain z (near64 z (is_true (fits types.I64 z) h))
value_plain (values.Flag b) h = flags_word.plain b tt
value_plain (values.At _) h = refl

-- a type and a constant of it
abbrev behind_type : VType → Word → List Word → Option (Value × List Word)
behind_type t w ws = value_in t w >>= λ v. Some (v, ws)

constant_ok : (ws rest : List Word) (v : Value) → AllPlain ws → constant_at ws ≡ Some (v, rest) → ValueFits v × (ws ≡ value_words v ++ rest)
constant_ok [] rest v p e = cc
constant_ok (w ∷ ws) rest v p e =
    let one = bind_some (row_in tables.types w >>= λ t. Some (t, ws)) (λ t. word_at (value_in t.0) t.1) (v, rest) e in
    let two = bind_some (row_in tables.types w) (λ t. Some (t, ws)) one.0 one.1 in
    let pair : (two.0, ws) ≡ one.0 = some_is (two.0, ws) one.0 two.2 in
    let P : VType × List Word → Type 0 = λ u. word_at (value_in u.0) u.1 ≡ Some (v, rest) in
    behind two.0 ws p.1 (types_word.ok w two.0 p.0 two.1).1 (subst P (sym pair) one.2) where
      behind : (t : VType) (vs : List Word) → AllPlain vs → w ≡ type_word t → word_at (value_in t) vs ≡ Some (v, rest) → ValueFits v × (w ∷ vs ≡ value_words v ++ rest)
      behind t [] q is h = cc
      behind t (u ∷ us) q is h =
          let it = bind_some (value_in t u) (λ x. Some (x, us)) (v, rest) h in
          let end : (it.0, us) ≡ (v, rest) = some_is (it.0, us) (v, rest) it.2 in
          let s : IsSpelled t u it.0 = value_ok t u it.0 q.0 it.1 in
          let Q : Value × List Word → Type 0 = λ z. ValueFits z.0 × (w ∷ u ∷ us ≡ value_words z.0 ++ z.1) in
          subst Q end (s.fits_type, ap (λ z. z ∷ u ∷ us) (is ∙ ap type_word (sym s.typed)) ∙ ap (λ z. type_word (type_of it.0) ∷ z ∷ us) s.word ∙ ap (λ z. z ++ us) (sym (words_are it.0)))

-- the rest of the reading behind the type's meaning, and behind the constant's
abbrev typed_rest : List Word → Option VType → Option (Value × List Word)
typed_rest ws o = ◌>>=◌ {A = VType × List Word} (◌>>=◌ {A = VType} {B = VType × List Word} o (λ t. Some (t, ws))) (λ t. word_at (value_in t.0) t.1)

abbrev valued_rest : List Word → Option Value → Option (Value × List Word)
valued_rest ws o = ◌>>=◌ {A = Value} {B = Value × List Word} o (λ x. Some (x, ws))

constant_again : (v : Value) (rest : List Word) → ValueFits v → constant_at (value_words v ++ rest) ≡ Some (v, rest)
constant_again v rest h =
    ap (λ ws. constant_at (ws ++ rest)) (words_are v)
    ∙ ap (typed_rest (value_text v ∷ rest)) (types_word.again (type_of v) tt)
    ∙ ap (valued_rest rest) (value_again v h)

constant_plain : (v : Value) → ValueFits v → AllPlain (value_words v)
constant_plain v h =
    let P : List Word → Type 0 = AllPlain in
    subst P (sym (words_are v)) (types_word.plain (type_of v) tt, (value_plain v h, tt))

pub constant_field : FieldLaw ValueFits value_words constant_at
constant_field = record { ok = constant_ok; again = constant_again; plain = constant_plain }
