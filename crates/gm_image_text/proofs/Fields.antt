-- The fields of a line: the words that spell each, and that it is read from these words and from no others.
use Rattle.std.proofs.Common.{◌≡◌, Bool, true, false, ◌&&◌, cond, List, [], ◌∷◌, ◌++◌, refl, ap, sym, ◌∙◌, subst, append_assoc}
use Rattle.std.specs.Prelude.{Option, Some, None, option_map, bytes_eq}
use Rattle.std.specs.List.{list_all}
use Rattle.std.proofs.lemmas.Slice.Eq.{bytes_eq-Decides}
use Rattle.gm_image_text.specs.Lines.{Word}
use Rattle.gm_image_text.specs.Fits.{IsPlain}
use Rattle.gm_image_text.specs.Tables.{row_in}
use Rattle.gm_image_text.specs.Reading.{◌>>=◌, Reads, word_at, then_at, last_at, whole_at, ended_at, fixed_at}
use Rattle.gm_image_text.proofs.LineBinds.{bind_some, map_some, some_is}
use Rattle.gm_image_text.proofs.Spelled.{AllPlain, plain_both, plain_behind}
use Rattle.gm_image_text.proofs.LineLaw.{LineLaw}

pub record FieldLaw {X : Type 0} (F : X → Type 0) (words : X → List Word) (read : Reads X) : Type 0 where
  pub ok : (ws rest : List Word) (x : X) → AllPlain ws → read ws ≡ Some (x, rest) → F x × (ws ≡ words x ++ rest)
  pub again : (x : X) (rest : List Word) → F x → read (words x ++ rest) ≡ Some (x, rest)
  pub plain : (x : X) → F x → AllPlain (words x)

-- what one word means
pub record WordLaw {X : Type 0} (F : X → Type 0) (word : X → Word) (meaning : Word → Option X) : Type 0 where
  pub ok : (w : Word) (x : X) → IsPlain w → meaning w ≡ Some x → F x × (w ≡ word x)
  pub again : (x : X) → F x → meaning (word x) ≡ Some x
  pub plain : (x : X) → F x → IsPlain (word x)

module _ {X : Type 0} (F : X → Type 0) (word : X → Word) (meaning : Word → Option X) (law : WordLaw F word meaning) where
  word_ok : (ws rest : List Word) (x : X) → AllPlain ws → word_at meaning ws ≡ Some (x, rest) → F x × (ws ≡ (word x ∷ []) ++ rest)
  word_ok [] rest x p e = cc
  word_ok (w ∷ ws) rest x p e =
      let it = bind_some (meaning w) (λ y. Some (y, ws)) (x, rest) e in
      let pair : (it.0, ws) ≡ (x, rest) = some_is (it.0, ws) (x, rest) it.2 in
      let got : F it.0 × (w ≡ word it.0) = law.ok w it.0 p.0 it.1 in
      let P : X × List Word → Type 0 = λ v. F v.0 × (w ∷ ws ≡ word v.0 ∷ v.1) in
      subst P pair (got.0, ap (λ v. v ∷ ws) got.1)

  pub word_field : FieldLaw F (λ x. word x ∷ []) (word_at meaning)
  word_field = record {
    ok = word_ok;
    again = λ x rest f. ap (λ o. o >>= λ y. Some (y, rest)) (law.again x f);
    plain = λ x f. (law.plain x f, tt);
  }

-- one field, and behind it another
module _ {X Y : Type 0} (F : X → Type 0) (words : X → List Word) (read : Reads X) (law : FieldLaw F words read) (G : Y → Type 0) (more : Y → List Word) (next : Reads Y) (next_law : FieldLaw G more next) where
  abbrev with_second : X → Y × List Word → Option ((X × Y) × List Word)
  with_second x y = Some ((x, y.0), y.1)

  abbrev behind_first : X × List Word → Option ((X × Y) × List Word)
  behind_first x = next x.1 >>= with_second x.0

  then_ok : (ws rest : List Word) (z : X × Y) → AllPlain ws → then_at read next ws ≡ Some (z, rest) → (F z.0 × G z.1) × (ws ≡ (words z.0 ++ more z.1) ++ rest)
  then_ok ws rest z p e =
      let one = bind_some (read ws) behind_first (z, rest) e in
      let x : X = one.0.0 in
      let mid : List Word = one.0.1 in
      let two = bind_some (next mid) (with_second x) (z, rest) one.2 in
      let y : Y = two.0.0 in
      let first : F x × (ws ≡ words x ++ mid) = law.ok ws mid x p one.1 in
      let P : List Word → Type 0 = AllPlain in
      let second : G y × (mid ≡ more y ++ two.0.1) = next_law.ok mid two.0.1 y (plain_behind (words x) mid (subst P first.1 p)) two.1 in
      let pair : ((x, y), two.0.1) ≡ (z, rest) = some_is ((x, y), two.0.1) (z, rest) two.2 in
      let Q : (X × Y) × List Word → Type 0 = λ v. (F v.0.0 × G v.0.1) × (ws ≡ (words v.0.0 ++ more v.0.1) ++ v.1) in
      subst Q pair ((first.0, second.0), first.1 ∙ ap (λ v. words x ++ v) second.1 ∙ sym (append_assoc (words x) (more y) two.0.1))

  then_again : (z : X × Y) (rest : List Word) → F z.0 × G z.1 → then_at read next ((words z.0 ++ more z.1) ++ rest) ≡ Some (z, rest)
  then_again z rest h =
      ap (then_at read next) (append_assoc (words z.0) (more z.1) rest)
      ∙ ap (λ o. o >>= behind_first) (law.again z.0 (more z.1 ++ rest) h.0)
      ∙ ap (λ o. o >>= with_second z.0) (next_law.again z.1 rest h.1)

  pub then_field : FieldLaw (λ z. F z.0 × G z.1) (λ z. words z.0 ++ more z.1) (then_at read next)
  then_field = record {
    ok = then_ok;
    again = then_again;
    plain = λ z h. plain_both (words z.0) (more z.1) (law.plain z.0 h.0) (next_law.plain z.1 h.1);
  }

-- nothing behind it
append_none : (ws : List Word) → ws ++ [] ≡ ws
append_none [] = refl
append_none (w ∷ ws) = ap (λ v. w ∷ v) (append_none ws)

ended_is : {X : Type 0} (x y : X) (ws : List Word) → (ended_at ws >>= λ u. Some x) ≡ Some y → (ws ≡ []) × (x ≡ y)
ended_is x y [] e = (refl, some_is x y e)
ended_is x y (w ∷ ws) e = cc

module _ {X : Type 0} (F : X → Type 0) (words : X → List Word) (read : Reads X) (law : FieldLaw F words read) where
  abbrev at_last : X × List Word → Option X
  at_last x = ended_at x.1 >>= λ u. Some x.0

  pub whole_ok : (ws : List Word) (x : X) → AllPlain ws → whole_at read ws ≡ Some x → F x × (ws ≡ words x)
  whole_ok ws x p e =
      let it = bind_some (read ws) at_last x e in
      let last : (it.0.1 ≡ []) × (it.0.0 ≡ x) = ended_is it.0.0 x it.0.1 it.2 in
      let got : F it.0.0 × (ws ≡ words it.0.0 ++ it.0.1) = law.ok ws it.0.1 it.0.0 p it.1 in
      let P : X → Type 0 = λ v. F v × (ws ≡ words v) in
      subst P last.1 (got.0, got.1 ∙ ap (λ v. words it.0.0 ++ v) last.0 ∙ append_none (words it.0.0))

  pub whole_again : (x : X) → F x → whole_at read (words x) ≡ Some x
  whole_again x f = ap (whole_at read) (sym (append_none (words x))) ∙ ap (λ o. o >>= at_last) (law.again x [] f)

  -- all words of a line
  pub whole_line : LineLaw F words (λ ws. whole_at read ws)
  whole_line = record { ok = whole_ok; again = whole_again; plain = law.plain }

-- one fixed word in front
bytes_same : (a b : Word) → bytes_eq a b ≡ true → a ≡ b
bytes_same a b e = (bytes_eq-Decides a b).0 e

fixed_is : (word : Word) (ws vs : List Word) → fixed_at word ws ≡ Some vs → ws ≡ word ∷ vs
fixed_is word [] vs e = cc
fixed_is word (w ∷ ws) vs e =
    elim (bytes_eq w word) as (λ v. bytes_eq w word ≡ v → cond v (Some ws) None ≡ Some vs → w ∷ ws ≡ word ∷ vs) [
      | true ↦ λ is h. ap (λ u. u ∷ ws) (bytes_same w word is) ∙ ap (λ u. word ∷ u) (some_is ws vs h)
      | false ↦ λ is h. cc
    ] refl e

fixed_again : (word : Word) (ws : List Word) → fixed_at word (word ∷ ws) ≡ Some ws
fixed_again word ws = ap (λ v. cond v (Some ws) None) ((bytes_eq-Decides word word).1 refl)

module _ {X : Type 0} (F : X → Type 0) (words : X → List Word) (rest_of : List Word → Option X) (law : LineLaw F words rest_of) (word : Word) (word_plain : IsPlain word) where
  abbrev after_word : List Word → Option X
  after_word ws = fixed_at word ws >>= λ vs. rest_of vs

  after_ok : (ws : List Word) (x : X) → AllPlain ws → after_word ws ≡ Some x → F x × (ws ≡ word ∷ words x)
  after_ok ws x p e =
      let it = bind_some (fixed_at word ws) (λ vs. rest_of vs) x e in
      let first : ws ≡ word ∷ it.0 = fixed_is word ws it.0 it.1 in
      let P : List Word → Type 0 = AllPlain in
      let got : F x × (it.0 ≡ words x) = law.ok it.0 x (subst P first p).1 it.2 in
      (got.0, first ∙ ap (λ v. word ∷ v) got.1)

  -- a line that begins with a fixed word
  pub after_line : LineLaw F (λ x. word ∷ words x) (λ ws. fixed_at word ws >>= λ vs. rest_of vs)
  after_line = record {
    ok = after_ok;
    again = λ x f. ap (λ o. o >>= λ vs. rest_of vs) (fixed_again word (words x)) ∙ law.again x f;
    plain = λ x f. (word_plain, law.plain x f);
  }

-- one field, and behind it all words to the end
module _ {X Y : Type 0} (F : X → Type 0) (words : X → List Word) (read : Reads X) (law : FieldLaw F words read) (G : Y → Type 0) (more : Y → List Word) (last : List Word → Option Y) (last_law : LineLaw G more last) where
  abbrev with_last : X → Y → Option (X × Y)
  with_last x y = Some (x, y)

  abbrev behind : X × List Word → Option (X × Y)
  behind x = last x.1 >>= with_last x.0

  last_ok : (ws : List Word) (z : X × Y) → AllPlain ws → last_at read last ws ≡ Some z → (F z.0 × G z.1) × (ws ≡ words z.0 ++ more z.1)
  last_ok ws z p e =
      let one = bind_some (read ws) behind z e in
      let x : X = one.0.0 in
      let mid : List Word = one.0.1 in
      let two = bind_some (last mid) (with_last x) z one.2 in
      let y : Y = two.0 in
      let first : F x × (ws ≡ words x ++ mid) = law.ok ws mid x p one.1 in
      let P : List Word → Type 0 = AllPlain in
      let second : G y × (mid ≡ more y) = last_law.ok mid y (plain_behind (words x) mid (subst P first.1 p)) two.1 in
      let pair : (x, y) ≡ z = some_is (x, y) z two.2 in
      let Q : X × Y → Type 0 = λ v. (F v.0 × G v.1) × (ws ≡ words v.0 ++ more v.1) in
      subst Q pair ((first.0, second.0), first.1 ∙ ap (λ v. words x ++ v) second.1)

  pub last_line : LineLaw (λ z. F z.0 × G z.1) (λ z. words z.0 ++ more z.1) (λ ws. last_at read last ws)
  last_line = record {
    ok = last_ok;
    again = λ z h. ap (λ o. o >>= behind) (law.again z.0 (more z.1) h.0) ∙ ap (λ o. o >>= with_last z.0) (last_law.again z.1 h.1);
    plain = λ z h. plain_both (words z.0) (more z.1) (law.plain z.0 h.0) (last_law.plain z.1 h.1);
  }

-- what is made of a line: `make` and `unmake` go there and back
pub record Remakes {X Y : Type 0} (F : X → Type 0) (words : X → List Word) (G : Y → Type 0) (spelled : Y → List Word) (make : X → Y) (unmake : Y → X) : Type 0 where
  pub there : (x : X) → F x → G (make x) × (words x ≡ spelled (make x))
  pub back : (y : Y) → G y → F (unmake y) × (make (unmake y) ≡ y)

module _ {X Y : Type 0} (F : X → Type 0) (words : X → List Word) (read : List Word → Option X) (law : LineLaw F words read) (G : Y → Type 0) (spelled : Y → List Word) (make : X → Y) (unmake : Y → X) (remakes : Remakes F words G spelled make unmake) where
  unmade : (y : Y) → G y → spelled y ≡ words (unmake y)
  unmade y g =
      let back : F (unmake y) × (make (unmake y) ≡ y) = remakes.back y g in
      sym ((remakes.there (unmake y) back.0).1 ∙ ap spelled back.1)

  made_ok : (ws : List Word) (y : Y) → AllPlain ws → option_map make (read ws) ≡ Some y → G y × (ws ≡ spelled y)
  made_ok ws y p e =
      let it = map_some (read ws) make y e in
      let got : F it.0 × (ws ≡ words it.0) = law.ok ws it.0 p it.1 in
      let there : G (make it.0) × (words it.0 ≡ spelled (make it.0)) = remakes.there it.0 got.0 in
      let P : Y → Type 0 = λ v. G v × (ws ≡ spelled v) in
      subst P it.2 (there.0, got.1 ∙ there.1)

  made_plain : (y : Y) → G y → AllPlain (spelled y)
  made_plain y g =
      let P : List Word → Type 0 = AllPlain in
      subst P (sym (unmade y g)) (law.plain (unmake y) (remakes.back y g).0)

  pub made_line : LineLaw G spelled (λ ws. option_map make (read ws))
  made_line = record {
    ok = made_ok;
    again = λ y g. ap (λ v. option_map make (read v)) (unmade y g) ∙ ap (option_map make) (law.again (unmake y) (remakes.back y g).0) ∙ ap (λ v. Some v) (remakes.back y g).1;
    plain = made_plain;
  }

-- what is made of a field
module _ {X Y : Type 0} (F : X → Type 0) (words : X → List Word) (read : Reads X) (law : FieldLaw F words read) (G : Y → Type 0) (spelled : Y → List Word) (make : X → Y) (unmake : Y → X) (remakes : Remakes F words G spelled make unmake) where
  abbrev field_made : X × List Word → Y × List Word
  field_made x = (make x.0, x.1)

  field_unmade : (y : Y) → G y → spelled y ≡ words (unmake y)
  field_unmade y g =
      let back : F (unmake y) × (make (unmake y) ≡ y) = remakes.back y g in
      sym ((remakes.there (unmake y) back.0).1 ∙ ap spelled back.1)

  field_ok : (ws rest : List Word) (y : Y) → AllPlain ws → option_map field_made (read ws) ≡ Some (y, rest) → G y × (ws ≡ spelled y ++ rest)
  field_ok ws rest y p e =
      let it = map_some (read ws) field_made (y, rest) e in
      let got : F it.0.0 × (ws ≡ words it.0.0 ++ it.0.1) = law.ok ws it.0.1 it.0.0 p it.1 in
      let there : G (make it.0.0) × (words it.0.0 ≡ spelled (make it.0.0)) = remakes.there it.0.0 got.0 in
      let P : Y × List Word → Type 0 = λ v. G v.0 × (ws ≡ spelled v.0 ++ v.1) in
      subst P it.2 (there.0, got.1 ∙ ap (λ v. v ++ it.0.1) there.1)

  field_plain : (y : Y) → G y → AllPlain (spelled y)
  field_plain y g =
      let P : List Word → Type 0 = AllPlain in
      subst P (sym (field_unmade y g)) (law.plain (unmake y) (remakes.back y g).0)

  pub made_field : FieldLaw G spelled (λ ws. option_map (λ x. (make x.0, x.1)) (read ws))
  made_field = record {
    ok = field_ok;
    again = λ y rest g. ap (λ v. option_map field_made (read (v ++ rest))) (field_unmade y g) ∙ ap (option_map field_made) (law.again (unmake y) rest (remakes.back y g).0) ∙ ap (λ v. Some (v, rest)) (remakes.back y g).1;
    plain = field_plain;
  }

and_true : (a b : Bool) → a && b ≡ true → (a ≡ true) × (b ≡ true)
and_true true b e = (refl, e)
and_true false b e = cc

-- a table in which each row has its meaning's word
module _ {T : Type 0} (word : T → Word) (table : List (Word × T)) where
  in_table : (rows : List (Word × T)) (w : Word) (x : T) → list_all (λ row. bytes_eq (word row.1) row.0) rows ≡ true → row_in rows w ≡ Some x → w ≡ word x
  in_table [] w x all e = cc
  in_table (row ∷ rows) w x all e =
      let both = and_true (bytes_eq (word row.1) row.0) (list_all (λ r. bytes_eq (word r.1) r.0) rows) all in
      elim (bytes_eq row.0 w) as (λ v. bytes_eq row.0 w ≡ v → cond v (Some row.1) (row_in rows w) ≡ Some x → w ≡ word x) [
        | true ↦ λ is h. sym (bytes_same row.0 w is) ∙ sym (bytes_same (word row.1) row.0 both.0) ∙ ap word (some_is row.1 x h)
        | false ↦ λ is h. in_table rows w x both.1 h
      ] refl e

  pub table_word : list_all (λ row. bytes_eq (word row.1) row.0) table ≡ true → (again : (x : T) → row_in table (word x) ≡ Some x) → (plain : (x : T) → IsPlain (word x)) → WordLaw (λ x. Unit {0}) word (row_in table)
  table_word all again plain = record {
    ok = λ w x p e. (tt, in_table table w x all e);
    again = λ x f. again x;
    plain = λ x f. plain x;
  }
