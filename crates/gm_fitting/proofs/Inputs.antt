-- The scalar inputs of the program of a text have different names, and so each has the type of its name.
use Rattle.std.proofs.Common.{◌≡◌, ◌<◌, ℕ, zero, suc, Bool, true, false, cond, List, [], ◌∷◌, map, take, filter, refl, ap, ◌∙◌, sym, arith, ⊎_elim, inl, inr, Some}
use Rattle.std.specs.Prelude.{◌⊎◌, ◌&&◌, ◌||◌, find, nat_eq, nat_le, option_map, get_or}
use Rattle.std.specs.List.{list_all}
use Rattle.std.specs.Str.{bytes_eq}
use Rattle.std.specs.Str.Lossy.{utf8_lossy}
use Rattle.std.proofs.lemmas.Bool.{both_ways, eqb-true, leb-true}
use Rattle.std.proofs.lemmas.Slice.Eq.{bytes_eq-Decides}
use Rattle.std.proofs.lemmas.Str.{IsUtf8-from_ascii, utf8_lossy-IsUtf8}
use Rattle.gm_ast.specs.declared.tree.Declaration.{Declaration}
use Rattle.gm_forms.proofs.Named.{both-true}
use Rattle.gm_image.specs.Names.{is_letter, is_digit, is_name_byte, begins_with_letter, is_name}
use Rattle.gm_typed_stores.specs.Values.{Each}
use Rattle.gm_words.specs.declared.arguments.Input.{Input}
use Rattle.gm_words.specs.Arguments.{type_named}
use Rattle.gm_sound_lowering.specs.Asked.{name_at}

-- ---- names are texts

or-parts : (a b : Bool) → a || b ≡ true → (a ≡ true) ⊎ (b ≡ true)
or-parts true b h = inl refl
or-parts false b h = inr h

letter-low : (b : ℕ) → is_letter b ≡ true → b < 128
letter-low b h =
    ⊎_elim
    (λ (k : ((nat_le 65 b && nat_le b 90) || (nat_le 97 b && nat_le b 122)) ≡ true).
    ⊎_elim (λ (m : (nat_le 65 b && nat_le b 90) ≡ true). let l = leb-true b 90 (both-true (nat_le 65 b) (nat_le b 90) m).1 in omega (arith, l))
    (λ (m : (nat_le 97 b && nat_le b 122) ≡ true). let l = leb-true b 122 (both-true (nat_le 97 b) (nat_le b 122) m).1 in omega (arith, l))
    (or-parts (nat_le 65 b && nat_le b 90) (nat_le 97 b && nat_le b 122) k)) (λ (k : nat_eq b 95 ≡ true). let l = eqb-true b 95 k in omega (arith, l))
    (or-parts ((nat_le 65 b && nat_le b 90) || (nat_le 97 b && nat_le b 122)) (nat_eq b 95) h)

byte-low : (b : ℕ) → is_name_byte b ≡ true → b < 128
byte-low b h =
    ⊎_elim (λ (k : is_letter b ≡ true). letter-low b k) (λ (k : is_digit b ≡ true). let l = leb-true b 57 (both-true (nat_le 48 b) (nat_le b 57) k).1 in omega (arith, l)) (or-parts (is_letter b) (is_digit b) h)

low : (bs : List ℕ) → list_all is_name_byte bs ≡ true → (i : ℕ) → get_or bs i 0 < 128
low [] h i = omega arith
low (b ∷ bs) h zero = byte-low b (both-true (is_name_byte b) (list_all is_name_byte bs) h).0
low (b ∷ bs) h (suc i) = low bs (both-true (is_name_byte b) (list_all is_name_byte bs) h).1 i

same-text : (bs : List ℕ) → is_name bs ≡ true → utf8_lossy bs ≡ bs
same-text bs h = utf8_lossy-IsUtf8 bs (IsUtf8-from_ascii bs (low bs (both-true (begins_with_letter bs) (list_all is_name_byte bs) h).1))

-- ---- declarations

abbrev Differ : List Declaration → Type 0
Differ [] = Unit {0}
Differ (d ∷ ds) = Each (λ e. bytes_eq e.name d.name ≡ false) ds × Differ ds

turned : (s t : List ℕ) → bytes_eq s t ≡ false → bytes_eq t s ≡ false
turned s t h = by (bytes_eq t s) refl
  where
    by : (b : Bool) → bytes_eq t s ≡ b → b ≡ false
    by false e = refl
    by true e = absurd (both_ways (bytes_eq s t) h ((bytes_eq-Decides s t).1 (sym ((bytes_eq-Decides t s).0 e))))

each-row : (P : List ℕ → Type 0) (ds : List Declaration) (n : ℕ) → ((j : ℕ) → j < n → P (name_at ds j)) → Each (λ (d : Declaration). P d.name) (take n ds)
each-row P ds zero h = tt
each-row P [] (suc n) h = tt
each-row P (d ∷ ds) (suc n) h = (h 0 (omega arith), each-row P ds n (λ j l. h (suc j) (omega (arith, l))))

pub rows-differ : (ds : List Declaration) (n : ℕ) → ((x y : ℕ) → x < y → y < n → bytes_eq (name_at ds x) (name_at ds y) ≡ false) → Differ (take n ds)
rows-differ ds zero h = tt
rows-differ [] (suc n) h = tt
rows-differ (d ∷ ds) (suc n) h = (
  each-row (λ t. bytes_eq t d.name ≡ false) ds n (λ j l. turned d.name (name_at ds j) (h 0 (suc j) (omega arith) (omega (arith, l)))),
  rows-differ ds n (λ x y l m. h (suc x) (suc y) (omega (arith, l)) (omega (arith, m))),
)

each-kept : (P : Declaration → Type 0) (t : Declaration → Bool) (ds : List Declaration) → Each P ds → Each P (filter t ds)
each-kept P t [] h = tt
each-kept P t (d ∷ ds) h = by (t d) (each-kept P t ds h.1)
  where
    by : (b : Bool) → Each P (filter t ds) → Each P (cond b (d ∷ filter t ds) (filter t ds))
    by true rest = (h.0, rest)
    by false rest = rest

differ-kept : (t : Declaration → Bool) (ds : List Declaration) → Differ ds → Differ (filter t ds)
differ-kept t [] h = tt
differ-kept t (d ∷ ds) h = by (t d) (differ-kept t ds h.1)
  where
    by : (b : Bool) → Differ (filter t ds) → Differ (cond b (d ∷ filter t ds) (filter t ds))
    by true rest = (each-kept (λ e. bytes_eq e.name d.name ≡ false) t ds h.0, rest)
    by false rest = rest

-- ---- inputs

abbrev pub as_input : Declaration → Input
as_input d = record { name = utf8_lossy d.name; vtype = d.variable.vtype }

abbrev Named : List Declaration → Type 0
Named ds = Each (λ d. is_name d.name ≡ true) ds

apart : (d : Declaration) (ds : List Declaration) → is_name d.name ≡ true → Named ds → Each (λ e. bytes_eq e.name d.name ≡ false) ds → Each (λ (i : Input). bytes_eq i.name (utf8_lossy d.name) ≡ false) (map as_input ds)
apart d [] m n h = tt
apart d (e ∷ ds) m n h = (ap (λ s. bytes_eq s (utf8_lossy d.name)) (same-text e.name n.0) ∙ ap (bytes_eq e.name) (same-text d.name m) ∙ h.0, apart d ds m n.1 h.1)

abbrev Typed : List Input → List Input → Type 0
Typed all some = Each (λ (i : Input). type_named all i.name ≡ Some i.vtype) some

behind-one : (i : Input) (all some : List Input) → Each (λ (j : Input). bytes_eq j.name i.name ≡ false) some → Typed all some → Typed (i ∷ all) some
behind-one i all [] d h = tt
behind-one i all (j ∷ some) d h = (ap (λ b. option_map (λ (k : Input). k.vtype) (cond b (Some i) (find (λ (k : Input). bytes_eq j.name k.name) all))) d.0 ∙ h.0, behind-one i all some d.1 h.1)

pub inputs-typed : (ds : List Declaration) → Named ds → Differ ds → Typed (map as_input ds) (map as_input ds)
inputs-typed [] n h = tt
inputs-typed (d ∷ ds) n h =
    let i = as_input d in (
      ap (λ b. option_map (λ (k : Input). k.vtype) (cond b (Some i) (find (λ (k : Input). bytes_eq i.name k.name) (map as_input ds)))) ((bytes_eq-Decides i.name i.name).1 refl),
      behind-one i (map as_input ds) (map as_input ds) (apart d ds n.0 n.1 h.0) (inputs-typed ds n.1 h.1),
    )

-- of the inputs of a program
pub sorted-typed : (ds : List Declaration) (n : ℕ) → ((x : ℕ) → x < n → is_name (name_at ds x) ≡ true) → ((x y : ℕ) → x < y → y < n → bytes_eq (name_at ds x) (name_at ds y) ≡ false)
    → (t : Declaration → Bool) → Typed (map as_input (filter t (take n ds))) (map as_input (filter t (take n ds)))
sorted-typed ds n names differ t =
    inputs-typed (filter t (take n ds)) (each-kept (λ d. is_name d.name ≡ true) t (take n ds) (each-row (λ s. is_name s ≡ true) ds n names)) (differ-kept t (take n ds) (rows-differ ds n differ))
