-- The values that words give to some inputs have the inputs' types.
use Rattle.std.proofs.Common.{◌≡◌, ◌<◌, ◌≤◌, ◌+◌, ℕ, Bool, true, false, cond, List, [], ◌∷◌, ◌++◌, length, map, refl, ◌∙◌, sym, subst, arith, Option, Some, None, Result, Ok, Err}
use Rattle.std.specs.Prelude.{◌==◌, IfOk, ℤ, find, position, codes, option_map, option_and_then, if◌then◌else◌}
use Rattle.std.specs.Str.{bytes_eq}
use Rattle.std.proofs.lemmas.Bool.{le-leb}
use Rattle.std.proofs.lemmas.List.Quantifiers.{position-Some}
use Rattle.std.proofs.lemmas.Slice.Eq.{bytes_eq-Decides}
use Rattle.gm_value.specs.declared.values.VType.{VType}
use Rattle.gm_value.specs.declared.values.VType.TheVariants as V
use Rattle.gm_value.specs.declared.values.Value.{Value}
use Rattle.gm_value.specs.declared.values.Value.TheVariants as Values
use Rattle.gm_value.specs.Numbers.{fits}
use Rattle.gm_words.specs.declared.arguments.ArgFault.{ArgFault}
use Rattle.gm_words.specs.declared.arguments.Input.{Input}
use Rattle.gm_words.specs.declared.spellings.Spelling.{Spelling}
use Rattle.gm_words.specs.declared.spellings.Spelling.TheVariants.{Ready, Number}
use Rattle.gm_words.specs.Arguments.{name_in_word, value_in_word, whole_number, in_range, flag_number, node_number, spelled, placed, value_spelled, Bindings, type_named, value_named, judged, and_then, given_by, value_or_missing, in_order, values_bound}
use Rattle.gm_words.specs.Words.{Text}
use Rattle.gm_typed_stores.specs.Values.{IsValue, AreValues, Each}

-- ---- one value

-- n: how many nodes there are
module _ (n : ℕ) where
  -- what a text of a type spells is a value of it, or the number of a node
  abbrev Spells : VType → Option Spelling → Type 0
  Spells t None = Unit {0}
  Spells t (Some (Ready v)) = IsValue n t v
  Spells t (Some (Number k)) = t ≡ V.Node

  whole-spells : (t : VType) (make : ℤ → Value) → ((z : ℤ) → fits t z ≡ true → IsValue n t (make z)) → (o : Option ℤ) → Spells t (option_map (λ z. Ready (make z)) (option_and_then (in_range t) o))
  whole-spells t make good None = tt
  whole-spells t make good (Some z) = by (fits t z) refl
    where
      by : (b : Bool) → fits t z ≡ b → Spells t (option_map (λ z. Ready (make z)) (if b then Some z else None))
      by true e = good z e
      by false e = tt

  flag-spells : (o : Option Bool) → Spells V.Flag (option_map (λ b. Ready (Values.Flag b)) o)
  flag-spells None = tt
  flag-spells (Some true) = record { of_type = (refl, refl); below = tt }
  flag-spells (Some false) = record { of_type = (refl, refl); below = tt }

  number-spells : (o : Option ℕ) → Spells V.Node (option_map Number o)
  number-spells None = tt
  number-spells (Some k) = refl

  text-spells : (t : VType) (text : Text) → Spells t (spelled t text)
  text-spells V.I32 text = whole-spells V.I32 Values.I32 (λ z e. record { of_type = (refl, e); below = tt }) (whole_number text)
  text-spells V.I64 text = whole-spells V.I64 Values.I64 (λ z e. record { of_type = (refl, e); below = tt }) (whole_number text)
  text-spells V.Flag text = flag-spells (flag_number text)
  text-spells V.Node text = by (bytes_eq text (codes "NIL"))
    where
      by : (b : Bool) → Spells V.Node (if b then Some (Ready (Values.At None)) else option_map Number (node_number text))
      by true = record { of_type = (refl, refl); below = tt }
      by false = number-spells (node_number text)

module _ (numbers : List ℕ) (few : length numbers ≤ 2147483647) where
  abbrev n : ℕ
  n = length numbers

  node-value : (k : ℕ) → k < n → IsValue n V.Node (Values.At (Some k))
  node-value k l = record { of_type = (refl, le-leb k 4294967295 (omega (arith, l, few))); below = l }

  value-good : (name : Text) (t : VType) (o : Option Spelling) → Spells n t o → IfOk (value_spelled numbers name o) (IsValue n t)
  value-good name t None h = tt
  value-good name t (Some (Ready v)) h = h
  value-good name t (Some (Number k)) h = by (position (λ m. m == k) numbers) refl
    where
      by : (o : Option ℕ) → position (λ m. m == k) numbers ≡ o → IfOk (placed o name) (IsValue n t)
      by None e = tt
      by (Some i) e = subst (λ u. IsValue n u (Values.At (Some i))) (sym h) (node-value i (position-Some (λ m. m == k) numbers i 0 e).0)

  -- ---- the words

  then-good : {A B : Type 0} (P : A → Type 0) (Q : B → Type 0) (next : A → Result B ArgFault) (r : Result A ArgFault) → IfOk r P → ((x : A) → P x → IfOk (next x) Q) → IfOk (and_then next r) Q
  then-good P Q next (Ok x) h k = k x h
  then-good P Q next (Err e) h k = tt

  module _ (types : Text → Option VType) where
    -- a value that has the type of its name
    abbrev IsGood : Text → Value → Type 0
    IsGood name v = (t : VType) × (types name ≡ Some t) × IsValue n t v

    abbrev AreGood : Bindings → Type 0
    AreGood given = Each (λ g. IsGood g.0 g.1) given

    more-good : (given : Bindings) (name : Text) (v : Value) → AreGood given → IsGood name v → AreGood (given ++ (name, v) ∷ [])
    more-good [] name v h k = (k, tt)
    more-good (g ∷ given) name v h k = (h.0, more-good given name v h.1 k)

    judged-good : (before : Option Value) (name text : Text) → IfOk (judged (types name) before numbers name text) (IsGood name)
    judged-good before name text = by (types name) refl before
      where
        with-type : (t : VType) → types name ≡ Some t → (r : Result Value ArgFault) → IfOk r (IsValue n t) → IfOk r (IsGood name)
        with-type t e (Ok v) h = (t, e, h)
        with-type t e (Err f) h = tt

        by : (o : Option VType) → types name ≡ o → (before : Option Value) → IfOk (judged o before numbers name text) (IsGood name)
        by None e before = tt
        by (Some t) e (Some v) = tt
        by (Some t) e None = with-type t e (value_spelled numbers name (spelled t text)) (value-good name t (spelled t text) (text-spells n t text))

    given-good : (words : List Text) (given : Bindings) → AreGood given → IfOk (given_by types numbers words given) AreGood
    unfolding given_by
    given-good [] given h = h
    given-good (word ∷ words) given h =
        let name = name_in_word word in
        then-good (IsGood name) AreGood (λ value. given_by types numbers words (given ++ (name, value) ∷ [])) (judged (types name) (value_named given name) numbers name (value_in_word word))
        (judged-good (value_named given name) name (value_in_word word)) (λ v k. given-good words (given ++ (name, v) ∷ []) (more-good given name v h k))

    -- ---- the values in order

    named-good : (name : Text) (given : Bindings) → AreGood given → IfOk (value_or_missing name (value_named given name)) (IsGood name)
    named-good name [] h = tt
    named-good name (g ∷ given) h = by (bytes_eq name g.0) refl (named-good name given h.1)
      where
        by : (b : Bool) → bytes_eq name g.0 ≡ b → IfOk (value_or_missing name (value_named given name)) (IsGood name)
            → IfOk (value_or_missing name (option_map (λ (e : Text × Value). e.1) (cond b (Some g) (find (λ (e : Text × Value). bytes_eq name e.0) given)))) (IsGood name)
        by true e rest = subst (λ m. IsGood m g.1) (sym ((bytes_eq-Decides name g.0).0 e)) h.0
        by false e rest = rest

    in-order-good : (given : Bindings) (inputs : List Input) → AreGood given → Each (λ (i : Input). types i.name ≡ Some i.vtype) inputs → IfOk (in_order given inputs) (AreValues n (map (λ (i : Input). i.vtype) inputs))
    unfolding in_order
    in-order-good given [] h k = tt
    in-order-good given (i ∷ inputs) h k =
        then-good (IsGood i.name) (AreValues n (i.vtype ∷ map (λ (i : Input). i.vtype) inputs)) (λ value. and_then (λ values. Ok (value ∷ values)) (in_order given inputs)) (value_or_missing i.name (value_named given i.name))
        (named-good i.name given h)
        (λ v g.
        then-good (AreValues n (map (λ (i : Input). i.vtype) inputs)) (AreValues n (i.vtype ∷ map (λ (i : Input). i.vtype) inputs)) (λ values. Ok (v ∷ values)) (in_order given inputs) (in-order-good given inputs h k.1)
        (λ vs l. (subst (λ t. IsValue n t v) (some-one g.0 i.vtype (sym g.1 ∙ k.0)) g.2, l)))
      where
        some-one : (t u : VType) → Some t ≡ Some u → t ≡ u
        some-one t u e = cc

-- the values that words give to inputs have their types, where each input has the type of its name
pub bound-good : (inputs : List Input) (words : List Text) (numbers : List ℕ) → length numbers ≤ 2147483647 → Each (λ (i : Input). type_named inputs i.name ≡ Some i.vtype) inputs
    → IfOk (values_bound inputs words numbers) (AreValues (length numbers) (map (λ (i : Input). i.vtype) inputs))
bound-good inputs words numbers few named =
    then-good numbers few (AreGood numbers few (type_named inputs)) (AreValues (length numbers) (map (λ (i : Input). i.vtype) inputs)) (λ given. in_order given inputs) (given_by (type_named inputs) numbers words [])
    (given-good numbers few (type_named inputs) words [] tt) (λ given h. in-order-good numbers few (type_named inputs) given inputs h named)
