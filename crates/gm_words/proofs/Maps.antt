-- What maps by names hold, as words are judged.
use Rattle.std.proofs.Common.{◌≡◌, ◌≢◌, ◌<◌, ◌+◌, ◌∙◌, ◌++◌, ap, sym, refl, cond, ℕ, Bool, true, false, List, [], ◌∷◌, Bor, length, map, take, drop, get_or, Option, Some, None, Result, Ok, Err, is_some, drop-cons, suc, zero, arith, ◌≤◌, IsErrAnd, IfErr}
use Rattle.std.specs.Map.{lookup}
use Rattle.std.specs.Prelude.{find, option_map}
use Rattle.std.specs.Option.{option_or}
use Rattle.std.specs.Str.{bytes_eq}
use Rattle.std.proofs.lemmas.List.{append_assoc, append-nil, map-append, take_more}
use Rattle.std.proofs.lemmas.List.Folds.{find-append}
use Rattle.std.proofs.lemmas.Slice.Eq.{bytes_eq-Decides}
use Rattle.indexmap.specs.IndexMap.{IndexMap, get, get_by, insert_entry}
use Rattle.indexmap.proofs.CallerLemmas.{insert_entry-new}
use Rattle.gm_value.specs.declared.values.VType.{VType}
use Rattle.gm_value.specs.declared.values.Value.{Value}
use Rattle.gm_words.specs.declared.arguments.ArgFault.{ArgFault}
use Rattle.gm_words.specs.declared.arguments.ArgFault.TheVariants.{Missing, NoMemory}
use Rattle.gm_words.specs.declared.arguments.Input.{Input}
use Rattle.gm_words.specs.Arguments.{Bindings, and_then, given_by, in_order, judged, name_in_word, type_named, value_in_word, value_named, values_bound}
use Rattle.gm_words.specs.Bindings.{bindings}
use Rattle.gm_words.specs.Words.{Text}

-- ---- types by names

-- the types of the inputs, in place of those of a map that has the same
pub same_types : (f g : Text → Option VType) → ((name : Text) → f name ≡ g name) → f ≡ g
same_types f g h = λ j name. h name j

pub named_more : (inputs : List Input) (i : ℕ) (x : Input) (name : Text) → i < length inputs → x ≡ get_or inputs i x
    → type_named (take (i + 1) inputs) name ≡ option_or (type_named (take i inputs) name) (cond (bytes_eq name x.name) (Some x.vtype) None)
named_more inputs i x name lt at =
    ap (λ (xs : List Input). type_named xs name) (take_more inputs i x lt)
    ∙ ap (λ (y : Input). type_named (take i inputs ++ y ∷ []) name) (sym at)
    ∙ ap (option_map (λ (y : Input). y.vtype)) (find-append (λ y. bytes_eq name y.name) (take i inputs) (x ∷ []))
    ∙ mapped (find (λ y. bytes_eq name y.name) (take i inputs)) (bytes_eq name x.name)
  where
    one : (b : Bool) → option_map (λ (y : Input). y.vtype) (cond b (Some x) None) ≡ cond b (Some x.vtype) None
    one true = refl
    one false = refl

    mapped : (o : Option Input) (b : Bool) → option_map (λ (y : Input). y.vtype) (option_or o (cond b (Some x) None)) ≡ option_or (option_map (λ (y : Input). y.vtype) o) (cond b (Some x.vtype) None)
    mapped None b = one b
    mapped (Some y) b = refl

-- where the name has a type already
pub stays : (o : Text → Option VType) (x : Input) (name : Text) → is_some (o x.name) ≡ true → option_or (o name) (cond (bytes_eq name x.name) (Some x.vtype) None) ≡ o name
stays o x name has = go (bytes_eq name x.name) refl
  where
    kept : (t : Option VType) (u : Option VType) → is_some t ≡ true → option_or t u ≡ t
    kept None u h = cc
    kept (Some t) u h = refl

    alone : (t : Option VType) → option_or t None ≡ t
    alone None = refl
    alone (Some t) = refl

    go : (b : Bool) → bytes_eq name x.name ≡ b → option_or (o name) (cond b (Some x.vtype) None) ≡ o name
    go true e = kept (o name) (Some x.vtype) (ap (λ (n : Text). is_some (o n)) ((bytes_eq-Decides name x.name).0 e) ∙ has)
    go false e = alone (o name)

-- where it gets one
pub gets : (o : Text → Option VType) (x : Input) (name : Text) → is_some (o x.name) ≡ false → option_or (o name) (cond (bytes_eq name x.name) (Some x.vtype) None) ≡ cond (bytes_eq x.name name) (Some x.vtype) (o name)
gets o x name none = go (bytes_eq name x.name) refl (bytes_eq x.name name) refl
  where
    alone : (t : Option VType) → option_or t None ≡ t
    alone None = refl
    alone (Some t) = refl

    empty : (t u : Option VType) → is_some t ≡ false → option_or t u ≡ u
    empty None u h = refl
    empty (Some t) u h = cc

    go : (b : Bool) → bytes_eq name x.name ≡ b → (c : Bool) → bytes_eq x.name name ≡ c → option_or (o name) (cond b (Some x.vtype) None) ≡ cond c (Some x.vtype) (o name)
    go true e true f = empty (o name) (Some x.vtype) (ap (λ (n : Text). is_some (o n)) ((bytes_eq-Decides name x.name).0 e) ∙ none)
    go true e false f =
        let same : bytes_eq x.name name ≡ true = (bytes_eq-Decides x.name name).1 (sym ((bytes_eq-Decides name x.name).0 e)) in
        let bad : true ≡ false = sym same ∙ f in
        cc
    go false e true f =
        let same : bytes_eq name x.name ≡ true = (bytes_eq-Decides name x.name).1 (sym ((bytes_eq-Decides x.name name).0 f)) in
        let bad : true ≡ false = sym same ∙ e in
        cc
    go false e false f = alone (o name)

-- ---- values by names

pub named-bindings : {S : Type 0} (given : IndexMap (Bor Text) Value S) (name : Text) → value_named (bindings given) name ≡ get_by (λ key. bytes_eq name key.now) given
named-bindings given name = go given.entries
  where
    go : (es : List (Bor Text × Value)) → value_named (map (λ (e : Bor Text × Value). (e.0.now, e.1)) es) name ≡ lookup (λ (key : Bor Text). bytes_eq name key.now) es
    go [] = refl
    go (e ∷ es) = on (bytes_eq name e.0.now) (go es)
      where
        on : (b : Bool) → value_named (map (λ (e : Bor Text × Value). (e.0.now, e.1)) es) name ≡ lookup (λ (key : Bor Text). bytes_eq name key.now) es
            → option_map (λ (g : Text × Value). g.1) (cond b (Some (e.0.now, e.1)) (find (λ g. bytes_eq name g.0) (map (λ (e : Bor Text × Value). (e.0.now, e.1)) es))) ≡ cond b (Some e.1) (lookup (λ (key : Bor Text). bytes_eq name key.now) es)
        on true h = refl
        on false h = h

-- after a new name
pub bindings-new : {S : Type 0} (eq : Bor Text → Bor Text → Bool) (given : IndexMap (Bor Text) Value S) (entries : List (Bor Text × Value)) (key : Bor Text) (v : Value) → get eq given key ≡ None
    → entries ≡ insert_entry eq given.entries key v → map (λ (e : Bor Text × Value). (e.0.now, e.1)) entries ≡ bindings given ++ (key.now, v) ∷ []
bindings-new eq given entries key v none is =
    ap (map (λ (e : Bor Text × Value). (e.0.now, e.1))) (is ∙ insert_entry-new eq given key v none)
    ∙ map-append (λ (e : Bor Text × Value). (e.0.now, e.1)) given.entries ((key, v) ∷ [])

-- a word that has its value had none before
pub was_none : (t : Option VType) (before : Option Value) (numbers : List ℕ) (name text : Text) (v : Value) → judged t before numbers name text ≡ Ok v → before ≡ None
was_none None before numbers name text v h = cc
was_none (Some t) None numbers name text v h = refl
was_none (Some t) (Some w) numbers name text v h = cc

-- one word
module _ (types : Text → Option VType) (numbers : List ℕ) (words : List Text) (i : ℕ) (word : Text) (lt : i < length words) (at : word ≡ get_or words i word) where
  rest_is : drop i words ≡ word ∷ drop (i + 1) words
  rest_is =
      let next : i + 1 ≡ suc i = omega arith in
      drop-cons words i word lt ∙ ap (λ (y : Text). y ∷ drop (suc i) words) (sym at) ∙ ap (λ (k : ℕ). word ∷ drop k words) (sym next)

  pub word_goes : (given : Bindings) (v : Value) → judged (types (name_in_word word)) (value_named given (name_in_word word)) numbers (name_in_word word) (value_in_word word) ≡ Ok v
      → given_by types numbers (drop i words) given ≡ given_by types numbers (drop (i + 1) words) (given ++ (name_in_word word, v) ∷ [])
  unfolding given_by
  word_goes given v h = ap (λ (ws : List Text). given_by types numbers ws given) rest_is ∙ rw h refl

  pub word_stops : (given : Bindings) (e : ArgFault) → judged (types (name_in_word word)) (value_named given (name_in_word word)) numbers (name_in_word word) (value_in_word word) ≡ Err e
      → given_by types numbers (drop i words) given ≡ Err e
  unfolding given_by
  word_stops given e h = ap (λ (ws : List Text). given_by types numbers ws given) rest_is ∙ rw h refl

-- ---- values in order

module _ (given : Bindings) (inputs : List Input) (i : ℕ) (x : Input) (lt : i < length inputs) (at : x ≡ get_or inputs i x) where
  inputs_are : drop i inputs ≡ x ∷ drop (i + 1) inputs
  inputs_are =
      let next : i + 1 ≡ suc i = omega arith in
      drop-cons inputs i x lt ∙ ap (λ (y : Input). y ∷ drop (suc i) inputs) (sym at) ∙ ap (λ (k : ℕ). x ∷ drop k inputs) (sym next)

  onward : (values : List Value) (v : Value) (r : Result (List Value) ArgFault)
      → and_then (λ rest. Ok (values ++ rest)) (and_then (λ rest. Ok (v ∷ rest)) r) ≡ and_then (λ rest. Ok ((values ++ v ∷ []) ++ rest)) r
  onward values v (Ok rest) = ap Ok (sym (append_assoc values (v ∷ []) rest))
  onward values v (Err e) = refl

  pub input_goes : (values : List Value) (v : Value) → value_named given x.name ≡ Some v
      → and_then (λ rest. Ok (values ++ rest)) (in_order given (drop i inputs)) ≡ and_then (λ rest. Ok ((values ++ v ∷ []) ++ rest)) (in_order given (drop (i + 1) inputs))
  unfolding in_order
  input_goes values v h =
      ap (λ (xs : List Input). and_then (λ rest. Ok (values ++ rest)) (in_order given xs)) inputs_are
      ∙ rw h (onward values v (in_order given (drop (i + 1) inputs)))

  pub input_stops : (values : List Value) → value_named given x.name ≡ None
      → and_then (λ rest. Ok (values ++ rest)) (in_order given (drop i inputs)) ≡ Err (Missing x.name)
  unfolding in_order
  input_stops values h = ap (λ (xs : List Input). and_then (λ rest. Ok (values ++ rest)) (in_order given xs)) inputs_are ∙ rw h refl

-- ---- the ends of the walks

nothing_left : {A : Type 0} (xs : List A) (i : ℕ) → length xs ≤ i → drop i xs ≡ []
nothing_left [] zero end = refl
nothing_left [] (suc i) end = refl
nothing_left (x ∷ xs) zero end = absurd (omega arith)
nothing_left (x ∷ xs) (suc i) end = nothing_left xs i (omega arith)

pub words_done : (types : Text → Option VType) (numbers : List ℕ) (words : List Text) (i : ℕ) (given : Bindings) → length words ≤ i → given_by types numbers (drop i words) given ≡ Ok given
unfolding given_by
words_done types numbers words i given end = ap (λ (ws : List Text). given_by types numbers ws given) (nothing_left words i end)

pub inputs_done : (given : Bindings) (inputs : List Input) (i : ℕ) (values : List Value) → length inputs ≤ i → and_then (λ rest. Ok (values ++ rest)) (in_order given (drop i inputs)) ≡ Ok values
unfolding in_order
inputs_done given inputs i values end =
    ap (λ (xs : List Input). and_then (λ rest. Ok (values ++ rest)) (in_order given xs)) (nothing_left inputs i end) ∙ ap Ok (append-nil values)

-- ---- faults as they are passed on

pub judged_same : (t u : Option VType) (a b : Option Value) (numbers : List ℕ) (m n x y : Text) (r : Result Value ArgFault) → t ≡ u → a ≡ b → m ≡ n → x ≡ y
    → judged t a numbers m x ≡ r → judged u b numbers n y ≡ r
judged_same t u a b numbers m n x y r tu ab mn xy h =
    ap (λ (z : Option VType). judged z b numbers n y) (sym tu) ∙ ap (λ (z : Option Value). judged t z numbers n y) (sym ab)
    ∙ ap (λ (z : Text). judged t a numbers z y) (sym mn) ∙ ap (λ (z : Text). judged t a numbers m z) (sym xy) ∙ h

pub same_fault : {A B : Type 0} (r : Result A ArgFault) (e : ArgFault) (x : Result B ArgFault) → IsErrAnd r (λ f. f ≡ e) → (e ≢ NoMemory → x ≡ Err e)
    → IfErr r (λ f. f ≢ NoMemory → x ≡ Err f)
same_fault (Ok a) e x is h = tt
same_fault (Err f) e x is h = λ other. h (λ n. other (is ∙ n)) ∙ ap Err (sym is)

-- ---- all together

pub bound_stops : (types : Text → Option VType) (inputs : List Input) (words : List Text) (numbers : List ℕ) (e : ArgFault) → ((name : Text) → types name ≡ type_named inputs name)
    → given_by types numbers words [] ≡ Err e → values_bound inputs words numbers ≡ Err e
bound_stops types inputs words numbers e same h =
    ap (and_then (λ given. in_order given inputs)) (ap (λ (f : Text → Option VType). given_by f numbers words []) (sym (same_types types (type_named inputs) same)) ∙ h)

pub bound_goes : (types : Text → Option VType) (inputs : List Input) (words : List Text) (numbers : List ℕ) (given : Bindings) → ((name : Text) → types name ≡ type_named inputs name)
    → given_by types numbers words [] ≡ Ok given → values_bound inputs words numbers ≡ in_order given inputs
bound_goes types inputs words numbers given same h =
    ap (and_then (λ given. in_order given inputs)) (ap (λ (f : Text → Option VType). given_by f numbers words []) (sym (same_types types (type_named inputs) same)) ∙ h)
