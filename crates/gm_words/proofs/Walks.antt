-- What the parse of a command with long options and one list of positionals makes of words that are not written out.
use Rattle.std.proofs.Common.{◌≡◌, ◌∙◌, ◌++◌, subst, ap, ◌||◌, ℕ, Bool, cond, true, false, List, [], ◌∷◌, is_some, Option, Some, None, refl, sym, codes}
use Rattle.std.specs.List.{list_any}
use Rattle.std.specs.Str.{bytes_eq}
use Rattle.std.specs.Prelude.{find, option_map, unwrap_or}
use Rattle.std.specs.Option.{option_or}
use Rattle.std.proofs.lemmas.Slice.Eq.{bytes_eq-Decides}
use Rattle.std.proofs.lemmas.List.Folds.{find-append}
use Rattle.clap.specs.Walk.{Row, Rule, arg_by_id, arg_by_index, arg_by_long, arg_by_short, at_row, has_row, more_values, with_values}
use Rattle.clap.specs.Simple.{new_rule}
use Rattle.clap.specs.declared.builder.action.ArgAction.TheVariants.{Set, Append, SetTrue}
use Rattle.clap.specs.declared.builder.value_parser.ValueParser.TheVariants as vp
use Rattle.clap.specs.declared.builder.value_parser.Reading.TheVariants as reading
use Rattle.clap.specs.declared.parser.matches.ValueSource.TheVariants.{CommandLine}
use Rattle.gm_words.specs.Words.{Text, Known, Given, is_used, with_option, with_positionals}

-- ---- the arguments of a built command

abbrev pub positional_id : Text
positional_id = codes "WORD"

abbrev pub known_rule : Known → Rule
known_rule k = record (new_rule k.name) {
  long = Some k.name;
  action = Some (cond k.has_value Set SetTrue);
  defaults = cond k.has_value [] (codes "false" ∷ []);
  missing = cond k.has_value [] (codes "true" ∷ []);
  parser = Some (cond k.has_value vp.String vp.Bool);
  range = Some (record { start_inclusive = cond k.has_value 1 0; end_inclusive = cond k.has_value 1 0 });
}

abbrev pub positional_rule : Rule
positional_rule = record (new_rule positional_id) {
  index = Some 1;
  action = Some Append;
  parser = Some vp.String;
  range = Some (record { start_inclusive = 1; end_inclusive = 1 });
}

abbrev pub rules_of : List Known → List Rule
rules_of [] = positional_rule ∷ []
rules_of (k ∷ known) = known_rule k ∷ rules_of known

abbrev pub known_as : Text → List Known → Option Known
known_as name = find (λ k. bytes_eq k.name name)

pub by_long : (known : List Known) (name : Text) → arg_by_long (rules_of known) name ≡ option_map known_rule (known_as name known)
by_long [] name = refl
by_long (k ∷ known) name = go (bytes_eq k.name name) (by_long known name)
  where
    go : (b : Bool) → arg_by_long (rules_of known) name ≡ option_map known_rule (known_as name known)
        → cond (b || false) (Some (known_rule k)) (arg_by_long (rules_of known) name) ≡ option_map known_rule (cond b (Some k) (known_as name known))
    go true h = refl
    go false h = h

pub by_index : (known : List Known) → arg_by_index (rules_of known) 1 ≡ Some positional_rule
by_index [] = refl
by_index (k ∷ known) = by_index known

pub by_short : (known : List Known) (x : ℕ) → arg_by_short (rules_of known) x ≡ None
by_short [] x = refl
by_short (k ∷ known) x = by_short known x

pub by_id : (known : List Known) (name : Text) (k : Known) → known_as name known ≡ Some k → arg_by_id (rules_of known) name ≡ Some (known_rule k)
by_id [] name k h = cc
by_id (x ∷ known) name k h = go (bytes_eq x.name name) (by_id known name k) h
  where
    go : (b : Bool) → (known_as name known ≡ Some k → arg_by_id (rules_of known) name ≡ Some (known_rule k))
        → cond b (Some x) (known_as name known) ≡ Some k
        → cond b (Some (known_rule x)) (arg_by_id (rules_of known) name) ≡ Some (known_rule k)
    go true rec h = ap (option_map known_rule) h
    go false rec h = rec h

pub positional_by_id : (known : List Known) → known_as positional_id known ≡ None → arg_by_id (rules_of known) positional_id ≡ Some positional_rule
positional_by_id [] h = refl
positional_by_id (x ∷ known) h = go (bytes_eq x.name positional_id) (positional_by_id known) h
  where
    go : (b : Bool) → (known_as positional_id known ≡ None → arg_by_id (rules_of known) positional_id ≡ Some positional_rule)
        → cond b (Some x) (known_as positional_id known) ≡ None
        → cond b (Some (known_rule x)) (arg_by_id (rules_of known) positional_id) ≡ Some positional_rule
    go true rec h = cc
    go false rec h = rec h

pub name_of_known : (known : List Known) (name : Text) (k : Known) → known_as name known ≡ Some k → k.name ≡ name
name_of_known [] name k h = cc
name_of_known (x ∷ known) name k h = go (bytes_eq x.name name) refl (name_of_known known name k) h
  where
    go : (b : Bool) → bytes_eq x.name name ≡ b → (known_as name known ≡ Some k → k.name ≡ name)
        → cond b (Some x) (known_as name known) ≡ Some k → k.name ≡ name
    go true e rec h =
        let same : x ≡ k = ap (λ (o : Option Known). unwrap_or o x) h in
        ap (λ (y : Known). y.name) (sym same) ∙ (bytes_eq-Decides x.name name).0 e
    go false e rec h = rec h

-- ---- the rows

abbrev pub has_id : Text → Row → Bool
has_id id r = bytes_eq r.id id

abbrev pub row_as : Text → List Row → Option Row
row_as id = find (has_id id)

abbrev pub row_with : Text → List Text → Row
row_with id values = record { id = id; values = values; count = None; source = Some CommandLine; reading = reading.AsWritten }

abbrev pub option_row : Text × Text → Row
option_row o = row_with o.0 (o.1 ∷ [])

abbrev pub positional_row : List Text → Option Row
positional_row [] = None
positional_row (p ∷ ps) = Some (row_with positional_id (p ∷ ps))

abbrev pub use_of : Text → Given → Option (Text × Text)
use_of name g = find (λ o. bytes_eq o.0 name) g.options

-- the rows of the matches are what the words gave
pub record Shows (g : Given) (rows : List Row) : Type 0 where
  pub options : (name : Text) → bytes_eq positional_id name ≡ false → row_as name rows ≡ option_map option_row (use_of name g)
  pub positionals : row_as positional_id rows ≡ positional_row g.positionals

pub has_row-find : (rows : List Row) (id : Text) → has_row id rows ≡ is_some (row_as id rows)
has_row-find [] id = refl
has_row-find (r ∷ rows) id = go (bytes_eq r.id id) (has_row-find rows id)
  where
    go : (b : Bool) → has_row id rows ≡ is_some (row_as id rows)
        → (b || has_row id rows) ≡ is_some (cond b (Some r) (row_as id rows))
    go true h = refl
    go false h = h

pub used-find : (os : List (Text × Text)) (name : Text) → list_any (λ o. bytes_eq o.0 name) os ≡ is_some (find (λ o. bytes_eq o.0 name) os)
used-find [] name = refl
used-find (o ∷ os) name = go (bytes_eq o.0 name) (used-find os name)
  where
    go : (b : Bool) → list_any (λ p. bytes_eq p.0 name) os ≡ is_some (find (λ p. bytes_eq p.0 name) os)
        → (b || list_any (λ p. bytes_eq p.0 name) os) ≡ is_some (cond b (Some o) (find (λ p. bytes_eq p.0 name) os))
    go true h = refl
    go false h = h

some_of_map : {X Y : Type 0} (f : X → Y) (o : Option X) → is_some (option_map f o) ≡ is_some o
some_of_map f None = refl
some_of_map f (Some x) = refl

pub has_row-used : (g : Given) (rows : List Row) (name : Text) → Shows g rows → bytes_eq positional_id name ≡ false → has_row name rows ≡ is_used name g
has_row-used g rows name h apart =
    has_row-find rows name ∙ ap is_some (h.options name apart) ∙ some_of_map option_row (use_of name g) ∙ sym (used-find g.options name)

-- at an id with no row
pub at_no_row : (id : Text) (change : Row → List Row) (new rows : List Row) → row_as id rows ≡ None → at_row id change new rows ≡ rows ++ new
at_no_row id change new [] h = refl
at_no_row id change new (r ∷ rows) h = go (bytes_eq r.id id) h (at_no_row id change new rows)
  where
    go : (b : Bool) → cond b (Some r) (row_as id rows) ≡ None → (row_as id rows ≡ None → at_row id change new rows ≡ rows ++ new)
        → cond b (change r ++ rows) (r ∷ at_row id change new rows) ≡ r ∷ (rows ++ new)
    go true h rec = cc
    go false h rec = ap (λ l. r ∷ l) (rec h)

-- at the id's row
pub at_own_row : (id : Text) (v : List Text) (new rows : List Row) (old : List Text) → row_as id rows ≡ Some (row_with id old)
    → row_as id (at_row id (more_values CommandLine v) new rows) ≡ Some (row_with id (old ++ v))
at_own_row id v new [] old h = cc
at_own_row id v new (r ∷ rows) old h = go (bytes_eq r.id id) refl h (at_own_row id v new rows old)
  where
    go : (b : Bool) → bytes_eq r.id id ≡ b → cond b (Some r) (row_as id rows) ≡ Some (row_with id old)
        → (row_as id rows ≡ Some (row_with id old) → row_as id (at_row id (more_values CommandLine v) new rows) ≡ Some (row_with id (old ++ v)))
        → row_as id (cond b (more_values CommandLine v r ++ rows) (r ∷ at_row id (more_values CommandLine v) new rows)) ≡ Some (row_with id (old ++ v))
    go true e h rec =
        let same : r ≡ row_with id old = ap (λ (o : Option Row). unwrap_or o r) h in
        let here : bytes_eq id id ≡ true = subst (λ (x : Row). bytes_eq x.id id ≡ true) same e in
        subst (λ (x : Row). row_as id (more_values CommandLine v x ++ rows) ≡ Some (row_with id (old ++ v))) (sym same)
        (ap (λ (b : Bool). cond b (Some (row_with id (old ++ v))) (row_as id rows)) here)
    go false e h rec = ap (λ (b : Bool). cond b (Some r) (row_as id (at_row id (more_values CommandLine v) new rows))) e ∙ rec h

-- at another id
pub at_other_row : (id name : Text) (v : List Text) (new rows : List Row) → bytes_eq id name ≡ false → row_as name new ≡ None
    → row_as name (at_row id (more_values CommandLine v) new rows) ≡ row_as name rows
at_other_row id name v new [] apart none = none
at_other_row id name v new (r ∷ rows) apart none = go (bytes_eq r.id id) refl (at_other_row id name v new rows apart none)
  where
    go : (b : Bool) → bytes_eq r.id id ≡ b
        → row_as name (at_row id (more_values CommandLine v) new rows) ≡ row_as name rows
        → row_as name (cond b (more_values CommandLine v r ++ rows) (r ∷ at_row id (more_values CommandLine v) new rows)) ≡ cond (bytes_eq r.id name) (Some r) (row_as name rows)
    go true e rec =
        let same : r.id ≡ id = (bytes_eq-Decides r.id id).0 e in
        let not_it : bytes_eq r.id name ≡ false = ap (λ (x : Text). bytes_eq x name) same ∙ apart in
        rw not_it refl
    go false e rec = ap (λ (o : Option Row). cond (bytes_eq r.id name) (Some r) o) rec

option_or-map : {X Y : Type 0} (f : X → Y) (a b : Option X) → option_or (option_map f a) (option_map f b) ≡ option_map f (option_or a b)
option_or-map f None b = refl
option_or-map f (Some x) b = refl

option_or-none : {X : Type 0} (a : Option X) → option_or a None ≡ a
option_or-none None = refl
option_or-none (Some x) = refl

-- a new option
pub shows_option : (g : Given) (rows : List Row) (name value : Text) → Shows g rows → bytes_eq name positional_id ≡ false
    → Shows (with_option name value g) (rows ++ option_row (name, value) ∷ [])
shows_option g rows name value h apart = record {
  options = λ other far.
      find-append (has_id other) rows (option_row (name, value) ∷ [])
      ∙ ap (λ (o : Option Row). option_or o (row_as other (option_row (name, value) ∷ []))) (h.options other far)
      ∙ ap (option_or (option_map option_row (use_of other g))) (one (bytes_eq name other))
      ∙ option_or-map option_row (use_of other g) (find (λ o. bytes_eq o.0 other) ((name, value) ∷ []))
      ∙ ap (option_map option_row) (sym (find-append (λ o. bytes_eq o.0 other) g.options ((name, value) ∷ [])));
  positionals = find-append (has_id positional_id) rows (option_row (name, value) ∷ [])
      ∙ ap (λ (b : Bool). option_or (row_as positional_id rows) (cond b (Some (option_row (name, value))) None)) apart
      ∙ option_or-none (row_as positional_id rows) ∙ h.positionals;
}
  where
    one : (b : Bool) → cond b (Some (option_row (name, value))) None ≡ option_map option_row (cond b (Some (name, value)) None)
    one true = refl
    one false = refl

-- a further positional
abbrev pub with_word : Text → List Row → List Row
with_word word = with_values positional_id reading.AsWritten CommandLine (word ∷ [])

pub shows_positional : (g : Given) (rows : List Row) (word : Text) → Shows g rows
    → Shows (with_positionals (word ∷ []) g) (with_word word rows)
shows_positional g rows word h = record {
  options = λ name far. at_other_row positional_id name (word ∷ []) (row_with positional_id (word ∷ []) ∷ []) rows far
      (ap (λ (b : Bool). cond b (Some (row_with positional_id (word ∷ []))) None) far) ∙ h.options name far;
  positionals = go g.positionals h.positionals;
}
  where
    go : (ps : List Text) → row_as positional_id rows ≡ positional_row ps
        → row_as positional_id (with_word word rows) ≡ positional_row (ps ++ word ∷ [])
    go [] e = ap (row_as positional_id) (at_no_row positional_id (more_values CommandLine (word ∷ [])) (row_with positional_id (word ∷ []) ∷ []) rows e)
        ∙ find-append (has_id positional_id) rows (row_with positional_id (word ∷ []) ∷ [])
        ∙ ap (λ (o : Option Row). option_or o (Some (row_with positional_id (word ∷ [])))) e
    go (p ∷ ps) e = at_own_row positional_id (word ∷ []) (row_with positional_id (word ∷ []) ∷ []) rows (p ∷ ps) e
