-- The faults and the matches of such a command, at words that are not written out.
use Rattle.std.proofs.Common.{◌≡◌, ◌∙◌, ◌++◌, subst, ap, ◌&&◌, ◌||◌, Bool, cond, true, false, not, List, [], ◌∷◌, is_some, Option, Some, None, refl, sym, codes}
use Rattle.std.specs.Prelude.{fold, option_map}
use Rattle.std.specs.List.{list_all, list_any}
use Rattle.std.specs.Option.{option_or}
use Rattle.std.specs.Str.{bytes_eq}
use Rattle.std.proofs.lemmas.List.Folds.{find-append}
use Rattle.std.proofs.lemmas.Slice.Eq.{bytes_eq-Decides}
use Rattle.clap.specs.Kinds.{Kinds, or_else}
use Rattle.clap.specs.Walk.{Row, Walk, first_of, has_row, idle, more_values, one_of, nothing_held, rows_after, settled, walked, with_default}
use Rattle.clap.specs.Simple.{App, built, matches_of, names_of}
use Rattle.clap.specs.Takes.{is_given}
use Rattle.clap.proofs.FaultLemmas.{leaf_fault}
use Rattle.clap.specs.Faults.{check_fault, built_fault, default_fault, defaults_fault, fault_of, level_fault, settle_fault, walk_fault}
use Rattle.clap.specs.declared.parser.matches.ValueSource.TheVariants.{DefaultValue}
use Rattle.clap.specs.declared.builder.value_parser.Reading.TheVariants as reading
use Rattle.gm_words.specs.Words.{Text, Known, Given, nothing}
use Rattle.gm_words.proofs.Walks.{Shows, has_id, positional_id, known_rule, known_as, rules_of, row_as, option_row, positional_row, use_of, has_row-find, at_no_row}
use Rattle.gm_words.proofs.Turns.{IsFault, at, shape_with, no_more}
use Rattle.gm_words.proofs.Parses.{Agrees, AllSpelled, taken, taken_after}

-- ---- defaults

abbrev default_row : Text → Row
default_row name = record { id = name; values = codes "false" ∷ []; count = None; source = Some DefaultValue; reading = reading.AsWritten }

abbrev with_defaults : List Known → List Row → List Row
with_defaults known rows = fold with_default rows (rules_of known)

-- an option with no row gets the row of its default, if it has one
default_of : (k : Known) (rows : List Row) → has_row k.name rows ≡ false
    → with_default rows (known_rule k) ≡ cond k.has_value rows (rows ++ default_row k.name ∷ [])
default_of k rows none = go k.has_value refl
  where
    no_row : row_as k.name rows ≡ None
    no_row = on (row_as k.name rows) (sym (has_row-find rows k.name) ∙ none)
      where
        on : (o : Option Row) → is_some o ≡ false → o ≡ None
        on None e = refl
        on (Some r) e = cc

    go : (b : Bool) → k.has_value ≡ b → with_default rows (known_rule k) ≡ cond k.has_value rows (rows ++ default_row k.name ∷ [])
    go true e = rw (none, e) refl
    go false e = rw (none, e) (at_no_row k.name (more_values DefaultValue (codes "false" ∷ [])) (default_row k.name ∷ []) rows no_row)

default_kept : (k : Known) (rows : List Row) → has_row k.name rows ≡ true → with_default rows (known_rule k) ≡ rows
default_kept k rows has = rw has refl

-- the values of options and the positionals stay as they were
abbrev pub IsNoFlag : Text → List Known → Type 0
IsNoFlag id known = list_all (λ k. k.has_value || not (bytes_eq k.name id)) known ≡ true

pub defaults_other : (known : List Known) (id : Text) (rows : List Row) → IsNoFlag id known → row_as id (with_defaults known rows) ≡ row_as id rows
defaults_other [] id rows h = go (has_row positional_id rows)
  where
    go : (b : Bool) → row_as id (cond b rows rows) ≡ row_as id rows
    go true = refl
    go false = refl
defaults_other (k ∷ known) id rows h = by_row (λ x. defaults_other known id x rest) (has_row k.name rows) refl
  where
    rest : list_all (λ x. x.has_value || not (bytes_eq x.name id)) known ≡ true
    rest = both (k.has_value || not (bytes_eq k.name id)) h
      where
        both : (b : Bool) → (b && list_all (λ x. x.has_value || not (bytes_eq x.name id)) known) ≡ true → list_all (λ x. x.has_value || not (bytes_eq x.name id)) known ≡ true
        both true e = e
        both false e = cc

    by_value : (b : Bool) → k.has_value ≡ b → row_as id (cond b rows (rows ++ default_row k.name ∷ [])) ≡ row_as id rows
    by_value true e = refl
    by_value false e = find-append (has_id id) rows (default_row k.name ∷ []) ∙ by_name (bytes_eq k.name id) refl
      where
        keep : (o : Option Row) → option_or o None ≡ o
        keep None = refl
        keep (Some r) = refl

        by_name : (c : Bool) → bytes_eq k.name id ≡ c → option_or (row_as id rows) (cond c (Some (default_row k.name)) None) ≡ row_as id rows
        by_name true f = let bad : false ≡ true = rw (e, f) at h in cc
        by_name false f = keep (row_as id rows)

    by_row : ((x : List Row) → row_as id (with_defaults known x) ≡ row_as id x) → (b : Bool) → has_row k.name rows ≡ b
        → row_as id (with_defaults known (with_default rows (known_rule k))) ≡ row_as id rows
    by_row later true e = ap (λ (x : List Row). row_as id (with_defaults known x)) (default_kept k rows e) ∙ later rows
    by_row later false e = later (with_default rows (known_rule k)) ∙ ap (row_as id) (default_of k rows e) ∙ by_value k.has_value refl

-- ---- no fault comes after the words

or_true : (b : Bool) → (b || true) ≡ true
or_true true = refl
or_true false = refl

no_own_fault : (k : Known) (rows : List Row) → default_fault rows (known_rule k) ≡ []
no_own_fault k rows = go k.has_value refl (has_row k.name rows) refl
  where
    go : (b : Bool) → k.has_value ≡ b → (t : Bool) → has_row k.name rows ≡ t → default_fault rows (known_rule k) ≡ []
    go b e true f = rw f refl
    go true e false f = rw (f, e) refl
    go false e false f = rw (f, e) refl

pub no_default_fault : (known : List Known) (rows : List Row) → defaults_fault rows (rules_of known) ≡ []
unfolding defaults_fault
no_default_fault [] rows = rw (or_true (has_row positional_id rows)) refl
no_default_fault (k ∷ known) rows =
    ap (λ (x : Kinds). or_else x (defaults_fault (with_default rows (known_rule k)) (rules_of known))) (no_own_fault k rows)
    ∙ no_default_fault known (with_default rows (known_rule k))

no_required : (known : List Known) (rows : List Row) → list_any (λ a. a.required && not (is_given a.id rows)) (rules_of known) ≡ false
no_required [] rows = refl
no_required (k ∷ known) rows = no_required known rows

pub no_check_fault : (title : Text) (known : List Known) (rows : List Row) → check_fault (shape_with title known) rows false ≡ []
no_check_fault title known rows = rw (no_required known rows) refl

-- ---- flags

-- a row stays as it is
defaults_keep : (known : List Known) (id : Text) (rows : List Row) (r : Row) → row_as id rows ≡ Some r → row_as id (with_defaults known rows) ≡ Some r
defaults_keep [] id rows r h = go (has_row positional_id rows)
  where
    go : (b : Bool) → row_as id (cond b rows rows) ≡ Some r
    go true = h
    go false = h
defaults_keep (k ∷ known) id rows r h = by_row (λ x. defaults_keep known id x r) (has_row k.name rows) refl
  where
    by_value : (b : Bool) → row_as id (cond b rows (rows ++ default_row k.name ∷ [])) ≡ Some r
    by_value true = h
    by_value false = find-append (has_id id) rows (default_row k.name ∷ []) ∙ ap (λ (o : Option Row). option_or o (row_as id (default_row k.name ∷ []))) h

    by_row : ((x : List Row) → row_as id x ≡ Some r → row_as id (with_defaults known x) ≡ Some r) → (b : Bool) → has_row k.name rows ≡ b
        → row_as id (with_defaults known (with_default rows (known_rule k))) ≡ Some r
    by_row later true e = later (with_default rows (known_rule k)) (ap (row_as id) (default_kept k rows e) ∙ h)
    by_row later false e = later (with_default rows (known_rule k)) (ap (row_as id) (default_of k rows e) ∙ by_value k.has_value)

-- a flag that is not used gets the row of its default
abbrev pub IsFlag : Text → List Known → Type 0
IsFlag id known = list_any (λ k. not k.has_value && bytes_eq k.name id) known ≡ true

defaults_flag : (known : List Known) (id : Text) (rows : List Row) → IsFlag id known → row_as id rows ≡ None
    → row_as id (with_defaults known rows) ≡ Some (default_row id)
defaults_flag [] id rows h none = cc
defaults_flag (k ∷ known) id rows h none =
    by_row (λ x. defaults_flag known id x) (has_row k.name rows) refl k.has_value refl (bytes_eq k.name id) refl
  where
    Later : Type 0
    Later = (x : List Row) → IsFlag id known → row_as id x ≡ None → row_as id (with_defaults known x) ≡ Some (default_row id)

    here : has_row k.name rows ≡ false → k.has_value ≡ false → row_as id (with_default rows (known_rule k)) ≡ cond (bytes_eq k.name id) (Some (default_row k.name)) None
    here e f = ap (row_as id) (default_of k rows e ∙ ap (λ (b : Bool). cond b rows (rows ++ default_row k.name ∷ [])) f)
        ∙ find-append (has_id id) rows (default_row k.name ∷ []) ∙ ap (λ (o : Option Row). option_or o (row_as id (default_row k.name ∷ []))) none

    not_here : has_row k.name rows ≡ true → bytes_eq k.name id ≡ true → ⊥
    not_here e g =
        let same : k.name ≡ id = (bytes_eq-Decides k.name id).0 g in
        let some : is_some (row_as k.name rows) ≡ true = sym (has_row-find rows k.name) ∙ e in
        let bad : false ≡ true = sym (ap is_some none) ∙ (ap (λ (n : Text). is_some (row_as n rows)) (sym same) ∙ some) in
        cc

    by_row : ((x : List Row) → IsFlag id known → row_as id x ≡ None → row_as id (with_defaults known x) ≡ Some (default_row id)) → (b : Bool) → has_row k.name rows ≡ b → (v : Bool) → k.has_value ≡ v → (n : Bool) → bytes_eq k.name id ≡ n
        → row_as id (with_defaults known (with_default rows (known_rule k))) ≡ Some (default_row id)
    by_row later b e true f n g =
        let rest : IsFlag id known = rw f at h in
        later (with_default rows (known_rule k)) rest (ap (row_as id) (by_kept b e) ∙ none)
      where
        by_kept : (b : Bool) → has_row k.name rows ≡ b → with_default rows (known_rule k) ≡ rows
        by_kept true e = default_kept k rows e
        by_kept false e = default_of k rows e ∙ ap (λ (b : Bool). cond b rows (rows ++ default_row k.name ∷ [])) f
    by_row later true e false f true g = absurd (not_here e g)
    by_row later false e false f true g = defaults_keep known id (with_default rows (known_rule k)) (default_row id)
        (here e f ∙ (ap (λ (b : Bool). cond b (Some (default_row k.name)) None) g ∙ ap (λ (n : Text). Some (default_row n)) ((bytes_eq-Decides k.name id).0 g)))
    by_row later true e false f false g =
        let rest : IsFlag id known = rw (f, g) at h in
        later (with_default rows (known_rule k)) rest (ap (row_as id) (default_kept k rows e) ∙ none)
    by_row later false e false f false g =
        let rest : IsFlag id known = rw (f, g) at h in
        later (with_default rows (known_rule k)) rest (here e f ∙ ap (λ (b : Bool). cond b (Some (default_row k.name)) None) g)

-- ---- the whole parse

-- the rows of the matches have what the words gave
pub record Reads (known : List Known) (g : Given) (rows : List Row) : Type 0 where
  pub values : (name : Text) → IsNoFlag name known → bytes_eq positional_id name ≡ false → first_of name rows ≡ option_map (λ o. o.1) (use_of name g)
  pub set : (name : Text) → IsFlag name known → bytes_eq positional_id name ≡ false → use_of name g ≡ None → one_of name rows ≡ Some (codes "false")
  pub flags : (name : Text) (o : Text × Text) → bytes_eq positional_id name ≡ false → use_of name g ≡ Some o → one_of name rows ≡ Some o.1
  pub positionals : IsNoFlag positional_id known → row_as positional_id rows ≡ positional_row g.positionals

first_of_row : (o : Option (Text × Text)) (rows : List Row) (name : Text) → row_as name rows ≡ option_map option_row o → first_of name rows ≡ option_map (λ p. p.1) o
first_of_row None rows name h = rw h refl
first_of_row (Some p) rows name h = rw h refl

pub reads : (known : List Known) (g : Given) (rows : List Row) → Shows g rows → Reads known g (with_defaults known rows)
reads known g rows h = record {
  values = λ name plain far. first_of_row (use_of name g) (with_defaults known rows) name (defaults_other known name rows plain ∙ h.options name far);
  set = λ name flag far none.
      let row = defaults_flag known name rows flag (h.options name far ∙ ap (option_map option_row) none) in
      rw row refl;
  flags = λ name o far some.
      let row = defaults_keep known name rows (option_row o) (h.options name far ∙ ap (option_map option_row) some) in
      rw row refl;
  positionals = λ plain. defaults_other known positional_id rows plain ∙ h.positionals;
}

-- a command with these options, before it is built
pub record IsCommand (title : Text) (known : List Known) (a : App) : Type 0 where
  pub built_is : built a ≡ record { top = shape_with title known; subs = [] }
  pub named : a.top.no_binary_name ≡ false

-- what a parse of the command gives at the words after its name
abbrev pub Parses : List Known → App → Text → List Text → Option Given → Type 0
Parses known a command words None = IsFault (fault_of a (command ∷ words))
Parses known a command words (Some g) = (fault_of a (command ∷ words) ≡ []) × Reads known g (matches_of a (command ∷ words))

abbrev leaf : Text → List Known → App
leaf title known = record { top = shape_with title known; subs = [] }

abbrev start : Walk
start = at [] None idle false

abbrev end_of : List Known → List Text → Walk
end_of known words = fold (walked (rules_of known) []) start words

-- the faults of the walk, and of what is then still to be settled
abbrev walk_faults : Text → List Known → List Text → Kinds
walk_faults title known words = or_else (walk_fault (shape_with title known) [] start words) (settle_fault (rules_of known) false (end_of known words).held)

level_is : (title : Text) (known : List Known) (words : List Text)
    → level_fault (shape_with title known) [] nothing_held words false [] ≡ walk_faults title known words
level_is title known words =
    let rows = (settled (rules_of known) (end_of known words).held).rows in
    let first = walk_fault (shape_with title known) [] start words in
    let own = settle_fault (rules_of known) false (end_of known words).held in
    ap (λ (d : Kinds). or_else first (or_else own (or_else d (check_fault (shape_with title known) (with_defaults known rows) false)))) (no_default_fault known rows)
    ∙ ap (λ (d : Kinds). or_else first (or_else own d)) (no_check_fault title known (with_defaults known rows))
    ∙ ap (or_else first) (no_more own)

fault_is : (title : Text) (known : List Known) (a : App) (command : Text) (words : List Text) → IsCommand title known a
    → fault_of a (command ∷ words) ≡ walk_faults title known words
fault_is title known a command words h =
    ap (λ (b : Bool). built_fault (built a) nothing_held (cond b (command ∷ words) words)) h.named
    ∙ ap (λ (x : App). built_fault x nothing_held words) h.built_is
    ∙ leaf_fault (leaf title known) nothing_held words refl
    ∙ level_is title known words

matches_are : (title : Text) (known : List Known) (a : App) (command : Text) (words : List Text) → IsCommand title known a
    → matches_of a (command ∷ words) ≡ with_defaults known (settled (rules_of known) (end_of known words).held).rows
matches_are title known a command words h =
    ap (λ (b : Bool). rows_after (built a).top.rules (names_of (built a)) (cond b (command ∷ words) words)) h.named
    ∙ ap (λ (x : App). rows_after x.top.rules (names_of x) words) h.built_is

pub parses : (title : Text) (known : List Known) (a : App) (command : Text) (words : List Text) → IsCommand title known a → known_as positional_id known ≡ None → AllSpelled words
    → Parses known a command words (taken_after known words None nothing)
parses title known a command words h apart spelled =
    go (taken_after known words None nothing) ((taken title known words apart spelled).0 [] None false nothing refl (record { options = λ name far. refl; positionals = refl }))
  where
    go : (o : Option Given) → Agrees title known start words o → Parses known a command words o
    go None agrees = subst IsFault (sym (fault_is title known a command words h)) agrees
    go (Some g) agrees = (
      fault_is title known a command words h ∙ agrees.0,
      subst (Reads known g) (sym (matches_are title known a command words h)) (reads known g _ agrees.1),
    )
