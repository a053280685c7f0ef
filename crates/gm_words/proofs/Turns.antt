-- One word of such a parse.
use Rattle.std.proofs.Common.{◌≡◌, ◌∙◌, ◌++◌, ap, ◌&&◌, ◌==◌, ℕ, Bool, cond, true, false, List, [], ◌∷◌, length, Option, Some, None, refl, codes, arith}
use Rattle.std.specs.Str.{bytes_eq, chars}
use Rattle.std.specs.Prelude.{⊤}
use Rattle.clap.specs.Lexer.{long_of, short_of}
use Rattle.clap.specs.Kinds.{Kinds, or_else}
use Rattle.clap.specs.Walk.{Held, Row, Walk, Waiting, idle, positional, option, arg_by_id, settled_rows, subcommand_met, walked}
use Rattle.clap.specs.Simple.{Shape, new_shape}
use Rattle.clap.specs.Faults.{settle_fault, turn_fault, flags_fault}
use Rattle.gm_words.specs.Words.{Text, Known, Form, end_of_options, named, refused, plain, form_of}
use Rattle.clap.specs.Walk.{has_row, used, with_values, without}
use Rattle.clap.specs.Faults.{use_fault}
use Rattle.std.proofs.lemmas.List.{append-nil}
use Rattle.std.proofs.lemmas.Slice.Eq.{bytes_eq-Decides}
use Rattle.clap.specs.Walk.{more_values}
use Rattle.clap.specs.declared.builder.value_parser.Reading.TheVariants as reading
use Rattle.clap.specs.declared.parser.matches.ValueSource.TheVariants.{CommandLine}
use Rattle.gm_words.proofs.Walks.{positional_id, known_rule, known_as, rules_of, by_index, by_long, by_id, by_short, positional_by_id, name_of_known, row_as, option_row, at_no_row, with_word}

-- ---- the forms of a word, as the parse sees them

abbrev end_word : Text
end_word = 45 ∷ 45 ∷ []

abbrev pub Lexed : Text → Form → Type 0
Lexed word end_of_options = bytes_eq word end_word ≡ true
Lexed word (named name value) = (bytes_eq word end_word ≡ false) × (long_of word ≡ Some (name, value))
Lexed word refused = (bytes_eq word end_word ≡ false) × (long_of word ≡ None) × ((x : ℕ) × (xs : Text) × (short_of word ≡ Some (x ∷ xs)))
Lexed word plain = (bytes_eq word end_word ≡ false) × (long_of word ≡ None) × (short_of word ≡ None)

pub lexed : (word : Text) → Lexed word (form_of word)
lexed [] = (refl, refl, refl)
lexed (b ∷ []) = go (b == 45) refl
  where
    go : (t : Bool) → (b == 45) ≡ t → Lexed (b ∷ []) (form_of (b ∷ []))
    go true e = rw e (rw e refl, rw e refl, rw e refl)
    go false e = rw e (rw e refl, rw e refl, rw e refl)
lexed (b ∷ c ∷ rest) = go (b == 45) refl (c == 45) refl rest
  where
    go : (t : Bool) → (b == 45) ≡ t → (u : Bool) → (c == 45) ≡ u → (rest : Text) → Lexed (b ∷ c ∷ rest) (form_of (b ∷ c ∷ rest))
    go true e true f [] = rw (e, f) (rw (e, f) refl)
    go true e true f (d ∷ rest) = rw (e, f) (rw (e, f) refl, rw (e, f) refl)
    go true e false f rest = rw (e, f) (rw (e, f) refl, rw (e, f) refl, (c, rest, rw (e, f) refl))
    go false e u f rest = rw e (rw e refl, rw e refl, rw e refl)

-- ---- the command and where its parse stands

abbrev pub shape_with : Text → List Known → Shape
shape_with title known = record (new_shape title) {
  rules = rules_of known;
  disable_help_flag = true;
  disable_help_subcommand = true;
  is_built = true;
}

abbrev pub held_as : List Row → Option (Text × List Text) → Held
held_as rows pending = record { rows = rows; pending = pending; skip = 0 }

abbrev pub at : List Row → Option (Text × List Text) → Waiting → Bool → Walk
at rows pending waiting is_trailing = record {
  held = held_as rows pending;
  waiting = waiting;
  position = 1;
  is_trailing = is_trailing;
  stopped = None;
}

abbrev pub between : Bool → Waiting
between b = cond b positional idle

and_false : (b : Bool) → (b && false) ≡ false
and_false true = refl
and_false false = refl

pub plain_fault : (title : Text) (known : List Known) (rows : List Row) (pending : Option (Text × List Text)) (b : Bool) (word : Text) → Lexed word plain
    → turn_fault (shape_with title known) [] (at rows pending (between b) false) word ≡ settle_fault (rules_of known) false (held_as rows pending)
plain_fault title known rows pending true word h = rw (h.0, h.1, h.2, by_index known, and_false _) refl
plain_fault title known rows pending false word h = rw (h.0, h.1, h.2, by_index known, and_false _) refl

pub plain_walked : (known : List Known) (rows : List Row) (pending : Option (Text × List Text)) (b : Bool) (word : Text) → Lexed word plain
    → walked (rules_of known) [] (at rows pending (between b) false) word
    ≡ at (settled_rows (rules_of known) pending rows) (Some (positional_id, word ∷ [])) positional false
unfolding walked
plain_walked known rows pending true word h = rw (h.0, h.1, h.2, by_index known, and_false _) refl
plain_walked known rows pending false word h = rw (h.0, h.1, h.2, by_index known, and_false _) refl

-- ---- words after `--`

pub trailing_fault : (title : Text) (known : List Known) (rows : List Row) (pending : Option (Text × List Text)) (waiting : Waiting) (word : Text)
    → turn_fault (shape_with title known) [] (at rows pending waiting true) word ≡ settle_fault (rules_of known) false (held_as rows pending)
trailing_fault title known rows pending waiting word = rw (by_index known, and_false _) refl

pub trailing_walked : (known : List Known) (rows : List Row) (pending : Option (Text × List Text)) (waiting : Waiting) (word : Text)
    → walked (rules_of known) [] (at rows pending waiting true) word
    ≡ at (settled_rows (rules_of known) pending rows) (Some (positional_id, word ∷ [])) positional true
unfolding walked
trailing_walked known rows pending waiting word = rw (by_index known, and_false _) refl

-- ---- `--`

pub no_name : (waiting : Waiting) (word : Text) → subcommand_met [] waiting word ≡ None
no_name idle word = refl
no_name positional word = refl
no_name (option name) word = refl

pub end_fault : (title : Text) (known : List Known) (rows : List Row) (pending : Option (Text × List Text)) (waiting : Waiting) (word : Text) → Lexed word end_of_options
    → turn_fault (shape_with title known) [] (at rows pending waiting false) word ≡ []
end_fault title known rows pending waiting word h = rw (no_name waiting word, h) refl

pub end_walked : (known : List Known) (rows : List Row) (pending : Option (Text × List Text)) (waiting : Waiting) (word : Text) → Lexed word end_of_options
    → walked (rules_of known) [] (at rows pending waiting false) word ≡ at rows pending waiting true
unfolding walked
end_walked known rows pending waiting word h = rw (no_name waiting word, h) refl

-- ---- a word with one hyphen

abbrev pub IsFault : Kinds → Type 0
IsFault [] = ⊥
IsFault (k ∷ ks) = ⊤

pub first_fault : (a b : Kinds) → IsFault a → IsFault (or_else a b)
first_fault [] b h = absurd h
first_fault (k ∷ ks) b h = tt

pub later_fault : (a b : Kinds) → IsFault b → IsFault (or_else a b)
later_fault [] b h = h
later_fault (k ∷ ks) b h = tt

abbrev pub IsSpelled : Text → Type 0
IsSpelled word = (flags : Text) → short_of word ≡ Some flags → (y : ℕ) × (ys : List ℕ) × (chars flags ≡ y ∷ ys)

pub refused_fault : (title : Text) (known : List Known) (rows : List Row) (pending : Option (Text × List Text)) (waiting : Waiting) (word : Text)
    → Lexed word refused → IsSpelled word → IsFault (turn_fault (shape_with title known) [] (at rows pending waiting false) word)
unfolding flags_fault
refused_fault title known rows pending waiting word h spelled =
    let first = spelled (h.2.0 ∷ h.2.1) h.2.2 in
    rw (no_name waiting word, h.0, h.1, h.2.2, first.2, by_short known first.0) tt

-- ---- options

pub no_more : (a : Kinds) → or_else a [] ≡ a
no_more [] = refl
no_more (k ∷ ks) = refl

pub unknown_fault : (title : Text) (known : List Known) (rows : List Row) (pending : Option (Text × List Text)) (waiting : Waiting) (word name : Text) (v : Option Text)
    → Lexed word (named name v) → known_as name known ≡ None → IsFault (turn_fault (shape_with title known) [] (at rows pending waiting false) word)
unknown_fault title known rows pending waiting word name v h none =
    rw (no_name waiting word, h.0, h.1, by_long known name, none) tt

pub surplus_fault : (title : Text) (known : List Known) (rows : List Row) (pending : Option (Text × List Text)) (waiting : Waiting) (word name v : Text) (k : Known)
    → Lexed word (named name (Some v)) → known_as name known ≡ Some k → k.has_value ≡ false
    → IsFault (turn_fault (shape_with title known) [] (at rows pending waiting false) word)
surplus_fault title known rows pending waiting word name v k h found flag =
    rw (no_name waiting word, h.0, h.1, by_long known name, found, flag) tt

-- an option whose value is the next word
pub waits_fault : (title : Text) (known : List Known) (rows : List Row) (pending : Option (Text × List Text)) (waiting : Waiting) (word name : Text) (k : Known)
    → Lexed word (named name None) → known_as name known ≡ Some k → k.has_value ≡ true
    → turn_fault (shape_with title known) [] (at rows pending waiting false) word ≡ settle_fault (rules_of known) false (held_as rows pending)
waits_fault title known rows pending waiting word name k h found valued =
    rw (no_name waiting word, h.0, h.1, by_long known name, found, valued) (no_more _)

pub waits_walked : (known : List Known) (rows : List Row) (pending : Option (Text × List Text)) (waiting : Waiting) (word name : Text) (k : Known)
    → Lexed word (named name None) → known_as name known ≡ Some k → k.has_value ≡ true
    → walked (rules_of known) [] (at rows pending waiting false) word
    ≡ at (settled_rows (rules_of known) pending rows) (Some (k.name, [])) (option k.name) false
unfolding walked
waits_walked known rows pending waiting word name k h found valued =
    rw (no_name waiting word, h.0, h.1, by_long known name, found, valued) refl

-- an option with its value in the word
pub valued_fault : (title : Text) (known : List Known) (rows : List Row) (pending : Option (Text × List Text)) (waiting : Waiting) (word name v : Text) (k : Known)
    → Lexed word (named name (Some v)) → known_as name known ≡ Some k → k.has_value ≡ true
    → turn_fault (shape_with title known) [] (at rows pending waiting false) word
    ≡ or_else (settle_fault (rules_of known) false (held_as rows pending)) (use_fault false (known_rule k) (v ∷ []) (settled_rows (rules_of known) pending rows))
valued_fault title known rows pending waiting word name v k h found valued =
    rw (no_name waiting word, h.0, h.1, by_long known name, found, valued) (no_more _)

pub valued_walked : (known : List Known) (rows : List Row) (pending : Option (Text × List Text)) (waiting : Waiting) (word name v : Text) (k : Known)
    → Lexed word (named name (Some v)) → known_as name known ≡ Some k → k.has_value ≡ true
    → walked (rules_of known) [] (at rows pending waiting false) word
    ≡ at (used (known_rule k) (v ∷ []) (settled_rows (rules_of known) pending rows)) None idle false
unfolding walked
valued_walked known rows pending waiting word name v k h found valued =
    rw (no_name waiting word, h.0, h.1, by_long known name, found, valued) refl

-- an option without a value
pub flag_fault : (title : Text) (known : List Known) (rows : List Row) (pending : Option (Text × List Text)) (waiting : Waiting) (word name : Text) (k : Known)
    → Lexed word (named name None) → known_as name known ≡ Some k → k.has_value ≡ false
    → turn_fault (shape_with title known) [] (at rows pending waiting false) word
    ≡ or_else (settle_fault (rules_of known) false (held_as rows pending)) (use_fault false (known_rule k) [] (settled_rows (rules_of known) pending rows))
flag_fault title known rows pending waiting word name k h found flag =
    rw (no_name waiting word, h.0, h.1, by_long known name, found, flag) (no_more _)

pub flag_walked : (known : List Known) (rows : List Row) (pending : Option (Text × List Text)) (waiting : Waiting) (word name : Text) (k : Known)
    → Lexed word (named name None) → known_as name known ≡ Some k → k.has_value ≡ false
    → walked (rules_of known) [] (at rows pending waiting false) word
    ≡ at (used (known_rule k) [] (settled_rows (rules_of known) pending rows)) None idle false
unfolding walked
flag_walked known rows pending waiting word name k h found flag =
    rw (no_name waiting word, h.0, h.1, by_long known name, found, flag) refl

-- ---- one use of an option

-- the values of its use, and what it counts as
abbrev pub use_values : Known → Text → List Text
use_values k v = cond k.has_value (v ∷ []) []

pub use_repeats : (k : Known) (vs : List Text) (rows : List Row) → length vs ≡ cond k.has_value 1 0 → has_row k.name rows ≡ true → IsFault (use_fault false (known_rule k) vs rows)
use_repeats k vs rows is has = go k.has_value refl vs is
  where
    go : (b : Bool) → k.has_value ≡ b → (vs : List Text) → length vs ≡ cond k.has_value 1 0 → IsFault (use_fault false (known_rule k) vs rows)
    go true e [] n = cc
    go true e (v ∷ []) n = rw (e, has) tt
    go true e (v ∷ w ∷ vs) n = let bad : length (v ∷ w ∷ vs) ≡ 1 = rw e at n in absurd (omega arith)
    go false e [] n = rw (e, has) tt
    go false e (v ∷ vs) n = let bad : length (v ∷ vs) ≡ 0 = rw e at n in absurd (omega arith)

pub use_passes : (k : Known) (v : Text) (rows : List Row) → k.has_value ≡ true → has_row k.name rows ≡ false → use_fault false (known_rule k) (v ∷ []) rows ≡ []
use_passes k v rows e has = rw (e, has) refl

pub flag_passes : (k : Known) (rows : List Row) → k.has_value ≡ false → has_row k.name rows ≡ false → use_fault false (known_rule k) [] rows ≡ []
flag_passes k rows e has = rw (e, has) refl

one_more : (name v : Text) (rows : List Row) → row_as name rows ≡ None
    → with_values name reading.AsWritten CommandLine (v ∷ []) (without name rows) ≡ rows ++ option_row (name, v) ∷ []
one_more name v rows none =
    ap (with_values name reading.AsWritten CommandLine (v ∷ [])) (at_no_row name (λ _. []) [] rows none ∙ append-nil rows)
    ∙ at_no_row name (more_values CommandLine (v ∷ [])) (option_row (name, v) ∷ []) rows none

pub value_used : (k : Known) (v : Text) (rows : List Row) → k.has_value ≡ true → row_as k.name rows ≡ None
    → used (known_rule k) (v ∷ []) rows ≡ rows ++ option_row (k.name, v) ∷ []
value_used k v rows e none = rw e (one_more k.name v rows none)

pub flag_used : (k : Known) (rows : List Row) → k.has_value ≡ false → row_as k.name rows ≡ None
    → used (known_rule k) [] rows ≡ rows ++ option_row (k.name, codes "true") ∷ []
flag_used k rows e none = rw e (one_more k.name (codes "true") rows none)

-- the option or the positional that is read is settled
pub positional_settles : (known : List Known) (rows : List Row) (word : Text) → known_as positional_id known ≡ None
    → (settle_fault (rules_of known) false (held_as rows (Some (positional_id, word ∷ []))) ≡ [])
    × (settled_rows (rules_of known) (Some (positional_id, word ∷ [])) rows ≡ with_word word rows)
positional_settles known rows word apart = (rw (positional_by_id known apart) refl, rw (positional_by_id known apart) refl)

own_id : (known : List Known) (name : Text) (k : Known) → known_as name known ≡ Some k → arg_by_id (rules_of known) k.name ≡ Some (known_rule k)
own_id known name k found = by_id known k.name k (ap (λ n. known_as n known) (name_of_known known name k found) ∙ found)

pub option_settles : (known : List Known) (rows : List Row) (vs : List Text) (name : Text) (k : Known) → known_as name known ≡ Some k
    → (settle_fault (rules_of known) false (held_as rows (Some (k.name, vs))) ≡ use_fault false (known_rule k) vs rows)
    × (settled_rows (rules_of known) (Some (k.name, vs)) rows ≡ used (known_rule k) vs rows)
option_settles known rows vs name k found = (rw (own_id known name k found) refl, rw (own_id known name k found) refl)

pub nothing_came : (k : Known) (rows : List Row) → k.has_value ≡ true → IsFault (use_fault false (known_rule k) [] rows)
nothing_came k rows e = rw e tt

-- the word that an option waits for
pub value_fault : (title : Text) (known : List Known) (rows : List Row) (name word : Text) (k : Known) → Lexed word plain → known_as name known ≡ Some k → k.has_value ≡ true
    → turn_fault (shape_with title known) [] (at rows (Some (k.name, [])) (option k.name) false) word ≡ []
value_fault title known rows name word k h found valued = rw (h.0, h.1, h.2) refl

pub value_walked : (known : List Known) (rows : List Row) (name word : Text) (k : Known) → Lexed word plain → known_as name known ≡ Some k → k.has_value ≡ true
    → walked (rules_of known) [] (at rows (Some (k.name, [])) (option k.name) false) word ≡ at rows (Some (k.name, word ∷ [])) idle false
unfolding walked
value_walked known rows name word k h found valued =
    rw (h.0, h.1, h.2, own_id known name k found, valued, (bytes_eq-Decides k.name k.name).1 refl) refl
