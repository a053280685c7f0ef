-- Values stand in their words, and stay there when more is added.
use Rattle.std.proofs.Common.{◌≡◌, ◌<◌, ◌≤◌, ◌+◌, ◌-◌, ◌*◌, ◌/◌, ◌%◌, ℕ, zero, suc, Bool, true, false, Option, Some, None, List, [], ◌∷◌, ◌++◌, map, length, take, drop, get_or, refl, sym, ap, ◌∙◌, arith, subst, append_assoc}
use Rattle.std.specs.Prelude.{ℤ, pos, negsuc, ◌+ℤ◌, ◌-ℤ◌, ◌*ℤ◌, unsigned_abs, int_lt, All}
use Rattle.std.specs.List.{flat_map}
use Rattle.std.proofs.lemmas.Int.{ints}
use Rattle.std.proofs.lemmas.List.{length-append, get_or_append_left, get_or_at, drop_more, take_more, append-nil}
use Rattle.std.proofs.lemmas.List.Elements.{All-nil, All-cons}
use Rattle.std.proofs.lemmas.List.Concat.{flat_map-append}
use Rattle.gm_value.specs.declared.values.Value.{Value}
use Rattle.gm_value.specs.declared.values.Value.TheVariants as values
use Rattle.gm_machine.specs.declared.message_values.MessageCell.{MessageCell}
use Rattle.gm_machine.specs.declared.message_values.WordType.{WordType}
use Rattle.gm_machine.specs.declared.message_values.WordType.TheVariants.{Number, Long, Truth, Node, Nil}
use Rattle.gm_machine.specs.MessageValues.{word_type, width, high_word, low_word, number_in, node_word, index_in, truth_word, words_of, all_words, value_in, cells_of, cell_value, HasWords}

pub length-words : (v : Value) → length (words_of v) ≡ width (word_type v)
length-words (values.I32 z) = refl
length-words (values.I64 z) = refl
length-words (values.Flag b) = refl
length-words (values.At (Some k)) = refl
length-words (values.At None) = refl

-- a number is in its two words, and a node and a truth value are in theirs
number-in-words : (z : ℤ) → number_in (high_word z) (low_word z) ≡ z
number-in-words (pos a) = omega (arith, ints)
number-in-words (negsuc a) = omega (arith, ints)

node-in-word : (k : ℕ) → index_in (node_word k) ≡ k
node-in-word k = omega (arith, ints)

truth-in-word : (b : Bool) → int_lt (pos 0) (truth_word b) ≡ b
truth-in-word true = refl
truth-in-word false = refl

-- the words behind others
word-behind : (front rest : List ℤ) (word : ℤ) (i : ℕ) → length front ≡ i → get_or (front ++ word ∷ rest) i (pos 0) ≡ word
word-behind front rest word i is = get_or_at front word rest (pos 0) i is

next-behind : (front rest : List ℤ) (word next : ℤ) (i : ℕ) → length front ≡ i → get_or (front ++ word ∷ next ∷ rest) (i + 1) (pos 0) ≡ next
next-behind front rest word next i is =
    ap (λ l. get_or l (i + 1) (pos 0)) (sym (append_assoc front (word ∷ []) (next ∷ rest)))
    ∙ word-behind (front ++ word ∷ []) rest next (i + 1) (omega (arith, length-append front (word ∷ [])))

-- a value is read from its words, wherever they stand
read-one : (front rest : List ℤ) (v : Value) (i : ℕ) → length front ≡ i →
    value_in (word_type v) (get_or (front ++ (words_of v ++ rest)) i (pos 0)) (get_or (front ++ (words_of v ++ rest)) (i + 1) (pos 0)) ≡ v
read-one front rest (values.I32 z) i is = ap values.I32 (word-behind front rest z i is)
read-one front rest (values.I64 z) i is =
    ap values.I64 (
    ap (λ h. number_in h (get_or (front ++ high_word z ∷ low_word z ∷ rest) (i + 1) (pos 0))) (word-behind front (low_word z ∷ rest) (high_word z) i is)
    ∙ ap (number_in (high_word z)) (next-behind front rest (high_word z) (low_word z) i is)
    ∙ number-in-words z)
read-one front rest (values.Flag b) i is = ap values.Flag (ap (int_lt (pos 0)) (word-behind front rest (truth_word b) i is) ∙ truth-in-word b)
read-one front rest (values.At (Some k)) i is = ap (λ n. values.At (Some n)) (ap index_in (word-behind front rest (node_word k) i is) ∙ node-in-word k)
read-one front rest (values.At None) i is = refl

-- the values of a message are read from its words
module _ (before : List ℤ) where
  read-from : (skipped : List ℤ) (vs : List Value) (words : List ℤ) (at : ℕ) → words ≡ before ++ (skipped ++ all_words vs) → length skipped ≡ at →
      map (cell_value words (length before)) (cells_of at vs) ≡ vs
  read-from skipped [] words at is long = refl
  read-from skipped (v ∷ vs) words at is long =
      let front : List ℤ = before ++ skipped in
      let here : words ≡ front ++ (words_of v ++ all_words vs) = is ∙ sym (append_assoc before skipped (words_of v ++ all_words vs)) in
      let place : length front ≡ length before + at = omega (arith, length-append before skipped) in
      let one : cell_value words (length before) (record { vtype = word_type v; at = at }) ≡ v =
      ap (λ ws. value_in (word_type v) (get_or ws (length before + at) (pos 0)) (get_or ws (length before + at + 1) (pos 0))) here
      ∙ read-one front (all_words vs) v (length before + at) place in
      ap (λ x. x ∷ map (cell_value words (length before)) (cells_of (at + width (word_type v)) vs)) one
      ∙ ap (λ l. v ∷ l) (read-from (skipped ++ words_of v) vs words (at + width (word_type v))
      (is ∙ ap (λ l. before ++ l) (sym (append_assoc skipped (words_of v) (all_words vs))))
      (omega (arith, length-append skipped (words_of v), length-words v)))

  words-from : (skipped : List ℤ) (vs : List Value) (words : List ℤ) (at : ℕ) → words ≡ before ++ (skipped ++ all_words vs) → length skipped ≡ at →
      All (HasWords words (length before)) (cells_of at vs)
  words-from skipped [] words at is long = All-nil (HasWords words (length before))
  words-from skipped (v ∷ vs) words at is long =
      All-cons (HasWords words (length before)) (record { vtype = word_type v; at = at }) (cells_of (at + width (word_type v)) vs)
      (omega (arith, ap length is, length-append before (skipped ++ (words_of v ++ all_words vs)), length-append skipped (words_of v ++ all_words vs), length-append (words_of v) (all_words vs), length-words v))
      (words-from (skipped ++ words_of v) vs words (at + width (word_type v))
      (is ∙ ap (λ l. before ++ l) (sym (append_assoc skipped (words_of v) (all_words vs))))
      (omega (arith, length-append skipped (words_of v), length-words v)))

  pub values-read : (vs : List Value) (words : List ℤ) → words ≡ before ++ all_words vs → map (cell_value words (length before)) (cells_of 0 vs) ≡ vs
  values-read vs words is = read-from [] vs words 0 is refl

  pub words-there : (vs : List Value) (words : List ℤ) → words ≡ before ++ all_words vs → All (HasWords words (length before)) (cells_of 0 vs)
  words-there vs words is = words-from [] vs words 0 is refl

-- the cell of one more value
cells-push : (a : ℕ) (vs : List Value) (v : Value) → cells_of a (vs ++ v ∷ []) ≡ cells_of a vs ++ record { vtype = word_type v; at = a + length (all_words vs) } ∷ []
cells-push a [] v = ap (λ n. record { vtype = word_type v; at = n } ∷ []) (let e : a ≡ a + 0 = omega arith in e)
cells-push a (w ∷ vs) v =
    let e : (a + width (word_type w)) + length (all_words vs) ≡ a + length (words_of w ++ all_words vs) = omega (arith, length-append (words_of w) (all_words vs), length-words w) in
    ap (λ l. record { vtype = word_type w; at = a } ∷ l) (
    cells-push (a + width (word_type w)) vs v
    ∙ ap (λ n. cells_of (a + width (word_type w)) vs ++ record { vtype = word_type v; at = n } ∷ []) e)

all-words-push : (vs : List Value) (v : Value) → all_words (vs ++ v ∷ []) ≡ all_words vs ++ words_of v
all-words-push vs v = flat_map-append words_of vs (v ∷ []) ∙ ap (λ l. all_words vs ++ l) (append-nil (words_of v))

-- one more cell
pub cells-more : (old now new : List MessageCell) (vs : List Value) (i at : ℕ) (d : Value) → i < length vs → now ≡ old ++ cells_of 0 (take i vs) → at ≡ length (all_words (take i vs)) →
    new ≡ now ++ record { vtype = word_type (get_or vs i d); at = at } ∷ [] → new ≡ old ++ cells_of 0 (take (i + 1) vs)
cells-more old now new vs i at d within is at_is new_is =
    let v : Value = get_or vs i d in
    new_is
    ∙ ap (λ l. l ++ record { vtype = word_type v; at = at } ∷ []) is
    ∙ append_assoc old (cells_of 0 (take i vs)) (record { vtype = word_type v; at = at } ∷ [])
    ∙ ap (λ n. old ++ (cells_of 0 (take i vs) ++ record { vtype = word_type v; at = n } ∷ [])) (let e : at ≡ 0 + length (all_words (take i vs)) = omega (arith, at_is) in e)
    ∙ ap (λ l. old ++ l) (sym (cells-push 0 (take i vs) v) ∙ ap (cells_of 0) (sym (take_more vs i d within)))

pub words-more : (vs : List Value) (i at : ℕ) (d : Value) → i < length vs → at ≡ length (all_words (take i vs)) → at + width (word_type (get_or vs i d)) ≡ length (all_words (take (i + 1) vs))
words-more vs i at d within at_is =
    let v : Value = get_or vs i d in
    sym (ap length (ap all_words (take_more vs i d within) ∙ all-words-push (take i vs) v) ∙ (omega (arith, length-append (all_words (take i vs)) (words_of v), length-words v)))

-- A value stays where it is when more words stand behind.

value-kept : (t : WordType) (words more : List ℤ) (i : ℕ) → i + width t ≤ length words →
    value_in t (get_or (words ++ more) i (pos 0)) (get_or (words ++ more) (i + 1) (pos 0)) ≡ value_in t (get_or words i (pos 0)) (get_or words (i + 1) (pos 0))
value-kept Number words more i room = ap values.I32 (get_or_append_left words more (pos 0) i (omega arith))
value-kept Long words more i room =
    ap (λ h. values.I64 (number_in h (get_or (words ++ more) (i + 1) (pos 0)))) (get_or_append_left words more (pos 0) i (omega arith))
    ∙ ap (λ l. values.I64 (number_in (get_or words i (pos 0)) l)) (get_or_append_left words more (pos 0) (i + 1) (omega arith))
value-kept Truth words more i room = ap (λ w. values.Flag (int_lt (pos 0) w)) (get_or_append_left words more (pos 0) i (omega arith))
value-kept Node words more i room = ap (λ w. values.At (Some (index_in w))) (get_or_append_left words more (pos 0) i (omega arith))
value-kept Nil words more i room = refl

pub values-kept : (words more : List ℤ) (start : ℕ) (cells : List MessageCell) → All (HasWords words start) cells → map (cell_value (words ++ more) start) cells ≡ map (cell_value words start) cells
values-kept words more start [] there = refl
values-kept words more start (c ∷ cells) there =
    let first : 0 < length (c ∷ cells) = omega arith in
    ap (λ x. x ∷ map (cell_value (words ++ more) start) cells) (value-kept c.vtype words more (start + c.at) (there 0 c first))
    ∙ ap (λ l. cell_value words start c ∷ l) (values-kept words more start cells (λ k d l. let k' : suc k < length (c ∷ cells) = omega arith in there (suc k) d k'))

pub words-kept : (words more : List ℤ) (start : ℕ) (cells : List MessageCell) → All (HasWords words start) cells → All (HasWords (words ++ more) start) cells
words-kept words more start cells there k d l = omega (arith, there k d l, length-append words more)
