-- Messages stay as they are when more is added behind theirs.
use Rattle.std.proofs.Common.{◌≡◌, ◌<◌, ◌≤◌, ◌+◌, ◌-◌, ℕ, suc, List, [], ◌∷◌, ◌++◌, map, length, take, drop, get_or, refl, sym, ap, ◌∙◌, arith, subst}
use Rattle.std.specs.Prelude.{ℤ, All, slice_range}
use Rattle.std.proofs.lemmas.List.{take-append-le, drop-append-le, take_more, length-append, length-drop, length-map, get_or-drop, get_or-map, get_or_append_left, get_or_default, map-append, append-nil}
use Rattle.std.proofs.lemmas.List.Elements.{All-push, All-weaker, All-same, All-get_or, All-drop}
use Rattle.gm_value.specs.declared.values.Value.{Value}
use Rattle.gm_machine.specs.declared.batches.MessageHeader.{MessageHeader}
use Rattle.gm_machine.specs.declared.message_values.MessageCell.{MessageCell}
use Rattle.gm_machine.specs.declared.message_values.MessageSort.{MessageSort}
use Rattle.gm_machine.specs.declared.message_values.MessageValues.{MessageValues}
use Rattle.gm_machine.specs.MessageValues.{cells_of, cell_value, all_words, sort_at, sort_cells, IsSort, AreSorts, IsSortOf, HasWords, Grows}
use Rattle.gm_machine.specs.Vertex.{Message}
use Rattle.gm_machine.specs.Batches.{message_of, messages_of, IsWithin, AreMessages, Adds, Holds}
use Rattle.gm_machine.proofs.WordLemmas.{values-kept, words-kept, values-read, words-there}

range-kept : {A : Type 0} (values more : List A) (start end : ℕ) → start ≤ end → end ≤ length values → slice_range (values ++ more) start end ≡ slice_range values start end
range-kept values more start end a b =
    let s : start ≤ length values = omega arith in
    let room : end - start ≤ length (drop start values) = omega (arith, length-drop start values) in
    ap (take (end - start)) (drop-append-le start values more s) ∙ take-append-le (end - start) (drop start values) more room

-- nothing was added
pub grows-none : (old new : MessageValues) → new.sorts.items ≡ old.sorts.items → new.cells.items ≡ old.cells.items → new.words.items ≡ old.words.items → Grows old new
grows-none old new sorts cells words = record {
  sorts = [];
  cells = [];
  words = [];
  sorts_are = sorts ∙ sym (append-nil old.sorts.items);
  cells_are = cells ∙ sym (append-nil old.cells.items);
  words_are = words ∙ sym (append-nil old.words.items);
}

-- Values to which more was added have their sorts and messages.
module _ (old new : MessageValues) (grows : Grows old new) where
  pub sort-kept : (i : ℕ) → IsSort old i → sort_at new i ≡ sort_at old i
  sort-kept i is =
      let d : MessageSort = record { kind = 0; start = 0; end = 0 } in
      ap (λ l. get_or l i d) grows.sorts_are ∙ get_or_append_left old.sorts.items grows.sorts d i is.inside

  pub cells-kept : (i : ℕ) → IsSort old i → sort_cells new i ≡ sort_cells old i
  cells-kept i is =
      ap (λ (s : MessageSort). slice_range new.cells.items s.start s.end) (sort-kept i is)
      ∙ ap (λ l. slice_range l (sort_at old i).start (sort_at old i).end) grows.cells_are
      ∙ range-kept old.cells.items grows.cells (sort_at old i).start (sort_at old i).end is.ordered is.within

  pub is-kept : (i : ℕ) → IsSort old i → IsSort new i
  is-kept i is =
      let same : sort_at new i ≡ sort_at old i = sort-kept i is in
      record {
        inside = omega (arith, is.inside, ap length grows.sorts_are, length-append old.sorts.items grows.sorts);
        ordered = subst (λ (s : MessageSort). s.start ≤ s.end) (sym same) is.ordered;
        within = subst (λ (s : MessageSort). s.end ≤ length new.cells.items) (sym same) (omega (arith, is.within, ap length grows.cells_are, length-append old.cells.items grows.cells));
      }

  pub of-kept : (i kind : ℕ) (vs : List Value) → IsSortOf old i kind vs → IsSortOf new i kind vs
  of-kept i kind vs of = record {
    is = is-kept i of.is;
    kind_is = ap (λ (s : MessageSort). s.kind) (sort-kept i of.is) ∙ of.kind_is;
    cells_are = cells-kept i of.is ∙ of.cells_are;
  }

  message-kept : (header : MessageHeader) → IsWithin old header → message_of new header ≡ message_of old header
  message-kept header within =
      let made : ℕ → List Value → Message = λ k vs. record { to = header.to; kind = k; values = vs } in
      let cells : List MessageCell = sort_cells old header.sort in
      ap (λ (s : MessageSort). made s.kind (map (cell_value new.words.items header.start) (sort_cells new header.sort))) (sort-kept header.sort within.sort)
      ∙ ap (made (sort_at old header.sort).kind) (
      ap (map (cell_value new.words.items header.start)) (cells-kept header.sort within.sort)
      ∙ ap (λ ws. map (cell_value ws header.start) cells) grows.words_are
      ∙ values-kept old.words.items grows.words header.start cells within.words)

  within-kept : (header : MessageHeader) → IsWithin old header → IsWithin new header
  within-kept header within =
      let cells : List MessageCell = sort_cells old header.sort in
      record {
        sort = is-kept header.sort within.sort;
        words =
            subst (λ cs. All (HasWords new.words.items header.start) cs) (sym (cells-kept header.sort within.sort))
            (subst (λ ws. All (HasWords ws header.start) cells) (sym grows.words_are)
            (words-kept old.words.items grows.words header.start cells within.words));
      }

  pub messages-kept : (headers : List MessageHeader) → All (IsWithin old) headers → map (message_of new) headers ≡ map (message_of old) headers
  messages-kept [] within = refl
  messages-kept (h ∷ headers) within =
      let first : 0 < length (h ∷ headers) = omega arith in
      ap (λ m. m ∷ map (message_of new) headers) (message-kept h (within 0 h first))
      ∙ ap (λ ms. message_of old h ∷ ms) (messages-kept headers (λ k d l. let k' : suc k < length (h ∷ headers) = omega arith in within (suc k) d k'))

  -- the same headers, and one more
  pub same-messages : (headers headers' : List MessageHeader) (taken : ℕ) (seen : List Message) → AreMessages old headers taken → messages_of old headers taken ≡ seen → headers' ≡ headers →
      messages_of new headers' taken ≡ seen
  same-messages headers headers' taken seen are view same =
      ap (λ hs. map (message_of new) (drop taken hs)) same ∙ messages-kept (drop taken headers) (All-drop (IsWithin old) taken headers are.within) ∙ view

  pub same-are : (headers headers' : List MessageHeader) (taken : ℕ) → AreMessages old headers taken → AreSorts new → headers' ≡ headers → AreMessages new headers' taken
  same-are headers headers' taken are sorts same = record {
    sorts = sorts;
    within = All-same (IsWithin new) headers' headers same (All-weaker (IsWithin old) (IsWithin new) within-kept headers are.within);
    some = omega (arith, are.some, ap length same);
  }

  pub more-messages : (headers headers' : List MessageHeader) (taken : ℕ) (seen : List Message) (to kind : ℕ) (vs : List Value) → AreMessages old headers taken → messages_of old headers taken ≡ seen →
      Adds new headers headers' to kind vs → messages_of new headers' taken ≡ seen ++ record { to = to; kind = kind; values = vs } ∷ []
  more-messages headers headers' taken seen to kind vs are view adds =
      ap (λ hs. map (message_of new) (drop taken hs)) adds.behind
      ∙ ap (map (message_of new)) (drop-append-le taken headers (adds.header ∷ []) are.some)
      ∙ map-append (message_of new) (drop taken headers) (adds.header ∷ [])
      ∙ ap (λ ms. ms ++ message_of new adds.header ∷ []) (same-messages headers headers taken seen are view refl)
      ∙ ap (λ m. seen ++ m ∷ []) adds.is

  pub more-are : (headers headers' : List MessageHeader) (taken to kind : ℕ) (vs : List Value) → AreMessages old headers taken → AreSorts new → Adds new headers headers' to kind vs → AreMessages new headers' taken
  more-are headers headers' taken to kind vs are sorts adds = record {
    sorts = sorts;
    within =
        All-same (IsWithin new) headers' (headers ++ adds.header ∷ []) adds.behind
        (All-push (IsWithin new) headers adds.header (All-weaker (IsWithin old) (IsWithin new) within-kept headers are.within) adds.within);
    some = omega (arith, are.some, ap length adds.behind, length-append headers (adds.header ∷ []));
  }

-- values whose words were added last are a message
pub held : (before : List ℤ) (new : MessageValues) (sort start kind : ℕ) (vs : List Value) → IsSortOf new sort kind vs → new.words.items ≡ before ++ all_words vs → start ≡ length before → Holds new sort start kind vs
held before new sort start kind vs of words_are start_is = record {
  is = λ to.
      let made : ℕ → List Value → Message = λ k xs. record { to = to; kind = k; values = xs } in
      ap (λ k. made k (map (cell_value new.words.items start) (sort_cells new sort))) of.kind_is
      ∙ ap (made kind) (
      ap (map (cell_value new.words.items start)) of.cells_are
      ∙ ap (λ n. map (cell_value new.words.items n) (cells_of 0 vs)) start_is
      ∙ values-read before vs new.words.items words_are);
  within = λ to. record {
    sort = of.is;
    words =
        All-same (HasWords new.words.items start) (sort_cells new sort) (cells_of 0 vs) of.cells_are
        (subst (λ n. All (HasWords new.words.items n) (cells_of 0 vs)) (sym start_is) (words-there before vs new.words.items words_are));
  };
}

-- the header of a message that was not taken
pub header-inside : (v : MessageValues) (headers : List MessageHeader) (taken i : ℕ) (seen : List Message) → AreMessages v headers taken → messages_of v headers taken ≡ seen → i < length seen → taken + i < length headers
header-inside v headers taken i seen are view below =
    omega (arith, are.some, ap length view, length-map (drop taken headers) (message_of v), length-drop taken headers)

pub header-within : (v : MessageValues) (headers : List MessageHeader) (taken i : ℕ) (d : MessageHeader) (seen : List Message) → AreMessages v headers taken → messages_of v headers taken ≡ seen → i < length seen →
    IsWithin v (get_or headers (taken + i) d)
header-within v headers taken i d seen are view below = All-get_or (IsWithin v) headers (taken + i) d (header-inside v headers taken i seen are view below) are.within

pub header-read : (v : MessageValues) (headers : List MessageHeader) (taken i : ℕ) (d : MessageHeader) (e : Message) (seen : List Message) → AreMessages v headers taken → messages_of v headers taken ≡ seen → i < length seen →
    message_of v (get_or headers (taken + i) d) ≡ get_or seen i e
header-read v headers taken i d e seen are view below =
    let rest : List MessageHeader = drop taken headers in
    let inside : i < length rest = omega (arith, ap length view, length-map rest (message_of v)) in
    ap (message_of v) (sym (get_or-drop taken headers i d))
    ∙ sym (get_or-map (message_of v) rest i d e inside)
    ∙ ap (λ ms. get_or ms i e) view

-- a message is made of its parts, as they are read
pub message-read : (messages : List Message) (i to kind : ℕ) (values : List Value) (d : Message) → i < length messages →
    to ≡ (get_or messages i (record { to = to; kind = 0; values = [] })).to → kind ≡ (get_or messages i (record { to = 0; kind = kind; values = [] })).kind → values ≡ (get_or messages i (record { to = 0; kind = 0; values = values })).values →
    record { to = to; kind = kind; values = values } ≡ get_or messages i d
message-read messages i to kind values d within to_is kind_is values_is =
    let m : Message = get_or messages i d in
    let made : ℕ → ℕ → List Value → Message = λ t k vs. record { to = t; kind = k; values = vs } in
    ap (λ t. made t kind values) (to_is ∙ ap (λ (x : Message). x.to) (get_or_default messages i (made to 0 []) d within))
    ∙ ap (λ k. made m.to k values) (kind_is ∙ ap (λ (x : Message). x.kind) (get_or_default messages i (made 0 kind []) d within))
    ∙ ap (made m.to m.kind) (values_is ∙ ap (λ (x : Message). x.values) (get_or_default messages i (made 0 0 values) d within))

-- a message with another node is made of that node and of its other parts
pub message-sent : (messages : List Message) (i to kind : ℕ) (values : List Value) (d : Message) → i < length messages →
    kind ≡ (get_or messages i (record { to = 0; kind = kind; values = [] })).kind → values ≡ (get_or messages i (record { to = 0; kind = 0; values = values })).values →
    record { to = to; kind = kind; values = values } ≡ record (get_or messages i d) { to = to }
message-sent messages i to kind values d within kind_is values_is =
    let m : Message = get_or messages i d in
    let made : ℕ → List Value → Message = λ k vs. record { to = to; kind = k; values = vs } in
    ap (λ k. made k values) (kind_is ∙ ap (λ (x : Message). x.kind) (get_or_default messages i (record { to = 0; kind = kind; values = [] }) d within))
    ∙ ap (made m.kind) (values_is ∙ ap (λ (x : Message). x.values) (get_or_default messages i (record { to = 0; kind = 0; values = values }) d within))

-- a message is one to its own node
pub message-own : (messages : List Message) (i to : ℕ) (d : Message) → i < length messages →
    to ≡ (get_or messages i (record { to = to; kind = 0; values = [] })).to → record (get_or messages i d) { to = to } ≡ get_or messages i d
message-own messages i to d within to_is =
    let m : Message = get_or messages i d in
    ap (λ t. record m { to = t }) (to_is ∙ ap (λ (x : Message). x.to) (get_or_default messages i (record { to = to; kind = 0; values = [] }) d within))

-- one more message of a range
pub range-more : (messages some new : List Message) (from i : ℕ) → from ≤ i → i < length messages → some ≡ slice_range messages from i → ((d : Message) → new ≡ some ++ get_or messages i d ∷ []) →
    new ≡ slice_range messages from (i + 1)
range-more messages some new from i le within some_is new_is =
    let d : Message = record { to = 0; kind = 0; values = [] } in
    let rest : List Message = drop from messages in
    let inside : i - from < length rest = omega (arith, length-drop from messages) in
    let size : (i + 1) - from ≡ (i - from) + 1 = omega arith in
    new_is d
    ∙ ap (λ ms. ms ++ get_or messages i d ∷ []) some_is
    ∙ ap (λ m. take (i - from) rest ++ m ∷ []) (ap (λ (n : ℕ). get_or messages n d) (let e : i ≡ from + (i - from) = omega arith in e) ∙ sym (get_or-drop from messages (i - from) d))
    ∙ sym (take_more rest (i - from) d inside)
    ∙ ap (λ n. take n rest) (sym size)
