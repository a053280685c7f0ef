-- Messages as the code holds them: headers, and the values of all messages in words.
use Rattle.std.specs.Prelude.{◌≡◌, ◌≤◌, ℕ, All, List, [], ◌∷◌, ◌++◌, length, map, drop}
use Rattle.gm_value.specs.declared.values.Value.{Value}
use Rattle.gm_machine.specs.declared.batches.MessageHeader.{MessageHeader}
use Rattle.gm_machine.specs.declared.message_values.MessageValues.{MessageValues}
use Rattle.gm_machine.specs.MessageValues.{sort_at, sort_cells, cell_value, IsSort, AreSorts, HasWords}
use Rattle.gm_machine.specs.Vertex.{Message}

-- the message of a header
abbrev pub message_of : MessageValues → MessageHeader → Message
message_of v header = record {
  to = header.to;
  kind = (sort_at v header.sort).kind;
  values = map (cell_value v.words.items header.start) (sort_cells v header.sort);
}

-- a header has its sort and its words
pub record IsWithin (v : MessageValues) (header : MessageHeader) : Type 0 where
  pub sort : IsSort v header.sort
  pub words : All (HasWords v.words.items header.start) (sort_cells v header.sort)

-- the messages behind the first so many, which were taken
abbrev pub messages_of : MessageValues → List MessageHeader → ℕ → List Message
messages_of v headers taken = map (message_of v) (drop taken headers)

-- headers that have their sorts and their words, of which so many were taken
pub record AreMessages (v : MessageValues) (headers : List MessageHeader) (taken : ℕ) : Type 0 where
  pub sorts : AreSorts v
  pub within : All (IsWithin v) headers
  pub some : taken ≤ length headers

-- a message to a node, of a kind and with some values, stands behind others
pub record Adds (v : MessageValues) (old new : List MessageHeader) (to kind : ℕ) (vs : List Value) : Type 0 where
  pub header : MessageHeader
  pub behind : new ≡ old ++ header ∷ []
  pub is : message_of v header ≡ record { to = to; kind = kind; values = vs }
  pub within : IsWithin v header

-- what was added to the values is a message of a kind with some values, whatever its node
pub record Holds (v : MessageValues) (sort start kind : ℕ) (vs : List Value) : Type 0 where
  pub is : (to : ℕ) → message_of v (record { to = to; sort = sort; start = start }) ≡ record { to = to; kind = kind; values = vs }
  pub within : (to : ℕ) → IsWithin v (record { to = to; sort = sort; start = start })
