-- What the code has seen of some items.
use Rattle.std.specs.Prelude.{◌≡◌, ℕ, nat_eq, List, length, filter}
use Rattle.std.specs.List.{list_any}
use Rattle.std.specs.Str.{bytes_eq}
use Rattle.std.specs.HashSet.{contains}
use Rattle.std.specs.Borrow.{Bor}
use Rattle.gm_image.specs.Program as P
use Rattle.gm_image.specs.Names.{is_at, is_of_edges}
use Rattle.gm_verify.specs.declared.items.Seen.{Seen}

-- names, slots and edges that were seen are those of some items
pub record Shows (s : Seen) (before : List P.Item) : Type 0 where
  pub names : (n : Bor (List ℕ)) → contains (λ x y. bytes_eq x.now y.now) s.names n ≡ list_any (λ j. bytes_eq j.name n.now) before
  pub globals : (k : ℕ) → contains nat_eq s.globals k ≡ list_any (is_at P.Scalar k) before
  pub fields : (k : ℕ) → contains nat_eq s.fields k ≡ list_any (is_at P.Node k) before
  pub columns : (k : ℕ) → contains nat_eq s.columns k ≡ list_any (is_at P.Edge k) before
  pub edges : s.edges ≡ length (filter is_of_edges before)
