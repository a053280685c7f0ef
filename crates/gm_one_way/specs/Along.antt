-- What the reductions of an inner loop rest on, and whether the reads of an edge among that stand with the way of their messages.
use Rattle.std.specs.Prelude.{◌≡◌, ℕ, Bool, true, false, ◌&&◌, ◌||◌, not, List, [], ◌∷◌, flat_map, Some, None}
use Rattle.std.specs.List.{list_all, list_any}
use Rattle.gm_base.specs.declared.places.Place.{Place}
use Rattle.gm_ast.specs.declared.tree.Declaration.{Declaration}
use Rattle.gm_ast.specs.declared.tree.Head.{Head}
use Rattle.gm_ast.specs.declared.tree.Key.{Key}
use Rattle.gm_ast.specs.declared.tree.Target.{Target}
use Rattle.gm_ast.specs.Loops.{any}
use Rattle.gm_ast.specs.Program.{Expr, Stmt, Skip, Then, Declare, Assign, Combine, Foreach, For, If, While, Do, InBfs, InBfsBoth, Program}
use Rattle.gm_ast.specs.Ways.{Mention, Alone, Through, OfEdge, mentions, reads_through, is_edge_read, owner_of, way_by, is_against}
use Rattle.gm_forms.specs.Sharing.{are_at_once, written_by, written_at_once}
use Rattle.gm_cut.specs.Parts.{each_passes}
use Rattle.gm_cut.specs.Slices.{statements_of, goes_one_way}

-- whether a mention is of a variable that is marked, for what it holds
abbrev pub holds_marked : (ℕ → Bool) → Mention → Bool
holds_marked marked (Alone x) = marked x
holds_marked marked (Through x) = marked x
holds_marked marked (OfEdge x at) = false

-- reads: which mentions count; marked: the variables whose values rest on one
module _ (ds : List Declaration) (n : ℕ) (reads : Mention → Bool) (marked : ℕ → Bool) where
  -- whether a mention counts, or is of such a variable
  abbrev pub tells : Mention → Bool
  tells m = reads m || holds_marked marked m

  -- whether an expression has such a mention
  abbrev pub told_of : Expr → Bool
  told_of e = any tells (mentions e)

  -- whether all of some variables are marked, where they must be
  abbrev pub are_marked : Bool → List ℕ → Bool
  are_marked told xs = not told || list_all marked xs

  -- whether each variable is marked that an inner body sets by what tells, or under a condition that does; what is reduced together at once is compared with one another. told: whether a condition around does
  abbrev pub marks : Bool → Stmt → Bool
  marks told (Then a b) = marks told a && marks told b
  marks told (Declare k x None) = are_marked told (x ∷ [])
  marks told (Declare k x (Some e)) = are_marked (told || told_of e) (x ∷ [])
  marks told (Assign k t e) = are_marked (told || told_of e) (written_by t)
  marks told (Combine k total r ts es) =
      let xs = written_at_once ds n true ts in are_marked (told || (list_any marked xs || list_any told_of es)) xs
  marks told (If k c a b) = marks (told || told_of c) a && marks (told || told_of c) b
  marks told _ = true

-- h: the inner loop; edges, ends: the variables that rest on reads of an edge, and on reads of properties and degrees at the inner node
module _ (ds : List Declaration) (n : ℕ) (h : Head) (edges ends : ℕ → Bool) where
  -- whether a reduction to targets reads no edge against the way of its message, where it rests on such reads or not
  abbrev pub stands : List Target → Bool → Bool → Bool
  stands ts end edge = not (edge && is_against h.domain (way_by h ts end edge))

  -- whether its own parts tell of one
  abbrev pub parts_tell : (Mention → Bool) → (ℕ → Bool) → List Target → List Expr → Bool
  parts_tell reads marked ts es = any (tells ds n reads marked) (flat_map owner_of ts) || list_any (told_of ds n reads marked) es

  -- whether each reduction of an inner body that ends with the loop does. end, edge: whether the filter or a condition around tells
  abbrev pub goes_along : Bool → Bool → Stmt → Bool
  goes_along end edge (Then a b) = goes_along end edge a && goes_along end edge b
  goes_along end edge (Combine k total r ts es) =
      are_at_once ds n true ts || stands ts (end || parts_tell (reads_through h.iterator) ends ts es) (edge || parts_tell is_edge_read edges ts es)
  goes_along end edge (If k c a b) =
      let f = end || told_of ds n (reads_through h.iterator) ends c in
      let e = edge || told_of ds n is_edge_read edges c in
      goes_along f e a && goes_along f e b
  goes_along end edge _ = true

-- an inner loop, each of whose reductions reads no edge against the way of its message
pub record GoesAlong (ds : List Declaration) (n : ℕ) (h : Head) (test : Expr) (body : Stmt) : Type 0 where
  pub edges : ℕ → Bool
  pub ends : ℕ → Bool
  pub edges_marked : marks ds n is_edge_read edges false body ≡ true
  pub ends_marked : marks ds n (reads_through h.iterator) ends false body ≡ true
  pub along : goes_along ds n h edges ends (any (reads_through h.iterator) (mentions test)) (any is_edge_read (mentions test)) body ≡ true

-- each inner loop of an outer body is one
abbrev pub AllAlong : List Declaration → ℕ → Stmt → Type 0
AllAlong ds n (Then a b) = AllAlong ds n a × AllAlong ds n b
AllAlong ds n (If k c a b) = AllAlong ds n a × AllAlong ds n b
AllAlong ds n (Foreach k at h test body) = GoesAlong ds n h test body
AllAlong ds n _ = Unit {0}

-- each of the loops and searches of a sequential phase is
abbrev pub EachAlong : List Declaration → Stmt → Type 0
EachAlong ds (Then a b) = EachAlong ds a × EachAlong ds b
EachAlong ds (Foreach k at h test body) = AllAlong ds h.iterator body
EachAlong ds (For k at h test body) = EachAlong ds body
EachAlong ds (If k c a b) = EachAlong ds a × EachAlong ds b
EachAlong ds (While k at c body) = EachAlong ds body
EachAlong ds (Do k at body c) = EachAlong ds body
EachAlong ds (InBfs k at s test body) = AllAlong ds s.iterator body
EachAlong ds (InBfsBoth k at s test body back_key back_test back) = AllAlong ds s.iterator body × AllAlong ds s.iterator back
EachAlong ds _ = Unit {0}

-- each inner loop of a program is
abbrev pub ReadsAlong : Program → Type 0
ReadsAlong p = EachAlong p.declarations p.body

-- ---- where each statement stands alone

-- whether a part of an inner body is one statement, under conditions one within another
abbrev pub is_lone : Stmt → Bool
is_lone (Then a Skip) = is_lone a
is_lone (Then a b) = false
is_lone (If k c a Skip) = is_lone a
is_lone (If k c a b) = false
is_lone s = true

-- whether a loop is no inner loop alone, or one that goes one way, or one whose statements stand alone
abbrev pub statements_alone : List Declaration → Key → Place → Head → Expr → Stmt → Bool
statements_alone ds k at h mask (Foreach j here inner test body) = goes_one_way ds h.iterator inner test body || list_all is_lone (statements_of body)
statements_alone ds k at h mask body = true

abbrev pub has_statements_alone : Program → Bool
has_statements_alone p = each_passes (statements_alone p.declarations) p.body
