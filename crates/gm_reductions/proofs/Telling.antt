-- What tells values by a table does so by one with more variables at its end.
use Rattle.std.proofs.Common.{◌≡◌, ◌<◌, ◌++◌, ℕ, Bool, true, List, [], ◌∷◌, length, refl, ap, ◌∙◌, Option, Some, None}
use Rattle.std.specs.Prelude.{◌&&◌, ◌||◌, nat_lt, nat_le}
use Rattle.std.specs.List.{list_all}
use Rattle.std.proofs.lemmas.Bool.{ltb-true}
use Rattle.gm_value.specs.declared.values.VType.TheVariants as V
use Rattle.gm_value.specs.Operations.{same_type}
use Rattle.gm_ast.specs.declared.tree.Declaration.{Declaration}
use Rattle.gm_ast.specs.declared.tree.Head.{Head}
use Rattle.gm_ast.specs.declared.tree.Search.{Search}
use Rattle.gm_ast.specs.declared.tree.Sort.TheVariants as Sorts
use Rattle.gm_ast.specs.declared.tree.Target.{Target}
use Rattle.gm_ast.specs.declared.tree.Variable.{Variable}
use Rattle.gm_ast.specs.Names.{is}
use Rattle.gm_ast.specs.Program.{Expr, Const, Var, Property, EdgeProperty, Degree, NodeCount, EdgeCount, Live, Unary, Binary, Both, Either, Choose, Folded, Stmt, Skip, Then, Declare, DeclareEdge, Assign, Defer, Combine, Group, Foreach, For, If, While, Do, InBfs, InBfsBoth, Return}
use Rattle.gm_ast.specs.Ways.{is_in}
use Rattle.gm_semantics.specs.Statements.{variable_at}
use Rattle.gm_forms.specs.Uses.{Role, Iterates, Written, Told, Owner, NodeValue, Anything, Use, suits, has_role, use_as, owner_role, uses_of_head, uses_of_search, uses_in, uses_in_all, uses_of_target, uses_of_targets, uses_of}
use Rattle.gm_forms.proofs.Named.{both-true, all-append}
use Rattle.gm_typed_stores.specs.Tells.{TypeTable, holds, takes_nodes, tells, all_tell, tells_in}
use Rattle.gm_desugar.proofs.Longer.{both}

module _ (limit inputs : ℕ) (ds es : List Declaration) (same : (x : ℕ) → x < length ds → variable_at es x ≡ variable_at ds x) where
  abbrev short : TypeTable
  short = record { limit = limit; declarations = ds; inputs = inputs }

  abbrev long : TypeTable
  long = record { limit = limit; declarations = es; inputs = inputs }

  abbrev Suit : List Use → Type 0
  Suit us = list_all (suits ds) us ≡ true

  below : (role : Role) (x : ℕ) → Suit (use_as role x) → x < length ds
  below role x h =
      let s = both-true (suits ds (record { variable = x; role = role })) true h in
      ltb-true x (length ds) (both-true (nat_lt x (length ds)) (has_role (variable_at ds x) role) s.0).0

  holds-longer : (its : List ℕ) (x : ℕ) → x < length ds → holds long its x ≡ holds short its x
  holds-longer its x low = ap (λ v. is Sorts.Scalar v || (nat_le inputs x || is_in its x)) (same x low)

  takes-longer : (x : ℕ) → x < length ds → takes_nodes long x ≡ takes_nodes short x
  takes-longer x low = ap (λ (v : Variable). same_type V.Node v.vtype) (same x low)

  tells-longer : (e : Expr) (its : List ℕ) → Suit (uses_in e) → tells long its e ≡ tells short its e
  tells-longer (Const v) its h = refl
  tells-longer (Var x at) its h = holds-longer its x (below Told x h)
  tells-longer (Property x p at) its h = refl
  tells-longer (EdgeProperty x p at) its h = refl
  tells-longer (Degree d x at) its h = refl
  tells-longer NodeCount its h = refl
  tells-longer EdgeCount its h = refl
  tells-longer (Live x at) its h = refl
  tells-longer (Unary op at e) its h = tells-longer e its h
  tells-longer (Binary op at a b) its h = let r = all-append (suits ds) (uses_in a) (uses_in b) h in both (tells long its a) (tells short its a) (tells long its b) (tells short its b) (tells-longer a its r.0) (tells-longer b its r.1)
  tells-longer (Both a b) its h = let r = all-append (suits ds) (uses_in a) (uses_in b) h in both (tells long its a) (tells short its a) (tells long its b) (tells short its b) (tells-longer a its r.0) (tells-longer b its r.1)
  tells-longer (Either a b) its h = let r = all-append (suits ds) (uses_in a) (uses_in b) h in both (tells long its a) (tells short its a) (tells long its b) (tells short its b) (tells-longer a its r.0) (tells-longer b its r.1)
  tells-longer (Choose c a b) its h =
      let q = all-append (suits ds) (uses_in c) (uses_in a ++ uses_in b) h in
      let r = all-append (suits ds) (uses_in a) (uses_in b) q.1 in
      both (tells long its c) (tells short its c) (tells long its a && tells long its b) (tells short its a && tells short its b) (tells-longer c its q.0)
      (both (tells long its a) (tells short its a) (tells long its b) (tells short its b) (tells-longer a its r.0) (tells-longer b its r.1))
  tells-longer (Folded f head test e) its h =
      let i = head.iterator in
      let q = all-append (suits ds) (uses_of_head head) (uses_in test ++ uses_in e) h in
      let r = all-append (suits ds) (uses_in test) (uses_in e) q.1 in
      let o = all-append (suits ds) (use_as Iterates i) (use_as (owner_role head.domain) head.owner) q.0 in
      both (takes_nodes long i) (takes_nodes short i) (tells long (i ∷ its) test && tells long (i ∷ its) e) (tells short (i ∷ its) test && tells short (i ∷ its) e) (takes-longer i (below Iterates i o.0))
      (both (tells long (i ∷ its) test) (tells short (i ∷ its) test) (tells long (i ∷ its) e) (tells short (i ∷ its) e) (tells-longer test (i ∷ its) r.0) (tells-longer e (i ∷ its) r.1))

  all-longer : (vs : List Expr) (its : List ℕ) → Suit (uses_in_all vs) → all_tell long its vs ≡ all_tell short its vs
  all-longer [] its h = refl
  all-longer (e ∷ vs) its h =
      let r = all-append (suits ds) (uses_in e) (uses_in_all vs) h in
      both (tells long its e) (tells short its e) (all_tell long its vs) (all_tell short its vs) (tells-longer e its r.0) (all-longer vs its r.1)

  -- a loop's or a search's filter and body
  part-longer : (i : ℕ) (its : List ℕ) (test : Expr) (body : Stmt) → i < length ds → Suit (uses_in test) → tells_in long (i ∷ its) body ≡ tells_in short (i ∷ its) body →
      takes_nodes long i && (tells long (i ∷ its) test && tells_in long (i ∷ its) body) ≡ takes_nodes short i && (tells short (i ∷ its) test && tells_in short (i ∷ its) body)
  part-longer i its test body low h e =
      both (takes_nodes long i) (takes_nodes short i) (tells long (i ∷ its) test && tells_in long (i ∷ its) body) (tells short (i ∷ its) test && tells_in short (i ∷ its) body) (takes-longer i low)
      (both (tells long (i ∷ its) test) (tells short (i ∷ its) test) (tells_in long (i ∷ its) body) (tells_in short (i ∷ its) body) (tells-longer test (i ∷ its) h) e)

  range-below : (head : Head) → Suit (uses_of_head head) → head.iterator < length ds
  range-below head h = below Iterates head.iterator (all-append (suits ds) (use_as Iterates head.iterator) (use_as (owner_role head.domain) head.owner) h).0

  search-below : (s : Search) → Suit (uses_of_search s) → s.iterator < length ds
  search-below s h = below Iterates s.iterator (all-append (suits ds) (use_as Iterates s.iterator) (use_as Anything s.graph ++ use_as Owner s.root) h).0

  pub tells_in-longer : (s : Stmt) (its : List ℕ) → Suit (uses_of s) → tells_in long its s ≡ tells_in short its s
  tells_in-longer Skip its h = refl
  tells_in-longer (Then a b) its h =
      let r = all-append (suits ds) (uses_of a) (uses_of b) h in
      both (tells_in long its a) (tells_in short its a) (tells_in long its b) (tells_in short its b) (tells_in-longer a its r.0) (tells_in-longer b its r.1)
  tells_in-longer (Declare k x None) its h = refl
  tells_in-longer (Declare k x (Some e)) its h = tells-longer e its (all-append (suits ds) (use_as Written x) (uses_in e) h).1
  tells_in-longer (DeclareEdge x y at) its h = refl
  tells_in-longer (Assign k t e) its h = tells-longer e its (all-append (suits ds) (uses_of_target t) (uses_in e) h).1
  tells_in-longer (Defer k t e) its h = tells-longer e its (all-append (suits ds) (uses_of_target t) (uses_in e) h).1
  tells_in-longer (Combine k total r ts vs) its h = all-longer vs its (all-append (suits ds) (uses_of_targets ts) (uses_in_all vs) h).1
  tells_in-longer (Group k at g p e) its h =
      let q = all-append (suits ds) (use_as Iterates g) (use_as NodeValue p ++ uses_in e) h in
      let r = all-append (suits ds) (use_as NodeValue p) (uses_in e) q.1 in
      both (takes_nodes long g) (takes_nodes short g) (tells long (g ∷ its) e) (tells short (g ∷ its) e) (takes-longer g (below Iterates g q.0)) (tells-longer e (g ∷ its) r.1)
  tells_in-longer (Foreach k at head test body) its h =
      let q = all-append (suits ds) (uses_of_head head) (uses_in test ++ uses_of body) h in
      let r = all-append (suits ds) (uses_in test) (uses_of body) q.1 in
      part-longer head.iterator its test body (range-below head q.0) r.0 (tells_in-longer body (head.iterator ∷ its) r.1)
  tells_in-longer (For k at head test body) its h =
      let q = all-append (suits ds) (uses_of_head head) (uses_in test ++ uses_of body) h in
      let r = all-append (suits ds) (uses_in test) (uses_of body) q.1 in
      part-longer head.iterator its test body (range-below head q.0) r.0 (tells_in-longer body (head.iterator ∷ its) r.1)
  tells_in-longer (If k c a b) its h =
      let q = all-append (suits ds) (uses_in c) (uses_of a ++ uses_of b) h in
      let r = all-append (suits ds) (uses_of a) (uses_of b) q.1 in
      both (tells long its c) (tells short its c) (tells_in long its a && tells_in long its b) (tells_in short its a && tells_in short its b) (tells-longer c its q.0)
      (both (tells_in long its a) (tells_in short its a) (tells_in long its b) (tells_in short its b) (tells_in-longer a its r.0) (tells_in-longer b its r.1))
  tells_in-longer (While k at c body) its h =
      let r = all-append (suits ds) (uses_in c) (uses_of body) h in
      both (tells long its c) (tells short its c) (tells_in long its body) (tells_in short its body) (tells-longer c its r.0) (tells_in-longer body its r.1)
  tells_in-longer (Do k at body c) its h =
      let r = all-append (suits ds) (uses_of body) (uses_in c) h in
      both (tells_in long its body) (tells_in short its body) (tells long its c) (tells short its c) (tells_in-longer body its r.0) (tells-longer c its r.1)
  tells_in-longer (InBfs k at search test body) its h =
      let q = all-append (suits ds) (uses_of_search search) (uses_in test ++ uses_of body) h in
      let r = all-append (suits ds) (uses_in test) (uses_of body) q.1 in
      part-longer search.iterator its test body (search-below search q.0) r.0 (tells_in-longer body (search.iterator ∷ its) r.1)
  tells_in-longer (InBfsBoth k at search test body back_key back_test back) its h =
      let i = search.iterator in
      let q = all-append (suits ds) (uses_of_search search) (uses_in test ++ (uses_of body ++ (uses_in back_test ++ uses_of back))) h in
      let r = all-append (suits ds) (uses_in test) (uses_of body ++ (uses_in back_test ++ uses_of back)) q.1 in
      let o = all-append (suits ds) (uses_of body) (uses_in back_test ++ uses_of back) r.1 in
      let m = all-append (suits ds) (uses_in back_test) (uses_of back) o.1 in
      let back_long = tells long (i ∷ its) back_test && tells_in long (i ∷ its) back in
      let back_short = tells short (i ∷ its) back_test && tells_in short (i ∷ its) back in
      both (takes_nodes long i) (takes_nodes short i) (tells long (i ∷ its) test && (tells_in long (i ∷ its) body && back_long)) (tells short (i ∷ its) test && (tells_in short (i ∷ its) body && back_short)) (takes-longer i (search-below search q.0))
      (both (tells long (i ∷ its) test) (tells short (i ∷ its) test) (tells_in long (i ∷ its) body && back_long) (tells_in short (i ∷ its) body && back_short) (tells-longer test (i ∷ its) r.0)
      (both (tells_in long (i ∷ its) body) (tells_in short (i ∷ its) body) back_long back_short (tells_in-longer body (i ∷ its) o.0)
      (both (tells long (i ∷ its) back_test) (tells short (i ∷ its) back_test) (tells_in long (i ∷ its) back) (tells_in short (i ∷ its) back) (tells-longer back_test (i ∷ its) m.0) (tells_in-longer back (i ∷ its) m.1))))
  tells_in-longer (Return k at None) its h = refl
  tells_in-longer (Return k at (Some e)) its h = tells-longer e its h
