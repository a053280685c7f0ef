-- Depths within a limit, part by part, and within greater ones.
use Rattle.std.proofs.Common.{◌≡◌, ◌≤◌, ℕ, true, List, [], ◌∷◌, refl, arith, Option, Some, None}
use Rattle.std.specs.Prelude.{◌&&◌}
use Rattle.std.specs.Cmp.Derive.{both_true}
use Rattle.std.proofs.lemmas.Bool.{leb-true, le-leb, and_parts}
use Rattle.gm_ast.specs.Program.{Expr, Stmt, Skip, Then, Declare, DeclareEdge, Assign, Defer, Combine, Group, Foreach, For, If, While, Do, InBfs, InBfsBoth, Return, Program}
use Rattle.gm_depth.specs.Depths.{depth, is_within, may_be_within, are_within, all_within, text_levels, is_shallow_text, is_shallow}

-- an expression has no more levels than a limit
abbrev pub Within : ℕ → Expr → Type 0
Within n e = depth e ≤ n

-- nor has one that may be absent, or each of several
abbrev pub MayBeWithin : ℕ → Option Expr → Type 0
MayBeWithin n None = Unit {0}
MayBeWithin n (Some e) = Within n e

abbrev pub AreWithin : ℕ → List Expr → Type 0
AreWithin n [] = Unit {0}
AreWithin n (e ∷ es) = Within n e × AreWithin n es

-- nor has any of a statement
abbrev pub AllWithin : ℕ → Stmt → Type 0
AllWithin n Skip = Unit {0}
AllWithin n (Then a b) = AllWithin n a × AllWithin n b
AllWithin n (Declare k x e) = MayBeWithin n e
AllWithin n (DeclareEdge x y at) = Unit {0}
AllWithin n (Assign k t e) = Within n e
AllWithin n (Defer k t e) = Within n e
AllWithin n (Combine k total r ts es) = AreWithin n es
AllWithin n (Group k at g p e) = Within n e
AllWithin n (Foreach k at h test body) = Within n test × AllWithin n body
AllWithin n (For k at h test body) = Within n test × AllWithin n body
AllWithin n (If k test a b) = Within n test × (AllWithin n a × AllWithin n b)
AllWithin n (While k at test body) = Within n test × AllWithin n body
AllWithin n (Do k at body test) = AllWithin n body × Within n test
AllWithin n (InBfs k at s test body) = Within n test × AllWithin n body
AllWithin n (InBfsBoth k at s test body back_key back_test back) = Within n test × (AllWithin n body × (Within n back_test × AllWithin n back))
AllWithin n (Return k at e) = MayBeWithin n e

-- ---- the test says so

module _ (n : ℕ) where
  within : (e : Expr) → is_within n e ≡ true → Within n e
  within e h = leb-true (depth e) n h

  is-within : (e : Expr) → Within n e → is_within n e ≡ true
  is-within e h = le-leb (depth e) n h

  may-be : (o : Option Expr) → may_be_within n o ≡ true → MayBeWithin n o
  may-be None h = tt
  may-be (Some e) h = within e h

  is-may-be : (o : Option Expr) → MayBeWithin n o → may_be_within n o ≡ true
  is-may-be None h = refl
  is-may-be (Some e) h = is-within e h

  each : (es : List Expr) → are_within n es ≡ true → AreWithin n es
  each [] h = tt
  each (e ∷ es) h = let g = and_parts (is_within n e) (are_within n es) h in (within e g.0, each es g.1)

  are-each : (es : List Expr) → AreWithin n es → are_within n es ≡ true
  are-each [] h = refl
  are-each (e ∷ es) h = both_true (is-within e h.0) (are-each es h.1)

  pub parts : (s : Stmt) → all_within n s ≡ true → AllWithin n s
  parts Skip h = tt
  parts (Then a b) h = let g = and_parts (all_within n a) (all_within n b) h in (parts a g.0, parts b g.1)
  parts (Declare k x e) h = may-be e h
  parts (DeclareEdge x y at) h = tt
  parts (Assign k t e) h = within e h
  parts (Defer k t e) h = within e h
  parts (Combine k total r ts es) h = each es h
  parts (Group k at g p e) h = within e h
  parts (Foreach k at s test body) h = let g = and_parts (is_within n test) (all_within n body) h in (within test g.0, parts body g.1)
  parts (For k at s test body) h = let g = and_parts (is_within n test) (all_within n body) h in (within test g.0, parts body g.1)
  parts (If k test a b) h =
      let g = and_parts (is_within n test) (all_within n a && all_within n b) h in
      let l = and_parts (all_within n a) (all_within n b) g.1 in (within test g.0, (parts a l.0, parts b l.1))
  parts (While k at test body) h = let g = and_parts (is_within n test) (all_within n body) h in (within test g.0, parts body g.1)
  parts (Do k at body test) h = let g = and_parts (all_within n body) (is_within n test) h in (parts body g.0, within test g.1)
  parts (InBfs k at s test body) h = let g = and_parts (is_within n test) (all_within n body) h in (within test g.0, parts body g.1)
  parts (InBfsBoth k at s test body back_key back_test back) h =
      let g = and_parts (is_within n test) (all_within n body && (is_within n back_test && all_within n back)) h in
      let l = and_parts (all_within n body) (is_within n back_test && all_within n back) g.1 in
      let m = and_parts (is_within n back_test) (all_within n back) l.1 in (within test g.0, (parts body l.0, (within back_test m.0, parts back m.1)))
  parts (Return k at e) h = may-be e h

  pub whole : (s : Stmt) → AllWithin n s → all_within n s ≡ true
  whole Skip h = refl
  whole (Then a b) h = both_true (whole a h.0) (whole b h.1)
  whole (Declare k x e) h = is-may-be e h
  whole (DeclareEdge x y at) h = refl
  whole (Assign k t e) h = is-within e h
  whole (Defer k t e) h = is-within e h
  whole (Combine k total r ts es) h = are-each es h
  whole (Group k at g p e) h = is-within e h
  whole (Foreach k at s test body) h = both_true (is-within test h.0) (whole body h.1)
  whole (For k at s test body) h = both_true (is-within test h.0) (whole body h.1)
  whole (If k test a b) h = both_true (is-within test h.0) (both_true (whole a h.1.0) (whole b h.1.1))
  whole (While k at test body) h = both_true (is-within test h.0) (whole body h.1)
  whole (Do k at body test) h = both_true (whole body h.0) (is-within test h.1)
  whole (InBfs k at s test body) h = both_true (is-within test h.0) (whole body h.1)
  whole (InBfsBoth k at s test body back_key back_test back) h =
      both_true (is-within test h.0) (both_true (whole body h.1.0) (both_true (is-within back_test h.1.1.0) (whole back h.1.1.1)))
  whole (Return k at e) h = is-may-be e h

-- ---- greater limits

module _ (m n : ℕ) (more : m ≤ n) where
  pub longer-one : (e : Expr) → Within m e → Within n e
  longer-one e h = omega arith

  longer-may-be : (o : Option Expr) → MayBeWithin m o → MayBeWithin n o
  longer-may-be None h = tt
  longer-may-be (Some e) h = longer-one e h

  pub longer-each : (es : List Expr) → AreWithin m es → AreWithin n es
  longer-each [] h = tt
  longer-each (e ∷ es) h = (longer-one e h.0, longer-each es h.1)

  pub longer : (s : Stmt) → AllWithin m s → AllWithin n s
  longer Skip h = tt
  longer (Then a b) h = (longer a h.0, longer b h.1)
  longer (Declare k x e) h = longer-may-be e h
  longer (DeclareEdge x y at) h = tt
  longer (Assign k t e) h = longer-one e h
  longer (Defer k t e) h = longer-one e h
  longer (Combine k total r ts es) h = longer-each es h
  longer (Group k at g p e) h = longer-one e h
  longer (Foreach k at s test body) h = (longer-one test h.0, longer body h.1)
  longer (For k at s test body) h = (longer-one test h.0, longer body h.1)
  longer (If k test a b) h = (longer-one test h.0, (longer a h.1.0, longer b h.1.1))
  longer (While k at test body) h = (longer-one test h.0, longer body h.1)
  longer (Do k at body test) h = (longer body h.0, longer-one test h.1)
  longer (InBfs k at s test body) h = (longer-one test h.0, longer body h.1)
  longer (InBfsBoth k at s test body back_key back_test back) h = (longer-one test h.0, (longer body h.1.0, (longer-one back_test h.1.1.0, longer back h.1.1.1)))
  longer (Return k at e) h = longer-may-be e h

-- a program with no more levels than texts give is within the limit of images
pub text-shallow : (p : Program) → is_shallow_text p ≡ true → is_shallow p ≡ true
text-shallow p h = whole 512 p.body (longer text_levels 512 (omega arith) p.body (parts text_levels p.body h))
