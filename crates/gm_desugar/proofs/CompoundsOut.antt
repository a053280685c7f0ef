-- A program without compound assignments means the same, and keeps what every pass keeps.
use Rattle.std.proofs.Common.{◌≡◌, ℕ, Option, Bool, true, false, cond, List, refl, ap}
use Rattle.std.specs.Prelude.{◌&&◌, ◌||◌, not}
use Rattle.gm_value.specs.declared.values.VType.{VType}
use Rattle.gm_value.specs.declared.values.VType.TheVariants.{Flag}
use Rattle.gm_ast.specs.declared.tree.Declaration.{Declaration}
use Rattle.gm_ast.specs.Program.{Stmt, Then, Combine, Foreach, For, If, While, Do, InBfs, InBfsBoth, Program}
use Rattle.gm_forms.specs.Meanings.{SameMeaning}
use Rattle.gm_forms.specs.Sharing.{are_at_once}
use Rattle.gm_forms.specs.Typing.{has_type, keeps_tuples, is_typed_in}
use Rattle.gm_forms.proofs.Named.{both-true}
use Rattle.gm_forms.proofs.Weaker.{and-true}
use Rattle.gm_desugar.specs.Groups.{has_no_groups}
use Rattle.gm_desugar.specs.Compounds.{assignment_of, expanded_in, expanded, without_compounds, has_no_compounds_in, has_no_compounds}
use Rattle.gm_desugar.specs.Stages.{WithoutGroups, WithoutCompounds}
use Rattle.gm_desugar.proofs.CompoundsKept.{body-assignment, phase-assignment, groups-assignment, compounds-assignment, compounds-in-assignment}
use Rattle.gm_desugar.proofs.Replacing.{expr-same, ForBody, ForPhase, body-same, body-then, body-if, body-foreach, phase-same, phase-then, phase-foreach, phase-for, phase-if, phase-while, phase-do, phase-search, phase-search-both, means-same, ready-same}

module _ (ds : List Declaration) where
  -- a body in its place
  for-body : (n : ℕ) (inner : Bool) (s : Stmt) → ForBody ds n inner s (expanded_in ds n inner s)
  for-body n inner (Then a b) = body-then ds n inner a (expanded_in ds n inner a) b (expanded_in ds n inner b) (for-body n inner a) (for-body n inner b)
  for-body n inner (Combine k total r ts es) = by (are_at_once ds n inner ts) refl
    where
      by : (b : Bool) → are_at_once ds n inner ts ≡ b → ForBody ds n inner (Combine k total r ts es) (cond b (assignment_of k total r ts es) (Combine k total r ts es))
      by true once = body-assignment ds n inner k total r ts es once
      by false once = body-same ds n inner (Combine k total r ts es)
  for-body n inner (If k c a b) = body-if ds n inner k c c a (expanded_in ds n inner a) b (expanded_in ds n inner b) (expr-same ds c) (for-body n inner a) (for-body n inner b)
  for-body n inner (Foreach k at h c body) = body-foreach ds n inner k at h c c body (expanded_in ds n true body) (expr-same ds c) (for-body n true body)
  for-body n inner s = body-same ds n inner s

  -- a sequential phase in its place
  for-phase : (res : Option VType) (s : Stmt) → ForPhase ds res s (expanded ds s)
  for-phase res (Then a b) = phase-then ds res a (expanded ds a) b (expanded ds b) (for-phase res a) (for-phase res b)
  for-phase res (Combine k total r ts es) = phase-assignment ds res k total r ts es
  for-phase res (Foreach k at h c body) = phase-foreach ds res k at h c c body (expanded_in ds h.iterator false body) (expr-same ds c) (for-body h.iterator false body)
  for-phase res (For k at h c s) = phase-for ds res k at h c c s (expanded ds s) (expr-same ds c) (for-phase res s)
  for-phase res (If k c a b) = phase-if ds res k c c a (expanded ds a) b (expanded ds b) (expr-same ds c) (for-phase res a) (for-phase res b)
  for-phase res (While k at c s) = phase-while ds res k at c c s (expanded ds s) (expr-same ds c) (for-phase res s)
  for-phase res (Do k at s c) = phase-do ds res k at c c s (expanded ds s) (expr-same ds c) (for-phase res s)
  for-phase res (InBfs k at h c body) = phase-search ds res k at h c c body (expanded_in ds h.iterator false body) (expr-same ds c) (for-body h.iterator false body)
  for-phase res (InBfsBoth k at h c body back_key d back) =
      phase-search-both ds res k at h c c body (expanded_in ds h.iterator false body) back_key d d back (expanded_in ds h.iterator false back) (expr-same ds c) (for-body h.iterator false body) (expr-same ds d) (for-body h.iterator false back)
  for-phase res s = phase-same ds res s

  groups-kept : (s : Stmt) → has_no_groups s ≡ true → has_no_groups (expanded ds s) ≡ true
  groups-kept (Then a b) h = let q = both-true (has_no_groups a) (has_no_groups b) h in and-true (has_no_groups (expanded ds a)) (has_no_groups (expanded ds b)) (groups-kept a q.0) (groups-kept b q.1)
  groups-kept (Combine k total r ts es) h = groups-assignment ds k total r ts es
  groups-kept (For k at hd test body) h = groups-kept body h
  groups-kept (If k c a b) h = let q = both-true (has_no_groups a) (has_no_groups b) h in and-true (has_no_groups (expanded ds a)) (has_no_groups (expanded ds b)) (groups-kept a q.0) (groups-kept b q.1)
  groups-kept (While k at c body) h = groups-kept body h
  groups-kept (Do k at body c) h = groups-kept body h
  groups-kept s h = h

  no-compounds-in : (res : Option VType) (n : ℕ) (inner : Bool) (s : Stmt) → is_typed_in ds res s ≡ true → has_no_compounds_in ds n inner (expanded_in ds n inner s) ≡ true
  no-compounds-in res n inner (Then a b) h = let q = both-true (is_typed_in ds res a) (is_typed_in ds res b) h in and-true (has_no_compounds_in ds n inner (expanded_in ds n inner a)) (has_no_compounds_in ds n inner (expanded_in ds n inner b)) (no-compounds-in res n inner a q.0) (no-compounds-in res n inner b q.1)
  no-compounds-in res n inner (Combine k total r ts es) h = by (are_at_once ds n inner ts) refl
    where
      by : (b : Bool) → are_at_once ds n inner ts ≡ b → has_no_compounds_in ds n inner (cond b (assignment_of k total r ts es) (Combine k total r ts es)) ≡ true
      by true once = compounds-in-assignment ds res n inner k total r ts es h
      by false once = ap (λ c. not c || keeps_tuples r) once
  no-compounds-in res n inner (Foreach k at hd test body) h = let q = both-true (has_type ds Flag test) (is_typed_in ds res body) h in no-compounds-in res n true body q.1
  no-compounds-in res n inner (If k c a b) h = let q = both-true (has_type ds Flag c) (is_typed_in ds res a && is_typed_in ds res b) h in let u = both-true (is_typed_in ds res a) (is_typed_in ds res b) q.1 in and-true (has_no_compounds_in ds n inner (expanded_in ds n inner a)) (has_no_compounds_in ds n inner (expanded_in ds n inner b)) (no-compounds-in res n inner a u.0) (no-compounds-in res n inner b u.1)
  no-compounds-in res n inner s h = refl

  no-compounds : (res : Option VType) (s : Stmt) → is_typed_in ds res s ≡ true → has_no_compounds ds (expanded ds s) ≡ true
  no-compounds res (Then a b) h = let q = both-true (is_typed_in ds res a) (is_typed_in ds res b) h in and-true (has_no_compounds ds (expanded ds a)) (has_no_compounds ds (expanded ds b)) (no-compounds res a q.0) (no-compounds res b q.1)
  no-compounds res (Combine k total r ts es) h = compounds-assignment ds res k total r ts es h
  no-compounds res (Foreach k at hd test body) h = let q = both-true (has_type ds Flag test) (is_typed_in ds res body) h in no-compounds-in res hd.iterator false body q.1
  no-compounds res (For k at hd test body) h = let q = both-true (has_type ds Flag test) (is_typed_in ds res body) h in no-compounds res body q.1
  no-compounds res (If k c a b) h = let q = both-true (has_type ds Flag c) (is_typed_in ds res a && is_typed_in ds res b) h in let u = both-true (is_typed_in ds res a) (is_typed_in ds res b) q.1 in and-true (has_no_compounds ds (expanded ds a)) (has_no_compounds ds (expanded ds b)) (no-compounds res a u.0) (no-compounds res b u.1)
  no-compounds res (While k at c body) h = let q = both-true (has_type ds Flag c) (is_typed_in ds res body) h in no-compounds res body q.1
  no-compounds res (Do k at body c) h = let q = both-true (is_typed_in ds res body) (has_type ds Flag c) h in no-compounds res body q.0
  no-compounds res (InBfs k at hd test body) h = let q = both-true (has_type ds Flag test) (is_typed_in ds res body) h in no-compounds-in res hd.iterator false body q.1
  no-compounds res (InBfsBoth k at hd test body bk bt back) h = let q = both-true (has_type ds Flag test) (is_typed_in ds res body && (has_type ds Flag bt && is_typed_in ds res back)) h in let u = both-true (is_typed_in ds res body) (has_type ds Flag bt && is_typed_in ds res back) q.1 in let v = both-true (has_type ds Flag bt) (is_typed_in ds res back) u.1 in and-true (has_no_compounds_in ds hd.iterator false (expanded_in ds hd.iterator false body)) (has_no_compounds_in ds hd.iterator false (expanded_in ds hd.iterator false back)) (no-compounds-in res hd.iterator false body u.0) (no-compounds-in res hd.iterator false back v.1)
  no-compounds res s h = refl

pub same-without_compounds : (p : Program) → SameMeaning p (without_compounds p)
same-without_compounds p = means-same p (expanded p.declarations p.body) (for-phase p.declarations p.result p.body)

pub kept : (p : Program) → WithoutGroups p → WithoutCompounds (without_compounds p)
kept p r = record {
  without_groups = record {
    ready = ready-same p (expanded p.declarations p.body) (for-phase p.declarations p.result p.body) r.ready;
    no_groups = groups-kept p.declarations p.body r.no_groups;
  };
  no_compounds = no-compounds p.declarations p.result p.body r.ready.sane.typed;
}
