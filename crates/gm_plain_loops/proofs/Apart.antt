-- Loops that share what ends with them alone give apart.
use Rattle.std.proofs.Common.{◌≡◌, ℕ, Bool, true, false, Option, List, [], ◌∷◌, ◌++◌, map, refl, ap, ◌∙◌, sym}
use Rattle.std.specs.Prelude.{◌&&◌, ◌||◌, not, nat_eq, nat_lt, if◌then◌else◌}
use Rattle.std.specs.List.{list_all, list_any}
use Rattle.std.proofs.lemmas.Bool.{both_ways, and_from, eqb-true, eq-eqb}
use Rattle.gm_value.specs.declared.reductions.Reduce.{Reduce}
use Rattle.gm_value.specs.declared.values.VType.{VType}
use Rattle.gm_value.specs.declared.values.VType.TheVariants as V
use Rattle.gm_ast.specs.declared.tree.Declaration.{Declaration}
use Rattle.gm_ast.specs.declared.tree.Target.{Target}
use Rattle.gm_ast.specs.declared.tree.Target.TheVariants as T
use Rattle.gm_ast.specs.declared.tree.TotalKey.{TotalKey}
use Rattle.gm_ast.specs.Program as S
use Rattle.gm_ast.specs.Program.{Stmt, Program}
use Rattle.gm_forms.proofs.Named.{both-true}
use Rattle.gm_forms.specs.Forms.{depth_at}
use Rattle.gm_forms.specs.Sharing.{are_at_once, is_owned, variables_of, written_by, variables_where, Reduced, reduced_by, reduced, disjoint, does_same, agrees, all_agree, is_one, all_one, are_alike, are_distinct, is_through, targets_alike}
use Rattle.gm_forms.specs.Sharing as sharing
use Rattle.gm_forms.specs.Typing.{all_have_types, fits_targets, has_type, is_typed_in}
use Rattle.gm_forms.specs.Uses.{Written, use_as, uses_in, uses_in_all, uses_of_targets, uses_of}
use Rattle.gm_semantics.specs.Statements.{variable_at}
use Rattle.gm_lowering.specs.Layouts.{is_global, is_scalar_of}
use Rattle.gm_lowering.specs.Made.{Made, made, goes_with, all_go, gives_apart}
use Rattle.gm_lowering.specs.OwnLoops.{are_any}
use Rattle.gm_plain_loops.specs.Tests.{asks_inside, end_together, total_follows, suits_body, goes_well}
use Rattle.gm_plain_loops.proofs.Names.{Fine, split, or-split}
use Rattle.gm_plain_loops.proofs.Bodies.{none-global, deep, OffGlobals}

-- a reduction that ends with a loop
pub record Ending : Type 0 where
  pub total : TotalKey
  pub reduce : Reduce
  pub targets : List Target

abbrev pub endings : List Declaration → ℕ → Bool → Stmt → List Ending
endings ds n inner (S.Then a b) = endings ds n inner a ++ endings ds n inner b
endings ds n inner (S.Combine k total r ts es) = if are_at_once ds n inner ts then [] else record { total = total; reduce = r; targets = ts } ∷ []
endings ds n inner (S.If k e a b) = endings ds n inner a ++ endings ds n inner b
endings ds n inner (S.Foreach k at h test body) = endings ds n true body
endings ds n inner _ = []

abbrev pub to_reduced : List Declaration → ℕ → Ending → Reduced
to_reduced ds n e = reduced_by ds n e.total.key.statement e.reduce e.targets

abbrev pub to_made : Ending → Made
to_made e = record { total = e.total; reduce = e.reduce; variables = variables_of e.targets }

map-join : {A B : Type 0} (f : A → B) (xs ys : List A) → map f (xs ++ ys) ≡ map f xs ++ map f ys
map-join f [] ys = refl
map-join f (x ∷ xs) ys = ap (λ l. f x ∷ l) (map-join f xs ys)

two-lists : {A : Type 0} (a b x y : List A) → a ≡ x → b ≡ y → a ++ b ≡ x ++ y
two-lists a b x y e f = ap (λ l. l ++ b) e ∙ ap (λ l. x ++ l) f

reduced-are : (ds : List Declaration) (n : ℕ) (inner : Bool) (st : Stmt) → reduced ds n inner st ≡ map (to_reduced ds n) (endings ds n inner st)
reduced-are ds n inner (S.Then a b) =
    two-lists (reduced ds n inner a) (reduced ds n inner b) _ _ (reduced-are ds n inner a) (reduced-are ds n inner b) ∙ sym (map-join (to_reduced ds n) (endings ds n inner a) (endings ds n inner b))
reduced-are ds n inner (S.Combine k total r ts es) = by (are_at_once ds n inner ts) where
  by : (b : Bool) → (if b then [] else reduced_by ds n total.key.statement r ts ∷ []) ≡ map (to_reduced ds n) (if b then [] else record { total = total; reduce = r; targets = ts } ∷ [])
  by true = refl
  by false = refl
reduced-are ds n inner (S.If k e a b) =
    two-lists (reduced ds n inner a) (reduced ds n inner b) _ _ (reduced-are ds n inner a) (reduced-are ds n inner b) ∙ sym (map-join (to_reduced ds n) (endings ds n inner a) (endings ds n inner b))
reduced-are ds n inner (S.Foreach k at h test body) = reduced-are ds n true body
reduced-are ds n inner S.Skip = refl
reduced-are ds n inner (S.Declare k x e) = refl
reduced-are ds n inner (S.DeclareEdge x z at) = refl
reduced-are ds n inner (S.Assign k t e) = refl
reduced-are ds n inner (S.Defer k t e) = refl
reduced-are ds n inner (S.Group k at g q e) = refl
reduced-are ds n inner (S.For k at hd test body) = refl
reduced-are ds n inner (S.While k at e body) = refl
reduced-are ds n inner (S.Do k at body e) = refl
reduced-are ds n inner (S.InBfs k at s test body) = refl
reduced-are ds n inner (S.InBfsBoth k at s test body bk bt back) = refl
reduced-are ds n inner (S.Return k at e) = refl

made-are : (ds : List Declaration) (n : ℕ) (inner : Bool) (st : Stmt) → made ds n inner st ≡ map to_made (endings ds n inner st)
made-are ds n inner (S.Then a b) =
    two-lists (made ds n inner a) (made ds n inner b) _ _ (made-are ds n inner a) (made-are ds n inner b) ∙ sym (map-join to_made (endings ds n inner a) (endings ds n inner b))
made-are ds n inner (S.Combine k total r ts es) = by (are_at_once ds n inner ts) where
  by : (b : Bool) → (if b then [] else record { total = total; reduce = r; variables = variables_of ts } ∷ []) ≡ map to_made (if b then [] else record { total = total; reduce = r; targets = ts } ∷ [])
  by true = refl
  by false = refl
made-are ds n inner (S.If k e a b) =
    two-lists (made ds n inner a) (made ds n inner b) _ _ (made-are ds n inner a) (made-are ds n inner b) ∙ sym (map-join to_made (endings ds n inner a) (endings ds n inner b))
made-are ds n inner (S.Foreach k at h test body) = made-are ds n true body
made-are ds n inner S.Skip = refl
made-are ds n inner (S.Declare k x e) = refl
made-are ds n inner (S.DeclareEdge x z at) = refl
made-are ds n inner (S.Assign k t e) = refl
made-are ds n inner (S.Defer k t e) = refl
made-are ds n inner (S.Group k at g q e) = refl
made-are ds n inner (S.For k at hd test body) = refl
made-are ds n inner (S.While k at e body) = refl
made-are ds n inner (S.Do k at body e) = refl
made-are ds n inner (S.InBfs k at s test body) = refl
made-are ds n inner (S.InBfsBoth k at s test body bk bt back) = refl
made-are ds n inner (S.Return k at e) = refl

-- something holds of each
abbrev pub Each : {A : Type 0} → (A → Type 0) → List A → Type 0
Each P [] = Unit {0}
Each P (x ∷ xs) = P x × Each P xs

each-join : {A : Type 0} (P : A → Type 0) (xs ys : List A) → Each P xs → Each P ys → Each P (xs ++ ys)
each-join P [] ys h k = k
each-join P (x ∷ xs) ys h k = (h.0, each-join P xs ys h.1 k)

-- ---- reductions that go together

module _ (ds : List Declaration) (n : ℕ) where
  -- of an inner loop: one way, and under rising numbers
  goes-inside : (a b : Ending) → disjoint (variables_of a.targets) (variables_of b.targets) || does_same (to_reduced ds n a) (to_reduced ds n b) ≡ true
      → (disjoint (variables_of a.targets) (variables_of b.targets)
      || (nat_lt a.total.key.statement b.total.key.statement && ((disjoint (to_reduced ds n a).shared (variables_of b.targets) && disjoint (to_reduced ds n b).shared (variables_of a.targets)) || does_same (to_reduced ds n a) (to_reduced ds n b)))) ≡ true
      → goes_with (to_made a) (to_made b) ≡ true
  goes-inside a b h k = by (disjoint (variables_of a.targets) (variables_of b.targets)) (nat_lt a.total.key.statement b.total.key.statement)
      (disjoint (to_reduced ds n a).shared (variables_of b.targets) && disjoint (to_reduced ds n b).shared (variables_of a.targets)) (does_same (to_reduced ds n a) (to_reduced ds n b)) h k where
        by : (d l s e : Bool) → d || e ≡ true → d || (l && (s || e)) ≡ true → d || (l && e) ≡ true
        by true l s e h k = refl
        by false true s e h k = h
        by false false s e h k = absurd (both_ways false refl k)

  all-inside : (a : Ending) (xs : List Ending) → is_one (to_reduced ds n a) (map (to_reduced ds n) xs) ≡ true → agrees (to_reduced ds n a) (map (to_reduced ds n) xs) ≡ true → list_all (goes_with (to_made a)) (map to_made xs) ≡ true
  all-inside a [] h k = refl
  all-inside a (x ∷ xs) h k =
      let h2 = both-true (disjoint (variables_of a.targets) (variables_of x.targets) || does_same (to_reduced ds n a) (to_reduced ds n x)) (is_one (to_reduced ds n a) (map (to_reduced ds n) xs)) h in
      let k2 = both-true _ (agrees (to_reduced ds n a) (map (to_reduced ds n) xs)) k in
      and_from (goes_with (to_made a) (to_made x)) (list_all (goes_with (to_made a)) (map to_made xs)) (goes-inside a x h2.0 k2.0) (all-inside a xs h2.1 k2.1)

  go-inside : (xs : List Ending) → all_one (map (to_reduced ds n) xs) ≡ true → all_agree (map (to_reduced ds n) xs) ≡ true → all_go (map to_made xs) ≡ true
  go-inside [] h k = refl
  go-inside (x ∷ xs) h k =
      let h2 = both-true (is_one (to_reduced ds n x) (map (to_reduced ds n) xs)) (all_one (map (to_reduced ds n) xs)) h in
      let k2 = both-true (agrees (to_reduced ds n x) (map (to_reduced ds n) xs)) (all_agree (map (to_reduced ds n) xs)) k in
      and_from (list_all (goes_with (to_made x)) (map to_made xs)) (all_go (map to_made xs)) (all-inside x xs h2.0 k2.0) (go-inside xs h2.1 k2.1)

  -- of an own loop: all that they reduce to is shared
  abbrev IsShared : Ending → Type 0
  IsShared a = (to_reduced ds n a).shared ≡ variables_of a.targets

  goes-beside : (a b : Ending) → IsShared a
      → (disjoint (variables_of a.targets) (variables_of b.targets)
      || (nat_lt a.total.key.statement b.total.key.statement && ((disjoint (to_reduced ds n a).shared (variables_of b.targets) && disjoint (to_reduced ds n b).shared (variables_of a.targets)) || does_same (to_reduced ds n a) (to_reduced ds n b)))) ≡ true
      → goes_with (to_made a) (to_made b) ≡ true
  goes-beside a b s k =
      by (disjoint (variables_of a.targets) (variables_of b.targets)) (nat_lt a.total.key.statement b.total.key.statement) (disjoint (to_reduced ds n a).shared (variables_of b.targets)) (disjoint (to_reduced ds n b).shared (variables_of a.targets))
      (does_same (to_reduced ds n a) (to_reduced ds n b)) (ap (λ z. disjoint z (variables_of b.targets)) s) k where
        by : (d l s t e : Bool) → s ≡ d → d || (l && ((s && t) || e)) ≡ true → d || (l && e) ≡ true
        by true l s t e w k = refl
        by false false s t e w k = absurd (both_ways false refl k)
        by false true true t e w k = absurd (both_ways true w refl)
        by false true false t e w k = k

  all-beside : (a : Ending) (xs : List Ending) → IsShared a → agrees (to_reduced ds n a) (map (to_reduced ds n) xs) ≡ true → list_all (goes_with (to_made a)) (map to_made xs) ≡ true
  all-beside a [] s k = refl
  all-beside a (x ∷ xs) s k =
      let k2 = both-true _ (agrees (to_reduced ds n a) (map (to_reduced ds n) xs)) k in
      and_from (goes_with (to_made a) (to_made x)) (list_all (goes_with (to_made a)) (map to_made xs)) (goes-beside a x s k2.0) (all-beside a xs s k2.1)

  go-beside : (xs : List Ending) → Each IsShared xs → all_agree (map (to_reduced ds n) xs) ≡ true → all_go (map to_made xs) ≡ true
  go-beside [] s k = refl
  go-beside (x ∷ xs) s k =
      let k2 = both-true (agrees (to_reduced ds n x) (map (to_reduced ds n) xs)) (all_agree (map (to_reduced ds n) xs)) k in
      and_from (list_all (goes_with (to_made x)) (map to_made xs)) (all_go (map to_made xs)) (all-beside x xs s.0 k2.0) (go-beside xs s.1 k2.1)

  -- ---- targets

  written-any : (t : Target) (xs : List ℕ) → are_any (written_by t ++ xs) ≡ true
  written-any (T.Scalar x at) xs = refl
  written-any (T.Property x q at) xs = refl

  some-variables : (r : Reduce) (ts : List Target) → fits_targets ds r ts ≡ true → are_any (variables_of ts) ≡ true
  some-variables r [] h = absurd (both_ways false refl h)
  some-variables r (t ∷ ts) h = written-any t (variables_of ts)

  abbrev HasSome : Ending → Type 0
  HasSome a = are_any (variables_of a.targets) ≡ true

  all-some : (xs : List Ending) → Each HasSome xs → list_all (λ (m : Made). are_any m.variables) (map to_made xs) ≡ true
  all-some [] h = refl
  all-some (x ∷ xs) h = and_from (are_any (variables_of x.targets)) (list_all (λ (m : Made). are_any m.variables) (map to_made xs)) h.0 (all-some xs h.1)

  -- the reductions of a body have targets
  ending-some : (inner : Bool) (result : Option VType) (st : Stmt) → is_typed_in ds result st ≡ true → Each HasSome (endings ds n inner st)
  ending-some inner result (S.Then a b) y =
      let q = both-true (is_typed_in ds result a) (is_typed_in ds result b) y in each-join HasSome (endings ds n inner a) (endings ds n inner b) (ending-some inner result a q.0) (ending-some inner result b q.1)
  ending-some inner result (S.Combine k total r ts es) y = by (are_at_once ds n inner ts) (some-variables r ts (both-true (all_have_types ds ts es) (fits_targets ds r ts) y).1) where
    by : (b : Bool) → are_any (variables_of ts) ≡ true → Each HasSome (if b then [] else record { total = total; reduce = r; targets = ts } ∷ [])
    by true s = tt
    by false s = (s, tt)
  ending-some inner result (S.If k e a b) y =
      let r = both-true (has_type ds V.Flag e) (is_typed_in ds result a && is_typed_in ds result b) y in
      let q = both-true (is_typed_in ds result a) (is_typed_in ds result b) r.1 in
      each-join HasSome (endings ds n inner a) (endings ds n inner b) (ending-some inner result a q.0) (ending-some inner result b q.1)
  ending-some inner result (S.Foreach k at h test body) y = ending-some true result body (both-true (has_type ds V.Flag test) (is_typed_in ds result body) y).1
  ending-some inner result S.Skip y = tt
  ending-some inner result (S.Declare k x e) y = tt
  ending-some inner result (S.DeclareEdge x z at) y = tt
  ending-some inner result (S.Assign k t e) y = tt
  ending-some inner result (S.Defer k t e) y = tt
  ending-some inner result (S.Group k at g q e) y = tt
  ending-some inner result (S.For k at hd test body) y = tt
  ending-some inner result (S.While k at e body) y = tt
  ending-some inner result (S.Do k at body e) y = tt
  ending-some inner result (S.InBfs k at s test body) y = tt
  ending-some inner result (S.InBfsBoth k at s test body bk bt back) y = tt
  ending-some inner result (S.Return k at e) y = tt

  -- ---- loops

  some-of : (xs : List Made) (es : List Ending) → xs ≡ map to_made es → Each HasSome es → list_all (λ (m : Made). are_any m.variables) xs ≡ true
  some-of xs es e h = ap (list_all (λ (m : Made). are_any m.variables)) e ∙ all-some es h

  pub inner-apart : (result : Option VType) (st : Stmt) → is_typed_in ds result st ≡ true → targets_alike st ≡ true → all_one (reduced ds n true st) ≡ true → all_agree (reduced ds n true st) ≡ true
      → targets_alike st && (list_all (λ (m : Made). are_any m.variables) (made ds n true st) && all_go (made ds n true st)) ≡ true
  inner-apart result st y t o a =
      let es = endings ds n true st in
      and_from (targets_alike st) _ t
      (and_from (list_all (λ (m : Made). are_any m.variables) (made ds n true st)) (all_go (made ds n true st)) (some-of (made ds n true st) es (made-are ds n true st) (ending-some true result st y))
      (ap all_go (made-are ds n true st) ∙ go-inside es (ap all_one (sym (reduced-are ds n true st)) ∙ o) (ap all_agree (sym (reduced-are ds n true st)) ∙ a)))

  pub own-apart : (result : Option VType) (st : Stmt) → is_typed_in ds result st ≡ true → targets_alike st ≡ true → Each IsShared (endings ds n false st) → all_agree (reduced ds n false st) ≡ true
      → gives_apart ds n st ≡ true
  own-apart result st y t s a =
      let es = endings ds n false st in
      and_from (targets_alike st) _ t
      (and_from (list_all (λ (m : Made). are_any m.variables) (made ds n false st)) (all_go (made ds n false st)) (some-of (made ds n false st) es (made-are ds n false st) (ending-some false result st y))
      (ap all_go (made-are ds n false st) ∙ go-beside es s (ap all_agree (sym (reduced-are ds n false st)) ∙ a)))

-- ---- what an own loop reduces to and does not end at once is shared

module _ (p : Program) (n : ℕ) where
  abbrev ds' : List Declaration
  ds' = p.declarations

  abbrev lasts : Target → Bool
  lasts t = not (is_owned ds' n t)

  all-where : (ts : List Target) → list_all lasts ts ≡ true → variables_where lasts ts ≡ variables_of ts
  all-where [] h = refl
  all-where (t ∷ ts) h =
      let q = both-true (lasts t) (list_all lasts ts) h in
      by (lasts t) q.0 (all-where ts q.1) where
        by : (b : Bool) → b ≡ true → variables_where lasts ts ≡ variables_of ts → (if b then written_by t ++ variables_where lasts ts else variables_where lasts ts) ≡ written_by t ++ variables_of ts
        by true e k = ap (λ l. written_by t ++ l) k
        by false e k = absurd (both_ways false refl e)

  global-lasts : (ts : List Target) → list_all (is_scalar_of is_global ds') ts ≡ true → list_all lasts ts ≡ true
  global-lasts [] h = refl
  global-lasts (T.Scalar x at ∷ ts) h =
      let q = both-true (is_global (variable_at ds' x)) (list_all (is_scalar_of is_global ds') ts) h in
      and_from (not (not (nat_eq (depth_at ds' x) 0))) (list_all lasts ts) (by (nat_eq (depth_at ds' x) 0) _ q.0) (global-lasts ts q.1) where
        by : (d s : Bool) → d && s ≡ true → not (not d) ≡ true
        by true s h = refl
        by false s h = h
  global-lasts (T.Property x q at ∷ ts) h = absurd (both_ways false refl h)

  through-lasts : (x : ℕ) (ts : List Target) → nat_eq x n ≡ false → list_all (is_through x) ts ≡ true → list_all lasts ts ≡ true
  through-lasts x [] e h = refl
  through-lasts x (T.Scalar y at ∷ ts) e h = absurd (both_ways false refl h)
  through-lasts x (T.Property y q at ∷ ts) e h =
      let k = both-true (nat_eq y x) (list_all (is_through x) ts) h in
      and_from (not (nat_eq y n)) (list_all lasts ts) (ap (λ z. not (nat_eq z n)) (eqb-true y x k.0) ∙ ap not e) (through-lasts x ts e k.1)

  -- targets that end at once
  once-through : (ts : List Target) → list_all (is_through n) ts ≡ true → are_at_once ds' n false ts ≡ true
  once-through [] h = refl
  once-through (T.Scalar y at ∷ ts) h = absurd (both_ways false refl h)
  once-through (T.Property y q at ∷ ts) h = let k = both-true (nat_eq y n) (list_all (is_through n) ts) h in and_from (nat_eq y n) (are_at_once ds' n false ts) k.0 (once-through ts k.1)

  once-locals : (ts : List Target) → Fine p (uses_of_targets ts) → list_all sharing.is_scalar ts ≡ true → OffGlobals p ts → are_at_once ds' n false ts ≡ true
  once-locals [] u s o = refl
  once-locals (T.Scalar x at ∷ ts) u s o =
      let u2 = split p (use_as Written x) (uses_of_targets ts) u in
      let o2 = both-true (not (is_global (variable_at ds' x))) (list_all (λ t. not (is_scalar_of is_global ds' t)) ts) o in
      and_from (not (nat_eq (depth_at ds' x) 0)) (are_at_once ds' n false ts) (ap not (deep p x u2.0 o2.0)) (once-locals ts u2.1 s o2.1)
  once-locals (T.Property x q at ∷ ts) u s o = absurd (both_ways false refl s)

  shared-targets : (ts : List Target) → Fine p (uses_of_targets ts) → are_alike ts ≡ true → end_together ds' ts ≡ true → are_at_once ds' n false ts ≡ false → variables_where lasts ts ≡ variables_of ts
  shared-targets [] u a o h = refl
  shared-targets (T.Scalar x at ∷ ts) u a o h =
      let all = T.Scalar x at ∷ ts in
      or-split (list_all (is_scalar_of is_global ds') all) (not (list_any (is_scalar_of is_global ds') all)) o
      (λ e. all-where all (global-lasts all e))
      (λ e. absurd (both_ways (are_at_once ds' n false all) h (once-locals all u a (none-global p all e))))
  shared-targets (T.Property x q at ∷ ts) u a o h = by (nat_eq x n) refl where
    by : (b : Bool) → nat_eq x n ≡ b → variables_where lasts (T.Property x q at ∷ ts) ≡ variables_of (T.Property x q at ∷ ts)
    by true e =
        let all = T.Property x q at ∷ ts in
        absurd (both_ways (are_at_once ds' n false all) h (once-through all (and_from (nat_eq x n) (list_all (is_through n) ts) e (ap (λ z. list_all (is_through z) ts) (sym (eqb-true x n e)) ∙ a))))
    by false e =
        let all = T.Property x q at ∷ ts in
        all-where all (through-lasts x all e (and_from (nat_eq x x) (list_all (is_through x) ts) (eq-eqb x x refl) a))

  abbrev suits_own : Stmt → Bool
  suits_own st = suits_body ds' false (n ∷ []) st

  -- of own statements. No inner loop is among them
  abbrev pub is_flat_code : Stmt → Bool
  is_flat_code (S.Then a b) = is_flat_code a && is_flat_code b
  is_flat_code (S.If k e a b) = is_flat_code a && is_flat_code b
  is_flat_code (S.Foreach k at h test body) = false
  is_flat_code _ = true

  pub all-shared : (st : Stmt) → is_flat_code st ≡ true → Fine p (uses_of st) → targets_alike st ≡ true → suits_own st ≡ true → Each (IsShared ds' n) (endings ds' n false st)
  all-shared (S.Then a b) f u t h =
      let f2 = both-true (is_flat_code a) (is_flat_code b) f in
      let u2 = split p (uses_of a) (uses_of b) u in
      let t2 = both-true (targets_alike a) (targets_alike b) t in
      let h2 = both-true (suits_own a) (suits_own b) h in
      each-join (IsShared ds' n) (endings ds' n false a) (endings ds' n false b) (all-shared a f2.0 u2.0 t2.0 h2.0) (all-shared b f2.1 u2.1 t2.1 h2.1)
  all-shared (S.If k e a b) f u t h =
      let f2 = both-true (is_flat_code a) (is_flat_code b) f in
      let u2 = split p (uses_of a) (uses_of b) (split p (uses_in e) (uses_of a ++ uses_of b) u).1 in
      let t2 = both-true (targets_alike a) (targets_alike b) t in
      let h2 = both-true (suits_own a) (suits_own b) (both-true (asks_inside ds' (n ∷ []) e) (suits_own a && suits_own b) h).1 in
      each-join (IsShared ds' n) (endings ds' n false a) (endings ds' n false b) (all-shared a f2.0 u2.0 t2.0 h2.0) (all-shared b f2.1 u2.1 t2.1 h2.1)
  all-shared (S.Combine k total r ts es) f u t h =
      let h1 = both-true (list_all (asks_inside ds' (n ∷ [])) es) (list_all (goes_well ds' false (n ∷ [])) ts && (end_together ds' ts && total_follows (n ∷ []) k total ts es)) h in
      let h2 = both-true (list_all (goes_well ds' false (n ∷ [])) ts) (end_together ds' ts && total_follows (n ∷ []) k total ts es) h1.1 in
      let h3 = both-true (end_together ds' ts) (total_follows (n ∷ []) k total ts es) h2.1 in
      let u2 = split p (uses_of_targets ts) (uses_in_all es) u in
      let t2 = both-true (are_alike ts) (are_distinct (variables_of ts)) t in
      by (are_at_once ds' n false ts) refl (λ e. shared-targets ts u2.0 t2.0 h3.0 e) where
        by : (b : Bool) → are_at_once ds' n false ts ≡ b → (are_at_once ds' n false ts ≡ false → variables_where lasts ts ≡ variables_of ts) → Each (IsShared ds' n) (if b then [] else record { total = total; reduce = r; targets = ts } ∷ [])
        by true e k = tt
        by false e k = (k e, tt)
  all-shared (S.Foreach k at hd test body) f u t h = absurd (both_ways false refl f)
  all-shared S.Skip f u t h = tt
  all-shared (S.Declare k x e) f u t h = tt
  all-shared (S.DeclareEdge x z at) f u t h = tt
  all-shared (S.Assign k tg e) f u t h = tt
  all-shared (S.Defer k tg e) f u t h = tt
  all-shared (S.Group k at g q e) f u t h = tt
  all-shared (S.For k at hd test body) f u t h = tt
  all-shared (S.While k at e body) f u t h = tt
  all-shared (S.Do k at body e) f u t h = tt
  all-shared (S.InBfs k at s test body) f u t h = tt
  all-shared (S.InBfsBoth k at s test body bk bt back) f u t h = tt
  all-shared (S.Return k at e) f u t h = tt
