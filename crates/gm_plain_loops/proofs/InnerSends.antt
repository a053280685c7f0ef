-- What inner bodies send, where they are evaluated at one of their two ends, comes last.
use Rattle.std.proofs.Common.{◌≡◌, ◌⊎◌, ℕ, Bool, true, false, List, [], ◌∷◌, ◌++◌, refl, ap, ⊎_elim}
use Rattle.std.specs.Prelude.{◌&&◌, ◌||◌, not}
use Rattle.std.specs.List.{list_all}
use Rattle.std.proofs.lemmas.Bool.{both_ways, or_right}
use Rattle.gm_value.specs.Bag.{IsIn}
use Rattle.gm_ast.specs.declared.tree.Declaration.{Declaration}
use Rattle.gm_ast.specs.declared.tree.Key.{Key}
use Rattle.gm_ast.specs.declared.tree.Target.{Target}
use Rattle.gm_ast.specs.declared.tree.TotalKey.{TotalKey}
use Rattle.gm_ast.specs.Keys.{total_fault}
use Rattle.gm_ast.specs.Program as S
use Rattle.gm_ast.specs.Program.{Expr, Stmt, Program}
use Rattle.gm_forms.proofs.CutTests.{Covers, turned}
use Rattle.gm_forms.proofs.Named.{both-true}
use Rattle.gm_forms.specs.Order.{cannot_fail, lie_before, faults_in, in_order, faults_of, body_in_order}
use Rattle.gm_forms.specs.Sharing.{are_alike, are_distinct, variables_of, targets_alike}
use Rattle.gm_forms.specs.Uses.{uses_in, uses_in_all, uses_of_targets, uses_of}
use Rattle.gm_lowering.specs.Layouts.{Layout, layout}
use Rattle.gm_lowering.specs.Places.{Spot, spot_of_total, spots_in, spots_in_all}
use Rattle.gm_lowering.specs.Plans.{Way, Puts, Folds, Sends, Picks, way_of, Away, aways}
use Rattle.gm_lowering.specs.Bodies.{reduce_spots, spots_of}
use Rattle.gm_lowering.specs.OwnLoops.{are_any}
use Rattle.gm_plain_loops.specs.Tests.{asks_inside, suits_body, is_picked, is_quiet, adds_any, sends_last}
use Rattle.gm_plain_loops.proofs.Names.{Fine, split}
use Rattle.gm_plain_loops.proofs.Orders.{spots-within, part-before}
use Rattle.gm_plain_loops.proofs.Sends.{Sent, sent-behind, sent-before, sent-alone, sent-second, through, adds, goes-through, any-adds, option-quiet, no-both}
use Rattle.gm_plain_loops.proofs.Spots.{in-left, in-right, in-split, expr-spots, no-spots, no-spots-all}

-- an inner body that is evaluated at node m, one of its two iterators
module _ (p : Program) (n i m : ℕ) where
  abbrev ds : List Declaration
  ds = p.declarations

  abbrev c : Layout
  c = layout p

  abbrev its : List ℕ
  its = n ∷ (i ∷ [])

  abbrev js : List ℕ
  js = i ∷ (n ∷ [])

  abbrev covers : Covers js its
  covers = turned i n

  abbrev suit : Stmt → Bool
  suit st = suits_body ds false its st

  abbrev spots_at : Stmt → List Spot
  spots_at st = spots_of c m its false st

  abbrev good : Away → List Spot → Bool
  good = through p m false

  abbrev asks : Away → Bool
  asks = adds p m false

  picked-at : (w : Way) (k : Key) (total : TotalKey) (ts : List Target) (es : List Expr) → is_picked w ≡ true → list_all cannot_fail es ≡ true → are_any (spots_in_all es k ++ reduce_spots false its w k total ts) ≡ false
  picked-at Picks k total ts es h f = no-both p m false (spots_in_all es k) [] (ap are_any (no-spots-all es k f)) refl
  picked-at Puts k total ts es h f = absurd (both_ways false refl h)
  picked-at Folds k total ts es h f = absurd (both_ways false refl h)
  picked-at Sends k total ts es h f = absurd (both_ways false refl h)

  quiet-at : (st : Stmt) → is_quiet ds m st ≡ true → are_any (spots_at st) ≡ false
  quiet-at (S.Then s t) h = let q = both-true (is_quiet ds m s) (is_quiet ds m t) h in no-both p m false (spots_at s) (spots_at t) (quiet-at s q.0) (quiet-at t q.1)
  quiet-at (S.Declare k x e) h = option-quiet p m false e k h
  quiet-at (S.Assign k t e) h = ap are_any (no-spots e k h)
  quiet-at (S.Combine k total r ts es) h = let q = both-true (is_picked (way_of ds m ts)) (list_all cannot_fail es) h in picked-at (way_of ds m ts) k total ts es q.0 q.1
  quiet-at (S.If k e s t) h =
      let q = both-true (cannot_fail e) (is_quiet ds m s && is_quiet ds m t) h in
      let r = both-true (is_quiet ds m s) (is_quiet ds m t) q.1 in
      no-both p m false (spots_in e k) (spots_at s ++ spots_at t) (ap are_any (no-spots e k q.0)) (no-both p m false (spots_at s) (spots_at t) (quiet-at s r.0) (quiet-at t r.1))
  quiet-at S.Skip h = refl
  quiet-at (S.DeclareEdge x z at) h = refl
  quiet-at (S.Defer k t e) h = refl
  quiet-at (S.Group k at g q e) h = refl
  quiet-at (S.Foreach k at hd test body) h = refl
  quiet-at (S.For k at hd test body) h = refl
  quiet-at (S.While k at e body) h = refl
  quiet-at (S.Do k at body e) h = refl
  quiet-at (S.InBfs k at s test body) h = refl
  quiet-at (S.InBfsBoth k at s test body bk bt back) h = refl
  quiet-at (S.Return k at e) h = refl

  last-at : (st : Stmt) → sends_last ds m true st ≡ true → are_any (spots_at st) ≡ false
  last-at (S.Then s t) h = let q = both-true (sends_last ds m true s) (sends_last ds m true t) h in no-both p m false (spots_at s) (spots_at t) (last-at s q.0) (last-at t q.1)
  last-at (S.If k e s t) h =
      let q = both-true (cannot_fail e) (sends_last ds m true s && sends_last ds m true t) h in
      let r = both-true (sends_last ds m true s) (sends_last ds m true t) q.1 in
      no-both p m false (spots_in e k) (spots_at s ++ spots_at t) (ap are_any (no-spots e k q.0)) (no-both p m false (spots_at s) (spots_at t) (last-at s r.0) (last-at t r.1))
  last-at st h = quiet-at st h

  behind-at : (sent : Bool) (st : Stmt) → sent ≡ true → sends_last ds m sent st ≡ true → are_any (spots_at st) ≡ false
  behind-at true st e h = last-at st h
  behind-at false st e h = absurd (both_ways false refl e)

  pub sent-at : (st : Stmt) → Fine p (uses_of st) → targets_alike st ≡ true → suit st ≡ true → body_in_order js st ≡ true → (sent : Bool) → sends_last ds m sent st ≡ true → (a : Away) → IsIn a (aways ds m st) → Sent asks good (spots_at st) a
  sent-at (S.Then s t) u y h o sent l a j =
      let u2 = split p (uses_of s) (uses_of t) u in
      let y2 = both-true (targets_alike s) (targets_alike t) y in
      let h2 = both-true (suit s) (suit t) h in
      let o1 = both-true (body_in_order js s) (body_in_order js t && lie_before (faults_of js s) (faults_of js t)) o in
      let o2 = both-true (body_in_order js t) (lie_before (faults_of js s) (faults_of js t)) o1.1 in
      let l2 = both-true (sends_last ds m sent s) (sends_last ds m (sent || adds_any ds m s) t) l in
      ⊎_elim
      (λ (z : IsIn a (aways ds m s)).
      sent-before asks good (spots_at s) (spots_at t) a (sent-at s u2.0 y2.0 h2.0 o1.0 sent l2.0 a z) (λ y. behind-at (sent || adds_any ds m s) t (or_right sent (adds_any ds m s) (any-adds p m false s a z y)) l2.1))
      (λ (z : IsIn a (aways ds m t)). sent-second c m its js false covers false asks good s t o2.1 (sent-at t u2.1 y2.1 h2.1 o2.0 (sent || adds_any ds m s) l2.1) a z)
      (in-split (aways ds m s) (aways ds m t) a j)
  sent-at (S.Combine k total r ts es) u y h o sent l a j =
      let t2 = both-true (are_alike ts) (are_distinct (variables_of ts)) y in
      sent-alone c m its js false covers false asks good k total r ts es h (goes-through p m false total r ts t2.0 (split p (uses_of_targets ts) (uses_in_all es) u).0) a j
  sent-at (S.If k e s t) u y h o sent l a j =
      let u2 = split p (uses_of s) (uses_of t) (split p (uses_in e) (uses_of s ++ uses_of t) u).1 in
      let y2 = both-true (targets_alike s) (targets_alike t) y in
      let h2 = both-true (suit s) (suit t) (both-true (asks_inside ds its e) (suit s && suit t) h).1 in
      let o1 = both-true (in_order e k) (body_in_order js s && (body_in_order js t && (lie_before (faults_in e k) (faults_of js s ++ faults_of js t) && lie_before (faults_of js s) (faults_of js t)))) o in
      let o2 = both-true (body_in_order js s) (body_in_order js t && (lie_before (faults_in e k) (faults_of js s ++ faults_of js t) && lie_before (faults_of js s) (faults_of js t))) o1.1 in
      let o3 = both-true (body_in_order js t) (lie_before (faults_in e k) (faults_of js s ++ faults_of js t) && lie_before (faults_of js s) (faults_of js t)) o2.1 in
      let o4 = both-true (lie_before (faults_in e k) (faults_of js s ++ faults_of js t)) (lie_before (faults_of js s) (faults_of js t)) o3.1 in
      let l2 = both-true (sends_last ds m sent s) (sends_last ds m (sent || adds_any ds m s) t) (both-true (not sent || cannot_fail e) (sends_last ds m sent s && sends_last ds m (sent || adds_any ds m s) t) l).1 in
      let whole : Sent asks good (spots_at s ++ spots_at t) a =
      ⊎_elim
      (λ (z : IsIn a (aways ds m s)).
      sent-before asks good (spots_at s) (spots_at t) a (sent-at s u2.0 y2.0 h2.0 o2.0 sent l2.0 a z) (λ y. behind-at (sent || adds_any ds m s) t (or_right sent (adds_any ds m s) (any-adds p m false s a z y)) l2.1))
      (λ (z : IsIn a (aways ds m t)). sent-second c m its js false covers false asks good s t o4.1 (sent-at t u2.1 y2.1 h2.1 o3.0 (sent || adds_any ds m s) l2.1) a z)
      (in-split (aways ds m s) (aways ds m t) a j) in
      sent-behind asks good (spots_in e k) (spots_at s ++ spots_at t) a whole
      (λ z l. part-before c m its js false covers false (faults_in e k) (faults_of js s ++ faults_of js t) z (spot_of_total a.total) o4.0 (expr-spots e k z l).1
      (⊎_elim (λ (w : IsIn (spot_of_total a.total) (spots_at s)). in-left (faults_of js s) (faults_of js t) (total_fault a.total) (spots-within c m its js false covers false s (spot_of_total a.total) w))
      (λ (w : IsIn (spot_of_total a.total) (spots_at t)). in-right (faults_of js s) (faults_of js t) (total_fault a.total) (spots-within c m its js false covers false t (spot_of_total a.total) w))
      (in-split (spots_at s) (spots_at t) (spot_of_total a.total) whole.there)))
  sent-at S.Skip u y h o sent l a j = absurd j
  sent-at (S.Declare k x e) u y h o sent l a j = absurd j
  sent-at (S.DeclareEdge x z at) u y h o sent l a j = absurd j
  sent-at (S.Assign k t e) u y h o sent l a j = absurd j
  sent-at (S.Defer k t e) u y h o sent l a j = absurd j
  sent-at (S.Group k at g q e) u y h o sent l a j = absurd j
  sent-at (S.Foreach k at hd test body) u y h o sent l a j = absurd j
  sent-at (S.For k at hd test body) u y h o sent l a j = absurd j
  sent-at (S.While k at e body) u y h o sent l a j = absurd j
  sent-at (S.Do k at body e) u y h o sent l a j = absurd j
  sent-at (S.InBfs k at s test body) u y h o sent l a j = absurd j
  sent-at (S.InBfsBoth k at s test body bk bt back) u y h o sent l a j = absurd j
  sent-at (S.Return k at e) u y h o sent l a j = absurd j
