-- What is sent comes last.
use Rattle.std.proofs.Common.{◌≡◌, ◌⊎◌, inl, ℕ, Bool, true, false, Option, Some, None, List, [], ◌∷◌, ◌++◌, refl, ap, ◌∙◌, sym, subst, ⊎_elim}
use Rattle.std.specs.Prelude.{◌&&◌, ◌||◌, not, nat_eq, if◌then◌else◌}
use Rattle.std.specs.List.{list_all, list_any}
use Rattle.std.proofs.lemmas.Bool.{both_ways, and_from, or_left, or_right, eqb-true, eq-eqb}
use Rattle.gm_value.specs.Bag.{IsIn}
use Rattle.gm_value.specs.declared.reductions.Reduce.{Reduce}
use Rattle.gm_value.specs.declared.values.VType.{VType}
use Rattle.gm_value.specs.declared.values.VType.TheVariants as V
use Rattle.gm_ast.specs.declared.tree.Declaration.{Declaration}
use Rattle.gm_ast.specs.declared.tree.Key.{Key}
use Rattle.gm_ast.specs.declared.tree.Target.{Target}
use Rattle.gm_ast.specs.declared.tree.Target.TheVariants as T
use Rattle.gm_ast.specs.declared.tree.TotalKey.{TotalKey}
use Rattle.gm_ast.specs.Keys.{total_fault}
use Rattle.gm_ast.specs.Program as S
use Rattle.gm_ast.specs.Program.{Expr, Stmt, Program}
use Rattle.gm_forms.proofs.CutTests.{Covers}
use Rattle.gm_forms.proofs.Named.{both-true}
use Rattle.gm_forms.specs.Cut as cut
use Rattle.gm_forms.specs.Cut.{can_overflow, is_own_body, is_own_code}
use Rattle.gm_forms.specs.Forms.{may}
use Rattle.gm_forms.specs.Order.{cannot_fail, lie_before, faults_in, in_order, faults_of, body_in_order}
use Rattle.gm_forms.specs.Sharing.{are_alike, are_distinct, variables_of, is_through, targets_alike}
use Rattle.gm_forms.specs.Sharing as sharing
use Rattle.gm_forms.specs.Typing.{all_have_types, fits_targets, has_type, is_typed_in}
use Rattle.gm_forms.specs.Uses.{uses_in, uses_in_all, uses_of_targets, uses_of}
use Rattle.gm_semantics.specs.Statements.{variable_at}
use Rattle.gm_lowering.specs.Layouts.{Layout, layout, is_global, is_register, is_scalar_of}
use Rattle.gm_lowering.specs.Places.{Spot, spot_of_total, spots_in, spots_in_all, spots_in_option, spot_lt}
use Rattle.gm_lowering.specs.Plans.{Way, Puts, Folds, Sends, Picks, way_of, is_property_of, is_property_off, Away, away_by, aways, is_nothing, gives_nothing, gives_last}
use Rattle.gm_lowering.specs.Bodies.{target_spots, reduce_spots, spots_of}
use Rattle.gm_lowering.specs.OwnLoops.{are_any, is_kept_property}
use Rattle.gm_lowering.proofs.Orders.{lt-itself}
use Rattle.gm_lowering_master.specs.Plain.{is_same_spot, is_sent_through, same_place}
use Rattle.gm_plain_loops.specs.Tests.{asks_inside, total_follows, suits_body, is_picked, is_sent, is_quiet, adds_any, sends_last}
use Rattle.gm_plain_loops.proofs.Names.{Fine, split, or-split}
use Rattle.gm_plain_loops.proofs.Bodies.{all-kept}
use Rattle.gm_plain_loops.proofs.Spots.{in-left, in-right, in-split, all-of, any-of, not-behind, place-itself, expr-spots, no-spots, no-spots-all}
use Rattle.gm_plain_loops.proofs.Orders.{value-before, target-before, follows-of, spots-within, part-before}

-- a spot that is there
among : (xs : List Spot) (z : Spot) → IsIn z xs → list_any (is_same_spot z) xs ≡ true
among xs z i =
    any-of (is_same_spot z) xs z i
    (let e : not (spot_lt z z) ≡ true = ap not (lt-itself z.fault) in and_from (not (spot_lt z z)) (not (spot_lt z z) && same_place z.shown z.shown) e (and_from (not (spot_lt z z)) (same_place z.shown z.shown) e (place-itself z.shown)))

-- a reduction that is sent: it goes well where its total is among some spots, and is the last of them if that is asked; its total is among those of its body, and none of these comes behind it if that is asked
pub record Sent (asks : Away → Bool) (goes_well : Away → List Spot → Bool) (xs : List Spot) (a : Away) : Type 0 where
  pub goes : (ys : List Spot) → list_any (is_same_spot (spot_of_total a.total)) ys ≡ true → (asks a ≡ true → list_all (λ s. not (spot_lt (spot_of_total a.total) s)) ys ≡ true) → goes_well a ys ≡ true
  pub there : IsIn (spot_of_total a.total) xs
  pub last : asks a ≡ true → (s : Spot) → IsIn s xs → spot_lt (spot_of_total a.total) s ≡ false

-- with spots before
pub sent-behind : (asks : Away → Bool) (goes_well : Away → List Spot → Bool) (ws xs : List Spot) (a : Away) → Sent asks goes_well xs a → ((s : Spot) → IsIn s ws → spot_lt s (spot_of_total a.total) ≡ true) → Sent asks goes_well (ws ++ xs) a
sent-behind asks goes_well ws xs a h before = record {
  goes = h.goes;
  there = in-right ws xs (spot_of_total a.total) h.there;
  last = λ e s i. ⊎_elim (λ (j : IsIn s ws). not-behind s.fault (spot_of_total a.total).fault (before s j)) (λ (j : IsIn s xs). h.last e s j) (in-split ws xs s i);
}

-- with none behind, if that is asked
pub sent-before : (asks : Away → Bool) (goes_well : Away → List Spot → Bool) (xs ys : List Spot) (a : Away) → Sent asks goes_well xs a → (asks a ≡ true → are_any ys ≡ false) → Sent asks goes_well (xs ++ ys) a
sent-before asks goes_well xs ys a h none = record {
  goes = h.goes;
  there = in-left xs ys (spot_of_total a.total) h.there;
  last = λ e s i. ⊎_elim (λ (j : IsIn s xs). h.last e s j) (λ (j : IsIn s ys). absurd (none-in ys s (none e) j)) (in-split xs ys s i);
} where
  none-in : (zs : List Spot) (s : Spot) → are_any zs ≡ false → IsIn s zs → ⊥
  none-in [] s e i = i
  none-in (z ∷ zs) s e i = both_ways true e refl

pub all-sent : (asks : Away → Bool) (goes_well : Away → List Spot → Bool) (xs : List Spot) (sends : List Away) → ((a : Away) → IsIn a sends → Sent asks goes_well xs a) → list_all (λ a. goes_well a xs) sends ≡ true
all-sent asks goes_well xs sends h = all-of (λ a. goes_well a xs) sends (λ a i.
    let s = h a i in
    s.goes xs (among xs (spot_of_total a.total) s.there) (λ e. all-of (λ z. not (spot_lt (spot_of_total a.total) z)) xs (λ z j. ap not (s.last e z j))))

no-more : {A : Type 0} (xs : List A) → are_any xs ≡ false → xs ≡ []
no-more [] h = refl
no-more (x ∷ xs) h = absurd (both_ways true h refl)

-- the one reduction of a way
pub one-away : (w : Way) (total : TotalKey) (r : Reduce) (ts : List Target) (a : Away) → IsIn a (away_by w total r ts) → (w ≡ Sends) × (a ≡ record { total = total; reduce = r; targets = ts })
one-away Sends total r ts a i = ⊎_elim (λ (e : a ≡ record { total = total; reduce = r; targets = ts }). (refl, e)) (λ (j : IsIn a []). absurd j) i
one-away Puts total r ts a i = absurd i
one-away Folds total r ts a i = absurd i
one-away Picks total r ts a i = absurd i

-- ---- bodies among iterators, whose faults stand in order

module _ (c : Layout) (m : ℕ) (its js : List ℕ) (at_once : Bool) (covers : Covers js its) (inner : Bool) (asks : Away → Bool) (goes_well : Away → List Spot → Bool) where
  abbrev ds : List Declaration
  ds = c.declarations

  abbrev its_spots : Stmt → List Spot
  its_spots st = spots_of c m its at_once st

  abbrev suit : Stmt → Bool
  suit st = suits_body ds inner its st

  abbrev AreSent : Stmt → Type 0
  AreSent st = (a : Away) → IsIn a (aways ds m st) → Sent asks goes_well (its_spots st) a

  -- how it goes well
  abbrev Goes : TotalKey → Reduce → List Target → Type 0
  Goes total r ts =
      let a : Away = record { total = total; reduce = r; targets = ts } in
      (ys : List Spot) → list_any (is_same_spot (spot_of_total total)) ys ≡ true → (asks a ≡ true → list_all (λ s. not (spot_lt (spot_of_total total) s)) ys ≡ true) → goes_well a ys ≡ true

  the-one : (k : Key) (total : TotalKey) (r : Reduce) (ts : List Target) (es : List Expr) → total_follows its k total ts es ≡ true
      → Goes total r ts
      → Sent asks goes_well (spots_in_all es k ++ (spot_of_total total ∷ target_spots its k ts)) (record { total = total; reduce = r; targets = ts })
  the-one k total r ts es f w = record {
    goes = w;
    there = in-right (spots_in_all es k) (spot_of_total total ∷ target_spots its k ts) (spot_of_total total) (inl refl);
    last = λ asked s i.
        ⊎_elim
        (λ (j : IsIn s (spots_in_all es k)). not-behind s.fault (total_fault total) (value-before c m its js at_once covers inner k total ts es f s j))
        (λ (j : IsIn s (spot_of_total total ∷ target_spots its k ts)).
        ⊎_elim
        (λ (e : s ≡ spot_of_total total). ap (λ z. spot_lt (spot_of_total total) z) e ∙ lt-itself (total_fault total))
        (λ (l : IsIn s (target_spots its k ts)). not-behind s.fault (total_fault total) (target-before c m its js at_once covers inner k total ts es f s l))
        j)
        (in-split (spots_in_all es k) (spot_of_total total ∷ target_spots its k ts) s i);
  }

  -- a reduction
  pub sent-alone : (k : Key) (total : TotalKey) (r : Reduce) (ts : List Target) (es : List Expr) → suit (S.Combine k total r ts es) ≡ true
      → (way_of ds m ts ≡ Sends → Goes total r ts)
      → AreSent (S.Combine k total r ts es)
  sent-alone k total r ts es h g a i =
      let q = one-away (way_of ds m ts) total r ts a i in
      let f = follows-of c m its js at_once covers inner k total r ts es h in
      subst (λ z. Sent asks goes_well (its_spots (S.Combine k total r ts es)) z) (sym q.1)
      (subst (λ w. Sent asks goes_well (spots_in_all es k ++ reduce_spots at_once its w k total ts) (record { total = total; reduce = r; targets = ts })) (sym q.0) (by at_once f (g q.0))) where
        by : (o : Bool) → total_follows its k total ts es ≡ true → Goes total r ts
            → Sent asks goes_well (spots_in_all es k ++ reduce_spots o its Sends k total ts) (record { total = total; reduce = r; targets = ts })
        by true f w = the-one k total r ts es f w
        by false f w = the-one k total r ts es f w

  -- in two parts, the second one behind
  pub sent-second : (a b : Stmt) → lie_before (faults_of js a) (faults_of js b) ≡ true → AreSent b → (x : Away) → IsIn x (aways ds m b) → Sent asks goes_well (its_spots a ++ its_spots b) x
  sent-second a b l h x i =
      let s = h x i in
      sent-behind asks goes_well (its_spots a) (its_spots b) x s
      (λ z j. part-before c m its js at_once covers inner (faults_of js a) (faults_of js b) z (spot_of_total x.total) l (spots-within c m its js at_once covers inner a z j) (spots-within c m its js at_once covers inner b (spot_of_total x.total) s.there))

-- ---- loops of own statements

module _ (p : Program) (n : ℕ) (inner : Bool) where
  abbrev c : Layout
  c = layout p

  abbrev table : List Declaration
  table = p.declarations

  abbrev own : List ℕ
  own = n ∷ []

  abbrev same : Covers own own
  same = λ y h. h

  abbrev pub through : Away → List Spot → Bool
  through a ys = is_sent_through c ys a a.targets

  -- the last ones are asked to be Sums and Products
  abbrev pub adds : Away → Bool
  adds a = can_overflow a.reduce

  unless-adds : (b : Bool) {q : Bool} → (b ≡ true → q ≡ true) → not b || q ≡ true
  unless-adds true h = h refl
  unless-adds false h = refl

  abbrev body_spots : Stmt → List Spot
  body_spots st = spots_of c n own true st

  abbrev suit_own : Stmt → Bool
  suit_own st = suits_body table inner own st

  -- scalars are not sent
  scalars-stay : (ts : List Target) → list_all sharing.is_scalar ts ≡ true → list_any (is_property_off n) ts ≡ false
  scalars-stay [] h = refl
  scalars-stay (T.Scalar x at ∷ ts) h = scalars-stay ts h
  scalars-stay (T.Property x q at ∷ ts) h = absurd (both_ways false refl h)

  not-off : (ts : List Target) → list_all (cut.is_here n) ts ≡ true → list_any (is_property_off n) ts ≡ false
  not-off [] h = refl
  not-off (T.Scalar x at ∷ ts) h = not-off ts h
  not-off (T.Property x q at ∷ ts) h =
      let k = both-true (nat_eq x n) (list_all (cut.is_here n) ts) h in by (nat_eq x n) k.0 (not-off ts k.1) where
        by : (b : Bool) → b ≡ true → list_any (is_property_off n) ts ≡ false → not b || list_any (is_property_off n) ts ≡ false
        by true e g = g
        by false e g = absurd (both_ways false refl e)

  stays : (ts : List Target) → list_any (is_property_off n) ts ≡ false → way_of table n ts ≡ Sends → ⊥
  stays ts h e = by (list_all (is_scalar_of is_global table) ts) (list_all (is_property_of n) ts) (list_any (is_property_off n) ts) h e where
    by : (a b d : Bool) → d ≡ false → (if a then Puts else (if b then Folds else (if d then Sends else Picks))) ≡ Sends → ⊥
    by true b d h e = both_ways false refl (ap is_sent e)
    by false true d h e = both_ways false refl (ap is_sent e)
    by false false true h e = both_ways true h refl
    by false false false h e = both_ways false refl (ap is_sent e)

  pub goes-through : (total : TotalKey) (r : Reduce) (ts : List Target) → are_alike ts ≡ true → Fine p (uses_of_targets ts) → way_of table n ts ≡ Sends
      → (ys : List Spot) → list_any (is_same_spot (spot_of_total total)) ys ≡ true → (can_overflow r ≡ true → list_all (λ s. not (spot_lt (spot_of_total total) s)) ys ≡ true)
      → through (record { total = total; reduce = r; targets = ts }) ys ≡ true
  goes-through total r [] a u w ys i l = absurd (stays [] refl w)
  goes-through total r (T.Scalar x at ∷ ts) a u w ys i l = absurd (stays (T.Scalar x at ∷ ts) (scalars-stay ts a) w)
  goes-through total r (T.Property x q at ∷ ts) a u w ys i l =
      let all = T.Property x q at ∷ ts in
      let last = not (can_overflow r) || list_all (λ s. not (spot_lt (spot_of_total total) s)) ys in
      and_from (list_all (is_kept_property c x) all) (list_any (is_same_spot (spot_of_total total)) ys && last) (all-kept p x all u (and_from (nat_eq x x) (list_all (is_through x) ts) (eq-eqb x x refl) a))
      (and_from (list_any (is_same_spot (spot_of_total total)) ys) last i (unless-adds (can_overflow r) l))

  -- own statements under a condition send nothing
  none-away : (st : Stmt) → is_own_body n st ≡ true → (a : Away) → IsIn a (aways table n st) → ⊥
  none-away (S.Then s t) h a i =
      let q = both-true (is_own_body n s) (is_own_body n t) h in ⊎_elim (λ (j : IsIn a (aways table n s)). none-away s q.0 a j) (λ (j : IsIn a (aways table n t)). none-away t q.1 a j) (in-split (aways table n s) (aways table n t) a i)
  none-away (S.If k e s t) h a i =
      let q = both-true (is_own_body n s) (is_own_body n t) h in ⊎_elim (λ (j : IsIn a (aways table n s)). none-away s q.0 a j) (λ (j : IsIn a (aways table n t)). none-away t q.1 a j) (in-split (aways table n s) (aways table n t) a i)
  none-away (S.Combine k total r ts es) h a i = stays ts (not-off ts h) (one-away (way_of table n ts) total r ts a i).0
  none-away S.Skip h a i = i
  none-away (S.Declare k x e) h a i = i
  none-away (S.DeclareEdge x z at) h a i = i
  none-away (S.Assign k t e) h a i = i
  none-away (S.Defer k t e) h a i = i
  none-away (S.Group k at g q e) h a i = i
  none-away (S.Foreach k at hd test body) h a i = i
  none-away (S.For k at hd test body) h a i = i
  none-away (S.While k at e body) h a i = i
  none-away (S.Do k at body e) h a i = i
  none-away (S.InBfs k at s test body) h a i = i
  none-away (S.InBfsBoth k at s test body bk bt back) h a i = i
  none-away (S.Return k at e) h a i = i

  -- what is quiet has no spots
  pub option-quiet : (e : Option Expr) (k : Key) → may cannot_fail e ≡ true → are_any (spots_in_option e k) ≡ false
  option-quiet None k h = refl
  option-quiet (Some e) k h = ap are_any (no-spots e k h)

  pub no-both : (xs ys : List Spot) → are_any xs ≡ false → are_any ys ≡ false → are_any (xs ++ ys) ≡ false
  no-both [] ys h k = k
  no-both (x ∷ xs) ys h k = absurd (both_ways true h refl)

  picked-spots : (w : Way) (k : Key) (total : TotalKey) (ts : List Target) (es : List Expr) → is_picked w ≡ true → list_all cannot_fail es ≡ true → are_any (spots_in_all es k ++ reduce_spots true own w k total ts) ≡ false
  picked-spots Picks k total ts es h f = no-both (spots_in_all es k) [] (ap are_any (no-spots-all es k f)) refl
  picked-spots Puts k total ts es h f = absurd (both_ways false refl h)
  picked-spots Folds k total ts es h f = absurd (both_ways false refl h)
  picked-spots Sends k total ts es h f = absurd (both_ways false refl h)

  quiet-spots : (st : Stmt) → is_quiet table n st ≡ true → are_any (body_spots st) ≡ false
  quiet-spots (S.Then s t) h = let q = both-true (is_quiet table n s) (is_quiet table n t) h in no-both (body_spots s) (body_spots t) (quiet-spots s q.0) (quiet-spots t q.1)
  quiet-spots (S.Declare k x e) h = option-quiet e k h
  quiet-spots (S.Assign k t e) h = ap are_any (no-spots e k h)
  quiet-spots (S.Combine k total r ts es) h = let q = both-true (is_picked (way_of table n ts)) (list_all cannot_fail es) h in picked-spots (way_of table n ts) k total ts es q.0 q.1
  quiet-spots (S.If k e s t) h =
      let q = both-true (cannot_fail e) (is_quiet table n s && is_quiet table n t) h in
      let r = both-true (is_quiet table n s) (is_quiet table n t) q.1 in
      no-both (spots_in e k) (body_spots s ++ body_spots t) (ap are_any (no-spots e k q.0)) (no-both (body_spots s) (body_spots t) (quiet-spots s r.0) (quiet-spots t r.1))
  quiet-spots S.Skip h = refl
  quiet-spots (S.DeclareEdge x z at) h = refl
  quiet-spots (S.Defer k t e) h = refl
  quiet-spots (S.Group k at g q e) h = refl
  quiet-spots (S.Foreach k at hd test body) h = refl
  quiet-spots (S.For k at hd test body) h = refl
  quiet-spots (S.While k at e body) h = refl
  quiet-spots (S.Do k at body e) h = refl
  quiet-spots (S.InBfs k at s test body) h = refl
  quiet-spots (S.InBfsBoth k at s test body bk bt back) h = refl
  quiet-spots (S.Return k at e) h = refl

  -- what stands behind something sent is quiet
  quiet-last : (st : Stmt) → sends_last table n true st ≡ true → are_any (body_spots st) ≡ false
  quiet-last (S.Then s t) h = let q = both-true (sends_last table n true s) (sends_last table n true t) h in no-both (body_spots s) (body_spots t) (quiet-last s q.0) (quiet-last t q.1)
  quiet-last (S.If k e s t) h =
      let q = both-true (cannot_fail e) (sends_last table n true s && sends_last table n true t) h in
      let r = both-true (sends_last table n true s) (sends_last table n true t) q.1 in
      no-both (spots_in e k) (body_spots s ++ body_spots t) (ap are_any (no-spots e k q.0)) (no-both (body_spots s) (body_spots t) (quiet-last s r.0) (quiet-last t r.1))
  quiet-last st h = quiet-spots st h

  quiet-behind : (sent : Bool) (st : Stmt) → sent ≡ true → sends_last table n sent st ≡ true → are_any (body_spots st) ≡ false
  quiet-behind true st e h = quiet-last st h
  quiet-behind false st e h = absurd (both_ways false refl e)

  -- Sums and Products that are sent are told
  pub any-adds : (st : Stmt) (a : Away) → IsIn a (aways table n st) → adds a ≡ true → adds_any table n st ≡ true
  any-adds (S.Then s t) a i e =
      ⊎_elim (λ (j : IsIn a (aways table n s)). or_left (adds_any table n s) (adds_any table n t) (any-adds s a j e)) (λ (j : IsIn a (aways table n t)). or_right (adds_any table n s) (adds_any table n t) (any-adds t a j e))
      (in-split (aways table n s) (aways table n t) a i)
  any-adds (S.If k w s t) a i e =
      ⊎_elim (λ (j : IsIn a (aways table n s)). or_left (adds_any table n s) (adds_any table n t) (any-adds s a j e)) (λ (j : IsIn a (aways table n t)). or_right (adds_any table n s) (adds_any table n t) (any-adds t a j e))
      (in-split (aways table n s) (aways table n t) a i)
  any-adds (S.Combine k total r ts es) a i e =
      let q = one-away (way_of table n ts) total r ts a i in and_from (can_overflow r) (is_sent (way_of table n ts)) (ap adds (sym q.1) ∙ e) (ap is_sent q.0)
  any-adds S.Skip a i y = absurd i
  any-adds (S.Declare k x e) a i y = absurd i
  any-adds (S.DeclareEdge x z at) a i y = absurd i
  any-adds (S.Assign k t e) a i y = absurd i
  any-adds (S.Defer k t e) a i y = absurd i
  any-adds (S.Group k at g q e) a i y = absurd i
  any-adds (S.Foreach k at hd test body) a i y = absurd i
  any-adds (S.For k at hd test body) a i y = absurd i
  any-adds (S.While k at e body) a i y = absurd i
  any-adds (S.Do k at body e) a i y = absurd i
  any-adds (S.InBfs k at s test body) a i y = absurd i
  any-adds (S.InBfsBoth k at s test body bk bt back) a i y = absurd i
  any-adds (S.Return k at e) a i y = absurd i

  pub own-sent : (st : Stmt) → is_own_code n st ≡ true → Fine p (uses_of st) → targets_alike st ≡ true → suit_own st ≡ true → body_in_order own st ≡ true → (sent : Bool) → sends_last table n sent st ≡ true
      → (a : Away) → IsIn a (aways table n st) → Sent adds through (body_spots st) a
  own-sent (S.Then s t) f u y h o sent l a i =
      let f2 = both-true (is_own_code n s) (is_own_code n t) f in
      let u2 = split p (uses_of s) (uses_of t) u in
      let y2 = both-true (targets_alike s) (targets_alike t) y in
      let h2 = both-true (suit_own s) (suit_own t) h in
      let o1 = both-true (body_in_order own s) (body_in_order own t && lie_before (faults_of own s) (faults_of own t)) o in
      let o2 = both-true (body_in_order own t) (lie_before (faults_of own s) (faults_of own t)) o1.1 in
      let l2 = both-true (sends_last table n sent s) (sends_last table n (sent || adds_any table n s) t) l in
      ⊎_elim
      (λ (j : IsIn a (aways table n s)).
      sent-before adds through (body_spots s) (body_spots t) a (own-sent s f2.0 u2.0 y2.0 h2.0 o1.0 sent l2.0 a j)
      (λ e. quiet-behind (sent || adds_any table n s) t (or_right sent (adds_any table n s) (any-adds s a j e)) l2.1))
      (λ (j : IsIn a (aways table n t)). sent-second c n own own true same inner adds through s t o2.1 (own-sent t f2.1 u2.1 y2.1 h2.1 o2.0 (sent || adds_any table n s) l2.1) a j)
      (in-split (aways table n s) (aways table n t) a i)
  own-sent (S.Combine k total r ts es) f u y h o sent l a i =
      let t2 = both-true (are_alike ts) (are_distinct (variables_of ts)) y in
      sent-alone c n own own true same inner adds through k total r ts es h (goes-through total r ts t2.0 (split p (uses_of_targets ts) (uses_in_all es) u).0) a i
  own-sent (S.If k e s t) f u y h o sent l a i = absurd (none-away (S.If k e s t) f a i)
  own-sent S.Skip f u y h o sent l a i = absurd i
  own-sent (S.Declare k x e) f u y h o sent l a i = absurd i
  own-sent (S.DeclareEdge x z at) f u y h o sent l a i = absurd i
  own-sent (S.Assign k t e) f u y h o sent l a i = absurd i
  own-sent (S.Defer k t e) f u y h o sent l a i = absurd i
  own-sent (S.Group k at g q e) f u y h o sent l a i = absurd i
  own-sent (S.Foreach k at hd test body) f u y h o sent l a i = absurd i
  own-sent (S.For k at hd test body) f u y h o sent l a i = absurd i
  own-sent (S.While k at e body) f u y h o sent l a i = absurd i
  own-sent (S.Do k at body e) f u y h o sent l a i = absurd i
  own-sent (S.InBfs k at s test body) f u y h o sent l a i = absurd i
  own-sent (S.InBfsBoth k at s test body bk bt back) f u y h o sent l a i = absurd i
  own-sent (S.Return k at e) f u y h o sent l a i = absurd i

-- ---- loops that send along their edges

module _ (p : Program) (n i : ℕ) (apart : nat_eq i n ≡ false) (its js : List ℕ) (covers : Covers js its) (inner : Bool) where
  abbrev c2 : Layout
  c2 = layout p

  abbrev table2 : List Declaration
  table2 = p.declarations

  -- all are asked to be last
  abbrev pub all_asked : Away → Bool
  all_asked a = true

  abbrev pub along : Away → List Spot → Bool
  along a ys = is_sent_through c2 ys a a.targets

  abbrev edge_spots : Stmt → List Spot
  edge_spots st = spots_of c2 n its false st

  abbrev suit_edge : Stmt → Bool
  suit_edge st = suits_body table2 inner its st

  -- statements that do nothing
  nothing-away : (st : Stmt) → is_nothing st ≡ true → (a : Away) → IsIn a (aways table2 n st) → ⊥
  nothing-away (S.Then s t) h a j =
      let q = both-true (is_nothing s) (is_nothing t) h in ⊎_elim (λ (l : IsIn a (aways table2 n s)). nothing-away s q.0 a l) (λ (l : IsIn a (aways table2 n t)). nothing-away t q.1 a l) (in-split (aways table2 n s) (aways table2 n t) a j)
  nothing-away S.Skip h a j = j
  nothing-away (S.DeclareEdge x z at) h a j = j
  nothing-away (S.Combine k total r ts es) h a j = absurd (both_ways false refl h)
  nothing-away (S.If k e s t) h a j = absurd (both_ways false refl h)
  nothing-away (S.Declare k x e) h a j = j
  nothing-away (S.Assign k t e) h a j = j
  nothing-away (S.Defer k t e) h a j = j
  nothing-away (S.Group k at g q e) h a j = j
  nothing-away (S.Foreach k at hd test body) h a j = j
  nothing-away (S.For k at hd test body) h a j = j
  nothing-away (S.While k at e body) h a j = j
  nothing-away (S.Do k at body e) h a j = j
  nothing-away (S.InBfs k at s test body) h a j = j
  nothing-away (S.InBfsBoth k at s test body bk bt back) h a j = j
  nothing-away (S.Return k at e) h a j = j

  no-two : {A : Type 0} (xs ys : List A) → are_any xs ≡ false → are_any ys ≡ false → are_any (xs ++ ys) ≡ false
  no-two [] ys h k = k
  no-two (x ∷ xs) ys h k = absurd (both_ways true h refl)

  nothing-spots : (st : Stmt) → is_nothing st ≡ true → are_any (edge_spots st) ≡ false
  nothing-spots (S.Then s t) h = let q = both-true (is_nothing s) (is_nothing t) h in no-two (edge_spots s) (edge_spots t) (nothing-spots s q.0) (nothing-spots t q.1)
  nothing-spots S.Skip h = refl
  nothing-spots (S.DeclareEdge x z at) h = refl
  nothing-spots (S.Combine k total r ts es) h = absurd (both_ways false refl h)
  nothing-spots (S.If k e s t) h = absurd (both_ways false refl h)
  nothing-spots (S.Declare k x e) h = absurd (both_ways false refl h)
  nothing-spots (S.Assign k t e) h = absurd (both_ways false refl h)
  nothing-spots (S.Defer k t e) h = refl
  nothing-spots (S.Group k at g q e) h = refl
  nothing-spots (S.Foreach k at hd test body) h = refl
  nothing-spots (S.For k at hd test body) h = refl
  nothing-spots (S.While k at e body) h = refl
  nothing-spots (S.Do k at body e) h = refl
  nothing-spots (S.InBfs k at s test body) h = refl
  nothing-spots (S.InBfsBoth k at s test body bk bt back) h = refl
  nothing-spots (S.Return k at e) h = refl

  -- locals are not sent
  registers-stay : (ts : List Target) → list_all (is_scalar_of is_register table2) ts ≡ true → list_any (is_property_off n) ts ≡ false
  registers-stay [] h = refl
  registers-stay (T.Scalar x at ∷ ts) h = registers-stay ts (both-true (is_register (variable_at table2 x)) (list_all (is_scalar_of is_register table2) ts) h).1
  registers-stay (T.Property x q at ∷ ts) h = absurd (both_ways false refl h)

  gives-none : (st : Stmt) → gives_nothing table2 st ≡ true → (a : Away) → IsIn a (aways table2 n st) → ⊥
  gives-none (S.Then s t) h a j =
      let q = both-true (gives_nothing table2 s) (gives_nothing table2 t) h in ⊎_elim (λ (l : IsIn a (aways table2 n s)). gives-none s q.0 a l) (λ (l : IsIn a (aways table2 n t)). gives-none t q.1 a l) (in-split (aways table2 n s) (aways table2 n t) a j)
  gives-none (S.If k e s t) h a j =
      let q = both-true (gives_nothing table2 s) (gives_nothing table2 t) h in ⊎_elim (λ (l : IsIn a (aways table2 n s)). gives-none s q.0 a l) (λ (l : IsIn a (aways table2 n t)). gives-none t q.1 a l) (in-split (aways table2 n s) (aways table2 n t) a j)
  gives-none (S.Combine k total r ts es) h a j = stays p n inner ts (registers-stay ts h) (one-away (way_of table2 n ts) total r ts a j).0
  gives-none S.Skip h a j = j
  gives-none (S.DeclareEdge x z at) h a j = j
  gives-none (S.Declare k x e) h a j = j
  gives-none (S.Assign k t e) h a j = j
  gives-none (S.Defer k t e) h a j = j
  gives-none (S.Group k at g q e) h a j = j
  gives-none (S.Foreach k at hd test body) h a j = j
  gives-none (S.For k at hd test body) h a j = j
  gives-none (S.While k at e body) h a j = j
  gives-none (S.Do k at body e) h a j = j
  gives-none (S.InBfs k at s test body) h a j = j
  gives-none (S.InBfsBoth k at s test body bk bt back) h a j = j
  gives-none (S.Return k at e) h a j = j

  to-through : (ts : List Target) → list_all (is_property_of i) ts ≡ true → list_all (is_through i) ts ≡ true
  to-through [] h = refl
  to-through (T.Scalar x at ∷ ts) h = absurd (both_ways false refl h)
  to-through (T.Property x q at ∷ ts) h = let k = both-true (nat_eq x i) (list_all (is_property_of i) ts) h in and_from (nat_eq x i) (list_all (is_through i) ts) k.0 (to-through ts k.1)

  goes-along : (total : TotalKey) (r : Reduce) (ts : List Target) → fits_targets table2 r ts ≡ true → list_all (is_property_of i) ts ≡ true → Fine p (uses_of_targets ts)
      → (ys : List Spot) → list_any (is_same_spot (spot_of_total total)) ys ≡ true → (true ≡ true → list_all (λ s. not (spot_lt (spot_of_total total) s)) ys ≡ true)
      → along (record { total = total; reduce = r; targets = ts }) ys ≡ true
  goes-along total r [] y g u ys m l = absurd (both_ways false refl y)
  goes-along total r (T.Scalar x at ∷ ts) y g u ys m l = absurd (both_ways false refl g)
  goes-along total r (T.Property x q at ∷ ts) y g u ys m l =
      let all = T.Property x q at ∷ ts in
      let last = list_all (λ s. not (spot_lt (spot_of_total total) s)) ys in
      let k = both-true (nat_eq x i) (list_all (is_property_of i) ts) g in
      let thr : list_all (is_through x) all ≡ true = subst (λ z. list_all (is_through z) all ≡ true) (sym (eqb-true x i k.0)) (to-through all g) in
      and_from (list_all (is_kept_property c2 x) all) (list_any (is_same_spot (spot_of_total total)) ys && (not (can_overflow r) || last)) (all-kept p x all u thr)
      (and_from (list_any (is_same_spot (spot_of_total total)) ys) (not (can_overflow r) || last) m (or_right (not (can_overflow r)) last (l refl)))

  pub edge-sent : (result : Option VType) (st : Stmt) → gives_last table2 i st ≡ true → Fine p (uses_of st) → is_typed_in table2 result st ≡ true → suit_edge st ≡ true → body_in_order js st ≡ true
      → (a : Away) → IsIn a (aways table2 n st) → Sent all_asked along (edge_spots st) a
  edge-sent result (S.Then s t) g u y h o a j =
      let u2 = split p (uses_of s) (uses_of t) u in
      let y2 = both-true (is_typed_in table2 result s) (is_typed_in table2 result t) y in
      let h2 = both-true (suit_edge s) (suit_edge t) h in
      let o1 = both-true (body_in_order js s) (body_in_order js t && lie_before (faults_of js s) (faults_of js t)) o in
      let o2 = both-true (body_in_order js t) (lie_before (faults_of js s) (faults_of js t)) o1.1 in
      by (is_nothing t) refl g (λ e x l. edge-sent result s e u2.0 y2.0 h2.0 o1.0 x l) (λ e x l. sent-second c2 n its js false covers inner all_asked along s t o2.1 (edge-sent result t e u2.1 y2.1 h2.1 o2.0) x l) (in-split (aways table2 n s) (aways table2 n t) a j) where
        by : (b : Bool) → is_nothing t ≡ b → (if b then gives_last table2 i s else gives_nothing table2 s && gives_last table2 i t) ≡ true
            → (gives_last table2 i s ≡ true → (x : Away) → IsIn x (aways table2 n s) → Sent all_asked along (edge_spots s) x)
            → (gives_last table2 i t ≡ true → (x : Away) → IsIn x (aways table2 n t) → Sent all_asked along (edge_spots s ++ edge_spots t) x)
            → IsIn a (aways table2 n s) ⊎ IsIn a (aways table2 n t) → Sent all_asked along (edge_spots s ++ edge_spots t) a
        by true e k one two w =
            ⊎_elim (λ (l : IsIn a (aways table2 n s)). sent-before all_asked along (edge_spots s) (edge_spots t) a (one k a l) (λ y. nothing-spots t e)) (λ (l : IsIn a (aways table2 n t)). absurd (nothing-away t e a l)) w
        by false e k one two w =
            let q = both-true (gives_nothing table2 s) (gives_last table2 i t) k in
            ⊎_elim (λ (l : IsIn a (aways table2 n s)). absurd (gives-none s q.0 a l)) (λ (l : IsIn a (aways table2 n t)). two q.1 a l) w
  edge-sent result (S.Combine k total r ts es) g u y h o a j =
      let y2 = both-true (all_have_types table2 ts es) (fits_targets table2 r ts) y in
      sent-alone c2 n its js false covers inner all_asked along k total r ts es h (λ w. goes-along total r ts y2.1 g (split p (uses_of_targets ts) (uses_in_all es) u).0) a j
  edge-sent result (S.If k e s t) g u y h o a j =
      let u2 = split p (uses_of s) (uses_of t) (split p (uses_in e) (uses_of s ++ uses_of t) u).1 in
      let y2 = both-true (is_typed_in table2 result s) (is_typed_in table2 result t) (both-true (has_type table2 V.Flag e) (is_typed_in table2 result s && is_typed_in table2 result t) y).1 in
      let h2 = both-true (suit_edge s) (suit_edge t) (both-true (asks_inside table2 its e) (suit_edge s && suit_edge t) h).1 in
      let o1 = both-true (in_order e k) (body_in_order js s && (body_in_order js t && (lie_before (faults_in e k) (faults_of js s ++ faults_of js t) && lie_before (faults_of js s) (faults_of js t)))) o in
      let o2 = both-true (body_in_order js s) (body_in_order js t && (lie_before (faults_in e k) (faults_of js s ++ faults_of js t) && lie_before (faults_of js s) (faults_of js t))) o1.1 in
      let o3 = both-true (body_in_order js t) (lie_before (faults_in e k) (faults_of js s ++ faults_of js t) && lie_before (faults_of js s) (faults_of js t)) o2.1 in
      let o4 = both-true (lie_before (faults_in e k) (faults_of js s ++ faults_of js t)) (lie_before (faults_of js s) (faults_of js t)) o3.1 in
      let whole : Sent all_asked along (edge_spots s ++ edge_spots t) a =
      or-split (gives_last table2 i s && is_nothing t) (is_nothing s && gives_last table2 i t) g
      (λ q. let r = both-true (gives_last table2 i s) (is_nothing t) q in
      ⊎_elim (λ (l : IsIn a (aways table2 n s)). sent-before all_asked along (edge_spots s) (edge_spots t) a (edge-sent result s r.0 u2.0 y2.0 h2.0 o2.0 a l) (λ y. nothing-spots t r.1)) (λ (l : IsIn a (aways table2 n t)). absurd (nothing-away t r.1 a l))
      (in-split (aways table2 n s) (aways table2 n t) a j))
      (λ q. let r = both-true (is_nothing s) (gives_last table2 i t) q in
      ⊎_elim (λ (l : IsIn a (aways table2 n s)). absurd (nothing-away s r.0 a l))
      (λ (l : IsIn a (aways table2 n t)). sent-second c2 n its js false covers inner all_asked along s t o4.1 (edge-sent result t r.1 u2.1 y2.1 h2.1 o3.0) a l)
      (in-split (aways table2 n s) (aways table2 n t) a j)) in
      sent-behind all_asked along (spots_in e k) (edge_spots s ++ edge_spots t) a whole
      (λ z l. part-before c2 n its js false covers inner (faults_in e k) (faults_of js s ++ faults_of js t) z (spot_of_total a.total) o4.0 (expr-spots e k z l).1
      (⊎_elim (λ (w : IsIn (spot_of_total a.total) (edge_spots s)). in-left (faults_of js s) (faults_of js t) (total_fault a.total) (spots-within c2 n its js false covers inner s (spot_of_total a.total) w))
      (λ (w : IsIn (spot_of_total a.total) (edge_spots t)). in-right (faults_of js s) (faults_of js t) (total_fault a.total) (spots-within c2 n its js false covers inner t (spot_of_total a.total) w))
      (in-split (edge_spots s) (edge_spots t) (spot_of_total a.total) whole.there)))
  edge-sent result S.Skip g u y h o a j = absurd j
  edge-sent result (S.Declare k x e) g u y h o a j = absurd j
  edge-sent result (S.DeclareEdge x z at) g u y h o a j = absurd j
  edge-sent result (S.Assign k t e) g u y h o a j = absurd j
  edge-sent result (S.Defer k t e) g u y h o a j = absurd j
  edge-sent result (S.Group k at gr q e) g u y h o a j = absurd j
  edge-sent result (S.Foreach k at hd test body) g u y h o a j = absurd j
  edge-sent result (S.For k at hd test body) g u y h o a j = absurd j
  edge-sent result (S.While k at e body) g u y h o a j = absurd j
  edge-sent result (S.Do k at body e) g u y h o a j = absurd j
  edge-sent result (S.InBfs k at s test body) g u y h o a j = absurd j
  edge-sent result (S.InBfsBoth k at s test body bk bt back) g u y h o a j = absurd j
  edge-sent result (S.Return k at e) g u y h o a j = absurd j

  -- and there is one
  some-left : {A : Type 0} (xs ys : List A) → are_any xs ≡ true → are_any (xs ++ ys) ≡ true
  some-left [] ys h = absurd (both_ways false refl h)
  some-left (x ∷ xs) ys h = refl

  some-right : {A : Type 0} (xs ys : List A) → are_any ys ≡ true → are_any (xs ++ ys) ≡ true
  some-right [] ys h = h
  some-right (x ∷ xs) ys h = refl

  sends-along : (r : Reduce) (ts : List Target) → fits_targets table2 r ts ≡ true → list_all (is_property_of i) ts ≡ true → way_of table2 n ts ≡ Sends
  sends-along r [] y g = absurd (both_ways false refl y)
  sends-along r (T.Scalar x at ∷ ts) y g = absurd (both_ways false refl g)
  sends-along r (T.Property x q at ∷ ts) y g =
      let k = both-true (nat_eq x i) (list_all (is_property_of i) ts) g in
      by (nat_eq x n) (ap (λ z. nat_eq z n) (eqb-true x i k.0) ∙ apart) where
        by : (b : Bool) → b ≡ false → (if b && list_all (is_property_of n) ts then Folds else (if not b || list_any (is_property_off n) ts then Sends else Picks)) ≡ Sends
        by true e = absurd (both_ways true e refl)
        by false e = refl

  pub edge-some : (result : Option VType) (st : Stmt) → gives_last table2 i st ≡ true → is_typed_in table2 result st ≡ true → are_any (aways table2 n st) ≡ true
  edge-some result (S.Then s t) g y =
      let y2 = both-true (is_typed_in table2 result s) (is_typed_in table2 result t) y in
      by (is_nothing t) g (λ e. edge-some result s e y2.0) (λ e. edge-some result t e y2.1) where
        by : (b : Bool) → (if b then gives_last table2 i s else gives_nothing table2 s && gives_last table2 i t) ≡ true → (gives_last table2 i s ≡ true → are_any (aways table2 n s) ≡ true)
            → (gives_last table2 i t ≡ true → are_any (aways table2 n t) ≡ true) → are_any (aways table2 n s ++ aways table2 n t) ≡ true
        by true k one two = some-left (aways table2 n s) (aways table2 n t) (one k)
        by false k one two = some-right (aways table2 n s) (aways table2 n t) (two (both-true (gives_nothing table2 s) (gives_last table2 i t) k).1)
  edge-some result (S.Combine k total r ts es) g y = ap (λ w. are_any (away_by w total r ts)) (sends-along r ts (both-true (all_have_types table2 ts es) (fits_targets table2 r ts) y).1 g)
  edge-some result (S.If k e s t) g y =
      let y2 = both-true (is_typed_in table2 result s) (is_typed_in table2 result t) (both-true (has_type table2 V.Flag e) (is_typed_in table2 result s && is_typed_in table2 result t) y).1 in
      or-split (gives_last table2 i s && is_nothing t) (is_nothing s && gives_last table2 i t) g
      (λ q. some-left (aways table2 n s) (aways table2 n t) (edge-some result s (both-true (gives_last table2 i s) (is_nothing t) q).0 y2.0))
      (λ q. some-right (aways table2 n s) (aways table2 n t) (edge-some result t (both-true (is_nothing s) (gives_last table2 i t) q).1 y2.1))
  edge-some result S.Skip g y = absurd (both_ways false refl g)
  edge-some result (S.Declare k x e) g y = absurd (both_ways false refl g)
  edge-some result (S.DeclareEdge x z at) g y = absurd (both_ways false refl g)
  edge-some result (S.Assign k t e) g y = absurd (both_ways false refl g)
  edge-some result (S.Defer k t e) g y = absurd (both_ways false refl g)
  edge-some result (S.Group k at gr q e) g y = absurd (both_ways false refl g)
  edge-some result (S.Foreach k at hd test body) g y = absurd (both_ways false refl g)
  edge-some result (S.For k at hd test body) g y = absurd (both_ways false refl g)
  edge-some result (S.While k at e body) g y = absurd (both_ways false refl g)
  edge-some result (S.Do k at body e) g y = absurd (both_ways false refl g)
  edge-some result (S.InBfs k at s test body) g y = absurd (both_ways false refl g)
  edge-some result (S.InBfsBoth k at s test body bk bt back) g y = absurd (both_ways false refl g)
  edge-some result (S.Return k at e) g y = absurd (both_ways false refl g)
