-- A parted program whose inner loops have their statements apart means the same, and is parted.
use Rattle.std.proofs.Common.{◌≡◌, ◌<◌, ◌≤◌, ◌+◌, arith, ℕ, zero, suc, max, Bool, true, false, cond, List, [], ◌∷◌, ◌++◌, length, refl, sym, ap, subst, ◌∙◌, Option, Some, None, ◌⊎◌, ⊎_elim, inl, inr}
use Rattle.std.specs.Prelude.{◌&&◌, ◌||◌, not, nat_eq, nat_le, slice_get, option_map}
use Rattle.std.specs.List.{list_all}
use Rattle.std.proofs.lemmas.Bool.{both_ways, leb-true, le-leb}
use Rattle.gm_base.specs.declared.places.Place.{Place}
use Rattle.gm_value.specs.Bag.{IsIn}
use Rattle.gm_value.specs.declared.values.VType.{VType}
use Rattle.gm_ast.specs.declared.tree.Declaration.{Declaration}
use Rattle.gm_ast.specs.declared.tree.Head.{Head}
use Rattle.gm_ast.specs.declared.tree.Key.{Key}
use Rattle.gm_ast.specs.declared.tree.Target.{Target}
use Rattle.gm_ast.specs.declared.tree.Target.TheVariants as T
use Rattle.gm_ast.specs.Loops.{is_nodes}
use Rattle.gm_ast.specs.Program.{Expr, Stmt, Skip, Then, Declare, DeclareEdge, Assign, Defer, Combine, Group, Foreach, For, If, While, Do, InBfs, InBfsBoth, Return, Program}
use Rattle.gm_ast.specs.Ways.{is_in}
use Rattle.gm_semantics.specs.Frames.{MayReadBelow, AllReadBelow, TargetsBelow, NamesBelow}
use Rattle.gm_semantics.specs.Statements.{variable_or, variable_at}
use Rattle.gm_forms.specs.Cut.{touched, is_mask, is_own_loop, is_no_local, is_outer_local, spares_locals, knows_no_locals, mask_stays, has_plain_locals}
use Rattle.gm_forms.specs.Extends.{run_of, start_of}
use Rattle.gm_forms.specs.Forms.{depth_at, is_flat_loop, is_phase, is_told, no_loop}
use Rattle.gm_forms.specs.Meanings.{SameMeaning}
use Rattle.gm_forms.specs.Ready.{Ready2}
use Rattle.gm_forms.specs.Sharing.{told_in, reads_in, sights_in_option, sights_in_all, sights_of_target, sights_at_target, sights_by, sights_of, are_at_once, written, reduced, read_anywhere, kept_in, all_one, disjoint}
use Rattle.gm_forms.specs.Uses.{Iterates, has_role, suits, uses_of}
use Rattle.gm_forms.proofs.Doings.{in-left, in-right, in-either}
use Rattle.gm_forms.proofs.Named.{both-true, names-below}
use Rattle.gm_forms.proofs.Tables.{same-alike}
use Rattle.gm_forms.proofs.Weaker.{and-true}
use Rattle.gm_loop_laws.proofs.Chosen.{disjoint-apart, apart-disjoint}
use Rattle.gm_dissect.specs.Loops.{each_loop}
use Rattle.gm_dissect.proofs.DeferredLaws.{variable-longer, known-phase, longer}
use Rattle.gm_dissect.proofs.Kept.{Sound, phase-kept}
use Rattle.gm_dissect.proofs.Longer.{depth-same, sights-same, written-same, reduced-same}
use Rattle.gm_dissect.proofs.Phases.{phase-alike}
use Rattle.gm_dissect.proofs.Undeferred.{low-both, reads-low, sights-low, anywhere-low}
use Rattle.gm_cut.specs.Parts.{goes_any_way, stands_at_edges, stands_along, is_parted, each_passes, IsPartedBy}
use Rattle.gm_cut.specs.Slices.{goes_one_way}
use Rattle.gm_cut.proofs.Roles.{iterates-of}
use Rattle.gm_cut.proofs.LoopLaws.{parted-flat}
use Rattle.gm_parting.specs.Apart.{apart, apart_loop, ifs_inside, most_ifs, inner_flag, inner_flags, with_statements_apart}
use Rattle.gm_parting.specs.Numbers.{count_ifs}
use Rattle.gm_parting.proofs.ApartKept.{Flagged, New, told-apart, written-apart, touched-apart, properties-apart, reduced-apart, spares-apart, apart-replaces}
use Rattle.gm_parting.proofs.ApartLoops.{apart-alike}
use Rattle.gm_parting.proofs.Loops.{Test, sound-of, told-below, plain-longer, each-kept}
use Rattle.gm_parting.proofs.NodesKept.{loop-read, kept-below}
use Rattle.gm_parting.proofs.NodesRead.{Reads, as_it_is, within, replaced}

-- the greater of two numbers
max-left : (a b m : ℕ) → max a b ≤ m → a ≤ m
max-left a b m h = omega (arith, h)

max-right : (a b m : ℕ) → max a b ≤ m → b ≤ m
max-right a b m h = omega (arith, h)

-- ---- what a body tells is in the table

module _ (k : ℕ) (y : ℕ) where
  pub option-below : (e : Option Expr) → MayReadBelow k e → IsIn y (sights_in_option e).scalars → y < k
  option-below None h i = absurd i
  option-below (Some e) h i = told-below k e h y i

  pub all-below : (es : List Expr) → AllReadBelow k es → IsIn y (sights_in_all es).scalars → y < k
  all-below [] h i = absurd i
  all-below (e ∷ es) h i = ⊎_elim (told-below k e h.0 y) (all-below es h.1) (in-either y (told_in e) (sights_in_all es).scalars i)

  one-below : (x : ℕ) → x < k → IsIn y (x ∷ []) → y < k
  one-below x l i = ⊎_elim (λ (e : y ≡ x). subst (λ z. z < k) (sym e) l) (λ j. absurd j) i

  target-below : (t : Target) → TargetsBelow k (t ∷ []) → IsIn y (sights_of_target t).scalars → y < k
  target-below (T.Scalar x at) h i = absurd i
  target-below (T.Property x p at) h i = one-below x h.0.0 i

  held-below : (t : Target) → TargetsBelow k (t ∷ []) → IsIn y (sights_at_target t).scalars → y < k
  held-below (T.Scalar x at) h i = one-below x h.0 i
  held-below (T.Property x p at) h i = one-below x h.0.0 i

  targets-below : (o : Bool) (ts : List Target) → TargetsBelow k ts → IsIn y (sights_by (cond o sights_at_target sights_of_target) ts).scalars → y < k
  targets-below o [] h i = absurd i
  targets-below true (t ∷ ts) h i = ⊎_elim (held-below t (h.0, tt)) (targets-below true ts h.1) (in-either y (sights_at_target t).scalars (sights_by sights_at_target ts).scalars i)
  targets-below false (t ∷ ts) h i = ⊎_elim (target-below t (h.0, tt)) (targets-below false ts h.1) (in-either y (sights_of_target t).scalars (sights_by sights_of_target ts).scalars i)

  pub scalars-below : (ds : List Declaration) (n : ℕ) (inner : Bool) (s : Stmt) → NamesBelow k s → IsIn y (sights_of ds n inner s).scalars → y < k
  scalars-below ds n inner (Then a b) h i = ⊎_elim (scalars-below ds n inner a h.0) (scalars-below ds n inner b h.1) (in-either y (sights_of ds n inner a).scalars (sights_of ds n inner b).scalars i)
  scalars-below ds n inner (Declare q x e) h i = option-below e h.1 i
  scalars-below ds n inner (Assign q t e) h i = ⊎_elim (target-below t (h.0, tt)) (told-below k e h.1 y) (in-either y (sights_of_target t).scalars (told_in e) i)
  scalars-below ds n inner (Defer q t e) h i = ⊎_elim (target-below t (h.0, tt)) (told-below k e h.1 y) (in-either y (sights_of_target t).scalars (told_in e) i)
  scalars-below ds n inner (Combine q total r ts es) h i =
      ⊎_elim (targets-below (are_at_once ds n inner ts) ts h.0) (all-below es h.1) (in-either y (sights_by (cond (are_at_once ds n inner ts) sights_at_target sights_of_target) ts).scalars (sights_in_all es).scalars i)
  scalars-below ds n inner (If q c a b) h i =
      ⊎_elim (told-below k c h.0 y)
      (λ j. ⊎_elim (scalars-below ds n inner a h.1) (scalars-below ds n inner b h.2) (in-either y (sights_of ds n inner a).scalars (sights_of ds n inner b).scalars j))
      (in-either y (told_in c) ((sights_of ds n inner a).scalars ++ (sights_of ds n inner b).scalars) i)
  scalars-below ds n inner (Foreach q at hd test body) h i =
      ⊎_elim (λ (e : y ≡ hd.owner). subst (λ z. z < k) (sym e) h.1)
      (λ j. ⊎_elim (told-below k test h.2 y) (scalars-below ds n true body h.3) (in-either y (told_in test) (sights_of ds n true body).scalars j)) i
  scalars-below ds n inner s h i = absurd i

-- a test of all members
members : (f : ℕ → Bool) (xs : List ℕ) → ((y : ℕ) → IsIn y xs → f y ≡ true) → list_all f xs ≡ true
members f [] h = refl
members f (x ∷ xs) h = and-true (f x) (list_all f xs) (h x (inl refl)) (members f xs (λ y i. h y (inr i)))

member : (f : ℕ → Bool) (xs : List ℕ) (y : ℕ) → list_all f xs ≡ true → IsIn y xs → f y ≡ true
member f [] y h i = absurd i
member f (x ∷ xs) y h i = let r = both-true (f x) (list_all f xs) h in ⊎_elim (λ (e : y ≡ x). subst (λ z. f z ≡ true) (sym e) r.0) (λ j. member f xs y r.1 j) i

-- ---- a loop

module _ (ds dt : List Declaration) (same : (x : ℕ) → x < length ds → variable_at dt x ≡ variable_at ds x) (more : length ds ≤ length dt) (base top : ℕ) (low : length ds ≤ base) (rows : (y : ℕ) → base ≤ y → y < top → Flagged dt y) where
  -- a test of targets in a longer table
  outer-same : (ts : List Target) → TargetsBelow (length ds) ts → list_all (λ t. not (is_outer_local dt t)) ts ≡ list_all (λ t. not (is_outer_local ds t)) ts
  outer-same [] h = refl
  outer-same (T.Scalar x at ∷ ts) h = ap (λ d. not (nat_eq d 1) && list_all (λ t. not (is_outer_local dt t)) ts) (depth-same ds dt same more x h.0) ∙ ap (λ b. not (nat_eq (depth_at ds x) 1) && b) (outer-same ts h.1)
  outer-same (T.Property x p at ∷ ts) h = outer-same ts h.1

  two : (a b c d : Bool) → a ≡ c → b ≡ d → a && b ≡ c && d
  two a b c d e f = ap (λ x. x && b) e ∙ ap (λ x. c && x) f

  spares-same : (s : Stmt) → NamesBelow (length ds) s → spares_locals dt s ≡ spares_locals ds s
  spares-same (Then a b) h = two (spares_locals dt a) (spares_locals dt b) (spares_locals ds a) (spares_locals ds b) (spares-same a h.0) (spares-same b h.1)
  spares-same (Combine k total r ts es) h = outer-same ts h.0
  spares-same (If k c a b) h = two (spares_locals dt a) (spares_locals dt b) (spares_locals ds a) (spares_locals ds b) (spares-same a h.1) (spares-same b h.2)
  spares-same s h = refl

  module _ (res : Option VType) (key : Key) (here : Place) (hd : Head) (mask : Expr) (j : Key) (at : Place) (inner : Head) (test : Expr) (body : Stmt) (sound : Sound ds res (Foreach key here hd mask (Foreach j at inner test body))) where
    abbrev n : ℕ
    n = hd.iterator

    abbrev t : ℕ
    t = inner.iterator

    abbrev its : List ℕ
    its = n ∷ (t ∷ [])

    abbrev k : ℕ
    k = length ds

    below : NamesBelow k (Foreach key here hd mask (Foreach j at inner test body))
    below = names-below ds (Foreach key here hd mask (Foreach j at inner test body)) sound.named

    iterates : has_role (variable_at ds n) Iterates ≡ true
    iterates = iterates-of ds key here hd mask (Foreach j at inner test body) sound.named

    not-new : (z : ℕ) → z < k → New ds dt z → ⊥
    not-new z b e = let high = e.high in omega (arith, b, high)

    abbrev told : List ℕ
    told = told_in mask ++ (told_in test ++ (sights_of ds n true body).scalars)

    told-low : (z : ℕ) → IsIn z told → z < k
    told-low z i =
        ⊎_elim (told-below k mask below.2 z)
        (λ r. ⊎_elim (told-below k test below.3.2 z) (scalars-below k z ds n true body below.3.3) (in-either z (told_in test) (sights_of ds n true body).scalars r)) (in-either z (told_in mask) (told_in test ++ (sights_of ds n true body).scalars) i)

    -- the same of the body as it is
    stands-same : stands_at_edges ds n mask inner test body ≡ true → stands_at_edges dt n mask inner test body ≡ true
    stands-same e =
        let one = all_one (reduced ds n true body) in
        let one' = all_one (reduced dt n true body) in
        let a = both-true (knows_no_locals ds n t mask test body) (mask_stays n mask inner body && (has_plain_locals ds n test body && one)) e in
        let b = both-true (mask_stays n mask inner body) (has_plain_locals ds n test body && one) a.1 in
        let c = both-true (has_plain_locals ds n test body) one b.1 in
        let r = both-true (list_all (is_no_local ds its) told) (spares_locals ds body) a.0 in
        let told' = told_in mask ++ (told_in test ++ (sights_of dt n true body).scalars) in
        let around = λ (d : List Declaration). read_anywhere (reads_in test ++ (sights_of d n true body).properties) ++ kept_in (reduced d n true body) in
        and-true (knows_no_locals dt n t mask test body) (mask_stays n mask inner body && (has_plain_locals dt n test body && one'))
        (and-true (list_all (is_no_local dt its) told') (spares_locals dt body)
        (ap (λ v. list_all (is_no_local dt its) (told_in mask ++ (told_in test ++ v.scalars))) (sights-same ds dt same more n true body below.3.3) ∙ plain-longer ds dt same more its told told-low r.0) (spares-same body below.3.3 ∙ r.1))
        (and-true (mask_stays n mask inner body) (has_plain_locals dt n test body && one') b.0
        (and-true (has_plain_locals dt n test body) one'
        (ap (λ v. disjoint (written dt n true body) (read_anywhere (reads_in test ++ v.properties) ++ kept_in (reduced dt n true body))) (sights-same ds dt same more n true body below.3.3)
        ∙ ap (λ r. disjoint (written dt n true body) (read_anywhere (reads_in test ++ (sights_of ds n true body).properties) ++ kept_in r)) (reduced-same ds dt same more n true body below.3.3)
        ∙ ap (λ w. disjoint w (around ds)) (written-same ds dt same more n true body below.3.3) ∙ c.0) (ap all_one (reduced-same ds dt same more n true body below.3.3) ∙ c.1)))

    module _ (y : ℕ) (l : base ≤ y) (h : y + count_ifs body ≤ top) where
      abbrev body' : Stmt
      body' = apart at y body

      reads : Reads ds dt 1 (Foreach j at inner test body) (Foreach j at inner test body')
      reads = within 1 j at inner test body body' (replaced 2 body body' (λ e. omega (arith, e)) (apart-replaces ds dt base top low rows at y body l h))

      pub loop-apart : Sound dt res (Foreach key here hd mask (Foreach j at inner test body'))
      loop-apart = loop-read ds dt same more res key here hd mask (Foreach j at inner test body) (Foreach j at inner test body') sound reads

      abbrev telling : List ℕ
      telling = told_in mask ++ (told_in test ++ (sights_of dt n true body').scalars)

      telling-of : (z : ℕ) → IsIn z telling → IsIn z told ⊎ New ds dt z
      telling-of z i =
          let seen = (sights_of ds n true body).scalars in
          ⊎_elim (λ m. inl (in-left z (told_in mask) (told_in test ++ seen) m))
          (λ r. ⊎_elim (λ m. inl (in-right z (told_in mask) (told_in test ++ seen) (in-left z (told_in test) seen m)))
          (λ m. ⊎_elim (λ o. inl (in-right z (told_in mask) (told_in test ++ seen) (in-right z (told_in test) seen (subst (λ s. IsIn z s.scalars) (sights-same ds dt same more n true body below.3.3) o)))) (λ e. inr e)
          (told-apart ds dt base top low rows at n true y body l h z m)) (in-either z (told_in test) (sights_of dt n true body').scalars r)) (in-either z (told_in mask) (told_in test ++ (sights_of dt n true body').scalars) i)

      no-local-new : (z : ℕ) → New ds dt z → is_no_local dt its z ≡ true
      no-local-new z e = ap (λ d. is_in its z || not (nat_eq d 1)) e.deep ∙ or-true (is_in its z)
        where
          or-true : (b : Bool) → b || true ≡ true
          or-true true = refl
          or-true false = refl

      knows : knows_no_locals ds n t mask test body ≡ true → knows_no_locals dt n t mask test body' ≡ true
      knows e =
          let r = both-true (list_all (is_no_local ds its) told) (spares_locals ds body) e in
          let plain = plain-longer ds dt same more its told told-low r.0 in
          and-true (list_all (is_no_local dt its) telling) (spares_locals dt body')
          (members (is_no_local dt its) telling (λ z i. ⊎_elim (λ m. member (is_no_local dt its) told z plain m) (no-local-new z) (telling-of z i)))
          (spares-apart ds dt base top low rows at y body ∙ spares-same body below.3.3 ∙ r.1)

      stays : mask_stays n mask inner body ≡ true → mask_stays n mask inner body' ≡ true
      stays e =
          let kept = n ∷ (t ∷ (read_anywhere (reads_in mask) ++ told_in mask)) in
          let last = not (is_in (told_in mask) t) in
          let r = both-true (disjoint (touched body) kept) last e in
          let kept-low : (z : ℕ) → IsIn z kept → z < k = λ z i.
          ⊎_elim (λ (f : z ≡ n). subst (λ w. w < k) (sym f) below.0)
          (λ i. ⊎_elim (λ (f : z ≡ t). subst (λ w. w < k) (sym f) below.3.0)
          (λ i. ⊎_elim (anywhere-low k (reads_in mask) z (reads-low k mask below.2)) (told-below k mask below.2 z) (in-either z (read_anywhere (reads_in mask)) (told_in mask) i)) i) i in
          and-true (disjoint (touched body') kept) last
          (apart-disjoint (touched body') kept (λ z i m. ⊎_elim (λ o. disjoint-apart (touched body) kept z r.0 o m) (λ f. not-new z (kept-low z m) f) (touched-apart ds dt base top low rows at y body l h z i))) r.1

      plain : has_plain_locals ds n test body ≡ true → has_plain_locals dt n test body' ≡ true
      plain e =
          let around = λ (d : List Declaration) (s : Stmt). read_anywhere (reads_in test ++ (sights_of d n true s).properties) ++ kept_in (reduced d n true s) in
          let first : around dt body ≡ around ds body =
          ap (λ s. read_anywhere (reads_in test ++ s.properties) ++ kept_in (reduced dt n true body)) (sights-same ds dt same more n true body below.3.3)
          ∙ ap (λ r. read_anywhere (reads_in test ++ (sights_of ds n true body).properties) ++ kept_in r) (reduced-same ds dt same more n true body below.3.3) in
          let second : around dt body' ≡ around dt body =
          ap (λ s. read_anywhere (reads_in test ++ s) ++ kept_in (reduced dt n true body')) (properties-apart ds dt base top low rows at n true y body)
          ∙ ap (λ r. read_anywhere (reads_in test ++ (sights_of dt n true body).properties) ++ kept_in r) (reduced-apart ds dt base top low rows at n true y body) in
          let props = reads_in test ++ (sights_of dt n true body).properties in
          let around-low : (z : ℕ) → IsIn z (around dt body) → z < k = λ z i.
          ⊎_elim (anywhere-low k props z (low-both k (reads_in test) (sights_of dt n true body).properties (reads-low k test below.3.2) (sights-low k dt n true body below.3.3)))
          (kept-below ds dt same more n below.0 iterates true body z below.3.3) (in-either z (read_anywhere props) (kept_in (reduced dt n true body)) i) in
          apart-disjoint (written dt n true body') (around dt body') (λ z i m.
          let o = subst (IsIn z) second m in
          ⊎_elim (λ w. disjoint-apart (written ds n true body) (around ds body) z e (subst (IsIn z) (written-same ds dt same more n true body below.3.3) w) (subst (IsIn z) first o)) (λ f. not-new z (around-low z o) f)
          (written-apart ds dt base top low rows at n true y body l h z i))

      stands : stands_at_edges ds n mask inner test body ≡ true → stands_at_edges dt n mask inner test body' ≡ true
      stands e =
          let one = all_one (reduced ds n true body) in
          let one' = all_one (reduced dt n true body') in
          let a = both-true (knows_no_locals ds n t mask test body) (mask_stays n mask inner body && (has_plain_locals ds n test body && one)) e in
          let b = both-true (mask_stays n mask inner body) (has_plain_locals ds n test body && one) a.1 in
          let c = both-true (has_plain_locals ds n test body) one b.1 in
          and-true (knows_no_locals dt n t mask test body') (mask_stays n mask inner body' && (has_plain_locals dt n test body' && one')) (knows a.0)
          (and-true (mask_stays n mask inner body') (has_plain_locals dt n test body' && one') (stays b.0)
          (and-true (has_plain_locals dt n test body') one' (plain c.0) (ap all_one (reduced-apart ds dt base top low rows at n true y body ∙ reduced-same ds dt same more n true body below.3.3) ∙ c.1)))

      pub parted-apart : is_parted goes_any_way ds n mask (Foreach j at inner test body) ≡ true → is_parted goes_any_way dt n mask (Foreach j at inner test body') ≡ true
      parted-apart e =
          let flat = is_flat_loop dt false n mask (Foreach j at inner test body') in
          let a = both-true (is_flat_loop ds false n mask (Foreach j at inner test body)) (is_mask n mask && stands_at_edges ds n mask inner test body) e in
          let b = both-true (is_mask n mask) (stands_at_edges ds n mask inner test body) a.1 in
          and-true flat (is_mask n mask && stands_at_edges dt n mask inner test body') (both-true (is_nodes hd.domain) flat loop-apart.form).1
          (and-true (is_mask n mask) (stands_at_edges dt n mask inner test body') b.0 (stands b.1))

  -- a loop as it is
  module _ (res : Option VType) (key : Key) (here : Place) (hd : Head) (mask : Expr) (body : Stmt) (sound : Sound ds res (Foreach key here hd mask body)) where
    pub loop-same : Sound dt res (Foreach key here hd mask body)
    loop-same = loop-read ds dt same more res key here hd mask body body sound (as_it_is 1 body)

  module _ (res : Option VType) (key : Key) (here : Place) (hd : Head) (mask : Expr) where
    same-along : (body : Stmt) → Sound ds res (Foreach key here hd mask body) → stands_along goes_any_way ds hd.iterator mask body ≡ true → stands_along goes_any_way dt hd.iterator mask body ≡ true
    same-along (Foreach j at inner test body) sound e = stands-same res key here hd mask j at inner test body sound e
    same-along s sound e = absurd (both_ways false refl e)

    pub parted-same : (body : Stmt) → Sound ds res (Foreach key here hd mask body) → is_parted goes_any_way ds hd.iterator mask body ≡ true → is_parted goes_any_way dt hd.iterator mask body ≡ true
    parted-same body sound e =
        let n = hd.iterator in
        let own = is_own_loop n body in
        let flat = is_flat_loop dt false n mask body in
        let a = both-true (is_flat_loop ds false n mask body) (own || (is_mask n mask && stands_along goes_any_way ds n mask body)) e in
        and-true flat (own || (is_mask n mask && stands_along goes_any_way dt n mask body)) (both-true (is_nodes hd.domain) flat (loop-same res key here hd mask body sound).form).1 (by own a.1)
      where
        by : (o : Bool) → o || (is_mask hd.iterator mask && stands_along goes_any_way ds hd.iterator mask body) ≡ true → o || (is_mask hd.iterator mask && stands_along goes_any_way dt hd.iterator mask body) ≡ true
        by true h = refl
        by false h =
            let r = both-true (is_mask hd.iterator mask) (stands_along goes_any_way ds hd.iterator mask body) h in
            and-true (is_mask hd.iterator mask) (stands_along goes_any_way dt hd.iterator mask body) r.0 (same-along body sound r.1)

-- ---- the table

table-length : (ds : List Declaration) (n : ℕ) → length (ds ++ inner_flags n) ≡ length ds + n
table-length [] zero = refl
table-length [] (suc n) = let e = table-length [] n in omega (arith, e)
table-length (x ∷ ds) n = let e = table-length ds n in omega (arith, e)

get-flag : (ds : List Declaration) (n y : ℕ) → length ds ≤ y → y < length ds + n → slice_get (ds ++ inner_flags n) y ≡ Some inner_flag
get-flag [] zero y l h = absurd (omega (arith, l, h))
get-flag [] (suc n) zero l h = refl
get-flag [] (suc n) (suc y) l h = get-flag [] n y (omega arith) (omega (arith, h))
get-flag (x ∷ ds) n zero l h = absurd (omega (arith, l))
get-flag (x ∷ ds) n (suc y) l h = get-flag ds n y (omega (arith, l)) (omega (arith, h))

-- ds: the table; m: at least as many Ifs as an inner body has
module _ (ds : List Declaration) (m : ℕ) where
  abbrev pub dt : List Declaration
  dt = ds ++ inner_flags m

  more-rows : length ds ≤ length dt
  more-rows = let e = table-length ds m in omega (arith, e)

  same-rows : (x : ℕ) → x < length ds → variable_at dt x ≡ variable_at ds x
  same-rows x h = variable-longer ds (inner_flags m) x h

  flags : (y : ℕ) → length ds ≤ y → y < length ds + m → Flagged dt y
  flags y l h = let e = table-length ds m in record {
    inside = omega (arith, e, h);
    is = ap (λ o. variable_or (option_map (λ (d : Declaration). d.variable) o)) (get-flag ds m y l h);
  }

  abbrev making : Key → Place → Head → Expr → Stmt → Stmt
  making = apart_loop ds (length ds)

  -- a loop whose inner body has no more than so many
  abbrev tried : Key → Place → Head → Expr → Stmt → Stmt
  tried k at h mask body = cond (nat_le (ifs_inside body) m) (making k at h mask body) (Foreach k at h mask body)

  tried-all : (s : Stmt) → most_ifs s ≤ m → each_loop making s ≡ each_loop tried s
  tried-all (Then a b) l = ap (λ x. Then x (each_loop making b)) (tried-all a (max-left (most_ifs a) (most_ifs b) m l)) ∙ ap (Then (each_loop tried a)) (tried-all b (max-right (most_ifs a) (most_ifs b) m l))
  tried-all (Foreach k at hd mask body) l = ap (λ b. cond b (making k at hd mask body) (Foreach k at hd mask body)) (sym (le-leb (ifs_inside body) m l))
  tried-all (For k at hd test body) l = ap (For k at hd test) (tried-all body l)
  tried-all (If k c a b) l = ap (λ x. If k c x (each_loop making b)) (tried-all a (max-left (most_ifs a) (most_ifs b) m l)) ∙ ap (If k c (each_loop tried a)) (tried-all b (max-right (most_ifs a) (most_ifs b) m l))
  tried-all (While k at c body) l = ap (While k at c) (tried-all body l)
  tried-all (Do k at body c) l = ap (λ s. Do k at s c) (tried-all body l)
  tried-all s l = refl

  abbrev parted-in : List Declaration → Test
  parted-in d k at h mask body = is_parted goes_any_way d h.iterator mask body

  module _ (res : Option VType) (k : Key) (at : Place) (hd : Head) (mask : Expr) where
    abbrev first : ℕ
    first = length ds

    made-kept : (body : Stmt) → Sound ds res (Foreach k at hd mask body) → ifs_inside body ≤ m → Sound dt res (making k at hd mask body)
    made-kept (Foreach j here inner test body) s l = by (goes_one_way ds hd.iterator inner test body)
      where
        by : (o : Bool) → Sound dt res (Foreach k at hd mask (Foreach j here inner test (cond o body (apart here (length ds) body))))
        by true = loop-same ds dt same-rows more-rows (length ds) (length ds + m) (omega arith) flags res k at hd mask (Foreach j here inner test body) s
        by false = loop-apart ds dt same-rows more-rows (length ds) (length ds + m) (omega arith) flags res k at hd mask j here inner test body s (length ds) (omega arith) (omega (arith, l))
    made-kept body s l = loop-same ds dt same-rows more-rows (length ds) (length ds + m) (omega arith) flags res k at hd mask body s

    made-parted : (body : Stmt) → Sound ds res (Foreach k at hd mask body) → ifs_inside body ≤ m → parted-in ds k at hd mask body ≡ true → each_passes (parted-in dt) (making k at hd mask body) ≡ true
    made-parted (Foreach j here inner test body) s l e = by (goes_one_way ds hd.iterator inner test body)
      where
        by : (o : Bool) → is_parted goes_any_way dt hd.iterator mask (Foreach j here inner test (cond o body (apart here (length ds) body))) ≡ true
        by true = parted-same ds dt same-rows more-rows (length ds) (length ds + m) (omega arith) flags res k at hd mask (Foreach j here inner test body) s e
        by false = parted-apart ds dt same-rows more-rows (length ds) (length ds + m) (omega arith) flags res k at hd mask j here inner test body s (length ds) (omega arith) (omega (arith, l)) e
    made-parted body s l e = parted-same ds dt same-rows more-rows (length ds) (length ds + m) (omega arith) flags res k at hd mask body s e

    tried-kept : (body : Stmt) → Sound ds res (Foreach k at hd mask body) → Sound dt res (tried k at hd mask body)
    tried-kept body s = by (nat_le (ifs_inside body) m) refl
      where
        by : (b : Bool) → nat_le (ifs_inside body) m ≡ b → Sound dt res (cond b (making k at hd mask body) (Foreach k at hd mask body))
        by true e = made-kept body s (leb-true (ifs_inside body) m e)
        by false e = loop-same ds dt same-rows more-rows (length ds) (length ds + m) (omega arith) flags res k at hd mask body s

    tried-parted : (body : Stmt) → Sound ds res (Foreach k at hd mask body) → parted-in ds k at hd mask body ≡ true → each_passes (parted-in dt) (tried k at hd mask body) ≡ true
    tried-parted body s p = by (nat_le (ifs_inside body) m) refl
      where
        by : (b : Bool) → nat_le (ifs_inside body) m ≡ b → each_passes (parted-in dt) (cond b (making k at hd mask body) (Foreach k at hd mask body)) ≡ true
        by true e = made-parted body s (leb-true (ifs_inside body) m e) p
        by false e = parted-same ds dt same-rows more-rows (length ds) (length ds + m) (omega arith) flags res k at hd mask body s p

-- ---- phases whose loops are parted

module _ (ds : List Declaration) where
  abbrev before : Stmt → Bool
  before s = is_phase (is_parted goes_any_way ds) no_loop ds s

  abbrev flat : Stmt → Bool
  flat s = is_phase (is_flat_loop ds false) no_loop ds s

  abbrev each : Stmt → Bool
  each s = each_passes (λ k at h mask body. is_parted goes_any_way ds h.iterator mask body) s

  each-parted : (s : Stmt) → before s ≡ true → each s ≡ true
  each-parted (Then a b) h = let r = both-true (before a) (before b) h in and-true (each a) (each b) (each-parted a r.0) (each-parted b r.1)
  each-parted (Foreach k at hd mask body) h = (both-true (is_nodes hd.domain) (is_parted goes_any_way ds hd.iterator mask body) h).1
  each-parted (For k at hd test body) h = each-parted body (both-true (is_told test) (before body) h).1
  each-parted (If k c a b) h = let r = both-true (before a) (before b) (both-true (is_told c) (before a && before b) h).1 in and-true (each a) (each b) (each-parted a r.0) (each-parted b r.1)
  each-parted (While k at c body) h = each-parted body (both-true (is_told c) (before body) h).1
  each-parted (Do k at body c) h = each-parted body (both-true (before body) (is_told c) h).0
  each-parted s h = refl

  parted-each : (s : Stmt) → flat s ≡ true → each s ≡ true → before s ≡ true
  parted-each Skip f h = refl
  parted-each (Then a b) f h =
      let r = both-true (flat a) (flat b) f in
      let q = both-true (each a) (each b) h in
      and-true (before a) (before b) (parted-each a r.0 q.0) (parted-each b r.1 q.1)
  parted-each (Declare k x None) f h = f
  parted-each (Declare k x (Some e)) f h = f
  parted-each (DeclareEdge x y at) f h = f
  parted-each (Assign k (T.Scalar x at) e) f h = f
  parted-each (Assign k (T.Property x p at) e) f h = f
  parted-each (Defer k t e) f h = f
  parted-each (Combine k total r ts es) f h = f
  parted-each (Group k at g p e) f h = f
  parted-each (Foreach k at hd mask body) f h = and-true (is_nodes hd.domain) (is_parted goes_any_way ds hd.iterator mask body) (both-true (is_nodes hd.domain) (is_flat_loop ds false hd.iterator mask body) f).0 h
  parted-each (For k at hd test body) f h = let r = both-true (is_told test) (flat body) f in and-true (is_told test) (before body) r.0 (parted-each body r.1 h)
  parted-each (If k c a b) f h =
      let r = both-true (is_told c) (flat a && flat b) f in
      let p = both-true (flat a) (flat b) r.1 in
      let q = both-true (each a) (each b) h in
      and-true (is_told c) (before a && before b) r.0 (and-true (before a) (before b) (parted-each a p.0 q.0) (parted-each b p.1 q.1))
  parted-each (While k at c body) f h = let r = both-true (is_told c) (flat body) f in and-true (is_told c) (before body) r.0 (parted-each body r.1 h)
  parted-each (Do k at body c) f h = let r = both-true (flat body) (is_told c) f in and-true (before body) (is_told c) (parted-each body r.0 h) r.1
  parted-each (InBfs k at s test body) f h = f
  parted-each (InBfsBoth k at s test body back_key back_test back) f h = f
  parted-each (Return k at e) f h = f

-- ---- programs

-- a parted program is ready for cutting
flat-ready : (p : Program) → IsPartedBy goes_any_way p → Ready2 p
flat-ready p r = record { sane = r.sane; form = parted-flat p.declarations p.result p.body r.form }

-- the program means the same
pub same-apart : (p : Program) → IsPartedBy goes_any_way p → SameMeaning p (with_statements_apart p)
same-apart p r =
    let ready = flat-ready p r in
    let known = known-phase p ready in
    let ds = p.declarations in
    let q = with_statements_apart p in
    same-alike (length ds) p q (longer p (inner_flags (most_ifs p.body)) q ready refl) (names-below ds p.body known.named)
    (λ g args bound fits.
    let run = run_of q g bound in
    phase-alike ds run (apart_loop ds (length ds)) (apart-alike ds run (length ds) (omega arith)) p.body known (start_of q g args) (start_of q g args)
    (record { store = record { scalar = λ y b. refl; node = λ y n b. refl; edge = λ y n b. refl }; turns = refl }))

-- and is parted
pub parted-apart-still : (p : Program) → IsPartedBy goes_any_way p → IsPartedBy goes_any_way (with_statements_apart p)
parted-apart-still p r =
    let ds = p.declarations in
    let m = most_ifs p.body in
    let q = with_statements_apart p in
    let named = both-true (nat_le (p.inputs + p.outputs) (length ds)) (list_all (suits ds) (uses_of p.body)) r.sane.named in
    let sound = sound-of p (flat-ready p r) in
    let kept : Sound (dt ds m) p.result (each_loop (making ds m) p.body) =
    subst (Sound (dt ds m) p.result) (sym (tried-all ds m p.body (omega arith))) (phase-kept ds (dt ds m) (same-rows ds m) (more-rows ds m) p.result (tried ds m) (tried-kept ds m p.result) p.body sound) in
    let still : each_passes (parted-in ds m (dt ds m)) (each_loop (making ds m) p.body) ≡ true =
    subst (λ s. each_passes (parted-in ds m (dt ds m)) s ≡ true) (sym (tried-all ds m p.body (omega arith)))
    (each-kept ds p.result (parted-in ds m ds) (parted-in ds m (dt ds m)) (tried ds m) (tried-parted ds m p.result) p.body sound (each-parted ds p.body r.form)) in
    let within = leb-true (p.inputs + p.outputs) (length ds) named.0 in
    let size = more-rows ds m in
    record {
      sane = record {
        named = and-true (nat_le (p.inputs + p.outputs) (length q.declarations)) (list_all (suits q.declarations) (uses_of q.body)) (le-leb (p.inputs + p.outputs) (length q.declarations) (omega (arith, within, size))) kept.named;
        typed = kept.typed;
        ordered = kept.order;
        race_free = kept.share;
      };
      form = parted-each (dt ds m) (each_loop (making ds m) p.body) kept.form still;
    }
