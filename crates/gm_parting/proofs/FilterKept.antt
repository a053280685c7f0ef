-- A loop that saves its filter keeps what every pass keeps, and its form.
use Rattle.std.proofs.Common.{◌≡◌, ◌<◌, ◌≤◌, arith, ℕ, Bool, true, false, cond, List, [], ◌∷◌, ◌++◌, length, refl, ap, subst, ◌∙◌, Option, Some, ⊎_elim}
use Rattle.std.specs.Prelude.{◌&&◌, ◌||◌, not, nat_eq, nat_lt}
use Rattle.std.specs.List.{list_all}
use Rattle.std.proofs.lemmas.Bool.{eq-eqb, lt-ltb}
use Rattle.gm_base.specs.declared.places.Place.{Place}
use Rattle.gm_value.specs.Bag.{IsIn}
use Rattle.gm_value.specs.declared.values.VType.{VType}
use Rattle.gm_value.specs.declared.values.VType.TheVariants as V
use Rattle.gm_ast.specs.declared.tree.Declaration.{Declaration}
use Rattle.gm_ast.specs.declared.tree.Head.{Head}
use Rattle.gm_ast.specs.declared.tree.Key.{Key}
use Rattle.gm_ast.specs.declared.tree.Target.{Target}
use Rattle.gm_ast.specs.declared.tree.Target.TheVariants as T
use Rattle.gm_ast.specs.declared.tree.Variable.{Variable}
use Rattle.gm_ast.specs.Loops.{is_nodes}
use Rattle.gm_ast.specs.Program.{Expr, Property, always, Stmt, Skip, Then, Assign, Combine, Foreach, If, sequence}
use Rattle.gm_semantics.specs.Frames.{NamesBelow}
use Rattle.gm_semantics.specs.Statements.{variable_at}
use Rattle.gm_forms.specs.Cut.{touched}
use Rattle.gm_forms.specs.Forms.{is_flat, is_outer_body, is_flat_loop}
use Rattle.gm_forms.specs.Order.{first_key, cannot_fail, fault_if, hoisted_in, faults_in, in_order, faults_of, target_faults, are_numbered, leads, lie_before, body_in_order, loop_in_order, begins}
use Rattle.gm_forms.specs.Sharing.{Read, Reduced, reads_in, told_in, sights_of, is_owned, are_at_once, variables_of, variables_where, written_by, written, reduced_by, reduced, deferred, inners_share, targets_alike, read_anywhere, read_elsewhere, shared_in, kept_in, disjoint, all_agree, shares}
use Rattle.gm_forms.specs.Typing.{type_at, is_type, has_type, is_typed_in}
use Rattle.gm_forms.specs.Uses.{Role, Iterates, Owner, NodeValue, has_role, use_as, owner_role, suits, uses_in, uses_of_head, uses_of}
use Rattle.gm_forms.proofs.Doings.{in-left, in-right, in-either}
use Rattle.gm_forms.proofs.Leading.{flat-hoisted, flat-in-order, flat-under, nothing-first, numbered-second, safe-faults, first-stands, under-numbered}
use Rattle.gm_forms.proofs.Named.{both-true, all-append, names-below}
use Rattle.gm_forms.proofs.Weaker.{and-true}
use Rattle.gm_loop_laws.proofs.Chosen.{disjoint-apart, apart-disjoint}
use Rattle.gm_dissect.proofs.DeferredKept.{owns, length-one, last-variable}
use Rattle.gm_dissect.proofs.DeferredLaws.{variable-longer}
use Rattle.gm_dissect.proofs.DeferredLoops.{use-of, either-true}
use Rattle.gm_dissect.proofs.Kept.{Sound, sound-then, sound-skip}
use Rattle.gm_dissect.proofs.Longer.{all-suit, typed-same, shares-same, outer-body-same}
use Rattle.gm_dissect.proofs.Undeferred.{append-true, shared-below, reads-low, elsewhere-low}
use Rattle.gm_cut.proofs.Roles.{touched-apart}
use Rattle.gm_cut.proofs.Shared.{Under, under-both, fewer-apart, elsewhere-split, anywhere-split, listed-second, shared-split}
use Rattle.gm_parting.specs.Filters.{flag_property, saves_filter, filter_saved, filtered_loop}

-- ---- what is shared is touched

module _ (ds : List Declaration) (n : ℕ) where
  some-variables : (f : Target → Bool) (ts : List Target) → Under (variables_where f ts) (variables_of ts)
  some-variables f [] y i = absurd i
  some-variables f (t ∷ ts) y i = by (f t) (some-variables f ts y) i
    where
      by : (b : Bool) → (IsIn y (variables_where f ts) → IsIn y (variables_of ts)) → IsIn y (cond b (written_by t ++ variables_where f ts) (variables_where f ts)) → IsIn y (written_by t ++ variables_of ts)
      by true rest i = ⊎_elim (λ j. in-left y (written_by t) (variables_of ts) j) (λ j. in-right y (written_by t) (variables_of ts) (rest j)) (in-either y (written_by t) (variables_where f ts) i)
      by false rest i = in-right y (written_by t) (variables_of ts) (rest i)

  pub shared-touched : (inner : Bool) (s : Stmt) → Under (shared_in (reduced ds n inner s)) (touched s)
  shared-touched inner (Then a b) = λ y i.
      let A = reduced ds n inner a in
      let B = reduced ds n inner b in
      under-both (shared_in A) (shared_in B) (touched a) (touched b) (shared-touched inner a) (shared-touched inner b) y (subst (IsIn y) (shared-split A B) i)
  shared-touched inner (If k c a b) = λ y i.
      let A = reduced ds n inner a in
      let B = reduced ds n inner b in
      under-both (shared_in A) (shared_in B) (touched a) (touched b) (shared-touched inner a) (shared-touched inner b) y (subst (IsIn y) (shared-split A B) i)
  shared-touched inner (Foreach k at hd test body) = shared-touched true body
  shared-touched inner (Combine k total r ts es) = λ y i. by (are_at_once ds n inner ts) y i
    where
      by : (b : Bool) (y : ℕ) → IsIn y (shared_in (cond b [] (reduced_by ds n total.key.statement r ts ∷ []))) → IsIn y (variables_of ts)
      by true y i = absurd i
      by false y i =
          ⊎_elim (λ j. some-variables (λ t. not (is_owned ds n t)) ts y j) (λ j. absurd j) (in-either y (variables_where (λ t. not (is_owned ds n t)) ts) [] i)
  shared-touched inner s = λ y i. absurd i

-- ds: the table; res: the result's type
module _ (ds : List Declaration) (res : Option VType) where
  abbrev dt : List Declaration
  dt = ds ++ (flag_property ∷ [])

  abbrev q : ℕ
  q = length ds

  same : (y : ℕ) → y < length ds → variable_at dt y ≡ variable_at ds y
  same y h = variable-longer ds (flag_property ∷ []) y h

  more : length ds ≤ length dt
  more = let e = length-one ds flag_property in omega (arith, e)

  suit : (y : ℕ) (role : Role) → y < length dt → has_role (variable_at dt y) role ≡ true → list_all (suits dt) (use_as role y) ≡ true
  suit y role l h = and-true (nat_lt y (length dt) && has_role (variable_at dt y) role) true (and-true (nat_lt y (length dt)) (has_role (variable_at dt y) role) (lt-ltb y (length dt) l) h) refl

  property-use : list_all (suits dt) (use_as NodeValue q) ≡ true
  property-use = suit q NodeValue (let e = length-one ds flag_property in omega (arith, e)) (ap (λ (v : Variable). has_role v NodeValue) (last-variable ds flag_property))

  flag : type_at dt q ≡ V.Flag
  flag = ap (λ (v : Variable). v.vtype) (last-variable ds flag_property)

  module _ (key : Key) (at : Place) (hd : Head) (test : Expr) (body : Stmt) (sound : Sound ds res (Foreach key at hd test body)) where
    abbrev n : ℕ
    n = hd.iterator

    abbrev its : List ℕ
    its = n ∷ []

    abbrev into : Stmt
    into = Assign key (T.Property n q at) test

    abbrev asked : Expr
    asked = Property n q at

    here : nat_eq n n ≡ true
    here = eq-eqb n n refl

    below : NamesBelow q (Foreach key at hd test body)
    below = names-below ds (Foreach key at hd test body) sound.named

    -- the loop as it is
    longer-loop : Sound dt res (Foreach key at hd test body)
    longer-loop = record {
      named = all-suit ds dt same more (uses_of (Foreach key at hd test body)) sound.named;
      typed = typed-same ds dt same more res (Foreach key at hd test body) below ∙ sound.typed;
      order = sound.order;
      share = shares-same ds dt same more n test body below.3 ∙ sound.share;
      form = ap (λ b. is_nodes hd.domain && (is_flat its false test && b)) (outer-body-same ds dt same more n body below.3) ∙ sound.form;
    }

    head-named : list_all (suits dt) (uses_of_head hd) ≡ true
    head-named = (all-append (suits dt) (uses_of_head hd) (uses_in test ++ uses_of body) longer-loop.named).0

    body-named : (list_all (suits dt) (uses_in test) ≡ true) × (list_all (suits dt) (uses_of body) ≡ true)
    body-named = all-append (suits dt) (uses_in test) (uses_of body) (all-append (suits dt) (uses_of_head hd) (uses_in test ++ uses_of body) longer-loop.named).1

    iterator : (n < length dt) × (has_role (variable_at dt n) Iterates ≡ true)
    iterator = use-of dt Iterates n (all-append (suits dt) (use_as Iterates n) (use_as (owner_role hd.domain) hd.owner) head-named).0

    owner-use : list_all (suits dt) (use_as Owner n) ≡ true
    owner-use = suit n Owner iterator.0 (owns (variable_at dt n) iterator.1)

    flag-use : list_all (suits dt) (use_as Owner n ++ use_as NodeValue q) ≡ true
    flag-use = append-true (suits dt) (use_as Owner n) (use_as NodeValue q) owner-use property-use

    form : (is_nodes hd.domain ≡ true) × ((is_flat its false test ≡ true) × (is_outer_body dt false n body ≡ true))
    form =
        let f = both-true (is_nodes hd.domain) (is_flat_loop dt false n test body) longer-loop.form in
        let g = both-true (is_flat its false test) (is_outer_body dt false n body) f.1 in
        (f.0, (g.0, g.1))

    types : (has_type dt V.Flag test ≡ true) × (is_typed_in dt res body ≡ true)
    types = both-true (has_type dt V.Flag test) (is_typed_in dt res body) longer-loop.typed

    order : (begins its key hd.place test body ≡ true) × (loop_in_order its key test body ≡ true)
    order = both-true (begins its key hd.place test body) (loop_in_order its key test body) sound.order

    starts : (leads its key hd.place body ≡ true) × (are_numbered (hoisted_in test ++ faults_of its body) && (nat_lt 0 key.statement || cannot_fail test) ≡ true)
    starts = both-true (leads its key hd.place body) (are_numbered (hoisted_in test ++ faults_of its body) && (nat_lt 0 key.statement || cannot_fail test)) order.0

    numbered : (are_numbered (hoisted_in test ++ faults_of its body) ≡ true) × (nat_lt 0 key.statement || cannot_fail test ≡ true)
    numbered = both-true (are_numbered (hoisted_in test ++ faults_of its body)) (nat_lt 0 key.statement || cannot_fail test) starts.1

    -- the faults of the filter are numbered
    filter-numbered : are_numbered (faults_in test key) ≡ true
    filter-numbered =
        ⊎_elim (λ (h : nat_lt 0 key.statement ≡ true). under-numbered key (faults_in test key) h (flat-under its false test key form.1.0)) (λ (h : cannot_fail test ≡ true). ap are_numbered (safe-faults test key h))
        (either-true (nat_lt 0 key.statement) (cannot_fail test) numbered.1)

    -- the loop that saves it
    first-sound : Sound dt res (Foreach first_key at hd always into)
    first-sound = record {
      named = append-true (suits dt) (uses_of_head hd) ((use_as Owner n ++ use_as NodeValue q) ++ uses_in test) head-named (append-true (suits dt) (use_as Owner n ++ use_as NodeValue q) (uses_in test) flag-use body-named.0);
      typed = ap (λ t. has_type dt t test) flag ∙ types.0;
      order =
          first-stands its its false hd.place always into refl refl
          (and-true (in_order test key) (lie_before (hoisted_in test) (target_faults its (T.Property n q at) key)) (flat-in-order its false test key form.1.0)
          (nothing-first (hoisted_in test) (target_faults its (T.Property n q at) key) (flat-hoisted its false test form.1.0)))
          (ap (λ b. are_numbered (fault_if (not (b || false)) key at ++ faults_in test key)) here ∙ filter-numbered);
      share = and-true (disjoint (q ∷ []) (read_elsewhere n (reads_in test))) true
          (apart-disjoint (q ∷ []) (read_elsewhere n (reads_in test)) (λ y i j.
          ⊎_elim (λ (e : y ≡ q). let l = elsewhere-low q n (reads_in test) y (reads-low q test below.2) j in omega (arith, e, l)) (λ k. k) i)) refl;
      form = and-true (is_nodes hd.domain) (nat_eq n n && is_flat its false test) form.0 (and-true (nat_eq n n) (is_flat its false test) here form.1.0);
    }

    -- the loop under the saved filter shares what it did
    abbrev P : List Read
    P = (sights_of dt n false body).properties

    abbrev S : List ℕ
    S = (sights_of dt n false body).scalars

    abbrev W : List ℕ
    W = written dt n false body

    abbrev R : List Reduced
    R = reduced dt n false body

    second-shares : shares dt n asked body ≡ true
    second-shares =
        let others = read_elsewhere n (reads_in test ++ P) in
        let seen = read_anywhere (reads_in test ++ P) ++ ((told_in test ++ S) ++ W) in
        let seen' = q ∷ (read_anywhere P ++ ((n ∷ S) ++ W)) in
        let rest = disjoint (deferred body) (W ++ (shared_in R ++ kept_in R)) && (all_agree R && (inners_share dt n body && targets_alike body)) in
        let a = both-true (disjoint (shared_in R) seen) (disjoint (W ++ kept_in R) others && rest) longer-loop.share in
        let b = both-true (disjoint (W ++ kept_in R) others) rest a.1 in
        let off : IsIn n (shared_in R) → ⊥ = λ i. touched-apart dt n iterator.1 body body-named.1 (shared-touched dt n false body n i) in
        let low : (y : ℕ) → IsIn y (shared_in R) → y < q = λ y i. shared-below q dt n false body y below.3 i in
        let c : disjoint (shared_in R) seen' ≡ true =
        apart-disjoint (shared_in R) seen' (λ y i j.
        ⊎_elim (λ (e : y ≡ q). let l = low y i in omega (arith, e, l))
        (λ k. ⊎_elim (λ l. disjoint-apart (shared_in R) seen y a.0 i (in-left y (read_anywhere (reads_in test ++ P)) ((told_in test ++ S) ++ W) (listed-second read_anywhere anywhere-split (reads_in test) P y l)))
        (λ l. ⊎_elim (λ m. ⊎_elim (λ (e : y ≡ n). off (subst (λ z. IsIn z (shared_in R)) e i)) (λ o. disjoint-apart (shared_in R) seen y a.0 i (in-right y (read_anywhere (reads_in test ++ P)) ((told_in test ++ S) ++ W) (in-left y (told_in test ++ S) W (in-right y (told_in test) S o)))) m)
        (λ m. disjoint-apart (shared_in R) seen y a.0 i (in-right y (read_anywhere (reads_in test ++ P)) ((told_in test ++ S) ++ W) (in-right y (told_in test ++ S) W m))) (in-either y (n ∷ S) W l))
        (in-either y (read_anywhere P) ((n ∷ S) ++ W) k)) j) in
        let d : disjoint (W ++ kept_in R) (read_elsewhere n (record { owner = n; property = q } ∷ P)) ≡ true =
        ap (λ x. disjoint (W ++ kept_in R) (cond x (read_elsewhere n P) (q ∷ read_elsewhere n P))) here
        ∙ fewer-apart (W ++ kept_in R) (read_elsewhere n P) (W ++ kept_in R) others (λ y i. i) (listed-second (read_elsewhere n) (elsewhere-split n) (reads_in test) P) b.0 in
        and-true (disjoint (shared_in R) seen') (disjoint (W ++ kept_in R) (read_elsewhere n (record { owner = n; property = q } ∷ P)) && rest) c
        (and-true (disjoint (W ++ kept_in R) (read_elsewhere n (record { owner = n; property = q } ∷ P))) rest d b.1)

    second-sound : Sound dt res (Foreach key at hd asked body)
    second-sound =
        let o = both-true (in_order test key) (body_in_order its body && lie_before (faults_in test key) (faults_of its body)) order.1 in
        let p = both-true (body_in_order its body) (lie_before (faults_in test key) (faults_of its body)) o.1 in
        record {
          named = append-true (suits dt) (uses_of_head hd) ((use_as Owner n ++ use_as NodeValue q) ++ uses_of body) head-named (append-true (suits dt) (use_as Owner n ++ use_as NodeValue q) (uses_of body) flag-use body-named.1);
          typed = and-true (has_type dt V.Flag asked) (is_typed_in dt res body) (ap (λ t. is_type V.Flag (Some t)) flag) types.1;
          order = and-true (begins its key hd.place asked body) (loop_in_order its key asked body)
              (and-true (leads its key hd.place body) (are_numbered (faults_of its body) && (nat_lt 0 key.statement || true)) starts.0
              (and-true (are_numbered (faults_of its body)) (nat_lt 0 key.statement || true) (numbered-second (hoisted_in test) (faults_of its body) numbered.0) (either (nat_lt 0 key.statement))))
              (and-true (body_in_order its body) (lie_before [] (faults_of its body)) p.0 (nothing-first [] (faults_of its body) refl));
          share = second-shares;
          form = and-true (is_nodes hd.domain) ((nat_eq n n || false) && is_outer_body dt false n body) form.0 (and-true (nat_eq n n || false) (is_outer_body dt false n body) (ap (λ b. b || false) here) form.1.1);
        }
      where
        either : (b : Bool) → b || true ≡ true
        either true = refl
        either false = refl

    saved-sound : Sound dt res (filter_saved q key at hd test body)
    saved-sound =
        sound-then dt res (Foreach first_key at hd always into) (sequence (Foreach key at hd asked body ∷ [])) first-sound
        (sound-then dt res (Foreach key at hd asked body) Skip second-sound (sound-skip dt res))

  pub filter-sound : (key : Key) (at : Place) (hd : Head) (test : Expr) (body : Stmt) → Sound ds res (Foreach key at hd test body) → Sound dt res (filtered_loop ds q key at hd test body)
  filter-sound key at hd test body sound = by (saves_filter ds hd.iterator test body)
    where
      by : (b : Bool) → Sound dt res (cond b (filter_saved q key at hd test body) (Foreach key at hd test body))
      by true = saved-sound key at hd test body sound
      by false = longer-loop key at hd test body sound
