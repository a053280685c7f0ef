-- A loop that keeps a local in a property keeps what every pass keeps, and its form.
use Rattle.std.proofs.Common.{◌≡◌, ◌<◌, ◌≤◌, arith, ℕ, Bool, true, false, cond, List, [], ◌∷◌, ◌++◌, length, map, refl, sym, ap, subst, ◌∙◌, Option, Some, None, ◌⊎◌, ⊎_elim, inl, inr}
use Rattle.std.specs.Prelude.{◌+◌, ◌&&◌, ◌||◌, not, nat_eq, nat_lt, nat_le}
use Rattle.std.specs.List.{list_all}
use Rattle.std.proofs.lemmas.Bool.{both_ways, eq-eqb, eqb-true, leb-true, le-leb}
use Rattle.gm_base.specs.declared.places.Place.{Place}
use Rattle.gm_value.specs.Bag.{IsIn}
use Rattle.gm_value.specs.declared.values.VType.{VType}
use Rattle.gm_value.specs.declared.values.VType.TheVariants as V
use Rattle.gm_value.specs.Numbers.{zero_of}
use Rattle.gm_value.specs.Operations.{same_type}
use Rattle.gm_ast.specs.declared.tree.Declaration.{Declaration}
use Rattle.gm_ast.specs.declared.tree.Head.{Head}
use Rattle.gm_ast.specs.declared.tree.Key.{Key}
use Rattle.gm_ast.specs.declared.tree.Sort.{Sort}
use Rattle.gm_ast.specs.declared.tree.Sort.TheVariants as Sorts
use Rattle.gm_ast.specs.declared.tree.Target.{Target}
use Rattle.gm_ast.specs.declared.tree.Target.TheVariants as T
use Rattle.gm_ast.specs.declared.tree.Variable.{Variable}
use Rattle.gm_ast.specs.Loops.{is_nodes}
use Rattle.gm_ast.specs.Names.{sort_eq}
use Rattle.gm_ast.specs.Program.{Expr, Const, Var, Property, EdgeProperty, Degree, NodeCount, EdgeCount, Live, Unary, Binary, Both, Either, Choose, Folded, always, Stmt, Skip, Then, Declare, Assign, Defer, Combine, Foreach, If, Program, sequence}
use Rattle.gm_semantics.specs.Frames.{ReadsBelow, MayReadBelow, AllReadBelow, TargetBelow, TargetsBelow, NamesBelow}
use Rattle.gm_semantics.specs.Statements.{variable_at}
use Rattle.gm_forms.specs.Order.{second_key}
use Rattle.gm_forms.specs.Forms.{depth_at, is_flat, is_outer_body, is_flat_loop}
use Rattle.gm_forms.specs.Sharing.{Read, Sights, Reduced, with_reads, told_in, reads_in, sights_in, sights_in_option, sights_in_all, sights_of, sights_of_target, sights_at_target, sights_by, are_at_once, written, reduced, deferred, inner_shares, inners_share, shares, disjoint, shared_in, kept_in, read_at, read_anywhere, read_elsewhere, all_agree, all_last_one_way, targets_alike}
use Rattle.gm_forms.specs.Typing.{type_at, has_type, is_typed_in}
use Rattle.gm_forms.specs.Uses.{Iterates, Owner, NodeValue, Declared, Told, Use, has_role, use_as, owner_role, suits, uses_in, uses_of_head, uses_of}
use Rattle.gm_forms.proofs.Doings.{in-left, in-right, in-either}
use Rattle.gm_forms.proofs.Named.{both-true, all-append, names-below}
use Rattle.gm_forms.proofs.Weaker.{and-true}
use Rattle.gm_loop_laws.specs.Localised.{moved_in, moved, names_plainly, may_move}
use Rattle.gm_loop_laws.proofs.Chosen.{disjoint-apart, apart-disjoint}
use Rattle.gm_dissect.specs.Deferred.{copy_of}
use Rattle.gm_dissect.specs.Locals.{declares, keeps_local, set_to, local_loop, with_kept_local}
use Rattle.gm_dissect.proofs.DeferredKept.{type-itself, owns, length-one, last-variable, use-suits}
use Rattle.gm_dissect.proofs.DeferredLaws.{variable-longer}
use Rattle.gm_dissect.proofs.DeferredLoops.{use-of, may_be_written, never-iterates}
use Rattle.gm_dissect.proofs.Kept.{Sound, sound-then, sound-skip}
use Rattle.gm_dissect.proofs.LocalLoops.{IsLocal, declared-local, Keeps, keeps-known}
use Rattle.gm_dissect.proofs.Longer.{all-suit, vtype-same, typed-same, shares-same, outer-body-same}
use Rattle.gm_dissect.proofs.Moved.{named-in, named-moved, has-type-moved, typed-moved, flat-moved, outer-moved}
use Rattle.gm_dissect.proofs.MovedOrder.{loop-moved}
use Rattle.gm_dissect.proofs.MovedReduced.{rx, renamed, in-renamed, agree-renamed, last-renamed, shared-renamed, kept-renamed, LowAll, reduced-low, shared-low, kept-low, reduced-moved, not-shared, reduced-declared}
use Rattle.gm_dissect.proofs.MovedSights.{Seen, seen-both, seen-in, seen-moved, written-moved, deferred-moved, alike-moved}
use Rattle.gm_dissect.proofs.Setting.{set-stands}
use Rattle.gm_dissect.proofs.Undeferred.{append-true, deferred-below, Low, low-both, reads-low, sights-low, elsewhere-low}

-- scalars that are read are below
module _ (k : ℕ) where
  abbrev Below : List ℕ → Type 0
  Below xs = (z : ℕ) → IsIn z xs → z < k

  below-both : (xs ys : List ℕ) → Below xs → Below ys → Below (xs ++ ys)
  below-both xs ys f g z i = ⊎_elim (f z) (g z) (in-either z xs ys i)

  below-one : (x : ℕ) → x < k → Below (x ∷ [])
  below-one x h z i = ⊎_elim (λ (e : z ≡ x). subst (λ y. y < k) (sym e) h) (λ j. absurd j) i

  below-none : Below []
  below-none z i = absurd i

  told-in-low : (e : Expr) → ReadsBelow k e → Below (told_in e)
  told-in-low (Var x at) h = below-one x h
  told-in-low (Property x p at) h = below-one x h.0
  told-in-low (Degree d x at) h = below-one x h
  told-in-low (Live x at) h = below-one x h
  told-in-low (Unary op at e) h = told-in-low e h
  told-in-low (Binary op at a b) h = below-both (told_in a) (told_in b) (told-in-low a h.0) (told-in-low b h.1)
  told-in-low (Both a b) h = below-both (told_in a) (told_in b) (told-in-low a h.0) (told-in-low b h.1)
  told-in-low (Either a b) h = below-both (told_in a) (told_in b) (told-in-low a h.0) (told-in-low b h.1)
  told-in-low (Choose c a b) h = below-both (told_in c) (told_in a ++ told_in b) (told-in-low c h.0) (below-both (told_in a) (told_in b) (told-in-low a h.1) (told-in-low b h.2))
  told-in-low (Folded f hd test e) h = below-both (hd.owner ∷ []) (told_in test ++ told_in e) (below-one hd.owner h.0) (below-both (told_in test) (told_in e) (told-in-low test h.1) (told-in-low e h.2))
  told-in-low e h = below-none

  told-option-low : (e : Option Expr) → MayReadBelow k e → Below (sights_in_option e).scalars
  told-option-low None h = below-none
  told-option-low (Some e) h = told-in-low e h

  told-all-low : (es : List Expr) → AllReadBelow k es → Below (sights_in_all es).scalars
  told-all-low [] h = below-none
  told-all-low (e ∷ es) h = below-both (told_in e) (sights_in_all es).scalars (told-in-low e h.0) (told-all-low es h.1)

  told-target-low : (o : Target) → TargetBelow k o → Below (sights_of_target o).scalars
  told-target-low (T.Scalar x at) h = below-none
  told-target-low (T.Property x p at) h = below-one x h.0

  told-held-low : (o : Target) → TargetBelow k o → Below (sights_at_target o).scalars
  told-held-low (T.Scalar x at) h = below-one x h
  told-held-low (T.Property x p at) h = below-one x h.0

  told-by-low : (f : Target → Sights) → ((o : Target) → TargetBelow k o → Below (f o).scalars) → (os : List Target) → TargetsBelow k os → Below (sights_by f os).scalars
  told-by-low f each [] h = below-none
  told-by-low f each (o ∷ os) h = below-both (f o).scalars (sights_by f os).scalars (each o h.0) (told-by-low f each os h.1)

  pub told-low : (ds : List Declaration) (n : ℕ) (inner : Bool) (s : Stmt) → NamesBelow k s → Below (sights_of ds n inner s).scalars
  told-low ds n inner (Then a b) h = below-both (sights_of ds n inner a).scalars (sights_of ds n inner b).scalars (told-low ds n inner a h.0) (told-low ds n inner b h.1)
  told-low ds n inner (Declare key x e) h = told-option-low e h.1
  told-low ds n inner (Assign key o e) h = below-both (sights_of_target o).scalars (told_in e) (told-target-low o h.0) (told-in-low e h.1)
  told-low ds n inner (Defer key o e) h = below-both (sights_of_target o).scalars (told_in e) (told-target-low o h.0) (told-in-low e h.1)
  told-low ds n inner (Combine key total r os es) h = by (are_at_once ds n inner os)
    where
      by : (b : Bool) → Below ((sights_by (cond b sights_at_target sights_of_target) os).scalars ++ (sights_in_all es).scalars)
      by true = below-both (sights_by sights_at_target os).scalars (sights_in_all es).scalars (told-by-low sights_at_target told-held-low os h.0) (told-all-low es h.1)
      by false = below-both (sights_by sights_of_target os).scalars (sights_in_all es).scalars (told-by-low sights_of_target told-target-low os h.0) (told-all-low es h.1)
  told-low ds n inner (If key c a b) h =
      below-both (told_in c) ((sights_of ds n inner a).scalars ++ (sights_of ds n inner b).scalars) (told-in-low c h.0)
      (below-both (sights_of ds n inner a).scalars (sights_of ds n inner b).scalars (told-low ds n inner a h.1) (told-low ds n inner b h.2))
  told-low ds n inner (Foreach key at hd test body) h =
      below-both (hd.owner ∷ []) (told_in test ++ (sights_of ds n true body).scalars) (below-one hd.owner h.1) (below-both (told_in test) (sights_of ds n true body).scalars (told-in-low test h.2) (told-low ds n true body h.3))
  told-low ds n inner s h = below-none

  around-low : (n : ℕ) (rs : List Read) → Low k rs → Below (read_at n rs)
  around-low n [] low z i = absurd i
  around-low n (r ∷ rs) low z i = by (nat_eq r.owner n) (around-low n rs (λ s m. low s (inr m)) z) i
    where
      by : (b : Bool) → (IsIn z (read_at n rs) → z < k) → IsIn z (cond b (r.property ∷ read_at n rs) (read_at n rs)) → z < k
      by true rest j = ⊎_elim (λ (e : z ≡ r.property). subst (λ y. y < k) (sym e) (low r (inl refl))) rest j
      by false rest j = rest j

-- dt: the table; x: the local; q: its property; k: a number that all names are below, but the property's; n: the iterator; t: the local's type
module _ (dt : List Declaration) (x q k n : ℕ) (at : Place) (t : VType) (fresh : k ≤ q) (iterates : n < k) (iterator : has_role (variable_at dt n) Iterates ≡ true) (deep : nat_eq (depth_at dt x) 1 ≡ true)
    (plain : (p : ℕ) → list_all (suits dt) (use_as NodeValue p) ≡ true → nat_eq p x ≡ false) where
  abbrev mi : Expr → Expr
  mi e = moved_in x q n at (zero_of t) e

  abbrev mv : Stmt → Stmt
  mv s = moved x q n at (zero_of t) s

  abbrev Suit : List Use → Type 0
  Suit us = list_all (suits dt) us ≡ true

  new : (z : ℕ) → z < k → z ≡ q → ⊥
  new z l e = omega (arith, l, e, fresh)

  not-iterator : (z : ℕ) → may_be_written (variable_at dt z) ≡ true → z ≡ n → ⊥
  not-iterator z d e = never-iterates (variable_at dt n) iterator (subst (λ y. may_be_written (variable_at dt y) ≡ true) e d)

  sees : (inner : Bool) (test : Expr) (body : Stmt) → Seen dt x q n at t deep (with_reads (sights_in (mi test)) (sights_of dt n inner (mv body))) (with_reads (sights_in test) (sights_of dt n inner body))
  sees inner test body = seen-both dt x q n at t deep (sights_in (mi test)) (sights_of dt n inner (mv body)) (sights_in test) (sights_of dt n inner body) (seen-in dt x q n at t deep test) (seen-moved dt x q n at t deep inner body)

  inner-moved : (test : Expr) (body : Stmt) → ReadsBelow k test → NamesBelow k body → Suit (uses_of body) → inner_shares dt n test body ≡ true → inner_shares dt n (mi test) (mv body) ≡ true
  inner-moved test body r b u h =
      let all = reduced dt n true body in
      let kept = kept_in all in
      let seen = with_reads (sights_in test) (sights_of dt n true body) in
      let after = with_reads (sights_in (mi test)) (sights_of dt n true (mv body)) in
      let around = read_at n seen.properties in
      let around' = read_at n after.properties in
      let s = sees true test body in
      let lows = reduced-low x q k fresh dt n true body b in
      let named = (reduced-declared x q k fresh dt n at t deep plain true body u).1 in
      let reads : Low k seen.properties = low-both k (reads_in test) (sights_of dt n true body).properties (reads-low k test r) (sights-low k dt n true body b) in
      let scalars : Below k seen.scalars = below-both k (told_in test) (sights_of dt n true body).scalars (told-in-low k test r) (told-low k dt n true body b) in
      let w = both-true (disjoint kept (around ++ seen.scalars)) (all_last_one_way all) h in
      let apart : (z : ℕ) → IsIn z kept → IsIn z (around ++ seen.scalars) → ⊥ = λ z i j. disjoint-apart kept (around ++ seen.scalars) z w.0 i j in
      let one : disjoint (map (rx x q k fresh) kept) (around' ++ after.scalars) ≡ true = apart-disjoint (map (rx x q k fresh) kept) (around' ++ after.scalars) (λ z i j.
      ⊎_elim
      (λ l. ⊎_elim
      (λ m. ⊎_elim (λ o. apart z l (in-left z around seen.scalars o)) (λ (o : (z ≡ q) × IsIn x seen.scalars). new z (kept-low x q k fresh dt n all lows z l) o.0) (s.around z m))
      (λ m. ⊎_elim (λ o. apart z l (in-right z around seen.scalars o)) (λ (o : z ≡ n). not-iterator z (named z l) o) (s.told z m))
      (in-either z around' after.scalars j))
      (λ (l : (z ≡ q) × IsIn x kept). ⊎_elim
      (λ m. ⊎_elim (λ o. new z (around-low k n seen.properties reads z o) l.0) (λ (o : (z ≡ q) × IsIn x seen.scalars). apart x l.1 (in-right x around seen.scalars o.1)) (s.around z m))
      (λ m. ⊎_elim (λ o. new z (scalars z o) l.0) (λ (o : z ≡ n). new z (subst (λ y. y < k) (sym o) iterates) l.0) (s.told z m))
      (in-either z around' after.scalars j))
      (in-renamed x q k fresh z kept i)) in
      ap (λ (rs : List Reduced). disjoint (kept_in rs) (around' ++ after.scalars) && all_last_one_way rs) (reduced-moved x q k fresh dt n at t deep plain true body u)
      ∙ and-true (disjoint (kept_in (map (renamed x q k fresh) all)) (around' ++ after.scalars)) (all_last_one_way (map (renamed x q k fresh) all))
      (ap (λ l. disjoint l (around' ++ after.scalars)) (kept-renamed x q k fresh all) ∙ one) (last-renamed x q k fresh all lows w.1)

  inners-moved : (s : Stmt) → NamesBelow k s → Suit (uses_of s) → inners_share dt n s ≡ true → inners_share dt n (mv s) ≡ true
  inners-moved (Then a b) w u h =
      let r = both-true (inners_share dt n a) (inners_share dt n b) h in
      let v = all-append (suits dt) (uses_of a) (uses_of b) u in
      and-true (inners_share dt n (mv a)) (inners_share dt n (mv b)) (inners-moved a w.0 v.0 r.0) (inners-moved b w.1 v.1 r.1)
  inners-moved (Declare key y None) w u h = by (nat_eq y x)
    where
      by : (c : Bool) → inners_share dt n (cond c (Assign key (T.Property n q at) (Const (zero_of t))) (Declare key y None)) ≡ true
      by true = refl
      by false = refl
  inners-moved (Declare key y (Some e)) w u h = by (nat_eq y x)
    where
      by : (c : Bool) → inners_share dt n (cond c (Assign key (T.Property n q at) (mi e)) (Declare key y (Some (mi e)))) ≡ true
      by true = refl
      by false = refl
  inners-moved (If key c a b) w u h =
      let r = both-true (inners_share dt n a) (inners_share dt n b) h in
      let v = all-append (suits dt) (uses_in c) (uses_of a ++ uses_of b) u in
      let o = all-append (suits dt) (uses_of a) (uses_of b) v.1 in
      and-true (inners_share dt n (mv a)) (inners_share dt n (mv b)) (inners-moved a w.1 o.0 r.0) (inners-moved b w.2 o.1 r.1)
  inners-moved (Foreach key p hd test body) w u h =
      let v = all-append (suits dt) (uses_of_head hd) (uses_in test ++ uses_of body) u in
      let o = all-append (suits dt) (uses_in test) (uses_of body) v.1 in
      inner-moved test body w.2 w.3 o.1 h
  inners-moved s w u h = h

  pub shares-moved : (test : Expr) (body : Stmt) → ReadsBelow k test → NamesBelow k body → Suit (uses_of body) → may_move x n body ≡ true → shares dt n test body ≡ true → shares dt n (mi test) (mv body) ≡ true
  shares-moved test body r b u moves h =
      let seen = with_reads (sights_in test) (sights_of dt n false body) in
      let after = with_reads (sights_in (mi test)) (sights_of dt n false (mv body)) in
      let s = sees false test body in
      let all = reduced dt n false body in
      let lows = reduced-low x q k fresh dt n false body b in
      let named = reduced-declared x q k fresh dt n at t deep plain false body u in
      let own = written dt n false body in
      let own' = written dt n false (mv body) in
      let gone = deferred body in
      let shared = shared_in all in
      let kept = kept_in all in
      let shared' = map (rx x q k fresh) shared in
      let kept' = map (rx x q k fresh) kept in
      let anywhere = read_anywhere seen.properties in
      let anywhere' = read_anywhere after.properties in
      let elsewhere = read_elsewhere n seen.properties in
      let reads : Low k seen.properties = low-both k (reads_in test) (sights_of dt n false body).properties (reads-low k test r) (sights-low k dt n false body b) in
      let rest = all_agree all && (inners_share dt n body && targets_alike body) in
      let w = both-true (disjoint shared (anywhere ++ (seen.scalars ++ own))) (disjoint (own ++ kept) elsewhere && (disjoint gone (own ++ (shared ++ kept)) && rest)) h in
      let v = both-true (disjoint (own ++ kept) elsewhere) (disjoint gone (own ++ (shared ++ kept)) && rest) w.1 in
      let o = both-true (disjoint gone (own ++ (shared ++ kept))) rest v.1 in
      let a = both-true (all_agree all) (inners_share dt n body && targets_alike body) o.1 in
      let c = both-true (inners_share dt n body) (targets_alike body) a.1 in
      let is-shared : (z : ℕ) → IsIn z shared' → IsIn z shared = λ z i. ⊎_elim (λ l. l) (λ (l : (z ≡ q) × IsIn x shared). absurd (not-shared x q k fresh dt n at t deep plain false body u l.1)) (in-renamed x q k fresh z shared i) in
      let one : disjoint shared' (anywhere' ++ (after.scalars ++ own')) ≡ true = apart-disjoint shared' (anywhere' ++ (after.scalars ++ own')) (λ z i j.
      let l = is-shared z i in
      let low = shared-low x q k fresh dt n all lows z l in
      let apart : IsIn z (anywhere ++ (seen.scalars ++ own)) → ⊥ = λ m. disjoint-apart shared (anywhere ++ (seen.scalars ++ own)) z w.0 l m in
      ⊎_elim (λ m. ⊎_elim (λ p. apart (in-left z anywhere (seen.scalars ++ own) p)) (λ p. new z low p) (s.anywhere z m))
      (λ m. ⊎_elim (λ p. ⊎_elim (λ y. apart (in-right z anywhere (seen.scalars ++ own) (in-left z seen.scalars own y))) (λ (y : z ≡ n). not-iterator z (named.0 z l) y) (s.told z p))
      (λ p. ⊎_elim (λ y. apart (in-right z anywhere (seen.scalars ++ own) (in-right z seen.scalars own y))) (λ y. new z low y) (written-moved dt x q n at t deep false body z p))
      (in-either z after.scalars own' m)) (in-either z anywhere' (after.scalars ++ own') j)) in
      let two : disjoint (own' ++ kept') elsewhere ≡ true = apart-disjoint (own' ++ kept') elsewhere (λ z i j.
      let apart : IsIn z (own ++ kept) → ⊥ = λ m. disjoint-apart (own ++ kept) elsewhere z v.0 m j in
      let old : z ≡ q → ⊥ = λ e. new z (elsewhere-low k n seen.properties z reads j) e in
      ⊎_elim (λ m. ⊎_elim (λ p. apart (in-left z own kept p)) old (written-moved dt x q n at t deep false body z m))
      (λ m. ⊎_elim (λ p. apart (in-right z own kept p)) (λ (p : (z ≡ q) × IsIn x kept). old p.0) (in-renamed x q k fresh z kept m)) (in-either z own' kept' i)) in
      let three : disjoint gone (own' ++ (shared' ++ kept')) ≡ true = apart-disjoint gone (own' ++ (shared' ++ kept')) (λ z i j.
      let apart : IsIn z (own ++ (shared ++ kept)) → ⊥ = λ m. disjoint-apart gone (own ++ (shared ++ kept)) z o.0 i m in
      let old : z ≡ q → ⊥ = λ e. new z (deferred-below k body z b i) e in
      ⊎_elim (λ m. ⊎_elim (λ p. apart (in-left z own (shared ++ kept) p)) old (written-moved dt x q n at t deep false body z m))
      (λ m. ⊎_elim (λ p. apart (in-right z own (shared ++ kept) (in-left z shared kept (is-shared z p))))
      (λ p. ⊎_elim (λ y. apart (in-right z own (shared ++ kept) (in-right z shared kept y))) (λ (y : (z ≡ q) × IsIn x kept). old y.0) (in-renamed x q k fresh z kept p))
      (in-either z shared' kept' m)) (in-either z own' (shared' ++ kept') j)) in
      ap (λ (rs : List Reduced). disjoint (shared_in rs) (anywhere' ++ (after.scalars ++ own')) && (disjoint (own' ++ kept_in rs) (read_elsewhere n after.properties) && (disjoint (deferred (mv body)) (own' ++ (shared_in rs ++ kept_in rs)) && (all_agree rs && (inners_share dt n (mv body) && targets_alike (mv body))))))
      (reduced-moved x q k fresh dt n at t deep plain false body u)
      ∙ ap (λ l. disjoint l (anywhere' ++ (after.scalars ++ own')) && (disjoint (own' ++ kept_in (map (renamed x q k fresh) all)) (read_elsewhere n after.properties) && (disjoint (deferred (mv body)) (own' ++ (l ++ kept_in (map (renamed x q k fresh) all))) && (all_agree (map (renamed x q k fresh) all) && (inners_share dt n (mv body) && targets_alike (mv body))))))
      (shared-renamed x q k fresh all)
      ∙ ap (λ l. disjoint shared' (anywhere' ++ (after.scalars ++ own')) && (disjoint (own' ++ l) (read_elsewhere n after.properties) && (disjoint (deferred (mv body)) (own' ++ (shared' ++ l)) && (all_agree (map (renamed x q k fresh) all) && (inners_share dt n (mv body) && targets_alike (mv body))))))
      (kept-renamed x q k fresh all)
      ∙ and-true (disjoint shared' (anywhere' ++ (after.scalars ++ own'))) (disjoint (own' ++ kept') (read_elsewhere n after.properties) && (disjoint (deferred (mv body)) (own' ++ (shared' ++ kept')) && (all_agree (map (renamed x q k fresh) all) && (inners_share dt n (mv body) && targets_alike (mv body))))) one
      (and-true (disjoint (own' ++ kept') (read_elsewhere n after.properties)) (disjoint (deferred (mv body)) (own' ++ (shared' ++ kept')) && (all_agree (map (renamed x q k fresh) all) && (inners_share dt n (mv body) && targets_alike (mv body)))) (ap (disjoint (own' ++ kept')) s.elsewhere ∙ two)
      (and-true (disjoint (deferred (mv body)) (own' ++ (shared' ++ kept'))) (all_agree (map (renamed x q k fresh) all) && (inners_share dt n (mv body) && targets_alike (mv body))) (ap (λ l. disjoint l (own' ++ (shared' ++ kept'))) (deferred-moved dt x q n at t deep body) ∙ three)
      (and-true (all_agree (map (renamed x q k fresh) all)) (inners_share dt n (mv body) && targets_alike (mv body)) (agree-renamed x q k fresh all lows a.0)
      (and-true (inners_share dt n (mv body)) (targets_alike (mv body)) (inners-moved body b u c.0) (alike-moved dt x q n at t deep body moves c.1)))))

-- a scalar is no property
no-property : (v : Variable) → sort_eq Sorts.Scalar v.sort ≡ true → has_role v NodeValue ≡ true → ⊥
no-property v = by v.sort
  where
    by : (s : Sort) → sort_eq Sorts.Scalar s ≡ true → sort_eq Sorts.NodeProperty s ≡ true → ⊥
    by Sorts.Graph h i = both_ways false refl h
    by Sorts.Iterator h i = both_ways false refl h
    by Sorts.Scalar h i = both_ways false refl i
    by Sorts.Edge h i = both_ways false refl h
    by Sorts.NodeProperty h i = both_ways false refl h
    by Sorts.EdgeProperty h i = both_ways false refl h

-- a scalar may be told
scalar-told : (v : Variable) → sort_eq Sorts.Scalar v.sort ≡ true → has_role v Told ≡ true
scalar-told v h = ap (λ b. b || (sort_eq Sorts.Iterator v.sort || sort_eq Sorts.Graph v.sort)) h

-- ds: the table; x: the local; res: the result's type
module _ (ds : List Declaration) (x : ℕ) (res : Option VType) where
  abbrev dt : List Declaration
  dt = ds ++ (copy_of ds x ∷ [])

  abbrev q : ℕ
  q = length ds

  abbrev t : VType
  t = (variable_at ds x).vtype

  same : (y : ℕ) → y < length ds → variable_at dt y ≡ variable_at ds y
  same y h = variable-longer ds (copy_of ds x ∷ []) y h

  more : length ds ≤ length dt
  more = let e = length-one ds (copy_of ds x) in omega (arith, e)

  suit : (y : ℕ) (role : _) → y < length dt → has_role (variable_at dt y) role ≡ true → list_all (suits dt) (use_as role y) ≡ true
  suit y role l h = use-suits ds x res y role l h

  property-use : list_all (suits dt) (use_as NodeValue q) ≡ true
  property-use = suit q NodeValue (let e = length-one ds (copy_of ds x) in omega (arith, e)) (ap (λ (v : Variable). has_role v NodeValue) (last-variable ds (copy_of ds x)))

  module _ (key : Key) (at : Place) (hd : Head) (test : Expr) (body : Stmt) (sound : Sound ds res (Foreach key at hd test body)) where
    abbrev n : ℕ
    n = hd.iterator

    below : NamesBelow q (Foreach key at hd test body)
    below = names-below ds (Foreach key at hd test body) sound.named

    -- the loop as it is
    longer-loop : Sound dt res (Foreach key at hd test body)
    longer-loop = record {
      named = all-suit ds dt same more (uses_of (Foreach key at hd test body)) sound.named;
      typed = typed-same ds dt same more res (Foreach key at hd test body) below ∙ sound.typed;
      order = sound.order;
      share = shares-same ds dt same more n test body below.3 ∙ sound.share;
      form = ap (λ b. is_nodes hd.domain && (is_flat (n ∷ []) false test && b)) (outer-body-same ds dt same more n body below.3) ∙ sound.form;
    }

    module _ (keeps : Keeps ds x n test body) where
      is : IsLocal ds n x
      is =
          let f = both-true (is_nodes hd.domain) (is_flat_loop ds false n test body) sound.form in
          let g = both-true (is_flat (n ∷ []) false test) (is_outer_body ds false n body) f.1 in
          let r = all-append (suits ds) (uses_of_head hd) (uses_in test ++ uses_of body) sound.named in
          let s = all-append (suits ds) (uses_in test) (uses_of body) r.1 in
          declared-local ds n x body g.1 s.1 keeps.declared

      was : variable_at dt x ≡ variable_at ds x
      was = same x is.0

      types : type_at dt q ≡ type_at dt x
      types = ap (λ (v : Variable). v.vtype) (last-variable ds (copy_of ds x)) ∙ sym (vtype-same ds dt same more x is.0)

      head-named : list_all (suits dt) (uses_of_head hd) ≡ true
      head-named = (all-append (suits dt) (uses_of_head hd) (uses_in test ++ uses_of body) longer-loop.named).0

      body-named : (list_all (suits dt) (uses_in test) ≡ true) × (list_all (suits dt) (uses_of body) ≡ true)
      body-named = all-append (suits dt) (uses_in test) (uses_of body) (all-append (suits dt) (uses_of_head hd) (uses_in test ++ uses_of body) longer-loop.named).1

      iterator : (n < length dt) × (has_role (variable_at dt n) Iterates ≡ true)
      iterator = use-of dt Iterates n (all-append (suits dt) (use_as Iterates n) (use_as (owner_role hd.domain) hd.owner) head-named).0

      owner-use : list_all (suits dt) (use_as Owner n) ≡ true
      owner-use = suit n Owner iterator.0 (owns (variable_at dt n) iterator.1)

      told-use : list_all (suits dt) (use_as Told x) ≡ true
      told-use = suit x Told (let l = is.0 in let m = more in omega (arith, l, m)) (scalar-told (variable_at dt x) (ap (λ (v : Variable). sort_eq Sorts.Scalar v.sort) was ∙ keeps.scalar))

      deep : nat_eq (depth_at dt x) 1 ≡ true
      deep = ap (λ (v : Variable). nat_eq v.depth 1) was ∙ is.1.0

      plain : (p : ℕ) → list_all (suits dt) (use_as NodeValue p) ≡ true → nat_eq p x ≡ false
      plain p h = by (nat_eq p x) refl
        where
          by : (b : Bool) → nat_eq p x ≡ b → b ≡ false
          by true e =
              absurd (no-property (variable_at dt x) (ap (λ (v : Variable). sort_eq Sorts.Scalar v.sort) was ∙ keeps.scalar) (subst (λ z. has_role (variable_at dt z) NodeValue ≡ true) (eqb-true p x e) (use-of dt NodeValue p h).1))
          by false e = refl

      form : (is_nodes hd.domain ≡ true) × ((is_flat (n ∷ []) false test ≡ true) × (is_outer_body dt false n body ≡ true))
      form =
          let f = both-true (is_nodes hd.domain) (is_flat_loop dt false n test body) longer-loop.form in
          let g = both-true (is_flat (n ∷ []) false test) (is_outer_body dt false n body) f.1 in
          (f.0, (g.0, g.1))

      first-sound : Sound dt res (set_to q x at hd)
      first-sound = record {
        named = append-true (suits dt) (uses_of_head hd) ((use_as Owner n ++ use_as NodeValue q) ++ use_as Told x) head-named
            (append-true (suits dt) (use_as Owner n ++ use_as NodeValue q) (use_as Told x) (append-true (suits dt) (use_as Owner n) (use_as NodeValue q) owner-use property-use) told-use);
        typed = ap (λ z. same_type z (type_at dt x)) types ∙ type-itself (type_at dt x);
        order = set-stands (n ∷ []) (n ∷ []) hd.place second_key (T.Property n q at) (Var x at) refl refl;
        share = refl;
        form = and-true (is_nodes hd.domain) (nat_eq n n && true) form.0 (ap (λ z. z && true) (eq-eqb n n refl));
      }

      second-sound : Sound dt res (Foreach key at hd (moved_in x q n at (zero_of t) test) (moved x q n at (zero_of t) body))
      second-sound =
          let asked = moved_in x q n at (zero_of t) test in
          let inside = moved x q n at (zero_of t) body in
          let typed : type_at dt x ≡ t = vtype-same ds dt same more x is.0 in
          let w = both-true (has_type dt V.Flag test) (is_typed_in dt res body) longer-loop.typed in
          record {
            named = append-true (suits dt) (uses_of_head hd) (uses_in asked ++ uses_of inside) head-named
                (append-true (suits dt) (uses_in asked) (uses_of inside) (named-in dt x q n at t owner-use property-use test body-named.0) (named-moved dt x q n at t owner-use property-use body body-named.1));
            typed = and-true (has_type dt V.Flag asked) (is_typed_in dt res inside) (has-type-moved dt x q n at t types typed V.Flag test ∙ w.0) (typed-moved dt x q n at t types typed res body ∙ w.1);
            order = loop-moved x q n at t (n ∷ []) (ap (λ b. b || false) (eq-eqb n n refl)) key hd.place test body ∙ longer-loop.order;
            share = shares-moved dt x q (length ds) n at t (omega arith) below.0 iterator.1 deep plain test body below.2 below.3 body-named.1 keeps.moves longer-loop.share;
            form =
                and-true (is_nodes hd.domain) (is_flat (n ∷ []) false asked && is_outer_body dt false n inside) form.0
                (and-true (is_flat (n ∷ []) false asked) (is_outer_body dt false n inside) (flat-moved dt x q n at t deep (n ∷ []) false (ap (λ b. b || false) (eq-eqb n n refl)) test ∙ form.1.0) (outer-moved dt x q n at t deep body ∙ form.1.1));
          }

      both-sound : Sound dt res (sequence (set_to q x at hd ∷ Foreach key at hd (moved_in x q n at (zero_of t) test) (moved x q n at (zero_of t) body) ∷ []))
      both-sound =
          sound-then dt res (set_to q x at hd) (sequence (Foreach key at hd (moved_in x q n at (zero_of t) test) (moved x q n at (zero_of t) body) ∷ [])) first-sound
          (sound-then dt res (Foreach key at hd (moved_in x q n at (zero_of t) test) (moved x q n at (zero_of t) body)) Skip second-sound (sound-skip dt res))

  pub local-sound : (key : Key) (at : Place) (hd : Head) (test : Expr) (body : Stmt) → Sound ds res (Foreach key at hd test body) → Sound dt res (local_loop ds x q key at hd test body)
  local-sound key at hd test body sound = by (keeps_local ds x hd.iterator test body) refl
    where
      by : (b : Bool) → keeps_local ds x hd.iterator test body ≡ b →
          Sound dt res (cond b (sequence (set_to q x at hd ∷ Foreach key at hd (moved_in x q hd.iterator at (zero_of t) test) (moved x q hd.iterator at (zero_of t) body) ∷ [])) (Foreach key at hd test body))
      by true e = both-sound key at hd test body sound (keeps-known ds x hd.iterator test body e)
      by false e = longer-loop key at hd test body sound
