-- What a loop shares stays where one of its locals goes to a property, whatever is known of its targets.
use Rattle.std.proofs.Common.{◌≡◌, ◌<◌, ◌≤◌, arith, ℕ, Bool, true, false, cond, List, [], ◌∷◌, ◌++◌, map, refl, sym, ap, subst, ◌∙◌, Some, None, ⊎_elim, inl, inr}
use Rattle.std.specs.Prelude.{◌&&◌, nat_eq}
use Rattle.std.specs.List.{list_all}
use Rattle.gm_base.specs.declared.places.Place.{Place}
use Rattle.gm_value.specs.Bag.{IsIn}
use Rattle.gm_value.specs.declared.values.VType.{VType}
use Rattle.gm_value.specs.Numbers.{zero_of}
use Rattle.gm_ast.specs.declared.tree.Declaration.{Declaration}
use Rattle.gm_ast.specs.declared.tree.Target.TheVariants as T
use Rattle.gm_ast.specs.Program.{Expr, Const, Var, Property, Degree, Live, Unary, Binary, Both, Either, Choose, Folded, Stmt, Then, Declare, Assign, Foreach, If}
use Rattle.gm_semantics.specs.Frames.{ReadsBelow, NamesBelow}
use Rattle.gm_semantics.specs.Statements.{variable_at}
use Rattle.gm_forms.specs.Forms.{depth_at}
use Rattle.gm_forms.specs.Sharing.{Read, Reduced, with_reads, told_in, reads_in, sights_in, sights_of, written, reduced, deferred, inner_shares, inners_share, shares, disjoint, shared_in, kept_in, read_at, read_anywhere, read_elsewhere, all_agree, all_last_one_way, targets_alike}
use Rattle.gm_forms.specs.Uses.{Iterates, NodeValue, Use, has_role, use_as, suits, uses_in, uses_of_head, uses_of}
use Rattle.gm_forms.proofs.Doings.{in-left, in-right, in-either}
use Rattle.gm_forms.proofs.Named.{both-true, all-append}
use Rattle.gm_forms.proofs.Weaker.{and-true}
use Rattle.gm_loop_laws.specs.Localised.{moved_in, moved}
use Rattle.gm_loop_laws.proofs.Chosen.{disjoint-apart, apart-disjoint}
use Rattle.gm_dissect.proofs.DeferredLoops.{may_be_written, never-iterates}
use Rattle.gm_dissect.proofs.LocalKept.{told-low}
use Rattle.gm_dissect.proofs.MovedReduced.{rx, renamed, in-renamed, agree-renamed, last-renamed, shared-renamed, kept-renamed, reduced-low, shared-low, kept-low, reduced-moved, not-shared, reduced-declared}
use Rattle.gm_dissect.proofs.MovedSights.{Seen, seen-both, seen-in, seen-moved, written-moved, deferred-moved}
use Rattle.gm_dissect.proofs.Undeferred.{deferred-below, Low, low-both, reads-low, sights-low, elsewhere-low}

-- what a loop shares, with another answer for its targets
abbrev pub shares_with : Bool → List Declaration → ℕ → Expr → Stmt → Bool
shares_with alike ds n test body =
    let seen = with_reads (sights_in test) (sights_of ds n false body) in
    let all = reduced ds n false body in
    let own = written ds n false body in
    disjoint (shared_in all) (read_anywhere seen.properties ++ (seen.scalars ++ own))
    && (disjoint (own ++ kept_in all) (read_elsewhere n seen.properties)
    && (disjoint (deferred body) (own ++ (shared_in all ++ kept_in all))
    && (all_agree all && (inners_share ds n body && alike))))

-- what a loop shares, but for its targets
pub shares-beside : (ds : List Declaration) (n : ℕ) (test : Expr) (body : Stmt) → shares ds n test body ≡ true → (targets_alike body ≡ true) × (shares_with true ds n test body ≡ true)
shares-beside ds n test body h =
    let seen = with_reads (sights_in test) (sights_of ds n false body) in
    let all = reduced ds n false body in
    let own = written ds n false body in
    let one = disjoint (shared_in all) (read_anywhere seen.properties ++ (seen.scalars ++ own)) in
    let two = disjoint (own ++ kept_in all) (read_elsewhere n seen.properties) in
    let three = disjoint (deferred body) (own ++ (shared_in all ++ kept_in all)) in
    let inners = inners_share ds n body in
    let a = both-true one (two && (three && (all_agree all && (inners && targets_alike body)))) h in
    let b = both-true two (three && (all_agree all && (inners && targets_alike body))) a.1 in
    let c = both-true three (all_agree all && (inners && targets_alike body)) b.1 in
    let d = both-true (all_agree all) (inners && targets_alike body) c.1 in
    let e = both-true inners (targets_alike body) d.1 in (
      e.1,
      and-true one (two && (three && (all_agree all && (inners && true)))) a.0
          (and-true two (three && (all_agree all && (inners && true))) b.0
          (and-true three (all_agree all && (inners && true)) c.0 (and-true (all_agree all) (inners && true) d.0 (and-true inners true e.0 refl)))),
    )

-- and all of it again
pub shares-again : (ds : List Declaration) (n : ℕ) (test : Expr) (body : Stmt) → shares_with true ds n test body ≡ true → targets_alike body ≡ true → shares ds n test body ≡ true
shares-again ds n test body h alike = subst (λ b. shares_with b ds n test body ≡ true) (sym alike) h

-- scalars that are read are below
module _ (k : ℕ) where
  abbrev Below : List ℕ → Type 0
  Below xs = (z : ℕ) → IsIn z xs → z < k

  below-both : (xs ys : List ℕ) → Below xs → Below ys → Below (xs ++ ys)
  below-both xs ys f g z i = ⊎_elim (f z) (g z) (in-either z xs ys i)

  below-one : (x : ℕ) → x < k → Below (x ∷ [])
  below-one x h z i = ⊎_elim (λ (e : z ≡ x). subst (λ y. y < k) (sym e) h) (λ j. absurd j) i

  below-none : Below []
  below-none z i = absurd i

  told-in-low : (e : Expr) → ReadsBelow k e → Below (told_in e)
  told-in-low (Var x at) h = below-one x h
  told-in-low (Property x p at) h = below-one x h.0
  told-in-low (Degree d x at) h = below-one x h
  told-in-low (Live x at) h = below-one x h
  told-in-low (Unary op at e) h = told-in-low e h
  told-in-low (Binary op at a b) h = below-both (told_in a) (told_in b) (told-in-low a h.0) (told-in-low b h.1)
  told-in-low (Both a b) h = below-both (told_in a) (told_in b) (told-in-low a h.0) (told-in-low b h.1)
  told-in-low (Either a b) h = below-both (told_in a) (told_in b) (told-in-low a h.0) (told-in-low b h.1)
  told-in-low (Choose c a b) h = below-both (told_in c) (told_in a ++ told_in b) (told-in-low c h.0) (below-both (told_in a) (told_in b) (told-in-low a h.1) (told-in-low b h.2))
  told-in-low (Folded f hd test e) h = below-both (hd.owner ∷ []) (told_in test ++ told_in e) (below-one hd.owner h.0) (below-both (told_in test) (told_in e) (told-in-low test h.1) (told-in-low e h.2))
  told-in-low e h = below-none

  around-low : (n : ℕ) (rs : List Read) → Low k rs → Below (read_at n rs)
  around-low n [] low z i = absurd i
  around-low n (r ∷ rs) low z i = by (nat_eq r.owner n) (around-low n rs (λ s m. low s (inr m)) z) i
    where
      by : (b : Bool) → (IsIn z (read_at n rs) → z < k) → IsIn z (cond b (r.property ∷ read_at n rs) (read_at n rs)) → z < k
      by true rest j = ⊎_elim (λ (e : z ≡ r.property). subst (λ y. y < k) (sym e) (low r (inl refl))) rest j
      by false rest j = rest j

-- dt: the table; x: the local; q: its property; k: a number that all names are below, but the property's; n: the iterator; t: the local's type
module _ (dt : List Declaration) (x q k n : ℕ) (at : Place) (t : VType) (fresh : k ≤ q) (iterates : n < k) (iterator : has_role (variable_at dt n) Iterates ≡ true) (deep : nat_eq (depth_at dt x) 1 ≡ true)
    (plain : (p : ℕ) → list_all (suits dt) (use_as NodeValue p) ≡ true → nat_eq p x ≡ false) where
  abbrev mi : Expr → Expr
  mi e = moved_in x q n at (zero_of t) e

  abbrev mv : Stmt → Stmt
  mv s = moved x q n at (zero_of t) s

  abbrev Suit : List Use → Type 0
  Suit us = list_all (suits dt) us ≡ true

  new : (z : ℕ) → z < k → z ≡ q → ⊥
  new z l e = omega (arith, l, e, fresh)

  not-iterator : (z : ℕ) → may_be_written (variable_at dt z) ≡ true → z ≡ n → ⊥
  not-iterator z d e = never-iterates (variable_at dt n) iterator (subst (λ y. may_be_written (variable_at dt y) ≡ true) e d)

  sees : (inner : Bool) (test : Expr) (body : Stmt) → Seen dt x q n at t deep (with_reads (sights_in (mi test)) (sights_of dt n inner (mv body))) (with_reads (sights_in test) (sights_of dt n inner body))
  sees inner test body = seen-both dt x q n at t deep (sights_in (mi test)) (sights_of dt n inner (mv body)) (sights_in test) (sights_of dt n inner body) (seen-in dt x q n at t deep test) (seen-moved dt x q n at t deep inner body)

  inner-moved : (test : Expr) (body : Stmt) → ReadsBelow k test → NamesBelow k body → Suit (uses_of body) → inner_shares dt n test body ≡ true → inner_shares dt n (mi test) (mv body) ≡ true
  inner-moved test body r b u h =
      let all = reduced dt n true body in
      let kept = kept_in all in
      let seen = with_reads (sights_in test) (sights_of dt n true body) in
      let after = with_reads (sights_in (mi test)) (sights_of dt n true (mv body)) in
      let around = read_at n seen.properties in
      let around' = read_at n after.properties in
      let s = sees true test body in
      let lows = reduced-low x q k fresh dt n true body b in
      let named = (reduced-declared x q k fresh dt n at t deep plain true body u).1 in
      let reads : Low k seen.properties = low-both k (reads_in test) (sights_of dt n true body).properties (reads-low k test r) (sights-low k dt n true body b) in
      let scalars : Below k seen.scalars = below-both k (told_in test) (sights_of dt n true body).scalars (told-in-low k test r) (told-low k dt n true body b) in
      let w = both-true (disjoint kept (around ++ seen.scalars)) (all_last_one_way all) h in
      let apart : (z : ℕ) → IsIn z kept → IsIn z (around ++ seen.scalars) → ⊥ = λ z i j. disjoint-apart kept (around ++ seen.scalars) z w.0 i j in
      let one : disjoint (map (rx x q k fresh) kept) (around' ++ after.scalars) ≡ true = apart-disjoint (map (rx x q k fresh) kept) (around' ++ after.scalars) (λ z i j.
      ⊎_elim
      (λ l. ⊎_elim
      (λ m. ⊎_elim (λ o. apart z l (in-left z around seen.scalars o)) (λ (o : (z ≡ q) × IsIn x seen.scalars). new z (kept-low x q k fresh dt n all lows z l) o.0) (s.around z m))
      (λ m. ⊎_elim (λ o. apart z l (in-right z around seen.scalars o)) (λ (o : z ≡ n). not-iterator z (named z l) o) (s.told z m))
      (in-either z around' after.scalars j))
      (λ (l : (z ≡ q) × IsIn x kept). ⊎_elim
      (λ m. ⊎_elim (λ o. new z (around-low k n seen.properties reads z o) l.0) (λ (o : (z ≡ q) × IsIn x seen.scalars). apart x l.1 (in-right x around seen.scalars o.1)) (s.around z m))
      (λ m. ⊎_elim (λ o. new z (scalars z o) l.0) (λ (o : z ≡ n). new z (subst (λ y. y < k) (sym o) iterates) l.0) (s.told z m))
      (in-either z around' after.scalars j))
      (in-renamed x q k fresh z kept i)) in
      ap (λ (rs : List Reduced). disjoint (kept_in rs) (around' ++ after.scalars) && all_last_one_way rs) (reduced-moved x q k fresh dt n at t deep plain true body u)
      ∙ and-true (disjoint (kept_in (map (renamed x q k fresh) all)) (around' ++ after.scalars)) (all_last_one_way (map (renamed x q k fresh) all))
      (ap (λ l. disjoint l (around' ++ after.scalars)) (kept-renamed x q k fresh all) ∙ one) (last-renamed x q k fresh all lows w.1)

  inners-moved : (s : Stmt) → NamesBelow k s → Suit (uses_of s) → inners_share dt n s ≡ true → inners_share dt n (mv s) ≡ true
  inners-moved (Then a b) w u h =
      let r = both-true (inners_share dt n a) (inners_share dt n b) h in
      let v = all-append (suits dt) (uses_of a) (uses_of b) u in
      and-true (inners_share dt n (mv a)) (inners_share dt n (mv b)) (inners-moved a w.0 v.0 r.0) (inners-moved b w.1 v.1 r.1)
  inners-moved (Declare key y None) w u h = by (nat_eq y x)
    where
      by : (c : Bool) → inners_share dt n (cond c (Assign key (T.Property n q at) (Const (zero_of t))) (Declare key y None)) ≡ true
      by true = refl
      by false = refl
  inners-moved (Declare key y (Some e)) w u h = by (nat_eq y x)
    where
      by : (c : Bool) → inners_share dt n (cond c (Assign key (T.Property n q at) (mi e)) (Declare key y (Some (mi e)))) ≡ true
      by true = refl
      by false = refl
  inners-moved (If key c a b) w u h =
      let r = both-true (inners_share dt n a) (inners_share dt n b) h in
      let v = all-append (suits dt) (uses_in c) (uses_of a ++ uses_of b) u in
      let o = all-append (suits dt) (uses_of a) (uses_of b) v.1 in
      and-true (inners_share dt n (mv a)) (inners_share dt n (mv b)) (inners-moved a w.1 o.0 r.0) (inners-moved b w.2 o.1 r.1)
  inners-moved (Foreach key p hd test body) w u h =
      let v = all-append (suits dt) (uses_of_head hd) (uses_in test ++ uses_of body) u in
      let o = all-append (suits dt) (uses_in test) (uses_of body) v.1 in
      inner-moved test body w.2 w.3 o.1 h
  inners-moved s w u h = h

  pub shares-beside-moved : (was is : Bool) → is ≡ true → (test : Expr) (body : Stmt) → ReadsBelow k test → NamesBelow k body → Suit (uses_of body) → shares_with was dt n test body ≡ true → shares_with is dt n (mi test) (mv body) ≡ true
  shares-beside-moved was is alike test body r b u h =
      let seen = with_reads (sights_in test) (sights_of dt n false body) in
      let after = with_reads (sights_in (mi test)) (sights_of dt n false (mv body)) in
      let s = sees false test body in
      let all = reduced dt n false body in
      let lows = reduced-low x q k fresh dt n false body b in
      let named = reduced-declared x q k fresh dt n at t deep plain false body u in
      let own = written dt n false body in
      let own' = written dt n false (mv body) in
      let gone = deferred body in
      let shared = shared_in all in
      let kept = kept_in all in
      let shared' = map (rx x q k fresh) shared in
      let kept' = map (rx x q k fresh) kept in
      let anywhere = read_anywhere seen.properties in
      let anywhere' = read_anywhere after.properties in
      let elsewhere = read_elsewhere n seen.properties in
      let reads : Low k seen.properties = low-both k (reads_in test) (sights_of dt n false body).properties (reads-low k test r) (sights-low k dt n false body b) in
      let rest = all_agree all && (inners_share dt n body && was) in
      let w = both-true (disjoint shared (anywhere ++ (seen.scalars ++ own))) (disjoint (own ++ kept) elsewhere && (disjoint gone (own ++ (shared ++ kept)) && rest)) h in
      let v = both-true (disjoint (own ++ kept) elsewhere) (disjoint gone (own ++ (shared ++ kept)) && rest) w.1 in
      let o = both-true (disjoint gone (own ++ (shared ++ kept))) rest v.1 in
      let a = both-true (all_agree all) (inners_share dt n body && was) o.1 in
      let c = both-true (inners_share dt n body) was a.1 in
      let is-shared : (z : ℕ) → IsIn z shared' → IsIn z shared = λ z i. ⊎_elim (λ l. l) (λ (l : (z ≡ q) × IsIn x shared). absurd (not-shared x q k fresh dt n at t deep plain false body u l.1)) (in-renamed x q k fresh z shared i) in
      let one : disjoint shared' (anywhere' ++ (after.scalars ++ own')) ≡ true = apart-disjoint shared' (anywhere' ++ (after.scalars ++ own')) (λ z i j.
      let l = is-shared z i in
      let low = shared-low x q k fresh dt n all lows z l in
      let apart : IsIn z (anywhere ++ (seen.scalars ++ own)) → ⊥ = λ m. disjoint-apart shared (anywhere ++ (seen.scalars ++ own)) z w.0 l m in
      ⊎_elim (λ m. ⊎_elim (λ p. apart (in-left z anywhere (seen.scalars ++ own) p)) (λ p. new z low p) (s.anywhere z m))
      (λ m. ⊎_elim (λ p. ⊎_elim (λ y. apart (in-right z anywhere (seen.scalars ++ own) (in-left z seen.scalars own y))) (λ (y : z ≡ n). not-iterator z (named.0 z l) y) (s.told z p))
      (λ p. ⊎_elim (λ y. apart (in-right z anywhere (seen.scalars ++ own) (in-right z seen.scalars own y))) (λ y. new z low y) (written-moved dt x q n at t deep false body z p))
      (in-either z after.scalars own' m)) (in-either z anywhere' (after.scalars ++ own') j)) in
      let two : disjoint (own' ++ kept') elsewhere ≡ true = apart-disjoint (own' ++ kept') elsewhere (λ z i j.
      let apart : IsIn z (own ++ kept) → ⊥ = λ m. disjoint-apart (own ++ kept) elsewhere z v.0 m j in
      let old : z ≡ q → ⊥ = λ e. new z (elsewhere-low k n seen.properties z reads j) e in
      ⊎_elim (λ m. ⊎_elim (λ p. apart (in-left z own kept p)) old (written-moved dt x q n at t deep false body z m))
      (λ m. ⊎_elim (λ p. apart (in-right z own kept p)) (λ (p : (z ≡ q) × IsIn x kept). old p.0) (in-renamed x q k fresh z kept m)) (in-either z own' kept' i)) in
      let three : disjoint gone (own' ++ (shared' ++ kept')) ≡ true = apart-disjoint gone (own' ++ (shared' ++ kept')) (λ z i j.
      let apart : IsIn z (own ++ (shared ++ kept)) → ⊥ = λ m. disjoint-apart gone (own ++ (shared ++ kept)) z o.0 i m in
      let old : z ≡ q → ⊥ = λ e. new z (deferred-below k body z b i) e in
      ⊎_elim (λ m. ⊎_elim (λ p. apart (in-left z own (shared ++ kept) p)) old (written-moved dt x q n at t deep false body z m))
      (λ m. ⊎_elim (λ p. apart (in-right z own (shared ++ kept) (in-left z shared kept (is-shared z p))))
      (λ p. ⊎_elim (λ y. apart (in-right z own (shared ++ kept) (in-right z shared kept y))) (λ (y : (z ≡ q) × IsIn x kept). old y.0) (in-renamed x q k fresh z kept p))
      (in-either z shared' kept' m)) (in-either z own' (shared' ++ kept') j)) in
      ap (λ (rs : List Reduced). disjoint (shared_in rs) (anywhere' ++ (after.scalars ++ own')) && (disjoint (own' ++ kept_in rs) (read_elsewhere n after.properties) && (disjoint (deferred (mv body)) (own' ++ (shared_in rs ++ kept_in rs)) && (all_agree rs && (inners_share dt n (mv body) && is)))))
      (reduced-moved x q k fresh dt n at t deep plain false body u)
      ∙ ap (λ l. disjoint l (anywhere' ++ (after.scalars ++ own')) && (disjoint (own' ++ kept_in (map (renamed x q k fresh) all)) (read_elsewhere n after.properties) && (disjoint (deferred (mv body)) (own' ++ (l ++ kept_in (map (renamed x q k fresh) all))) && (all_agree (map (renamed x q k fresh) all) && (inners_share dt n (mv body) && is)))))
      (shared-renamed x q k fresh all)
      ∙ ap (λ l. disjoint shared' (anywhere' ++ (after.scalars ++ own')) && (disjoint (own' ++ l) (read_elsewhere n after.properties) && (disjoint (deferred (mv body)) (own' ++ (shared' ++ l)) && (all_agree (map (renamed x q k fresh) all) && (inners_share dt n (mv body) && is)))))
      (kept-renamed x q k fresh all)
      ∙ and-true (disjoint shared' (anywhere' ++ (after.scalars ++ own'))) (disjoint (own' ++ kept') (read_elsewhere n after.properties) && (disjoint (deferred (mv body)) (own' ++ (shared' ++ kept')) && (all_agree (map (renamed x q k fresh) all) && (inners_share dt n (mv body) && is)))) one
      (and-true (disjoint (own' ++ kept') (read_elsewhere n after.properties)) (disjoint (deferred (mv body)) (own' ++ (shared' ++ kept')) && (all_agree (map (renamed x q k fresh) all) && (inners_share dt n (mv body) && is))) (ap (disjoint (own' ++ kept')) s.elsewhere ∙ two)
      (and-true (disjoint (deferred (mv body)) (own' ++ (shared' ++ kept'))) (all_agree (map (renamed x q k fresh) all) && (inners_share dt n (mv body) && is)) (ap (λ l. disjoint l (own' ++ (shared' ++ kept'))) (deferred-moved dt x q n at t deep body) ∙ three)
      (and-true (all_agree (map (renamed x q k fresh) all)) (inners_share dt n (mv body) && is) (agree-renamed x q k fresh all lows a.0)
      (and-true (inners_share dt n (mv body)) is (inners-moved body b u c.0) alike))))
