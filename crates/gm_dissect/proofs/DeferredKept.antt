-- A program without deferred writes to a property keeps what every pass keeps, and its form.
use Rattle.std.proofs.Common.{◌≡◌, ◌<◌, ◌≤◌, arith, ℕ, zero, suc, Bool, true, false, cond, List, [], ◌∷◌, ◌++◌, length, refl, sym, ap, subst, ◌∙◌, Option, Some, ⊎_elim, slice_get}
use Rattle.std.specs.Prelude.{◌+◌, ◌&&◌, ◌||◌, nat_eq, nat_lt, nat_le, option_map}
use Rattle.std.specs.List.{list_all}
use Rattle.std.proofs.lemmas.Bool.{both_ways, eq-eqb, leb-true, le-leb, lt-ltb}
use Rattle.gm_base.specs.declared.places.Place.{Place}
use Rattle.gm_value.specs.Bag.{IsIn}
use Rattle.gm_value.specs.declared.values.VType.{VType}
use Rattle.gm_value.specs.declared.values.VType.TheVariants as V
use Rattle.gm_value.specs.Operations.{same_type}
use Rattle.gm_ast.specs.declared.tree.Declaration.{Declaration}
use Rattle.gm_ast.specs.declared.tree.Head.{Head}
use Rattle.gm_ast.specs.declared.tree.Key.{Key}
use Rattle.gm_ast.specs.declared.tree.Sort.{Sort}
use Rattle.gm_ast.specs.declared.tree.Sort.TheVariants as Sorts
use Rattle.gm_ast.specs.declared.tree.Target.TheVariants as T
use Rattle.gm_ast.specs.declared.tree.Variable.{Variable}
use Rattle.gm_ast.specs.Keys.{Fault}
use Rattle.gm_ast.specs.Loops.{is_nodes}
use Rattle.gm_ast.specs.Names.{is_node_type, sort_eq}
use Rattle.gm_ast.specs.Program.{Expr, Property, always, Stmt, Skip, Then, Assign, Foreach, Program, sequence}
use Rattle.gm_semantics.specs.Frames.{NamesBelow}
use Rattle.gm_semantics.specs.Statements.{variable_or, variable_at}
use Rattle.gm_forms.specs.Forms.{is_flat, is_outer_body, is_flat_loop}
use Rattle.gm_forms.specs.Order.{second_key, fault_of, are_numbered, cannot_fail, lie_before, hoisted_in, faults_in, faults_of, in_order, body_in_order}
use Rattle.gm_forms.specs.Ready.{Ready2}
use Rattle.gm_forms.specs.Sharing.{Sights, Reduced, told_in, reads_in, sights_of, written, reduced, deferred, inners_share, shares, disjoint, shared_in, kept_in, read_anywhere, read_elsewhere, all_agree, targets_alike}
use Rattle.gm_forms.specs.Typing.{type_at, has_type, is_typed_in}
use Rattle.gm_forms.specs.Uses.{Iterates, Owner, NodeValue, Use, has_role, use_as, owner_role, suits, uses_in, uses_of_head, uses_of}
use Rattle.gm_forms.proofs.Doings.{in-left, in-right, in-either}
use Rattle.gm_forms.proofs.Named.{both-true, all-append, names-below}
use Rattle.gm_forms.proofs.Weaker.{and-true}
use Rattle.gm_loop_laws.specs.Deferring.{undeferred}
use Rattle.gm_loop_laws.proofs.Chosen.{disjoint-apart, apart-disjoint}
use Rattle.gm_dissect.specs.Deferred.{copied, copy_of, defers, undeferred_loop, without_deferred_to}
use Rattle.gm_dissect.proofs.DeferredLaws.{variable-longer}
use Rattle.gm_dissect.proofs.DeferredLoops.{use-of, deferred-use, defers-listed}
use Rattle.gm_dissect.proofs.Kept.{Sound, sound-then, sound-skip, phase-kept}
use Rattle.gm_dissect.proofs.Longer.{all-suit, vtype-same, typed-same, shares-same, outer-body-same}
use Rattle.gm_dissect.proofs.Setting.{set-stands}
use Rattle.gm_dissect.proofs.Undeferred.{append-true, deferred-below, shared-below, Low, low-both, reads-low, sights-low, elsewhere-low, sights-undeferred, reduced-undeferred, inners-undeferred, alike-undeferred, faults-undeferred, order-undeferred, form-undeferred, typed-undeferred, named-undeferred, written-undeferred, deferred-undeferred}

pub type-itself : (t : VType) → same_type t t ≡ true
type-itself V.I32 = refl
type-itself V.I64 = refl
type-itself V.Flag = refl
type-itself V.Node = refl

-- what iterates may own
pub owns : (v : Variable) → has_role v Iterates ≡ true → has_role v Owner ≡ true
owns v h = by v.sort refl h
  where
    by : (s : Sort) → v.sort ≡ s → sort_eq Sorts.Iterator s || sort_eq Sorts.Graph s ≡ true → (sort_eq Sorts.Iterator s || (sort_eq Sorts.Scalar s && is_node_type v.vtype)) || sort_eq Sorts.Graph s ≡ true
    by Sorts.Graph e h = refl
    by Sorts.Iterator e h = refl
    by Sorts.Scalar e h = absurd (both_ways false refl h)
    by Sorts.Edge e h = absurd (both_ways false refl h)
    by Sorts.NodeProperty e h = absurd (both_ways false refl h)
    by Sorts.EdgeProperty e h = absurd (both_ways false refl h)

-- the variable behind a table
pub length-one : (ds : List Declaration) (d : Declaration) → length (ds ++ (d ∷ [])) ≡ suc (length ds)
length-one [] d = refl
length-one (x ∷ ds) d = ap suc (length-one ds d)

get-last : (ds : List Declaration) (d : Declaration) → slice_get (ds ++ (d ∷ [])) (length ds) ≡ Some d
get-last [] d = refl
get-last (x ∷ ds) d = get-last ds d

pub last-variable : (ds : List Declaration) (d : Declaration) → variable_at (ds ++ (d ∷ [])) (length ds) ≡ d.variable
last-variable ds d = ap (λ o. variable_or (option_map (λ (x : Declaration). x.variable) o)) (get-last ds d)

-- ds: the table; p: the property; res: the result's type
module _ (ds : List Declaration) (p : ℕ) (res : Option VType) where
  abbrev dt : List Declaration
  dt = ds ++ (copy_of ds p ∷ [])

  abbrev q : ℕ
  q = length ds

  same : (x : ℕ) → x < length ds → variable_at dt x ≡ variable_at ds x
  same x h = variable-longer ds (copy_of ds p ∷ []) x h

  more : length ds ≤ length dt
  more = let e = length-one ds (copy_of ds p) in omega (arith, e)

  pub use-suits : (x : ℕ) (role : _) → x < length dt → has_role (variable_at dt x) role ≡ true → list_all (suits dt) (use_as role x) ≡ true
  use-suits x role l h = and-true (nat_lt x (length dt) && has_role (variable_at dt x) role) true (and-true (nat_lt x (length dt)) (has_role (variable_at dt x) role) (lt-ltb x (length dt) l) h) refl

  copy-use : list_all (suits dt) (use_as NodeValue q) ≡ true
  copy-use = use-suits q NodeValue (let e = length-one ds (copy_of ds p) in omega (arith, e)) (ap (λ (v : Variable). has_role v NodeValue) (last-variable ds (copy_of ds p)))

  module _ (key : Key) (at : Place) (hd : Head) (test : Expr) (body : Stmt) (sound : Sound ds res (Foreach key at hd test body)) where
    abbrev n : ℕ
    n = hd.iterator

    below : NamesBelow q (Foreach key at hd test body)
    below = names-below ds (Foreach key at hd test body) sound.named

    -- the loop as it is
    longer-loop : Sound dt res (Foreach key at hd test body)
    longer-loop = record {
      named = all-suit ds dt same more (uses_of (Foreach key at hd test body)) sound.named;
      typed = typed-same ds dt same more res (Foreach key at hd test body) below ∙ sound.typed;
      order = sound.order;
      share = shares-same ds dt same more n test body below.3 ∙ sound.share;
      form = ap (λ b. is_nodes hd.domain && (is_flat (n ∷ []) false test && b)) (outer-body-same ds dt same more n body below.3) ∙ sound.form;
    }

    module _ (some : IsIn p (deferred body)) where
      known : (p < length ds) × (has_role (variable_at ds p) NodeValue ≡ true)
      known =
          let f = both-true (is_nodes hd.domain) (is_flat_loop ds false n test body) sound.form in
          let g = both-true (is_flat (n ∷ []) false test) (is_outer_body ds false n body) f.1 in
          let r = all-append (suits ds) (uses_of_head hd) (uses_in test ++ uses_of body) sound.named in
          let s = all-append (suits ds) (uses_in test) (uses_of body) r.1 in
          deferred-use ds n p body g.1 s.1 some

      types : type_at dt q ≡ type_at dt p
      types = ap (λ (v : Variable). v.vtype) (last-variable ds (copy_of ds p)) ∙ sym (vtype-same ds dt same more p known.0)

      property-use : list_all (suits dt) (use_as NodeValue p) ≡ true
      property-use = use-suits p NodeValue (let k = known.0 in let m = more in omega (arith, k, m)) (ap (λ (v : Variable). has_role v NodeValue) (same p known.0) ∙ known.1)

      -- a loop that copies
      copy-sound : (a b : ℕ) → list_all (suits dt) (use_as NodeValue a) ≡ true → list_all (suits dt) (use_as NodeValue b) ≡ true → type_at dt a ≡ type_at dt b → Sound dt res (copied a b at hd)
      copy-sound a b u v t =
          let r = all-append (suits dt) (uses_of_head hd) (uses_in test ++ uses_of body) longer-loop.named in
          let i = all-append (suits dt) (use_as Iterates n) (use_as (owner_role hd.domain) hd.owner) r.0 in
          let k = use-of dt Iterates n i.0 in
          let o = use-suits n Owner k.0 (owns (variable_at dt n) k.1) in
          let g = both-true (is_nodes hd.domain) (is_flat_loop dt false n test body) longer-loop.form in
          record {
            named = append-true (suits dt) (uses_of_head hd) ((use_as Owner n ++ use_as NodeValue a) ++ (use_as Owner n ++ use_as NodeValue b)) r.0
                (append-true (suits dt) (use_as Owner n ++ use_as NodeValue a) (use_as Owner n ++ use_as NodeValue b) (append-true (suits dt) (use_as Owner n) (use_as NodeValue a) o u) (append-true (suits dt) (use_as Owner n) (use_as NodeValue b) o v));
            typed = ap (λ z. same_type z (type_at dt b)) t ∙ type-itself (type_at dt b);
            order = set-stands (n ∷ []) (n ∷ []) hd.place second_key (T.Property n a at) (Property n b at) refl (ap (λ z. z || false) (eq-eqb n n refl));
            share = ap (λ z. disjoint (a ∷ []) (cond z [] (b ∷ [])) && true) (eq-eqb n n refl);
            form = and-true (is_nodes hd.domain) (nat_eq n n && (nat_eq n n || false)) g.0 (ap (λ z. z && (z || false)) (eq-eqb n n refl));
          }

      abbrev inside : Stmt
      inside = undeferred p q body

      -- whether a loop shares, by what its body reads, writes and reduces
      abbrev shares_by : Sights → List Reduced → List ℕ → List ℕ → Bool → Bool → Bool
      shares_by seen all own gone inners alike =
          disjoint (shared_in all) (read_anywhere (reads_in test ++ seen.properties) ++ ((told_in test ++ seen.scalars) ++ own))
          && (disjoint (own ++ kept_in all) (read_elsewhere n (reads_in test ++ seen.properties))
          && (disjoint gone (own ++ (shared_in all ++ kept_in all))
          && (all_agree all && (inners && alike))))

      -- a variable that is named is not the copy
      not-copy : (y : ℕ) → y < q → y ≡ q → ⊥
      not-copy y l e = omega (arith, l, e)

      shared : shares dt n test inside ≡ true
      shared =
          let seen = sights_of dt n false body in
          let all = reduced dt n false body in
          let own = written dt n false body in
          let new = written dt n false inside in
          let gone = deferred body in
          let less = deferred inside in
          let reads = read_anywhere (reads_in test ++ seen.properties) in
          let elsewhere = read_elsewhere n (reads_in test ++ seen.properties) in
          let told = told_in test ++ seen.scalars in
          let others = shared_in all ++ kept_in all in
          let rest = all_agree all && (inners_share dt n body && targets_alike body) in
          let a = both-true (disjoint (shared_in all) (reads ++ (told ++ own))) (disjoint (own ++ kept_in all) elsewhere && (disjoint gone (own ++ others) && rest)) longer-loop.share in
          let b = both-true (disjoint (own ++ kept_in all) elsewhere) (disjoint gone (own ++ others) && rest) a.1 in
          let c = both-true (disjoint gone (own ++ others)) rest b.1 in
          let low : Low q (reads_in test ++ seen.properties) = low-both q (reads_in test) seen.properties (reads-low q test below.2) (sights-low q dt n false body below.3) in
          let one : disjoint (shared_in all) (reads ++ (told ++ new)) ≡ true = apart-disjoint (shared_in all) (reads ++ (told ++ new)) (λ y i j.
          ⊎_elim (λ l. disjoint-apart (shared_in all) (reads ++ (told ++ own)) y a.0 i (in-left y reads (told ++ own) l))
          (λ r. ⊎_elim (λ l. disjoint-apart (shared_in all) (reads ++ (told ++ own)) y a.0 i (in-right y reads (told ++ own) (in-left y told own l)))
          (λ m. ⊎_elim (λ w. disjoint-apart (shared_in all) (reads ++ (told ++ own)) y a.0 i (in-right y reads (told ++ own) (in-right y told own w)))
          (λ e. not-copy y (shared-below q dt n false body y below.3 i) e) (written-undeferred dt n p q body y m)) (in-either y told new r)) (in-either y reads (told ++ new) j)) in
          let two : disjoint (new ++ kept_in all) elsewhere ≡ true = apart-disjoint (new ++ kept_in all) elsewhere (λ y i j.
          ⊎_elim (λ m. ⊎_elim (λ w. disjoint-apart (own ++ kept_in all) elsewhere y b.0 (in-left y own (kept_in all) w) j)
          (λ e. not-copy y (elsewhere-low q n (reads_in test ++ seen.properties) y low j) e) (written-undeferred dt n p q body y m))
          (λ r. disjoint-apart (own ++ kept_in all) elsewhere y b.0 (in-right y own (kept_in all) r) j) (in-either y new (kept_in all) i)) in
          let three : disjoint less (new ++ others) ≡ true = apart-disjoint less (new ++ others) (λ y i j.
          let d = deferred-undeferred dt n p q body y i in
          ⊎_elim (λ m. ⊎_elim (λ w. disjoint-apart gone (own ++ others) y c.0 d (in-left y own others w))
          (λ e. not-copy y (deferred-below q body y below.3 d) e) (written-undeferred dt n p q body y m))
          (λ r. disjoint-apart gone (own ++ others) y c.0 d (in-right y own others r)) (in-either y new others j)) in
          ap (λ x. shares_by x (reduced dt n false inside) new less (inners_share dt n inside) (targets_alike inside)) (sights-undeferred dt n p q body)
          ∙ ap (λ x. shares_by seen x new less (inners_share dt n inside) (targets_alike inside)) (reduced-undeferred dt n p q body)
          ∙ ap (λ x. shares_by seen all new less x (targets_alike inside)) (inners-undeferred dt n p q body)
          ∙ ap (λ x. shares_by seen all new less (inners_share dt n body) x) (alike-undeferred dt n p q body)
          ∙ and-true (disjoint (shared_in all) (reads ++ (told ++ new))) (disjoint (new ++ kept_in all) elsewhere && (disjoint less (new ++ others) && rest)) one
          (and-true (disjoint (new ++ kept_in all) elsewhere) (disjoint less (new ++ others) && rest) two (and-true (disjoint less (new ++ others)) rest three c.1))

      -- whether the loop begins well over some faults
      abbrev begins_with : List Fault → Bool
      begins_with fs = lie_before (fault_of key hd.place ∷ []) fs && (are_numbered (hoisted_in test ++ fs) && (nat_lt 0 key.statement || cannot_fail test))

      -- the loop that writes to the copy
      middle-sound : Sound dt res (Foreach key at hd test inside)
      middle-sound =
          let r = all-append (suits dt) (uses_of_head hd) (uses_in test ++ uses_of body) longer-loop.named in
          let s = all-append (suits dt) (uses_in test) (uses_of body) r.1 in
          record {
            named = append-true (suits dt) (uses_of_head hd) (uses_in test ++ uses_of inside) r.0 (append-true (suits dt) (uses_in test) (uses_of inside) s.0 (named-undeferred dt n p q body copy-use s.1));
            typed = ap (λ x. has_type dt V.Flag test && x) (typed-undeferred dt n p q res body types) ∙ longer-loop.typed;
            order =
                ap (λ x. begins_with x && (in_order test key && (body_in_order (n ∷ []) inside && lie_before (faults_in test key) x))) (faults-undeferred dt n p q (n ∷ []) body)
                ∙ ap (λ x. begins_with (faults_of (n ∷ []) body) && (in_order test key && (x && lie_before (faults_in test key) (faults_of (n ∷ []) body)))) (order-undeferred dt n p q (n ∷ []) body)
                ∙ longer-loop.order;
            share = shared;
            form = ap (λ b. is_nodes hd.domain && (is_flat (n ∷ []) false test && b)) (form-undeferred dt n p q body) ∙ longer-loop.form;
          }

      three-sound : Sound dt res (sequence (copied q p at hd ∷ Foreach key at hd test inside ∷ copied p q at hd ∷ []))
      three-sound =
          sound-then dt res (copied q p at hd) (sequence (Foreach key at hd test inside ∷ copied p q at hd ∷ [])) (copy-sound q p copy-use property-use types)
          (sound-then dt res (Foreach key at hd test inside) (sequence (copied p q at hd ∷ [])) middle-sound
          (sound-then dt res (copied p q at hd) Skip (copy-sound p q property-use copy-use (sym types)) (sound-skip dt res)))

  loop-sound : (key : Key) (at : Place) (hd : Head) (test : Expr) (body : Stmt) → Sound ds res (Foreach key at hd test body) → Sound dt res (undeferred_loop p q key at hd test body)
  loop-sound key at hd test body sound = by (defers p body) refl
    where
      by : (b : Bool) → defers p body ≡ b → Sound dt res (cond b (sequence (copied q p at hd ∷ Foreach key at hd test (undeferred p q body) ∷ copied p q at hd ∷ [])) (Foreach key at hd test body))
      by true e = three-sound key at hd test body sound (defers-listed p body e)
      by false e = longer-loop key at hd test body sound

-- a program that is ready for cutting still is
pub ready-without_deferred : (x : ℕ) (p : Program) → Ready2 p → Ready2 (without_deferred_to x p)
ready-without_deferred x p r =
    let ds = p.declarations in
    let m = both-true (nat_le (p.inputs + p.outputs) (length ds)) (list_all (suits ds) (uses_of p.body)) r.sane.named in
    let sound : Sound ds p.result p.body = record { named = m.1; typed = r.sane.typed; order = r.sane.ordered; share = r.sane.race_free; form = r.form } in
    let q = without_deferred_to x p in
    let kept = phase-kept ds (dt ds x p.result) (same ds x p.result) (more ds x p.result) p.result (undeferred_loop x (length ds)) (loop-sound ds x p.result) p.body sound in
    let within = leb-true (p.inputs + p.outputs) (length ds) m.0 in
    let size = more ds x p.result in
    record {
      sane = record {
        named = and-true (nat_le (p.inputs + p.outputs) (length q.declarations)) (list_all (suits q.declarations) (uses_of q.body)) (le-leb (p.inputs + p.outputs) (length q.declarations) (omega (arith, within, size))) kept.named;
        typed = kept.typed;
        ordered = kept.order;
        race_free = kept.share;
      };
      form = kept.form;
    }
