-- A program whose loops read nodes first means the same, and is as ready as it was.
use Rattle.std.proofs.Common.{◌≡◌, ◌<◌, ◌≤◌, ◌+◌, arith, ℕ, zero, suc, Bool, true, false, cond, List, [], ◌∷◌, ◌++◌, length, refl, sym, ap, subst, ◌∙◌, Option, Some}
use Rattle.std.specs.Prelude.{nat_le, slice_get, option_map}
use Rattle.std.specs.List.{list_all}
use Rattle.std.proofs.lemmas.Bool.{leb-true, le-leb}
use Rattle.gm_base.specs.declared.places.Place.{Place}
use Rattle.gm_value.specs.declared.values.VType.{VType}
use Rattle.gm_ast.specs.declared.tree.Declaration.{Declaration}
use Rattle.gm_ast.specs.declared.tree.Head.{Head}
use Rattle.gm_ast.specs.declared.tree.Key.{Key}
use Rattle.gm_ast.specs.Program.{Expr, Stmt, Then, Foreach, For, If, While, Do, Program}
use Rattle.gm_semantics.specs.Statements.{variable_or, variable_at}
use Rattle.gm_forms.specs.Cut.{is_own_loop}
use Rattle.gm_forms.specs.Extends.{run_of, start_of}
use Rattle.gm_forms.specs.Meanings.{SameMeaning}
use Rattle.gm_forms.specs.Ready.{Ready2}
use Rattle.gm_forms.specs.Uses.{suits, uses_in, uses_of_head, uses_of}
use Rattle.gm_forms.proofs.Named.{both-true, all-append, names-below}
use Rattle.gm_forms.proofs.Tables.{same-alike}
use Rattle.gm_forms.proofs.Weaker.{and-true}
use Rattle.gm_dissect.specs.Loops.{each_loop}
use Rattle.gm_dissect.proofs.DeferredLaws.{variable-longer, known-phase, longer}
use Rattle.gm_dissect.proofs.Kept.{Sound, phase-kept}
use Rattle.gm_dissect.proofs.Phases.{phase-alike}
use Rattle.gm_cut.proofs.Shared.{shares-alike}
use Rattle.gm_parting.specs.Nodes.{nodes_in, nodes_read, nodes_loop, all_nodes_in, node_local, node_locals, with_nodes_read}
use Rattle.gm_parting.proofs.NodesLoops.{nodes-alike}
use Rattle.gm_parting.proofs.Loops.{sound-of}
use Rattle.gm_parting.proofs.NodesRead.{Row, Reads, as_it_is, body-reads}
use Rattle.gm_parting.proofs.NodesKept.{loop-read}

-- ---- the table

pub table-length : (ds : List Declaration) (n m : ℕ) → length (ds ++ (node_locals 1 n ++ node_locals 2 m)) ≡ length ds + n + m
table-length [] zero zero = refl
table-length [] zero (suc m) = let e = table-length [] zero m in omega (arith, e)
table-length [] (suc n) m = let e = table-length [] n m in omega (arith, e)
table-length (x ∷ ds) n m = let e = table-length ds n m in omega (arith, e)

get-outer : (ds : List Declaration) (n m y : ℕ) → length ds ≤ y → y < length ds + n → slice_get (ds ++ (node_locals 1 n ++ node_locals 2 m)) y ≡ Some (node_local 1)
get-outer [] zero m y l h = absurd (omega (arith, l, h))
get-outer [] (suc n) m zero l h = refl
get-outer [] (suc n) m (suc y) l h = get-outer [] n m y (omega arith) (omega (arith, h))
get-outer (x ∷ ds) n m zero l h = absurd (omega (arith, l))
get-outer (x ∷ ds) n m (suc y) l h = get-outer ds n m y (omega (arith, l)) (omega (arith, h))

get-inner : (ds : List Declaration) (n m y : ℕ) → length ds + n ≤ y → y < length ds + n + m → slice_get (ds ++ (node_locals 1 n ++ node_locals 2 m)) y ≡ Some (node_local 2)
get-inner [] zero zero y l h = absurd (omega (arith, l, h))
get-inner [] zero (suc m) zero l h = refl
get-inner [] zero (suc m) (suc y) l h = get-inner [] zero m y (omega arith) (omega (arith, h))
get-inner [] (suc n) m zero l h = absurd (omega (arith, l))
get-inner [] (suc n) m (suc y) l h = get-inner [] n m y (omega (arith, l)) (omega (arith, h))
get-inner (x ∷ ds) n m zero l h = absurd (omega (arith, l))
get-inner (x ∷ ds) n m (suc y) l h = get-inner ds n m y (omega (arith, l)) (omega (arith, h))

-- ds: the table; n: at least as many nodes as a loop reads
module _ (ds : List Declaration) (n : ℕ) where
  abbrev pub dt : List Declaration
  dt = ds ++ (node_locals 1 n ++ node_locals 2 n)

  pub more : length ds ≤ length dt
  more = let e = table-length ds n n in omega (arith, e)

  pub same : (x : ℕ) → x < length ds → variable_at dt x ≡ variable_at ds x
  same x h = variable-longer ds (node_locals 1 n ++ node_locals 2 n) x h

  pub outer-rows : (j : ℕ) → j < n → Row ds dt 1 (length ds + j)
  outer-rows j l = let e = table-length ds n n in record {
    high = omega arith;
    inside = omega (arith, e, l);
    is = ap (λ o. variable_or (option_map (λ (d : Declaration). d.variable) o)) (get-outer ds n n (length ds + j) (omega arith) (omega (arith, l)));
  }

  pub inner-rows : (j : ℕ) → j < n → Row ds dt 2 ((length ds + n) + j)
  inner-rows j l = let e = table-length ds n n in record {
    high = omega arith;
    inside = omega (arith, e, l);
    is = ap (λ o. variable_or (option_map (λ (d : Declaration). d.variable) o)) (get-inner ds n n ((length ds + n) + j) (omega arith) (omega (arith, l)));
  }

  -- a loop that reads no more than so many
  abbrev pub reading : Key → Place → Head → Expr → Stmt → Stmt
  reading = nodes_loop ds (length ds) (length ds + n)

  abbrev tried : Key → Place → Head → Expr → Stmt → Stmt
  tried k at h test body = cond (nat_le (nodes_in ds body) n) (reading k at h test body) (Foreach k at h test body)

  tried-all : (s : Stmt) → all_nodes_in ds s ≤ n → each_loop reading s ≡ each_loop tried s
  tried-all (Then a b) l = ap (λ x. Then x (each_loop reading b)) (tried-all a (omega (arith, l))) ∙ ap (Then (each_loop tried a)) (tried-all b (omega (arith, l)))
  tried-all (Foreach k at hd test body) l = ap (λ b. cond b (reading k at hd test body) (Foreach k at hd test body)) (sym (le-leb (nodes_in ds body) n l))
  tried-all (For k at hd test body) l = ap (For k at hd test) (tried-all body l)
  tried-all (If k c a b) l = ap (λ x. If k c x (each_loop reading b)) (tried-all a (omega (arith, l))) ∙ ap (If k c (each_loop tried a)) (tried-all b (omega (arith, l)))
  tried-all (While k at c body) l = ap (While k at c) (tried-all body l)
  tried-all (Do k at body c) l = ap (λ s. Do k at s c) (tried-all body l)
  tried-all s l = refl

  -- the body of such a loop
  pub body-is : (res : Option VType) (k : Key) (at : Place) (hd : Head) (test : Expr) (body : Stmt) → Sound ds res (Foreach k at hd test body) → nodes_in ds body ≤ n → Reads ds dt 1 body (nodes_read ds true (length ds) (length ds + n) 0 body)
  body-is res k at hd test body s l =
      body-reads ds dt n true 1 (length ds) (length ds + n) 0 body outer-rows inner-rows (omega (arith, l)) (all-append (suits ds) (uses_in test) (uses_of body) (all-append (suits ds) (uses_of_head hd) (uses_in test ++ uses_of body) s.named).1).1
      (shares-alike ds hd.iterator test body s.share)

  pub loop-kept : (res : Option VType) (k : Key) (at : Place) (hd : Head) (test : Expr) (body : Stmt) → Sound ds res (Foreach k at hd test body) → Sound dt res (tried k at hd test body)
  loop-kept res k at hd test body s = by (nat_le (nodes_in ds body) n) refl (is_own_loop hd.iterator body)
    where
      itself : Sound dt res (Foreach k at hd test body)
      itself = loop-read ds dt same more res k at hd test body body s (as_it_is 1 body)

      by : (b : Bool) → nat_le (nodes_in ds body) n ≡ b → (o : Bool) → Sound dt res (cond b (cond o (Foreach k at hd test body) (Foreach k at hd test (nodes_read ds true (length ds) (length ds + n) 0 body))) (Foreach k at hd test body))
      by false e o = itself
      by true e true = itself
      by true e false = loop-read ds dt same more res k at hd test body (nodes_read ds true (length ds) (length ds + n) 0 body) s (body-is res k at hd test body s (leb-true (nodes_in ds body) n e))

-- the program means the same
pub same-read : (p : Program) → Ready2 p → SameMeaning p (with_nodes_read p)
same-read p r =
    let known = known-phase p r in
    let ds = p.declarations in
    let n = all_nodes_in ds p.body in
    let q = with_nodes_read p in
    same-alike (length ds) p q (longer p (node_locals 1 n ++ node_locals 2 n) q r refl) (names-below ds p.body known.named)
    (λ g args bound fits.
    let run = run_of q g bound in
    phase-alike ds run (nodes_loop ds (length ds) (length ds + n)) (nodes-alike ds run (length ds) (length ds + n) (omega arith) (omega arith)) p.body known (start_of q g args) (start_of q g args)
    (record { store = record { scalar = λ y b. refl; node = λ y n b. refl; edge = λ y n b. refl }; turns = refl }))

-- it is as ready as it was
pub ready-read : (p : Program) → Ready2 p → Ready2 (with_nodes_read p)
ready-read p r =
    let ds = p.declarations in
    let n = all_nodes_in ds p.body in
    let q = with_nodes_read p in
    let m = both-true (nat_le (p.inputs + p.outputs) (length ds)) (list_all (suits ds) (uses_of p.body)) r.sane.named in
    let kept : Sound (dt ds n) p.result (each_loop (reading ds n) p.body) =
    subst (Sound (dt ds n) p.result) (sym (tried-all ds n p.body (omega arith))) (phase-kept ds (dt ds n) (same ds n) (more ds n) p.result (tried ds n) (loop-kept ds n p.result) p.body (sound-of p r)) in
    let within = leb-true (p.inputs + p.outputs) (length ds) m.0 in
    let size = more ds n in
    record {
      sane = record {
        named = and-true (nat_le (p.inputs + p.outputs) (length q.declarations)) (list_all (suits q.declarations) (uses_of q.body)) (le-leb (p.inputs + p.outputs) (length q.declarations) (omega (arith, within, size))) kept.named;
        typed = kept.typed;
        ordered = kept.order;
        race_free = kept.share;
      };
      form = kept.form;
    }
