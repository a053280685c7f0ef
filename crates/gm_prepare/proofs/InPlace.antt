-- Reductions whose nodes are read first, in place.
use Rattle.std.proofs.Common.{◌≡◌, ◌+◌, ℕ, List, [], ◌∷◌, ap, sym, ◌∙◌, map, rules, Some}
use Rattle.std.specs.Prelude.{Bool}
use Rattle.std.specs.Global.{Vec}
use Rattle.gm_value.specs.declared.reductions.Reduce.{Reduce}
use Rattle.gm_ast.specs.declared.tree.Declaration.{Declaration}
use Rattle.gm_ast.specs.declared.tree.Expr as E
use Rattle.gm_ast.specs.declared.tree.Key.{Key}
use Rattle.gm_ast.specs.declared.tree.Stmt as S
use Rattle.gm_ast.specs.declared.tree.Stmt.{the_lemmas}
use Rattle.gm_ast.specs.declared.tree.Target.{Target}
use Rattle.gm_ast.specs.declared.tree.TotalKey.{TotalKey}
use Rattle.gm_ast.specs.Program.{Expr, Declare, Combine, sequence}
use Rattle.gm_ast.specs.Tree.{expr_of, stmt_of}
use Rattle.gm_parting.specs.Nodes.{node_before, nodes_read, read_first, separate, through}

pub stmt_of-Reduce : (k : Key) (total : TotalKey) (r : Reduce) (ts : Vec Target) (es : Vec E.Expr) → stmt_of (S.Reduce k total r ts es) ≡ Combine k total r ts.items (map expr_of es.items)
stmt_of-Reduce k total r ts es = search (rules, the_lemmas)

-- what a reduction is whose parts are known by equations
pub reduce-is : {s : S.Stmt} {k j : Key} {total there : TotalKey} {r o : Reduce} {ts us : Vec Target} {es ds : Vec E.Expr} →
    j ≡ k → there ≡ total → o ≡ r → us ≡ ts → ds ≡ es → s ≡ S.Reduce k total r ts es → stmt_of s ≡ Combine j there o us.items (map expr_of ds.items)
reduce-is {k = k} {total = total} {r = r} {ts = ts} {es = es} p q o u v i = rw (p, q, o, u, v) (ap stmt_of i ∙ stmt_of-Reduce k total r ts es)

-- what becomes of a reduction whose node is read into a local v first
pub reduced-first : (ds : List Declaration) (outer : Bool) (first deep done : ℕ) (k : Key) (total : TotalKey) (r : Reduce) (ts us : List Target) (es : List Expr) (v : ℕ) (e : Expr) →
    v ≡ first + done → us ≡ map (through v) ts → node_before ds ts ≡ Some e → separate outer k (sequence (Declare k v (Some e) ∷ Combine k total r us es ∷ [])) ≡ nodes_read ds outer first deep done (Combine k total r ts es)
reduced-first ds outer first deep done k total r ts us es v e h g b =
    ap (λ u. separate outer k (sequence (Declare k v (Some e) ∷ Combine k total r u es ∷ []))) g
    ∙ ap (λ w. separate outer k (sequence (Declare k w (Some e) ∷ Combine k total r (map (through w) ts) es ∷ []))) h ∙ ap (λ o. read_first outer o (first + done) k total r ts es) (sym b)
