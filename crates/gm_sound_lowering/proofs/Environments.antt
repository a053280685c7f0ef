-- The environments of the lowering tell leaves of their types.
use Rattle.std.proofs.Common.{◌≡◌, ◌<◌, ℕ, suc, Bool, true, false, Option, Some, None, List, [], ◌∷◌, length, map, refl, ap, ◌∙◌, sym, subst}
use Rattle.std.specs.Prelude.{◌||◌, nat_eq, if◌then◌else◌, slice_get}
use Rattle.std.specs.List.{list_any}
use Rattle.std.proofs.lemmas.Bool.{both_ways, eqb-true}
use Rattle.gm_value.specs.declared.values.VType.{VType}
use Rattle.gm_value.specs.declared.values.VType.TheVariants as V
use Rattle.gm_value.specs.Numbers.{zero_of}
use Rattle.gm_ast.specs.declared.tree.Declaration.{Declaration}
use Rattle.gm_ast.specs.declared.tree.Direction.{Direction}
use Rattle.gm_ast.specs.declared.tree.Direction.TheVariants as D
use Rattle.gm_ast.specs.declared.tree.Domain.{Domain}
use Rattle.gm_ast.specs.declared.tree.Domain.TheVariants as Domains
use Rattle.gm_ast.specs.Program.{Program}
use Rattle.gm_forms.specs.Forms.{is_along}
use Rattle.gm_forms.specs.Typing.{type_at}
use Rattle.gm_semantics.specs.Statements.{variable_at}
use Rattle.gm_typed_stores.specs.Values.{Each}
use Rattle.gm_image.specs.Leaves.{stands_in_master, stands_at_vertex}
use Rattle.gm_image.specs.Indices.{value_in_range}
use Rattle.gm_image.specs.Program as image
use Rattle.gm_image.specs.Sorts.{sort_by, value_sort}
use Rattle.gm_image.specs.Term as M
use Rattle.gm_image.specs.Term.{Term}
use Rattle.gm_lowering.specs.Blocks.{receiver_env, direction_of, message_value, load_index}
use Rattle.gm_lowering.specs.Layouts.{Layout, layout, is_global, is_register, has_field}
use Rattle.gm_lowering.specs.Lowered.{lowered}
use Rattle.gm_lowering.specs.Places.{Segment}
use Rattle.gm_lowering.specs.Plans.{Load, SenderItself, SenderProperty, SenderDegree, EdgeValue, same_load, load_if, load_type, loads_in}
use Rattle.gm_lowering.specs.Terms.{master_env, own_env, each_env, phase_scalar, vertex_scalar, own_degree}
use Rattle.gm_sound_lowering.proofs.Leaves.{IsEnv, tells, each-all}
use Rattle.gm_sound_lowering.proofs.Slots.{get-in, global-type, register-type, field-type, column-type}
use Rattle.gm_sound_lowering.specs.Types.{IsTerm, IsCarried as IsCarriedBy, TermsHaveTypes}
use Rattle.gm_sound_lowering.proofs.Terms.{zero-is, typed-is}

-- loads that are one have one type
same-type : (ds : List Declaration) (x y : Load) → same_load x y ≡ true → load_type ds x ≡ load_type ds y
same-type ds SenderItself SenderItself h = refl
same-type ds (SenderProperty p) (SenderProperty q) h = ap (type_at ds) (eqb-true p q h)
same-type ds (SenderDegree d) (SenderDegree e) h = refl
same-type ds (EdgeValue p) (EdgeValue q) h = ap (type_at ds) (eqb-true p q h)
same-type ds SenderItself (SenderProperty q) h = absurd (both_ways false refl h)
same-type ds SenderItself (SenderDegree e) h = absurd (both_ways false refl h)
same-type ds SenderItself (EdgeValue q) h = absurd (both_ways false refl h)
same-type ds (SenderProperty p) SenderItself h = absurd (both_ways false refl h)
same-type ds (SenderProperty p) (SenderDegree e) h = absurd (both_ways false refl h)
same-type ds (SenderProperty p) (EdgeValue q) h = absurd (both_ways false refl h)
same-type ds (SenderDegree d) SenderItself h = absurd (both_ways false refl h)
same-type ds (SenderDegree d) (SenderProperty q) h = absurd (both_ways false refl h)
same-type ds (SenderDegree d) (EdgeValue q) h = absurd (both_ways false refl h)
same-type ds (EdgeValue p) SenderItself h = absurd (both_ways false refl h)
same-type ds (EdgeValue p) (SenderProperty q) h = absurd (both_ways false refl h)
same-type ds (EdgeValue p) (SenderDegree e) h = absurd (both_ways false refl h)

-- a load that is among some is found with its type
load-found : (ds : List Declaration) (x : Load) (loads : List Load) → list_any (same_load x) loads ≡ true → slice_get (map (load_type ds) loads) (load_index x loads) ≡ Some (load_type ds x)
load-found ds x [] h = absurd (both_ways false refl h)
load-found ds x (y ∷ ys) h = by (load-found ds x ys) (same_load x y) refl h where
  by : (list_any (same_load x) ys ≡ true → slice_get (map (load_type ds) ys) (load_index x ys) ≡ Some (load_type ds x)) → (b : Bool) → same_load x y ≡ b → b || list_any (same_load x) ys ≡ true
      → slice_get (load_type ds y ∷ map (load_type ds) ys) (if b then 0 else suc (load_index x ys)) ≡ Some (load_type ds x)
  by rest true e g = ap Some (sym (same-type ds x y e))
  by rest false e g = rest g

pub along-out : (d : Domain) → is_along d ≡ true → direction_of d ≡ image.Out
along-out Domains.OutNbrs h = refl
along-out Domains.Nodes h = absurd (both_ways false refl h)
along-out Domains.InNbrs h = absurd (both_ways false refl h)
along-out Domains.UpNbrs h = absurd (both_ways false refl h)
along-out Domains.DownNbrs h = absurd (both_ways false refl h)

module _ (p : Program) where
  abbrev ds : List Declaration
  ds = p.declarations

  abbrev c : Layout
  c = layout p

  abbrev i : image.Program
  i = lowered p

  -- ---- terms of one leaf

  module _ (kind : Option ℕ) (stands : Term → Bool) where
    pub global-is : (g : ℕ) (t : VType) → stands (M.Global g) ≡ true → slice_get i.globals g ≡ Some t → IsTerm i kind stands t (M.Global g)
    global-is g t h e = record { sort = ap sort_by e; leaves = get-in i.globals g t e; places = refl; leaf = h }

    pub field-is : (f : ℕ) (t : VType) → stands (M.Field f) ≡ true → slice_get i.fields f ≡ Some t → IsTerm i kind stands t (M.Field f)
    field-is f t h e = record { sort = ap sort_by e; leaves = get-in i.fields f t e; places = refl; leaf = h }

    pub register-is : (r : ℕ) (t : VType) → stands (M.Register r) ≡ true → slice_get i.registers r ≡ Some t → IsTerm i kind stands t (M.Register r)
    register-is r t h e = record { sort = ap sort_by e; leaves = get-in i.registers r t e; places = refl; leaf = h }

    pub column-is : (w : ℕ) (t : VType) → stands (M.Column w) ≡ true → slice_get i.columns w ≡ Some t → IsTerm i kind stands t (M.Column w)
    column-is w t h e = record { sort = ap sort_by e; leaves = get-in i.columns w t e; places = refl; leaf = h }

  -- ---- in the master list

  pub master-zero : (t : VType) → IsTerm i None stands_in_master t (M.Const (zero_of t))
  master-zero = zero-is i None stands_in_master (λ v. refl) refl refl

  master-scalar : (x : ℕ) → x < length ds → IsTerm i None stands_in_master (type_at ds x) (phase_scalar c x)
  master-scalar x lt = by (is_global (variable_at ds x)) refl where
    by : (b : Bool) → is_global (variable_at ds x) ≡ b → IsTerm i None stands_in_master (type_at ds x) (if b then M.Global (c.global x) else M.Const (zero_of (type_at ds x)))
    by true e = global-is None stands_in_master (c.global x) (type_at ds x) refl (global-type p x lt e)
    by false e = master-zero (type_at ds x)

  pub master-env : (g : Segment) (Has : Load → Type 0) (sender : ℕ) → IsEnv p None stands_in_master i (master_env c g) [] false sender Has
  master-env g Has sender = record {
    scalar = λ x lt h. master-scalar x lt;
    property = λ x q e f h. absurd (both_ways false refl e);
    degree = λ d x e h. absurd (both_ways false refl e);
    edge = λ e q lt f h. absurd (both_ways false refl e);
  }

  -- ---- at a vertex

  module _ (kind : Option ℕ) (each : Option image.Direction) where
    abbrev stands : Term → Bool
    stands = stands_at_vertex kind each

    pub vertex-zero : (t : VType) → IsTerm i kind stands t (M.Const (zero_of t))
    vertex-zero = zero-is i kind stands (λ v. refl) refl refl

    vertex-phase : (x : ℕ) → x < length ds → IsTerm i kind stands (type_at ds x) (phase_scalar c x)
    vertex-phase x lt = by (is_global (variable_at ds x)) refl where
      by : (b : Bool) → is_global (variable_at ds x) ≡ b → IsTerm i kind stands (type_at ds x) (if b then M.Global (c.global x) else M.Const (zero_of (type_at ds x)))
      by true e = global-is kind stands (c.global x) (type_at ds x) refl (global-type p x lt e)
      by false e = vertex-zero (type_at ds x)

    pub vertex-scalar : (x : ℕ) → x < length ds → IsTerm i kind stands (type_at ds x) (vertex_scalar c x)
    vertex-scalar x lt = by (is_register (variable_at ds x)) refl where
      by : (b : Bool) → is_register (variable_at ds x) ≡ b → IsTerm i kind stands (type_at ds x) (if b then M.Register (c.register x) else phase_scalar c x)
      by true e = register-is kind stands (c.register x) (type_at ds x) refl (register-type p x lt e)
      by false e = vertex-phase x lt

    pub self-is : IsTerm i kind stands V.Node M.Self
    self-is = record { sort = refl; leaves = refl; places = refl; leaf = refl }

    pub degree-is : (d : Direction) → IsTerm i kind stands V.I32 (own_degree d)
    degree-is D.Out = record { sort = refl; leaves = refl; places = refl; leaf = refl }
    degree-is D.In = record { sort = refl; leaves = refl; places = refl; leaf = refl }

    pub property-is : (q : ℕ) → has_field p q ≡ true → IsTerm i kind stands (type_at ds q) (M.Field (c.field q))
    property-is q e = field-is kind stands (c.field q) (type_at ds q) refl (field-type p q e)

    -- the iterator is the vertex itself
    own-scalar : (g : Segment) (n x : ℕ) → type_at ds n ≡ V.Node → x < length ds → IsTerm i kind stands (type_at ds x) ((own_env c g n).scalar x)
    own-scalar g n x t lt = by (nat_eq x n) refl where
      by : (b : Bool) → nat_eq x n ≡ b → IsTerm i kind stands (type_at ds x) (if b then M.Self else vertex_scalar c x)
      by true e = subst (λ u. IsTerm i kind stands u M.Self) (sym t ∙ ap (type_at ds) (sym (eqb-true x n e))) self-is
      by false e = vertex-scalar x lt

    pub own-env : (g : Segment) (n : ℕ) (its : List ℕ) (Has : Load → Type 0) (sender : ℕ) → type_at ds n ≡ V.Node → IsEnv p kind stands i (own_env c g n) its false sender Has
    own-env g n its Has sender t = record {
      scalar = λ x lt h. own-scalar g n x t lt;
      property = λ x q e f h. property-is q f;
      degree = λ d x e h. degree-is d;
      edge = λ e q lt f h. absurd (both_ways false refl e);
    }

  -- ---- in an each

  module _ (domain : Domain) where
    abbrev inner : Term → Bool
    inner = stands_at_vertex None (Some (direction_of domain))

    pub neighbour-is : IsTerm i None inner V.Node M.Neighbour
    neighbour-is = record { sort = refl; leaves = refl; places = refl; leaf = refl }

    pub each-scalar : (g : Segment) (n m x : ℕ) → type_at ds n ≡ V.Node → type_at ds m ≡ V.Node → x < length ds → IsTerm i None inner (type_at ds x) ((each_env c g n m).scalar x)
    each-scalar g n m x t u lt = by (nat_eq x m) refl where
      by : (b : Bool) → nat_eq x m ≡ b → IsTerm i None inner (type_at ds x) (if b then M.Neighbour else (own_env c g n).scalar x)
      by true e = subst (λ w. IsTerm i None inner w M.Neighbour) (sym u ∙ ap (type_at ds) (sym (eqb-true x m e))) neighbour-is
      by false e = own-scalar None (Some (direction_of domain)) g n x t lt

    pub each-env : (g : Segment) (n m : ℕ) (its : List ℕ) (Has : Load → Type 0) (sender : ℕ) → type_at ds n ≡ V.Node → type_at ds m ≡ V.Node
        → IsEnv p None inner i (each_env c g n m) its (is_along domain) sender Has
    each-env g n m its Has sender t u = record {
      scalar = λ x lt h. each-scalar g n m x t u lt;
      property = λ x q e f h. property-is None (Some (direction_of domain)) q f;
      degree = λ d x e h. degree-is None (Some (direction_of domain)) d;
      edge = λ e q lt f h.
          column-is None inner (c.column q) (type_at ds q) (ap (λ d. stands_at_vertex None (Some d) (M.Column (c.column q))) (along-out domain e)) (column-type p q lt f);
    }

  -- ---- at the receiver of a message

  module _ (kind : ℕ) (loads : List Load) (known : slice_get i.kinds kind ≡ Some (record { combiner = None; values = map (load_type ds) loads })) where
    abbrev at : Term → Bool
    at = stands_at_vertex (Some kind) None

    abbrev IsCarried : Load → Type 0
    IsCarried = IsCarriedBy loads

    message-is : (x : Load) → IsCarried x → IsTerm i (Some kind) at (load_type ds x) (message_value loads x)
    message-is x h =
        let e = load-found ds x loads h in record {
          sort = ap (λ k. value_sort k (load_index x loads)) known ∙ ap sort_by e;
          leaves = ap (λ k. value_in_range k (load_index x loads)) known ∙ get-in (map (load_type ds) loads) (load_index x loads) (load_type ds x) e;
          places = refl;
          leaf = refl;
        }

    carried-here : (b : Bool) (x : Load) → b ≡ true → Each IsCarried (if b then x ∷ [] else []) → IsCarried x
    carried-here true x e h = h.0
    carried-here false x e h = absurd (both_ways false refl e)

    pub receiver-env : (g : Segment) (n m : ℕ) (its : List ℕ) (edge : Bool) → type_at ds n ≡ V.Node → type_at ds m ≡ V.Node
        → IsEnv p (Some kind) at i (receiver_env c g n m loads) its edge n IsCarried
    receiver-env g n m its edge t u = record {
      scalar = λ x lt h. scalar x lt h (nat_eq x n) refl;
      property = λ x q e f h. property x q f h (nat_eq x n) refl;
      degree = λ d x e h. degree d x h (nat_eq x n) refl;
      edge = λ e q lt f h. message-is (EdgeValue q) h;
    } where
      scalar : (x : ℕ) → x < length ds → Each IsCarried (load_if n x SenderItself) → (b : Bool) → nat_eq x n ≡ b
          → IsTerm i (Some kind) at (type_at ds x) (if b then message_value loads SenderItself else (own_env c g m).scalar x)
      scalar x lt h true e =
          subst (λ w. IsTerm i (Some kind) at w (message_value loads SenderItself)) (sym t ∙ ap (type_at ds) (sym (eqb-true x n e))) (message-is SenderItself (carried-here (nat_eq x n) SenderItself e h))
      scalar x lt h false e = own-scalar (Some kind) None g m x u lt

      property : (x q : ℕ) → has_field p q ≡ true → Each IsCarried (load_if n x (SenderProperty q)) → (b : Bool) → nat_eq x n ≡ b
          → IsTerm i (Some kind) at (type_at ds q) (if b then message_value loads (SenderProperty q) else M.Field (c.field q))
      property x q f h true e = message-is (SenderProperty q) (carried-here (nat_eq x n) (SenderProperty q) e h)
      property x q f h false e = property-is (Some kind) None q f

      degree : (d : Direction) (x : ℕ) → Each IsCarried (load_if n x (SenderDegree d)) → (b : Bool) → nat_eq x n ≡ b → IsTerm i (Some kind) at V.I32 (if b then message_value loads (SenderDegree d) else own_degree d)
      degree d x h true e = message-is (SenderDegree d) (carried-here (nat_eq x n) (SenderDegree d) e h)
      degree d x h false e = degree-is (Some kind) None d

-- ---- the terms of expressions

abbrev Any : Load → Type 0
Any x = Unit {0}

pub terms-have-types : TermsHaveTypes
terms-have-types = record {
  master = λ p g k t e nodes h.
      typed-is (lowered p) None stands_in_master (λ v. refl) refl refl p.declarations (master_env (layout p) g) k e t h.typed h.plain
      (tells p None stands_in_master (lowered p) (master_env (layout p) g) [] false 0 Any (master-env p g Any 0) nodes k e h.flat h.named h.places (each-all Any (λ x. tt) (loads_in 0 e)));
  own = λ p g n k t e nodes of_n h.
      typed-is (lowered p) None (stands_at_vertex None None) (λ v. refl) refl refl p.declarations (own_env (layout p) g n) k e t h.typed h.plain
      (tells p None (stands_at_vertex None None) (lowered p) (own_env (layout p) g n) (n ∷ []) false 0 Any (own-env p None None g n (n ∷ []) Any 0 of_n) nodes k e h.flat h.named h.places (each-all Any (λ x. tt) (loads_in 0 e)));
  each = λ p g n m d k t e nodes of_n of_m h.
      let stands = stands_at_vertex None (Some (direction_of d)) in
      typed-is (lowered p) None stands (λ v. refl) refl refl p.declarations (each_env (layout p) g n m) k e t h.typed h.plain
      (tells p None stands (lowered p) (each_env (layout p) g n m) (n ∷ []) (is_along d) 0 Any (each-env p d g n m (n ∷ []) Any 0 of_n of_m) nodes k e h.flat h.named h.places (each-all Any (λ x. tt) (loads_in 0 e)));
  receiver = λ p g n m loads kind edge k t e nodes of_n of_m known h carried.
      let stands = stands_at_vertex (Some kind) None in
      typed-is (lowered p) (Some kind) stands (λ v. refl) refl refl p.declarations (receiver_env (layout p) g n m loads) k e t h.typed h.plain
      (tells p (Some kind) stands (lowered p) (receiver_env (layout p) g n m loads) (n ∷ (m ∷ [])) edge n (IsCarriedBy loads) (receiver-env p kind loads known g n m (n ∷ (m ∷ [])) edge of_n of_m) nodes k e h.flat h.named h.places carried);
}
