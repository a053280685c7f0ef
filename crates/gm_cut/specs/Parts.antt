-- Bodies of parallel loops in pieces: own statements under one mask together, and inner loops alone.
use Rattle.std.specs.Prelude.{◌≡◌, ℕ, nat_lt, Bool, true, false, ◌&&◌, ◌||◌, if◌then◌else◌, List, ◌++◌, map}
use Rattle.std.specs.List.{list_all}
use Rattle.gm_base.specs.declared.places.Place.{Place}
use Rattle.gm_value.specs.declared.operations.Op1.TheVariants.{Not}
use Rattle.gm_ast.specs.declared.tree.Declaration.{Declaration}
use Rattle.gm_ast.specs.declared.tree.Head.{Head}
use Rattle.gm_ast.specs.declared.tree.Key.{Key}
use Rattle.gm_ast.specs.Program.{Expr, Unary, Both, Stmt, Then, Foreach, For, If, While, Do, Program, sequence}
use Rattle.gm_forms.specs.Cut.{is_mask, is_own_loop, knows_no_locals, mask_stays, has_plain_locals}
use Rattle.gm_forms.specs.Fission.{pushed_properties, left, changed, reduced_locals, all_agree_with, reduces_whole, is_nil}
use Rattle.gm_forms.specs.Forms.{depth_at, is_flat_loop, is_phase, no_loop}
use Rattle.gm_forms.specs.Ready.{IsSane}
use Rattle.gm_forms.specs.Sharing.{sights_of, read_anywhere, read_elsewhere, deferred, reduced, pushed_in, disjoint, all_one}
use Rattle.gm_loop_laws.specs.Masks.{is_stable}
use Rattle.gm_loop_laws.specs.Pieces.{Piece, pieces_of}
use Rattle.gm_dissect.specs.Loops.{each_loop}
use Rattle.gm_cut.specs.Runs.{with_runs}

-- the pieces of the body of a loop over nodes, each under its mask: runs of own statements, and inner loops
abbrev pub parts_of : ℕ → Place → Expr → Stmt → List Piece
parts_of n at mask body = pieces_of (is_own_loop n) at mask (with_runs n body)

-- the loop of a piece
abbrev pub piece_loop : Key → Place → Head → Piece → Stmt
piece_loop k at h p = Foreach k at h p.mask p.part

-- a loop over nodes as the loops of its pieces, one after another. One that is of own statements stands as it is
abbrev pub parted_loop : Key → Place → Head → Expr → Stmt → Stmt
parted_loop k at h mask body =
    if is_own_loop h.iterator body then Foreach k at h mask body
    else sequence (map (piece_loop k at h) (parts_of h.iterator at mask body))

-- a program with each of its loops so
abbrev pub in_pieces : Program → Program
in_pieces p = record p { body = each_loop parted_loop p.body }

-- ---- what is asked of a program

-- which inner loops a loop may have that is cut
abbrev pub Kind : Type 0
Kind = List Declaration → ℕ → Head → Expr → Stmt → Bool

-- any: they may go several ways
abbrev pub goes_any_way : Kind
goes_any_way ds n h test body = true

-- an inner loop that stands alone under a mask, whatever can fault in it behind a Sum or Product through a node variable: that ends with its slices, or its kind says that nothing can
abbrev pub stands_at_edges : List Declaration → ℕ → Expr → Head → Expr → Stmt → Bool
stands_at_edges ds n mask h test body =
    knows_no_locals ds n h.iterator mask test body && (mask_stays n mask h body && (has_plain_locals ds n test body && all_one (reduced ds n true body)))

-- a body that is one such loop of a kind
abbrev pub stands_along : Kind → List Declaration → ℕ → Expr → Stmt → Bool
stands_along kind ds n mask (Foreach k at h test body) = kind ds n h test body && stands_at_edges ds n mask h test body
stands_along kind ds n mask _ = false

-- a loop that is parted: own statements under any filter, or one such inner loop under a mask
abbrev pub is_parted : Kind → List Declaration → ℕ → Expr → Stmt → Bool
is_parted kind ds n mask body = is_flat_loop ds false n mask body && (is_own_loop n body || (is_mask n mask && stands_along kind ds n mask body))

-- whether the loop of a piece is, under a mask that cannot fault
abbrev pub piece_is_parted : Kind → List Declaration → ℕ → Piece → Bool
piece_is_parted kind ds n p = is_mask n p.mask && is_parted kind ds n p.mask p.part

-- whether the second of two parts of a body neither reads nor reduces a local that the first one changes
abbrev pub locals_stay : List Declaration → ℕ → Stmt → Stmt → Bool
locals_stay ds n a b = disjoint (changed ds n a) ((sights_of ds n false b).scalars ++ reduced_locals ds b)

-- whether a body falls into pieces: no local goes from one into another, and filter and conditions are masks, which stay over what comes first
abbrev pub falls_apart : List Declaration → ℕ → Place → Expr → Stmt → Bool
falls_apart ds n at mask (Then a b) =
    is_own_loop n (Then a b) || (locals_stay ds n a b && (is_stable n a mask && (falls_apart ds n at mask a && falls_apart ds n at mask b)))
falls_apart ds n at mask (If k c a b) =
    is_own_loop n (If k c a b)
    || (locals_stay ds n a b && (is_stable n a mask && (is_stable n a c && (falls_apart ds n at (Both mask c) a && falls_apart ds n at (Both mask (Unary Not at c)) b))))
falls_apart ds n at mask _ = true

-- whether what a body shares may be shared between loops, wherever it is cut: it defers nothing; what it pushes is neither read nor written otherwise; what it changes is read at no other node; reductions to one variable stand under rising numbers, and do the same where one of their variables is pushed; and the targets of each reduction end together
abbrev pub is_separable : List Declaration → ℕ → Stmt → Bool
is_separable ds n body =
    let all = reduced ds n false body in
    let pushed = pushed_properties n body in
    let seen = sights_of ds n false body in
    is_nil (deferred body) && (nat_lt (depth_at ds n) 2 && (all_agree_with pushed all && (reduces_whole ds n pushed false body
    && (disjoint (pushed_in all ++ pushed) (read_anywhere seen.properties ++ (seen.scalars ++ left ds n body))
    && disjoint (changed ds n body) (read_elsewhere n seen.properties)))))

-- whether a loop may be written as the loops of its pieces, which are parted then
abbrev pub can_part : Kind → List Declaration → Place → Head → Expr → Stmt → Bool
can_part kind ds at h mask body =
    let n = h.iterator in
    let whole = with_runs n body in
    is_mask n mask && (is_separable ds n whole && (falls_apart ds n at mask whole && list_all (piece_is_parted kind ds n) (parts_of n at mask body)))

-- whether each loop of a sequential phase passes a test
abbrev pub each_passes : (Key → Place → Head → Expr → Stmt → Bool) → Stmt → Bool
each_passes f (Then a b) = each_passes f a && each_passes f b
each_passes f (Foreach k at h test body) = f k at h test body
each_passes f (For k at h test body) = each_passes f body
each_passes f (If k c a b) = each_passes f a && each_passes f b
each_passes f (While k at c body) = each_passes f body
each_passes f (Do k at body c) = each_passes f body
each_passes f _ = true

-- whether each loop of a program is of own statements, or may be written as the loops of its pieces
abbrev pub can_be_parted : Kind → Program → Bool
can_be_parted kind p = each_passes (λ k at h mask body. is_own_loop h.iterator body || can_part kind p.declarations at h mask body) p.body

-- a program whose loops are parted, with inner loops of a kind, and which keeps what every pass keeps
pub record IsPartedBy (kind : Kind) (p : Program) : Type 0 where
  pub sane : IsSane p
  pub form : is_phase (is_parted kind p.declarations) no_loop p.declarations p.body ≡ true
