-- Tuples that are kept by globals.
use Rattle.std.proofs.Common.{◌≡◌, ℕ, suc, false, List, [], ◌∷◌, ◌++◌, length, map, refl, ap, ◌∙◌, sym}
use Rattle.gm_value.specs.declared.values.VType.TheVariants as V
use Rattle.gm_value.specs.declared.reductions.Reduce.{Reduce}
use Rattle.gm_ast.specs.declared.tree.Key.{Key}
use Rattle.gm_ast.specs.declared.tree.Target.{Target}
use Rattle.gm_ast.specs.Program.{Expr}
use Rattle.gm_image.specs.Program.{Command, SetGlobal}
use Rattle.gm_terms.specs.Environments.{env_of}
use Rattle.gm_lowering.specs.Bodies.{Keeping, better, kept_lines, paired, replacing, save_lines, saved_pairs, take_lines, with_types}
use Rattle.gm_lowering.specs.Lowered.{keeping}
use Rattle.gm_bodies.specs.declared.keeps.Keeper.{Keeper}
use Rattle.gm_bodies.specs.Keeps.{held_of, judging, kept, kept_by, keeps_tuple, pairs_from, saved_of, saves, takes, taking, told_by, type_of_target}
use Rattle.gm_masters.specs.Parts.{command_by}

length-map : {A B : Type 0} (f : A → B) (xs : List A) → length (map f xs) ≡ length xs
length-map f [] = refl
length-map f (x ∷ xs) = ap suc (length-map f xs)

map-both : {A B : Type 0} (f : A → B) (xs ys : List A) → map f (xs ++ ys) ≡ map f xs ++ map f ys
map-both f [] ys = refl
map-both f (x ∷ xs) ys = ap (λ z. f x ∷ z) (map-both f xs ys)

abbrev by-globals : Keeper → Keeper
by-globals k = record k { by_registers = false }

abbrev keeping_of : Keeper → Keeping Command
keeping_of k = keeping (kept_by k) (env_of k.env.now)

saved-commands : (k : Keeper) (key : Key) (i : ℕ) (ts : List Target) (es : List Expr)
    → map (command_by (kept_by k)) (saves (by-globals k) key i ts es) ≡ save_lines (keeping_of k) i (paired (map (λ t. t.0) (with_types (kept_by k) ts)) (map (told_by k key) es))
saved-commands k key i [] [] = refl
saved-commands k key i [] (e ∷ es) = refl
saved-commands k key i (t ∷ ts) [] = refl
saved-commands k key i (t ∷ ts) (e ∷ es) = ap (λ z. SetGlobal ((kept_by k).spare_global i (type_of_target k t)) (told_by k key e) ∷ z) (saved-commands k key (suc i) ts es)

taken-commands : (k : Keeper) (flag i : ℕ) (ts : List Target)
    → map (command_by (kept_by k)) (takes (by-globals k) flag i ts) ≡ take_lines (keeping_of k) ((keeping_of k).saved flag V.Flag) i (with_types (kept_by k) ts)
taken-commands k flag i [] = refl
taken-commands k flag i (t ∷ ts) = ap (λ z. command_by (kept_by k) (taking (by-globals k) flag i t) ∷ z) (taken-commands k flag (suc i) ts)

kept-pairs : (k : Keeper) (i : ℕ) (ts : List Target) → saved_pairs (keeping_of k) i (with_types (kept_by k) ts) ≡ pairs_from (by-globals k) i ts
kept-pairs k i [] = refl
kept-pairs k i (t ∷ ts) = ap (λ z. (saved_of (by-globals k) i t, held_of (by-globals k) t) ∷ z) (kept-pairs k (suc i) ts)

tuple-kept : (k : Keeper) (r : Reduce) (key : Key) (ts : List Target) (es : List Expr)
    → map (command_by (kept_by k)) (keeps_tuple (by-globals k) r key ts es)
    ≡ save_lines (keeping_of k) 0 (paired (map (λ t. t.0) (with_types (kept_by k) ts)) (map (told_by k key) es))
    ++ ((keeping_of k).save (length (with_types (kept_by k) ts)) V.Flag (replacing (better r) (saved_pairs (keeping_of k) 0 (with_types (kept_by k) ts)))
    ∷ take_lines (keeping_of k) ((keeping_of k).saved (length (with_types (kept_by k) ts)) V.Flag) 0 (with_types (kept_by k) ts))
tuple-kept k r key ts es =
    let w = keeping_of k in
    let typed = with_types (kept_by k) ts in
    let put : ℕ → List Command = λ n. w.save n V.Flag (replacing (better r) (saved_pairs w 0 typed)) ∷ take_lines w (w.saved n V.Flag) 0 typed in
    map-both (command_by (kept_by k)) (saves (by-globals k) key 0 ts es) _
    ∙ ap (λ z. z ++ map (command_by (kept_by k)) (judging (by-globals k) r (length ts) ts ∷ takes (by-globals k) (length ts) 0 ts)) (saved-commands k key 0 ts es)
    ∙ ap (λ z. save_lines w 0 (paired (map (λ t. t.0) typed) (map (told_by k key) es)) ++ z)
    (ap (λ ps. w.save (length ts) V.Flag (replacing (better r) ps) ∷ map (command_by (kept_by k)) (takes (by-globals k) (length ts) 0 ts)) (sym (kept-pairs k 0 ts))
    ∙ ap (λ z. w.save (length ts) V.Flag (replacing (better r) (saved_pairs w 0 typed)) ∷ z) (taken-commands k (length ts) 0 ts)
    ∙ ap put (sym (length-map (λ t. (type_of_target k t, t)) ts)))

globals-kept : (k : Keeper) (r : Reduce) (key : Key) (ts : List Target) (es : List Expr)
    → map (command_by (kept_by k)) (kept (record k { by_registers = false }) r key ts es) ≡ kept_lines (keeping (kept_by k) (env_of k.env.now)) r (with_types (kept_by k) ts) (map (told_by k key) es)
globals-kept k r key [] [] = tuple-kept k r key [] []
globals-kept k r key [] (e ∷ es) = tuple-kept k r key [] (e ∷ es)
globals-kept k r key (t ∷ []) [] = tuple-kept k r key (t ∷ []) []
globals-kept k r key (t ∷ []) (e ∷ []) = refl
globals-kept k r key (t ∷ []) (e ∷ (f ∷ es)) = tuple-kept k r key (t ∷ []) (e ∷ (f ∷ es))
globals-kept k r key (t ∷ (u ∷ ts)) es = tuple-kept k r key (t ∷ (u ∷ ts)) es

-- the settings of a reduction are its commands
pub kept_is : (k : Keeper) (r : Reduce) (key : Key) (ts : List Target) (es : List Expr) → k.by_registers ≡ false
    → map (command_by (kept_by k)) (kept k r key ts es) ≡ kept_lines (keeping (kept_by k) (env_of k.env.now)) r (with_types (kept_by k) ts) (map (told_by k key) es)
kept_is k r key ts es e = ap (λ b. map (command_by (kept_by k)) (kept (record k { by_registers = b }) r key ts es)) e ∙ globals-kept k r key ts es
