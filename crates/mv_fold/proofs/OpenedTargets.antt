-- Whether the jumps of a statement have targets depends on the loops and blocks alone that they may leave.
use Rattle.std.proofs.Common.{arith, ◌≡◌, ℕ, ◌+◌, ◌≤◌, Bool, true, false, ltb, ◌&&◌, List, [], ◌∷◌, ◌++◌, length, map, Some, refl, sym, ◌∙◌, ap}
use Rattle.std.specs.Prelude.{slice_get, unwrap_or}
use Rattle.std.proofs.lemmas.Bool.{lt-ltb}
use Rattle.std.proofs.lemmas.List.{length-append}
use Rattle.mv_num.proofs.Lists.{there_at, slice_get_left}
use Rattle.mv_ir.specs.declared.stm.Stm.{Stm}
use Rattle.mv_ir.specs.declared.stm.Stm.TheOpen.{Stm-F}
use Rattle.mv_ir.specs.declared.stm.Stm.TheOpen as stm
use Rattle.mv_ir.specs.declared.stm.Stm.TheFolds.{map-Stm}
use Rattle.mv_ir.specs.WellFormed.{all_around, layer_targets, stm_targets}
use Rattle.mv_ir.proofs.Induction.{Each, StmChildren, stm_ind, stms_ind}
use Rattle.mv_ir.proofs.Rolls.{targets_roll}
use Rattle.mv_fold.specs.Opened.{layer_levels, levels, most_levels}
use Rattle.mv_fold.proofs.Levels.{levels_roll}

-- whatever stands around the innermost ones
abbrev Alike : (List Bool → Bool) → List Bool → Type 0
Alike f inner = (outer outer' : List Bool) → f (inner ++ outer) ≡ f (inner ++ outer')

abbrev IsAlike : Stm → Type 0
IsAlike s = (inner : List Bool) → levels s ≤ length inner → Alike (stm_targets s) inner

shorter : (n : ℕ) (inner outer : List Bool) → n + 1 ≤ length inner → ltb n (length (inner ++ outer)) ≡ true
shorter n inner outer h = lt-ltb n (length (inner ++ outer)) (omega (arith, h, length-append inner outer))

there : (inner outer : List Bool) (n : ℕ) (b : Bool) → slice_get inner n ≡ Some b → unwrap_or (slice_get (inner ++ outer) n) false ≡ b
there inner outer n b e = ap (λ o. unwrap_or o false) (slice_get_left inner outer n b e)

kids : (b : List Stm) → Each IsAlike b → (inner : List Bool) → most_levels b ≤ length inner → Alike (all_around (map stm_targets b)) inner
kids [] h inner le outer outer' = refl
kids (s ∷ b) h inner le outer outer' =
    ap (λ c. c && all_around (map stm_targets b) (inner ++ outer)) (h.0 inner (omega (arith, le)) outer outer') ∙
    ap (λ c. stm_targets s (inner ++ outer') && c) (kids b h.1 inner (omega (arith, le)) outer outer')

layer : (x : Stm-F Stm) → StmChildren IsAlike x → (inner : List Bool) → layer_levels (map-Stm Stm ℕ levels x) ≤ length inner → Alike (layer_targets (map-Stm Stm (List Bool → Bool) stm_targets x)) inner
layer (stm.Set t v) h inner le outer outer' = refl
layer (stm.SetGlobal g v) h inner le outer outer' = refl
layer (stm.Divide t o a b) h inner le outer outer' = refl
layer (stm.Check a i) h inner le outer outer' = refl
layer (stm.Read t a i) h inner le outer outer' = refl
layer (stm.Write a i v) h inner le outer outer' = refl
layer (stm.Zero l) h inner le outer outer' = refl
layer (stm.If t a b) h inner le outer outer' =
    ap (λ c. c && all_around (map stm_targets b) (inner ++ outer)) (kids a h.0 inner (omega (arith, le)) outer outer') ∙
    ap (λ c. all_around (map stm_targets a) (inner ++ outer') && c) (kids b h.1 inner (omega (arith, le)) outer outer')
layer (stm.Loop b) h inner le outer outer' = kids b h (true ∷ inner) (omega (arith, le)) outer outer'
layer (stm.Block b) h inner le outer outer' = kids b h (false ∷ inner) (omega (arith, le)) outer outer'
layer (stm.Break n) h inner le outer outer' = shorter n inner outer le ∙ sym (shorter n inner outer' le)
layer (stm.Back n) h inner le outer outer' =
    let at = there_at inner n (omega (arith, le)) in
    there inner outer n at.0 at.1 ∙ sym (there inner outer' n at.0 at.1)
layer (stm.Call r f args) h inner le outer outer' = refl
layer (stm.Known r k args) h inner le outer outer' = refl
layer (stm.Return v) h inner le outer outer' = refl

alike : (s : Stm) → IsAlike s
alike = stm_ind IsAlike (λ x h inner le outer outer'.
    ap (λ f. f (inner ++ outer)) (targets_roll x) ∙ layer x h inner (omega (arith, le, levels_roll x)) outer outer' ∙ sym (ap (λ f. f (inner ++ outer')) (targets_roll x)))

-- of code of which nothing leads out
pub same_targets : (code : List Stm) → most_levels code ≡ 0 → (around around' : List Bool) → all_around (map stm_targets code) around ≡ all_around (map stm_targets code) around'
same_targets code e around around' = kids code (stms_ind IsAlike alike code) [] (omega (arith, e)) around around'
