-- The instructions of a body depend on the places of the globals that it names alone.
use Rattle.std.proofs.Common.{◌≡◌, ℕ, true, List, [], ◌∷◌, ◌++◌, map, cond, ltb, Some, None, refl, sym, ap, ◌∙◌, subst}
use Rattle.mv_ir.specs.declared.tree.Tree.{Tree, out-Tree}
use Rattle.mv_ir.specs.declared.tree.Tree.TheOpen.{Tree-F}
use Rattle.mv_ir.specs.declared.tree.Tree.TheOpen as tree
use Rattle.mv_ir.specs.declared.tree.Tree.TheViews.{roll-Tree, roll-out-Tree}
use Rattle.mv_ir.specs.declared.stm.Array.{Array}
use Rattle.mv_ir.specs.declared.stm.Array.TheVariants as array
use Rattle.mv_ir.specs.declared.stm.Stm.{Stm, out-Stm}
use Rattle.mv_ir.specs.declared.stm.Stm.TheOpen.{Stm-F}
use Rattle.mv_ir.specs.declared.stm.Stm.TheOpen as stm
use Rattle.mv_ir.specs.declared.stm.Stm.TheViews.{roll-Stm, roll-out-Stm}
use Rattle.mv_ir.specs.declared.body.Body.{Body}
use Rattle.mv_ir.specs.Measures.{joined, tree_reads, scalars_read}
use Rattle.mv_ir.specs.WellFormed.{all_true, named, has_room, is_there}
use Rattle.mv_ir.proofs.Rolls.{trees_roll, reads_roll, named_roll}
use Rattle.mv_select_code.specs.Trees.Rooms.{place_in}
use Rattle.mv_select.specs.Calls.Convention.{Layout}
use Rattle.mv_select.specs.Bodies.SelectedBodies.{AreRooms}
use Rattle.mv_select.specs.Inline.InlineOf.{load_pair, store_pair, return_layer, return_pair, set_layer, set_pair, statement_layer, statement_pair, code_pair}
use Rattle.mv_select.specs.Inline.Laws.{InlineIsTheSame}
use Rattle.mv_select.proofs.OfInline.Equations.{return_roll, statement_roll}
use Rattle.mv_num.proofs.Booleans.{and_left}

-- what the return of a global reads
pub reads_are : (g : ℕ) → scalars_read (roll-Stm (stm.Return (roll-Tree (tree.Global g))) ∷ []) ≡ g ∷ []
reads_are g =
    ap (λ (ts : List Tree). joined (map tree_reads (ts ++ []))) (trees_roll (stm.Return (roll-Tree (tree.Global g)))) ∙ ap (λ (xs : List ℕ). xs ++ []) (reads_roll (tree.Global g))

-- the global that a statement stores to
named_are : (g : ℕ) (v : Tree) → named (roll-Stm (stm.SetGlobal g v) ∷ []) ≡ array.Global g ∷ []
named_are g v = ap (λ (xs : List Array). xs ++ []) (named_roll (stm.SetGlobal g v))

module _ (y : Layout) (body : Body) (rooms : AreRooms y body.rooms) where
  abbrev Reads : List Stm → Type 0
  Reads code = all_true (map (has_room body.rooms) (scalars_read code)) ≡ true

  abbrev Names : List Stm → Type 0
  Names code = all_true (map (is_there body.rooms body.arrays) (named code)) ≡ true

  same_return : (x : Tree-F Tree) → Reads (roll-Stm (stm.Return (roll-Tree x)) ∷ []) → return_layer (place_in body.rooms) body.params x ≡ return_layer y.place body.params x
  same_return (tree.Global g) r =
      let there = and_left (has_room body.rooms g) true (sym (ap (λ (xs : List ℕ). all_true (map (has_room body.rooms) xs)) (reads_are g)) ∙ r) in
      ap (λ a. Some (load_pair a)) (rooms.places g there)
  same_return (tree.Number n) r = refl
  same_return (tree.Temp t) r = refl
  same_return (tree.Function f) r = refl
  same_return (tree.Unary o a) r = refl
  same_return (tree.Binary o a b) r = refl
  same_return (tree.Narrow c a) r = refl

  same_set : (g : ℕ) (v : Tree) → Names (roll-Stm (stm.SetGlobal g v) ∷ []) → set_pair (place_in body.rooms) body.params g v ≡ set_pair y.place body.params g v
  unfolding set_pair
  same_set g v n = by_tree (out-Tree v)
    where
      there : has_room body.rooms g ≡ true
      there = and_left (has_room body.rooms g) true (sym (ap (λ (xs : List Array). all_true (map (is_there body.rooms body.arrays) xs)) (named_are g v)) ∙ n)

      by_tree : (x : Tree-F Tree) → set_layer (place_in body.rooms) body.params g x ≡ set_layer y.place body.params g x
      by_tree (tree.Temp t) = ap (λ a. cond (ltb t body.params) (Some (store_pair a t)) None) (rooms.places g there)
      by_tree (tree.Number m) = refl
      by_tree (tree.Global h) = refl
      by_tree (tree.Function f) = refl
      by_tree (tree.Unary o a) = refl
      by_tree (tree.Binary o a b) = refl
      by_tree (tree.Narrow c a) = refl

  of_return : (v : Tree) → Reads (roll-Stm (stm.Return v) ∷ []) → return_pair (place_in body.rooms) body.params v ≡ return_pair y.place body.params v
  of_return v r =
      subst (λ z. Reads (roll-Stm (stm.Return z) ∷ []) → return_pair (place_in body.rooms) body.params z ≡ return_pair y.place body.params z) (roll-out-Tree v)
      (λ h. return_roll (place_in body.rooms) body.params (out-Tree v) ∙ same_return (out-Tree v) h ∙ sym (return_roll y.place body.params (out-Tree v))) r

  of_statement : (x : Stm-F Stm) → Reads (roll-Stm x ∷ []) → Names (roll-Stm x ∷ []) → statement_layer (place_in body.rooms) body.params x ≡ statement_layer y.place body.params x
  of_statement (stm.Return v) r n = of_return v r
  of_statement (stm.SetGlobal g v) r n = same_set g v n
  of_statement (stm.Set t v) r n = refl
  of_statement (stm.Divide t o a b) r n = refl
  of_statement (stm.Check a j) r n = refl
  of_statement (stm.Read t a j) r n = refl
  of_statement (stm.Write a j v) r n = refl
  of_statement (stm.Zero a) r n = refl
  of_statement (stm.If t a b) r n = refl
  of_statement (stm.Loop b) r n = refl
  of_statement (stm.Block b) r n = refl
  of_statement (stm.Break m) r n = refl
  of_statement (stm.Back m) r n = refl
  of_statement (stm.Call t f xs) r n = refl
  of_statement (stm.Known t f xs) r n = refl

  of_code : (code : List Stm) → Reads code → Names code → code_pair (place_in body.rooms) body.params code ≡ code_pair y.place body.params code
  of_code [] r n = refl
  of_code (s ∷ []) r n =
      subst (λ z. Reads (z ∷ []) → Names (z ∷ []) → statement_pair (place_in body.rooms) body.params z ≡ statement_pair y.place body.params z) (roll-out-Stm s)
      (λ h k. statement_roll (place_in body.rooms) body.params (out-Stm s) ∙ of_statement (out-Stm s) h k ∙ sym (statement_roll y.place body.params (out-Stm s))) r n
  of_code (s ∷ t ∷ code) r n = refl

pub inline_is_the_same : InlineIsTheSame
inline_is_the_same y body formed rooms = of_code y body rooms body.code formed.read formed.named
