-- What is needed is closed under what it is computed from.
use Rattle.std.proofs.Common.{◌≡◌, ℕ, Bool, true, false, eqb, ◌&&◌, List, [], ◌∷◌, ◌++◌, Option, None, refl, sym, ◌∙◌, ap, subst, ◌⊎◌, inl, inr}
use Rattle.mv_ir.specs.declared.tree.Tree.{Tree}
use Rattle.mv_ir.specs.declared.tree.Tree.TheOpen.{Tree-F}
use Rattle.mv_ir.specs.declared.tree.Tree.TheOpen as tree
use Rattle.mv_ir.specs.declared.tree.Tree.TheFolds.{map-Tree}
use Rattle.mv_ir.specs.Live.{layer_reads_temp, reads_temp}
use Rattle.mv_ir.proofs.Induction.{Each, TreeChildren, tree_ind}
use Rattle.mv_ir.proofs.Rolls.{reads_temp_roll}
use Rattle.mv_fold.specs.declared.uses.Use.{Use}
use Rattle.mv_fold.specs.Needed.{layer_tree_uses, tree_uses, counts, used_in}
use Rattle.mv_fold.proofs.NeededEquations.{tree_uses_roll}
use Rattle.mv_fold.proofs.Reached.{eqb_self}
use Rattle.std.proofs.lemmas.Bool.{or_right, or_left}
use Rattle.mv_num.proofs.Booleans.{or_cases}
use Rattle.std.proofs.lemmas.Map.Views.{exact_unsigned_eq}

module _ (needed : ℕ → Bool) where
  -- a tree that reads needed ones alone
  abbrev pub Among : Tree → Type 0
  Among x = (t : ℕ) → reads_temp t x ≡ true → needed t ≡ true

  abbrev pub Closed : List Use → Type 0
  Closed = Each (λ x. counts needed x.user ≡ true → needed x.used ≡ true)

  pub left : (xs ys : List Use) → Closed (xs ++ ys) → Closed xs
  left [] ys h = tt
  left (x ∷ xs) ys h = (h.0, left xs ys h.1)

  pub right : (xs ys : List Use) → Closed (xs ++ ys) → Closed ys
  right [] ys h = h
  right (x ∷ xs) ys h = right xs ys h.1

  module _ (user : Option ℕ) (c : counts needed user ≡ true) where
    abbrev IsAmong : Tree → Type 0
    IsAmong x = Closed (tree_uses user x) → Among x

    abbrev Reads : ℕ → Tree-F Tree → Type 0
    Reads t x = layer_reads_temp t (map-Tree Tree Bool (reads_temp t) x) ≡ true

    among_layer : (x : Tree-F Tree) → TreeChildren IsAmong x → Closed (layer_tree_uses user (map-Tree Tree (List Use) (tree_uses user) x)) → (t : ℕ) → Reads t x → needed t ≡ true
    among_layer (tree.Number n) h a t r = let e : false ≡ true = r in absurd (cc)
    among_layer (tree.Temp n) h a t r = subst (λ u. needed u ≡ true) (exact_unsigned_eq n t r) (a.0 c)
    among_layer (tree.Global n) h a t r = let e : false ≡ true = r in absurd (cc)
    among_layer (tree.Function n) h a t r = let e : false ≡ true = r in absurd (cc)
    among_layer (tree.Unary o x) h a t r = h a t r
    among_layer (tree.Binary o x y) h a t r = by (or_cases (reads_temp t x) (reads_temp t y) r)
      where
        by : (reads_temp t x ≡ true) ⊎ (reads_temp t y ≡ true) → needed t ≡ true
        by (inl e) = h.0 (left (tree_uses user x) (tree_uses user y) a) t e
        by (inr e) = h.1 (right (tree_uses user x) (tree_uses user y) a) t e
    among_layer (tree.Narrow k x) h a t r = h a t r

    -- of a tree that is read for what counts
    pub among : (x : Tree) → Closed (tree_uses user x) → Among x
    among = tree_ind IsAmong (λ x h a t r. among_layer x h (subst Closed (tree_uses_roll user x) a) t (sym (reads_temp_roll t x) ∙ r))

  pub for_body : (x : Tree) → Closed (tree_uses None x) → Among x
  for_body = among None refl

-- what is needed is closed under what it is computed from
pub closed : (needed : ℕ → Bool) (uses : List Use) → ((t : ℕ) → used_in needed uses t ≡ true → needed t ≡ true) → Closed needed uses
closed needed [] h = tt
closed needed (x ∷ xs) h =
    ((λ c. h x.used (or_left _ _ (ap (λ b. b && eqb x.used x.used) c ∙ eqb_self x.used))), closed needed xs (λ t e. h t (or_right _ _ e)))
