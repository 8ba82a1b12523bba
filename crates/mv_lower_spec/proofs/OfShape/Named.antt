-- What code reads and names, and how many arguments its calls have, obey the rules.
use mathlib.Core.Bool.{and-true}
use Rattle.std.proofs.Common.{◌≡◌, ℕ, Bool, true, false, List, [], ◌∷◌, ◌++◌, map, Option, Some, None, refl, sym, ◌∙◌, ap, subst, append-nil}
use Rattle.std.proofs.lemmas.Bool.{and_from}
use Rattle.mv_ir.specs.declared.tree.Tree.{Tree}
use Rattle.mv_ir.specs.declared.tree.Tree.TheOpen as tree
use Rattle.mv_ir.specs.declared.stm.Array.{Array}
use Rattle.mv_ir.specs.declared.stm.Stm.{Stm}
use Rattle.mv_ir.specs.declared.stm.Stm.TheOpen.{Stm-F}
use Rattle.mv_ir.specs.declared.stm.Stm.TheOpen as stm
use Rattle.mv_ir.specs.declared.stm.Stm.TheViews.{roll-Stm}
use Rattle.mv_ir.specs.declared.stm.Stm.TheFolds.{map-Stm}
use Rattle.mv_ir.specs.Measures.{joined, trees, scalars_read, layer_arrays, stm_arrays, arrays_read}
use Rattle.mv_ir.specs.WellFormed.{all_true, layer_named, stm_named, named, layer_arguments, stm_arguments}
use Rattle.mv_ir.proofs.Induction.{Each, each_append}
use Rattle.mv_ir.proofs.Keeping.{map_append}
use Rattle.mv_ir.proofs.Lists.{joined_append}
use Rattle.mv_ir.proofs.Rolls.{reads_roll, arrays_roll, named_roll, arguments_roll}
use Rattle.mv_ir.proofs.Joining.{trees_append}
use Rattle.mv_lower_spec.specs.Lowered.{temp, choose}
use Rattle.mv_lower_spec.proofs.OfShape.Rules.{Allowed, Rules, BlockRules, AllMay, all_read, result}
use Rattle.mv_lower_spec.proofs.OfShape.Plain.{read_append}
use Rattle.mv_lower_spec.proofs.OfShape.Counted.{trees_one}
use Rattle.mv_ir.proofs.Common.{each_first, each_right}

arrays_one : (x : Stm-F Stm) → arrays_read (roll-Stm x ∷ []) ≡ layer_arrays (map-Stm Stm (List ℕ) stm_arrays x)
arrays_one x = append-nil (stm_arrays (roll-Stm x)) ∙ arrays_roll x

named_one : (x : Stm-F Stm) → named (roll-Stm x ∷ []) ≡ layer_named (map-Stm Stm (List Array) stm_named x)
named_one x = append-nil (stm_named (roll-Stm x)) ∙ named_roll x

arguments_one : (x : Stm-F Stm) → all_true (map stm_arguments (roll-Stm x ∷ [])) ≡ layer_arguments (map-Stm Stm Bool stm_arguments x)
arguments_one x = and-true (stm_arguments (roll-Stm x)) ∙ arguments_roll x

true_append : (xs ys : List Bool) → all_true xs ≡ true → all_true ys ≡ true → all_true (xs ++ ys) ≡ true
true_append [] ys h k = k
true_append (true ∷ xs) ys h k = true_append xs ys h k
true_append (false ∷ xs) ys h k = h

module _ (may_read may_find : ℕ → Bool) (may_name : Array → Bool) where
  abbrev MayRead : List ℕ → Type 0
  MayRead = AllMay may_read

  abbrev MayFind : List ℕ → Type 0
  MayFind = AllMay may_find

  abbrev MayName : List Array → Type 0
  MayName = Each (λ r. may_name r ≡ true)

  -- code that reads only what it may where the trees before it do
  pub record Named (s w t k : ℕ) (ts : List Tree) (xs : List Stm) (us : List Tree) : Type 0 where
    pub scalars : MayRead (all_read ts) → MayRead (scalars_read xs)
    pub left : MayRead (all_read ts) → MayRead (all_read us)
    pub arrays : MayFind (arrays_read xs)
    pub named : MayName (named xs)
    pub arguments : all_true (map stm_arguments xs) ≡ true

  temp_reads : (t : ℕ) → MayRead (all_read (temp t ∷ []))
  temp_reads t = subst (λ l. MayRead (l ++ [])) (sym (reads_roll (tree.Temp t))) tt

  result_reads : (w : Option ℕ) → MayRead (all_read (result w))
  result_reads None = tt
  result_reads (Some t) = temp_reads t

  read_all_append : (xs ys : List Tree) → MayRead (all_read xs) → MayRead (all_read ys) → MayRead (all_read (xs ++ ys))
  read_all_append xs ys h k = subst MayRead (sym (read_append xs ys)) (each_append (λ g. may_read g ≡ true) (all_read xs) (all_read ys) h k)

  first_reads : (xs ys : List Tree) → MayRead (all_read (xs ++ ys)) → MayRead (all_read xs)
  first_reads xs ys h = each_first (λ g. may_read g ≡ true) (all_read xs) (all_read ys) (subst MayRead (read_append xs ys) h)

  last_reads : (xs ys : List Tree) → MayRead (all_read (xs ++ ys)) → MayRead (all_read ys)
  last_reads xs ys h = each_right (λ g. may_read g ≡ true) (all_read xs) (all_read ys) (subst MayRead (read_append xs ys) h)

  chained : {s w t k s' w' t' k' m o n l : ℕ} {xs ys : List Stm} {ts us vs : List Tree} → Named s w t k ts xs us → Named s' w' t' k' us ys vs → Named m o n l ts (xs ++ ys) vs
  chained {xs = xs} {ys = ys} h h' = record {
    scalars = λ e. subst (λ z. MayRead (all_read z)) (sym (trees_append xs ys)) (read_all_append (trees xs) (trees ys) (h.scalars e) (h'.scalars (h.left e)));
    left = λ e. h'.left (h.left e);
    arrays = subst MayFind (sym (ap joined (map_append stm_arrays xs ys) ∙ joined_append (map stm_arrays xs) (map stm_arrays ys))) (each_append (λ g. may_find g ≡ true) (arrays_read xs) (arrays_read ys) h.arrays h'.arrays);
    named = subst MayName (sym (ap joined (map_append stm_named xs ys) ∙ joined_append (map stm_named xs) (map stm_named ys))) (each_append (λ r. may_name r ≡ true) (named xs) (named ys) h.named h'.named);
    arguments = ap all_true (map_append stm_arguments xs ys) ∙ true_append (map stm_arguments xs) (map stm_arguments ys) h.arguments h'.arguments;
  }

  chosen : {s w t k s' w' t' k' m o n l : ℕ} {ys zs : List Stm} {us : List Tree} (x : Tree) → Named s w t k [] ys us → Named s' w' t' k' [] zs us → Named m o n l (x ∷ []) (choose x ys zs ∷ []) us
  chosen {ys = ys} {zs = zs} x h h' = record {
    scalars = λ e. subst (λ z. MayRead (all_read z)) (sym (trees_one (stm.If x ys zs))) (read_all_append (x ∷ []) (trees ys ++ trees zs) e (read_all_append (trees ys) (trees zs) (h.scalars tt) (h'.scalars tt)));
    left = λ e. h.left tt;
    arrays = subst MayFind (sym (arrays_one (stm.If x ys zs))) (each_append (λ g. may_find g ≡ true) (arrays_read ys) (arrays_read zs) h.arrays h'.arrays);
    named = subst MayName (sym (named_one (stm.If x ys zs))) (each_append (λ r. may_name r ≡ true) (named ys) (named zs) h.named h'.named);
    arguments = arguments_one (stm.If x ys zs) ∙ and_from (all_true (map stm_arguments ys)) (all_true (map stm_arguments zs)) h.arguments h'.arguments;
  }

  enclosing : {s w t k m o n l : ℕ} {ts : List Tree} {xs : List Stm} (x : Stm-F Stm) → trees (roll-Stm x ∷ []) ≡ trees xs → arrays_read (roll-Stm x ∷ []) ≡ arrays_read xs → named (roll-Stm x ∷ []) ≡ named xs →
      all_true (map stm_arguments (roll-Stm x ∷ [])) ≡ all_true (map stm_arguments xs) → Named s w t k ts xs [] → Named m o n l ts (roll-Stm x ∷ []) []
  enclosing x same_trees same_arrays same_named same_arguments h = record {
    scalars = λ e. subst (λ z. MayRead (all_read z)) (sym same_trees) (h.scalars e);
    left = λ e. tt;
    arrays = subst MayFind (sym same_arrays) h.arrays;
    named = subst MayName (sym same_named) h.named;
    arguments = same_arguments ∙ h.arguments;
  }

  pub named_blocks : BlockRules Named
  named_blocks = record {
    block = λ {s} {w} {t} {k} {ts} {xs} h. enclosing (stm.Block xs) (trees_one (stm.Block xs)) (arrays_one (stm.Block xs)) (named_one (stm.Block xs)) (arguments_one (stm.Block xs)) h;
    turns = λ {s} {w} {t} {k} {xs} h. enclosing (stm.Loop xs) (trees_one (stm.Loop xs)) (arrays_one (stm.Loop xs)) (named_one (stm.Loop xs)) (arguments_one (stm.Loop xs)) h;
    leaves = λ n. record {
      scalars = λ e. subst (λ z. MayRead (all_read z)) (sym (trees_one (stm.Break n))) tt;
      left = λ e. tt;
      arrays = subst MayFind (sym (arrays_one (stm.Break n))) tt;
      named = subst MayName (sym (named_one (stm.Break n))) tt;
      arguments = arguments_one (stm.Break n);
    };
    returns = λ v. record {
      scalars = λ e. subst (λ z. MayRead (all_read z)) (sym (trees_one (stm.Return v))) e;
      left = λ e. tt;
      arrays = subst MayFind (sym (arrays_one (stm.Return v))) tt;
      named = subst MayName (sym (named_one (stm.Return v))) tt;
      arguments = arguments_one (stm.Return v);
    };
  }

-- the rules for what may be named and read
pub named_rules : (a : Allowed) → Rules a (Named a.scalars a.arrays a.named)
named_rules a = record {
  local = λ l h k. record { scalars = λ e. tt; left = λ e. temp_reads a.scalars a.arrays a.named l; arrays = tt; named = tt; arguments = refl };
  scalar = λ g h. record { scalars = λ e. tt; left = λ e. subst (λ l. MayRead a.scalars a.arrays a.named (l ++ [])) (sym (reads_roll (tree.Global g))) (h, tt); arrays = tt; named = tt; arguments = refl };
  retree = λ {m} {ts} {us} c. record { scalars = λ e. tt; left = c.scalars a.scalars; arrays = tt; named = tt; arguments = refl };
  does = λ {c} {v} {w} {x} {reads} {writes} p. record {
    scalars = λ e. subst (λ z. MayRead a.scalars a.arrays a.named (all_read z)) (sym (trees_one x ∙ p.trees)) e;
    left = λ e. result_reads a.scalars a.arrays a.named writes;
    arrays = subst (MayFind a.scalars a.arrays a.named) (sym (arrays_one x)) p.arrays;
    named = subst (MayName a.scalars a.arrays a.named) (sym (named_one x)) p.named;
    arguments = arguments_one x ∙ p.arguments;
  };
  drops = λ {c} {v} {w} {x} {reads} {writes} p. record {
    scalars = λ e. subst (λ z. MayRead a.scalars a.arrays a.named (all_read z)) (sym (trees_one x ∙ p.trees)) e;
    left = λ e. tt;
    arrays = subst (MayFind a.scalars a.arrays a.named) (sym (arrays_one x)) p.arrays;
    named = subst (MayName a.scalars a.arrays a.named) (sym (named_one x)) p.named;
    arguments = arguments_one x ∙ p.arguments;
  };
  choose = λ {s} {w} {t} {k} {s'} {w'} {t'} {k'} {ys} {zs} {us} x h h'. chosen a.scalars a.arrays a.named x h h';
  chain = λ {s} {w} {t} {k} {s'} {w'} {t'} {k'} {xs} {ys} {ts} {us} {vs} h h'. chained a.scalars a.arrays a.named h h';
  beside = λ {s} {w} {t} {k} {xs} {ts} {us} rest h. record {
    scalars = λ e. h.scalars (first_reads a.scalars a.arrays a.named ts rest e);
    left = λ e. read_all_append a.scalars a.arrays a.named us rest (h.left (first_reads a.scalars a.arrays a.named ts rest e)) (last_reads a.scalars a.arrays a.named ts rest e);
    arrays = h.arrays;
    named = h.named;
    arguments = h.arguments;
  };
  weaken = λ {s} {w} {t} {k} {s'} {w'} {t'} {k'} {xs} {ts} {us} ls lw lt e h. record { scalars = h.scalars; left = h.left; arrays = h.arrays; named = h.named; arguments = h.arguments };
}
