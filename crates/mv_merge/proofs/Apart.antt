-- A variant determines its parts.
use Rattle.std.proofs.Common.{◌≡◌, ℕ, ap, sym, ◌∙◌}
use Rattle.mv_num.specs.declared.kind.Kind.{Kind}
use Rattle.mv_ir.specs.declared.tree.Tree.{Tree, out-Tree, Number, Temp, Global, Function, Unary, Binary, Narrow}
use Rattle.mv_ir.specs.declared.tree.Tree.TheOpen as tree
use Rattle.mv_ir.specs.declared.tree.Tree.TheViews.{outs-Number, outs-Temp, outs-Global, outs-Function, outs-Unary, outs-Binary, outs-Narrow}

pub apart_number : (n m : ℕ) → Number n ≡ Number m → n ≡ m
apart_number n m e = let h : tree.Number n ≡ tree.Number m = sym (outs-Number n) ∙ ap out-Tree e ∙ outs-Number m in cc

pub apart_temp : (n m : ℕ) → Temp n ≡ Temp m → n ≡ m
apart_temp n m e = let h : tree.Temp n ≡ tree.Temp m = sym (outs-Temp n) ∙ ap out-Tree e ∙ outs-Temp m in cc

pub apart_global : (n m : ℕ) → Global n ≡ Global m → n ≡ m
apart_global n m e = let h : tree.Global n ≡ tree.Global m = sym (outs-Global n) ∙ ap out-Tree e ∙ outs-Global m in cc

pub apart_function : (n m : ℕ) → Function n ≡ Function m → n ≡ m
apart_function n m e = let h : tree.Function n ≡ tree.Function m = sym (outs-Function n) ∙ ap out-Tree e ∙ outs-Function m in cc

pub apart_unary : (o p : ℕ) (a b : Tree) → Unary o a ≡ Unary p b → (o ≡ p) × (a ≡ b)
apart_unary o p a b e = let h : tree.Unary o a ≡ tree.Unary p b = sym (outs-Unary o a) ∙ ap out-Tree e ∙ outs-Unary p b in (cc, cc)

pub apart_binary : (o p : ℕ) (a b c d : Tree) → Binary o a c ≡ Binary p b d → (o ≡ p) × (a ≡ b) × (c ≡ d)
apart_binary o p a b c d e = let h : tree.Binary o a c ≡ tree.Binary p b d = sym (outs-Binary o a c) ∙ ap out-Tree e ∙ outs-Binary p b d in (cc, cc, cc)

pub apart_narrow : (k l : Kind) (a b : Tree) → Narrow k a ≡ Narrow l b → (k ≡ l) × (a ≡ b)
apart_narrow k l a b e = let h : tree.Narrow k a ≡ tree.Narrow l b = sym (outs-Narrow k a) ∙ ap out-Tree e ∙ outs-Narrow l b in (cc, cc)

pub ruleset apart_trees = (apart_number, apart_temp, apart_global, apart_function, apart_unary, apart_binary, apart_narrow)
