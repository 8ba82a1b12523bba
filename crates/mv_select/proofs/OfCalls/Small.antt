-- What it is for a call to be small.
use Rattle.std.proofs.Common.{◌≡◌, ℕ, ◌<◌, ◌≤◌, ◌&&◌, Bool, true, eqb, ltb, List, [], ◌∷◌, length, map, All, Option, Some, None, IfSome, arith}
use Rattle.std.proofs.lemmas.Bool.{ltb-true, eqb-true}
use Rattle.std.proofs.lemmas.List.Elements.{All-cons, All-nil}
use Rattle.mv_ast.specs.declared.program.Known.{Known}
use Rattle.mv_ast.specs.declared.program.Known.TheVariants.{Getchar, Putchar, Poll, Plan}
use Rattle.mv_ir.specs.declared.tree.Tree.{Tree}
use Rattle.mv_ir.specs.declared.stm.Callee.{Callee}
use Rattle.mv_ir.specs.declared.stm.Callee.TheVariants as callee
use Rattle.mv_ir.specs.Measures.{callee_trees}
use Rattle.mv_ir.specs.WellFormed.{known_arguments, all_true}
use Rattle.mv_select_code.specs.Statements.Encoded.{IsSmall}
use Rattle.mv_select_code.specs.Control.FlowCode.{fine_target, fine_callee, fine_known}
use Rattle.mv_select_code.specs.Control.Layouts.{any_global, any_known, is_small, small_call, small_known}
use Rattle.mv_select_code.proofs.OfControl.Small.{small_tree}
use Rattle.mv_num.proofs.Booleans.{and_right, and_left}

all_small : (ts : List Tree) → all_true (map is_small ts) ≡ true → All IsSmall ts
all_small [] h = All-nil IsSmall
all_small (t ∷ ts) h =
    let rest = all_true (map is_small ts) in
    All-cons IsSmall t ts (small_tree t (and_left (is_small t) rest h)) (all_small ts (and_right (is_small t) rest h))

abbrev pub HasRoom : Option ℕ → Type 0
HasRoom r = IfSome r (λ t. t < 507)

has_room : (r : Option ℕ) → fine_target is_small any_known 507 any_global r ≡ true → HasRoom r
has_room None h = tt
has_room (Some t) h = ltb-true t 507 h

-- so many arguments at most, each small, and room for the result
pub record FineParts (most : ℕ) (r : Option ℕ) (args : List Tree) : Type 0 where
  pub few : length args ≤ most
  pub room : HasRoom r
  pub trees : All IsSmall args

abbrev target : Option ℕ → Bool
target r = fine_target is_small any_known 507 any_global r

abbrev small_callee : Callee → Bool
small_callee f = fine_callee is_small any_known 507 any_global f

callee_small : (f : Callee) → small_callee f ≡ true → All IsSmall (callee_trees f)
callee_small (callee.Direct f) h = All-nil IsSmall
callee_small (callee.Through t) h = All-cons IsSmall t [] (small_tree t h) (All-nil IsSmall)
callee_small (callee.Switched g) h = All-nil IsSmall
callee_small callee.Expanded h = All-nil IsSmall

abbrev smalls : List Tree → Bool
smalls ts = all_true (map is_small ts)

module _ (r : Option ℕ) (f : Callee) (args : List Tree) (small : small_call r f args ≡ true) where
  others : (target r && (small_callee f && smalls args)) ≡ true
  others = and_right (ltb (length args) 9) (target r && (small_callee f && smalls args)) small

  trees : (small_callee f && smalls args) ≡ true
  trees = and_right (target r) (small_callee f && smalls args) others

  pub call_callee : All IsSmall (callee_trees f)
  call_callee = callee_small f (and_left (small_callee f) (smalls args) trees)

  pub call_parts : FineParts 8 r args
  call_parts = record {
    few = let lt = ltb-true (length args) 9 (and_left (ltb (length args) 9) (target r && (small_callee f && smalls args)) small) in omega (arith, lt);
    room = has_room r (and_left (target r) (small_callee f && smalls args) others);
    trees = all_small args (and_right (small_callee f) (smalls args) trees);
  }

pub few_arguments : (k : Known) → known_arguments k ≤ 1
few_arguments Getchar = omega arith
few_arguments Putchar = omega arith
few_arguments Poll = omega arith
few_arguments (Plan code index) = omega arith

module _ (r : Option ℕ) (k : Known) (args : List Tree) (small : small_known r k args ≡ true) where
  abbrev order : Bool
  order = fine_known is_small any_known 507 any_global k

  is_count : length args ≡ known_arguments k
  is_count = eqb-true (length args) (known_arguments k) (and_left (eqb (length args) (known_arguments k)) (order && (target r && smalls args)) small)

  rest : (order && (target r && smalls args)) ≡ true
  rest = and_right (eqb (length args) (known_arguments k)) (order && (target r && smalls args)) small

  both : (target r && smalls args) ≡ true
  both = and_right order (target r && smalls args) rest

  pub known_order : fine_known is_small any_known 507 any_global k ≡ true
  known_order = and_left order (target r && smalls args) rest

  pub known_parts : FineParts 1 r args
  known_parts = record {
    few = omega (arith, is_count, few_arguments k);
    room = has_room r (and_left (target r) (smalls args) both);
    trees = all_small args (and_right (target r) (smalls args) both);
  }
