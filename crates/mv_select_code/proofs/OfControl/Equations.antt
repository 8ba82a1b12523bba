-- The code of each form of statement, and what it is for one to be fine.
use Rattle.std.proofs.Common.{◌≡◌, ℕ, zero, suc, ◌&&◌, ◌||◌, Bool, true, false, not, eqb, ltb, length, List, [], ◌∷◌, map, Option, Some, None, IfSome, refl, sym, ap, ◌∙◌}
use Rattle.mv_ast.specs.declared.program.Known.{Known}
use Rattle.mv_ir.specs.declared.tree.Tree.{Tree}
use Rattle.mv_ir.specs.declared.stm.Array.{Array}
use Rattle.mv_ir.specs.declared.stm.Callee.{Callee}
use Rattle.mv_ir.specs.declared.stm.Stm.{Stm}
use Rattle.mv_ir.specs.declared.stm.Stm as at
use Rattle.mv_ir.specs.declared.stm.Stm.TheOpen.{Stm-F}
use Rattle.mv_ir.specs.declared.stm.Stm.TheOpen as stm
use Rattle.mv_ir.specs.declared.stm.Stm.TheViews.{roll-Stm}
use Rattle.mv_ir.specs.declared.stm.Stm.TheFolds.{fold-roll-Stm, map-Stm}
use Rattle.mv_ir.specs.declared.stm.Stm.TheVariants.{rolls-Set, rolls-SetGlobal, rolls-Divide, rolls-Check, rolls-Read, rolls-Write, rolls-Zero, rolls-If, rolls-Loop, rolls-Block, rolls-Break, rolls-Back, rolls-Call, rolls-Known, rolls-Return}
use Rattle.mv_ir.specs.WellFormed.{known_arguments, all_true}
use Rattle.mv_select_code.specs.Trees.TreeCode.{Seats}
use Rattle.mv_select_code.specs.declared.control.enclosing.Leading.{Leading}
use Rattle.mv_select_code.specs.declared.control.enclosing.Leading.TheVariants as lead
use Rattle.mv_select_code.specs.Statements.StatementCode.{set_lines, set_global_lines, divide_lines, check_lines, read_lines, write_lines}
use Rattle.mv_select_code.specs.Control.FlowCode.{Plan, Tested, Emitted, plain, home, size, tests, zero_code, nothing, in_turn, staying, if_leads, straight_loop, turned_loop, loop_by, loop_code, if_code, block_code, break_code, back_code, return_code, code_layer, statement_code, code_of, loop_of, Uses, may_read, may_write, fine_target, fine_callee, fine_known, only_tests, fine_layer, is_fine_statement, are_fine}

pub code_roll : (plan : Plan) (x : Stm-F Stm) → statement_code plan (roll-Stm x) ≡ code_layer plan (map-Stm Stm Emitted (statement_code plan) x)
unfolding statement_code
code_roll plan x = fold-roll-Stm Emitted (code_layer plan) x

pub fine_roll : (is_fine : Tree → Bool) (may_ask : Known → Bool) (temps : ℕ) (uses : Uses) (x : Stm-F Stm)
    → is_fine_statement is_fine may_ask temps uses (roll-Stm x) ≡ fine_layer is_fine may_ask temps uses (map-Stm Stm Bool (is_fine_statement is_fine may_ask temps uses) x)
unfolding is_fine_statement
fine_roll is_fine may_ask temps uses x = fold-roll-Stm Bool (fine_layer is_fine may_ask temps uses) x

-- ---- a branch leads nowhere alone, and stays for a list where it else leaves what encloses it

pub if_alone : (seats : Seats) (end : ℕ) (t : Tree) (x y : Option Leading) (a b : Emitted) → (if_leads seats end t x y a b).alone ≡ None
if_alone seats end t None None a b = refl
if_alone seats end t None (Some l) a b = refl
if_alone seats end t (Some l) None a b = refl
if_alone seats end t (Some l) (Some lead.On) a b = refl
if_alone seats end t (Some l) (Some (lead.Out n)) a b = refl
if_alone seats end t (Some l) (Some (lead.Back n)) a b = refl

-- a list that a test leads to, where it isn't 0 or where it is
abbrev pub led_to : Tree → Bool → Emitted → Tested
led_to t sense a = record { test = t; sense = sense; labels = a.labels; lines = a.lines }

pub if_stays : (P : Tested → Type 0) (seats : Seats) (end : ℕ) (t : Tree) (x y : Option Leading) (a b : Emitted) → (y ≡ Some (lead.Out zero) → P (led_to t true a))
    → (x ≡ Some (lead.Out zero) → P (led_to t false b)) → IfSome (if_leads seats end t x y a b).stays P
if_stays P seats end t x y a b = go x y
  where
    by_way : (sense : Bool) (l : Leading) (c : Emitted) → (Some l ≡ Some (lead.Out zero) → P (led_to t (not sense) c)) → IfSome (staying t sense l c) P
    by_way sense lead.On c h = tt
    by_way sense (lead.Out zero) c h = h refl
    by_way sense (lead.Out (suc n)) c h = tt
    by_way sense (lead.Back n) c h = tt

    go : (x y : Option Leading) → (y ≡ Some (lead.Out zero) → P (led_to t true a)) → (x ≡ Some (lead.Out zero) → P (led_to t false b)) → IfSome (if_leads seats end t x y a b).stays P
    go None None h k = tt
    go None (Some l) h k = by_way false l a h
    go (Some l) None h k = by_way true l b k
    go (Some l) (Some lead.On) h k = by_way true l b k
    go (Some l) (Some (lead.Out n)) h k = by_way false (lead.Out n) a h
    go (Some l) (Some (lead.Back n)) h k = by_way false (lead.Back n) a h

-- a loop does neither

loop_is : (P : Emitted → Type 0) (seats : Seats) (list : List Emitted) → ((b : Emitted) → P (straight_loop b)) → ((a : Tested) (b : Emitted) → P (turned_loop seats a b)) → P (loop_code seats list)
loop_is P seats [] straight turned = straight nothing
loop_is P seats (b ∷ rest) straight turned = by b.stays
  where
    by : (x : Option Tested) → P (loop_by seats x b rest)
    by None = straight (in_turn (b ∷ rest))
    by (Some a) = turned a (in_turn rest)

pub loop_alone : (seats : Seats) (list : List Emitted) → (loop_code seats list).alone ≡ None
loop_alone seats list = loop_is (λ c. c.alone ≡ None) seats list (λ b. refl) (λ a b. refl)

pub loop_unstaying : (seats : Seats) (list : List Emitted) → (loop_code seats list).stays ≡ None
loop_unstaying seats list = loop_is (λ c. c.stays ≡ None) seats list (λ b. refl) (λ a b. refl)

pub loop_stays : (P : Tested → Type 0) (seats : Seats) (list : List Emitted) → IfSome (loop_code seats list).stays P
loop_stays P seats list = loop_is (λ c. IfSome c.stays P) seats list (λ b. tt) (λ a b. tt)

module _ (plan : Plan) where
  pub code_set : (t : ℕ) (v : Tree) → statement_code plan (at.Set t v) ≡ plain (set_lines plan.seats t v)
  code_set t v = ap (statement_code plan) (sym (rolls-Set t v)) ∙ code_roll plan (stm.Set t v)

  pub code_setglobal : (g : ℕ) (v : Tree) → statement_code plan (at.SetGlobal g v) ≡ plain (set_global_lines plan.seats g v)
  code_setglobal g v = ap (statement_code plan) (sym (rolls-SetGlobal g v)) ∙ code_roll plan (stm.SetGlobal g v)

  pub code_divide : (t o : ℕ) (a b : Tree) → statement_code plan (at.Divide t o a b) ≡ plain (divide_lines plan.seats t o a b)
  code_divide t o a b = ap (statement_code plan) (sym (rolls-Divide t o a b)) ∙ code_roll plan (stm.Divide t o a b)

  pub code_check : (a : Array) (i : Tree) → statement_code plan (at.Check a i) ≡ plain (check_lines plan.seats (size plan a) (tests plan a) i)
  code_check a i = ap (statement_code plan) (sym (rolls-Check a i)) ∙ code_roll plan (stm.Check a i)

  pub code_read : (t : ℕ) (a : Array) (i : Tree) → statement_code plan (at.Read t a i) ≡ plain (read_lines plan.seats t (home plan a) (size plan a) (tests plan a) i)
  code_read t a i = ap (statement_code plan) (sym (rolls-Read t a i)) ∙ code_roll plan (stm.Read t a i)

  pub code_write : (a : Array) (i v : Tree) → statement_code plan (at.Write a i v) ≡ plain (write_lines plan.seats (home plan a) (size plan a) (tests plan a) i v)
  code_write a i v = ap (statement_code plan) (sym (rolls-Write a i v)) ∙ code_roll plan (stm.Write a i v)

  pub code_zero : (a : ℕ) → statement_code plan (at.Zero a) ≡ zero_code (plan.array_at a) (plan.array_size a)
  code_zero a = ap (statement_code plan) (sym (rolls-Zero a)) ∙ code_roll plan (stm.Zero a)

  pub code_if : (t : Tree) (a b : List Stm) → statement_code plan (at.If t a b) ≡ if_code plan.seats plan.end t (code_of plan a) (code_of plan b)
  code_if t a b = ap (statement_code plan) (sym (rolls-If t a b)) ∙ code_roll plan (stm.If t a b)

  pub code_loop : (b : List Stm) → statement_code plan (at.Loop b) ≡ loop_of plan b
  code_loop b = ap (statement_code plan) (sym (rolls-Loop b)) ∙ code_roll plan (stm.Loop b)

  pub code_block : (b : List Stm) → statement_code plan (at.Block b) ≡ block_code (code_of plan b)
  code_block b = ap (statement_code plan) (sym (rolls-Block b)) ∙ code_roll plan (stm.Block b)

  pub code_break : (n : ℕ) → statement_code plan (at.Break n) ≡ break_code plan.end n
  code_break n = ap (statement_code plan) (sym (rolls-Break n)) ∙ code_roll plan (stm.Break n)

  pub code_back : (n : ℕ) → statement_code plan (at.Back n) ≡ back_code plan.end n
  code_back n = ap (statement_code plan) (sym (rolls-Back n)) ∙ code_roll plan (stm.Back n)

  pub code_call : (r : Option ℕ) (f : Callee) (args : List Tree) → statement_code plan (at.Call r f args) ≡ plain (plan.calls.call r f args)
  code_call r f args = ap (statement_code plan) (sym (rolls-Call r f args)) ∙ code_roll plan (stm.Call r f args)

  pub code_known : (r : Option ℕ) (k : Known) (args : List Tree) → statement_code plan (at.Known r k args) ≡ plain (plan.calls.known r k args)
  code_known r k args = ap (statement_code plan) (sym (rolls-Known r k args)) ∙ code_roll plan (stm.Known r k args)

  pub code_return : (v : Tree) → statement_code plan (at.Return v) ≡ return_code plan.seats plan.end v
  code_return v = ap (statement_code plan) (sym (rolls-Return v)) ∙ code_roll plan (stm.Return v)

module _ (is_fine : Tree → Bool) (may_ask : Known → Bool) (temps : ℕ) (uses : Uses) where
  pub fine_set : (t : ℕ) (v : Tree) → is_fine_statement is_fine may_ask temps uses (at.Set t v) ≡ (ltb t temps && is_fine v)
  fine_set t v = ap (is_fine_statement is_fine may_ask temps uses) (sym (rolls-Set t v)) ∙ fine_roll is_fine may_ask temps uses (stm.Set t v)

  pub fine_setglobal : (g : ℕ) (v : Tree) → is_fine_statement is_fine may_ask temps uses (at.SetGlobal g v) ≡ ((uses.has_word g && uses.is_written g) && is_fine v)
  fine_setglobal g v = ap (is_fine_statement is_fine may_ask temps uses) (sym (rolls-SetGlobal g v)) ∙ fine_roll is_fine may_ask temps uses (stm.SetGlobal g v)

  pub fine_divide : (t o : ℕ) (a b : Tree) → is_fine_statement is_fine may_ask temps uses (at.Divide t o a b) ≡ (ltb t temps && (is_fine a && is_fine b))
  fine_divide t o a b = ap (is_fine_statement is_fine may_ask temps uses) (sym (rolls-Divide t o a b)) ∙ fine_roll is_fine may_ask temps uses (stm.Divide t o a b)

  pub fine_check : (a : Array) (i : Tree) → is_fine_statement is_fine may_ask temps uses (at.Check a i) ≡ (is_fine i)
  fine_check a i = ap (is_fine_statement is_fine may_ask temps uses) (sym (rolls-Check a i)) ∙ fine_roll is_fine may_ask temps uses (stm.Check a i)

  pub fine_read : (t : ℕ) (a : Array) (i : Tree) → is_fine_statement is_fine may_ask temps uses (at.Read t a i) ≡ (ltb t temps && (may_read is_fine may_ask temps uses a && is_fine i))
  fine_read t a i = ap (is_fine_statement is_fine may_ask temps uses) (sym (rolls-Read t a i)) ∙ fine_roll is_fine may_ask temps uses (stm.Read t a i)

  pub fine_write : (a : Array) (i v : Tree) → is_fine_statement is_fine may_ask temps uses (at.Write a i v) ≡ (may_write is_fine may_ask temps uses a && (is_fine i && is_fine v))
  fine_write a i v = ap (is_fine_statement is_fine may_ask temps uses) (sym (rolls-Write a i v)) ∙ fine_roll is_fine may_ask temps uses (stm.Write a i v)

  pub fine_if : (t : Tree) (a b : List Stm) → is_fine_statement is_fine may_ask temps uses (at.If t a b) ≡ (is_fine t && (are_fine is_fine may_ask temps uses a && are_fine is_fine may_ask temps uses b))
  fine_if t a b = ap (is_fine_statement is_fine may_ask temps uses) (sym (rolls-If t a b)) ∙ fine_roll is_fine may_ask temps uses (stm.If t a b)

  pub fine_loop : (b : List Stm) → is_fine_statement is_fine may_ask temps uses (at.Loop b) ≡ (are_fine is_fine may_ask temps uses b)
  fine_loop b = ap (is_fine_statement is_fine may_ask temps uses) (sym (rolls-Loop b)) ∙ fine_roll is_fine may_ask temps uses (stm.Loop b)

  pub fine_block : (b : List Stm) → is_fine_statement is_fine may_ask temps uses (at.Block b) ≡ (are_fine is_fine may_ask temps uses b)
  fine_block b = ap (is_fine_statement is_fine may_ask temps uses) (sym (rolls-Block b)) ∙ fine_roll is_fine may_ask temps uses (stm.Block b)

  pub fine_call : (r : Option ℕ) (f : Callee) (args : List Tree) → is_fine_statement is_fine may_ask temps uses (at.Call r f args)
      ≡ ((uses.may_call || only_tests f args) && (ltb (length args) 9 && (fine_target is_fine may_ask temps uses r && (fine_callee is_fine may_ask temps uses f && all_true (map is_fine args)))))
  fine_call r f args = ap (is_fine_statement is_fine may_ask temps uses) (sym (rolls-Call r f args)) ∙ fine_roll is_fine may_ask temps uses (stm.Call r f args)

  pub fine_known_call : (r : Option ℕ) (k : Known) (args : List Tree) → is_fine_statement is_fine may_ask temps uses (at.Known r k args)
      ≡ (eqb (length args) (known_arguments k) && (fine_known is_fine may_ask temps uses k && (fine_target is_fine may_ask temps uses r && all_true (map is_fine args))))
  fine_known_call r k args = ap (is_fine_statement is_fine may_ask temps uses) (sym (rolls-Known r k args)) ∙ fine_roll is_fine may_ask temps uses (stm.Known r k args)

  pub fine_return : (v : Tree) → is_fine_statement is_fine may_ask temps uses (at.Return v) ≡ (is_fine v)
  fine_return v = ap (is_fine_statement is_fine may_ask temps uses) (sym (rolls-Return v)) ∙ fine_roll is_fine may_ask temps uses (stm.Return v)

pub ruleset codes = (code_set, code_setglobal, code_divide, code_check, code_read, code_write, code_zero, code_if, code_loop, code_block, code_break, code_back, code_call, code_known, code_return)
