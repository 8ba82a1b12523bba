-- What the known functions take of the input.
use Rattle.std.proofs.Common.{◌≡◌, ℕ, suc, ◌+◌, Bool, true, false, List, [], ◌∷◌, length, refl, ap, ap₂, arith}
use Rattle.std.specs.Prelude.{if◌then◌else◌, nat_eq}
use Rattle.mv_ast.specs.declared.program.Program.{Program}
use Rattle.mv_ast.specs.declared.program.Known.{Known}
use Rattle.mv_ast.specs.declared.program.Known.TheVariants.{Getchar, Putchar, Poll, Plan}
use Rattle.mv_ast.specs.Worlds as source
use Rattle.mv_bindings.specs.Acts.{Act, Skip, Flip, Adopt}
use Rattle.mv_ast.specs.Orders.{Answered, may_commit, ordered, acted, polled}
use Rattle.mv_ast.specs.Switches.{with_word, switch_global}
use Rattle.mv_ir.specs.World.{World}
use Rattle.mv_ir.specs.KnownFunctions.{seen, seen_from, next_byte, known_answer}
use Rattle.mv_ir.specs.Reached.{TakesInput}

-- the input is left as it is
record Leaves (before after : source.World) : Type 0 where
  input : after.input ≡ before.input
  taken : after.taken ≡ before.taken

either : (w : source.World) (b : Bool) (x y : Answered) → Leaves w x.world → Leaves w y.world → Leaves w (if b then x else y).world
either w true x y h k = h
either w false x y h k = k

ordered_leaves : (p : Program) (ns : List ℕ) (code index : ℕ) (w : source.World) → Leaves w (ordered p ns code index w).world
ordered_leaves p ns code index w = either w (may_commit w) _ _ (record { input = refl; taken = refl }) (record { input = refl; taken = refl })

acted_leaves : (p : Program) (ns : List ℕ) (actions : List Act) (w : source.World) → Leaves w (acted p ns actions w).world
acted_leaves p ns [] w = record { input = refl; taken = refl }
acted_leaves p ns (Skip ∷ rest) w = record { input = refl; taken = refl }
acted_leaves p ns (Flip s v ∷ rest) w =
    let h = ordered_leaves p ns 0 0 (record w { globals = with_word w.globals (switch_global p s) 0 v; actions = rest }) in record { input = h.input; taken = h.taken }
acted_leaves p ns (Adopt bs ∷ rest) w = record { input = refl; taken = refl }

polled_leaves : (p : Program) (ns : List ℕ) (w : source.World) → Leaves w (polled p ns w).world
polled_leaves p ns w = either w (nat_eq w.live 0) _ _ (acted_leaves p ns w.actions w) (record { input = refl; taken = refl })

seen_takes : (live : ℕ) (w : World) (v : source.World) → Leaves (seen_from 0 live w) v → TakesInput w (seen v)
seen_takes live w v h = ap₂ (λ (n : ℕ) (bytes : List ℕ). n + length bytes) h.taken h.input

byte_takes : (w : World) (bytes : List ℕ) → w.input ≡ bytes → TakesInput w (next_byte bytes w).world
byte_takes w [] e = refl
byte_takes w (byte ∷ rest) e = let count : length w.input ≡ suc (length rest) = ap length e in omega (arith, count)

pub known_takes : (p : Program) (ns : List ℕ) (k : Known) (vs : List ℕ) (live : ℕ) (w : World) → TakesInput w (known_answer p ns k vs live w).world
known_takes p ns Getchar vs live w = byte_takes w w.input refl
known_takes p ns Putchar vs live w = refl
known_takes p ns Poll vs live w = seen_takes live w (polled p ns (seen_from 0 live w)).world (polled_leaves p ns (seen_from 0 live w))
known_takes p ns (Plan code index) vs live w = seen_takes live w (ordered p ns code index (seen_from 0 live w)).world (ordered_leaves p ns code index (seen_from 0 live w))
