-- Evaluations that leave the bindings and the number of live attributed frames as they are, where such a frame is live, and what is put together of them.
use Rattle.std.proofs.Common.{◌≡◌, ℕ, ◌<◌, Bool, true, false, List, [], ◌∷◌, length, refl, ◌∙◌, ap, subst, sym, arith, Option, Some, None, if◌then◌else◌, nat_eq, nat_lt, slice_get}
use Rattle.std.specs.Prelude.{◌&&◌}
use Rattle.std.proofs.lemmas.Bool.{ne_eqb}
use Rattle.mv_ast.specs.declared.program.Program.{Program}
use Rattle.mv_ast.specs.declared.program.Known.{Known}
use Rattle.mv_ast.specs.declared.program.Known.TheVariants.{Getchar, Putchar, Poll, Plan}
use Rattle.mv_bindings.specs.declared.stop.Stop.{Stop}
use Rattle.mv_bindings.specs.declared.stop.Stop.TheVariants.{Trapped}
use Rattle.mv_ast.specs.Orders.{Answered, may_commit, ordered, polled}
use Rattle.mv_ast.specs.Switches.{words_or_none}
use Rattle.mv_ast.specs.Worlds.{World, Outcome, Came, Stopped, after, and_then, bind, give, stop, counted}
use Rattle.mv_meaning.specs.declared.state.Frame.{Frame}
use Rattle.mv_meaning.specs.declared.state.Lvalue.{Lvalue}
use Rattle.mv_meaning.specs.declared.state.Lvalue.TheVariants as lvalue
use Rattle.mv_meaning.specs.Meaning.{Evaluation, read_as, read_lvalue, store_lvalue, element_below, global_element, local_element, value_or_trap, unless_zero, byte_of, known_value}
use Rattle.mv_meaning.specs.Growth.{world_left}

-- the bindings and the number of live attributed frames are the same
pub record IsKept (w left : World) : Type 0 where
  pub live : left.live ≡ w.live
  pub bindings : left.bindings ≡ w.bindings

pub record Keeps {A : Type 0} (d : Evaluation A) : Type 0 where
  pub kept : (f : Frame) (w : World) → 0 < w.live → IsKept w (world_left (d f w))

kept_same : (w left : World) → left ≡ w → IsKept w left
kept_same w left e = record { live = ap (λ (x : World). x.live) e; bindings = ap (λ (x : World). x.bindings) e }

kept_on : (w w' left : World) → IsKept w w' → IsKept w' left → IsKept w left
kept_on w w' left h k = record { live = k.live ∙ h.live; bindings = k.bindings ∙ h.bindings }

module _ {A : Type 0} where
  after_kept : (w : World) (n : ℕ) (o : Outcome Frame A) → IsKept w (world_left o) → IsKept w (world_left (after n o))
  after_kept w n (Came v f left m) h = h
  after_kept w n (Stopped s left m) h = h

  pub keeps_give : (v : A) → Keeps {A = A} (give v)
  keeps_give v = record { kept = λ f w lives. record { live = refl; bindings = refl } }

  pub keeps_stop : (s : Stop) → Keeps {A = A} (stop s)
  keeps_stop s = record { kept = λ f w lives. record { live = refl; bindings = refl } }

  pub keeps_counted : (n : ℕ) (d : Evaluation A) → Keeps d → Keeps (counted n d)
  keeps_counted n d h = record { kept = λ f w lives. after_kept w n (d f w) (h.kept f w lives) }

  pub keeps_either : (b : Bool) (d e : Evaluation A) → Keeps d → Keeps e → Keeps (if b then d else e)
  keeps_either true d e h k = h
  keeps_either false d e h k = k

  pub keeps_unless : (v : ℕ) (d e : Evaluation A) → Keeps d → Keeps e → Keeps (unless_zero v d e)
  keeps_unless v = keeps_either (nat_eq v 0)

  pub keeps_pointwise : (d e : Evaluation A) → ((f : Frame) (w : World) → d f w ≡ e f w) → Keeps e → Keeps d
  keeps_pointwise d e same h = record { kept = λ f w lives. subst (λ o. IsKept w (world_left o)) (sym (same f w)) (h.kept f w lives) }

module _ {A B : Type 0} where
  then_kept : (w : World) (o : Outcome Frame A) (next : A → Evaluation B) → 0 < w.live → IsKept w (world_left o) → ((v : A) → Keeps (next v)) → IsKept w (world_left (and_then o next))
  then_kept w (Came v f left n) next lives h k =
      after_kept w n (next v f left) (kept_on w left (world_left (next v f left)) h ((k v).kept f left (subst (λ m. 0 < m) (sym h.live) lives)))
  then_kept w (Stopped s left n) next lives h k = h

  pub keeps_bind : (d : Evaluation A) (next : A → Evaluation B) → Keeps d → ((v : A) → Keeps (next v)) → Keeps (bind d next)
  keeps_bind d next h k = record { kept = λ f w lives. then_kept w (d f w) next lives (h.kept f w lives) k }

-- ---- what takes no context

pub keeps_read : (p : Program) (l : Lvalue) → Keeps (read_lvalue p l)
keeps_read p l = record { kept = λ f w lives. record { live = refl; bindings = refl } }

pub keeps_read_as : (p : Program) (numbers : List ℕ) (called : Bool) (l : Lvalue) → Keeps (read_as p numbers called l)
keeps_read_as p numbers called l = record { kept = λ f w lives. record { live = refl; bindings = refl } }

pub keeps_store : (l : Lvalue) (v : ℕ) → Keeps (store_lvalue l v)
keeps_store (lvalue.Global g i) v = record { kept = λ f w lives. record { live = refl; bindings = refl } }
keeps_store (lvalue.Local l i) v = record { kept = λ f w lives. record { live = refl; bindings = refl } }

pub keeps_trap : (v : Option ℕ) → Keeps (value_or_trap v)
keeps_trap None = keeps_stop (Trapped 1)
keeps_trap (Some v) = keeps_give v

keeps_below : (size i : ℕ) (at : ℕ → Lvalue) → Keeps (element_below size i at)
keeps_below size i at = keeps_either (nat_lt i size) (give (at i)) (stop (Trapped 2)) (keeps_give (at i)) (keeps_stop (Trapped 2))

pub keeps_global : (g i : ℕ) → Keeps (global_element g i)
keeps_global g i = record { kept = λ f w lives. (keeps_below (length (words_or_none (slice_get w.globals g))) i (lvalue.Global g)).kept f w lives }

pub keeps_local : (l i : ℕ) → Keeps (local_element l i)
keeps_local l i = record { kept = λ f w lives. (keeps_below (length (words_or_none (slice_get f.locals l))) i (lvalue.Local l)).kept f w lives }

keeps_byte : (bytes : List ℕ) → Keeps (byte_of bytes)
keeps_byte [] = record { kept = λ f w lives. record { live = refl; bindings = refl } }
keeps_byte (c ∷ rest) = record { kept = λ f w lives. record { live = refl; bindings = refl } }

-- ---- commits, reverts and polls are refused

-- what is done only where no attributed frame is live
refused : (w : World) (b : Bool) (x y : Answered) → b ≡ false → y.world ≡ w → (if b then x else y).world ≡ w
refused w true x y e same = cc
refused w false x y e same = same

is_live : (n : ℕ) → 0 < n → nat_eq n 0 ≡ false
is_live n lives = ne_eqb n 0 (λ (e : n ≡ 0). omega (arith, e))

no_commit : (w : World) → 0 < w.live → may_commit w ≡ false
no_commit w lives = by (nat_eq w.hart 0)
  where
    by : (z : Bool) → (z && nat_eq w.live 0) ≡ false
    by true = is_live w.live lives
    by false = refl

order_refused : (p : Program) (numbers : List ℕ) (code index : ℕ) (w : World) → 0 < w.live → (ordered p numbers code index w).world ≡ w
order_refused p numbers code index w lives = refused w (may_commit w) _ _ (no_commit w lives) refl

poll_refused : (p : Program) (numbers : List ℕ) (w : World) → 0 < w.live → (polled p numbers w).world ≡ w
poll_refused p numbers w lives = refused w (nat_eq w.live 0) _ _ (is_live w.live lives) refl

pub keeps_known : (p : Program) (numbers : List ℕ) (k : Known) (vs : List ℕ) → Keeps (known_value p numbers k vs)
keeps_known p numbers Getchar vs = record { kept = λ f w lives. (keeps_byte w.input).kept f w lives }
keeps_known p numbers Putchar vs = record { kept = λ f w lives. record { live = refl; bindings = refl } }
keeps_known p numbers Poll vs = record { kept = λ f w lives. kept_same w _ (poll_refused p numbers w lives) }
keeps_known p numbers (Plan code index) vs = record { kept = λ f w lives. kept_same w _ (order_refused p numbers code index w lives) }
