use Rattle.std.proofs.Common.{◌≡◌, ◌+◌, ◌<◌, ◌≤◌, ◌∷◌, [], ◌++◌, List, true, false, cond, length, get_or, drop, sym, ap, ◌∙◌, arith, subst, append-nil}
use Rattle.mv_ast.specs.declared.program.Global.{Global}
use Rattle.mv_ast.specs.Counts.{words_of_size}
use Rattle.mv_ir.specs.declared.body.Room.{Room}
use Rattle.mv_lower_spec.specs.Functions.{address_behind, rooms_from}
use Rattle.mv_lower.specs.Programs.{is_named}
use Rattle.mv_lower.proofs.Bodies.{kept_step, same_room, rooms_next, rooms_end, next_address}
use Rattle.mv_lower.proofs.function.rooms.Goals as goal
use Rattle.mv_lower.proofs.function.rooms.Goals.{then-is_named+in_ok-push, else-is_named}

pub loop-global-preserved : goal.loop-global-preserved
loop-global-preserved c =
    let i = c.loop-global.global-index in
    let g = c.loop-global.g in
    let x = c.global-item.result in
    let xs = c.args.globals.now in
    let f = is_named c.args.marks.now in
    let old = c.loop-global.rooms in
    let inv = c.loop-global.invariant in
    let before = inv.0 in
    let size = words_of_size x.size in
    let below : i < length xs = subst (λ (ys : List Global). i < length ys) c.as_slice-global-items.ensures c.loop-global-test.true in
    let item : x ≡ get_or xs i x = subst (λ (ys : List Global). x ≡ get_or ys i x) c.as_slice-global-items.ensures c.global-item.is in
    let room : Room = record { global = g; at = address_behind before; size = size } in
    let made : (let r : Room = record { global = g; at = c.loop-global.at; size = c.words-size.result } in r) ≡ room = same_room g inv.2 c.words-size.ensures in
    let kept : c.if-is_named.rooms ≡ cond (f g) (old ++ room ∷ []) old = elim c.if-is_named.branch [
      | then-is_named+in_ok-push w ↦
          let t : f g ≡ true = sym c.is_named.ensures ∙ w.if-is_named.true in
          (w.rooms-is ∙ w.in_ok-push.ensures.ok) ∙ (ap (λ (r : Room). old ++ r ∷ []) made ∙ ap (λ b. cond b (old ++ room ∷ []) old) (sym t))
      | else-is_named w ↦
          let t : f g ≡ false = sym c.is_named.ensures ∙ w.if-is_named.false in
          w.rooms-is ∙ ap (λ b. cond b (old ++ room ∷ []) old) (sym t)
    ] in
    let whole : old ++ rooms_from f g before (drop i xs) ≡ rooms_from f 0 0 xs = inv.3 in
    let next = ap (λ (r : List Room). old ++ r) (sym (rooms_next f g before xs i x below item)) ∙ whole in
    let rest = rooms_from f (g + 1) (before + size) (drop (i + 1) xs) in
    let address = next_address before size in (
      before + size,
      omega (arith, inv.1),
      cc (inv.2, address),
      kept_step (f g) room old c.if-is_named.rooms rest (rooms_from f 0 0 xs) kept next,
    )

pub returns : goal.returns
returns c =
    let i = c.loop-global.global-index in
    let g = c.loop-global.g in
    let xs = c.args.globals.now in
    let f = is_named c.args.marks.now in
    let rooms = c.loop-global.rooms in
    let inv = c.loop-global.invariant in
    let past : length xs ≤ i = subst (λ (ys : List Global). length ys ≤ i) c.as_slice-global-items.ensures c.loop-global-test.false in
    sym (append-nil rooms) ∙ (ap (λ (r : List Room). rooms ++ r) (sym (rooms_end f g inv.0 xs i past)) ∙ inv.3)
