use Rattle.std.proofs.Common.{◌<◌, ◌*◌, ◌+◌, ◌/◌, length, min, subst, sym, ap, ◌∙◌, arith}
use Rattle.std.specs.Prelude.{slice_index, slice_set}
use Rattle.std.proofs.lemmas.List.{length-set}
use Rattle.mv_regalloc.specs.Paired.{lesser_of}
use Rattle.mv_regalloc.proofs.Pairing.{are_lesser, is_paired, lesser_set}
use Rattle.mv_regalloc.proofs.ends.+set.Goals as goal

pub Ends::set-invariant_of-self : goal.Ends::set-invariant_of-self
Ends::set-invariant_of-self t c =
    let ends = c.self.inside.ends.items in
    let number = c.args.number in
    let set = slice_set ends number c.args.end in
    let known : number < length ends = subst (λ e. number < length e) (sym c.self.view_is) c.requires in
    let some : 0 < length set = (let e = length-set ends number c.args.end in omega (arith, e, known)) in
    is_paired set c.set.new.self some
    (lesser_set ends (lesser_of c.self.inside.pairs) (are_lesser ends c.self.inside.pairs c.self.invariant) number c.args.end c.lesser_at-lesser.result known (lesser_of c.set.new.self) c.set.ensures
    (c.lesser_at-lesser.ensures ∙ ap (λ e. min (slice_index e (number / 2 * 2)) (slice_index e (number / 2 * 2 + 1))) c.as_slice.ensures.value))
