use Rattle.std.proofs.Common.{◌+◌, ◌*◌, ◌<◌, length, sym, ◌∙◌, arith}
use Rattle.mv_image.specs.Spelling.{Fields}
use Rattle.mv_patch.specs.declared.changes.Passed.{Passed}
use Rattle.mv_patch.specs.Orders.{values_of}
use Rattle.mv_patch.specs.Tables.{patchable, count_passed}
use Rattle.mv_patch.proofs.Next.{point_found, entry_found, site_found, site_left}
use Rattle.mv_patch.proofs.changes.push_next.Goals as goal

left : (image : Fields) (passed : Passed) → count_passed passed < patchable image → count_passed passed < length image.functions + 2 * length image.sites + 4 * length image.points
unfolding patchable
left image passed h = h

pub returns-then-is_point_next-clause-items : goal.returns-then-is_point_next-clause-items
returns-then-is_point_next-clause-items c r =
    point_found c.args.image.now (values_of c.args.before.bound.now) (values_of c.args.after.bound.now) c.args.pairs.now.items c.push_point_word.new.pairs.items c.args.passed
    (sym c.is_point_next.ensures ∙ c.if-is_point_next.true) (c.push_point_word.ensures.items r)

pub returns-then-is_entry_next-clause-items : goal.returns-then-is_entry_next-clause-items
returns-then-is_entry_next-clause-items c r =
    entry_found c.args.image.now (values_of c.args.before.bound.now) (values_of c.args.after.bound.now) c.args.pairs.now.items c.push_entry.new.pairs.items c.args.passed
    (sym c.is_point_next.ensures ∙ c.if-is_point_next.false) (sym c.is_entry_next.ensures ∙ c.if-is_entry_next.true) (c.push_entry.ensures.items r)

pub push_site_word-requires-clause-word : goal.push_site_word-requires-clause-word
push_site_word-requires-clause-word c =
    site_left c.args.image.now (values_of c.args.before.bound.now) (values_of c.args.after.bound.now) c.args.pairs.now.items c.args.pairs.now.items c.args.passed
    c.requires.passed (left c.args.image.now c.args.passed c.requires.more) (sym c.is_point_next.ensures ∙ c.if-is_point_next.false) (sym c.is_entry_next.ensures ∙ c.if-is_entry_next.false)

pub returns-clause-passed : goal.returns-clause-passed
returns-clause-passed c =
    let more = site_left c.args.image.now (values_of c.args.before.bound.now) (values_of c.args.after.bound.now) c.args.pairs.now.items c.args.pairs.now.items c.args.passed
    c.requires.passed (left c.args.image.now c.args.passed c.requires.more) (sym c.is_point_next.ensures ∙ c.if-is_point_next.false) (sym c.is_entry_next.ensures ∙ c.if-is_entry_next.false) in
    record { entries = c.requires.passed.entries; sites = omega (arith, more); points = c.requires.passed.points }

pub returns-clause-items : goal.returns-clause-items
returns-clause-items c r =
    site_found c.args.image.now (values_of c.args.before.bound.now) (values_of c.args.after.bound.now) c.args.pairs.now.items c.push_site_word.new.pairs.items c.args.passed
    c.requires.passed (left c.args.image.now c.args.passed c.requires.more) (sym c.is_point_next.ensures ∙ c.if-is_point_next.false) (sym c.is_entry_next.ensures ∙ c.if-is_entry_next.false) (c.push_site_word.ensures.items r)
