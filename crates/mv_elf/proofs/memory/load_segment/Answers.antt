use Rattle.std.proofs.Common.{arith, ap, ◌-◌, ℕ}
use Rattle.mv_elf.proofs.SegmentLaws.{lies}
use Rattle.mv_elf.proofs.MemoryLaws.{put_over}
use Rattle.mv_elf.proofs.memory.load_segment.Goals as goal

pub overflow_sub-at : goal.overflow_sub-at
overflow_sub-at c = omega (arith, c.start.ensures.value, (lies c.args.region c.args.segment c.requires.lies).start)

pub slice_bounds-copy_from_slice-end : goal.slice_bounds-copy_from_slice-end
slice_bounds-copy_from_slice-end c = omega (arith, c.start.ensures.value, (lies c.args.region c.args.segment c.requires.lies).start, c.requires.room)

pub returns : goal.returns
returns c =
    put_over c.args.region c.args.bytes.now c.args.memory.now c.copy_from_slice.new.self c.args.segment _ _ c.requires.lies (ap (λ (n : ℕ). c.args.segment.address - n) c.start.ensures.value) (omega arith)
    c.copy_from_slice.ensures.after c.requires.room c.requires.there
