use Rattle.std.proofs.Common.{◌≡◌, ◌<◌, ◌+◌, ◌*◌, ◌∙◌, ℕ, List, length, slice_index, false, ap, sym, arith}
use Rattle.std.proofs.lemmas.List.{with_items_is, length-replicate, get_or-replicate}
use Rattle.mv_elf.specs.Segments.{region_start, count_of, segment_of, is_loaded, lies_in, reach}
use Rattle.mv_elf.proofs.MemoryLaws.{byte_of-none, step_loaded, step_skipped, all_loaded, room_for, bytes_for}
use Rattle.mv_elf.proofs.memory.bytes_in.Goals as goal
use Rattle.mv_elf.proofs.memory.bytes_in.Goals.{then-lies_in, else-lies_in}

pub loop-i-init : goal.loop-i-init
loop-i-init c = record {
  size = omega (arith, ap length c.in_ok-memory.ensures, length-replicate {A = ℕ} (4 * c.words_in.result) 0, c.words_in.ensures.value);
  cells = λ k lt. (ap (λ (x : List ℕ). slice_index x k) c.in_ok-memory.ensures ∙ get_or-replicate {A = ℕ} (4 * c.words_in.result) k 0 0 (omega (arith, lt, c.words_in.ensures.value))
      ∙ sym (byte_of-none c.args.bytes.now (region_start c.args.region + k)));
}

pub load_segment-requires-clause-room : goal.load_segment-requires-clause-room
load_segment-requires-clause-room c =
    let lt : c.loop-i.i < count_of c.args.bytes.now = omega (arith, c.loop-i-test.true, c.count-i-end.ensures.value) in
    let room = room_for c.args.region c.args.bytes.now c.loop-i.i c.segment-segment.result c.requires.segments lt c.segment-segment.ensures (sym c.lies_in.ensures ∙ c.if-lies_in.true) in
    omega (arith, room, ap length c.as_mut_slice.ensures.value, c.loop-i.invariant.size)

pub load_segment-requires-clause-there : goal.load_segment-requires-clause-there
load_segment-requires-clause-there c =
    let lt : c.loop-i.i < count_of c.args.bytes.now = omega (arith, c.loop-i-test.true, c.count-i-end.ensures.value) in
    bytes_for c.args.region c.args.bytes.now c.loop-i.i c.segment-segment.result c.requires.segments lt c.segment-segment.ensures (sym c.lies_in.ensures ∙ c.if-lies_in.true)

pub loop-i-preserved : goal.loop-i-preserved
loop-i-preserved c =
    let bytes = c.args.bytes.now in
    let lt : c.loop-i.i < count_of bytes = omega (arith, c.loop-i-test.true, c.count-i-end.ensures.value) in
    elim c.if-lies_in.branch [
      | then-lies_in w ↦
          let new : List ℕ = w.load_segment.new.memory in
          let long : length new ≡ length w.as_mut_slice.result.now = w.load_segment.auto.memory in
          let items : c.if-lies_in.memory.items ≡ new = ap (λ v. v.items) w.memory-is ∙ with_items_is c.loop-i.memory new (long ∙ w.as_mut_slice.ensures.len) in
          record {
            size = ap length items ∙ long ∙ ap length w.as_mut_slice.ensures.value ∙ c.loop-i.invariant.size;
            cells = λ k room. (ap (λ (x : List ℕ). slice_index x k) items
                ∙ step_loaded c.args.region bytes c.loop-i.memory.items w.as_mut_slice.result.now new c.segment-segment.result c.loop-i.i k c.segment-segment.ensures w.as_mut_slice.ensures.value w.load_segment.ensures
                (omega (arith, room, c.loop-i.invariant.size)) (c.loop-i.invariant.cells k room));
          }
      | else-lies_in w ↦
          let items : c.if-lies_in.memory.items ≡ c.loop-i.memory.items = ap (λ v. v.items) w.memory-is in
          let other : lies_in c.args.region (segment_of bytes c.loop-i.i) ≡ false = ap (lies_in c.args.region) (sym c.segment-segment.ensures) ∙ sym c.lies_in.ensures ∙ w.if-lies_in.false in
          record {
            size = ap length items ∙ c.loop-i.invariant.size;
            cells = λ k room. (ap (λ (x : List ℕ). slice_index x k) items ∙ c.loop-i.invariant.cells k room
                ∙ step_skipped c.args.region bytes (reach is_loaded bytes c.loop-i.i) c.loop-i.i k (c.requires.segments.right c.loop-i.i lt) other room);
          }
    ]

pub returns : goal.returns
returns c =
    all_loaded c.args.region c.args.bytes.now c.loop-i.memory.items c.loop-i.i (omega (arith, c.loop-i-test.false, c.loop-i.auto.i-end, c.count-i-end.ensures.value)) c.loop-i.invariant.size c.loop-i.invariant.cells
