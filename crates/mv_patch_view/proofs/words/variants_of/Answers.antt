use Rattle.std.proofs.Common.{◌+◌, arith}
use Rattle.mv_patch_view.proofs.Starts.{variants_ascend}
use Rattle.mv_patch_view.proofs.words.variants_of.Goals as goal

pub slice_bounds-result-count : goal.slice_bounds-result-count
slice_bounds-result-count c =
    let f = c.args.function in
    let starts = c.requires.starts in
    omega (arith, starts.each f (omega arith), starts.each (f + 1) (omega arith), variants_ascend c.args.image.now f c.requires.function)

pub slice_bounds-result-start : goal.slice_bounds-result-start
slice_bounds-result-start c =
    let f = c.args.function in
    let starts = c.requires.starts in
    omega (arith, starts.each f (omega arith), starts.each (f + 1) (omega arith), variants_ascend c.args.image.now f c.requires.function)
