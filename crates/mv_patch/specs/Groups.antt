-- Where the rows of a function stand.
use Rattle.std.specs.Prelude.{ℕ, ◌≡◌, ◌≤◌, slice_get, Some}
use Rattle.mv_num.specs.Limits.{own_switch_limit}
use Rattle.mv_descriptors.specs.declared.rows.FunctionRow.{FunctionRow}
use Rattle.mv_image.specs.Spelling.{Fields}
use Rattle.mv_image.specs.Patched.{variants_before, guards_before}
use Rattle.mv_patch.specs.declared.groups.Group.{Group}

-- Its variants begin behind those of the functions before it, and their guard rows behind those of the variants before them.
pub record IsGroup (image : Fields) (group : Group) : Type 0 where
  pub variant : group.variant ≡ variants_before image group.function
  pub guard : group.guard ≡ guards_before image group.variant

-- the row of a function, with no more switches than it has room for
pub record IsRow (image : Fields) (function : ℕ) (row : FunctionRow) : Type 0 where
  pub there : slice_get image.functions function ≡ Some row
  pub count : row.count ≤ own_switch_limit
