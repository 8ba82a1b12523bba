-- The listing of an image: its switches, its functions, each with its variants and their guard rows, its sites, and its pointer switches with their sites and targets.
use Rattle.std.specs.Prelude.{ℕ, suc, zero, ◌+◌, ◌==◌, List, [], ◌∷◌, ◌++◌, codes, length, take, drop, slice_index, slice_index_or, if◌then◌else◌}
use Rattle.std.specs.Fmt.{decimal}
use Rattle.mv_num.specs.declared.kind.Kind.{Kind}
use Rattle.mv_num.specs.declared.kind.Kind.TheVariants as kinds
use Rattle.mv_num.specs.Kinds.{kind_number}
use Rattle.mv_descriptors.specs.declared.rows.SwitchRow.{SwitchRow}
use Rattle.mv_descriptors.specs.declared.rows.FunctionRow.{FunctionRow}
use Rattle.mv_descriptors.specs.declared.rows.VariantRow.{VariantRow}
use Rattle.mv_descriptors.specs.declared.rows.GuardRow.{GuardRow}
use Rattle.mv_descriptors.specs.declared.rows.SiteRow.{SiteRow}
use Rattle.mv_descriptors.specs.declared.rows.PointerRow.{PointerRow}
use Rattle.mv_descriptors.specs.declared.rows.PointRow.{PointRow}
use Rattle.mv_descriptors.specs.declared.rows.TargetRow.{TargetRow}
use Rattle.mv_image.specs.Spelling.{Fields}
use Rattle.mv_image.specs.Patched.{kind_of}
use Rattle.mv_list.specs.Numbers.{address_text, value_text}

-- ---- names

-- the names of the switches come first
abbrev pub switch_name : Fields → ℕ → List ℕ
switch_name image switch = slice_index_or image.names switch []

-- those of the functions behind them
abbrev pub function_name : Fields → ℕ → List ℕ
function_name image function = slice_index_or (drop (length image.switches) image.names) function []

-- then those of the pointer switches
abbrev pub pointer_name : Fields → ℕ → List ℕ
pointer_name image pointer = slice_index_or (drop (length image.functions) (drop (length image.switches) image.names)) pointer []

-- and those of the targets
abbrev pub target_name : Fields → ℕ → List ℕ
target_name image target = slice_index_or (drop (length image.pointers) (drop (length image.functions) (drop (length image.switches) image.names))) target []

unfoldable pub kind_name : Kind → List ℕ
kind_name kinds.Bool = codes "_Bool"
kind_name kinds.SChar = codes "signed char"
kind_name kinds.UChar = codes "unsigned char"
kind_name kinds.Short = codes "short"
kind_name kinds.UShort = codes "unsigned short"
kind_name kinds.Int = codes "int"
kind_name kinds.UInt = codes "unsigned int"

-- ---- switches

-- values of a kind, each behind a space
unfoldable pub values_text : ℕ → List ℕ → List ℕ
values_text kind [] = []
values_text kind (word ∷ words) = codes " " ++ (value_text kind word ++ values_text kind words)

unfoldable pub switch_line : Fields → ℕ → SwitchRow → List ℕ
switch_line image switch row =
    codes "switch " ++ (switch_name image switch ++ (codes " " ++ (kind_name row.kind ++ (codes " values" ++ (values_text (kind_number row.kind) (take row.count row.values) ++ codes "\n")))))

-- the lines of some switches, of which the first has this number
unfoldable pub switches_text : Fields → ℕ → List SwitchRow → List ℕ
switches_text image n [] = []
switches_text image n (row ∷ rows) = switch_line image n row ++ switches_text image (n + 1) rows

-- ---- guard rows

-- a comma parts the ranges
abbrev pub separator : ℕ → List ℕ
separator zero = []
separator (suc i) = codes ", "

unfoldable pub range_text : ℕ → (low high : ℕ) → List ℕ
range_text kind low high = codes " in " ++ (value_text kind low ++ (codes ".." ++ value_text kind high))

-- the ranges of some switches, from the i-th of the row on
unfoldable pub ranges_text : Fields → GuardRow → ℕ → List ℕ → List ℕ
ranges_text image row i [] = []
ranges_text image row i (switch ∷ switches) =
    separator i ++ (switch_name image switch ++ (range_text (kind_of image switch) (slice_index row.low i) (slice_index row.high i) ++ ranges_text image row (i + 1) switches))

-- a row over no switches always holds
abbrev pub condition_text : Fields → List ℕ → GuardRow → List ℕ
condition_text image [] row = codes "always"
condition_text image (switch ∷ switches) row = codes "when " ++ ranges_text image row 0 (switch ∷ switches)

unfoldable pub guard_line : Fields → List ℕ → GuardRow → List ℕ
guard_line image switches row = codes "    " ++ (condition_text image switches row ++ codes "\n")

unfoldable pub guards_text : Fields → List ℕ → List GuardRow → List ℕ
guards_text image switches [] = []
guards_text image switches (row ∷ rows) = guard_line image switches row ++ guards_text image switches rows

-- ---- variants

unfoldable pub variant_line : ℕ → VariantRow → List ℕ
variant_line n row =
    codes "  variant " ++ (decimal n ++ (codes " at " ++ (address_text row.address ++ (if row.inlined == 1 then codes " inline\n" else codes " call\n"))))

-- the variants of a function from the n-th on, each with the first of the guard rows
unfoldable pub variants_text : Fields → List ℕ → ℕ → List VariantRow → List GuardRow → List ℕ
variants_text image switches n [] guards = []
variants_text image switches n (row ∷ rows) guards =
    variant_line n row ++ (guards_text image switches (take row.guards guards) ++ variants_text image switches (n + 1) rows (drop row.guards guards))

-- the guard rows behind those of some variants
unfoldable pub guards_behind : List VariantRow → List GuardRow → List GuardRow
guards_behind [] guards = guards
guards_behind (row ∷ rows) guards = guards_behind rows (drop row.guards guards)

-- ---- functions

-- names of switches, each behind a space
unfoldable pub names_text : Fields → List ℕ → List ℕ
names_text image [] = []
names_text image (switch ∷ switches) = codes " " ++ (switch_name image switch ++ names_text image switches)

abbrev pub own_switches : FunctionRow → List ℕ
own_switches row = take row.count row.switches

unfoldable pub function_line : Fields → ℕ → FunctionRow → List ℕ
function_line image n row =
    codes "function " ++ (function_name image n ++ (codes " entry " ++ (address_text row.entry ++ (codes " switches" ++ (names_text image (own_switches row) ++ codes "\n")))))

-- the functions from the n-th on, each with the first of the variants, and these with the first of the guard rows
unfoldable pub functions_text : Fields → ℕ → List FunctionRow → List VariantRow → List GuardRow → List ℕ
functions_text image n [] variants guards = []
functions_text image n (row ∷ rows) variants guards =
    function_line image n row ++
    (variants_text image (own_switches row) 0 (take row.variants variants) guards ++
    functions_text image (n + 1) rows (drop row.variants variants) (guards_behind (take row.variants variants) guards))

-- ---- sites

unfoldable pub site_line : Fields → SiteRow → List ℕ
site_line image row = codes "site " ++ (address_text row.address ++ (codes " " ++ (function_name image row.function ++ codes "\n")))

unfoldable pub sites_text : Fields → List SiteRow → List ℕ
sites_text image [] = []
sites_text image (row ∷ rows) = site_line image row ++ sites_text image rows

-- ---- pointer switches, each by its number

unfoldable pub pointer_line : Fields → ℕ → PointerRow → List ℕ
pointer_line image pointer row = codes "pointer " ++ (pointer_name image pointer ++ (codes " " ++ (address_text row.address ++ codes "\n")))

unfoldable pub pointers_text : Fields → ℕ → List PointerRow → List ℕ
pointers_text image n [] = []
pointers_text image n (row ∷ rows) = pointer_line image n row ++ pointers_text image (n + 1) rows

-- ---- pointer sites

unfoldable pub point_line : Fields → PointRow → List ℕ
point_line image row = codes "through " ++ (address_text row.address ++ (codes " " ++ (pointer_name image row.pointer ++ codes "\n")))

unfoldable pub points_text : Fields → List PointRow → List ℕ
points_text image [] = []
points_text image (row ∷ rows) = point_line image row ++ points_text image rows

-- ---- targets, each by its number

unfoldable pub target_line : Fields → ℕ → TargetRow → List ℕ
target_line image target row = codes "target " ++ (address_text row.entry ++ (codes " " ++ (target_name image target ++ codes "\n")))

unfoldable pub targets_text : Fields → ℕ → List TargetRow → List ℕ
targets_text image n [] = []
targets_text image n (row ∷ rows) = target_line image n row ++ targets_text image (n + 1) rows

-- ---- all together

unfoldable pub listing_text : Fields → List ℕ
listing_text image =
    switches_text image 0 image.switches
    ++ (functions_text image 0 image.functions image.variants image.guards
    ++ (sites_text image image.sites ++ (pointers_text image 0 image.pointers ++ (points_text image image.points ++ targets_text image 0 image.targets))))
