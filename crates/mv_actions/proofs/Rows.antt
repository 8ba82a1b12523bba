-- The switches of an image, one row after the other.
use Rattle.std.proofs.Common.{ℕ, ◌≡◌, ◌<◌, ◌≤◌, ◌+◌, List, [], ◌∷◌, ◌++◌, length, get_or, take, map, min, sym, ap, ap₂, ◌∙◌, arith}
use Rattle.std.specs.List.{zip}
use Rattle.std.proofs.lemmas.List.{map_more, take_all, length-map}
use Rattle.std.proofs.lemmas.Slice.Zip.{length-zip, get_or-zip}
use Rattle.mv_descriptors.specs.declared.rows.SwitchRow.{SwitchRow}
use Rattle.mv_actions.specs.declared.controls.Control.{Control}
use Rattle.mv_image.specs.Spelling.{Fields}
use Rattle.mv_actions.specs.Controls.{control_of_row, controls_in}

-- so many of them
abbrev pub first_rows : List (List ℕ) → List SwitchRow → ℕ → List Control
first_rows names rows n = map control_of_row (take n (zip names rows))

pub one_more : (names : List (List ℕ)) (rows : List SwitchRow) (n : ℕ) (name : List ℕ) (row : SwitchRow) → n < length names → n < length rows → name ≡ get_or names n name → row ≡ get_or rows n row →
    first_rows names rows (n + 1) ≡ first_rows names rows n ++ control_of_row (name, row) ∷ []
one_more names rows n name row in_names in_rows name_is row_is =
    let within : n < length (zip names rows) = omega (arith, length-zip names rows, in_names, in_rows) in
    map_more control_of_row (zip names rows) n (name, row) within ∙
    ap (λ z. first_rows names rows n ++ control_of_row z ∷ []) (get_or-zip names rows n (name, row) in_names in_rows ∙ ap₂ (λ (a : List ℕ) (b : SwitchRow). (a, b)) (sym name_is) (sym row_is))

pub all_rows : (names : List (List ℕ)) (rows : List SwitchRow) (n : ℕ) → n ≡ min (length names) (length rows) → first_rows names rows n ≡ map control_of_row (zip names rows)
all_rows names rows n over = ap (map control_of_row) (take_all n (zip names rows) (omega (arith, length-zip names rows, over)))

-- there are no more of them than rows
pub few_rows : (image : Fields) → length (controls_in image) ≤ length image.switches
few_rows image =
    let long : length (controls_in image) ≡ length (zip image.names image.switches) = length-map (zip image.names image.switches) control_of_row in
    omega (arith, long, length-zip image.names image.switches)
