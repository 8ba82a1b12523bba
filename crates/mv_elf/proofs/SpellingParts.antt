-- The spelling of an image in its parts: the header, text, data and what stands behind them.
use Rattle.std.proofs.Common.{◌≡◌, ◌≤◌, ◌+◌, ◌*◌, ◌∙◌, ◌++◌, ℕ, List, length, take, drop, sym, ap, arith, append_assoc}
use Rattle.std.specs.List.{flat_map}
use Rattle.std.proofs.lemmas.Bool.{eq-eqb}
use Rattle.std.proofs.lemmas.List.{take_at, drop_at, length-take-le, length-append}
use Rattle.mv_num.specs.Bytes.{bytes_of, words_of, AreWords}
use Rattle.mv_num.proofs.ByteLaws.{words_of-bytes_of, length-bytes_of, bytes_of-append}
use Rattle.mv_descriptors.specs.Widths.{switch_words, function_words, variant_words, guard_words, site_words, pointer_words, point_words, target_words}
use Rattle.mv_descriptors.specs.WidthLaws.{parted}
use Rattle.mv_image.specs.Spelling.{Fields, header_of, words_in, names_in, spelling}
use Rattle.mv_image.specs.Faults.{Spells}
use Rattle.mv_image.proofs.OneVerdict.{later_long}
use Rattle.mv_image.proofs.RulesAreTables.{rules_are_tables}
use Rattle.mv_elf.specs.Notes.{front_size, put_in, without_code}

-- the words of the tables
unfoldable pub tables_of : Fields → List ℕ
tables_of a =
    flat_map switch_words a.switches ++ (flat_map function_words a.functions ++ (flat_map variant_words a.variants ++ (flat_map guard_words a.guards
    ++ (flat_map site_words a.sites ++ (flat_map pointer_words a.pointers ++ (flat_map point_words a.points ++ flat_map target_words a.targets))))))

-- the bytes behind data
unfoldable pub rest_of : Fields → List ℕ
rest_of a = bytes_of (tables_of a) ++ names_in a

words_in_parts : (a : Fields) → words_in a ≡ header_of a ++ (a.text ++ (a.globals ++ tables_of a))
unfolding words_in tables_of
words_in_parts a = simp append_assoc

bytes_in_parts : (h t g r : List ℕ) → bytes_of (h ++ (t ++ (g ++ r))) ≡ bytes_of h ++ (bytes_of t ++ (bytes_of g ++ bytes_of r))
bytes_in_parts h t g r =
    bytes_of-append h (t ++ (g ++ r)) ∙ ap (λ (x : List ℕ). bytes_of h ++ x) (bytes_of-append t (g ++ r) ∙ ap (λ (x : List ℕ). bytes_of t ++ x) (bytes_of-append g r))

behind_all : (h t g r n : List ℕ) → (h ++ (t ++ (g ++ r))) ++ n ≡ h ++ (t ++ (g ++ (r ++ n)))
behind_all h t g r n = simp append_assoc

pub spelled_in_parts : (a : Fields) → spelling a ≡ bytes_of (header_of a) ++ (bytes_of a.text ++ (bytes_of a.globals ++ rest_of a))
unfolding spelling rest_of
spelled_in_parts a =
    ap (λ (ws : List ℕ). bytes_of ws ++ names_in a) (words_in_parts a)
    ∙ ap (λ (bs : List ℕ). bs ++ names_in a) (bytes_in_parts (header_of a) a.text a.globals (tables_of a))
    ∙ behind_all (bytes_of (header_of a)) (bytes_of a.text) (bytes_of a.globals) (bytes_of (tables_of a)) (names_in a)

header_length : (a : Fields) → a.version ≡ 2 → length (header_of a) ≡ 16
unfolding header_of
header_length a version = omega (arith, later_long a (eq-eqb _ _ version))

pub header_bytes : (a : Fields) → a.version ≡ 2 → length (bytes_of (header_of a)) ≡ 64
header_bytes a version = length-bytes_of (header_of a) ∙ omega (arith, header_length a version)

-- ---- the text and data that bytes have in their places

pub record HasCode (image : Fields) (t g : List ℕ) : Type 0 where
  pub text : image.text ≡ t
  pub globals : image.globals ≡ g

same_words : (xs ys : List ℕ) → AreWords xs → AreWords ys → bytes_of xs ≡ bytes_of ys → ys ≡ xs
same_words xs ys fx fy e = sym (words_of-bytes_of ys fy) ∙ ap words_of (sym e) ∙ words_of-bytes_of xs fx

four_parts : (h t g r : List ℕ) → ((h ++ t) ++ g) ++ r ≡ h ++ (t ++ (g ++ r))
four_parts h t g r = simp append_assoc

pub code_is : (content text globals : List ℕ) (image : Fields) → front_size ≤ length content → AreWords text → AreWords globals → Spells (put_in content text globals) image → image.version ≡ 2
    → length image.text ≡ length text → length image.globals ≡ length globals → HasCode image text globals
unfolding put_in
code_is content text globals image room text_fits globals_fit spells version as_text as_globals =
    let words = (rules_are_tables image spells.rules).0.words in
    let both : take 64 content ++ (bytes_of text ++ (bytes_of globals ++ drop 64 content)) ≡ bytes_of (header_of image) ++ (bytes_of image.text ++ (bytes_of image.globals ++ rest_of image)) =
    sym (four_parts (take 64 content) (bytes_of text) (bytes_of globals) (drop 64 content)) ∙ spells.bytes_are ∙ spelled_in_parts image in
    let front = parted 64 (take 64 content) (bytes_of (header_of image)) _ _ (length-take-le 64 content room) (header_bytes image version) both in
    let middle = parted (4 * length text) (bytes_of text) (bytes_of image.text) _ _ (length-bytes_of text) (length-bytes_of image.text ∙ ap (λ (n : ℕ). 4 * n) as_text) front.1 in
    let back = parted (4 * length globals) (bytes_of globals) (bytes_of image.globals) _ _ (length-bytes_of globals) (length-bytes_of image.globals ∙ ap (λ (n : ℕ). 4 * n) as_globals) middle.1 in
    record { text = same_words text image.text text_fits words.text middle.0; globals = same_words globals image.globals globals_fit words.globals back.0 }

-- ---- what is left when they are taken out, and put in again

in_front : (h t g : List ℕ) → length h ≡ 64 → length (h ++ (t ++ g)) ≡ 64 + (length t + length g)
in_front h t g e = omega (arith, length-append h (t ++ g), length-append t g, e)

code_length : (a : Fields) → length (bytes_of a.text) + length (bytes_of a.globals) ≡ 4 * (length a.text + length a.globals)
code_length a = omega (arith, length-bytes_of a.text, length-bytes_of a.globals)

parts_in_front : (h t g r : List ℕ) → h ++ (t ++ (g ++ r)) ≡ (h ++ (t ++ g)) ++ r
parts_in_front h t g r = simp append_assoc

pub note_in_parts : (a : Fields) → a.version ≡ 2 → without_code a ≡ bytes_of (header_of a) ++ rest_of a
unfolding without_code
note_in_parts a version =
    let h : List ℕ = bytes_of (header_of a) in
    let t : List ℕ = bytes_of a.text in
    let g : List ℕ = bytes_of a.globals in
    let r : List ℕ = rest_of a in
    let n : ℕ = 64 + 4 * (length a.text + length a.globals) in
    let size : length h ≡ 64 = header_bytes a version in
    let long : length (h ++ (t ++ g)) ≡ n = omega (arith, in_front h t g size, code_length a) in
    let front : take 64 (spelling a) ≡ h = ap (take 64) (spelled_in_parts a) ∙ take_at h (t ++ (g ++ r)) 64 size in
    let back : drop n (spelling a) ≡ r = ap (drop n) (spelled_in_parts a ∙ parts_in_front h t g r) ∙ drop_at (h ++ (t ++ g)) r n long in
    ap (λ (x : List ℕ). x ++ drop n (spelling a)) front ∙ ap (λ (x : List ℕ). h ++ x) back

pub put_back : (a : Fields) → a.version ≡ 2 → put_in (without_code a) a.text a.globals ≡ spelling a
unfolding put_in
put_back a version =
    let h : List ℕ = bytes_of (header_of a) in
    let t : List ℕ = bytes_of a.text in
    let g : List ℕ = bytes_of a.globals in
    let r : List ℕ = rest_of a in
    let note : without_code a ≡ h ++ r = note_in_parts a version in
    let front : take 64 (without_code a) ≡ h = ap (take 64) note ∙ take_at h r 64 (header_bytes a version) in
    let back : drop 64 (without_code a) ≡ r = ap (drop 64) note ∙ drop_at h r 64 (header_bytes a version) in
    ap (λ (x : List ℕ). ((x ++ t) ++ g) ++ drop 64 (without_code a)) front ∙ ap (λ (x : List ℕ). ((h ++ t) ++ g) ++ x) back ∙ four_parts h t g r ∙ sym (spelled_in_parts a)
