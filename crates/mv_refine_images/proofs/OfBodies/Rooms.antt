-- The rooms of lowered bodies are where a layout has the program's globals.
use Rattle.std.proofs.Common.{◌≡◌, ℕ, suc, ◌+◌, ◌*◌, ◌<◌, ◌≤◌, Bool, true, false, cond, List, [], ◌∷◌, Some, map, take, sum, slice_get, All, refl, sym, ap, ◌∙◌, subst, arith}
use Rattle.std.proofs.lemmas.List.Elements.{All-nil, All-cons, All-head, All-tail}
use Rattle.std.proofs.lemmas.List.Sums.{sum_by-cons}
use Rattle.mv_ast.specs.declared.program.Program.{Program}
use Rattle.mv_ast.specs.declared.program.Global.{Global}
use Rattle.mv_ast.specs.Counts.{words_of_size}
use Rattle.mv_ir.specs.declared.body.Room.{Room}
use Rattle.mv_source_forms.specs.Names.{words_of_global}
use Rattle.mv_lower_spec.specs.Functions.{address_behind, rooms_from}
use Rattle.mv_select.specs.Calls.Convention.{Layout}
use Rattle.mv_select.specs.Bodies.SelectedBodies.{AreRooms, IsRoom, RoomsStand}
use Rattle.mv_link_data.specs.FirstData.{data_words}
use Rattle.mv_link_data.proofs.Places.{size_of}
use Rattle.mv_refine_images.specs.Bodies.ProgramBodies.{IsLayoutOf}

abbrev HaveWords : List Global → Type 0
HaveWords xs = All (λ (x : Global). 1 ≤ words_of_size x.size) xs

module _ (y : Layout) where
  -- a global stands behind so many words, and has so many itself
  record StandsAt (global before size : ℕ) : Type 0 where
    place : y.place global ≡ 0x0010_0000 + 4 * before
    words : y.size global ≡ size

  -- globals that are counted from one on stand one behind the other, the first behind so many words
  abbrev Stand : (from before : ℕ) → List Global → Type 0
  Stand from before xs = (i : ℕ) (x : Global) → slice_get xs i ≡ Some x → StandsAt (from + i) (before + sum (take i (map size_of xs))) (size_of x)

  next : (from before : ℕ) (x : Global) (xs : List Global) → Stand from before (x ∷ xs) → Stand (suc from) (before + size_of x) xs
  next from before x xs stand i z e =
      let more = sum_by-cons (λ (n : ℕ). n) (size_of x) (take i (map size_of xs)) in
      let number : from + suc i ≡ suc from + i = omega arith in
      let words : before + sum (take (suc i) (map size_of (x ∷ xs))) ≡ before + size_of x + sum (take i (map size_of xs)) = omega (arith, more) in
      subst (λ n. StandsAt n (before + size_of x + sum (take i (map size_of xs))) (size_of z)) number
      (subst (λ n. StandsAt (from + suc i) n (size_of z)) words (stand (suc i) z e))

  each_room : (is_named : ℕ → Bool) (from before : ℕ) (xs : List Global) → before + sum (map size_of xs) ≤ 262144 → HaveWords xs → Stand from before xs → All (IsRoom y) (rooms_from is_named from before xs)
  each_room is_named from before [] few some stand = All-nil (IsRoom y)
  each_room is_named from before (x ∷ xs) few some stand =
      by
      (each_room is_named (suc from) (before + size_of x) xs (omega (arith, few, total)) (All-tail (λ (z : Global). 1 ≤ words_of_size z.size) x xs some) (next from before x xs stand))
      (is_named from)
    where
      rest : List Room
      rest = rooms_from is_named (suc from) (before + size_of x) xs

      first : Room
      first = record { global = from; at = address_behind before; size = size_of x }

      total : sum (map size_of (x ∷ xs)) ≡ size_of x + sum (map size_of xs)
      total = sum_by-cons (λ (n : ℕ). n) (size_of x) (map size_of xs)

      here : StandsAt from before (size_of x)
      here =
          let number : from + 0 ≡ from = omega arith in
          let none : before + 0 ≡ before = omega arith in
          subst (λ n. StandsAt n before (size_of x)) number (subst (λ n. StandsAt (from + 0) n (size_of x)) none (stand 0 x refl))

      address : (n : ℕ) → n ≤ 262144 → address_behind n ≡ 0x0010_0000 + 4 * n
      address n le = omega (arith, le)

      is_room : IsRoom y first
      is_room =
          let one = All-head (λ (z : Global). 1 ≤ words_of_size z.size) x xs some in
          let sized : 0 < size_of x = omega (arith, one) in
          (address before (omega (arith, few, total)) ∙ sym here.place, sym here.words, sized)

      by : All (IsRoom y) rest → (b : Bool) → All (IsRoom y) (cond b (first ∷ rest) rest)
      by later true = All-cons (IsRoom y) first rest is_room later
      by later false = later

module _ (stand : RoomsStand) (p : Program) (y : Layout) (layout : IsLayoutOf p y) (some : HaveWords p.globals) (few : data_words p ≤ 262144) (is_named : ℕ → Bool) where
  stands : Stand y 0 0 p.globals
  stands i x e =
      let number : i ≡ 0 + i = omega arith in
      let before : sum (take i (map size_of p.globals)) ≡ 0 + sum (take i (map size_of p.globals)) = omega arith in
      subst (λ n. StandsAt y n (0 + sum (take i (map size_of p.globals))) (size_of x)) number
      (subst (λ n. StandsAt y i n (size_of x)) before (record { place = layout.places i; words = layout.sizes i ∙ ap words_of_global e }))

  pub rooms_are : AreRooms y (rooms_from is_named 0 0 p.globals)
  rooms_are = stand y (rooms_from is_named 0 0 p.globals) (each_room y is_named 0 0 p.globals (omega (arith, few)) some stands)
