-- Moves of what is seen, one after the other.
use Rattle.std.proofs.Common.{ℕ, ◌≡◌, ◌<◌, ◌≤◌, ◌+◌, add-one, Bool, ◌⊎◌, inl, inr, List, [], ◌∷◌, ◌++◌, length, slice_index, Option, Some, None, option_map, Ok, refl, sym, ap, ap₂, ◌∙◌, subst, arith, append_assoc, append-nil, mod-eq_of_lt}
use Rattle.std.proofs.lemmas.List.{get_or_append_left, get_or_at, length-append}
use Rattle.std.proofs.lemmas.Bool.{cases_lt}
use Rattle.mv_bindings.specs.declared.binding.Event.{Event}
use Rattle.mv_fetch.specs.Held.{choices}
use Rattle.mv_rv32.specs.Stepping.{picked_step}
use Rattle.mv_io.specs.Outside.{MayCome, OnInput, Takes}
use Rattle.mv_io.specs.declared.outside.Failed.{Failed}
use Rattle.mv_probe.specs.Ways.{Way, Follows, pick_of, way_after}
use Rattle.mv_machine.specs.Runs.{Stop, Going, State, next_read, later_reads, bytes_to_come, choices_at, fetched_step, turn, runs_from, executed}
use Rattle.mv_io.proofs.Common.{lost_both, lost_same, may_come}
use Rattle.mv_machine.specs.Snapshots.{Under, Departs}
use Rattle.mv_machine.specs.Moves.{Seen, shown, Meets, Moves}
use Rattle.mv_machine.proofs.Turns.{runs_more, adds_by, executed_more, runs_append, executed_append}
use Rattle.mv_machine.proofs.Departing.{Notes, departs_append, departs_more}

-- ---- the sink

pub nothing_written : (written : Option (List ℕ)) → written ≡ option_map (λ before. before ++ []) written
nothing_written None = refl
nothing_written (Some before) = ap Some (sym (append-nil before))

pub written_then : (a b c : Option (List ℕ)) (xs ys : List ℕ) → b ≡ option_map (λ before. before ++ xs) a → c ≡ option_map (λ before. before ++ ys) b → c ≡ option_map (λ before. before ++ (xs ++ ys)) a
written_then None b c xs ys e d = d ∙ ap (λ o. option_map (λ before. before ++ ys) o) e
written_then (Some a) b c xs ys e d = d ∙ ap (λ o. option_map (λ before. before ++ ys) o) e ∙ ap Some (append_assoc a xs ys)

-- ---- the source

-- a read that was answered is the next one of what was taken and what comes behind, which is left
abbrev IsRead : (left left' : Option (List ℕ)) (byte : Option ℕ) → Type 0
IsRead left left' byte =
    OnInput left left' (λ taken later. (next_read (bytes_to_come (taken ++ later)) ≡ byte) × (later_reads (bytes_to_come (taken ++ later)) ≡ bytes_to_come later))

read : (left left' : Option (List ℕ)) (byte : Option ℕ) → Takes {E = Failed} left left' (Ok byte) → IsRead left left' byte
read left left' (Some b) t = (b ∷ [], t, λ later may. (refl, refl))
read left left' None t = (
  [],
  t.0,
  λ later may.
      let none : later ≡ [] = subst (λ (o : Option (List ℕ)). MayCome o later) t.1 may in
      (ap (λ (z : List ℕ). next_read (bytes_to_come z)) none, ap (λ (z : List ℕ). later_reads (bytes_to_come z)) none ∙ sym (ap bytes_to_come none)),
)

-- ---- one move

pub moves_telling : (f : State → State) (x y : Seen) (stop : Stop) (Told : List Event → Type 0) (news : List Event) → y.left ≡ x.left
    → y.written ≡ x.written → Told news → ((input : List (Option ℕ)) (output : List ℕ) (log : List Event)
    → f (shown x Going input output log) ≡ shown y stop input output (log ++ news)) → Moves f x y stop Told
moves_telling f x y stop Told news l w told e = (
  [],
  news,
  w ∙ nothing_written x.written,
  told,
  (
    [],
    lost_same x.left y.left l,
    λ later may out log.
        (tt, e (bytes_to_come later) out log ∙ ap (λ o. shown y stop (bytes_to_come later) o (log ++ news)) (sym (append-nil out))),
  ),
)

pub moves_quietly : (f : State → State) (x y : Seen) (stop : Stop) (Told : List Event → Type 0) → y.left ≡ x.left → y.written ≡ x.written → Told []
    → ((input : List (Option ℕ)) (output : List ℕ) (log : List Event) → f (shown x Going input output log) ≡ shown y stop input output log)
    → Moves f x y stop Told
moves_quietly f x y stop Told l w quiet e =
    moves_telling f x y stop Told [] l w quiet (λ input output log. e input output log ∙ ap (λ all. shown y stop input output all) (sym (append-nil log)))

pub moves_reading : (f : State → State) (x y : Seen) (byte : Option ℕ) (Told : List Event → Type 0) → Takes {E = Failed} x.left y.left (Ok byte)
    → y.written ≡ x.written → Told [] → ((input : List (Option ℕ)) (output : List ℕ) (log : List Event) → next_read input ≡ byte
    → f (shown x Going input output log) ≡ shown y Going (later_reads input) output log) → Moves f x y Going Told
moves_reading f x y byte Told takes w quiet e =
    let r : IsRead x.left y.left byte = read x.left y.left byte takes in (
      [],
      [],
      w ∙ nothing_written x.written,
      quiet,
      (
        r.0,
        r.1,
        λ later may out log.
            let here = r.2 later may in (
              tt,
              e (bytes_to_come (r.0 ++ later)) out log here.0 ∙ ap₂ (λ i o. shown y Going i o log) here.1 (sym (append-nil out))
                  ∙ ap (λ all. shown y Going (bytes_to_come later) (out ++ []) all) (sym (append-nil log)),
            ),
      ),
    )

pub moves_writing : (f : State → State) (x y : Seen) (byte : ℕ) (Told : List Event → Type 0) → y.left ≡ x.left
    → y.written ≡ option_map (λ before. before ++ byte ∷ []) x.written → Told []
    → ((input : List (Option ℕ)) (output : List ℕ) (log : List Event)
    → f (shown x Going input output log) ≡ shown y Going input (output ++ byte ∷ []) log) → Moves f x y Going Told
moves_writing f x y byte Told l w quiet e = (
  byte ∷ [],
  [],
  w,
  quiet,
  (
    [],
    lost_same x.left y.left l,
    λ later may out log.
        (tt, e (bytes_to_come later) out log ∙ ap (λ all. shown y Going (bytes_to_come later) (out ++ byte ∷ []) all) (sym (append-nil log))),
  ),
)

-- the same of a function that does the same
pub moves_as : (f g : State → State) (x y : Seen) (stop : Stop) (Told : List Event → Type 0)
    → ((input : List (Option ℕ)) (output : List ℕ) (log : List Event) → g (shown x Going input output log) ≡ f (shown x Going input output log))
    → Moves f x y stop Told → Moves g x y stop Told
moves_as f g x y stop Told e m =
    (m.0, m.1, m.2, m.3, (m.4.0, m.4.1, λ later may out log. (tt, e (bytes_to_come (m.4.0 ++ later)) out log ∙ (m.4.2 later may out log).1)))

-- the fetch of a pick that is one of the choices
pub fetched : (x : Seen) (stop : Stop) (input : List (Option ℕ)) (output : List ℕ) (log : List Event) (pick : ℕ)
    → pick < length (choices x.room.held x.pc) → fetched_step (shown x stop input output log) pick ≡ picked_step x.room pick x.regs x.pc
unfolding fetched_step choices_at
fetched x stop input output log pick lt = ap (λ p. picked_step x.room p x.regs x.pc) (mod-eq_of_lt lt)

pub count_is : (x : Seen) (stop : Stop) (input : List (Option ℕ)) (output : List ℕ) (log : List Event) → choices_at (shown x stop input output log) ≡ length (choices x.room.held x.pc)
unfolding choices_at
count_is x stop input output log = refl

-- ---- one more move

pub way_more : (way v way' : Option Way) (count pick n : ℕ) → v ≡ option_map (λ w. way_after w n) way → Follows v way' count pick → way' ≡ option_map (λ w. way_after w (n + 1)) way
unfolding way_after
way_more None v way' count pick n is follows = subst (λ o. Follows o way' count pick) is follows
way_more (Some w) v way' count pick n is follows =
    let f : Follows (Some (way_after w n)) way' count pick = subst (λ o. Follows o way' count pick) is follows in
    f.1 ∙ ap (λ k. Some (way_after w k)) (sym (add-one n))

under_next : (w : Way) (s : State) (picks : List ℕ) (pick j : ℕ) → length picks ≡ j
    → pick ≡ pick_of (way_after w j) (choices_at (runs_from s picks j))
    → slice_index (picks ++ pick ∷ []) j ≡ pick_of (way_after w j) (choices_at (runs_from s (picks ++ pick ∷ []) j))
under_next w s picks pick j len e =
    get_or_at picks pick [] 0 j len ∙ e ∙ ap (λ t. pick_of (way_after w j) (choices_at t)) (sym (runs_append s picks (pick ∷ []) j (omega (arith, len))))

pub under_more : (way v way' : Option Way) (s : State) (picks : List ℕ) (pick count n : ℕ) → length picks ≡ n
    → v ≡ option_map (λ w. way_after w n) way → Follows v way' count pick → choices_at (runs_from s picks n) ≡ count → Under way s picks
    → Under way s (picks ++ pick ∷ [])
under_more None v way' s picks pick count n len is follows c under = tt
under_more (Some w) v way' s picks pick count n len is follows c under = λ j lt.
    let f : Follows (Some (way_after w n)) way' count pick = subst (λ o. Follows o way' count pick) is follows in
    under_at (cases_lt j (length picks)) f lt
  where
    under_at : {j : ℕ} → ((j < length picks) ⊎ (length picks ≤ j)) → Follows (Some (way_after w n)) way' count pick → j < length (picks ++ pick ∷ [])
        → slice_index (picks ++ pick ∷ []) j ≡ pick_of (way_after w j) (choices_at (runs_from s (picks ++ pick ∷ []) j))
    under_at {j} (inl lt) f all = get_or_append_left picks (pick ∷ []) 0 j lt ∙ under j lt ∙ ap (λ t. pick_of (way_after w j) (choices_at t)) (sym (runs_append s picks (pick ∷ []) j (omega (arith, lt))))
    under_at {j} (inr ge) f all =
        let e : n ≡ j = omega (arith, ge, all, length-append picks (pick ∷ []), len) in
        subst (λ k. slice_index (picks ++ pick ∷ []) k ≡ pick_of (way_after w k) (choices_at (runs_from s (picks ++ pick ∷ []) k))) e (under_next w s picks pick n len (f.0 ∙ ap (λ k. pick_of (way_after w n) k) (sym c)))

-- what is seen after so many instructions, how many were executed, and the place
abbrev pub SoFar : (wanted : Bool) → (place : Option ℕ) → Option Way → (picks : List ℕ) (n : ℕ) → State → Type 0
SoFar wanted place way picks n s = Under way s picks × (executed s picks n ≡ n) × Departs wanted place s picks n

-- what was told so far and what was told then
abbrev pub Joins : (Before Behind Told : List Event → Type 0) → Type 0
Joins Before Behind Told = (xs ys : List Event) → Before xs → Behind ys → Told (xs ++ ys)

pub meets_more : (wanted : Bool) (place place' : Option ℕ) (x y z : Seen) (stop : Stop) → Notes wanted place place' y z stop
    → (way v way' : Option Way) (Before Behind Told : List Event → Type 0) → Joins Before Behind Told → (picks : List ℕ) (pick n : ℕ)
    → length picks ≡ n → v ≡ option_map (λ w. way_after w n) way → Follows v way' (length (choices y.room.held y.pc)) pick
    → Meets (SoFar wanted place way picks n) (λ s. runs_from s picks n) x y Going Before → Moves (λ s. turn s pick) y z stop Behind
    → Meets (SoFar wanted place' way (picks ++ pick ∷ []) (n + 1)) (λ s. runs_from s (picks ++ pick ∷ []) (n + 1)) x z stop Told
meets_more wanted place place' x y z stop noted way v way' Before Behind Told joins picks pick n len is follows m t =
    let all : List ℕ = picks ++ pick ∷ [] in
    let le : n ≤ length picks = omega (arith, len) in (
      m.0 ++ t.0,
      m.1 ++ t.1,
      written_then x.written y.written z.written m.0 t.0 m.2 t.2,
      joins m.1 t.1 m.3 t.3,
      (
        m.4.0 ++ t.4.0,
        lost_both x.left y.left z.left m.4.0 t.4.0 m.4.1 t.4.1,
        λ later may o log.
            let mid = bytes_to_come (t.4.0 ++ later) in
            let s = shown x Going (bytes_to_come (m.4.0 ++ (t.4.0 ++ later))) o log in
            let here = m.4.2 (t.4.0 ++ later) (may_come y.left z.left t.4.0 later t.4.1 may) o log in
            let at : runs_from s all n ≡ shown y Going mid (o ++ m.0) (log ++ m.1) = runs_append s picks (pick ∷ []) n le ∙ here.1 in
            let count : choices_at (runs_from s picks n) ≡ length (choices y.room.held y.pc) = ap choices_at here.1 ∙ count_is y Going mid (o ++ m.0) (log ++ m.1) in
            let one : adds_by (runs_from s all n).stop ≡ 1 = ap (λ (e : State). adds_by e.stop) at in
            let end : runs_from s all (n + 1) ≡ shown z stop (bytes_to_come later) (o ++ (m.0 ++ t.0)) (log ++ (m.1 ++ t.1)) =
            runs_more s all n ∙ ap₂ turn at (get_or_at picks pick [] 0 n len) ∙ (t.4.2 later may (o ++ m.0) (log ++ m.1)).1
            ∙ ap₂ (λ (out : List ℕ) (events : List Event). shown z stop (bytes_to_come later) out events) (append_assoc o m.0 t.0) (append_assoc log m.1 t.1) in
            subst (λ (bytes : List ℕ). SoFar wanted place' way all (n + 1) (shown x Going (bytes_to_come bytes) o log)
            × (runs_from (shown x Going (bytes_to_come bytes) o log) all (n + 1) ≡ shown z stop (bytes_to_come later) (o ++ (m.0 ++ t.0)) (log ++ (m.1 ++ t.1))))
            (sym (append_assoc m.4.0 t.4.0 later)) (
              (
                under_more way v way' s picks pick (length (choices y.room.held y.pc)) n len is follows count here.0.0,
                omega (arith, executed_more s all n, executed_append s picks (pick ∷ []) n le, here.0.1, one),
                departs_more wanted place place' s all n (shown y Going mid (o ++ m.0) (log ++ m.1))
                    (shown z stop (bytes_to_come later) (o ++ (m.0 ++ t.0)) (log ++ (m.1 ++ t.1))) at end noted
                    (departs_append wanted place s picks (pick ∷ []) n le here.0.2),
              ),
              end,
            ),
      ),
    )
