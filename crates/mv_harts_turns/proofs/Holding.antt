-- A hart that waits at its poll, or adopts there.
use Rattle.std.proofs.Common.{◌≡◌, ℕ, zero, suc, ◌+◌, true, List, [], ◌∷◌, ◌++◌, length, slice_get, Option, Some, None, option_map, refl, sym, ap, ◌∙◌, arith, subst}
use Rattle.std.proofs.lemmas.Option.{slice_get-map}
use Rattle.mv_num.proofs.Lists.{length_map}
use Rattle.mv_bindings.specs.declared.binding.Binding.{Binding}
use Rattle.mv_bindings.specs.Acts.{Act, Adopt}
use Rattle.mv_image.specs.Spelling.{Fields}
use Rattle.mv_probe.specs.Ways.{Way, Follows, way_after}
use Rattle.mv_harts_runs.specs.Harts.{Hart, last_of}
use Rattle.mv_harts_one.specs.declared.seat.Seat.{Seat}
use Rattle.mv_harts_one.specs.declared.seat.Mode.{Mode}
use Rattle.mv_harts_one.specs.declared.seat.Taken.{Taken}
use Rattle.mv_harts_one.specs.declared.seat.Taken.TheVariants as taken
use Rattle.mv_harts_one.specs.Seats.{Sits, adopted, mode_of}
use Rattle.mv_harts_turns.specs.declared.group.Committed.{Committed}
use Rattle.mv_harts_turns.specs.Groups.{AreTaken, IsSeat, held, adopts_last, bindings_of}
use Rattle.mv_harts_turns.proofs.Seats.{taken_append}

pub seat_held : (image : Fields) (commits : List (List Binding)) (n : ℕ) (bytes : List ℕ) (seat : Seat) (o : Hart) (md : Mode)
    → IsSeat image commits n bytes seat o → IsSeat image commits n bytes (record seat { mode = md; waited = true }) (held o (mode_of md))
seat_held image commits n bytes seat o md h = record {
  same_image = h.same_image;
  sits = let s = h.sits in record { engine = s.engine; state = s.state; mode = refl; waited = refl; failed = s.failed; count = s.count; halts = s.halts; before = s.before };
  took = h.took;
}

last_at : (xs : List (List Binding)) (k : ℕ) (x : List Binding) → k + 1 ≡ length xs → slice_get xs k ≡ Some x → last_of xs ≡ x
last_at [] k x len e = absurd (cc)
last_at (a ∷ []) zero x len e = cc
last_at (a ∷ []) (suc k) x len e = absurd (cc)
last_at (a ∷ b ∷ xs) zero x len e = absurd (omega (arith, len))
last_at (a ∷ b ∷ xs) (suc k) x len e = last_at (b ∷ xs) k x (omega (arith, len)) e

pub seat_adopts : (image : Fields) (commits : List Committed) (n : ℕ) (bytes : List ℕ) (was seat : Seat) (o : Hart) (k : ℕ) (c : Committed)
    → k + 1 ≡ length commits → slice_get commits k ≡ Some c → IsSeat image (bindings_of commits) n bytes was o →
    seat.engine.image ≡ was.engine.image → seat.taken ≡ was.taken → ((acts : List Act) → Sits n seat bytes (adopted o c.all acts)) → (ts : List Taken) → ts ≡ seat.taken ++ taken.Adopt k ∷ [] →
    IsSeat image (bindings_of commits) n bytes (record seat { taken = ts }) (adopts_last o (last_of (bindings_of commits)))
seat_adopts image commits n bytes was seat o k c len there is image' taken' sits ts more =
    let at : slice_get (bindings_of commits) k ≡ Some c.all = slice_get-map (λ (d : Committed). d.all) commits k ∙ ap (option_map (λ (d : Committed). d.all)) there in
    let last : last_of (bindings_of commits) ≡ c.all = last_at (bindings_of commits) k c.all (len ∙ sym (length_map (λ (d : Committed). d.all) commits)) at in
    let acts = o.taken ++ Adopt c.all ∷ [] in
    let now : AreTaken (bindings_of commits) ts acts =
    subst (λ l. AreTaken (bindings_of commits) l acts) (sym (more ∙ ap (λ l. l ++ taken.Adopt k ∷ []) taken'))
    (taken_append (bindings_of commits) was.taken o.taken (taken.Adopt k) (Adopt c.all) is.took (c.all, at, refl)) in
    subst (λ bs. IsSeat image (bindings_of commits) n bytes (record seat { taken = ts }) (adopts_last o bs)) (sym last) (record {
      same_image = image' ∙ is.same_image;
      sits = let s = sits acts in record { engine = s.engine; state = s.state; mode = s.mode; waited = s.waited; failed = s.failed; count = s.count; halts = s.halts; before = s.before };
      took = now;
    })

pub followed : (w v : Option Way) (choices pick : ℕ) → Follows w v choices pick → v ≡ option_map (λ y. way_after y 1) w
unfolding way_after
followed None v choices pick h = h
followed (Some w) v choices pick h = h.1
