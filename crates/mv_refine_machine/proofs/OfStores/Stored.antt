-- What the text is after some of the pairs between two texts.
use Rattle.std.proofs.Common.{◌⊎◌, ◌≡◌, ◌≢◌, inl, inr, ⊎_elim, ℕ, suc, ◌-◌, ◌%◌, ◌^◌, ◌<◌, ◌≤◌, false, cond, eqb, ltb, Err, List, [], ◌∷◌, ◌++◌, length, replicate, slice_get, slice_index, get_or, Option, Some, refl, sym, ap, ap₂, ◌∙◌, subst, arith, length-set, append-nil}
use Rattle.std.specs.List.{All, Contains}
use Rattle.std.proofs.lemmas.Bool.{cases_eq}
use Rattle.std.proofs.lemmas.List.{length-replicate, length-append, get_or-replicate, get_or_at, same_lists}
use Rattle.std.proofs.lemmas.List.Elements.{All-nil, All-cons}
use Rattle.std.proofs.lemmas.Option.{slice_get_within, get_or_from_slice_get, slice_get-get_or}
use Rattle.mv_fetch.specs.Held.{choices, Room, region_of, index_of, words_of, present, part, found, load, older_at, choices_of, fence}
use Rattle.mv_fetch.specs.declared.memory.AccessError.TheVariants.{Misaligned}
use Rattle.std.specs.Result.{result_ok}
use Rattle.std.proofs.lemmas.Bool.{cond_both, le-ltb}
use Rattle.mv_rv32.specs.Stepping.{access}
use Rattle.mv_patch.specs.declared.prepared.Pair.{Pair}
use Rattle.mv_patch.specs.Pairs.{pair_of, place, text_start, pairs_between}
use Rattle.mv_patch.specs.Stores.{stored, stored_all}
use Rattle.mv_refine_machine.specs.Stores.Stores.{AreTexts}
use Rattle.mv_refine_machine.specs.Stores.Between.{IsWhole, IsSettled, IsWordBetween, IsBetween, IsStored}
use Rattle.mv_refine_machine.proofs.OfStores.Places.{choices_at, store_is}
use Rattle.mv_patch.proofs.Pairs.{Marches, pairs_march, front_marches, back_marches, at_least, difference_has_pair}
use Rattle.mv_refine_machine.proofs.OfStores.Stores.{At, untouched, touched, one_or_none, at_pair, index_is}
use Rattle.mv_refine_machine.proofs.OfStores.Whole.{settled_whole, put_whole}

-- ---- what stores leave alone

pub same_reserve : (room : Room) (pairs : List Pair) → (stored_all room pairs).reserve ≡ room.reserve
unfolding stored_all stored
same_reserve room [] = refl
same_reserve room (pair ∷ pairs) = same_reserve (stored room pair) pairs

pub same_globals : (room : Room) (pairs : List Pair) → (stored_all room pairs).held.globals ≡ room.held.globals
unfolding stored_all stored
same_globals room [] = refl
same_globals room (pair ∷ pairs) = same_globals (stored room pair) pairs

pub same_stack : (room : Room) (pairs : List Pair) → (stored_all room pairs).held.stack ≡ room.held.stack
unfolding stored_all stored
same_stack room [] = refl
same_stack room (pair ∷ pairs) = same_stack (stored room pair) pairs

pub same_plan : (room : Room) (pairs : List Pair) → (stored_all room pairs).held.plan ≡ room.held.plan
unfolding stored_all stored
same_plan room [] = refl
same_plan room (pair ∷ pairs) = same_plan (stored room pair) pairs

pub same_length : (room : Room) (pairs : List Pair) → length (stored_all room pairs).held.text ≡ length room.held.text
unfolding stored_all stored
same_length room [] = refl
same_length room (pair ∷ pairs) = same_length (stored room pair) pairs ∙ length-set room.held.text (index_of pair.address) pair.word

pub less_spare : (room : Room) (pairs : List Pair) → (stored_all room pairs).spare ≡ room.spare - length pairs
unfolding stored_all stored
less_spare room [] = omega arith
less_spare room (pair ∷ pairs) = less_spare (stored room pair) pairs ∙ omega arith

-- what is outside text is as it was
same_present : (room : Room) (pairs : List Pair) (a : ℕ) → 0x0010_0000 ≤ a → present (stored_all room pairs).held a ≡ present room.held a
unfolding present region_of
same_present room pairs a ge =
    let e : ltb a 0x1000 ≡ false = le-ltb a 0x1000 (omega (arith, ge)) in
    let f : ltb a 0x0010_0000 ≡ false = le-ltb a 0x0010_0000 ge in
    let globals = ap (λ (l : List ℕ). slice_get l (index_of a)) (same_globals room pairs) in
    let stack = ap (λ (l : List ℕ). slice_get l (index_of a)) (same_stack room pairs) in
    let plan = ap (λ (l : List ℕ). slice_get l (index_of a)) (same_plan room pairs) in
    rw (e, f)
    (cond_both (ltb a 0x0020_0000) _ _ (λ r. slice_get (words_of (stored_all room pairs).held r) (index_of a) ≡ slice_get (words_of room.held r) (index_of a)) (λ t. globals)
    (λ t. cond_both (ltb a 0x0040_0000) _ _ (λ r. slice_get (words_of (stored_all room pairs).held r) (index_of a) ≡ slice_get (words_of room.held r) (index_of a)) (λ u. stack)
    (λ u. cond_both (ltb a 0x0048_0000) _ _ (λ r. slice_get (words_of (stored_all room pairs).held r) (index_of a) ≡ slice_get (words_of room.held r) (index_of a)) (λ v. plan) (λ v. refl))))

pub same_loads : (room : Room) (pairs : List Pair) (a n : ℕ) → 0x0010_0000 ≤ a → access.load (stored_all room pairs) a n ≡ access.load room a n
unfolding access load
same_loads room pairs a n ge = ap (λ (o : Option ℕ). result_ok (cond (eqb (a % n) 0) (found a o (part a n)) (Err (Misaligned a)))) (same_present room pairs a ge)

-- one more
pub stored_more : (room : Room) (pairs : List Pair) (pair : Pair) → stored_all room (pairs ++ pair ∷ []) ≡ stored (stored_all room pairs) pair
unfolding stored_all
stored_more room [] pair = refl
stored_more room (first ∷ pairs) pair = stored_more (stored room first) pairs pair

module _ (old new : List ℕ) (texts : AreTexts old new) where
  pub stays_whole : (m : ℕ) (pairs : List Pair) (room : Room) → Marches old new m pairs → length room.held.text ≡ length old → IsWhole room → IsWhole (stored_all room pairs)
  unfolding stored_all stored
  stays_whole m [] room march size h = h
  stays_whole m (pair ∷ pairs) room march size h =
      let k : ℕ = index_of pair.address in
      let at : k ≡ march.0 = index_is old new texts pair march.0 march.2 march.3 march.4 in
      let within = slice_get_within old march.0 march.2 march.4 in
      stays_whole (suc march.0) pairs (stored room pair) march.7 (length-set room.held.text k pair.word ∙ size) (put_whole room k (slice_index room.held.text k) pair.word h (omega (arith, at, within, size)))

  -- the first pairs stand before the next one
  before_left : (m : ℕ) (done : List Pair) (pair : Pair) (later : List Pair) (k : ℕ) → Marches old new m (done ++ pair ∷ later) → pair.address ≡ place k → All (λ (p : Pair). p.address ≢ place k) done
  before_left m [] pair later k h address = All-nil (λ (p : Pair). p.address ≢ place k)
  before_left m (first ∷ done) pair later k h address =
      let lt : length done < length (done ++ pair ∷ later) = (let e = length-append done (pair ∷ later) in omega (arith, e)) in
      let least = at_least old new (suc h.0) (length done) pair (done ++ pair ∷ later) h.7 lt in
      let there : (get_or (done ++ pair ∷ later) (length done) pair).address ≡ pair.address = ap (λ (p : Pair). p.address) (get_or_at done pair later pair (length done) refl) in
      let first_at = h.3 in
      All-cons (λ (p : Pair). p.address ≢ place k) first done (λ e. omega (arith, least, there, address, first_at, e)) (before_left (suc h.0) done pair later k h.7 address)

  -- ---- from a settled text, some of the pairs

  module _ (room : Room) (settled : IsSettled old room) (done left : List Pair) (joined : done ++ left ≡ pairs_between old new) where
    march : Marches old new 0 done
    march = front_marches old new 0 done left (subst (λ (ps : List Pair). Marches old new 0 ps) (sym joined) (pairs_march old new))

    march_left : Marches old new 0 left
    march_left = back_marches old new 0 done left (subst (λ (ps : List Pair). Marches old new 0 ps) (sym joined) (pairs_march old new))

    abbrev now : Room
    now = stored_all room done

    first_size : length room.held.text ≡ length old
    first_size = ap (λ (l : List ℕ). length l) settled.text

    is_whole : IsWhole now
    is_whole = stays_whole 0 done room march first_size (settled_whole old room settled)

    now_size : length now.held.text ≡ length old
    now_size = same_length room done ∙ first_size

    at_first : (k o : ℕ) → slice_get old k ≡ Some o → At room k o []
    at_first k o h =
        let within = slice_get_within old k o h in
        record {
          word = ap (λ (l : List ℕ). slice_get l k) settled.text ∙ h;
          olds = ap (λ (l : List (List ℕ)). older_at l k) settled.older ∙ get_or-replicate (length old) k [] [] within;
          listed = (
              let e : length room.held.older ≡ length old = ap (λ (l : List (List ℕ)). length l) settled.older ∙ length-replicate {A = List ℕ} (length old) [] in
              omega (arith, e, within));
        }

    below : (k o : ℕ) → slice_get old k ≡ Some o → place k < 0x0010_0000
    below k o h =
        let within = slice_get_within old k o h in
        let lies = texts.lies in
        omega (arith, within, lies)

    listed_choices : (k w : ℕ) (older : List ℕ) → At now k w older → choices_of (slice_get now.held.text k) (older_at now.held.older k) ≡ w ∷ older
    listed_choices k w older h = ap₂ (λ (x : Option ℕ) (xs : List ℕ). choices_of x xs) h.word h.olds

    at_kept : (k o : ℕ) → slice_get old k ≡ Some o → All (λ (pair : Pair). pair.address ≢ place k) done → At now k o []
    at_kept k o h none = untouched old new texts 0 done room k o [] march none (at_first k o h)

    at_put : (k n o : ℕ) → Contains done (pair_of (place k) n) → slice_get old k ≡ Some o → At now k n (o ∷ [])
    at_put k n o h e = touched old new texts 0 done room k o n h.0 [] (pair_of (place k) n) march h.1 h.2 (at_first k o e)

    word_between : (k o n : ℕ) → slice_get old k ≡ Some o → slice_get new k ≡ Some n → IsWordBetween o n (choices_of (slice_get now.held.text k) (older_at now.held.older k))
    word_between k o n e f = ⊎_elim
        (λ (x : (v : ℕ) × Contains done (pair_of (place k) v)).
        let p = at_pair old new texts 0 done k x.0 x.1.0 (pair_of (place k) x.0) march x.1.1 x.1.2 in
        let v : x.0 ≡ n = (let q = p.2 in cc) in
        let w : p.0 ≡ o = (let q = p.1 in cc) in
        inr ((λ same. p.3 (w ∙ same ∙ sym v)), listed_choices k x.0 (o ∷ []) (at_put k x.0 o x.1 e) ∙ ap (λ (z : ℕ). z ∷ o ∷ []) v))
        (λ (none : All (λ (pair : Pair). pair.address ≢ place k) done). inl (listed_choices k o [] (at_kept k o e none)))
        (one_or_none old new texts 0 done k march)

    is_between_now : IsBetween old new now.held
    is_between_now = record {
      size = texts.size;
      text = now_size;
      older = is_whole.size ∙ now_size;
      words = word_between;
    }

    -- a pair isn't stored before it comes
    no_pair_of_left : (k : ℕ) (pair : Pair) (later : List Pair) → left ≡ pair ∷ later → pair.address ≡ place k → All (λ (p : Pair). p.address ≢ place k) done
    no_pair_of_left k pair later e address =
        before_left 0 done pair later k (subst (λ (ps : List Pair). Marches old new 0 (done ++ ps)) e (subst (λ (ps : List Pair). Marches old new 0 ps) (sym joined) (pairs_march old new))) address

    now_next : (pair : Pair) (later : List Pair) → left ≡ pair ∷ later → access.store now pair.address 4 pair.word ≡ Some (stored_all room (done ++ pair ∷ []))
    now_next pair later e =
        let m : Marches old new 0 (pair ∷ later) = subst (λ (ps : List Pair). Marches old new 0 ps) e march_left in
        let there = at_kept m.0 m.2 m.4 (no_pair_of_left m.0 pair later e m.3) in
        let old_word : m.2 < 2 ^ 32 = (let w = texts.old_words m.0 in let g = get_or_from_slice_get old m.0 m.2 0 m.4 in omega (arith, w, g)) in
        let new_word : pair.word < 2 ^ 32 = (let w = texts.new_words m.0 in let g = get_or_from_slice_get new m.0 pair.word 0 m.5 in omega (arith, w, g)) in
        ap (λ (a : ℕ). access.store now a 4 pair.word) m.3
        ∙ store_is now m.0 m.2 pair.word (below m.0 m.2 m.4) there.word old_word new_word
        ∙ ap (λ (a : ℕ). Some (stored now (pair_of a pair.word))) (sym m.3)
        ∙ ap (λ (r : Room). Some r) (sym (stored_more room done pair))

    -- a word that is the same in both texts
    at_same : (k w : ℕ) → slice_get old k ≡ Some w → slice_get new k ≡ Some w → At now k w []
    at_same k w e f = ⊎_elim
        (λ (x : (v : ℕ) × Contains done (pair_of (place k) v)).
        let p = at_pair old new texts 0 done k x.0 x.1.0 (pair_of (place k) x.0) march x.1.1 x.1.2 in
        absurd (p.3 (let q = p.1 in let r = p.2 in cc)))
        (λ (none : All (λ (pair : Pair). pair.address ≢ place k) done). at_kept k w e none)
        (one_or_none old new texts 0 done k march)

    -- ---- all of them

    last_word : (k o n : ℕ) → done ≡ pairs_between old new → slice_get old k ≡ Some o → slice_get new k ≡ Some n → slice_get now.held.text k ≡ Some n
    last_word k o n all e f = ⊎_elim
        (λ (same : o ≡ n). (at_same k n (e ∙ ap (λ (x : ℕ). Some x) same) f).word)
        (λ (differ : o ≢ n). (at_put k n o (subst (λ (ps : List Pair). Contains ps (pair_of (place k) n)) (sym all) (difference_has_pair text_start k (place k) o n old new refl e f differ)) e).word)
        (cases_eq o n)

    last_text : done ≡ pairs_between old new → now.held.text ≡ new
    last_text all = same_lists now.held.text new (now_size ∙ sym texts.size)
        (λ k d lt. (
        let size = texts.size in
        let old_there = slice_get-get_or old k 0 (omega (arith, lt, now_size)) in
        let new_there = slice_get-get_or new k d (omega (arith, lt, now_size, size)) in
        get_or_from_slice_get now.held.text k (get_or new k d) d (last_word k (get_or old k 0) (get_or new k d) all old_there new_there)))

    all_done : left ≡ [] → done ≡ pairs_between old new
    all_done e = sym (append-nil done) ∙ ap (λ (ps : List Pair). done ++ ps) (sym e) ∙ joined

    is_fenced : left ≡ [] → IsSettled new (access.fence now)
    unfolding access fence
    is_fenced e =
        let text = last_text (all_done e) in
        record {
          text = text;
          older = ap (λ (l : List ℕ). replicate (length l) []) text;
          spare = refl;
        }

    is_roomy : (pair : Pair) (later : List Pair) → left ≡ pair ∷ later → length (pairs_between old new) ≤ room.reserve → 1 ≤ now.spare
    is_roomy pair later e few =
        let size = ap (λ (l : List Pair). length l) joined in
        let sum = length-append done left in
        let one = ap (λ (l : List Pair). length l) e in
        let spare = settled.spare in
        let less = less_spare room done in
        omega (arith, few, size, sum, one, spare, less)

    each_word : (k o n : ℕ) → slice_get old k ≡ Some o → slice_get new k ≡ Some n
        → (All (λ (pair : Pair). pair.address ≢ place k) done × (choices now.held (place k) ≡ o ∷ [])) ⊎ (Contains done (pair_of (place k) n) × (o ≢ n) × (choices now.held (place k) ≡ n ∷ o ∷ []))
    each_word k o n e f = ⊎_elim
        (λ (x : (v : ℕ) × Contains done (pair_of (place k) v)).
        let p = at_pair old new texts 0 done k x.0 x.1.0 (pair_of (place k) x.0) march x.1.1 x.1.2 in
        let v : x.0 ≡ n = (let q = p.2 in cc) in
        let w : p.0 ≡ o = (let q = p.1 in cc) in
        let there : Contains done (pair_of (place k) n) = subst (λ (z : ℕ). Contains done (pair_of (place k) z)) v x.1 in
        inr (there, (λ same. p.3 (w ∙ same ∙ sym v)), choices_at now.held k (below k o e) ∙ listed_choices k n (o ∷ []) (at_put k n o there e)))
        (λ (none : All (λ (pair : Pair). pair.address ≢ place k) done). inl (none, choices_at now.held k (below k o e) ∙ listed_choices k o [] (at_kept k o e none)))
        (one_or_none old new texts 0 done k march)

    pub is_stored : IsStored old new room done left
    is_stored = record {
      between = is_between_now;
      each = each_word;
      kept = λ k o h none. choices_at now.held k (below k o h) ∙ listed_choices k o [] (at_kept k o h none);
      put = λ k n h. (
          let p = at_pair old new texts 0 done k n h.0 (pair_of (place k) n) march h.1 h.2 in
          (p.0, p.1, p.2, p.3, choices_at now.held k (below k p.0 p.1) ∙ listed_choices k n (p.0 ∷ []) (at_put k n p.0 h p.1)));
      same = λ k w e f. choices_at now.held k (below k w e) ∙ listed_choices k w [] (at_same k w e f);
      whole = is_whole;
      spare = less_spare room done ∙ ap (λ (n : ℕ). n - length done) settled.spare;
      reserve = same_reserve room done;
      globals = same_globals room done;
      stack = same_stack room done;
      plan = same_plan room done;
      loads = λ a n ge. same_loads room done a n ge;
      next = now_next;
      roomy = is_roomy;
      all = λ e. last_text (all_done e);
      fenced = is_fenced;
    }
