-- What begins a unit does so in some source.
use Rattle.std.proofs.Common.{◌≡◌, ℕ, zero, suc, ◌+◌, ◌-◌, ◌<◌, ◌≤◌, List, [], ◌∷◌, ◌++◌, ◌⊎◌, inl, inr, length, take, drop, refl, sym, ap, subst, ◌∙◌, arith, append_assoc}
use Rattle.std.proofs.lemmas.List.{take-append-le, drop-append-le, length-drop}
use Rattle.std.proofs.lemmas.Bool.{cases_lt}
use Rattle.std.proofs.Math.Seq.{drop-append_seam, take-append_seam}
use Rattle.mv_syntax.specs.declared.token.Token.{Token}
use Rattle.mv_parse_grammar.specs.Terminals.{Terminal, terminal, terminals}
use Rattle.mv_parse_grammar.specs.Units.{AreItems}
use Rattle.mv_parse_grammar.specs.Reading.{Begins, BeginsIn, AreWithin}

-- a terminal with another spelling
abbrev spelled : Terminal → List ℕ → Terminal
spelled w s = record { place = w.place; what = w.what; spelling = s }

-- more text leaves the tokens of a text as they are

slice_kept : (text extra : List ℕ) (start stop : ℕ) → stop ≤ length text → take (stop - start) (drop start (text ++ extra)) ≡ take (stop - start) (drop start text)
slice_kept text extra start stop h = go (cases_lt stop start)
  where
    go : (stop < start) ⊎ (start ≤ stop) → take (stop - start) (drop start (text ++ extra)) ≡ take (stop - start) (drop start text)
    go (inl l) = let e : stop - start ≡ 0 = omega (arith, l) in ap (λ z. take z (drop start (text ++ extra))) e ∙ sym (ap (λ z. take z (drop start text)) e)
    go (inr l) =
        ap (take (stop - start)) (drop-append-le start text extra (omega (arith, l, h)))
        ∙ take-append-le (stop - start) (drop start text) extra (omega (arith, l, h, length-drop start text))

kept : (text extra : List ℕ) (ts : List Token) → AreWithin (length text) ts → terminals (text ++ extra) ts ≡ terminals text ts
kept text extra [] h = refl
kept text extra (t ∷ ts) h =
    ap (λ z. spelled (terminal text t) z ∷ terminals (text ++ extra) ts) (slice_kept text extra t.start t.stop h.0)
    ∙ ap (λ z. terminal text t ∷ z) (kept text extra ts h.1)

-- each terminal is a token of some text

record Written (text : List ℕ) (ws : List Terminal) : Type 0 where
  pub extra : List ℕ
  pub more : List Token
  pub same : (after : List ℕ) → terminals (text ++ (extra ++ after)) more ≡ ws

slice_written : (text spelling rest : List ℕ) → take ((length text + length spelling) - length text) (drop (length text) (text ++ (spelling ++ rest))) ≡ spelling
slice_written text spelling rest =
    let e : (length text + length spelling) - length text ≡ length spelling = omega arith in
    ap (take ((length text + length spelling) - length text)) (drop-append_seam text (spelling ++ rest))
    ∙ (ap (λ z. take z (spelling ++ rest)) e ∙ take-append_seam spelling rest)

written : (ws : List Terminal) (text : List ℕ) → Written text ws
written [] text = record { extra = []; more = []; same = λ after. refl }
written (w ∷ ws) text =
    let u : Written (text ++ w.spelling) ws = written ws (text ++ w.spelling) in
    let t : Token = record { place = w.place; start = length text; stop = length text + length w.spelling; what = w.what } in
    record {
      extra = w.spelling ++ u.extra;
      more = t ∷ u.more;
      same = λ after.
          let e : text ++ ((w.spelling ++ u.extra) ++ after) ≡ text ++ (w.spelling ++ (u.extra ++ after)) = ap (λ z. text ++ z) (append_assoc w.spelling u.extra after) in
          ap (λ z. terminals z (t ∷ u.more)) e
          ∙ (ap (λ z. spelled w z ∷ terminals (text ++ (w.spelling ++ (u.extra ++ after))) u.more) (slice_written text w.spelling (u.extra ++ after))
          ∙ ap (λ z. w ∷ z) (ap (λ z. terminals z u.more) (sym (append_assoc text w.spelling (u.extra ++ after))) ∙ u.same after));
    }

-- the terminals of some tokens and more

terminals_append : (text : List ℕ) (ts us : List Token) → terminals text (ts ++ us) ≡ terminals text ts ++ terminals text us
terminals_append text [] us = refl
terminals_append text (t ∷ ts) us = ap (λ z. terminal text t ∷ z) (terminals_append text ts us)

front_of : (text : List ℕ) (items : List Token) (before rest : List Terminal) → terminals text items ≡ before ++ rest → terminals text (take (length before) items) ≡ before
front_of text items [] rest e = refl
front_of text [] (w ∷ before) rest e = absurd (cc)
front_of text (t ∷ items) (w ∷ before) rest e =
    let heads : terminal text t ≡ w = cc in
    let tails : terminals text items ≡ before ++ rest = cc in
    ap (λ z. z ∷ terminals text (take (length before) items)) heads ∙ ap (λ z. w ∷ z) (front_of text items before rest tails)

within_front : (size k : ℕ) (items : List Token) → AreWithin size items → AreWithin size (take k items)
within_front size zero items h = tt
within_front size (suc k) [] h = tt
within_front size (suc k) (t ∷ items) h = (h.0, within_front size k items h.1)

begins_in : (text : List ℕ) (before : List Token) → AreWithin (length text) before → Begins (terminals text before) → BeginsIn text before
begins_in text before h b =
    let u : Written text b.more = written b.more text in
    let k : terminals (text ++ (u.extra ++ [])) before ≡ terminals text before = kept text (u.extra ++ []) before h in
    record {
      extra = u.extra ++ [];
      more = u.more;
      items = b.items;
      kept = k;
      reads = subst (λ z. AreItems z b.items)
          (sym (terminals_append (text ++ (u.extra ++ [])) before u.more ∙ (ap (λ z. z ++ terminals (text ++ (u.extra ++ [])) u.more) k ∙ ap (λ z. terminals text before ++ z) (u.same [])))) b.reads;
    }

-- the tokens of a source before a place where they begin a unit
pub front_begins_in : (text : List ℕ) (items : List Token) (before rest : List Terminal) → terminals text items ≡ before ++ rest → AreWithin (length text) items → Begins before → BeginsIn text (take (length before) items)
front_begins_in text items before rest e h b =
    begins_in text (take (length before) items) (within_front (length text) (length before) items h) (subst Begins (sym (front_of text items before rest e)) b)
