use Rattle.std.proofs.Common.{◌≡◌, ℕ, ◌+◌, List, ◌++◌, length, drop, get_or, sym, ap, ◌∙◌, arith, append_assoc, append-nil}
use Rattle.mv_list.specs.Changes.{change_line, changes, word_now, words_now}
use Rattle.mv_list.proofs.Changing.{changes_more, changes_none}
use Rattle.mv_list.proofs.changed.patched.Goals as goal

pub loop-word-preserved : goal.loop-word-preserved
loop-word-preserved c =
    let l = c.loop-word in
    let words = c.as_slice-words.result.now in
    let held = c.args.machine.now.room.held in
    let i = l.word-index in
    let word = get_or words i 0 in
    let now = change_line l.address word (word_now held l.address) in
    let later = changes (l.address + 4) (drop (i + 1) words) (words_now held (l.address + 4) (length (drop (i + 1) words))) in
    let added : c.push_change.new.out.items ≡ l.out.items ++ now =
    c.in_ok-push_change.ensures ∙ ap (λ (new : ℕ). l.out.items ++ change_line l.address word new) c.word_now-new.ensures in
    record {
      address = omega (arith, l.invariant.address);
      lines =
          ap (λ (out : List ℕ). out ++ later) added
          ∙ append_assoc l.out.items now later
          ∙ ap (λ (lines : List ℕ). l.out.items ++ lines) (sym (changes_more held l.address i words c.loop-word-test.true))
          ∙ l.invariant.lines;
    }

pub returns : goal.returns
returns c =
    let l = c.loop-word in
    let words = c.as_slice-words.result.now in
    let held = c.args.machine.now.room.held in
    let none = changes_none held l.address l.word-index words c.loop-word-test.false in
    let all : l.out.items ≡ changes 4096 words (words_now held 4096 (length words)) =
    sym (append-nil l.out.items) ∙ ap (λ (lines : List ℕ). l.out.items ++ lines) (sym none) ∙ l.invariant.lines in
    all ∙ ap (λ (text : List ℕ). changes 4096 text (words_now held 4096 (length text))) (c.as_slice-words.ensures ∙ c.text.ensures.value)
