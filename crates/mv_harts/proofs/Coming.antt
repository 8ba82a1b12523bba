-- From the answers of the layers to what comes of the words of `mvharts`.
use Rattle.std.proofs.Common.{ℕ, ◌≡◌, ◌⊎◌, ◌≤◌, List, [], Option, Some, None, refl, ap, sym, subst, arith, ◌∙◌}
use Rattle.std.specs.Prelude.{MatchOption, Ok, Err, Vec}
use Rattle.std.specs.declared.alloc.Global.{Global}
use Rattle.mv_io.specs.Outside.{Rose}
use Rattle.mv_io.specs.Shelves.{Files, is_fault, Lacks, Loads}
use Rattle.mv_io.specs.declared.outside.ShelfError.{ShelfError}
use Rattle.mv_io.specs.declared.outside.ShelfError.TheVariants as shelf
use Rattle.mv_eval.specs.Grown.{Grew, GrewLess}
use Rattle.mv_build.specs.Answers.{IsCause}
use Rattle.mv_build.specs.Verdicts.{IsBuiltFrom}
use Rattle.mv_build.specs.declared.built.Built.{Built}
use Rattle.mv_harts_runs.specs.Harts.{Harts}
use Rattle.mv_build.specs.declared.error.BuildError.{BuildError}
use Rattle.mv_build.specs.declared.error.BuildError.TheVariants as build
use Rattle.mv_harts_words.specs.Asked.{Asked, IsAsked, IsNotAsked, asked}
use Rattle.mv_harts_words.specs.declared.command.Command.{Command}
use Rattle.mv_notes.specs.Lines.{names_shelf, Noted}
use Rattle.mv_notes.specs.declared.status.Status.{Status}
use Rattle.mv_notes.specs.declared.status.Status.TheVariants.{Done, OutputFault}
use Rattle.mv_harts.specs.Texts.{text_of}
use Rattle.mv_harts.specs.Outcomes.{Around, Comes, FileComes, Holds, IsCarriedOut, IsRunOf, KeepsFiles, Output, TextComes, Untouched, cut, loaded, no_file, ran, refused, status_of_build, status_of_shelf, unloaded, unmade}

-- ---- the words

-- the command that was found
pub is_asked : (words : List (List ℕ)) (found : Option Command) (command : Command) → MatchOption found (IsNotAsked words) (λ c. IsAsked words (asked c)) → found ≡ Some command → IsAsked words (asked command)
is_asked words found command is same = subst (λ f. MatchOption f (IsNotAsked words) (λ c. IsAsked words (asked c))) same is

pub is_not_asked : (words : List (List ℕ)) (found : Option Command) → MatchOption found (IsNotAsked words) (λ c. IsAsked words (asked c)) → found ≡ None → IsNotAsked words
is_not_asked words found is same = subst (λ f. MatchOption f (IsNotAsked words) (λ c. IsAsked words (asked c))) same is

-- there are two to four harts
pub some_harts : (words : List (List ℕ)) (command : Command) → IsAsked words (asked command) → 1 ≤ command.count
some_harts words command is = let least : 2 ≤ command.count = is.read.count.least_or_more in omega (arith, least)

pub few_harts : (words : List (List ℕ)) (command : Command) → IsAsked words (asked command) → command.count ≤ 4
few_harts words command is = is.read.count.most_or_less

-- ---- the text

module _ (was is : Output) (a : Asked) (text : List ℕ) where
  not_run_by : (e : BuildError) → IsCause text e → is ≡ was → TextComes was is a text (status_of_build e)
  not_run_by (build.Refused r) cause same = refused r cause same
  not_run_by (build.Memory e) cause same = unmade same

  pub not_run : (status : Status) (e : BuildError) → status ≡ status_of_build e → IsCause text e → is ≡ was → TextComes was is a text status
  not_run status e due cause same = subst (TextComes was is a text) (sym due) (not_run_by e cause same)

  module _ (built : Built) (from : IsBuiltFrom text built) (made piece : List ℕ) (same : piece ≡ made) (told : (hs : Harts) × IsRunOf built a hs × (made ≡ text_of hs)) where
    -- the text of a run was written
    pub was_run : Grew was.written is.written piece → TextComes was is a text Done
    was_run grew = ran built told.0 from told.1 (subst (Grew was.written is.written) (same ∙ told.2) grew)

    -- or a part of it
    pub cut_off : GrewLess was.written is.written piece → Rose was.faults is.faults → TextComes was is a text OutputFault
    cut_off less rose = cut built told.0 from told.1 (subst (GrewLess was.written is.written) (same ∙ told.2) less) rose

-- ---- the file

-- the status of a load that gave nothing names the shelf where that was a fault
pub names_of_error : (e : ShelfError) (status : Status) → status ≡ status_of_shelf e → names_shelf status ≡ is_fault {T = ℕ} (Err e)
names_of_error shelf.Failed status same = ap names_shelf same
names_of_error (shelf.Memory m) status same = ap names_shelf same

holds_loaded : (told : Option Files) (name : List ℕ) (bytes : Vec ℕ Global) → Loads told name (Ok bytes) → Holds told name bytes.items
holds_loaded None name bytes h = tt
holds_loaded (Some at) name bytes h = h

module _ (before after : Around) (a : Asked) where
  -- the shelf gave nothing
  not_loaded_by : (e : ShelfError) → (e ≡ shelf.Failed → Rose before.faults after.faults ⊎ Lacks before.files a.file) → Untouched before after → FileComes before after a (status_of_shelf e)
  not_loaded_by shelf.Failed why untouched = no_file (why refl) untouched
  not_loaded_by (shelf.Memory e) why untouched = unloaded untouched

  pub not_loaded : (status : Status) (e : ShelfError) → status ≡ status_of_shelf e → (e ≡ shelf.Failed → Rose before.faults after.faults ⊎ Lacks before.files a.file) → Untouched before after →
      FileComes before after a status
  not_loaded status e due why untouched = subst (FileComes before after a) (sym due) (not_loaded_by e why untouched)

  -- the shelf gave a text
  pub given : (status : Status) (bytes : Vec ℕ Global) (text : List ℕ) → text ≡ bytes.items → Loads before.files a.file (Ok bytes) → TextComes before.out after.out a text status → KeepsFiles before after →
      FileComes before after a status
  given status bytes text is loads comes keeps =
      loaded bytes.items status (holds_loaded before.files a.file bytes loads) (subst (λ t. TextComes before.out after.out a t status) is comes) keeps

-- ---- the notes

pub carried_out : (before after : Around) (words : List (List ℕ)) (was is : Output) (due : Status) → Comes before after words due → (lines : List ℕ) (told : Status) → lines ≡ [] → told ≡ due → (status : Status) →
    Noted lines told was.written is.written was.faults is.faults status → IsCarriedOut before after words was is status
carried_out before after words was is due comes lines told none same status noted = record {
  due = due;
  comes = comes;
  noted = subst (λ (l : List ℕ). Noted l due was.written is.written was.faults is.faults status) none
      (subst (λ (s : Status). Noted lines s was.written is.written was.faults is.faults status) same noted);
}
