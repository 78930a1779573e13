-- What is proved of the mover (document 02, request 5), over the definitions.
-- Assumes nothing: these are definitions.
use Rattle.std.specs.Prelude.{ℕ, ◌+◌, ◌<◌, ◌≡◌, List, [], ◌∷◌, true, false, length, get_or}
use Rattle.laws.specs.Search.{any_below}
use Rattle.answer.specs.Outcome.{given}
use Rattle.directory.specs.declared.Directory.{Directory}
use Rattle.directory.specs.declared.Status.TheVariants.{Running}
use Rattle.directory.specs.Directory.{is_live, primary_of}
use Rattle.area.specs.Numbers.{word_values}
use Rattle.area.specs.Prelude.{own_desk, open_flag, steps_made, release_number, release_desk, record_stamp}
use Rattle.area.specs.Prelude.{record_done, record_desk, record_count, list_start, page_at, area_size, page_size, committed_half}
use Rattle.area.specs.Prelude.{own_release, open_release, has_open_release, recorded_release, under_way}
use Rattle.protocol.specs.Release.{size_of}
use Rattle.protocol.specs.Checks.{outside_limits, unfit_rack}
use Rattle.protocol.specs.Result.{accepted}
use Rattle.protocol.specs.Demand1.{Unchanged}
use Rattle.protocol.specs.Calls.{fetch, desk_question}
use Rattle.mover.specs.Forms.{old_form, new_form, own_desk_in, open_flag_in, steps_made_in, release_number_in, release_desk_in}
use Rattle.mover.specs.Forms.{record_in, record_done_in, record_desks_in, list_start_in, page_in, area_size_in}
use Rattle.mover.specs.Areas.{SameArea, NoHighWords, SameNumbers, words_in, old_own, old_open, old_recorded}
use Rattle.mover.specs.Areas.{old_under_way, old_desk}
use Rattle.mover.specs.Move.{move_in, move_back}

-- ---- there and back

-- each word has 32 bits, as every word of a lent memory has
abbrev pub WordsOf32Bits : List ℕ → Type 0
WordsOf32Bits m = (i : ℕ) → get_or m i 0 < word_values

-- "Going back after going in returns every old word": it is accepted, and fills a buffer of the old length, whatever it
-- held, with the old memory.
pub record MovedBackIsOld : Type 0 where
  pub returned :
      (d : Directory) (old new buffer : List ℕ) → WordsOf32Bits old → accepted (move_in d old new).outcome ≡ true
      → length buffer ≡ length old
      → move_back d (move_in d old new).memory buffer
      ≡ record { outcome = given 0; directory = d; memory = old; words = [] }

-- ---- what an accepted move in leaves

-- "Going in, every high word is 0": of every card, dead ones too
pub record HighWordsZero : Type 0 where
  pub zero_words :
      (d : Directory) (old new : List ℕ) → accepted (move_in d old new).outcome ≡ true → (c : ℕ) → c < d.cards
      → NoHighWords d.pages (move_in d old new).memory c

-- A rack with memory m, in the new form, says what the old memory said.
pub record Says (d : Directory) (old m : List ℕ) : Type 0 where
  -- every word of every card, dead ones too
  pub areas : (c : ℕ) → c < d.cards → SameArea old_form new_form d.pages old m c
  -- own stamp and desk; the open release's number and desk
  pub own : (c : ℕ) → c < d.cards → own_release (size_of d) m c ≡ old_own d old c
  pub opened : (c : ℕ) → c < d.cards → open_release (size_of d) m c ≡ old_open d old c
  -- what each of the eight records tells, and whether its release is under way
  pub recorded :
      (holder k : ℕ) → holder < d.cards → k < record_count
      → recorded_release (size_of d) m holder k ≡ old_recorded d old holder k
  pub is_under_way :
      (holder k : ℕ) → holder < d.cards → k < record_count
      → under_way (size_of d) m holder k ≡ old_under_way d old holder k
  -- it runs, and no release is open
  pub limits : outside_limits (length m) d.cards d.pages ≡ false
  pub fit : unfit_rack d m ≡ false
  pub running : d.status ≡ Running
  pub none_open : any_below (has_open_release d.live (size_of d) m) d.cards ≡ false
  -- a fetch shows the committed words of the old page at its primary
  pub fetched :
      (p : ℕ) (buffer : List ℕ) → p < d.pages → length buffer ≡ page_size
      → fetch d m p buffer
      ≡ record {
        outcome = given 0;
        directory = d;
        memory = m;
        words = words_in old_form d.pages old (primary_of d p) (page_in old_form p + committed_half) page_size;
      }
  -- a desk question answers the old desk, of a live card or a dead one
  pub asked :
      (c : ℕ) → c < d.cards
      → desk_question d m c ≡ record { outcome = given 0; directory = d; memory = m; words = old_desk d old c }

pub record SaysWhatOldSaid : Type 0 where
  pub moved :
      (d : Directory) (old new : List ℕ) → accepted (move_in d old new).outcome ≡ true
      → Says d old (move_in d old new).memory

-- ---- what an accepted move back leaves

-- every word but the high ones, of every card
pub record LowWordsKept : Type 0 where
  pub kept :
      (d : Directory) (new old : List ℕ) → accepted (move_back d new old).outcome ≡ true → (c : ℕ) → c < d.cards
      → SameArea new_form old_form d.pages new (move_back d new old).memory c

-- What refusal 20 is for: of a live card, every stamp and done mark is kept whole.
pub record NumbersKept : Type 0 where
  pub kept :
      (d : Directory) (new old : List ℕ) → accepted (move_back d new old).outcome ≡ true → (c : ℕ) → c < d.cards
      → is_live d c ≡ true → SameNumbers d.pages new (move_back d new old).memory c

-- ---- refusals

-- by which numbers; the memory that would have been written is kept, and so is the directory
pub record RefusedMoves : Type 0 where
  pub refused_in :
      (d : Directory) (old new : List ℕ) → accepted (move_in d old new).outcome ≡ false
      → Unchanged (1 ∷ 2 ∷ 11 ∷ 15 ∷ []) d new [] (move_in d old new)
  pub refused_back :
      (d : Directory) (new old : List ℕ) → accepted (move_back d new old).outcome ≡ false
      → Unchanged (1 ∷ 2 ∷ 11 ∷ 15 ∷ 20 ∷ []) d old [] (move_back d new old)

-- ---- the new form is the one that the calls go by

pub record NewFormIsLayout : Type 0 where
  pub at_own_desk : own_desk_in new_form ≡ own_desk
  pub at_open_flag : open_flag_in new_form ≡ open_flag
  pub at_steps_made : steps_made_in new_form ≡ steps_made
  pub at_release_number : release_number_in new_form ≡ release_number
  pub at_release_desk : release_desk_in new_form ≡ release_desk
  pub at_record_stamp : (k : ℕ) → record_in new_form k ≡ record_stamp k
  pub at_record_done : (k : ℕ) → record_done_in new_form k ≡ record_done k
  pub record_desks : (k : ℕ) → record_desks_in new_form k ≡ record_desk k 0
  pub list : list_start_in new_form ≡ list_start
  pub pages : (p : ℕ) → page_in new_form p ≡ page_at p
  pub size : (pages : ℕ) → area_size_in new_form pages ≡ area_size pages
