-- The reference model of the whole rack: the book, and beside it the cards and pages, which cards are live, the card
-- whose recovery is awaited, and each card's last release from before its open one. It has no memory, no homes and no
-- records.
-- Each call's checks, its answer and its change stand here over that state; document 01, "What the rack refuses, by who
-- caused it", has the same order.
-- Assumes nothing: these are definitions.
use Rattle.std.specs.Prelude.{ℕ, ◌+◌, ◌*◌, List, [], ◌∷◌, ◌++◌, Bool, true, false, cond, not, ◌&&◌, ◌||◌, length, ltb}
use Rattle.std.specs.Prelude.{leb, eqb}
use Rattle.laws.specs.Search.{lowest, any_below, count_below}
use Rattle.answer.specs.declared.Outcome.{Outcome}
use Rattle.answer.specs.Outcome.{recovery_awaited, no_card, release_open, number_used, number_ahead, faulty_list, word_in_use}
use Rattle.answer.specs.Outcome.{no_open_release, no_page, page_in_motion, wrong_buffer, two_live, none_awaited, card_live}
use Rattle.answer.specs.Outcome.{join_while_open}
use Rattle.directory.specs.declared.Status.{Status}
use Rattle.directory.specs.declared.Status.TheVariants.{Running, Awaiting}
use Rattle.area.specs.Prelude.{page_size, Release}
use Rattle.diff.specs.Prices.{prices_of, names}
use Rattle.diff.specs.Reading.{check_diff}
use Rattle.protocol.specs.Release.{counts_at}
use Rattle.protocol.specs.Checks.{Check, check, check_at, first_refusal, awaits_recovery}
use Rattle.protocol.specs.Result.{accepted}
use Rattle.protocol.specs.Calls.{Call, start_release, make_step, fetch_page, fail_card, recover, join_card}
use Rattle.protocol.specs.Calls.{ask_desk}
use Rattle.protocol.specs.Book.{Opened, none, opened, list_prices, prices_in, Book, new_book, update, transition}
use Rattle.protocol.specs.Demand1.{handed_back}
use Rattle.protocol.specs.Demand3.{page_in}

pub record Model : Type 0 where
  pub cards : ℕ
  pub pages : ℕ
  pub live : ℕ → Bool
  pub status : Status
  pub book : Book
  -- each card's last number and desk from before its open release; a desk question gives that desk until the close
  pub before : ℕ → Release

-- ---- what the checks ask

abbrev pub is_opened : Opened → Bool
is_opened none = false
is_opened (opened r list steps) = true

-- an open release that already counts
abbrev pub already_counts : Opened → Bool
already_counts none = false
already_counts (opened r list steps) = leb (counts_at (length (list_prices list))) steps

module _ (s : Model) where
  abbrev open_on : ℕ → Bool
  open_on card = is_opened (s.book.release card)

  -- both price a label, the list and the open release of another card
  abbrev pub in_use : ℕ → List ℕ → ℕ → Bool
  in_use card list other =
      not (eqb other card)
      && any_below (λ label. names (prices_in (s.book.release other)) label && names (prices_of s.pages list) label)
      (32 * s.pages)

  -- a card's open release counts already, and prices a word of the page
  abbrev pub moving : ℕ → ℕ → Bool
  moving page card =
      already_counts (s.book.release card)
      && any_below (λ word. names (prices_in (s.book.release card)) (32 * page + word)) page_size

  -- ---- checks, in order: 1 and 2 always pass

  abbrev running_check : List Check
  running_check = check (awaits_recovery s.status) recovery_awaited ∷ []

  abbrev card_check : ℕ → List Check
  card_check card = running_check ++ check (leb s.cards card) no_card ∷ []

  abbrev live_card_check : ℕ → List Check
  live_card_check card = running_check ++ check (leb s.cards card || not (s.live card)) no_card ∷ []

  unfoldable pub model_checks : Call → List Check
  -- 11, 3, 4, 5, 6, 7, 8
  model_checks (start_release card r list) =
      live_card_check card
      ++ check (open_on card) release_open
      ∷ check_at (leb r.number (s.book.last card).number) number_used (s.book.last card).number
      ∷ check (ltb ((s.book.last card).number + 1) r.number) number_ahead
      ∷ check_at (ltb 0 (check_diff s.pages list).number) faulty_list (check_diff s.pages list).value
      ∷ check_at (any_below (in_use card list) s.cards) word_in_use (lowest (in_use card list) s.cards)
      ∷ []
  -- 11, 3, 16
  model_checks (make_step card) = live_card_check card ++ check (not (open_on card)) no_open_release ∷ []
  -- 11, 9, 10, 17
  model_checks (fetch_page page buffer) =
      running_check
      ++ check (leb s.pages page) no_page
      ∷ check_at (any_below (moving page) s.cards) page_in_motion (lowest (moving page) s.cards)
      ∷ check (not (eqb (length buffer) page_size)) wrong_buffer
      ∷ []
  -- 11, 3, 13
  model_checks (fail_card card) = live_card_check card ++ check (leb (count_below s.live s.cards) 2) two_live ∷ []
  -- 12
  model_checks recover = check (not (awaits_recovery s.status)) none_awaited ∷ []
  -- 11, 3, 14, 15
  model_checks (join_card card) =
      card_check card ++ check (s.live card) card_live ∷ check (any_below open_on s.cards) join_while_open ∷ []
  -- 11, 3
  model_checks (ask_desk card) = card_check card

  -- ---- the answer of an accepted call: a value, and words

  unfoldable pub model_value : Call → ℕ
  model_value (start_release card r list) = 0
  model_value (make_step card) = 0
  model_value (fetch_page page buffer) = 0
  model_value (fail_card card) = 0
  model_value recover = (s.book.last s.book.failed).number
  model_value (join_card card) = 0
  model_value (ask_desk card) = 0

  unfoldable pub model_words : Call → List ℕ
  model_words (start_release card r list) = []
  model_words (make_step card) = []
  model_words (fetch_page page buffer) = page_in s.book page
  model_words (fail_card card) = []
  model_words recover = (s.book.last s.book.failed).desk
  model_words (join_card card) = []
  model_words (ask_desk card) = cond (open_on card) (s.before card).desk (s.book.last card).desk

  -- ---- the answer of every call

  unfoldable pub model_outcome : Call → Outcome
  model_outcome call = first_refusal (model_checks call) (model_value call)

  unfoldable pub model_handed_back : Call → List ℕ
  model_handed_back call = cond (accepted (model_outcome call)) (model_words call) (handed_back call)

-- ---- the change that an accepted call makes

abbrev pub model_with : Model → (ℕ → Bool) → Status → Book → (ℕ → Release) → Model
model_with s live status book before =
    record { cards = s.cards; pages = s.pages; live = live; status = status; book = book; before = before }

unfoldable pub model_change : Call → Model → Model
model_change (start_release card r list) s =
    model_with s s.live s.status (transition (start_release card r list) s.book)
    (update s.before card (s.book.last card))
model_change (make_step card) s = model_with s s.live s.status (transition (make_step card) s.book) s.before
model_change (fetch_page page buffer) s = s
model_change (fail_card card) s =
    model_with s (update s.live card false) (Awaiting card) (transition (fail_card card) s.book) s.before
model_change recover s = model_with s s.live Running (transition recover s.book) s.before
model_change (join_card card) s = model_with s (update s.live card true) s.status s.book s.before
model_change (ask_desk card) s = s

unfoldable pub model_after : Call → Model → Model
model_after call s = cond (accepted (model_outcome s call)) (model_change call s) s

-- "It starts with zeros and none open", all cards live
abbrev pub new_model : ℕ → ℕ → Model
new_model cards pages =
    record {
      cards = cards;
      pages = pages;
      live = λ card. ltb card cards;
      status = Running;
      book = new_book;
      before = new_book.last;
    }
