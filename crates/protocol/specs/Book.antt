-- The book (document 01, "The book of demand 3"). It is told each call and whether it was accepted; it sees neither
-- memory nor directory nor an answer.
-- Assumes nothing: these are definitions.
use Rattle.std.specs.Prelude.{ℕ, suc, List, [], Bool, cond, length, ltb, eqb}
use Rattle.laws.specs.Search.{in_turn}
use Rattle.area.specs.Prelude.{zeros, desk_size, Release}
use Rattle.diff.specs.declared.Price.{Price}
use Rattle.diff.specs.Prices.{prices_of, applied_at}
use Rattle.protocol.specs.Release.{counts_at, steps_in}
use Rattle.protocol.specs.Calls.{Call, start_release, make_step, fetch_page, fail_card, recover, join_card}
use Rattle.protocol.specs.Calls.{ask_desk}

-- ---- what the book holds

-- a card's open release, its list and its steps; or none
pub data Opened : Type 0 where
  none : Opened
  opened : Release → (list : List ℕ) → (steps : ℕ) → Opened

pub record Book : Type 0 where
  -- each label's price: "each page's 32 prices"
  pub price : ℕ → ℕ
  -- each card's last number and desk, and its open release
  pub last : ℕ → Release
  pub release : ℕ → Opened
  -- the card that failed last
  pub failed : ℕ

-- "It starts with zeros and none open."
abbrev pub new_book : Book
new_book =
    record {
      price = λ label. 0;
      last = λ card. record { number = 0; desk = zeros desk_size };
      release = λ card. none;
      failed = 0;
    }

-- a value for one card, the others as they were
unfoldable pub update : {A : Type 0} → (ℕ → A) → ℕ → A → ℕ → A
update f card a other = cond (eqb other card) a (f other)

-- the prices of a list; a rack has at most 64 pages
abbrev pub list_prices : List ℕ → List Price
list_prices list = prices_of 64 list

-- the prices of an open release; none, where none is open
abbrev pub prices_in : Opened → List Price
prices_in none = []
prices_in (opened r list steps) = list_prices list

-- ---- what accepted calls do to it

-- "To count a release sets every word its list prices to that price, and its card's last number and desk to
-- the release's own."
abbrev pub count : Book → ℕ → Release → List ℕ → Book
count b card r list =
    record {
      price = λ label. applied_at (list_prices list) label (b.price label);
      last = update b.last card r;
      release = b.release;
      failed = b.failed;
    }

abbrev pub set_open : Book → ℕ → Opened → Book
set_open b card o =
    record { price = b.price; last = b.last; release = update b.release card o; failed = b.failed }

-- "steps grow by 1; at 2k + 9 the release is counted, at 4k + 11 struck out"
unfoldable pub step_book : Book → ℕ → Opened → Book
step_book b card none = b
step_book b card (opened r list steps) =
    let k : ℕ = length (list_prices list) in
    set_open (cond (eqb (suc steps) (counts_at k)) (count b card r list) b) card
    (cond (eqb (suc steps) (steps_in k)) none (opened r list (suc steps)))

-- "this card failed last; its open release, if any, is struck out"
abbrev pub fail_book : Book → ℕ → Book
fail_book b card =
    record { price = b.price; last = b.last; release = update b.release card none; failed = card }

-- "open releases of fewer than 2k + 9 steps are counted, cards ascending, then all open ones struck out"; a rack has
-- at most 8 cards
unfoldable pub count_uncounted : ℕ → Opened → Book → Book
count_uncounted card none b = b
count_uncounted card (opened r list steps) b =
    cond (ltb steps (counts_at (length (list_prices list)))) (count b card r list) b

unfoldable pub count_open : Book → Book
count_open b = in_turn (λ card. count_uncounted card (b.release card)) 8 b

abbrev pub clear_open : Book → Book
clear_open b = record { price = b.price; last = b.last; release = λ card. none; failed = b.failed }

unfoldable pub transition : Call → Book → Book
transition (start_release card r list) b = set_open b card (opened r list 0)
transition (make_step card) b = step_book b card (b.release card)
transition (fetch_page page buffer) b = b
transition (fail_card card) b = fail_book b card
transition recover b = clear_open (count_open b)
transition (join_card card) b = b
transition (ask_desk card) b = b

-- "refused calls change nothing"
abbrev pub transition_if : Bool → Call → Book → Book
transition_if accepted call b = cond accepted (transition call b) b
