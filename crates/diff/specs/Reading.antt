-- Reading a diff word by word, against the rules of document 01, "The list of changes", and refusal 7 with its place.
-- Assumes nothing: these are definitions.
use Rattle.std.specs.Prelude.{ℕ, ◌+◌, ◌-◌, List, [], ◌∷◌, Bool, cond, length, ltb, leb, eqb, Result, Ok, Err}
use Rattle.answer.specs.declared.Outcome.{Outcome}
use Rattle.answer.specs.Outcome.{given, refused_at, faulty_list}
use Rattle.diff.specs.Format.{kind, low, offset, count, most_words}
pub use Rattle.diff.specs.declared.Cursor.{Cursor}
pub use Rattle.diff.specs.declared.Step.{Step}
use Rattle.diff.specs.declared.Step.TheVariants.{Next, End, Fault}
pub use Rattle.diff.specs.declared.Extent.{Extent}
pub use Rattle.diff.specs.declared.ReadError.{ReadError}

-- before the first word: no page yet, so nothing that lacks a run
abbrev pub start : Cursor
start = record { next = 0; word = 0; gap = 1; due = 0; prices = 0 }

-- after a price of a run, after a page word, after a run word
abbrev pub past_price : Cursor → Cursor
past_price s =
    record { next = s.next; word = s.word + 1; gap = 1; due = s.due - 1; prices = s.prices + 1 }

abbrev pub past_page : Cursor → ℕ → Cursor
past_page s page = record { next = page + 1; word = 0; gap = 0; due = 0; prices = s.prices }

abbrev pub past_run : Cursor → ℕ → ℕ → Cursor
past_run s offset count = record { next = s.next; word = offset; gap = 1; due = count; prices = s.prices }

-- ---- the rules, each as the test that it is broken

-- "Pages .. with at least one run": the page named last has none yet
abbrev pub lacks_run : Cursor → Bool
lacks_run s = eqb s.gap 0

-- "Pages ascend strictly"
abbrev pub page_behind : Cursor → ℕ → Bool
page_behind s w = ltb (low w) s.next

-- "each below the rack's pages"
abbrev pub no_such_page : ℕ → ℕ → Bool
no_such_page pages w = leb pages (low w)

-- "a run before the first page word"
abbrev pub before_first_page : Cursor → Bool
before_first_page s = eqb s.next 0

-- "A run has count 1 or more"
abbrev pub empty_run : ℕ → Bool
empty_run w = eqb (count w) 0

-- "and offset + count at most 32"
abbrev pub past_page_end : ℕ → Bool
past_page_end w = ltb 32 (offset w + count w)

-- "On one page a run's offset is greater than the end (offset + count) of the run before"
abbrev pub touches_run : Cursor → ℕ → Bool
touches_run s w = ltb (offset w) (s.word + s.gap)

-- "its low 28 bits are its own index"
abbrev pub own_index : ℕ → ℕ → Bool
own_index index w = eqb (low w) index

-- ---- one word

-- "Kind 1 names a page"
abbrev pub page_step : ℕ → Cursor → ℕ → Step
page_step pages s w =
    cond (lacks_run s) Fault
    (cond (page_behind s w) Fault (cond (no_such_page pages w) Fault (Next (past_page s (low w)))))

-- "Kind 2 is a run"
abbrev pub run_step : Cursor → ℕ → Step
run_step s w =
    cond (before_first_page s) Fault
    (cond (empty_run w) Fault
    (cond (past_page_end w) Fault (cond (touches_run s w) Fault (Next (past_run s (offset w) (count w))))))

-- "Kind 15 ends the list"
abbrev pub end_step : Cursor → ℕ → ℕ → Step
end_step s index w = cond (lacks_run s) Fault (cond (own_index index w) End Fault)

-- The word at an index. "Any other kind is a fault."
unfoldable pub word_step : ℕ → Cursor → ℕ → ℕ → Step
word_step pages s index w =
    cond (ltb 0 s.due) (Next (past_price s))
    (cond (eqb (kind w) 1) (page_step pages s w)
    (cond (eqb (kind w) 2) (run_step s w)
    (cond (eqb (kind w) 15) (end_step s index w) Fault)))

-- ---- all words

-- what reading a diff comes to
abbrev pub Verdict : Type 0
Verdict = Result Extent ReadError

-- read to an end word: so many prices, and so many words, the end word among them
abbrev pub read_well : ℕ → ℕ → Verdict
read_well prices words = Ok (record { prices = prices; words = words })

-- a fault at a place
abbrev pub fault_at : ℕ → Verdict
fault_at place = Err (record { place = place })

-- reading goes on after a word, or is over
abbrev pub verdict_after : (Cursor → Verdict) → Cursor → ℕ → Step → Verdict
verdict_after rest s index (Next t) = rest t
verdict_after rest s index End = read_well s.prices (index + 1)
verdict_after rest s index Fault = fault_at index

-- The words from an index on. A place is the first word that breaks a rule, the length if the list stops early,
-- 512 if it is longer.
unfoldable pub read_from : ℕ → List ℕ → ℕ → Cursor → Verdict
read_from pages [] index s = fault_at index
read_from pages (w ∷ ws) index s =
    cond (eqb index most_words) (fault_at most_words)
    (verdict_after (read_from pages ws (index + 1)) s index (word_step pages s index w))

-- a list read to its end word, as those in a card's area are
abbrev pub read_diff : ℕ → List ℕ → Verdict
read_diff pages ws = read_from pages ws 0 start

-- "Nothing follows the end word of a list handed in."
abbrev pub whole_diff : ℕ → Verdict → Outcome
whole_diff words (Ok read) = cond (ltb read.words words) (refused_at faulty_list read.words) (given read.prices)
whole_diff words (Err error) = refused_at faulty_list error.place

-- a list handed in: the number of its prices, or refusal 7 with its place
unfoldable pub check_diff : ℕ → List ℕ → Outcome
check_diff pages ws = whole_diff (length ws) (read_diff pages ws)
