-- For those who call a step: what it relies on, from the checks of a rack.
use Rattle.std.specs.Prelude.{ℕ, ◌*◌, ◌<◌, ◌≤◌, ◌≡◌, List, Bool, false, length, Ok, Err}
use Rattle.laws.proofs.Prelude.{refl, true≢false, arith, ltb-false}
use Rattle.area.specs.Prelude.{area_size, open_list, steps_of}
use Rattle.area.proofs.Prelude.{area_in}
use Rattle.diff.specs.Reading.{Verdict, read_diff}
use Rattle.protocol.specs.Checks.{bad_release}
use Rattle.release.specs.Stepping.{CardIn, HomesIn, GoodRelease}

-- a card below the number of cards
pub card_in : (live : List Bool) (size : ℕ) {words cards card : ℕ} → length live ≡ 8 → cards ≤ 8 → words ≡ cards * size
    → card < cards → CardIn live words size card
card_in live size marks few whole below =
    record { eight = omega arith; marked = omega arith; area = area_in size below whole }

-- the length of the memory alone counts
module _ {live : List Bool} {words words' : ℕ} where
  pub homes_kept : {pages : ℕ} {primary secondary : List ℕ} → HomesIn live pages primary secondary words
      → words' ≡ words → HomesIn live pages primary secondary words'
  homes_kept homes same = rw same homes

  pub card_kept : {size card : ℕ} → CardIn live words size card → words' ≡ words → CardIn live words' size card
  card_kept card same = rw same card

-- a release that the checks let pass
pub good_release : (pages : ℕ) (m : List ℕ) (card : ℕ)
    → bad_release (read_diff pages (open_list (area_size pages) m card)) (steps_of (area_size pages) m card) ≡ false
    → GoodRelease pages m card
unfolding bad_release
good_release pages m card passed = go _ refl passed
  where
    go : (verdict : Verdict) → read_diff pages (open_list (area_size pages) m card) ≡ verdict
        → bad_release verdict (steps_of (area_size pages) m card) ≡ false → GoodRelease pages m card
    go (Ok read) reads within = record { k = read.prices; words = read.words; reads = reads; under = omega (arith, ltb-false) }
    go (Err error) reads bad = absurd (true≢false bad)
