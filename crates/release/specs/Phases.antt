-- Inner contracts only. What the next step of a release of k prices does, after so many: by where the step stands in
-- the order of the stores.
-- Assumes nothing: these are definitions.
use Rattle.std.specs.Prelude.{ℕ, ◌*◌, ◌+◌, ◌<◌, ◌≤◌, ◌≡◌, List, [], ◌∷◌, length, get_or}
use Rattle.directory.specs.declared.Directory.{Directory}
use Rattle.area.specs.Prelude.{area_size, tentative_half, committed_half, desk_size, list_size, record_stamp, record_desk}
use Rattle.area.specs.Prelude.{record_done, page_at, Release, number_words, steps_of}
use Rattle.diff.specs.declared.Price.{Price}
use Rattle.protocol.specs.Release.{open_prices, Write, write_of}
use Rattle.release.specs.Stepping.{home_at}
pub use Rattle.release.specs.declared.phase.Phase.{Phase}
pub use Rattle.release.specs.declared.phase.Phase.TheVariants.{StorePrice, StoreRecord, Close}
pub use Rattle.release.specs.declared.phase.PriceStore.{PriceStore}
pub use Rattle.release.specs.declared.phase.RecordStore.{RecordStore}
pub use Rattle.release.specs.declared.phase.RecordStore.TheVariants.{Desk, Stamp, Done}

-- a half of the pages by its offset, and the step that stores its first price
pub data HalfFrom (k first half : ℕ) : Type 0 where
  tentative : first ≡ 0 → half ≡ tentative_half → HalfFrom k first half
  committed : first ≡ 2 * k + 9 → half ≡ committed_half → HalfFrom k first half

-- where it stores a price
pub record NextPrice (k steps : ℕ) (s : PriceStore) : Type 0 where
  pub first : ℕ
  pub from : HalfFrom k first s.half
  pub is : steps ≡ first + s.at
  pub within : s.at < 2 * k

-- where it stores in the record: the desk and the stamp between the prices, the done mark after them
abbrev pub NextRecord : ℕ → ℕ → RecordStore → Type 0
NextRecord k steps (Desk j) = (steps ≡ 2 * k + j) × (j < desk_size)
NextRecord k steps Stamp = steps ≡ 2 * k + desk_size
NextRecord k steps Done = steps ≡ 4 * k + 9

abbrev pub IsNext : ℕ → ℕ → Phase → Type 0
IsNext k steps (StorePrice s) = NextPrice k steps s
IsNext k steps (StoreRecord s) = NextRecord k steps s
IsNext k steps Close = steps ≡ 4 * k + 10

-- ---- the stores

-- the store of a price numbered `at` of a half
abbrev pub store_of : Directory → ℕ → ℕ → Price → Write
store_of d at half p =
    write_of (home_at d at p.page) (page_at p.page + (half + p.word)) (p.price ∷ [])

-- a word that a desk has
abbrev pub InDesk : RecordStore → Type 0
InDesk (Desk j) = j < desk_size
InDesk Stamp = Unit {0}
InDesk Done = Unit {0}

-- the store in the record of a release at its backup
abbrev pub record_write : ℕ → ℕ → Release → RecordStore → Write
record_write backup card r (Desk j) =
    write_of backup (record_desk card r.number + j) (get_or r.desk j 0 ∷ [])
record_write backup card r Stamp = write_of backup (record_stamp card) (number_words r.number)
record_write backup card r Done = write_of backup (record_done card) (number_words r.number)

-- a run of stores of prices, the first of which is the next step
pub record RunNext (pages : ℕ) (m : List ℕ) (card : ℕ) (first : PriceStore) (count : ℕ) : Type 0 where
  pub next : NextPrice (length (open_prices pages m card)) (steps_of (area_size pages) m card) first
  pub within : first.at + count ≤ 2 * length (open_prices pages m card)
  pub few : length (open_prices pages m card) < list_size
