-- What a card's own words say: a release read where it was stored, and words that are kept.
use Rattle.std.specs.Prelude.{ℕ, ◌+◌, ◌<◌, ◌≤◌, ◌≡◌, List, Bool, length, get_or}
use Rattle.laws.proofs.Prelude.{refl, ◌∙◌, arith}
use lib.ListN.{get_or-append}
use Rattle.laws.proofs.Lists.{get_or_right}
use Rattle.memory.specs.Words.{AreaIn, load, load_run}
use Rattle.memory.proofs.Runs.{load_run_is, load_run_kept}
use Rattle.area.specs.Layout.{number_size, desk_size, own_stamp, own_desk, own_size, open_flag, steps_made}
use Rattle.area.specs.Layout.{release_number, release_desk, records_start, list_start, list_size}
use Rattle.area.specs.Numbers.{number_words, load_number}
use Rattle.area.specs.Releases.{Release, release_words, own_release, open_release, open_list, steps_of, has_open_release}
use Rattle.area.proofs.NumberWords.{length_number, number_is, number_kept}
use Rattle.area.proofs.Regions.{In, own_region, list_region}

-- ---- a release read where its words stand

module _ (size : ℕ) (m : List ℕ) (c offset : ℕ) (r : Release) (eight : length r.desk ≡ desk_size)
    (area : AreaIn (length m) size c) (fits : offset + own_size ≤ size)
    (words : (j : ℕ) → j < own_size → load size m c (offset + j) ≡ get_or (release_words r) j 0) where
  pub number_read : load_number size m c offset ≡ r.number
  number_read =
      number_is (load size m c) offset r.number
      (λ j within.
      words j (omega arith) ∙ get_or-append (number_words r.number) r.desk 0 j
      (omega (arith, length_number r.number)))

  pub desk_read : load_run size m c (offset + number_size) desk_size ≡ r.desk
  desk_read =
      load_run_is size m c (offset + number_size) desk_size r.desk eight area (omega arith)
      (λ j within.
      let at : offset + number_size + j ≡ offset + (number_size + j) = omega arith in
      rw at
      (words (number_size + j) (omega arith)
      ∙ get_or_right 0 (number_words r.number) r.desk number_size (number_size + j) j (length_number r.number)
      refl))

-- ---- what own words say, when they are kept

-- two memories that agree in what stands before a card's records, and in its list
pub record SameOwn (size : ℕ) (m m' : List ℕ) (c : ℕ) : Type 0 where
  pub same_length : length m' ≡ length m
  pub low : (o : ℕ) → o < records_start → load size m' c o ≡ load size m c o
  pub list : (o : ℕ) → In list_region o → load size m' c o ≡ load size m c o

-- those words but the steps
pub record SameRelease (size : ℕ) (m m' : List ℕ) (c : ℕ) : Type 0 where
  pub same_length : length m' ≡ length m
  pub low : (o : ℕ) → o < records_start → (o ≡ steps_made → ⊥) → load size m' c o ≡ load size m c o
  pub list : (o : ℕ) → In list_region o → load size m' c o ≡ load size m c o

module _ (size : ℕ) (m m' : List ℕ) (c : ℕ) where
  pub same_own_release : SameOwn size m m' c → SameRelease size m m' c
  same_own_release same =
      record { same_length = same.same_length; low = λ o small _. same.low o small; list = same.list }

  pub own_words_kept : length m' ≡ length m → ((o : ℕ) → In own_region o → load size m' c o ≡ load size m c o)
      → own_release size m' c ≡ own_release size m c
  unfolding own_release
  own_words_kept long same =
      rw (
        number_kept (load size m c) own_stamp (load size m' c)
            (λ j within. same (own_stamp + j) (omega arith, omega arith)),
        load_run_kept size m m' c own_desk desk_size long (λ j within. same (own_desk + j) (omega arith, omega arith)),
      )

  module _ (same : SameRelease size m m' c) where
    pub own_kept : own_release size m' c ≡ own_release size m c
    own_kept = own_words_kept same.same_length (λ o own. same.low o (omega arith) (omega arith))

    -- a run of words before the records, none of them the steps
    word_kept : (offset n : ℕ) → release_number ≤ offset → offset + n ≤ records_start → (j : ℕ) → j < n
        → load size m' c (offset + j) ≡ load size m c (offset + j)
    word_kept offset n past fits j within = same.low (offset + j) (omega arith) (omega arith)

    pub open_kept : open_release size m' c ≡ open_release size m c
    unfolding open_release
    open_kept =
        rw (
          number_kept (load size m c) release_number (load size m' c)
              (word_kept release_number number_size (omega arith) (omega arith)),
          load_run_kept size m m' c release_desk desk_size same.same_length
              (word_kept release_desk desk_size (omega arith) (omega arith)),
        )

    pub list_kept : open_list size m' c ≡ open_list size m c
    unfolding open_list
    list_kept =
        load_run_kept size m m' c list_start list_size same.same_length
        (λ j within. same.list (list_start + j) (omega arith, omega arith))

    pub is_open_kept : (marks : List Bool) → has_open_release marks size m' c ≡ has_open_release marks size m c
    unfolding has_open_release
    is_open_kept marks = rw (same.low open_flag (omega arith) (omega arith))

  pub steps_kept : SameOwn size m m' c → steps_of size m' c ≡ steps_of size m c
  unfolding steps_of
  steps_kept same = same.low steps_made (omega arith)
