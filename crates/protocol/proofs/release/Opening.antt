-- What an opening makes of the words of an area: the release and its list stand there, and no other word changes.
use Rattle.std.specs.Prelude.{ℕ, suc, ◌+◌, ◌-◌, ◌≤◌, ◌<◌, ◌≡◌, ◌≢◌, ◌⊎◌, List, ◌∷◌, ◌++◌, length, get_or}
use Rattle.laws.proofs.Prelude.{refl, sym, ap, ◌∙◌, inr, arith}
use native.Mathlib.Nat.{zero-add}
use lib.ListN.{length-append}
use Rattle.area.specs.Prelude.{AreaIn, load, load_run, store_run, release_number, desk_size, open_flag, list_start, list_size}
use Rattle.area.specs.Prelude.{own_size, release_size, pages_start, Release, own_release, open_release, open_list}
use Rattle.area.specs.Prelude.{release_words}
use Rattle.area.proofs.Prelude.{outside_below, outside_fewer, length-store_run, load-store_run_outside}
use Rattle.area.proofs.Prelude.{load-store_run_inside, load_run_store_run, load_run_append, outside, NotIn, open_region}
use Rattle.area.proofs.Prelude.{list_region, length_number, number_read, desk_read, own_words_kept}
use Rattle.diff.specs.Reading.{start, read_well, read_diff}
use Rattle.diff.specs.Prices.{prices_of}
use Rattle.diff.specs.OnlyDiff.{Allowed}
use Rattle.diff.proofs.Derivation.{Reads, reads_derived, reads_good_then, reads_prices_then, reads_prices}
use Rattle.diff.proofs.Derivation.{reads_more_pages}
use Rattle.diff.proofs.OnlyDiff.{allowed_whole}
use Rattle.protocol.specs.Opening.{open_memory}
use Rattle.protocol.specs.Book.{list_prices}

-- ---- a list that is allowed, read where it is stored

module _ (pages : ℕ) (list rest : List ℕ) (few_pages : pages ≤ 64) (few : length list ≤ list_size)
    (allowed : Allowed pages list) where
  whole_reads : (ps : List _) × Reads pages start 0 list ps
  whole_reads = let w = allowed_whole pages list allowed in (_, reads_derived pages w.0 list start 0 w.1)

  -- the same prices as on a rack of 64 pages, whatever follows
  pub stored_prices : prices_of pages (list ++ rest) ≡ list_prices list
  unfolding prices_of
  stored_prices =
      let r = whole_reads.1 in
      reads_prices_then pages rest r (omega arith) ∙ sym (reads_prices 64 (reads_more_pages few_pages r) (omega arith))

  pub stored_reads : read_diff pages (list ++ rest) ≡ read_well (length (list_prices list)) (length list)
  unfolding prices_of
  stored_reads =
      let r = whole_reads.1 in
      let same = reads_prices 64 (reads_more_pages few_pages r) (omega arith) in
      reads_good_then pages rest r (omega arith) ∙ rw (← same) (rw (zero-add, zero-add))

-- ---- the words after an opening

module _ (size : ℕ) (m : List ℕ) (c : ℕ) (r : Release) (list : List ℕ) (long : pages_start ≤ size)
    (eight : length r.desk ≡ desk_size) (few : length list ≤ list_size) where
  abbrev head : List ℕ
  head = 1 ∷ 0 ∷ release_words r

  length_head : length head ≡ release_size
  length_head = simp length-append (omega (arith, length_number r.number))

  pub length_open : length (open_memory size m c r list) ≡ length m
  unfolding open_memory
  length_open = length-store_run size _ c list_start list ∙ length-store_run size m c open_flag head

  -- another card's words; the own stamp and desk, the records and the pages
  pub load_open : (h o : ℕ) → o < size → (h ≢ c) ⊎ (NotIn open_region o × NotIn list_region o)
      → load size (open_memory size m c r list) h o ≡ load size m h o
  unfolding open_memory
  load_open h o inside kept =
      load-store_run_outside size _ c list_start list h o
      (outside_fewer few (outside list_region kept (λ k. k.1) (omega arith) inside))
      ∙ load-store_run_outside size m c open_flag head h o
      (outside_fewer (omega (arith, length_head)) (outside open_region kept (λ k. k.0) (omega arith) inside))

  -- the own stamp and desk of every card
  pub open_keeps_own : (x : ℕ) → own_release size (open_memory size m c r list) x ≡ own_release size m x
  open_keeps_own x =
      own_words_kept size m _ x length_open
      (λ o own. load_open x o (omega arith) (inr ((λ here. omega arith), (λ here. omega arith))))

  module _ (area : AreaIn (length m) size c) where
    pub open_word : (j : ℕ) → j < release_size → load size (open_memory size m c r list) c (open_flag + j) ≡ get_or head j 0
    unfolding open_memory
    open_word j small =
        load-store_run_outside size _ c list_start list c (open_flag + j) (outside_below (omega arith) (omega arith))
        ∙ load-store_run_inside size m c open_flag head area (omega (arith, length_head)) j (omega (arith, length_head))

    release_word : (j : ℕ) → j < own_size
        → load size (open_memory size m c r list) c (release_number + j) ≡ get_or (release_words r) j 0
    release_word j within =
        let at : release_number + j ≡ open_flag + suc (suc j) = omega arith in
        rw at (open_word (suc (suc j)) (omega arith))

    pub opened_release : open_release size (open_memory size m c r list) c ≡ r
    unfolding open_release
    opened_release =
        rw (
          number_read size (open_memory size m c r list) c release_number r eight (rw length_open area) (omega arith)
              release_word,
          desk_read size (open_memory size m c r list) c release_number r eight (rw length_open area) (omega arith)
              release_word,
        )

    pub opened_list : (rest : List ℕ) × (open_list size (open_memory size m c r list) c ≡ list ++ rest)
    unfolding open_list open_memory
    opened_list =
        let withRelease : List ℕ = store_run size m c open_flag head in
        let with_list : List ℕ = store_run size withRelease c list_start list in
        let all : list_size ≡ length list + (list_size - length list) = omega arith in
        let front = load_run_store_run size withRelease c list_start list (rw length-store_run area) (omega arith)
        (length list)
        refl in (
          load_run size with_list c (list_start + length list) (list_size - length list),
          ap (load_run size with_list c list_start) all
              ∙ load_run_append size with_list c list_start (length list) (list_size - length list) ∙ rw front,
        )
