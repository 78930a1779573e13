-- The close of a release: the card's own words, and nothing else.
use Rattle.std.specs.Prelude.{ℕ, ◌+◌, ◌≤◌, ◌<◌, ◌≡◌, ◌≢◌, ◌⊎◌, List, Bool, false, length, get_or}
use Rattle.laws.proofs.Prelude.{◌∙◌, inl, arith}
use mathlib.Core.Bool.{and-false}
use lib.ListN.{length-append}
use Rattle.directory.specs.Directory.{live_at}
use Rattle.area.specs.Prelude.{AreaIn, load, store_run, desk_size, own_stamp, open_flag, release_size, list_start, list_size}
use Rattle.area.specs.Prelude.{own_size, records_start, pages_start, own_release, open_release, has_open_release, release_words}
use Rattle.area.proofs.Prelude.{outside_below, outside_fewer, length-store_run, length_clear_run}
use Rattle.area.proofs.Prelude.{load-store_run_outside, load-store_run_inside, load_clear_run_outside}
use Rattle.area.proofs.Prelude.{load_clear_run_inside, outside, NotIn, own_region, open_region, list_region, length_number}
use Rattle.area.proofs.Prelude.{number_read, desk_read, own_words_kept}
use Rattle.protocol.specs.Release.{close}

module _ (size : ℕ) (m : List ℕ) (c : ℕ) (long : pages_start ≤ size) where
  pub length-close : length (close size m c) ≡ length m
  unfolding close
  length-close =
      length_clear_run size _ c list_start list_size ∙ length_clear_run size _ c open_flag release_size
      ∙ length-store_run size m c own_stamp _

  module _ (eight : length (open_release size m c).desk ≡ desk_size) where
    own_words : List ℕ
    own_words = release_words (open_release size m c)

    length_own : length own_words ≡ own_size
    unfolding own_words
    length_own = simp length-append (omega (arith, length_number (open_release size m c).number))

    -- another card's words, and the records and pages of every card
    pub load-close : (h o : ℕ) → o < size → (h ≢ c) ⊎ ((records_start ≤ o) × NotIn list_region o)
        → load size (close size m c) h o ≡ load size m h o
    unfolding close own_words
    load-close h o inside kept =
        load_clear_run_outside size _ c list_start list_size h o
        (outside list_region kept (λ k. k.1) (omega arith) inside)
        ∙ load_clear_run_outside size _ c open_flag release_size h o
        (outside open_region kept (λ k in-open. omega arith) (omega arith) inside)
        ∙ load-store_run_outside size m c own_stamp own_words h o
        (outside_fewer (omega (arith, length_own))
        (outside own_region kept (λ k in-own. omega arith) (omega arith) inside))

    -- the own stamp and desk of another card
    pub close_keeps_own : (x : ℕ) → x ≢ c → own_release size (close size m c) x ≡ own_release size m x
    close_keeps_own x other = own_words_kept size m _ x length-close (λ o own. load-close x o (omega arith) (inl other))

    module _ (area : AreaIn (length m) size c) where
      close_word : (j : ℕ) → j < own_size → load size (close size m c) c (own_stamp + j) ≡ get_or own_words j 0
      unfolding close own_words
      close_word j within =
          load_clear_run_outside size _ c list_start list_size c (own_stamp + j)
          (outside_below (omega arith) (omega arith))
          ∙ load_clear_run_outside size _ c open_flag release_size c (own_stamp + j)
          (outside_below (omega arith) (omega arith))
          ∙ load-store_run_inside size m c own_stamp own_words area (omega (arith, length_own)) j
          (omega (arith, length_own))

      -- the card's own stamp and desk are those of the release that was open
      pub close_own : own_release size (close size m c) c ≡ open_release size m c
      unfolding own_release own_words
      close_own =
          rw (
            number_read size (close size m c) c own_stamp (open_release size m c) eight (rw length-close area)
                (omega arith) close_word,
            desk_read size (close size m c) c own_stamp (open_release size m c) eight (rw length-close area) (omega arith)
                close_word,
          )

      pub close_flag : load size (close size m c) c open_flag ≡ 0
      unfolding close own_words
      close_flag =
          let withOwn = store_run size m c own_stamp own_words in
          load_clear_run_outside size _ c list_start list_size c open_flag (outside_below (omega arith) (omega arith))
          ∙ load_clear_run_inside size withOwn c open_flag release_size (rw length-store_run area) (omega arith) 0
          (omega arith)

      pub close_not_open : (marks : List Bool) → has_open_release marks size (close size m c) c ≡ false
      unfolding has_open_release
      close_not_open marks = rw close_flag (and-false (live_at marks c))
