-- Opening and close: the stores that the code makes, in its order, are those of the definitions.
use Rattle.std.specs.Prelude.{ℕ, ◌≡◌, List}
use Rattle.area.specs.Prelude.{store, load_run, store_run, clear_run, own_stamp, own_desk, desk_size, open_flag, steps_made}
use Rattle.area.specs.Prelude.{release_number, release_desk, release_size, list_start, list_size, release_of, open_release}
use Rattle.area.specs.Prelude.{load_number, store_number}
use Rattle.area.proofs.Prelude.{store_run_cons, number_then}
use Rattle.protocol.specs.Release.{close}
use Rattle.protocol.specs.Opening.{open_memory}

module _ (size : ℕ) (m : List ℕ) (card : ℕ) where
  -- the open release's words are one run, of which mark, steps, number and desk are stored one after the other
  pub open_stores : (number : ℕ) (desk list : List ℕ)
      → store_run size
      (store_run size
      (store_number size (store size (store size m card open_flag 1) card steps_made 0) card release_number number)
      card release_desk desk)
      card list_start list
      ≡ open_memory size m card (release_of number desk) list
  unfolding open_memory
  open_stores number desk list =
      rw (number_then size _ card release_number number desk) (simp store_run_cons)

  -- own stamp and own desk are one run
  pub close_stores :
      clear_run size
      (clear_run size
      (store_run size (store_number size m card own_stamp (load_number size m card release_number)) card own_desk
      (load_run size m card release_desk desk_size))
      card open_flag release_size)
      card list_start list_size
      ≡ close size m card
  unfolding open_release close
  close_stores = rw (number_then size m card own_stamp (load_number size m card release_number) _)
